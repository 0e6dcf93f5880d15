-- The two end rules, on the numbers: when each is due, and what it makes of them. Assumes nothing.
use Prim.Native.Nat.{ℕ, ◌+◌, ◌-◌, ◌≤◌, ◌<◌}
use native.Mathlib.Omega.{arith}
use mathlib.Core.Path.{◌≡◌, refl, sym, ap, ◌∙◌}
use mathlib.Core.Bool.{true, false}
use mathlib.Core.List.{List, [], ◌∷◌, ◌++◌}
use mathlib.Core.Logic.{⊎_elim, inl, inr}
use borrow.Author.Tests.{eq-eqb, ne_eqb}
use lib.Dec.{eqb}
use lib.ListN.{length, take, length-append}
use lib.Seq.{take-length, length-take-le}
use Rattle.definition.specs.declared.One.{One}
use Rattle.definition.specs.declared.Kind.{Kind}
use Rattle.definition.specs.declared.Class.{Class}
use Rattle.definition.specs.declared.Class.TheVariants.{Replacement, Unchanged}
use Rattle.definition.specs.Bases.{same_bases}
use Rattle.definition.specs.Answer.{Named, replaced_or_unchanged, first_base_rule, has_last_base_rule, last_base_rule}
use Rattle.definition.proofs.Tests.{same_refl}
use Rattle.sequences.proofs.SameBases.{not_as_long}
use Rattle.definition.proofs.Tests.{and-false}
use Rattle.results.specs.declared.classes.Anchor.TheVariants.{Alone, First, Last}
use Rattle.results.specs.declared.classes.Called.{Called}
use Rattle.results.specs.Called.{called_in, Calls}
use Rattle.results.specs.Rules.{FirstClass}

pub class_unchanged : (first bases : List ℕ) → length bases ≡ 0 → Unchanged ≡ replaced_or_unchanged first (bases ++ first)
unfolding replaced_or_unchanged
class_unchanged first [] e = rw (same_refl first)
class_unchanged first (x ∷ bases) e = absurd (omega arith)

pub class_replaced : (first bases : List ℕ) → (length bases ≡ 0 → ⊥) → Replacement ≡ replaced_or_unchanged first (bases ++ first)
unfolding replaced_or_unchanged
class_replaced first [] h = absurd (h refl)
class_replaced first (x ∷ bases) h =
    let differ : same_bases first (x ∷ bases ++ first) ≡ false =
    not_as_long first (x ∷ bases ++ first) (λ e. omega (arith, simp length-append at e)) in
    rw differ

module _ (target bases : List ℕ) (n : Called) (what : Named) (big : 1 ≤ length target) (h : Calls target bases n what) where
  start_is : n.start.0 ≡ what.start
  unfolding called_in
  start_is = ap (λ (x : Named). x.start) h.says

  end_is : n.end.0 ≡ what.end
  unfolding called_in
  end_is = ap (λ (x : Named). x.end) h.says

  alternative-is : n.anchor ≡ Alone → take n.alternative_size bases ≡ what.alternative
  unfolding called_in
  alternative-is e = rw e at (ap (λ (x : Named). x.alternative) h.says)

  pub first-not-due : 0 < n.start.0 → Calls target bases n (first_base_rule target what)
  unfolding first_base_rule
  first-not-due p = rw (ne_eqb what.start 0 (λ e. omega (arith, start_is))) h

  pub first-due : n.start.0 ≡ 0 → (start end : One) → start.0 ≡ 1 → end.0 ≡ 1 → (class : Class) → FirstClass n.alternative_size class
      → Calls target bases
      (record {
        class = class;
        start = start;
        end = end;
        reference_start = record { 0 = 0 };
        reference_size = 1;
        alternative_size = n.alternative_size;
        anchor = First;
      })
      (first_base_rule target what)
  unfolding first_base_rule called_in
  first-due z start end s e class is =
      let alone : n.anchor ≡ Alone = h.alone (inl z) in
      let due : eqb what.start 0 ≡ true = eq-eqb what.start 0 (sym start_is ∙ z) in
      let called : class ≡ replaced_or_unchanged (take 1 target) (take n.alternative_size bases ++ take 1 target) =
      is (take 1 target) (take n.alternative_size bases) (length-take-le n.alternative_size bases h.alternative) in
      record {
        says = rw (due, ← alternative-is alone, s, e, called);
        reference = omega arith;
        short = omega arith;
        alternative = h.alternative;
        alone = λ end. absurd (⊎_elim (λ f. omega arith) (λ f. omega arith) end);
      }

  -- the last-base rule is for both transcript kinds
  module _ (kind : Kind) where
    pub last-open : has_last_base_rule kind ≡ false → Calls target bases n (last_base_rule kind target what)
    unfolding last_base_rule
    last-open t = rw t h

    pub last-not-due : (n.end.0 ≡ length target + 1 → ⊥) → Calls target bases n (last_base_rule kind target what)
    unfolding last_base_rule
    last-not-due p = rw (ne_eqb what.end (length target + 1) (λ e. p (end_is ∙ e)), and-false (has_last_base_rule kind)) h

    pub last-due : has_last_base_rule kind ≡ true → n.end.0 ≡ length target + 1 → (start end : One) → start.0 ≡ length target → end.0 ≡ length target
        → Calls target bases
        (record {
          class = Replacement;
          start = start;
          end = end;
          reference_start = record { 0 = length target - 1 };
          reference_size = 1;
          alternative_size = n.alternative_size;
          anchor = Last;
        })
        (last_base_rule kind target what)
    unfolding last_base_rule called_in
    last-due t z start end s e =
        let alone : n.anchor ≡ Alone = h.alone (inr z) in
        let due : eqb what.end (length target + 1) ≡ true = eq-eqb what.end (length target + 1) (sym end_is ∙ z) in
        let back : length target - 1 + 1 ≡ length target = omega arith in
        record {
          says = rw (t, due, ← alternative-is alone, s, e, back, take-length);
          reference = omega arith;
          short = omega arith;
          alternative = h.alternative;
          alone = λ end. absurd (⊎_elim (λ f. omega arith) (λ f. omega arith) end);
        }

-- when each rule is due
pub ruleset due = (first-not-due, first-due, last-open, last-not-due, last-due)
