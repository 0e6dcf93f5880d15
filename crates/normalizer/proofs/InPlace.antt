-- What is answered at once reads its alternative, and is its range with both alleles. Assumes nothing.
use mathlib.Core.Path.{◌≡◌, refl, sym, ap, ap₂, ◌∙◌}
use mathlib.Core.List.{List}
use Prim.Native.Nat.{ℕ, ◌+◌, ◌-◌, ◌≤◌, ◌<◌}
use lib.ListN.{length, take, drop}
use lib.Seq.{slice, length-slice}
use Rattle.definition.specs.declared.Class.{Class}
use Rattle.definition.specs.declared.Edit.{Edit}
use Rattle.definition.specs.declared.Edit.TheVariants.{Insert, Duplicate, Delete, Replace, Invert}
use Rattle.definition.specs.declared.One.{One}
use Rattle.definition.specs.Verdict.{answered, answer_at_once, read_alternative}
use Rattle.definition.specs.Reply.{written, outcome_of, reference_out, alternative_out, Met}
use Rattle.definition.proofs.Parts.{lent-part}
use Rattle.normalizer.specs.Ways.{way_of, in_place}
use Rattle.std.specs.Prelude.{None, Ok}

pub way-reads : (edit : Edit) (target : List ℕ) (start end : ℕ) (alternative : List ℕ) → (way_of edit target start end alternative ≡ None → ⊥)
    → read_alternative edit alternative ≡ alternative
unfolding way_of read_alternative
way-reads Insert target start end alternative d = refl
way-reads Duplicate target start end alternative d = absurd (d refl)
way-reads Delete target start end alternative d = absurd (d refl)
way-reads Replace target start end alternative d = refl
way-reads Invert target start end alternative d = absurd (d refl)

pub in-place-met : (class : Class) (target : List ℕ) (start end : ℕ) (alternative : List ℕ) → start < end → end ≤ length target
    → (first last : One) → first.0 ≡ start + 1 → last.0 ≡ end
    → (reference reference' other other' : List ℕ)
    → reference' ≡ written (take (end - start) (drop start target)) reference → other' ≡ written alternative other
    → Met (answered (answer_at_once (in_place class target start end alternative)))
    (Ok (record {
      class = class;
      start = first;
      end = last;
      probes = 0;
      reference_size = end - start;
      alternative_size = length alternative;
    }))
    reference reference' other other'
unfolding outcome_of reference_out alternative_out answer_at_once
in-place-met class target start end alternative o fits first last ef el reference reference' other other' er ea =
    let size : end - start ≡ length (slice start end target) = sym (length-slice start end target fits) in
    record {
      numbers =
          ap₂ (λ (a b : ℕ). Ok (record {
            class = class;
            start = record { 0 = a };
            end = record { 0 = b };
            probes = 0;
            reference_size = end - start;
            alternative_size = length alternative;
          })) ef el
          ∙ ap (λ (n : ℕ). Ok (record {
            class = class;
            start = record { 0 = start + 1 };
            end = record { 0 = end };
            probes = 0;
            reference_size = n;
            alternative_size = length alternative;
          })) size;
      reference_buffer = er ∙ ap (λ (x : List ℕ). written x reference) (lent-part start end target);
      alternative_buffer = ea;
    }

-- the part of the target that is lent, and its size
pub ruleset in_place_parts = (lent-part, length-slice)
