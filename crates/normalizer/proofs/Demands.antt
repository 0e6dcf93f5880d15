-- The three demands, read of the results of `normalize`: what its contract says of a request, a result and both buffers is what the demands say of
-- the definition. Any two calls, with any two windows. Assumes nothing.
use mathlib.Core.Path.{◌≡◌, refl, sym, ap, ap₂, ◌∙◌}
use mathlib.Core.Logic.{◌↔◌, ◌⊎◌}
use mathlib.Core.List.{List}
use Prim.Native.Nat.{ℕ}
use native.Mathlib.Omega.{arith}
use lib.ListN.{length, take}
use Rattle.definition.specs.declared.Answered.{Answered}
use Rattle.definition.specs.declared.Refusal.{Refusal}
use Rattle.definition.specs.Request.{Request, altered_by}
use Rattle.definition.specs.Answer.{Named, denoted}
use Rattle.definition.specs.Verdict.{Answer, Verdict, refused, answered, verdict}
use Rattle.definition.specs.Reply.{written, outcome_of, reference_out, alternative_out, Met}
use Rattle.demands.specs.Demand1.{FirstSaid, table}
use Rattle.demands.specs.Demand2.{Moved, AtOnce}
use Rattle.demands.specs.Demand3.{OneSetting, OnePiece}
use Rattle.demands.proofs.Refusals.{demand-1}
use Rattle.demands.proofs.Answers.{demand-2}
use Rattle.demands.proofs.OneKey.{demand-3}
use Rattle.normalizer.proofs.Spells.{read_back}
use Rattle.std.specs.Prelude.{Err, Ok, Result}

-- a refusal is a refusal of the definition, and an answer is one
refused-only : (v : Verdict) (x : Refusal) → Err x ≡ outcome_of v → v ≡ refused x
unfolding outcome_of
refused-only (refused y) x e =
    let f : y ≡ x = cc in
    ap refused f
refused-only (answered a) x e =
    let z : ◌≡◌ {A = ℕ} 0 1 = cc in
    absurd (omega arith)

abbrev pub numbers_of : Answer → Answered
numbers_of a = record {
  class = a.what.class;
  start = record { 0 = a.what.start };
  end = record { 0 = a.what.end };
  probes = a.probes;
  reference_size = length a.what.reference;
  alternative_size = length a.what.alternative;
}

answered-only : (v : Verdict) (n : Answered) → Ok n ≡ outcome_of v → (a : Answer) × (v ≡ answered a) × (n ≡ numbers_of a)
unfolding outcome_of
answered-only (refused y) n e =
    let z : ◌≡◌ {A = ℕ} 0 1 = cc in
    absurd (omega arith)
answered-only (answered a) n e =
    let f : n ≡ numbers_of a = cc in
    (a, refl, f)

module _ (request : Request) (result : Result Answered Refusal) (reference reference' alternative alternative' : List ℕ)
    (m : Met (verdict request) result reference reference' alternative alternative') where
  -- demand 1: a refusal is given exactly if its row says so and no earlier row does, and touches no buffer
  pub refused-exactly : (x : Refusal) → (result ≡ Err x) ↔ FirstSaid x (table request)
  unfolding outcome_of
  refused-exactly x = (
    (λ e. (demand-1.exactly request x).0 (refused-only (verdict request) x (sym e ∙ m.numbers))),
    (λ f. m.numbers ∙ ap outcome_of ((demand-1.exactly request x).1 f)),
  )

  pub refused-untouched : (x : Refusal) → result ≡ Err x → (reference' ≡ reference) × (alternative' ≡ alternative)
  unfolding reference_out alternative_out written
  refused-untouched x e =
      let v : verdict request ≡ refused x = refused-only (verdict request) x (sym e ∙ m.numbers) in (
        m.reference_buffer ∙ ap (λ (w : Verdict). written (reference_out w) reference) v,
        m.alternative_buffer ∙ ap (λ (w : Verdict). written (alternative_out w) alternative) v,
      )

  -- demand 2: an answer's numbers and alleles are those of an answer of the definition, which denotes the altered sequence
  pub record Given (n : Answered) : Type 0 where
    pub answer : Answer
    pub accepted : verdict request ≡ answered answer
    pub numbers : n ≡ numbers_of answer
    pub kept : denoted request.target answer.what ≡ altered_by request
    pub way : AtOnce request answer ⊎ Moved request answer
    pub reference_bases : take n.reference_size reference' ≡ answer.what.reference
    pub alternative_bases : take n.alternative_size alternative' ≡ answer.what.alternative

  pub given : (n : Answered) → result ≡ Ok n → Given n
  unfolding reference_out alternative_out
  given n e =
      let o = answered-only (verdict request) n (sym e ∙ m.numbers) in
      let a : Answer = o.0 in
      record {
        answer = a;
        accepted = o.1;
        numbers = o.2;
        kept = demand-2.kept request a o.1;
        way = demand-2.ways request a o.1;
        reference_bases =
            ap₂ (λ (i : Answered) (x : List ℕ). take i.reference_size x) o.2
            (m.reference_buffer ∙ ap (λ (w : Verdict). written (reference_out w) reference) o.1)
            ∙ read_back a.what.reference reference;
        alternative_bases =
            ap₂ (λ (i : Answered) (x : List ℕ). take i.alternative_size x) o.2
            (m.alternative_buffer ∙ ap (λ (w : Verdict). written (alternative_out w) alternative) o.1)
            ∙ read_back a.what.alternative alternative;
      }

-- the key of an answer: class, range, and the alleles that stand in the two buffers
abbrev pub key_of : Answered → List ℕ → List ℕ → Named
key_of n reference alternative = record {
  class = n.class;
  start = n.start.0;
  end = n.end.0;
  reference = take n.reference_size reference;
  alternative = take n.alternative_size alternative;
}

module _ (request : Request) (result : Result Answered Refusal) (reference reference' alternative alternative' : List ℕ)
    (m : Met (verdict request) result reference reference' alternative alternative') where
  key-is : (n : Answered) (g : Given request result reference reference' alternative alternative' m n) → key_of n reference' alternative' ≡ g.answer.what
  key-is n g =
      ap (λ (i : Answered). record {
        class = i.class;
        start = i.start.0;
        end = i.end.0;
        reference = take n.reference_size reference';
        alternative = take n.alternative_size alternative';
      }) g.numbers
      ∙ ap₂ (λ (x y : List ℕ). record {
        class = g.answer.what.class;
        start = g.answer.what.start;
        end = g.answer.what.end;
        reference = x;
        alternative = y;
      }) g.reference_bases g.alternative_bases

-- demand 3, one key: two answers to requests over one target, with equal tables, kind and direction, any windows, that change the sequence inside
-- one piece, have one key exactly if their altered sequences are equal
module _ (first second : Request) (r s : Result Answered Refusal) (a a' b b' c c' d d' : List ℕ)
    (m : Met (verdict first) r a a' b b') (w : Met (verdict second) s c c' d d') where
  pub one_key : OneSetting first second → OnePiece first second
      → (altered_by first ≡ first.target → ⊥) → (altered_by second ≡ second.target → ⊥)
      → (n k : Answered) → r ≡ Ok n → s ≡ Ok k
      → (key_of n a' b' ≡ key_of k c' d') ↔ (altered_by first ≡ altered_by second)
  one_key setting piece changes changes' n k en ek =
      let g = given first r a a' b b' m n en in
      let h = given second s c c' d d' w k ek in
      let x : key_of n a' b' ≡ g.answer.what = key-is first r a a' b b' m n g in
      let y : key_of k c' d' ≡ h.answer.what = key-is second s c c' d d' w k h in
      let t = demand-3.one_key first second g.answer h.answer setting piece g.accepted h.accepted changes changes' in (
        (λ e. t.0 (sym x ∙ e ∙ y)),
        (λ e. x ∙ t.1 e ∙ sym y),
      )
