-- What the definition names at a place, class by class, and the numbers that say it. Assumes nothing.
use Prim.Native.Nat.{ℕ, zero, suc, ◌+◌, ◌≤◌, ◌<◌}
use native.Mathlib.Omega.{arith}
use mathlib.Core.Path.{◌≡◌, refl, sym, ◌∙◌}
use mathlib.Core.Bool.{Bool, true, false, cond}
use mathlib.Core.List.{List, [], ◌∷◌}
use borrow.Author.Tests.{ne_eqb, eqb-true, eqb-false, ltb-true}
use lib.Dec.{eqb, ltb}
use lib.ListN.{length, take}
use lib.Seq.{slice, slice_empty, take_all}
use Rattle.definition.specs.declared.Direction.{Direction}
use Rattle.definition.specs.declared.Class.{Class}
use Rattle.definition.specs.declared.Class.TheVariants.{Insertion, Duplication, Deletion, Replacement, Inversion, Unchanged}
use Rattle.definition.specs.declared.Piece.{Piece}
use Rattle.definition.specs.Limits.{longest_allele}
use Rattle.definition.specs.Answer.{Named, copy_beside, copy_start, named_insertion, is_inversion, named_replacement, named}
use Rattle.definition.proofs.Tests.{and-true}
use Rattle.definition.proofs.Meaning.{copy-fits}
use Rattle.definition.proofs.Parts.{slice-size}
use Rattle.results.proofs.CopiesLaws.{copy_is}
use Rattle.alleles.proofs.Laws.{window-length}
use Rattle.results.specs.Called.{called_in, unanchored, Calls, CallsAt}

abbrev written : Class → ℕ → ℕ → List ℕ → List ℕ → Named
written class start end ref alt = record { class = class; start = start; end = end; reference = ref; alternative = alt }

module _ (direction : Direction) (piece : Piece) (target : List ℕ) (q : ℕ) where
  named-unchanged : (ref alt : List ℕ) → length ref ≡ 0 → length alt ≡ 0 → named direction piece target q ref alt ≡ written Unchanged q q [] []
  unfolding named
  named-unchanged [] [] r a = refl
  named-unchanged [] (x ∷ alt) r a = absurd (omega arith)
  named-unchanged (y ∷ ref) alt r a = absurd (omega arith)

  named-inserted : (ref alt : List ℕ) → length ref ≡ 0 → 1 ≤ length alt → named direction piece target q ref alt ≡ named_insertion direction piece target q alt
  unfolding named
  named-inserted [] [] r a = absurd (omega arith)
  named-inserted [] (x ∷ alt) r a = refl
  named-inserted (y ∷ ref) alt r a = absurd (omega arith)

  named-deletion : (ref alt : List ℕ) → 1 ≤ length ref → length alt ≡ 0
      → named direction piece target q ref alt ≡ written Deletion (q + 1) (q + length ref) ref []
  unfolding named
  named-deletion [] alt r a = absurd (omega arith)
  named-deletion (y ∷ ref) [] r a = refl
  named-deletion (y ∷ ref) (x ∷ alt) r a = absurd (omega arith)

  named-replaced : (ref alt : List ℕ) → 1 ≤ length ref → 1 ≤ length alt → named direction piece target q ref alt ≡ named_replacement q ref alt
  unfolding named
  named-replaced [] alt r a = absurd (omega arith)
  named-replaced (y ∷ ref) [] r a = absurd (omega arith)
  named-replaced (y ∷ ref) (x ∷ alt) r a = refl

-- numbers that no end rule has been applied to say their class, their range, and the parts that they hold
calls : (target bases : List ℕ) (class : Class) (start end from size kept : ℕ) (what : Named)
    → from + size ≤ length target → size ≤ longest_allele → kept ≤ length bases
    → what ≡ written class start end (slice from (from + size) target) (take kept bases) → Calls target bases (unanchored class start end from size kept) what
unfolding called_in
calls target bases class start end from size kept what fits short within e =
    record { says = sym e; reference = fits; short = short; alternative = within; alone = λ z. refl }

pos-of-ne : (m : ℕ) → (m ≡ 0 → ⊥) → 1 ≤ m
pos-of-ne zero h = absurd (h refl)
pos-of-ne (suc m) h = omega arith

inversion-long : (ref alt : List ℕ) → is_inversion ref alt ≡ true → (length ref ≡ length alt) × (1 < length ref)
unfolding is_inversion
inversion-long ref alt t =
    let h : (eqb (length ref) (length alt) ≡ true) × (ltb 1 (length ref) ≡ true) = and-true _ _ (and-true _ _ t).0 in
    (eqb-true (length ref) (length alt) h.0, ltb-true 1 (length ref) h.1)

module _ (direction : Direction) (piece : Piece) (target bases : List ℕ) (q k m : ℕ)
    (fits : q + k ≤ length target) (short : k ≤ longest_allele) (many : length bases ≡ m) where
  size : length (slice q (q + k) target) ≡ k
  size = slice-size q k target fits

  none : slice q (q + 0) target ≡ []
  none =
      let e : q + 0 ≡ q = omega arith in
      rw e (slice_empty q target)

  whole : take m bases ≡ bases
  whole = take_all m bases (omega arith)

  -- where the two are not as long there is no inversion
  pub not-inverted : (k ≡ m → ⊥) → is_inversion (slice q (q + k) target) bases ≡ false
  unfolding is_inversion
  not-inverted differ = rw (ne_eqb (length (slice q (q + k) target)) (length bases) (λ e. differ (sym size ∙ e ∙ many)))

  pub calls-unchanged : k ≡ 0 → m ≡ 0 → CallsAt direction piece target q k bases (unanchored Unchanged q q q 0 0)
  calls-unchanged z n =
      calls target bases Unchanged q q q 0 0 _ (omega arith) (omega arith) (omega arith)
      (named-unchanged direction piece target q (slice q (q + k) target) bases (omega (arith, size)) (omega arith) ∙ rw none)

  pub calls-insertion : k ≡ 0 → 1 ≤ m → copy_beside direction piece target q bases ≡ false
      → CallsAt direction piece target q k bases (unanchored Insertion q (q + 1) q 0 m)
  unfolding named_insertion
  calls-insertion z n t =
      calls target bases Insertion q (q + 1) q 0 m _ (omega arith) (omega arith) (omega arith)
      (named-inserted direction piece target q (slice q (q + k) target) bases (omega (arith, size)) (omega arith) ∙ rw (t, none, whole))

  pub calls-duplication : k ≡ 0 → 1 ≤ m → m ≤ longest_allele → copy_beside direction piece target q bases ≡ true
      → CallsAt direction piece target q k bases
      (unanchored Duplication (copy_start direction q m + 1) (copy_start direction q m + m) (copy_start direction q m) m 0)
  unfolding named_insertion
  calls-duplication z n few t =
      let in_target : copy_start direction q m + m ≤ length target = rw many at (copy-fits direction piece target q bases (omega arith) t) in
      let is : slice (copy_start direction q m) (copy_start direction q m + m) target ≡ bases = rw many at (copy_is direction piece target q bases t) in
      calls target bases Duplication (copy_start direction q m + 1) (copy_start direction q m + m) (copy_start direction q m) m 0 _ in_target few (omega arith)
      (named-inserted direction piece target q (slice q (q + k) target) bases (omega (arith, size)) (omega arith) ∙ rw (t, many, is))

  pub calls-deletion : 1 ≤ k → m ≡ 0 → CallsAt direction piece target q k bases (unanchored Deletion (q + 1) (q + k) q k m)
  calls-deletion p n =
      calls target bases Deletion (q + 1) (q + k) q k m _ fits short (omega arith)
      (named-deletion direction piece target q (slice q (q + k) target) bases (omega (arith, size)) (omega arith) ∙ rw (size, n))

  pub calls-replacement : 1 ≤ k → 1 ≤ m → is_inversion (slice q (q + k) target) bases ≡ false
      → CallsAt direction piece target q k bases (unanchored Replacement (q + 1) (q + k) q k m)
  unfolding named_replacement
  calls-replacement p n t =
      calls target bases Replacement (q + 1) (q + k) q k m _ fits short (omega arith)
      (named-replaced direction piece target q (slice q (q + k) target) bases (omega (arith, size)) (omega arith) ∙ rw (t, size, whole))

  pub calls-inversion : is_inversion (slice q (q + k) target) bases ≡ true → CallsAt direction piece target q k bases (unanchored Inversion (q + 1) (q + k) q k 0)
  unfolding named_replacement
  calls-inversion t =
      let long : (length (slice q (q + k) target) ≡ length bases) × (1 < length (slice q (q + k) target)) = inversion-long (slice q (q + k) target) bases t in
      calls target bases Inversion (q + 1) (q + k) q k 0 _ fits short (omega arith)
      (named-replaced direction piece target q (slice q (q + k) target) bases (omega arith) (omega arith) ∙ rw (t, size))

  pub calls-deleted-or-replaced : 1 ≤ k → is_inversion (slice q (q + k) target) bases ≡ false
      → CallsAt direction piece target q k bases (unanchored (cond (eqb m 0) Deletion Replacement) (q + 1) (q + k) q k m)
  calls-deleted-or-replaced p t = go (eqb m 0) refl
    where
      go : (b : Bool) → eqb m 0 ≡ b → CallsAt direction piece target q k bases (unanchored (cond (eqb m 0) Deletion Replacement) (q + 1) (q + k) q k m)
      go true e = rw e (calls-deletion p (eqb-true m 0 e))
      go false e =
          let some : 1 ≤ m = pos-of-ne m (eqb-false m 0 e) in
          rw e (calls-replacement p some t)

-- what each class asks, and how long a window is
pub ruleset names = (window-length, not-inverted, calls-unchanged, calls-insertion, calls-duplication, calls-replacement, calls-inversion, calls-deleted-or-replaced, copy-fits)
