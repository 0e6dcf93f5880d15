-- Law 6: the class, range and alleles of an answer denote the altered sequence, for every class and both end rules. Assumes nothing.
use mathlib.Core.Path.{◌≡◌, refl, sym, ap, ap₂, ◌∙◌}
use mathlib.Core.Bool.{Bool, true, false, ◌&&◌}
use mathlib.Core.List.{List, [], ◌∷◌, ◌++◌, append_assoc, append-nil}
use Prim.Native.Nat.{ℕ, ◌+◌, ◌-◌, ◌≤◌}
use native.Mathlib.Nat.{add-zero}
use native.Mathlib.Omega.{arith}
use borrow.Author.Tests.{eqb-true, leb-true}
use lib.Dec.{eqb, leb, ltb}
use lib.ListN.{length, take, drop, length-append, length-take, length-drop, take-append-drop}
use lib.Seq.{slice, take-take, drop-length, take-length}
use Rattle.definition.specs.declared.Kind.{Kind}
use Rattle.definition.specs.declared.Direction.{Direction}
use Rattle.definition.specs.declared.Direction.TheVariants.{Rightward, Leftward}
use Rattle.definition.specs.declared.Class.{Class}
use Rattle.definition.specs.declared.Class.TheVariants.{Insertion, Duplication, Deletion, Replacement, Inversion, Unchanged}
use Rattle.definition.specs.declared.Piece.{Piece}
use Rattle.definition.specs.Bases.{same_bases, reverse_complement}
use Rattle.definition.specs.Change.{splice}
use Rattle.definition.specs.Answer.{Named, copy_beside, copy_start, named_insertion, is_inversion, named_replacement, named}
use Rattle.definition.specs.Answer.{replaced_or_unchanged, first_base_rule, has_last_base_rule, last_base_rule, denoted}
use Rattle.definition.proofs.Tests.{and-true, same-equal, reverse-complement-twice}
use Rattle.definition.proofs.Places.{slice-rest}

-- what a named change says: it denotes the altered sequence, and so does what the end rules make of it
pub record Means (target after : List ℕ) (n : Named) : Type 0 where
  pub denotes : denoted target n ≡ after
  pub at_first : n.start ≡ 0 → n.alternative ++ target ≡ after
  pub at_last : n.end ≡ length target + 1 → target ++ n.alternative ≡ after

-- the alleles at a place, and that they turn the target into `after`
pub record Alleles (target after : List ℕ) (q : ℕ) (ref alt : List ℕ) : Type 0 where
  pub fits : q + length ref ≤ length target
  pub reads : slice q (q + length ref) target ≡ ref
  pub gives : splice target q (q + length ref) alt ≡ after

-- an insertion of what stands after the gap is one of what stands before the place behind it
copy-behind : (target ins : List ℕ) (g : ℕ) → g + length ins ≤ length target → slice g (g + length ins) target ≡ ins
    → splice target (g + length ins) (g + length ins) ins ≡ splice target g g ins
copy-behind target ins g h e =
    let front : take (g + length ins) target ≡ take g target ++ ins =
    sym (take-append-drop g (take (g + length ins) target)) ∙ ap₂ ◌++◌ (take-take g (g + length ins) target (omega arith)) e in
    let back : ins ++ drop (g + length ins) target ≡ drop g target =
    ap (λ (x : List ℕ). x ++ drop (g + length ins) target) (sym e) ∙ slice-rest g (g + length ins) target (omega arith) h in
    ap₂ ◌++◌ front back ∙ append_assoc (take g target) ins (drop g target)

-- the copy beside an insertion lies in the target
pub copy-fits : (direction : Direction) (piece : Piece) (target : List ℕ) (g : ℕ) (ins : List ℕ) → g ≤ length target
    → copy_beside direction piece target g ins ≡ true → copy_start direction g (length ins) + length ins ≤ length target
unfolding copy_beside copy_start
copy-fits Rightward piece target g ins h t =
    let b : (leb (piece.left.0 + length ins) g ≡ true) × (same_bases (slice (g - length ins) g target) ins ≡ true) = and-true _ _ t in
    let l : piece.left.0 + length ins ≤ g = leb-true _ _ b.0 in
    omega arith
copy-fits Leftward piece target g ins h t =
    let b : (leb (g + length ins) piece.right.0 ≡ true) × (same_bases (slice g (g + length ins) target) ins ≡ true) = and-true _ _ t in
    let s : slice g (g + length ins) target ≡ ins = same-equal _ _ b.1 in
    let k : length (slice g (g + length ins) target) ≡ length ins = ap length s in
    omega (arith, simp (length-drop, length-take) at k)

module _ (target after : List ℕ) (q : ℕ) where
  means-insertion : (ins : List ℕ) → q ≤ length target → splice target q q ins ≡ after
      → Means target after (record { class = Insertion; start = q; end = q + 1; reference = []; alternative = ins })
  unfolding denoted
  means-insertion ins h e = record {
    denotes = e;
    at_first = λ z. rw z at e;
    at_last = λ z.
        let f : q ≡ length target = omega arith in
        ap₂ ◌++◌ (sym (take-length target)) (sym (append-nil ins) ∙ ap (λ (x : List ℕ). ins ++ x) (sym (drop-length target)))
        ∙ rw f at e;
  }

  means-duplication : (start end : ℕ) (ref : List ℕ) → 1 ≤ start → end ≤ length target → splice target end end (slice (start - 1) end target) ≡ after
      → Means target after (record { class = Duplication; start = start; end = end; reference = ref; alternative = [] })
  unfolding denoted
  means-duplication start end ref h k e = record { denotes = e; at_first = λ z. absurd (omega arith); at_last = λ z. absurd (omega arith) }

  means-copy : (direction : Direction) (piece : Piece) (ins : List ℕ) → 1 ≤ length ins → q ≤ length target → splice target q q ins ≡ after
      → copy_beside direction piece target q ins ≡ true
      → Means target after (record {
        class = Duplication;
        start = copy_start direction q (length ins) + 1;
        end = copy_start direction q (length ins) + length ins;
        reference = ins;
        alternative = [];
      })
  unfolding copy_beside copy_start
  means-copy Rightward piece ins p h e t =
      let b : (leb (piece.left.0 + length ins) q ≡ true) × (same_bases (slice (q - length ins) q target) ins ≡ true) = and-true _ _ t in
      let l : piece.left.0 + length ins ≤ q = leb-true _ _ b.0 in
      let s : slice (q - length ins) q target ≡ ins = same-equal _ _ b.1 in
      let z : q - length ins + length ins ≡ q = omega arith in
      let y : q - length ins + 1 - 1 ≡ q - length ins = omega arith in
      means-duplication (q - length ins + 1) (q - length ins + length ins) ins (omega arith) (omega arith) (rw (y, z, s) e)
  means-copy Leftward piece ins p h e t =
      let b : (leb (q + length ins) piece.right.0 ≡ true) × (same_bases (slice q (q + length ins) target) ins ≡ true) = and-true _ _ t in
      let s : slice q (q + length ins) target ≡ ins = same-equal _ _ b.1 in
      let f : q + length ins ≤ length target = copy-fits Leftward piece target q ins h t in
      let y : q + 1 - 1 ≡ q = omega arith in
      means-duplication (q + 1) (q + length ins) ins (omega arith) f (rw (y, s) (copy-behind target ins q f s ∙ e))

  means-inserted : (direction : Direction) (piece : Piece) (ins : List ℕ) → 1 ≤ length ins → q ≤ length target → splice target q q ins ≡ after
      → Means target after (named_insertion direction piece target q ins)
  unfolding named_insertion
  means-inserted direction piece ins p h e = go (copy_beside direction piece target q ins) refl
    where
      go : (b : Bool) → copy_beside direction piece target q ins ≡ b → Means target after (named_insertion direction piece target q ins)
      go true t = rw t (means-copy direction piece ins p h e t)
      go false t = rw t (means-insertion ins h e)

  -- classes 3 to 5: the range is the reference's
  module _ (ref : List ℕ) (fits : q + length ref ≤ length target) where
    means-deletion : splice target q (q + length ref) [] ≡ after
        → Means target after (record { class = Deletion; start = q + 1; end = q + length ref; reference = ref; alternative = [] })
    unfolding denoted
    means-deletion e =
        let y : q + 1 - 1 ≡ q = omega arith in
        record { denotes = rw y e; at_first = λ z. absurd (omega arith); at_last = λ z. absurd (omega arith) }

    means-replacement : (alt : List ℕ) → splice target q (q + length ref) alt ≡ after
        → Means target after (record { class = Replacement; start = q + 1; end = q + length ref; reference = ref; alternative = alt })
    unfolding denoted
    means-replacement alt e =
        let y : q + 1 - 1 ≡ q = omega arith in
        record { denotes = rw y e; at_first = λ z. absurd (omega arith); at_last = λ z. absurd (omega arith) }

    means-inversion : (alt : List ℕ) → slice q (q + length ref) target ≡ ref → ref ≡ reverse_complement alt → splice target q (q + length ref) alt ≡ after
        → Means target after (record { class = Inversion; start = q + 1; end = q + length ref; reference = ref; alternative = [] })
    unfolding denoted
    means-inversion alt reads inv e =
        let y : q + 1 - 1 ≡ q = omega arith in
        let x : reverse_complement (slice q (q + length ref) target) ≡ alt = ap reverse_complement (reads ∙ inv) ∙ reverse-complement-twice alt in
        record { denotes = rw y (ap (splice target q (q + length ref)) x ∙ e); at_first = λ z. absurd (omega arith); at_last = λ z. absurd (omega arith) }

    means-replaced : (alt : List ℕ) → slice q (q + length ref) target ≡ ref → splice target q (q + length ref) alt ≡ after
        → Means target after (named_replacement q ref alt)
    unfolding named_replacement is_inversion
    means-replaced alt reads e = go (is_inversion ref alt) refl
      where
        go : (b : Bool) → is_inversion ref alt ≡ b → Means target after (named_replacement q ref alt)
        go true t =
            rw t
            (means-inversion alt reads
            (same-equal ref (reverse_complement alt)
            (and-true (eqb (length ref) (length alt) && ltb 1 (length ref)) (same_bases ref (reverse_complement alt)) t).1)
            e)
        go false t = rw t (means-replacement alt e)

  means-unchanged : q ≤ length target → splice target q q [] ≡ after
      → Means target after (record { class = Unchanged; start = q; end = q; reference = []; alternative = [] })
  unfolding denoted
  means-unchanged h e =
      let same : target ≡ after = sym (take-append-drop q target) ∙ e in
      record { denotes = same; at_first = λ z. same; at_last = λ z. absurd (omega arith) }

  pub means-named : (direction : Direction) (piece : Piece) (ref alt : List ℕ) → Alleles target after q ref alt
      → Means target after (named direction piece target q ref alt)
  unfolding named
  means-named direction piece [] [] a = means-unchanged (omega (arith, a.fits)) (rw add-zero at a.gives)
  means-named direction piece [] (x ∷ alt) a = means-inserted direction piece (x ∷ alt) (omega arith) (omega (arith, a.fits)) (rw add-zero at a.gives)
  means-named direction piece (r ∷ ref) [] a = means-deletion (r ∷ ref) a.fits a.gives
  means-named direction piece (r ∷ ref) (x ∷ alt) a = means-replaced (r ∷ ref) a.fits (x ∷ alt) a.reads a.gives

-- the first rule
module _ (target after alt : List ℕ) (big : 1 ≤ length target) (e : alt ++ target ≡ after) where
  abbrev first_result : Class → Named
  first_result class = record { class = class; start = 1; end = 1; reference = take 1 target; alternative = alt ++ take 1 target }

  first-replaced : Means target after (first_result Replacement)
  unfolding denoted
  first-replaced = record {
    denotes = append_assoc alt (take 1 target) (drop 1 target) ∙ ap (λ (x : List ℕ). alt ++ x) (take-append-drop 1 target) ∙ e;
    at_first = λ z. absurd (omega arith);
    at_last = λ z. absurd (omega arith);
  }

  first-unchanged : take 1 target ≡ alt ++ take 1 target → Means target after (first_result Unchanged)
  unfolding denoted
  first-unchanged f =
      let none : length alt ≡ 0 = omega (arith, simp length-append at (ap length f)) in
      record { denotes = sym (no_front alt none) ∙ e; at_first = λ z. absurd (omega arith); at_last = λ z. absurd (omega arith) }
    where
      no_front : (xs : List ℕ) → length xs ≡ 0 → xs ++ target ≡ target
      no_front [] z = refl
      no_front (x ∷ xs) z = absurd (omega arith)

  first-result : Means target after (first_result (replaced_or_unchanged (take 1 target) (alt ++ take 1 target)))
  unfolding replaced_or_unchanged
  first-result = go (same_bases (take 1 target) (alt ++ take 1 target)) refl
    where
      go : (b : Bool) → same_bases (take 1 target) (alt ++ take 1 target) ≡ b
          → Means target after (first_result (replaced_or_unchanged (take 1 target) (alt ++ take 1 target)))
      go true t = rw t (first-unchanged (same-equal (take 1 target) (alt ++ take 1 target) t))
      go false t = rw t first-replaced

pub means-first : (target after : List ℕ) (n : Named) → 1 ≤ length target → Means target after n → Means target after (first_base_rule target n)
unfolding first_base_rule
means-first target after n big m = go (eqb n.start 0) refl
  where
    go : (b : Bool) → eqb n.start 0 ≡ b → Means target after (first_base_rule target n)
    go true t = rw t (first-result target after n.alternative big (m.at_first (eqb-true n.start 0 t)))
    go false t = rw t m

-- the second rule
last-replaced : (target after alt : List ℕ) → target ++ alt ≡ after
    → splice target (length target - 1) (length target) (drop (length target - 1) target ++ alt) ≡ after
last-replaced target after alt e =
    let f : take (length target - 1) target ++ drop (length target - 1) target ≡ target = take-append-drop (length target - 1) target in
    ap (λ (x : List ℕ). take (length target - 1) target ++ ((drop (length target - 1) target ++ alt) ++ x)) (drop-length target)
    ∙ ap (λ (x : List ℕ). take (length target - 1) target ++ x) (append-nil (drop (length target - 1) target ++ alt))
    ∙ sym (append_assoc (take (length target - 1) target) (drop (length target - 1) target) alt)
    ∙ ap (λ (x : List ℕ). x ++ alt) f
    ∙ e

pub means-last : (kind : Kind) (target after : List ℕ) (n : Named) → Means target after n → denoted target (last_base_rule kind target n) ≡ after
unfolding last_base_rule denoted
means-last kind target after n m = go (has_last_base_rule kind && eqb n.end (length target + 1)) refl
  where
    go : (b : Bool) → (has_last_base_rule kind && eqb n.end (length target + 1)) ≡ b → denoted target (last_base_rule kind target n) ≡ after
    go true t =
        rw t
        (last-replaced target after n.alternative
        (m.at_last (eqb-true n.end (length target + 1) (and-true (has_last_base_rule kind) (eqb n.end (length target + 1)) t).1)))
    go false t = rw t m.denotes
