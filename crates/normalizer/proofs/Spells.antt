-- The change that each edit spells lies in the range, and is what the shuffle asks for. Assumes nothing.
use mathlib.Core.Path.{◌≡◌, refl, sym, ap₂, ◌∙◌}
use mathlib.Core.Bool.{true, false, not, true≢false, false≢true}
use mathlib.Core.List.{List, []}
use Prim.Native.Nat.{ℕ, ◌+◌, ◌-◌, ◌≤◌}
use native.Mathlib.Omega.{arith}
use borrow.Author.Tests.{eqb-true, not-false}
use lib.Dec.{eqb}
use lib.ListN.{length, take, drop}
use lib.Seq.{slice, length-slice, take-append_seam}
use Rattle.definition.specs.declared.Edit.{Edit}
use Rattle.definition.specs.declared.Edit.TheVariants.{Insert, Duplicate, Delete, Replace, Invert}
use Rattle.definition.specs.declared.Piece.{Piece}
use Rattle.definition.specs.declared.Zero.{Zero}
use Rattle.normalizer.specs.declared.spelling.Gaps.{Gaps}
use Rattle.definition.specs.Bases.{reverse_complement}
use Rattle.definition.specs.Limits.{longest_allele}
use Rattle.definition.specs.Change.{Change, spelled}
use Rattle.definition.specs.Place.{right_edge}
use Rattle.definition.specs.Reply.{written}
use Rattle.definition.specs.Verdict.{read_alternative}
use Rattle.definition.proofs.Tests.{or-false, length-reverse-complement}
use Rattle.normalizer.specs.Reads.{reads}
use Rattle.shuffle.specs.Settled.{Asked}
use Rattle.normalizer.specs.SpellingAsked.{Ranged, Read}
use Rattle.normalizer.specs.Spelled.{gaps_of, copied_by}

-- what was written at the front of a buffer is read back
pub read_back : (xs buffer : List ℕ) → take (length xs) (written xs buffer) ≡ xs
unfolding written
read_back xs buffer = take-append_seam xs (drop (length xs) buffer)

pub inverted-back : (part buffer buffer' : List ℕ) (n : ℕ) → n ≡ length part → buffer' ≡ written (reverse_complement part) buffer
    → take n buffer' ≡ reverse_complement part
inverted-back part buffer buffer' n e f =
    ap₂ (λ (m : ℕ) (x : List ℕ). take m x) (e ∙ sym (length-reverse-complement part)) f ∙ read_back (reverse_complement part) buffer

abbrev pub between : Gaps → List ℕ → Change
between gaps inserted = record { from = gaps.from.0; to = gaps.to.0; inserted = inserted }

module _ (target : List ℕ) (start end : Zero) (alternative : List ℕ) where
  -- an edit that reads the alternative puts it in
  pub read : (edit : Edit) → reads edit ≡ true → between (gaps_of edit start end) alternative ≡ spelled edit target start.0 end.0 alternative
  unfolding spelled gaps_of
  read Insert e = refl
  read Duplicate e = absurd (false≢true e)
  read Delete e = absurd (false≢true e)
  read Replace e = refl
  read Invert e = absurd (false≢true e)

  -- and one that does not read it spells the same change with any
  pub unread : (edit : Edit) → reads edit ≡ false → spelled edit target start.0 end.0 [] ≡ spelled edit target start.0 end.0 alternative
  unfolding spelled
  unread Insert e = absurd (true≢false e)
  unread Duplicate e = refl
  unread Delete e = refl
  unread Replace e = absurd (true≢false e)
  unread Invert e = refl

-- the bases that it puts in are a copy or none, if it is no inversion
pub copies : (target : List ℕ) (start end : Zero) (edit : Edit) → reads edit ≡ false → (edit ≡ Invert → ⊥)
    → between (gaps_of edit start end) (copied_by edit target start.0 end.0) ≡ spelled edit target start.0 end.0 []
unfolding spelled gaps_of copied_by
copies target start end Insert e k = absurd (true≢false e)
copies target start end Duplicate e k = refl
copies target start end Delete e k = refl
copies target start end Replace e k = absurd (true≢false e)
copies target start end Invert e k = absurd (k refl)

pub reads_nothing : (edit : Edit) (start end : ℕ) → reads edit ≡ false → Read edit start end []
unfolding read_alternative
reads_nothing Insert start end e = absurd (true≢false e)
reads_nothing Duplicate start end e = record { fits = refl; size = omega arith }
reads_nothing Delete start end e = record { fits = refl; size = omega arith }
reads_nothing Replace start end e = absurd (true≢false e)
reads_nothing Invert start end e = record { fits = refl; size = omega arith }

module _ (piece : Piece) (target : List ℕ) (start end window : ℕ) (r : Ranged piece target start end window) where
  size : length (slice start end target) ≡ end - start
  size = length-slice start end target r.in_target

  below-edge : (n : ℕ) → n ≤ end → n ≤ right_edge piece target
  unfolding right_edge
  below-edge n h = omega (arith, r.in_target, r.right)

  asked_of : (from to : ℕ) (inserted : List ℕ) → start ≤ from → from ≤ to → to ≤ end → length inserted ≤ longest_allele
      → Asked piece target (record { from = from; to = to; inserted = inserted }) window
  asked_of from to inserted h i j k = record {
    sizes = record { reference = omega (arith, r.range); alternative = k; window = r.some; longest = r.most };
    order = i;
    left = omega (arith, r.left);
    right = below-edge to j;
  }

  pub asks : (edit : Edit) (alternative : List ℕ) → Read edit start end alternative → Asked piece target (spelled edit target start end alternative) window
  unfolding spelled read_alternative
  asks Insert alternative a =
      let two : end ≡ start + 2 = eqb-true end (start + 2)
      (not-false (eqb end (start + 2)) (or-false (not (eqb end (start + 2))) (eqb (length alternative) 0) a.fits).0) in
      asked_of (start + 1) (start + 1) alternative (omega arith) (omega arith) (omega arith) a.size
  asks Duplicate alternative a = asked_of end end (slice start end target) (omega (arith, r.ordered)) (omega arith) (omega arith) (omega (arith, size, r.range))
  asks Delete alternative a = asked_of start end [] (omega arith) (omega (arith, r.ordered)) (omega arith) (omega arith)
  asks Replace alternative a = asked_of start end alternative (omega arith) (omega (arith, r.ordered)) (omega arith) a.size
  asks Invert alternative a =
      asked_of start end (reverse_complement (slice start end target)) (omega arith) (omega (arith, r.ordered)) (omega arith)
      (omega (arith, length-reverse-complement (slice start end target), size, r.range))
