-- When the copy beside an insertion is there: tested by where it would lie, and then base by base. Assumes nothing.
use Prim.Native.Nat.{ℕ, ◌+◌, ◌-◌, ◌≤◌, ◌<◌}
use native.Mathlib.Omega.{arith}
use mathlib.Core.Path.{◌≡◌, refl, sym, ap, ◌∙◌}
use mathlib.Core.Bool.{Bool, true, false}
use mathlib.Core.List.{List}
use borrow.Author.Tests.{le-leb, lt-leb, leb-true}
use lib.Dec.{leb}
use lib.ListN.{length, take, drop, length-take, length-drop}
use lib.Seq.{slice}
use Rattle.definition.specs.declared.Direction.{Direction}
use Rattle.definition.specs.declared.Direction.TheVariants.{Rightward, Leftward}
use Rattle.definition.specs.declared.Zero.{Zero}
use Rattle.definition.specs.declared.Piece.{Piece}
use Rattle.definition.specs.Bases.{same_bases}
use Rattle.definition.specs.Answer.{copy_beside, copy_start}
use Rattle.std.specs.Prelude.{Option, Some, None}
use Rattle.results.specs.Found.{found}
use Rattle.definition.proofs.Tests.{and-true, same-equal}
use Rattle.alleles.specs.Window.{window}
use Rattle.alleles.proofs.Laws.{window-length}
use Rattle.results.proofs.Parts.{part-window}
use Rattle.sequences.proofs.SameBases.{not_as_long}

module _ (piece : Piece) (target bytes : List ℕ) (head g k : ℕ) where
  size : length (window bytes head k) ≡ k
  size = window-length bytes head k

  -- rightward: before the gap
  pub before-outside : g < piece.left.0 + k → copy_beside Rightward piece target g (window bytes head k) ≡ false
  unfolding copy_beside
  before-outside h = rw (size, lt-leb (piece.left.0 + k) g h)

  pub before-inside : piece.left.0 + k ≤ g → g ≤ length target → (same : Bool)
      → same ≡ same_bases (take (g - (g - k)) (drop (g - k) target)) (window bytes head (length (take (g - (g - k)) (drop (g - k) target))))
      → copy_beside Rightward piece target g (window bytes head k) ≡ same
  unfolding copy_beside
  before-inside h fits same e =
      rw (size, le-leb (piece.left.0 + k) g h) (sym (part-window same_bases target bytes head (g - k) g k fits (omega arith)) ∙ sym e)

  -- leftward: after it
  pub after-outside : piece.right.0 < g + k → copy_beside Leftward piece target g (window bytes head k) ≡ false
  unfolding copy_beside
  after-outside h = rw (size, lt-leb (g + k) piece.right.0 h)

  after-inside-slice : g + k ≤ piece.right.0
      → copy_beside Leftward piece target g (window bytes head k) ≡ same_bases (slice g (g + k) target) (window bytes head k)
  unfolding copy_beside
  after-inside-slice h = rw (size, le-leb (g + k) piece.right.0 h)

  pub after-inside : g + k ≤ piece.right.0 → g + k ≤ length target → (same : Bool)
      → same ≡ same_bases (take (g + k - g) (drop g target)) (window bytes head (length (take (g + k - g) (drop g target))))
      → copy_beside Leftward piece target g (window bytes head k) ≡ same
  after-inside h fits same e =
      after-inside-slice h ∙ sym (part-window same_bases target bytes head g (g + k) k fits (omega arith)) ∙ sym e

  pub after-past : g + k ≤ piece.right.0 → g ≤ length target → length target < g + k → copy_beside Leftward piece target g (window bytes head k) ≡ false
  after-past h in_target past =
      after-inside-slice h
      ∙ not_as_long (slice g (g + k) target) (window bytes head k) (λ e. omega (arith, size, simp (length-drop, length-take) at e))

-- the copy is the inserted bases
pub copy_is : (direction : Direction) (piece : Piece) (target : List ℕ) (g : ℕ) (ins : List ℕ) → copy_beside direction piece target g ins ≡ true
    → slice (copy_start direction g (length ins)) (copy_start direction g (length ins) + length ins) target ≡ ins
unfolding copy_beside copy_start
copy_is Rightward piece target g ins t =
    let h : (leb (piece.left.0 + length ins) g ≡ true) × (same_bases (slice (g - length ins) g target) ins ≡ true) = and-true _ _ t in
    let e : g - length ins + length ins ≡ g = omega (arith, leb-true (piece.left.0 + length ins) g h.0) in
    rw e (same-equal _ _ h.1)
copy_is Leftward piece target g ins t =
    let h : (leb (g + length ins) piece.right.0 ≡ true) × (same_bases (slice g (g + length ins) target) ins ≡ true) = and-true _ _ t in
    same-equal _ _ h.1

-- what is found tells whether there is a copy, and where
pub found_at : (copy : Bool) (start : ℕ) (place : Zero) (r : Option Zero) → r ≡ found copy start → r ≡ Some place → (copy ≡ true) × (place.0 ≡ start)
found_at true start place r e f =
    let g : ◌≡◌ {A = Option Zero} (Some place) (Some (record { 0 = start })) = sym f ∙ e in
    let h : place ≡ record { 0 = start } = cc in
    (refl, ap (λ (z : Zero). z.0) h)
found_at false start place r e f =
    let g : ◌≡◌ {A = Option Zero} (Some place) None = sym f ∙ e in
    let z : ◌≡◌ {A = ℕ} 0 1 = cc in
    absurd (omega arith)

pub found_none : (copy : Bool) (start : ℕ) (r : Option Zero) → r ≡ found copy start → r ≡ None → copy ≡ false
found_none true start r e f =
    let g : ◌≡◌ {A = Option Zero} None (Some (record { 0 = start })) = sym f ∙ e in
    let z : ◌≡◌ {A = ℕ} 0 1 = cc in
    absurd (omega arith)
found_none false start r e f = refl

pub ruleset beside = (before-outside, before-inside, after-outside, after-inside, after-past)
