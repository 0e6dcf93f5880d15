-- Laws 2 to 4: the equivalent places are an interval, the alleles read off at each of them give the altered sequence back, and the place
-- that the definition names is the furthest of them inside piece and target. Assumes nothing.
use mathlib.Core.Path.{◌≡◌, sym, ap, ap₂, ◌∙◌, subst}
use mathlib.Core.List.{List, ◌++◌, append_assoc}
use Prim.Native.Nat.{ℕ, ◌+◌, ◌-◌, ◌≤◌, min, max}
use native.Mathlib.Omega.{arith}
use lib.ListN.{length, take, drop, length-append, length-take, length-drop, take-append-drop}
use lib.Seq.{slice, take_at, drop_at, drop-append-le, length-take-le}
use Rattle.definition.specs.declared.Direction.{Direction}
use Rattle.definition.specs.declared.Direction.TheVariants.{Rightward, Leftward}
use Rattle.definition.specs.declared.Piece.{Piece}
use Rattle.definition.specs.Prefix.{lcp, lcs}
use Rattle.definition.specs.Change.{splice}
use Rattle.definition.specs.Place.{Equivalent, Inside, NotFurther, right_edge, furthest}
use Rattle.definition.proofs.Prefixes.{lcp-take, lcp-max, lcs-drop, lcs-max, lcp-le-left, lcp-le-right, lcs-le-left, lcs-le-right}

-- a middle part and the rest after it
pub slice-rest : (f t : ℕ) (l : List ℕ) → f ≤ t → t ≤ length l → slice f t l ++ drop t l ≡ drop f l
slice-rest f t l h k =
    sym (drop-append-le f (take t l) (drop t l) (omega (arith, length-take-le t l k)))
    ∙ ap (drop f) (take-append-drop t l)

-- Law 3, for any change: where the two sequences agree on the first q bases and on the last s, the middle parts are two alleles
-- that turn one into the other
pub restored : (target after : List ℕ) (q s : ℕ) → q ≤ lcp target after → s ≤ lcs target after → q + s ≤ length target → q + s ≤ length after
    → splice target q (length target - s) (slice q (length after - s) after) ≡ after
restored target after q s h k i j =
    ap₂ (λ (a b : List ℕ). a ++ (slice q (length after - s) after ++ b)) (lcp-take q target after h) (lcs-drop s target after k)
    ∙ ap (λ (b : List ℕ). take q after ++ b) (slice-rest q (length after - s) after (omega arith) (omega arith))
    ∙ take-append-drop q after

-- a change leaves what stands before it and after it
module _ (target inserted : List ℕ) (from to : ℕ) (order : from ≤ to) (fits : to ≤ length target) where
  pub length-splice : length (splice target from to inserted) ≡ from + (length inserted + (length target - to))
  length-splice = simp (length-append, length-take, length-drop) (omega arith)

  pub splice-lcp : from ≤ lcp target (splice target from to inserted)
  splice-lcp =
      lcp-max from target (splice target from to inserted) (omega arith) (omega (arith, length-splice))
      (sym (take_at (take from target) (inserted ++ drop to target) from (length-take-le from target (omega arith))))

  pub splice-lcs : length target - to ≤ lcs target (splice target from to inserted)
  splice-lcs =
      let n : ℕ = length (splice target from to inserted) - (length target - to) in
      let left : length target - (length target - to) ≡ to = omega arith in
      let size : length (take from target ++ inserted) ≡ n =
      length-append (take from target) inserted ∙ omega (arith, length-splice, length-take-le from target (omega arith)) in
      lcs-max (length target - to) target (splice target from to inserted) (omega arith) (omega (arith, length-splice))
      (ap (λ (m : ℕ). drop m target) left
      ∙ sym (drop_at (take from target ++ inserted) (drop to target) n size)
      ∙ ap (drop n) (append_assoc (take from target) inserted (drop to target)))

-- Law 2: the equivalent places of an insertion, of a deletion and of no change are those up to which the two sequences agree and from
-- which on they agree
module _ (target after : List ℕ) (q : ℕ) where
  pub equivalent→interval : Equivalent target after (length target - length after) q
      → (q ≤ lcp target after) × (min (length target) (length after) - q ≤ lcs target after)
  equivalent→interval e =
      let k : ℕ = length target - length after in
      let p : q ≤ lcp target (splice target q (q + k) e.alternative) = splice-lcp target e.alternative q (q + k) (omega arith) e.fits in
      let s : length target - (q + k) ≤ lcs target (splice target q (q + k) e.alternative) = splice-lcs target e.alternative q (q + k) (omega arith) e.fits in
      let p' : q ≤ lcp target after = subst (λ (x : List ℕ). q ≤ lcp target x) e.same p in
      let s' : length target - (q + k) ≤ lcs target after = subst (λ (x : List ℕ). length target - (q + k) ≤ lcs target x) e.same s in
      (p', omega arith)

  -- Law 3 at a place of the interval
  pub interval-restored : q ≤ lcp target after → min (length target) (length after) - q ≤ lcs target after
      → splice target q (q + (length target - length after)) (slice q (q + (length after - length target)) after) ≡ after
  interval-restored h k =
      let l : lcp target after ≤ length target = lcp-le-left target after in
      let r : lcp target after ≤ length after = lcp-le-right target after in
      let e : length target - (min (length target) (length after) - q) ≡ q + (length target - length after) = omega arith in
      let f : length after - (min (length target) (length after) - q) ≡ q + (length after - length target) = omega arith in
      rw (e, f) at (restored target after q (min (length target) (length after) - q) h k (omega arith) (omega arith))

  pub interval→equivalent : q ≤ lcp target after → min (length target) (length after) - q ≤ lcs target after
      → Equivalent target after (length target - length after) q
  interval→equivalent h k = record {
    alternative = slice q (q + (length after - length target)) after;
    fits = omega (arith, lcp-le-left target after, lcp-le-right target after);
    same = interval-restored h k;
  }

-- no place between two equivalent ones is missing
pub between : (target after : List ℕ) (a q b : ℕ) → a ≤ q → q ≤ b
    → Equivalent target after (length target - length after) a → Equivalent target after (length target - length after) b
    → Equivalent target after (length target - length after) q
between target after a q b h k ea eb =
    let ia : (a ≤ lcp target after) × (min (length target) (length after) - a ≤ lcs target after) = equivalent→interval target after a ea in
    let ib : (b ≤ lcp target after) × (min (length target) (length after) - b ≤ lcs target after) = equivalent→interval target after b eb in
    interval→equivalent target after q (omega arith) (omega arith)

-- inside at the right: below the edge
pub to-edge : {piece : Piece} {target : List ℕ} {k q : ℕ} → Inside piece target k q → q + k ≤ right_edge piece target
unfolding right_edge
to-edge i = omega (arith, i.at_right, i.in_target)

pub from-edge : (piece : Piece) (target : List ℕ) {n : ℕ} → n ≤ right_edge piece target → (n ≤ piece.right.0) × (n ≤ length target)
unfolding right_edge
from-edge piece target h = omega arith

-- the numbers of law 4, with no list in reach: prefix p, suffix s, shorter length n, k bases, right edge e, left end l, a place q inside
right-numbers : (p s n k e l q : ℕ) → q ≤ p → n - q ≤ s → l ≤ q → q + k ≤ e
    → (min p (e - k) ≤ p) × (n - min p (e - k) ≤ s) × (l ≤ min p (e - k)) × (min p (e - k) + k ≤ e)
right-numbers p s n k e l q a b c d = omega arith

left-numbers : (p s n k e l q : ℕ) → q ≤ p → n - q ≤ s → l ≤ q → q + k ≤ e → s ≤ n
    → (max (n - s) l ≤ p) × (n - max (n - s) l ≤ s) × (l ≤ max (n - s) l) × (max (n - s) l + k ≤ e)
left-numbers p s n k e l q a b c d f = omega arith

-- Law 4: given one equivalent place inside, the furthest place is equivalent and inside too, and no such place is further
module _ (piece : Piece) (target after : List ℕ) (s : ℕ)
    (here : Equivalent target after (length target - length after) s) (inside : Inside piece target (length target - length after) s) where
  pub furthest-bounds : (direction : Direction)
      → (furthest direction piece target after (length target - length after) ≤ lcp target after)
      × (min (length target) (length after) - furthest direction piece target after (length target - length after) ≤ lcs target after)
      × (piece.left.0 ≤ furthest direction piece target after (length target - length after))
      × (furthest direction piece target after (length target - length after) + (length target - length after) ≤ right_edge piece target)
  unfolding furthest
  furthest-bounds Rightward =
      right-numbers (lcp target after) (lcs target after) (min (length target) (length after)) (length target - length after)
      (right_edge piece target) piece.left.0 s
      (equivalent→interval target after s here).0 (equivalent→interval target after s here).1 inside.at_left (to-edge inside)
  furthest-bounds Leftward =
      left-numbers (lcp target after) (lcs target after) (min (length target) (length after)) (length target - length after)
      (right_edge piece target) piece.left.0 s
      (equivalent→interval target after s here).0 (equivalent→interval target after s here).1 inside.at_left (to-edge inside)
      (omega (arith, lcs-le-left target after, lcs-le-right target after))

  pub furthest-equivalent : (direction : Direction)
      → Equivalent target after (length target - length after) (furthest direction piece target after (length target - length after))
  furthest-equivalent direction =
      interval→equivalent target after (furthest direction piece target after (length target - length after))
      (furthest-bounds direction).0 (furthest-bounds direction).1

  pub furthest-inside : (direction : Direction)
      → Inside piece target (length target - length after) (furthest direction piece target after (length target - length after))
  furthest-inside direction =
      let below = from-edge piece target (furthest-bounds direction).3 in
      record { at_left = (furthest-bounds direction).2; at_right = below.0; in_target = below.1 }

pub none-further : (direction : Direction) (piece : Piece) (target after : List ℕ) (q : ℕ)
    → Equivalent target after (length target - length after) q → Inside piece target (length target - length after) q
    → NotFurther direction q (furthest direction piece target after (length target - length after))
unfolding furthest
none-further Rightward piece target after q e i = omega (arith, equivalent→interval target after q e, to-edge i)
none-further Leftward piece target after q e i = omega (arith, equivalent→interval target after q e, i.at_left)
