-- Windows in a row, over both directions: where the move starts, what a window leaves, and that it ends at the furthest place with the
-- probes of the definition. Assumes nothing.
use mathlib.Core.Path.{◌≡◌, refl, sym, ap, ◌∙◌}
use mathlib.Core.Logic.{◌⊎◌, inl, inr, ⊎_elim}
use mathlib.Core.Bool.{true, cond}
use mathlib.Core.List.{List, ◌++◌}
use Prim.Native.Nat.{ℕ, ◌+◌, ◌-◌, ◌≤◌, ◌<◌, min, max}
use native.Mathlib.Omega.{arith}
use native.Mathlib.Nat.{le_refl}
use borrow.Author.Tests.{lt-ltb, le-ltb}
use lib.ListN.{length, take, drop, length-append, length-drop}
use lib.Seq.{slice, take-append-le, drop-append-le, length-take-le, take-length, drop-append-add}
use Rattle.definition.specs.declared.Direction.{Direction}
use Rattle.definition.specs.declared.Direction.TheVariants.{Rightward, Leftward}
use Rattle.definition.specs.declared.Piece.{Piece}
use Rattle.definition.specs.Prefix.{lcp, lcs}
use Rattle.definition.specs.Change.{splice}
use Rattle.definition.specs.Place.{Inside, NotFurther, right_edge, furthest, stopped_by_base}
use Rattle.definition.proofs.Prefixes.{lcp-le-left, lcp-le-right, lcs-le-left, lcs-le-right}
use Rattle.definition.proofs.Places.{length-splice, splice-lcp, splice-lcs, from-edge, to-edge}
use Rattle.definition.proofs.Parts.{counted-part}
use Rattle.shuffle.proofs.Standing.{Stands, extra, added, shorter}
use Rattle.shuffle.specs.Slides.{moved, edge}
use Rattle.shuffle.specs.Windows.{Windowed, WindowedRight, WindowedLeft, room, beside}
use Rattle.shuffle.proofs.Steps.{At, onwards, backwards, step_right, step_left}

-- what was inserted is a part of the altered sequence
pub inserted-part : (target inserted : List ℕ) (from to f m : ℕ) → from ≤ length target → f + m ≤ length inserted
    → slice (from + f) (from + f + m) (splice target from to inserted) ≡ slice f (f + m) inserted
inserted-part target inserted from to f m h k =
    let rest : List ℕ = drop to target in
    let size : length (take from target) ≡ from = length-take-le from target h in
    let whole : length (splice target from to inserted) ≡ length (take from target) + (length inserted + length rest) =
    length-append (take from target) (inserted ++ rest) ∙ ap (λ (n : ℕ). length (take from target) + n) (length-append inserted rest) in
    let past : drop (from + f) (splice target from to inserted) ≡ drop f (inserted ++ rest) =
    ap (λ (n : ℕ). drop (n + f) (splice target from to inserted)) (sym size) ∙ drop-append-add (take from target) (inserted ++ rest) f in
    sym (counted-part (from + f) m (splice target from to inserted) (omega arith))
    ∙ ap (take m) (past ∙ drop-append-le f inserted rest (omega arith))
    ∙ take-append-le m (drop f inserted) rest (omega (arith, length-drop f inserted))
    ∙ counted-part f m inserted (omega arith)

-- the place where the bases stop the move that way
abbrev pub last : Direction → List ℕ → List ℕ → ℕ
last Rightward target after = lcp target after
last Leftward target after = shorter target after - lcs target after

-- a change on its way from start: at an equivalent place inside, not before start, and stopped there by a differing base or not
pub record Sliding (direction : Direction) (piece : Piece) (target after : List ℕ) (k m start : ℕ) (r a : List ℕ) (q differing : ℕ) : Type 0 where
  pub at : At target after k m q r a
  pub inside : Inside piece target k q
  pub onward : NotFurther direction start q
  pub stopped : (differing ≡ 0) ⊎ ((differing ≡ 1) × (q ≡ last direction target after) × (stopped_by_base direction piece target k q ≡ true))

-- no room is left that way
abbrev pub AtEdge : Direction → Piece → List ℕ → ℕ → ℕ → Type 0
AtEdge Rightward piece target k q = right_edge piece target ≤ q + k
AtEdge Leftward piece target k q = q ≤ piece.left.0

right-numbers : (p e k q : ℕ) → q ≤ p → q + k ≤ e → (e ≤ q + k) ⊎ (q ≡ p) → q ≡ min p (e - k)
right-numbers p e k q h i (inl j) = omega arith
right-numbers p e k q h i (inr j) = omega arith

left-numbers : (n s l q : ℕ) → n - q ≤ s → l ≤ q → (q ≤ l) ⊎ (q ≡ n - s) → q ≡ max (n - s) l
left-numbers n s l q h i (inl j) = omega arith
left-numbers n s l q h i (inr j) = omega arith

-- a place that the bases or the edge leave no step from is the furthest
pub ended : (direction : Direction) (piece : Piece) (target after : List ℕ) (k m start : ℕ) (r a : List ℕ) (q differing : ℕ)
    → Sliding direction piece target after k m start r a q differing → (differing ≡ 0 → AtEdge direction piece target k q)
    → (q ≡ furthest direction piece target after k) × (differing ≡ cond (stopped_by_base direction piece target k q) 1 0)
unfolding furthest stopped_by_base
ended Rightward piece target after k m start r a q differing s edge =
    ⊎_elim
    (λ z. (
      right-numbers (lcp target after) (right_edge piece target) k q s.at.stands.alike (to-edge s.inside) (inl (edge z)),
      rw (le-ltb (q + k) (right_edge piece target) (edge z)) z,
    ))
    (λ z. (
      right-numbers (lcp target after) (right_edge piece target) k q s.at.stands.alike (to-edge s.inside) (inr z.1),
      rw z.2 z.0,
    ))
    s.stopped
ended Leftward piece target after k m start r a q differing s edge =
    ⊎_elim
    (λ z. (
      left-numbers (shorter target after) (lcs target after) piece.left.0 q s.at.stands.behind s.inside.at_left (inl (edge z)),
      rw (le-ltb piece.left.0 q (edge z)) z,
    ))
    (λ z. (
      left-numbers (shorter target after) (lcs target after) piece.left.0 q s.at.stands.behind s.inside.at_left (inr z.1),
      rw z.2 z.0,
    ))
    s.stopped

-- how many steps that way the bases allow
abbrev pub allowed : Direction → List ℕ → List ℕ → ℕ → ℕ
allowed Rightward target after q = onwards target after q
allowed Leftward target after q = backwards target after q

right-stop : (p q n w : ℕ) → q ≤ p → n ≡ min (p - q) w → n < w → q + n ≡ p
right-stop p q n w h e l = omega arith

left-stop : (N S q n w : ℕ) → q ≤ N → S ≤ N → N - q ≤ S → n ≡ min (S - (N - q)) w → n < w → q - n ≡ N - S
left-stop N S q n w h i j e l = omega arith

-- a window that the bases cut short is the last; any other leaves the change on its way
pub next : (direction : Direction) (piece : Piece) (target after : List ℕ) (k m start : ℕ) (r a r' a' : List ℕ) (q n w differing differing' : ℕ)
    → Sliding direction piece target after k m start r a q differing → w ≤ room direction q k (edge direction piece target)
    → n ≡ min (allowed direction target after q) w → At target after k m (moved direction q n) r' a'
    → ((n < w) × (differing' ≡ 1)) ⊎ ((w ≤ n) × (differing' ≡ 0))
    → Sliding direction piece target after k m start r' a' (moved direction q n) differing'
unfolding stopped_by_base
next Rightward piece target after k m start r a r' a' q n w differing differing' s f e at short =
    let edge : q + k ≤ right_edge piece target = to-edge s.inside in
    let fits : q + n + k ≤ right_edge piece target = omega arith in
    record {
      at = at;
      inside = record { at_left = omega (arith, s.inside.at_left); at_right = (from-edge piece target fits).0; in_target = (from-edge piece target fits).1 };
      onward = omega (arith, s.onward);
      stopped = ⊎_elim
          (λ z. inr (z.1, right-stop (lcp target after) q n w s.at.stands.alike e z.0, lt-ltb (q + n + k) (right_edge piece target) (omega (arith, z.0))))
          (λ z. inl z.1)
          short;
    }
next Leftward piece target after k m start r a r' a' q n w differing differing' s f e at short =
    let b : q ≤ shorter target after = omega (arith, s.at.stands.alike, lcp-le-left target after, lcp-le-right target after) in
    let c : lcs target after ≤ shorter target after = omega (arith, lcs-le-left target after, lcs-le-right target after) in
    let l : piece.left.0 ≤ q = s.inside.at_left in
    let h : n ≤ w = omega arith in
    record {
      at = at;
      inside = record { at_left = omega arith; at_right = omega (arith, s.inside.at_right); in_target = omega (arith, s.inside.in_target) };
      onward = omega (arith, s.onward);
      stopped = ⊎_elim
          (λ z. inr (
            z.1,
            left-stop (shorter target after) (lcs target after) q n w b c s.at.stands.behind e z.0,
            lt-ltb piece.left.0 (q - n) (omega (arith, z.0)),
          ))
          (λ z. inl z.1)
          short;
    }

-- a window of the buffers moves the change
module _ (piece : Piece) (target after : List ℕ) (k m start : ℕ) (ek : k ≡ extra target after) (em : m ≡ added target after)
    (r a r' a' : List ℕ) (q n w differing differing' : ℕ) (short : ((n < w) × (differing' ≡ 1)) ⊎ ((w ≤ n) × (differing' ≡ 0))) where
  pub slides-right : Sliding Rightward piece target after k m start r a q differing → w ≤ room Rightward q k (edge Rightward piece target)
      → WindowedRight r a (slice (q + k) (q + k + w) target) r' a' n → Sliding Rightward piece target after k m start r' a' (q + n) differing'
  slides-right s f win =
      let fits : q + k + w ≤ right_edge piece target = omega (arith, to-edge s.inside) in
      let t : (n ≡ min (onwards target after q) w) × At target after k m (q + n) r' a' =
      step_right target after k m ek em q w n r a r' a' s.at (from-edge piece target fits).1 win in
      next Rightward piece target after k m start r a r' a' q n w differing differing' s f t.0 t.1 short

  pub slides-left : Sliding Leftward piece target after k m start r a q differing → w ≤ room Leftward q k (edge Leftward piece target)
      → WindowedLeft r a (slice (q - w) q target) r' a' n → Sliding Leftward piece target after k m start r' a' (q - n) differing'
  slides-left s f win =
      let t : (n ≡ min (backwards target after q) w) × At target after k m (q - n) r' a' =
      step_left target after k m ek em q w n r a r' a' s.at (omega arith) win in
      next Leftward piece target after k m start r a r' a' q n w differing differing' s f t.0 t.1 short

  pub slides : (direction : Direction) → Sliding direction piece target after k m start r a q differing → w ≤ room direction q k (edge direction piece target)
      → Windowed direction r a (beside direction target q k w) r' a' n → Sliding direction piece target after k m start r' a' (moved direction q n) differing'
  slides Rightward s f win = slides-right s f win
  slides Leftward s f win = slides-left s f win

module _ (piece : Piece) (target inserted : List ℕ) (start k : ℕ)
    (left : piece.left.0 ≤ start) (right : start + k ≤ right_edge piece target) (pure : min k (length inserted) ≡ 0) where
  abbrev after : List ℕ
  after = splice target start (start + k) inserted

  fits : start + k ≤ length target
  fits = (from-edge piece target right).1

  long : length after ≡ start + (length inserted + (length target - (start + k)))
  long = length-splice target inserted start (start + k) (omega arith) fits

  pub sizes : (k ≡ extra target after) × (length inserted ≡ added target after)
  sizes = differences (length target) k (length inserted) start (length after) fits long pure
    where
      differences : (n k m s n' : ℕ) → s + k ≤ n → n' ≡ s + (m + (n - (s + k))) → min k m ≡ 0 → (k ≡ n - n') × (m ≡ n' - n)
      differences n k m s n' h e p = omega arith

  stands : Stands target after start
  stands = record {
    alike = splice-lcp target inserted start (start + k) (omega arith) fits;
    behind = rest (length target) k (length inserted) start (length after) (lcs target after) fits long pure
        (splice-lcs target inserted start (start + k) (omega arith) fits);
  }
    where
      rest : (n k m s n' b : ℕ) → s + k ≤ n → n' ≡ s + (m + (n - (s + k))) → min k m ≡ 0 → n - (s + k) ≤ b → min n n' - s ≤ b
      rest n k m s n' b h e p i = omega arith

  whole_part : inserted ≡ slice start (start + length inserted) after
  whole_part =
      let e : start + 0 ≡ start = omega arith in
      let f : 0 + length inserted ≡ length inserted = omega arith in
      sym (take-length inserted)
      ∙ ap (λ (n : ℕ). take n inserted) (sym f)
      ∙ sym (inserted-part target inserted start (start + k) 0 (length inserted) (omega (arith, fits)) (omega arith))
      ∙ ap (λ (n : ℕ). slice n (n + length inserted) after) e

  pub starts : (direction : Direction) (r a : List ℕ) → r ≡ slice start (start + k) target → a ≡ inserted
      → Sliding direction piece target after k (length inserted) start r a start 0
  starts direction r a e f = record {
    at = record { stands = stands; reference = e; alternative = f ∙ whole_part };
    inside = record { at_left = left; at_right = (from-edge piece target right).0; in_target = fits };
    onward = itself direction;
    stopped = inl refl;
  }
    where
      itself : (d : Direction) → NotFurther d start start
      itself Rightward = le_refl start
      itself Leftward = le_refl start
