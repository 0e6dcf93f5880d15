-- The walk of one base at a time ends at the furthest place and compares as many pairs as the definition's probes say, in both directions:
-- what a single step shows is stated for each direction, the walk once over both. Assumes nothing.
use mathlib.Core.Path.{◌≡◌, refl, sym, subst, ap₂, ap, ◌∙◌}
use mathlib.Core.Logic.{◌⊎◌, inl, inr}
use mathlib.Core.Bool.{◌||◌, Bool, true, false, cond}
use mathlib.Core.List.{List}
use Prim.Native.Nat.{ℕ, zero, suc, ◌+◌, ◌-◌, ◌≤◌, ◌<◌}
use native.Mathlib.Omega.{arith}
use borrow.Author.Tests.{eq-eqb, eqb-true, eqb-false, leb-true, leb-false, lt-ltb, le-ltb}
use lib.Dec.{eqb}
use lib.ListN.{length, get_or}
use Rattle.definition.specs.declared.Direction.{Direction}
use Rattle.definition.specs.declared.Direction.TheVariants.{Rightward, Leftward}
use Rattle.definition.specs.declared.Piece.{Piece}
use Rattle.definition.specs.Change.{Change, Trimmed, altered, trimmed}
use Rattle.definition.specs.Place.{place_of, probes_of, is_pure, Equivalent, Inside, right_edge, furthest, stopped_by_base}
use Rattle.definition.proofs.Final.{Pure, pure}
use Rattle.definition.specs.Walk.{at_edge, pair_agrees, onward, walk, Walked, one_more}
use Rattle.definition.proofs.Places.{from-edge, to-edge, none-further}
use Rattle.definition.proofs.Steps.{step_right, step_left, stop-right, stop-left-edge, stop-left-base}

-- the steps that there is room for
unfoldable pub room : Direction → Piece → List ℕ → ℕ → ℕ → ℕ
room Rightward piece target k q = right_edge piece target - (q + k)
room Leftward piece target k q = q - piece.left.0

-- what is counted of a walk from q to the furthest place
abbrev pub counted : Direction → Piece → List ℕ → ℕ → ℕ → ℕ → ℕ
counted direction piece target k best q = (best - q) + (q - best) + cond (stopped_by_base direction piece target k best) 1 0

module _ (piece : Piece) (target after : List ℕ) where
  abbrev k : ℕ
  k = length target - length after

  abbrev m : ℕ
  m = length after - length target

  abbrev best : Direction → ℕ
  best direction = furthest direction piece target after k

  -- a place where the walk ends
  record Ends (direction : Direction) (q : ℕ) (by_base : Bool) : Type 0 where
    pub here : q ≡ best direction
    pub stopped : stopped_by_base direction piece target k (best direction) ≡ by_base

  -- a place from which it goes on
  record GoesOn (direction : Direction) (q : ℕ) : Type 0 where
    pub equivalent : Equivalent target after k (onward direction q)
    pub inside : Inside piece target k (onward direction q)
    pub less : suc (room direction piece target k (onward direction q)) ≡ room direction piece target k q
    pub nearer : suc ((best direction - onward direction q) + (onward direction q - best direction)) ≡ (best direction - q) + (q - best direction)

  module _ (q : ℕ) (e : Equivalent target after k q) (i : Inside piece target k q) where
    ends-at-right-edge : at_edge Rightward piece target k q ≡ true → Ends Rightward q false
    unfolding at_edge stopped_by_base
    ends-at-right-edge t =
        let l : right_edge piece target ≤ q + k = leb-true (right_edge piece target) (q + k) t in
        let h : q ≡ best Rightward = stop-right piece target after q e i (inl (omega (arith, to-edge i))) in
        record { here = h; stopped = le-ltb (best Rightward + k) (right_edge piece target) (omega arith) }

    right-room : at_edge Rightward piece target k q ≡ false → q + k < right_edge piece target
    unfolding at_edge
    right-room t = leb-false (right_edge piece target) (q + k) t

    ends-at-right-base : at_edge Rightward piece target k q ≡ false → pair_agrees Rightward target after k m q ≡ false → Ends Rightward q true
    unfolding pair_agrees stopped_by_base
    ends-at-right-base t u =
        let h : q ≡ best Rightward = stop-right piece target after q e i (inr (eqb-false (get_or target q 0) (get_or after q 0) u)) in
        record { here = h; stopped = lt-ltb (best Rightward + k) (right_edge piece target) (omega (arith, right-room t)) }

    goes-right : at_edge Rightward piece target k q ≡ false → pair_agrees Rightward target after k m q ≡ true → GoesOn Rightward q
    unfolding pair_agrees onward room
    goes-right t u =
        let l : q + k < right_edge piece target = right-room t in
        let f : q + k < length target = (from-edge piece target l).1 in
        let n : Equivalent target after k (suc q) =
        (step_right target after q e (omega arith) (omega arith)).0 (eqb-true (get_or target q 0) (get_or after q 0) u) in
        let j : Inside piece target k (suc q) =
        record { at_left = omega (arith, i.at_left); at_right = omega (arith, from-edge piece target l); in_target = omega arith } in
        let b : suc q ≤ best Rightward = none-further Rightward piece target after (suc q) n j in
        record { equivalent = n; inside = j; less = omega arith; nearer = omega arith }

  ends-at-left-edge : (q : ℕ) → Equivalent target after k q → Inside piece target k q → at_edge Leftward piece target k q ≡ true → Ends Leftward q false
  unfolding at_edge stopped_by_base
  ends-at-left-edge q e i t =
      let h : q ≡ best Leftward = stop-left-edge piece target after q e (omega (arith, leb-true q piece.left.0 t, i.at_left)) in
      record { here = h; stopped = le-ltb piece.left.0 (best Leftward) (omega (arith, leb-true q piece.left.0 t)) }

  left-room : (q : ℕ) → at_edge Leftward piece target k q ≡ false → piece.left.0 < q
  unfolding at_edge
  left-room q t = leb-false q piece.left.0 t

  ends-at-left-base : (q : ℕ) → Equivalent target after k q → Inside piece target k q
      → at_edge Leftward piece target k q ≡ false → pair_agrees Leftward target after k m q ≡ false → Ends Leftward q true
  unfolding pair_agrees stopped_by_base
  ends-at-left-base zero e i t u = absurd (omega (arith, left-room zero t))
  ends-at-left-base (suc q) e i t u =
      let z : suc q - 1 ≡ q = omega arith in
      let d : get_or target (q + k) 0 ≡ get_or after (q + m) 0 → ⊥ = eqb-false (get_or target (q + k) 0) (get_or after (q + m) 0) (rw z at u) in
      let h : suc q ≡ best Leftward = stop-left-base piece target after q e i d in
      record { here = h; stopped = lt-ltb piece.left.0 (best Leftward) (omega (arith, left-room (suc q) t)) }

  goes_left : (q : ℕ) → Equivalent target after k q → Inside piece target k q
      → at_edge Leftward piece target k q ≡ false → pair_agrees Leftward target after k m q ≡ true → GoesOn Leftward q
  unfolding pair_agrees onward room
  goes_left zero e i t u = absurd (omega (arith, left-room zero t))
  goes_left (suc q) e i t u =
      let z : suc q - 1 ≡ q = omega arith in
      let l : piece.left.0 < suc q = left-room (suc q) t in
      let n : Equivalent target after k q = (step_left target after q e).0 (eqb-true (get_or target (q + k) 0) (get_or after (q + m) 0) (rw z at u)) in
      let j : Inside piece target k q =
      record { at_left = omega arith; at_right = omega (arith, i.at_right); in_target = omega (arith, i.in_target) } in
      let b : best Leftward ≤ q = none-further Leftward piece target after q n j in
      record { equivalent = rw z n; inside = rw z j; less = omega arith; nearer = omega arith }

  -- the three ways of a step, over the direction
  ends-at-edge : (direction : Direction) (q : ℕ) → Equivalent target after k q → Inside piece target k q
      → at_edge direction piece target k q ≡ true → Ends direction q false
  ends-at-edge Rightward q e i t = ends-at-right-edge q e i t
  ends-at-edge Leftward q e i t = ends-at-left-edge q e i t

  ends-at-base : (direction : Direction) (q : ℕ) → Equivalent target after k q → Inside piece target k q
      → at_edge direction piece target k q ≡ false → pair_agrees direction target after k m q ≡ false → Ends direction q true
  ends-at-base Rightward q e i t u = ends-at-right-base q e i t u
  ends-at-base Leftward q e i t u = ends-at-left-base q e i t u

  goes_on : (direction : Direction) (q : ℕ) → Equivalent target after k q → Inside piece target k q
      → at_edge direction piece target k q ≡ false → pair_agrees direction target after k m q ≡ true → GoesOn direction q
  goes_on Rightward q e i t u = goes-right q e i t u
  goes_on Leftward q e i t u = goes_left q e i t u

  module _ (direction : Direction) where
    abbrev Right : ℕ → ℕ → Type 0
    Right steps q =
        walk direction piece target after k m steps q
        ≡ record { place = best direction; compared = counted direction piece target k (best direction) q }

    abbrev walked_to : ℕ → ℕ → Walked
    walked_to q n = record { place = q; compared = n }

    -- where it ends, nothing is left to count but the pair that differs
    ended : (q : ℕ) (by_base : Bool) (n : ℕ) → Ends direction q by_base → cond by_base 1 0 ≡ n
        → walked_to q n ≡ walked_to (best direction) (counted direction piece target k (best direction) q)
    ended q by_base n s e =
        let f : n ≡ counted direction piece target k (best direction) q = rw s.stopped (omega (arith, s.here)) in
        ap₂ walked_to s.here f

    one_more-walked_to : (q : ℕ) → GoesOn direction q
        → one_more (walked_to (best direction) (counted direction piece target k (best direction) (onward direction q)))
        ≡ walked_to (best direction) (counted direction piece target k (best direction) q)
    unfolding one_more
    one_more-walked_to q g = ap (walked_to (best direction)) (omega (arith, g.nearer))

    pub walked : (steps q : ℕ) → Equivalent target after k q → Inside piece target k q → room direction piece target k q < steps → Right steps q
    walked zero q e i fuel = absurd (omega arith)
    walked (suc steps) q e i fuel =
        go (at_edge direction piece target k q) (pair_agrees direction target after k m q) refl refl
        (λ g. walked steps (onward direction q) g.equivalent g.inside (omega (arith, g.less)))
      where
        go : (a b : Bool) → at_edge direction piece target k q ≡ a → pair_agrees direction target after k m q ≡ b
            → (GoesOn direction q → Right steps (onward direction q)) → Right (suc steps) q
        go true b t u rest = rw t (ended q false 0 (ends-at-edge direction q e i t) refl)
        go false true t u rest =
            let g : GoesOn direction q = goes_on direction q e i t u in
            rw (t, u) (ap one_more (rest g) ∙ one_more-walked_to q g)
        go false false t u rest = rw (t, u) (ended q true 1 (ends-at-base direction q e i t u) refl)

pub is-pure : (t : Trimmed) → (t.reference_size ≡ 0) ⊎ (t.alternative_size ≡ 0) → is_pure t ≡ true
unfolding is_pure
is-pure t (inl e) = rw (eq-eqb t.reference_size 0 e)
is-pure t (inr e) = rw (eq-eqb t.alternative_size 0 e) (or_yes (eqb t.reference_size 0))
  where
    or_yes : (b : Bool) → (b || true) ≡ true
    or_yes true = refl
    or_yes false = refl

enough : (direction : Direction) (piece : Piece) (target : List ℕ) (k q : ℕ) → q + k ≤ length target → room direction piece target k q < suc (length target)
unfolding room right_edge
enough Rightward piece target k q h = omega arith
enough Leftward piece target k q h = omega arith

-- a trimmed change with an allele used up walks from its trimmed start to its final place, and compares as many pairs as its probes are
pub probes-walked : (direction : Direction) (piece : Piece) (target : List ℕ) (c : Change) → c.from ≤ c.to → piece.left.0 ≤ c.from
    → c.to ≤ right_edge piece target
    → ((trimmed direction target c).reference_size ≡ 0) ⊎ ((trimmed direction target c).alternative_size ≡ 0)
    → walk direction piece target (altered target c) (trimmed direction target c).reference_size (trimmed direction target c).alternative_size
    (suc (length target)) (trimmed direction target c).start
    ≡ record {
      place = place_of direction piece target (altered target c) (trimmed direction target c);
      compared = probes_of direction piece target (trimmed direction target c)
          (place_of direction piece target (altered target c) (trimmed direction target c));
    }
unfolding place_of probes_of
probes-walked direction piece target c order left right u =
    let p : Pure direction piece target c order left right = pure direction piece target c order left right u in
    let after : List ℕ = altered target c in
    let start : ℕ = (trimmed direction target c).start in
    let place : ℕ → ℕ = λ k. furthest direction piece target after k in
    let P : ℕ → ℕ → Type 0 = λ k m. walk direction piece target after k m (suc (length target)) start
    ≡ record {
      place = place k;
      compared = (place k - start) + (start - place k) + cond (stopped_by_base direction piece target k (place k)) 1 0;
    } in
    rw (is-pure (trimmed direction target c) u)
    (subst (λ k. P k (trimmed direction target c).alternative_size) (sym p.reference)
    (subst (P (length target - length after)) (sym p.alternative)
    (walked piece target after direction (suc (length target)) start p.here p.inside
    (enough direction piece target (length target - length after) start p.inside.in_target))))
