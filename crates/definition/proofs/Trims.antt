-- Law 5: the trimmed sizes, and the change at its final place, depend on the target, the altered sequence, the piece and the direction
-- alone, however the change was spelled. Assumes nothing.
use mathlib.Core.Path.{◌≡◌, refl, sym, ap, ap₂, ◌∙◌}
use mathlib.Core.Logic.{◌⊎◌, ⊎_elim}
use mathlib.Core.Bool.{Bool, true, false}
use mathlib.Core.List.{List, ◌++◌, append_assoc}
use Prim.Native.Nat.{ℕ, ◌+◌, ◌-◌, ◌≤◌, ◌<◌, min}
use native.Mathlib.Omega.{arith}
use borrow.Author.Tests.{eqb-false}
use lib.Dec.{eqb}
use lib.ListN.{length, take, drop, length-drop, take-append-drop}
use lib.Seq.{length-slice, length-take-le}
use Rattle.definition.specs.declared.Kind.{Kind}
use Rattle.definition.specs.declared.Direction.{Direction}
use Rattle.definition.specs.declared.Direction.TheVariants.{Rightward, Leftward}
use Rattle.definition.specs.declared.Piece.{Piece}
use Rattle.definition.specs.Prefix.{lcp, lcs}
use Rattle.definition.specs.Change.{Change, splice, altered, reference_of, trimmed_front, trimmed_end, Trimmed, trimmed_by, trimmed}
use Rattle.definition.specs.Place.{Equivalent, is_pure, place_of}
use Rattle.definition.specs.Verdict.{normal, normal_at}
use Rattle.definition.proofs.Prefixes.{lcp-after, lcp-before, lcs-before, lcs-after, lcp-le-left, lcp-le-right, lcs-le-left, lcs-le-right}
use Rattle.definition.proofs.Places.{slice-rest, length-splice, interval→equivalent}

-- the bases of the two sequences that no change of one into the other need touch
unfoldable pub kept : List ℕ → List ℕ → ℕ
kept target after = min (lcp target after + lcs target after) (min (length target) (length after))

-- the trimmed change, read off the two sequences
unfoldable pub canonical : List ℕ → List ℕ → Trimmed
canonical target after = record {
  start = lcp target after;
  reference_size = length target - kept target after;
  alternative_size = length after - kept target after;
}

-- ---- two alleles: what the second trim finds after the first

second-end : (ref alt : List ℕ) (p : ℕ) → p ≤ length ref → p ≤ length alt
    → lcs (drop p ref) (drop p alt) ≡ min (lcs ref alt) (min (length ref) (length alt) - p)
second-end ref alt p h k =
    sym (lcs-after (take p ref) (take p alt) (drop p ref) (drop p alt))
    ∙ ap₂ min (ap₂ lcs (take-append-drop p ref) (take-append-drop p alt)) (ap₂ min (length-drop p ref) (length-drop p alt) ∙ omega arith)

second-front : (ref alt : List ℕ) (s : ℕ) → s ≤ length ref → s ≤ length alt
    → lcp (take (length ref - s) ref) (take (length alt - s) alt) ≡ min (lcp ref alt) (min (length ref) (length alt) - s)
second-front ref alt s h k =
    sym (lcp-before (take (length ref - s) ref) (take (length alt - s) alt) (drop (length ref - s) ref) (drop (length alt - s) alt))
    ∙ ap₂ min
    (ap₂ lcp (take-append-drop (length ref - s) ref) (take-append-drop (length alt - s) alt))
    (ap₂ min (length-take-le (length ref - s) ref (omega arith)) (length-take-le (length alt - s) alt (omega arith)) ∙ omega arith)

-- either way, both trims together take the prefix and the suffix, and no more than the shorter allele has; and neither takes more than there is
pub record TrimFacts (p s n front end : ℕ) : Type 0 where
  pub total : front + end ≡ min (p + s) n
  pub front_fits : front ≤ p
  pub end_fits : end ≤ s

pub trim-facts : (direction : Direction) (ref alt : List ℕ)
    → TrimFacts (lcp ref alt) (lcs ref alt) (min (length ref) (length alt)) (trimmed_front direction ref alt) (trimmed_end direction ref alt)
unfolding trimmed_front trimmed_end
trim-facts Rightward ref alt =
    let e : lcs (drop (lcp ref alt) ref) (drop (lcp ref alt) alt) ≡ min (lcs ref alt) (min (length ref) (length alt) - lcp ref alt) =
    second-end ref alt (lcp ref alt) (lcp-le-left ref alt) (lcp-le-right ref alt) in
    omega (arith, e, lcp-le-left ref alt, lcp-le-right ref alt)
trim-facts Leftward ref alt =
    let e : lcp (take (length ref - lcs ref alt) ref) (take (length alt - lcs ref alt) alt) ≡ min (lcp ref alt) (min (length ref) (length alt) - lcs ref alt) =
    second-front ref alt (lcs ref alt) (lcs-le-left ref alt) (lcs-le-right ref alt) in
    omega (arith, e, lcs-le-left ref alt, lcs-le-right ref alt)

-- the numbers of a change: prefix and suffix of the sequences (P, S) and of the alleles (p, s), f bases before it and b after it
total-numbers : (P S f b n p s : ℕ) → min P (f + n) ≡ f + p → min S (b + n) ≡ b + s → min (P + S) (f + (n + b)) ≡ f + (b + min (p + s) n)
total-numbers P S f b n p s h k = omega arith

module _ (target : List ℕ) (c : Change) (order : c.from ≤ c.to) (fits : c.to ≤ length target) where
  pub length-reference : length (reference_of target c) ≡ c.to - c.from
  unfolding reference_of
  length-reference = length-slice c.from c.to target fits

  pub length-altered : length (altered target c) ≡ c.from + (length c.inserted + (length target - c.to))
  unfolding altered
  length-altered = length-splice target c.inserted c.from c.to order fits

  target-split : target ≡ take c.from target ++ (reference_of target c ++ drop c.to target)
  unfolding reference_of
  target-split =
      sym (take-append-drop c.from target)
      ∙ ap (λ (l : List ℕ). take c.from target ++ l) (sym (slice-rest c.from c.to target order fits))

  -- the prefix of the alleles is that of the sequences, as far as the shorter allele goes
  pub front_of : min (lcp target (altered target c)) (c.from + min (length (reference_of target c)) (length c.inserted))
      ≡ c.from + lcp (reference_of target c) c.inserted
  unfolding altered
  front_of =
      let ref : List ℕ = reference_of target c in
      let rest : List ℕ = drop c.to target in
      let whole : lcp target (splice target c.from c.to c.inserted) ≡ length (take c.from target) + lcp (ref ++ rest) (c.inserted ++ rest) =
      ap (λ (x : List ℕ). lcp x (splice target c.from c.to c.inserted)) target-split ∙ lcp-after (take c.from target) (ref ++ rest) (c.inserted ++ rest) in
      let size : length (take c.from target) ≡ c.from = length-take-le c.from target (omega arith) in
      omega (arith, whole, size, lcp-before ref c.inserted rest rest)

  pub end_of : min (lcs target (altered target c)) ((length target - c.to) + min (length (reference_of target c)) (length c.inserted))
      ≡ (length target - c.to) + lcs (reference_of target c) c.inserted
  unfolding altered
  end_of =
      let ref : List ℕ = reference_of target c in
      let pre : List ℕ = take c.from target in
      let rest : List ℕ = drop c.to target in
      let whole : lcs target (splice target c.from c.to c.inserted) ≡ length rest + lcs (pre ++ ref) (pre ++ c.inserted) =
      ap₂ lcs (target-split ∙ sym (append_assoc pre ref rest)) (sym (append_assoc pre c.inserted rest)) ∙ lcs-before (pre ++ ref) (pre ++ c.inserted) rest in
      omega (arith, whole, length-drop c.to target, lcs-after pre pre ref c.inserted)

  pub kept_of : kept target (altered target c)
      ≡ c.from
      + ((length target - c.to)
      + min (lcp (reference_of target c) c.inserted + lcs (reference_of target c) c.inserted) (min (length (reference_of target c)) (length c.inserted)))
  unfolding kept
  kept_of =
      ap (min (lcp target (altered target c) + lcs target (altered target c))) (omega (arith, length-altered, length-reference))
      ∙ total-numbers (lcp target (altered target c)) (lcs target (altered target c)) c.from (length target - c.to)
      (min (length (reference_of target c)) (length c.inserted)) (lcp (reference_of target c) c.inserted) (lcs (reference_of target c) c.inserted)
      front_of end_of

-- n bases are f before the change, r in it and b after it; K of them are kept, w of those in it
size-numbers : (n f b r K w front end : ℕ) → n ≡ f + (r + b) → K ≡ f + (b + w) → front + end ≡ w → r - (front + end) ≡ n - K
size-numbers n f b r K w front end h k e = omega arith

-- where neither allele is used up, the front is the whole prefix
start-numbers : (P f n p s front end : ℕ) → min P (f + n) ≡ f + p → front + end ≡ min (p + s) n → front ≤ p → end ≤ s → front + end < n
    → f + front ≡ P
start-numbers P f n p s front end h e u v l = omega arith

left_over : (r a w : ℕ) → (r - w ≡ 0 → ⊥) → (a - w ≡ 0 → ⊥) → w < min r a
left_over r a w h k = omega arith

-- where one is used up, the trimmed start lies in the interval of equivalent places
pure-numbers : (P S f b n p s front end : ℕ) → min P (f + n) ≡ f + p → min S (b + n) ≡ b + s → front + end ≡ n → front ≤ p → end ≤ s
    → (f + front ≤ P) × ((f + (n + b)) - (f + front) ≤ S)
pure-numbers P S f b n p s front end h k e u v = omega arith

module _ (direction : Direction) (target : List ℕ) (c : Change) (order : c.from ≤ c.to) (fits : c.to ≤ length target) where
  facts : TrimFacts (lcp (reference_of target c) c.inserted) (lcs (reference_of target c) c.inserted) (min (length (reference_of target c)) (length c.inserted))
      (trimmed_front direction (reference_of target c) c.inserted) (trimmed_end direction (reference_of target c) c.inserted)
  facts = trim-facts direction (reference_of target c) c.inserted

  pub trimmed-reference : (trimmed direction target c).reference_size ≡ length target - kept target (altered target c)
  unfolding trimmed trimmed_by
  trimmed-reference =
      size-numbers (length target) c.from (length target - c.to) (length (reference_of target c)) (kept target (altered target c))
      (min (lcp (reference_of target c) c.inserted + lcs (reference_of target c) c.inserted) (min (length (reference_of target c)) (length c.inserted)))
      (trimmed_front direction (reference_of target c) c.inserted) (trimmed_end direction (reference_of target c) c.inserted)
      (omega (arith, length-reference target c order fits)) (kept_of target c order fits) facts.total

  pub trimmed-alternative : (trimmed direction target c).alternative_size ≡ length (altered target c) - kept target (altered target c)
  unfolding trimmed trimmed_by
  trimmed-alternative =
      size-numbers (length (altered target c)) c.from (length target - c.to) (length c.inserted) (kept target (altered target c))
      (min (lcp (reference_of target c) c.inserted + lcs (reference_of target c) c.inserted) (min (length (reference_of target c)) (length c.inserted)))
      (trimmed_front direction (reference_of target c) c.inserted) (trimmed_end direction (reference_of target c) c.inserted)
      (length-altered target c order fits) (kept_of target c order fits) facts.total

  -- both alleles left: the change starts where the two sequences first differ
  pub trimmed-start : ((trimmed direction target c).reference_size ≡ 0 → ⊥) → ((trimmed direction target c).alternative_size ≡ 0 → ⊥)
      → (trimmed direction target c).start ≡ lcp target (altered target c)
  unfolding trimmed trimmed_by
  trimmed-start h k =
      start-numbers (lcp target (altered target c)) c.from (min (length (reference_of target c)) (length c.inserted))
      (lcp (reference_of target c) c.inserted) (lcs (reference_of target c) c.inserted)
      (trimmed_front direction (reference_of target c) c.inserted) (trimmed_end direction (reference_of target c) c.inserted)
      (front_of target c order fits) facts.total facts.front_fits facts.end_fits
      (left_over (length (reference_of target c)) (length c.inserted)
      (trimmed_front direction (reference_of target c) c.inserted + trimmed_end direction (reference_of target c) c.inserted) h k)

  -- one allele used up: the trimmed start is an equivalent place of an insertion, a deletion or no change
  pub trimmed-pure : ((trimmed direction target c).reference_size ≡ 0) ⊎ ((trimmed direction target c).alternative_size ≡ 0)
      → Equivalent target (altered target c) (length target - length (altered target c)) (trimmed direction target c).start
  unfolding trimmed trimmed_by
  trimmed-pure u =
      let n : ℕ = min (length (reference_of target c)) (length c.inserted) in
      let all : trimmed_front direction (reference_of target c) c.inserted + trimmed_end direction (reference_of target c) c.inserted ≡ n =
      ⊎_elim (λ z. omega (arith, facts.total)) (λ z. omega (arith, facts.total)) u in
      let b : (c.from + trimmed_front direction (reference_of target c) c.inserted ≤ lcp target (altered target c))
      × ((c.from + (n + (length target - c.to))) - (c.from + trimmed_front direction (reference_of target c) c.inserted) ≤ lcs target (altered target c)) =
      pure-numbers (lcp target (altered target c)) (lcs target (altered target c)) c.from (length target - c.to) n
      (lcp (reference_of target c) c.inserted) (lcs (reference_of target c) c.inserted)
      (trimmed_front direction (reference_of target c) c.inserted) (trimmed_end direction (reference_of target c) c.inserted)
      (front_of target c order fits) (end_of target c order fits) all facts.front_fits facts.end_fits in
      let shorter : min (length target) (length (altered target c)) ≡ c.from + (n + (length target - c.to)) =
      omega (arith, length-altered target c order fits, length-reference target c order fits) in
      interval→equivalent target (altered target c) (c.from + trimmed_front direction (reference_of target c) c.inserted)
      b.0 (rw shorter b.1)

-- the final place depends on the start of a change only where it does not move
placed : (direction : Direction) (piece : Piece) (target after : List ℕ) (t u : Trimmed)
    → t.reference_size ≡ u.reference_size → t.alternative_size ≡ u.alternative_size
    → ((t.reference_size ≡ 0 → ⊥) → (t.alternative_size ≡ 0 → ⊥) → t.start ≡ u.start)
    → place_of direction piece target after t ≡ place_of direction piece target after u
unfolding place_of is_pure
placed direction piece target after t u h k s = go (eqb t.reference_size 0) (eqb t.alternative_size 0) refl refl
  where
    go : (a b : Bool) → eqb t.reference_size 0 ≡ a → eqb t.alternative_size 0 ≡ b
        → place_of direction piece target after t ≡ place_of direction piece target after u
    go true b e f = rw (← h, ← k, e)
    go false true e f = rw (← h, ← k, e, f)
    go false false e f = rw (← h, ← k, e, f) (s (eqb-false t.reference_size 0 e) (eqb-false t.alternative_size 0 f))

pub normal-depends : (direction : Direction) (kind : Kind) (piece : Piece) (target : List ℕ) (c : Change)
    → c.from ≤ c.to → c.to ≤ length target
    → normal direction kind piece target (altered target c) (trimmed direction target c)
    ≡ normal direction kind piece target (altered target c) (canonical target (altered target c))
unfolding normal canonical
normal-depends direction kind piece target c order fits =
    let after : List ℕ = altered target c in
    let t : Trimmed = trimmed direction target c in
    let k : t.reference_size ≡ length target - kept target after = trimmed-reference direction target c order fits in
    let m : t.alternative_size ≡ length after - kept target after = trimmed-alternative direction target c order fits in
    let q : place_of direction piece target after t ≡ place_of direction piece target after (canonical target after) =
    placed direction piece target after t (canonical target after) k m (trimmed-start direction target c order fits) in
    ap₂ (λ (a b : ℕ). normal_at direction kind piece target after a b t.alternative_size) q k
    ∙ ap (normal_at direction kind piece target after (place_of direction piece target after (canonical target after)) (length target - kept target after)) m

-- Law 5: two spellings of one altered sequence have one normal change
pub one-normal : (direction : Direction) (kind : Kind) (piece : Piece) (target : List ℕ) (c d : Change)
    → c.from ≤ c.to → c.to ≤ length target → d.from ≤ d.to → d.to ≤ length target
    → altered target c ≡ altered target d
    → normal direction kind piece target (altered target c) (trimmed direction target c)
    ≡ normal direction kind piece target (altered target d) (trimmed direction target d)
one-normal direction kind piece target c d co cf do' df e =
    normal-depends direction kind piece target c co cf
    ∙ ap (λ (x : List ℕ). normal direction kind piece target x (canonical target x)) e
    ∙ sym (normal-depends direction kind piece target d do' df)
