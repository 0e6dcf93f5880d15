-- A change with an allele empty, at one of its equivalent places, and what one window of the move does to it. Assumes nothing.
use mathlib.Core.Path.{◌≡◌, sym, ap, ap₂, ◌∙◌}
use mathlib.Core.List.{List, ◌++◌}
use Prim.Native.Nat.{ℕ, ◌+◌, ◌-◌, ◌≤◌, min}
use native.Mathlib.Omega.{arith}
use lib.ListN.{length, take, drop}
use lib.Seq.{slice}
use Rattle.definition.specs.Prefix.{lcp, lcs}
use Rattle.definition.proofs.Prefixes.{lcp-take, lcs-drop, lcp-le-left, lcp-le-right}
use Rattle.definition.proofs.Parts.{counted-part, joined-parts, backward-part, onward-part}
use Rattle.shuffle.proofs.Shared.{lcp-parts, lcs-parts}

-- of two lengths, the bases by which the first is longer, and the shorter of the two
module _ (target after : List ℕ) where
  abbrev pub extra : ℕ
  extra = length target - length after

  abbrev pub added : ℕ
  added = length after - length target

  abbrev pub shorter : ℕ
  shorter = min (length target) (length after)

  -- q is an equivalent place
  pub record Stands (q : ℕ) : Type 0 where
    pub alike : q ≤ lcp target after
    pub behind : shorter - q ≤ lcs target after

  module _ (q : ℕ) (s : Stands q) where
    below : q ≤ shorter
    below = omega (arith, s.alike, lcp-le-left target after, lcp-le-right target after)

    -- what stands behind the change is the same in both
    same-behind : drop (q + extra) target ≡ drop (q + added) after
    same-behind =
        let e : length target - (shorter - q) ≡ q + extra = omega (arith, below) in
        let f : length after - (shorter - q) ≡ q + added = omega (arith, below) in
        ap (λ (n : ℕ). drop n target) (sym e) ∙ lcs-drop (shorter - q) target after s.behind ∙ ap (λ (n : ℕ). drop n after) f

    -- rightward: w bases behind both alleles
    module _ (w : ℕ) (fits : q + extra + w ≤ length target) where
      fits_after : q + added + w ≤ length after
      fits_after = omega arith

      reference-and-chunk : slice q (q + extra) target ++ slice (q + extra) (q + extra + w) target ≡ slice q (q + (extra + w)) target
      reference-and-chunk =
          let e : q + extra + w ≡ q + (extra + w) = omega arith in
          joined-parts q (q + extra) (q + extra + w) target (omega arith) (omega arith) fits ∙ ap (λ (n : ℕ). slice q n target) e

      alternative-and-chunk : slice q (q + added) after ++ slice (q + extra) (q + extra + w) target ≡ slice q (q + (added + w)) after
      alternative-and-chunk =
          let e : q + added + w ≡ q + (added + w) = omega arith in
          let chunk : slice (q + extra) (q + extra + w) target ≡ slice (q + added) (q + added + w) after =
          sym (counted-part (q + extra) w target (omega arith)) ∙ ap (take w) same-behind ∙ counted-part (q + added) w after (omega (arith, fits_after)) in
          ap (λ (x : List ℕ). slice q (q + added) after ++ x) chunk
          ∙ joined-parts q (q + added) (q + added + w) after (omega arith) (omega arith) fits_after
          ∙ ap (λ (n : ℕ). slice q n after) e

      -- the front that both then share: as far as the two sequences are alike, and no further than the window
      pub shared-right : lcp (slice q (q + extra) target ++ slice (q + extra) (q + extra + w) target)
          (slice q (q + added) after ++ slice (q + extra) (q + extra + w) target)
          ≡ min (lcp target after - q) w
      shared-right =
          ap₂ lcp reference-and-chunk alternative-and-chunk
          ∙ lcp-parts target after q (extra + w) (added + w) s.alike (omega arith) (omega (arith, fits_after))
          ∙ omega arith

      module _ (n : ℕ) (h : n ≤ w) where
        pub reference-onward : take extra (drop n (slice q (q + extra) target ++ slice (q + extra) (q + extra + w) target)) ≡ slice (q + n) (q + n + extra) target
        reference-onward = ap (λ (x : List ℕ). take extra (drop n x)) reference-and-chunk ∙ onward-part q extra w n target h (omega arith)

        pub alternative-onward : take added (drop n (slice q (q + added) after ++ slice (q + extra) (q + extra + w) target)) ≡ slice (q + n) (q + n + added) after
        alternative-onward = ap (λ (x : List ℕ). take added (drop n x)) alternative-and-chunk ∙ onward-part q added w n after h (omega (arith, fits_after))

    -- leftward: w bases before both alleles
    module _ (w : ℕ) (room : w ≤ q) where
      ends : (q + extra ≤ length target) × (q + added ≤ length after)
      ends = (omega (arith, below), omega (arith, below))

      chunk-and-reference : slice (q - w) q target ++ slice q (q + extra) target ≡ slice (q - w) (q + extra) target
      chunk-and-reference = joined-parts (q - w) q (q + extra) target (omega arith) (omega arith) ends.0

      chunk-and-alternative : slice (q - w) q target ++ slice q (q + added) after ≡ slice (q - w) (q + added) after
      chunk-and-alternative =
          ap (λ (x : List ℕ). drop (q - w) x ++ slice q (q + added) after) (lcp-take q target after s.alike)
          ∙ joined-parts (q - w) q (q + added) after (omega arith) (omega arith) ends.1

      pub shared-left : lcs (slice (q - w) q target ++ slice q (q + extra) target) (slice (q - w) q target ++ slice q (q + added) after)
          ≡ min (lcs target after - (shorter - q)) w
      shared-left =
          let x : q - w ≡ q + extra - (extra + w) = omega arith in
          let y : q - w ≡ q + added - (added + w) = omega arith in
          ap₂ lcs (chunk-and-reference ∙ ap (λ (m : ℕ). slice m (q + extra) target) x) (chunk-and-alternative ∙ ap (λ (m : ℕ). slice m (q + added) after) y)
          ∙ lcs-parts target after (q + extra) (q + added) (shorter - q) (extra + w) (added + w)
          (whole (length target) (length after) below) (whole' (length target) (length after) below) s.behind (omega arith) (omega arith)
          ∙ least (lcs target after - (shorter - q))
        where
          whole : (n n' : ℕ) → q ≤ min n n' → q + (n - n') + (min n n' - q) ≡ n
          whole n n' b = omega arith

          whole' : (n n' : ℕ) → q ≤ min n n' → q + (n' - n) + (min n n' - q) ≡ n'
          whole' n n' b = omega arith

          least : (r : ℕ) → min r (min (extra + w) (added + w)) ≡ min r w
          least r = omega arith

      module _ (n : ℕ) (h : n ≤ w) where
        pub reference-back : drop (w - n) (take (w + extra - n) (slice (q - w) q target ++ slice q (q + extra) target)) ≡ slice (q - n) (q - n + extra) target
        reference-back =
            ap (λ (x : List ℕ). drop (w - n) (take (w + extra - n) x)) chunk-and-reference ∙ backward-part q extra w n target h room ends.0

        pub alternative-back : drop (w - n) (take (w + added - n) (slice (q - w) q target ++ slice q (q + added) after)) ≡ slice (q - n) (q - n + added) after
        alternative-back =
            ap (λ (x : List ℕ). drop (w - n) (take (w + added - n) x)) chunk-and-alternative ∙ backward-part q added w n after h room ends.1
