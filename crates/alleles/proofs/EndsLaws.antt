-- The front and the back of two windows, by stretches: behind n bytes that are shared, what a stretch of each window shares is what the windows
-- share further on, as far as the stretch goes. And where a stretch of a window lies in its array.
-- Assumes nothing.
use Prim.Native.Nat.{ℕ, ◌+◌, ◌-◌, ◌%◌, ◌<◌, ◌≤◌, min}
use native.Mathlib.Omega.{arith}
use mathlib.Core.Path.{◌≡◌, sym, ap, ap₂, ◌∙◌}
use mathlib.Core.List.{List, ◌++◌}
use lib.ListN.{length, take, drop, length-drop, take-append-drop}
use lib.Seq.{length-take-le, take-add}
use Rattle.definition.specs.Prefix.{lcp, lcs}
use Rattle.definition.proofs.Prefixes.{lcp-take, lcp-after, lcp-before, lcp-le-left, lcp-le-right}
use Rattle.definition.proofs.Prefixes.{lcs-drop, lcs-before, lcs-after, lcs-le-left, lcs-le-right}
use Rattle.alleles.specs.declared.Allele.{Allele}
use Rattle.alleles.specs.Held.{held}
use Rattle.alleles.specs.Window.{window}
use Rattle.alleles.proofs.Laws.{window-length, window-round, window-part, window-straight}

-- the k bytes behind the first m
part-length : (m k : ℕ) (xs : List ℕ) → m + k ≤ length xs → length (take k (drop m xs)) ≡ k
part-length m k xs h = length-take-le k (drop m xs) (omega (arith, length-drop m xs))

module _ (xs ys : List ℕ) (n k : ℕ) where
  pub lcp-part : n ≤ lcp xs ys → n + k ≤ length xs → n + k ≤ length ys → lcp (take k (drop n xs)) (take k (drop n ys)) ≡ min k (lcp xs ys - n)
  lcp-part h i j =
      let long : length (take n xs) ≡ n = length-take-le n xs (omega arith) in
      let whole : lcp xs ys ≡ length (take n xs) + lcp (drop n xs) (drop n ys) =
      ap₂ lcp (sym (take-append-drop n xs)) (sym (take-append-drop n ys) ∙ ap (λ (l : List ℕ). l ++ drop n ys) (sym (lcp-take n xs ys h)))
      ∙ lcp-after (take n xs) (drop n xs) (drop n ys)
      in let joined : lcp (take k (drop n xs) ++ drop k (drop n xs)) (take k (drop n ys) ++ drop k (drop n ys)) ≡ lcp (drop n xs) (drop n ys) =
      ap₂ lcp (take-append-drop k (drop n xs)) (take-append-drop k (drop n ys))
      in omega (
        arith,
        long,
        whole,
        joined,
        lcp-before (take k (drop n xs)) (take k (drop n ys)) (drop k (drop n xs)) (drop k (drop n ys)),
        part-length n k xs i,
        part-length n k ys j,
      )

  -- the k bytes before the last n, which stand behind the first l of one and the first m of the other
  pub lcs-part : (l m : ℕ) → n ≤ lcs xs ys → l + k + n ≡ length xs → m + k + n ≡ length ys
      → lcs (take k (drop l xs)) (take k (drop m ys)) ≡ min k (lcs xs ys - n)
  lcs-part l m h i j =
      let x : length xs - n ≡ l + k = omega arith in
      let y : length ys - n ≡ m + k = omega arith in
      let same : drop (l + k) xs ≡ drop (m + k) ys = rw (x, y) at (lcs-drop n xs ys h) in
      let long : length (drop (l + k) xs) ≡ n = length-drop (l + k) xs ∙ omega arith in
      let whole : lcs xs ys ≡ length (drop (l + k) xs) + lcs (take (l + k) xs) (take (m + k) ys) =
      ap₂ lcs (sym (take-append-drop (l + k) xs)) (sym (take-append-drop (m + k) ys) ∙ ap (λ (t : List ℕ). take (m + k) ys ++ t) (sym same))
      ∙ lcs-before (take (l + k) xs) (take (m + k) ys) (drop (l + k) xs)
      in let joined : lcs (take (l + k) xs) (take (m + k) ys) ≡ lcs (take l xs ++ take k (drop l xs)) (take m ys ++ take k (drop m ys)) =
      ap₂ lcs (take-add l k xs) (take-add m k ys)
      in omega (
        arith,
        long,
        whole,
        joined,
        lcs-after (take l xs) (take m ys) (take k (drop l xs)) (take k (drop m ys)),
        part-length l k xs (omega arith),
        part-length m k ys (omega arith),
      )

-- the k bytes of a window behind its first m, which stand in the array from the place i on
stretch : (xs : List ℕ) (h size m k i : ℕ) → length xs ≡ 2048 → m + k ≤ size → i + k ≤ 2048 → i % 2048 ≡ (h + m) % 2048
    → take k (drop i xs) ≡ take k (drop m (window xs h size))
stretch xs h size m k i long inside room e =
    sym (window-straight xs i k long room) ∙ window-round xs i (h + m) k e ∙ sym (window-part xs h m k size inside)

module _ (a b : Allele) where
  pub front-fits : lcp (held a) (held b) ≤ min a.count b.count
  front-fits =
      omega (
        arith,
        lcp-le-left (held a) (held b),
        lcp-le-right (held a) (held b),
        window-length a.bytes a.head a.count,
        window-length b.bytes b.head b.count,
      )

  pub back-fits : lcs (held a) (held b) ≤ min a.count b.count
  back-fits =
      omega (
        arith,
        lcs-le-left (held a) (held b),
        lcs-le-right (held a) (held b),
        window-length a.bytes a.head a.count,
        window-length b.bytes b.head b.count,
      )

  module _ (a_long : length a.bytes ≡ 2048) (b_long : length b.bytes ≡ 2048) (most n room size more : ℕ) (goes : most ≡ min a.count b.count) (below : n < most)
      (takes : size ≡ min room (most - n)) where
    -- a stretch of each window behind the n that are shared
    pub front-more : n ≤ lcp (held a) (held b) → room ≡ min (2048 - (a.head + n) % 2048) (2048 - (b.head + n) % 2048)
        → more ≡ lcp (take ((a.head + n) % 2048 + size - (a.head + n) % 2048) (drop ((a.head + n) % 2048) a.bytes))
        (take ((b.head + n) % 2048 + size - (b.head + n) % 2048) (drop ((b.head + n) % 2048) b.bytes))
        → more ≡ min size (lcp (held a) (held b) - n)
    front-more within fits is =
        let i = (a.head + n) % 2048 in
        let j = (b.head + n) % 2048 in
        let x : i + size - i ≡ size = omega arith in
        let y : j + size - j ≡ size = omega arith in
        is
        ∙ ap₂ (λ (s t : ℕ). lcp (take s (drop i a.bytes)) (take t (drop j b.bytes))) x y
        ∙ ap₂ lcp
        (stretch a.bytes a.head a.count n size i a_long (omega arith) (omega arith) (omega arith))
        (stretch b.bytes b.head b.count n size j b_long (omega arith) (omega arith) (omega arith))
        ∙ lcp-part (held a) (held b) n size within (omega (arith, window-length a.bytes a.head a.count)) (omega (arith, window-length b.bytes b.head b.count))

    -- a stretch of each window before the n that are shared
    pub back-more : n ≤ lcs (held a) (held b)
        → room ≡ min ((a.head + (a.count - 1 - n)) % 2048 + 1) ((b.head + (b.count - 1 - n)) % 2048 + 1)
        → more ≡ lcs (take ((a.head + (a.count - 1 - n)) % 2048 + 1 - ((a.head + (a.count - 1 - n)) % 2048 + 1 - size)) (drop ((a.head + (a.count - 1 - n)) % 2048 + 1 - size) a.bytes))
        (take ((b.head + (b.count - 1 - n)) % 2048 + 1 - ((b.head + (b.count - 1 - n)) % 2048 + 1 - size)) (drop ((b.head + (b.count - 1 - n)) % 2048 + 1 - size) b.bytes))
        → more ≡ min size (lcs (held a) (held b) - n)
    back-more within fits is =
        let i = (a.head + (a.count - 1 - n)) % 2048 + 1 in
        let j = (b.head + (b.count - 1 - n)) % 2048 + 1 in
        let x : i - (i - size) ≡ size = omega arith in
        let y : j - (j - size) ≡ size = omega arith in
        is
        ∙ ap₂ (λ (s t : ℕ). lcs (take s (drop (i - size) a.bytes)) (take t (drop (j - size) b.bytes))) x y
        ∙ ap₂ lcs
        (stretch a.bytes a.head a.count (a.count - n - size) size (i - size) a_long (omega arith) (omega arith) (omega arith))
        (stretch b.bytes b.head b.count (b.count - n - size) size (j - size) b_long (omega arith) (omega arith) (omega arith))
        ∙ lcs-part (held a) (held b) n size (a.count - n - size) (b.count - n - size) within
        (omega (arith, window-length a.bytes a.head a.count))
        (omega (arith, window-length b.bytes b.head b.count))
