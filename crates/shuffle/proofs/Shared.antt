-- What two sequences share, seen through two parts that begin, or end, where they are still alike. Assumes nothing.
use mathlib.Core.Path.{◌≡◌, sym, ap, ap₂, ◌∙◌}
use mathlib.Core.List.{List, ◌++◌, append_assoc}
use Prim.Native.Nat.{ℕ, ◌+◌, ◌-◌, ◌≤◌, min}
use native.Mathlib.Omega.{arith}
use lib.ListN.{length, take, drop, length-drop, take-append-drop}
use lib.Seq.{slice, length-slice, length-take-le}
use Rattle.definition.specs.Prefix.{lcp, lcs}
use Rattle.definition.proofs.Prefixes.{lcp-take, lcp-after, lcp-before, lcs-drop, lcs-before, lcs-after}
use Rattle.definition.proofs.Places.{slice-rest}

-- a sequence is what stands before a part, the part, and what stands after it
split : (f t : ℕ) (l : List ℕ) → f ≤ t → t ≤ length l → take f l ++ (slice f t l ++ drop t l) ≡ l
split f t l h k = ap (λ (x : List ℕ). take f l ++ x) (slice-rest f t l h k) ∙ take-append-drop f l

-- two sequences share p bases at an end, q of them past two parts of a and b bases: the parts share what is left, and no more than they have
numbered : (p size r q a b s t : ℕ) {shared : ℕ} → p ≡ size + r → size ≡ q → s ≡ a → t ≡ b → min r (min s t) ≡ shared → shared ≡ min (p - q) (min a b)
numbered p size r q a b s t e f g h i = sym i ∙ omega arith

-- from a place q up to which the two are alike, a bases of one and b of the other
pub lcp-parts : (xs ys : List ℕ) (q a b : ℕ) → q ≤ lcp xs ys → q + a ≤ length xs → q + b ≤ length ys
    → lcp (slice q (q + a) xs) (slice q (q + b) ys) ≡ min (lcp xs ys - q) (min a b)
lcp-parts xs ys q a b h i j =
    let u : List ℕ = slice q (q + a) xs in
    let v : List ℕ = slice q (q + b) ys in
    let bs : List ℕ = drop (q + a) xs in
    let cs : List ℕ = drop (q + b) ys in
    let whole : lcp xs ys ≡ length (take q xs) + lcp (u ++ bs) (v ++ cs) =
    ap₂ lcp (sym (split q (q + a) xs (omega arith) i)) (sym (split q (q + b) ys (omega arith) j) ∙ ap (λ (x : List ℕ). x ++ (v ++ cs)) (sym (lcp-take q xs ys h)))
    ∙ lcp-after (take q xs) (u ++ bs) (v ++ cs) in
    numbered (lcp xs ys) (length (take q xs)) (lcp (u ++ bs) (v ++ cs)) q a b (length u) (length v) whole (length-take-le q xs (omega arith))
    (length-slice q (q + a) xs i ∙ step q a) (length-slice q (q + b) ys j ∙ step q b) (lcp-before u v bs cs)
  where
    step : (q a : ℕ) → q + a - q ≡ a
    step q a = omega arith

-- up to two places behind which e bases are alike, a bases of one and b of the other
pub lcs-parts : (xs ys : List ℕ) (x y e a b : ℕ) → x + e ≡ length xs → y + e ≡ length ys → e ≤ lcs xs ys → a ≤ x → b ≤ y
    → lcs (slice (x - a) x xs) (slice (y - b) y ys) ≡ min (lcs xs ys - e) (min a b)
lcs-parts xs ys x y e a b i j h k l =
    let u : List ℕ = slice (x - a) x xs in
    let v : List ℕ = slice (y - b) y ys in
    let pre : List ℕ = take (x - a) xs in
    let cs : List ℕ = take (y - b) ys in
    let at_x : x ≡ length xs - e = omega arith in
    let at_y : length ys - e ≡ y = omega arith in
    let back : drop x xs ≡ drop y ys = ap (λ (n : ℕ). drop n xs) at_x ∙ lcs-drop e xs ys h ∙ ap (λ (n : ℕ). drop n ys) at_y in
    let whole : lcs xs ys ≡ length (drop x xs) + lcs (pre ++ u) (cs ++ v) =
    ap₂ lcs (sym (split (x - a) x xs (omega arith) (omega arith)) ∙ sym (append_assoc pre u (drop x xs)))
    (sym (split (y - b) y ys (omega arith) (omega arith)) ∙ sym (append_assoc cs v (drop y ys)) ∙ ap (λ (z : List ℕ). (cs ++ v) ++ z) (sym back))
    ∙ lcs-before (pre ++ u) (cs ++ v) (drop x xs) in
    let size : length (drop x xs) ≡ e = length-drop x xs ∙ rest (length xs) x e i in
    numbered (lcs xs ys) (length (drop x xs)) (lcs (pre ++ u) (cs ++ v)) e a b (length u) (length v) whole size
    (length-slice (x - a) x xs (omega arith) ∙ back-off x a k) (length-slice (y - b) y ys (omega arith) ∙ back-off y b l)
    (lcs-after pre cs u v)
  where
    rest : (n x e : ℕ) → x + e ≡ n → n - x ≡ e
    rest n x e h = omega arith

    back-off : (x a : ℕ) → a ≤ x → x - (x - a) ≡ a
    back-off x a h = omega arith
