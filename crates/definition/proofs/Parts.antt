-- Parts of a sequence: n elements from a place on, and a lent part, are parts; two that meet are one; a part of a part is a part.
-- Assumes nothing.
use mathlib.Core.Path.{◌≡◌, sym, ap, ap₂, ◌∙◌}
use mathlib.Core.List.{List, [], ◌∷◌, ◌++◌}
use Prim.Native.Nat.{ℕ, zero, suc, ◌+◌, ◌-◌, ◌≤◌}
use native.Mathlib.Omega.{arith}
use lib.ListN.{length, take, drop}
use lib.Seq.{take-nil, slice, length-slice, take-take, take-add, drop-drop, drop_at, length-take-le}
use Rattle.definition.proofs.Places.{slice-rest}

pub counted-part : (f n : ℕ) (l : List ℕ) → f ≤ length l → take n (drop f l) ≡ slice f (f + n) l
counted-part f n l h = sym (ap (drop f) (take-add f n l) ∙ drop_at (take f l) (take n (drop f l)) f (length-take-le f l h))

pub lent-part : (from to : ℕ) (l : List ℕ) → take (to - from) (drop from l) ≡ slice from to l
lent-part zero to l =
    let e : to - zero ≡ to = omega arith in
    rw e
lent-part (suc from) zero l =
    let e : zero - suc from ≡ zero = omega arith in
    rw e
lent-part (suc from) (suc to) [] = take-nil (suc to - suc from)
lent-part (suc from) (suc to) (x ∷ xs) =
    let e : suc to - suc from ≡ to - from = omega arith in
    rw e (lent-part from to xs)

pub joined-parts : (a b c : ℕ) (l : List ℕ) → a ≤ b → b ≤ c → c ≤ length l → slice a b l ++ slice b c l ≡ slice a c l
joined-parts a b c l h k j =
    ap (λ (x : List ℕ). drop a x ++ slice b c l) (sym (take-take b c l k))
    ∙ slice-rest a b (take c l) h (omega (arith, length-take-le c l j))

pub part-of-part : (d e a c : ℕ) (l : List ℕ) → a + e ≤ c → c ≤ length l → slice d e (slice a c l) ≡ slice (a + d) (a + e) l
part-of-part d e a c l h k =
    let size : length (take c l) ≡ c = length-take-le c l k in
    ap (drop d) (counted-part a e (take c l) (omega arith) ∙ ap (drop a) (take-take (a + e) c l h))
    ∙ drop-drop d a (take (a + e) l)

-- n places on in a part of k + w, and n places back in one, k elements
pub onward-part : (q k w n : ℕ) (l : List ℕ) → n ≤ w → q + (k + w) ≤ length l → take k (drop n (slice q (q + (k + w)) l)) ≡ slice (q + n) (q + n + k) l
onward-part q k w n l h fits =
    let size : length (slice q (q + (k + w)) l) ≡ q + (k + w) - q = length-slice q (q + (k + w)) l fits in
    let e : q + (n + k) ≡ q + n + k = omega arith in
    counted-part n k (slice q (q + (k + w)) l) (omega arith)
    ∙ part-of-part n (n + k) q (q + (k + w)) l (omega arith) fits
    ∙ ap (λ (m : ℕ). slice (q + n) m l) e

pub backward-part : (q k w n : ℕ) (l : List ℕ) → n ≤ w → w ≤ q → q + k ≤ length l
    → drop (w - n) (take (w + k - n) (slice (q - w) (q + k) l)) ≡ slice (q - n) (q - n + k) l
backward-part q k w n l h i fits =
    let e : q - w + (w - n) ≡ q - n = omega arith in
    let f : q - w + (w + k - n) ≡ q - n + k = omega arith in
    part-of-part (w - n) (w + k - n) (q - w) (q + k) l (omega arith) fits ∙ ap₂ (λ (a b : ℕ). slice a b l) e f

-- so many bases from a place on
pub slice-size : (from k : ℕ) (l : List ℕ) → from + k ≤ length l → length (slice from (from + k) l) ≡ k
slice-size from k l fits =
    let e : from + k - from ≡ k = omega arith in
    length-slice from (from + k) l fits ∙ e
