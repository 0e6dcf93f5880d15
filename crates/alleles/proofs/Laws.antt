-- The laws of a window of the buffer: its length, what stands at each place, its parts, and the same window one round on.
-- Assumes nothing.
use Prim.Native.Nat.{ℕ, zero, suc, ◌+◌, ◌-◌, ◌%◌, ◌<◌, ◌≤◌}
use native.Mathlib.Omega.{arith}
use mathlib.Core.Path.{◌≡◌, refl, sym, ap, ◌∙◌}
use mathlib.Core.List.{List, ◌++◌}
use lib.ListN.{length, get_or, take, drop}
use lib.Seq.{take_at, drop_at, drop-cons}
use Rattle.alleles.specs.Window.{window}

pub window-length : (xs : List ℕ) (h n : ℕ) → length (window xs h n) ≡ n
unfolding window
window-length xs h zero = refl
window-length xs h (suc n) = ap suc (window-length xs (suc h) n)

pub window-round : (xs : List ℕ) (h k n : ℕ) → h % 2048 ≡ k % 2048 → window xs h n ≡ window xs k n
unfolding window
window-round xs h k zero e = refl
window-round xs h k (suc n) e = rw (e, window-round xs (suc h) (suc k) n (omega arith))

pub window-at : (xs : List ℕ) (h n i : ℕ) → i < n → get_or (window xs h n) i 0 ≡ get_or xs ((h + i) % 2048) 0
unfolding window
window-at xs h zero i l = absurd (omega arith)
window-at xs h (suc n) zero l = ap (λ (k : ℕ). get_or xs (k % 2048) 0) (omega arith)
window-at xs h (suc n) (suc i) l = window-at xs (suc h) n i (omega arith) ∙ ap (λ (k : ℕ). get_or xs (k % 2048) 0) (omega arith)

-- a window that does not go round is a stretch of the array
pub window-straight : (xs : List ℕ) (h n : ℕ) → length xs ≡ 2048 → h + n ≤ 2048 → window xs h n ≡ take n (drop h xs)
unfolding window
window-straight xs h zero long fits = refl
window-straight xs h (suc n) long fits =
    let e : h % 2048 ≡ h = omega arith in
    rw (drop-cons xs h 0 (omega arith), e, window-straight xs (suc h) n long (omega arith))

-- a window is its first m bytes and then the n after them
pub window-split : (xs : List ℕ) (h m n : ℕ) → window xs h (m + n) ≡ window xs h m ++ window xs (h + m) n
unfolding window
window-split xs h zero n =
    let e : zero + n ≡ n = omega arith in
    let f : h + zero ≡ h = omega arith in
    rw (e, f)
window-split xs h (suc m) n =
    let e : suc m + n ≡ suc (m + n) = omega arith in
    let f : h + suc m ≡ suc h + m = omega arith in
    rw (e, f, window-split xs (suc h) m n)

pub window-take : (xs : List ℕ) (h m n : ℕ) → m ≤ n → take m (window xs h n) ≡ window xs h m
window-take xs h m n l =
    let e : n ≡ m + (n - m) = omega arith in
    ap (λ (k : ℕ). take m (window xs h k)) e
    ∙ ap (take m) (window-split xs h m (n - m))
    ∙ take_at (window xs h m) (window xs (h + m) (n - m)) m (window-length xs h m)

pub window-drop : (xs : List ℕ) (h m n : ℕ) → m ≤ n → drop m (window xs h n) ≡ window xs (h + m) (n - m)
window-drop xs h m n l =
    let e : n ≡ m + (n - m) = omega arith in
    ap (λ (k : ℕ). drop m (window xs h k)) e
    ∙ ap (drop m) (window-split xs h m (n - m))
    ∙ drop_at (window xs h m) (window xs (h + m) (n - m)) m (window-length xs h m)

-- a part of a window is a window
pub window-part : (xs : List ℕ) (h m k n : ℕ) → m + k ≤ n → take k (drop m (window xs h n)) ≡ window xs (h + m) k
window-part xs h m k n l = ap (take k) (window-drop xs h m n (omega arith)) ∙ window-take xs (h + m) k (n - m) (omega arith)

-- the last k bytes are a window that begins further on
pub window-last : (xs : List ℕ) (h k n : ℕ) → k ≤ n → window xs ((h + (n - k)) % 2048) k ≡ drop (n - k) (window xs h n)
window-last xs h k n l =
    let size : k ≡ n - (n - k) = omega arith in
    window-round xs ((h + (n - k)) % 2048) (h + (n - k)) k (omega arith) ∙ ap (window xs (h + (n - k))) size ∙ sym (window-drop xs h (n - k) n (omega arith))
