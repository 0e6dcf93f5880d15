-- Bytes laid over a text: one, none, past its end, and behind others. Assumes nothing.
use Prim.Native.Nat.{ℕ, zero, suc, ◌+◌, ◌≤◌}
use native.Mathlib.Nat.{zero-add, suc-add, le_of_suc-le-suc}
use native.Mathlib.Omega.{arith}
use mathlib.Core.Path.{◌≡◌, refl, sym, ap}
use mathlib.Core.List.{List, [], ◌∷◌, ◌++◌}
use lib.ListN.{length, set}
use Rattle.asking.specs.Laid.{laid_at}

pub length-laid : (size : ℕ) (bytes text : List ℕ) → length (laid_at size bytes text) ≡ length text
unfolding laid_at
length-laid size bytes [] = refl
length-laid zero [] (t ∷ ts) = refl
length-laid zero (b ∷ bs) (t ∷ ts) = ap suc (length-laid zero bs ts)
length-laid (suc n) bytes (t ∷ ts) = ap suc (length-laid n bytes ts)

pub laid-nothing : (size : ℕ) (text : List ℕ) → laid_at size [] text ≡ text
unfolding laid_at
laid-nothing size [] = refl
laid-nothing zero (t ∷ ts) = refl
laid-nothing (suc n) (t ∷ ts) = ap {B = List ℕ} (λ r. t ∷ r) (laid-nothing n ts)

pub laid_one : (text : List ℕ) (size byte : ℕ) → set text size byte ≡ laid_at size (byte ∷ []) text
unfolding laid_at
laid_one [] size byte = refl
laid_one (t ∷ ts) zero byte = ap {B = List ℕ} (λ r. byte ∷ r) (sym (laid-nothing 0 ts))
laid_one (t ∷ ts) (suc n) byte = ap {B = List ℕ} (λ r. t ∷ r) (laid_one ts n byte)

-- a text that is full stays as it is
pub laid-full : (size : ℕ) (bytes text : List ℕ) → length text ≤ size → laid_at size bytes text ≡ text
unfolding laid_at
laid-full size bytes [] h = refl
laid-full zero bytes (t ∷ ts) h = absurd (omega arith)
laid-full (suc n) bytes (t ∷ ts) h = ap {B = List ℕ} (λ r. t ∷ r) (laid-full n bytes ts (le_of_suc-le-suc h))

pub laid-after : (size : ℕ) (xs ys text : List ℕ) → laid_at (size + length xs) ys (laid_at size xs text) ≡ laid_at size (xs ++ ys) text
unfolding laid_at
laid-after size xs ys [] = refl
laid-after zero [] ys (t ∷ ts) = refl
laid-after zero (x ∷ xs) ys (t ∷ ts) = rw (zero-add (suc (length xs))) (ap {B = List ℕ} (λ r. x ∷ r) (rw (zero-add (length xs)) at (laid-after zero xs ys ts)))
laid-after (suc n) xs ys (t ∷ ts) = rw (suc-add n (length xs)) (ap {B = List ℕ} (λ r. t ∷ r) (laid-after n xs ys ts))

pub ruleset laying = (laid-nothing, laid-after)
