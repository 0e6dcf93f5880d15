-- The digits at the front of a text, and how many they are. Assumes nothing.
use Prim.Native.Nat.{ℕ, ◌+◌}
use mathlib.Core.Path.{◌≡◌, refl, ap}
use mathlib.Core.Bool.{Bool, true, false, cond}
use mathlib.Core.List.{List, [], ◌∷◌}
use native.Mathlib.Omega.{arith}
use lib.ListN.{length, take}
use Rattle.std.specs.List.{prefix_len}
use Rattle.asking.specs.Runs.{is_digit, digits_in}

pub digits-front : (text : List ℕ) → take (length (digits_in text)) text ≡ digits_in text
unfolding digits_in
digits-front [] = refl
digits-front (byte ∷ rest) = go (is_digit byte) (digits-front rest)
  where
    go : (b : Bool) → take (length (digits_in rest)) rest ≡ digits_in rest
        → take (length (cond b (byte ∷ digits_in rest) [])) (byte ∷ rest) ≡ cond b (byte ∷ digits_in rest) []
    go true front = ap {B = List ℕ} (λ r. byte ∷ r) front
    go false front = refl

-- they are as many as std counts
pub digits-counted : (text : List ℕ) → length (digits_in text) ≡ prefix_len is_digit text
unfolding digits_in
digits-counted [] = refl
digits-counted (byte ∷ rest) = go (is_digit byte) (digits-counted rest)
  where
    go : (b : Bool) → length (digits_in rest) ≡ prefix_len is_digit rest
        → length (cond b (byte ∷ digits_in rest) []) ≡ cond b (1 + prefix_len is_digit rest) 0
    go true counted = omega arith
    go false counted = refl
