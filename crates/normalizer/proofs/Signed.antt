-- What a signed number of the caller's is read as, where a test found it below 0 or not. Assumes nothing.
use mathlib.Core.Path.{◌≡◌, refl}
use mathlib.Core.Bool.{true, false}
use Prim.Native.Nat.{ℕ}
use native.Mathlib.Omega.{arith}
use lib.IntN.{ℤ, pos, negsuc, nat_abs}
use lib.Dec.{T}
use lib.Signed.{lt_z, non_neg}
use borrow.Author.Tests.{ltb-true}
use Rattle.definition.specs.Request.{coordinate_of}
use Rattle.std.specs.Prelude.{None, Some}

pub not-below : (z : ℤ) → lt_z z (pos 0) ≡ false → T (non_neg z)
not-below (pos n) e = tt
not-below (negsuc n) e =
    let z : ◌≡◌ {A = ℕ} 0 1 = cc in
    absurd (omega arith)

pub coordinate_below : (z : ℤ) → lt_z z (pos 0) ≡ true → None ≡ coordinate_of z
unfolding coordinate_of
coordinate_below (pos n) e = absurd (omega (arith, ltb-true n 0 e))
coordinate_below (negsuc n) e = refl

pub coordinate_natural : (z : ℤ) → lt_z z (pos 0) ≡ false → Some (record { 0 = nat_abs z }) ≡ coordinate_of z
unfolding coordinate_of
coordinate_natural (pos n) e = refl
coordinate_natural (negsuc n) e =
    let z : ◌≡◌ {A = ℕ} 0 1 = cc in
    absurd (omega arith)
