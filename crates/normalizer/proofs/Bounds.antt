-- What a signed CDS bound of the caller's is read as, where tests found it below -1, below 0 or neither. Assumes nothing.
use mathlib.Core.Path.{◌≡◌, refl}
use mathlib.Core.Bool.{true, false}
use Prim.Native.Nat.{ℕ, zero, suc}
use native.Mathlib.Omega.{arith}
use lib.IntN.{ℤ, pos, negsuc, nat_abs}
use lib.Signed.{lt_z}
use borrow.Author.Tests.{ltb-true, ltb-false}
use Rattle.definition.specs.declared.Bound.TheVariants.{Absent, At, Negative}
use Rattle.definition.specs.Request.{bound_of}

pub bound-negative : (z : ℤ) → lt_z z (negsuc 0) ≡ true → Negative ≡ bound_of z
unfolding bound_of
bound-negative (pos n) e =
    let z : ◌≡◌ {A = ℕ} 0 1 = cc in
    absurd (omega arith)
bound-negative (negsuc zero) e =
    let z : ◌≡◌ {A = ℕ} 0 1 = cc in
    absurd (omega arith)
bound-negative (negsuc (suc n)) e = refl

pub bound-absent : (z : ℤ) → lt_z z (negsuc 0) ≡ false → lt_z z (pos 0) ≡ true → Absent ≡ bound_of z
unfolding bound_of
bound-absent (pos n) d e = absurd (omega (arith, ltb-true n 0 e))
bound-absent (negsuc zero) d e = refl
bound-absent (negsuc (suc n)) d e = absurd (omega (arith, ltb-false 0 (suc n) d))

pub bound_at : (z : ℤ) → lt_z z (pos 0) ≡ false → At (nat_abs z) ≡ bound_of z
unfolding bound_of
bound_at (pos n) e = refl
bound_at (negsuc n) e =
    let z : ◌≡◌ {A = ℕ} 0 1 = cc in
    absurd (omega arith)
