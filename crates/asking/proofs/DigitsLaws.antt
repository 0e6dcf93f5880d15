-- What std calls the decimal of a number of 64 bits is what the digits of its tenth and the last one make. Assumes nothing.
use Prim.Native.Nat.{ℕ, ◌^◌, ◌<◌}
use mathlib.Core.Path.{◌≡◌, sym}
use native.Mathlib.Omega.{arith}
use Rattle.std.proofs.Common.{rules}
use Rattle.std.specs.Fmt.{decimal}
use Rattle.std.proofs.lemmas.Fmt.{AppendsLastDigit, decimal_from_appends, length-decimal-le}
use Rattle.asking.specs.Digits.{digits_in, decimal_text}

appends : AppendsLastDigit digits_in
unfolding digits_in
appends = search rules

pub is_decimal : (n : ℕ) → n < 2 ^ 64 → decimal n ≡ decimal_text n
is_decimal n small = sym (decimal_from_appends digits_in appends 20 n small (length-decimal-le 20 n (omega arith) (omega arith) small))
