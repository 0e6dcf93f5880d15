-- The mark of a run, by the bytes that a field has: the star behind a byte and the digits behind that. Assumes nothing.
use Prim.Native.Nat.{ℕ, ◌+◌, ◌-◌, ◌≤◌, ◌<◌}
use mathlib.Core.Path.{◌≡◌}
use mathlib.Core.List.{List}
use native.Mathlib.Numerals.{add-one}
use native.Mathlib.Omega.{arith}
use borrow.Author.Tests.{eq-eqb, ne_eqb, le-ltb}
use lib.ListN.{length, drop, get_or, drop_of_length-le}
use lib.Seq.{drop-cons}
use Rattle.asking.specs.Text.{part_of}
use Rattle.asking.specs.Decimal.{decimal_of}
use Rattle.asking.specs.Runs.{digits_in, times_in, mark_size, or_once}
use Rattle.asking.proofs.RunsDigits.{digits-front}

module _ (field : List ℕ) (at : ℕ) where
  module _ (h : at < length field) where
    pub star-mark : get_or field at 0 ≡ 42 → mark_size (drop at field) ≡ 1 + length (digits_in (drop (at + 1) field))
    unfolding mark_size
    star-mark e = rw (drop-cons field at 0 h, eq-eqb _ _ e, add-one at)

    pub star-times : get_or field at 0 ≡ 42 → times_in (drop at field) ≡ or_once (decimal_of (digits_in (drop (at + 1) field)))
    unfolding times_in
    star-times e = rw (drop-cons field at 0 h, eq-eqb _ _ e, add-one at)

    pub other-mark : (get_or field at 0 ≡ 42 → ⊥) → mark_size (drop at field) ≡ 0
    unfolding mark_size
    other-mark e = rw (drop-cons field at 0 h, ne_eqb _ _ e)

    pub other-times : (get_or field at 0 ≡ 42 → ⊥) → times_in (drop at field) ≡ 1
    unfolding times_in
    other-times e = rw (drop-cons field at 0 h, ne_eqb _ _ e)

  pub end_mark : length field ≤ at → mark_size (drop at field) ≡ 0
  unfolding mark_size
  end_mark h = rw (drop_of_length-le field h)

  pub end-times : length field ≤ at → times_in (drop at field) ≡ 1
  unfolding times_in
  end-times h = rw (drop_of_length-le field h)

  -- the part from an index up to where its digits end
  pub digits-part : (end : ℕ) → end ≡ at + length (digits_in (drop at field)) → end ≤ length field → part_of field at end ≡ digits_in (drop at field)
  digits-part end e h =
      let size : end - at ≡ length (digits_in (drop at field)) = omega arith in
      let in_order : at ≤ end = omega arith in
      rw (le-ltb end at in_order, le-ltb (length field) end h, size) (digits-front (drop at field))

pub ruleset marks = (star-mark, star-times, other-mark, other-times, end_mark, end-times)
