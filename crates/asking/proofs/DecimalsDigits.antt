-- Reading a number digit by digit: what is left to read, from one digit to the next. Assumes nothing.
use Prim.Native.Nat.{ℕ, ◌+◌, ◌<◌, ◌≤◌}
use mathlib.Core.Path.{◌≡◌, sym, ap, ◌∙◌, refl}
use mathlib.Core.List.{List, [], ◌∷◌}
use native.Mathlib.Numerals.{add-one}
use native.Mathlib.Omega.{arith}
use lib.ListN.{length, get_or, drop, drop_of_length-le}
use lib.Seq.{drop-cons}
use Rattle.asking.specs.Decimal.{appended_to, read_on, decimal_of}
use Rattle.std.specs.Prelude.{Option, Some, None}

pub no_digit : (word : List ℕ) → length word ≡ 0 → None ≡ decimal_of word
no_digit [] e = refl
no_digit (byte ∷ word) e = absurd (omega arith)

some-digit : (word : List ℕ) → 0 < length word → read_on (Some 0) word ≡ decimal_of word
some-digit [] h = absurd (omega arith)
some-digit (byte ∷ word) h = refl

stays-bad : (word : List ℕ) → read_on None word ≡ None
stays-bad [] = refl
stays-bad (byte ∷ word) = stays-bad word

module _ (word : List ℕ) (i value : ℕ) (read : read_on (Some 0) word ≡ read_on (Some value) (drop i word)) where
  appended-next : i < length word → read_on (Some 0) word ≡ read_on (appended_to value (get_or word i 0)) (drop (i + 1) word)
  appended-next h =
      let one_more : read_on (Some value) (drop i word) ≡ read_on (appended_to value (get_or word i 0)) (drop (i + 1) word) = rw (add-one, drop-cons word i 0) in
      read ∙ one_more

  pub next : (more : ℕ) → i < length word → appended_to value (get_or word i 0) ≡ Some more → read_on (Some 0) word ≡ read_on (Some more) (drop (i + 1) word)
  next more h e = appended-next h ∙ ap (λ (n : Option ℕ). read_on n (drop (i + 1) word)) e

  pub stopped : i < length word → appended_to value (get_or word i 0) ≡ None → None ≡ decimal_of word
  stopped h e =
      sym (stays-bad (drop (i + 1) word))
      ∙ sym (ap (λ (n : Option ℕ). read_on n (drop (i + 1) word)) e)
      ∙ sym (appended-next h)
      ∙ some-digit word (omega arith)

  pub done : 0 < length word → length word ≤ i → Some value ≡ decimal_of word
  done some h =
      let rest : read_on (Some value) (drop i word) ≡ Some value = rw (drop_of_length-le word h) in
      sym rest ∙ sym read ∙ some-digit word some
