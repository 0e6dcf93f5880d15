-- Where the letters of a file begin, by the byte that it begins with; and with it what the file comes to. Assumes nothing.
use Prim.Native.Nat.{ℕ, ◌<◌}
use mathlib.Core.Path.{◌≡◌, refl}
use mathlib.Core.List.{List, [], ◌∷◌}
use native.Mathlib.Omega.{arith}
use borrow.Author.Tests.{eq-eqb, ne_eqb}
use lib.ListN.{length, get_or}
use lib.Dec.{ltb}
use Rattle.std.specs.Prelude.{Result}
use Rattle.asking.specs.Text.{part_of, found_at}
use Rattle.asking.specs.declared.problems.Unread.{Unread}
use Rattle.asking.specs.Letters.{letters_start, record_of, kept_in, behind_record, letters_read}

pub none : (text : List ℕ) → length text ≡ 0 → 0 ≡ letters_start text
unfolding letters_start
none [] e = refl
none (byte ∷ rest) e = absurd (omega arith)

pub header : (text : List ℕ) → 0 < length text → get_or text 0 0 ≡ 62 → found_at text 0 10 ≡ letters_start text
unfolding letters_start
header [] h e = absurd (omega arith)
header (byte ∷ rest) h e = rw (eq-eqb byte 62 e)

pub letters : (text : List ℕ) → 0 < length text → (get_or text 0 0 ≡ 62 → ⊥) → 0 ≡ letters_start text
unfolding letters_start
letters [] h e = absurd (omega arith)
letters (byte ∷ rest) h e = rw (ne_eqb byte 62 e)

-- what a file comes to, step by step: where its letters begin, where its record ends, and what is kept of that
module _ (text target : List ℕ) {start end : ℕ} {part : List ℕ} (is-start : start ≡ letters_start text) (is-end : end ≡ found_at text start 62)
    (is-part : part ≡ part_of text start end) where
  pub read-record : part ≡ record_of text
  read-record = rw (is-part, is-end, is-start)

  pub read_letters : {kept result : Result ℕ Unread} → kept ≡ kept_in (length target) part → result ≡ behind_record (ltb end (length text)) kept
      → result ≡ letters_read (length target) text
  read_letters is-kept is-result = rw (is-result, is-kept, read-record, is-end, is-start)
