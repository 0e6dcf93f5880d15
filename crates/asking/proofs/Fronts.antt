-- What stands at the front of a target whose letters are read: those letters. Assumes nothing.
use Prim.Native.Nat.{ℕ, zero, suc, ◌≤◌}
use native.Mathlib.Nat.{sub-zero}
use native.Mathlib.Omega.{arith}
use mathlib.Core.Path.{◌≡◌, refl, sym, ◌∙◌}
use mathlib.Core.Bool.{Bool, true, false}
use mathlib.Core.List.{List, [], ◌∷◌, ◌++◌}
use lib.Dec.{ltb}
use lib.ListN.{length, take, drop, length-append, length-drop}
use lib.Seq.{take_at, take_all}
use borrow.Author.Tests.{le-ltb}
use Rattle.asking.specs.Text.{part_of}
use Rattle.definition.specs.Reply.{written}
use Rattle.std.specs.Prelude.{Result, Ok, Err}
use Rattle.asking.specs.declared.problems.Unread.{Unread}
use Rattle.asking.specs.declared.problems.Unread.TheVariants.{LongTarget}
use Rattle.asking.specs.Letters.{is_blank, record_end, record_of, letters_of, overflows, kept_in, behind_record, letters_laid}
use Rattle.asking.specs.Sources.{Source, target_of, laid, letters_in}

-- bytes that don't overflow a room have no more letters than it holds
no_more : (room : ℕ) (bytes : List ℕ) → overflows room bytes ≡ false → length (letters_of bytes) ≤ room
unfolding overflows letters_of
no_more room [] e = omega arith
no_more zero (byte ∷ rest) e =
    let z : ◌≡◌ {A = ℕ} 0 1 = cc in
    absurd (omega arith)
no_more (suc room) (byte ∷ rest) e = go (is_blank byte) refl (no_more (suc room) rest) (no_more room rest)
  where
    go : (b : Bool) → is_blank byte ≡ b → (overflows (suc room) rest ≡ false → length (letters_of rest) ≤ suc room)
        → (overflows room rest ≡ false → length (letters_of rest) ≤ room) → length (letters_of (byte ∷ rest)) ≤ suc room
    go true t blank letter = rw t (blank (rw t at e))
    go false t blank letter =
        let less = letter (rw t at e) in
        rw t (omega (arith, less))

-- the letters that were kept stand at the front
kept-front : (bytes target : List ℕ) (size : ℕ) → kept_in (length target) bytes ≡ Ok size → part_of (letters_laid bytes target) 0 size ≡ letters_of bytes
unfolding written
kept-front bytes target size e = go (overflows (length target) bytes) refl
  where
    go : (b : Bool) → overflows (length target) bytes ≡ b → part_of (letters_laid bytes target) 0 size ≡ letters_of bytes
    go true t =
        let f : Err LongTarget ≡ Ok size = rw t at e in
        let z : ◌≡◌ {A = ℕ} 0 1 = cc in
        absurd (omega arith)
    go false t =
        let f : Ok (length (letters_of bytes)) ≡ Ok size = rw t at e in
        let sized : size ≡ length (letters_of bytes) = cc in
        let room : length (letters_of bytes) ≤ length target = no_more (length target) bytes t in
        let whole : take (length target) (letters_of bytes) ≡ letters_of bytes = take_all (length target) (letters_of bytes) room in
        let long : length (letters_of bytes ++ drop (length (letters_of bytes)) target) ≡ length target =
        omega (arith, length-append (letters_of bytes) (drop (length (letters_of bytes)) target), length-drop (length (letters_of bytes)) target) in
        rw (sized, whole, le-ltb (length (letters_of bytes)) 0 (omega arith), long, le-ltb (length target) (length (letters_of bytes)) room, sub-zero)
        (take_at (letters_of bytes) (drop (length (letters_of bytes)) target) (length (letters_of bytes)) refl)

kept_record : (more : Bool) (kept : Result ℕ Unread) (size : ℕ) → behind_record more kept ≡ Ok size → kept ≡ Ok size
kept_record true (Ok n) size e =
    let z : ◌≡◌ {A = ℕ} 0 1 = cc in
    absurd (omega arith)
kept_record false (Ok n) size e = e
kept_record more (Err why) size e = e

front_of : (source : Source) (target : List ℕ) (size : ℕ) → target_of (length target) source ≡ Ok size
    → part_of (laid source target) 0 size ≡ letters_in source
unfolding target_of laid letters_in
front_of (Ok text) target size e =
    kept-front (record_of text) target size (kept_record (ltb (record_end text) (length text)) (kept_in (length target) (record_of text)) size e)
front_of (Err why) target size e =
    let z : ◌≡◌ {A = ℕ} 0 1 = cc in
    absurd (omega arith)

pub front : (source : Source) (target : List ℕ) {read : Result ℕ Unread} {size : ℕ} → read ≡ target_of (length target) source → read ≡ Ok size
    → part_of (laid source target) 0 size ≡ letters_in source
front source target is e = front_of source target _ (sym is ∙ e)
