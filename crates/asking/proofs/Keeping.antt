-- Keeping a file's letters one after the other: what is kept so far, and what the bytes left come to. Assumes nothing.
use Prim.Native.Nat.{ℕ, suc, ◌+◌, ◌-◌, ◌≤◌, ◌<◌}
use native.Mathlib.Numerals.{add-one}
use native.Mathlib.Nat.{sub-zero}
use native.Mathlib.Omega.{arith}
use mathlib.Core.Path.{◌≡◌, refl, sym, ap, ◌∙◌}
use mathlib.Core.Bool.{Bool, true, false, cond}
use mathlib.Core.List.{List, [], ◌∷◌, ◌++◌, append_assoc, append-nil}
use lib.ListN.{length, take, drop, get_or, set, length-append, length-set, drop_of_length-le}
use lib.Seq.{drop-cons, set_at, take_at, take_all}
use Rattle.definition.specs.Reply.{written}
use Rattle.asking.specs.Letters.{upper_case, is_blank, letters_of, overflows, kept_in, letters_laid}
use Rattle.std.specs.Prelude.{Ok, Err}
use Rattle.asking.specs.declared.problems.Unread.TheVariants.{LongTarget}

-- `kept` are the letters before i, which stand at the front of the target
pub record Keeping (bytes target then : List ℕ) (size i : ℕ) : Type 0 where
  pub kept : List ℕ
  pub counted : size ≡ length kept
  pub room : size ≤ length target
  pub long : length then ≡ length target
  pub held : then ≡ kept ++ drop size target
  pub whole : kept ++ letters_of (drop i bytes) ≡ letters_of bytes
  pub over : overflows (length target - size) (drop i bytes) ≡ overflows (length target) bytes

module _ (bytes target : List ℕ) where
  pub start : Keeping bytes target target 0 0
  start = record { kept = []; counted = refl; room = omega arith; long = refl; held = refl; whole = refl; over = rw sub-zero }

  module _ {then : List ℕ} {size i : ℕ} (at : Keeping bytes target then size i) where
    module _ (h : i < length bytes) where
      pub full : length target ≤ size → Err LongTarget ≡ kept_in (length target) bytes
      unfolding overflows
      full f =
          let none : length target - size ≡ 0 = omega arith in
          let left : overflows (length target) bytes ≡ true = sym at.over ∙ rw (none, drop-cons bytes i 0 h) in
          rw left

      pub next : {last : List ℕ} {size' : ℕ} → size < length target → size' ≡ cond (is_blank (get_or bytes i 0)) size (size + 1)
          → last ≡ cond (is_blank (get_or bytes i 0)) then (set then size (upper_case (get_or bytes i 0))) → Keeping bytes target last size' (i + 1)
      unfolding letters_of overflows
      next {last} {size'} f is-size is_last = go (is_blank (get_or bytes i 0)) refl
        where
          one_more : length target - size ≡ suc (length target - (size + 1))
          one_more = omega arith

          go : (b : Bool) → is_blank (get_or bytes i 0) ≡ b → Keeping bytes target last size' (i + 1)
          go true e =
              let same : size' ≡ size = is-size ∙ rw e in
              let kept-as-is : last ≡ then = is_last ∙ rw e in
              record {
                kept = at.kept;
                counted = same ∙ at.counted;
                room = omega arith;
                long = ap length kept-as-is ∙ at.long;
                held = rw (same, kept-as-is) at.held;
                whole = ap (λ (rest : List ℕ). at.kept ++ rest) (sym (rw (drop-cons bytes i 0 h, e, add-one i))) ∙ at.whole;
                over = rw same (rw (one_more, add-one i) (sym (rw (drop-cons bytes i 0 h, e)))) ∙ at.over;
              }
          go false e =
              let more : size' ≡ size + 1 = is-size ∙ rw e in
              let kept-too : last ≡ set then size (upper_case (get_or bytes i 0)) = is_last ∙ rw e in
              record {
                kept = at.kept ++ (upper_case (get_or bytes i 0) ∷ []);
                counted = omega (arith, length-append at.kept (upper_case (get_or bytes i 0) ∷ []), at.counted);
                room = omega arith;
                long = ap length kept-too ∙ length-set then size (upper_case (get_or bytes i 0)) ∙ at.long;
                held =
                    kept-too
                    ∙ rw (at.held, drop-cons target size 0 f, more, add-one size, append_assoc)
                    (set_at at.kept (get_or target size 0) (drop (suc size) target) (upper_case (get_or bytes i 0)) size (sym at.counted));
                whole =
                    append_assoc at.kept (upper_case (get_or bytes i 0) ∷ []) (letters_of (drop (i + 1) bytes))
                    ∙ ap (λ (rest : List ℕ). at.kept ++ rest) (sym (rw (drop-cons bytes i 0 h, e, add-one i)))
                    ∙ at.whole;
                over = rw (more, add-one i) (sym (rw (one_more, drop-cons bytes i 0 h, e))) ∙ at.over;
              }

    laid : take (length target) (letters_of bytes) ≡ at.kept → then ≡ letters_laid bytes target
    unfolding written
    laid e = at.held ∙ rw (e, at.counted)

    pub full-laid : length target ≤ size → then ≡ letters_laid bytes target
    full-laid f =
        let all_room : length at.kept ≡ length target = omega arith in
        laid (rw (← at.whole) (take_at at.kept (letters_of (drop i bytes)) (length target) all_room))

    module _ (h : length bytes ≤ i) where
      all-kept : at.kept ≡ letters_of bytes
      unfolding letters_of
      all-kept =
          sym (append-nil at.kept) ∙ ap (λ (rest : List ℕ). at.kept ++ rest) (sym (rw (drop_of_length-le bytes h))) ∙ at.whole

      pub done : Ok size ≡ kept_in (length target) bytes
      unfolding overflows
      done =
          let none_left : overflows (length target) bytes ≡ false = sym at.over ∙ rw (drop_of_length-le bytes h) in
          rw none_left (ap Ok (at.counted ∙ ap length all-kept))

      pub done-laid : then ≡ letters_laid bytes target
      done-laid = laid (sym (ap (take (length target)) all-kept) ∙ take_all (length target) at.kept (omega arith))

pub ruleset keeping = (start, next)
