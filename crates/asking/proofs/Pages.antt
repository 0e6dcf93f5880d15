-- The laws of a page: a text put after another is the two put as one; what fits stands behind what was there, and a full page stays. Assumes nothing.
use Prim.Native.Nat.{ℕ, suc, ◌+◌, ◌-◌, ◌<◌, ◌≤◌, min}
use mathlib.Core.Path.{◌≡◌, refl, sym, ap, ◌∙◌}
use mathlib.Core.List.{List, [], ◌∷◌, ◌++◌, append_assoc}
use native.Mathlib.Nat.{add-zero}
use native.Mathlib.Omega.{arith}
use lib.ListN.{length, length-drop, length-set, set, take, take-append-drop, get_or, drop, length-append}
use borrow.Author.Tests.{le-ltb, lt-ltb}
use lib.Seq.{sets, sets-eq, drop-drop, length-take-le}
use Rattle.std.proofs.lemmas.List.{take_more}
use Rattle.asking.specs.Page.{Page, page, with_byte, with_text, Put}
use Rattle.asking.specs.declared.terminal.Page as terminal

pub joined : (p : Page) (s t : List ℕ) → with_text (with_text p s) t ≡ with_text p (s ++ t)
unfolding with_text
joined p [] t = refl
joined p (byte ∷ s) t = joined (with_byte p byte) s t

pub none : {p : terminal.Page} → Put p [] p
unfolding with_text
none = record { held = refl; same_buffer = refl }

pub then : {p q r : terminal.Page} {s t : List ℕ} → Put p s q → Put q t r → Put p (s ++ t) r
then {s} {t} first second =
    record {
      held = second.held ∙ ap (λ (p : Page). with_text p t) first.held ∙ joined _ s t;
      same_buffer = second.same_buffer ∙ first.same_buffer;
    }

pub same_text : {p q : terminal.Page} {s t : List ℕ} → s ≡ t → Put p s q → Put p t q
same_text e put = rw (← e) put

-- the bytes of a text up to one of them, and that one
pub one_more : {p q r : terminal.Page} (text : List ℕ) (i : ℕ)
    → i < length text → Put p (take i text) q → Put q (get_or text i 0 ∷ []) r → Put p (take (i + 1) text) r
one_more text i h first second = same_text (sym (take_more text i 0 h)) (then first second)

pub stored : (text bytes : List ℕ) (used : ℕ) → used + length text ≤ length bytes
    → with_text (page bytes used) text ≡ page (sets bytes used text) (used + length text)
unfolding with_text
stored [] bytes used fits = rw (add-zero used)
stored (byte ∷ text) bytes used fits =
    let room : used < length bytes = omega arith in
    let more : used + 1 + length text ≤ length (set bytes used byte) = rw (length-set bytes used byte) (omega arith) in
    let next-used : used + 1 ≡ suc used = omega arith in
    let end : used + 1 + length text ≡ used + suc (length text) = omega arith in
    rw (lt-ltb used (length bytes) room)
    (stored text (set bytes used byte) (used + 1) more
    ∙ ap (λ (n : ℕ). page (sets (set bytes used byte) n text) (used + 1 + length text)) next-used
    ∙ ap (page (sets (set bytes used byte) (suc used) text)) end)

-- a text that fits stands behind the bytes that were used, and the bytes after it are as they were
pub appended : (text bytes : List ℕ) (used : ℕ) → used + length text ≤ length bytes
    → with_text (page bytes used) text ≡ page (take used bytes ++ text ++ drop (used + length text) bytes) (used + length text)
appended text bytes used fits =
    stored text bytes used fits ∙ ap (λ (l : List ℕ). page l (used + length text)) (sets-eq text bytes used fits)

-- a full page takes no text
full : (text bytes : List ℕ) (used : ℕ) → length bytes ≤ used → with_text (page bytes used) text ≡ page bytes used
unfolding with_text
full [] bytes used h = refl
full (byte ∷ text) bytes used h = rw (le-ltb used (length bytes) h) (full text bytes used h)

-- nor does a page on which a text has no room for a byte: the text is empty, or the page is full
pub none_fits : (text bytes : List ℕ) (used : ℕ) → min (length text) (length bytes - used) ≤ 0 → with_text (page bytes used) text ≡ page bytes used
unfolding with_text
none_fits [] bytes used h = refl
none_fits (byte ∷ text) bytes used h =
    let h' : min (suc (length text)) (length bytes - used) ≤ 0 = h in
    full (byte ∷ text) bytes used (omega arith)

-- of any text the front for which there is room goes over the k bytes behind those that were used; what is left finds the page full
pub cut : (text bytes front : List ℕ) (used size k : ℕ) → used < length bytes → size ≡ min (length text) (length bytes - used) → k ≡ size
    → front ≡ take size text → page (take used bytes ++ (front ++ drop k (drop used bytes))) (used + size) ≡ with_text (page bytes used) text
cut text bytes front used size k room fits as_long is =
    let long : length (take size text) ≡ size = length-take-le size text (omega arith) in
    let rest = drop size (drop used bytes) in
    let after = take used bytes ++ (take size text ++ rest) in
    let same : length after ≡ length bytes =
    omega (
      arith,
      length-append (take used bytes) (take size text ++ rest),
      length-append (take size text) rest,
      length-take-le used bytes (omega arith),
      length-drop size (drop used bytes),
      length-drop used bytes,
    ) in
    let laid : with_text (page bytes used) (take size text) ≡ page after (used + size) =
    appended (take size text) bytes used (omega arith)
    ∙ ap (λ (n : ℕ). page (take used bytes ++ take size text ++ drop (used + n) bytes) (used + n)) long
    ∙ ap (λ (l : List ℕ). page l (used + size))
    (append_assoc (take used bytes) (take size text) (drop (used + size) bytes)
    ∙ ap (λ (l : List ℕ). take used bytes ++ (take size text ++ l)) (sym (drop-drop size used bytes))) in
    rw (is, as_long)
    (sym (
    ap (with_text (page bytes used)) (sym (take-append-drop size text))
    ∙ sym (joined (page bytes used) (take size text) (drop size text))
    ∙ ap (λ (p : Page). with_text p (drop size text)) laid
    ∙ none_fits (drop size text) after (used + size) (omega (arith, length-drop size text))
    ))
