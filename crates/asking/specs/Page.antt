-- A page of text: a lent buffer, and how many of its bytes are used. Text goes behind what the page holds; what does not fit is cut at the
-- page's end, and nothing else changes. Assumes nothing.
use Rattle.std.specs.Prelude.{ℕ, ◌+◌, ◌≡◌, cond, List, [], ◌∷◌, ltb, length, set}
use Rattle.asking.specs.declared.terminal.Page as terminal

pub record Page : Type 0 where
  pub bytes : List ℕ
  pub used : ℕ

abbrev pub page : List ℕ → ℕ → Page
page bytes used = record { bytes = bytes; used = used }

-- a byte goes behind those that are used; none does where the page is full
abbrev pub with_byte : Page → ℕ → Page
with_byte p byte =
    cond (ltb p.used (length p.bytes)) (page (set p.bytes p.used byte) (p.used + 1)) p

-- so do the bytes of a text, one after another
unfoldable pub with_text : Page → List ℕ → Page
with_text p [] = p
with_text p (byte ∷ text) = with_text (with_byte p byte) text

-- a page as it stands
abbrev pub shown : terminal.Page → Page
shown p = page p.bytes.now p.used

-- what each function that puts a text ensures of the page: the text is put, and the buffer that is lent is still the same one
pub record Put (before : terminal.Page) (text : List ℕ) (after : terminal.Page) : Type 0 where
  pub held : shown after ≡ with_text (shown before) text
  pub same_buffer : after.bytes.ghost_name ≡ before.bytes.ghost_name
