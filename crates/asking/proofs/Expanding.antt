-- Writing a field's runs out one after the other: a run grows by a byte; what is put so far, and what the runs left come to. Assumes nothing.
use Prim.Native.Nat.{ℕ, zero, suc, ◌+◌, ◌≤◌, ◌<◌}
use native.Mathlib.Numerals.{add-one}
use native.Mathlib.Omega.{arith}
use mathlib.Core.Path.{◌≡◌, refl, sym, ap, ◌∙◌}
use mathlib.Core.List.{List, [], ◌∷◌, ◌++◌, append_assoc, append-nil}
use lib.ListN.{length, drop, get_or, replicate, replicate-append-replicate, drop_of_length-le}
use lib.Seq.{drop-cons, drop-drop}
use Rattle.asking.specs.Page.{Put}
use Rattle.asking.specs.declared.terminal.Page as terminal
use Rattle.asking.specs.Runs.{times_in, mark_size, separated_by, runs_out, expanded}
use Rattle.asking.proofs.Pages.{none, then as and_then, same_text}

pub run_more : (i byte : ℕ) {p q r : terminal.Page} → Put p (replicate i byte) q → Put q (byte ∷ []) r → Put p (replicate (i + 1) byte) r
run_more i byte first second = same_text (replicate-append-replicate i 1 byte) (and_then first second)

-- `out` is what the runs before i come to, and no more runs are left than `runs`
pub record Expanding (separator : ℕ) (field : List ℕ) (before then : terminal.Page) (i : ℕ) : Type 0 where
  pub runs : ℕ
  pub out : List ℕ
  pub within : i ≤ length field
  pub enough : length field ≤ i + runs
  pub whole : out ++ runs_out runs separator (drop i field) ≡ expanded separator field
  pub put : Put before out then

module _ (separator : ℕ) (field : List ℕ) (before : terminal.Page) where
  pub start : Expanding separator field before before 0
  unfolding expanded
  start = record { runs = length field; out = []; within = omega arith; enough = omega arith; whole = refl; put = none }

  no-runs : (runs : ℕ) → runs_out runs separator [] ≡ []
  unfolding runs_out
  no-runs zero = refl
  no-runs (suc runs) = refl

  pub done : {then : terminal.Page} {i : ℕ} → Expanding separator field before then i → length field ≤ i
      → Put before (expanded separator field) then
  done {then} {i} at h =
      let no_more : runs_out at.runs separator (drop i field) ≡ [] = ap (runs_out at.runs separator) (drop_of_length-le field h) ∙ no-runs at.runs in
      let all : at.out ≡ expanded separator field = sym (ap (λ (rest : List ℕ). at.out ++ rest) no_more ∙ append-nil at.out) ∙ at.whole in
      same_text all at.put

  one-run : (i runs : ℕ) → i < length field → (next : ℕ) → next ≡ i + 1 + mark_size (drop (i + 1) field)
      → runs_out (suc runs) separator (drop i field)
      ≡ replicate (times_in (drop (i + 1) field)) (separated_by separator (get_or field i 0)) ++ runs_out runs separator (drop next field)
  unfolding runs_out
  one-run i runs h next e =
      rw (drop-cons field i 0 h, e, ← drop-drop (mark_size (drop (i + 1) field)) (i + 1) field, add-one i)

  module _ {then : terminal.Page} {i : ℕ} (at : Expanding separator field before then i) (h : i < length field) where
    pub next : {last : terminal.Page} (i' byte count : ℕ) → byte ≡ separated_by separator (get_or field i 0) → count ≡ times_in (drop (i + 1) field)
        → Put then (replicate count byte) last → i' ≡ i + 1 + mark_size (drop (i + 1) field) → i' ≤ length field
        → Expanding separator field before last i'
    next {last} i' byte count is_byte_lem is-count more is-next within =
        go at.runs at.enough at.whole
      where
        go : (runs : ℕ) → length field ≤ i + runs → at.out ++ runs_out runs separator (drop i field) ≡ expanded separator field
            → Expanding separator field before last i'
        go zero enough whole = absurd (omega arith)
        go (suc runs) enough whole = record {
          runs = runs;
          out = at.out ++ replicate count byte;
          within = within;
          enough = omega arith;
          whole =
              append_assoc at.out (replicate count byte) (runs_out runs separator (drop i' field))
              ∙ rw (is_byte_lem, is-count) (sym (ap (λ (rest : List ℕ). at.out ++ rest) (one-run i runs h i' is-next)))
              ∙ whole;
          put = and_then at.put more;
        }
