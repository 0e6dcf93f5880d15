-- The reverse complement of a window: how long it is, and which base stands at each place. Assumes nothing.
use Prim.Native.Nat.{ℕ, ◌+◌, ◌-◌, ◌%◌, ◌<◌, ◌≤◌}
use native.Mathlib.Omega.{arith}
use mathlib.Core.Path.{◌≡◌, ap, ◌∙◌}
use mathlib.Core.Bool.{false}
use mathlib.Core.List.{List}
use borrow.Author.Tests.{eq-eqb, le-ltb, lt-ltb}
use lib.Dec.{eqb}
use lib.ListN.{length, get_or}
use Rattle.definition.specs.Bases.{complement, reverse_complement, same_bases}
use Rattle.definition.specs.Answer.{is_inversion}
use Rattle.alleles.specs.Window.{window}
use Rattle.alleles.proofs.Laws.{window-length, window-at}
use Rattle.definition.proofs.Tests.{and-false, length-reverse-complement}
use Rattle.results.proofs.Compared.{compared-next, compared-differ, compared-all}
use Rattle.definition.proofs.Parts.{lent-part}
use lib.Seq.{length-slice}
use Rattle.sequences.proofs.ReverseComplement.{reverse-complement-at}

module _ (bytes : List ℕ) (head n : ℕ) where
  pub inverted-length : length (reverse_complement (window bytes head n)) ≡ n
  inverted-length = length-reverse-complement (window bytes head n) ∙ window-length bytes head n

  pub inverted-at : (i : ℕ) → i < n → get_or (reverse_complement (window bytes head n)) i 0 ≡ complement (get_or bytes ((head + (n - 1 - i)) % 2048) 0)
  inverted-at i h =
      let size = window-length bytes head n in
      reverse-complement-at (window bytes head n) i (omega arith)
      ∙ ap complement (rw size (window-at bytes head n (n - 1 - i) (omega arith)))

-- one base is no inversion; more are one where the reference is the reverse complement
pub inverted-one : (ref alt : List ℕ) → length ref ≤ 1 → is_inversion ref alt ≡ false
unfolding is_inversion
inverted-one ref alt h = rw (le-ltb 1 (length ref) h, and-false (eqb (length ref) (length alt)))

pub inverted-more : (ref alt : List ℕ) → length ref ≡ length alt → 1 < length ref → is_inversion ref alt ≡ same_bases ref (reverse_complement alt)
unfolding is_inversion
inverted-more ref alt e h = rw (eq-eqb (length ref) (length alt) e, lt-ltb 1 (length ref) h)

pub ruleset inverted = (compared-next, compared-differ, compared-all, inverted-length, inverted-at)

pub ruleset inversion = (inverted-one, inverted-more, length-slice, lent-part, window-length)
