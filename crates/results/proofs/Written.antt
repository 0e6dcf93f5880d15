-- What comes back and what is written meets the verdict of an answer, and what that rests on. Assumes nothing.
use Prim.Native.Nat.{ℕ, ◌+◌, ◌≤◌}
use native.Mathlib.Omega.{arith}
use mathlib.Core.Path.{◌≡◌}
use mathlib.Core.List.{List}
use lib.ListN.{length, take}
use lib.Seq.{slice, take_all}
use Rattle.std.specs.Prelude.{Ok}
use Rattle.definition.specs.Verdict.{answered}
use Rattle.definition.specs.Reply.{written, outcome_of, reference_out, alternative_out, Met}
use Rattle.definition.proofs.Parts.{slice-size, lent-part}
use Rattle.alleles.proofs.Laws.{window-length}
use Rattle.results.specs.declared.classes.Called.{Called}
use Rattle.results.specs.Called.{anchored, called_in}
use Rattle.results.specs.Reported.{reported}

-- both alleles as they are called are written, and the numbers are given
pub met-called : (target bases : List ℕ) (n : Called) (probes size : ℕ) (ref ref' alt alt' : List ℕ)
    → n.reference_start.0 + n.reference_size ≤ length target → length bases ≡ n.alternative_size
    → ref' ≡ written (slice n.reference_start.0 (n.reference_start.0 + n.reference_size) target) ref
    → size ≡ length (anchored n.anchor target bases) → alt' ≡ written (anchored n.anchor target bases) alt
    → Met (answered (reported probes (called_in target bases n)))
    (Ok
    (record {
      class = n.class;
      start = n.start;
      end = n.end;
      probes = probes;
      reference_size = n.reference_size;
      alternative_size = size;
    }))
    ref ref' alt alt'
unfolding called_in outcome_of reference_out alternative_out
met-called target bases n probes size ref ref' alt alt' fits many r s a =
    let whole : take n.alternative_size bases ≡ bases = take_all n.alternative_size bases (omega arith) in
    let long : length (slice n.reference_start.0 (n.reference_start.0 + n.reference_size) target) ≡ n.reference_size =
    slice-size n.reference_start.0 n.reference_size target fits in
    record { numbers = rw (long, whole, s); reference_buffer = r; alternative_buffer = rw whole a }

-- the sizes of both alleles, and the part of the target that is lent
pub ruleset met = (slice-size, lent-part, take_all, window-length)
