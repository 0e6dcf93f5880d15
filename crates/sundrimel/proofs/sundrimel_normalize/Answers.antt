-- What `normalize` gives, in numbers, is the definition's reply.
use Rattle.std.proofs.Common.{[], length}
use Rattle.std.proofs.lemmas.Int.{to_z-of_z}
use Rattle.definition.specs.Verdict.{verdict}
use Rattle.demands.proofs.Numbers.{reply-fits}
use Rattle.normalizer.specs.Asked.{asked}
use Rattle.normalizer.proofs.Replied.{small-outcome, replied}
use Rattle.sundrimel.proofs.sundrimel_normalize.Goals as goal

pub in_numbers-requires : goal.in_numbers-requires
in_numbers-requires c =
    let a = c.args in
    let request = asked a.target.now a.kind a.exons.now a.cds_start a.cds_end a.start a.end a.edit a.alternative.now a.direction
    a.window (length a.reference_out.now) (length a.alternative_out.now) in
    let m = simp (to_z-of_z, c.ranges.cds_start, c.ranges.cds_end, c.ranges.start, c.ranges.end) at c.normalize-outcome.ensures in
    rw m.numbers (small-outcome (verdict request) [] [] (reply-fits request [] []))

pub returns : goal.returns
returns c =
    let a = c.args in
    let request = asked a.target.now a.kind a.exons.now a.cds_start a.cds_end a.start a.end a.edit a.alternative.now a.direction
    a.window (length a.reference_out.now) (length a.alternative_out.now) in
    let m = simp (to_z-of_z, c.ranges.cds_start, c.ranges.cds_end, c.ranges.start, c.ranges.end) at c.normalize-outcome.ensures in
    replied (verdict request) _ _ _ _ _ _ m c.in_numbers.ensures
