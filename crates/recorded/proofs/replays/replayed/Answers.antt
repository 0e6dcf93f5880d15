-- What `normalize` gives, compared, is the definition's reply, compared.
use Rattle.std.proofs.Common.{[], ap, ◌∙◌, rules, FitsSigned, w32, w64}
use Rattle.std.proofs.lemmas.Int.{to_z-of_z}
use Rattle.definition.specs.Verdict.{verdict}
use Rattle.demands.proofs.Numbers.{reply-fits}
use Rattle.normalizer.proofs.Replied.{small-outcome}
use Rattle.recorded.specs.Replay.{filled, request_read, stored_read, asked_in, compared_with}
use Rattle.recorded.proofs.Replied.{replied}
use Rattle.recorded.proofs.replays.replayed.Goals as goal

pub in_numbers-requires : goal.in_numbers-requires
in_numbers-requires c =
    let n = c.args.request.now.numbers in
    let cds_start : FitsSigned w64 n.cds_start = search rules in
    let cds_end : FitsSigned w64 n.cds_end = search rules in
    let start : FitsSigned w32 n.start = search rules in
    let end : FitsSigned w32 n.end = search rules in
    let m = simp (to_z-of_z) at c.normalize-outcome.ensures in
    let asked = asked_in (request_read c.args.request.now) in
    rw m.numbers (small-outcome (verdict asked) [] [] (reply-fits asked [] []))

pub returns : goal.returns
unfolding filled
returns c =
    let n = c.args.request.now.numbers in
    let cds_start : FitsSigned w64 n.cds_start = search rules in
    let cds_end : FitsSigned w64 n.cds_end = search rules in
    let start : FitsSigned w32 n.start = search rules in
    let end : FitsSigned w32 n.end = search rules in
    let m = simp (to_z-of_z) at c.normalize-outcome.ensures in
    let asked = asked_in (request_read c.args.request.now) in
    c.compare.ensures
    ∙ ap (compared_with (stored_read c.args.stored.now)) (replied c.in_numbers.ensures (verdict asked) m)
