use Rattle.std.proofs.Common.{arith, ◌+◌, sym, ◌∙◌}
use Rattle.std.proofs.Math.Seq.{slice}
use Rattle.definition.proofs.Parts.{slice-size}
use Rattle.alleles.specs.Held.{held}
use Rattle.alleles.proofs.Laws.{window-length}
use Rattle.results.proofs.Verdicts.{called-kept, met-row-16, met-answered}
use Rattle.results.proofs.build_result.Goals as goal

pub returns-then-leaves_target-clause-met : goal.returns-then-leaves_target-clause-met
returns-then-leaves_target-clause-met c =
    let a = c.args.change.now in
    let bases = held a.alternative.now in
    let many = window-length a.alternative.now.bytes a.alternative.now.head a.alternative.now.count in
    let reference = slice a.place.0 (a.place.0 + a.reference_size) a.target.now in
    let size = slice-size a.place.0 a.reference_size a.target.now c.requires.settled.in_target in
    met-row-16 a.direction c.args.kind a.piece a.target.now a.place.0 c.args.probes reference bases
    c.args.buffers.now.reference.now c.args.buffers.now.alternative.now (sym (c.if-leaves_target.ensures reference bases size many))

pub build_result_construct-requires : goal.build_result_construct-requires
build_result_construct-requires c =
    let a = c.args.change.now in
    let p = c.requires in
    let bases = held a.alternative.now in
    let many = window-length a.alternative.now.bytes a.alternative.now.head a.alternative.now.count in
    let calls = c.last_base_rule-ended.ensures bases _ (c.first_base_rule-begun.ensures bases _ c.named-called.ensures) in
    let kept = calls.alternative in
    record {
      nonempty = p.settled.nonempty;
      in_target = calls.reference;
      reference = omega (arith, calls.short, p.room.reference);
      placed = record { start = p.settled.placed.start; fits = omega (arith, p.settled.placed.fits) };
      alternative = omega (arith, p.settled.alternative, p.room.alternative);
    }

pub returns-clause-met : goal.returns-clause-met
returns-clause-met c =
    let a = c.args.change.now in
    let bases = held a.alternative.now in
    let many = window-length a.alternative.now.bytes a.alternative.now.head a.alternative.now.count in
    let reference = slice a.place.0 (a.place.0 + a.reference_size) a.target.now in
    let size = slice-size a.place.0 a.reference_size a.target.now c.requires.settled.in_target in
    let calls = c.last_base_rule-ended.ensures bases _ (c.first_base_rule-begun.ensures bases _ c.named-called.ensures) in
    let kept = calls.alternative in
    met-answered a.direction c.args.kind a.piece a.target.now a.place.0 c.args.probes reference bases
    _ _ c.args.buffers.now.reference.now _ c.args.buffers.now.alternative.now _
    (sym (c.if-leaves_target.ensures reference bases size many))
    (called-kept a.target.now a.alternative.now.bytes a.alternative.now.head a.alternative.now.count c.last_base_rule-ended.result (omega arith) ∙ calls.says)
    c.build_result_construct.ensures.met
