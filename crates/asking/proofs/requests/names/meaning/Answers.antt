use Rattle.std.proofs.Common.{◌≡◌, ◌∙◌, sym, ap, true, false}
use Rattle.definition.specs.Bases.{same_bases}
use Rattle.asking.proofs.Meanings.{found, passed, none}
use Rattle.asking.proofs.requests.names.meaning.Goals as goal

pub returns-then-eq : goal.returns-then-eq
returns-then-eq g c =
    let e : same_bases c.args.word.now c.loop-name-item.result.0.now ≡ true =
    sym (ap (λ x. same_bases c.args.word.now x) c.as_bytes.ensures.value) ∙ sym c.eq.ensures ∙ c.if-eq.true in
    found (λ row. (row.0.now, row.1)) c.args.rows.now c.args.word.now c.loop-name.name-index c.loop-name-item.result c.loop-name-test.true c.loop-name-item.is c.loop-name.invariant e

pub loop-name-preserved : goal.loop-name-preserved
loop-name-preserved g c =
    let e : same_bases c.args.word.now c.loop-name-item.result.0.now ≡ false =
    sym (ap (λ x. same_bases c.args.word.now x) c.as_bytes.ensures.value) ∙ sym c.eq.ensures ∙ c.if-eq.false in
    passed (λ row. (row.0.now, row.1)) c.args.rows.now c.args.word.now c.loop-name.name-index c.loop-name-item.result c.loop-name-test.true c.loop-name-item.is c.loop-name.invariant e

pub returns : goal.returns
returns g c = none (λ row. (row.0.now, row.1)) c.args.rows.now c.args.word.now c.loop-name.name-index c.loop-name-test.false c.loop-name.invariant
