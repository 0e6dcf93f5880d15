-- What the shuffle leaves is named as the definition names it.
use Rattle.shuffle.specs.Settled.{change}
use Rattle.normalizer.proofs.Moves.{moved_asked, moved-verdict}
use Rattle.normalizer.proofs.spelling.moved.Goals as goal

pub build_result-requires-clause-settled : goal.build_result-requires-clause-settled
build_result-requires-clause-settled c =
    let a = c.args in
    let m = c.normalize_alleles-moved in
    moved_asked a.direction a.kind a.piece a.target.now (change a.spelled) a.window c.requires.asked m.new.alleles.reference m.new.alleles.alternative
    m.result m.ensures c.requires.in_bounds.0 c.requires.in_bounds.1

pub returns-clause-met : goal.returns-clause-met
returns-clause-met c =
    let a = c.args in
    let m = c.normalize_alleles-moved in
    rw (← moved-verdict a.direction a.kind a.piece a.target.now (change a.spelled) a.window c.requires.asked m.new.alleles.reference
    m.new.alleles.alternative m.result m.ensures) c.build_result.ensures.met
