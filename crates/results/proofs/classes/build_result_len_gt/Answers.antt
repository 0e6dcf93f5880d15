use Rattle.std.proofs.Common.{arith, ℕ, sym, ap₂, subst}
use Rattle.definition.specs.declared.Class.TheVariants.{Insertion}
use Rattle.definition.specs.Answer.{copy_beside, copy_start}
use Rattle.alleles.specs.Held.{held}
use Rattle.alleles.proofs.Laws.{window-length}
use Rattle.results.proofs.CopiesLaws.{found_none}
use Rattle.results.specs.Called.{CallsAt, unanchored}
use Rattle.results.proofs.Names.{calls-insertion}
use Rattle.results.proofs.classes.build_result_len_gt.Goals as goal

pub returns-in-None : goal.returns-in-None
returns-in-None c =
    let a = c.args.change.now in
    let s = c.requires.settled in
    let ins = held a.alternative.now in
    let many = window-length a.alternative.now.bytes a.alternative.now.head a.alternative.now.count in
    let f = found_none (copy_beside a.direction a.piece a.target.now a.place.0 ins) (copy_start a.direction a.place.0 a.alternative.now.count) _
    c.copy_beside.ensures c.in-None.is in
    subst (CallsAt a.direction a.piece a.target.now a.place.0 a.reference_size ins)
    (sym (ap₂ (λ (start end : ℕ). unanchored Insertion start end a.place.0 0 a.alternative.now.count) c.before_gap.ensures c.one_based.ensures))
    (calls-insertion a.direction a.piece a.target.now ins a.place.0 a.reference_size a.alternative.now.count
    s.in_target s.reference many (omega arith) (omega arith) f)
