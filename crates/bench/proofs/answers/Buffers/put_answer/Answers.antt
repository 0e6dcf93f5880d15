-- The six puts are one.
use Rattle.asking.proofs.Pages.{then}
use Rattle.bench.proofs.answers.Buffers.put_answer.Goals as goal

pub returns : goal.returns
returns c =
    then (then (then c.put_class.ensures (then c.put.ensures c.put_range.ensures)) c.put_alleles.ensures)
    (then c.put-2.ensures c.put_number.ensures)
