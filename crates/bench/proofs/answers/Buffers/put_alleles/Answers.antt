-- The four puts are one.
use Rattle.asking.proofs.Pages.{then}
use Rattle.bench.proofs.answers.Buffers.put_alleles.Goals as goal

pub returns : goal.returns
returns c = then c.put.ensures (then c.put_allele.ensures (then c.put-2.ensures c.put_allele-2.ensures))
