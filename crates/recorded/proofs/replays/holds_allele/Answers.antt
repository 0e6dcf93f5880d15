-- What the buffer has to hold is written out, and compared with it.
use Rattle.std.proofs.Common.{arith, ◌∙◌}
use Rattle.recorded.proofs.Held.{other-size, too_long, compared}
use Rattle.recorded.proofs.replays.holds_allele.Goals as goal

pub returns-then-allele-size : goal.returns-then-allele-size
returns-then-allele-size c = other-size c.args.allele.now c.args.buffer.now c.args.size (λ e. omega arith)

pub returns-then-size-gt-ANSWER_ROOM : goal.returns-then-size-gt-ANSWER_ROOM
returns-then-size-gt-ANSWER_ROOM c =
    too_long c.args.allele.now c.args.buffer.now c.args.size (omega arith) (omega arith) (omega arith)

pub returns : goal.returns
returns c =
    compared c.args.allele.now c.args.buffer.now c.args.size (omega arith) _ (c.as_slice.ensures ∙ c.holding.ensures) c.eq.ensures
