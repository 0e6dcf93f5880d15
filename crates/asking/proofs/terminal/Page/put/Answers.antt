-- The front of the text is copied behind the bytes that are used.
use Rattle.std.proofs.Common.{refl, sym, arith}
use Rattle.asking.proofs.Pages.{none_fits, cut}
use Rattle.asking.proofs.terminal.Page.put.Goals as goal

pub returns-then-size-gt0 : goal.returns-then-size-gt0
returns-then-size-gt0 c =
    record { held = cut c.args.text.now c.args.self.now.bytes.now _ c.args.self.now.used _ _ (omega arith) (omega arith) (omega arith) c.copy_from_slice.ensures.after; same_buffer = refl }

pub returns-else-size-gt0 : goal.returns-else-size-gt0
returns-else-size-gt0 c =
    record { held = sym (none_fits c.args.text.now c.args.self.now.bytes.now c.args.self.now.used (omega arith)); same_buffer = refl }
