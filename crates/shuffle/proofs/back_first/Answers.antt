-- What is counted is what the definition trims leftward.
use Rattle.shuffle.proofs.Trimming.{back-first}
use Rattle.shuffle.proofs.back_first.Goals as goal

pub returns : goal.returns
returns c = back-first c.args.reference.now c.args.alternative.now c.trim_common_suffixes-back.ensures c.trim_common_prefixes-front.ensures
