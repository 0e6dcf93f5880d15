-- What is counted is what the definition trims rightward.
use Rattle.shuffle.proofs.Trimming.{front-first}
use Rattle.shuffle.proofs.front_first.Goals as goal

pub returns : goal.returns
returns c = front-first c.args.reference.now c.args.alternative.now c.trim_common_prefixes-front.ensures c.trim_common_suffixes-back.ensures
