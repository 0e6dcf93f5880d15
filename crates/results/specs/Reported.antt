-- What an answer reports. Assumes nothing.
use Rattle.std.specs.Prelude.{ℕ}
use Rattle.definition.specs.Answer.{Named}
use Rattle.definition.specs.Verdict.{Answer}

-- what is named, and the probes that were counted in the move
abbrev pub reported : ℕ → Named → Answer
reported probes what = record { what = what; probes = probes }
