use Rattle.std.proofs.Common.{◌≡◌, map, drop}
use Rattle.asking.specs.Names.{meant}
use Rattle.asking.proofs.requests.names.meaning.Given as goal

-- no row before the one that comes has the word
abbrev pub invariant-loop-name : goal.invariant-loop-name
invariant-loop-name g l =
    meant (map (λ row. (row.0.now, row.1)) (drop l.name-index l.rows)) l.word ≡ meant (map (λ row. (row.0.now, row.1)) l.rows) l.word
