-- The two share no more than the window behind the empty one.
use Rattle.std.proofs.Common.{◌≤◌, arith}
use Rattle.definition.proofs.Prefixes.{lcp-le-right}
use Rattle.alleles.specs.Held.{held}
use Rattle.alleles.proofs.Laws.{window-length}
use Rattle.allele_rounds.proofs.by_value.Goals as goal

pub keep_front-reference-requires-clause-first_le_count :
    goal.keep_front-reference-requires-clause-first_le_count
keep_front-reference-requires-clause-first_le_count c =
    let t = c.trim_front-trimmed.ensures in
    let first = c.push_back-longer.result in
    let second = c.push_back-other.result in
    let long = window-length second.bytes second.head second.count in
    let fits : c.trim_front-trimmed.result.count ≤ 20 =
    omega (arith, t.count, lcp-le-right (held first) (held second), long, c.push_back-other.ensures.count) in
    omega (arith, fits, t.left.count)
