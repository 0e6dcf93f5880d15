-- What the rows that were passed say is what the answer asks.
use Rattle.std.proofs.Common.{sym, ◌∙◌}
use Rattle.normalizer.proofs.LaterRows.{lengths-inside, tables-inside}
use Rattle.normalizer.proofs.verdicts.normalize_range.Goals as goal

pub answer_passed-requires-clause-passed : goal.answer_passed-requires-clause-passed
answer_passed-requires-clause-passed c =
    let lengths = lengths-inside _ _ _ _ (sym c.too_long.ensures ∙ c.in_ok-refuse_if-2.ensures) in
    record {
      ordered = c.requires.ordered;
      in_target = c.requires.in_target;
      short = c.requires.short;
      range = lengths.0;
      read = record { fits = sym c.bad_insertion.ensures ∙ c.in_ok-refuse_if.ensures; size = lengths.1 };
      some = c.requires.some;
      most = c.requires.most;
      tables = tables-inside c.args.query.now.kind c.args.query.now.exons.now _ _ _ (sym c.bad_tables.ensures ∙ c.in_ok-refuse_if-5.ensures);
    }
