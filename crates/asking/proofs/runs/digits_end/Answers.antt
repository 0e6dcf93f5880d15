-- The digits taken from the front are those that the definition takes.
use Rattle.std.proofs.Common.{◌≡◌, ◌+◌, drop, sym, ap, ◌∙◌, rules, tests}
use Rattle.std.proofs.lemmas.Iterator.{YieldsList-from_slice}
use Rattle.std.proofs.lemmas.Iterator.Consumers.{count_from_yields_List}
use Rattle.std.proofs.lemmas.Iterator.Search.{YieldsList-from_take_while}
use Rattle.std.proofs.lemmas.List.{take_rest}
use Rattle.std.proofs.lemmas.List.Folds.{length-prefix_len}
use Rattle.asking.specs.Runs.{is_digit}
use Rattle.asking.proofs.RunsDigits.{digits-counted}
use Rattle.asking.proofs.runs.digits_end.Goals as goal

pub returns-clause-value : goal.returns-clause-value
returns-clause-value c =
    let rest = drop c.args.from c.args.field.now in
    let at : c.iter.result.rest.now ≡ rest = c.iter.ensures.rest ∙ take_rest c.args.field.now c.args.from in
    let before : c.take_while-digits.result.iter.rest.now ≡ rest = ap (λ i. i.rest.now) c.take_while-digits.ensures.source ∙ at in
    let counted =
    count_from_yields_List c.take_while-digits.result _ c.count.ensures.ran
    (YieldsList-from_take_while _ is_digit (YieldsList-from_slice rest before) c.take_while-digits.ensures.closure c.take_while-digits.ensures.done
    (λ x b q k. search (rules, tests))) in
    ap (λ n. c.args.from + n) (counted ∙ length-prefix_len is_digit rest ∙ sym (digits-counted rest))
