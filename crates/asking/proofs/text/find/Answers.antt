-- The first place that std finds is the definition's.
use Rattle.std.proofs.Common.{◌≡◌, eqb, drop, ◌∙◌, rules, tests}
use Rattle.std.specs.List.{position}
use Rattle.std.proofs.lemmas.List.{take_rest}
use Rattle.std.proofs.lemmas.Iterator.{YieldsList-from_slice}
use Rattle.std.proofs.lemmas.Iterator.Search.{position_from_yields_List}
use Rattle.asking.proofs.Found.{here, nowhere}
use Rattle.asking.proofs.text.find.Goals as goal

pub returns-in-Some-clause-value : goal.returns-in-Some-clause-value
returns-in-Some-clause-value c =
    let rest = YieldsList-from_slice _ (c.iter.ensures.rest ∙ take_rest c.args.text.now c.args.from) in
    let found : c.position.result ≡ position (λ x. eqb x c.args.byte) (drop c.args.from c.args.text.now) =
    position_from_yields_List (λ x. eqb x c.args.byte) _ _ c.position.result c.position.ensures.ran rest (λ x b q k. search (rules, tests)) in
    here c.args.text.now c.args.from c.args.byte c.if-text-from.false found _ c.in-Some.is

pub returns-in-None-clause-value : goal.returns-in-None-clause-value
returns-in-None-clause-value c =
    let rest = YieldsList-from_slice _ (c.iter.ensures.rest ∙ take_rest c.args.text.now c.args.from) in
    let found : c.position.result ≡ position (λ x. eqb x c.args.byte) (drop c.args.from c.args.text.now) =
    position_from_yields_List (λ x. eqb x c.args.byte) _ _ c.position.result c.position.ensures.ran rest (λ x b q k. search (rules, tests)) in
    nowhere c.args.text.now c.args.from c.args.byte c.if-text-from.false found c.in-None.is
