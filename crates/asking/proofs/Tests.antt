-- The rules by which `search` answers a definition that goes by tests on numbers. Assumes nothing.
use borrow.Author.Rules.{rules}
use borrow.Author.Tests.{le-ltb, lt-ltb, le-leb, lt-leb, eq-eqb, ne_eqb}

pub ruleset tests = (rules, lt-ltb, le-ltb, le-leb, lt-leb, eq-eqb, ne_eqb)
