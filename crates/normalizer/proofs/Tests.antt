-- The rules by which a search reads a chain of tests on numbers. Assumes nothing.
use borrow.Author.Rules.{rules}
use borrow.Author.Tests.{le-ltb, lt-ltb, le-leb, lt-leb, eq-eqb, ne_eqb}

pub ruleset tests = (rules, lt-ltb, le-ltb, le-leb, lt-leb, eq-eqb, ne_eqb)
