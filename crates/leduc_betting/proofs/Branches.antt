-- What the branches of a test that is made of tests come to, for the tactics that the functions name.
use borrow.Author.Tests.{eq-eqb, ne_eqb, le-leb, lt-leb, lt-ltb, le-ltb}
use Rattle.prelude.proofs.Tests.{both, and_left_fails, and-rest, or_left, or_rest, neither}

pub ruleset branches = (both, and_left_fails, and-rest, or_left, or_rest, neither, eq-eqb, ne_eqb, le-leb, lt-leb, lt-ltb, le-ltb)
