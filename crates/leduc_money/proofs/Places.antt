-- A test of some place of a list, for the tactics that the functions name.
use Rattle.prelude.proofs.Tests.{some_none, none_more, some_here}

pub ruleset passed = (some_none, none_more, some_here)
