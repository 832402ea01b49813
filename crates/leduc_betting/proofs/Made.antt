-- What a step makes of an action, for the tactics that the functions name.
use borrow.Author.Tests.{lt-ltb, le-ltb}
use Rattle.leduc_betting.proofs.Histories.{may_fold, may_raise, may-other, may-small, options_as}

pub ruleset made = (may_fold, may_raise, may-other, may-small)

pub ruleset listed = (options_as, lt-ltb, le-ltb)
