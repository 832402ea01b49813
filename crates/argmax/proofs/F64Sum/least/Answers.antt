use Rattle.argmax.proofs.Lowest.{lowest-bits}
use Rattle.argmax.proofs.F64Sum.least.Goals as goal

pub returns : goal.returns
returns c = lowest-bits
