use Rattle.temporal.proofs.laws.earliest_is_first.Goals as goal
use Rattle.temporal.proofs.Firsts.{earliest_is_first}

pub returns : goal.returns
returns c = earliest_is_first
