use Rattle.temporal.proofs.laws.shortened_is_owed.Goals as goal
use Rattle.temporal.proofs.Owed.{shortened_is_owed}

pub returns : goal.returns
returns c = shortened_is_owed
