use Rattle.temporal.proofs.laws.runs_abound.Goals as goal
use Rattle.temporal.proofs.Meaning.{runs_abound}

pub returns : goal.returns
returns c = runs_abound
