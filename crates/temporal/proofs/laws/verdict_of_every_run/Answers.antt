use Rattle.temporal.proofs.laws.verdict_of_every_run.Goals as goal
use Rattle.temporal.proofs.Meaning.{verdict_of_every_run}

pub returns : goal.returns
returns c = verdict_of_every_run
