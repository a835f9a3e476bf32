use Rattle.grammar.proofs.laws.raw_means.Goals as goal
use Rattle.grammar.proofs.Readings.{raw_means}

pub returns : goal.returns
returns c = raw_means
