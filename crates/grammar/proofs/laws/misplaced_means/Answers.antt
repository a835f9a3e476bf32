use Rattle.grammar.proofs.laws.misplaced_means.Goals as goal
use Rattle.grammar.proofs.Faults.{misplaced_means}

pub returns : goal.returns
returns c = misplaced_means
