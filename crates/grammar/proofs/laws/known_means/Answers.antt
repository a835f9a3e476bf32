use Rattle.grammar.proofs.laws.known_means.Goals as goal
use Rattle.grammar.proofs.Names.{known_means}

pub returns : goal.returns
returns c = known_means
