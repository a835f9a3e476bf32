use Rattle.grammar.proofs.laws.one_formula.Goals as goal
use Rattle.grammar.proofs.Readings.{one_formula}

pub returns : goal.returns
returns c = one_formula
