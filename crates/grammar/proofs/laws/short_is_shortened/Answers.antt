use Rattle.grammar.proofs.laws.short_is_shortened.Goals as goal
use Rattle.grammar.proofs.Shortened.{short_is_shortened}

pub returns : goal.returns
returns c = short_is_shortened
