use Rattle.words.proofs.laws.words_mean.Goals as goal
use Rattle.words.proofs.Spelling.{words_mean}

pub returns : goal.returns
returns c = words_mean
