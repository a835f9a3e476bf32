use Rattle.rule.proofs.Ruling.{plain_means}
use Rattle.rule.proofs.plain.plain_means.Goals as goal

pub returns : goal.returns
returns c = plain_means
