use Rattle.std.proofs.Common.{◌∙◌}
use Rattle.compact.proofs.Compacting.{counted}
use Rattle.compact.proofs.compact.Compact.count.Goals as goal

pub returns-clause-parts : goal.returns-clause-parts
returns-clause-parts c = c.used.ensures ∙ counted c.args.self.now
