use Rattle.std.proofs.Common.{refl}
use Rattle.rule.proofs.Ruling.{rule_owed}
use Rattle.rule.proofs.rule.Rule.formula.Goals as goal

pub returns : goal.returns
returns c =
    let t = c.args.self.now in record { formula = refl; owed = rule_owed t.formula t.signals t.plain }
