use Rattle.std.proofs.Common.{rules, ◌∙◌}
use Rattle.compact.proofs.Compacting.{constant_at, no_constant}
use Rattle.compact.proofs.compact.Compact.value.Goals as goal

pub returns-in-Const : goal.returns-in-Const
returns-in-Const c = search (rules, constant_at)

pub returns-in_default : goal.returns-in_default
returns-in_default c = no_constant c.args.self.now c.top.result (search rules) (λ b e. c.in_default.not-Const b (c.part.ensures ∙ e))
