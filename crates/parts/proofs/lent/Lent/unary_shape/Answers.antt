use Rattle.std.proofs.Common.{rules}
use Rattle.parts.proofs.Making.{sound_in}
use Rattle.parts.proofs.Shaping.{not_const_way, not_kept_way, time_way}
use Rattle.parts.proofs.lent.Lent.unary_shape.Goals as goal

pub returns-in-Const : goal.returns-in-Const
returns-in-Const c = search (rules, sound_in, not_const_way)

pub returns-in_default-part : goal.returns-in_default-part
returns-in_default-part c = search (rules, sound_in, not_kept_way)

pub returns-in_default : goal.returns-in_default
returns-in_default c = search (rules, sound_in, time_way)
