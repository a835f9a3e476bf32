use Rattle.std.proofs.Common.{rules}
use Rattle.parts.proofs.Making.{sound_in}
use Rattle.parts.proofs.Shaping.{begun_tested, begun_no}
use Rattle.parts.proofs.lent.Lent.is_begun.Goals as goal

pub returns-in-Two : goal.returns-in-Two
returns-in-Two c = begun_tested _ _ _ _ c.eq.result c.in-Two.field-0 c.in-Two.field-1 c.in-Two.right (sound_in c.args.self.now) c.requires.x c.requires.y (search rules) (search rules)

pub returns-in_default : goal.returns-in_default
returns-in_default c = search (rules, sound_in, begun_no)
