use Rattle.parts.proofs.Making.{sound_in}
use Rattle.parts.proofs.Shaping.{until_way}
use Rattle.parts.proofs.lent.Lent.binary_shape.Goals as goal

pub returns-in-Until : goal.returns-in-Until
returns-in-Until c = until_way _ _ _ _ (sound_in c.args.self.now) c.requires.x c.requires.y c.in-Until.is
