use Rattle.std.proofs.Common.{rules}
use Rattle.parts.proofs.Making.{sound_in}
use Rattle.parts.proofs.Shaping.{const_tested}
use Rattle.parts.proofs.lent.Lent.is_const.Goals as goal

pub returns : goal.returns
returns c = const_tested _ _ _ c.eq.result (sound_in c.args.self.now) c.requires (search rules)
