use Rattle.std.proofs.Common.{sym, ap, arith, rules}
use Rattle.words.specs.Texts.{constant_of}
use Rattle.words.proofs.Lists.{spells_false}
use Rattle.words.proofs.cutting.constant.Goals as goal

pub returns-in-false : goal.returns-in-false
returns-in-false c = ap constant_of (sym (spells_false c.args.run.now (omega arith) (omega arith) (search rules) (search rules) (search rules) (search rules) (search rules)))
