use Rattle.std.proofs.Common.{sym, ap, arith, rules}
use Rattle.words.specs.Names.{among, reserved}
use Rattle.words.proofs.Lists.{spells_false}
use Rattle.words.proofs.naming.is_reserved.Goals as goal

pub returns-in-post-4 : goal.returns-in-post-4
returns-in-post-4 c = ap (λ bs. among bs reserved) (sym (spells_false c.args.bytes.now (omega arith) (omega arith) (search rules) (search rules) (search rules) (search rules) (search rules)))
