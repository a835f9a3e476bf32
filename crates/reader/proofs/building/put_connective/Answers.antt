use Rattle.std.proofs.Common.{rules, ap, arith}
use Rattle.parts.specs.Places.{formula}
use Rattle.parts.specs.Tables.{parts_of}
use Rattle.parts.proofs.Making.{made_by, made_then, stood}
use Rattle.grammar.specs.Machine.{connectˢ}
use Rattle.reader.proofs.building.put_connective.Goals as goal

pub returns-in-Implies : goal.returns-in-Implies
returns-in-Implies c =
    let ps = parts_of c.args.table.now in
    let negated = made_by _ _ _ _ _ c.unary.ensures c.unwrap-not_x.ensures in
    let right = stood 1 _ _ _ _ c.args.y negated c.requires.y in
    let by = ap (λ o. connectˢ o (formula ps c.args.x) (formula ps c.args.y)) c.in-Implies.is in
    made_then 2 1 1 ps _ _ _ _ _ _ _ (omega arith) negated (made_by _ _ _ _ _ c.binary.ensures (search rules))
    (cc (negated.stands.formula_is, right, by))
