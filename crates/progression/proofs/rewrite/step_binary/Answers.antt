use Rattle.std.proofs.Common.{◌<◌, length, rules, sym, ap, ◌∙◌, ap₂, arith}
use Rattle.temporal.specs.Formula.Op.{or}
use Rattle.temporal.specs.Shorten.{joinˢ}
use Rattle.parts.specs.Places.{formula}
use Rattle.parts.specs.Tables.{parts_in}
use Rattle.progression.specs.Passes.{stepped_two}
use Rattle.parts.proofs.Making.{made_then, stood}
use Rattle.progression.proofs.rewrite.step_binary.Goals as goal

pub returns-in-Until-clause-made : goal.returns-in-Until-clause-made
returns-in-Until-clause-made c =
    let ps = parts_in c.args.lent.now in
    let d = c.put_binary-z.ensures.made in
    let y : c.args.y < length ps = search rules in
    made_then 2 1 1 ps _ _ _ _ _ _ _ (omega arith) d c.put_binary-in-Until.ensures.made
    (ap₂ (joinˢ or) (stood 1 ps _ _ _ c.args.y d y) d.stands.formula_is
    ∙ sym (ap (λ b. stepped_two b (formula ps c.args.at) (formula ps c.args.x) (formula ps c.args.y)) c.in-Until.is))
