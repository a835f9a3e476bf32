use Rattle.std.proofs.Common.{false, subst, arith}
use Rattle.temporal.specs.Formula.Formula.{const}
use Rattle.parts.specs.Places.{formula, Interned}
use Rattle.parts.specs.Tables.{parts_in, parts_of}
use Rattle.parts.proofs.Places.{node_same}
use Rattle.parts.proofs.table.Table.leaf.Goals as goal

pub returns : goal.returns
returns c =
    subst (λ f. Interned (parts_of c.args.self.now) (parts_in c.intern.new.self) f c.intern.result)
    (node_same (formula (parts_of c.args.self.now)) (λ _. const false) 0 (λ k h. absurd (omega arith)) c.args.part (omega (arith, c.requires)))
    c.intern.ensures.interned
