use Rattle.std.proofs.Common.{rules, length, refl, ap, arith}
use Rattle.temporal.specs.Parts.{final}
use Rattle.parts.specs.Places.{formulas}
use Rattle.parts.specs.Tables.{parts_of}
use Rattle.parts.proofs.Places.{formulas_length}
use Rattle.compact.proofs.Compacting.{adopted}
use Rattle.compact.proofs.compact.Compact.become_numbered.Goals as goal

pub returns-then-used-gt-MOST : goal.returns-then-used-gt-MOST
returns-then-used-gt-MOST c =
    let out = parts_of c.args.numbering.now.out in
    (omega (arith, ap length c.requires, formulas_length out, c.used.ensures, c.if-used-gt-MOST.true), refl)

pub invariant_of-self : goal.invariant_of-self
invariant_of-self c =
    let out = parts_of c.args.numbering.now.out in
    let a = adopted (final (formulas out)) (parts_of c.adopt.new.self) out c.used.result c.requires (search rules) (search rules) (omega (arith, c.if-used-gt-MOST.false)) in
    record { some = a.0; few = a.1; walked = a.2 }

pub returns : goal.returns
returns c =
    let out = parts_of c.args.numbering.now.out in
    (adopted (final (formulas out)) (parts_of c.adopt.new.self) out c.used.result c.requires (search rules) (search rules) (omega (arith, c.if-used-gt-MOST.false))).3
