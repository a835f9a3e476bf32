use Rattle.std.proofs.Common.{◌≡◌, ℕ, Option, rules, ap, ◌∙◌, arith}
use Rattle.std.proofs.lemmas.List.{length-take-le}
use Rattle.temporal.specs.Parts.{walk}
use Rattle.parts.specs.Places.{formula, formulas}
use Rattle.parts.specs.Tables.{parts_of}
use Rattle.compact.proofs.Numbers.{none_yet, nothing}
use Rattle.compact.proofs.numbering.number.Goals as goal

pub walk-requires-clause-numbered : goal.walk-requires-clause-numbered
walk-requires-clause-numbered c =
    none_yet (parts_of c.args.table.now) c.fill.new.self _ _ _ (omega (arith, c.fill.ensures.len, length-take-le {A = Option ℕ}))
    (c.fill.ensures.after (λ y h. search rules)) (search rules)

pub returns-clause-walked : goal.returns-clause-walked
returns-clause-walked c =
    let written : formulas (parts_of c.walk.new.out) ≡ walk (formula (parts_of c.args.table.now) c.args.at) (formulas (parts_of c.cut.new.self)) =
    search rules in
    written ∙ ap (λ qs. walk (formula (parts_of c.args.table.now) c.args.at) (formulas qs)) c.cut.ensures
    ∙ ap (walk (formula (parts_of c.args.table.now) c.args.at)) nothing
