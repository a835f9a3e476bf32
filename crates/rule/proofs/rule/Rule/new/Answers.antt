use Rattle.std.proofs.Common.{false, length, ap, ◌∙◌, arith}
use Rattle.temporal.specs.Parts.{parts}
use Rattle.rule.specs.Rules.{all_plain}
use Rattle.rule.proofs.Ruling.{never_parts}
use Rattle.rule.proofs.rule.Rule.new.Goals as goal

pub invariant_of-result : goal.invariant_of-result
invariant_of-result c =
    let e = ap parts c.in_ok-formula.ensures ∙ never_parts false in
    record { few = omega arith; small = omega (arith, ap length e); plain = ap (all_plain 0) e }
