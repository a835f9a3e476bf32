use Rattle.std.proofs.Common.{◌≡◌, ◌≤◌, ◌<◌, rules, true, false, length, refl, ap, ◌∙◌, sym, arith}
use Rattle.temporal.specs.Parts.{parts, final}
use Rattle.parts.specs.Places.{formula, formulas}
use Rattle.rule.specs.Rules.{all_plain}
use Rattle.parts.specs.Tables.{parts_of}
use Rattle.parts.proofs.Places.{formulas_length}
use Rattle.compact.specs.Compacts.{formula_of}
use Rattle.compact.proofs.Compacting.{whole_walk, last_walked, became_ok, became_it}
use Rattle.rule.proofs.Ruling.{misfit_parts, misfit_leaf, misfit_none}
use Rattle.rule.proofs.rule.Rule.become_part.Goals as goal

pub returns-then-used-gt-RULE_PARTS : goal.returns-then-used-gt-RULE_PARTS
returns-then-used-gt-RULE_PARTS c = (
  misfit_parts _ (formula (parts_of c.args.table.now) c.args.at) (omega (arith, c.if-signals-gt-SIGNALS.false))
      (omega (arith, ap length c.number.ensures, formulas_length (parts_of c.number.new.self.out), c.used.ensures, c.if-used-gt-RULE_PARTS.true)),
  refl,
)

pub returns-then-not-are_plain : goal.returns-then-not-are_plain
returns-then-not-are_plain c =
    let judged : false ≡ all_plain c.args.signals (formulas (parts_of c.number.new.self.out)) = search rules in (
      misfit_leaf _ (formula (parts_of c.args.table.now) c.args.at) (omega (arith, c.if-signals-gt-SIGNALS.false))
          (omega (arith, ap length c.number.ensures, formulas_length (parts_of c.number.new.self.out), c.used.ensures, c.if-used-gt-RULE_PARTS.false))
          (judged ∙ ap (all_plain c.args.signals) c.number.ensures),
      refl,
    )

pub become_numbered-requires : goal.become_numbered-requires
become_numbered-requires c = whole_walk _ (formula (parts_of c.args.table.now) c.args.at) (search rules)

pub unwrap-requires : goal.unwrap-requires
unwrap-requires c =
    became_ok c.args.self.now.formula c.become_numbered.new.self (final (formulas (parts_of c.number.new.self.out))) c.become_numbered.result
    (omega (
      arith,
      ap (λ f. length (parts f)) (last_walked (parts_of c.number.new.self.out) (formula (parts_of c.args.table.now) c.args.at) c.number.ensures),
      ap length c.number.ensures,
      formulas_length (parts_of c.number.new.self.out),
      c.used.ensures,
      c.if-used-gt-RULE_PARTS.false,
    ))
    (search rules)

pub invariant_of-self : goal.invariant_of-self
invariant_of-self c =
    let e : formula_of c.become_numbered.new.self ≡ (formula (parts_of c.args.table.now) c.args.at) =
    became_it c.args.self.now.formula c.become_numbered.new.self _ c.become_numbered.result c.become_numbered.ensures (search rules)
    ∙ last_walked (parts_of c.number.new.self.out) (formula (parts_of c.args.table.now) c.args.at) c.number.ensures in
    let judged : true ≡ all_plain c.args.signals (formulas (parts_of c.number.new.self.out)) = search rules in
    record {
      few = omega (arith, c.if-signals-gt-SIGNALS.false);
      small = omega (arith, ap (λ f. length (parts f)) e, ap length c.number.ensures, formulas_length (parts_of c.number.new.self.out), c.used.ensures, c.if-used-gt-RULE_PARTS.false);
      plain = ap (λ f. all_plain c.args.signals (parts f)) e ∙ sym (judged ∙ ap (all_plain c.args.signals) c.number.ensures);
    }

pub returns : goal.returns
returns c =
    let judged : true ≡ all_plain c.args.signals (formulas (parts_of c.number.new.self.out)) = search rules in (
      misfit_none _ (formula (parts_of c.args.table.now) c.args.at) (omega (arith, c.if-signals-gt-SIGNALS.false))
          (omega (arith, ap length c.number.ensures, formulas_length (parts_of c.number.new.self.out), c.used.ensures, c.if-used-gt-RULE_PARTS.false))
          (judged ∙ ap (all_plain c.args.signals) c.number.ensures),
      became_it c.args.self.now.formula c.become_numbered.new.self _ c.become_numbered.result c.become_numbered.ensures (search rules)
          ∙ last_walked (parts_of c.number.new.self.out) (formula (parts_of c.args.table.now) c.args.at) c.number.ensures,
      refl,
    )
