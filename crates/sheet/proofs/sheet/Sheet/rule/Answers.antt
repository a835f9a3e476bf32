use Rattle.std.proofs.Common.{◌≡◌, map, length, vec_items, ap, ◌∙◌, arith}
use Rattle.rule.specs.Ruled.{rule_formula}
use Rattle.sheet.proofs.Single.{single}
use Rattle.sheet.proofs.sheet.Sheet.rule.Goals as goal

pub returns : goal.returns
returns c =
    let rules = vec_items c.args.self.now.rules in
    let one : length rules ≡ 1 = omega (arith, c.args.self.now.rules.ok.0, c.args.self.now.one) in
    let alone = single rules c.index.result.now one c.index.ensures in
    record { formula = ap (map rule_formula) alone; signals = ap (λ r. r.signals) c.index.ensures ∙ c.args.self.now.over 0 c.index.result.now (omega arith) }
