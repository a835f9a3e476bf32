use Rattle.std.proofs.Common.{◌≡◌, false, not, map, vec_items, vec_len, rules, ap}
use Rattle.rule.specs.Ruled.{rule_formula}
use Rattle.roster.specs.Rosters.{entries}
use Rattle.sheet.specs.Texts.{is_rule_line}
use Rattle.sheet.proofs.Lines.{as_post_line, passes_unruled}
use Rattle.sheet.proofs.Spares.{counted, over_unruled}
use Rattle.sheet.proofs.reading.Reading.read_line.Goals as goal

pub returns-in-None : goal.returns-in-None
returns-in-None c =
    let b = c.args.self.now in
    let items = vec_items b.rules in
    let begun : is_rule_line c.args.text.now ≡ false = search rules in
    let some = ap not (counted rule_formula items (vec_len b.rules) b.rules.ok.0) in
    let drafted = as_post_line (entries b.roster) (entries c.read_post.new.self) (map rule_formula items) _ c.args.line c.args.text.now _ c.read_post.ensures (cc (some)) begun in (
      drafted,
      passes_unruled _ (entries b.roster) (entries c.read_post.new.self) _ c.args.line c.args.text.now _ c.read_post.ensures
          (λ q. record { one = c.requires.one; over = over_unruled items (vec_len c.read_post.new.self.signals) (let k = q in cc (some, k)) }),
    )
