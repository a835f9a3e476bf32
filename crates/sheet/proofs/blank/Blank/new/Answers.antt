use Rattle.std.proofs.Common.{length, vec_items, ap, rules, arith}
use Rattle.std.proofs.lemmas.List.{length-map}
use Rattle.roster.specs.Rosters.{post_name, owned}
use Rattle.sheet.proofs.blank.Blank.new.Goals as goal

pub invariant_of-result : goal.invariant_of-result
invariant_of-result c =
    let r = c.in_ok-roster.roster in
    let none = c.in_ok-roster.ensures in
    let p = ap (λ e. length e.posts) none in
    let s = ap (λ e. length e.signals) none in
    record {
      no_posts = omega (arith, p, length-map (vec_items r.posts) post_name, r.posts.ok.0);
      no_signals = omega (arith, s, length-map (vec_items r.signals) owned, r.signals.ok.0);
      no_rule = search rules;
      spare = search rules;
    }
