use Rattle.std.proofs.Common.{map, vec_items, sym, ap, ◌∙◌, rules}
use Rattle.words.specs.Named.{name_bytes}
use Rattle.roster.specs.Rosters.{entries, post_name}
use Rattle.roster.proofs.Standing.{labels, stands_post, stands_signal}
use Rattle.roster.proofs.roster.Roster.stands.Goals as goal

pub returns-then-is_among : goal.returns-then-is_among
returns-then-is_among c =
    let stood = stands_post (entries c.args.self.now) c.args.name.now _ (ap (map post_name) c.posts.ensures.items) c.if-is_among.ensures in
    search (rules, stood)

pub returns-else-is_among : goal.returns-else-is_among
returns-else-is_among c =
    c.is_among-else-is_among.ensures
    ∙ stands_signal (entries c.args.self.now) c.args.name.now _ _ (ap (map post_name) c.posts.ensures.items) (ap (map (λ s. name_bytes s.name)) c.signals.ensures.items ∙ sym (labels (vec_items c.args.self.now.signals))) c.if-is_among.ensures
