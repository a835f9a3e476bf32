use Rattle.std.proofs.Common.{◌≡◌, map, ◌∙◌, rules, tests}
use Rattle.std.proofs.lemmas.Iterator.{YieldsList-from_slice}
use Rattle.std.proofs.lemmas.Iterator.Search.{position_from_yields_List}
use Rattle.std.specs.List.{position}
use Rattle.std.specs.Str.{bytes_eq}
use Rattle.words.proofs.Places.{position_map}
use Rattle.words.proofs.named.place_of.Goals as goal

pub returns-clause-value : goal.returns-clause-value
returns-clause-value g c =
    let found : c.position.result ≡ position (λ n. bytes_eq c.args.text.now n) (map g.T.Named.label c.args.items.now) =
    position_from_yields_List (λ x. bytes_eq c.args.text.now (g.T.Named.label x)) _ _ _ c.position.ensures.ran (YieldsList-from_slice c.args.items.now cc) (λ x b q k. search (rules, tests))
    ∙ position_map g.T.Named.label c.args.text.now c.args.items.now in
    search (rules, found)
