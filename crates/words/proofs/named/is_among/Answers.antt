use Rattle.std.proofs.Common.{◌∙◌, rules, tests}
use Rattle.std.proofs.lemmas.Iterator.{YieldsList-from_slice}
use Rattle.std.proofs.lemmas.Iterator.Search.{any_from_yields_List}
use Rattle.std.specs.Str.{bytes_eq}
use Rattle.words.proofs.Places.{among_map}
use Rattle.words.proofs.named.is_among.Goals as goal

pub returns : goal.returns
returns g c =
    any_from_yields_List (λ x. bytes_eq c.args.text.now (g.T.Named.label x)) _ _ c.any.result c.any.ensures.ran (YieldsList-from_slice c.args.items.now cc) (λ x b q k. search (rules, tests))
    ∙ among_map g.T.Named.label c.args.text.now c.args.items.now
