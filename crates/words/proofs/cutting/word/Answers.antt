use Rattle.std.proofs.Common.{length, ap, ◌∙◌, rules}
use Rattle.std.specs.Option.{unwrap_or}
use Rattle.words.specs.declared.word.Leaf.TheVariants.{Signal}
use Rattle.words.specs.declared.word.Word.TheVariants.{Atom}
use Rattle.words.proofs.Places.{word_named}
use Rattle.words.proofs.cutting.word.Goals as goal

pub returns : goal.returns
returns g c =
    ap (λ k. Atom (Signal k)) (c.unwrap_or-place.ensures ∙ ap (λ o. unwrap_or o (length c.args.signals.now)) c.place_of.ensures.value)
    ∙ word_named g.T.Named.label c.args.signals.now c.args.run.now (search rules) (search rules)
