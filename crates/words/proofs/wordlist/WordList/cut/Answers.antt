use Rattle.std.proofs.Common.{◌≡◌, [], ◌∷◌, ◌++◌, map, None, sym, ◌∙◌, arith, rules}
use Rattle.words.specs.Texts.{word_of, words_of}
use Rattle.words.specs.declared.word.Connective.TheVariants.{Implies}
use Rattle.words.specs.declared.word.Word.TheVariants.{Infix}
use Rattle.words.proofs.Cuts.{cut_arrow, cut_foreign, cut_run, cut_sign, run_some}
use Rattle.words.proofs.wordlist.WordList.cut.Goals.{then-rest-lt2+in_default-1, else-rest-lt2+in-45+in_default-1, else-rest-lt2+in_default-1}
use Rattle.words.proofs.wordlist.WordList.cut.Goals as goal

pub loop-rest-preserved-in-62-1 : goal.loop-rest-preserved-in-62-1
loop-rest-preserved-in-62-1 g c =
    let inv = c.loop-rest.invariant in
    let w = word_of (map g.T.Named.label c.args.signals.now) in
    let kept = cut_arrow w inv.so_far c.loop-rest.rest.now (search rules) (search rules) (search rules) ∙ inv.all in record {
      so_far = inv.so_far ++ Infix Implies ∷ [];
      holds = c.add.ensures.words inv.so_far inv.holds;
      all = search (rules, kept);
      fits = search rules;
    }

pub loop-rest-preserved-then-is_name_byte : goal.loop-rest-preserved-then-is_name_byte
loop-rest-preserved-then-is_name_byte g c =
    let inv = c.loop-rest.invariant in
    let w = word_of (map g.T.Named.label c.args.signals.now) in record {
      so_far = inv.so_far ++ c.word.result ∷ [];
      holds = c.add-in-len1-up.ensures.words inv.so_far inv.holds;
      all = cut_run w inv.so_far c.word.result c.loop-rest.rest.now c.split_at.result.0.now c.split_at.result.1.now c.run_len.result (search rules) (search rules) c.run_len.ensures.value c.split_at.ensures.front c.split_at.ensures.back c.word.ensures ∙ inv.all;
      fits = (let some = run_some w c.loop-rest.rest.now (search rules) (search rules) in omega (arith, some, inv.fits, c.run_len.ensures.value, c.split_at.ensures.back_len, c.add-in-len1-up.ensures.count));
    }

pub loop-rest-preserved : goal.loop-rest-preserved
loop-rest-preserved g c =
    let inv = c.loop-rest.invariant in
    let w = word_of (map g.T.Named.label c.args.signals.now) in record {
      so_far = _;
      holds = c.add-in-len1-up-2.ensures.words inv.so_far inv.holds;
      all = cut_sign w inv.so_far _ c.loop-rest.rest.now (search rules) (search rules) ∙ inv.all;
      fits = search rules;
    }

pub returns-in_err-ok_or-in-len1-up-2 : goal.returns-in_err-ok_or-in-len1-up-2
returns-in_err-ok_or-in-len1-up-2 g c =
    let inv = c.loop-rest.invariant in
    let names = map g.T.Named.label c.args.signals.now in
    let none = cut_foreign (word_of names) inv.so_far c.loop-rest.rest.now (search rules) (search rules) (search rules) (search rules) (λ l d t. elim c.in-len1-up-1.branch [
      | then-rest-lt2+in_default-1 w ↦ search rules
      | else-rest-lt2+in-45+in_default-1 w ↦ search rules
      | else-rest-lt2+in_default-1 w ↦ search rules
    ]) in
    let told : words_of names c.args.text.now ≡ None = sym inv.all ∙ none in
    search (rules, told)
