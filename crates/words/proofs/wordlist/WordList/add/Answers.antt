use Rattle.std.proofs.Common.{◌<◌, ◌≤◌, length, vec_items, ◌∙◌, arith}
use Rattle.std.proofs.lemmas.List.{length_push}
use Rattle.words.proofs.Held.{grows, stays}
use Rattle.words.proofs.wordlist.WordList.add.Goals as goal

pub returns-then-len-lt-MOST_WORDS-clause-words : goal.returns-then-len-lt-MOST_WORDS-clause-words
returns-then-len-lt-MOST_WORDS-clause-words c =
    let xs = vec_items c.args.self.now.words in
    let room : length xs < 200 = omega (arith, c.args.self.now.words.ok.0, c.len.ensures) in
    λ ws h. record { words_are = c.push_reserved.ensures.items ∙ grows ws xs c.args.word h.words_are room; count_is = omega (arith, h.count_is, length_push ws c.args.word) }

pub returns-else-len-lt-MOST_WORDS-clause-words : goal.returns-else-len-lt-MOST_WORDS-clause-words
returns-else-len-lt-MOST_WORDS-clause-words c =
    let xs = vec_items c.args.self.now.words in
    let full : 200 ≤ length xs = omega (arith, c.args.self.now.words.ok.0, c.len.ensures) in
    λ ws h. record { words_are = stays ws xs c.args.word h.words_are full; count_is = omega (arith, h.count_is, length_push ws c.args.word) }
