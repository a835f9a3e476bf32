use Rattle.std.proofs.Common.{◌≡◌, ◌+◌, ◌≤◌, List, map, length}
use Rattle.words.specs.Lists.{Holds}
use Rattle.words.specs.Texts.{before, words_of}
use Rattle.words.specs.declared.word.Word.{Word}
use Rattle.words.proofs.wordlist.WordList.cut.Given as goal

-- the words so far, and those of what is left, are all
abbrev pub invariant-loop-rest : goal.invariant-loop-rest
invariant-loop-rest g l = record {
  so_far : List Word;
  holds : Holds so_far l.self;
  all : before so_far (words_of (map g.T.Named.label l.signals) l.rest) ≡ words_of (map g.T.Named.label l.signals) l.text;
  fits : l.self.count + length l.rest ≤ length l.text;
}

abbrev pub decreases-loop-rest : goal.decreases-loop-rest
decreases-loop-rest g l = length l.rest
