-- The words that were cut from a text.
use Rattle.std.specs.Prelude.{◌≡◌, List, length, take, Some, None, Ok, Err, vec_items, Option, Result}
use Rattle.words.specs.declared.word.Word.{Word}
use Rattle.words.specs.declared.wordlist.WordList.{WordList}

-- The list has the first 200 of the words, and counts them all.
pub record Holds (ws : List Word) (l : WordList) : Type 0 where
  pub words_are : vec_items l.words ≡ take 200 ws
  pub count_is : l.count ≡ length ws

-- The text has words, and the list has them; or it has a byte that is in no word.
abbrev pub Cut : {A E : Type 0} → Option (List Word) → WordList → Result A E → Type 0
Cut o l (Ok u) = (ws : List Word) × (o ≡ Some ws) × Holds ws l
Cut o l (Err e) = o ≡ None
