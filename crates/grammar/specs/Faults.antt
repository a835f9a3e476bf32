-- The first word at fault.
use Rattle.std.specs.Prelude.{◌≡◌, ℕ, ◌+◌, ◌<◌, ◌≤◌, List, ◌++◌, length, take}
use Rattle.temporal.specs.Formula.{Formula}
use Rattle.words.specs.declared.word.Word.{Word}
use Rattle.grammar.specs.Grammar.{Reads}

-- The word at k, from 0, is the first at fault: the words before it go on to some rule, and no rule begins with the words
-- up to and including it. The end counts as one more word.
pub record Misplaced (ws : List Word) (k : ℕ) : Type 0 where
  pub inside : k ≤ length ws
  pub before : (r : List Word) × (f : Formula) × Reads 0 (take k ws ++ r) f
  pub word : k < length ws → (r : List Word) (f : Formula) → Reads 0 (take (k + 1) ws ++ r) f → ⊥
  pub end : k ≡ length ws → (f : Formula) → Reads 0 ws f → ⊥
