-- The grammar of a rule. Levels go from loosest to tightest:
--   0  f -> g    1  f | g    2  f & g    3  f U g    4  ! X F G    5  true, false, a signal, a rule in brackets
use Rattle.std.specs.Prelude.{ℕ, suc, List, [], ◌∷◌, ◌++◌}
use Rattle.temporal.specs.Formula.{Formula}
use Rattle.temporal.specs.Formula.Op.{and, or}
use Rattle.temporal.specs.Formula.Formula.{const, signal, neg, join, until}
use Rattle.parts.specs.declared.part.Unary.{Unary}
use Rattle.parts.specs.Places.{one}
use Rattle.words.specs.declared.word.Leaf.{Leaf}
use Rattle.words.specs.declared.word.Leaf.TheVariants.{Const, Signal}
use Rattle.words.specs.declared.word.Connective.{Connective}
use Rattle.words.specs.declared.word.Connective.TheVariants.{Implies, Or, And, Until}
use Rattle.words.specs.declared.word.Word.{Word}
use Rattle.words.specs.declared.word.Word.TheVariants.{Atom, Prefix, Infix, Open, Close}

-- The formula of a leaf.
abbrev pub leaf : Leaf → Formula
leaf (Const b) = const b
leaf (Signal p) = signal p

-- What a word between two formulas makes of them: `f -> g` is `(!f) | g`.
abbrev pub connect : Connective → Formula → Formula → Formula
connect Implies f g = join or (neg f) g
connect Or f g = join or f g
connect And f g = join and f g
connect Until f g = until f g

-- The level of a word between two formulas.
abbrev pub level : Connective → ℕ
level Implies = 0
level Or = 1
level And = 2
level Until = 3

-- Reads n ws f: the words ws, at level n, are the formula f.
pub data Reads : ℕ → List Word → Formula → Type 0 where
  -- a leaf, alone
  alone : (a : Leaf) → Reads 5 (Atom a ∷ []) (leaf a)
  -- a rule in brackets
  within : {ws : List Word} {f : Formula} → Reads 0 ws f → Reads 5 (Open ∷ (ws ++ (Close ∷ []))) f
  -- a prefix before what may have prefixes itself
  sign : (u : Unary) {ws : List Word} {f : Formula} → Reads 4 ws f → Reads 4 (Prefix u ∷ ws) (one u f)
  -- what is tighter on the left, the same level on the right: it groups to the right
  between : (o : Connective) {ws vs : List Word} {f g : Formula} → Reads (suc (level o)) ws f → Reads (level o) vs g → Reads (level o) (ws ++ (Infix o ∷ vs)) (connect o f g)
  -- what is tighter may stand where a looser one may
  tighter : {n : ℕ} {ws : List Word} {f : Formula} → Reads (suc n) ws f → Reads n ws f
