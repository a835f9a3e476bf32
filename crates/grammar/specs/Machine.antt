-- A machine that reads a rule word by word, from the left, with any constructors for what it builds.
use Rattle.std.specs.Prelude.{ℕ, suc, cond, List, [], ◌∷◌, Some, None, Option, nat_le}
use Rattle.temporal.specs.Formula.{Formula}
use Rattle.temporal.specs.Formula.Op.{and, or}
use Rattle.temporal.specs.Shorten.{negˢ, joinˢ, untilˢ}
use Rattle.parts.specs.declared.part.Unary.{Unary}
use Rattle.parts.specs.Places.{one, oneˢ}
use Rattle.words.specs.declared.word.Connective.{Connective}
use Rattle.words.specs.declared.word.Connective.TheVariants.{Implies, Or, And, Until}
use Rattle.words.specs.declared.word.Word.{Word}
use Rattle.words.specs.declared.word.Word.TheVariants.{Atom, Prefix, Infix, Open, Close, Stray}
use Rattle.grammar.specs.Grammar.{leaf, connect, level}

-- The constructors: what a prefix makes of a formula, and a word between two of them.
pub record Signs : Type 0 where
  pub unary : Unary → Formula → Formula
  pub binary : Connective → Formula → Formula → Formula

-- As they stand.
abbrev pub raw : Signs
raw = record { unary = one; binary = connect }

-- What a word between two formulas makes of them, shortened.
abbrev pub connectˢ : Connective → Formula → Formula → Formula
connectˢ Implies f g = joinˢ or (negˢ f) g
connectˢ Or f g = joinˢ or f g
connectˢ And f g = joinˢ and f g
connectˢ Until f g = untilˢ f g

-- Shortening as they build.
abbrev pub short : Signs
short = record { unary = oneˢ; binary = connectˢ }

-- What waits for its operand: an open bracket, a prefix, or a word with the formula on its left.
pub data Held : Type 0 where
  opened : Held
  signed : Unary → Held
  halfway : Connective → Formula → Held

-- A formula is wanted, or one was read, with what waits, the latest first; or no rule can go on.
pub data State : Type 0 where
  want : List Held → State
  have : List Held → Formula → State
  stuck : State

-- A word between two formulas waits behind what is left.
abbrev pub waits : Connective → Formula × List Held → State
waits o p = want (halfway o p.0 ∷ p.1)

-- A closing bracket meets the last open one.
abbrev pub closing : Formula → List Held → State
closing f [] = stuck
closing f (opened ∷ s) = have s f
closing f (signed u ∷ s) = stuck
closing f (halfway o g ∷ s) = stuck

abbrev pub closed : Formula × List Held → State
closed p = closing p.0 p.1

-- The end is reached with nothing waiting.
abbrev pub ended : Formula → List Held → Option Formula
ended f [] = Some f
ended f (h ∷ s) = None

module _ (S : Signs) where
  -- What waits at level b or tighter takes its operand, back to the last open bracket.
  abbrev pub reduce : ℕ → Formula → List Held → Formula × List Held
  reduce b f [] = (f, [])
  reduce b f (opened ∷ s) = (f, opened ∷ s)
  reduce b f (signed u ∷ s) = reduce b (S.unary u f) s
  reduce b f (halfway o g ∷ s) = cond (nat_le b (level o)) (reduce b (S.binary o g f) s) (f, halfway o g ∷ s)

  -- One word.
  abbrev pub step : State → Word → State
  step stuck w = stuck
  step (want s) (Atom a) = have s (leaf a)
  step (want s) (Prefix u) = want (signed u ∷ s)
  step (want s) (Infix o) = stuck
  step (want s) Open = want (opened ∷ s)
  step (want s) Close = stuck
  step (want s) Stray = stuck
  step (have s f) (Atom a) = stuck
  step (have s f) (Prefix u) = stuck
  step (have s f) (Infix o) = waits o (reduce (suc (level o)) f s)
  step (have s f) Open = stuck
  step (have s f) Close = closed (reduce 0 f s)
  step (have s f) Stray = stuck

  -- Words, one after the other.
  abbrev pub run : State → List Word → State
  run st [] = st
  run st (w ∷ ws) = run (step st w) ws

  -- The end.
  abbrev pub ending : State → Option Formula
  ending (want s) = None
  ending (have s f) = ended (reduce 0 f s).0 (reduce 0 f s).1
  ending stuck = None

  -- The formula that the words complete.
  abbrev pub meant : State → List Word → Option Formula
  meant st ws = ending (run st ws)

-- The formula of a rule's words.
abbrev pub raw_of : List Word → Option Formula
raw_of ws = meant raw (want []) ws

-- The same, built with the shortening constructors.
abbrev pub short_of : List Word → Option Formula
short_of ws = meant short (want []) ws
