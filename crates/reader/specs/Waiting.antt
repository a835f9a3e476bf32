-- The machine's state, as the reader holds it.
use Rattle.std.specs.Prelude.{◌≡◌, ℕ, ◌+◌, ◌*◌, ◌<◌, ◌≤◌, max, List, [], ◌∷◌, map, reverse, length, Some, None, Option}
use Rattle.temporal.specs.Formula.{Formula}
use Rattle.parts.specs.declared.part.Part.{Part}
use Rattle.parts.specs.Places.{formula}
use Rattle.words.specs.declared.word.Word.{Word}
use Rattle.grammar.specs.Machine.{short, Held, opened, signed, halfway, State, want, have, reduce, step, ending}
use Rattle.reader.specs.declared.frame.Frame.{Frame}
use Rattle.reader.specs.declared.frame.Frame.TheVariants.{Bracket, Before, Between}

-- What a frame stands for, over the formulas at places.
abbrev pub waiting : (ℕ → Formula) → Frame → Held
waiting at Bracket = opened
waiting at (Before u) = signed u
waiting at (Between o i) = halfway o (at i)

-- The machine's stack: what waits, the latest first.
abbrev pub stack : (ℕ → Formula) → List Frame → List Held
stack at fs = reverse (map (waiting at) fs)

-- The machine's state: an operand is wanted, or the formula at a place was read.
abbrev pub state_of : Option ℕ → List Part → List Frame → State
state_of None ps fs = want (stack (formula ps) fs)
state_of (Some i) ps fs = have (stack (formula ps) fs) (formula ps i)

-- One past the last place that waits.
abbrev pub reach : List Frame → ℕ
reach [] = 0
reach (Bracket ∷ fs) = reach fs
reach (Before u ∷ fs) = reach fs
reach (Between o i ∷ fs) = max (i + 1) (reach fs)

-- How much was made and waits: each word adds at most 2.
abbrev pub load : List Part → List Frame → ℕ
load ps fs = length ps + 2 * length fs

-- A formula and what waits for it; and the same, once what waits at level b or tighter has taken its operand.
abbrev pub holding : List Part → List Frame → ℕ → Formula × List Held
holding ps fs i = (formula ps i, stack (formula ps) fs)

abbrev pub reducing : ℕ → List Part → List Frame → ℕ → Formula × List Held
reducing b ps fs i = reduce short b (formula ps i) (stack (formula ps) fs)

-- What waited in fs at level b or tighter has taken its operand, at first x: what is left waits in gs for y.
pub record Reduced (b : ℕ) (ps : List Part) (fs : List Frame) (x : ℕ) (qs : List Part) (gs : List Frame) (y : ℕ) : Type 0 where
  pub inside : y < length qs
  pub small : load qs gs ≤ load ps fs
  pub pair : holding qs gs y ≡ reducing b ps fs x

-- The word was read after the state of h, ps and fs: that of k, qs and gs is the next one, and at most 2 was added.
abbrev pub Took : Word → Option ℕ → List Part → List Frame → Option ℕ → List Part → List Frame → Type 0
Took w h ps fs k qs gs = (load qs gs ≤ load ps fs + 2) × (state_of k qs gs ≡ step short (state_of h ps fs) w)

-- The rule may end after the state of h, ps and fs: then its formula stands at a place of qs.
abbrev pub Ended : Option ℕ → List Part → List Frame → List Part → Option ℕ → Type 0
Ended h ps fs qs (Some top) = (top < length qs) × (ending short (state_of h ps fs) ≡ Some (formula qs top))
Ended h ps fs qs None = ending short (state_of h ps fs) ≡ None
