-- What a table of parts means: the formula that stands at each place.
use Rattle.std.specs.Prelude.{◌≡◌, ℕ, ◌+◌, ◌<◌, ◌≤◌, max, Bool, true, false, List, [], ◌∷◌, ◌++◌, length, take, Some, None, vec_items, Option, Vec, ◌≢◌, slice_index_or}
use Rattle.temporal.specs.Formula.{Op, Formula}
use Rattle.temporal.specs.Formula.Op.{and, or}
use Rattle.temporal.specs.Formula.Formula.{const, signal, reading, neg, join, next, finally, globally, until}
use Rattle.temporal.specs.Shorten.{same, shorten, negˢ, joinˢ, nextˢ, finallyˢ, globallyˢ, untilˢ}
use Rattle.parts.specs.declared.part.Unary.{Unary}
use Rattle.parts.specs.declared.part.Unary.TheVariants.{Not, Next, Finally, Globally}
use Rattle.parts.specs.declared.part.Binary.{Binary}
use Rattle.parts.specs.declared.part.Binary.TheVariants.{Join, Until}
use Rattle.parts.specs.declared.part.Junction.{Junction}
use Rattle.parts.specs.declared.part.Junction.TheVariants.{And, Or}
use Rattle.parts.specs.declared.shape.Shape.{Shape}
use Rattle.parts.specs.declared.shape.Shape.TheVariants.{At, Is}
use Rattle.parts.specs.declared.part.Part.{Part}
use Rattle.parts.specs.declared.part.Part.TheVariants.{Const, Signal, Open, One, Two}

abbrev pub op : Junction → Op
op And = and
op Or = or

-- A sign over formulas, as it stands and shortened.
abbrev pub one : Unary → Formula → Formula
one Not f = neg f
one Next f = next f
one Finally f = finally f
one Globally f = globally f

abbrev pub two : Binary → Formula → Formula → Formula
two (Join o) f g = join (op o) f g
two Until f g = until f g

abbrev pub oneˢ : Unary → Formula → Formula
oneˢ Not f = negˢ f
oneˢ Next f = nextˢ f
oneˢ Finally f = finallyˢ f
oneˢ Globally f = globallyˢ f

abbrev pub twoˢ : Binary → Formula → Formula → Formula
twoˢ (Join o) f g = joinˢ (op o) f g
twoˢ Until f g = untilˢ f g

-- The formula of one part, over the formulas at the places of its operands.
abbrev pub node : (ℕ → Formula) → Part → Formula
node at (Const b) = const b
node at (Signal p) = signal p
node at (Open p s) = reading p s
node at (One u a) = one u (at a)
node at (Two b x y) = two b (at x) (at y)

abbrev pub place : List Formula → ℕ → Formula
place fs i = slice_index_or fs i (const false)

-- The formulas of the parts, each over those before it.
abbrev pub grow : List Formula → List Part → List Formula
grow fs [] = fs
grow fs (p ∷ ps) = grow (fs ++ (node (place fs) p ∷ [])) ps

unfoldable pub formulas : List Part → List Formula
formulas ps = grow [] ps

abbrev pub formula : List Part → ℕ → Formula
formula ps i = place (formulas ps) i

abbrev pub blank : Part
blank = Const false

-- One past the last operand of a part.
abbrev pub reach : Part → ℕ
reach (Const b) = 0
reach (Signal p) = 0
reach (Open p s) = 0
reach (One u a) = a + 1
reach (Two b x y) = max x y + 1

-- How many parts may be in use.
abbrev pub room : ℕ
room = 768

-- The parts in use: the first n of a table's memory.
abbrev pub in_use : {Z : Type 0} → ℕ → Vec Part Z → List Part
in_use n v = take n (vec_items v)

-- A table's parts: operands stand before their users,
abbrev pub OperandsFirst : List Part → Type 0
OperandsFirst ps = (i : ℕ) → i < length ps → reach (slice_index_or ps i blank) ≤ i

-- no formula stands twice,
abbrev pub NoneTwice : List Part → Type 0
NoneTwice ps = (i j : ℕ) → (i < j) × (j < length ps) → formula ps i ≢ formula ps j

-- every formula is shortened.
abbrev pub short : Formula → Bool
short f = same (shorten f) f

abbrev pub AllShort : List Part → Type 0
AllShort ps = (i : ℕ) → i < length ps → short (formula ps i) ≡ true

pub record Sound (ps : List Part) : Type 0 where
  pub ordered : OperandsFirst ps
  pub once : NoneTwice ps
  pub short : AllShort ps

-- Some parts were added behind the others, at most n.
pub record Grown (n : ℕ) (ps qs : List Part) : Type 0 where
  pub front : take (length ps) qs ≡ ps
  pub more : length ps ≤ length qs
  pub few : length qs ≤ length ps + n

-- The formula stands at a place.
pub record Stands (ps : List Part) (f : Formula) (i : ℕ) : Type 0 where
  pub inside : i < length ps
  pub formula_is : formula ps i ≡ f

-- The formula is that of a part over the table, and it is shortened.
pub record Fits (ps : List Part) (f : Formula) (p : Part) : Type 0 where
  pub below : reach p ≤ length ps
  pub formula_is : node (formula ps) p ≡ f
  pub shortened : short f ≡ true

-- What a constructor comes to.
abbrev pub Shapes : List Part → Formula → Shape → Type 0
Shapes ps f (At i) = Stands ps f i
Shapes ps f (Is p) = Fits ps f p

-- The formula that a shape stands for.
abbrev pub meant : List Part → Shape → Formula
meant ps (At i) = formula ps i
meant ps (Is p) = node (formula ps) p

-- A formula was made: it stands in the table, which grew by at most n.
pub record Made (n : ℕ) (ps qs : List Part) (f : Formula) (i : ℕ) : Type 0 where
  pub grown : Grown n ps qs
  pub sound : Sound qs
  pub stands : Stands qs f i

-- It was made, and where it stood in the table before, the table is as it was; or the table is full and the formula is not in it.
abbrev pub Interned : List Part → List Part → Formula → Option ℕ → Type 0
Interned ps qs f (Some i) = Made 1 ps qs f i × ((k : ℕ) → k < length ps → formula ps k ≡ f → qs ≡ ps)
Interned ps qs f None = (qs ≡ ps) × (length ps ≡ room) × ((k : ℕ) → k < length ps → formula ps k ≢ f)

-- The formula of a part without operands.
abbrev pub leaf : Part → Formula
leaf p = node (λ _. const false) p
