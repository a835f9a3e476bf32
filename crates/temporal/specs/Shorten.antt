-- The shortening constructors: each sign over formulas that are shortened already. All shortening stands in this file;
-- what the rest needs of it are laws.
use Rattle.std.specs.Prelude.{Bool, true, false, cond, not}
use Rattle.std.proofs.Math.Bool.{Bool-discrete}
use Rattle.std.proofs.Math.Decide.{ℕ_discrete}
use Rattle.temporal.specs.Formula.{Op, Formula, Op-discrete, Formula-discrete}
use Rattle.temporal.specs.Formula.Op.{and, or}
use Rattle.temporal.specs.Formula.Formula.{const, signal, reading, neg, join, next, finally, globally, until}

-- Equality of formulas is decided.
abbrev pub equal : Discrete Formula
equal = Formula-discrete Bool-discrete ℕ_discrete Op-discrete

abbrev pub same : Formula → Formula → Bool
same f g = elim (equal f g) [ yes e ↦ true | no n ↦ false ]

abbrev pub same_op : Op → Op → Bool
same_op o q = elim (Op-discrete o q) [ yes e ↦ true | no n ↦ false ]

-- The constant that leaves the other operand, and the one that absorbs it.
abbrev pub unit : Op → Bool
unit and = true
unit or = false

abbrev pub zero : Op → Bool
zero and = false
zero or = true

-- The formula is a join by o that begins with f.
abbrev pub begins : Op → Formula → Formula → Bool
begins o f (const b) = false
begins o f (signal p) = false
begins o f (reading p s) = false
begins o f (neg g) = false
begins o f (join q g h) = cond (same_op o q) (same f g) false
begins o f (next g) = false
begins o f (finally g) = false
begins o f (globally g) = false
begins o f (until g h) = false

unfoldable pub negˢ : Formula → Formula
negˢ (const b) = const (not b)
negˢ (signal p) = neg (signal p)
negˢ (reading p s) = neg (reading p s)
negˢ (neg f) = neg (neg f)
negˢ (join o f g) = neg (join o f g)
negˢ (next f) = neg (next f)
negˢ (finally f) = neg (finally f)
negˢ (globally f) = neg (globally f)
negˢ (until f g) = neg (until f g)

unfoldable pub joinˢ : Op → Formula → Formula → Formula
joinˢ o f g =
    cond (same f (const (unit o))) g
    (cond (same g (const (unit o))) f
    (cond (same f (const (zero o))) (const (zero o))
    (cond (same g (const (zero o))) (const (zero o))
    (cond (same f g) f
    (cond (begins o f g) g (join o f g))))))

-- The time signs stay.
unfoldable pub nextˢ : Formula → Formula
nextˢ f = next f

unfoldable pub finallyˢ : Formula → Formula
finallyˢ f = finally f

unfoldable pub globallyˢ : Formula → Formula
globallyˢ f = globally f

unfoldable pub untilˢ : Formula → Formula → Formula
untilˢ f g = until f g

-- A formula, shortened from its operands up.
abbrev pub shorten : Formula → Formula
shorten (const b) = const b
shorten (signal p) = signal p
shorten (reading p s) = reading p s
shorten (neg f) = negˢ (shorten f)
shorten (join o f g) = joinˢ o (shorten f) (shorten g)
shorten (next f) = nextˢ (shorten f)
shorten (finally f) = finallyˢ (shorten f)
shorten (globally f) = globallyˢ (shorten f)
shorten (until f g) = untilˢ (shorten f) (shorten g)
