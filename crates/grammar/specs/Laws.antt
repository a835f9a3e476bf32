-- What the grammar, the scan and the machine say of each other.
use Rattle.std.specs.Prelude.{◌≡◌, ℕ, ◌<◌, ◌↔◌, List, [], ◌∷◌, Some, None, Option}
use Rattle.temporal.specs.Formula.{Formula}
use Rattle.temporal.specs.Formula.Op.{and, or}
use Rattle.temporal.specs.Formula.Formula.{signal, neg, join, finally, globally, until}
use Rattle.temporal.specs.Shorten.{shorten}
use Rattle.temporal.specs.Parts.{Part}
use Rattle.temporal.specs.Obligation.{Closed}
use Rattle.parts.specs.declared.part.Unary.TheVariants.{Not, Finally, Globally}
use Rattle.words.specs.declared.word.Leaf.TheVariants.{Signal}
use Rattle.words.specs.declared.word.Connective.TheVariants.{Implies, Or, And, Until}
use Rattle.words.specs.declared.word.Word.{Word}
use Rattle.words.specs.declared.word.Word.TheVariants.{Atom, Prefix, Infix, Open, Close}
use Rattle.grammar.specs.Grammar.{Reads}
use Rattle.grammar.specs.Faults.{Misplaced}
use Rattle.grammar.specs.Scan.{misplaced, unknown}
use Rattle.grammar.specs.Machine.{raw_of, short_of}

-- Words have at most one formula.
abbrev pub OneFormula : Type 0
OneFormula = (ws : List Word) (f g : Formula) → Reads 0 ws f → Reads 0 ws g → f ≡ g

-- The machine makes the formula that the grammar gives.
abbrev pub RawMeans : Type 0
RawMeans = (ws : List Word) (f : Formula) → (raw_of ws ≡ Some f) ↔ Reads 0 ws f

-- The formula in an option, shortened.
abbrev pub shorten_some : Option Formula → Option Formula
shorten_some None = None
shorten_some (Some f) = Some (shorten f)

-- To shorten as the machine builds is to shorten what it builds.
abbrev pub ShortIsShortened : Type 0
ShortIsShortened = (ws : List Word) → short_of ws ≡ shorten_some (raw_of ws)

-- The scan passes exactly the words of a rule, and otherwise stops at the first word at fault.
abbrev pub MisplacedMeans : Type 0
MisplacedMeans =
    (ws : List Word)
    → ((misplaced ws ≡ None) ↔ ((f : Formula) × Reads 0 ws f)) × ((k : ℕ) → (misplaced ws ≡ Some k) ↔ Misplaced ws k)

-- A rule whose names are all among n signals has, shortened, no open reading and no other signal.
abbrev pub KnownMeans : Type 0
KnownMeans =
    (n : ℕ) (ws : List Word) (f : Formula) → unknown n ws ≡ None → Reads 0 ws f
    → Closed (shorten f) × ((p : ℕ) → Part (signal p) (shorten f) → p < n)

-- Two signals, as words and as formulas.
abbrev pub a_word : Word
a_word = Atom (Signal 0)

abbrev pub b_word : Word
b_word = Atom (Signal 1)

abbrev pub a : Formula
a = signal 0

abbrev pub b : Formula
b = signal 1

abbrev pub WorkedReadings : Type 0
WorkedReadings =
    -- a -> b | a & b U ! a
    Reads 0 (a_word ∷ Infix Implies ∷ b_word ∷ Infix Or ∷ a_word ∷ Infix And ∷ b_word ∷ Infix Until ∷ Prefix Not ∷ a_word ∷ []) (join or (neg a) (join or b (join and a (until b (neg a)))))
    -- a U b U a
    × Reads 0 (a_word ∷ Infix Until ∷ b_word ∷ Infix Until ∷ a_word ∷ []) (until a (until b a))
    -- ! a U b
    × Reads 0 (Prefix Not ∷ a_word ∷ Infix Until ∷ b_word ∷ []) (until (neg a) b)
    -- a -> b -> a
    × Reads 0 (a_word ∷ Infix Implies ∷ b_word ∷ Infix Implies ∷ a_word ∷ []) (join or (neg a) (join or (neg b) a))
    -- G ( a | b ) & F a
    × Reads 0 (Prefix Globally ∷ Open ∷ a_word ∷ Infix Or ∷ b_word ∷ Close ∷ Infix And ∷ Prefix Finally ∷ a_word ∷ []) (join and (globally (join or a b)) (finally a))
