-- The laws that shortening, progression and closing obey.
use Rattle.std.specs.Prelude.{◌≡◌, ℕ, suc, ◌*◌, ◌<◌, ◌≤◌, Bool, true, false, T, ◌⊎◌, ◌↔◌, List, [], ◌∷◌, ◌++◌, length}
use Rattle.temporal.specs.Formula.{Op, Formula, Run, Holds}
use Rattle.temporal.specs.Formula.Formula.{const, reading, neg, join, finally, globally, until}
use Rattle.temporal.specs.Shorten.{negˢ, joinˢ, shorten}
use Rattle.temporal.specs.Progress.{step, close, Closes, through}
use Rattle.temporal.specs.Obligation.{Open, Closed, Clear, Shortened, Obligation, Proper}
use Rattle.temporal.specs.Parts.{In, Distinct, Part, parts, Ordered, made}

-- h rebuilds a formula: it keeps the constants, and shortens what it makes of not, and, or.
pub record Rebuilds (h : Formula → Formula) : Type 0 where
  pub consts : (b : Bool) → h (const b) ≡ const b
  pub negs : (f : Formula) → h (neg f) ≡ negˢ (h f)
  pub joins : (o : Op) (f g : Formula) → h (join o f g) ≡ joinˢ o (h f) (h g)

-- It commutes with the shortening constructors.
pub record Commutes (h : Formula → Formula) : Type 0 where
  pub with_neg : (f : Formula) → h (negˢ f) ≡ negˢ (h f)
  pub with_join : (o : Op) (f g : Formula) → h (joinˢ o f g) ≡ joinˢ o (h f) (h g)

abbrev pub RebuildingCommutes : Type 0
RebuildingCommutes = (h : Formula → Formula) → Rebuilds h → Commutes h

abbrev pub StepsAndClosingsCommute : Type 0
StepsAndClosingsCommute =
    ((σ : ℕ → Formula) → Commutes (step σ)) × ((ρ : ℕ → ℕ → Formula) → Commutes (close ρ))

-- So does shortening itself: to shorten after a step or a closing is to step or close what is shortened.
abbrev pub ShorteningCommutes : Type 0
ShorteningCommutes =
    ((σ : ℕ → Formula) (f : Formula) → shorten (step σ f) ≡ step (λ p. shorten (σ p)) (shorten f))
    × ((ρ : ℕ → ℕ → Formula) (f : Formula) → shorten (close ρ f) ≡ close (λ p s. shorten (ρ p s)) (shorten f))

-- Meaning.

abbrev pub ShorteningKeepsMeaning : Type 0
ShorteningKeepsMeaning = (r : Run) (f : Formula) (t : ℕ) → Holds r (shorten f) t ↔ Holds r f t

-- A step moves the meaning on by one tick, where σ gives each signal what the run has at t.
abbrev pub SteppingKeepsMeaning : Type 0
SteppingKeepsMeaning =
    (r : Run) (σ : ℕ → Formula) (t : ℕ) → ((p : ℕ) → Holds r (σ p) (suc t) ↔ T (r t p))
    → (f : Formula) → Holds r (step σ f) (suc t) ↔ Holds r f t

-- Closing keeps the meaning, where ρ gives each open reading what the run has.
abbrev pub ClosingKeepsMeaning : Type 0
ClosingKeepsMeaning =
    (r : Run) (ρ : ℕ → ℕ → Formula) (t : ℕ) → ((p s : ℕ) → Holds r (ρ p s) t ↔ T (r s p))
    → (f : Formula) → Holds r (close ρ f) t ↔ Holds r f t

-- `F f` is `true U f`, and `G !!f` is `!F !f`: the latter is as much of "G f is !F !f" as holds without excluded middle.
abbrev pub TimeSignsAgree : Type 0
TimeSignsAgree =
    (r : Run) (f : Formula) (t : ℕ)
    → (Holds r (finally f) t ↔ Holds r (until (const true) f) t)
    × (Holds r (globally f) t → Holds r (neg (finally (neg f))) t)
    × (Holds r (neg (finally (neg f))) t ↔ Holds r (globally (neg (neg f))) t)

-- From tick t on, the run begins with the readings.
abbrev pub Begins : Run → ℕ → List (ℕ → Bool) → Type 0
Begins r t [] = Unit {0}
Begins r t (x ∷ xs) = ((p : ℕ) → r t p ≡ x p) × Begins r (suc t) xs

-- A rule that has become true is kept by every endless run that begins with the readings; one that has become false, by none.
abbrev pub VerdictOfEveryRun : Type 0
VerdictOfEveryRun =
    (xs : List (ℕ → Bool)) (rule : Formula)
    → (through xs rule ≡ const true → (r : Run) → Begins r 0 xs → Holds r rule 0)
    × (through xs rule ≡ const false → (r : Run) → Begins r 0 xs → Holds r rule 0 → ⊥)

-- There is such a run for every list of readings; and some rule is kept by one run and broken by another.
abbrev pub RunsAbound : Type 0
RunsAbound =
    ((xs : List (ℕ → Bool)) → (r : Run) × Begins r 0 xs)
    × ((rule : Formula) × (r : Run) × (s : Run) × Holds r rule 0 × (Holds s rule 0 → ⊥))

-- Obligations.

-- A formula with no open reading, once shortened, is an obligation for tick 0.
abbrev pub ShortenedIsOwed : Type 0
ShortenedIsOwed = (f : Formula) → Closed f → Obligation 0 (shorten f)

abbrev pub ObligationIsProper : Type 0
ObligationIsProper = (s : ℕ) (f : Formula) → Obligation s f ↔ Proper (λ p e. e < s) f

-- A step of tick s, which makes of each signal a constant or its open reading at s, and a closing keep an obligation one.
abbrev pub ObligationsLast : Type 0
ObligationsLast =
    (s : ℕ) (f : Formula) → Obligation s f
    → ((σ : ℕ → Formula) → ((p : ℕ) → ((b : Bool) × (σ p ≡ const b)) ⊎ (σ p ≡ reading p s)) → Obligation (suc s) (step σ f))
    × ((ρ : ℕ → ℕ → Formula) → Closes ρ → Obligation s (close ρ f))

-- Closing after a step is the step with the closed assignment, after closing.
abbrev pub ClosingMeetsStepping : Type 0
ClosingMeetsStepping =
    (ρ : ℕ → ℕ → Formula) → Closes ρ → (σ : ℕ → Formula) (f : Formula) → Shortened f → Clear f
    → close ρ (step σ f) ≡ step (λ p. close ρ (σ p)) (close ρ f)

-- What has nothing to close is left alone.
abbrev pub ClosingLeavesAlone : Type 0
ClosingLeavesAlone =
    (ρ : ℕ → ℕ → Formula) (f : Formula) → Shortened f → Clear f
    → ((p e : ℕ) → Open p e f → ρ p e ≡ reading p e) → close ρ f ≡ f

-- Parts.

-- The walk lists the formula and everything below it, each once.
abbrev pub PartsListed : Type 0
PartsListed = (f : Formula) → Distinct (parts f) × ((g : Formula) → In g (parts f) ↔ Part g f)

-- The walk ends with the formula, and every part stands before what it is a part of.
abbrev pub PartsInOrder : Type 0
PartsInOrder =
    (f : Formula) → Ordered (parts f) × ((xs : List Formula) × (parts f ≡ xs ++ (f ∷ [])))

abbrev pub ClosingAddsNoPart : Type 0
ClosingAddsNoPart =
    (ρ : ℕ → ℕ → Formula) → Closes ρ → (f : Formula) → Shortened f → Clear f
    → length (parts (close ρ f)) ≤ length (parts f)

-- What a step makes of a part of f has only parts of f and of `made`, which are two for each part.
abbrev pub StepMakesTwo : Type 0
StepMakesTwo =
    (σ : ℕ → Formula) → ((p : ℕ) (g : Formula) → Part g (σ p) → g ≡ σ p)
    → (f : Formula)
    → (length (made σ f) ≡ 2 * length (parts f))
    × ((h g : Formula) → Part h f → Part g (step σ h) → In g (made σ f) ⊎ Part g f)
    × (length (parts (step σ f)) ≤ 3 * length (parts f))
