-- Why a tick is held back, and what a tick answers.
use Rattle.std.specs.Prelude.{◌≡◌, ℕ, List, [], ◌∷◌, Some, None, Ok, Err, Result}
use Rattle.holds.specs.Order.{first_fit}
use Rattle.holds.specs.Cases.{plain}
use Rattle.roster.specs.Entries.{Entries}
use Rattle.monitor.specs.Monitoring.{State}
use Rattle.monitor.specs.Verdicts.{number}
use Rattle.listing.specs.Listings.{held, rows}
use Rattle.listing.specs.Ticks.{reading, tick_holds}
use Rattle.listing.specs.declared.fault.TickFault.{TickFault}
use Rattle.listing.specs.declared.fault.TickFault.TheVariants.{Groups, Digits, Step}
use Rattle.listing.specs.declared.line.Line.{Line}

-- The number of a tick's fault.
abbrev pub fault_number : TickFault → ℕ
fault_number Groups = 14
fault_number Digits = 15
fault_number (Step h) = number h

-- What the reading of a tick line answers.
abbrev pub Reads : Entries → List ℕ → Result ℕ TickFault → Type 0
Reads e x (Ok w) = (first_fit (tick_holds e x) ≡ None) × (w ≡ reading x)
Reads e x (Err f) = first_fit (tick_holds e x) ≡ Some (fault_number f)

-- What a tick answers: the first row of any tick lines that begin with this one, or the hold that ends them.
abbrev pub Ticked : State → Entries → List ℕ → State → Result Line TickFault → Type 0
Ticked s e x t (Ok line) = (xs : List (List ℕ)) → rows s e (x ∷ xs) ≡ line ∷ rows t e xs
Ticked s e x t (Err f) = (xs : List (List ℕ)) → rows s e (x ∷ xs) ≡ held (plain (fault_number f)) ∷ []
