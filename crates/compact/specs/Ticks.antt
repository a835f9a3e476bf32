-- The earliest open ticks of the parts of a table.
use Rattle.std.specs.Prelude.{◌≡◌, ℕ, ◌<◌, List, length, Some, None, Option, slice_index_or}
use Rattle.temporal.specs.Earliest.{earlier, earliest}
use Rattle.parts.specs.Places.{formula}
use Rattle.parts.specs.declared.part.Part.{Part}
use Rattle.parts.specs.declared.part.Part.TheVariants.{Const, Signal, Open, One, Two}

-- The earliest open ticks of the first parts, as many as there are ticks.
abbrev pub Ticked : List Part → List (Option ℕ) → Type 0
Ticked ps ticks = (k : ℕ) → k < length ticks → slice_index_or ticks k None ≡ earliest (formula ps k)

-- That of one part, by those of its operands.
abbrev pub tick_in : List (Option ℕ) → Part → Option ℕ
tick_in ticks (Const b) = None
tick_in ticks (Signal p) = None
tick_in ticks (Open p t) = Some t
tick_in ticks (One u a) = slice_index_or ticks a None
tick_in ticks (Two b x y) = earlier (slice_index_or ticks x None) (slice_index_or ticks y None)
