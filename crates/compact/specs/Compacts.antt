-- A formula in memory of its own, and what a rewriting does to it.
use Rattle.std.specs.Prelude.{◌≡◌, ◌<◌, Bool, List, length, Some, None, Ok, Err, Option, Result}
use Rattle.temporal.specs.Formula.{Formula}
use Rattle.temporal.specs.Formula.Formula.{const, signal, reading, neg, join, next, finally, globally, until}
use Rattle.temporal.specs.Parts.{parts, final}
use Rattle.parts.specs.Places.{formulas}
use Rattle.parts.specs.Tables.{parts_of}
use Rattle.parts.specs.declared.part.Part.{Part}
use Rattle.compact.specs.declared.compact.Compact.{Compact}

abbrev pub compact_parts : Compact → List Part
compact_parts c = parts_of c.table

abbrev pub formula_of : Compact → Formula
formula_of c = final (formulas (compact_parts c))

-- It became f; or f has more than 256 parts, and nothing changed.
abbrev pub Became : {A E : Type 0} → Compact → Compact → Formula → Result A E → Type 0
Became c d f (Ok u) = formula_of d ≡ f
Became c d f (Err e) = (256 < length (parts f)) × (compact_parts d ≡ compact_parts c)

-- The constant that a formula is.
abbrev pub constant : Formula → Option Bool
constant (const b) = Some b
constant (signal p) = None
constant (reading p s) = None
constant (neg f) = None
constant (join o f g) = None
constant (next f) = None
constant (finally f) = None
constant (globally f) = None
constant (until f g) = None
