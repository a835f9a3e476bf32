-- The parts of a table, and of one whose places and count are lent apart.
use Rattle.std.specs.Prelude.{◌≡◌, List}
use Rattle.parts.specs.Places.{in_use}
use Rattle.parts.specs.declared.part.Part.{Part}
use Rattle.parts.specs.declared.table.Table.{Table}
use Rattle.parts.specs.declared.lent.Lent.{Lent}

abbrev pub parts_of : Table → List Part
parts_of t = in_use t.used t.places

abbrev pub parts_in : Lent → List Part
parts_in l = in_use l.used.now l.places.now

-- What is lent is still the same.
pub record SameLoan (l m : Lent) : Type 0 where
  pub places : m.places.ghost_name ≡ l.places.ghost_name
  pub used : m.used.ghost_name ≡ l.used.ghost_name
