-- The input of a listing: a sheet, an empty line, and tick lines.
use Rattle.std.specs.Prelude.{ℕ, Bool, true, cond, ◌&&◌, List, [], ◌∷◌, ◌==◌}

-- What stands before the first empty line, where a line begins at the first byte or not.
abbrev pub before_empty : Bool → List ℕ → List ℕ
before_empty begins [] = []
before_empty begins (c ∷ cs) = cond (begins && c == 10) [] (c ∷ before_empty (c == 10) cs)

-- What stands behind it; its byte 10 belongs to neither.
abbrev pub behind_empty : Bool → List ℕ → List ℕ
behind_empty begins [] = []
behind_empty begins (c ∷ cs) = cond (begins && c == 10) cs (behind_empty (c == 10) cs)

-- The sheet; without an empty line it is the whole input.
abbrev pub sheet_part : List ℕ → List ℕ
sheet_part input = before_empty true input

-- The tick lines; without an empty line there are none.
abbrev pub ticks_part : List ℕ → List ℕ
ticks_part input = behind_empty true input
