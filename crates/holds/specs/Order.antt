-- A call is held back under the first number that fits; the order is data, a list of numbers with their tests.
use Rattle.std.specs.Prelude.{ℕ, Option}
use Rattle.holds.specs.Cases.{Cases, first_case, FirstCaseMeans}

abbrev pub Tests : Type 0
Tests = Cases ℕ

abbrev pub first_fit : Tests → Option ℕ
first_fit xs = first_case xs

-- No number is answered just if none fits; and a number is answered only if it fits and none before it does.
abbrev pub FirstFitMeans : Type 0
FirstFitMeans = FirstCaseMeans ℕ
