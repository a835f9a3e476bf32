-- The numbers of the holds and of the verdicts, and a verdict's letter.
use Rattle.std.specs.Prelude.{ℕ, Bool, true, false, List, Some, None, codes, Option}
use Rattle.monitor.specs.declared.verdict.Verdict.{Verdict}
use Rattle.monitor.specs.declared.verdict.Verdict.TheVariants.{False, True, Undecided}
use Rattle.monitor.specs.declared.hold.Hold.{Hold}
use Rattle.monitor.specs.declared.hold.Hold.TheVariants.{Reading, Tick, Parts}

abbrev pub number : Hold → ℕ
number Reading = 15
number Tick = 16
number Parts = 18

abbrev pub verdict_number : Verdict → ℕ
verdict_number False = 0
verdict_number True = 1
verdict_number Undecided = 2

abbrev pub verdict_letter : Verdict → List ℕ
verdict_letter True = codes "T"
verdict_letter False = codes "F"
verdict_letter Undecided = codes "?"

-- True and false are decided, all else is not.
abbrev pub as_verdict : Option Bool → Verdict
as_verdict (Some true) = True
as_verdict (Some false) = False
as_verdict None = Undecided
