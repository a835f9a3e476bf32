-- The exit of a `?`, where a line or its rule is at fault.
use Rattle.std.proofs.Common.{◌≡◌, IsErrAnd, Some, Result}
use Rattle.holds.specs.Cases.{Hold, Cases, first_case}
use Rattle.roster.specs.Faults.{answered}
use Rattle.roster.specs.declared.fault.SheetFault.{SheetFault}
use Rattle.reader.proofs.Exits.{exit}
use Rattle.sheet.specs.Sheets.{Advances}
use Rattle.sheet.specs.Texts.{Draft}
use Rattle.sheet.specs.declared.reading.Reading.{Reading}

pub advances_exit : {A : Type 0} (ts : Cases Hold) (want : Draft) (b : Reading) (r : Result A SheetFault) (f : SheetFault) → IsErrAnd r (λ e. e ≡ f) → first_case ts ≡ Some (answered f) → Advances ts want b r
advances_exit ts want b r f h e = exit (Advances ts want b) r f h (e, tt)
