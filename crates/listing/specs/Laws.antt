-- What a whole reading is, by the bits that the monitor reads, and by the signals of the sheet.
use Rattle.std.specs.Prelude.{◌≡◌, ℕ, suc, ◌^◌, ◌<◌, Bool, false, List, [], ◌∷◌, ◌++◌, map, length, replicate, None, slice_index_or}
use Rattle.holds.specs.Order.{first_fit}
use Rattle.sheet.specs.Texts.{said}
use Rattle.monitor.specs.Monitoring.{bit}
use Rattle.listing.specs.Ticks.{groups, tick_holds, whole}

-- It has no bit beyond the digits, and its bit j is digit j.
abbrev pub WholeMeans : Type 0
WholeMeans =
    (bs : List Bool) → (whole bs < 2 ^ length bs) × ((j : ℕ) → j < length bs → bit (whole bs) j ≡ slice_index_or bs j false)

-- The numbers, from k on, of the groups in which the digits stand, digit by digit.
abbrev pub digit_groups : ℕ → List (List ℕ) → List ℕ
digit_groups k [] = []
digit_groups k (g ∷ gs) = replicate (length g) k ++ digit_groups (suc k) gs

-- An accepted tick line has one digit for each signal of the sheet, and digit j stands in the group of the post that owns signal j.
abbrev pub DigitsAreSignals : Type 0
DigitsAreSignals =
    (sheet line : List ℕ) → first_fit (tick_holds (said sheet).entries line) ≡ None → digit_groups 1 (groups line) ≡ map (λ s. s.owner) (said sheet).entries.signals
