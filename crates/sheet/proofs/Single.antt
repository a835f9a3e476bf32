-- A list of one.
use Rattle.std.proofs.Common.{◌≡◌, List, [], ◌∷◌, length, get_or, ap, arith}

pub single : {X : Type 0} (xs : List X) (y : X) → length xs ≡ 1 → y ≡ get_or xs 0 y → y ∷ [] ≡ xs
single [] y l e = absurd (omega arith)
single (x ∷ []) y l e = ap (λ z. z ∷ []) e
single (x ∷ (z ∷ xs)) y l e = absurd (omega arith)
