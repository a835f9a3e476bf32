-- The first word at fault, and the first name that is no signal, by one scan over the words.
use Rattle.std.specs.Prelude.{ℕ, zero, suc, Bool, true, false, List, [], ◌∷◌, Some, None, Option, nat_le, position}
use Rattle.words.specs.declared.word.Leaf.TheVariants.{Const, Signal}
use Rattle.words.specs.declared.word.Word.{Word}
use Rattle.words.specs.declared.word.Word.TheVariants.{Atom, Prefix, Infix, Open, Close, Stray}

-- The place of the first word at fault, where k words were passed: the first argument says whether an operand is wanted,
-- the second how many brackets are open.
abbrev pub scan : Bool → ℕ → ℕ → List Word → Option ℕ
scan true n k [] = Some k
scan true n k (Atom a ∷ ws) = scan false n (suc k) ws
scan true n k (Prefix u ∷ ws) = scan true n (suc k) ws
scan true n k (Infix o ∷ ws) = Some k
scan true n k (Open ∷ ws) = scan true (suc n) (suc k) ws
scan true n k (Close ∷ ws) = Some k
scan true n k (Stray ∷ ws) = Some k
scan false zero k [] = None
scan false (suc n) k [] = Some k
scan false n k (Atom a ∷ ws) = Some k
scan false n k (Prefix u ∷ ws) = Some k
scan false n k (Infix o ∷ ws) = scan true n (suc k) ws
scan false n k (Open ∷ ws) = Some k
scan false zero k (Close ∷ ws) = Some k
scan false (suc n) k (Close ∷ ws) = scan false n (suc k) ws
scan false n k (Stray ∷ ws) = Some k

-- The place, from 0, of the first word at fault, the end being one more word.
abbrev pub misplaced : List Word → Option ℕ
misplaced ws = scan true 0 0 ws

-- The word is a name that is none of n signals.
abbrev pub foreign : ℕ → Word → Bool
foreign n (Atom (Const b)) = false
foreign n (Atom (Signal p)) = nat_le n p
foreign n (Prefix u) = false
foreign n (Infix o) = false
foreign n Open = false
foreign n Close = false
foreign n Stray = false

-- The place of the first such word, from 0.
abbrev pub unknown : ℕ → List Word → Option ℕ
unknown n ws = position (foreign n) ws
