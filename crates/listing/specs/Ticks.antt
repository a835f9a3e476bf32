-- A tick line: a group of digits for each post, parted by single spaces.
use Rattle.std.specs.Prelude.{ℕ, ◌+◌, ◌*◌, ◌%◌, ◌^◌, Bool, cond, not, ◌&&◌, ◌||◌, List, [], ◌∷◌, map, length, ◌==◌, nat_eq, bit_or}
use Rattle.std.specs.List.{concat, count_by, enumerate_from, list_all, slice_split}
use Rattle.holds.specs.Order.{Tests}
use Rattle.roster.specs.Entries.{Entries, Owned}

-- The groups of a line; each space parts two.
abbrev pub groups : List ℕ → List (List ℕ)
groups line = slice_split (λ b. b == 32) line

-- How many signals a post owns.
abbrev pub owned_by : ℕ → List Owned → ℕ
owned_by post ss = count_by (λ s. s.owner == post) ss

-- The digits 0 and 1.
abbrev pub digit : ℕ → Bool
digit b = b == 48 || b == 49

-- A group has exactly n digits, and no other byte.
abbrev pub is_group : ℕ → List ℕ → Bool
is_group n g = length g == n && list_all digit g

-- Each group, of the posts from k on, has one digit for each signal of its post.
abbrev pub each_fits : List Owned → ℕ → List (List ℕ) → Bool
each_fits ss k gs = list_all (λ p. is_group (owned_by p.0 ss) p.1) (enumerate_from k gs)

-- A line is held back under 14 if it has not one group for each post, under 15 if a group does not fit its post.
abbrev pub tick_holds : Entries → List ℕ → Tests
tick_holds e line =
    (14, not (length (groups line) == length e.posts)) ∷ (15, not (each_fits e.signals 1 (groups line))) ∷ []

-- The digits of all groups in order; 1 is on.
abbrev pub bits : List ℕ → List Bool
bits line = map (λ b. nat_eq b 49) (concat (groups line))

-- The number whose bit j, of value 2 to the power j, is the j-th digit, from 0.
abbrev pub whole : List Bool → ℕ
whole [] = 0
whole (b ∷ bs) = cond b 1 0 + 2 * whole bs

-- The whole reading of a line.
abbrev pub reading : List ℕ → ℕ
reading line = whole (bits line)

-- The bytes of a line that are digits, where it is not held back.
abbrev pub is_no_space : ℕ → Bool
is_no_space b = not (b == 32)

-- A reading of 32 bits that moves on by one bit for one digit more.
abbrev pub with_digit : ℕ → ℕ → ℕ
with_digit w b = bit_or (w * 2 % 2 ^ 32) (cond (b == 49) 1 0)
