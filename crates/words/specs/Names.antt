-- Names of posts and signals.
use Rattle.std.specs.Prelude.{ℕ, Bool, not, ◌&&◌, ◌||◌, List, [], ◌∷◌, length, codes, ◌==◌, nat_le, slice_index}
use Rattle.std.specs.List.{list_all, list_any, position_or_len}
use Rattle.std.specs.Str.{bytes_eq}

-- A lower-case letter.
abbrev pub letter : ℕ → Bool
letter b = nat_le 97 b && nat_le b 122

-- A byte that may stand in a name: a lower-case letter, a digit or an underscore.
abbrev pub name_byte : ℕ → Bool
name_byte b = letter b || ((nat_le 48 b && nat_le b 57) || b == 95)

-- The bytes stand in a list of texts.
abbrev pub among : List ℕ → List (List ℕ) → Bool
among x ys = list_any (λ y. bytes_eq x y) ys

-- The words of a sheet that are no names.
abbrev pub reserved : List (List ℕ)
reserved = codes "post" ∷ codes "rule" ∷ codes "true" ∷ codes "false" ∷ []

-- A name: 1 to 12 name bytes, a letter first, and no reserved word.
abbrev pub is_name : List ℕ → Bool
is_name bs = letter (slice_index bs 0) && (list_all name_byte bs && (nat_le (length bs) 12 && not (among bs reserved)))

-- The place of a text in a list, from 0; the list's length where it does not stand there.
abbrev pub place_of : List ℕ → List (List ℕ) → ℕ
place_of x names = position_or_len (λ y. bytes_eq x y) names
