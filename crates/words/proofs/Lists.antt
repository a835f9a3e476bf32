-- What a name's bytes are.
use Rattle.std.proofs.Common.{◌≡◌, ℕ, ◌<◌, ◌≤◌, Bool, true, false, not, ◌&&◌, leb, List, [], ◌∷◌, length, get_or, codes, sym, refl, ap, ◌∙◌, arith}
use Rattle.std.proofs.lemmas.Bool.{le-leb}
use Rattle.std.specs.List.{list_all}
use Rattle.words.specs.Names.{among, is_name, letter, name_byte, reserved}

-- Where the other tests of a name pass, the test of all bytes decides.
decides : (b : Bool) → b ≡ true && (b && (true && not false))
decides b = elim b as (λ t. t ≡ true && (t && (true && not false))) [ true ↦ refl | false ↦ refl ]

pub named_by : (bs : List ℕ) (r : Bool) → letter (get_or bs 0 0) ≡ true → length bs ≤ 12 → among bs reserved ≡ false → r ≡ list_all name_byte bs → r ≡ is_name bs
named_by bs r l n o e =
    e ∙ decides (list_all name_byte bs)
    ∙ ap (λ t. t && (list_all name_byte bs && (true && not false))) (sym l)
    ∙ ap (λ t. letter (get_or bs 0 0) && (list_all name_byte bs && (t && not false))) (sym (le-leb (length bs) 12 n))
    ∙ ap (λ t. letter (get_or bs 0 0) && (list_all name_byte bs && (leb (length bs) 12 && not t))) (sym o)

-- The bytes of `false`.
pub spells_false : (bs : List ℕ) → 5 ≤ length bs → length bs < 6 → get_or bs 0 0 ≡ 102 → get_or bs 1 0 ≡ 97 → get_or bs 2 0 ≡ 108 → get_or bs 3 0 ≡ 115 → get_or bs 4 0 ≡ 101 → bs ≡ codes "false"
spells_false [] l m f a b s e = absurd (omega arith)
spells_false (v ∷ []) l m f a b s e = absurd (omega arith)
spells_false (v ∷ (w ∷ [])) l m f a b s e = absurd (omega arith)
spells_false (v ∷ (w ∷ (x ∷ []))) l m f a b s e = absurd (omega arith)
spells_false (v ∷ (w ∷ (x ∷ (y ∷ [])))) l m f a b s e = absurd (omega arith)
spells_false (v ∷ (w ∷ (x ∷ (y ∷ (z ∷ []))))) l m f a b s e = cc
spells_false (v ∷ (w ∷ (x ∷ (y ∷ (z ∷ (u ∷ bs)))))) l m f a b s e = absurd (omega arith)
