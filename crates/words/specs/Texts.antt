-- The words of a text, from the left.
use Rattle.std.specs.Prelude.{ℕ, zero, suc, Bool, true, false, cond, List, [], ◌∷◌, ◌++◌, Some, None, codes, Option, ◌==◌}
use Rattle.std.specs.List.{find, prefix_len, take_while}
use Rattle.std.specs.Option.{option_map, unwrap_or}
use Rattle.std.specs.Str.{bytes_eq}
use Rattle.parts.specs.declared.part.Unary.TheVariants.{Not, Next, Finally, Globally}
use Rattle.words.specs.Names.{is_name, name_byte, place_of}
use Rattle.words.specs.declared.word.Leaf.TheVariants.{Const, Signal}
use Rattle.words.specs.declared.word.Connective.TheVariants.{Implies, Or, And, Until}
use Rattle.words.specs.declared.word.Word.{Word}
use Rattle.words.specs.declared.word.Word.TheVariants.{Atom, Prefix, Infix, Open, Close, Stray}

-- The words of one byte:  ! & ( ) F G U X |
abbrev pub signs : List (ℕ × Word)
signs =
    (33, Prefix Not) ∷ (38, Infix And) ∷ (40, Open) ∷ (41, Close) ∷ (70, Prefix Finally) ∷ (71, Prefix Globally) ∷ (85, Infix Until)
    ∷ (88, Prefix Next) ∷ (124, Infix Or) ∷ []

abbrev pub sign : ℕ → Option Word
sign b = option_map (λ x. x.1) (find (λ x. b == x.0) signs)

-- The constant that a run of name bytes is, if it is one.
abbrev pub constant_of : List ℕ → Option Bool
constant_of bs = cond (bytes_eq bs (codes "true")) (Some true) (cond (bytes_eq bs (codes "false")) (Some false) None)

-- What a run of name bytes is, where the signals have these names: a constant, a signal by its number, or no name.
abbrev pub word_of : List (List ℕ) → List ℕ → Word
word_of names bs =
    unwrap_or (option_map (λ b. Atom (Const b)) (constant_of bs)) (cond (is_name bs) (Atom (Signal (place_of bs names))) Stray)

-- A dash is the first half of `->`, or in no word.
abbrev pub arrow : List ℕ → Option (Word × ℕ)
arrow [] = None
arrow (b ∷ bs) = cond (b == 62) (Some (Infix Implies, 1)) None

-- The word that begins with byte b before the bytes bs, with how many of them belong to it: `->`, a run as long as it goes,
-- or a sign; none where the byte is in no word.
abbrev pub piece_of : (List ℕ → Word) → ℕ → List ℕ → Option (Word × ℕ)
piece_of w b bs =
    cond (b == 45) (arrow bs)
    (cond (name_byte b) (Some (w (b ∷ take_while name_byte bs), prefix_len name_byte bs)) (option_map (λ v. (v, 0)) (sign b)))

abbrev pub before : List Word → Option (List Word) → Option (List Word)
before ws rest = option_map (λ vs. ws ++ vs) rest

abbrev pub goes : Option (Word × ℕ) → (ℕ → Option (List Word)) → Option (List Word)
goes None rest = None
goes (Some p) rest = before (p.0 ∷ []) (rest p.1)

-- The words behind the first `skip` bytes, which belong to a word before; none where a byte is in no word. A space is no word.
abbrev pub words_from : (List ℕ → Word) → ℕ → List ℕ → Option (List Word)
words_from w skip [] = Some []
words_from w zero (b ∷ bs) = cond (b == 32) (words_from w 0 bs) (goes (piece_of w b bs) (λ more. words_from w more bs))
words_from w (suc skip) (b ∷ bs) = words_from w skip bs

-- The words of a text, where the signals have these names.
abbrev pub words_of : List (List ℕ) → List ℕ → Option (List Word)
words_of names bs = words_from (word_of names) 0 bs
