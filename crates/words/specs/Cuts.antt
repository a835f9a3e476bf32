-- What it means that a text is cut into words.
use Rattle.std.specs.Prelude.{◌≡◌, ℕ, true, false, ◌↔◌, List, [], ◌∷◌, ◌++◌, Some, slice_index}
use Rattle.std.specs.List.{list_all}
use Rattle.words.specs.Names.{name_byte}
use Rattle.words.specs.Texts.{sign, word_of, words_of}
use Rattle.words.specs.declared.word.Connective.TheVariants.{Implies}
use Rattle.words.specs.declared.word.Word.{Word}
use Rattle.words.specs.declared.word.Word.TheVariants.{Infix}

-- Cuts w bs ws: the bytes bs are the words ws, where w says what a run of name bytes is.
pub data Cuts (w : List ℕ → Word) : List ℕ → List Word → Type 0 where
  -- no bytes are no words
  done : Cuts w [] []
  -- a space adds no word
  space : {bs : List ℕ} {ws : List Word} → Cuts w bs ws → Cuts w (32 ∷ bs) ws
  -- a sign is a word by itself
  single : {b : ℕ} {v : Word} {bs : List ℕ} {ws : List Word} → sign b ≡ Some v → Cuts w bs ws → Cuts w (b ∷ bs) (v ∷ ws)
  -- the two bytes of `->` are one word
  dash : {bs : List ℕ} {ws : List Word} → Cuts w bs ws → Cuts w (45 ∷ 62 ∷ bs) (Infix Implies ∷ ws)
  -- name bytes are one word, as far as they go
  run : (b : ℕ) (r : List ℕ) {bs : List ℕ} {ws : List Word} → list_all name_byte (b ∷ r) ≡ true → name_byte (slice_index bs 0) ≡ false → Cuts w bs ws → Cuts w ((b ∷ r) ++ bs) (w (b ∷ r) ∷ ws)

-- The words of a text are those that it is cut into.
abbrev pub WordsMean : Type 0
WordsMean =
    (names : List (List ℕ)) (bs : List ℕ) (ws : List Word) → (words_of names bs ≡ Some ws) ↔ Cuts (word_of names) bs ws
