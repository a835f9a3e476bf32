-- What post lines say, and when they are held back.
use Rattle.std.specs.Prelude.{ℕ, Bool, cond, not, ◌||◌, List, [], ◌∷◌, ◌++◌, map, length, take, drop, is_some, Some, None, codes, Option, ◌==◌, nat_le}
use Rattle.std.specs.List.{fold, list_all, slice_split}
use Rattle.std.specs.Str.{bytes_eq}
use Rattle.holds.specs.Cases.{Hold, Cases, on_line}
use Rattle.words.specs.Names.{among, is_name, name_byte}

-- A signal: its name, and the number of the post that owns it.
pub record Owned : Type 0 where
  pub name : List ℕ
  pub owner : ℕ

-- The names of the posts, numbered from 1, and the signals, numbered from 0, in the order of the sheet.
pub record Entries : Type 0 where
  pub posts : List (List ℕ)
  pub signals : List Owned

abbrev pub no_entries : Entries
no_entries = record { posts = []; signals = [] }

abbrev pub signal_names : Entries → List (List ℕ)
signal_names e = map (λ s. s.name) e.signals

abbrev pub with_post : Entries → List ℕ → Entries
with_post e n = record { posts = e.posts ++ n ∷ []; signals = e.signals }

-- A signal more, owned by the last post.
abbrev pub with_signal : Entries → List ℕ → Entries
with_signal e n =
    record { posts = e.posts; signals = e.signals ++ record { name = n; owner = length e.posts } ∷ [] }

abbrev pub with_signals : Entries → List (List ℕ) → Entries
with_signals e ns = fold with_signal e ns

-- Posts and signals share one set of names.
abbrev pub stands : Entries → List ℕ → Bool
stands e n = among n e.posts || among n (signal_names e)

-- A text in pieces, parted by each byte b.
abbrev pub pieces : ℕ → List ℕ → List (List ℕ)
pieces b bs = slice_split (λ c. c == b) bs

-- Not `starts_with` of std, which compares the other way round than `strip_prefix` promises; `sheet` too reads these sides.
abbrev pub begins_with : List ℕ → List ℕ → Bool
begins_with p bs = bytes_eq (take (length p) bs) p

-- A post line as the post's name and its signals' names.
pub record PostLine : Type 0 where
  pub name : List ℕ
  pub signals : List (List ℕ)

-- Behind the colon stands a space, and then the signals, each parted from the next by one space.
abbrev pub behind_colon : List ℕ → List ℕ → Option PostLine
behind_colon name [] = None
behind_colon name (b ∷ bs) = cond (b == 32) (Some (record { name = name; signals = pieces 32 bs })) None

-- One colon parts the name from what is behind it.
abbrev pub parted : List (List ℕ) → Option PostLine
parted [] = None
parted (name ∷ []) = None
parted (name ∷ (rest ∷ [])) = behind_colon name rest
parted (name ∷ (rest ∷ (more ∷ ps))) = None

-- It begins with `post` and a space.
abbrev pub post_line : List ℕ → Option PostLine
post_line bs = cond (begins_with (codes "post ") bs) (parted (pieces 58 (drop 5 bs))) None

-- A byte of a line that is no rule line: a space, a colon or a name byte.
abbrev pub line_byte : ℕ → Bool
line_byte b = b == 32 || (b == 58 || name_byte b)

-- Each name is judged before the next: is it a name, does it stand again, is a signal the thirty-third.
abbrev pub name_holds : Entries → ℕ → List ℕ → Cases Hold
name_holds e l n = (on_line 5 l, not (is_name n)) ∷ (on_line 6 l, stands e n) ∷ []

abbrev pub signal_holds : Entries → ℕ → List ℕ → Cases Hold
signal_holds e l n = name_holds e l n ++ (on_line 7 l, nat_le 32 (length e.signals)) ∷ []

abbrev pub signals_holds : Entries → ℕ → List (List ℕ) → Cases Hold
signals_holds e l [] = []
signals_holds e l (n ∷ ns) = signal_holds e l n ++ signals_holds (with_signal e n) l ns

abbrev pub names_holds : Entries → ℕ → Option PostLine → Cases Hold
names_holds e l None = []
names_holds e l (Some p) = name_holds e l p.name ++ signals_holds (with_post e p.name) l p.signals

-- A line l that is no rule line, behind a rule line or not: its bytes, its form, whether it is a ninth post line, its names.
abbrev pub post_holds : Entries → Bool → ℕ → List ℕ → Cases Hold
post_holds e ruled l bs =
    (on_line 2 l, not (list_all line_byte bs)) ∷ (on_line 3 l, not (is_some (post_line bs)) || ruled)
    ∷ (on_line 4 l, nat_le 8 (length e.posts)) ∷ names_holds e l (post_line bs)

-- The entries with those of a post line.
abbrev pub with_line : Entries → Option PostLine → Entries
with_line e None = e
with_line e (Some p) = with_signals (with_post e p.name) p.signals

abbrev pub after_post : Entries → List ℕ → Entries
after_post e bs = with_line e (post_line bs)
