-- Post lines, written out.
use Rattle.std.specs.Prelude.{ℕ, List, ◌∷◌, ◌++◌, map, codes, ◌==◌}
use Rattle.std.specs.List.{enumerate_from, filter, flat_map}
use Rattle.roster.specs.Entries.{Entries, Owned}

-- The texts one behind the other, each with the byte b before it.
abbrev pub behind : ℕ → List (List ℕ) → List ℕ
behind b xs = flat_map (λ x. b ∷ x) xs

-- `post`, a space, the name, a colon, and a space before each signal.
abbrev pub post_text : List ℕ → List (List ℕ) → List ℕ
post_text name signals = codes "post " ++ (name ++ (codes ":" ++ behind 32 signals))

-- The names of the signals that a post owns.
abbrev pub owned_names : ℕ → List Owned → List (List ℕ)
owned_names k ss = map (λ s. s.name) (filter (λ s. s.owner == k) ss)

-- The lines of some posts, from number k on.
abbrev pub lines_from : List Owned → ℕ → List (List ℕ) → List (List ℕ)
lines_from ss k ns = map (λ p. post_text p.1 (owned_names p.0 ss)) (enumerate_from k ns)

-- The post lines that say these entries.
abbrev pub written : Entries → List (List ℕ)
written e = lines_from e.signals 1 e.posts
