-- A post line is its entries, written out.
use Rattle.std.proofs.Common.{◌≡◌, ℕ, suc, ◌+◌, ◌<◌, ◌≤◌, Bool, true, false, cond, eqb, List, [], ◌∷◌, ◌++◌, map, length, take, drop, Some, None, codes, sym, refl, ap, ◌∙◌, subst, append_assoc, arith}
use Rattle.std.proofs.lemmas.Slice.Eq.{bytes_eq-Decides}
use Rattle.std.proofs.lemmas.List.{append-nil, length_push, map-append, take-append-drop}
use Rattle.std.proofs.lemmas.List.Splits.{length-slice_split, join_with_byte-slice_split}
use Rattle.std.proofs.lemmas.List.Elements.{filter-append}
use Rattle.std.specs.List.{AllByRecursion, filter, join_with_byte}
use Rattle.std.proofs.lemmas.Bool.{eq-eqb, eqb-true, ne_eqb}
use Rattle.roster.specs.Entries.{Entries, Owned, PostLine, after_post, begins_with, parted, pieces, post_line, with_line, with_post, with_signal, with_signals}
use Rattle.roster.specs.Written.{behind, lines_from, owned_names, post_text, written}

-- Pieces, each with the mark before it, are the mark and the text that they part.
behind_join : (b : ℕ) (ps : List (List ℕ)) → 1 ≤ length ps → behind b ps ≡ b ∷ join_with_byte b ps
behind_join b [] l = absurd (omega arith)
behind_join b (p ∷ []) l = ap (λ z. b ∷ z) (append-nil p)
behind_join b (p ∷ (q ∷ ps)) l = ap (λ z. b ∷ (p ++ z)) (behind_join b (q ∷ ps) (omega arith))

spaced_again : (bs : List ℕ) → behind 32 (pieces 32 bs) ≡ 32 ∷ bs
spaced_again bs =
    let some = length-slice_split (λ c. eqb c 32) bs in
    behind_join 32 (pieces 32 bs) (omega (arith, some)) ∙ ap (λ z. 32 ∷ z) (join_with_byte-slice_split 32 bs)

no_none : {A : Type 0} {P : Type 0} (x : A) → None ≡ Some x → P
no_none x e = absurd (cc)

parted_written : (ps : List (List ℕ)) (p : PostLine) → parted ps ≡ Some p → join_with_byte 58 ps ≡ p.name ++ (58 ∷ behind 32 p.signals)
parted_written [] p e = no_none p e
parted_written (x ∷ []) p e = no_none p e
parted_written (x ∷ ([] ∷ [])) p e = no_none p e
parted_written (x ∷ ((b ∷ bs) ∷ [])) p e = go (eqb b 32) refl e
  where
    q : PostLine
    q = record { name = x; signals = pieces 32 bs }

    go : (t : Bool) → eqb b 32 ≡ t → cond t (Some q) None ≡ Some p → x ++ (58 ∷ (b ∷ bs)) ≡ p.name ++ (58 ∷ behind 32 p.signals)
    go true i h =
        let same : q ≡ p = cc in
        ap (λ z. x ++ (58 ∷ z)) (ap (λ z. z ∷ bs) (eqb-true b 32 i) ∙ sym (spaced_again bs))
        ∙ ap (λ z. z.name ++ (58 ∷ behind 32 z.signals)) same
    go false i h = no_none p h
parted_written (x ∷ (y ∷ (z ∷ ps))) p e = no_none p e

pub line_written : (bs : List ℕ) (p : PostLine) → post_line bs ≡ Some p → bs ≡ post_text p.name p.signals
line_written bs p e = go (begins_with (codes "post ") bs) refl e
  where
    go : (t : Bool) → begins_with (codes "post ") bs ≡ t → cond t (parted (pieces 58 (drop 5 bs))) None ≡ Some p → bs ≡ post_text p.name p.signals
    go true b h =
        sym (take-append-drop 5 bs)
        ∙ ap (λ z. z ++ drop 5 bs) ((bytes_eq-Decides (take 5 bs) (codes "post ")).0 b)
        ∙ ap (λ z. codes "post " ++ z) (sym (join_with_byte-slice_split 58 (drop 5 bs)) ∙ parted_written (pieces 58 (drop 5 bs)) p h)
    go false b h = no_none p h

-- The owners are at most k.
abbrev pub Below : ℕ → List Owned → Type 0
Below k ss = AllByRecursion (λ s. s.owner ≤ k) ss

below_more : (k : ℕ) (ss : List Owned) → Below k ss → Below (suc k) ss
below_more k [] h = tt
below_more k (s ∷ ss) h = let a = h.0 in (omega arith, below_more k ss h.1)

below_append : (k : ℕ) (ss ts : List Owned) → Below k ss → Below k ts → Below k (ss ++ ts)
below_append k [] ts h i = i
below_append k (s ∷ ss) ts h i = (h.0, below_append k ss ts h.1 i)

-- Signals of post k.
abbrev of_post : ℕ → List (List ℕ) → List Owned
of_post k ns = map (λ n. record { name = n; owner = k }) ns

below_post : (k : ℕ) (ns : List (List ℕ)) → Below k (of_post k ns)
below_post k [] = tt
below_post k (n ∷ ns) = (omega arith, below_post k ns)

signals_added : (e : Entries) (ns : List (List ℕ)) → with_signals e ns ≡ record { posts = e.posts; signals = e.signals ++ of_post (length e.posts) ns }
signals_added e [] = ap (λ z. record { posts = e.posts; signals = z }) (sym (append-nil e.signals))
signals_added e (n ∷ ns) =
    signals_added (with_signal e n) ns
    ∙ ap (λ z. record { posts = e.posts; signals = z }) (append_assoc e.signals (record { name = n; owner = length e.posts } ∷ []) (of_post (length e.posts) ns))

abbrev name_of : Owned → List ℕ
name_of s = s.name

names_append : (k : ℕ) (ss ts : List Owned) → owned_names k (ss ++ ts) ≡ owned_names k ss ++ owned_names k ts
names_append k ss ts =
    ap (map name_of) (filter-append (λ s. eqb s.owner k) ss ts)
    ∙ map-append name_of (filter (λ s. eqb s.owner k) ss) (filter (λ s. eqb s.owner k) ts)

-- One signal more in front, of post k or not.
names_cons : (k : ℕ) (s : Owned) (ss : List Owned) (t : Bool) → eqb s.owner k ≡ t → owned_names k (s ∷ ss) ≡ cond t (s.name ∷ owned_names k ss) (owned_names k ss)
names_cons k s ss true e = ap (λ u. map name_of (cond u (s ∷ filter (λ r. eqb r.owner k) ss) (filter (λ r. eqb r.owner k) ss))) e
names_cons k s ss false e = ap (λ u. map name_of (cond u (s ∷ filter (λ r. eqb r.owner k) ss) (filter (λ r. eqb r.owner k) ss))) e

names_none : (k j : ℕ) (ss : List Owned) → Below k ss → k < j → owned_names j ss ≡ []
names_none k j [] h l = refl
names_none k j (s ∷ ss) h l =
    let a = h.0 in names_cons j s ss false (ne_eqb s.owner j (λ e. omega arith)) ∙ names_none k j ss h.1 l

names_all : (k : ℕ) (ns : List (List ℕ)) → owned_names k (of_post k ns) ≡ ns
names_all k [] = refl
names_all k (n ∷ ns) =
    names_cons k (record { name = n; owner = k }) (of_post k ns) true (eq-eqb k k refl) ∙ ap (λ z. n ∷ z) (names_all k ns)

names_other : (k j : ℕ) (ns : List (List ℕ)) → j < k → owned_names j (of_post k ns) ≡ []
names_other k j [] l = refl
names_other k j (n ∷ ns) l =
    names_cons j (record { name = n; owner = k }) (of_post k ns) false (ne_eqb k j (λ e. omega arith)) ∙ names_other k j ns l

-- Signals of a later post leave the lines before as they were, and one post more is one line more.
lines_more : (ss : List Owned) (k m : ℕ) (ns new : List (List ℕ)) (n : List ℕ) → Below m ss → k + length ns ≡ suc m → lines_from (ss ++ of_post (suc m) new) k (ns ++ n ∷ []) ≡ lines_from ss k ns ++ post_text n new ∷ []
lines_more ss k m [] new n b e =
    let here : k ≡ suc m = omega arith in
    ap (λ z. post_text n z ∷ []) (
    names_append k ss (of_post (suc m) new)
    ∙ ap (λ z. z ++ owned_names k (of_post (suc m) new)) (names_none m k ss b (omega arith))
    ∙ ap (λ z. owned_names z (of_post (suc m) new)) here
    ∙ names_all (suc m) new)
lines_more ss k m (x ∷ ns) new n b e =
    let first : owned_names k (ss ++ of_post (suc m) new) ≡ owned_names k ss = names_append k ss (of_post (suc m) new) ∙ ap (λ z. owned_names k ss ++ z) (names_other (suc m) k new (omega arith)) ∙ append-nil (owned_names k ss) in
    ap (λ z. post_text x z ∷ lines_from (ss ++ of_post (suc m) new) (k + 1) (ns ++ n ∷ [])) first
    ∙ ap (λ z. post_text x (owned_names k ss) ∷ z) (lines_more ss (k + 1) m ns new n b (omega arith))

-- The entries say the lines.
pub record Says (e : Entries) (ls : List (List ℕ)) : Type 0 where
  pub below : Below (length e.posts) e.signals
  pub lines_are : ls ≡ written e

pub nothing_says : Says (record { posts = []; signals = [] }) []
nothing_says = record { below = tt; lines_are = refl }

pub says_more : (e : Entries) (ls : List (List ℕ)) (bs : List ℕ) (p : PostLine) → Says e ls → post_line bs ≡ Some p → Says (after_post e bs) (ls ++ bs ∷ [])
says_more e ls bs p s h =
    let m = length e.posts in
    let long = length_push e.posts p.name in
    let count : length (with_post e p.name).posts ≡ suc m = omega arith in
    let after : after_post e bs ≡ record { posts = e.posts ++ p.name ∷ []; signals = e.signals ++ of_post (suc m) p.signals } =
    ap (with_line e) h
    ∙ signals_added (with_post e p.name) p.signals
    ∙ ap (λ k. record { posts = e.posts ++ p.name ∷ []; signals = e.signals ++ of_post k p.signals }) count in
    subst (λ z. Says z (ls ++ bs ∷ [])) (sym after) (record {
      below = subst (λ k. Below k (e.signals ++ of_post (suc m) p.signals)) (sym count) (below_append (suc m) e.signals (of_post (suc m) p.signals) (below_more m e.signals s.below) (below_post (suc m) p.signals));
      lines_are = ap (λ z. z ++ bs ∷ []) s.lines_are
          ∙ ap (λ z. written e ++ z ∷ []) (line_written bs p h)
          ∙ sym (lines_more e.signals 1 m e.posts p.signals p.name s.below (omega arith));
    })
