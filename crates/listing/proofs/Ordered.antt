-- The signals of a sheet stand in the order of their posts.
use Rattle.std.proofs.Common.{◌≡◌, ℕ, suc, ◌+◌, ◌*◌, ◌<◌, ◌≤◌, Bool, true, false, cond, not, eqb, List, [], ◌∷◌, ◌++◌, map, length, drop, replicate, Some, None, Option, sym, refl, ap, ◌∙◌, add-one, add-zero, arith}
use Rattle.std.proofs.lemmas.List.{append_assoc, append-nil, length_push, map-append, replicate_more}
use Rattle.std.specs.List.{count_by}
use Rattle.std.proofs.lemmas.List.Folds.{fold-map, sum_by-replicate}
use Rattle.std.proofs.lemmas.List.Sums.{sum_by-append}
use Rattle.std.proofs.lemmas.Bool.{and_parts, eq-eqb, eqb-true, ne_eqb}
use Rattle.holds.specs.Order.{first_fit}
use Rattle.roster.specs.Entries.{Entries, Owned, PostLine, after_post, post_line, with_line, with_post, with_signal, with_signals}
use Rattle.sheet.specs.Texts.{Draft, after_line, after_lines, after_rule, blank, is_rule_line, lines, said}
use Rattle.listing.specs.Laws.{DigitsAreSignals, digit_groups}
use Rattle.listing.specs.Ticks.{each_fits, groups, is_group, owned_by, tick_holds}

abbrev owners : List Owned → List ℕ
owners ss = map (λ s. s.owner) ss

-- The numbers from k on, each as often as counted.
abbrev tagged : ℕ → List ℕ → List ℕ
tagged k [] = []
tagged k (c ∷ cs) = replicate c k ++ tagged (suc k) cs

tagged_more : (k : ℕ) (cs : List ℕ) (c : ℕ) → tagged k (cs ++ c ∷ []) ≡ tagged k cs ++ replicate c (k + length cs)
tagged_more k [] c = append-nil (replicate c k) ∙ ap (replicate c) (sym (add-zero k))
tagged_more k (d ∷ ds) c =
    ap (λ z. replicate d k ++ z) (tagged_more (suc k) ds c ∙ ap (λ j. tagged (suc k) ds ++ replicate c j) (next k (length ds)))
    ∙ sym (append_assoc (replicate d k) (tagged (suc k) ds) (replicate c (k + suc (length ds))))
  where
    next : (a b : ℕ) → suc a + b ≡ a + suc b
    next a b = omega arith

-- How often a number stands in a list.
abbrev times : ℕ → List ℕ → ℕ
times j xs = count_by (λ x. eqb x j) xs

times_append : (j : ℕ) (xs ys : List ℕ) → times j (xs ++ ys) ≡ times j xs + times j ys
times_append j xs ys = sum_by-append (λ x. cond (eqb x j) 1 0) xs ys

times_run : (j k c : ℕ) (t : Bool) → eqb k j ≡ t → times j (replicate c k) ≡ c * cond t 1 0
times_run j k c t e = sum_by-replicate (λ x. cond (eqb x j) 1 0) c k ∙ ap (λ u. c * cond u 1 0) e

times_below : (j k : ℕ) (cs : List ℕ) → j < k → times j (tagged k cs) ≡ 0
times_below j k [] l = refl
times_below j k (c ∷ cs) l =
    let b = times_run j k c false (ne_eqb k j (λ e. omega arith)) in
    let h = times_below j (suc k) cs (omega arith) in
    omega (arith, times_append j (replicate c k) (tagged (suc k) cs))

times_at : (k : ℕ) (cs : List ℕ) (c : ℕ) → times k (tagged k (c ∷ cs)) ≡ c
times_at k cs c =
    let b = times_run k k c true (eq-eqb k k refl) in
    let h = times_below k (suc k) cs (omega arith) in
    omega (arith, times_append k (replicate c k) (tagged (suc k) cs))

times_past : (j k : ℕ) (cs : List ℕ) (c : ℕ) → k < j → times j (tagged k (c ∷ cs)) ≡ times j (tagged (suc k) cs)
times_past j k cs c l =
    let b = times_run j k c false (ne_eqb k j (λ e. omega arith)) in
    omega (arith, times_append j (replicate c k) (tagged (suc k) cs))

-- Groups that fit are as long as counted.
fit_counts : (ss : List Owned) (k : ℕ) (gs : List (List ℕ)) (cs : List ℕ) → ((j : ℕ) → k ≤ j → owned_by j ss ≡ times j (tagged k cs)) → each_fits ss k gs ≡ true → length gs ≡ length cs → digit_groups k gs ≡ tagged k cs
fit_counts ss k [] [] h e l = refl
fit_counts ss k [] (c ∷ cs) h e l = absurd (omega arith)
fit_counts ss k (g ∷ gs) [] h e l = absurd (omega arith)
fit_counts ss k (g ∷ gs) (c ∷ cs) h e l =
    let p = and_parts (is_group (owned_by k ss) g) (each_fits ss (k + 1) gs) e in
    let f : each_fits ss (suc k) gs ≡ true = ap (λ j. each_fits ss j gs) (sym (add-one k)) ∙ p.1 in
    let n = eqb-true (length g) (owned_by k ss) (and_parts (eqb (length g) (owned_by k ss)) _ p.0).0 in
    let m : length g ≡ c = n ∙ h k (omega arith) ∙ times_at k cs c in
    let r = fit_counts ss (suc k) gs cs (λ j q. h j (omega arith) ∙ times_past j k cs c q) f (omega arith) in
    ap (λ z. replicate (length g) k ++ z) r ∙ ap (λ z. replicate z k ++ tagged (suc k) cs) m

-- The owners are the posts in order, each as often as it has signals.
pub record InOrder (e : Entries) : Type 0 where
  pub counts : List ℕ
  pub long : length counts ≡ length e.posts
  pub are : owners e.signals ≡ tagged 1 counts

post_in_order : (e : Entries) (n : List ℕ) → InOrder e → InOrder (with_post e n)
post_in_order e n o = record {
  counts = o.counts ++ 0 ∷ [];
  long = (let a = length_push o.counts 0 in let b = length_push e.posts n in omega (arith, o.long));
  are = o.are ∙ sym (tagged_more 1 o.counts 0 ∙ append-nil (tagged 1 o.counts));
}

-- A list that is not empty has a last element.
last_of : (cs : List ℕ) → 0 < length cs → (ds : List ℕ) × (d : ℕ) × (cs ≡ ds ++ d ∷ [])
last_of [] l = absurd (omega arith)
last_of (c ∷ []) l = ([], c, refl)
last_of (c ∷ (b ∷ cs)) l = let r = last_of (b ∷ cs) (omega arith) in (c ∷ r.0, r.1, ap (λ z. c ∷ z) r.2)

signal_in_order : (e : Entries) (n : List ℕ) → 0 < length e.posts → InOrder e → InOrder (with_signal e n)
signal_in_order e n l o = go (last_of o.counts (omega (arith, o.long)))
  where
    go : (ds : List ℕ) × (d : ℕ) × (o.counts ≡ ds ++ d ∷ []) → InOrder (with_signal e n)
    go (ds, d, q) =
        let a = length_push ds d in
        let b = length_push ds (d + 1) in
        let m = ap length q in
        let w : length e.posts ≡ 1 + length ds = omega (arith, o.long) in
        record {
          counts = ds ++ (d + 1) ∷ [];
          long = omega (arith, o.long);
          are = map-append (λ s. s.owner) e.signals _
              ∙ ap (λ z. z ++ length e.posts ∷ []) (o.are ∙ ap (tagged 1) q ∙ tagged_more 1 ds d)
              ∙ append_assoc (tagged 1 ds) (replicate d (1 + length ds)) _
              ∙ ap (λ z. tagged 1 ds ++ (replicate d (1 + length ds) ++ z ∷ [])) w
              ∙ ap (λ z. tagged 1 ds ++ z) (replicate_more d (1 + length ds))
              ∙ sym (tagged_more 1 ds (d + 1));
        }

signals_in_order : (ns : List (List ℕ)) (e : Entries) → 0 < length e.posts → InOrder e → InOrder (with_signals e ns)
signals_in_order [] e l o = o
signals_in_order (n ∷ ns) e l o = signals_in_order ns (with_signal e n) l (signal_in_order e n l o)

line_in_order : (e : Entries) (p : Option PostLine) → InOrder e → InOrder (with_line e p)
line_in_order e None o = o
line_in_order e (Some p) o =
    let b = length_push e.posts p.name in
    signals_in_order p.signals (with_post e p.name) (omega arith) (post_in_order e p.name o)

lines_in_order : (xs : List (List ℕ)) (d : Draft) → InOrder d.entries → InOrder (after_lines d xs).entries
lines_in_order [] d o = o
lines_in_order (x ∷ xs) d o = lines_in_order xs (after_line d x) (go (is_rule_line x))
  where
    go : (t : Bool) → InOrder (cond t (after_rule d (drop 5 x)) (record { entries = after_post d.entries x; rules = d.rules })).entries
    go true = o
    go false = line_in_order d.entries (post_line x) o

said_in_order : (sheet : List ℕ) → InOrder (said sheet).entries
unfolding said
said_in_order sheet = lines_in_order (lines sheet) blank (record { counts = []; long = refl; are = refl })

-- A line that is not held back.
accepted : (e : Entries) (line : List ℕ) → first_fit (tick_holds e line) ≡ None → (length (groups line) ≡ length e.posts) × (each_fits e.signals 1 (groups line) ≡ true)
accepted e line = go (eqb (length (groups line)) (length e.posts)) refl (each_fits e.signals 1 (groups line))
  where
    go : (t : Bool) → eqb (length (groups line)) (length e.posts) ≡ t → (u : Bool) → first_fit ((14, not t) ∷ (15, not u) ∷ []) ≡ None → (length (groups line) ≡ length e.posts) × (u ≡ true)
    go true q true h = (eqb-true _ _ q, refl)
    go true q false h = let z : ◌≡◌ {A = ℕ} 0 1 = cc in absurd (omega arith)
    go false q u h = let z : ◌≡◌ {A = ℕ} 0 1 = cc in absurd (omega arith)

pub digits_are_signals : DigitsAreSignals
digits_are_signals sheet line h =
    let e = (said sheet).entries in
    let o = said_in_order sheet in
    let a = accepted e line h in
    fit_counts e.signals 1 (groups line) o.counts (λ j q. sym (fold-map (λ a x. a + cond (eqb x j) 1 0) (λ s. s.owner) 0 e.signals) ∙ ap (times j) o.are) a.1 (a.0 ∙ sym o.long)
    ∙ sym o.are
