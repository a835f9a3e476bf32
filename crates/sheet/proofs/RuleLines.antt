-- The rule line.
use Rattle.std.proofs.Common.{◌≡◌, ℕ, Bool, true, false, not, ◌||◌, eqb, List, [], ◌∷◌, ◌++◌, map, length, is_some, Some, None, Ok, Err, Option, Result, unwrap_or, sym, ap, ◌∙◌}
use Rattle.temporal.specs.Formula.{Formula}
use Rattle.holds.specs.Cases.{Hold, first_case, on_line}
use Rattle.words.specs.Lists.{Cut, Holds}
use Rattle.words.specs.Named.{name_bytes}
use Rattle.words.specs.Texts.{words_of}
use Rattle.words.specs.declared.word.Word.{Word}
use Rattle.words.specs.declared.wordlist.WordList.{WordList}
use Rattle.roster.specs.Entries.{signal_names}
use Rattle.roster.specs.Rosters.{owned, post_name}
use Rattle.roster.specs.declared.roster.Post.{Post}
use Rattle.roster.specs.declared.roster.Signal.{Signal}
use Rattle.roster.proofs.Standing.{labels}
use Rattle.sheet.proofs.Spares.{counted}
use Rattle.sheet.specs.Texts.{Draft, after_rule, rule_formula, rule_holds, words_holds}

-- The text has a byte that is in no word, or the list has its words.
pub cut_none : {A E : Type 0} (o : Option (List Word)) (l : WordList) (r : Result A E) → Cut o l r → (e : E) × (r ≡ Err e) → o ≡ None
cut_none o l (Ok u) c k = let q = k.1 in absurd (cc)
cut_none o l (Err e) c k = c

pub cut_some : {A E : Type 0} (o : Option (List Word)) (l : WordList) (r : Result A E) (x : A) → Cut o l r → r ≡ Ok x → (ws : List Word) × (o ≡ Some ws) × Holds ws l
cut_some o l (Ok u) x c q = c
cut_some o l (Err e) x c q = absurd (cc)

module _ (ps : List Post) (ss : List Signal) (fs : List Formula) (l : ℕ) (text : List ℕ) where
  abbrev draft : Draft
  draft =
      record {
        entries = record { posts = map post_name ps; signals = map owned ss };
        rules = fs;
      }

  judge : Option (List Word) → Bool → Option Hold
  judge o b =
      first_case ((on_line 2 l, not (is_some o)) ∷ (on_line 3 l, b) ∷ words_holds (length (map owned ss)) l (unwrap_or o []))

  names : (xs : List Signal) (o : Option (List Word)) → xs ≡ ss → words_of (map (λ s. name_bytes s.name) xs) text ≡ o → words_of (signal_names draft.entries) text ≡ o
  names xs o e h = ap (λ ns. words_of ns text) (labels ss ∙ ap (map (λ s. name_bytes s.name)) (sym e)) ∙ h

  any_posts : (qs : List Post) → qs ≡ ps → eqb (length (map post_name ps)) 0 ≡ eqb (length qs) 0
  any_posts qs e = sym (counted post_name ps (length qs) (ap length e))

  pub foreign_fits : (xs : List Signal) → xs ≡ ss → words_of (map (λ s. name_bytes s.name) xs) text ≡ None → first_case (rule_holds draft l text) ≡ Some (on_line 2 l)
  unfolding judge
  foreign_fits xs e h = ap (λ o. judge o (eqb (length draft.entries.posts) 0 || not (eqb (length draft.rules) 0))) (names xs None e h)

  module _ (xs : List Signal) (ws : List Word) (same : xs ≡ ss) (cut : words_of (map (λ s. name_bytes s.name) xs) text ≡ Some ws) where
    judged : (b : Bool) → (eqb (length draft.entries.posts) 0 || not (eqb (length draft.rules) 0)) ≡ b → first_case (rule_holds draft l text) ≡ judge (Some ws) b
    unfolding judge
    judged b h =
        ap (λ o. judge o (eqb (length draft.entries.posts) 0 || not (eqb (length draft.rules) 0))) (names xs (Some ws) same cut)
        ∙ ap (judge (Some ws)) h

    pub first_fits : (qs : List Post) → qs ≡ ps → true ≡ eqb (length qs) 0 → first_case (rule_holds draft l text) ≡ Some (on_line 3 l)
    unfolding judge
    first_fits qs e h =
        judged true (ap (λ b. b || not (eqb (length draft.rules) 0)) (any_posts qs e ∙ sym h))

    pub second_fits : (qs : List Post) → qs ≡ ps → false ≡ eqb (length qs) 0 → eqb (length fs) 0 ≡ false → first_case (rule_holds draft l text) ≡ Some (on_line 3 l)
    unfolding judge
    second_fits qs e h r =
        judged true (ap (λ b. b || not (eqb (length draft.rules) 0)) (any_posts qs e ∙ sym h)
        ∙ ap not r)

    module _ (qs : List Post) (posts : qs ≡ ps) (some : false ≡ eqb (length qs) 0) (unruled : fs ≡ []) where
      pub words_decide : first_case (rule_holds draft l text) ≡ first_case (words_holds (length (map owned ss)) l ws)
      unfolding judge
      words_decide =
          judged false (ap (λ b. b || not (eqb (length draft.rules) 0)) (any_posts qs posts ∙ sym some)
          ∙ ap (λ z. not (eqb (length z) 0)) unruled)

      pub rule_joins : (g : Formula) → g ≡ rule_formula ws → ◌≡◌ {A = Draft} (record { entries = draft.entries; rules = g ∷ [] }) (after_rule draft text)
      rule_joins g h =
          ap (λ x. record { entries = draft.entries; rules = x ∷ [] }) h
          ∙ sym (ap (λ o. record { entries = draft.entries; rules = draft.rules ++ rule_formula (unwrap_or o []) ∷ [] }) (names xs (Some ws) same cut)
          ∙ ap (λ z. record { entries = draft.entries; rules = z ++ rule_formula ws ∷ [] }) unruled)
