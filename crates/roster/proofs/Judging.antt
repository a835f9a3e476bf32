-- Texts that are judged.
use Rattle.std.proofs.Common.{◌≡◌, ℕ, Bool, true, false, cond, not, ◌||◌, leb, List, ◌∷◌, ◌++◌, length, is_some, IsErrAnd, Some, None, Ok, Err, Result, sym, ap, ◌∙◌, subst}
use Rattle.std.proofs.lemmas.Result.{err_from_is_err_and}
use Rattle.holds.specs.Cases.{Hold, Cases, first_case, on_line}
use Rattle.holds.proofs.Cases.{front_fits, past_fits}
use Rattle.std.specs.List.{list_all}
use Rattle.roster.specs.Entries.{Entries, PostLine, after_post, line_byte, name_holds, names_holds, post_line, post_holds, signal_holds, signals_holds, with_line, with_post, with_signal, with_signals}
use Rattle.roster.specs.Faults.{answered}
use Rattle.roster.specs.Rosters.{Judged}
use Rattle.roster.specs.declared.fault.SheetFault.{SheetFault}

-- The exit of a `?`.
pub judged_exit : {A : Type 0} (ts : Cases Hold) (want got : Entries) (r : Result A SheetFault) (f : SheetFault) → IsErrAnd r (λ e. e ≡ f) → first_case ts ≡ Some (answered f) → Judged ts want got r
judged_exit ts want got r f h e =
    let p = err_from_is_err_and r h in subst (Judged ts want got) (sym (p.1 ∙ ap Err p.2)) e

-- A fault of the first tests is the fault of all.
pub judged_break : {A : Type 0} (ts us : Cases Hold) (want got : Entries) (r : Result A SheetFault) (f : SheetFault) → IsErrAnd r (λ e. e ≡ f) → first_case ts ≡ Some (answered f) → Judged (ts ++ us) want got r
judged_break ts us want got r f h e = judged_exit (ts ++ us) want got r f h (front_fits ts us (answered f) e)

-- The same judgement by other tests, to the same end.
pub judged_as : {A : Type 0} (ts us : Cases Hold) (want ask got : Entries) (r : Result A SheetFault) → first_case us ≡ first_case ts → ask ≡ want → Judged us ask got r → Judged ts want got r
judged_as ts us want ask got (Ok u) e q h = (sym e ∙ h.0, h.1 ∙ q)
judged_as ts us want ask got (Err f) e q h = sym e ∙ h

-- The first of some signals.
module _ (e : Entries) (l : ℕ) (ps : List (List ℕ)) (n : List ℕ) (ns : List (List ℕ)) (split : ps ≡ n ∷ ns) where
  pub signal_breaks : (h : Hold) → first_case (signal_holds e l n) ≡ Some h → first_case (signals_holds e l ps) ≡ Some h
  signal_breaks h q =
      ap (λ z. first_case (signals_holds e l z)) split ∙ front_fits (signal_holds e l n) (signals_holds (with_signal e n) l ns) h q

  pub signal_passes : (d : Entries) → first_case (signal_holds e l n) ≡ None → d ≡ with_signal e n → first_case (signals_holds e l ps) ≡ first_case (signals_holds d l ns)
  signal_passes d q s =
      ap (λ z. first_case (signals_holds e l z)) split
      ∙ past_fits (signal_holds e l n) (signals_holds (with_signal e n) l ns) q
      ∙ ap (λ z. first_case (signals_holds z l ns)) (sym s)

  pub signal_joins : (d : Entries) → d ≡ with_signal e n → with_signals e ps ≡ with_signals d ns
  signal_joins d s = ap (with_signals e) split ∙ ap (λ z. with_signals z ns) (sym s)

-- A post line of good form that is not the ninth: its names decide.
module _ (e : Entries) (ruled : Bool) (l : ℕ) (bs : List ℕ) (p : PostLine) (good : true ≡ list_all line_byte bs) (formed : post_line bs ≡ Some p) (early : ruled ≡ false) where
  first_two : (b : Bool) → leb 8 (length e.posts) ≡ b → first_case (post_holds e ruled l bs) ≡ cond b (Some (on_line 4 l)) (first_case (names_holds e l (Some p)))
  first_two b h =
      ap (λ t. first_case ((on_line 2 l, not t) ∷ (on_line 3 l, not (is_some (post_line bs)) || ruled) ∷ (on_line 4 l, leb 8 (length e.posts)) ∷ names_holds e l (post_line bs))) (sym good)
      ∙ ap (λ t. first_case ((on_line 3 l, not (is_some t) || ruled) ∷ (on_line 4 l, leb 8 (length e.posts)) ∷ names_holds e l t)) formed
      ∙ ap (λ t. first_case ((on_line 3 l, t) ∷ (on_line 4 l, leb 8 (length e.posts)) ∷ names_holds e l (Some p))) early
      ∙ ap (λ t. cond t (Some (on_line 4 l)) (first_case (names_holds e l (Some p)))) h

  pub ninth : leb 8 (length e.posts) ≡ true → first_case (post_holds e ruled l bs) ≡ Some (on_line 4 l)
  ninth h = first_two true h

  pub post_breaks : leb 8 (length e.posts) ≡ false → (h : Hold) → first_case (name_holds e l p.name) ≡ Some h → first_case (post_holds e ruled l bs) ≡ Some h
  post_breaks q h k =
      first_two false q ∙ front_fits (name_holds e l p.name) (signals_holds (with_post e p.name) l p.signals) h k

  pub post_passes : leb 8 (length e.posts) ≡ false → (d : Entries) → first_case (name_holds e l p.name) ≡ None → d ≡ with_post e p.name → first_case (signals_holds d l p.signals) ≡ first_case (post_holds e ruled l bs)
  post_passes q d k s =
      ap (λ z. first_case (signals_holds z l p.signals)) s
      ∙ sym (first_two false q ∙ past_fits (name_holds e l p.name) (signals_holds (with_post e p.name) l p.signals) k)

  pub post_joins : (d : Entries) → d ≡ with_post e p.name → with_signals d p.signals ≡ after_post e bs
  post_joins d s = ap (λ z. with_signals z p.signals) s ∙ sym (ap (with_line e) formed)
