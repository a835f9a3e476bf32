-- The exit of a `?`.
use Rattle.std.proofs.Common.{◌≡◌, IsErrAnd, Err, Result, sym, ap, ◌∙◌, subst}
use Rattle.std.proofs.lemmas.Result.{err_from_is_err_and}

-- It returns the fault f, of which P holds.
pub exit : {A E : Type 0} (P : Result A E → Type 0) (r : Result A E) (f : E) → IsErrAnd r (λ e. e ≡ f) → P (Err f) → P r
exit P r f h p = let was = err_from_is_err_and r h in subst P (sym (was.1 ∙ ap Err was.2)) p
