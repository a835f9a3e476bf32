-- An array that is made of a function of the index.
use Rattle.std.proofs.Common.{◌≡◌, ℕ, zero, suc, ◌+◌, ◌<◌, ◌≤◌, List, get_or, refl, sym, ap, ◌∙◌, subst, arith}
use native.Mathlib.Decide.{ℕ_discrete}
use denote.Param.Members.{Mut, Called}
use Rattle.std.specs.Array.{IsFromFnResult, IsFromFnResultFrom}

module _ {F B : Type 0} (g : Mut F (ℕ × Unit {0}) B) (f : F) (test : ℕ → B) (calls : (i : ℕ) (y : B) (q : F) → Called g f (i, tt) y q → (q ≡ f) × (y ≡ test i)) where
  each_at : (p : F) (ys : List B) (i n : ℕ) → p ≡ f → IsFromFnResultFrom g p ys i n → (k : ℕ) (d : B) → i ≤ k → k < i + n → get_or ys k d ≡ test k
  each_at p ys i zero s e k d l m = absurd (omega arith)
  each_at p ys i (suc n) s e k d l m =
      let w = calls i e.1 e.0 (subst (λ z. Called g z (i, tt) e.1 e.0) s e.3) in
      go w (ℕ_discrete k i) (λ h. each_at e.0 ys (i + 1) n w.0 e.4 k d h (omega arith))
    where
      go : (e.0 ≡ f) × (e.1 ≡ test i) → Dec (k ≡ i) → (i + 1 ≤ k → get_or ys k d ≡ test k) → get_or ys k d ≡ test k
      go w (yes same) rest = ap (λ z. get_or ys z d) same ∙ e.2.1 d ∙ w.1 ∙ ap test (sym same)
      go w (no other) rest = rest (omega arith)

  pub from_fn_at : (ys : List B) (n : ℕ) → IsFromFnResult g f ys n → (k : ℕ) (d : B) → k < n → get_or ys k d ≡ test k
  from_fn_at ys n r k d h = each_at f ys 0 n refl r.each k d (omega arith) (omega arith)
