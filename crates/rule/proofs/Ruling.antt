-- The laws of rules.
use Rattle.std.proofs.Common.{◌≡◌, ℕ, zero, suc, ◌&&◌, ap₂, ◌+◌, ◌-◌, ◌<◌, ◌≤◌, Bool, true, false, cond, ◌⊎◌, List, [], ◌∷◌, ◌++◌, length, get_or, take, Some, None, sym, refl, ap, ◌∙◌, subst, inl, inr, arith, ltb-true, le-ltb, lt-ltb}
use mathlib.Core.Bool.{false≢true}
use Rattle.std.specs.List.{list_all}
use Rattle.std.proofs.lemmas.List.{take_all}
use Rattle.std.proofs.lemmas.List.Folds.{list_all_more}
use Rattle.temporal.specs.Formula.{Formula}
use Rattle.temporal.specs.Formula.Formula.{const, signal, reading, neg, join, next, finally, globally, until}
use Rattle.temporal.specs.Obligation.{Open as OpenIn, Closed, Obligation}
use Rattle.temporal.specs.Parts.{In, Part as PartOf, parts}
use Rattle.parts.specs.Places.{node, place, formula, formulas, blank, short, Sound}
use Rattle.rule.specs.Rules.{plain, plain_part, all_plain, misfit, PlainMeans}
use Rattle.rule.specs.declared.misfit.Misfit.TheVariants.{Parts, Leaf}
use Rattle.parts.specs.declared.part.Unary.TheVariants.{Not, Next, Finally, Globally}
use Rattle.parts.specs.declared.part.Binary.TheVariants.{Join, Until}
use Rattle.parts.specs.declared.part.Part.{Part}
use Rattle.parts.specs.declared.part.Part.TheVariants.{Const, Signal, Open, One, Two}
use Rattle.parts.proofs.Places.{formulas_length, formula_node, short_is}
use Rattle.compact.specs.Compacts.{compact_parts, formula_of}
use Rattle.compact.specs.declared.compact.Compact.{Compact}
use Rattle.compact.proofs.Compacting.{top_formula}
use Rattle.temporal.proofs.Owed.{closed_clear}
use Rattle.temporal.proofs.Parts.{listed, unlisted}
use Rattle.temporal.proofs.Order.{finish_new}

plain_node : (n : ℕ) (f : ℕ → Formula) (p : Part) → plain_part n p ≡ plain n (node f p)
plain_node n f (Const b) = refl
plain_node n f (Signal p) = refl
plain_node n f (Open p s) = refl
plain_node n f (One Not a) = refl
plain_node n f (One Next a) = refl
plain_node n f (One Finally a) = refl
plain_node n f (One Globally a) = refl
plain_node n f (Two (Join o) x y) = refl
plain_node n f (Two Until x y) = refl

-- The parts of a table are all plain just if their formulas are.
module _ (n : ℕ) (ps : List Part) (s : Sound ps) where
  first_plain : (i : ℕ) → i ≤ length ps → list_all (plain_part n) (take i ps) ≡ all_plain n (take i (formulas ps))
  first_plain zero h = refl
  first_plain (suc i) h =
      let l = formulas_length ps in
      let e : suc i ≡ i + 1 = omega arith in
      let here : plain_part n (get_or ps i blank) ≡ plain n (formula ps i) =
      plain_node n (formula ps) (get_or ps i blank) ∙ ap (plain n) (sym (formula_node ps i s.ordered (omega arith))) in
      ap (λ k. list_all (plain_part n) (take k ps)) e ∙ list_all_more (plain_part n) ps i blank (omega arith)
      ∙ ap₂ (λ a b. a && b) (first_plain i (omega arith)) here
      ∙ sym (ap (λ k. list_all (plain n) (take k (formulas ps))) e ∙ list_all_more (plain n) (formulas ps) i (const false) (omega arith))

  pub parts_plain : list_all (plain_part n) ps ≡ all_plain n (formulas ps)
  parts_plain =
      let l = formulas_length ps in
      ap (list_all (plain_part n)) (sym (take_all (length ps) ps (omega arith))) ∙ first_plain (length ps) (omega arith)
      ∙ ap (all_plain n) (take_all (length ps) (formulas ps) (omega arith))

-- Each way that a rule is judged.
module _ (n : ℕ) (f : Formula) (few : n ≤ 32) where
  pub misfit_parts : 64 < length (parts f) → misfit n f ≡ Some Parts
  misfit_parts h = rw (le-ltb 32 n few, lt-ltb 64 (length (parts f)) h) refl

  pub misfit_leaf : length (parts f) ≤ 64 → false ≡ all_plain n (parts f) → misfit n f ≡ Some Leaf
  misfit_leaf h e = rw (le-ltb 32 n few, le-ltb 64 (length (parts f)) h, sym e) refl

  pub misfit_none : length (parts f) ≤ 64 → true ≡ all_plain n (parts f) → misfit n f ≡ None
  misfit_none h e = rw (le-ltb 32 n few, le-ltb 64 (length (parts f)) h, sym e) refl

-- The formula `false` is a rule over no signals.
pub never_parts : (b : Bool) → parts (const b) ≡ const b ∷ []
never_parts b = finish_new (const b) [] (λ z. z)

-- That all parts are plain, in other words.
plain_in : (n : ℕ) (fs : List Formula) → all_plain n fs ≡ true → (f : Formula) → In f fs → plain n f ≡ true
plain_in n [] e f k = absurd k
plain_in n (g ∷ fs) e f k = go (plain n g) refl e k (plain_in n fs)
  where
    go : (b : Bool) → plain n g ≡ b → (b && all_plain n fs) ≡ true → (f ≡ g) ⊎ In f fs
        → (all_plain n fs ≡ true → (h : Formula) → In h fs → plain n h ≡ true) → plain n f ≡ true
    go true p q (inl s) rest = ap (plain n) s ∙ p
    go true p q (inr j) rest = rest q f j
    go false p q j rest = absurd (false≢true q)

all_in : (n : ℕ) (fs : List Formula) → ((f : Formula) → In f fs → plain n f ≡ true) → all_plain n fs ≡ true
all_in n [] h = refl
all_in n (f ∷ fs) h = rw (h f (inl refl)) (all_in n fs (λ g k. h g (inr k)))

pub open_part : (p e : ℕ) (f : Formula) → OpenIn p e f → PartOf (reading p e) f
open_part p e (const b) k = absurd k
open_part p e (signal q) k = absurd k
open_part p e (reading q s) k = let a = k.0 in let b = k.1 in cc
open_part p e (neg f) k = inr (open_part p e f k)
open_part p e (join o f g) (inl k) = inr (inl (open_part p e f k))
open_part p e (join o f g) (inr k) = inr (inr (open_part p e g k))
open_part p e (next f) k = inr (open_part p e f k)
open_part p e (finally f) k = inr (open_part p e f k)
open_part p e (globally f) k = inr (open_part p e f k)
open_part p e (until f g) (inl k) = inr (inl (open_part p e f k))
open_part p e (until f g) (inr k) = inr (inr (open_part p e g k))

pub part_open : (p e : ℕ) (f : Formula) → PartOf (reading p e) f → OpenIn p e f
part_open p e (const b) k = let z : true ≡ false = cc in false≢true (sym z)
part_open p e (signal q) k = let z : true ≡ false = cc in false≢true (sym z)
part_open p e (reading q s) k = let a : q ≡ p = cc in let b : s ≡ e = cc in (a, b)
part_open p e (neg f) (inl k) = absurd (cc)
part_open p e (neg f) (inr k) = part_open p e f k
part_open p e (join o f g) (inl k) = absurd (cc)
part_open p e (join o f g) (inr (inl k)) = inl (part_open p e f k)
part_open p e (join o f g) (inr (inr k)) = inr (part_open p e g k)
part_open p e (next f) (inl k) = absurd (cc)
part_open p e (next f) (inr k) = part_open p e f k
part_open p e (finally f) (inl k) = absurd (cc)
part_open p e (finally f) (inr k) = part_open p e f k
part_open p e (globally f) (inl k) = absurd (cc)
part_open p e (globally f) (inr k) = part_open p e f k
part_open p e (until f g) (inl k) = absurd (cc)
part_open p e (until f g) (inr (inl k)) = inl (part_open p e f k)
part_open p e (until f g) (inr (inr k)) = inr (part_open p e g k)

pub plain_means : PlainMeans
plain_means n f = (
  λ e. (
    λ p s k. false≢true (plain_in n (parts f) e (reading p s) (listed (reading p s) f (open_part p s f k))),
    λ p k. ltb-true p n (plain_in n (parts f) e (signal p) (listed (signal p) f k)),
  ),
  λ w. all_in n (parts f) (λ g k. by_kind g (unlisted g f k) w),
)
  where
    by_kind : (g : Formula) → PartOf g f → Closed f × ((p : ℕ) → PartOf (signal p) f → p < n) → plain n g ≡ true
    by_kind (const b) k w = refl
    by_kind (signal p) k w = lt-ltb p n (w.1 p k)
    by_kind (reading p s) k w = absurd (w.0 p s (part_open p s f k))
    by_kind (neg g) k w = refl
    by_kind (join o g h) k w = refl
    by_kind (next g) k w = refl
    by_kind (finally g) k w = refl
    by_kind (globally g) k w = refl
    by_kind (until g h) k w = refl

-- A rule is an obligation for tick 0.
pub rule_owed : (f : Compact) (n : ℕ) → all_plain n (parts (formula_of f)) ≡ true → Obligation 0 (formula_of f)
rule_owed f n h =
    let closed = ((plain_means n (formula_of f)).0 h).0 in
    let k = length (compact_parts f) in
    let l : k - 1 < length (compact_parts f) = (let s = f.some in omega arith) in
    record {
      shortened = short_is (formula_of f) (subst (λ g. short g ≡ true) (top_formula f k refl) (f.table.short (k - 1) l));
      before = λ p e j. absurd (closed p e j);
      clear = closed_clear (formula_of f) closed;
    }
