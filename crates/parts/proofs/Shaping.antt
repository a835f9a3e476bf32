-- What the tests of the shortening constructors say, and what each way comes to.
use Rattle.std.proofs.Common.{◌≡◌, ℕ, ◌<◌, ◌≤◌, Bool, true, false, not, List, length, get_or, MatchBool, sym, refl, ap, ◌∙◌, subst, ap₂, arith}
use Rattle.temporal.specs.Formula.{Formula}
use Rattle.temporal.specs.Formula.Formula.{const, neg, join, until}
use Rattle.temporal.specs.Shorten.{same, begins, unit, zero, negˢ, joinˢ, nextˢ, finallyˢ, globallyˢ, untilˢ, shorten}
use Rattle.temporal.specs.Obligation.{Shortened}
use Rattle.parts.specs.Places.{op, one, oneˢ, twoˢ, node, formula, blank, reach, Sound, Stands, Fits}
use Rattle.parts.specs.declared.part.Unary.{Unary}
use Rattle.parts.specs.declared.part.Unary.TheVariants.{Not, Next, Finally, Globally}
use Rattle.parts.specs.declared.part.Binary.{Binary}
use Rattle.parts.specs.declared.part.Binary.TheVariants.{Join, Until}
use Rattle.parts.specs.declared.part.Junction.{Junction}
use Rattle.parts.specs.declared.part.Junction.TheVariants.{And, Or}
use Rattle.parts.specs.declared.part.Part.{Part}
use Rattle.parts.specs.declared.part.Part.TheVariants.{Const, Signal, Open, One, Two}
use Rattle.temporal.proofs.Shortening.{same_true, same_false, same_refl, begins_true, begins_false, begins_join, kept_join, unit_left, unit_right, zero_left, zero_right, twice, begun_at}
use Rattle.parts.proofs.Places.{right, of_two, kind, kindp, kind_node, formula_node, formula_part, apart, part_is, short_is, is_short}

-- A test's value, from what holds where it is true.
from_true : (r : Bool) → (r ≡ true → ⊥) → r ≡ false
from_true true n = absurd (n refl)
from_true false n = refl

by_when : (r s : Bool) (A : Type 0) → MatchBool r A (A → ⊥) → (A → s ≡ true) → (s ≡ true → A) → r ≡ s
by_when true s A w h k = sym (h w)
by_when false s A w h k = sym (from_true s (λ e. w (k e)))

pub const_tested : (ps : List Part) (x : ℕ) (v r : Bool) → Sound ps → x < length ps
    → MatchBool r (get_or ps x blank ≡ Const v) (get_or ps x blank ≡ Const v → ⊥) → r ≡ same (formula ps x) (const v)
const_tested ps x v r s h w =
    by_when r (same (formula ps x) (const v)) (get_or ps x blank ≡ Const v) w
    (λ e. rw (formula_part ps x s.ordered h (Const v) e) (same_refl (const v)))
    (λ e. part_is ps x (Const v) s h (omega arith) (same_true (formula ps x) (const v) e))

pub begun_tested : (ps : List Part) (o : Junction) (x y : ℕ) (r : Bool) (u : Binary) (a b : ℕ) → Sound ps → x < length ps → y < length ps
    → get_or ps y blank ≡ Two u a b
    → MatchBool r (Two u a b ≡ Two (Join o) x b) (Two u a b ≡ Two (Join o) x b → ⊥)
    → r ≡ begins (op o) (formula ps x) (formula ps y)
begun_tested ps o x y r u a b s h k e w =
    by_when r (begins (op o) (formula ps x) (formula ps y)) (Two u a b ≡ Two (Join o) x b) w
    (λ q. rw (formula_part ps y s.ordered k (Two (Join o) x b) (e ∙ q)) (begins_join (op o) (formula ps x) (formula ps b)))
    (λ t.
    let g = begins_true (op o) (formula ps x) (formula ps y) t in
    let fy = formula_part ps y s.ordered k (Two u a b) e in
    let end : g.0 ≡ formula ps b = sym (of_two (Join o) (formula ps x) g.0).3 ∙ ap right (sym g.1 ∙ fy) ∙ (of_two u (formula ps a) (formula ps b)).3 in
    let low : reach (Two u a b) ≤ y = subst (λ z. reach z ≤ y) e (s.ordered y k) in
    sym e ∙ part_is ps y (Two (Join o) x b) s k (omega arith) (g.1 ∙ ap (join (op o) (formula ps x)) end))

only_two : (p : Part) → kindp p ≡ 4 → (u : Binary) × (a : ℕ) × (b : ℕ) × (p ≡ Two u a b)
only_two (Const v) e = absurd (omega arith)
only_two (Signal q) e = absurd (omega arith)
only_two (Open q t) e = absurd (omega arith)
only_two (One u a) e = absurd (omega arith)
only_two (Two u a b) e = (u, a, b, refl)

pub begun_no : (ps : List Part) (o : Junction) (x y : ℕ) → Sound ps → y < length ps
    → ((u : Binary) (a b : ℕ) → get_or ps y blank ≡ Two u a b → ⊥) → false ≡ begins (op o) (formula ps x) (formula ps y)
begun_no ps o x y s k n =
    sym (from_true (begins (op o) (formula ps x) (formula ps y)) λ t.
    let g = begins_true (op o) (formula ps x) (formula ps y) t in
    let p = get_or ps y blank in
    let four : kindp p ≡ 4 = sym (kind_node (formula ps) p) ∙ ap kind (sym (formula_node ps y s.ordered k) ∙ g.1) ∙ (of_two (Join o) (formula ps x) g.0).0 in
    let w = only_two p four in
    n w.0 w.1 w.2 w.3)

-- Each way of *and* and *or*.
zero_is : (o : Junction) (u : Bool) → u ≡ unit (op o) → not u ≡ zero (op o)
zero_is And u e = ap not e
zero_is Or u e = ap not e

module _ (ps : List Part) (o : Junction) (u : Bool) (x y : ℕ) (unit_is : u ≡ unit (op o)) where
  is_unit : (h : Formula) → true ≡ same h (const u) → h ≡ const (unit (op o))
  is_unit h e = same_true h (const u) (sym e) ∙ ap const unit_is

  no_unit : (h : Formula) → false ≡ same h (const u) → h ≡ const (unit (op o)) → ⊥
  no_unit h e q = same_false h (const u) (sym e) (q ∙ ap const (sym unit_is))

  is_zero : (h : Formula) → true ≡ same h (const (not u)) → h ≡ const (zero (op o))
  is_zero h e = same_true h (const (not u)) (sym e) ∙ ap const (zero_is o u unit_is)

  no_zero : (h : Formula) → false ≡ same h (const (not u)) → h ≡ const (zero (op o)) → ⊥
  no_zero h e q = same_false h (const (not u)) (sym e) (q ∙ ap const (sym (zero_is o u unit_is)))

  pub left_unit_way : y < length ps → true ≡ same (formula ps x) (const u) → Stands ps (joinˢ (op o) (formula ps x) (formula ps y)) y
  left_unit_way h e = record { inside = h; formula_is = sym (ap (λ z. joinˢ (op o) z (formula ps y)) (is_unit (formula ps x) e) ∙ unit_left (op o) (formula ps y)) }

  pub right_unit_way : x < length ps → true ≡ same (formula ps y) (const u) → Stands ps (joinˢ (op o) (formula ps x) (formula ps y)) x
  right_unit_way h e = record { inside = h; formula_is = sym (ap (joinˢ (op o) (formula ps x)) (is_unit (formula ps y) e) ∙ unit_right (op o) (formula ps x)) }

  pub left_zero_way : x < length ps → true ≡ same (formula ps x) (const (not u)) → Stands ps (joinˢ (op o) (formula ps x) (formula ps y)) x
  left_zero_way h e =
      let z = is_zero (formula ps x) e in
      record { inside = h; formula_is = z ∙ sym (ap (λ z. joinˢ (op o) z (formula ps y)) z ∙ zero_left (op o) (formula ps y)) }

  pub right_zero_way : y < length ps → true ≡ same (formula ps y) (const (not u)) → Stands ps (joinˢ (op o) (formula ps x) (formula ps y)) y
  right_zero_way h e =
      let z = is_zero (formula ps y) e in
      record { inside = h; formula_is = z ∙ sym (ap (joinˢ (op o) (formula ps x)) z ∙ zero_right (op o) (formula ps x)) }

  pub alike_way : x < length ps → x ≡ y → Stands ps (joinˢ (op o) (formula ps x) (formula ps y)) x
  alike_way h e = record { inside = h; formula_is = sym (ap (λ k. joinˢ (op o) (formula ps x) (formula ps k)) (sym e) ∙ twice (op o) (formula ps x)) }

  pub begun_way : y < length ps → false ≡ same (formula ps x) (const (not u)) → true ≡ begins (op o) (formula ps x) (formula ps y) → Stands ps (joinˢ (op o) (formula ps x) (formula ps y)) y
  begun_way h n e = record { inside = h; formula_is = sym (begun_at (op o) (formula ps x) (formula ps y) (no_zero (formula ps x) n) (sym e)) }

  pub kept_way : Sound ps → x < length ps → y < length ps
      → false ≡ same (formula ps x) (const u) → false ≡ same (formula ps y) (const u)
      → false ≡ same (formula ps x) (const (not u)) → false ≡ same (formula ps y) (const (not u))
      → (x ≡ y → ⊥) → false ≡ begins (op o) (formula ps x) (formula ps y)
      → Fits ps (joinˢ (op o) (formula ps x) (formula ps y)) (Two (Join o) x y)
  kept_way s h k a b c d n e =
      let f = formula ps x in
      let g = formula ps y in
      let keeps : joinˢ (op o) f g ≡ join (op o) f g = kept_join (op o) f g record {
        not_left_unit = no_unit f a;
        not_right_unit = no_unit g b;
        not_left_zero = no_zero f c;
        not_right_zero = no_zero g d;
        not_alike = λ q. n (apart ps s.once x y h k q);
        not_begun = begins_false (op o) f g (sym e);
      } in
      let sf : Shortened f = short_is f (s.short x h) in
      let sg : Shortened g = short_is g (s.short y k) in
      record {
        below = omega arith;
        formula_is = sym keeps;
        shortened = is_short (joinˢ (op o) f g) (ap shorten keeps ∙ ap₂ (joinˢ (op o)) sf sg);
      }

-- Each way of the other signs.
neg_const : (f : Formula) (b : Bool) → f ≡ const b → negˢ f ≡ const (not b)
unfolding negˢ
neg_const f b e = ap negˢ e

pub not_const_way : (ps : List Part) (u : Unary) (x : ℕ) (b : Bool) → Sound ps → x < length ps → u ≡ Not → get_or ps x blank ≡ Const b
    → Fits ps (oneˢ u (formula ps x)) (Const (not b))
not_const_way ps u x b s h e q =
    let n : oneˢ u (formula ps x) ≡ const (not b) = ap (λ z. oneˢ z (formula ps x)) e ∙ neg_const (formula ps x) b (formula_part ps x s.ordered h (Const b) q) in
    record { below = omega arith; formula_is = sym n; shortened = is_short (oneˢ u (formula ps x)) (ap shorten n ∙ sym n) }

shorten_one : (u : Unary) (f : Formula) → shorten (one u f) ≡ oneˢ u (shorten f)
shorten_one Not f = refl
shorten_one Next f = refl
shorten_one Finally f = refl
shorten_one Globally f = refl

one_fits : (ps : List Part) (u : Unary) (x : ℕ) → Sound ps → x < length ps → oneˢ u (formula ps x) ≡ one u (formula ps x)
    → Fits ps (oneˢ u (formula ps x)) (One u x)
one_fits ps u x s h e =
    let f = formula ps x in
    record {
      below = omega arith;
      formula_is = sym e;
      shortened = is_short (oneˢ u f) (ap shorten e ∙ shorten_one u f ∙ ap (oneˢ u) (short_is f (s.short x h)));
    }

neg_kept : (t : ℕ → Formula) (p : Part) → ((b : Bool) → p ≡ Const b → ⊥) → negˢ (node t p) ≡ neg (node t p)
unfolding negˢ
neg_kept t (Const b) n = absurd (n b refl)
neg_kept t (Signal p) n = refl
neg_kept t (Open p e) n = refl
neg_kept t (One Not a) n = refl
neg_kept t (One Next a) n = refl
neg_kept t (One Finally a) n = refl
neg_kept t (One Globally a) n = refl
neg_kept t (Two (Join o) a b) n = refl
neg_kept t (Two Until a b) n = refl

pub not_kept_way : (ps : List Part) (u : Unary) (x : ℕ) → Sound ps → x < length ps → u ≡ Not
    → ((b : Bool) → get_or ps x blank ≡ Const b → ⊥) → Fits ps (oneˢ u (formula ps x)) (One Not x)
not_kept_way ps u x s h e n =
    let q : negˢ (formula ps x) ≡ neg (formula ps x) =
    subst (λ z. negˢ z ≡ neg z) (sym (formula_node ps x s.ordered h)) (neg_kept (formula ps) (get_or ps x blank) n) in
    subst (λ z. Fits ps (oneˢ z (formula ps x)) (One Not x)) (sym e) (one_fits ps Not x s h q)

time_kept : (u : Unary) (f : Formula) → (u ≡ Not → ⊥) → oneˢ u f ≡ one u f
unfolding nextˢ finallyˢ globallyˢ
time_kept Not f n = absurd (n refl)
time_kept Next f n = refl
time_kept Finally f n = refl
time_kept Globally f n = refl

pub time_way : (ps : List Part) (u : Unary) (x : ℕ) → Sound ps → x < length ps → (u ≡ Not → ⊥) → Fits ps (oneˢ u (formula ps x)) (One u x)
time_way ps u x s h n = one_fits ps u x s h (time_kept u (formula ps x) n)

until_kept : (f g : Formula) → untilˢ f g ≡ until f g
unfolding untilˢ
until_kept f g = refl

pub until_way : (ps : List Part) (b : Binary) (x y : ℕ) → Sound ps → x < length ps → y < length ps → b ≡ Until
    → Fits ps (twoˢ b (formula ps x) (formula ps y)) (Two Until x y)
until_way ps b x y s h k e =
    let f = formula ps x in
    let g = formula ps y in
    subst (λ z. Fits ps (twoˢ z f g) (Two Until x y)) (sym e) record {
      below = omega arith;
      formula_is = sym (until_kept f g);
      shortened = is_short (untilˢ f g) (ap shorten (until_kept f g) ∙ ap₂ untilˢ (short_is f (s.short x h)) (short_is g (s.short y k)));
    }
