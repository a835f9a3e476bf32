-- The laws of a formula in memory of its own.
use Rattle.std.proofs.Common.{rules, ◌≡◌, ℕ, zero, suc, Ok, Err, Result, ◌+◌, ◌-◌, ◌*◌, ◌<◌, ◌≤◌, Bool, true, false, cond, List, [], ◌∷◌, ◌++◌, length, get_or, take, drop, Some, None, vec_items, Option, Vec, sym, refl, ap, ◌∙◌, subst, ap₂, arith}
use mathlib.Core.Bool.{false≢true}
use Rattle.std.proofs.lemmas.List.{length_push, get_or_read, with_items_is}
use Rattle.temporal.specs.Formula.{Formula}
use Rattle.temporal.specs.Formula.Formula.{const}
use Rattle.temporal.specs.Shorten.{same}
use Rattle.temporal.specs.Parts.{parts, final, alike}
use Rattle.parts.specs.Places.{node, place, formula, formulas, blank, Grown, Stands, Interned}
use Rattle.parts.specs.Tables.{parts_of}
use Rattle.parts.specs.declared.table.Table.{Table}
use Rattle.progression.specs.Passes.{Imaged}
use Rattle.std.specs.Result.{IsOk}
use Rattle.compact.specs.Compacts.{Became, compact_parts, formula_of, constant}
use Rattle.compact.specs.declared.compact.Compact.{Compact}
use Rattle.parts.specs.declared.part.Unary.TheVariants.{Not, Next, Finally, Globally}
use Rattle.parts.specs.declared.part.Binary.TheVariants.{Join, Until}
use Rattle.parts.specs.declared.part.Part.{Part}
use Rattle.parts.specs.declared.part.Part.TheVariants.{Const, Signal, Open, One, Two}
use Rattle.temporal.proofs.Shortening.{same_true, same_refl}
use Rattle.temporal.proofs.Order.{parts_end, finish_new}
use Rattle.parts.proofs.Places.{formulas_length, formula_front, formula_part, formula_node}

pub alike_true : (xs ys : List Formula) → alike xs ys ≡ true → xs ≡ ys
alike_true [] [] e = refl
alike_true [] (y ∷ ys) e = absurd (false≢true e)
alike_true (x ∷ xs) [] e = absurd (false≢true e)
alike_true (x ∷ xs) (y ∷ ys) e = go (alike_true xs ys) (same x y) refl e
  where
    go : (alike xs ys ≡ true → xs ≡ ys) → (b : Bool) → same x y ≡ b → cond b (alike xs ys) false ≡ true → (x ∷ xs) ≡ (y ∷ ys)
    go rest true s q = ap₂ ◌∷◌ (same_true x y s) (rest q)
    go rest false s q = absurd (false≢true q)

alike_refl : (xs : List Formula) → alike xs xs ≡ true
alike_refl [] = refl
alike_refl (x ∷ xs) = rw (same_refl x) (alike_refl xs)

final_push : (xs : List Formula) (x : Formula) → final (xs ++ x ∷ []) ≡ x
final_push [] x = refl
final_push (y ∷ []) x = refl
final_push (y ∷ (z ∷ xs)) x = final_push (z ∷ xs) x

final_at : (fs : List Formula) → 0 < length fs → place fs (length fs - 1) ≡ final fs
final_at [] h = absurd (omega arith)
final_at (f ∷ []) h = refl
final_at (f ∷ (g ∷ fs)) h =
    let e : length (f ∷ (g ∷ fs)) - 1 ≡ suc (length (g ∷ fs) - 1) = omega arith in
    ap (place (f ∷ (g ∷ fs))) e ∙ final_at (g ∷ fs) (omega arith)

pub final_parts : (f : Formula) → final (parts f) ≡ f
final_parts f = let w = parts_end f in ap final w.1 ∙ final_push w.0 f

pub parts_some : (f : Formula) → 0 < length (parts f)
parts_some f = let w = parts_end f in let l = length_push w.0 f in omega (arith, ap length w.1)

-- What the walk wrote is such a formula again.
pub walked_alike : (qs : List Part) (f : Formula) → formulas qs ≡ parts f
    → (0 < length qs) × (final (formulas qs) ≡ f) × (alike (formulas qs) (parts (final (formulas qs))) ≡ true)
walked_alike qs f e =
    let q : final (formulas qs) ≡ f = ap final e ∙ final_parts f in (
      omega (arith, parts_some f, formulas_length qs, ap length e),
      q,
      subst (λ z. alike (formulas qs) z ≡ true) (e ∙ ap parts (sym q)) (alike_refl (formulas qs)),
    )

pub walked : (c : Compact) → formulas (compact_parts c) ≡ parts (formula_of c)
walked c = alike_true (formulas (compact_parts c)) (parts (formula_of c)) c.walked

pub counted : (c : Compact) → length (compact_parts c) ≡ length (parts (formula_of c))
counted c = sym (formulas_length (compact_parts c)) ∙ ap length (walked c)

-- The last formula stands at the last place.
pub last_formula : (ps : List Part) (n : ℕ) → 0 < length ps → n ≡ length ps → formula ps (n - 1) ≡ final (formulas ps)
last_formula ps n h e =
    let l = formulas_length ps in
    ap (λ k. formula ps (k - 1)) (e ∙ sym l) ∙ final_at (formulas ps) (omega arith)

pub top_formula : (c : Compact) (n : ℕ) → n ≡ length (compact_parts c) → formula (compact_parts c) (n - 1) ≡ formula_of c
top_formula c n e = last_formula (compact_parts c) n c.some e

-- A constant is seen from its part.
constant_part : (f : ℕ → Formula) (p : Part) → ((b : Bool) → p ≡ Const b → ⊥) → None ≡ constant (node f p)
constant_part f (Const b) n = absurd (n b refl)
constant_part f (Signal p) n = refl
constant_part f (Open p e) n = refl
constant_part f (One Not a) n = refl
constant_part f (One Next a) n = refl
constant_part f (One Finally a) n = refl
constant_part f (One Globally a) n = refl
constant_part f (Two (Join o) x y) n = refl
constant_part f (Two Until x y) n = refl

module _ (c : Compact) (i : ℕ) (q : i + 1 ≡ length (compact_parts c)) where
  pub in_last : i < length (compact_parts c)
  in_last = omega arith

  pub at_last : formula (compact_parts c) i ≡ formula_of c
  at_last =
      let p : i ≡ length (compact_parts c) - 1 = omega arith in
      ap (formula (compact_parts c)) p ∙ top_formula c (length (compact_parts c)) refl

  pub constant_at : (b : Bool) → Const b ≡ get_or (compact_parts c) i blank → Some b ≡ constant (formula_of c)
  constant_at b k =
      sym (ap constant (sym at_last ∙ formula_part (compact_parts c) i c.table.ordered in_last (Const b) (sym k)))

  pub no_constant : ((b : Bool) → get_or (compact_parts c) i blank ≡ Const b → ⊥) → None ≡ constant (formula_of c)
  no_constant k =
      constant_part (formula (compact_parts c)) (get_or (compact_parts c) i blank) k
      ∙ ap constant (sym (formula_node (compact_parts c) i c.table.ordered in_last) ∙ at_last)

-- A fresh table with one constant.
single : (fs : List Formula) (f : Formula) (i : ℕ) → length fs ≡ 1 → i < 1 → place fs i ≡ f → fs ≡ f ∷ []
single [] f i l h e = absurd (omega arith)
single (g ∷ []) f zero l h e = ap (λ z. z ∷ []) e
single (g ∷ []) f (suc i) l h e = absurd (omega arith)
single (g ∷ (k ∷ fs)) f i l h e = absurd (omega arith)

pub fresh_walked : (b : Bool) (ps qs : List Part) (r : Option ℕ) → ps ≡ [] → Interned ps qs (const b) r → (formulas qs ≡ parts (const b)) × (length qs ≤ 256)
fresh_walked b ps qs None e (q, full, absent) = absurd (omega (arith, ap length e))
fresh_walked b ps qs (Some i) e (d, same) =
    let l = d.grown.few in
    let h = d.stands.inside in
    let k = formulas_length qs in
    let n = ap length e in (
      single (formulas qs) (const b) i (omega arith) (omega arith) d.stands.formula_is ∙ sym (finish_new (const b) [] (λ z. z)),
      omega arith,
    )

-- What is read of a Vec that was lent as a slice and came back as ws.
pub read_back : {X Z : Type 0} (v : Vec X Z) (ws us : List X) (k : ℕ) (x d : X) → length ws ≡ length us → us ≡ vec_items v → k < v.len
    → x ≡ get_or (take v.len (ws ++ drop (length ws) v.items)) k x → x ≡ get_or ws k d
read_back v ws us k x d l e h q =
    let m : length ws ≡ v.len = l ∙ ap length e ∙ sym v.ok.0 in
    get_or_read ws k x (omega arith) (q ∙ ap (λ z. get_or z k x) (with_items_is v ws m)) d

-- A rewriting of every part: what became of the last formula.
pub top_stands : (ps qs : List Part) (to : Formula → Formula) (images : List ℕ) (n top : ℕ) → 0 < length ps → n ≡ length ps
    → Grown (2 * length ps) ps qs → Imaged to qs images (length ps) → top ≡ get_or images (n - 1) 0 → Stands qs (to (final (formulas ps))) top
top_stands ps qs to images n top h e grown done at =
    let l : n - 1 < length ps = omega arith in
    subst (Stands qs (to (final (formulas ps)))) (sym at)
    (subst (λ f. Stands qs (to f) (get_or images (n - 1) 0)) (formula_front ps qs (n - 1) grown.front l ∙ last_formula ps n h e) (done (n - 1) l))

-- What the table is once it has adopted what was written.
pub adopted : (f : Formula) (ps qs : List Part) (r : ℕ) → formulas qs ≡ parts f → ps ≡ qs → length qs ≡ r → r ≤ 256
    → (0 < length ps) × (length ps ≤ 256) × (alike (formulas ps) (parts (final (formulas ps))) ≡ true) × (final (formulas ps) ≡ f)
adopted f ps qs r w e l h =
    let a = walked_alike ps f (ap formulas e ∙ w) in
    (a.0, omega (arith, ap length e), a.2, a.1)

-- What was numbered is the walk of its last formula, which is the one that was asked for.
pub whole_walk : (qs : List Part) (f : Formula) → formulas qs ≡ parts f → formulas qs ≡ parts (final (formulas qs))
whole_walk qs f e = e ∙ ap parts (sym (ap final e ∙ final_parts f))

pub last_walked : (qs : List Part) (f : Formula) → formulas qs ≡ parts f → final (formulas qs) ≡ f
last_walked qs f e = ap final e ∙ final_parts f

-- A table with a formula's parts is that formula again.
abbrev pub put_back : (c : Compact) (t : Table) → parts_of t ≡ compact_parts c → Compact
put_back c t e = record {
  table = t;
  some = subst (λ ps. 0 < length ps) (sym e) c.some;
  few = subst (λ ps. length ps ≤ 256) (sym e) c.few;
  walked = subst (λ ps. alike (formulas ps) (parts (final (formulas ps))) ≡ true) (sym e) c.walked;
}

-- A formula that had the same parts became another.
pub became_from : {A E : Type 0} (b c d : Compact) (f g : Formula) (r : Result A E) → compact_parts b ≡ compact_parts c → f ≡ g → Became b d f r → Became c d g r
became_from b c d f g (Ok u) e q w = w ∙ q
became_from b c d f g (Err x) e q w = (omega (arith, w.0, ap (λ h. length (parts h)) q), w.1 ∙ e)

-- A formula of no more parts than it may have is taken.
pub became_ok : {E : Type 0} (c d : Compact) (f : Formula) (r : Result (Unit {0}) E) → length (parts f) ≤ 256 → Became c d f r → IsOk r
became_ok c d f (Ok u) h b = search rules
became_ok c d f (Err e) h b = absurd (omega (arith, b.0))

pub became_it : {E : Type 0} (c d : Compact) (f : Formula) (r : Result (Unit {0}) E) → Became c d f r → IsOk r → formula_of d ≡ f
became_it c d f (Ok u) b h = b
became_it c d f (Err e) b h = absurd (search rules)

-- The formula at the last place has no more.
pub top_few : (o : Compact) (i : ℕ) → i + 1 ≡ length (compact_parts o) → length (parts (formula (compact_parts o) i)) ≤ 256
top_few o i q = omega (arith, o.few, counted o, ap (λ f. length (parts f)) (at_last o i q))
