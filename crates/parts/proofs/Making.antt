-- Making one formula after another.
use Rattle.std.proofs.Common.{◌≡◌, ℕ, Some, None, Option, ◌+◌, ◌<◌, ◌≤◌, List, length, get_or, vec_items, vec_len, Vec, sym, ◌∙◌, subst, arith}
use Rattle.std.proofs.lemmas.List.{length-take-le}
use Rattle.temporal.specs.Formula.{Formula}
use Rattle.parts.specs.Places.{formula, blank, reach, Sound, Grown, Made, Interned, in_use}
use Rattle.parts.specs.Tables.{parts_in, parts_of}
use Rattle.parts.specs.declared.lent.Lent.{Lent}
use Rattle.parts.specs.declared.part.Unary.{Unary}
use Rattle.parts.specs.declared.table.Table.{Table}
use Rattle.parts.specs.declared.part.Binary.{Binary}
use Rattle.parts.specs.declared.part.Part.{Part}
use Rattle.parts.specs.declared.part.Part.TheVariants.{One, Two}
use Rattle.parts.proofs.Places.{formula_front, grown_none, grown_on}

pub made_here : (n : ℕ) (ps : List Part) (f : Formula) (i : ℕ) → Sound ps → i < length ps → formula ps i ≡ f → Made n ps ps f i
made_here n ps f i s h e =
    record { grown = grown_on 0 0 n ps ps ps (omega arith) (grown_none ps) (grown_none ps); sound = s; stands = record { inside = h; formula_is = e } }

pub made_as : (m n : ℕ) (ps qs : List Part) (f g : Formula) (i : ℕ) → m ≤ n → f ≡ g → Made m ps qs f i → Made n ps qs g i
made_as m n ps qs f g i h e d =
    record {
      grown = grown_on m 0 n ps qs qs (omega arith) d.grown (grown_none qs);
      sound = d.sound;
      stands = record { inside = d.stands.inside; formula_is = d.stands.formula_is ∙ e };
    }

pub made_then : (k m n : ℕ) (ps qs rs : List Part) (f g h : Formula) (i j : ℕ) → m + n ≤ k → Made m ps qs f i → Made n qs rs g j → g ≡ h → Made k ps rs h j
made_then k m n ps qs rs f g h i j l d e q =
    record {
      grown = grown_on m n k ps qs rs l d.grown e.grown;
      sound = e.sound;
      stands = record { inside = e.stands.inside; formula_is = e.stands.formula_is ∙ q };
    }

-- What a constructor made, where there was room for it; and how the table grew, whether or not there was.
pub made_by : (ps qs : List Part) (f : Formula) (r : Option ℕ) (i : ℕ) → Interned ps qs f r → r ≡ Some i → Made 1 ps qs f i
made_by ps qs f r i h e = (subst (Interned ps qs f) e h).0

pub interned_grown : (ps qs : List Part) (f : Formula) (r : Option ℕ) → Interned ps qs f r → Grown 1 ps qs
interned_grown ps qs f (Some i) h = h.0.grown
interned_grown ps qs f None h = subst (Grown 1 ps) (sym h.0) (grown_on 0 0 1 ps ps ps (omega arith) (grown_none ps) (grown_none ps))

-- A formula made earlier still stands.
pub stood : (n : ℕ) (ps qs : List Part) (f : Formula) (i k : ℕ) → Made n ps qs f i → k < length ps → formula qs k ≡ formula ps k
stood n ps qs f i k d h = formula_front ps qs k d.grown.front h

-- The operands of a part stand before it.
pub one_low : (ps : List Part) (i : ℕ) (u : Unary) (a : ℕ) → Sound ps → i < length ps → One u a ≡ get_or ps i blank → a < i
one_low ps i u a s h e = let r : reach (One u a) ≤ i = subst (λ p. reach p ≤ i) (sym e) (s.ordered i h) in omega arith

pub two_low : (ps : List Part) (i : ℕ) (b : Binary) (x y : ℕ) → Sound ps → i < length ps → Two b x y ≡ get_or ps i blank → (x < i) × (y < i)
two_low ps i b x y s h e =
    let r : reach (Two b x y) ≤ i = subst (λ p. reach p ≤ i) (sym e) (s.ordered i h) in (omega arith, omega arith)

-- As many parts are in use as the count says.
pub used_length : {Z : Type 0} (v : Vec Part Z) (u : ℕ) → vec_len v ≡ 769 → u ≤ 768 → length (in_use u v) ≡ u
used_length v u l h = let k = v.ok.0 in length-take-le u (vec_items v) (omega arith)

-- What a table holds, and what it holds while its places and count are lent apart.
pub sound_of : (t : Table) → Sound (parts_of t)
sound_of t = record { ordered = t.ordered; once = t.once; short = t.short }

pub few_of : (t : Table) → length (parts_of t) ≤ 768
few_of t = omega (arith, used_length t.places t.used t.long t.fits, t.fits)

pub sound_in : (l : Lent) → Sound (parts_in l)
sound_in l = record { ordered = l.ordered; once = l.once; short = l.short }

pub long_in : (l : Lent) → length (parts_in l) ≡ l.used.now
long_in l = used_length l.places.now l.used.now l.long l.fits
