-- Entities and their words, as the code takes them.
use Rattle.sap_lemmas.proofs.Common.{◌≡◌, ℕ, ◌-◌, ◌+◌, zero, suc, ◌++◌, ◌^◌, ◌<◌, ◌≤◌, Bool, length, true, false, refl, ap, ◌∙◌, arith, nat_lt, if◌then◌else◌, codes, ◌==◌, decimal, length_map, le-ltb}
use Rattle.sap_resolved.proofs.SizedLemmas.{ranged_width}
use Rattle.sap_lattice.specs.Levels.{Levels}
use Rattle.sap_interface.specs.StandsFor.{name}
use Rattle.sap_meaning.specs.Prelude.{World, width_of}
use Rattle.sap_program.specs.Views.{entity_of}
use Rattle.sap_program.specs.declared.program.Program.{Program}
use Rattle.sap_tagged.specs.Prelude.{seat_key, numeral, entity_word, key_name, Setting, bits, placed}
use Rattle.sap_bits.specs.declared.Op2.TheVariants.{Eq}
use Rattle.sap_maps.specs.Prelude.{Name, Term, constant, two, choose, part}
use Rattle.sap_resolved.specs.Sized.Ranges.{RangedTerm}
use Rattle.sap_tags_terms.specs.Code.{named_over}
use Rattle.sap_tagged.proofs.Numerals.{numeral_decimal}

-- words

pub word_past : (ls : Levels) (p : Program) (x : ℕ) → length p.entities.items ≤ x → entity_word (named_over ls p) x ≡ numeral x
word_past ls p x l =
    ap (λ (b : Bool). if b then name (named_over ls p) x else numeral x) (ap (nat_lt x) (length_map entity_of p.entities.items) ∙ le-ltb x (length p.entities.items) l)

pub seat_word_is : (ls : Levels) (p : Program) (x : ℕ) → (x == length p.entities.items) ≡ false
    → key_name (named_over ls p) (seat_key x) ≡ codes "s_" ++ entity_word (named_over ls p) x
seat_word_is ls p x e = rw (length_map entity_of p.entities.items, e) refl

pub root_word_is : (ls : Levels) (p : Program) (x : ℕ) → (x == length p.entities.items) ≡ true → key_name (named_over ls p) (seat_key x) ≡ codes "s_" ++ codes "0"
root_word_is ls p x e = rw (length_map entity_of p.entities.items, e) refl

pub number_word : (k : ℕ) → k < 2 ^ 64 → numeral k ≡ decimal k
number_word k h = numeral_decimal k h

pub ruleset words = (word_past, seat_word_is, root_word_is, number_word)

-- widths

pub part_within : (w : World) (a : Term ℕ) (hi lo : ℕ) → RangedTerm w (part a hi lo) → (lo ≤ hi) × (hi < 64)
part_within w a hi lo r = let wide : width_of w a ≤ 64 = (ranged_width w a r.2).1 in let high : hi < width_of w a = r.1 in (r.0, omega (arith, wide, high))

-- places

pub placed_none : (d : Setting) (u : ℕ) (e : Term Name) (i m : ℕ) → m ≡ 0 → placed d u e i m ≡ bits d d.world.order.top
placed_none d u e i zero h = refl
placed_none d u e i (suc m) h = absurd (omega arith)

pub placed_some : (d : Setting) (u : ℕ) (e : Term Name) (i m : ℕ) → 0 < m → placed d u e i m ≡ choose (two Eq e (constant u i)) (bits d i) (placed d u e (i + 1) (m - 1))
placed_some d u e i zero h = absurd (omega arith)
placed_some d u e i (suc m) h = let q : suc m - 1 ≡ m = omega arith in rw q refl

pub ruleset places = (placed_none, placed_some)
