-- An expression in which no fault stands gives a term whose names are known and whose widths fit.
use Rattle.sap_lemmas.proofs.Common.{◌≡◌, ℕ, ◌+◌, ◌^◌, ◌≤◌, List, [], Bool, true, not, ◌&&◌, ◌||◌, Option, Some, None, refl, sym, ap, ◌∙◌, arith, some_same, not-false}
use Rattle.sap_names.proofs.NameFaultsLemmas.{no_fault}
use Rattle.sap_text.specs.declared.place.Place.{Place}
use Rattle.sap_tree.specs.Syntax.{Expression, literal, sized_literal, variable, cell_at, unary_of, binary_of, choice, slice, concat, zero_extend, Expressions, no_part, and_part}
use Rattle.sap_names.specs.Prelude.{what_is, fits_use, use_faults, fault_if, unsettled, too_large, expression_faults, parts_faults, own, own_parts, sound_width, index_bits, plain_width, cell_width, index_width, sliced, extended, else_of, family, asked_left, asked_right, asked_one, is_reduction, is_sound, all_sound}
use Rattle.sap_names.specs.declared.kind.Declared.{Declared}
use Rattle.sap_names.specs.declared.kind.Declared.TheVariants.{Input, Register, Memory}
use Rattle.sap_names.specs.declared.kind.Code.TheVariants.{E5, E7, E8}
use Rattle.sap_names.specs.declared.entity.Entity.{Entity}
use Rattle.sap_names.specs.declared.kind.Use.{Use as Uses}
use Rattle.sap_names.specs.declared.kind.Use.TheVariants.{Indexed as indexed, Read as read}
use Rattle.sap_names.specs.Widths as widths
use Rattle.sap_maps.specs.Term.{Term, TermFits}
use Rattle.sap_meaning.specs.Prelude.{World, entity, width, is_input, is_register, is_memory, kind_is_input, kind_is_register, kind_is_memory, depth_of, width_of, FineTerm, depth, Indexed}
use Rattle.sap_resolved.specs.Terms.{known, entity_number, term_of, parts_of}
use Rattle.sap_resolved.proofs.Lookup.{Stands}
use Rattle.sap_resolved.proofs.sized.Faultless.{none_two, none_three, none_four, settled_own, sound_some, some_sound, sound_whole, fits_width, sound_same, index_power, slice_is, extended_is, joined_is}
use Rattle.sap_resolved.proofs.sized.Declared.{Sound, Resolved}
use Rattle.sap_resolved.proofs.sized.Operators.{Fitted, asked_width, own_width, unary_fitted, binary_fitted, choose_fitted, widened_fitted}

-- what is declared of a name that is used so
pub used : (how : Uses) (o : Option Declared) (place : Place) → use_faults how o place ≡ [] → (x : Declared) × (o ≡ Some x) × (fits_use how x ≡ true)
used how None place h = cc
used how (Some x) place h = (x, refl, not-false (fits_use how x) (no_fault (not (fits_use how x)) E5 place h))

-- the entity of a name that is read plain
record ReadAs (w : World) (x : Declared) (n : ℕ) : Type 0 where
  pub kind : (is_input w n || is_register w n) ≡ true
  pub width : plain_width (Some x) ≡ Some (width w n)

read_as : (w : World) (x : Declared) (n : ℕ) → fits_use read x ≡ true → Sound x → Stands x (entity w n) → ReadAs w x n
read_as w (Input u) n h s i =
    record { kind = ap (λ k. kind_is_input k || kind_is_register k) i.0; width = sound_same u s ∙ ap (λ v. Some v) (sym i.1) }
read_as w (Register u) n h s i =
    record { kind = ap (λ k. kind_is_input k || kind_is_register k) i.0; width = sound_same u s ∙ ap (λ v. Some v) (sym i.1) }
read_as w _ n h s i = cc

-- the entity of a name that is indexed
pub record IndexedAs (w : World) (x : Declared) (n : ℕ) : Type 0 where
  pub kind : is_memory w n ≡ true
  pub width : cell_width (Some x) ≡ Some (width w n)
  pub bits : ℕ
  pub asked : index_width (Some x) ≡ Some bits
  pub deep : 2 ^ bits ≡ depth w n

pub indexed_as : (w : World) (x : Declared) (n : ℕ) → fits_use indexed x ≡ true → Sound x → Stands x (entity w n) → IndexedAs w x n
indexed_as w (Memory u b) n h s i =
    let c = sound_some (index_bits b) s.1 in
    record {
      kind = ap (λ k. kind_is_memory k) i.0;
      width = sound_same u s.0 ∙ ap (λ v. Some v) (sym i.1);
      bits = c.0;
      asked = c.1;
      deep = sym (index_power b c.0 c.1).2 ∙ sym (ap (λ k. depth_of k) i.0);
    }
indexed_as w _ n h s i = cc

-- the parts of a concatenation
pub record FittedParts (w : World) (t : Term ℕ) (mine : Option ℕ) (all : Bool) : Type 0 where
  pub sound : all ≡ true
  pub wide : (u : ℕ) → mine ≡ Some u → width_of w t ≡ u
  pub fine : FineTerm w t
  pub fits : TermFits (width w) t
  pub indexed : Indexed w t

module _ (es : List Entity) (w : World) (r : Resolved es w) where
  abbrev what : List ℕ → Option Declared
  what = what_is es

  pub indexed_name : (name : List ℕ) (place : Place) → use_faults indexed (what name) place ≡ []
      → (x : Declared) × (what name ≡ Some x) × IndexedAs w x (entity_number es name)
  indexed_name name place h =
      let u = used indexed (what name) place h in
      (u.0, u.1, indexed_as w u.0 (entity_number es name) u.2 (r.sound name u.0 u.1) (r.stands name u.0 u.1))

  mutual
    pub expression_fitted : (e : Expression) (asked : Option ℕ) → expression_faults what e asked ≡ [] → Fitted w (term_of es e asked) (own what e) asked
    expression_fitted (literal spot value) None h =
        let n = none_two (fault_if (unsettled None None) E7 spot.first) (fault_if (too_large None value) E8 spot.at) h in
        let f = no_fault (unsettled None None) E7 spot.first n.0 in
        cc
    expression_fitted (literal spot value) (Some u) h =
        let n = none_two (fault_if (unsettled None (Some u)) E7 spot.first) (fault_if (too_large (Some u) value) E8 spot.at) h in
        record {
          settles = refl;
          wide = refl;
          fine = tt;
          fits = fits_width (Some u) u value refl (no_fault (too_large (Some u) value) E8 spot.at n.1);
          indexed = tt;
        }
    expression_fitted (sized_literal spot u value) asked h =
        let n = none_three _ _ _ h in
        let s = sound_same u (not-false (is_sound (sound_width u)) (no_fault (not (is_sound (sound_width u))) E7 spot.at n.1)) in
        record {
          settles = no_fault (unsettled (sound_width u) asked) E7 spot.first n.0;
          wide = ap (λ o. else_of o asked) s;
          fine = tt;
          fits = fits_width (sound_width u) u value s (no_fault (too_large (sound_width u) value) E8 spot.at n.2);
          indexed = tt;
        }
    expression_fitted (variable spot name) asked h =
        let n = none_two (fault_if (unsettled (plain_width (what name)) asked) E7 spot.first) (use_faults read (what name) spot.at) h in
        let u = used read (what name) spot.at n.1 in
        let i = read_as w u.0 (entity_number es name) u.2 (r.sound name u.0 u.1) (r.stands name u.0 u.1) in
        record {
          settles = no_fault (unsettled (plain_width (what name)) asked) E7 spot.first n.0;
          wide = ap (λ o. else_of o asked) (ap (λ o. plain_width o) u.1 ∙ i.width);
          fine = i.kind;
          fits = tt;
          indexed = tt;
        }
    expression_fitted (cell_at spot name index) asked h =
        let n = none_three _ _ _ h in
        let u = indexed_name name spot.at n.1 in
        let f = expression_fitted index (index_width (what name)) n.2 in
        let t = term_of es index (index_width (what name)) in
        let a = asked_width w t (own what index) (index_width (what name)) u.2.bits (ap (λ o. index_width o) u.1 ∙ u.2.asked) f in
        record {
          settles = no_fault (unsettled (cell_width (what name)) asked) E7 spot.first n.0;
          wide = ap (λ o. else_of o asked) (ap (λ o. cell_width o) u.1 ∙ u.2.width);
          fine = (u.2.kind, f.fine);
          fits = f.fits;
          indexed = (ap (λ (k : ℕ). 2 ^ k) a ∙ u.2.deep, f.indexed);
        }
    expression_fitted (unary_of spot o e) asked h =
        let whole = widths.width_of what (unary_of spot o e) asked in
        let n = none_two (fault_if (unsettled (own what (unary_of spot o e)) asked) E7 spot.first) (expression_faults what e (asked_one o whole)) h in
        unary_fitted w o (is_reduction o) refl (own what e) asked (term_of es e (asked_one o whole))
        (no_fault (unsettled (own what (unary_of spot o e)) asked) E7 spot.first n.0) (expression_fitted e (asked_one o whole) n.1)
    expression_fitted (binary_of spot o a b) asked h =
        let whole = widths.width_of what (binary_of spot o a b) asked in
        let left = asked_left (family o) whole (own what a) (own what b) in
        let right = asked_right (family o) whole (own what a) (own what b) in
        let n = none_three _ _ _ h in
        binary_fitted w o (family o) refl (own what a) (own what b) asked (term_of es a left) (term_of es b right)
        (no_fault (unsettled (own what (binary_of spot o a b)) asked) E7 spot.first n.0) (expression_fitted a left n.1) (expression_fitted b right n.2)
    expression_fitted (choice spot c a b) asked h =
        let whole = widths.width_of what (choice spot c a b) asked in
        let n = none_four _ _ _ _ h in
        choose_fitted w (own what c) (own what a) (own what b) asked (term_of es c (Some 1)) (term_of es a whole) (term_of es b whole)
        (no_fault (unsettled (own what (choice spot c a b)) asked) E7 spot.first n.0) (expression_fitted c (Some 1) n.1) (expression_fitted a whole n.2)
        (expression_fitted b whole n.3)
    expression_fitted (slice spot e high low) asked h =
        let mine = sliced (own what e) high low in
        let n = none_three _ _ _ h in
        let f = expression_fitted e None n.2 in
        let i = settled_own (own what e) f.settles in
        let u = sound_whole mine (is_sound (own what e)) (no_fault (not (is_sound mine) && is_sound (own what e)) E7 spot.first n.1)
        (some_sound (own what e) i.0 i.1) in
        let s = slice_is (own what e) high low u.0 u.1 in
        record {
          settles = no_fault (unsettled mine asked) E7 spot.first n.0;
          wide = ap (λ o. else_of o asked) u.1 ∙ ap (λ v. Some v) s.wide;
          fine = f.fine;
          fits = (f.fits, s.order);
          indexed = f.indexed;
        }
    expression_fitted (concat spot parts) asked h =
        let mine = own_parts what parts in
        let n = none_three _ _ _ h in
        let f = parts_fitted parts n.2 in
        let u = sound_whole mine (all_sound what parts) (no_fault (not (is_sound mine) && all_sound what parts) E7 spot.first n.1) f.sound in
        record {
          settles = no_fault (unsettled mine asked) E7 spot.first n.0;
          wide = ap (λ o. else_of o asked) u.1 ∙ ap (λ v. Some v) (sym (f.wide u.0 u.1));
          fine = f.fine;
          fits = f.fits;
          indexed = f.indexed;
        }
    expression_fitted (zero_extend spot e u) asked h =
        let mine = extended (own what e) u in
        let n = none_three (fault_if (unsettled mine asked) E7 spot.first) (fault_if (not (is_sound mine) && is_sound (own what e)) E7 spot.first)
        (expression_faults what e None) h in
        let f = expression_fitted e None n.2 in
        let i = settled_own (own what e) f.settles in
        let s = sound_whole mine (is_sound (own what e)) (no_fault (not (is_sound mine) && is_sound (own what e)) E7 spot.first n.1)
        (some_sound (own what e) i.0 i.1) in
        let x = extended_is (own what e) u s.0 s.1 in
        let k : known (own what e) ≡ x.0 = ap known x.1 in
        let l : width_of w (term_of es e None) ≡ x.0 = own_width w (term_of es e None) (own what e) None x.0 x.1 f in
        let from : known (own what e) ≤ u = omega arith in
        widened_fitted w (term_of es e None) (known (own what e)) u mine asked (s.1 ∙ ap (λ v. Some v) (sym x.3))
        (no_fault (unsettled mine asked) E7 spot.first n.0) (l ∙ sym k) from f.fine f.fits f.indexed

    pub parts_fitted : (ps : Expressions) → parts_faults what ps ≡ [] → FittedParts w (parts_of es ps) (own_parts what ps) (all_sound what ps)
    parts_fitted no_part h = record { sound = refl; wide = λ u e. some_same 0 u e; fine = tt; fits = omega arith; indexed = tt }
    parts_fitted (and_part e no_part) h =
        let n = none_two (expression_faults what e None) [] h in
        let f = expression_fitted e None n.0 in
        let i = settled_own (own what e) f.settles in
        record {
          sound = ap (λ b. b && true) (some_sound (own what e) i.0 i.1);
          wide = λ u j. (let p = joined_is (own what e) (Some 0) u j in
              let x : 0 ≡ p.1 = some_same 0 p.1 p.3 in
              let y : width_of w (term_of es e None) ≡ p.0 = own_width w (term_of es e None) (own what e) None p.0 p.2 f in
              let z : p.0 + p.1 ≡ u = p.4 in
              omega arith);
          fine = f.fine;
          fits = f.fits;
          indexed = f.indexed;
        }
    parts_fitted (and_part e (and_part g ps)) h =
        let rest = and_part g ps in
        let n = none_two (expression_faults what e None) (parts_faults what rest) h in
        let f = expression_fitted e None n.0 in
        let q = parts_fitted (and_part g ps) n.1 in
        let i = settled_own (own what e) f.settles in
        record {
          sound = ap (λ b. b && all_sound what rest) (some_sound (own what e) i.0 i.1) ∙ q.sound;
          wide = λ u j. (let p = joined_is (own what e) (own_parts what rest) u j in
              let x : width_of w (parts_of es rest) ≡ p.1 = q.wide p.1 p.3 in
              let y : width_of w (term_of es e None) ≡ p.0 = own_width w (term_of es e None) (own what e) None p.0 p.2 f in
              let z : p.0 + p.1 ≡ u = p.4 in
              omega arith);
          fine = (f.fine, q.fine);
          fits = (f.fits, q.fits);
          indexed = (f.indexed, q.indexed);
        }

  -- the width that an expression has is that of its term
  pub expression_width : (e : Expression) (asked : Option ℕ) (u : ℕ) → expression_faults what e asked ≡ [] → widths.width_of what e asked ≡ Some u
      → width_of w (term_of es e asked) ≡ u
  expression_width e asked u h i = some_same (width_of w (term_of es e asked)) u (sym (expression_fitted e asked h).wide ∙ i)
