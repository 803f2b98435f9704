-- In the term of an expression without faults every width is from 1 to 64, and each slice is within what it is taken from.
use Rattle.sap_lemmas.proofs.Common.{◌≡◌, ◌≢◌, ℕ, ◌+◌, ◌<◌, ◌≤◌, List, [], Bool, true, false, not, ◌&&◌, Option, Some, None, refl, sym, ap, ◌∙◌, arith, inl, inr, eqb, cases_Bool, eq-eqb, and_parts, three_parts}
use Rattle.sap_names.proofs.NameFaultsLemmas.{no_fault}
use Rattle.sap_tree.specs.Prelude.{Expression, literal, sized_literal, variable, cell_at, unary_of, binary_of, choice, slice, concat, zero_extend, Expressions, no_part, and_part, is_number, has_two_parts, is_expression, are_expressions, is_name}
use Rattle.sap_tree.specs.declared.version.Version.{Version}
use Rattle.sap_names.specs.Prelude.{what_is, use_faults, fault_if, unsettled, expression_faults, parts_faults, own, own_parts, cell_width, index_width, sliced, extended, family, asked_left, asked_right, asked_one, is_reduction, is_sound, all_sound}
use Rattle.sap_names.specs.declared.kind.Declared.{Declared}
use Rattle.sap_names.specs.declared.kind.Code.TheVariants.{E7}
use Rattle.sap_names.specs.declared.entity.Entity.{Entity}
use Rattle.sap_names.specs.declared.kind.Use.TheVariants.{Indexed as indexed}
use Rattle.sap_names.specs.Widths as widths
use Rattle.sap_maps.specs.Term.{Term}
use Rattle.sap_meaning.specs.Prelude.{World, width_of}
use Rattle.sap_resolved.specs.Terms.{known, term_of, parts_of, widened}
use Rattle.sap_resolved.specs.Sized.Ranges.{IsWidth, RangedTerm}
use Rattle.sap_resolved.proofs.sized.Faultless.{none_two, none_three, none_four, settled_own, some_sound, sound_whole, slice_is, extended_is, joined_is}
use Rattle.sap_resolved.proofs.sized.Declared.{Resolved}
use Rattle.sap_resolved.proofs.sized.Operators.{Fitted, own_width}
use Rattle.sap_resolved.proofs.sized.Expressions.{expression_fitted, parts_fitted}
use Rattle.sap_resolved.proofs.sized.OwnWidths.{Ranges, range_none, range_one, index_ranges, else_ranges, asked_one_ranges, left_ranges, right_ranges, own_ranges}

-- the width of the whole
fitted_range : (w : World) (t : Term ℕ) (mine asked : Option ℕ) → Ranges mine → Ranges asked → Fitted w t mine asked → IsWidth (width_of w t)
fitted_range w t mine asked r s f = else_ranges mine asked r s (width_of w t) f.wide

widened_ranged : (w : World) (t : Term ℕ) (from u : ℕ) → width_of w t ≡ from → 1 ≤ from → from ≤ u → u ≤ 64 → RangedTerm w t → RangedTerm w (widened from u t)
widened_ranged w t from u i bottom l top r = elim (cases_Bool (eqb from u)) [
  | inl q ↦ rw q r
  | inr q ↦
      let apart : from ≢ u = λ e. (let s : eqb from u ≡ true = eq-eqb from u e in cc) in
      rw q ((omega arith, omega arith), (omega arith, omega arith), r)
]

-- there is a part
abbrev has_part : Expressions → Bool
has_part no_part = false
has_part (and_part e ps) = true

part_of_two : (ps : Expressions) → has_two_parts ps ≡ true → has_part ps ≡ true
part_of_two no_part h = cc
part_of_two (and_part e ps) h = refl

module _ (version : Version) (es : List Entity) (w : World) (r : Resolved es w) where
  abbrev what : List ℕ → Option Declared
  what = what_is es

  abbrev whole_of : Expression → Option ℕ → Option ℕ
  whole_of e asked = widths.width_of what e asked

  -- the width of an expression
  pub width_range : (e : Expression) (asked : Option ℕ) → is_expression version e ≡ true → Ranges asked → expression_faults what e asked ≡ []
      → IsWidth (width_of w (term_of es e asked))
  width_range e asked i a h = fitted_range w (term_of es e asked) (own what e) asked (own_ranges version what e i) a (expression_fitted es w r e asked h)

  whole_ranges : (e : Expression) (asked : Option ℕ) → is_expression version e ≡ true → Ranges asked → Ranges (whole_of e asked)
  whole_ranges e asked i a = else_ranges (own what e) asked (own_ranges version what e i) a

  mutual
    unfolding is_expression are_expressions

    pub term_ranged : (e : Expression) (asked : Option ℕ) → is_expression version e ≡ true → Ranges asked → expression_faults what e asked ≡ []
        → RangedTerm w (term_of es e asked)
    term_ranged (literal spot value) asked i a h = width_range (literal spot value) asked i a h
    term_ranged (sized_literal spot u value) asked i a h = width_range (sized_literal spot u value) asked i a h
    term_ranged (variable spot name) asked i a h = width_range (variable spot name) asked i a h
    term_ranged (cell_at spot name index) asked i a h =
        let n = none_three (fault_if (unsettled (cell_width (what name)) asked) E7 spot.first) (use_faults indexed (what name) spot.at)
        (expression_faults what index (index_width (what name))) h in (
          width_range (cell_at spot name index) asked i a h,
          term_ranged index (index_width (what name)) (and_parts (is_name version name) (is_expression version index) i).1 (index_ranges (what name)) n.2,
        )
    term_ranged (unary_of spot o e) asked i a h =
        let whole = whole_of (unary_of spot o e) asked in
        let n = none_two (fault_if (unsettled (own what (unary_of spot o e)) asked) E7 spot.first) (expression_faults what e (asked_one o whole)) h in
        term_ranged e (asked_one o whole) i (asked_one_ranges (is_reduction o) whole (whole_ranges (unary_of spot o e) asked i a)) n.1
    term_ranged (binary_of spot o x y) asked i a h =
        let whole = whole_of (binary_of spot o x y) asked in
        let left = asked_left (family o) whole (own what x) (own what y) in
        let right = asked_right (family o) whole (own what x) (own what y) in
        let n = none_three (fault_if (unsettled (own what (binary_of spot o x y)) asked) E7 spot.first) (expression_faults what x left)
        (expression_faults what y right) h in
        let j = and_parts (is_expression version x) (is_expression version y) i in
        let q = whole_ranges (binary_of spot o x y) asked i a in
        let s = own_ranges version what x j.0 in
        let t = own_ranges version what y j.1 in (
          term_ranged x left j.0 (left_ranges (family o) whole (own what x) (own what y) q s t) n.1,
          term_ranged y right j.1 (right_ranges (family o) whole (own what x) (own what y) q s t) n.2,
        )
    term_ranged (choice spot c x y) asked i a h =
        let whole = whole_of (choice spot c x y) asked in
        let n = none_four (fault_if (unsettled (own what (choice spot c x y)) asked) E7 spot.first) (expression_faults what c (Some 1))
        (expression_faults what x whole) (expression_faults what y whole) h in
        let j = three_parts (is_expression version c) (is_expression version x) (is_expression version y) i in
        let q = whole_ranges (choice spot c x y) asked i a in
        (term_ranged c (Some 1) j.0 range_one n.1, term_ranged x whole j.1 q n.2, term_ranged y whole j.2 q n.3)
    term_ranged (slice spot e high low) asked i a h =
        let mine = sliced (own what e) high low in
        let n = none_three (fault_if (unsettled mine asked) E7 spot.first) (fault_if (not (is_sound mine) && is_sound (own what e)) E7 spot.first)
        (expression_faults what e None) h in
        let f = expression_fitted es w r e None n.2 in
        let k = settled_own (own what e) f.settles in
        let u = sound_whole mine (is_sound (own what e)) (no_fault (not (is_sound mine) && is_sound (own what e)) E7 spot.first n.1)
        (some_sound (own what e) k.0 k.1) in
        let s = slice_is (own what e) high low u.0 u.1 in
        let v : width_of w (term_of es e None) ≡ s.whole = own_width w (term_of es e None) (own what e) None s.whole s.is f in
        let l : high < s.whole = s.within in
        (s.order, omega arith, term_ranged e None (three_parts (is_expression version e) (is_number high) (is_number low) i).0 range_none n.2)
    term_ranged (concat spot parts) asked i a h =
        let mine = own_parts what parts in
        let n = none_three (fault_if (unsettled mine asked) E7 spot.first) (fault_if (not (is_sound mine) && all_sound what parts) E7 spot.first)
        (parts_faults what parts) h in
        let f = parts_fitted es w r parts n.2 in
        let u = sound_whole mine (all_sound what parts) (no_fault (not (is_sound mine) && all_sound what parts) E7 spot.first n.1) f.sound in
        let j = and_parts (has_two_parts parts) (are_expressions version parts) i in
        parts_ranged parts (part_of_two parts j.0) j.1 u.0 u.1 n.2
    term_ranged (zero_extend spot e u) asked i a h =
        let mine = extended (own what e) u in
        let n = none_three (fault_if (unsettled mine asked) E7 spot.first) (fault_if (not (is_sound mine) && is_sound (own what e)) E7 spot.first)
        (expression_faults what e None) h in
        let f = expression_fitted es w r e None n.2 in
        let k = settled_own (own what e) f.settles in
        let s = sound_whole mine (is_sound (own what e)) (no_fault (not (is_sound mine) && is_sound (own what e)) E7 spot.first n.1)
        (some_sound (own what e) k.0 k.1) in
        let x = extended_is (own what e) u s.0 s.1 in
        let j = (and_parts (is_expression version e) (is_number u) i).0 in
        let m : known (own what e) ≡ x.0 = ap known x.1 in
        let l : width_of w (term_of es e None) ≡ x.0 = own_width w (term_of es e None) (own what e) None x.0 x.1 f in
        let b = own_ranges version what e j x.0 x.1 in
        let bottom : 1 ≤ x.0 = b.0 in
        let low : x.0 ≤ u = x.2 in
        widened_ranged w (term_of es e None) (known (own what e)) u (l ∙ sym m) (omega arith) (omega arith) x.4 (term_ranged e None j range_none n.2)

    parts_ranged : (ps : Expressions) → has_part ps ≡ true → are_expressions version ps ≡ true → (u : ℕ) → own_parts what ps ≡ Some u → parts_faults what ps ≡ []
        → RangedTerm w (parts_of es ps)
    parts_ranged no_part some i u o h = cc
    parts_ranged (and_part e no_part) some i u o h =
        term_ranged e None (and_parts (is_expression version e) true i).0 range_none (none_two (expression_faults what e None) [] h).0
    parts_ranged (and_part e (and_part g ps)) some i u o h =
        let rest = and_part g ps in
        let m = and_parts (is_expression version e) (are_expressions version rest) i in
        let n = none_two (expression_faults what e None) (parts_faults what rest) h in
        let f = expression_fitted es w r e None n.0 in
        let q = parts_fitted es w r rest n.1 in
        let p = joined_is (own what e) (own_parts what rest) u o in
        let x : width_of w (term_of es e None) ≡ p.0 = own_width w (term_of es e None) (own what e) None p.0 p.2 f in
        let y : width_of w (parts_of es rest) ≡ p.1 = q.wide p.1 p.3 in
        let z : p.0 + p.1 ≡ u = p.4 in
        let top : u ≤ 64 = p.5 in
        let b = own_ranges version what e m.0 p.0 p.2 in
        let bottom : 1 ≤ p.0 = b.0 in
        ((omega arith, omega arith), term_ranged e None m.0 range_none n.0, parts_ranged (and_part g ps) refl m.1 p.1 p.3 n.1)
