-- The registers of a row, an entity after another.
use Rattle.sap_lemmas.proofs.Common.{◌≡◌, ℕ, suc, ◌+◌, ◌<◌, ◌≤◌, List, [], ◌∷◌, ◌++◌, Bool, true, false, Some, length, length-append, drop, refl, sym, ap, ◌∙◌, arith, append_assoc, Result, OnOk, if◌then◌else◌, option_map, slice_get, drop-cons, append-nil, get_or_from_slice_get, slice_get-map, on_ok_weaker, drop_past}
use Rattle.sap_lattice.specs.Prelude.{Codes, code_of, Levels, order_of}
use Rattle.sap_tree.specs.Syntax.{DesignTree}
use Rattle.sap_names.specs.declared.entity.Entity as tree
use Rattle.sap_names.specs.Entities.{entities_of}
use Rattle.sap_meaning.specs.Prelude.{Entity, Program, is_register, nothing, Store, level, number, own}
use Rattle.sap_resolved.specs.Fill.{program_of}
use Rattle.sap_resolved.specs.Worlds.{world_of}
use Rattle.sap_resolved.proofs.Lookup.{entities_length}
use Rattle.sap_interface.specs.Designs.{named_of}
use Rattle.sap_stim.specs.Rows.{Shown, row_text, shown, shown_of}
use Rattle.sap_sim.specs.Labelled.LabelledRows.{labelled_row, register_shown, registers_shown}
use Rattle.sap_sim.proofs.labelled.Levels.{name_coded}

shown_last : (ls : Levels) (names : List (List ℕ)) (values tags : List ℕ) (name : List ℕ) (value tag : ℕ) → length values ≡ length names → length tags ≡ length names
    → shown_of ls (names ++ name ∷ []) (values ++ value ∷ []) (tags ++ tag ∷ []) ≡ shown_of ls names values tags ++ shown ls name value tag ∷ []
shown_last ls [] [] [] name value tag v g = refl
shown_last ls [] [] (h ∷ tags) name value tag v g = absurd (omega arith)
shown_last ls [] (u ∷ values) tags name value tag v g = absurd (omega arith)
shown_last ls (n ∷ names) [] tags name value tag v g = absurd (omega arith)
shown_last ls (n ∷ names) (u ∷ values) [] name value tag v g = absurd (omega arith)
shown_last ls (n ∷ names) (u ∷ values) (h ∷ tags) name value tag v g =
    ap (λ (ss : List Shown). shown ls n u h ∷ ss) (shown_last ls names values tags name value tag (omega arith) (omega arith))

module _ (ls : Levels) (t : DesignTree) (s : Store) where
  -- the registers from an entity on
  abbrev pub shown_from : (x : ℕ) → List Shown
  shown_from x = registers_shown ls (named_of ls t) s x (drop x (world_of ls t).entities)

  abbrev shown_if : Bool → (x : ℕ) → List Shown
  shown_if b x = if b then register_shown ls (named_of ls t) s x ∷ [] else []

  shown_next : (x : ℕ) (b : Bool) → x < length (entities_of t) → is_register (world_of ls t) x ≡ b → shown_from x ≡ shown_if b x ++ shown_from (x + 1)
  shown_next x b l e =
      let k : suc x ≡ x + 1 = omega arith in
      let n = entities_length ls t in
      ap (λ (es : List Entity). registers_shown ls (named_of ls t) s x es) (drop-cons (world_of ls t).entities x nothing (omega arith))
      ∙ ap (λ (j : ℕ). shown_if (is_register (world_of ls t) x) x ++ registers_shown ls (named_of ls t) s (x + 1) (drop j (world_of ls t).entities)) k
      ∙ ap (λ (b : Bool). shown_if b x ++ shown_from (x + 1)) e

  -- the registers before an entity have these names, numbers and codes of levels
  pub record Collected (x : ℕ) (names : List (List ℕ)) (values tags : List ℕ) : Type 0 where
    pub values_length : length values ≡ length names
    pub tags_length : length tags ≡ length names
    pub shown : shown_of ls names values tags ++ shown_from x ≡ shown_from 0

  module _ (p : Program) (is : p ≡ program_of ls t) (x : ℕ) (names : List (List ℕ)) (values tags : List ℕ)
      (before : Collected x names values tags) (low : x < length (entities_of t)) where
    shown_here : (b : Bool) → is_register p.world x ≡ b → shown_from x ≡ shown_if b x ++ shown_from (x + 1)
    shown_here b e = shown_next x b low (ap (λ (q : Program). is_register q.world x) (sym is) ∙ e)

    -- an entity that is no register
    pub passed : is_register p.world x ≡ false → Collected (x + 1) names values tags
    passed f = record {
      values_length = before.values_length;
      tags_length = before.tags_length;
      shown = ap (λ (ss : List Shown). shown_of ls names values tags ++ ss) (sym (shown_here false f)) ∙ before.shown;
    }

    -- a register
    pub collected : Codes (order_of ls) → 0 < length ls.names → is_register p.world x ≡ true → (name : List ℕ) (value at tag : ℕ)
        → option_map (λ (e : tree.Entity). e.name.name) (slice_get (entities_of t) x) ≡ Some name → value ≡ number (own x) s
        → at ≡ level p.world (own x) s → tag ≡ code_of (order_of ls) at
        → Collected (x + 1) (names ++ name ∷ []) (values ++ value ∷ []) (tags ++ tag ∷ [])
    collected codes some r name value at tag n v l g =
        let named = get_or_from_slice_get _ x name [] (slice_get-map (λ (e : tree.Entity). e.name.name) (entities_of t) x ∙ n) in
        let one : shown ls name value tag ≡ register_shown ls (named_of ls t) s x = rw (v, g, l, is, named, name_coded ls codes some (level (world_of ls t) (own x) s)) refl in
        let more_names = length-append names (name ∷ []) in
        let more_values = length-append values (value ∷ []) in
        let more_tags = length-append tags (tag ∷ []) in
        record {
          values_length = omega (arith, more_values, more_names, before.values_length);
          tags_length = omega (arith, more_tags, more_names, before.tags_length);
          shown =
              ap (λ (ss : List Shown). ss ++ shown_from (x + 1))
              (shown_last ls names values tags name value tag before.values_length before.tags_length ∙ ap (λ (r : Shown). shown_of ls names values tags ++ r ∷ []) one)
              ∙ append_assoc (shown_of ls names values tags) (register_shown ls (named_of ls t) s x ∷ []) (shown_from (x + 1))
              ∙ ap (λ (ss : List Shown). shown_of ls names values tags ++ ss) (sym (shown_here true r))
              ∙ before.shown;
        }

  -- the row of all
  pub all_collected : {E : Type 0} (r : Result (Unit {0}) E) (x : ℕ) (names : List (List ℕ)) (values tags : List ℕ) (cycle : ℕ)
      (old new : List ℕ) → length (entities_of t) ≤ x → Collected x names values tags
      → OnOk r (new ≡ old ++ row_text cycle (shown_of ls names values tags)) → OnOk r (new ≡ old ++ labelled_row ls (named_of ls t) cycle s)
  all_collected r x names values tags cycle old new high all h =
      let n = entities_length ls t in
      let e : shown_of ls names values tags ≡ shown_from 0 =
      sym (append-nil (shown_of ls names values tags))
      ∙ ap (λ (es : List Entity). shown_of ls names values tags ++ registers_shown ls (named_of ls t) s x es) (sym (drop_past (world_of ls t).entities x (omega arith)))
      ∙ all.shown in
      on_ok_weaker r (λ h. h ∙ ap (λ (ss : List Shown). old ++ row_text cycle ss) e) h
