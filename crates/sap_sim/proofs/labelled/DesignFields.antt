-- The fields of a design: entity by entity, by the widths of the world's inputs, and of the right sizes.
use Rattle.sap_lemmas.proofs.Common.{◌≡◌, ℕ, ◌+◌, ◌<◌, true, List, [], ◌∷◌, ◌++◌, Option, Some, None, length, get_or, take, map, refl, sym, ap, ◌∙◌, if◌then◌else◌, All, option_map, slice_get, AllByRecursion, take_more, get_or_from_slice_get, same_Some}
use Rattle.std.specs.Prelude.{filter_map}
use Rattle.std.specs.List.{cons_option}
use Rattle.std.proofs.lemmas.List.Elements.{filter_map-append}
use Rattle.sap_tree.specs.Syntax.{DesignTree}
use Rattle.sap_lattice.specs.Levels.{Levels}
use Rattle.sap_names.specs.Entities.{entities_of}
use Rattle.sap_names.specs.declared.kind.Declared.{Declared}
use Rattle.sap_names.specs.declared.entity.Entity.{Entity}
use Rattle.sap_names.specs.Entities.{HasWidth, HaveWidths}
use Rattle.sap_names.specs.declared.kind.Declared.TheVariants as what
use Rattle.sap_meaning.specs.Prelude.{kind_is_input, input_widths}
use Rattle.sap_meaning.specs.Program as program
use Rattle.sap_resolved.specs.Worlds.{world_of}
use Rattle.sap_resolved.proofs.Lookup.{Stands, AllMatch, entities_match}
use Rattle.sap_stim.specs.declared.field.Field.{Field}
use Rattle.sap_stim.specs.declared.field.Field.TheVariants.{Tagged}
use Rattle.sap_stim.specs.Line.{IsSized}
use Rattle.sap_sim.specs.Labelled.Fields.{field_of, design_fields}
use Rattle.sap_sim.proofs.Registers.{each}

abbrev pub fields_among : List Entity → List Field
fields_among es = filter_map (λ e. field_of e.what) es

-- the widths of inputs, as the world has them
input_stands : (d : Declared) (g : program.Entity) (widths : List ℕ) → Stands d g
    → cons_option (field_of d) (map (λ (w : ℕ). Tagged w) widths) ≡ map (λ (w : ℕ). Tagged w) (if kind_is_input g.kind then g.width ∷ widths else widths)
input_stands (what.Input u) g widths s =
    rw s.0 (ap (λ (v : ℕ). Tagged v ∷ map (λ (w : ℕ). Tagged w) widths) (sym s.1))
input_stands (what.Register u) g widths s = rw s.0 refl
input_stands (what.Memory u depth) g widths s = rw s.0 refl
input_stands what.State g widths s = state_kind g.kind s.0 where
  state_kind : (k : program.Kind) → program.kind_is_state k ≡ true
      → map (λ (w : ℕ). Tagged w) widths ≡ map (λ (w : ℕ). Tagged w) (if kind_is_input k then g.width ∷ widths else widths)
  state_kind program.input h = cc
  state_kind program.register h = refl
  state_kind (program.memory depth) h = refl
  state_kind (program.state place last) h = refl

fields_match : (es : List Entity) (gs : List program.Entity) → AllMatch es gs → fields_among es ≡ map (λ (w : ℕ). Tagged w) (input_widths gs)
fields_match [] [] m = refl
fields_match [] (g ∷ gs) m = absurd m
fields_match (e ∷ es) [] m = absurd m
fields_match (e ∷ es) (g ∷ gs) m =
    ap (cons_option (field_of e.what)) (fields_match es gs m.1) ∙ input_stands e.what g (input_widths gs) m.0.what

pub by_widths : (ls : Levels) (d : DesignTree) → design_fields d ≡ map (λ w. Tagged w) (input_widths (world_of ls d).entities)
by_widths ls d = fields_match (entities_of d) (world_of ls d).entities (entities_match ls d)

-- widths from 1 to 64
sized_more : (d : Declared) (fs : List Field) → HasWidth d → AllByRecursion IsSized fs → AllByRecursion IsSized (cons_option (field_of d) fs)
sized_more (what.Input u) fs h k = (h, k)
sized_more (what.Register u) fs h k = k
sized_more (what.Memory u depth) fs h k = k
sized_more what.State fs h k = k

sized_fields : (es : List Entity) → HaveWidths es → AllByRecursion IsSized (fields_among es)
sized_fields [] h = tt
sized_fields (e ∷ es) h = sized_more e.what (fields_among es) h.0 (sized_fields es h.1)

pub all_sized : (es : List Entity) → HaveWidths es → All IsSized (fields_among es)
all_sized es h = each IsSized (fields_among es) (sized_fields es h)

-- one entity more
pub fields_more : (es : List Entity) (k : ℕ) (o : Option Field) (fs : List Field) → k < length es
    → option_map (λ (e : Entity). field_of e.what) (slice_get es k) ≡ Some o → fs ≡ fields_among (take k es)
    → fs ++ cons_option o [] ≡ fields_among (take (k + 1) es)
fields_more es k o fs h is so_far = ap (λ (gs : List Field). gs ++ cons_option o []) so_far ∙ by_entity (slice_get es k) refl is where
  by_entity : (x : Option Entity) → slice_get es k ≡ x → option_map (λ (e : Entity). field_of e.what) x ≡ Some o
      → fields_among (take k es) ++ cons_option o [] ≡ fields_among (take (k + 1) es)
  by_entity None at is = cc
  by_entity (Some e) at is =
      sym (ap fields_among (take_more es k e h) ∙ filter_map-append (λ (x : Entity). field_of x.what) (take k es) (get_or es k e ∷ [])
      ∙ ap (λ (x : Entity). fields_among (take k es) ++ cons_option (field_of x.what) []) (get_or_from_slice_get es k e e at)
      ∙ ap (λ (f : Option Field). fields_among (take k es) ++ cons_option f []) (same_Some (field_of e.what) o is))
