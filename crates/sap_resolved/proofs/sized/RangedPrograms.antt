-- The law of ranges: filling in what hangs changes no width, and the entities' widths and depths are in range.
use Rattle.sap_lemmas.proofs.Common.{◌≡◌, ℕ, zero, suc, List, [], ◌∷◌, length, true, false, get_or, sym, ap, subst, list_all, three_parts}
use Rattle.sap_tree.specs.Prelude.{DesignTree, is_declaration, has_state, are_states, is_tree}
use Rattle.sap_lattice.specs.Levels.{order_of}
use Rattle.sap_names.specs.Prelude.{entities_of, sound_width, index_bits, is_sound}
use Rattle.sap_names.specs.declared.kind.Declared.{Declared}
use Rattle.sap_names.specs.declared.kind.Declared.TheVariants.{Input, Register, Memory, State}
use Rattle.sap_names.specs.declared.entity.Entity as declared_entity
use Rattle.sap_meaning.specs.Prelude.{World, Entity, nothing, root, kind_is_state, kind_is_memory, depth_of, Step, assign, Group, Home}
use Rattle.sap_meaning.specs.Program as program
use Rattle.sap_resolved.specs.Worlds.{world_of}
use Rattle.sap_resolved.specs.Resolve.{states_of}
use Rattle.sap_resolved.specs.Fill.{filled_step, filled_group}
use Rattle.sap_resolved.proofs.Lookup.{Stands, AllMatch, entities_match}
use Rattle.sap_resolved.specs.Sized.Ranges.{IsWidth, IsDepth, RangedTerm, RangedStep, RangedGroup}
use Rattle.sap_resolved.proofs.FillLemmas.{every_filled_group}
use Rattle.sap_resolved.specs.Sized.Sound.{WidthsInRange}
use Rattle.sap_resolved.proofs.sized.Faultless.{sound_some, sound_same, sound_is, index_power}
use Rattle.sap_resolved.proofs.sized.Declared.{Sound, AllSound, entities_sound, resolved}
use Rattle.sap_resolved.proofs.sized.RangedCommands.{group_ranged}
use Rattle.sap_resolved.proofs.sized.Programs.{faultless}

module _ (w : World) where
  filled_step_ranged : (at : Home) (k : Step) → RangedStep w k → RangedStep w (filled_step w at k)
  filled_step_ranged at (assign site x e) h = h
  filled_step_ranged at _ h = h

  pub filled_group_ranged : (p : ℕ) (g : Group) → RangedGroup w g → RangedGroup w (filled_group w p g)
  filled_group_ranged p g h = every_filled_group w (RangedStep w) (RangedStep w) (RangedTerm w) filled_step_ranged p g h

-- the width and the depth of an entity
record RangedEntity (g : Entity) : Type 0 where
  pub wide : kind_is_state g.kind ≡ false → IsWidth g.width
  pub deep : kind_is_memory g.kind ≡ true → (b : ℕ) × IsDepth (depth_of g.kind) b

width_of_sound : (v u : ℕ) → is_sound (sound_width v) ≡ true → u ≡ v → IsWidth u
width_of_sound v u s e = subst (λ (k : ℕ). IsWidth k) (sym e) (sound_is v v (sound_same v s)).1

entity_ranged : (x : Declared) (g : Entity) → Stands x g → Sound x → RangedEntity g
entity_ranged (Input v) g i s = record {
  wide = λ n. width_of_sound v g.width s i.1;
  deep = λ m. (let k = ap (λ k. kind_is_memory k) i.0 in cc);
}
entity_ranged (Register v) g i s = record {
  wide = λ n. width_of_sound v g.width s i.1;
  deep = λ m. (let k = ap (λ k. kind_is_memory k) i.0 in cc);
}
entity_ranged (Memory v depth) g i s = record {
  wide = λ n. width_of_sound v g.width s.0 i.1;
  deep = λ m. (let c = sound_some (index_bits depth) s.1 in
      (c.0, subst (λ (k : ℕ). IsDepth k c.0) (sym (ap (λ k. depth_of k) i.0)) (index_power depth c.0 c.1)));
}
entity_ranged State g i s = record { wide = λ n. (let k = i.0 in cc); deep = λ m. state_memory g.kind i.0 m }
  where
    state_memory : (k : program.Kind) → kind_is_state k ≡ true → kind_is_memory k ≡ true → (b : ℕ) × IsDepth (depth_of k) b
    state_memory program.input p q = cc
    state_memory _ p q = cc

nothing_ranged : RangedEntity nothing
nothing_ranged = record { wide = λ n. cc; deep = λ m. cc }

entities_ranged : (es : List declared_entity.Entity) (gs : List Entity) → AllMatch es gs → AllSound es → (x : ℕ) → RangedEntity (get_or gs x nothing)
entities_ranged es [] a s x = nothing_ranged
entities_ranged [] (g ∷ gs) a s x = absurd a
entities_ranged (e ∷ es) (g ∷ gs) a s zero = entity_ranged e.what g a.0.what s.0
entities_ranged (e ∷ es) (g ∷ gs) a s (suc x) = entities_ranged es gs a.1 s.1 x

states_of_tree : (d : DesignTree) → is_tree d ≡ true → are_states d.version d.states ≡ true
states_of_tree d h = (three_parts (list_all (is_declaration d.version) d.declarations) (has_state d.states) (are_states d.version d.states) h).2

pub widths_in_range_law : WidthsInRange
widths_in_range_law ls d tree h =
    let w = world_of ls d in
    let n = faultless ls (order_of ls).le d h in
    let e = entities_ranged (entities_of d) w.entities (entities_match ls d) (entities_sound ls.names (order_of ls).le d n.0) in
    record {
      states = filled_group_ranged w (root w) (states_of ls d)
          (group_ranged d.version ls (order_of ls).le (entities_of d) w (resolved ls (order_of ls).le d n.0) 1 (length d.declarations) d.states (states_of_tree d tree) n.1);
      widths = λ x i. (e x).wide i;
      depths = λ m i. (e m).deep i;
    }
