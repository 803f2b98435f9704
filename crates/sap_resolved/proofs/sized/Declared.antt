-- Where no fault stands in the declarations, the widths and depths that a name is declared with are sound.
use Rattle.sap_lemmas.proofs.Common.{◌≡◌, ◌<◌, ℕ, List, [], ◌∷◌, ◌++◌, Bool, true, not, Some, subst, inl, inr, bytes_eq, cases_Bool, not-false}
use Rattle.sap_names.proofs.NameFaultsLemmas.{no_fault}
use Rattle.sap_tree.specs.Syntax.{StateTree, state_node, StateList, no_state, and_state, DesignTree}
use Rattle.sap_tree.specs.declared.syntax.Numeral.{Numeral}
use Rattle.sap_tree.specs.declared.syntax.Decl.{Decl}
use Rattle.sap_tree.specs.declared.syntax.Decl.TheVariants as decl
use Rattle.sap_lattice.specs.Levels.{Levels}
use Rattle.sap_names.specs.Prelude.{entity_of, declared_in, state_entities, group_entities, entities_of, find, what_is, width_faults, start_faults, kind_faults, declaration_faults, declarations_faults, fault_if, sound_width, index_bits, is_sound}
use Rattle.sap_names.specs.declared.kind.Declared.{Declared}
use Rattle.sap_names.specs.declared.kind.Declared.TheVariants.{Input, Register, Memory, State}
use Rattle.sap_names.specs.declared.kind.Code.TheVariants.{E7}
use Rattle.sap_names.specs.declared.entity.Entity.{Entity}
use Rattle.sap_meaning.specs.Program.{World, entity, root}
use Rattle.sap_resolved.specs.Terms.{entity_number}
use Rattle.sap_resolved.specs.Worlds.{world_of}
use Rattle.sap_resolved.proofs.Lookup.{Stands, entity_stands, entity_within, what_found}
use Rattle.sap_resolved.proofs.sized.Faultless.{none_two, none_three}

-- its widths are from 1 to 64, and its depth is one that a memory can have
abbrev pub Sound : Declared → Type 0
Sound (Input u) = is_sound (sound_width u) ≡ true
Sound (Register u) = is_sound (sound_width u) ≡ true
Sound (Memory u depth) = (is_sound (sound_width u) ≡ true) × (is_sound (index_bits depth) ≡ true)
Sound State = Unit {0}

abbrev pub AllSound : List Entity → Type 0
AllSound [] = Unit {0}
AllSound (e ∷ es) = Sound e.what × AllSound es

sound_append : (es fs : List Entity) → AllSound es → AllSound fs → AllSound (es ++ fs)
sound_append [] fs a b = b
sound_append (e ∷ es) fs a b = (a.0, sound_append es fs a.1 b)

pub width_sound : (n : Numeral) → width_faults n ≡ [] → is_sound (sound_width n.value) ≡ true
width_sound n h = not-false (is_sound (sound_width n.value)) (no_fault (not (is_sound (sound_width n.value))) E7 n.place h)

declared_sound : (levels : List (List ℕ)) (le : ℕ → ℕ → Bool) (d : Decl) → declaration_faults levels le d ≡ [] → Sound (entity_of d).what
declared_sound levels le (decl.Input place name width) h = width_sound width h
declared_sound levels le (decl.Register place name width kind start) h =
    width_sound width (none_three (width_faults width) (kind_faults levels le kind) (start_faults width.value start) h).0
declared_sound levels le (decl.Memory place name width depth kind) h =
    let shallow = not (is_sound (index_bits depth.value)) in
    let n = none_three (width_faults width) (fault_if shallow E7 depth.place) (kind_faults levels le kind) h in
    (width_sound width n.0, not-false (is_sound (index_bits depth.value)) (no_fault shallow E7 depth.place n.1))

all_declared_sound : (levels : List (List ℕ)) (le : ℕ → ℕ → Bool) (ds : List Decl) → declarations_faults levels le ds ≡ [] → AllSound (declared_in ds)
all_declared_sound levels le [] h = tt
all_declared_sound levels le (d ∷ ds) h =
    let n = none_two (declaration_faults levels le d) (declarations_faults levels le ds) h in
    (declared_sound levels le d n.0, all_declared_sound levels le ds n.1)

mutual
  state_sound : (s : StateTree) → AllSound (state_entities s)
  state_sound (state_node place name kind body children) = (tt, group_sound children)

  group_sound : (g : StateList) → AllSound (group_entities g)
  group_sound no_state = tt
  group_sound (and_state s rest) = sound_append (state_entities s) (group_entities rest) (state_sound s) (group_sound rest)

found_sound : (es : List Entity) (name : List ℕ) (e : Entity) → AllSound es → find es name ≡ Some e → Sound e.what
found_sound [] name e a f = cc
found_sound (d ∷ es) name e a f = elim (cases_Bool (bytes_eq d.name.name name)) [
  | inl t ↦
      let i : Some d ≡ Some e = rw t at f in
      let j : d ≡ e = cc in
      subst (λ (x : Entity). Sound x.what) j a.0
  | inr t ↦ found_sound es name e a.1 (rw t at f)
]

-- What is known of every declared name: its entity in the world, and that its widths are sound.
pub record Resolved (es : List Entity) (w : World) : Type 0 where
  pub stands : (name : List ℕ) (x : Declared) → what_is es name ≡ Some x → Stands x (entity w (entity_number es name))
  pub sound : (name : List ℕ) (x : Declared) → what_is es name ≡ Some x → Sound x
  pub within : (name : List ℕ) (x : Declared) → what_is es name ≡ Some x → entity_number es name < root w

pub entities_sound : (levels : List (List ℕ)) (le : ℕ → ℕ → Bool) (d : DesignTree) → declarations_faults levels le d.declarations ≡ []
    → AllSound (entities_of d)
entities_sound levels le d h =
    sound_append (declared_in d.declarations) (group_entities d.states) (all_declared_sound levels le d.declarations h) (group_sound d.states)

pub resolved : (ls : Levels) (le : ℕ → ℕ → Bool) (d : DesignTree) → declarations_faults ls.names le d.declarations ≡ []
    → Resolved (entities_of d) (world_of ls d)
resolved ls le d h = record {
  stands = entity_stands ls d;
  sound = λ name x i.
      let f = what_found (find (entities_of d) name) x i in
      subst (λ (y : Declared). Sound y) f.2 (found_sound (entities_of d) name f.0 (entities_sound ls.names le d h) f.1);
  within = λ name x i.
      let f = what_found (find (entities_of d) name) x i in
      entity_within ls d name f.0 f.1;
}
