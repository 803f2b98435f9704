-- What the entities of a design start with: registers with numbers that fit them, all with levels of the lattice.
use Rattle.sap_lemmas.proofs.Common.{◌≡◌, ℕ, zero, suc, ◌+◌, ◌^◌, ◌<◌, List, [], ◌∷◌, ◌++◌, length, Bool, true, not, Option, Some, None, get_or, sym, subst, arith, pow_pos}
use Rattle.sap_names.proofs.NameFaultsLemmas.{no_fault}
use Rattle.sap_tree.specs.Syntax.{StateTree, state_node, StateList, no_state, and_state, DesignTree}
use Rattle.sap_tree.specs.declared.syntax.Numeral.{Numeral}
use Rattle.sap_tree.specs.declared.syntax.Kind.{Kind}
use Rattle.sap_tree.specs.declared.syntax.Kind.TheVariants.{Dynamic, Enforced}
use Rattle.sap_tree.specs.declared.syntax.Decl.{Decl}
use Rattle.sap_tree.specs.declared.syntax.Decl.TheVariants as decl
use Rattle.sap_lattice.proofs.KeptLemmas.{order_of-count}
use Rattle.sap_lattice.specs.Prelude.{Laws, Levels, order_of}
use Rattle.sap_names.specs.Prelude.{Lookup, fault_if, too_large, level_faults, under_faults, kind_faults, width_faults, start_faults, declaration_faults, declarations_faults, block_faults, state_faults, states_faults, sound_width, index_bits, is_sound}
use Rattle.sap_names.specs.declared.kind.Code.TheVariants.{E7, E8}
use Rattle.sap_meaning.specs.Program.{Entity, nothing}
use Rattle.sap_resolved.specs.Worlds.{declared_level, initial_of, declared, all_declared, states_in, state_entities, group_entities, world_of}
use Rattle.sap_resolved.proofs.sized.Faultless.{none_two, none_three, fits_width, sound_same}
use Rattle.sap_resolved.proofs.sized.Declared.{width_sound}
use Rattle.sap_resolved.proofs.WorldsLemmas.{known_level}

module _ (ls : Levels) (laws : Laws (order_of ls)) (le : ℕ → ℕ → Bool) where
  abbrev Starts : Entity → Type 0
  Starts e = (e.initial < 2 ^ e.width) × (e.declared < (order_of ls).count)

  abbrev AllStart : List Entity → Type 0
  AllStart [] = Unit {0}
  AllStart (e ∷ es) = Starts e × AllStart es

  append_start : (es fs : List Entity) → AllStart es → AllStart fs → AllStart (es ++ fs)
  append_start [] fs a b = b
  append_start (e ∷ es) fs a b = (a.0, append_start es fs a.1 b)

  level_starts : (k : Kind) → kind_faults ls.names le k ≡ [] → declared_level ls k < (order_of ls).count
  level_starts (Dynamic place) h = laws.bottom_is_level
  level_starts (Enforced level under) h =
      let n = none_two (level_faults ls.names level) (under_faults ls.names le level under) h in
      subst (λ (c : ℕ). declared_level ls (Enforced level under) < c) (sym (order_of-count ls)) (known_level ls level n.0).0

  number_starts : (width : Numeral) (start : Option Numeral) → is_sound (sound_width width.value) ≡ true → start_faults width.value start ≡ []
      → initial_of start < 2 ^ width.value
  number_starts width None s h = pow_pos width.value
  number_starts width (Some start) s h =
      fits_width (sound_width width.value) width.value start.value (sound_same width.value s)
      (no_fault (too_large (sound_width width.value) start.value) E8 start.place h)

  declared_starts : (d : Decl) → declaration_faults ls.names le d ≡ [] → Starts (declared ls d)
  declared_starts (decl.Input place name width) h = (pow_pos width.value, laws.bottom_is_level)
  declared_starts (decl.Register place name width kind start) h =
      let n = none_three (width_faults width) (kind_faults ls.names le kind) (start_faults width.value start) h in
      (number_starts width start (width_sound width n.0) n.2, level_starts kind n.1)
  declared_starts (decl.Memory place name width depth kind) h =
      let n = none_three (width_faults width) (fault_if (not (is_sound (index_bits depth.value))) E7 depth.place) (kind_faults ls.names le kind) h in
      (pow_pos width.value, level_starts kind n.2)

  all_declared_start : (ds : List Decl) → declarations_faults ls.names le ds ≡ [] → AllStart (all_declared ls ds)
  all_declared_start [] h = tt
  all_declared_start (d ∷ ds) h =
      let n = none_two (declaration_faults ls.names le d) (declarations_faults ls.names le ds) h in
      (declared_starts d n.0, all_declared_start ds n.1)

  mutual
    state_starts : (what : Lookup) (n x : ℕ) (s : StateTree) → state_faults ls.names le what s ≡ [] → AllStart (state_entities ls n x s)
    state_starts what n x (state_node place name kind body children) h =
        let f = none_three (kind_faults ls.names le kind) (block_faults ls.names what body) (states_faults ls.names le what children) h in
        ((pow_pos 0, level_starts kind f.0), group_starts what 0 (x + 1) children f.2)

    group_starts : (what : Lookup) (n x : ℕ) (g : StateList) → states_faults ls.names le what g ≡ [] → AllStart (group_entities ls n x g)
    group_starts what n x no_state h = tt
    group_starts what n x (and_state s rest) h =
        let f = none_two (state_faults ls.names le what s) (states_faults ls.names le what rest) h in
        append_start (state_entities ls n x s) (group_entities ls (n + 1) (x + states_in s) rest) (state_starts what n x s f.0)
        (group_starts what (n + 1) (x + states_in s) rest f.1)

  -- a number past the last entity stands for one that starts at 0, which is a level
  entity_starts : (es : List Entity) → AllStart es → (x : ℕ) → Starts (get_or es x nothing)
  entity_starts [] a x = let b : (order_of ls).bottom < (order_of ls).count = laws.bottom_is_level in (pow_pos 0, omega arith)
  entity_starts (e ∷ es) a zero = a.0
  entity_starts (e ∷ es) a (suc x) = entity_starts es a.1 x

  pub design_starts : (what : Lookup) (d : DesignTree) → declarations_faults ls.names le d.declarations ≡ [] → states_faults ls.names le what d.states ≡ []
      → (x : ℕ) → Starts (get_or (world_of ls d).entities x nothing)
  design_starts what d h k x =
      let g = group_entities ls 0 (length d.declarations) d.states in
      entity_starts (all_declared ls d.declarations ++ g)
      (append_start (all_declared ls d.declarations) g (all_declared_start d.declarations h) (group_starts what 0 (length d.declarations) d.states k)) x
