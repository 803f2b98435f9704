-- The world of a design: where its states stand, inputs and authorities.
use Rattle.sap_lemmas.proofs.Common.{◌≡◌, ℕ, zero, suc, ◌+◌, Bool, true, false, not, List, [], ◌∷◌, ◌++◌, length, append_assoc, append-nil, length-append, get_or, Some, None, refl, sym, ap, ◌∙◌, not-false}
use Rattle.sap_resolved.proofs.WorldsLemmas.{children_length, declared_length, known_level}
use Rattle.sap_names.proofs.NameFaultsLemmas.{no_fault}
use Rattle.sap_names.proofs.FaultLemmas.{nil_left, nil_right}
use Rattle.sap_tree.specs.Syntax.{StateTree, state_node, StateList, no_state, and_state, DesignTree}
use Rattle.sap_tree.specs.declared.syntax.Kind.{Kind}
use Rattle.sap_tree.specs.declared.syntax.Kind.TheVariants.{Dynamic, Enforced}
use Rattle.sap_tree.specs.declared.syntax.Decl.{Decl}
use Rattle.sap_tree.specs.declared.syntax.Decl.TheVariants.{Input, Register, Memory}
use Rattle.sap_lattice.specs.Prelude.{Order, Laws, Levels, level_named, order_of}
use Rattle.sap_names.specs.Prelude.{entities_of, what_is, under_faults, kind_faults, declaration_faults, declarations_faults, state_faults, states_faults}
use Rattle.sap_names.specs.declared.kind.Code.TheVariants.{E9}
use Rattle.sap_names.specs.NameFaults.{not_below}
use Rattle.sap_names.specs.Entities as tree
use Rattle.sap_meaning.specs.Program.{World, Entity, nothing, entity, children, root, kind_is_input}
use Rattle.sap_resolved.specs.Worlds.{level_number, declared_level, authority_of, is_dynamic_kind, declared, all_declared, states_in, group_length, state_entities, group_entities, group_children, no_children, world_of}
use Rattle.sap_resolved.proofs.premises.Places.{Part, part_head, group_count, group_kids, Laid}

names_length : (ds : List Decl) → length (tree.declared_in ds) ≡ length ds
names_length [] = refl
names_length (d ∷ ds) = ap suc (names_length ds)

-- the states of a design stand behind its declarations
pub laid : (ls : Levels) (d : DesignTree) → Laid ls (entities_of d) (world_of ls d) 0 (length d.declarations) d.states
laid ls d = record {
  names = record {
    front = tree.declared_in d.declarations;
    back = [];
    is = ap (λ u. tree.declared_in d.declarations ++ u) (sym (append-nil (tree.group_entities d.states)));
    count = names_length d.declarations;
  };
  entities = record {
    front = all_declared ls d.declarations;
    back = [];
    is = ap (λ u. all_declared ls d.declarations ++ u) (sym (append-nil (group_entities ls 0 (length d.declarations) d.states)));
    count = declared_length ls d.declarations;
  };
  children = record {
    front = no_children d.declarations;
    back = group_length d.states ∷ [];
    is = append_assoc (no_children d.declarations) (group_children d.states) (group_length d.states ∷ []);
    count = children_length d.declarations;
  };
}

-- the root's children
pub root_children : (ls : Levels) (d : DesignTree) → children (world_of ls d) (root (world_of ls d)) ≡ group_length d.states
root_children ls d =
    let w : World = world_of ls d in
    let n : root w ≡ length (no_children d.declarations ++ group_children d.states) =
    length-append (all_declared ls d.declarations) (group_entities ls 0 (length d.declarations) d.states)
    ∙ ap (λ m. m + length (group_entities ls 0 (length d.declarations) d.states)) (declared_length ls d.declarations)
    ∙ ap (λ m. length d.declarations + m) (group_count ls 0 (length d.declarations) d.states)
    ∙ ap (λ m. length d.declarations + m) (sym (group_kids d.states))
    ∙ ap (λ m. m + length (group_children d.states)) (sym (children_length d.declarations))
    ∙ sym (length-append (no_children d.declarations) (group_children d.states)) in
    let p : Part w.children (length (no_children d.declarations ++ group_children d.states)) (group_length d.states ∷ []) = record {
      front = no_children d.declarations ++ group_children d.states;
      back = [];
      is = refl;
      count = refl;
    } in
    ap (λ m. children w m) n ∙ part_head w.children (length (no_children d.declarations ++ group_children d.states)) (group_length d.states) [] p 0

-- inputs are dynamic, and an enforced entity starts at or above its authority
pub record Sound (o : Order) (e : Entity) : Type 0 where
  pub input : kind_is_input e.kind ≡ true → e.dynamic ≡ true
  pub above : e.dynamic ≡ false → o.le e.authority e.declared ≡ true

abbrev AllSound : Order → List Entity → Type 0
AllSound o [] = Unit {0}
AllSound o (e ∷ es) = Sound o e × AllSound o es

sound_append : (o : Order) (es fs : List Entity) → AllSound o es → AllSound o fs → AllSound o (es ++ fs)
sound_append o [] fs h k = k
sound_append o (e ∷ es) fs h k = (h.0, sound_append o es fs h.1 k)

sound_at : (o : Order) (es : List Entity) → AllSound o es → (x : ℕ) → Sound o (get_or es x nothing)
sound_at o [] h x = record { input = λ i. cc; above = λ i. cc }
sound_at o (e ∷ es) h zero = h.0
sound_at o (e ∷ es) h (suc x) = sound_at o es h.1 x

module _ (ls : Levels) (laws : Laws (order_of ls)) where
  abbrev O : Order
  O = order_of ls

  kind_above : (kind : Kind) → kind_faults ls.names O.le kind ≡ [] → is_dynamic_kind kind ≡ false → O.le (authority_of ls kind) (declared_level ls kind) ≡ true
  kind_above (Dynamic place) h d = cc
  kind_above (Enforced level None) h d = laws.least_of_all (level_number ls level)
  kind_above (Enforced level (Some under)) h d =
      let u : under_faults ls.names O.le level (Some under) ≡ [] = nil_right _ _ h in
      let l = (known_level ls level (nil_left _ _ h)).1 in
      let test : Bool = not_below O.le (level_named ls.names under.level.name) (level_named ls.names level.name) in
      let m = (known_level ls under.level (nil_left _ _ u)).1 in
      let no : test ≡ false = no_fault test E9 level.place (nil_right _ _ u) in
      let no' : not (O.le (level_number ls under.level) (level_number ls level)) ≡ false = rw (l, m) at no in
      not-false (O.le (level_number ls under.level) (level_number ls level)) no'

  declared_sound : (d : Decl) → declaration_faults ls.names O.le d ≡ [] → Sound O (declared ls d)
  declared_sound (Input place name width) h = record { input = λ i. refl; above = λ i. cc }
  declared_sound (Register place name width kind start) h = record {
    input = λ i. cc;
    above = kind_above kind (nil_right _ _ (nil_left _ _ h));
  }
  declared_sound (Memory place name width depth kind) h = record {
    input = λ i. cc;
    above = kind_above kind (nil_right _ _ h);
  }

  all_declared_sound : (ds : List Decl) → declarations_faults ls.names O.le ds ≡ [] → AllSound O (all_declared ls ds)
  all_declared_sound [] h = tt
  all_declared_sound (d ∷ ds) h = (
    declared_sound d (nil_left _ _ h),
    all_declared_sound ds (nil_right _ _ h),
  )

  module _ (what : tree.Lookup) where
    mutual
      state_sound : (n x : ℕ) (s : StateTree) → state_faults ls.names O.le what s ≡ [] → AllSound O (state_entities ls n x s)
      state_sound n x (state_node place name kind body children) h = (
        record {
          input = λ i. cc;
          above = kind_above kind (nil_left _ _ (nil_left _ _ h));
        },
        group_sound 0 (x + 1) children (nil_right _ _ h),
      )

      group_sound : (n x : ℕ) (g : StateList) → states_faults ls.names O.le what g ≡ [] → AllSound O (group_entities ls n x g)
      group_sound n x no_state h = tt
      group_sound n x (and_state s rest) h =
          sound_append O (state_entities ls n x s) (group_entities ls (n + 1) (x + states_in s) rest)
          (state_sound n x s (nil_left _ _ h))
          (group_sound (n + 1) (x + states_in s) rest (nil_right _ _ h))

  pub sound : (d : DesignTree) → declarations_faults ls.names O.le d.declarations ≡ [] → states_faults ls.names O.le (what_is (entities_of d)) d.states ≡ []
      → (x : ℕ) → Sound O (entity (world_of ls d) x)
  sound d h k x =
      sound_at O (world_of ls d).entities
      (sound_append O (all_declared ls d.declarations) (group_entities ls 0 (length d.declarations) d.states) (all_declared_sound d.declarations h)
      (group_sound (what_is (entities_of d)) 0 (length d.declarations) d.states k)) x
