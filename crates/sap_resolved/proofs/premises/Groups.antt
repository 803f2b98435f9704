-- The groups of states of a design without faults are fine.
use Rattle.sap_lemmas.proofs.Common.{◌≡◌, ℕ, suc, ◌+◌, ◌<◌, Bool, true, List, [], ◌∷◌, ◌++◌, length, sym, ◌∙◌, arith, bytes_eq, bytes_eq_same, or_from, or_left, or_right}
use Rattle.sap_names.proofs.FaultLemmas.{nil_left, nil_right}
use Rattle.sap_tree.specs.Syntax.{StateTree, state_node, StateList, no_state, and_state}
use Rattle.sap_lattice.specs.Levels.{Levels}
use Rattle.sap_names.specs.Prelude.{what_is, block_faults, state_faults, states_faults}
use Rattle.sap_names.specs.declared.entity.Entity.{Entity}
use Rattle.sap_shape.specs.Closing.{closing_faults}
use Rattle.sap_shape.specs.ShapeFaults.{Body, is_among, block_shape, state_shape, states_shape}
use Rattle.sap_meaning.specs.Prelude.{World, Block, Group, last, among, FineNode, FineState, FineGroup, number_of}
use Rattle.sap_resolved.specs.Worlds.{states_in}
use Rattle.sap_shape.specs.Sites.{Surroundings, block_sites, state_sites}
use Rattle.sap_resolved.specs.Resolve.{block_of, state_of, group_of}
use Rattle.sap_resolved.specs.Terms.{entity_number}
use Rattle.sap_resolved.specs.WellNamed.{WellNamedState, WellNamedGroup}
use Rattle.sap_resolved.proofs.Lookup.{AllMatch}
use Rattle.sap_resolved.proofs.premises.Places.{Laid, LaidState, laid_first, laid_rest, laid_below, laid_children, laid_name, name_at}
use Rattle.sap_resolved.proofs.premises.Numbers.{size_of, Inside, inside_of, among_of, here_state, here_placed, here_last, here_numbers, here_itself, here_declared}
use Rattle.sap_resolved.proofs.premises.Closed.{closed_body}
use Rattle.sap_resolved.proofs.premises.Steps.{some_child, block_unmarked, group_unmarked, fine_body}

last_before : (ls : Levels) (es : List Entity) (w : World) (k n x : ℕ) (s : StateTree) → LaidState ls es w n x s
    → last w (number_of (state_of ls es k x s)) < x + states_in s
last_before ls es w k n x (state_node place name kind body children) laid = let h = here_last ls es w n x place name kind body children laid in omega arith

module _ (ls : Levels) (levels : List (List ℕ)) (le : ℕ → ℕ → Bool) (es : List Entity) (w : World) (match : AllMatch es w.entities)
    (numbered : (y : ℕ) → y < length es → entity_number es (name_at es y) ≡ y) where
  -- each name of a state of the group is that of a number in the group
  abbrev Targets : Group → StateList → Type 0
  Targets q group = (name : List ℕ) → is_among group name ≡ true → among q (entity_number es name) ≡ true

  mutual
    fine_state : (k n x : ℕ) (q : Group) (group : StateList) (above : List (List ℕ)) (s : StateTree) → LaidState ls es w n x s → Targets q group
        → state_faults levels le (what_is es) s ≡ [] → state_shape es group above s ≡ []
        → WellNamedState w (state_of ls es k x s) → FineState w q n (state_of ls es k x s)
    fine_state k n x q group above (state_node place name kind body children) laid targets f s i =
        let h : Surroundings = record { entities = es; home = record { name = name.name; kind = kind; children = children } } in
        let at : Body = record { home = record { name = name.name; kind = kind; children = children }; group = group; above = above } in
        let b : Block = block_of ls h k body in
        let k' : ℕ = k + length (block_sites h body) in
        let g : Group = group_of ls es k' (x + 1) children in
        let below : Laid ls es w 0 (x + 1) children = laid_below ls es w n x place name kind body children laid in
        let fitting : block_faults levels (what_is es) body ≡ [] = nil_right _ _ (nil_left _ _ f) in
        let fitting_below : states_faults levels le (what_is es) children ≡ [] = nil_right _ _ f in
        let front : closing_faults body ++ block_shape es at body ≡ [] = nil_left _ _ s in
        let closing : closing_faults body ≡ [] = nil_left _ _ front in
        let shaped : block_shape es at body ≡ [] = nil_right _ _ front in
        let shaped_below : states_shape es children (name.name ∷ above) children ≡ [] = nil_right _ _ s in
        let own_name : bytes_eq name.name (name_at es x) ≡ true = rw (laid_name ls es w n x place name kind body children laid) (bytes_eq_same name.name) in
        let node : FineNode w q n x b g = record {
          kind = here_state ls es w n x place name kind body children laid;
          placed = here_placed ls es w n x place name kind body children laid;
          count = laid_children ls es w n x place name kind body children laid ∙ sym (size_of ls es k' (x + 1) children);
          numbers = here_numbers ls es w n x place name kind body children laid k';
          itself = here_itself ls es w n x place name kind body children laid;
          declared = here_declared ls es w n x place name kind body children laid;
          steps = fine_body ls levels h w match at q g targets (some_child ls es k' (x + 1) children) k body fitting shaped i.0;
          closes = closed_body ls h k body closing;
          retags_itself = or_from _ _
              (block_unmarked ls levels h w match at x (or_left _ _ (or_left _ _ own_name)) k body fitting shaped)
              (group_unmarked ls levels le es w match x k' (x + 1) children (name.name ∷ above) children (or_left _ _ own_name) fitting_below shaped_below);
          retags_below = λ y j.
              block_unmarked ls levels h w match at y (or_right _ _ (inside_of ls es w k' 0 (x + 1) children below y j).name) k body fitting shaped;
        } in
        let targets_below : Targets g children = among_of ls es w numbered k' 0 (x + 1) children below in
        (node, fine_group k' 0 (x + 1) g children (name.name ∷ above) children below targets_below fitting_below shaped_below i.1)

    pub fine_group : (k n x : ℕ) (q : Group) (group : StateList) (above : List (List ℕ)) (g : StateList) → Laid ls es w n x g → Targets q group
        → states_faults levels le (what_is es) g ≡ [] → states_shape es group above g ≡ []
        → WellNamedGroup w (group_of ls es k x g) → FineGroup w q n (group_of ls es k x g)
    fine_group k n x q group above no_state laid targets f s i = tt
    fine_group k n x q group above (and_state t rest) laid targets f s i = (
      fine_state k n x q group above t (laid_first ls es w n x t rest laid) targets (nil_left _ _ f)
          (nil_left _ _ s) i.0,
      fine_group (k + length (state_sites es t)) (suc n) (x + states_in t) q group above rest (laid_rest ls es w n x t rest laid) targets (nil_right _ _ f)
          (nil_right _ _ s) i.1,
      λ y j.
          let later : Laid ls es w (suc n) (x + states_in t) rest = laid_rest ls es w n x t rest laid in
          let r : Inside ls es w (x + states_in t) rest y = inside_of ls es w (k + length (state_sites es t)) (suc n) (x + states_in t) rest later y j in
          let l = last_before ls es w k n x t (laid_first ls es w n x t rest laid) in
          let f = r.from in
          omega arith,
    )
