-- What E11, E12, E16 and E17 keep out of a body: targets of another group, a fall with nothing to fall into, retagging of what is dynamic, of the state and
-- of those above and below it.
use Rattle.sap_lemmas.proofs.Common.{◌≡◌, ℕ, ◌+◌, ◌<◌, Bool, true, false, not, List, [], ◌∷◌, ◌++◌, refl, ap, ◌∙◌, subst, arith, nat_eq, length, both_ways, eqb-true, false_from_ne_true, not-false, or_from, or_left, or_right}
use Rattle.sap_names.proofs.NameFaultsLemmas.{no_fault}
use Rattle.sap_names.proofs.FaultLemmas.{nil_left, nil_right}
use Rattle.sap_tree.specs.Syntax.{SimpleCommand, set_tag, set_cell_tag, go_to, fall_to_child, CommandBlock, StateTree, state_node, StateList, no_state, and_state}
use Rattle.sap_lattice.specs.Levels.{Levels}
use Rattle.sap_names.specs.Prelude.{Lookup, what_is, fault_if, simple_faults, block_faults, state_faults, states_faults}
use Rattle.sap_names.specs.declared.kind.Code.TheVariants.{E11, E12, E16, E17}
use Rattle.sap_names.specs.declared.entity.Entity.{Entity}
use Rattle.sap_names.specs.declared.kind.Use.TheVariants.{Indexed as indexed, Retagged as retagged}
use Rattle.sap_shape.specs.Closing.{closing_faults}
use Rattle.sap_shape.specs.Sites.{is_dynamic, Surroundings, block_sites, state_sites}
use Rattle.sap_shape.specs.ShapeFaults.{Body, is_among, is_in, is_leaf, is_comparable, simple_shape, block_shape, state_shape, states_shape}
use Rattle.sap_meaning.specs.Prelude.{World, Step, Group, among, step_retags, block_retags, state_retags, group_retags, size, FineTerm, FineStep, FineCommand, EveryInBlock}
use Rattle.sap_resolved.specs.Worlds.{states_in}
use Rattle.sap_resolved.specs.Resolve.{step_of, block_of, state_of, group_of}
use Rattle.sap_resolved.specs.Terms.{entity_number}
use Rattle.sap_resolved.specs.WellNamed.{WellNamedStep, WellNamedCommand}
use Rattle.sap_resolved.proofs.Lookup.{AllMatch}
use Rattle.sap_resolved.proofs.premises.Places.{name_at}
use Rattle.sap_resolved.proofs.premises.Lookups.{named, dynamic_same}
use Rattle.sap_meaning.proofs.WalksLemmas.{none_passes_in_block, every_both_in_block}
use Rattle.sap_resolved.proofs.TreeWalks.{Named, Fitting, every_named_in_block, Shaped, Any, every_shaped_in_block, every_resolved_in_block}

pub some_child : (ls : Levels) (es : List Entity) (k x : ℕ) (g : StateList) → is_leaf g ≡ false → 0 < size (group_of ls es k x g)
some_child ls es k x no_state h = cc
some_child ls es k x (and_state s rest) h = omega arith

module _ (ls : Levels) (levels : List (List ℕ)) (h : Surroundings) (w : World) (match : AllMatch h.entities w.entities) where
  abbrev What : Lookup
  What = what_is h.entities

  module _ (at : Body) where
    -- a state with a comparable name is not retagged
    module _ (y : ℕ) (near : is_comparable at (name_at h.entities y) ≡ true) where
      step_unmarked : (n : ℕ) (c : SimpleCommand) → simple_faults levels What c ≡ [] → simple_shape h.entities at c ≡ []
          → step_retags (step_of ls h n c) y ≡ false
      step_unmarked n (set_tag place target tag) f s = false_from_ne_true (nat_eq y (entity_number h.entities target.name)) (λ j.
          let number : y ≡ entity_number h.entities target.name = eqb-true y (entity_number h.entities target.name) j in
          let own : name_at h.entities (entity_number h.entities target.name) ≡ target.name =
          named h.entities w match retagged target (nil_left _ _ f) in
          let e : name_at h.entities y ≡ target.name = ap (λ z. name_at h.entities z) number ∙ own in
          let last : fault_if (is_comparable at target.name) E17 target.place ≡ [] = nil_right _ _ s in
          let far : is_comparable at target.name ≡ false = no_fault (is_comparable at target.name) E17 target.place last in
          let yes : is_comparable at target.name ≡ true = subst (λ a. is_comparable at a ≡ true) e near in
          both_ways (is_comparable at target.name) far yes)
      step_unmarked n _ f s = refl

      pub block_unmarked : (k : ℕ) (b : CommandBlock) → block_faults levels What b ≡ [] → block_shape h.entities at b ≡ []
          → block_retags (block_of ls h k b) y ≡ false
      block_unmarked k b f s =
          none_passes_in_block (λ c. step_retags c y ≡ false) (λ e. Unit {0}) (λ c. step_retags c y) (λ c p. p) (block_of ls h k b)
          (every_resolved_in_block ls h (Named levels What) (Shaped h.entities at) (Fitting levels What) (Any h.entities at) (λ c. step_retags c y ≡ false)
          (λ e. Unit {0}) step_unmarked (λ e p r. tt) (λ e p r. tt) k b (every_named_in_block levels What b f) (every_shaped_in_block h.entities at b s))

    -- steps with names of fitting entities, among the states of a group
    module _ (q g : Group) (targets : (name : List ℕ) → is_among at.group name ≡ true → among q (entity_number h.entities name) ≡ true)
        (falling : is_leaf at.home.children ≡ false → 0 < size g) where
      fine_step : (n : ℕ) (c : SimpleCommand) → simple_faults levels What c ≡ [] → simple_shape h.entities at c ≡ [] → WellNamedStep w (step_of ls h n c)
          → FineStep w q g (step_of ls h n c)
      fine_step n (set_tag place target tag) f s i = (
        i.0,
        dynamic_same h.entities w match retagged target (nil_left _ _ f)
            ∙ no_fault (is_dynamic h.entities target.name) E16 target.place (nil_left _ _ s),
        i.2,
      )
      fine_step n (set_cell_tag place target index tag) f s i = (
        i.0,
        dynamic_same h.entities w match indexed target (nil_left _ _ (nil_left _ _ f)) ∙ no_fault
            (is_dynamic h.entities target.name) E16 target.place s,
        i.1,
        i.2,
      )
      fine_step n (go_to place target) f s i =
          targets target.name (not-false (is_among at.group target.name) (no_fault (not (is_among at.group target.name)) E11 target.place s))
      fine_step n (fall_to_child place) f s i = falling (no_fault (is_leaf at.home.children) E12 place s)
      fine_step n _ f s i = i

      abbrev Follows : Step → Type 0
      Follows c = WellNamedStep w c → FineStep w q g c

      pub fine_body : (k : ℕ) (b : CommandBlock) → block_faults levels What b ≡ [] → block_shape h.entities at b ≡ []
          → EveryInBlock (WellNamedCommand w) (block_of ls h k b)
          → EveryInBlock (FineCommand w q g) (block_of ls h k b)
      fine_body k b f s i =
          every_both_in_block (WellNamedStep w) Follows (FineStep w q g) (FineTerm w) (λ e. Unit {0}) (FineTerm w) (λ c named follows. follows named)
          (λ e t u. t) (block_of ls h k b) i
          (every_resolved_in_block ls h (Named levels What) (Shaped h.entities at) (Fitting levels What) (Any h.entities at) Follows (λ e. Unit {0}) fine_step
          (λ e p r. tt) (λ e p r. tt) k b (every_named_in_block levels What b f) (every_shaped_in_block h.entities at b s))

-- a state above is not retagged in the states below
module _ (ls : Levels) (levels : List (List ℕ)) (le : ℕ → ℕ → Bool) (es : List Entity) (w : World) (match : AllMatch es w.entities) (y : ℕ) where
  mutual
    state_unmarked : (k x : ℕ) (group : StateList) (above : List (List ℕ)) (s : StateTree) → is_in above (name_at es y) ≡ true
        → state_faults levels le (what_is es) s ≡ [] → state_shape es group above s ≡ [] → state_retags (state_of ls es k x s) y ≡ false
    state_unmarked k x group above (state_node place name kind body children) high f s =
        let h : Surroundings = record { entities = es; home = record { name = name.name; kind = kind; children = children } } in
        let at : Body = record { home = record { name = name.name; kind = kind; children = children }; group = group; above = above } in
        let front : closing_faults body ++ block_shape es at body ≡ [] = nil_left _ _ s in
        or_from _ _ (block_unmarked ls levels h w match at y (or_left _ _ (or_right _ _ high)) k body (nil_right _ _ (nil_left _ _ f))
        (nil_right _ _ front))
        (group_unmarked (k + length (block_sites h body)) (x + 1) children (name.name ∷ above) children (or_right _ _ high)
        (nil_right _ _ f) (nil_right _ _ s))

    pub group_unmarked : (k x : ℕ) (group : StateList) (above : List (List ℕ)) (g : StateList) → is_in above (name_at es y) ≡ true
        → states_faults levels le (what_is es) g ≡ [] → states_shape es group above g ≡ [] → group_retags (group_of ls es k x g) y ≡ false
    group_unmarked k x group above no_state high f s = refl
    group_unmarked k x group above (and_state t rest) high f s =
        or_from _ _ (state_unmarked k x group above t high (nil_left _ _ f) (nil_left _ _ s))
        (group_unmarked (k + length (state_sites es t)) (x + states_in t) group above rest high (nil_right _ _ f) (nil_right _ _ s))
