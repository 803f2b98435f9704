-- The faults of groups of states, from a place on.
use Rattle.sap_lemmas.proofs.Common.{◌≡◌, ℕ, ◌+◌, ◌<◌, ◌≤◌, List, [], ◌∷◌, ◌++◌, length, get_or, drop, refl, sym, ap, ◌∙◌, at_drop_all, at_drop_more, append-nil, Bool, true, false, if◌then◌else◌, Option}
use Rattle.sap_tree.specs.Prelude.{state_of, states_of, tree_of, StateTree}
use Rattle.sap_tree.specs.declared.syntax.State.{State, out-State}
use Rattle.sap_tree.specs.declared.syntax.Decl.{Decl}
use Rattle.sap_tree.specs.declared.version.Version.{Version}
use Rattle.sap_tree.proofs.Views.{state_of-out}
use Rattle.sap_tree.proofs.Weights.{state_weight, states_weight}
use Rattle.sap_names.specs.Prelude.{best_of, entities_of}
use Rattle.sap_names.specs.declared.fault.Fault.{Fault}
use Rattle.sap_names.specs.declared.entity.Entity.{Entity}
use Rattle.sap_names.proofs.Faults.{both}
use Rattle.sap_shape.specs.Walk.{Written, fresh, second_state}
use Rattle.sap_shape.specs.ShapeFaults.{state_shape}
use Rattle.sap_shape.specs.Lists.{closing_list, list_shape, group_shape, found_in_list, falls_list, second_states, shape_faults}

module _ (es : List Entity) (group : List State) (above : List (List ℕ)) where
  pub group_shape-drop : (ss : List State) (n : ℕ) (d : State) → n < length ss
      → group_shape es group above (drop n ss) ≡ state_shape es (states_of group) above (state_of (get_or ss n d)) ++ group_shape es group above (drop (n + 1) ss)
  unfolding group_shape
  group_shape-drop ss n d h = at_drop_more (group_shape es group above) ss n d h

  pub group_shape-past : (ss : List State) (n : ℕ) → length ss ≤ n → group_shape es group above (drop n ss) ≡ []
  unfolding group_shape
  group_shape-past ss n h = at_drop_all (group_shape es group above) ss n h

  pub shape_step : (ss : List State) (n : ℕ) (d : State) (o m : Option Fault) → n < length ss → d ≡ get_or ss n d
      → m ≡ best_of o (state_shape es (states_of group) above (state_of d))
      → best_of m (group_shape es group above (drop (n + 1) ss)) ≡ best_of o (group_shape es group above (drop n ss))
  shape_step ss n d o m h e k =
      both o m _ (state_shape es (states_of group) above (state_of d)) (group_shape es group above (drop (n + 1) ss)) _ k refl
      (group_shape-drop ss n d h ∙ ap (λ (s : State). state_shape es (states_of group) above (state_of s) ++ group_shape es group above (drop (n + 1) ss)) (sym e))

  pub state_shape-is : (s : State) → state_shape es (states_of group) above (state_of s)
      ≡ closing_list (out-State s).body.commands.items (out-State s).body.after
      ++ list_shape es (record {
        home = record {
          name = (out-State s).name.name;
          kind = (out-State s).kind;
          children =
              states_of (out-State s).children.items;
        };
        group = states_of group;
        above = above;
      })
      (out-State s).body.commands.items
      ++ group_shape es (out-State s).children.items ((out-State s).name.name ∷ above) (out-State s).children.items
  unfolding closing_list list_shape group_shape
  state_shape-is s = ap (λ (t : StateTree). state_shape es (states_of group) above t) (state_of-out s)

module _ (p : Written) where
  pub second_states-drop : (ss : List State) (n : ℕ) (d : State) → n < length ss
      → second_states (drop n ss) p ≡ second_state (state_of (get_or ss n d)) p ++ second_states (drop (n + 1) ss) p
  unfolding second_states
  second_states-drop ss n d h = at_drop_more (λ (l : List State). second_states l p) ss n d h

  pub second_states-past : (ss : List State) (n : ℕ) → length ss ≤ n → second_states (drop n ss) p ≡ []
  unfolding second_states
  second_states-past ss n h = at_drop_all (λ (l : List State). second_states l p) ss n h

  pub paths_step : (ss : List State) (n : ℕ) (d : State) (o m : Option Fault) → n < length ss → d ≡ get_or ss n d
      → m ≡ best_of o (second_state (state_of d) p) → best_of m (second_states (drop (n + 1) ss) p) ≡ best_of o (second_states (drop n ss) p)
  paths_step ss n d o m h e k =
      both o m _ (second_state (state_of d) p) (second_states (drop (n + 1) ss) p) _ k refl
      (second_states-drop ss n d h ∙ ap (λ (s : State). second_state (state_of s) p ++ second_states (drop (n + 1) ss) p) (sym e))

  pub second_state-is : (s : State) → second_state (state_of s) p
      ≡ (found_in_list (out-State s).body.commands.items p).again
      ++ (if falls_list (out-State s).body.commands.items then second_states (out-State s).children.items (found_in_list (out-State s).body.commands.items p).entering else [])
  unfolding found_in_list second_states falls_list
  second_state-is s = ap (λ (t : StateTree). second_state t p) (state_of-out s)

  -- where the body falls into its children, and where it doesn't
  pub state_falling : (s : State) (b : Bool) → b ≡ falls_list (out-State s).body.commands.items → b ≡ true → second_state (state_of s) p
      ≡ (found_in_list (out-State s).body.commands.items p).again ++ second_states (out-State s).children.items (found_in_list (out-State s).body.commands.items p).entering
  state_falling s b e t =
      second_state-is s
      ∙ ap (λ (x : Bool). (found_in_list (out-State s).body.commands.items p).again
      ++ (if x then second_states (out-State s).children.items (found_in_list (out-State s).body.commands.items p).entering else [])) (sym e ∙ t)

  pub state_staying : (s : State) (b : Bool) → b ≡ falls_list (out-State s).body.commands.items → b ≡ false → second_state (state_of s) p
      ≡ (found_in_list (out-State s).body.commands.items p).again
  state_staying s b e t =
      second_state-is s
      ∙ ap (λ (x : Bool). (found_in_list (out-State s).body.commands.items p).again
      ++ (if x then second_states (out-State s).children.items (found_in_list (out-State s).body.commands.items p).entering else [])) (sym e ∙ t)
      ∙ append-nil (found_in_list (out-State s).body.commands.items p).again

pub design_is : (v : Version) (ds : List Decl) (ss ts us rs : List State) (es : List Entity) (above : List (List ℕ)) (w : Written)
    → es ≡ entities_of (tree_of v ds ss) → ts ≡ ss → us ≡ ss → rs ≡ ss → above ≡ [] → w ≡ fresh
    → shape_faults (tree_of v ds ss) ≡ group_shape es ts above us ++ second_states rs w
unfolding group_shape second_states
design_is v ds ss ts us rs es above w a b c d e f = rw (a, b, c, d, e, f) refl

pub state_weight-is : (s : State) → state_weight (state_of s) ≡ states_weight (states_of (out-State s).children.items) + 1
state_weight-is s = ap state_weight (state_of-out s)

pub ruleset states = (state_shape-is, state_falling, state_staying, state_weight-is)

pub ruleset groups = (group_shape-past, second_states-past)
