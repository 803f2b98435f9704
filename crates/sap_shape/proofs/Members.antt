-- Whether some state of a list passes a test, from a place on.
use Rattle.sap_lemmas.proofs.Common.{◌≡◌, ℕ, ◌+◌, ◌<◌, ◌≤◌, List, [], ◌∷◌, ◌||◌, Bool, true, false, not, length, get_or, drop, refl, sym, ap, ◌∙◌, arith, at_drop_all, at_drop_more, bytes_eq, list_any}
use Rattle.sap_tree.specs.Prelude.{StateTree, StateList, no_state, and_state, is_dynamic_kind, state_of, states_of}
use Rattle.sap_tree.specs.declared.syntax.State.{State, out-State}
use Rattle.sap_tree.proofs.Views.{state_of-out}
use Rattle.sap_shape.specs.Sites.{any_enforced, kind_of_state}
use Rattle.sap_shape.specs.ShapeFaults.{is_among, name_of, is_in_group, is_within, is_leaf}

module _ (test : StateTree → Bool) (any : StateList → Bool) (none : any no_state ≡ false) (more : (s : StateTree) (rest : StateList)
    → any (and_state s rest) ≡ (test s || any rest)) where
  any_drop : (ss : List State) (n : ℕ) (d : State) → n < length ss → any (states_of (drop n ss)) ≡ (test (state_of (get_or ss n d)) || any (states_of (drop (n + 1) ss)))
  any_drop ss n d h = at_drop_more (λ (l : List State). any (states_of l)) ss n d h ∙ more (state_of (get_or ss n d)) (states_of (drop (n + 1) ss))

  any_past : (ss : List State) (n : ℕ) → length ss ≤ n → any (states_of (drop n ss)) ≡ false
  any_past ss n h = at_drop_all (λ (l : List State). any (states_of l)) ss n h ∙ none

  any_here : (ss : List State) (n : ℕ) (d : State) (b : Bool) → n < length ss → d ≡ get_or ss n d → test (state_of d) ≡ b
      → any (states_of (drop n ss)) ≡ (b || any (states_of (drop (n + 1) ss)))
  any_here ss n d b h e t =
      any_drop ss n d h ∙ ap (λ (x : Bool). x || any (states_of (drop (n + 1) ss))) (ap (λ (s : State). test (state_of s)) (sym e) ∙ t)

pub enforced_listed : (ss : List State) → any_enforced (states_of ss) ≡ list_any (λ s. not (is_dynamic_kind (out-State s).kind)) ss
enforced_listed [] = refl
enforced_listed (s ∷ ss) =
    ap (λ (t : StateTree). not (is_dynamic_kind (kind_of_state t)) || any_enforced (states_of ss)) (state_of-out s)
    ∙ ap (λ (b : Bool). not (is_dynamic_kind (out-State s).kind) || b) (enforced_listed ss)

pub among_listed : (name : List ℕ) (ss : List State) → is_among (states_of ss) name ≡ list_any (λ s. bytes_eq (out-State s).name.name name) ss
among_listed name [] = refl
among_listed name (s ∷ ss) =
    ap (λ (t : StateTree). bytes_eq (name_of t) name || is_among (states_of ss) name) (state_of-out s)
    ∙ ap (λ (b : Bool). bytes_eq (out-State s).name.name name || b) (among_listed name ss)

pub group_here : (name : List ℕ) (ss : List State) (n : ℕ) (d : State) (a b : Bool) → n < length ss → d ≡ get_or ss n d
    → a ≡ bytes_eq (out-State d).name.name name → b ≡ is_in_group (states_of (out-State d).children.items) name
    → is_in_group (states_of (drop n ss)) name ≡ ((a || b) || is_in_group (states_of (drop (n + 1) ss)) name)
group_here name ss n d a b h e s t =
    any_here (λ (s : StateTree). is_within s name) (λ (g : StateList). is_in_group g name) refl (λ s rest. refl) ss n d (a || b) h e
    (ap (λ (s : StateTree). is_within s name) (state_of-out d) ∙ ap (λ (x : Bool). x || is_in_group (states_of (out-State d).children.items) name) (sym s)
    ∙ ap (λ (x : Bool). a || x) (sym t))

pub group_past : (name : List ℕ) (ss : List State) (n : ℕ) → length ss ≤ n → is_in_group (states_of (drop n ss)) name ≡ false
group_past name ss n h = any_past (λ (s : StateTree). is_within s name) (λ (g : StateList). is_in_group g name) refl (λ s rest. refl) ss n h

pub leaf_yes : (ss : List State) → length ss ≡ 0 → is_leaf (states_of ss) ≡ true
leaf_yes [] h = refl
leaf_yes (s ∷ ss) h = absurd (omega arith)

pub leaf_no : (ss : List State) → 1 ≤ length ss → is_leaf (states_of ss) ≡ false
leaf_no [] h = absurd (omega arith)
leaf_no (s ∷ ss) h = refl

pub ruleset pasts = (group_past)

pub ruleset leaves = (leaf_yes, leaf_no)
