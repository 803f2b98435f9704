-- The entities of lists of parts, from a place on.
use Rattle.sap_lemmas.proofs.Common.{◌≡◌, ℕ, ◌+◌, ◌<◌, ◌≤◌, List, [], ◌∷◌, ◌++◌, length, get_or, drop, refl, sym, ap, ◌∙◌, at_drop_all, at_drop_more, append_assoc, append-nil}
use Rattle.sap_tree.specs.Trees.{state_of, states_of}
use Rattle.sap_tree.specs.declared.syntax.Decl.{Decl}
use Rattle.sap_tree.specs.declared.syntax.State.{State}
use Rattle.sap_names.specs.Entities.{Entity, entity_of, declared_in, state_entities, group_entities}
use Rattle.sap_names.specs.Lists.{states_entities}

pub declared_in-drop : (ds : List Decl) (n : ℕ) (d : Decl) → n < length ds → declared_in (drop n ds) ≡ entity_of (get_or ds n d) ∷ declared_in (drop (n + 1) ds)
declared_in-drop ds n d h = at_drop_more declared_in ds n d h

pub declared_in-past : (ds : List Decl) (n : ℕ) → length ds ≤ n → declared_in (drop n ds) ≡ []
declared_in-past ds n h = at_drop_all declared_in ds n h

pub states_entities-drop : (ss : List State) (n : ℕ) (d : State) → n < length ss
    → states_entities (drop n ss) ≡ state_entities (state_of (get_or ss n d)) ++ states_entities (drop (n + 1) ss)
unfolding states_entities
states_entities-drop ss n d h = at_drop_more states_entities ss n d h

pub states_entities-past : (ss : List State) (n : ℕ) → length ss ≤ n → states_entities (drop n ss) ≡ []
unfolding states_entities
states_entities-past ss n h = at_drop_all states_entities ss n h

pub states_entities-all : (ss : List State) → states_entities ss ≡ group_entities (states_of ss)
unfolding states_entities
states_entities-all ss = refl

-- nothing is left
pub states_rest : (es : List Entity) (ss : List State) (n : ℕ) (all : List Entity) → length ss ≤ n → es ++ states_entities (drop n ss) ≡ all → es ≡ all
states_rest es ss n all h e = sym (append-nil es) ∙ ap (λ (l : List Entity). es ++ l) (sym (states_entities-past ss n h)) ∙ e

pub ruleset groups = (declared_in-drop, declared_in-past, states_entities-drop, states_entities-past, states_entities-all, append_assoc)
