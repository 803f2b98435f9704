-- The entities of a design, places aside.
use Rattle.std.proofs.Common.{◌≡◌, ◌∙◌, ℕ, ◌+◌, List, [], ◌∷◌, ◌++◌, map, Bool, true, false, Option, Some, None, option_map, if◌then◌else◌, unwrap_or, bytes_eq, refl, ap, ap₂}
use Rattle.std.proofs.lemmas.List.{map-append}
use Rattle.sap_tree.specs.Syntax.{StateTree, state_node, StateList, no_state, and_state, DesignTree}
use Rattle.sap_tree.specs.Bare.{bare_name, bare_kind, bare_declaration, bare_state, bare_states, bare}
use Rattle.sap_tree.specs.declared.syntax.Decl.{Decl}
use Rattle.sap_tree.specs.declared.syntax.Decl.TheVariants.{Input, Register, Memory}
use Rattle.sap_tree.specs.declared.syntax.Kind.{Kind}
use Rattle.sap_tree.specs.declared.syntax.Kind.TheVariants.{Dynamic, Enforced}
use Rattle.sap_names.specs.declared.entity.Entity.{Entity}
use Rattle.sap_names.specs.Entities.{is_dynamic_kind, entity_of, declared_in, state_entities, group_entities, entities_of, find, number_of, entity_number, what_is, dynamic_of, enforced_of}
use Rattle.sap_shape.specs.Sites.{is_enforced, is_dynamic}

-- an entity with its name nowhere
abbrev pub aside_entity : Entity → Entity
aside_entity e = record { name = bare_name e.name; what = e.what; dynamic = e.dynamic }

pub is_dynamic_aside : (k : Kind) → is_dynamic_kind (bare_kind k) ≡ is_dynamic_kind k
is_dynamic_aside (Dynamic place) = refl
is_dynamic_aside (Enforced level authority) = refl

entity_of_aside : (d : Decl) → entity_of (bare_declaration d) ≡ aside_entity (entity_of d)
entity_of_aside (Input place name width) = refl
entity_of_aside (Register place name width kind start) = rw is_dynamic_aside
entity_of_aside (Memory place name width depth kind) = rw is_dynamic_aside

declared_aside : (ds : List Decl) → declared_in (map bare_declaration ds) ≡ map aside_entity (declared_in ds)
declared_aside [] = refl
declared_aside (d ∷ ds) = ap₂ ◌∷◌ (entity_of_aside d) (declared_aside ds)

mutual
  unfolding bare_state

  state_aside : (s : StateTree) → state_entities (bare_state s) ≡ map aside_entity (state_entities s)
  state_aside (state_node place name kind body children) = rw is_dynamic_aside (ap₂ ◌∷◌ refl (group_aside children))

  group_aside : (states : StateList) → group_entities (bare_states states) ≡ map aside_entity (group_entities states)
  group_aside no_state = refl
  group_aside (and_state s rest) = ap₂ ◌++◌ (state_aside s) (group_aside rest) ∙ rw map-append

pub entities_aside : (d : DesignTree) → entities_of (bare d) ≡ map aside_entity (entities_of d)
unfolding bare
entities_aside d = ap₂ ◌++◌ (declared_aside d.declarations) (group_aside d.states) ∙ rw map-append

find_aside : (es : List Entity) (name : List ℕ) → find (map aside_entity es) name ≡ option_map aside_entity (find es name)
find_aside [] name = refl
find_aside (e ∷ es) name = found (bytes_eq e.name.name name) _ _ _ (find_aside es name) where
  found : (b : Bool) (f : Entity) (o p : Option Entity) → o ≡ option_map aside_entity p
      → (if b then Some (aside_entity f) else o) ≡ option_map aside_entity (if b then Some f else p)
  found true f o p same = refl
  found false f o p same = same

-- what is asked of what is found, where it asks for no name
asked_aside : {A : Type 0} (f : Option Entity → A) → ((e : Entity) → f (Some (aside_entity e)) ≡ f (Some e))
    → (es : List Entity) (name : List ℕ) → f (find (map aside_entity es) name) ≡ f (find es name)
asked_aside f same es name = ap f (find_aside es name) ∙ of_option (find es name) where
  of_option : (o : Option Entity) → f (option_map aside_entity o) ≡ f o
  of_option None = refl
  of_option (Some e) = same e

number_of_aside : (es : List Entity) (name : List ℕ) → number_of (map aside_entity es) name ≡ number_of es name
number_of_aside [] name = refl
number_of_aside (e ∷ es) name =
    ap (λ (o : Option ℕ). if bytes_eq e.name.name name then Some 0 else option_map (λ (n : ℕ). n + 1) o) (number_of_aside es name)

module _ (es : List Entity) where
  pub what_at : (name : List ℕ) → what_is (map aside_entity es) name ≡ what_is es name
  what_at name = asked_aside (option_map (λ (e : Entity). e.what)) (λ e. refl) es name

  pub what_aside : what_is (map aside_entity es) ≡ what_is es
  what_aside = λ i name. what_at name i

  pub dynamic_at : (name : List ℕ) → is_dynamic (map aside_entity es) name ≡ is_dynamic es name
  dynamic_at name = asked_aside dynamic_of (λ e. refl) es name

  pub enforced_at : (name : List ℕ) → is_enforced (map aside_entity es) name ≡ is_enforced es name
  enforced_at name = asked_aside enforced_of (λ e. refl) es name

  pub number_at : (name : List ℕ) → entity_number (map aside_entity es) name ≡ entity_number es name
  number_at name = ap (λ (o : Option ℕ). unwrap_or o 0) (number_of_aside es name)
