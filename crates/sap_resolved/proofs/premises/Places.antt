-- Where the states of a design stand in its lists of entities: each has the number of its place.
use Rattle.sap_lemmas.proofs.Common.{◌≡◌, ℕ, suc, ◌+◌, ◌<◌, ◌≤◌, true, List, [], ◌∷◌, ◌++◌, length, get_or, append_assoc, length-append, refl, sym, ap, ◌∙◌, subst, arith, get_or-append-add}
use Rattle.std.proofs.Math.Numerals.{add-one}
use Rattle.sap_tree.specs.Syntax.{CommandBlock, StateTree, state_node, StateList, no_state, and_state}
use Rattle.sap_tree.specs.declared.name.Mention.{Mention}
use Rattle.sap_tree.specs.declared.syntax.Kind.{Kind}
use Rattle.sap_text.specs.declared.place.Place.{Place}
use Rattle.sap_lattice.specs.Levels.{Levels}
use Rattle.sap_names.specs.declared.kind.Declared.TheVariants.{State}
use Rattle.sap_names.specs.Entities as tree
use Rattle.sap_names.specs.declared.entity.Entity as declared_entity
use Rattle.sap_meaning.specs.Program as program
use Rattle.sap_meaning.specs.Program.{World, Entity, entity, root}
use Rattle.sap_resolved.specs.Worlds as world
use Rattle.sap_resolved.specs.Worlds.{states_in, states_below, group_length}

-- xs has ys from place x on
pub record Part {A : Type 0} (xs : List A) (x : ℕ) (ys : List A) : Type 0 where
  pub front : List A
  pub back : List A
  pub is : xs ≡ front ++ (ys ++ back)
  pub count : length front ≡ x

pub part_left : {A : Type 0} (xs : List A) (x : ℕ) (ys zs : List A) → Part xs x (ys ++ zs) → Part xs x ys
part_left xs x ys zs h = record { front = h.front; back = zs ++ h.back; is = h.is ∙ ap (λ u. h.front ++ u) (append_assoc ys zs h.back); count = h.count }

pub part_right : {A : Type 0} (xs : List A) (x : ℕ) (ys zs : List A) → Part xs x (ys ++ zs) → Part xs (x + length ys) zs
part_right xs x ys zs h = record {
  front = h.front ++ ys;
  back = h.back;
  is = h.is ∙ ap (λ u. h.front ++ u) (append_assoc ys zs h.back) ∙ sym (append_assoc h.front ys (zs ++ h.back));
  count = length-append h.front ys ∙ ap (λ n. n + length ys) h.count;
}

pub part_tail : {A : Type 0} (xs : List A) (x : ℕ) (y : A) (ys : List A) → Part xs x (y ∷ ys) → Part xs (x + 1) ys
part_tail xs x y ys h = part_right xs x (y ∷ []) ys h

pub part_head : {A : Type 0} (xs : List A) (x : ℕ) (y : A) (ys : List A) → Part xs x (y ∷ ys) → (d : A) → get_or xs x d ≡ y
part_head {A} xs x y ys h d =
    let e : x ≡ length h.front + 0 = (let c = h.count in omega arith) in
    let f : get_or (h.front ++ (y ∷ (ys ++ h.back))) (length h.front + 0) d ≡ y = get_or-append-add h.front (y ∷ (ys ++ h.back)) 0 d in
    ap (λ (u : List A). get_or u x d) h.is ∙ ap (λ (n : ℕ). get_or (h.front ++ (y ∷ (ys ++ h.back))) n d) e ∙ f

pub part_within : {A : Type 0} (xs : List A) (x : ℕ) (ys : List A) → Part xs x ys → x + length ys ≤ length xs
part_within {A} xs x ys h =
    let a : length xs ≡ length (h.front ++ (ys ++ h.back)) = ap (λ (u : List A). length u) h.is in
    let b = length-append h.front (ys ++ h.back) in
    let c = length-append ys h.back in
    let d = h.count in
    omega arith

-- as many entities as states
mutual
  state_names : (s : StateTree) → length (tree.state_entities s) ≡ states_in s
  state_names (state_node place name kind body children) = let h = group_names children in omega arith

  pub group_names : (g : StateList) → length (tree.group_entities g) ≡ states_below g
  group_names no_state = refl
  group_names (and_state s rest) =
      length-append (tree.state_entities s) (tree.group_entities rest) ∙ ap (λ n. n + length (tree.group_entities rest)) (state_names s) ∙ ap
      (λ n. states_in s + n) (group_names rest)

mutual
  state_count : (ls : Levels) (n x : ℕ) (s : StateTree) → length (world.state_entities ls n x s) ≡ states_in s
  state_count ls n x (state_node place name kind body children) = let h = group_count ls 0 (x + 1) children in omega arith

  pub group_count : (ls : Levels) (n x : ℕ) (g : StateList) → length (world.group_entities ls n x g) ≡ states_below g
  group_count ls n x no_state = refl
  group_count ls n x (and_state s rest) =
      length-append (world.state_entities ls n x s) (world.group_entities ls (n + 1) (x + states_in s) rest)
      ∙ ap (λ m. m + length (world.group_entities ls (n + 1) (x + states_in s) rest)) (state_count ls n x s)
      ∙ ap (λ m. states_in s + m) (group_count ls (n + 1) (x + states_in s) rest)

mutual
  state_kids : (s : StateTree) → length (world.state_children s) ≡ states_in s
  state_kids (state_node place name kind body children) = let h = group_kids children in omega arith

  pub group_kids : (g : StateList) → length (world.group_children g) ≡ states_below g
  group_kids no_state = refl
  group_kids (and_state s rest) =
      length-append (world.state_children s) (world.group_children rest) ∙ ap (λ n. n + length (world.group_children rest)) (state_kids s) ∙ ap
      (λ n. states_in s + n) (group_kids rest)

-- no entity in particular
abbrev pub blank : declared_entity.Entity
blank =
    let place : Place = record { line = 0; column = 0 } in
    let name : Mention = record { place = place; name = [] } in
    record { name = name; what = State; dynamic = true }

-- the name of the entity of a number
abbrev pub name_at : List declared_entity.Entity → ℕ → List ℕ
name_at es x = (get_or es x blank).name.name

abbrev pub state_entity : Levels → (place number : ℕ) → Kind → StateList → Entity
state_entity ls n x kind children = record {
  kind = program.state n (x + states_below children);
  width = 0;
  dynamic = world.is_dynamic_kind kind;
  declared = world.declared_level ls kind;
  authority = world.authority_of ls kind;
  initial = 0;
}

module _ (ls : Levels) (es : List declared_entity.Entity) (w : World) where
  -- the entities of a group stand from number x on, the first of the states in place n
  pub record Laid (n x : ℕ) (g : StateList) : Type 0 where
    pub names : Part es x (tree.group_entities g)
    pub entities : Part w.entities x (world.group_entities ls n x g)
    pub children : Part w.children x (world.group_children g)

  pub record LaidState (n x : ℕ) (s : StateTree) : Type 0 where
    pub names : Part es x (tree.state_entities s)
    pub entities : Part w.entities x (world.state_entities ls n x s)
    pub children : Part w.children x (world.state_children s)

  pub laid_first : (n x : ℕ) (s : StateTree) (rest : StateList) → Laid n x (and_state s rest) → LaidState n x s
  laid_first n x s rest h = record {
    names = part_left es x (tree.state_entities s) (tree.group_entities rest) h.names;
    entities = part_left w.entities x (world.state_entities ls n x s) (world.group_entities ls (n + 1) (x + states_in s) rest) h.entities;
    children = part_left w.children x (world.state_children s) (world.group_children rest) h.children;
  }

  pub laid_rest : (n x : ℕ) (s : StateTree) (rest : StateList) → Laid n x (and_state s rest) → Laid (suc n) (x + states_in s) rest
  laid_rest n x s rest h =
      let a : Part es (x + length (tree.state_entities s)) (tree.group_entities rest) = part_right es x (tree.state_entities s) (tree.group_entities rest) h.names in
      let b : Part w.entities (x + length (world.state_entities ls n x s)) (world.group_entities ls (n + 1) (x + states_in s) rest) =
      part_right w.entities x (world.state_entities ls n x s) (world.group_entities ls (n + 1) (x + states_in s) rest) h.entities in
      let c : Part w.children (x + length (world.state_children s)) (world.group_children rest) =
      part_right w.children x (world.state_children s) (world.group_children rest) h.children in
      record {
        names = subst (λ m. Part es (x + m) (tree.group_entities rest)) (state_names s) a;
        entities =
            subst (λ m. Part w.entities (x + states_in s) (world.group_entities ls m (x + states_in s) rest)) (add-one n)
            (subst (λ m. Part w.entities (x + m) (world.group_entities ls (n + 1) (x + states_in s) rest)) (state_count ls n x s) b);
        children = subst (λ m. Part w.children (x + m) (world.group_children rest)) (state_kids s) c;
      }

  module _ (n x : ℕ) (place : Place) (name : Mention) (kind : Kind) (body : CommandBlock) (children : StateList)
      (h : LaidState n x (state_node place name kind body children)) where
    abbrev Head : declared_entity.Entity
    Head = record { name = name; what = State; dynamic = tree.is_dynamic_kind kind }

    pub laid_below : Laid 0 (x + 1) children
    laid_below = record {
      names = part_tail es x Head (tree.group_entities children) h.names;
      entities = part_tail w.entities x (state_entity ls n x kind children) (world.group_entities ls 0 (x + 1) children) h.entities;
      children = part_tail w.children x (group_length children) (world.group_children children) h.children;
    }

    pub laid_entity : entity w x ≡ state_entity ls n x kind children
    laid_entity = part_head w.entities x (state_entity ls n x kind children) (world.group_entities ls 0 (x + 1) children) h.entities program.nothing

    pub laid_children : program.children w x ≡ group_length children
    laid_children = part_head w.children x (group_length children) (world.group_children children) h.children 0

    pub laid_name : name_at es x ≡ name.name
    laid_name = ap (λ (e : declared_entity.Entity). e.name.name) (part_head es x Head (tree.group_entities children) h.names blank)

    pub laid_within : x + states_below children < root w
    laid_within =
        let a = part_within w.entities x (world.state_entities ls n x (state_node place name kind body children)) h.entities in
        let b : length (world.state_entities ls n x (state_node place name kind body children)) ≡ 1 + states_below children =
        state_count ls n x (state_node place name kind body children) in
        omega arith

    pub laid_named : x < length es
    laid_named =
        let a = part_within es x (tree.state_entities (state_node place name kind body children)) h.names in
        let b : length (tree.state_entities (state_node place name kind body children)) ≡ 1 + states_below children = state_names (state_node place name kind body children) in
        omega arith
