-- The entities and the children of declarations and of states.
use Rattle.sap_lemmas.proofs.Common.{◌≡◌, ℕ, ◌+◌, ◌<◌, ◌≤◌, List, [], ◌∷◌, ◌++◌, Bool, length, get_or, drop, map, refl, sym, ap, ap₂, ◌∙◌, arith, append_assoc, map-append, append-nil, drop_past}
use Rattle.sap_tree.specs.Prelude.{tree_of, StateTree, states_of}
use Rattle.sap_tree.specs.declared.syntax.Decl.{Decl}
use Rattle.sap_tree.specs.declared.syntax.State.{State, out-State}
use Rattle.sap_tree.specs.declared.version.Version.{Version}
use Rattle.sap_tree.specs.Trees as trees
use Rattle.sap_tree.proofs.Views.{state_of-out}
use Rattle.sap_lattice.specs.Levels.{Levels}
use Rattle.sap_meaning.specs.Program as program
use Rattle.sap_names.specs.Entities as names
use Rattle.sap_resolved.specs.Worlds as worlds
use Rattle.sap_program.specs.Views.{entity_of}
use Rattle.sap_program.specs.declared.program.Entity.{Entity}
use Rattle.sap_resolve.specs.Lists.{states_below, group_entities, group_names, group_children, names_of, own_names}
use Rattle.sap_resolve.proofs.Lists.{item_drop}

-- one part, and those behind it
after_part : {A : Type 0} (old new part rest all : List A) → new ≡ old ++ part → all ≡ part ++ rest → new ++ rest ≡ old ++ all
after_part old new part rest all h e = ap (λ l. l ++ rest) h ∙ append_assoc old part rest ∙ ap (λ l. old ++ l) (sym e)

-- what is made of all parts of a list, part by part
module _ {X Y : Type 0} (part : X → List Y) (all : List X → List Y) (none : all [] ≡ []) (more : (x : X) (xs : List X) → all (x ∷ xs) ≡ part x ++ all xs) where
  parts_step : (xs : List X) (n : ℕ) (d : X) (old new : List Y) → n < length xs → d ≡ get_or xs n d → new ≡ old ++ part d
      → new ++ all (drop (n + 1) xs) ≡ old ++ all (drop n xs)
  parts_step xs n d old new l e k = after_part old new (part d) (all (drop (n + 1) xs)) (all (drop n xs)) k (ap all (item_drop xs n d l e) ∙ more d (drop (n + 1) xs))

  parts_end : (xs : List X) (n : ℕ) (new whole : List Y) → length xs ≤ n → new ++ all (drop n xs) ≡ whole → new ≡ whole
  parts_end xs n new whole l e = sym (ap (λ r. new ++ r) (ap all (drop_past xs n l) ∙ none) ∙ append-nil new) ∙ e

-- one entity more

pushed : {X Y : Type 0} (f : X → Y) (old new : List X) (x : X) (y : Y) → new ≡ old ++ x ∷ [] → f x ≡ y → map f new ≡ map f old ++ y ∷ []
pushed f old new x y e h = ap (map f) e ∙ map-append f old (x ∷ []) ∙ ap (λ z. map f old ++ z ∷ []) h

behind : {Y : Type 0} (old mid new rest : List Y) (y : Y) → mid ≡ old ++ y ∷ [] → new ≡ mid ++ rest → new ≡ old ++ y ∷ rest
behind old mid new rest y h k = k ∙ ap (λ l. l ++ rest) h ∙ append_assoc old (y ∷ []) rest

-- declarations

pub declared_step : (ls : Levels) (ds : List Decl) (n : ℕ) (d : Decl) (old new : List Entity) (e : Entity) → n < length ds
    → d ≡ get_or ds n d → new ≡ old ++ e ∷ [] → entity_of e ≡ worlds.declared ls d
    → map entity_of new ++ worlds.all_declared ls (drop (n + 1) ds) ≡ map entity_of old ++ worlds.all_declared ls (drop n ds)
declared_step ls ds n d old new e l i p h =
    parts_step (λ (x : Decl). worlds.declared ls x ∷ []) (worlds.all_declared ls) refl (λ x xs. refl) ds n d (map entity_of old) (map entity_of new) l i
    (pushed entity_of old new e (worlds.declared ls d) p h)

pub declared_end : (ls : Levels) (ds : List Decl) (n : ℕ) (new whole : List program.Entity) → length ds ≤ n → new ++ worlds.all_declared ls (drop n ds) ≡ whole → new ≡ whole
declared_end ls ds n new whole l e = parts_end (λ (x : Decl). worlds.declared ls x ∷ []) (worlds.all_declared ls) refl (λ x xs. refl) ds n new whole l e

pub names_step : (ds : List Decl) (n : ℕ) (d : Decl) (old new : List Entity) (e : Entity) → n < length ds → d ≡ get_or ds n d
    → new ≡ old ++ e ∷ [] → e.name ≡ (names.entity_of d).name.name
    → own_names new ++ names_of (names.declared_in (drop (n + 1) ds)) ≡ own_names old ++ names_of (names.declared_in (drop n ds))
names_step ds n d old new e l i p h =
    parts_step (λ (x : Decl). (names.entity_of x).name.name ∷ []) (λ (x : List Decl). names_of (names.declared_in x)) refl (λ x xs. refl) ds n d (own_names old) (own_names new) l i
    (pushed (λ (x : Entity). x.name) old new e _ p h)

pub names_end : (ds : List Decl) (n : ℕ) (new whole : List (List ℕ)) → length ds ≤ n → new ++ names_of (names.declared_in (drop n ds)) ≡ whole → new ≡ whole
names_end ds n new whole l e =
    parts_end (λ (x : Decl). (names.entity_of x).name.name ∷ []) (λ (x : List Decl). names_of (names.declared_in x)) refl (λ x xs. refl) ds n new whole l e

pub childless_step : (ds : List Decl) (n : ℕ) (d : Decl) (old new : List ℕ) → n < length ds → d ≡ get_or ds n d → new ≡ old ++ 0 ∷ []
    → new ++ worlds.no_children (drop (n + 1) ds) ≡ old ++ worlds.no_children (drop n ds)
childless_step ds n d old new l i p = parts_step (λ (x : Decl). 0 ∷ []) worlds.no_children refl (λ x xs. refl) ds n d old new l i p

pub childless_end : (ds : List Decl) (n : ℕ) (new whole : List ℕ) → length ds ≤ n → new ++ worlds.no_children (drop n ds) ≡ whole → new ≡ whole
childless_end ds n new whole l e = parts_end (λ (x : Decl). 0 ∷ []) worlds.no_children refl (λ x xs. refl) ds n new whole l e

-- groups of states

-- a state as an entity
abbrev state_entity : (place last : ℕ) (dynamic : Bool) (level authority : ℕ) → program.Entity
state_entity n last dynamic level authority = record { kind = program.state n last; width = 0; dynamic = dynamic; declared = level; authority = authority; initial = 0 }

state_same : (n a b : ℕ) (c d : Bool) (k l p q : ℕ) → a ≡ b → c ≡ d → k ≡ l → p ≡ q → state_entity n a c k p ≡ state_entity n b d l q
state_same n a b c d k l p q e f g h =
    ap (λ (x : ℕ). state_entity n x c k p) e ∙ ap (λ (x : Bool). state_entity n b x k p) f ∙ ap (λ (x : ℕ). state_entity n b d x p) g ∙ ap (λ (x : ℕ). state_entity n b d l x) h

module _ (ls : Levels) where
  entities_drop : (n x : ℕ) (d : State) (rest : List State)
      → group_entities ls n x (d ∷ rest) ≡ worlds.state_entities ls n x (trees.state_of d) ++ group_entities ls (n + 1) (x + worlds.states_in (trees.state_of d)) rest
  unfolding group_entities
  entities_drop n x d rest = refl

  entities_none : (n x : ℕ) → group_entities ls n x [] ≡ []
  unfolding group_entities
  entities_none n x = refl

  pub entities_step : (ss : List State) (n : ℕ) (d : State) (x y : ℕ) (old new : List program.Entity) → n < length ss → d ≡ get_or ss n d
      → new ≡ old ++ worlds.state_entities ls n x (trees.state_of d) → y ≡ x + worlds.states_in (trees.state_of d)
      → new ++ group_entities ls (n + 1) y (drop (n + 1) ss) ≡ old ++ group_entities ls n x (drop n ss)
  entities_step ss n d x y old new l e k q =
      after_part old new (worlds.state_entities ls n x (trees.state_of d)) (group_entities ls (n + 1) y (drop (n + 1) ss)) (group_entities ls n x (drop n ss)) k
      (ap (group_entities ls n x) (item_drop ss n d l e) ∙ entities_drop n x d (drop (n + 1) ss)
      ∙ ap (λ (i : ℕ). worlds.state_entities ls n x (trees.state_of d) ++ group_entities ls (n + 1) i (drop (n + 1) ss)) (sym q))

  pub entities_end : (ss : List State) (n m x : ℕ) (new whole : List program.Entity) → length ss ≤ n → new ++ group_entities ls m x (drop n ss) ≡ whole → new ≡ whole
  entities_end ss n m x new whole l e = sym (ap (λ r. new ++ r) (ap (group_entities ls m x) (drop_past ss n l) ∙ entities_none m x) ∙ append-nil new) ∙ e

  state_laid : (s : State) (n x : ℕ)
      → record {
        kind = program.state n (x + states_below (out-State s).children.items);
        width = 0;
        dynamic = worlds.is_dynamic_kind (out-State s).kind;
        declared = worlds.declared_level ls (out-State s).kind;
        authority = worlds.authority_of ls (out-State s).kind;
        initial = 0;
      }
      ∷ group_entities ls 0 (x + 1) (out-State s).children.items
      ≡ worlds.state_entities ls n x (trees.state_of s)
  unfolding group_entities states_below
  state_laid s n x = sym (ap (λ (t : StateTree). worlds.state_entities ls n x t) (state_of-out s))

  -- a state and those inside it, as it is made of its parts
  pub state_added : (s : State) (n x last : ℕ) (dynamic : Bool) (level authority : ℕ) (seen kids : List State) (old mid new : List Entity) (e : Entity)
      → last ≡ x + states_below seen → seen ≡ (out-State s).children.items → kids ≡ (out-State s).children.items → dynamic ≡ worlds.is_dynamic_kind (out-State s).kind
      → level ≡ worlds.declared_level ls (out-State s).kind → authority ≡ worlds.authority_of ls (out-State s).kind
      → entity_of e ≡ record { kind = program.state n last; width = 0; dynamic = dynamic; declared = level; authority = authority; initial = 0 }
      → mid ≡ old ++ e ∷ [] → map entity_of new ≡ map entity_of mid ++ group_entities ls 0 (x + 1) kids
      → map entity_of new ≡ map entity_of old ++ worlds.state_entities ls n x (trees.state_of s)
  unfolding group_entities
  state_added s n x last dynamic level authority seen kids old mid new e a b c f g h i j k =
      let made : program.Entity = record { kind = program.state n last; width = 0; dynamic = dynamic; declared = level; authority = authority; initial = 0 } in
      behind (map entity_of old) (map entity_of mid) (map entity_of new) (group_entities ls 0 (x + 1) kids) made (pushed entity_of old mid e made j i) k
      ∙ ap (λ (l : List program.Entity). map entity_of old ++ l)
      (ap₂ (λ (y : program.Entity) (l : List State). y ∷ group_entities ls 0 (x + 1) l)
      (state_same n last (x + states_below (out-State s).children.items) dynamic (worlds.is_dynamic_kind (out-State s).kind)
      level (worlds.declared_level ls (out-State s).kind) authority (worlds.authority_of ls (out-State s).kind) (a ∙ ap (λ (l : List State). x + states_below l) b) f g h) c
      ∙ state_laid s n x)

pub group_names_step : (ss : List State) (n : ℕ) (d : State) (old new : List (List ℕ)) → n < length ss → d ≡ get_or ss n d
    → new ≡ old ++ names_of (names.state_entities (trees.state_of d))
    → new ++ group_names (drop (n + 1) ss) ≡ old ++ group_names (drop n ss)
unfolding group_names
group_names_step ss n d old new l e k =
    parts_step (λ (s : State). names_of (names.state_entities (trees.state_of s))) group_names refl
    (λ s rest. map-append (λ e. e.name.name) (names.state_entities (trees.state_of s)) (names.group_entities (states_of rest))) ss n d old new l e k

pub group_names_end : (ss : List State) (n : ℕ) (new whole : List (List ℕ)) → length ss ≤ n → new ++ group_names (drop n ss) ≡ whole → new ≡ whole
unfolding group_names
group_names_end ss n new whole l e =
    parts_end (λ (s : State). names_of (names.state_entities (trees.state_of s))) group_names refl
    (λ s rest. map-append (λ e. e.name.name) (names.state_entities (trees.state_of s)) (names.group_entities (states_of rest))) ss n new whole l e

pub state_named : (s : State) (kids : List State) (old mid new : List Entity) (e : Entity) → kids ≡ (out-State s).children.items
    → e.name ≡ (out-State s).name.name → mid ≡ old ++ e ∷ []
    → own_names new ≡ own_names mid ++ group_names kids → own_names new ≡ own_names old ++ names_of (names.state_entities (trees.state_of s))
unfolding group_names
state_named s kids old mid new e c h j k =
    behind (own_names old) (own_names mid) (own_names new) (group_names kids) (out-State s).name.name (pushed (λ (x : Entity). x.name) old mid e (out-State s).name.name j h) k
    ∙ ap (λ (l : List (List ℕ)). own_names old ++ l)
    (ap (λ (l : List State). (out-State s).name.name ∷ group_names l) c ∙ sym (ap (λ (t : StateTree). names_of (names.state_entities t)) (state_of-out s)))

pub children_step : (ss : List State) (n : ℕ) (d : State) (old new : List ℕ) → n < length ss → d ≡ get_or ss n d → new ≡ old ++ worlds.state_children (trees.state_of d)
    → new ++ group_children (drop (n + 1) ss) ≡ old ++ group_children (drop n ss)
unfolding group_children
children_step ss n d old new l e k = parts_step (λ (s : State). worlds.state_children (trees.state_of s)) group_children refl (λ s rest. refl) ss n d old new l e k

pub children_end : (ss : List State) (n : ℕ) (new whole : List ℕ) → length ss ≤ n → new ++ group_children (drop n ss) ≡ whole → new ≡ whole
unfolding group_children
children_end ss n new whole l e = parts_end (λ (s : State). worlds.state_children (trees.state_of s)) group_children refl (λ s rest. refl) ss n new whole l e

pub group_size : (ss : List State) → worlds.group_length (states_of ss) ≡ length ss
group_size [] = refl
group_size (s ∷ ss) = (let r = group_size ss in omega (arith, r))

pub state_counted : (s : State) (size : ℕ) (kids : List State) (old mid new : List ℕ) → size ≡ length (out-State s).children.items
    → kids ≡ (out-State s).children.items → mid ≡ old ++ size ∷ []
    → new ≡ mid ++ group_children kids → new ≡ old ++ worlds.state_children (trees.state_of s)
unfolding group_children
state_counted s size kids old mid new c b j k =
    behind old mid new (group_children kids) size j k
    ∙ ap (λ (l : List ℕ). old ++ l)
    (ap₂ (λ (n : ℕ) (l : List State). n ∷ group_children l) (c ∙ sym (group_size (out-State s).children.items)) b
    ∙ sym (ap (λ (t : StateTree). worlds.state_children t) (state_of-out s)))

-- a whole design's

pub all_children : (v : Version) (ls : Levels) (ds : List Decl) (ss seen : List State) (size : ℕ) (made more most whole : List ℕ)
    → made ≡ [] → more ≡ made ++ worlds.no_children ds → seen ≡ ss
    → most ≡ more ++ group_children seen → size ≡ length ss → whole ≡ most ++ size ∷ [] → whole ≡ (worlds.world_of ls (tree_of v ds ss)).children
unfolding group_children
all_children v ls ds ss seen size made more most whole a b e c d f =
    f
    ∙ ap₂ (λ (l : List ℕ) (n : ℕ). l ++ n ∷ []) (c
    ∙ ap₂ (λ (l : List ℕ) (s : List State). l ++ group_children s) (b ∙ ap (λ (l : List ℕ). l ++ worlds.no_children ds) a) e) (d ∙ sym (group_size ss))

pub all_entities : (v : Version) (ls : Levels) (ds : List Decl) (ss seen : List State) (size : ℕ) (made more most : List Entity) → made ≡ []
    → map entity_of more ≡ map entity_of made ++ worlds.all_declared ls ds
    → seen ≡ ss → size ≡ length ds → map entity_of most ≡ map entity_of more ++ group_entities ls 0 size seen → map entity_of most ≡ (worlds.world_of ls (tree_of v ds ss)).entities
unfolding group_entities
all_entities v ls ds ss seen size made more most a b e d c =
    c ∙ ap₂ (λ (l : List program.Entity) (s : List State). l ++ group_entities ls 0 size s) (b ∙ ap (λ (l : List Entity). map entity_of l ++ worlds.all_declared ls ds) a) e
    ∙ ap (λ (n : ℕ). worlds.all_declared ls ds ++ group_entities ls 0 n ss) d

pub all_names : (v : Version) (ds : List Decl) (ss seen : List State) (made more most : List Entity) → made ≡ []
    → own_names more ≡ own_names made ++ names_of (names.declared_in ds)
    → seen ≡ ss → own_names most ≡ own_names more ++ group_names seen → own_names most ≡ names_of (names.entities_of (tree_of v ds ss))
unfolding group_names
all_names v ds ss seen made more most a b e c =
    c ∙ ap₂ (λ (l : List (List ℕ)) (s : List State). l ++ group_names s) (b ∙ ap (λ (l : List Entity). own_names l ++ names_of (names.declared_in ds)) a) e
    ∙ sym (map-append (λ e. e.name.name) (names.declared_in ds) (names.group_entities (states_of ss)))

pub few_states : (ss seen : List State) (n m limit : ℕ) → seen ≡ ss → m ≡ n → n + worlds.states_below (states_of ss) < limit → m + states_below seen < limit
unfolding states_below
few_states ss seen n m limit e d l = (let f = ap (λ (s : List State). states_below s) e in omega (arith, f, d, l))
