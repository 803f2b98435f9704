-- What a name stands for in the tree of a design, and what its number stands for in the world: the same entity.
use Rattle.sap_lemmas.proofs.Common.{◌≡◌, ℕ, suc, ◌+◌, ◌<◌, List, [], ◌∷◌, ◌++◌, length, true, Option, Some, None, get_or, refl, sym, ap, subst, arith, inl, inr, bytes_eq, option_map, cases_Bool}
use Rattle.sap_tree.specs.Syntax.{StateTree, state_node, StateList, no_state, and_state, DesignTree}
use Rattle.sap_tree.specs.declared.syntax.Kind.{Kind}
use Rattle.sap_tree.specs.declared.syntax.Kind.TheVariants.{Dynamic, Enforced}
use Rattle.sap_tree.specs.declared.syntax.Decl.{Decl}
use Rattle.sap_tree.specs.declared.syntax.Decl.TheVariants as decl
use Rattle.sap_lattice.specs.Levels.{Levels}
use Rattle.sap_names.specs.Entities.{entities_of, find, number_of, what_is}
use Rattle.sap_names.specs.declared.kind.Declared.{Declared}
use Rattle.sap_names.specs.declared.kind.Declared.TheVariants.{Input, Register, Memory, State}
use Rattle.sap_names.specs.Entities as tree
use Rattle.sap_names.specs.declared.entity.Entity as declared_entity
use Rattle.sap_meaning.specs.Program as program
use Rattle.sap_meaning.specs.Program.{Entity, nothing, entity, root, width, kind_is_state}
use Rattle.sap_resolved.specs.Worlds as world
use Rattle.sap_resolved.specs.Worlds.{world_of, all_declared}
use Rattle.sap_resolved.specs.Terms.{known, entity_number}

-- the kind and the width that a declaration gives
abbrev pub Stands : Declared → Entity → Type 0
Stands (Input u) g = (g.kind ≡ program.input) × (g.width ≡ u)
Stands (Register u) g = (g.kind ≡ program.register) × (g.width ≡ u)
Stands (Memory u depth) g = (g.kind ≡ program.memory depth) × (g.width ≡ u)
Stands State g = (kind_is_state g.kind ≡ true) × (g.width ≡ 0)

pub record Matches (e : declared_entity.Entity) (g : Entity) : Type 0 where
  pub what : Stands e.what g
  pub dynamic : g.dynamic ≡ e.dynamic

-- two lists of entities match one by one
abbrev pub AllMatch : List declared_entity.Entity → List Entity → Type 0
AllMatch [] [] = Unit {0}
AllMatch [] (g ∷ gs) = ⊥
AllMatch (e ∷ es) [] = ⊥
AllMatch (e ∷ es) (g ∷ gs) = Matches e g × AllMatch es gs

pub match_append : (es fs : List declared_entity.Entity) (gs hs : List Entity) → AllMatch es gs → AllMatch fs hs → AllMatch (es ++ fs) (gs ++ hs)
match_append [] fs [] hs a b = b
match_append [] fs (g ∷ gs) hs a b = absurd a
match_append (e ∷ es) fs [] hs a b = absurd a
match_append (e ∷ es) fs (g ∷ gs) hs a b = (a.0, match_append es fs gs hs a.1 b)

pub match_length : (es : List declared_entity.Entity) (gs : List Entity) → AllMatch es gs → length gs ≡ length es
match_length [] [] a = refl
match_length [] (g ∷ gs) a = absurd a
match_length (e ∷ es) [] a = absurd a
match_length (e ∷ es) (g ∷ gs) a = ap (λ n. suc n) (match_length es gs a.1)

same_dynamic : (k : Kind) → world.is_dynamic_kind k ≡ tree.is_dynamic_kind k
same_dynamic (Dynamic place) = refl
same_dynamic (Enforced level under) = refl

declared_match : (ls : Levels) (d : Decl) → Matches (tree.entity_of d) (world.declared ls d)
declared_match ls (decl.Input place name w) = record { what = (refl, refl); dynamic = refl }
declared_match ls (decl.Register place name w kind start) = record { what = (refl, refl); dynamic = same_dynamic kind }
declared_match ls (decl.Memory place name w depth kind) = record { what = (refl, refl); dynamic = same_dynamic kind }

pub all_declared_match : (ls : Levels) (ds : List Decl) → AllMatch (tree.declared_in ds) (all_declared ls ds)
all_declared_match ls [] = tt
all_declared_match ls (d ∷ ds) = (declared_match ls d, all_declared_match ls ds)

mutual
  pub state_match : (ls : Levels) (n x : ℕ) (s : StateTree) → AllMatch (tree.state_entities s) (world.state_entities ls n x s)
  state_match ls n x (state_node place name kind body children) =
      (record { what = (refl, refl); dynamic = same_dynamic kind }, group_match ls 0 (x + 1) children)

  pub group_match : (ls : Levels) (n x : ℕ) (g : StateList) → AllMatch (tree.group_entities g) (world.group_entities ls n x g)
  group_match ls n x no_state = tt
  group_match ls n x (and_state s rest) =
      match_append (tree.state_entities s) (tree.group_entities rest) (world.state_entities ls n x s)
      (world.group_entities ls (n + 1) (x + world.states_in s) rest) (state_match ls n x s)
      (group_match ls (n + 1) (x + world.states_in s) rest)

-- the entities of the tree and those of the world, one by one
pub entities_match : (ls : Levels) (d : DesignTree) → AllMatch (entities_of d) (world_of ls d).entities
entities_match ls d =
    match_append (tree.declared_in d.declarations) (tree.group_entities d.states) (all_declared ls d.declarations)
    (world.group_entities ls 0 (length d.declarations) d.states) (all_declared_match ls d.declarations)
    (group_match ls 0 (length d.declarations) d.states)

-- the world has as many
pub entities_length : (ls : Levels) (d : DesignTree) → root (world_of ls d) ≡ length (entities_of d)
entities_length ls d = match_length (entities_of d) (world_of ls d).entities (entities_match ls d)

-- What is known of a name that is declared: its number, and the entity of that number.
pub record Numbered (es : List declared_entity.Entity) (gs : List Entity) (name : List ℕ) (e : declared_entity.Entity) : Type 0 where
  pub number : ℕ
  pub is : number_of es name ≡ Some number
  pub within : number < length es
  pub here : get_or es number e ≡ e
  pub same : Matches e (get_or gs number nothing)

pub numbered : (es : List declared_entity.Entity) (gs : List Entity) → AllMatch es gs → (name : List ℕ) (e : declared_entity.Entity) → find es name ≡ Some e → Numbered es gs name e
numbered [] gs a name e f = cc
numbered (d ∷ es) [] a name e f = absurd a
numbered (d ∷ es) (g ∷ gs) a name e f = elim (cases_Bool (bytes_eq d.name.name name)) [
  | inl t ↦
      let i : Some d ≡ Some e = rw t at f in
      let j : d ≡ e = cc in
      record { number = 0; is = rw t refl; within = omega arith; here = j; same = subst (λ x. Matches x g) j a.0 }
  | inr t ↦
      let r : Numbered es gs name e = numbered es gs a.1 name e (rw t at f) in
      let w : r.number < length es = r.within in
      record { number = suc r.number; is = rw (t, r.is) (ap (λ n. Some n) (omega arith)); within = omega arith; here = r.here; same = r.same }
]

-- a name that is declared nowhere has no number
pub unnumbered : (es : List declared_entity.Entity) (name : List ℕ) → find es name ≡ None → number_of es name ≡ None
unnumbered [] name f = refl
unnumbered (d ∷ es) name f = elim (cases_Bool (bytes_eq d.name.name name)) [
  | inl t ↦ let i : Some d ≡ None = rw t at f in cc
  | inr t ↦ let r : number_of es name ≡ None = unnumbered es name (rw t at f) in rw (t, r) refl
]

-- the same over a design
pub number_in : (ls : Levels) (d : DesignTree) (name : List ℕ) (e : declared_entity.Entity) → find (entities_of d) name ≡ Some e
    → Numbered (entities_of d) (world_of ls d).entities name e
number_in ls d name e f = numbered (entities_of d) (world_of ls d).entities (entities_match ls d) name e f

-- the entity of a declared name
pub entity_matches : (ls : Levels) (d : DesignTree) (name : List ℕ) (e : declared_entity.Entity) → find (entities_of d) name ≡ Some e
    → Matches e (entity (world_of ls d) (entity_number (entities_of d) name))
entity_matches ls d name e f =
    let r : Numbered (entities_of d) (world_of ls d).entities name e = number_in ls d name e f in
    let k : entity_number (entities_of d) name ≡ r.number = ap known r.is in
    subst (λ n. Matches e (entity (world_of ls d) n)) (sym k) r.same

pub entity_within : (ls : Levels) (d : DesignTree) (name : List ℕ) (e : declared_entity.Entity) → find (entities_of d) name ≡ Some e
    → entity_number (entities_of d) name < root (world_of ls d)
entity_within ls d name e f =
    let r : Numbered (entities_of d) (world_of ls d).entities name e = number_in ls d name e f in
    let k : entity_number (entities_of d) name ≡ r.number = ap known r.is in
    let l : root (world_of ls d) ≡ length (entities_of d) = entities_length ls d in
    let w : r.number < length (entities_of d) = r.within in
    omega arith

-- what is declared of a name, and its entity
pub what_found : (o : Option declared_entity.Entity) (x : Declared) → option_map (λ (e : declared_entity.Entity). e.what) o ≡ Some x
    → (e : declared_entity.Entity) × (o ≡ Some e) × (e.what ≡ x)
what_found None x h = cc
what_found (Some e) x h = (e, refl, cc)

pub entity_stands : (ls : Levels) (d : DesignTree) (name : List ℕ) (x : Declared) → what_is (entities_of d) name ≡ Some x
    → Stands x (entity (world_of ls d) (entity_number (entities_of d) name))
entity_stands ls d name x h =
    let f = what_found (find (entities_of d) name) x h in
    let m : Matches f.0 (entity (world_of ls d) (entity_number (entities_of d) name)) = entity_matches ls d name f.0 f.1 in
    subst (λ y. Stands y (entity (world_of ls d) (entity_number (entities_of d) name))) f.2 m.what
