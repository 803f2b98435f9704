-- The registers and memories of a design: dynamic by their declaration where they are dynamic in the world; and what is assigned or indexed is one.
use Rattle.sap_lemmas.proofs.Common.{◌≡◌, ℕ, zero, suc, ◌+◌, ◌<◌, Bool, true, false, ◌&&◌, ◌||◌, List, [], ◌∷◌, ◌++◌, length, get_or, refl, sym, ap, ◌∙◌, arith, bytes_eq, list_any, or_false, bytes_eq_same, equal_of_bytes_eq, false_from_ne_true}
use Rattle.sap_text.specs.declared.place.Place.{Place}
use Rattle.sap_tree.specs.Prelude.{StateTree, state_node, StateList, no_state, and_state, DesignTree, is_dynamic_kind, declares_dynamic, is_dynamic_store}
use Rattle.sap_tree.specs.declared.syntax.Decl.{Decl}
use Rattle.sap_tree.specs.declared.syntax.Decl.TheVariants.{Input, Register, Memory}
use Rattle.sap_lattice.specs.Levels.{Levels}
use Rattle.sap_names.specs.declared.entity.Entity as tree
use Rattle.sap_names.specs.Prelude.{entity_of, declared_in, entities_of, what_is, fits_use, use_faults, twice}
use Rattle.sap_names.specs.declared.kind.Declared.{Declared}
use Rattle.sap_names.specs.declared.kind.Use.TheVariants.{Assigned as assigned, Indexed as indexed}
use Rattle.sap_names.specs.declared.kind.Declared.TheVariants as what
use Rattle.sap_names.specs.Entities as names
use Rattle.sap_meaning.specs.Program.{Entity, World, entity, nothing, kind_is_register, kind_is_memory, is_register, is_memory}
use Rattle.sap_meaning.specs.Program as program
use Rattle.sap_resolved.specs.Terms.{entity_number}
use Rattle.sap_resolved.specs.Worlds.{states_in, declared, all_declared, state_entities, group_entities, world_of}
use Rattle.sap_resolved.proofs.Lookup.{Stands, entity_stands}
use Rattle.sap_resolved.proofs.sized.Expressions.{used}
use Rattle.sap_resolved.proofs.premises.Lookups.{unique}
use Rattle.sap_resolved.proofs.premises.Places.{name_at}

pub is_store : Entity → Bool
is_store e = kind_is_register e.kind || kind_is_memory e.kind

-- entities that are no registers and no memories

NoStores : List Entity → Type 0
NoStores [] = Unit {0}
NoStores (e ∷ es) = (is_store e ≡ false) × NoStores es

none_both : (a b : List Entity) → NoStores a → NoStores b → NoStores (a ++ b)
unfolding NoStores
none_both [] b h k = k
none_both (e ∷ a) b h k = (h.0, none_both a b h.1 k)

none_at : (es : List Entity) (x : ℕ) → NoStores es → is_store (get_or es x nothing) ≡ false
unfolding NoStores is_store
none_at [] x h = refl
none_at (e ∷ es) zero h = h.0
none_at (e ∷ es) (suc x) h = none_at es x h.1

mutual
  unfolding NoStores is_store

  state_none : (ls : Levels) (n x : ℕ) (s : StateTree) → NoStores (state_entities ls n x s)
  state_none ls n x (state_node place name kind body children) = (refl, group_none ls 0 (x + 1) children)

  group_none : (ls : Levels) (n x : ℕ) (g : StateList) → NoStores (group_entities ls n x g)
  group_none ls n x no_state = tt
  group_none ls n x (and_state s rest) =
      none_both (state_entities ls n x s) (group_entities ls (n + 1) (x + states_in s) rest) (state_none ls n x s) (group_none ls (n + 1) (x + states_in s) rest)

-- declarations of a name

declares_other : (d : Decl) (n : List ℕ) → bytes_eq (entity_of d).name.name n ≡ false → declares_dynamic n d ≡ false
declares_other (Input place name width) n h = refl
declares_other (Register place name width kind start) n h = ap (λ (b : Bool). b && is_dynamic_kind kind) h
declares_other (Memory place name width depth kind) n h = ap (λ (b : Bool). b && is_dynamic_kind kind) h

declares_own : (ls : Levels) (d : Decl) → is_store (declared ls d) ≡ true → declares_dynamic (entity_of d).name.name d ≡ (declared ls d).dynamic
unfolding is_store
declares_own ls (Input place name width) h = absurd (cc h)
declares_own ls (Register place name width kind start) h = ap (λ (b : Bool). b && is_dynamic_kind kind) (bytes_eq_same name.name)
declares_own ls (Memory place name width depth kind) h = ap (λ (b : Bool). b && is_dynamic_kind kind) (bytes_eq_same name.name)

absent : (ds : List Decl) (n : List ℕ) → ((y : ℕ) → y < length (declared_in ds) → name_at (declared_in ds) y ≡ n → ⊥) → list_any (declares_dynamic n) ds ≡ false
absent [] n u = refl
absent (d ∷ ds) n u =
    ap (λ (b : Bool). b || list_any (declares_dynamic n) ds)
    (declares_other d n (false_from_ne_true (bytes_eq (entity_of d).name.name n) (λ t. u 0 (omega arith) (equal_of_bytes_eq (entity_of d).name.name n t))))
    ∙ absent ds n (λ y l e. u (suc y) (omega arith) e)

name_left : (es fs : List tree.Entity) (y : ℕ) → y < length es → name_at (es ++ fs) y ≡ name_at es y
name_left [] fs y h = absurd (omega arith)
name_left (e ∷ es) fs zero h = refl
name_left (e ∷ es) fs (suc y) h = name_left es fs y (omega arith)

length_left : (es fs : List tree.Entity) → length es < suc (length (es ++ fs))
length_left [] fs = omega arith
length_left (e ∷ es) fs = let r = length_left es fs in omega arith

present : (ls : Levels) (ds : List Decl) (fs : List tree.Entity) (gs : List Entity) (x : ℕ) → NoStores gs
    → ((y : ℕ) → y < length (declared_in ds ++ fs) → name_at (declared_in ds ++ fs) y ≡ name_at (declared_in ds ++ fs) x → y ≡ x)
    → is_store (get_or (all_declared ls ds ++ gs) x nothing) ≡ true
    → list_any (declares_dynamic (name_at (declared_in ds ++ fs) x)) ds ≡ (get_or (all_declared ls ds ++ gs) x nothing).dynamic
present ls [] fs gs x plain u s = absurd (cc (sym s ∙ none_at gs x plain))
present ls (d ∷ ds) fs gs zero plain u s =
    let n = (entity_of d).name.name in
    let rest : list_any (declares_dynamic n) ds ≡ false =
    absent ds n (λ y l e. let b = length_left (declared_in ds) fs in let z : suc y ≡ 0 = u (suc y) (omega arith) (name_left (declared_in ds) fs y l ∙ e) in absurd (omega arith)) in
    ap (λ (b : Bool). declares_dynamic n d || b) rest ∙ or_false (declares_dynamic n d) ∙ declares_own ls d s
present ls (d ∷ ds) fs gs (suc x) plain u s =
    let n = name_at (declared_in ds ++ fs) x in
    let head : declares_dynamic n d ≡ false =
    declares_other d n (false_from_ne_true (bytes_eq (entity_of d).name.name n) (λ t. let z : 0 ≡ suc x =
    u 0 (omega arith) (equal_of_bytes_eq (entity_of d).name.name n t) in absurd (omega arith))) in
    ap (λ (b : Bool). b || list_any (declares_dynamic n) ds) head
    ∙ present ls ds fs gs x plain (λ y l e. let z : suc y ≡ suc x = u (suc y) (omega arith) e in omega arith) s

-- in a design without two of one name
pub store_same : (ls : Levels) (d : DesignTree) → twice [] (entities_of d) ≡ [] → (x : ℕ) → x < length (entities_of d)
    → (is_register (world_of ls d) x || is_memory (world_of ls d) x) ≡ true
    → is_dynamic_store d.declarations (name_at (entities_of d) x) ≡ program.is_dynamic (world_of ls d) x
unfolding is_dynamic_store is_store
store_same ls d once x l s =
    present ls d.declarations (names.group_entities d.states) (group_entities ls 0 (length d.declarations) d.states) x (group_none ls 0 (length d.declarations) d.states)
    (λ y k e. sym (unique (entities_of d) once y k) ∙ ap (λ (n : List ℕ). entity_number (entities_of d) n) e ∙ unique (entities_of d) once x l) s

-- the kinds of what is assigned and of what is indexed

is_assigned : (w : World) (x : Declared) (n : ℕ) → fits_use assigned x ≡ true → Stands x (entity w n) → is_register w n ≡ true
is_assigned w (what.Register u) n h i = ap (λ k. kind_is_register k) i.0
is_assigned w _ n h i = cc

is_indexed : (w : World) (x : Declared) (n : ℕ) → fits_use indexed x ≡ true → Stands x (entity w n) → is_memory w n ≡ true
is_indexed w (what.Memory u b) n h i = ap (λ k. kind_is_memory k) i.0
is_indexed w _ n h i = cc

pub record Kinds (es : List tree.Entity) (w : World) : Type 0 where
  pub register : (name : List ℕ) (place : Place) → use_faults assigned (what_is es name) place ≡ [] → is_register w (entity_number es name) ≡ true
  pub memory : (name : List ℕ) (place : Place) → use_faults indexed (what_is es name) place ≡ [] → is_memory w (entity_number es name) ≡ true

pub kinds_of : (ls : Levels) (d : DesignTree) → Kinds (entities_of d) (world_of ls d)
kinds_of ls d =
    let es = entities_of d in
    let w = world_of ls d in
    record {
      register = λ name place f.
          let u = used assigned (what_is es name) place f in
          is_assigned w u.0 (entity_number es name) u.2 (entity_stands ls d name u.0 u.1);
      memory = λ name place f.
          let u = used indexed (what_is es name) place f in
          is_indexed w u.0 (entity_number es name) u.2 (entity_stands ls d name u.0 u.1);
    }
