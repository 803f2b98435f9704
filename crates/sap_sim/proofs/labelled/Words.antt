-- Inputs and registers are declared, and their names aren't empty.
use Rattle.sap_lemmas.proofs.Common.{◌≡◌, ℕ, zero, suc, ◌+◌, List, [], ◌∷◌, ◌++◌, Bool, true, false, ◌||◌, Some, None, length, get_or, map, sym, ◌∙◌, refl, AllByRecursion, list_all, false≢true, or_left, or_right, and_left, and_right}
use Rattle.sap_tree.specs.Words as words
use Rattle.sap_tree.specs.Prelude.{is_whole, is_declaration, StateTree, state_node, StateList, no_state, and_state, DesignTree}
use Rattle.sap_tree.specs.declared.syntax.Decl.{Decl}
use Rattle.sap_tree.specs.declared.version.Version.{Version}
use Rattle.sap_tree.specs.declared.syntax.Decl.TheVariants as decl
use Rattle.sap_lattice.specs.Levels.{Levels}
use Rattle.sap_maps.specs.Maps.{Name}
use Rattle.sap_meaning.specs.Program.{Entity, nothing, kind_is_input, kind_is_register, is_input, is_register}
use Rattle.sap_names.specs.Entities.{entity_of, declared_in, group_entities as named_group}
use Rattle.sap_names.specs.declared.entity.Entity.{Entity as Declared}
use Rattle.sap_resolved.specs.Worlds.{all_declared, state_entities, group_entities}
use Rattle.sap_interface.specs.Prelude.{name, world, named_of}
use Rattle.sap_net.specs.PortNames.{value_of, tag_of, value_name, tag_name}

abbrev pub is_plain : Entity → Bool
is_plain e = kind_is_input e.kind || kind_is_register e.kind

abbrev pub NonePlain : List Entity → Type 0
NonePlain es = AllByRecursion (λ e. is_plain e ≡ false) es

none_join : (xs ys : List Entity) → NonePlain xs → NonePlain ys → NonePlain (xs ++ ys)
none_join [] ys h k = k
none_join (x ∷ xs) ys h k = (h.0, none_join xs ys h.1 k)

mutual
  state_plain : (ls : Levels) (n x : ℕ) (t : StateTree) → NonePlain (state_entities ls n x t)
  state_plain ls n x (state_node place name kind body children) = (refl, group_plain ls 0 (x + 1) children)

  group_plain : (ls : Levels) (n x : ℕ) (g : StateList) → NonePlain (group_entities ls n x g)
  group_plain ls n x no_state = tt
  group_plain ls n x (and_state s rest) = none_join (state_entities ls n x s) _ (state_plain ls n x s) (group_plain ls _ _ rest)

plain_none : (es : List Entity) → NonePlain es → (k : ℕ) → is_plain (get_or es k nothing) ≡ false
plain_none [] h k = refl
plain_none (e ∷ es) h zero = h.0
plain_none (e ∷ es) h (suc k) = plain_none es h.1 k

-- a byte or more
abbrev pub IsSome : Name → Type 0
IsSome n = n ≡ [] → ⊥

name_some : (version : Version) (n : Name) → words.is_name version n ≡ true → IsSome n
unfolding words.is_name
name_some version [] h e = false≢true h
name_some version (c ∷ cs) h e = cc

declaration_some : (version : Version) (d : Decl) → is_declaration version d ≡ true → IsSome (entity_of d).name.name
declaration_some version (decl.Input place name width) h = name_some version name.name (and_left _ _ h)
declaration_some version (decl.Register place name width kind start) h = name_some version name.name (and_left _ _ (and_left _ _ (and_left _ _ h)))
declaration_some version (decl.Memory place name width depth kind) h = name_some version name.name (and_left _ _ (and_left _ _ (and_left _ _ h)))

named_some : (version : Version) (ls : Levels) (ds : List Decl) (es : List Entity) (fs : List Declared) → NonePlain es
    → list_all (is_declaration version) ds ≡ true → (k : ℕ) → is_plain (get_or (all_declared ls ds ++ es) k nothing) ≡ true
    → IsSome (get_or (map (λ e. e.name.name) (declared_in ds ++ fs)) k [])
named_some version ls [] es fs none h k p = absurd (false≢true (sym (plain_none es none k) ∙ p))
named_some version ls (d ∷ ds) es fs none h zero p = declaration_some version d (and_left (is_declaration version d) (list_all (is_declaration version) ds) h)
named_some version ls (d ∷ ds) es fs none h (suc k) p = named_some version ls ds es fs none (and_right (is_declaration version d) (list_all (is_declaration version) ds) h) k p

whole_declarations : (t : DesignTree) → is_whole t ≡ true → list_all (is_declaration t.version) t.declarations ≡ true
unfolding is_whole
whole_declarations t h = and_left _ _ (and_left _ _ (and_left _ _ h))

pub input_some : (ls : Levels) (t : DesignTree) → is_whole t ≡ true → (x : ℕ) → is_input (world (named_of ls t)) x ≡ true → IsSome (name (named_of ls t) x)
input_some ls t w x h =
    named_some t.version ls t.declarations _ (named_group t.states) (group_plain ls 0 (length t.declarations) t.states)
    (whole_declarations t w) x (or_left (is_input (world (named_of ls t)) x) (is_register (world (named_of ls t)) x) h)

pub register_some : (ls : Levels) (t : DesignTree) → is_whole t ≡ true → (x : ℕ) → is_register (world (named_of ls t)) x ≡ true → IsSome (name (named_of ls t) x)
register_some ls t w x h =
    named_some t.version ls t.declarations _ (named_group t.states) (group_plain ls 0 (length t.declarations) t.states)
    (whole_declarations t w) x (or_right (is_input (world (named_of ls t)) x) (is_register (world (named_of ls t)) x) h)

pub value_back : (n : Name) → IsSome n → value_of (value_name n) ≡ Some n
value_back [] h = absurd (h refl)
value_back (c ∷ cs) h = refl

pub tag_back : (n : Name) → IsSome n → tag_of (tag_name n) ≡ Some n
tag_back [] h = absurd (h refl)
tag_back (c ∷ cs) h = refl

pub value_no_tag : (n : Name) → tag_of (value_name n) ≡ None
value_no_tag [] = refl
value_no_tag (c ∷ cs) = refl

pub tag_no_value : (n : Name) → value_of (tag_name n) ≡ None
tag_no_value [] = refl
tag_no_value (c ∷ cs) = refl
