-- The entity of each check site is one of the design.
use Rattle.sap_lemmas.proofs.Common.{◌≡◌, ℕ, zero, suc, ◌+◌, ◌<◌, List, [], ◌∷◌, ◌++◌, length, refl, sym, ap, subst, arith, Bool, true, false, Option, Some, None, map, slice_get, unwrap_or, option_map, if◌then◌else◌, bytes_eq, length-append, map-append}
use Rattle.sap_tree.specs.Syntax.{SimpleCommand, Command, lone, try, if_else, try_then, case_of, Arms, last_arm, and_arm, CommandBlock, command_block, ElseBlock, no_else, with_else, CommandList, no_command, and_command, StateTree, state_node, StateList, no_state, and_state, DesignTree}
use Rattle.sap_names.specs.Entities.{entities_of, declared_in, group_entities, number_of}
use Rattle.sap_names.specs.declared.entity.Entity.{Entity}
use Rattle.sap_shape.specs.Sites.{is_site, Surroundings, CheckSite, simple_sites, command_sites, block_sites, else_sites, arms_sites, list_sites, state_sites, states_sites}
use Rattle.sap_check.specs.declared.site.Site.{Site}
use Rattle.sap_check.specs.Sites.{entity_number, target_of, site_of, sites_of}

-- numbers of names

Within : Option ℕ → ℕ → Type 0
Within None n = Unit {0}
Within (Some k) n = k < n

-- a name's number is below the count
within-later : (o : Option ℕ) (n : ℕ) → Within o n → Within (option_map (λ k. k + 1) o) (suc n)
unfolding Within
within-later None n h = tt
within-later (Some k) n h = omega arith

within-choice : (b : Bool) (o : Option ℕ) (n : ℕ) → Within o n → Within (if b then Some 0 else option_map (λ k. k + 1) o) (suc n)
unfolding Within
within-choice true o n h = omega arith
within-choice false o n h = within-later o n h

number-within : (es : List Entity) (name : List ℕ) → Within (number_of es name) (length es)
unfolding Within
number-within [] name = tt
number-within (e ∷ es) name = within-choice (bytes_eq e.name.name name) (number_of es name) (length es) (number-within es name)

or_first : (o : Option ℕ) (n : ℕ) → 0 < n → Within o n → unwrap_or o 0 < n
unfolding Within
or_first None n p h = p
or_first (Some k) n p h = h

number-small : (es : List Entity) (name : List ℕ) → 0 < length es → entity_number es name < length es
number-small es name p = or_first (number_of es name) (length es) p (number-within es name)

-- sites whose entities are below a number

Small : ℕ → List Site → Type 0
Small n [] = Unit {0}
Small n (s ∷ ss) = (s.entity < n) × Small n ss

small-both : (n : ℕ) (a b : List Site) → Small n a → Small n b → Small n (a ++ b)
unfolding Small
small-both n [] b p q = q
small-both n (s ∷ a) b p q = (p.0, small-both n a b p.1 q)

small-at : (n : ℕ) (ss : List Site) (k : ℕ) (s : Site) → Small n ss → slice_get ss k ≡ Some s → s.entity < n
unfolding Small
small-at n [] k s p h = absurd (cc h)
small-at n (x ∷ ss) zero s p h = let e : x.entity ≡ s.entity = ap (λ (o : Option Site). (unwrap_or o x).entity) h in omega (arith, p.0)
small-at n (x ∷ ss) (suc k) s p h = small-at n ss k s p.1 h

small-choice : (n : ℕ) (b : Bool) (s : CheckSite) → (site_of s).entity < n → Small n (map site_of (if b then s ∷ [] else []))
unfolding Small
small-choice n true s h = (h, tt)
small-choice n false s h = tt

small-parts : (n : ℕ) (a b : List CheckSite) → Small n (map site_of a) → Small n (map site_of b) → Small n (map site_of (a ++ b))
small-parts n a b p q = subst (λ (ss : List Site). Small n ss) (sym (map-append site_of a b)) (small-both n (map site_of a) (map site_of b) p q)

module _ (h : Surroundings) (p : 0 < length h.entities) where
  simple-small : (k : SimpleCommand) → Small (length h.entities) (map site_of (simple_sites h k))
  simple-small k = small-choice (length h.entities) (is_site h.entities h.home.kind h.home.children k)
      (record { surroundings = h; command = k }) (number-small h.entities (target_of h k) p)

  mutual
    unfolding Small

    command-small : (c : Command) → Small (length h.entities) (map site_of (command_sites h c))
    command-small (lone k) = simple-small k
    command-small (try k place handler) = small-parts (length h.entities) (simple_sites h k) (block_sites h handler) (simple-small k) (block-small handler)
    command-small (if_else place condition one other) = small-parts (length h.entities) (block_sites h one) (else_sites h other) (block-small one) (else-small other)
    command-small (try_then k place accepted refused) =
        small-parts (length h.entities) (simple_sites h k) (block_sites h accepted ++ block_sites h refused) (simple-small k)
        (small-parts (length h.entities) (block_sites h accepted) (block_sites h refused) (block-small accepted) (block-small refused))
    command-small (case_of place e arms) = arms-small arms

    arms-small : (arms : Arms) → Small (length h.entities) (map site_of (arms_sites h arms))
    arms-small (last_arm b) = block-small b
    arms-small (and_arm constants b arms) = small-parts (length h.entities) (block_sites h b) (arms_sites h arms) (block-small b) (arms-small arms)

    block-small : (b : CommandBlock) → Small (length h.entities) (map site_of (block_sites h b))
    block-small (command_block cs after) = list-small cs

    else-small : (b : ElseBlock) → Small (length h.entities) (map site_of (else_sites h b))
    else-small no_else = tt
    else-small (with_else b) = block-small b

    list-small : (cs : CommandList) → Small (length h.entities) (map site_of (list_sites h cs))
    list-small no_command = tt
    list-small (and_command c cs) = small-parts (length h.entities) (command_sites h c) (list_sites h cs) (command-small c) (list-small cs)

module _ (es : List Entity) (p : 0 < length es) where
  mutual
    unfolding Small

    state-small : (s : StateTree) → Small (length es) (map site_of (state_sites es s))
    state-small (state_node place name kind body children) =
        let h : Surroundings = record { entities = es; home = record { name = name.name; kind = kind; children = children } } in
        small-parts (length es) (block_sites h body) (states_sites es children) (block-small h p body) (states-small children)

    states-small : (ss : StateList) → Small (length es) (map site_of (states_sites es ss))
    states-small no_state = tt
    states-small (and_state s ss) = small-parts (length es) (state_sites es s) (states_sites es ss) (state-small s) (states-small ss)

-- a design with a state has an entity
some-entity : (s : StateTree) (ss : StateList) (es : List Entity) → 0 < length (es ++ group_entities (and_state s ss))
some-entity (state_node place name kind body children) ss es =
    let n = length-append es (group_entities (and_state (state_node place name kind body children) ss)) in omega (arith, n)

all-small : (d : DesignTree) (ss : StateList) → d.states ≡ ss → Small (length (entities_of d)) (map site_of (states_sites (entities_of d) ss))
unfolding Small
all-small d no_state e = tt
all-small d (and_state s ss) e =
    let some : 0 < length (entities_of d) = subst (λ (g : StateList). 0 < length (declared_in d.declarations ++ group_entities g)) (sym e)
    (some-entity s ss (declared_in d.declarations)) in
    states-small (entities_of d) some (and_state s ss)

pub site-within : (d : DesignTree) (k : ℕ) (s : Site) → slice_get (sites_of d) k ≡ Some s → s.entity < length (entities_of d)
site-within d k s h = small-at (length (entities_of d)) (sites_of d) k s (all-small d d.states refl) h
