-- What a cycle refuses are steps that it comes to.
use Rattle.sap_lemmas.proofs.Common.{◌≡◌, ℕ, zero, suc, ◌≤◌, Bool, true, false, List, [], ◌∷◌, ◌++◌, map, nat_eq, refl, arith, inl, inr, if◌then◌else◌, ne_eqb, map-append}
use Rattle.sap_meaning.proofs.SitesLemmas.{sublist_append, sublist_behind}
use Rattle.sap_maps.specs.Term.{Term}
use Rattle.sap_meaning.specs.Prelude.{within, World, root, Program, Step, fall_to_child, Command, lone, try, if_else, try_then, case_of, Arms, last_arm, and_arm, Block, end_block, command_then, State, state_node, Group, no_node, and_node, own, Store, level, child, raise, Refusal, After, stay, and_then, value, tag, Home, site_of, guard, test, touches, root_touches, raised_alone, effect, attempt, attempt_then, select, branch, is_constant, does, does_arms, does_block, does_state, does_child, Tagged, set_inputs, root_fall, cycle, refused_sites, Sublist, RisesFrom}
use Rattle.sap_secure.specs.Once.Steps.{onward, tried, tried_then, picked, chosen, steps, arms_steps, block_steps, state_steps, child_steps, root_steps, cycle_steps}
use Rattle.sap_secure.specs.CheckSites.Once.{own_site, sites_met}

-- the numbers of steps, and of what is refused
abbrev numbers : List Step → List ℕ
numbers ks = map site_of ks

-- what is refused are some of the steps, in their order
abbrev Among : After → List Step → Type 0
Among a ks = Sublist (refused_sites a.refused) (numbers ks)

abbrev EachAmong : (ℕ → Store → List Step) → (ℕ → Store → After) → Type 0
EachAmong f g = (pc : ℕ) (s : Store) → Among (g pc s) (f pc s)

both : (a b : List Refusal) (ks js : List Step) → Sublist (refused_sites a) (numbers ks) → Sublist (refused_sites b) (numbers js)
    → Sublist (refused_sites (a ++ b)) (numbers (ks ++ js))
both a b ks js h i =
    let left : refused_sites (a ++ b) ≡ refused_sites a ++ refused_sites b = map-append (λ (r : Refusal). r.site) a b in
    let right : numbers (ks ++ js) ≡ numbers ks ++ numbers js = map-append site_of ks js in
    rw (left, right) (sublist_append (refused_sites a) (numbers ks) (refused_sites b) (numbers js) h i)

-- a step whose test held or not, and what comes after it
either : (k : Step) (i : Bool) (l : ℕ) (ks js : List Step) (p q : After) → Among p ks → Among q js
    → Among (if i then p else (let refusal : Refusal = record { site = site_of k; level = l } in
    record { store = q.store; refused = refusal ∷ q.refused })) (k ∷ (if i then ks else js))
either k true l ks js p q h g = sublist_behind (refused_sites p.refused) (site_of k ∷ []) (numbers ks) h
either k false l ks js p q h g = inl (refl, g)

one_of : (i : Bool) (ks js : List Step) (p q : After) → Among p ks → Among q js → Among (if i then p else q) (if i then ks else js)
one_of true ks js p q h g = h
one_of false ks js p q h g = g

module _ (w : World) where
  module _ (at : Home) (entered : ℕ → ℕ → Store → List Step) (below : (n : ℕ) → EachAmong (entered n) (does_child w at.children at.state n)) where
    effect_among : (k : Step) (pc : ℕ) (b s : Store) → Among (effect (within w at (does_child w at.children at.state)) k pc b s) (onward w at entered k pc b s)
    unfolding effect
    effect_among (fall_to_child site hang) pc b s = below _ _ s
    effect_among _ pc b s = tt

    attempt_among : (k : Step) (hangs : ℕ → Bool) (f : ℕ → Store → List Step) (h : ℕ → Store → After) → EachAmong f h
        → EachAmong (tried w at entered k hangs f) (attempt (within w at (does_child w at.children at.state)) k hangs h)
    unfolding tried attempt
    attempt_among k hangs f h c pc s =
        let r = raise w.order hangs (guard w at k s) s in
        let inside = w.order.join pc (guard w at k s) in
        either k (test w at k pc s) inside (onward w at entered k pc s r) (f inside r) (effect (within w at (does_child w at.children at.state)) k pc s r) (h inside r)
        (effect_among k pc s r) (c inside r)

    attempt_then_among : (k : Step) (hangs : ℕ → Bool) (f g : ℕ → Store → List Step) (a h : ℕ → Store → After) → EachAmong f a → EachAmong g h
        → EachAmong (tried_then w at entered k hangs f g) (attempt_then (within w at (does_child w at.children at.state)) k hangs a h)
    unfolding tried_then attempt_then
    attempt_then_among k hangs f g a h c d pc s =
        let r = raise w.order hangs (guard w at k s) s in
        let inside = w.order.join pc (guard w at k s) in
        let on = onward w at entered k pc s r in
        let done = effect (within w at (does_child w at.children at.state)) k pc s r in
        either k (test w at k pc s) inside (on ++ f inside done.store) (g inside r) (and_then done (a inside)) (h inside r)
        (both done.refused (a inside done.store).refused on (f inside done.store) (effect_among k pc s r) (c inside done.store)) (d inside r)

    select_among : (e : Term ℕ) (hangs : ℕ → Bool) (f g : ℕ → Store → List Step) (a b : ℕ → Store → After) → EachAmong f a → EachAmong g b
        → EachAmong (chosen w e hangs f g) (select w e hangs (branch a b))
    unfolding chosen select
    select_among e hangs f g a b c d pc s =
        let r = raise w.order hangs (tag w e s) s in
        let inside = w.order.join pc (tag w e s) in
        one_of (nat_eq (value w e s) 0) (g inside r) (f inside r) (b inside r) (a inside r) (d inside r) (c inside r)

    pick_among : (e : Term ℕ) (hangs : ℕ → Bool) (f : ℕ → ℕ → Store → List Step) (a : ℕ → ℕ → Store → After) → ((v : ℕ) → EachAmong (f v) (a v))
        → EachAmong (picked w e hangs f) (select w e hangs a)
    unfolding picked select
    pick_among e hangs f a c pc s = c (value w e s) (w.order.join pc (tag w e s)) (raise w.order hangs (tag w e s) s)

    mutual
      unfolding steps arms_steps block_steps does does_arms does_block

      does_among : (c : Command) → EachAmong (steps w at entered c) (does (within w at (does_child w at.children at.state)) c)
      does_among (lone k) pc s = attempt_among k (raised_alone w at k) (λ pc s. []) (λ pc s. stay s) (λ pc s. tt) pc s
      does_among (try k hang h) pc s =
          attempt_among k (touches w at (try k hang h)) (block_steps w at entered h) (does_block (within w at (does_child w at.children at.state)) h) (block_among h) pc s
      does_among (if_else hang e a b) pc s =
          select_among e (touches w at (if_else hang e a b)) (block_steps w at entered a) (block_steps w at entered b)
          (does_block (within w at (does_child w at.children at.state)) a) (does_block (within w at (does_child w at.children at.state)) b) (block_among a) (block_among b) pc s
      does_among (try_then k hang a b) pc s =
          attempt_then_among k (touches w at (try_then k hang a b)) (block_steps w at entered a) (block_steps w at entered b)
          (does_block (within w at (does_child w at.children at.state)) a) (does_block (within w at (does_child w at.children at.state)) b) (block_among a) (block_among b) pc s
      does_among (case_of hang e arms) pc s =
          pick_among e (touches w at (case_of hang e arms)) (arms_steps w at entered arms) (does_arms (within w at (does_child w at.children at.state)) arms) (arms_among arms) pc s

      arms_among : (arms : Arms) (v : ℕ) → EachAmong (arms_steps w at entered arms v) (does_arms (within w at (does_child w at.children at.state)) arms v)
      arms_among (last_arm b) v pc s = block_among b pc s
      arms_among (and_arm cs b arms) v pc s =
          one_of (is_constant cs v) (block_steps w at entered b pc s) (arms_steps w at entered arms v pc s) (does_block (within w at (does_child w at.children at.state)) b pc s)
          (does_arms (within w at (does_child w at.children at.state)) arms v pc s) (block_among b pc s) (arms_among arms v pc s)

      pub block_among : (b : Block) → EachAmong (block_steps w at entered b) (does_block (within w at (does_child w at.children at.state)) b)
      block_among end_block pc s = tt
      block_among (command_then c cs) pc s =
          let done = does (within w at (does_child w at.children at.state)) c pc s in
          both done.refused (does_block (within w at (does_child w at.children at.state)) cs pc done.store).refused (steps w at entered c pc s) (block_steps w at entered cs pc done.store)
          (does_among c pc s) (block_among cs pc done.store)

  mutual
    unfolding state_steps child_steps does_state does_child

    state_among : (t : State) (parent : ℕ) → EachAmong (state_steps w t parent) (does_state w t parent)
    state_among (state_node s b g) parent pc st =
        let at : Home = record { state = s; parent = parent; children = g } in
        block_among at (child_steps w g s) (λ n. child_among g s n) b pc st

    child_among : (g : Group) (parent n : ℕ) → EachAmong (child_steps w g parent n) (does_child w g parent n)
    child_among no_node parent n pc st = tt
    child_among (and_node t g) parent zero pc st = state_among t parent pc st
    child_among (and_node t g) parent (suc n) pc st = child_among g parent n pc st

  root_among : (hangs : ℕ → Bool) (g : Group) (n : ℕ) (s : Store) → Among (root_fall w hangs (λ t. does_state w t (root w)) g n s) (root_steps w hangs g n s)
  unfolding root_steps root_fall
  root_among hangs no_node n s = tt
  root_among hangs (and_node (state_node c b k) g) zero s =
      state_among (state_node c b k) (root w) (level w (own c) s) (raise w.order hangs (level w (own c) s) s)
  root_among hangs (and_node (state_node c b k) g) (suc n) s = root_among hangs g n s

cycle_among : (p : Program) (inputs : List Tagged) (s : Store) → Sublist (refused_sites (cycle p inputs s).refused) (numbers (cycle_steps p inputs s))
unfolding cycle_steps cycle
cycle_among p inputs s =
    let begun = set_inputs p.world inputs s in
    root_among p.world (root_touches p.world p.states) p.states (child (root p.world) begun) begun

-- numbers from 1 on are those of sites
sites_among : (n : ℕ) → 1 ≤ n → (xs : List ℕ) → RisesFrom n xs → (ks : List Step) → Sublist xs (numbers ks) → Sublist xs (sites_met ks)
sites_among n positive [] rises ks h = tt
sites_among n positive (x ∷ xs) rises [] h = absurd h
sites_among n positive (x ∷ xs) rises (k ∷ ks) (inl h) =
    let low : n ≤ x = rises.0 in
    let same : x ≡ site_of k = h.0 in
    let site : nat_eq (site_of k) 0 ≡ false = ne_eqb (site_of k) 0 (λ e. omega arith) in
    rw site (inl (h.0, sites_among (suc x) (omega arith) xs rises.1 ks h.1))
sites_among n positive (x ∷ xs) rises (k ∷ ks) (inr h) =
    sublist_behind (x ∷ xs) (own_site k) (sites_met ks) (sites_among n positive (x ∷ xs) rises ks h)

pub refused_met : (p : Program) (inputs : List Tagged) (s : Store) → RisesFrom 1 (refused_sites (cycle p inputs s).refused)
    → Sublist (refused_sites (cycle p inputs s).refused) (sites_met (cycle_steps p inputs s))
refused_met p inputs s rises = sites_among 1 (omega arith) (refused_sites (cycle p inputs s).refused) rises (cycle_steps p inputs s) (cycle_among p inputs s)
