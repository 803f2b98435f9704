-- The sites that a cycle comes to stand in the order of the text.
use Rattle.sap_lemmas.proofs.Common.{◌≡◌, ℕ, zero, suc, Bool, true, false, List, [], ◌∷◌, ◌++◌, append_assoc, nat_eq, refl, sym, ap, ◌∙◌, subst, if◌then◌else◌, append-nil}
use Rattle.sap_meaning.proofs.SitesLemmas.{sublist_append, sublist_behind, sublist_between, sublist_front}
use Rattle.sap_maps.specs.Term.{Term}
use Rattle.sap_meaning.specs.Prelude.{within, World, root, Program, Step, fall_to_child, Command, lone, try, if_else, try_then, case_of, Arms, last_arm, and_arm, Block, end_block, command_then, State, state_node, Group, no_node, and_node, Store, child, raise, value, tag, Home, guard, test, touches, root_touches, raised_alone, does, does_child, effect, is_constant, Tagged, set_inputs, transfers, Open, Closes, Final, ClosingArms, FineState, FineGroup, FineProgram, NoTransfer, Sublist, EveryInArms, EveryInBlock}
use Rattle.sap_secure.specs.Once.Steps.{onward, tried, tried_then, picked, chosen, steps, arms_steps, block_steps, state_steps, child_steps, root_steps, cycle_steps}
use Rattle.sap_secure.specs.CheckSites.Once.{own_site, sites_met}
use Rattle.sap_secure.proofs.check_sites.Sublists.{same, none}
use Rattle.sap_secure.proofs.check_sites.Marks.{marks, arms_marks, block_marks, state_marks, group_marks}

met-append : (xs ys : List Step) → sites_met (xs ++ ys) ≡ sites_met xs ++ sites_met ys
met-append [] ys = refl
met-append (x ∷ xs) ys = ap (λ (u : List ℕ). own_site x ++ u) (met-append xs ys) ∙ sym (append_assoc (own_site x) (sites_met xs) (sites_met ys))

abbrev From : List Step → List ℕ → Type 0
From ks ys = Sublist (sites_met ks) ys

either : (b : Bool) (xs ys : List Step) (zs : List ℕ) → From xs zs → From ys zs → From (if b then xs else ys) zs
either true xs ys zs f g = f
either false xs ys zs f g = g

-- steps behind steps
behind : (xs ys : List Step) (as' bs : List ℕ) → From xs as' → From ys bs → From (xs ++ ys) (as' ++ bs)
behind xs ys as' bs f g = subst (λ (u : List ℕ). Sublist u (as' ++ bs)) (sym (met-append xs ys)) (sublist_append (sites_met xs) as' (sites_met ys) bs f g)

module _ (w : World) where
  module _ (at : Home) (entered : ℕ → ℕ → Store → List Step) (below : List ℕ) (entering : (n pc : ℕ) (s : Store) → From (entered n pc s) below) where
    onward_from : (k : Step) (pc : ℕ) (b s : Store) → From (onward w at entered k pc b s) below
    onward_from (fall_to_child site hang) pc b s = entering _ _ s
    onward_from _ pc b s = tt

    onward_none : (k : Step) → transfers k ≡ false → (pc : ℕ) (b s : Store) → From (onward w at entered k pc b s) []
    onward_none (fall_to_child site hang) plain pc b s = cc
    onward_none _ plain pc b s = tt

    -- a step that leads to some of ys, and whose handler to some of zs
    tried_from : (k : Step) (hangs : ℕ → Bool) (h : ℕ → Store → List Step) (ys zs : List ℕ) → ((pc : ℕ) (b s : Store) → From (onward w at entered k pc b s) ys)
        → ((xs : List ℕ) → Sublist xs ys → Sublist xs zs) → ((p : ℕ) (t : Store) → From (h p t) zs) → (pc : ℕ) (s : Store)
        → From (tried w at entered k hangs h pc s) (own_site k ++ zs)
    unfolding tried
    tried_from k hangs h ys zs f into g pc s =
        let r = raise w.order hangs (guard w at k s) s in
        let on = onward w at entered k pc s r in
        let handled = h (w.order.join pc (guard w at k s)) r in
        sublist_append (own_site k) (own_site k) (sites_met (if test w at k pc s then on else handled)) zs (same (own_site k))
        (either (test w at k pc s) on handled zs (into (sites_met on) (f pc s r)) (g (w.order.join pc (guard w at k s)) r))

    chosen_from : (e : Term ℕ) (hangs : ℕ → Bool) (a b : ℕ → Store → List Step) (ys : List ℕ) → ((p : ℕ) (t : Store) → From (a p t) ys)
        → ((p : ℕ) (t : Store) → From (b p t) ys) → (pc : ℕ) (s : Store) → From (chosen w e hangs a b pc s) ys
    unfolding chosen
    chosen_from e hangs a b ys f g pc s =
        let r = raise w.order hangs (tag w e s) s in
        let inside = w.order.join pc (tag w e s) in
        either (nat_eq (value w e s) 0) (b inside r) (a inside r) ys (g inside r) (f inside r)

    -- a step that leads to none, and whose two parts lead to some of zs
    tried_then_from : (k : Step) → transfers k ≡ false → (hangs : ℕ → Bool) (f g : ℕ → Store → List Step) (zs : List ℕ) → ((p : ℕ) (t : Store) → From (f p t) zs)
        → ((p : ℕ) (t : Store) → From (g p t) zs) → (pc : ℕ) (s : Store) → From (tried_then w at entered k hangs f g pc s) (own_site k ++ zs)
    unfolding tried_then
    tried_then_from k plain hangs f g zs accepted refused pc s =
        let r = raise w.order hangs (guard w at k s) s in
        let inside = w.order.join pc (guard w at k s) in
        let on = onward w at entered k pc s r in
        let next = (effect (within w at (does_child w at.children at.state)) k pc s r).store in
        sublist_append (own_site k) (own_site k) (sites_met (if test w at k pc s then on ++ f inside next else g inside r)) zs (same (own_site k))
        (either (test w at k pc s) (on ++ f inside next) (g inside r) zs (behind on (f inside next) [] zs (onward_none k plain pc s r) (accepted inside next)) (refused inside r))

    picked_from : (e : Term ℕ) (hangs : ℕ → Bool) (pick : ℕ → ℕ → Store → List Step) (ys : List ℕ) → ((v p : ℕ) (t : Store) → From (pick v p t) ys) → (pc : ℕ) (s : Store)
        → From (picked w e hangs pick pc s) ys
    unfolding picked
    picked_from e hangs pick ys f pc s = f (value w e s) (w.order.join pc (tag w e s)) (raise w.order hangs (tag w e s) s)

    mutual
      unfolding steps arms_steps block_steps

      open_from : (c : Command) → Open c → (pc : ℕ) (s : Store) → From (steps w at entered c pc s) (marks c)
      open_from (lone k) plain pc s =
          subst (λ (ys : List ℕ). From (tried w at entered k (raised_alone w at k) (λ p t. []) pc s) ys) (append-nil (own_site k))
          (tried_from k (raised_alone w at k) (λ p t. []) [] [] (onward_none k plain) (λ xs h. h) (λ p t. tt) pc s)
      open_from (try k hang h) plain pc s =
          tried_from k (touches w at (try k hang h)) (block_steps w at entered h) [] (block_marks h) (onward_none k plain.0)
          (λ xs i. none xs (block_marks h) i) (λ p t. open_list h plain.1 p t) pc s
      open_from (if_else hang e a b) plain pc s =
          chosen_from e (touches w at (if_else hang e a b)) (block_steps w at entered a) (block_steps w at entered b) (block_marks a ++ block_marks b)
          (λ p t. sublist_front _ (block_marks a) (block_marks b) (open_list a plain.1 p t))
          (λ p t. sublist_behind _ (block_marks a) (block_marks b) (open_list b plain.2 p t)) pc s
      open_from (try_then k hang a b) plain pc s =
          tried_then_from k plain.0 (touches w at (try_then k hang a b)) (block_steps w at entered a) (block_steps w at entered b) (block_marks a ++ block_marks b)
          (λ p t. sublist_front _ (block_marks a) (block_marks b) (open_list a plain.1 p t))
          (λ p t. sublist_behind _ (block_marks a) (block_marks b) (open_list b plain.2 p t)) pc s
      open_from (case_of hang e arms) plain pc s =
          picked_from e (touches w at (case_of hang e arms)) (arms_steps w at entered arms) (arms_marks arms) (λ v p t. open_arms arms plain.1 v p t) pc s

      open_arms : (arms : Arms) → EveryInArms NoTransfer arms → (v pc : ℕ) (s : Store) → From (arms_steps w at entered arms v pc s) (arms_marks arms)
      open_arms (last_arm b) plain v pc s = open_list b plain pc s
      open_arms (and_arm cs b arms) plain v pc s =
          either (is_constant cs v) (block_steps w at entered b pc s) (arms_steps w at entered arms v pc s) (block_marks b ++ arms_marks arms)
          (sublist_front _ (block_marks b) (arms_marks arms) (open_list b plain.0 pc s)) (sublist_behind _ (block_marks b) (arms_marks arms) (open_arms arms plain.1 v pc s))

      open_list : (b : Block) → EveryInBlock NoTransfer b → (pc : ℕ) (s : Store) → From (block_steps w at entered b pc s) (block_marks b)
      open_list end_block plain pc s = tt
      open_list (command_then c cs) plain pc s =
          behind (steps w at entered c pc s) (block_steps w at entered cs pc (does (within w at (does_child w at.children at.state)) c pc s).store) (marks c)
          (block_marks cs) (open_from c plain.0 pc s) (open_list cs plain.1 pc _)

    mutual
      unfolding steps arms_steps block_steps

      final_from : (c : Command) → Final c → (pc : ℕ) (s : Store) → From (steps w at entered c pc s) (marks c ++ below)
      final_from (lone k) final pc s =
          tried_from k (raised_alone w at k) (λ p t. []) below below (onward_from k) (λ xs h. h) (λ p t. tt) pc s
      final_from (try k hang h) final pc s =
          subst (λ (ys : List ℕ). From (tried w at entered k (touches w at (try k hang h)) (block_steps w at entered h) pc s) ys)
          (sym (append_assoc (own_site k) (block_marks h) below))
          (tried_from k (touches w at (try k hang h)) (block_steps w at entered h) below (block_marks h ++ below) (onward_from k)
          (λ xs i. sublist_behind xs (block_marks h) below i) (λ p t. closing_from h final.1 p t) pc s)
      final_from (if_else hang e a b) final pc s =
          chosen_from e (touches w at (if_else hang e a b)) (block_steps w at entered a) (block_steps w at entered b) ((block_marks a ++ block_marks b) ++ below)
          (λ p t. sublist_between _ (block_marks a) (block_marks b) below (closing_from a final.0 p t))
          (λ p t. subst (λ (ys : List ℕ). From (block_steps w at entered b p t) ys) (sym (append_assoc (block_marks a) (block_marks b) below))
          (sublist_behind _ (block_marks a) (block_marks b ++ below) (closing_from b final.1 p t))) pc s
      final_from (try_then k hang a b) final pc s =
          let both = block_marks a ++ block_marks b in
          subst (λ (ys : List ℕ). From (tried_then w at entered k (touches w at (try_then k hang a b)) (block_steps w at entered a) (block_steps w at entered b) pc s) ys)
          (sym (append_assoc (own_site k) both below))
          (tried_then_from k final.0 (touches w at (try_then k hang a b)) (block_steps w at entered a) (block_steps w at entered b) (both ++ below)
          (λ p t. sublist_between _ (block_marks a) (block_marks b) below (closing_from a final.1 p t))
          (λ p t. subst (λ (ys : List ℕ). From (block_steps w at entered b p t) ys) (sym (append_assoc (block_marks a) (block_marks b) below))
          (sublist_behind _ (block_marks a) (block_marks b ++ below) (closing_from b final.2 p t))) pc s)
      final_from (case_of hang e arms) final pc s =
          picked_from e (touches w at (case_of hang e arms)) (arms_steps w at entered arms) (arms_marks arms ++ below) (λ v p t. closing_arms arms final v p t) pc s

      closing_arms : (arms : Arms) → ClosingArms arms → (v pc : ℕ) (s : Store) → From (arms_steps w at entered arms v pc s) (arms_marks arms ++ below)
      closing_arms (last_arm b) final v pc s = closing_from b final pc s
      closing_arms (and_arm cs b arms) final v pc s =
          either (is_constant cs v) (block_steps w at entered b pc s) (arms_steps w at entered arms v pc s) ((block_marks b ++ arms_marks arms) ++ below)
          (sublist_between _ (block_marks b) (arms_marks arms) below (closing_from b final.0 pc s))
          (subst (λ (ys : List ℕ). From (arms_steps w at entered arms v pc s) ys) (sym (append_assoc (block_marks b) (arms_marks arms) below))
          (sublist_behind _ (block_marks b) (arms_marks arms ++ below) (closing_arms arms final.1 v pc s)))

      pub closing_from : (b : Block) → Closes b → (pc : ℕ) (s : Store) → From (block_steps w at entered b pc s) (block_marks b ++ below)
      closing_from end_block closes pc s = absurd closes
      closing_from (command_then c end_block) closes pc s =
          subst (λ (ys : List ℕ). Sublist ys ((marks c ++ []) ++ below)) (sym (met-append (steps w at entered c pc s) [] ∙ append-nil (sites_met (steps w at entered c pc s))))
          (subst (λ (ys : List ℕ). Sublist (sites_met (steps w at entered c pc s)) (ys ++ below)) (sym (append-nil (marks c))) (final_from c closes pc s))
      closing_from (command_then c (command_then d ds)) closes pc s =
          let after = (does (within w at (does_child w at.children at.state)) c pc s).store in
          subst (λ (ys : List ℕ). From (steps w at entered c pc s ++ block_steps w at entered (command_then d ds) pc after) ys)
          (sym (append_assoc (marks c) (block_marks (command_then d ds)) below))
          (behind (steps w at entered c pc s) (block_steps w at entered (command_then d ds) pc after) (marks c) (block_marks (command_then d ds) ++ below)
          (open_from c closes.0 pc s) (closing_from (command_then d ds) closes.1 pc after))

  mutual
    unfolding state_steps child_steps

    state_from : (t : State) (p : ℕ) (q : Group) (n : ℕ) → FineState w q n t → (pc : ℕ) (s : Store) → From (state_steps w t p pc s) (state_marks t)
    state_from (state_node e b g) p q n fine pc s =
        closing_from (record { state = e; parent = p; children = g }) (child_steps w g e) (group_marks g) (λ m z u. child_from g e g 0 fine.1 m z u) b
        fine.0.closes pc s

    child_from : (g : Group) (p : ℕ) (q : Group) (n : ℕ) → FineGroup w q n g → (m pc : ℕ) (s : Store) → From (child_steps w g p m pc s) (group_marks g)
    child_from no_node p q n fine m pc s = tt
    child_from (and_node t g) p q n fine zero pc s = sublist_front _ (state_marks t) (group_marks g) (state_from t p q n fine.0 pc s)
    child_from (and_node t g) p q n fine (suc m) pc s = sublist_behind _ (state_marks t) (group_marks g) (child_from g p q (suc n) fine.1 m pc s)

  root_from : (hangs : ℕ → Bool) (g : Group) (q : Group) (n : ℕ) → FineGroup w q n g → (m : ℕ) (s : Store) → From (root_steps w hangs g m s) (group_marks g)
  unfolding root_steps
  root_from hangs no_node q n fine m s = tt
  root_from hangs (and_node (state_node c b k) g) q n fine zero s =
      sublist_front _ (state_marks (state_node c b k)) (group_marks g) (state_from (state_node c b k) (root w) q n fine.0 _ _)
  root_from hangs (and_node (state_node c b k) g) q n fine (suc m) s =
      sublist_behind _ (state_marks (state_node c b k)) (group_marks g) (root_from hangs g q (suc n) fine.1 m s)

pub sites_from : (p : Program) → FineProgram p → (inputs : List Tagged) (s : Store) → Sublist (sites_met (cycle_steps p inputs s)) (group_marks p.states)
unfolding cycle_steps
sites_from p fine inputs s =
    let begun = set_inputs p.world inputs s in
    root_from p.world (root_touches p.world p.states) p.states p.states 0 fine.states (child (root p.world) begun) begun
