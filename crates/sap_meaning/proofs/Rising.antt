-- What is refused in a cycle stands in the order of the text.
use Rattle.sap_lemmas.proofs.Common.{◌≡◌, ℕ, zero, suc, ◌≤◌, Bool, true, false, not, List, [], ◌∷◌, ◌++◌, append_assoc, refl, sym, ap, subst, arith, inl, inr, append-nil, cases_Bool, and_from, not-false, or_left, neither_left, neither_right}
use Rattle.sap_meaning.proofs.SitesLemmas.{AreAmong, sites_append, sites_behind, sites_between, sites_front}
use Rattle.sap_maps.specs.Term.{Term}
use Rattle.sap_meaning.specs.Program.{World, is_dynamic, root, Step, assign, write, go_to, fall_to_child, Command, lone, try, if_else, try_then, case_of, Arms, last_arm, and_arm, Block, end_block, command_then, State, state_node, Group, no_node, and_node}
use Rattle.sap_meaning.specs.Store.{Store, child, raise, Refusal, After, stay}
use Rattle.sap_meaning.specs.Checks.{Home, child_opens, guard, test}
use Rattle.sap_meaning.specs.Touches.{touches, raised_alone, root_touches}
use Rattle.sap_meaning.specs.Does.{within, effect, attempt, attempt_then, select, branch, does, does_arms, does_block, does_state, does_child}
use Rattle.sap_meaning.specs.Cycle.{set_inputs, root_fall, cycle}
use Rattle.sap_meaning.specs.Fine.{transfers, Open, Closes, Final, ClosingArms, FineState, FineGroup, NoTransfer}
use Rattle.sap_meaning.specs.Sites.{some_enforced, is_site, PlacedStep, step_sites, command_sites, arms_sites, block_sites, state_sites, group_sites, program_sites, refused_sites, Sublist, RisesFrom}
use Rattle.sap_meaning.specs.Laws.{SitesInOrder}
use Rattle.sap_meaning.proofs.Keeps.{branch_all, choose_all}
use Rattle.sap_meaning.specs.Walks.{EveryInArms, EveryInBlock}

refused-append : (a b : List Refusal) → refused_sites (a ++ b) ≡ refused_sites a ++ refused_sites b
refused-append [] b = refl
refused-append (r ∷ a) b = ap (λ xs. r.site ∷ xs) (refused-append a b)

later_rises : (xs : List ℕ) (n m : ℕ) → n ≤ m → RisesFrom m xs → RisesFrom n xs
later_rises [] n m h r = tt
later_rises (x ∷ xs) n m h r = let k = r.0 in (omega arith, r.1)

sublist_rises : (xs ys : List ℕ) (n : ℕ) → Sublist xs ys → RisesFrom n ys → RisesFrom n xs
sublist_rises [] ys n h r = tt
sublist_rises (x ∷ xs) [] n h r = absurd h
sublist_rises (x ∷ xs) (y ∷ ys) n h r = elim h [
  | inl q ↦ (subst (λ (k : ℕ). n ≤ k) (sym q.0) r.0, sublist_rises xs ys (suc x) q.1 (subst (λ k. RisesFrom (suc k) ys) (sym q.0) r.1))
  | inr q ↦ (let k = r.0 in sublist_rises (x ∷ xs) ys n q (later_rises ys n (suc y) (omega arith) r.1))
]

module _ (w : World) where
  opens_all : (g : Group) → some_enforced w g ≡ false → (n pc : ℕ) (s : Store) → child_opens w g n pc s ≡ true
  opens_all no_node h n pc s = refl
  opens_all (and_node (state_node c b k) g) h zero pc s = or_left _ _ (not-false (is_dynamic w c) (neither_left _ _ h))
  opens_all (and_node (state_node c b k) g) h (suc n) pc s = opens_all g (neither_right (not (is_dynamic w c)) _ h) n pc s

  -- what is no check site is not refused
  serves : (at : Home) (k : Step) → is_site w at.state at.children k ≡ false → (pc : ℕ) (s : Store) → test w at k pc s ≡ true
  serves at (assign site x e) h pc s = or_left _ _ (not-false (is_dynamic w x) h)
  serves at (write site m i e) h pc s = or_left _ _ (not-false (is_dynamic w m) h)
  serves at (go_to site target) h pc s =
      and_from _ _ (or_left _ _ (not-false (is_dynamic w target) (neither_right (not (is_dynamic w at.state)) _ h)))
      (or_left _ _ (not-false (is_dynamic w at.state) (neither_left _ _ h)))
  serves at (fall_to_child site hang) h pc s = opens_all at.children h (child at.state s) pc s
  serves at _ h pc s = cc

  -- what is refused
  abbrev From : After → List PlacedStep → Type 0
  From a ks = AreAmong (refused_sites a.refused) ks

  module _ (at : Home) (enter : ℕ → ℕ → Store → After) (below : List PlacedStep) (entering : (n pc : ℕ) (s : Store) → From (enter n pc s) below) where
    abbrev Own : Step → List PlacedStep
    Own k = step_sites w at.state at.children k

    abbrev OwnBlock : Block → List PlacedStep
    OwnBlock b = block_sites w at.state at.children b

    abbrev OwnArms : Arms → List PlacedStep
    OwnArms arms = arms_sites w at.state at.children arms

    effect_from : (k : Step) (pc : ℕ) (b s : Store) → From (effect (within w at enter) k pc b s) below
    unfolding effect
    effect_from (fall_to_child site hang) pc b s = entering _ _ s
    effect_from _ pc b s = tt

    effect_none : (k : Step) → transfers k ≡ false → (pc : ℕ) (b s : Store) → From (effect (within w at enter) k pc b s) []
    unfolding effect
    effect_none (go_to site target) plain pc b s = cc
    effect_none (fall_to_child site hang) plain pc b s = cc
    effect_none _ plain pc b s = tt

    -- a step whose effect refuses some of ys, and whose handler some of zs
    attempt_from : (k : Step) (hang : ℕ → Bool) (h : ℕ → Store → After) (ys zs : List PlacedStep)
        → ((pc : ℕ) (b s : Store) → From (effect (within w at enter) k pc b s) ys) → ((xs : List ℕ) → AreAmong xs ys → AreAmong xs zs)
        → ((p : ℕ) (t : Store) → From (h p t) zs) → (pc : ℕ) (s : Store) → From (attempt (within w at enter) k hang h pc s) (Own k ++ zs)
    unfolding attempt
    attempt_from k hang h ys zs f into g pc s = elim (cases_Bool (test w at k pc s)) [
      | inl t ↦ rw t (sites_behind _ (Own k) zs (into _ (f pc s _)))
      | inr t ↦ rw t (elim (cases_Bool (is_site w at.state at.children k)) [
        | inl i ↦ rw i (inl (refl, g _ _))
        | inr i ↦ (let no = serves at k i pc s in cc)
      ])
    ]

    select_from : (e : Term ℕ) (hang : ℕ → Bool) (a b : ℕ → Store → After) (ys : List PlacedStep) → ((p : ℕ) (t : Store) → From (a p t) ys)
        → ((p : ℕ) (t : Store) → From (b p t) ys) → (pc : ℕ) (s : Store) → From (select w e hang (branch a b) pc s) ys
    unfolding select
    select_from e hang a b ys f g pc s = branch_all (λ z. From z ys) a b _ _ _ (f _ _) (g _ _)

    -- a step that is no transfer, and whose parts refuse some of ys
    attempt_then_from : (k : Step) → transfers k ≡ false → (hang : ℕ → Bool) (f g : ℕ → Store → After) (ys : List PlacedStep)
        → ((p : ℕ) (t : Store) → From (f p t) ys) → ((p : ℕ) (t : Store) → From (g p t) ys)
        → (pc : ℕ) (s : Store) → From (attempt_then (within w at enter) k hang f g pc s) (Own k ++ ys)
    unfolding attempt_then
    attempt_then_from k plain hang f g ys a b pc s = elim (cases_Bool (test w at k pc s)) [
      | inl t ↦ rw (t, refused-append (effect (within w at enter) k pc s (raise w.order hang (guard w at k s) s)).refused)
          (sites_behind _ (Own k) ys (sites_append _ [] _ ys (effect_none k plain pc s (raise w.order hang (guard w at k s) s)) (a _ _)))
      | inr t ↦ rw t (elim (cases_Bool (is_site w at.state at.children k)) [
        | inl i ↦ rw i (inl (refl, b _ _))
        | inr i ↦ (let no = serves at k i pc s in cc)
      ])
    ]

    pick_from : (e : Term ℕ) (hang : ℕ → Bool) (pick : ℕ → ℕ → Store → After) (ys : List PlacedStep)
        → ((v p : ℕ) (t : Store) → From (pick v p t) ys) → (pc : ℕ) (s : Store) → From (select w e hang pick pc s) ys
    unfolding select
    pick_from e hang pick ys f pc s = f _ _ _

    none : (xs : List ℕ) (ys : List PlacedStep) → AreAmong xs [] → AreAmong xs ys
    none [] ys h = tt
    none (x ∷ xs) ys h = absurd h

    mutual
      unfolding does does_arms does_block

      open_from : (c : Command) → Open c → (pc : ℕ) (s : Store) → From (does (within w at enter) c pc s) (command_sites w at.state at.children c)
      open_from (lone k) plain pc s = subst (λ ys. From (attempt (within w at enter) k (raised_alone w at k) (λ p t. stay t) pc s) ys)
          (append-nil (Own k)) (attempt_from k (raised_alone w at k) (λ p t. stay t) [] [] (effect_none k plain) (λ xs h. h) (λ p t. tt) pc s)
      open_from (try k hang h) plain pc s = attempt_from k (touches w at (try k hang h)) (does_block (within w at enter) h) [] (OwnBlock h)
          (effect_none k plain.0) (λ xs i. none xs (OwnBlock h) i) (λ p t. open_list h plain.1 p t) pc s
      open_from (if_else hang e a b) plain pc s =
          select_from e (touches w at (if_else hang e a b)) (does_block (within w at enter) a) (does_block (within w at enter) b) (OwnBlock a ++ OwnBlock b)
          (λ p t. sites_front _ (OwnBlock a) (OwnBlock b) (open_list a plain.1 p t)) (λ p t. sites_behind _ (OwnBlock a) (OwnBlock b) (open_list b plain.2 p t)) pc s
      open_from (try_then k hang a b) plain pc s =
          attempt_then_from k plain.0 (touches w at (try_then k hang a b)) (does_block (within w at enter) a) (does_block (within w at enter) b) (OwnBlock a ++ OwnBlock b)
          (λ p t. sites_front _ (OwnBlock a) (OwnBlock b) (open_list a plain.1 p t)) (λ p t. sites_behind _ (OwnBlock a) (OwnBlock b) (open_list b plain.2 p t)) pc s
      open_from (case_of hang e arms) plain pc s =
          pick_from e (touches w at (case_of hang e arms)) (does_arms (within w at enter) arms) (OwnArms arms) (λ v p t. open_arms arms plain.1 v p t) pc s

      open_arms : (arms : Arms) → EveryInArms NoTransfer arms → (v pc : ℕ) (s : Store) → From (does_arms (within w at enter) arms v pc s) (OwnArms arms)
      open_arms (last_arm b) plain v pc s = open_list b plain pc s
      open_arms (and_arm cs b arms) plain v pc s =
          choose_all (λ z. From z (OwnBlock b ++ OwnArms arms)) cs (does_block (within w at enter) b) (does_arms (within w at enter) arms) v pc s
          (sites_front _ (OwnBlock b) (OwnArms arms) (open_list b plain.0 pc s)) (sites_behind _ (OwnBlock b) (OwnArms arms) (open_arms arms plain.1 v pc s))

      open_list : (b : Block) → EveryInBlock NoTransfer b → (pc : ℕ) (s : Store) → From (does_block (within w at enter) b pc s) (OwnBlock b)
      open_list end_block plain pc s = tt
      open_list (command_then c cs) plain pc s =
          rw (refused-append (does (within w at enter) c pc s).refused)
          (sites_append _ (command_sites w at.state at.children c) _ (OwnBlock cs) (open_from c plain.0 pc s) (open_list cs plain.1 pc _))

    mutual
      unfolding does does_arms does_block

      final_from : (c : Command) → Final c → (pc : ℕ) (s : Store) → From (does (within w at enter) c pc s) (command_sites w at.state at.children c ++ below)
      final_from (lone k) final pc s = attempt_from k (raised_alone w at k) (λ p t. stay t) below below (effect_from k) (λ xs h. h) (λ p t. tt) pc s
      final_from (try k hang h) final pc s =
          subst (λ ys. From (attempt (within w at enter) k (touches w at (try k hang h)) (does_block (within w at enter) h) pc s) ys) (sym (append_assoc (Own k) (OwnBlock h) below))
          (attempt_from k (touches w at (try k hang h)) (does_block (within w at enter) h) below (OwnBlock h ++ below) (effect_from k)
          (λ xs i. sites_behind xs (OwnBlock h) below i) (λ p t. closing_from h final.1 p t) pc s)
      final_from (if_else hang e a b) final pc s =
          select_from e (touches w at (if_else hang e a b)) (does_block (within w at enter) a) (does_block (within w at enter) b) ((OwnBlock a ++ OwnBlock b) ++ below)
          (λ p t. sites_between _ (OwnBlock a) (OwnBlock b) below (closing_from a final.0 p t))
          (λ p t. subst (λ ys. From (does_block (within w at enter) b p t) ys) (sym (append_assoc (OwnBlock a) (OwnBlock b) below))
          (sites_behind _ (OwnBlock a) (OwnBlock b ++ below) (closing_from b final.1 p t))) pc s
      final_from (try_then k hang a b) final pc s =
          subst (λ ys. From (attempt_then (within w at enter) k (touches w at (try_then k hang a b)) (does_block (within w at enter) a) (does_block (within w at enter) b) pc s) ys)
          (sym (append_assoc (Own k) (OwnBlock a ++ OwnBlock b) below))
          (attempt_then_from k final.0 (touches w at (try_then k hang a b)) (does_block (within w at enter) a) (does_block (within w at enter) b) ((OwnBlock a ++ OwnBlock b) ++ below)
          (λ p t. sites_between _ (OwnBlock a) (OwnBlock b) below (closing_from a final.1 p t))
          (λ p t. subst (λ ys. From (does_block (within w at enter) b p t) ys) (sym (append_assoc (OwnBlock a) (OwnBlock b) below))
          (sites_behind _ (OwnBlock a) (OwnBlock b ++ below) (closing_from b final.2 p t))) pc s)
      final_from (case_of hang e arms) final pc s =
          pick_from e (touches w at (case_of hang e arms)) (does_arms (within w at enter) arms) (OwnArms arms ++ below) (λ v p t. closing_arms arms final v p t) pc s

      closing_arms : (arms : Arms) → ClosingArms arms → (v pc : ℕ) (s : Store) → From (does_arms (within w at enter) arms v pc s) (OwnArms arms ++ below)
      closing_arms (last_arm b) closes v pc s = closing_from b closes pc s
      closing_arms (and_arm cs b arms) closes v pc s =
          choose_all (λ z. From z ((OwnBlock b ++ OwnArms arms) ++ below)) cs (does_block (within w at enter) b) (does_arms (within w at enter) arms) v pc s
          (sites_between _ (OwnBlock b) (OwnArms arms) below (closing_from b closes.0 pc s))
          (subst (λ ys. From (does_arms (within w at enter) arms v pc s) ys) (sym (append_assoc (OwnBlock b) (OwnArms arms) below))
          (sites_behind _ (OwnBlock b) (OwnArms arms ++ below) (closing_arms arms closes.1 v pc s)))

      pub closing_from : (b : Block) → Closes b → (pc : ℕ) (s : Store) → From (does_block (within w at enter) b pc s) (OwnBlock b ++ below)
      closing_from end_block closes pc s = absurd closes
      closing_from (command_then c end_block) closes pc s =
          rw (
            refused-append (does (within w at enter) c pc s).refused,
            append-nil (refused_sites (does (within w at enter) c pc s).refused),
            append-nil (command_sites w at.state at.children c),
          ) (final_from c closes pc s)
      closing_from (command_then c (command_then d ds)) closes pc s =
          rw (refused-append (does (within w at enter) c pc s).refused)
          (subst (λ ys. AreAmong (refused_sites (does (within w at enter) c pc s).refused
          ++ refused_sites (does_block (within w at enter) (command_then d ds) pc (does (within w at enter) c pc s).store).refused) ys)
          (sym (append_assoc (command_sites w at.state at.children c) (OwnBlock (command_then d ds)) below))
          (sites_append _ (command_sites w at.state at.children c) _ (OwnBlock (command_then d ds) ++ below) (open_from c closes.0 pc s)
          (closing_from (command_then d ds) closes.1 pc _)))

  mutual
    unfolding does_state does_child

    state_from : (t : State) (p : ℕ) (q : Group) (n : ℕ) → FineState w q n t → (pc : ℕ) (s : Store) → From (does_state w t p pc s) (state_sites w t)
    state_from (state_node e b g) p q n fine pc s =
        closing_from (record { state = e; parent = p; children = g }) (does_child w g e) (group_sites w g) (λ m z u. child_from g e g 0 fine.1 m z u) b fine.0.closes pc s

    child_from : (g : Group) (p : ℕ) (q : Group) (n : ℕ) → FineGroup w q n g → (m pc : ℕ) (s : Store) → From (does_child w g p m pc s) (group_sites w g)
    child_from no_node p q n fine m pc s = tt
    child_from (and_node t g) p q n fine zero pc s = sites_front _ (state_sites w t) (group_sites w g) (state_from t p q n fine.0 pc s)
    child_from (and_node t g) p q n fine (suc m) pc s = sites_behind _ (state_sites w t) (group_sites w g) (child_from g p q (suc n) fine.1 m pc s)

  root_from : (hang : ℕ → Bool) (p : ℕ) (g : Group) (q : Group) (n : ℕ) → FineGroup w q n g → (m : ℕ) (s : Store)
      → From (root_fall w hang (λ t. does_state w t p) g m s) (group_sites w g)
  unfolding root_fall
  root_from hang p no_node q n fine m s = tt
  root_from hang p (and_node (state_node c b k) g) q n fine zero s =
      sites_front _ (state_sites w (state_node c b k)) (group_sites w g) (state_from (state_node c b k) p q n fine.0 _ _)
  root_from hang p (and_node (state_node c b k) g) q n fine (suc m) s =
      sites_behind _ (state_sites w (state_node c b k)) (group_sites w g) (root_from hang p g q (suc n) fine.1 m s)

pub sites_law : SitesInOrder
unfolding cycle
sites_law p fine inputs s =
    let begun = set_inputs p.world inputs s in
    let f = root_from p.world (root_touches p.world p.states) (root p.world) p.states p.states 0 fine.states (child (root p.world) begun) begun in
    (f, λ n h. sublist_rises _ (program_sites p) n f h)
