-- Confinement of a command on the active path.
use Rattle.sap_lemmas.proofs.Common.{◌≡◌, ℕ, zero, suc, true, false, ◌||◌, List, [], ◌∷◌, refl, sym, ◌∙◌, subst, nat_eq, inl, inr, ◌⊎◌, cases_Bool, and_from, false_from_ne_true, ne_eqb, or_from, or_left, or_right, and_left, and_right, neither_left, neither_right, test_of_same}
use Rattle.sap_meaning.proofs.ProgramLemmas.{register_no_memory}
use Rattle.sap_meaning.proofs.FineLemmas.{inside_among}
use Rattle.sap_lattice.specs.Order.{Laws}
use Rattle.sap_meaning.specs.Prelude.{within, seen, StatesAgree, Program, World, Kind, entity, kind_is_input, kind_is_register, kind_is_memory, is_dynamic, is_register, is_memory, is_state, root, below, Step, assign, write, go_to, fall_to_child, Command, lone, try, if_else, try_then, case_of, Arms, last_arm, and_arm, Block, end_block, command_then, State, state_node, Group, no_node, and_node, own, next, next_whole, Store, home, level, child, among, step_hangs, hangs, touches, group_assigns, step_retags, retags, block_retags, state_retags, group_retags, does, does_child, Holds, High, FineTerm, FineStep, FineCommand, inside, number_of, kids_of, ClosingArms, NoTransfer, reaches, Every, EveryInArms, some_in_arms}
use Rattle.sap_meaning.specs.Program.{input}
use Rattle.sap_meaning.specs.Fine.{FineProgram, Nth}
use Rattle.sap_secure.specs.Confinement.{done_in, Hidden, last_parent, Active, StandsIn, StandsInBlock, is_goto, is_fall, has_goto, has_fall, level_slot, EqualParts, SomeHigh, Guarded, Confinement, StandsInArms}
use Rattle.sap_meaning.proofs.WalksLemmas.{some_follows}
use Rattle.sap_secure.proofs.Apart.{found, hung, unassigned, group_unassigned, inside_state, state_no_register, state_no_memory, register_apart, memory_apart}
use Rattle.sap_secure.proofs.Concerns.{concerns, hanging}
use Rattle.sap_secure.proofs.Sites.{Around, Site, spot, Proper, ProperBlock, Ended, Shut, node, own_fine, kids_around, around_root, proper_body, fine_command, not_own, no_kid, ProperArms}
use Rattle.sap_secure.proofs.Frames.{Kept, child_under, under_kept}
use Rattle.sap_secure.proofs.Confined.{Confined, Quiet, changing_no_state, site_at, keeps, does_confined}
use Rattle.sap_secure.proofs.Walks.{path, path_here, path_high, nth_among}
use Rattle.sap_secure.proofs.Still.{Scene, Cover, clear_path, does_still}
use Rattle.sap_secure.proofs.Over.{nth_inside, nth_below, scene_at}
use Rattle.sap_secure.proofs.Relations.{kid_around, states_agree, paths_alike}

-- a command in the body is proper, and closes or is open
module _ (w : World) (i : Site w) where
  mutual
    proper_in : (c d : Command) → StandsIn c d → Proper w i d → Ended d → Proper w i c × Ended c
    proper_in c (lone k) h p e = subst (λ x. Proper w i x × Ended x) (sym h) (p, e)
    proper_in c (try k hang b) h p e = elim h [
      | inl q ↦ subst (λ x. Proper w i x × Ended x) (sym q) (p, e)
      | inr q ↦ proper_in_block c b q p.1 (elim e [ inl f ↦ inl f.1 | inr f ↦ inr f.1 ])
    ]
    proper_in c (if_else hang t a b) h p e = elim h [
      | inl q ↦ subst (λ x. Proper w i x × Ended x) (sym q) (p, e)
      | inr q ↦ elim q [
        | inl r ↦ proper_in_block c a r p.1 (elim e [ inl f ↦ inl f.0 | inr f ↦ inr f.1 ])
        | inr r ↦ proper_in_block c b r p.2 (elim e [ inl f ↦ inl f.1 | inr f ↦ inr f.2 ])
      ]
    ]
    proper_in c (try_then k hang a b) h p e = elim h [
      | inl q ↦ subst (λ x. Proper w i x × Ended x) (sym q) (p, e)
      | inr q ↦ elim q [
        | inl r ↦ proper_in_block c a r p.1 (elim e [ inl f ↦ inl f.1 | inr f ↦ inr f.1 ])
        | inr r ↦ proper_in_block c b r p.2 (elim e [ inl f ↦ inl f.2 | inr f ↦ inr f.2 ])
      ]
    ]
    proper_in c (case_of hang t arms) h p e = elim h [
      | inl q ↦ subst (λ x. Proper w i x × Ended x) (sym q) (p, e)
      | inr q ↦ proper_in_arms c arms q p.1 (elim e [ inl f ↦ inl f | inr f ↦ inr f.1 ])
    ]

    proper_in_arms : (c : Command) (arms : Arms) → StandsInArms c arms → ProperArms w i arms → ClosingArms arms ⊎ EveryInArms NoTransfer arms → Proper w i c × Ended c
    proper_in_arms c (last_arm b) h p e = proper_in_block c b h p e
    proper_in_arms c (and_arm constants b arms) h p e = elim h [
      | inl q ↦ proper_in_block c b q p.0 (elim e [ inl f ↦ inl f.0 | inr f ↦ inr f.0 ])
      | inr q ↦ proper_in_arms c arms q p.1 (elim e [ inl f ↦ inl f.1 | inr f ↦ inr f.1 ])
    ]

    proper_in_block : (c : Command) (b : Block) → StandsInBlock c b → ProperBlock w i b → Shut b → Proper w i c × Ended c
    proper_in_block c end_block h p e = absurd h
    proper_in_block c (command_then d end_block) h p e = elim h [
      | inl q ↦ proper_in c d q p.0 (elim e [ inl f ↦ inl f | inr f ↦ inr f.0 ])
      | inr q ↦ absurd q
    ]
    proper_in_block c (command_then d (command_then j js)) h p e = elim h [
      | inl q ↦ proper_in c d q p.0 (elim e [ inl f ↦ inr f.0 | inr f ↦ inr f.0 ])
      | inr q ↦ proper_in_block c (command_then j js) q p.1 (elim e [ inl f ↦ inl f.1 | inr f ↦ inr f.1 ])
    ]

-- by which steps a state and its children hang on a command
module _ (w : World) (i : Site w) where
  out : (x : ℕ) → is_state w x ≡ true → group_assigns i.kids x ≡ false
  out x s = group_unassigned w x (state_no_register w x s) (state_no_memory w x s) i.kids 0 i.kids (own_fine w i).1

  own_out : among i.kids i.state ≡ false
  own_out = false_from_ne_true _ (λ h. let f =
      neither_left (nat_eq i.state i.state) _ ((kids_around w i).apart i.state (inside_among i.kids i.state h)) in let k = test_of_same i.state in cc)

  step_own : (k : Step) → FineStep w i.siblings i.kids k → step_hangs i.state i.kids k i.state ≡ true → is_goto k ≡ true
  step_own (assign site y t) fine h = let no = register_apart w i.state y (node w i).kind fine.0 in cc
  step_own (write site m j t) fine h = let no = memory_apart w i.state m (node w i).kind fine.0 in cc
  step_own (go_to site target) fine h = refl
  step_own (fall_to_child site hang) fine h = let no = or_from _ _ own_out (out i.state (node w i).kind) in cc
  step_own _ fine h = cc

  own_goto : (c : Command) → Every (FineCommand w i.siblings i.kids) c → hangs i.state i.kids c i.state ≡ true → has_goto c ≡ true
  own_goto c fine h =
      some_follows (FineStep w i.siblings i.kids) (FineTerm w) (λ k. step_hangs i.state i.kids k i.state) (λ k. is_goto k) step_own c fine h

  module _ (x : ℕ) (s : is_state w x ≡ true) (other : nat_eq x i.state ≡ false) where
    step_kid : (k : Step) → FineStep w i.siblings i.kids k → step_hangs i.state i.kids k x ≡ true → is_fall k ≡ true
    step_kid (assign site y t) fine h = let no = register_apart w x y s fine.0 in cc
    step_kid (write site m j t) fine h = let no = memory_apart w x m s fine.0 in cc
    step_kid (fall_to_child site hang) fine h = refl
    step_kid _ fine h = cc

    kid_fall : (c : Command) → Every (FineCommand w i.siblings i.kids) c → hangs i.state i.kids c x ≡ true → has_fall c ≡ true
    kid_fall c fine h = some_follows (FineStep w i.siblings i.kids) (FineTerm w) (λ k. step_hangs i.state i.kids k x) (λ k. is_fall k) step_kid c fine h

-- an input is no register and no memory
input_alone : (k : Kind) → kind_is_register k ≡ false → (kind_is_input k || kind_is_register k) ≡ true → (kind_is_register k ≡ false) × (kind_is_memory k ≡ false)
input_alone input r h = (refl, refl)
input_alone _ r h = cc

-- a command of a block retags what the block retags
mutual
  retags_in : (c d : Command) → StandsIn c d → (x : ℕ) → retags d x ≡ false → retags c x ≡ false
  retags_in c (lone k) h x n = subst (λ y. retags y x ≡ false) (sym h) n
  retags_in c (try k hang b) h x n = elim h [
    | inl q ↦ subst (λ y. retags y x ≡ false) (sym q) n
    | inr q ↦ retags_in_block c b q x (neither_right (step_retags k x) _ n)
  ]
  retags_in c (if_else hang t a b) h x n = elim h [
    | inl q ↦ subst (λ y. retags y x ≡ false) (sym q) n
    | inr q ↦ elim q [
      | inl r ↦ retags_in_block c a r x (neither_left _ _ n)
      | inr r ↦ retags_in_block c b r x (neither_right (block_retags a x) _ n)
    ]
  ]
  retags_in c (try_then k hang a b) h x n = elim h [
    | inl q ↦ subst (λ y. retags y x ≡ false) (sym q) n
    | inr q ↦ elim q [
      | inl r ↦ retags_in_block c a r x (neither_left _ _ (neither_right (step_retags k x) _ n))
      | inr r ↦ retags_in_block c b r x (neither_right (block_retags a x) _ (neither_right (step_retags k x) _ n))
    ]
  ]
  retags_in c (case_of hang t arms) h x n = elim h [
    | inl q ↦ subst (λ y. retags y x ≡ false) (sym q) n
    | inr q ↦ retags_in_arms c arms q x n
  ]

  retags_in_arms : (c : Command) (arms : Arms) → StandsInArms c arms → (x : ℕ) → some_in_arms (λ k. step_retags k x) arms ≡ false → retags c x ≡ false
  retags_in_arms c (last_arm b) h x n = retags_in_block c b h x n
  retags_in_arms c (and_arm constants b arms) h x n = elim h [
    | inl q ↦ retags_in_block c b q x (neither_left _ _ n)
    | inr q ↦ retags_in_arms c arms q x (neither_right (block_retags b x) _ n)
  ]

  retags_in_block : (c : Command) (b : Block) → StandsInBlock c b → (x : ℕ) → block_retags b x ≡ false → retags c x ≡ false
  retags_in_block c end_block h x n = absurd h
  retags_in_block c (command_then d ds) h x n = elim h [
    | inl q ↦ retags_in c d q x (neither_left _ _ n)
    | inr q ↦ retags_in_block c ds q x (neither_right (retags d x) _ n)
  ]

nth_retags : (g : Group) (n : ℕ) (t : State) → Nth g n t → (x : ℕ) → group_retags g x ≡ false → state_retags t x ≡ false
nth_retags no_node n t h x r = absurd h
nth_retags (and_node a g) zero t h x r = subst (λ y. state_retags y x ≡ false) h (neither_left _ _ r)
nth_retags (and_node a g) (suc n) t h x r = nth_retags g n t h x (neither_right (state_retags a x) _ r)

-- the group in which the way ends that begins in a group and goes down through those states
abbrev last_group : Group → (way : List State) → Group
last_group g [] = g
last_group g (t ∷ way) = last_group (kids_of t) way

-- the groups down the way
module _ (w : World) (laws : Laws w.order) (l : ℕ) where
  around_last : (p : ℕ) (g : Group) (s : Store) (way : List State) (t : State) → Around w p g → Active p g s way t → Around w (last_parent p way) (last_group g way)
  around_last p g s [] t around a = around
  around_last p g s (x ∷ way) t around a = around_last (number_of x) (kids_of x) s way t (kid_around w laws l p g (child p s) x a.0 around) a.1

  last_nth : (p : ℕ) (g : Group) (s : Store) (way : List State) (t : State) → Active p g s way t → Nth (last_group g way) (child (last_parent p way) s) t
  last_nth p g s [] t a = a
  last_nth p g s (x ∷ way) t a = last_nth (number_of x) (kids_of x) s way t a.1

  last_inside : (p : ℕ) (g : Group) (s : Store) (way : List State) (t : State) → Active p g s way t → (x : ℕ) → inside (last_group g way) x ≡ true → inside g x ≡ true
  last_inside p g s [] t a x h = h
  last_inside p g s (state_node c b k ∷ way) t a x h = nth_below g (child p s) c b k a.0 x (last_inside c k s way t a.1 x h)

  last_within : (p : ℕ) (g : Group) (s : Store) (way : List State) (t : State) → Active p g s way t → (last_parent p way ≡ p) ⊎ (inside g (last_parent p way) ≡ true)
  last_within p g s [] t a = inl refl
  last_within p g s (state_node c b k ∷ way) t a = elim (last_within c k s way t a.1) [
    | inl e ↦ inr (subst (λ x. inside g x ≡ true) (sym e) (nth_inside g (child p s) c b k a.0))
    | inr i ↦ inr (nth_below g (child p s) c b k a.0 (last_parent c way) i)
  ]

  last_retags : (p : ℕ) (g : Group) (s : Store) (way : List State) (t : State) → Active p g s way t → (x : ℕ) → group_retags g x ≡ false → state_retags t x ≡ false
  last_retags p g s [] t a x r = nth_retags g (child p s) t a x r
  last_retags p g s (state_node c b k ∷ way) t a x r = last_retags c k s way t a.1 x (neither_right (block_retags b x) _ (nth_retags g (child p s) (state_node c b k) a.0 x r))

  -- the levels of the states of a way, and the current children that it takes
  abbrev Kepts : Store → Store → ℕ → List State → Type 0
  Kepts s u p [] = Unit {0}
  Kepts s u p (t ∷ way) = Kept w (own (number_of t)) p s u × Kepts s u (number_of t) way

  -- the path stays, if it ends on the way or stays below it
  way_path : (p : ℕ) (g : Group) (s u : Store) (way : List State) (t : State) → Active p g s way t → Kepts s u p way → SomeHigh w l s way
      ⊎ (path w l (last_parent p way) (last_group g way) u ≡ path w l (last_parent p way) (last_group g way) s) → path w l p g u ≡ path w l p g s
  way_path p g s u [] t a k e = elim e [ inl h ↦ absurd h | inr q ↦ q ]
  way_path p g s u (state_node c b j ∷ way) t a k e = elim (cases_Bool (w.order.le (level w (own c) s) l)) [
    | inl low ↦ (
        let rest : path w l c j u ≡ path w l c j s = way_path c j s u way t a.1 k.1 (elim e [ inl h ↦ elim h [ inl y ↦ cc | inr y ↦ inl y ] | inr q ↦ inr q ]) in
        path_here w l p (child p s) c b j g u a.0 k.0.seat ∙ rw (k.0.level, rest) refl ∙ sym (path_here w l p (child p s) c b j g s a.0 refl))
    | inr high ↦
        path_high w laws l p (child p s) g (state_node c b j) u a.0 k.0.seat (subst (λ v. High w.order l v) (sym k.0.level) high)
        ∙ sym (path_high w laws l p (child p s) g (state_node c b j) s a.0 refl high)
  ]

  module _ (s : Store) (e : ℕ) (b : Block) (g : Group) (d : Command) (inn : StandsInBlock d b) (pc : ℕ) where
    -- a command in the body of the last state leaves a state above it as it was
    above_kept : (p : ℕ) (q : Group) (around : Around w p q) (c : ℕ) (b' : Block) (k : Group) → Nth q (child p s) (state_node c b' k)
        → (way : List State) → (act : Active c k s way (state_node e b g)) → (u : Store)
        → Kept w (own c) p u (does (within w (record { state = e; parent = last_parent c way; children = g }) (does_child w g e)) d pc u).store
    above_kept p q around c b' k nth way act u =
        under_kept w c p (node w i).kind e (last_parent c way) g (last_group k way) (does_child w g e) out own_out kids_out free away
        (λ m z v. child_under w c p (node w i).kind g e g 0 (own_fine w j).1
        (λ x h. out x (nth_below (last_group k way) (child (last_parent c way) s) e b g self x h)) (λ x h. h) kid_away (neither_right (block_retags b c) _ untagged) m z v)
        d (fine_command w j d (proper_in_block w j d b inn (proper_body w j) (inl (node w j).closes)).0) (retags_in_block d b inn c (neither_left _ _ untagged)) pc u
      where
        i : Site w
        i = site_at w p (child p s) c b' k q around nth

        last : Around w (last_parent c way) (last_group k way)
        last = around_last c k s way (state_node e b g) (kids_around w i) act

        self : Nth (last_group k way) (child (last_parent c way) s) (state_node e b g)
        self = last_nth c k s way (state_node e b g) act

        j : Site w
        j = site_at w (last_parent c way) (child (last_parent c way) s) e b g (last_group k way) last self

        away : nat_eq p (last_parent c way) ≡ false
        away = elim (last_within c k s way (state_node e b g) act) [
          | inl z ↦ subst (λ x. nat_eq p x ≡ false) (sym z) (neither_left (nat_eq p c) (below w c p) (around.apart c (nth_inside q (child p s) c b' k nth)))
          | inr z ↦ neither_left (nat_eq p (last_parent c way)) (below w (last_parent c way) p)
              (around.apart (last_parent c way) (nth_below q (child p s) c b' k nth (last_parent c way) z))
        ]

        out : (x : ℕ) → inside (last_group k way) x ≡ true → ((nat_eq c x || below w x c) ≡ false) × ((nat_eq p x || below w x p) ≡ false)
        out x h =
            let y = last_inside c k s way (state_node e b g) act x h in
            ((kids_around w i).apart x y, around.apart x (nth_below q (child p s) c b' k nth x y))

        e_inside : inside (last_group k way) e ≡ true
        e_inside = nth_inside (last_group k way) (child (last_parent c way) s) e b g self

        own_out : nat_eq c e ≡ false
        own_out = neither_left (nat_eq c e) (below w e c) (out e e_inside).0

        kid_away : nat_eq p e ≡ false
        kid_away = neither_left (nat_eq p e) (below w e p) (out e e_inside).1

        kids_out : among g c ≡ false
        kids_out = false_from_ne_true _ (λ h.
            let f = neither_left (nat_eq c c) (below w c c) (out c (nth_below (last_group k way) (child (last_parent c way) s) e b g self c (inside_among g c h))).0 in
            let z = test_of_same c in cc)

        free : group_assigns g c ≡ false
        free = group_unassigned w c (state_no_register w c (node w i).kind) (state_no_memory w c (node w i).kind) g 0 g (own_fine w j).1

        untagged : (block_retags b c || group_retags g c) ≡ false
        untagged = last_retags c k s way (state_node e b g) act c (neither_right (block_retags b' c) _ (node w i).retags_itself)

    all_kept : (p : ℕ) (q : Group) (around : Around w p q) (way : List State) → (act : Active p q s way (state_node e b g))
        → Kepts s (does (within w (record { state = e; parent = last_parent p way; children = g }) (does_child w g e)) d pc s).store p way
    all_kept p q around [] act = tt
    all_kept p q around (state_node c b' k ∷ way) act =
        (above_kept p q around c b' k act.0 way act.1 s, all_kept c k (kids_around w (site_at w p (child p s) c b' k q around act.0)) way act.1)

module _ (w : World) (laws : Laws w.order) (l : ℕ) (i : Site w) (c : Command) (fine : Proper w i c) (s : Store) where
  -- what the conditions say of the slots that it touches
  quiet_of : ((x : ℕ) → (is_register w x || is_memory w x) ≡ true → touches w (spot i) c x ≡ true → High w.order l (s.level (level_slot w x)))
      → ((m : ℕ) → is_memory w m ≡ true → is_dynamic w m ≡ false → reaches i.kids c m ≡ true → EqualParts w m s) → Quiet w l (concerns w i.state i.kids c) s
  quiet_of f g (own x) k h = (λ d. dynamic d (cases_Bool (is_register w x)), λ d. inl refl)
    where
      dynamic : is_dynamic w x ≡ true → ((is_register w x ≡ true) ⊎ (is_register w x ≡ false)) → High w.order l (s.level (own x))
      dynamic d (inl r) =
          let n : is_memory w x ≡ false = register_no_memory (entity w x).kind r in
          let high = f x (or_left _ _ r) (hanging w i.state i.kids c x (and_from _ _ d h)) in
          rw n at high
      dynamic d (inr r) =
          let z = input_alone (entity w x).kind r k in
          let st = changing_no_state w (own x) k in
          let y = found i.state i.kids x (not_own w i x st) (no_kid w i x st) c (and_right (is_dynamic w x) _ (hanging w i.state i.kids c x (and_from _ _ d h))) in
          let no = or_from _ _ (unassigned w x z.0 z.1 i.siblings i.kids c (fine_command w i c fine)) (group_unassigned w x z.0 z.1 i.kids 0 i.kids (own_fine w i).1) in
          cc
  quiet_of f g (next m j) k h = (
    λ d. (let high = f m (or_right _ _ k) (hanging w i.state i.kids c m (and_from _ _ d h)) in let high' = rw k at high in
        subst (λ z. High w.order l (s.level z)) (sym (whole m j d)) high'),
    λ d. (let st = changing_no_state w (next m j) k in
        let r = hung w m k d i.state i.kids (not_own w i m st) (no_kid w i m st) i.siblings i.kids c (fine_command w i c fine) h in
        inl (g m k d r j).1),
  )
    where
      whole : (m j : ℕ) → is_dynamic w m ≡ true → home w (next m j) ≡ next_whole m
      whole m j d = rw d refl
  quiet_of f g _ k h = cc

  -- and of the state and its current child
  cover_of : High w.order l (level w (own i.state) s) ⊎ Guarded w l (state_node i.state i.body i.kids) c s → Cover w l i.state i.kids (touches w (spot i) c) s
  cover_of (inl high) = record { own_high = λ h. high; kid_high = λ a n low h. cc }
  cover_of (inr f) = record {
    own_high = λ h. (let d = and_left (is_dynamic w i.state) _ h in let no = f.0 (own_goto w i c (fine_command w i c fine) (and_right (is_dynamic w i.state) _ h)) in cc);
    kid_high = λ a n low h.
        let m = inside_among i.kids (number_of a) (nth_among i.kids (child i.state s) a n) in
        f.1 (kid_fall w i (number_of a) (inside_state w i.kids 0 i.kids (own_fine w i).1 (number_of a) m) (other (number_of a) m) c
        (fine_command w i c fine) (and_right (is_dynamic w (number_of a)) _ h)) a n (and_left _ _ h);
  }
    where
      other : (x : ℕ) → inside i.kids x ≡ true → nat_eq x i.state ≡ false
      other x m = ne_eqb x i.state (λ z. let f = neither_left (nat_eq i.state x) (below w x i.state) ((kids_around w i).apart x m) in
          let y = subst (λ v. nat_eq i.state v ≡ true) (sym z) (test_of_same i.state) in cc)

-- the law, for a state in its parts
by_state : (p : Program) → FineProgram p → (l : ℕ) (s : Store) (way : List State) (t : State) (c : Command) (pc : ℕ)
    → (h : Hidden p l s (record { way = way; state = t; command = c; context = pc }))
    → StatesAgree p l s (done_in p (record { way = way; state = t; command = c; context = pc }) s).store
    × (seen p.world.order l (done_in p (record { way = way; state = t; command = c; context = pc }) s).refused ≡ [])
unfolding scene_at
by_state p fine l s way (state_node e b g) c pc h =
    (states_agree p fine.order l s _ conf.same (paths_alike p.world fine.order l s _ h.holds kept (root p.world) p.states fine.states fine.count way_same), conf.quiet)
  where
    w : World
    w = p.world

    laws : Laws p.world.order
    laws = fine.order

    top : Around p.world (root p.world) p.states
    top = around_root p.world p.states fine.states fine.count

    last : Around p.world (last_parent (root p.world) way) (last_group p.states way)
    last = around_last p.world fine.order l (root p.world) p.states s way (state_node e b g) top h.active

    self : Nth (last_group p.states way) (child (last_parent (root p.world) way) s) (state_node e b g)
    self = last_nth p.world fine.order l (root p.world) p.states s way (state_node e b g) h.active

    i : Site p.world
    i = site_at p.world (last_parent (root p.world) way) (child (last_parent (root p.world) way) s) e b g (last_group p.states way) last self

    sc : Scene p.world l
    sc = scene_at p.world fine.order l (last_parent (root p.world) way) (child (last_parent (root p.world) way) s) e b g (last_group p.states way) last self

    proper : Proper p.world i c × Ended c
    proper = proper_in_block p.world i c b h.command (proper_body p.world i) (inl (node p.world i).closes)

    quiet : Quiet p.world l (concerns p.world e g c) s
    quiet = quiet_of p.world fine.order l i c proper.0 s h.touched h.parts

    conf : Confined p.world l s (does (within p.world (spot i) (does_child p.world g e)) c pc s)
    conf = does_confined p.world fine.order l i sc.entering sc.holding c proper.0 pc s h.holds h.context quiet

    at_group : High p.world.order l (level p.world (own e) s) ⊎ Guarded p.world l (state_node e b g) c s
        → path p.world l (last_parent (root p.world) way) (last_group p.states way)
        (does (within p.world (spot i) (does_child p.world g e)) c pc s).store ≡ path p.world l (last_parent (root p.world) way) (last_group p.states way) s
    at_group q = elim proper.1 [
      | inl final ↦ does_still p.world fine.order l sc c proper.0 final pc s h.holds h.context quiet refl (cover_of p.world fine.order l i c proper.0 s q)
      | inr plain ↦ clear_path p.world fine.order l sc c proper.0 plain pc s refl
    ]

    below' : SomeHigh p.world l s way ⊎ (path p.world l (last_parent (root p.world) way) (last_group p.states way)
        (does (within p.world (spot i) (does_child p.world g e)) c pc s).store ≡ path p.world l (last_parent (root p.world) way) (last_group p.states way) s)
    below' = elim h.above [
      | inl y ↦ elim y [ inl z ↦ inr (at_group (inl z)) | inr z ↦ inl z ]
      | inr y ↦ inr (at_group (inr y))
    ]

    way_same : path p.world l (root p.world) p.states s ≡ path p.world l (root p.world) p.states (does (within p.world (spot i) (does_child p.world g e)) c pc s).store
    way_same = sym (way_path w laws l (root w) p.states s _ way (state_node e b g) h.active (all_kept w laws l s e b g c h.command pc (root w) p.states top way h.active) below')

    kept : Holds p.world (does (within p.world (spot i) (does_child p.world g e)) c pc s).store
    kept = keeps p.world fine.order l i sc.entering sc.holding c proper.0 pc s h.holds

pub confinement_law : Confinement
confinement_law p fine l s at h = by_state p fine l s at.way at.state at.command at.context h
