-- A state in its group, with what is known of both, and commands in its body.
use Rattle.sap_lemmas.proofs.Common.{◌≡◌, ℕ, suc, ◌+◌, ◌<◌, ◌≤◌, Bool, true, false, ◌&&◌, ◌||◌, refl, sym, ◌∙◌, arith, nat_eq, nat_lt, nat_le, inl, inr, ◌⊎◌, common_steps, and_left, and_right, neither_left, neither_right, eqb-true, false_from_ne_true, or_cases, or_from, or_right}
use Rattle.sap_meaning.specs.Prelude.{World, children, is_dynamic, is_memory, is_state, last, below, root, Step, Command, lone, try, if_else, try_then, case_of, Arms, last_arm, and_arm, Block, end_block, command_then, state_node, Group, no_node, and_node, Every, EveryInArms, EveryInBlock, Asks, some_in_arms, Store, After, Home, among, step_retags, retags, block_retags, FineTerm, FineStep, FineCommand, FineNode, FineState, FineGroup, Open, Closes, Final, inside, size, NoTransfer, writes, reaches, block_reaches}
use Rattle.sap_meaning.proofs.WalksLemmas.{every_both_in_block, every_follows, every_follows_in_arms, every_follows_in_block, asks_follows, none_passes, none_passes_in_block}
use Rattle.sap_meaning.proofs.Bools.{and_false}
use Rattle.sap_maps.specs.Term.{Term}
use Rattle.sap_meaning.specs.Walks.{some, some_in_block}
use Rattle.sap_meaning.proofs.Trees.{Nth, nth_fine}
use Rattle.sap_secure.proofs.Concerns.{block_concerns}
use Rattle.sap_secure.proofs.Apart.{no_state, writes_within, block_hung, apart_of, inside_state}

-- a group and its parent, which is not inside it and which no state of it spans
pub record Around (w : World) (p : ℕ) (q : Group) : Type 0 where
  pub fine : FineGroup w q 0 q
  pub count : children w p ≡ size q
  pub apart : (x : ℕ) → inside q x ≡ true → (nat_eq p x || below w x p) ≡ false

-- a state, by its number, with its body and children, the index-th of its group, and what its children do
pub record Site (w : World) : Type 0 where
  pub state : ℕ
  pub parent : ℕ
  pub index : ℕ
  pub body : Block
  pub kids : Group
  pub siblings : Group
  pub around : Around w parent siblings
  pub self : Nth siblings index (state_node state body kids)
  pub enter : ℕ → ℕ → Store → After

abbrev pub spot : {w : World} → Site w → Home
spot i = record { state = i.state; parent = i.parent; children = i.kids }

-- the state or one below it
abbrev pub mine : {w : World} → Site w → ℕ → Bool
mine i x = nat_eq x i.state || inside i.kids x

module _ (w : World) where
  pub own_fine : (i : Site w) → FineState w i.siblings i.index (state_node i.state i.body i.kids)
  own_fine i =
      let e : 0 + i.index ≡ i.index = omega arith in
      rw e at (nth_fine w i.siblings 0 i.siblings i.index (state_node i.state i.body i.kids) i.self i.around.fine)

  pub node : (i : Site w) → FineNode w i.siblings i.index i.state i.body i.kids
  node i = (own_fine i).0

  not_after : (e x : ℕ) → nat_lt e x ≡ true → nat_lt x e ≡ false
  not_after e x h = grind (arith, common_steps)

  not_same : (e x : ℕ) → nat_lt e x ≡ true → nat_eq e x ≡ false
  not_same e x h = grind (arith, common_steps)

  and_falsely : (a b c : Bool) → b ≡ false → (a && (b && c)) ≡ false
  and_falsely true b c h = rw h refl
  and_falsely false b c h = refl

  pub kids_apart : (e : ℕ) (g : Group) → ((x : ℕ) → inside g x ≡ below w e x) → (x : ℕ) → inside g x ≡ true → (nat_eq e x || below w x e) ≡ false
  kids_apart e g f x h =
      let k = and_left _ _ (and_right (is_state w x) _ (sym (f x) ∙ h)) in
      or_from _ _ (not_same e x k) (and_falsely (is_state w e) (nat_lt x e) (nat_le e (last w x)) (not_after e x k))

  -- the children of a state with the state
  pub around_kids : (q : Group) (n e : ℕ) (b : Block) (g : Group) → FineState w q n (state_node e b g) → Around w e g
  around_kids q n e b g fine = record { fine = fine.1; count = fine.0.count; apart = kids_apart e g fine.0.numbers }

  pub kids_around : (i : Site w) → Around w i.state i.kids
  kids_around i = around_kids i.siblings i.index i.state i.body i.kids (own_fine i)

  inside_root : (q : Group) (n : ℕ) (g : Group) → FineGroup w q n g → (x : ℕ) → inside g x ≡ true → x ≤ last w x × (last w x < root w)
  inside_root q n no_node fine x h = cc
  inside_root q n (and_node (state_node c b k) g) fine x h = elim (or_cases (nat_eq x c) _ h) [
    | inl e ↦ rw (eqb-true x c e) (fine.0.0.itself, fine.0.0.declared)
    | inr e ↦ elim (or_cases (inside k x) (inside g x) e) [
      | inl i ↦ inside_root k 0 k fine.0.1 x i
      | inr i ↦ inside_root q (suc n) g fine.1 x i
    ]
  ]

  root_out : (r x m : ℕ) (a : Bool) → x ≤ m → m < r → (nat_eq r x || (a && (nat_lt x r && nat_le r m))) ≡ false
  root_out r x m true h k = grind (arith, common_steps)
  root_out r x m false h k = grind (arith, common_steps)

  -- the top-level states with the root
  pub around_root : (g : Group) → FineGroup w g 0 g → children w (root w) ≡ size g → Around w (root w) g
  around_root g fine count = record {
    fine = fine;
    count = count;
    apart = λ x h. let k = inside_root g 0 g fine x h in
        root_out (root w) x (last w x) (is_state w (root w)) k.0 k.1;
  }

  -- the states at a place
  pub mine_state : (i : Site w) (x : ℕ) → mine i x ≡ true → is_state w x ≡ true
  mine_state i x h = elim (or_cases (nat_eq x i.state) _ h) [
    | inl e ↦ rw (eqb-true x i.state e) (node i).kind
    | inr e ↦ inside_state w i.kids 0 i.kids (own_fine i).1 x e
  ]

  pub not_mine : (i : Site w) (x : ℕ) → is_state w x ≡ false → mine i x ≡ false
  not_mine i x s = false_from_ne_true _ (λ h. let k = mine_state i x h in cc)

  pub not_own : (i : Site w) (x : ℕ) → is_state w x ≡ false → nat_eq x i.state ≡ false
  not_own i x s = neither_left _ _ (not_mine i x s)

  pub no_kid : (i : Site w) (x : ℕ) → is_state w x ≡ false → among i.kids x ≡ false
  no_kid i x s = apart_of w i.kids 0 i.kids (own_fine i).1 x s

-- nothing is asked of a condition
abbrev pub Any : Term ℕ → Type 0
Any e = Unit {0}

-- Where no step of a command passes one of the tests, none is passed by each step.
module _ {X : Type 0} (p : X → Step → Bool) where
  abbrev Fails : Step → Type 0
  Fails k = (x : X) → p x k ≡ false

  mutual
    pub none_each : (c : Command) → ((x : X) → some (p x) c ≡ false) → Every (Asks Fails Any) c
    none_each (lone k) un = un
    none_each (try k hang h) un = (λ x. neither_left _ _ (un x), none_in_block h (λ x. neither_right (p x k) _ (un x)))
    none_each (if_else hang e a b) un =
        (tt, none_in_block a (λ x. neither_left _ _ (un x)), none_in_block b (λ x. neither_right (some_in_block (p x) a) _ (un x)))
    none_each (try_then k hang a b) un = (
      λ x. neither_left _ _ (un x),
      none_in_block a (λ x. neither_left _ _ (neither_right (p x k) _ (un x))),
      none_in_block b (λ x. neither_right (some_in_block (p x) a) _ (neither_right (p x k) _ (un x))),
    )
    none_each (case_of hang e arms) un = (tt, none_in_arms arms un)

    none_in_arms : (arms : Arms) → ((x : X) → some_in_arms (p x) arms ≡ false) → EveryInArms (Asks Fails Any) arms
    none_in_arms (last_arm b) un = none_in_block b un
    none_in_arms (and_arm constants b arms) un =
        (none_in_block b (λ x. neither_left _ _ (un x)), none_in_arms arms (λ x. neither_right (some_in_block (p x) b) _ (un x)))

    pub none_in_block : (b : Block) → ((x : X) → some_in_block (p x) b ≡ false) → EveryInBlock (Asks Fails Any) b
    none_in_block end_block un = tt
    none_in_block (command_then c cs) un = (none_each c (λ x. neither_left _ _ (un x)), none_in_block cs (λ x. neither_right (some (p x) c) _ (un x)))

-- two things that are known of each step
module _ (P R : Step → Type 0) (Q S : Term ℕ → Type 0) where
  pub known_in_block : (b : Block) → EveryInBlock (Asks P Q) b → EveryInBlock (Asks R S) b → EveryInBlock (Asks (λ k. P k × R k) Any) b
  known_in_block b p r = every_both_in_block P R (λ k. P k × R k) Q S Any (λ k f g. (f, g)) (λ e f g. tt) b p r

  pub known_both : (c : Command) → Every (Asks P Q) c → Every (Asks R S) c → Every (Asks (λ k. P k × R k) Any) c
  known_both c p r = (known_in_block (command_then c end_block) (p, tt) (r, tt)).0

-- what is known of a command in a state's body
abbrev pub ProperStep : (w : World) → Site w → Step → Type 0
ProperStep w i k = FineStep w i.siblings i.kids k × ((x : ℕ) → mine i x ≡ true → step_retags k x ≡ false)

-- before a list that an enforced memory concerns, a command is open and does not write that memory
abbrev pub Disjoint : (w : World) → Site w → Command → Block → Type 0
Disjoint w i c cs = (m : ℕ) → is_memory w m ≡ true → is_dynamic w m ≡ false → block_concerns w i.state i.kids cs m ≡ true → Open c × (writes c m ≡ false)

abbrev pub Proper : (w : World) → Site w → Command → Type 0
Proper w i c = Every (Asks (ProperStep w i) (FineTerm w)) c

abbrev pub ProperArms : (w : World) → Site w → Arms → Type 0
ProperArms w i arms = EveryInArms (Asks (ProperStep w i) (FineTerm w)) arms

abbrev pub ProperBlock : (w : World) → Site w → Block → Type 0
ProperBlock w i b = EveryInBlock (Asks (ProperStep w i) (FineTerm w)) b

-- whether it closes or is open
abbrev pub Shut : Block → Type 0
Shut b = Closes b ⊎ EveryInBlock NoTransfer b

abbrev pub Ended : Command → Type 0
Ended c = Final c ⊎ Open c

module _ (w : World) (i : Site w) where
  abbrev UnmarkedBlock : Block → Type 0
  UnmarkedBlock b = (x : ℕ) → mine i x ≡ true → block_retags b x ≡ false

  pub apart_from : (c : Command) (cs : Block) → EveryInBlock (FineCommand w i.siblings i.kids) cs → Open c
      → ((m : ℕ) → (reaches i.kids c m && block_reaches i.kids cs m) ≡ false) → Disjoint w i c cs
  apart_from c cs fine open_ once m mem d h =
      let s : is_state w m ≡ false = no_state w m (or_right _ _ mem) in
      let r : block_reaches i.kids cs m ≡ true = block_hung w m mem d i.state i.kids (not_own w i m s) (no_kid w i m s) i.siblings i.kids cs fine h in
      let n : reaches i.kids c m ≡ false = and_false _ _ (once m) r in
      (open_, false_from_ne_true (writes c m) (λ y. let z = writes_within w i.kids m c y in cc))

  body_unmarked : UnmarkedBlock i.body
  body_unmarked x h = elim (or_cases (nat_eq x i.state) _ h) [
    | inl e ↦ rw (eqb-true x i.state e) (neither_left _ _ (node w i).retags_itself)
    | inr e ↦ (node w i).retags_below x e
  ]

  -- the state's own number, and those below it
  abbrev Mine : Type 0
  Mine = (x : ℕ) × (mine i x ≡ true)

  pub proper_body : ProperBlock w i i.body
  proper_body =
      every_both_in_block (FineStep w i.siblings i.kids) (λ k. (y : Mine) → step_retags k y.0 ≡ false) (ProperStep w i) (FineTerm w) Any (FineTerm w)
      (λ k fine un. (fine, λ x m. un (x, m))) (λ e fine u. fine) i.body (node w i).steps
      (none_in_block (λ (y : Mine) (k : Step). step_retags k y.0) i.body (λ y. body_unmarked y.0 y.1))

-- what the keeping of states asks of it
module _ (w : World) (i : Site w) where
  as_fine : (c : Command) → Asks (ProperStep w i) (FineTerm w) c → FineCommand w i.siblings i.kids c
  as_fine c p = asks_follows (ProperStep w i) (FineStep w i.siblings i.kids) (FineTerm w) (FineTerm w) (λ k h. h.0) (λ e h. h) c p

  pub fine_command : (c : Command) → Proper w i c → Every (FineCommand w i.siblings i.kids) c
  fine_command c p = every_follows (Asks (ProperStep w i) (FineTerm w)) (FineCommand w i.siblings i.kids) as_fine c p

  pub fine_arms : (arms : Arms) → ProperArms w i arms → EveryInArms (FineCommand w i.siblings i.kids) arms
  fine_arms arms p = every_follows_in_arms (Asks (ProperStep w i) (FineTerm w)) (FineCommand w i.siblings i.kids) as_fine arms p

  pub fine_block : (b : Block) → ProperBlock w i b → EveryInBlock (FineCommand w i.siblings i.kids) b
  fine_block b p = every_follows_in_block (Asks (ProperStep w i) (FineTerm w)) (FineCommand w i.siblings i.kids) as_fine b p

-- nor does it retag the state or one below it
pub unmarked : (w : World) (i : Site w) (c : Command) → Proper w i c → (x : ℕ) → mine i x ≡ true → retags c x ≡ false
unmarked w i c p x m = none_passes (ProperStep w i) (FineTerm w) (λ k. step_retags k x) (λ k h. h.1 x m) c p

pub block_unmarked : (w : World) (i : Site w) (b : Block) → ProperBlock w i b → (x : ℕ) → mine i x ≡ true → block_retags b x ≡ false
block_unmarked w i b p x m = none_passes_in_block (ProperStep w i) (FineTerm w) (λ k. step_retags k x) (λ k h. h.1 x m) b p
