-- On what stands in Fill: what several crates cite.
use Rattle.sap_lemmas.proofs.Common.{Bool, List, [], ap, arith, false, get_or, inl, inr, length, length-append, nat_lt, refl, suc, sym, zero, ℕ, ◌++◌, ◌+◌, ◌<◌, ◌∙◌, ◌∷◌, ◌≡◌, cases_Bool, ltb-true, get_or-append-add}
use Rattle.sap_lemmas.proofs.Lists.{get_early}
use Rattle.sap_maps.specs.Term.{Term}
use Rattle.sap_meaning.specs.Prelude.{World, Step, Command, Block, State, state_node, Group, no_node, and_node, Home, EveryInBlock, Asks, EveryBody, EveryBodyIn, gathered, gathered_in_block, gathered_from, gathered_from_group}
use Rattle.sap_meaning.proofs.WalksLemmas.{gathered_mapped, gathered_mapped_block, every_mapped_block, every_unmapped_block, asks_mapped, asks_unmapped}
use Rattle.sap_resolved.specs.Fill.{table, filled_step, filled_hang, filled, filled_block, filled_state, filled_group}

pub table_length : (n : ℕ) (test : ℕ → Bool) → length (table n test) ≡ n
table_length zero test = refl
table_length (suc n) test =
    let h = table_length n test in
    let e : length (table n test ++ test n ∷ []) ≡ length (table n test) + 1 = length-append (table n test) (test n ∷ []) in
    omega arith

pub table_at : (n : ℕ) (test : ℕ → Bool) (x : ℕ) → x < n → get_or (table n test) x false ≡ test x
table_at zero test x h = absurd (omega arith)
table_at (suc n) test x h = elim (cases_Bool (nat_lt x n)) [
  | inl t ↦
      let k : x < n = ltb-true x n t in
      let l = table_length n test in
      let i : x < length (table n test) = omega arith in
      get_early (table n test) (test n ∷ []) x i ∙ table_at n test x k
  | inr t ↦
      let k : x ≡ n = grind (arith) in
      let l = table_length n test in
      let e : x ≡ length (table n test) + 0 = omega arith in
      let f : get_or (table n test ++ test n ∷ []) (length (table n test) + 0) false ≡ test n = get_or-append-add (table n test) (test n ∷ []) 0 false in
      ap (λ (m : ℕ). get_or (table n test ++ test n ∷ []) m false) e ∙ f ∙ ap test (sym k)
]

pub table_front : (m : ℕ) (f : ℕ → Bool) → table (suc m) f ≡ f 0 ∷ table m (λ x. f (suc x))
table_front zero f = refl
table_front (suc m) f = ap (λ (l : List Bool). l ++ f (suc m) ∷ []) (table_front m f)

-- Filling in what hangs in a program: ..
module _ (w : World) where
  -- .. what is asked of each command of the bodies follows from what was asked of it, ..
  module _ (P R : Command → Type 0) (follows : (at : Home) (c : Command) → P c → R (filled w at c)) where
    commands_filled : (at : Home) (b : Block) → EveryInBlock P b → EveryInBlock R (filled_block w at b)
    commands_filled at b h = every_mapped_block (filled_step w at) (filled_hang w at) P R (follows at) b h

    mutual
      commands_filled_state : (p : ℕ) (t : State) → EveryBody (EveryInBlock P) t → EveryBody (EveryInBlock R) (filled_state w p t)
      commands_filled_state p (state_node s b g) h = (commands_filled (record { state = s; parent = p; children = g }) b h.0, commands_filled_group s g h.1)

      pub commands_filled_group : (p : ℕ) (g : Group) → EveryBodyIn (EveryInBlock P) g → EveryBodyIn (EveryInBlock R) (filled_group w p g)
      commands_filled_group p no_node h = h
      commands_filled_group p (and_node t g) h = (commands_filled_state p t h.0, commands_filled_group p g h.1)

  -- .. so is what is asked of each step, and the other way round;
  module _ (P R : Step → Type 0) (Q : Term ℕ → Type 0) where
    module _ (follows : (at : Home) (k : Step) → P k → R (filled_step w at k)) where
      pub every_filled_group : (p : ℕ) (g : Group) → EveryBodyIn (EveryInBlock (Asks P Q)) g → EveryBodyIn (EveryInBlock (Asks R Q)) (filled_group w p g)
      every_filled_group p g h =
          commands_filled_group (Asks P Q) (Asks R Q) (λ at. asks_mapped (filled_step w at) (filled_hang w at) P R Q Q (follows at) (λ e q. q)) p g h

    module _ (follows : (at : Home) (k : Step) → R (filled_step w at k) → P k) where
      every_unfilled : (at : Home) (b : Block) → EveryInBlock (Asks R Q) (filled_block w at b) → EveryInBlock (Asks P Q) b
      every_unfilled at b h =
          every_unmapped_block (filled_step w at) (filled_hang w at) (Asks P Q) (Asks R Q)
          (asks_unmapped (filled_step w at) (filled_hang w at) P R Q Q (follows at) (λ e q. q)) b h

      mutual
        every_unfilled_state : (p : ℕ) (t : State) → EveryBody (EveryInBlock (Asks R Q)) (filled_state w p t) → EveryBody (EveryInBlock (Asks P Q)) t
        every_unfilled_state p (state_node s b g) h = (every_unfilled (record { state = s; parent = p; children = g }) b h.0, every_unfilled_group s g h.1)

        pub every_unfilled_group : (p : ℕ) (g : Group) → EveryBodyIn (EveryInBlock (Asks R Q)) (filled_group w p g) → EveryBodyIn (EveryInBlock (Asks P Q)) g
        every_unfilled_group p no_node h = h
        every_unfilled_group p (and_node t g) h = (every_unfilled_state p t h.0, every_unfilled_group p g h.1)

  -- .. what is gathered from the steps is gathered from them as they were, ..
  module _ {A : Type 0} (none : A) (join : A → A → A) (f g : Step → A) (at : Home) (same : (k : Step) → f (filled_step w at k) ≡ g k) where
    pub gathered_filled : (c : Command) → gathered none join f (filled w at c) ≡ gathered none join g c
    gathered_filled c = gathered_mapped (filled_step w at) (filled_hang w at) none join f g same c

    pub gathered_filled_block : (b : Block) → gathered_in_block none join f (filled_block w at b) ≡ gathered_in_block none join g b
    gathered_filled_block b = gathered_mapped_block (filled_step w at) (filled_hang w at) none join f g same b

  -- .. and so from the states.
  module _ {A : Type 0} (none : A) (join : A → A → A) (f g : State → A) (same : (p : ℕ) (t : State) → f (filled_state w p t) ≡ g t) where
    mutual
      pub gathered_filled_state : (p : ℕ) (t : State) → gathered_from none join f (filled_state w p t) ≡ gathered_from none join g t
      gathered_filled_state p (state_node s b k) = λ i. join (same p (state_node s b k) i) (gathered_filled_group s k i)

      pub gathered_filled_group : (p : ℕ) (k : Group) → gathered_from_group none join f (filled_group w p k) ≡ gathered_from_group none join g k
      gathered_filled_group p no_node = refl
      gathered_filled_group p (and_node t k) = λ i. join (gathered_filled_state p t i) (gathered_filled_group p k i)
