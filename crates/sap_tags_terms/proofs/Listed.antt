-- Lists of commands and of states, and how many wires they have.
use Rattle.sap_lemmas.proofs.Common.{◌≡◌, ℕ, zero, suc, ◌+◌, ◌<◌, ◌≤◌, List, [], ◌∷◌, length, get_or, drop, refl, sym, ap, ap₂, ◌∙◌, arith, add-one, Vec, Global}
use Rattle.sap_program.specs.Views.{command_of, row_arms, row_block, block_of, commands_in, arms_before, state_of, row_group, group_of}
use Rattle.sap_program.specs.declared.program.Number.{Number}
use Rattle.sap_program.specs.declared.program.Step.{Step}
use Rattle.sap_program.specs.declared.program.Arm.{Arm}
use Rattle.sap_program.specs.declared.program.Command.{Command, Row_of-Command, end_of-Command, more_of-Command, Row_of-Arm, end_of-Arm, more_of-Arm}
use Rattle.sap_program.specs.declared.program.State.{State, State', Row_of-State, end_of-State, more_of-State, out-State}
use Rattle.sap_program.specs.declared.program.Command.TheVariants as command
use Rattle.sap_program.specs.declared.program.Command.TheViews as shown
use Rattle.sap_program.proofs.Shown.{command_of-do, command_of-try, command_of-if, command_of-then, command_of-case, block_of-none, state_of-out, group_of-none}
use Rattle.sap_meaning.specs.Program.{Arms, last_arm, end_block, command_then, and_node}
use Rattle.sap_tagged.specs.Prelude.{wires, wires_arms, wires_block, wires_state, wires_group}
use Rattle.sap_tags_terms.specs.Parts.{command_wires, commands_wires, arm_wires, state_wires, states_wires}

-- one in front

pub block_of-more : (n : ℕ) (c : Command) (cs : List Command) → block_of n (c ∷ cs) ≡ command_then (command_of n c) (block_of n cs)
unfolding block_of
block_of-more n c cs = refl

pub group_of-more : (n : ℕ) (s : State) (ss : List State) → group_of n (s ∷ ss) ≡ and_node (state_of n s) (group_of n ss)
unfolding group_of
group_of-more n s ss = refl

-- their wires, whatever hangs

module _ (n : ℕ) where
  mutual
    unfolding command_of row_arms row_block

    same_wires : (c : Command) → wires (command_of n c) ≡ wires (command_of 0 c)
    same_wires (command.Do s) = refl
    same_wires (command.Try' s hang k handler) = ap (λ (m : ℕ). 5 + m) (same_row handler)
    same_wires (command.If' hang e k ys m ns) = ap₂ (λ (a b : ℕ). 2 + (a + b)) (same_row ys) (same_row ns)
    same_wires (command.TryThen' s hang k ys m ns) = ap₂ (λ (a b : ℕ). 5 + (a + b)) (same_row ys) (same_row ns)
    same_wires (command.Case' hang e k arms m cs) = ap (λ (a : ℕ). 4 + a) (same_arms arms (last_arm (row_block n cs)) (last_arm (row_block 0 cs)) (same_row cs))

    same_arms : {k : _} (row : Row_of-Arm k) (a b : Arms) → wires_arms a ≡ wires_arms b → wires_arms (row_arms n row a) ≡ wires_arms (row_arms 0 row b)
    same_arms end_of-Arm a b e = e
    same_arms (more_of-Arm constants m block rest) a b e = ap₂ (λ (x y : ℕ). x + y) (same_row block) (same_arms rest a b e)

    same_row : {k : _} (row : Row_of-Command k) → wires_block (row_block n row) ≡ wires_block (row_block 0 row)
    same_row end_of-Command = refl
    same_row (more_of-Command c rest) = ap₂ (λ (a b : ℕ). a + b) (same_wires c) (same_row rest)

  pub wires_are : (c : Command) → wires (command_of n c) ≡ command_wires c
  unfolding command_wires
  wires_are c = same_wires c

  pub wires_block_are : (cs : List Command) → wires_block (block_of n cs) ≡ commands_wires cs
  unfolding commands_wires block_of
  wires_block_are [] = refl
  wires_block_are (c ∷ cs) = ap₂ (λ (a b : ℕ). a + b) (same_wires c) (wires_block_are cs)

-- arms, whatever is behind them

pub wires_before : (n : ℕ) (arms : List Arm) (others : Arms) → wires_arms (arms_before n arms others) ≡ wires_arms (arms_before n arms (last_arm end_block)) + wires_arms others
unfolding arms_before
wires_before n [] others = omega arith
wires_before n (a ∷ arms) others = let r = wires_before n arms others in omega (arith, r)

pub wires_arms_are : (n : ℕ) (arms : List Arm) → wires_arms (arms_before n arms (last_arm end_block)) ≡ arm_wires arms
unfolding arm_wires arms_before
wires_arms_are n [] = refl
wires_arms_are n (a ∷ arms) = ap₂ (λ (x y : ℕ). x + y) (wires_block_are n a.block.items ∙ sym (wires_block_are 0 a.block.items)) (wires_arms_are n arms)

pub arms_none : arm_wires [] ≡ 0
unfolding arm_wires arms_before
arms_none = refl

arms_more : (a : Arm) (arms : List Arm) → arm_wires (a ∷ arms) ≡ commands_wires (commands_in a) + arm_wires arms
unfolding arm_wires commands_wires arms_before
arms_more a arms = refl

pub arms_drop : (arms : List Arm) (i : ℕ) (e : Arm) → i < length arms → arm_wires (drop i arms) ≡ commands_wires (commands_in (get_or arms i e)) + arm_wires (drop (i + 1) arms)
arms_drop [] i e l = absurd (omega arith)
arms_drop (a ∷ arms) zero e l = arms_more a arms
arms_drop (a ∷ arms) (suc i) e l = let r = arms_drop arms i e (omega arith) in simp (add-one) (simp (add-one) at r)

pub arms_past : (arms : List Arm) (i : ℕ) → length arms ≤ i → arm_wires (drop i arms) ≡ 0
arms_past [] zero l = arms_none
arms_past [] (suc i) l = arms_none
arms_past (a ∷ arms) zero l = absurd (omega arith)
arms_past (a ∷ arms) (suc i) l = arms_past arms i (omega arith)

pub arms_in : (arms : List Arm) (i : ℕ) (e : Arm) → i < length arms → commands_wires (commands_in (get_or arms i e)) ≤ arm_wires arms
arms_in [] i e l = absurd (omega arith)
arms_in (a ∷ arms) zero e l = let m = arms_more a arms in omega (arith, m)
arms_in (a ∷ arms) (suc i) e l = let m = arms_more a arms in let r = arms_in arms i e (omega arith) in omega (arith, m, r)

pub wires_do : (s : Step) → command_wires (command.Do s) ≡ 5
unfolding command_wires
wires_do s = ap wires (command_of-do 0 s)

pub wires_try : (s : Step) (hang : List ℕ) (cs : Vec Command Global) → command_wires (shown.Try s hang cs) ≡ 5 + commands_wires cs.items
unfolding command_wires commands_wires
wires_try s hang cs = ap wires (command_of-try 0 s hang cs)

pub wires_if : (hang : List ℕ) (e : Number) (ys ns : Vec Command Global) → command_wires (shown.If hang e ys ns) ≡ 2 + commands_wires ys.items + commands_wires ns.items
unfolding command_wires commands_wires
wires_if hang e ys ns = let a = ap wires (command_of-if 0 hang e ys ns) in omega (arith, a)

pub wires_then : (s : Step) (hang : List ℕ) (ys ns : Vec Command Global) → command_wires (shown.TryThen s hang ys ns) ≡ 5 + commands_wires ys.items + commands_wires ns.items
unfolding command_wires commands_wires
wires_then s hang ys ns = let a = ap wires (command_of-then 0 s hang ys ns) in omega (arith, a)

pub wires_case : (hang : List ℕ) (e : Number) (arms : Vec Arm Global) (cs : Vec Command Global)
    → command_wires (shown.Case hang e arms cs) ≡ 4 + arm_wires arms.items + commands_wires cs.items
unfolding command_wires commands_wires arm_wires
wires_case hang e arms cs =
    let a = ap wires (command_of-case 0 hang e arms cs) in
    let b = wires_before 0 arms.items (last_arm (block_of 0 cs.items)) in
    omega (arith, a, b)

pub wires_none : commands_wires [] ≡ 0
unfolding commands_wires
wires_none = ap wires_block (block_of-none 0)

pub wires_more : (c : Command) (cs : List Command) → commands_wires (c ∷ cs) ≡ command_wires c + commands_wires cs
unfolding commands_wires command_wires
wires_more c cs = ap wires_block (block_of-more 0 c cs)

pub wires_drop : (cs : List Command) (i : ℕ) (e : Command) → i < length cs → commands_wires (drop i cs) ≡ command_wires (get_or cs i e) + commands_wires (drop (i + 1) cs)
wires_drop [] i e l = absurd (omega arith)
wires_drop (c ∷ cs) zero e l = wires_more c cs
wires_drop (c ∷ cs) (suc i) e l = let r = wires_drop cs i e (omega arith) in simp (add-one) (simp (add-one) at r)

pub wires_past : (cs : List Command) (i : ℕ) → length cs ≤ i → commands_wires (drop i cs) ≡ 0
wires_past [] zero l = wires_none
wires_past [] (suc i) l = wires_none
wires_past (c ∷ cs) zero l = absurd (omega arith)
wires_past (c ∷ cs) (suc i) l = wires_past cs i (omega arith)

pub wires_in : (cs : List Command) (i : ℕ) (e : Command) → i < length cs → command_wires (get_or cs i e) ≤ commands_wires cs
wires_in [] i e l = absurd (omega arith)
wires_in (c ∷ cs) zero e l = let m = wires_more c cs in omega (arith, m)
wires_in (c ∷ cs) (suc i) e l = let m = wires_more c cs in let r = wires_in cs i e (omega arith) in omega (arith, m, r)

-- states

module _ (n : ℕ) where
  mutual
    unfolding state_of row_group

    same_state : (t : State) → wires_state (state_of n t) ≡ wires_state (state_of 0 t)
    same_state (State' x body k row) = ap₂ (λ (a b : ℕ). 1 + a + b) (wires_block_are n body.items ∙ sym (wires_block_are 0 body.items)) (same_states row)

    same_states : {k : _} (row : Row_of-State k) → wires_group (row_group n row) ≡ wires_group (row_group 0 row)
    same_states end_of-State = refl
    same_states (more_of-State t rest) = ap₂ (λ (a b : ℕ). a + b) (same_state t) (same_states rest)

  pub wires_state_are : (t : State) → wires_state (state_of n t) ≡ state_wires t
  unfolding state_wires
  wires_state_are t = same_state t

  pub wires_group_are : (ts : List State) → wires_group (group_of n ts) ≡ states_wires ts
  unfolding states_wires group_of
  wires_group_are [] = refl
  wires_group_are (t ∷ ts) = ap₂ (λ (a b : ℕ). a + b) (same_state t) (wires_group_are ts)

pub state_wires_are : (t : State) → state_wires t ≡ 1 + commands_wires (out-State t).body.items + states_wires (out-State t).children.items
unfolding state_wires commands_wires states_wires
state_wires_are t = ap wires_state (state_of-out 0 t)

states_none : states_wires [] ≡ 0
unfolding states_wires
states_none = ap wires_group (group_of-none 0)

states_more : (t : State) (ts : List State) → states_wires (t ∷ ts) ≡ state_wires t + states_wires ts
unfolding states_wires state_wires
states_more t ts = ap wires_group (group_of-more 0 t ts)

pub states_drop : (ts : List State) (i : ℕ) (e : State) → i < length ts → states_wires (drop i ts) ≡ state_wires (get_or ts i e) + states_wires (drop (i + 1) ts)
states_drop [] i e l = absurd (omega arith)
states_drop (t ∷ ts) zero e l = states_more t ts
states_drop (t ∷ ts) (suc i) e l = let r = states_drop ts i e (omega arith) in simp (add-one) (simp (add-one) at r)

pub states_past : (ts : List State) (i : ℕ) → length ts ≤ i → states_wires (drop i ts) ≡ 0
states_past [] zero l = states_none
states_past [] (suc i) l = states_none
states_past (t ∷ ts) zero l = absurd (omega arith)
states_past (t ∷ ts) (suc i) l = states_past ts i (omega arith)

pub states_in : (ts : List State) (i : ℕ) (e : State) → i < length ts → state_wires (get_or ts i e) ≤ states_wires ts
states_in [] i e l = absurd (omega arith)
states_in (t ∷ ts) zero e l = let m = states_more t ts in omega (arith, m)
states_in (t ∷ ts) (suc i) e l = let m = states_more t ts in let r = states_in ts i e (omega arith) in omega (arith, m, r)

pub ruleset counts = (wires_do, wires_try, wires_if, wires_then, wires_case, wires_drop, wires_past, wires_in, arms_drop, arms_past, arms_in)
