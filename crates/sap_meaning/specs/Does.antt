-- What a command does in a context pc, a level, in the body of a state. The store in which it begins gives the values,
-- levels, test and guard; then come the raises; then the effect or the handler.
use Rattle.std.specs.Prelude.{ℕ, zero, suc, Bool, List, ◌∷◌, if◌then◌else◌, nat_eq}
use Rattle.std.specs.List.{list_any}
use Rattle.sap_maps.specs.Term.{Term}
use Rattle.sap_meaning.specs.Program.{World, is_dynamic, place, Step, assign, write, retag, retag_cell, go_to, fall_to_child, Command, lone, try, if_else, try_then, case_of, Arms, last_arm, and_arm, Block, end_block, command_then, State, state_node, Group, no_node, and_node}
use Rattle.sap_meaning.specs.Store.{Store, own, start, next, number, level, child, put_number, put_level, put_child, raise, reset, Refusal, After, stay, and_then}
use Rattle.sap_meaning.specs.Expressions.{value, tag, new_level}
use Rattle.sap_meaning.specs.Checks.{Home, site_of, child_level, guard, test}
use Rattle.sap_meaning.specs.Touches.{touches, raised_alone}

-- What is done in a context, from a store on.
abbrev pub Action : Type 0
Action = (context : ℕ) → Store → After

-- A command is in the body of a state of a program; `enter n` is what the body of the n-th child does.
pub record Surroundings : Type 0 where
  pub world : World
  pub home : Home
  pub enter : (place : ℕ) → Action

-- The surroundings of a command, from their three parts.
abbrev pub within : World → Home → (enter : ℕ → Action) → Surroundings
within w at enter = record { world = w; home = at; enter = enter }

-- The effect of a step whose test held in `before`, on the store after the raises.
unfoldable pub effect : Surroundings → Step → (context : ℕ) → (before : Store) → Store → After
effect h (assign site x e) pc before s =
    let t = if is_dynamic h.world x then h.world.order.join pc (tag h.world e before) else level h.world (own x) s in
    stay (put_level h.world (own x) t (put_number (own x) (value h.world e before) s))
effect h (write site m i e) pc before s =
    let t = h.world.order.join pc (h.world.order.join (tag h.world i before) (tag h.world e before)) in
    stay (put_number (next m (value h.world i before)) (value h.world e before)
    (if is_dynamic h.world m then raise h.world.order (λ x. nat_eq x m) t s else s))
effect h (retag site x n) pc before s =
    let t = new_level h.world n before in
    stay (put_level h.world (own x) t (put_number (own x) (if h.world.order.le (level h.world (own x) before) t
    then number (own x) before else 0) s))
effect h (retag_cell site m j n) pc before s =
    let t = new_level h.world n before in
    let i = value h.world j before in
    stay (put_level h.world (next m i) t (put_number (next m i)
    (if h.world.order.le (level h.world (start m i) before) t
    then number (start m i) before else 0) s))
effect h (go_to site target) pc before s =
    let moved = reset h.world target (put_child h.home.parent (place h.world target) s) in
    stay (if is_dynamic h.world target then put_level h.world (own target) pc moved else moved)
effect h (fall_to_child site hang) pc before s =
    let n = child h.home.state before in
    h.enter n (h.world.order.join pc (child_level h.world h.home.children n before)) s

-- A step and its handler. What `hangs` holds of is raised by the guard. Then the step has its effect if its test holds.
-- Else its refusal is recorded and the handler runs, in the context joined with the guard.
unfoldable pub attempt : Surroundings → Step → (hangs : ℕ → Bool) → (handler : Action) → Action
attempt h k hangs handler pc s =
    let g = guard h.world h.home k s in
    let r = raise h.world.order hangs g s in
    let inside = h.world.order.join pc g in
    if test h.world h.home k pc s
    then effect h k pc s r
    else (let refusal : Refusal = record { site = site_of k; level = inside } in
    let a = handler inside r in
    record { store = a.store; refused = refusal ∷ a.refused })

-- A step with `then`. What `hangs` holds of is raised by the guard. If the test holds, the step has its effect, and
-- then the accepted part runs. Else the refusal is recorded, and the refused part runs. Both parts run in the context
-- joined with the guard.
unfoldable pub attempt_then : Surroundings → Step → (hangs : ℕ → Bool) → (accepted refused : Action) → Action
attempt_then h k hangs accepted refused pc s =
    let g = guard h.world h.home k s in
    let r = raise h.world.order hangs g s in
    let inside = h.world.order.join pc g in
    if test h.world h.home k pc s
    then and_then (effect h k pc s r) (accepted inside)
    else (let refusal : Refusal = record { site = site_of k; level = inside } in
    let a = refused inside r in
    record { store = a.store; refused = refusal ∷ a.refused })

-- First what `hangs` holds of is raised by the level of an expression. Then what `pick` has for the expression's number
-- is done, in the context joined with that level.
unfoldable pub select : World → Term ℕ → (hangs : ℕ → Bool) → (pick : ℕ → Action) → Action
select w e hangs pick pc s =
    let t = tag w e s in
    pick (value w e s) (w.order.join pc t) (raise w.order hangs t s)

-- `branch` does its second part if the number is 0, and else its first.
abbrev pub branch : (then_part else_part : Action) → ℕ → Action
branch then_part else_part n pc s = if nat_eq n 0 then else_part pc s else then_part pc s

-- `is_constant` says whether the number is one of an arm's constants.
abbrev pub is_constant : List ℕ → ℕ → Bool
is_constant constants n = list_any (λ c. nat_eq n c) constants

-- `choose_arm` is the first where the number is one of the constants, and else the second.
abbrev pub choose_arm : List ℕ → (arm : Action) → (others : ℕ → Action) → ℕ → Action
choose_arm constants arm others n pc s = if is_constant constants n then arm pc s else others n pc s

-- What a command does. A refused step with a handler runs the handler; each branch raises the tags of what the command
-- touches.
unfoldable mutual
  pub does : Surroundings → Command → Action
  does h (lone k) = attempt h k (raised_alone h.world h.home k) (λ pc s. stay s)
  does h (try k hang b) = attempt h k (touches h.world h.home (try k hang b)) (does_block h b)
  does h (if_else hang e a b) = select h.world e (touches h.world h.home (if_else hang e a b))
      (branch (does_block h a) (does_block h b))
  does h (try_then k hang a b) = attempt_then h k (touches h.world h.home (try_then k hang a b))
      (does_block h a) (does_block h b)
  does h (case_of hang e arms) = select h.world e (touches h.world h.home (case_of hang e arms)) (does_arms h arms)

  -- The block of the first arm that has the number is done, or else the last block.
  pub does_arms : Surroundings → Arms → ℕ → Action
  does_arms h (last_arm b) = λ n. does_block h b
  does_arms h (and_arm constants b arms) =
      choose_arm constants (does_block h b) (does_arms h arms)

  -- The commands of a list are done in order.
  pub does_block : Surroundings → Block → Action
  does_block h end_block pc s = stay s
  does_block h (command_then c cs) pc s = and_then (does h c pc s) (does_block h cs pc)

-- What a state's body does, and what the children do into which it falls.
unfoldable mutual
  -- A state's body is done.
  pub does_state : World → State → (parent : ℕ) → Action
  does_state w (state_node s b g) parent pc st =
      does_block (within w (record { state = s; parent = parent; children = g }) (does_child w g s)) b pc st

  -- The body of the n-th state of the parent's group is done.
  pub does_child : World → Group → (parent n : ℕ) → Action
  does_child w no_node parent n pc st = stay st
  does_child w (and_node t g) parent zero pc st = does_state w t parent pc st
  does_child w (and_node t g) parent (suc n) pc st = does_child w g parent n pc st
