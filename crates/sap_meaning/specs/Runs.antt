-- The same with what hangs taken from the lists in the program, as the machine and the compiler take it.
use Rattle.std.specs.Prelude.{ℕ, zero, suc, Bool, false}
use Rattle.sap_meaning.specs.Program.{World, listed, Step, assign, write, retag, retag_cell, go_to, fall_to_child, Command, lone, try, if_else, try_then, case_of, Arms, last_arm, and_arm, Block, end_block, command_then, State, state_node, Group, no_node, and_node}
use Rattle.sap_meaning.specs.Store.{stay, and_then}
use Rattle.sap_meaning.specs.Checks.{Home}
use Rattle.sap_meaning.specs.Touches.{touches}
use Rattle.sap_meaning.specs.Does.{Action, Surroundings, within, attempt, attempt_then, select, branch, choose_arm}

-- What a step with no handler raises: for a `goto` the state in whose body it is, if dynamic; for a `fall` what its
-- list has; else nothing.
abbrev pub listed_alone : World → Home → Step → ℕ → Bool
listed_alone w at (assign site y e) x = false
listed_alone w at (write site m i e) x = false
listed_alone w at (retag site y n) x = false
listed_alone w at (retag_cell site m j n) x = false
listed_alone w at (go_to site target) x = touches w at (lone (go_to site target)) x
listed_alone w at (fall_to_child site hang) x = listed hang x

-- The same as `does`, but what a command touches is taken from the list that is stored with it.
unfoldable mutual
  pub run : Surroundings → Command → Action
  run h (lone k) = attempt h k (listed_alone h.world h.home k) (λ pc s. stay s)
  run h (try k hang b) = attempt h k (listed hang) (run_block h b)
  run h (if_else hang e a b) = select h.world e (listed hang)
      (branch (run_block h a) (run_block h b))
  run h (try_then k hang a b) = attempt_then h k (listed hang)
      (run_block h a) (run_block h b)
  run h (case_of hang e arms) = select h.world e (listed hang) (run_arms h arms)

  pub run_arms : Surroundings → Arms → ℕ → Action
  run_arms h (last_arm b) = λ n. run_block h b
  run_arms h (and_arm constants b arms) =
      choose_arm constants (run_block h b) (run_arms h arms)

  pub run_block : Surroundings → Block → Action
  run_block h end_block pc s = stay s
  run_block h (command_then c cs) pc s = and_then (run h c pc s) (run_block h cs pc)

-- The same as `does_state`, with these lists.
unfoldable mutual
  pub run_state : World → State → (parent : ℕ) → Action
  run_state w (state_node s b g) parent pc st =
      run_block (within w (record { state = s; parent = parent; children = g }) (run_child w g s)) b pc st

  pub run_child : World → Group → (parent n : ℕ) → Action
  run_child w no_node parent n pc st = stay st
  run_child w (and_node t g) parent zero pc st = run_state w t parent pc st
  run_child w (and_node t g) parent (suc n) pc st = run_child w g parent n pc st
