-- That no memory is written twice, on any path.
use Rattle.std.specs.Prelude.{◌≡◌, ℕ, Bool, false, ◌&&◌, ◌||◌, nat_eq}
use Rattle.sap_meaning.specs.Program.{Step, assign, write, retag, retag_cell, go_to, fall_to_child, Command, lone, try, if_else, try_then, case_of, Arms, last_arm, and_arm, Block, end_block, command_then, State, state_node, Group, no_node, and_node}
use Rattle.sap_meaning.specs.Walks.{some, some_in_arms, some_in_block}

-- A step writes or retags a cell of the memory m.
abbrev pub step_writes : Step → ℕ → Bool
step_writes (assign site x e) m = false
step_writes (write site n i e) m = nat_eq m n
step_writes (retag site x n) m = false
step_writes (retag_cell site n j t) m = nat_eq m n
step_writes (go_to site target) m = false
step_writes (fall_to_child site hang) m = false

-- Some step of a command writes this memory.
abbrev pub writes : Command → ℕ → Bool
writes c m = some (λ k. step_writes k m) c

-- A step writes or retags a cell of m, or it is a `fall` and `falls` holds of m.
abbrev pub step_reaching : (falls : ℕ → Bool) → Step → ℕ → Bool
step_reaching falls (assign site x e) m = false
step_reaching falls (write site n i e) m = nat_eq m n
step_reaching falls (retag site x n) m = false
step_reaching falls (retag_cell site n j t) m = nat_eq m n
step_reaching falls (go_to site target) m = false
step_reaching falls (fall_to_child site hang) m = falls m

-- Some step of a command writes or retags a cell of m, or is a `fall` while `falls` holds of m.
abbrev pub reaching : (falls : ℕ → Bool) → Command → ℕ → Bool
reaching falls c m = some (λ k. step_reaching falls k m) c

-- Some step of the arms of a `case` writes or retags a cell of m, or is a `fall` while `falls` holds of m.
abbrev pub arms_reaching : (falls : ℕ → Bool) → Arms → ℕ → Bool
arms_reaching falls arms m = some_in_arms (λ k. step_reaching falls k m) arms

-- Some step of a block writes or retags a cell of m, or is a `fall` while `falls` holds of m.
abbrev pub block_reaching : (falls : ℕ → Bool) → Block → ℕ → Bool
block_reaching falls b m = some_in_block (λ k. step_reaching falls k m) b

-- The body of a state writes m, or one that it may fall into does.
abbrev mutual
  pub state_reaches : State → ℕ → Bool
  state_reaches (state_node s b g) m = block_reaching (group_reaches g) b m

  pub group_reaches : Group → ℕ → Bool
  group_reaches no_node m = false
  group_reaches (and_node t g) m = state_reaches t m || group_reaches g m

-- A step writes or retags a cell of m, or falls where a body of the children g, or one that these may fall into, does
-- so.
abbrev pub step_reaches : Group → Step → ℕ → Bool
step_reaches g k m = step_reaching (group_reaches g) k m

-- A command writes or retags a cell of m, itself or by a fall into the children g.
abbrev pub reaches : Group → Command → ℕ → Bool
reaches g c m = reaching (group_reaches g) c m

-- A block writes or retags a cell of m, itself or by a fall into the children g.
abbrev pub block_reaches : Group → Block → ℕ → Bool
block_reaches g b m = block_reaching (group_reaches g) b m

-- A `fall` asks for `below`, which is what has to hold of the bodies that it may enter; no other step asks for
-- anything.
abbrev pub OnceStep : (below : Type 0) → Step → Type 0
OnceStep below (assign site x e) = Unit {0}
OnceStep below (write site m i e) = Unit {0}
OnceStep below (retag site x n) = Unit {0}
OnceStep below (retag_cell site m j n) = Unit {0}
OnceStep below (go_to site target) = Unit {0}
OnceStep below (fall_to_child site hang) = below

-- No memory is written after it was written, on any path: a refused fall has entered no child before its handler. What
-- comes behind an accepted step comes behind all that the step reaches.
abbrev mutual
  pub Once : Group → (below : Type 0) → Command → Type 0
  Once g below (lone k) = OnceStep below k
  Once g below (try k hang h) = OnceStep below k × OnceBlock g below h
      × ((m : ℕ) → (step_writes k m && block_reaches g h m) ≡ false)
  Once g below (if_else hang e a b) = OnceBlock g below a × OnceBlock g below b
  Once g below (try_then k hang a b) =
      OnceStep below k × OnceBlock g below a × OnceBlock g below b
      × ((m : ℕ) → (step_reaches g k m && block_reaches g a m) ≡ false)
      × ((m : ℕ) → (step_writes k m && block_reaches g b m) ≡ false)
  Once g below (case_of hang e arms) = OnceArms g below arms

  pub OnceArms : Group → (below : Type 0) → Arms → Type 0
  OnceArms g below (last_arm b) = OnceBlock g below b
  OnceArms g below (and_arm constants b arms) = OnceBlock g below b × OnceArms g below arms

  pub OnceBlock : Group → (below : Type 0) → Block → Type 0
  OnceBlock g below end_block = Unit {0}
  OnceBlock g below (command_then c cs) = Once g below c × OnceBlock g below cs
      × ((m : ℕ) → (reaches g c m && block_reaches g cs m) ≡ false)

-- So it is in the bodies of these states, and in all bodies that they may fall into. No path comes to any other.
abbrev mutual
  pub OnceState : State → Type 0
  OnceState (state_node s b g) = OnceBlock g (OnceGroup g) b

  pub OnceGroup : Group → Type 0
  OnceGroup no_node = Unit {0}
  OnceGroup (and_node t g) = OnceState t × OnceGroup g
