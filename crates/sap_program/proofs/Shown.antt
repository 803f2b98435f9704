-- Lists of commands and of states, and what they are seen as.
use Rattle.std.proofs.Common.{◌≡◌, ℕ, List, [], ◌∷◌, ◌++◌, sym, ap, ◌∙◌, refl}
use Rattle.std.specs.declared.vec.Vec.{Vec}
use Rattle.std.specs.declared.alloc.Global.{Global}
use Rattle.sap_program.specs.declared.program.Number.{Number}
use Rattle.sap_program.specs.declared.program.Step.{Step}
use Rattle.sap_program.specs.declared.program.Arm.{Arm}
use Rattle.sap_program.specs.declared.program.Command.{Command, Row_of-Command, end_of-Command, more_of-Command, items-the_row-Command, items_hidden-the_row-Command-0, items_shown-the_row-Command-0, Row_of-Arm, end_of-Arm, more_of-Arm, items-the_row-Arm, items_hidden-the_row-Arm-1}
use Rattle.sap_program.specs.declared.program.Command.TheBlock.{hidden-the_row-Command-0, hidden-the_row-Arm-1, shown-the_row-Command-0}
use Rattle.sap_program.specs.declared.program.Command.TheVariants as command
use Rattle.sap_program.specs.declared.program.Command.TheViews as shown
use Rattle.sap_program.specs.declared.program.State.{State, State', Row_of-State, end_of-State, more_of-State, items-the_row-State, items_shown-the_row-State-0, out-State, roll-State, out-roll-State, State-F}
use Rattle.sap_program.specs.declared.program.State.TheBlock.{shown-the_row-State-0}
use denote.Hole.Carrier.{out}
use Rattle.sap_meaning.specs.Program.{Arms, last_arm, Block, end_block, command_then, Group, no_node, and_node}
use Rattle.sap_meaning.specs.Program as program
use Rattle.sap_program.specs.Hangs.{flags}
use Rattle.sap_program.specs.Views.{term_of, step_of, command_of, row_block, block_of, constants_of, arm_block, row_arms, arms_before, state_of, row_group, group_of, followed, joined}

-- commands

module _ (n : ℕ) where
  row_block-items : {k : _} (row : Row_of-Command k) → row_block n row ≡ block_of n (items-the_row-Command k row)
  unfolding row_block block_of
  row_block-items end_of-Command = refl
  row_block-items (more_of-Command c rest) = ap (command_then (command_of n c)) (row_block-items rest)

  row_block-vec : (v : Vec Command Global) → row_block n (hidden-the_row-Command-0 v) ≡ block_of n v.items
  row_block-vec v = row_block-items (hidden-the_row-Command-0 v) ∙ ap (block_of n) (items_hidden-the_row-Command-0 v)

  pub block_of-none : block_of n [] ≡ end_block
  unfolding block_of
  block_of-none = refl

  pub command_of-do : (s : Step) → command_of n (command.Do s) ≡ program.lone (step_of n s)
  unfolding command_of
  command_of-do s = refl

  pub command_of-try : (s : Step) (hang : List ℕ) (cs : Vec Command Global)
      → command_of n (shown.Try s hang cs) ≡ program.try (step_of n s) (flags n hang) (block_of n cs.items)
  unfolding command_of
  command_of-try s hang cs = ap (program.try (step_of n s) (flags n hang)) (row_block-vec cs)

  pub command_of-if : (hang : List ℕ) (e : Number) (ys ns : Vec Command Global)
      → command_of n (shown.If hang e ys ns) ≡ program.if_else (flags n hang) (term_of e) (block_of n ys.items) (block_of n ns.items)
  unfolding command_of
  command_of-if hang e ys ns =
      ap (λ u. program.if_else (flags n hang) (term_of e) u (row_block n (hidden-the_row-Command-0 ns))) (row_block-vec ys)
      ∙ ap (λ u. program.if_else (flags n hang) (term_of e) (block_of n ys.items) u) (row_block-vec ns)

  pub command_of-then : (s : Step) (hang : List ℕ) (ys ns : Vec Command Global)
      → command_of n (shown.TryThen s hang ys ns) ≡ program.try_then (step_of n s) (flags n hang) (block_of n ys.items) (block_of n ns.items)
  unfolding command_of
  command_of-then s hang ys ns =
      ap (λ u. program.try_then (step_of n s) (flags n hang) u (row_block n (hidden-the_row-Command-0 ns))) (row_block-vec ys)
      ∙ ap (λ u. program.try_then (step_of n s) (flags n hang) (block_of n ys.items) u) (row_block-vec ns)

  row_arms-items : {k : _} (row : Row_of-Arm k) (others : Arms) → row_arms n row others ≡ arms_before n (items-the_row-Arm k row) others
  unfolding row_arms arms_before
  row_arms-items end_of-Arm others = refl
  row_arms-items (more_of-Arm constants m block rest) others =
      ap (λ (b : Block). program.and_arm constants.items b (row_arms n rest others)) (row_block-items block ∙ ap (block_of n) (sym (items_shown-the_row-Command-0 m block)))
      ∙ ap (program.and_arm constants.items (block_of n (shown-the_row-Command-0 m block).items)) (row_arms-items rest others)

  pub command_of-case : (hang : List ℕ) (e : Number) (arms : Vec Arm Global) (cs : Vec Command Global)
      → command_of n (shown.Case hang e arms cs) ≡ program.case_of (flags n hang) (term_of e) (arms_before n arms.items (last_arm (block_of n cs.items)))
  unfolding command_of
  command_of-case hang e arms cs =
      ap (λ u. program.case_of (flags n hang) (term_of e) (row_arms n (hidden-the_row-Arm-1 arms) (last_arm u))) (row_block-vec cs)
      ∙ ap (λ u. program.case_of (flags n hang) (term_of e) u)
      (row_arms-items (hidden-the_row-Arm-1 arms) (last_arm (block_of n cs.items))
      ∙ ap (λ (l : List Arm). arms_before n l (last_arm (block_of n cs.items))) (items_hidden-the_row-Arm-1 arms))

  pub arms_before-none : (others : Arms) → arms_before n [] others ≡ others
  unfolding arms_before
  arms_before-none others = refl

  -- a pushed arm stands in front of what follows
  pub before-push : (arms : List Arm) (arm : Arm) (others : Arms)
      → arms_before n (arms ++ arm ∷ []) others ≡ arms_before n arms (program.and_arm (constants_of arm) (arm_block n arm) others)
  unfolding arms_before
  before-push [] arm others = refl
  before-push (first ∷ arms) arm others = ap (program.and_arm (constants_of first) (arm_block n first)) (before-push arms arm others)

  -- a pushed command stands in front of what follows
  pub followed-push : (cs : List Command) (c : Command) (b : Block) → followed (block_of n (cs ++ c ∷ [])) b ≡ followed (block_of n cs) (command_then (command_of n c) b)
  unfolding block_of
  followed-push [] c b = refl
  followed-push (d ∷ cs) c b = ap (command_then (command_of n d)) (followed-push cs c b)

pub followed-end : (a : Block) → followed a end_block ≡ a
followed-end end_block = refl
followed-end (command_then c rest) = ap (command_then c) (followed-end rest)

-- states

module _ (n : ℕ) where
  row_group-items : {k : _} (row : Row_of-State k) → row_group n row ≡ group_of n (items-the_row-State k row)
  unfolding row_group group_of
  row_group-items end_of-State = refl
  row_group-items (more_of-State s rest) = ap (and_node (state_of n s)) (row_group-items rest)

  pub state_of-out : (s : State) → state_of n s ≡ program.state_node (out-State s).number (block_of n (out-State s).body.items) (group_of n (out-State s).children.items)
  unfolding state_of out-State shown-the_row-State-0 out
  state_of-out (State' x body shape row) =
      ap (λ (g : Group). program.state_node x (block_of n body.items) g) (row_group-items row ∙ ap (group_of n) (sym (items_shown-the_row-State-0 shape row)))

  pub state_of-roll : (s : State-F State) → state_of n (roll-State s) ≡ program.state_node s.number (block_of n s.body.items) (group_of n s.children.items)
  state_of-roll s =
      state_of-out (roll-State s)
      ∙ ap (λ (y : State-F State). program.state_node y.number (block_of n y.body.items) (group_of n y.children.items)) (out-roll-State s)

  pub group_of-none : group_of n [] ≡ no_node
  unfolding group_of
  group_of-none = refl

  pub joined-push : (ss : List State) (s : State) (g : Group) → joined (group_of n (ss ++ s ∷ [])) g ≡ joined (group_of n ss) (and_node (state_of n s) g)
  unfolding group_of
  joined-push [] s g = refl
  joined-push (r ∷ ss) s g = ap (and_node (state_of n r)) (joined-push ss s g)

pub joined-none : (g : Group) → joined g no_node ≡ g
joined-none no_node = refl
joined-none (and_node s rest) = ap (and_node s) (joined-none rest)

pub ruleset commands = (block_of-none, arms_before-none, command_of-do, command_of-try, command_of-if, command_of-then, command_of-case)

pub ruleset states = (group_of-none, state_of-out, state_of-roll)
