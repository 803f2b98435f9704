-- Programs whose cases have few arms, so that the numbers of their blocks have widths. Each arm has a constant.
use Rattle.std.specs.Prelude.{◌≤◌, ℕ, List, length}
use Rattle.std.specs.List.{AllByRecursion}
use Rattle.sap_tree.specs.Limits.{most_arms}
use Rattle.sap_meaning.specs.Program.{Command, lone, try, if_else, try_then, case_of, Arms, Block, State, Group}
use Rattle.sap_meaning.specs.Walks.{Every, EveryInArms, EveryInBlock, arm_constants, EveryBody, EveryBodyIn}
use Rattle.sap_tagged.specs.Commands.{arm_count}

-- Each arm has a constant.
abbrev pub HaveConstants : Arms → Type 0
HaveConstants arms = AllByRecursion (λ (constants : List ℕ). 1 ≤ length constants) (arm_constants arms)

-- A command that is a `case` has at most as many arms as a `case` may have, and each has a constant.
abbrev pub FewHere : Command → Type 0
FewHere (lone k) = Unit {0}
FewHere (try k hang h) = Unit {0}
FewHere (if_else hang e a b) = Unit {0}
FewHere (try_then k hang a b) = Unit {0}
FewHere (case_of hang e arms) = (arm_count arms ≤ most_arms) × HaveConstants arms

-- The same holds of each command within a command.
abbrev pub Few : Command → Type 0
Few c = Every FewHere c

-- The same holds of each command within the arms.
abbrev pub FewArms : Arms → Type 0
FewArms arms = EveryInArms FewHere arms

-- The same holds of each command within a block.
abbrev pub FewBlock : Block → Type 0
FewBlock b = EveryInBlock FewHere b

-- The same holds of the bodies of a state and of all states below it.
abbrev pub FewState : State → Type 0
FewState t = EveryBody FewBlock t

-- The same holds of the bodies of a group's states and of all states below them.
abbrev pub FewGroup : Group → Type 0
FewGroup g = EveryBodyIn FewBlock g
