-- What the parts of a program are seen as. What hangs on a command is told of each of n entities.
use Rattle.std.specs.Prelude.{ℕ, List, [], ◌∷◌, length, map, get_or}
use Rattle.sap_maps.specs.Term.{Term, constant, read, cell, one, two, choose, join, part}
use Rattle.sap_meaning.specs.Program.{LevelTerm, fixed, of, at_place, both, Arms, last_arm, Block, end_block, command_then, Group, no_node, and_node}
use Rattle.sap_meaning.specs.Program as program
use Rattle.sap_meaning.specs.Checks as checks
use Rattle.sap_lattice.specs.Order.{Order}
use Rattle.sap_program.specs.Hangs.{flags}
use Rattle.sap_program.specs.declared.program.Program.{Program}
use Rattle.sap_program.specs.declared.program.Sort.{Sort}
use Rattle.sap_program.specs.declared.program.Sort.TheVariants as sort
use Rattle.sap_program.specs.declared.program.Entity.{Entity}
use Rattle.sap_program.specs.declared.program.Number.{Number}
use Rattle.sap_program.specs.declared.program.Number.TheVariants as number
use Rattle.sap_program.specs.declared.program.TagOf.{TagOf}
use Rattle.sap_program.specs.declared.program.TagOf.TheVariants as tag
use Rattle.sap_program.specs.declared.program.Step.{Step}
use Rattle.sap_program.specs.declared.program.Step.TheVariants as step
use Rattle.sap_program.specs.declared.program.Arm.{Arm}
use Rattle.sap_program.specs.declared.program.Command.{Command, Row_of-Command, end_of-Command, more_of-Command, Row_of-Arm, end_of-Arm, more_of-Arm}
use Rattle.sap_program.specs.declared.program.Command.TheVariants as command
use Rattle.sap_program.specs.declared.home.Home.{Home}
use Rattle.sap_program.specs.declared.program.State.{State, State', Row_of-State, end_of-State, more_of-State}

-- The kind of an entity that a sort stands for.
abbrev pub kind_of_sort : Sort → program.Kind
kind_of_sort sort.Input = program.input
kind_of_sort sort.Register = program.register
kind_of_sort (sort.Memory depth) = program.memory depth
kind_of_sort (sort.State place last) = program.state place last

-- The entity that a stored entity stands for.
abbrev pub entity_of : Entity → program.Entity
entity_of e = record {
  kind = kind_of_sort e.sort;
  width = e.width;
  dynamic = e.dynamic;
  declared = e.declared;
  authority = e.authority;
  initial = e.initial;
}

-- The term that a stored number stands for.
abbrev pub term_of : Number → Term ℕ
term_of (number.Constant u n) = constant u n
term_of (number.Read x) = read x
term_of (number.Cell' m p i) = cell m (term_of i)
term_of (number.One' op p a) = one op (term_of a)
term_of (number.Two' op p a q b) = two op (term_of a) (term_of b)
term_of (number.Choose' p c q a r b) = choose (term_of c) (term_of a) (term_of b)
term_of (number.Join' p a q b) = join (term_of a) (term_of b)
term_of (number.Part' p a hi lo) = part (term_of a) hi lo

-- The tag expression that a stored one stands for.
abbrev pub level_of : TagOf → LevelTerm
level_of (tag.Fixed l) = fixed l
level_of (tag.Of e) = of (term_of e)
level_of (tag.AtPlace e) = at_place (term_of e)
level_of (tag.Both' p a q b) = both (level_of a) (level_of b)

-- The step that a stored step stands for.
abbrev pub step_of : (n : ℕ) → Step → program.Step
step_of n (step.Set k x e) = program.assign k x (term_of e)
step_of n (step.Write k m i e) = program.write k m (term_of i) (term_of e)
step_of n (step.Retag k x t) = program.retag k x (level_of t)
step_of n (step.RetagCell k m i t) = program.retag_cell k m (term_of i) (level_of t)
step_of n (step.Goto k s) = program.go_to k s
step_of n (step.Fall k hang) = program.fall_to_child k (flags n hang)

unfoldable mutual
  pub command_of : (n : ℕ) → Command → program.Command
  command_of n (command.Do s) = program.lone (step_of n s)
  command_of n (command.Try' s hang k handler) = program.try (step_of n s) (flags n hang) (row_block n handler)
  command_of n (command.If' hang e k then_part m else_part) =
      program.if_else (flags n hang) (term_of e) (row_block n then_part) (row_block n else_part)
  command_of n (command.TryThen' s hang k accepted m refused) =
      program.try_then (step_of n s) (flags n hang) (row_block n accepted) (row_block n refused)
  command_of n (command.Case' hang e k arms m last_part) =
      program.case_of (flags n hang) (term_of e) (row_arms n arms (last_arm (row_block n last_part)))

  -- Arms in front of others.
  pub row_arms : (n : ℕ) → {k : _} → Row_of-Arm k → Arms → Arms
  row_arms n end_of-Arm others = others
  row_arms n (more_of-Arm constants m block rest) others =
      program.and_arm constants.items (row_block n block) (row_arms n rest others)

  pub row_block : (n : ℕ) → {k : _} → Row_of-Command k → Block
  row_block n end_of-Command = end_block
  row_block n (more_of-Command c rest) = command_then (command_of n c) (row_block n rest)

-- The block that stored commands stand for.
unfoldable pub block_of : (n : ℕ) → List Command → Block
block_of n [] = end_block
block_of n (c ∷ cs) = command_then (command_of n c) (block_of n cs)

-- the constants of an arm, and its commands

-- The constants of an arm.
abbrev pub constants_of : Arm → List ℕ
constants_of arm = arm.constants.items

-- The commands of an arm.
abbrev pub commands_in : Arm → List Command
commands_in arm = arm.block.items

-- The block that an arm's commands stand for.
abbrev pub arm_block : (n : ℕ) → Arm → Block
arm_block n arm = block_of n arm.block.items

-- The arms of a list, in front of others.
unfoldable pub arms_before : (n : ℕ) → List Arm → Arms → Arms
arms_before n [] others = others
arms_before n (arm ∷ arms) others = program.and_arm (constants_of arm) (arm_block n arm) (arms_before n arms others)

unfoldable mutual
  pub state_of : (n : ℕ) → State → program.State
  state_of n (State' x body k children) = program.state_node x (block_of n body.items) (row_group n children)

  pub row_group : (n : ℕ) → {k : _} → Row_of-State k → Group
  row_group n end_of-State = no_node
  row_group n (more_of-State s rest) = and_node (state_of n s) (row_group n rest)

-- The children that a list of stored states stands for.
unfoldable pub group_of : (n : ℕ) → List State → Group
group_of n [] = no_node
group_of n (s ∷ ss) = and_node (state_of n s) (group_of n ss)

-- The place of a body that a stored one stands for: its state, the parent and the children.
abbrev pub home_of : (n : ℕ) → Home → checks.Home
home_of n at = record { state = at.state; parent = at.parent; children = group_of n at.children.now }

-- One block behind another.
abbrev pub followed : Block → Block → Block
followed end_block b = b
followed (command_then c cs) b = command_then c (followed cs b)

-- One group behind another.
abbrev pub joined : Group → Group → Group
joined no_node g = g
joined (and_node s rest) g = and_node s (joined rest g)

-- How many entities there are.
abbrev pub count : Program → ℕ
count p = length p.entities.items

-- What is declared of the entity of a number.
abbrev pub entity_in : Program → ℕ → program.Entity
entity_in p x = get_or (map entity_of p.entities.items) x program.nothing

-- The names of the entities.
abbrev pub names_in : Program → List (List ℕ)
names_in p = map (λ e. e.name) p.entities.items

-- The program that a stored program stands for, over levels of this order.
abbrev pub program_in : Order → Program → program.Program
program_in o p = record {
  world = record { order = o; entities = map entity_of p.entities.items; children = p.children.items };
  states = group_of (count p) p.states.items;
  hang = flags (count p) p.hang;
}
