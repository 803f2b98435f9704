-- The plain program of a design: its declarations, and its states.
use Rattle.std.specs.Prelude.{ℕ, zero, suc, ◌+◌, nat_lt, Bool, List, [], ◌∷◌, ◌++◌, if◌then◌else◌}
use Rattle.sap_maps.specs.Maps.{Name}
use Rattle.sap_meaning.specs.Program as program
use Rattle.sap_meaning.specs.Program.{Entity, root, children, width, is_input, is_register, is_memory, is_state, is_dynamic, listed, Command, lone, try, if_else, try_then, case_of, Arms, last_arm, and_arm, Block, end_block, command_then, State, state_node, Group, no_node, and_node}
use Rattle.sap_meaning.specs.Expressions.{width_of}
use Rattle.sap_meaning.specs.Store.{own}
use Rattle.sap_meaning.specs.State.{first_level}
use Rattle.sap_ir.specs.declared.guarded.Var.{Var}
use Rattle.sap_ir.specs.declared.guarded.MemoryVariable.{MemoryVariable}
use Rattle.sap_ir.specs.IsGuarded.{variable_names}
use Rattle.sap_ir.specs.Plain.Nested.{Nested, seat_width}
use Rattle.sap_interface.specs.StandsFor.{Named, world, depth}
use Rattle.sap_tagged.specs.Keys.{value_key, tag_key, seat_key, refused_key, level_key, wire_key, first_key, inner_key, key_name}
use Rattle.sap_tagged.specs.Setting.{setting_of}
use Rattle.sap_tagged.specs.Commands.{wires, wires_block, pick_width}
use Rattle.sap_tagged.specs.States.{wires_group, saved, top_plain}

abbrev pub variable : Name → (width start : ℕ) → Var
variable n u start = record { name = n; width = u; start = start }

-- The code of the level that an entity starts with.
abbrev pub level_at_start : Named → ℕ → ℕ
level_at_start d x = d.code (first_level (world d) (own x))

-- An entity's number, its tag, and its current child.
abbrev pub value_var : Named → (x start : ℕ) → Var
value_var d x start = variable (key_name d (value_key x)) (width (world d) x) start

-- The variable of an entity's tag.
abbrev pub tag_var : Named → (tag x start : ℕ) → Var
tag_var d tag x start = variable (key_name d (tag_key x)) tag start

-- The register of a state's current child.
abbrev pub seat_var : Named → ℕ → Var
seat_var d p = variable (key_name d (seat_key p)) (seat_width (children (world d) p)) 0

-- What is declared for each entity that is picked, of those from number x on.
abbrev pub for_entities : {A : Type 0} → (picks : ℕ → Bool) → (of : ℕ → List A) → (x : ℕ) → List Entity → List A
for_entities picks of x [] = []
for_entities picks of x (e ∷ es) = (if picks x then of x else []) ++ for_entities picks of (x + 1) es

-- What is made of each entity of a kind, in order.
abbrev pub all_entities : {A : Type 0} → Named → (picks : ℕ → Bool) → (of : ℕ → List A) → List A
all_entities d picks of = for_entities picks of 0 (world d).entities

-- The inputs of the plain program: a value and a tag for each input of the design.
abbrev pub inputs_of : Named → (tag : ℕ) → List Var
inputs_of d tag = all_entities d (is_input (world d)) (λ x. value_var d x 0 ∷ tag_var d tag x 0 ∷ [])

-- Registers that are ports.
abbrev pub shown_registers : Named → (tag : ℕ) → List Var
shown_registers d tag =
    all_entities d (is_register (world d)) (λ x. value_var d x (program.entity (world d) x).initial
    ∷ tag_var d tag x (level_at_start d x) ∷ [])

-- Those of states and of dynamic memories, and those of current children.
abbrev pub has_own_tag : Named → ℕ → Bool
has_own_tag d x = if is_memory (world d) x then is_dynamic (world d) x else is_state (world d) x

-- The registers of tags that no port shows.
abbrev pub tag_registers : Named → (tag : ℕ) → List Var
tag_registers d tag = all_entities d (has_own_tag d) (λ x. tag_var d tag x (level_at_start d x) ∷ [])

-- The registers of current children.
abbrev pub seat_registers : Named → List Var
seat_registers d = all_entities d (λ p. nat_lt 0 (children (world d) p)) (λ p. seat_var d p ∷ [])
    ++ seat_var d (root (world d)) ∷ []

-- The registers of the plain program: those that ports show, the other tags, the current children.
abbrev pub registers_of : Named → (tag : ℕ) → List Var
registers_of d tag = shown_registers d tag ++ (tag_registers d tag ++ seat_registers d)

-- Whether a site is refused, and at which level; of so many sites from site k on.
abbrev pub site_wires : Named → (tag k sites : ℕ) → List Var
site_wires d tag k zero = []
site_wires d tag k (suc n) = variable (key_name d (refused_key k)) 1 0
    ∷ variable (key_name d (level_key k)) tag 0 ∷ site_wires d tag (k + 1) n

-- The program's own wires, each after what it holds: a level, one bit, or of a `case` the number and the number of the
-- block.

-- The helping wire of a number.
abbrev pub wire : Named → (k width : ℕ) → Var
wire d k u = variable (key_name d (wire_key k)) u 0

-- The five helping wires of a step.
abbrev pub step_wires : Named → (tag k : ℕ) → List Var
step_wires d tag k = wire d k 1 ∷ wire d (k + 1) tag ∷ wire d (k + 2) tag ∷ wire d (k + 3) tag ∷ wire d (k + 4) 1 ∷ []

-- The helping wires of a command, in the order in which they are numbered.
abbrev mutual
  pub command_wires : Named → (tag k : ℕ) → Command → List Var
  command_wires d tag k (lone s) = step_wires d tag k
  command_wires d tag k (try s hang h) = step_wires d tag k ++ block_wires d tag (k + 5) h
  command_wires d tag k (if_else hang e a b) =
      wire d k tag ∷ wire d (k + 1) tag ∷ (block_wires d tag (k + 2) a ++ block_wires d tag (k + 2 + wires_block a) b)
  command_wires d tag k (try_then s hang a b) =
      step_wires d tag k ++ (block_wires d tag (k + 5) a ++ block_wires d tag (k + 5 + wires_block a) b)
  command_wires d tag k (case_of hang e arms) =
      wire d k tag ∷ wire d (k + 1) tag ∷ wire d (k + 2) (width_of (world d) e)
      ∷ wire d (k + 3) (pick_width arms) ∷ arms_wires d tag (k + 4) arms

  pub arms_wires : Named → (tag k : ℕ) → Arms → List Var
  arms_wires d tag k (last_arm b) = block_wires d tag k b
  arms_wires d tag k (and_arm constants b arms) = block_wires d tag k b ++ arms_wires d tag (k + wires_block b) arms

  pub block_wires : Named → (tag k : ℕ) → Block → List Var
  block_wires d tag k end_block = []
  block_wires d tag k (command_then c cs) = command_wires d tag k c ++ block_wires d tag (k + wires c) cs

-- That of a state's own context, and those of its body.
abbrev mutual
  pub state_wires : Named → (tag k : ℕ) → State → List Var
  state_wires d tag k (state_node s b g) =
      wire d k tag ∷ (block_wires d tag (k + 1) b ++ group_wires d tag (k + 1 + wires_block b) g)

  pub group_wires : Named → (tag k : ℕ) → Group → List Var
  group_wires d tag k no_node = []
  group_wires d tag k (and_node (state_node s b g) rest) =
      state_wires d tag k (state_node s b g) ++ group_wires d tag (k + (1 + wires_block b + wires_group g)) rest

-- The tags of dynamic memories as the cycle began.
abbrev pub first_wires : Named → (tag : ℕ) → List Var
first_wires d tag = all_entities d (saved (world d)) (λ m. variable (key_name d (first_key m)) tag 0 ∷ [])

-- The contexts of children.
abbrev pub inner_wires : Named → (tag : ℕ) → List Var
inner_wires d tag = all_entities d (λ s. nat_lt 0 (children (world d) s))
    (λ s. variable (key_name d (inner_key s)) tag 0 ∷ [])

-- The wires of the plain program: two for each site, the saved tags, the contexts and the helping wires of all bodies.
abbrev pub wires_of : Named → (tag sites : ℕ) → List Var
wires_of d tag sites = site_wires d tag 1 sites
    ++ (first_wires d tag ++ (inner_wires d tag ++ group_wires d tag 0 d.program.states))

-- A memory, and that of its cells' tags where it is enforced.
abbrev pub memory_of : Named → ℕ → MemoryVariable
memory_of d m = record { name = key_name d (value_key m); width = width (world d) m; depth = depth d m; start = 0 }

-- The memory of the tags of an enforced memory; a dynamic memory has one tag, in a register.
abbrev pub tags_of : Named → (tag m : ℕ) → List MemoryVariable
tags_of d tag m =
    if is_dynamic (world d) m then [] else record {
      name = key_name d (tag_key m);
      width = tag;
      depth = depth d m;
      start = level_at_start d m;
    } ∷ []

-- The memories of the plain program: values and, for an enforced memory, tags.
abbrev pub memories_of : Named → (tag : ℕ) → List MemoryVariable
memories_of d tag = all_entities d (is_memory (world d)) (λ m. memory_of d m ∷ tags_of d tag m)

-- `tag` is the width of tags, `sites` how many check sites there are.
abbrev pub plain_of : Named → (tag sites : ℕ) → Nested
plain_of d tag sites = record {
  inputs = inputs_of d tag;
  wires = wires_of d tag sites;
  registers = registers_of d tag;
  memories = memories_of d tag;
  ports = variable_names (shown_registers d tag) ++ variable_names (site_wires d tag 1 sites);
  states = top_plain (setting_of d tag) (listed d.program.hang) 0 d.program.states;
}
