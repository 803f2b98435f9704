-- The states of a plain program.
use Rattle.std.specs.Prelude.{ℕ, ◌+◌, ◌&&◌, Bool}
use Rattle.sap_meaning.specs.Program.{World, root, is_dynamic, is_memory, State, state_node, Group, no_node, and_node}
use Rattle.sap_meaning.specs.Walks.{body_of, gathered_from, gathered_from_group}
use Rattle.sap_ir.specs.Plain.Nested.{Body, Forest, none, state}
use Rattle.sap_tagged.specs.Keys.{tag_key, wire_key, first_key, inner_key}
use Rattle.sap_tagged.specs.Setting.{Setting}
use Rattle.sap_tagged.specs.Levels.{var}
use Rattle.sap_tagged.specs.Commands.{gives, for_each, raises, wires_block, block_plain}

-- How many wires the states of a group have: each has one for its own context.
abbrev pub body_wires : State → ℕ
body_wires t = 1 + wires_block (body_of t)

-- How many helping wires a state and all states below it take.
abbrev pub wires_state : State → ℕ
wires_state t = gathered_from 0 ◌+◌ body_wires t

-- How many helping wires the states of a group and all states below them take.
abbrev pub wires_group : Group → ℕ
wires_group g = gathered_from_group 0 ◌+◌ body_wires g

-- The states of a group, from wire k on. The body of each first takes the context that its parent left.
unfoldable pub group_plain : Setting → (parent k : ℕ) → Group → Forest
group_plain d parent k no_node = none
group_plain d parent k (and_node (state_node s b g) rest) =
    state (d.state_name s)
    (gives d (wire_key k) (var d (inner_key parent))
    (block_plain d (record { state = s; parent = parent; children = g }) k (k + 1) b))
    (group_plain d s (k + 1 + wires_block b) g)
    (group_plain d parent (k + (1 + wires_block b + wires_group g)) rest)

-- The tags of dynamic memories are kept as the cycle begins.
abbrev pub saved : World → ℕ → Bool
saved w m = is_memory w m && is_dynamic w m

-- The tags of dynamic memories are saved at the start of a cycle, as their reads and writes need what was there.
abbrev pub saves : Setting → Body → Body
saves d rest = for_each d first_key (saved d.world) (λ m. var d (tag_key m)) rest

-- The top-level states: the body of each has its own level for a context, by which what hangs is raised first.
unfoldable pub top_plain : Setting → (hangs : ℕ → Bool) → (k : ℕ) → Group → Forest
top_plain d hangs k no_node = none
top_plain d hangs k (and_node (state_node s b g) rest) =
    state (d.state_name s)
    (saves d (gives d (wire_key k) (var d (tag_key s))
    (raises d hangs k (block_plain d (record { state = s; parent = root d.world; children = g }) k (k + 1) b))))
    (group_plain d s (k + 1 + wires_block b) g)
    (top_plain d hangs (k + (1 + wires_block b + wires_group g)) rest)
