-- How large flat programs are: how many items their netlists may have at most.
use Rattle.std.specs.Prelude.{ℕ, ◌+◌, List, [], ◌∷◌, length}
use Rattle.sap_ir.specs.Source.{Action, set, put, Command, Source}
use Rattle.sap_size.specs.Terms.{operations}

-- A choice of what is assigned; of whether, where and what is written.
abbrev pub action_weight : Action → ℕ
action_weight (set x a) = 1 + operations a
action_weight (put m i a) = 3 + operations i + operations a

-- The operations of a guarded command.
abbrev pub command_weight : Command → ℕ
command_weight c = operations c.when + action_weight c.act

-- The operations of a list of guarded commands.
abbrev pub commands_weight : List Command → ℕ
commands_weight [] = 0
commands_weight (c ∷ cs) = command_weight c + commands_weight cs

-- The weight of a list of guarded commands: its operations, ports, registers and memories.
abbrev pub source_weight : Source → ℕ
source_weight s = commands_weight s.commands + length s.ports + length s.registers + length s.memories
