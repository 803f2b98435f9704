-- The definitions of programs of guarded commands and of nested states that proofs of other crates name, each from the
-- file in which it stands. Declares nothing.
pub use Rattle.sap_ir.specs.Calcs.{action_of, command_of, commands_of, term_of}
pub use Rattle.sap_ir.specs.Guarded.{after, after_action, after_command, begun, cell_at_start, cycle, first_cell, first_number, Going, number_at_start}
pub use Rattle.sap_ir.specs.Guarded.{register_number, set_cell, value_in}
pub use Rattle.sap_ir.specs.IsGuarded.{ActionFine, assignable, CommandFine, declared, is_helping, IsGuarded, IsMemoryVariable, IsPlainVar, IsRegisterVar}
pub use Rattle.sap_ir.specs.IsGuarded.{memory_names, TermFine, variable_names}
pub use Rattle.sap_ir.specs.Plain.Does.{body_does, child_does, enter, falls_of, first_child, put_value, restart}
pub use Rattle.sap_ir.specs.Plain.IsPlain.{BodyFine, ends_in_transfers, ForestFine, is_gate, is_stop, IsPlain, SeatFine, transfers}
pub use Rattle.sap_ir.specs.Plain.Nested.{act, Body, cases, children_of, declarations, fall, Forest, goto, group_names, has_states, Nested, none, place}
pub use Rattle.sap_ir.specs.Plain.Nested.{seat_width, seats, size, state, state_names, stop}
pub use Rattle.sap_ir.specs.Plain.Program.{nested_of}
pub use Rattle.sap_ir.specs.Plain.Views.{body_of, command_before, follow, forest_of, planted, state_before}
pub use Rattle.sap_ir.specs.Plain.Writes.{body_writes, child_writes, PlainWritesOnce}
pub use Rattle.sap_ir.specs.Program.{source_of}
pub use Rattle.sap_ir.specs.Source.{Action, Command, put, readable, set, shapes, Source, width_of}
pub use Rattle.sap_ir.specs.Writes.{memories_written, NumbersFit, with_memory, WithinBefore, WritesOnce}
