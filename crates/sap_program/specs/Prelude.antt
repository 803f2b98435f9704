-- The definitions of programs as they are held that proofs of other crates name, each from the file in which it stands.
-- Declares nothing.
pub use Rattle.sap_program.specs.Design.{IsProgramOf}
pub use Rattle.sap_program.specs.Hangs.{flags, hangs, rises, rises_from}
pub use Rattle.sap_program.specs.Views.{arm_block, command_of, commands_in, constants_of, count, entity_of, program_in, state_of, step_of, term_of}
unfoldable pub use Rattle.sap_program.specs.Views.{arms_before, block_of, group_of}
