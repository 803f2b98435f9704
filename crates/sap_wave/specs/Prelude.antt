-- The definitions of dumps that proofs name, each from the file in which it stands. Declares nothing.
pub use Rattle.sap_wave.specs.Changes.{IsChangeAt, IsNoChange, IsOtherIn}
pub use Rattle.sap_wave.specs.Code.{number}
pub use Rattle.sap_wave.specs.Digits.{are_digits, is_digit, OneNumeral, spelled, spelled_behind}
unfoldable pub use Rattle.sap_wave.specs.Digits.{bits, bits_number, identifier, number_spelled, numeral}
pub use Rattle.sap_wave.specs.Dumping.{AddsBlock, begun, block_room, BlocksAddUp, changes_room, Dumping, IsAfter, last_numbers, numbers_seen, StandAt}
pub use Rattle.sap_wave.specs.Dumping.{with_block}
pub use Rattle.sap_wave.specs.Dumps.{all_set, block_of, blocks_from, changes, declaration, declarations, dump, dump_of, dump_text, head, IsReading}
pub use Rattle.sap_wave.specs.Dumps.{last_among, set_to}
pub use Rattle.sap_wave.specs.Examples.{first, lines, NoBlock, NoNumber, NotEnded, Nothing, one_variable, OtherIdentifier, OtherNumber, Read, SameNumber}
pub use Rattle.sap_wave.specs.Examples.{second, text, UnknownVariable, variables, Written}
pub use Rattle.sap_wave.specs.Faults.{again, IsFault, IsIdle, IsLeast, IsWrong, Misdeclared, Misplaced, no_form, no_name, no_width, not_later, other_id}
pub use Rattle.sap_wave.specs.Faults.{other_width, Stands, StandsAtEnd, StopsFrom, unknown, wrong}
pub use Rattle.sap_wave.specs.Laws.{DumpsReadSo, EachWaveOrFault, OneWaveOrFault, RunsReadBack}
pub use Rattle.sap_wave.specs.Lines.{block, change, end_definitions, ended, Form, form_text, is_formed, is_id, is_number, is_piece, IsLine, scope, text_of}
pub use Rattle.sap_wave.specs.Lines.{timescale, upscope, variable}
pub use Rattle.sap_wave.specs.Numbers.{now_of}
pub use Rattle.sap_wave.specs.Pieces.{is_not, IsCut}
pub use Rattle.sap_wave.specs.Read.{fault_at, IsFaultAt, IsWaveFault, ReadUpTo}
pub use Rattle.sap_wave.specs.Reading.{after, before_blocks, before_end, before_scope, before_timescale, blocks_of, changed, declaring, Ends, first_block}
pub use Rattle.sap_wave.specs.Reading.{in_block, is_first, is_for, is_full, IsChange, IsKnown, IsNextBlock, IsVariable, next_block, nothing, number_now}
pub use Rattle.sap_wave.specs.Reading.{numbers_in, OpenBlock, Reads, ReadsSo, State, Takes, width_at}
pub use Rattle.sap_wave.specs.Runs.{initial_numbers, initial_of, numbers_after, run_dump, run_wave, variables_among, variables_of}
pub use Rattle.sap_wave.specs.Shown.{names_in, StandsIn}
pub use Rattle.sap_wave.specs.Sound.{IsSound, SomeFit}
pub use Rattle.sap_wave.specs.Steps.{FormRead, IsIndexed, LineRead, open_of, Reaches, state_of, with_number}
pub use Rattle.sap_wave.specs.Waves.{AreVariables, IsFit, names_of, NumbersFit, Wave}
