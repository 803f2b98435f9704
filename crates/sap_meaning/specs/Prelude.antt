-- The definitions of programs and their labelled meaning that proofs of other crates name, each from the file in which
-- it stands. Declares nothing.
pub use Rattle.sap_meaning.specs.Agree.{active_path, ActiveState, Alike, High, InputsAgree, Low, next_part, Part, PartsAlike, start_part, path_from, PathsRelated, RefusalsAgree}
pub use Rattle.sap_meaning.specs.Agree.{Relation, seen, SlotsAlike, StatesAgree, StreamsAgree}
pub use Rattle.sap_meaning.specs.Checks.{child_level, child_opens, entry, guard, Home, opens, site_of, test}
pub use Rattle.sap_meaning.specs.Codes.{LookAlike}
pub use Rattle.sap_meaning.specs.Cycle.{at_inputs, given, inputs_before, run_from, Tagged}
unfoldable pub use Rattle.sap_meaning.specs.Cycle.{cycle, cycle_listed, root_fall, set_inputs}
unfoldable pub use Rattle.sap_meaning.specs.Does.{attempt, attempt_then, does, does_arms, does_block, does_child, does_state, effect, select}
pub use Rattle.sap_meaning.specs.Does.{Action, branch, is_constant, Surroundings, within}
pub use Rattle.sap_meaning.specs.Examples.{four_levels}
pub use Rattle.sap_meaning.specs.Expressions.{level_at, new_level, tag, told, value, width_of}
pub use Rattle.sap_meaning.specs.Fine.{Closes, ClosingArms, ExactCommand, ExactGroup, ExactProgram, ExactStep, Final, FineCommand, FineGroup, FineLevel}
pub use Rattle.sap_meaning.specs.Fine.{FineNode, FineProgram, FineState, FineStep, FineTerm, inside, kids_of, NoTransfer, number_of, Open, size, transfers}
pub use Rattle.sap_meaning.specs.Laws.{ListsServe, SitesInOrder}
pub use Rattle.sap_meaning.specs.Once.{arms_reaching, block_reaches, block_reaching, group_reaches, Once, OnceArms, OnceBlock, OnceGroup, OnceState}
pub use Rattle.sap_meaning.specs.Once.{OnceStep, reaches, reaching, state_reaches, step_reaches, step_reaching, step_writes, writes}
pub use Rattle.sap_meaning.specs.Program.{and_arm, and_node, Arms, assign, at_place, authority, below, Block, both, case_of, children, Command}
pub use Rattle.sap_meaning.specs.Program.{command_then, depth_of, end_block, Entity, entity, fall_to_child, fixed, go_to, Group, if_else, is_dynamic}
pub use Rattle.sap_meaning.specs.Program.{is_input, is_memory, is_register, is_state, Kind, kind_is_input, kind_is_memory, kind_is_register, kind_is_state}
pub use Rattle.sap_meaning.specs.Program.{last, last_arm, LevelTerm, listed, lone, no_node, nothing, of, place, Program, retag, retag_cell, root, State}
pub use Rattle.sap_meaning.specs.Program.{state_node, Step, try, try_then, width, World, write}
pub use Rattle.sap_meaning.specs.Runs.{listed_alone}
unfoldable pub use Rattle.sap_meaning.specs.Runs.{run, run_arms, run_block, run_child, run_state}
pub use Rattle.sap_meaning.specs.Sites.{block_sites, group_sites, is_site, numbers_from, PlacedStep, program_sites, refused_sites, RisesFrom, site_numbers}
pub use Rattle.sap_meaning.specs.Sites.{some_enforced, state_sites, step_sites, Sublist}
pub use Rattle.sap_meaning.specs.Sized.{AreWithin, depth, Indexed, Indexes, SizedCommand, SizedGroup, SizedLevel, SizedProgram, SizedState, SizedStep}
pub use Rattle.sap_meaning.specs.Sized.{SizedTerm}
pub use Rattle.sap_meaning.specs.State.{AllFit, first_level, first_number, Holds, input_widths, InputsFit, labelled_run, Resting, StreamFits}
unfoldable pub use Rattle.sap_meaning.specs.State.{first}
pub use Rattle.sap_meaning.specs.Store.{After, and_then, child, held, home, level, lowered, next, next_whole, number, own, owner, raised, Refusal}
pub use Rattle.sap_meaning.specs.Store.{same_slot, Slot, source, start, start_whole, stay, Store}
unfoldable pub use Rattle.sap_meaning.specs.Store.{put_child, put_level, put_number, raise, reset, settle}
pub use Rattle.sap_meaning.specs.Touches.{among, arms_hang, block_assigns, block_hangs, block_retags, group_assigns, group_retags, hangs, raised_alone}
pub use Rattle.sap_meaning.specs.Touches.{retags, root_touches, state_assigns, state_retags, step_assigns, step_hangs, step_retags, touches}
pub use Rattle.sap_meaning.specs.Walks.{arm_constants, Asks, body_of, Every, EveryBody, EveryBodyIn, EveryInArms, EveryInBlock, gathered, gathered_from}
pub use Rattle.sap_meaning.specs.Walks.{gathered_from_group, gathered_in_block, some_in_arms, some_in_block}
