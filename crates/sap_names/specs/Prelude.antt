-- The definitions of a design's names and widths that proofs of other crates name, each from the file in which it
-- stands. Declares nothing.
pub use Rattle.sap_names.specs.Best.{best_of}
pub use Rattle.sap_names.specs.Entities.{declared_in, entities_of, entity_of, find, group_entities, Lookup, number_of, state_entities, what_is}
pub use Rattle.sap_names.specs.Fault.{Before, BeforeAll, First, StandsIn}
pub use Rattle.sap_names.specs.NameFaults.{arms_faults, block_faults, command_faults, commands_faults, constants_faults, declaration_faults}
pub use Rattle.sap_names.specs.NameFaults.{declarations_faults, design_name_faults, else_faults, expression_faults, fault_if, fits_use, is_declared}
pub use Rattle.sap_names.specs.NameFaults.{kind_faults, level_faults, name_faults, parts_faults, simple_faults, start_faults, state_faults, states_faults}
pub use Rattle.sap_names.specs.NameFaults.{tag_faults, tags_faults, too_large, twice, under_faults, unsettled, use_faults, width_faults}
pub use Rattle.sap_names.specs.Widths.{all_sound, asked_left, asked_one, asked_right, cell_width, else_of, extended, family, index_bits, index_width}
pub use Rattle.sap_names.specs.Widths.{is_reduction, is_sound, own, own_binary, own_parts, plain_width, register_width, sliced, sound_width, width_of}
