-- The definitions of tag insertion that proofs name, each from the file in which it stands. Declares nothing.
pub use Rattle.sap_tagged.specs.Commands.{arm_count, decides, effect_of, for_each, gives, looks, outcome, outcome_then, own_wires, pick_width, picks}
pub use Rattle.sap_tagged.specs.Commands.{picks_arm, raises, refusal, resets, stores, sweep, wires, wires_arms, wires_block}
unfoldable pub use Rattle.sap_tagged.specs.Commands.{arms_plain, attempt_of, attempt_then_of, block_plain, command_plain, pick_of, select_of}
pub use Rattle.sap_tagged.specs.Few.{Few, FewArms, FewBlock, FewGroup, FewHere, FewState, HaveConstants}
pub use Rattle.sap_tagged.specs.Keys.{entity_word, first_key, inner_key, Key, key_name, level_key, numeral, refused_key, same, seat_key, seat_word}
pub use Rattle.sap_tagged.specs.Keys.{tag_key, value_key, wire_key}
pub use Rattle.sap_tagged.specs.Law.{AllNumbersFit, declared_in, IsSound, plain_for, PlainsKeepRules, PlainsWriteOnce, RunStands, shown, shows}
pub use Rattle.sap_tagged.specs.Levels.{all_dynamic, always, below_or_at, bits, cell_tag, child_enters, child_tag, enters, expr, guard_of, lub, new_tag}
pub use Rattle.sap_tagged.specs.Levels.{place_width, placed, seat_bits, seat_of, stays, tag_of, test_of, told_tag, var, widened, written, yes}
pub use Rattle.sap_tagged.specs.Plain.{all_entities, arms_wires, block_wires, command_wires, first_wires, for_entities, group_wires, has_own_tag}
pub use Rattle.sap_tagged.specs.Plain.{inner_wires, level_at_start, memories_of, memory_of, plain_of, registers_of, seat_registers, seat_var}
pub use Rattle.sap_tagged.specs.Plain.{shown_registers, site_wires, state_wires, step_wires, tag_registers, tag_var, tags_of, value_var, variable, wire}
pub use Rattle.sap_tagged.specs.Plain.{wires_of}
pub use Rattle.sap_tagged.specs.Setting.{Setting, setting_of}
pub use Rattle.sap_tagged.specs.Stands.{at, has_tag, is_value, Lawful, level_after, refused_after, Stands, tag_slot, Turns}
pub use Rattle.sap_tagged.specs.States.{body_wires, saved, saves, wires_group, wires_state}
unfoldable pub use Rattle.sap_tagged.specs.States.{group_plain, top_plain}
