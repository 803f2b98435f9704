-- The laws that the reader's functions rest on, function by function.
use Rattle.sap_parse.proofs.ExprLaws.{after_name_missing, after_name_there, bin_tail, bin_unary, choice_missing, expr_bin, parts_missing, parts_there, post_name, post_prim, prim_braces, prim_neither, prim_number, prim_paren, prim_sized, prim_zext, slices_missing, slices_there, tail_missing, tail_there, unary_missing, unary_there}
use Rattle.sap_parse.proofs.IndexLaws.{bracket_index}
use Rattle.sap_parse.proofs.CommandLaws.{arms_last, arms_there, block_steps, cell_part_missing, cmd_case, cmd_if, cmd_simple, cmds_missing, cmds_there, constant_braces, constant_neither, constant_number, constant_paren, constant_sized, constant_zext, constants_missing, constants_there, else_missing, ending_unhandled, goto_steps, simple_case, simple_fall, simple_goto, simple_if, simple_neither, simple_set_tag}
use Rattle.sap_parse.proofs.CommandRowLaws.{arm_rows, assign_rows, case_rows, cell_row, decided_rows, else_row, handled_row, if_rows, set_tag_rows}
use Rattle.sap_parse.proofs.DesignLaws.{authority_missing, authority_there, declaration_input, declaration_memory, declaration_neither, declaration_register, declarations_missing, declarations_there, enforced_steps, initial_missing, initial_there, kind_dynamic, kind_enforced, last_states_end, last_states_other, last_states_there, states_missing, states_there, header_missing, header_there}
use Rattle.sap_parse.proofs.DesignRowLaws.{design_rows, input_rows, memory_rows, register_rows, state_rows}
use Rattle.sap_parse.proofs.TagLaws.{join_steps, texpr_join, texpr_level, texpr_name, texpr_neither, texpr_tag, texprs_missing, texprs_there}
use Rattle.sap_parse.proofs.RowLaws.{bounds_row, braces_row, bracket_row, choice_row, level_at_row, paren_row, range_steps, row_more, row_steps, tag_of_row, zext_row}
use Rattle.sap_walk.proofs.Walking.{bind_ok, bind_err, bind_pure}

pub ruleset binding = (bind_ok, bind_err, bind_pure)

pub ruleset ranging = (range_steps, bind_ok, bind_err, bind_pure)

pub ruleset bounding = (bounds_row, bind_ok, bind_err, bind_pure)

pub ruleset cutting = (slices_there, slices_missing, bind_ok, bind_err, bind_pure)

pub ruleset choosing = (expr_bin, choice_row, choice_missing, bind_ok, bind_err, bind_pure)

pub ruleset joining = (bin_unary, bin_tail, tail_there, tail_missing, bind_ok, bind_err, bind_pure)

pub ruleset signing = (unary_there, unary_missing, bind_ok, bind_err, bind_pure)

pub ruleset posting = (post_prim, bind_ok, bind_err, bind_pure)

pub ruleset naming = (post_name, after_name_there, after_name_missing, bind_ok, bind_err, bind_pure)

pub ruleset slicing = (bracket_row, bind_ok, bind_err, bind_pure)

pub ruleset indexing = (bracket_index, bind_ok, bind_err, bind_pure)

pub ruleset primary = (prim_number, prim_sized, prim_paren, prim_braces, prim_zext, prim_neither)

pub ruleset enclosing = (row_steps, bind_ok, bind_err, bind_pure)

pub ruleset asking = (row_more, bind_ok, bind_err, bind_pure)

pub ruleset wrapping = (paren_row)

pub ruleset bracing = (braces_row, bind_ok, bind_err, bind_pure)

pub ruleset listing = (parts_there, parts_missing, bind_ok, bind_err, bind_pure)

pub ruleset extending = (zext_row, bind_ok, bind_err, bind_pure)

pub ruleset tagging = (texpr_name, texpr_tag, texpr_level, texpr_join, texpr_neither)

pub ruleset tag_of = (tag_of_row)

pub ruleset level_at = (level_at_row)

pub ruleset tag_join = (join_steps, bind_ok, bind_err, bind_pure)

pub ruleset tag_list = (texprs_there, texprs_missing, bind_ok, bind_err, bind_pure)

pub ruleset cell_parts = (cell_row, cell_part_missing)

pub ruleset targets = (assign_rows, bind_ok, bind_err, bind_pure)

pub ruleset tag_setting = (set_tag_rows, bind_ok, bind_err, bind_pure)

pub ruleset going = (goto_steps, bind_ok, bind_err, bind_pure)

pub ruleset simples = (simple_set_tag, simple_goto, simple_fall, simple_if, simple_case, simple_neither)

pub ruleset command_list = (cmds_there, cmds_missing, bind_ok, bind_err, bind_pure)

pub ruleset one_command = (cmd_if, cmd_case, cmd_simple, bind_ok, bind_err, bind_pure)

pub ruleset endings = (decided_rows, handled_row, ending_unhandled, bind_ok, bind_err, bind_pure)

pub ruleset constants = (constant_number, constant_sized, constant_paren, constant_braces, constant_zext, constant_neither)

pub ruleset constant_list = (constants_there, constants_missing, bind_ok, bind_err, bind_pure)

pub ruleset one_arm = (arm_rows, bind_ok, bind_err, bind_pure)

pub ruleset arm_list = (arms_there, arms_last, bind_ok, bind_err, bind_pure)

pub ruleset cases = (case_rows, bind_ok, bind_err, bind_pure)

pub ruleset branching = (if_rows, bind_ok, bind_err, bind_pure)

pub ruleset elses = (else_row, else_missing)

pub ruleset blocks = (block_steps, bind_ok, bind_err, bind_pure)

pub ruleset authorities = (authority_there, authority_missing, bind_ok, bind_err, bind_pure)

pub ruleset enforcing = (enforced_steps, bind_ok, bind_err, bind_pure)

pub ruleset kinds = (kind_dynamic, kind_enforced)

pub ruleset initials = (initial_there, initial_missing, bind_ok, bind_err, bind_pure)

pub ruleset inputs = (input_rows, bind_ok, bind_err, bind_pure)

pub ruleset registers = (register_rows, bind_ok, bind_err, bind_pure)

pub ruleset memories = (memory_rows, bind_ok, bind_err, bind_pure)

pub ruleset one_declaration = (declaration_input, declaration_register, declaration_memory, declaration_neither)

pub ruleset declaration_list = (declarations_there, declarations_missing, bind_ok, bind_err, bind_pure)

pub ruleset one_state = (state_rows, bind_ok, bind_err, bind_pure)

pub ruleset state_list = (states_there, states_missing, bind_ok, bind_err, bind_pure)

pub ruleset last_states = (last_states_there, last_states_end, last_states_other, bind_ok, bind_err, bind_pure)

pub ruleset headers = (header_there, header_missing, bind_ok, bind_err, bind_pure)

pub ruleset designs = (design_rows, bind_ok, bind_err, bind_pure)
