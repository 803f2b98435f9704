-- The laws that the reader's functions rest on, function by function.
use Rattle.sap_vparse.proofs.ItemLaws.{end_other, end_there, item_initial, item_register, items_end, items_more, register_end}
use Rattle.sap_vparse.proofs.Laws.{after_end, after_two, kind_reg, kind_wire, name_bracket, name_other, operand_constant, operand_name, parts_end, parts_more, port_input, port_output, ports_end, ports_more, right_constant, right_name, right_one}
use Rattle.sap_vparse.proofs.Turns.{always_turns, assign_turns, cell_turns, cells_end_turns, cells_turns, choose_turns, concat_turns, file_turns, integer_turns, loop_turns, range_turns, slice_turns, start_turns, update_turns, wire_turns, write_turns}
use Rattle.sap_walk.proofs.Walking.{bind_ok, bind_err, bind_pure}

pub ruleset operands = (operand_name, operand_constant, bind_ok, bind_err, bind_pure)

pub ruleset ranges = (range_turns, bind_ok, bind_err, bind_pure)

pub ruleset kinds = (kind_reg, kind_wire, bind_ok, bind_err, bind_pure)

pub ruleset inputs = (port_input, bind_ok, bind_err, bind_pure)

pub ruleset outputs = (port_output, bind_ok, bind_err, bind_pure)

pub ruleset port_list = (ports_more, ports_end, bind_ok, bind_err, bind_pure)

pub ruleset operators = (after_two, bind_ok, bind_err, bind_pure)

pub ruleset choices = (choose_turns, bind_ok, bind_err, bind_pure)

pub ruleset ends = (after_end, bind_ok, bind_err, bind_pure)

pub ruleset slices = (slice_turns, bind_ok, bind_err, bind_pure)

pub ruleset cells = (cell_turns, bind_ok, bind_err, bind_pure)

pub ruleset names = (right_name, name_bracket, name_other, bind_ok, bind_err, bind_pure)

pub ruleset constants = (right_constant, bind_ok, bind_err, bind_pure)

pub ruleset unaries = (right_one, bind_ok, bind_err, bind_pure)

pub ruleset part_list = (parts_more, parts_end, bind_ok, bind_err, bind_pure)

pub ruleset braces = (concat_turns, bind_ok, bind_err, bind_pure)

pub ruleset wires = (wire_turns, bind_ok, bind_err, bind_pure)

pub ruleset registers = (item_register, bind_ok, bind_err, bind_pure)

pub ruleset ends_of_registers = (register_end, cells_end_turns, bind_ok, bind_err, bind_pure)

pub ruleset integers = (integer_turns, bind_ok, bind_err, bind_pure)

pub ruleset assigns = (assign_turns, bind_ok, bind_err, bind_pure)

pub ruleset starts = (start_turns, bind_ok, bind_err, bind_pure)

pub ruleset loops = (loop_turns, bind_ok, bind_err, bind_pure)

pub ruleset contents = (cells_turns, bind_ok, bind_err, bind_pure)

pub ruleset initials = (item_initial, bind_ok, bind_err, bind_pure)

pub ruleset updates = (update_turns, bind_ok, bind_err, bind_pure)

pub ruleset writes = (write_turns, bind_ok, bind_err, bind_pure)

pub ruleset always = (always_turns, bind_ok, bind_err, bind_pure)

pub ruleset ending = (end_there, end_other, bind_ok, bind_err, bind_pure)

pub ruleset item_list = (items_more, items_end, bind_ok, bind_err, bind_pure)

pub ruleset files = (file_turns, bind_ok, bind_err, bind_pure)
