-- The design is a tree of the grammar within the limits, and has no fault; its text.
use Rattle.std.proofs.Common.{◌≡◌, true, [], refl, sym, lit≤}
use Rattle.std.specs.Fmt.{digits}
use Rattle.sap_lattice.specs.Prelude.{diamond, order_of, order_by}
use Rattle.sap_tree.specs.Prelude.{is_simple, is_whole, is_expression, are_expressions, is_tag, are_tags, is_command, is_block, is_else, are_arms, are_commands, command_count, block_count, else_count, arms_count, list_count, command_depth, block_depth, else_depth, arms_depth, list_depth, is_state, are_states, state_count, states_count, state_depth, states_depth, state_commands, states_commands, tokens, part_tokens, brackets, part_brackets, tag_tokens, tag_part_tokens, tag_brackets, tag_part_brackets, precedence_of, is_name}
use Rattle.sap_show.proofs.Shown.{shown, parsed_again}
use Rattle.sap_show.specs.Canonical.{canonical_text, declaration_text, head_text, state_text, command_text, simple_text, cell_text, tag_text, expression_text, operand_text}
use Rattle.sap_names.specs.NameFaults.{design_name_faults}
use Rattle.sap_shape.proofs.Again.{no_faults}
use Rattle.sap_shape.specs.ShapeFaults.{HasShape}
use Rattle.sap_shape.specs.WellFormed.{WellFormed}
use Rattle.sap_machine.specs.Design.{machine_design}
use Rattle.sap_machine.specs.DesignText.{IsTextOf, machine_text}

pub whole : is_whole machine_design ≡ true
unfolding is_simple is_whole is_expression are_expressions is_tag are_tags is_command is_block is_else are_arms are_commands command_count
    block_count else_count arms_count list_count command_depth block_depth else_depth arms_depth list_depth is_state are_states state_count
    states_count state_depth states_depth state_commands states_commands tokens part_tokens brackets part_brackets tag_tokens
    tag_part_tokens tag_brackets tag_part_brackets precedence_of is_name
whole = refl

named : design_name_faults diamond.names (order_of diamond).le machine_design ≡ []
unfolding diamond order_of order_by
named = refl

shaped : HasShape machine_design
shaped = no_faults machine_design refl

pub well_formed : WellFormed diamond machine_design
well_formed = record { names = named; shape = shaped }

pub text_is : canonical_text machine_design ≡ machine_text
unfolding digits canonical_text declaration_text head_text state_text command_text simple_text cell_text tag_text expression_text operand_text precedence_of
text_is = refl

pub reads_back : IsTextOf machine_text machine_design
reads_back = parsed_again machine_design machine_text (shown machine_design machine_text whole (sym text_is)) (lit≤ tt)
