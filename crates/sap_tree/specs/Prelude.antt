-- The definitions of a design's tree that proofs of other crates name, each from the file in which it stands. Declares
-- nothing.
unfoldable pub use Rattle.sap_tree.specs.Bare.{bare, bare_command, bare_expression, bare_simple, bare_state, bare_tag}
pub use Rattle.sap_tree.specs.Bare.{bare_arms, bare_authority, bare_block, bare_declaration, bare_else, bare_expressions, bare_kind, bare_list, bare_start}
pub use Rattle.sap_tree.specs.Bare.{bare_states, bare_tags, no_spot, nowhere}
pub use Rattle.sap_tree.specs.Designs.{design_of}
unfoldable pub use Rattle.sap_tree.specs.Extent.{brackets, part_brackets, part_tokens, tag_brackets, tag_part_brackets, tag_part_tokens, tag_tokens, tokens}
pub use Rattle.sap_tree.specs.Extent.{fits, opened, parentheses, tag_fits}
pub use Rattle.sap_tree.specs.Limits.{most_arms, most_blocks, most_brackets, most_commands, most_name_bytes, most_states, most_tokens}
pub use Rattle.sap_tree.specs.Making.{commands, enforced, named, states}
pub use Rattle.sap_tree.specs.Parts.{tree_of}
pub use Rattle.sap_tree.specs.Points.{arms_points, block_points, command_points, else_points, list_points, Point, point, points_of, simple_points}
pub use Rattle.sap_tree.specs.Points.{state_points, states_points}
pub use Rattle.sap_tree.specs.Precedence.{precedence, primary_precedence, slice_precedence, unary_precedence}
unfoldable pub use Rattle.sap_tree.specs.Precedence.{precedence_of}
unfoldable pub use Rattle.sap_tree.specs.Spots.{enclosed, first_of, spot_of}
pub use Rattle.sap_tree.specs.Syntax.{and_arm, and_command, and_part, and_state, and_tag, Arms, assign, binary_of, case_of, cell_at, choice, Command}
pub use Rattle.sap_tree.specs.Syntax.{command_block, CommandBlock, CommandList, concat, DesignTree, ElseBlock, Expression, Expressions, fall_to_child}
pub use Rattle.sap_tree.specs.Syntax.{go_to, if_else, join_of, last_arm, level_at, level_of, literal, lone, no_command, no_else, no_part, no_state, no_tag}
pub use Rattle.sap_tree.specs.Syntax.{set_cell_tag, set_tag, SimpleCommand, sized_literal, slice, state_node, StateList, StateTree, tag_at, TagExpression}
pub use Rattle.sap_tree.specs.Syntax.{TagExpressions, try, try_then, unary_of, variable, with_else, write, zero_extend}
unfoldable pub use Rattle.sap_tree.specs.Touches.{block_assigns, block_touches, else_touches, fall_touches, is_dynamic_child, is_dynamic_store}
unfoldable pub use Rattle.sap_tree.specs.Touches.{list_assigns, list_touches, simple_touches, touches}
pub use Rattle.sap_tree.specs.Touches.{declares_dynamic, Home, home_of, is_dynamic_kind, root_touches, simple_assigns}
pub use Rattle.sap_tree.specs.Trees.{arm_block_of, arms_before, arms_of, block_of, command_of, commands_of, constants_of, else_of, expression_of}
pub use Rattle.sap_tree.specs.Trees.{expressions_of, simple_of, state_of, states_of, tag_of, tags_of}
unfoldable pub use Rattle.sap_tree.specs.Whole.{are_arms, are_commands, are_expressions, are_states, are_tags, arms_count, arms_depth, block_count}
unfoldable pub use Rattle.sap_tree.specs.Whole.{block_depth, command_count, command_depth, else_count, else_depth, is_block, is_command, is_else}
unfoldable pub use Rattle.sap_tree.specs.Whole.{is_expression, is_simple, is_state, is_tag, is_whole, list_count, list_depth, state_commands, state_count}
unfoldable pub use Rattle.sap_tree.specs.Whole.{state_depth, states_commands, states_count, states_depth}
pub use Rattle.sap_tree.specs.Whole.{are_constants, arm_count, has_arm, has_constant, has_state, has_two_parts, has_two_tags, is_authority, is_constant}
pub use Rattle.sap_tree.specs.Whole.{is_declaration, is_input, is_kind, is_memory, is_number, is_outermost, is_outermost_tag, is_register, is_start}
pub use Rattle.sap_tree.specs.Whole.{is_tree, is_within_limits}
pub use Rattle.sap_tree.specs.Words.{first_words, is_initial, is_inner, is_keyword, is_second, is_word, keywords, later_words, word_text}
unfoldable pub use Rattle.sap_tree.specs.Words.{is_name}
