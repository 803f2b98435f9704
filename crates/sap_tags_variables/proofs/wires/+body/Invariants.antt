use Rattle.std.proofs.Common.{◌≡◌, ◌+◌, ◌*◌, ◌++◌, drop}
use Rattle.sap_program.specs.Views.{block_of, command_of}
use Rattle.sap_tags_terms.specs.Code.{entities_in, named_in, tag_width}
use Rattle.sap_tagged.specs.Prelude.{wires, wires_block, arms_wires, block_wires}
use Rattle.sap_tags_terms.specs.Parts.{arm_wires}
use Rattle.sap_tags_terms.proofs.Alone.{alone}
use Rattle.sap_tags_variables.proofs.wires.+body.Given as goal

-- with those of what is left
abbrev pub invariant-add_block-loop-command : goal.invariant-add_block-loop-command
invariant-add_block-loop-command l = record {
  wires :
      l.wires.items ++ block_wires (named_in l.setting) (tag_width l.setting) l.next (block_of (entities_in l.setting) (drop l.command-index l.block))
      ≡ l.initial.wires.items ++ block_wires (named_in l.setting) (tag_width l.setting) l.k (block_of (entities_in l.setting) l.block);
  count : l.next + wires_block (block_of (entities_in l.setting) (drop l.command-index l.block)) ≡ l.k + wires_block (block_of (entities_in l.setting) l.block);
}

abbrev pub invariant-add_arms-loop-arm : goal.invariant-add_arms-loop-arm
invariant-add_arms-loop-arm l = record {
  wires :
      l.wires.items ++ arms_wires (named_in l.setting) (tag_width l.setting) l.next (alone (entities_in l.setting) (drop l.arm-index l.arms))
      ≡ l.initial.wires.items ++ arms_wires (named_in l.setting) (tag_width l.setting) l.k (alone (entities_in l.setting) l.arms);
  count : l.next + arm_wires (drop l.arm-index l.arms) ≡ l.k + arm_wires l.arms;
}

abbrev pub decreases-add_arms : goal.decreases-add_arms
decreases-add_arms l = 2 * arm_wires l.arms.now + 2

abbrev pub decreases-add_command : goal.decreases-add_command
decreases-add_command l = 2 * wires (command_of (entities_in l.setting.now) l.command.now)

abbrev pub decreases-add_block : goal.decreases-add_block
decreases-add_block l = 2 * wires_block (block_of (entities_in l.setting.now) l.block.now) + 1
