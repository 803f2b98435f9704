use Rattle.std.proofs.Common.{◌≡◌, ◌+◌, ◌*◌, ◌++◌, map, drop}
use Rattle.sap_ir.specs.Plain.Views.{body_of, follow}
use Rattle.sap_tags.specs.Built.{arm_bodies, commands_body}
use Rattle.sap_tags_terms.specs.Parts.{arm_wires, command_wires, commands_wires}
use Rattle.sap_tags.proofs.commands.+body.Given as goal

abbrev pub decreases-command : goal.decreases-command
decreases-command l = 2 * command_wires l.command.now

abbrev pub decreases-commands : goal.decreases-commands
decreases-commands l = 2 * commands_wires l.commands.now + 1

abbrev pub decreases-add_arms : goal.decreases-add_arms
decreases-add_arms l = 2 * arm_wires l.arms.now + 2

abbrev pub invariant-add_arms-loop-arm : goal.invariant-add_arms-loop-arm
invariant-add_arms-loop-arm l = record {
  blocks : map (λ b. body_of b.items) l.blocks.items ++ arm_bodies l.setting l.at l.p l.next (drop l.arm-index l.arms)
      ≡ map (λ b. body_of b.items) l.initial.blocks.items ++ arm_bodies l.setting l.at l.p l.initial.next l.arms;
  wires : l.next + arm_wires (drop l.arm-index l.arms) ≡ l.initial.next + arm_wires l.arms;
}

abbrev pub invariant-commands-loop-one : goal.invariant-commands-loop-one
invariant-commands-loop-one l = record {
  body : follow (body_of l.out.items) (commands_body l.setting l.at l.p l.next (drop l.one-index l.commands))
      ≡ follow (body_of l.initial.out.items) (commands_body l.setting l.at l.p l.initial.next l.commands);
  wires : l.next + commands_wires (drop l.one-index l.commands) ≡ l.initial.next + commands_wires l.commands;
}
