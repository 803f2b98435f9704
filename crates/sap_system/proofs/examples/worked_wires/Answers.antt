use Rattle.sap_system.proofs.WorkedWires.{feed_each_other, from_input, all_wrong, to_register, fed_twice, narrower, unknown_level}
use Rattle.sap_system.proofs.examples.worked_wires.Goals as goal

pub returns-clause-kept : goal.returns-clause-kept
returns-clause-kept c = feed_each_other

pub returns-clause-from_input : goal.returns-clause-from_input
returns-clause-from_input c = from_input

pub returns-clause-all_wrong : goal.returns-clause-all_wrong
returns-clause-all_wrong c = all_wrong

pub returns-clause-to_register : goal.returns-clause-to_register
returns-clause-to_register c = to_register

pub returns-clause-fed_twice : goal.returns-clause-fed_twice
returns-clause-fed_twice c = fed_twice

pub returns-clause-narrower : goal.returns-clause-narrower
returns-clause-narrower c = narrower

pub returns-clause-unknown_level : goal.returns-clause-unknown_level
returns-clause-unknown_level c = unknown_level
