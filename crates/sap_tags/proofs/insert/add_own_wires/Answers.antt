use Rattle.sap_tags_terms.proofs.Ranged.{ranged_all}
use Rattle.sap_tags.proofs.insert.add_own_wires.Goals as goal

pub add_state_wires-requires-clause-ranged : goal.add_state_wires-requires-clause-ranged
add_state_wires-requires-clause-ranged c = ranged_all c.args.setting.now c.args.setting.now.program.now.states.items c.requires.ranged.states
