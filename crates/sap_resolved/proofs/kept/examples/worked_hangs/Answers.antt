use Rattle.sap_resolved.proofs.kept.Computed.{on_branches, on_falls, on_dynamic_states}
use Rattle.sap_resolved.proofs.kept.examples.worked_hangs.Goals as goal

pub returns : goal.returns
returns c = record { on_branches = on_branches; on_falls = on_falls; on_dynamic_states = on_dynamic_states }
