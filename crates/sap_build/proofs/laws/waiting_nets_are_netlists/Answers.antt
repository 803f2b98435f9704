use Rattle.sap_build.proofs.Edges.{edges_are_given}
use Rattle.sap_build.proofs.Waiting.{shown_wire_waits, wait_ends, wire_waits}
use Rattle.sap_build.proofs.laws.waiting_nets_are_netlists.Goals as goal

pub returns : goal.returns
returns c = record { wires = wire_waits; shown_wires = shown_wire_waits; assigns = wait_ends; edges = edges_are_given }
