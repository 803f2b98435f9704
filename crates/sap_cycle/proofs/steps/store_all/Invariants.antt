use Rattle.std.proofs.Common.{◌≡◌, drop}
use Rattle.sap_cycle.specs.Steps.{stored, ArePortsReady}
use Rattle.sap_cycle.proofs.steps.store_all.Given as goal

abbrev pub invariant-loop-port : goal.invariant-loop-port
invariant-loop-port l =
    (stored l.values (drop l.port-index l.ports) l.cells ≡ stored l.values l.ports l.fn.cells) × ArePortsReady l.values (drop l.port-index l.ports) l.cells
