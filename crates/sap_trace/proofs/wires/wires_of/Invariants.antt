use Rattle.sap_net.specs.PortNames.{refused_name, refused_level_name}
use Rattle.sap_trace.specs.Seen.{ArePlaced}
use Rattle.sap_trace.proofs.wires.wires_of.Given as goal

abbrev pub invariant-loop-k : goal.invariant-loop-k
invariant-loop-k l = record {
  refused : ArePlaced l.runner.net refused_name l.k l.refused.items;
  levels : ArePlaced l.runner.net refused_level_name l.k l.levels.items;
}
