use Rattle.std.proofs.Common.{◌≡◌, take, map}
use Rattle.sap_sim.specs.Layout.{source_of}
use Rattle.sap_sim.proofs.sources.sources_by.Given as goal

abbrev pub invariant-loop-input : goal.invariant-loop-input
invariant-loop-input l = l.sources.items ≡ map (source_of l.tag l.inputs) (take l.input-index l.inputs)
