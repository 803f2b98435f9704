use Rattle.std.proofs.Common.{take}
use Rattle.sap_net.specs.NameMaps.{Indexes}
use Rattle.sap_net.proofs.name_map.index_names.Given as goal

abbrev pub invariant-loop-k : goal.invariant-loop-k
invariant-loop-k l = Indexes l.places (take l.k l.names)
