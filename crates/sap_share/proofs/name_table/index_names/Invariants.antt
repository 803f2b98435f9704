use Rattle.std.proofs.Common.{take}
use Rattle.sap_net.specs.NameMaps.{AtPlaces}
use Rattle.sap_share.specs.NameTables.{of_name}
use Rattle.sap_share.proofs.name_table.index_names.Given as goal

abbrev pub invariant-loop-k : goal.invariant-loop-k
invariant-loop-k l = AtPlaces (of_name l.places) (take l.k l.names)
