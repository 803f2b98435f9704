use Rattle.sap_lemmas.proofs.Common.{take, keys_of}
use Rattle.sap_net.specs.NameMaps.{AtPlaces}
use Rattle.sap_share.specs.NameTables.{of_name}
use Rattle.sap_share.proofs.table.index_entries.Given as goal

abbrev pub invariant-loop-k : goal.invariant-loop-k
invariant-loop-k g l = AtPlaces (of_name l.places) (keys_of (take l.k l.entries))
