use Rattle.std.proofs.Common.{◌≡◌, ◌++◌, drop}
use Rattle.sap_hang.specs.Walks.{firsts_of}
use Rattle.sap_hang.proofs.Tables.{firsts_from}
use Rattle.sap_hang.proofs.hang.firsts.Given as goal

-- with the numbers of the entities that are left
abbrev pub invariant-loop-entity : goal.invariant-loop-entity
invariant-loop-entity l = l.firsts.items ++ firsts_from l.names (drop l.entity l.names) ≡ firsts_of l.names
