use Rattle.std.proofs.Common.{◌≡◌}
use Rattle.sap_hang.specs.Hang.{says_of_root}
use Rattle.sap_resolve.proofs.Chosen.{chosen}
use Rattle.sap_resolve.proofs.rows.root_row.Given as goal

abbrev pub invariant-loop-entity : goal.invariant-loop-entity
invariant-loop-entity l = l.numbers.items ≡ chosen (says_of_root l.table) l.entity
