use Rattle.std.proofs.Common.{◌≡◌}
use Rattle.sap_hang.specs.Hang.{says}
use Rattle.sap_resolve.proofs.Chosen.{chosen}
use Rattle.sap_resolve.proofs.rows.row.Given as goal

abbrev pub invariant-loop-entity : goal.invariant-loop-entity
invariant-loop-entity l = l.numbers.items ≡ chosen (says l.table l.point) l.entity
