use Rattle.sap_check.specs.Checked.{levels_in, tree_in}
use Rattle.sap_sem.specs.Machine.{state_of}
use Rattle.sap_gen.proofs.Rows.{Collected}
use Rattle.sap_gen.proofs.row.push_row.Given as goal

abbrev pub invariant-loop-entity : goal.invariant-loop-entity
invariant-loop-entity l = Collected (levels_in l.checked) (tree_in l.checked) (state_of l.machine) l.entity l.names.items l.values.items l.tags.items
