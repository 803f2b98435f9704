use Rattle.std.proofs.Common.{◌≡◌, replicate}
use Rattle.sap_store.specs.Half.{no_cell}
use Rattle.sap_store.proofs.half.Half.new.Given as goal

abbrev pub invariant-loop-i : goal.invariant-loop-i
invariant-loop-i l = l.cells.items ≡ replicate l.i (no_cell l.level)
