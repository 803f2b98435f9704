use Rattle.std.proofs.Common.{◌≡◌, ◌++◌, take}
use Rattle.sap_stim.proofs.RowTexts.{shown_from}
use Rattle.sap_stim.proofs.flat.put_all.Given as goal

abbrev pub invariant-loop-i : goal.invariant-loop-i
invariant-loop-i l = take l.end l.bytes ++ shown_from l.lattice l.labels l.values l.tags l.i ≡ take l.at l.fn.bytes ++ shown_from l.lattice l.labels l.values l.tags 0
