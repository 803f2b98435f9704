use Rattle.std.proofs.Common.{◌≡◌, take}
use Rattle.sap_stim.proofs.label.labels_of.Given as goal

abbrev pub invariant-loop-name : goal.invariant-loop-name
invariant-loop-name l = l.labels.items ≡ take l.name-index l.names
