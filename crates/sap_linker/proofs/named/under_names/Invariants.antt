use Rattle.std.proofs.Common.{◌≡◌, ◌++◌, drop, map}
use Rattle.sap_linker.specs.Given.{design_with_net}
use Rattle.sap_linker.specs.Adding.{under_names}
use Rattle.sap_linker.proofs.named.under_names.Given as goal

abbrev pub invariant-loop-place : goal.invariant-loop-place
invariant-loop-place l = map design_with_net l.made.items ++ under_names (drop l.place l.listed) (drop l.place l.added) ≡ under_names l.listed l.added
