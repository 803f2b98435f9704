use Rattle.std.proofs.Common.{◌≡◌, ◌++◌, drop}
use Rattle.sap_taint.specs.TagNames.{with_tags}
use Rattle.sap_taint_pass.proofs.ports.names_with_tags.Given as goal

abbrev pub invariant-loop-name : goal.invariant-loop-name
invariant-loop-name l = l.made.items ++ with_tags (drop l.name-index l.names) ≡ with_tags l.names
