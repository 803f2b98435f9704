use Rattle.std.proofs.Common.{◌≡◌, ◌++◌, drop, map}
use Rattle.sap_linker.specs.Given.{design_with_net}
use Rattle.sap_commands.specs.Link.{loaded_net}
use Rattle.sap_commands.proofs.link.linked_parts.Given as goal

abbrev pub invariant-loop-part : goal.invariant-loop-part
invariant-loop-part l = map design_with_net l.parts.items ++ map loaded_net (drop l.part-index l.loaded) ≡ map loaded_net l.loaded
