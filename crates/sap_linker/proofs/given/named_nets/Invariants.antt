use Rattle.std.proofs.Common.{◌≡◌, ◌++◌, drop, map}
use Rattle.sap_joined.specs.Seen as seen
use Rattle.sap_linker.specs.Given.{named_net}
use Rattle.sap_linker.proofs.given.named_nets.Given as goal

abbrev pub invariant-loop-part : goal.invariant-loop-part
invariant-loop-part l = map seen.named_net l.made.items ++ map named_net (drop l.part-index l.parts) ≡ map named_net l.parts
