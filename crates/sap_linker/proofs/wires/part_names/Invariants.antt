use Rattle.std.proofs.Common.{◌≡◌, ◌++◌, drop, map}
use Rattle.sap_wiring.specs.Wiring.{named_part}
use Rattle.sap_linker.specs.Given.{declares}
use Rattle.sap_linker.proofs.wires.part_names.Given as goal

abbrev pub invariant-loop-part : goal.invariant-loop-part
invariant-loop-part l = map named_part l.made.items ++ map declares (drop l.part-index l.parts) ≡ map declares l.parts
