use Rattle.std.proofs.Common.{◌≡◌, ◌+◌, drop, length}
use Rattle.sap_linker.specs.Linking.{inputs_within}
use Rattle.sap_linker.proofs.module.count_shown.Given as goal

abbrev pub invariant-loop-part : goal.invariant-loop-part
invariant-loop-part l = l.others + inputs_within l.parts ≡ length l.whole.ports + inputs_within (drop l.part-index l.parts)
