use Rattle.std.proofs.Common.{◌≡◌, ◌≤◌, ◌<◌, ◌^◌, ◌-◌}
use Rattle.sap_net.specs.Names.{helper}
use Rattle.sap_build.specs.Writing.{taken, AreTaken}
use Rattle.sap_build.proofs.writer.Writer.first_free.Given as goal

abbrev pub invariant-loop-number : goal.invariant-loop-number
invariant-loop-number l = (1 ≤ l.number) × (l.number < 2 ^ 64) × (l.name ≡ helper l.number) × AreTaken (taken l.self) l.number

abbrev pub decreases-loop-number : goal.decreases-loop-number
decreases-loop-number l = 2 ^ 64 - l.number
