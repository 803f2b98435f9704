use Rattle.std.proofs.Common.{◌≡◌, ◌++◌, drop}
use Rattle.sap_taint.specs.TaggedForm as form
use Rattle.sap_taint_pass.proofs.ports.tagged_inputs.Given as goal

abbrev pub invariant-loop-input : goal.invariant-loop-input
invariant-loop-input l = l.made.items ++ form.tagged_inputs l.width (drop l.input-index l.inputs) ≡ form.tagged_inputs l.width l.inputs
