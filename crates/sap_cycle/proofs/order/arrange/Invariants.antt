use Rattle.std.proofs.Common.{map}
use Rattle.sap_cycle.specs.Instructions.{step_of_instruction, placed_step}
use Rattle.sap_cycle.proofs.Arranging.{Arranging}
use Rattle.sap_cycle.proofs.order.arrange.Given as goal

abbrev pub invariant-loop-number : goal.invariant-loop-number
invariant-loop-number l =
    Arranging l.base l.parts (map (step_of_instruction l.others) l.steps) l.marks (map (placed_step l.others) l.placed.items)
