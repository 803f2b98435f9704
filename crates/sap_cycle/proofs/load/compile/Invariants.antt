use Rattle.sap_lemmas.proofs.Common.{length, map, AllByRecursion}
use Rattle.sap_cycle.specs.Instructions.{step_of_instruction, IsWithin}
use Rattle.sap_cycle.proofs.Compiling.{Compiling}
use Rattle.sap_cycle.proofs.load.compile.Given as goal

abbrev pub invariant-loop-wire : goal.invariant-loop-wire
invariant-loop-wire l =
    Compiling l.netlist l.wire-index l.known (map (step_of_instruction l.others.items) l.steps.items) l.parts.items
    × AllByRecursion (IsWithin (length l.others.items)) l.steps.items
