use Rattle.std.proofs.Common.{◌≡◌, flat_map, drop}
use Rattle.sap_vtext.specs.Faults.{operand_constants}
use Rattle.sap_vjudge.specs.Best.{best_of}
use Rattle.sap_vjudge.specs.Listed.{constants_faults}
use Rattle.sap_vparse.specs.Views.{operands_of}
use Rattle.sap_vjudge.proofs.constants.note_operands.Given as goal

-- what is left gives the first of all
abbrev pub invariant-loop-operand : goal.invariant-loop-operand
invariant-loop-operand l =
    best_of l.best (constants_faults (flat_map operand_constants (operands_of (drop l.operand-index l.operands))))
    ≡ best_of l.initial.best (constants_faults (flat_map operand_constants (operands_of l.operands)))
