use Rattle.std.proofs.Common.{◌≡◌, flat_map, drop}
use Rattle.sap_vtext.specs.Faults.{operand_uses}
use Rattle.sap_vjudge.specs.Best.{best_of}
use Rattle.sap_vjudge.specs.Listed.{uses_faults}
use Rattle.sap_vjudge.specs.Tables.{known_of}
use Rattle.sap_vparse.specs.Views.{operands_of}
use Rattle.sap_vjudge.proofs.usage.note_operands.Given as goal

-- what is left gives the first of all
abbrev pub invariant-loop-operand : goal.invariant-loop-operand
invariant-loop-operand l =
    best_of l.best (uses_faults (known_of l.table) (flat_map operand_uses (operands_of (drop l.operand-index l.operands))))
    ≡ best_of l.initial.best (uses_faults (known_of l.table) (flat_map operand_uses (operands_of l.operands)))
