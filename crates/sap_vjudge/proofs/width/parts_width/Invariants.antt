use Rattle.std.proofs.Common.{◌≡◌, ◌*◌, ◌≤◌, ◌^◌, drop, Some}
use Rattle.sap_vtext.specs.Widths.{add_widths, parts_width}
use Rattle.sap_vjudge.specs.Tables.{known_of}
use Rattle.sap_vparse.specs.Views.{operands_of}
use Rattle.sap_vjudge.proofs.width.parts_width.Given as goal

-- with the widths of what is left it is the sum of all
abbrev pub invariant-loop-part : goal.invariant-loop-part
invariant-loop-part l =
    (add_widths (Some l.sum) (parts_width (known_of l.table) (operands_of (drop l.part-index l.parts))) ≡ parts_width (known_of l.table) (operands_of l.parts))
    × (l.sum ≤ l.part-index * 2 ^ 64)
