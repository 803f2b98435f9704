use Rattle.std.proofs.Common.{◌≡◌, map, take}
use Rattle.sap_lattice.specs.Codes.{is_in_code, number_of}
use Rattle.sap_lattice.specs.Rows.{order_in}
use Rattle.sap_lattice.proofs.codes.code_of.Given as goal

abbrev pub invariant-loop-i : goal.invariant-loop-i
invariant-loop-i l = l.code ≡ number_of (map (is_in_code (order_in l.order) l.x) (take l.i l.irreducibles))
