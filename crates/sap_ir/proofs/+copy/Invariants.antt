use Rattle.std.proofs.Common.{◌≡◌, map, take}
use Rattle.sap_ir.specs.Calcs.{term_of}
use Rattle.sap_ir.proofs.+copy.Given as goal

abbrev pub invariant-calc::copy_all-loop-part : goal.invariant-calc::copy_all-loop-part
invariant-calc::copy_all-loop-part l = map term_of l.copies.items ≡ map term_of (take l.part-index l.parts)
