use Rattle.sap_explain.proofs.PartLines.{AreFrom}
use Rattle.sap_explain.proofs.laws.parts_are_comments.Given as goal

-- with the parts that are left
abbrev pub invariant-loop-part : goal.invariant-loop-part
invariant-loop-part l = AreFrom l.parts l.part-index
