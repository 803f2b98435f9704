use Rattle.std.proofs.Common.{◌≡◌, drop}
use Rattle.sap_shape.specs.Lists.{written_in}
use Rattle.sap_shape.specs.Walk.{either}
use Rattle.sap_shape.proofs.written.Written.join.Given as goal

-- with what is left of the other set
abbrev pub invariant-loop-name : goal.invariant-loop-name
invariant-loop-name l = either (written_in l.self) (written_in (drop l.name-index l.name-items)) ≡ either (written_in l.initial.self) (written_in l.fn.other)
