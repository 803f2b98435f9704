use Rattle.std.proofs.Common.{◌≡◌, ◌++◌}
use Rattle.sap_share.specs.Keys.{number}
use Rattle.sap_share.proofs.keys.add_number.Given as goal

abbrev pub invariant-loop-rest : goal.invariant-loop-rest
invariant-loop-rest l = l.key.items ++ number l.rest ≡ l.fn.key.items ++ number l.number

abbrev pub decreases-loop-rest : goal.decreases-loop-rest
decreases-loop-rest l = l.rest
