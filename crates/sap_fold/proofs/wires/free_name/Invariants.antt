use Rattle.std.proofs.Common.{◌≡◌, ◌<◌, true}
use Rattle.sap_share.specs.Names.{helper}
use Rattle.sap_share.specs.Sets.{holds}
use Rattle.sap_fold.proofs.wires.free_name.Given as goal

abbrev pub invariant-loop-number : goal.invariant-loop-number
invariant-loop-number l = l.from < l.number → holds l.taken (helper l.from) ≡ true
