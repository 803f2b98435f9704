use Rattle.std.proofs.Common.{◌≡◌, ◌++◌, drop, filter}
use Rattle.sap_share.specs.Sets.{holds}
use Rattle.sap_trim.proofs.build.add_lasting.Given as goal

abbrev pub invariant-loop-name : goal.invariant-loop-name
invariant-loop-name l = l.made.items ++ filter (holds l.lasting) (drop l.name-index l.names) ≡ l.fn.made.items ++ filter (holds l.lasting) l.names
