use Rattle.std.proofs.Common.{◌≡◌, take, drop, []}
use Rattle.sap_names.specs.Best.{best_of}
use Rattle.sap_names.specs.NameFaults.{twice}
use Rattle.sap_names.proofs.design.twice_faults.Given as goal

-- what is left gives the first of all
abbrev pub invariant-loop-number : goal.invariant-loop-number
invariant-loop-number l = best_of l.best (twice (take l.number l.names) (drop l.number l.names)) ≡ best_of l.initial.best (twice [] l.names)
