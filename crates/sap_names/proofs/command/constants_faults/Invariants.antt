use Rattle.std.proofs.Common.{◌≡◌, drop}
use Rattle.sap_names.specs.Best.{best_of}
use Rattle.sap_names.specs.Lists.{constants_faults}
use Rattle.sap_names.specs.Entities.{what_is}
use Rattle.sap_names.proofs.command.constants_faults.Given as goal

-- what is left gives the first of all
abbrev pub invariant-loop-constant : goal.invariant-loop-constant
invariant-loop-constant l =
    best_of l.best (constants_faults (what_is l.names) l.asked (drop l.constant-index l.constants))
    ≡ best_of l.initial.best (constants_faults (what_is l.names) l.asked l.constants)
