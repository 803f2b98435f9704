use Rattle.std.proofs.Common.{◌≡◌, drop}
use Rattle.sap_lattice.specs.Levels.{order_of}
use Rattle.sap_names.specs.Best.{best_of}
use Rattle.sap_names.specs.NameFaults.{declarations_faults}
use Rattle.sap_names.proofs.design.declarations_faults.Given as goal

-- what is left gives the first of all
abbrev pub invariant-loop-declaration : goal.invariant-loop-declaration
invariant-loop-declaration l =
    best_of l.best (declarations_faults l.lattice.names (order_of l.lattice).le (drop l.declaration-index l.declarations))
    ≡ best_of l.initial.best (declarations_faults l.lattice.names (order_of l.lattice).le l.declarations)
