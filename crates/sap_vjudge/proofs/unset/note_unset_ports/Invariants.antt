use Rattle.std.proofs.Common.{◌≡◌, drop}
use Rattle.sap_vjudge.specs.Best.{best_of}
use Rattle.sap_vjudge.specs.Listed.{ports_unset}
use Rattle.sap_vjudge.specs.Tables.{known_of}
use Rattle.sap_vparse.specs.Views.{ports_of}
use Rattle.sap_vjudge.proofs.unset.note_unset_ports.Given as goal

-- what is left gives the first of all
abbrev pub invariant-loop-port : goal.invariant-loop-port
invariant-loop-port l =
    best_of l.best (ports_unset (known_of l.table) (ports_of (drop l.port-index l.ports))) ≡ best_of l.initial.best (ports_unset (known_of l.table) (ports_of l.ports))
