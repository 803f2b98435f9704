use Rattle.std.proofs.Common.{◌≡◌, ℕ, List, drop}
use Rattle.sap_vtext.specs.Modules.{first_of}
use Rattle.sap_vread.specs.Build.Firsts.{number_of}
use Rattle.sap_vread.specs.Build.Noted.{ports_noted}
use Rattle.sap_vparse.specs.Views.{ports_of}
use Rattle.sap_vread.proofs.build.noting.note_ports.Given as goal

abbrev pub invariant-loop-port : goal.invariant-loop-port
invariant-loop-port l = (n : List ℕ) → first_of (number_of l.firsts n) (ports_noted n (ports_of (drop l.port-index l.ports)))
    ≡ first_of (number_of l.initial.firsts n) (ports_noted n (ports_of l.ports))
