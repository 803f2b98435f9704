-- The laws of runs of modules of systems.
use Rattle.std.specs.Prelude.{List}
use Rattle.sap_lattice.specs.Order.{Laws}
use Rattle.sap_lattice.specs.Levels.{Levels, order_of}
use Rattle.sap_lattice.specs.Codes.{Codes}
use Rattle.sap_net.specs.Net.{Net}
use Rattle.sap_net.specs.IsNetlist.{IsNetlist}
use Rattle.sap_link.specs.Systems.{Wire}
use Rattle.sap_link.specs.Agree.{RunsOfStreamsAgree}
use Rattle.sap_link.specs.Designs.{WellLinked}
use Rattle.sap_linked.specs.Parts.{NamedSystem, system_of}
use Rattle.sap_linked.specs.Standing.{RunsStand}
use Rattle.sap_linked.specs.Designs.{NamedDesign, trees, named_system}
use Rattle.sap_linked_agree.specs.Agree.{SystemRunsAgree, SystemRunsLookAlike, SystemHasOneRun}

-- The composite runs of a system of well-formed designs, whose wires break no rule, agree where their streams do.
abbrev pub SystemsAgree : Type 0
SystemsAgree =
    (ls : Levels) (designs : List NamedDesign) (wires : List Wire) → Laws (order_of ls)
    → WellLinked ls (trees designs) wires
    → RunsOfStreamsAgree (system_of (named_system ls designs wires))

-- What stands for a system of well-formed designs has runs that agree, and look alike, where their streams agree.
abbrev pub ModulesAgree : Type 0
ModulesAgree =
    (ls : Levels) (designs : List NamedDesign) (wires : List Wire) → Laws (order_of ls)
    → Codes (order_of ls) → WellLinked ls (trees designs) wires
    → let s = named_system ls designs wires in (n : Net) → RunsStand s n → SystemRunsAgree s n × SystemRunsLookAlike s n

-- And one run on each stream.
abbrev pub ModulesHaveOneRun : Type 0
ModulesHaveOneRun = (s : NamedSystem) (n : Net) → IsNetlist n → RunsStand s n → SystemHasOneRun s n
