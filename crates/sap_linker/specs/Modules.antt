-- The module of a system of designs.
use Rattle.std.specs.Prelude.{List}
use Rattle.sap_lattice.specs.Levels.{Levels}
use Rattle.sap_net.specs.Net.{Net}
use Rattle.sap_compile.specs.Tidy.{IsTidy}
use Rattle.sap_link.specs.Systems.{Wire}
use Rattle.sap_link.specs.Agree.{RunsOfStreamsAgree}
use Rattle.sap_link.specs.Designs.{WellLinked}
use Rattle.sap_linked.specs.Parts.{system_of}
use Rattle.sap_linked.specs.Netlist.{shown_names}
use Rattle.sap_linked.specs.Designs.{NamedDesign, trees, named_system}
use Rattle.sap_linked_small.specs.Laws.{IsNetOfSystem}
use Rattle.sap_linked_agree.specs.Agree.{SystemRunsAgree, SystemRunsLookAlike, SystemHasOneRun}

-- The designs are well formed and the wires break no rule. The composite runs of streams that agree at a level agree
-- there. The netlist stands for the composite run and starts as the system does; it has one run on each stream that
-- fits; and on two that agree at a level its runs agree there in every cycle, part by part, in states and refusals and
-- in plain numbers. No wire of it is needless, ports and the wires that stand for fed inputs aside, which are copies.
pub record IsModuleOfSystem (ls : Levels) (designs : List NamedDesign) (wires : List Wire) (n : Net) : Type 0 where
  pub linked : WellLinked ls (trees designs) wires
  pub composites : RunsOfStreamsAgree (system_of (named_system ls designs wires))
  pub stands : IsNetOfSystem (named_system ls designs wires) n
  pub one_run : SystemHasOneRun (named_system ls designs wires) n
  pub agree : SystemRunsAgree (named_system ls designs wires) n
  pub look_alike : SystemRunsLookAlike (named_system ls designs wires) n
  pub tidy : IsTidy (shown_names (named_system ls designs wires)) n
