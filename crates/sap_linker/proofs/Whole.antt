-- The netlist of a system, made small and without the ports of what feeds inputs, is the module of the system.
use Rattle.std.proofs.Common.{◌≡◌, ℕ, ◌+◌, List, length, sym, subst}
use Rattle.sap_lattice.specs.Prelude.{Laws, Levels, order_of, Codes}
use Rattle.sap_net.specs.Net.{Net}
use Rattle.sap_trim.specs.Names.{port_names}
use Rattle.sap_compile.specs.Tidy.{IsTidy}
use Rattle.sap_link.specs.Systems.{Wire}
use Rattle.sap_link.specs.Designs.{WellLinked}
use Rattle.sap_linked.specs.Prelude.{NamedSystem, NamesFit, linked_net, named_system, trees, InputsInOrder}
use Rattle.sap_linked_small.specs.Laws.{IsSmall}
use Rattle.sap_linker.specs.declared.parts.LinkedPart.{LinkedPart}
use Rattle.sap_linker.specs.Given.{designs_of, net_at, AreOver}
use Rattle.sap_linker.specs.Laws.{SmallNetsAreModules}
use Rattle.sap_linker.specs.Linking.{inputs_within, with_ports}
use Rattle.sap_linker.specs.Modules.{IsModuleOfSystem}
use Rattle.sap_linker.proofs.Counting.{shown_count}
use Rattle.sap_linker.proofs.Joining.{each_stands}

module _ (ls : Levels) (wires : List Wire) (parts : List LinkedPart) (over : AreOver ls parts) (in_order : InputsInOrder) where
  abbrev s : NamedSystem
  s = named_system ls (designs_of parts) wires

  pub module_is : SmallNetsAreModules → Laws (order_of ls) → Codes (order_of ls) → WellLinked ls (trees (designs_of parts)) wires → NamesFit s
      → (count : ℕ) (whole small : Net) → whole ≡ linked_net s (net_at parts) → IsSmall whole small → IsTidy (port_names small) small
      → count + inputs_within parts ≡ length whole.ports + length whole.inputs → IsModuleOfSystem ls (designs_of parts) wires (with_ports count small)
  module_is modules laws codes well fit count whole small same is tidy sum =
      subst (λ k. IsModuleOfSystem ls (designs_of parts) wires (with_ports k small)) (sym (shown_count ls wires parts over in_order count whole same sum))
      (modules ls (designs_of parts) wires laws codes well fit (net_at parts) small (each_stands ls parts over) (subst (λ n. IsSmall n small) same is) tidy)
