-- What comes of the netlist of a system when it is made small.
use Rattle.sap_lemmas.proofs.Common.{◌≡◌, ℕ, List, [], ◌∷◌, map, refl, ap, ◌∙◌, subst}
use Rattle.sap_maps.specs.Maps.{Name}
use Rattle.sap_net.specs.Net.{Net}
use Rattle.sap_net.specs.declared.parts.Port.{Port}
use Rattle.sap_trim.specs.Names.{port_names}
use Rattle.sap_compile.specs.Tidy.{IsTidy}
use Rattle.sap_interface.specs.Interface.{Shown}
use Rattle.sap_linked.specs.Prelude.{NamedSystem, held_ports, shown_names, linked_net, without_fed, named_system}
use Rattle.sap_linked_small.specs.Laws.{SmallDesignsStand}
use Rattle.sap_linked_agree.specs.Laws.{ModulesAgree, ModulesHaveOneRun, SystemsAgree}
use Rattle.sap_linker.specs.Laws.{SmallNetsAreModules}

names_kept : (ps : List Shown) → map (λ (p : Port). p.name) (map {B = Port} (λ (port : Shown). record { name = port.0; kind = port.1 }) ps) ≡ map (λ (port : Shown). port.0) ps
names_kept [] = refl
names_kept (p ∷ ps) = ap (λ (xs : List Name). p.0 ∷ xs) (names_kept ps)

tidy_without : (s : NamedSystem) (nets : ℕ → Net) (small : Net) → small.ports ≡ (linked_net s nets).ports → IsTidy (port_names small) small
    → IsTidy (shown_names s) (without_fed s small)
tidy_without s nets small same tidy =
    let names = ap (λ (ps : List Port). map (λ (p : Port). p.name) ps) same ∙ names_kept (held_ports s) in
    let shown : IsTidy (shown_names s) small = subst (λ (names : List Name). IsTidy names small) names tidy in
    record { read = shown.read; shared = shown.shared; folded = shown.folded; copies = shown.copies }

pub small_nets_are_modules : SmallDesignsStand → SystemsAgree → ModulesAgree → ModulesHaveOneRun → SmallNetsAreModules
small_nets_are_modules stand composites agree one ls ds wires laws codes well fit nets small each is tidy =
    let s = named_system ls ds wires in
    let net = stand ls ds wires laws codes well fit nets small each is in
    let pairs = agree ls ds wires laws codes well (without_fed s small) net.stands.runs in
    record {
      linked = well;
      composites = composites ls ds wires laws well;
      stands = net;
      one_run = one s (without_fed s small) net.netlist net.stands.runs;
      agree = pairs.0;
      look_alike = pairs.1;
      tidy = tidy_without s nets small is.declares.ports tidy;
    }
