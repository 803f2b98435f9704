use Rattle.sap_linker.specs.Modules.{IsModuleOfSystem}
use Rattle.std.proofs.Common.{length, subst, sym}
use Rattle.sap_net.specs.Net.{Net}
use Rattle.sap_trim.specs.Names.{port_names}
use Rattle.sap_compile.specs.Tidy.{IsTidy}
use Rattle.sap_linked_small.specs.Laws.{IsSmall}
use Rattle.sap_linker.specs.Given.{designs_of, nets_of}
use Rattle.sap_linker.specs.Sizes.{HasFewItems}
use Rattle.sap_linker.proofs.Counting.{inputs_few}
use Rattle.sap_linker.proofs.Sizes.{few_items}
use Rattle.sap_linker.proofs.Whole.{module_is}
use Rattle.sap_linker.proofs.module.module.Goals as goal

pub count_shown-shown-requires : goal.count_shown-shown-requires
count_shown-shown-requires c =
    inputs_few c.args.lattice.now c.args.wires.now c.args.parts.now c.requires.parts c.inputs_in_order.ensures c.in_ok-whole.whole c.in_ok-whole.ensures

pub keep_ports-requires : goal.keep_ports-requires
keep_ports-requires c =
    let small_is : IsSmall c.in_ok-whole.whole c.in_ok-small.small =
    record { netlist = c.rules-2.ensures; declares = c.in_ok-small.ensures.declares; runs = c.in_ok-small.ensures.same; wires = c.in_ok-small.ensures.named } in
    let tidy : IsTidy (port_names c.in_ok-small.small) c.in_ok-small.small =
    record { read = c.in_ok-small.ensures.read; shared = c.in_ok-small.ensures.shared; folded = c.in_ok-small.ensures.folded; copies = c.in_ok-small.ensures.copies } in
    (module_is c.args.lattice.now c.args.wires.now c.args.parts.now c.requires.parts c.inputs_in_order.ensures c.small_nets_are_modules.ensures c.lawful.ensures.order
    c.lawful.ensures.codes c.requires.linked c.requires.names c.count_shown-shown.result c.in_ok-whole.whole c.in_ok-small.small c.in_ok-whole.ensures small_is
    tidy c.count_shown-shown.ensures).stands.netlist

pub returns-clause-is_module : goal.returns-clause-is_module
returns-clause-is_module c =
    let small_is : IsSmall c.in_ok-whole.whole c.in_ok-small.small =
    record { netlist = c.rules-2.ensures; declares = c.in_ok-small.ensures.declares; runs = c.in_ok-small.ensures.same; wires = c.in_ok-small.ensures.named } in
    let tidy : IsTidy (port_names c.in_ok-small.small) c.in_ok-small.small =
    record { read = c.in_ok-small.ensures.read; shared = c.in_ok-small.ensures.shared; folded = c.in_ok-small.ensures.folded; copies = c.in_ok-small.ensures.copies } in
    subst (λ (n : Net). IsModuleOfSystem c.args.lattice.now (designs_of c.args.parts.now) c.args.wires.now n) (sym c.keep_ports.ensures)
    (module_is c.args.lattice.now c.args.wires.now c.args.parts.now c.requires.parts c.inputs_in_order.ensures c.small_nets_are_modules.ensures c.lawful.ensures.order
    c.lawful.ensures.codes c.requires.linked c.requires.names c.count_shown-shown.result c.in_ok-whole.whole c.in_ok-small.small c.in_ok-whole.ensures small_is
    tidy c.count_shown-shown.ensures)

pub returns-clause-small : goal.returns-clause-small
returns-clause-small c =
    subst (λ (n : Net). HasFewItems (nets_of c.args.parts.now) (length c.args.wires.now) n) (sym c.keep_ports.ensures)
    (few_items c.args.lattice.now c.args.wires.now c.args.parts.now c.requires.parts c.count_shown-shown.result c.in_ok-whole.whole c.in_ok-small.small c.in_ok-whole.ensures
    c.rules.ensures c.in_ok-small.ensures.declares c.in_ok-small.ensures.few)
