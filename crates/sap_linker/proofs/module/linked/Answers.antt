use Rattle.std.proofs.Common.{◌≡◌, List, length, ap, sym, ◌∙◌, subst}
use Rattle.sap_system.specs.declared.file.WireText.{WireText}
use Rattle.sap_system.specs.Wires.{KeepsWires}
use Rattle.sap_link.specs.Systems.{Wire}
use Rattle.sap_link.specs.Designs.{WellLinked}
use Rattle.sap_linked.specs.Designs.{named_system, trees}
use Rattle.sap_wiring.specs.Wiring.{AreWiresOf, IsWireOf}
use Rattle.sap_linker.specs.Given.{WiresMeet, designs_of, nets_of, surroundings}
use Rattle.sap_linker.specs.Modules.{IsModuleOfSystem}
use Rattle.sap_linker.specs.Sizes.{HasFewItems}
use Rattle.sap_linker.proofs.Meeting.{are_of_designs, designs_formed, names_given, names_same, wires_meet}
use Rattle.sap_linker.proofs.Sizes.{as_many}
use Rattle.sap_linker.proofs.module.linked.Goals as goal

pub wires_between-requires : goal.wires_between-requires
wires_between-requires c =
    let ls = c.args.lattice.now in
    let ds = designs_of c.args.parts.now in
    c.file_names_serve.ensures c.args.system.now.parts (surroundings ls ds) c.kept.ensures (names_given ls ds ∙ c.requires.named)

pub module-requires-clause-names : goal.module-requires-clause-names
module-requires-clause-names c =
    let ls = c.args.lattice.now in
    let ds = designs_of c.args.parts.now in
    let wires = c.as_slice.result.now in
    c.file_names_fit.ensures.listed c.args.system.now.parts (named_system ls ds wires) c.kept.ensures (names_same ls ds wires ∙ names_given ls ds ∙ c.requires.named)

pub module-requires-clause-linked : goal.module-requires-clause-linked
module-requires-clause-linked c =
    let ls = c.args.lattice.now in
    let ds = designs_of c.args.parts.now in
    subst (λ (wires : List Wire). WellLinked ls (trees ds) wires) (sym c.as_slice.ensures.value) (record {
      designs_formed = designs_formed ls c.args.parts.now c.requires.parts;
      wires_fit = c.wires_of_texts_fit.ensures ls (trees ds) (surroundings ls ds) (are_of_designs ls ds) c.wires.result.now c.in_ok-wires.wires.items
          c.in_ok-wires.ensures.kept c.in_ok-wires.ensures.wires;
    })

pub module-requires-clause-wires : goal.module-requires-clause-wires
module-requires-clause-wires c =
    let ls = c.args.lattice.now in
    let ds = designs_of c.args.parts.now in
    subst (λ (wires : List Wire). WiresMeet ds wires) (sym c.as_slice.ensures.value)
    (wires_meet ls ds c.wires.result.now c.in_ok-wires.wires.items c.in_ok-wires.ensures.wires)

pub returns-clause-small : goal.returns-clause-small
returns-clause-small c =
    let ds = designs_of c.args.parts.now in
    let texts = as_many (IsWireOf (surroundings c.args.lattice.now ds)) c.wires.result.now c.in_ok-wires.wires.items c.in_ok-wires.ensures.wires in
    let same : length c.as_slice.result.now ≡ length c.args.system.now.wires =
    ap (λ (ws : List Wire). length ws) c.as_slice.ensures.value ∙ sym texts ∙ ap (λ (ts : List WireText). length ts) c.wires.ensures in
    subst (λ k. HasFewItems (nets_of c.args.parts.now) k c.in_ok-module.field-0) same c.in_ok-module.ensures.small

pub returns-clause-linked : goal.returns-clause-linked
returns-clause-linked c =
    let ls = c.args.lattice.now in
    let ds = designs_of c.args.parts.now in
    record {
      wires = c.in_ok-wires.wires.items;
      of_texts = subst (λ (ts : List WireText). AreWiresOf (surroundings ls ds) ts c.in_ok-wires.wires.items) c.wires.ensures c.in_ok-wires.ensures.wires;
      is_module = subst (λ (wires : List Wire). IsModuleOfSystem ls ds wires c.in_ok-module.field-0) c.as_slice.ensures.value c.in_ok-module.ensures.is_module;
    }

pub returns-clause-kept : goal.returns-clause-kept
returns-clause-kept c =
    subst (λ (ts : List WireText). KeepsWires (surroundings c.args.lattice.now (designs_of c.args.parts.now)) ts) c.wires.ensures c.in_ok-wires.ensures.kept
