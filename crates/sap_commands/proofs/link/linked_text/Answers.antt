use Rattle.std.proofs.Common.{◌≡◌, List, length, map, ◌∙◌, ap, subst}
use Rattle.sap_linked.specs.Designs.{NamedDesign}
use Rattle.sap_system.specs.Wires.{FirstLinkFault, KeepsWires}
use Rattle.sap_linker.specs.Given.{design_names, design_with_net, designs_of, surroundings}
use Rattle.sap_linker.specs.Linking.{IsLinked}
use Rattle.sap_linker.specs.Sizes.{IsSmallSystem}
use Rattle.sap_linker.specs.declared.parts.LinkedPart.{LinkedPart}
use Rattle.sap_explain.specs.Explained.{IsExplained}
use Rattle.sap_explain.specs.Explanation.{system_explanation}
use Rattle.sap_commands.specs.Link.{loaded_designs}
use Rattle.sap_commands.proofs.PartsHanded.{all_over, all_small, designs_same}
use Rattle.sap_commands.proofs.SmallSystems.{small_system}
use Rattle.sap_commands.proofs.Linked.{unlinked}
use Rattle.sap_commands.proofs.link.linked_text.Goals as goal

pub link-requires-clause-named : goal.link-requires-clause-named
link-requires-clause-named c =
    let same = ap (λ (ps : List LinkedPart). map design_with_net ps) c.as_slice-parts.ensures.value ∙ c.in_ok-handed.ensures in
    ap design_names (designs_same c.as_slice-parts.result.now c.args.loaded.now same) ∙ c.requires.names

pub link-requires-clause-parts : goal.link-requires-clause-parts
link-requires-clause-parts c =
    let same = ap (λ (ps : List LinkedPart). map design_with_net ps) c.as_slice-parts.ensures.value ∙ c.in_ok-handed.ensures in
    all_over c.args.lattice.now c.as_slice-parts.result.now c.args.loaded.now same c.requires.nets

pub explained_text-requires : goal.explained_text-requires
explained_text-requires c =
    let same = ap (λ (ps : List LinkedPart). map design_with_net ps) c.as_slice-parts.ensures.value ∙ c.in_ok-handed.ensures in
    ap design_names (designs_same c.as_slice-parts.result.now c.args.loaded.now same) ∙ c.requires.names

pub returns-in-Ok : goal.returns-in-Ok
returns-in-Ok c =
    let ls = c.args.lattice.now in
    let wires = c.args.system.now.wires in
    let n = c.in-Ok.netlist in
    let text = c.in_ok-explained_text-in-Ok.field-0 in
    let parts = c.as_slice-parts.result.now in
    let same = ap (λ (ps : List LinkedPart). map design_with_net ps) c.as_slice-parts.ensures.value ∙ c.in_ok-handed.ensures in
    let designs : designs_of parts ≡ loaded_designs c.args.loaded.now = designs_same parts c.args.loaded.now same in
    let small = small_system ls parts (length wires) n (all_small ls parts c.args.loaded.now same c.requires.nets) c.in-Ok.ensures.small in (
      subst (λ (ds : List NamedDesign). KeepsWires (surroundings ls ds) wires) designs c.in-Ok.ensures.kept,
      (
        n,
        c.in_ok-explained_text-in-Ok.ensures.same,
        subst (λ (ds : List NamedDesign). IsLinked ls ds wires n) designs c.in-Ok.ensures.linked,
        subst (λ (ds : List NamedDesign). IsSmallSystem ls ds (length wires) n) designs small,
        subst (λ (ds : List NamedDesign). IsExplained (system_explanation ls ds) text n) designs c.in_ok-explained_text-in-Ok.ensures,
      ),
    )

pub returns : goal.returns
returns c =
    let ls = c.args.lattice.now in
    let wires = c.args.system.now.wires in
    let fault = c.in-Err.fault in
    let parts = c.as_slice-parts.result.now in
    let same = ap (λ (ps : List LinkedPart). map design_with_net ps) c.as_slice-parts.ensures.value ∙ c.in_ok-handed.ensures in
    let designs : designs_of parts ≡ loaded_designs c.args.loaded.now = designs_same parts c.args.loaded.now same in
    unlinked (surroundings ls (loaded_designs c.args.loaded.now)) wires fault c.wires_failure.result c.wires_failure.ensures
    (λ other. subst (λ (ds : List NamedDesign). FirstLinkFault (surroundings ls ds) wires fault) designs (c.in-Err.ensures.refused other))
