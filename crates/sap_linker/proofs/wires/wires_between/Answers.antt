use Rattle.std.proofs.Common.{◌≢◌, List, map, ap, sym, ◌∙◌, subst, IfErr, IfOk, OnOk}
use Rattle.sap_system.specs.Wires.{NamedPart, FirstLinkFault, KeepsWires}
use Rattle.sap_system.specs.declared.link_fault.LinkFault.TheVariants.{Memory}
use Rattle.sap_wiring.specs.Wiring.{AreWiresOf, PartsNamed, named_part}
use Rattle.sap_linker.proofs.Meeting.{around, named_as_given}
use Rattle.sap_linker.proofs.wires.wires_between.Goals as goal

pub wire_up-requires : goal.wire_up-requires
wire_up-requires c =
    let ls = c.args.lattice.now in
    let same = ap (map named_part) c.as_slice.ensures.value ∙ c.in_ok-names.ensures ∙ named_as_given ls c.args.parts.now in
    subst (λ (ps : List NamedPart). PartsNamed (around ls ps)) (sym same) c.requires

pub returns-clause-wires : goal.returns-clause-wires
returns-clause-wires c =
    let ls = c.args.lattice.now in
    let same = ap (map named_part) c.as_slice.ensures.value ∙ c.in_ok-names.ensures ∙ named_as_given ls c.args.parts.now in
    subst (λ (ps : List NamedPart). IfOk c.wire_up.result (λ wires. AreWiresOf (around ls ps) c.args.texts.now wires.items)) same c.wire_up.ensures.wires

pub returns-clause-kept : goal.returns-clause-kept
returns-clause-kept c =
    let ls = c.args.lattice.now in
    let same = ap (map named_part) c.as_slice.ensures.value ∙ c.in_ok-names.ensures ∙ named_as_given ls c.args.parts.now in
    subst (λ (ps : List NamedPart). OnOk c.wire_up.result (KeepsWires (around ls ps) c.args.texts.now)) same c.wire_up.ensures.kept

pub returns-clause-refused : goal.returns-clause-refused
returns-clause-refused c =
    let ls = c.args.lattice.now in
    let same = ap (map named_part) c.as_slice.ensures.value ∙ c.in_ok-names.ensures ∙ named_as_given ls c.args.parts.now in
    subst (λ (ps : List NamedPart). IfErr c.wire_up.result (λ fault. fault ≢ Memory → FirstLinkFault (around ls ps) c.args.texts.now fault)) same
    c.wire_up.ensures.refused
