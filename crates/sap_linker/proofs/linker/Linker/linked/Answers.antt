use Rattle.std.proofs.Common.{◌≡◌, ◌≢◌, ◌⊎◌, length, map, ap, ap₂, ◌∙◌, subst, sym, IfErr, IfOk, IsErrOf, IsOkUnless, OnOk}
use Rattle.sap_system.specs.Wires.{FirstLinkFault, KeepsWires}
use Rattle.sap_system.specs.declared.link_fault.LinkFault.{LinkFault}
use Rattle.sap_system.specs.declared.link_fault.LinkFault.TheVariants.{Memory}
use Rattle.sap_linker.specs.Adding.{Adding, under_names}
use Rattle.sap_linker.specs.Given.{design_with_net, surroundings}
use Rattle.sap_linker.specs.Linking.{IsLinked}
use Rattle.sap_linker.specs.Sizes.{HasFewItems}
use Rattle.sap_linker.proofs.Adding.{carried, names_same, over}
use Rattle.sap_linker.proofs.linker.Linker.linked.Goals as goal

pub link-requires-clause-named : goal.link-requires-clause-named
link-requires-clause-named c =
    let a : Adding = record { system = c.self.inside.system; levels = c.self.inside.lattice.now; parts = c.self.inside.parts.items } in
    let same = ap (map design_with_net) c.as_slice-2.ensures.value ∙ c.in_ok-parts.ensures ∙ ap₂ under_names c.parts.ensures c.as_slice.ensures.value in
    let all = subst (λ (x : Adding). length x.parts ≡ length x.system.parts) (sym c.self.view_is) c.requires in
    names_same c.as_slice-2.result.now a.system.parts a.parts same all

pub link-requires-clause-parts : goal.link-requires-clause-parts
link-requires-clause-parts c =
    let a : Adding = record { system = c.self.inside.system; levels = c.self.inside.lattice.now; parts = c.self.inside.parts.items } in
    let same = ap (map design_with_net) c.as_slice-2.ensures.value ∙ c.in_ok-parts.ensures ∙ ap₂ under_names c.parts.ensures c.as_slice.ensures.value in
    over c.as_slice-2.result.now a.system.parts a.parts same a.levels c.self.invariant.0

pub returns : goal.returns
returns c =
    let a : Adding = record { system = c.self.inside.system; levels = c.self.inside.lattice.now; parts = c.self.inside.parts.items } in
    let b : Adding = c.args.self.now in
    let r = c.link.result in
    let made = c.as_slice-2.result.now in
    let same = ap (map design_with_net) c.as_slice-2.ensures.value ∙ c.in_ok-parts.ensures ∙ ap₂ under_names c.parts.ensures c.as_slice.ensures.value in
    record {
      linked = carried (λ ls ds ns s. IfOk r (λ n. IsLinked ls ds s.wires n)) made a b same c.self.view_is c.link.ensures.linked;
      small = carried (λ ls ds ns s. IfOk r (λ n. HasFewItems ns (length s.wires) n)) made a b same c.self.view_is c.link.ensures.small;
      kept = carried (λ ls ds ns s. OnOk r (KeepsWires (surroundings ls ds) s.wires)) made a b same c.self.view_is c.link.ensures.kept;
      refused = carried (λ ls ds ns s. IfErr r (λ fault. fault ≢ Memory → FirstLinkFault (surroundings ls ds) s.wires fault)) made a b same c.self.view_is c.link.ensures.refused;
      valid = carried (λ ls ds ns s. KeepsWires (surroundings ls ds) s.wires → IsOkUnless r Memory) made a b same c.self.view_is c.link.ensures.valid;
      exact = carried (λ ls ds ns s. (fault : LinkFault) → FirstLinkFault (surroundings ls ds) s.wires fault → IsErrOf r fault
          ⊎ IsErrOf r Memory) made a b same c.self.view_is c.link.ensures.exact;
    }
