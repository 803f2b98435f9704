use Rattle.std.proofs.Common.{◌≡◌, ℕ, ap, subst}
use Rattle.sap_check.specs.Checked.{levels_in, tree_in}
use Rattle.sap_tree.specs.Designs.{design_of}
use Rattle.sap_program.specs.Hangs.{flags}
use Rattle.sap_resolve.specs.Rows.{root_row_in}
use Rattle.sap_resolve.proofs.Limits.{few_entities}
use Rattle.sap_resolve.proofs.Resolved.{program_made}
use Rattle.sap_resolve.proofs.resolve.resolve.Goals as goal

pub entities-requires : goal.entities-requires
entities-requires c = few_entities _ c.design_is_whole.ensures

pub returns : goal.returns
returns c =
    let ls = levels_in c.args.checked.now in
    let d = tree_in c.args.checked.now in
    program_made ls c.lattice.result.now d (design_of c.design-design.result.now) c.names.result.now c.args.table.now _ c.lattice.ensures
    (ap design_of c.design-design.ensures) c.names.ensures c.requires
    (c.hangs_agree.ensures ls d c.lawful.ensures.names) c.in_ok-entities.ensures.entities c.in_ok-entities.ensures.names
    (c.in_ok-children.ensures ls) c.in_ok-states.ensures.states c.in_ok-states.ensures.sites
    (subst (λ (n : ℕ). flags n c.in_ok-hang.hang ≡ root_row_in n c.args.table.now) c.count.ensures c.in_ok-hang.ensures)
