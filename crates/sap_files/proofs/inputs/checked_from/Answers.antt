use Rattle.sap_lemmas.proofs.Common.{◌≡◌, ℕ, List, sym, ap, subst, err_from_is_err_and}
use Rattle.sap_parse.specs.Text.{IsText}
use Rattle.sap_check.specs.Checked.{tree_in}
use Rattle.sap_tree.specs.Prelude.{design_of, DesignTree}
use Rattle.sap_tree.specs.declared.design.Design.{Design}
use Rattle.sap_files.specs.Prelude.{IsWellFormedText}
use Rattle.sap_files.proofs.Designs.{design_unchecked, design_unread}
use Rattle.sap_files.proofs.inputs.checked_from.Goals as goal

pub returns-in_err-design : goal.returns-in_err-design
returns-in_err-design c =
    let p = err_from_is_err_and c.from_residual.result c.from_residual.ensures.1 in
    rw (p.1, p.2)
    (rw c.as_slice.ensures at (design_unread c.args.lattice.now c.as_slice.result.now c.in_err-design.field-0.0 c.in_err-design.ensures.fault))

pub returns-in-Ok : goal.returns-in-Ok
returns-in-Ok c =
    let same : design_of c.in_ok-design.design ≡ tree_in c.in-Ok.checked = ap (λ (d : Design). design_of d) (sym c.in-Ok.ensures.design) in (
      subst (λ (d : DesignTree). IsWellFormedText c.args.lattice.now c.args.source.now d) same
          (record {
            is_text = subst (λ (b : List ℕ). IsText b (design_of c.in_ok-design.design)) c.as_slice.ensures c.in_ok-design.ensures.design;
            well_formed = c.in-Ok.ensures.well_formed;
          }),
      c.in-Ok.ensures.lattice,
    )

pub returns-in-Err : goal.returns-in-Err
returns-in-Err c =
    design_unchecked c.args.lattice.now c.args.source.now (design_of c.in_ok-design.design) c.in-Err.refused.fault c.from.result c.from.ensures
    (subst (λ (b : List ℕ). IsText b (design_of c.in_ok-design.design)) c.as_slice.ensures c.in_ok-design.ensures.design) c.in-Err.ensures.first
