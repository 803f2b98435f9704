use Rattle.sap_lemmas.proofs.Common.{◌≡◌, ap, err_from_is_err_and}
use Rattle.sap_latfile.specs.declared.fault.LatFileFault.{LatFileFault}
use Rattle.sap_latfile.specs.declared.fault.LatFileFault.TheVariants as lattice_fault
use Rattle.sap_tree.specs.Designs.{design_of}
use Rattle.sap_compile.specs.Failures.{lattice_failure}
use Rattle.sap_compile.proofs.Faults.{formed_over, memory_alone, no_err, no_fault, refused, unread}
use Rattle.sap_compile.proofs.read.read.Goals as goal

pub returns-in_err-levels-clause-valid : goal.returns-in_err-levels-clause-valid
returns-in_err-levels-clause-valid c = λ ls d lattice text formed.
    let p = err_from_is_err_and c.from_residual.result c.from_residual.ensures.1 in
    let memory : c.in_err-levels.field-0.0 ≡ lattice_fault.Memory = c.in_err-levels.ensures.valid lattice.0 lattice.1 lattice.2 lattice.3.kept in
    rw (p.1, p.2) (ap (λ (f : LatFileFault). lattice_failure f) memory)

pub returns-in_err-tree-clause-valid : goal.returns-in_err-tree-clause-valid
returns-in_err-tree-clause-valid c = λ ls d lattice text formed.
    let p = err_from_is_err_and c.from_residual-in_err-tree.result c.from_residual-in_err-tree.ensures.1 in
    rw (p.1, p.2) (unread c.in_err-tree.field-0.0 (λ n. c.in_err-tree.ensures.refused n d text))

pub returns-in-Ok-clause-exact : goal.returns-in-Ok-clause-exact
returns-in-Ok-clause-exact c = λ fault is.
    absurd (no_fault c.one_lattice.ensures c.one_reading.ensures.one_design c.one_reading.ensures.not_both c.args.lattice.now c.args.design.now
    c.in_ok-levels.levels (design_of c.in_ok-tree.tree) c.in_ok-levels.ensures.accepted c.in_ok-tree.ensures.design c.in-Ok.ensures.well_formed
    (λ f first. no_err c.in_ok-levels.levels f (c.in_ok-levels.ensures.exact f first)) fault is)

pub returns-clause-refused : goal.returns-clause-refused
returns-clause-refused c =
    refused c.args.lattice.now c.args.design.now c.in_ok-levels.levels (design_of c.in_ok-tree.tree) c.in-Err.refused.fault c.from.result c.from.ensures
    c.in_ok-levels.ensures.accepted c.in_ok-tree.ensures.design c.in-Err.ensures.first

pub returns-clause-valid : goal.returns-clause-valid
returns-clause-valid c = λ ls d lattice text formed.
    memory_alone c.in-Err.refused.fault c.from.result c.from.ensures
    (c.in-Err.ensures.accepted (formed_over c.one_lattice.ensures c.one_reading.ensures.one_design c.args.lattice.now c.args.design.now ls c.in_ok-levels.levels d
    (design_of c.in_ok-tree.tree) lattice c.in_ok-levels.ensures.accepted text c.in_ok-tree.ensures.design formed))
