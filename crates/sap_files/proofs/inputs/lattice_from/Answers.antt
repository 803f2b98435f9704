use Rattle.sap_lemmas.proofs.Common.{◌≢◌, subst, ℕ, List}
use Rattle.sap_files.proofs.Lattices.{lattice_stands, lattice_unread}
use Rattle.sap_latfile.specs.LatticeFile.{FirstFault, IsLatticeOfFile}
use Rattle.sap_latfile.specs.declared.fault.LatFileFault.TheVariants as lattice
use Rattle.sap_files.proofs.inputs.lattice_from.Goals as goal

pub returns-in-Ok : goal.returns-in-Ok
returns-in-Ok c =
    lattice_stands c.args.bytes.now c.in-Ok.lattice (subst (λ (b : List ℕ). IsLatticeOfFile b c.in-Ok.lattice) c.as_slice.ensures c.in-Ok.ensures.accepted)

pub returns-in-Err : goal.returns-in-Err
returns-in-Err c =
    lattice_unread c.args.bytes.now c.in-Err.fault c.lattice_failure.result c.lattice_failure.ensures
    (subst (λ (b : List ℕ). c.in-Err.fault ≢ lattice.Memory → FirstFault b c.in-Err.fault) c.as_slice.ensures c.in-Err.ensures.refused)
