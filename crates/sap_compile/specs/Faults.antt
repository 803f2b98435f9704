-- Why the bytes of a lattice file and of a design give no module: the first fault, the lattice file's before the
-- design's.
use Rattle.std.specs.Prelude.{ℕ, List}
use Rattle.sap_lattice.specs.Levels.{Levels}
use Rattle.sap_latfile.specs.LatticeFile.{IsLatticeOfFile, FirstFault}
use Rattle.sap_check.specs.Faults.{IsCheckFault}
use Rattle.sap_parse.specs.Text.{IsText, IsReadFault}
use Rattle.sap_tree.specs.Syntax.{DesignTree}
use Rattle.sap_compile.specs.declared.fault.CompileFault.{CompileFault}
use Rattle.sap_compile.specs.declared.fault.CompileFault.TheVariants.{Lattice, Read, Check, Memory}

-- The fault is the first: that of the lattice, else that of reading the design, else that of checking it.
abbrev pub IsCompileFault : (lattice design : List ℕ) → CompileFault → Type 0
IsCompileFault lattice design (Lattice fault) = FirstFault lattice fault
IsCompileFault lattice design (Read fault) = (ls : Levels) × IsLatticeOfFile lattice ls × IsReadFault design fault
IsCompileFault lattice design (Check fault) =
    (ls : Levels) × (d : DesignTree) × IsLatticeOfFile lattice ls × IsText design d × IsCheckFault ls d fault
IsCompileFault lattice design Memory = ⊥
