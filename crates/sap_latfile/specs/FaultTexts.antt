-- The text of a fault of a lattice file.
use Rattle.std.specs.Prelude.{ℕ, List, codes}
use Rattle.sap_lattice.specs.FaultTexts.{rule_text}
use Rattle.sap_latfile.specs.declared.fault.LatFileFault.{LatFileFault}
use Rattle.sap_latfile.specs.declared.fault.LatFileFault.TheVariants.{NotToml, Shape, Rule, Memory}

-- The text of a fault of a lattice file.
abbrev pub lattice_text : LatFileFault → List ℕ
lattice_text NotToml = codes "L1"
lattice_text Shape = codes "L2"
lattice_text (Rule fault) = rule_text fault
lattice_text Memory = codes "memory"
