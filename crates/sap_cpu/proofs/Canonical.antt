-- The canonical text of the machine's design is that of a well-formed design, and of no other than the machine's, places aside.
use Rattle.sap_lemmas.proofs.Common.{◌≡◌, sym, ap, ◌∙◌}
use Rattle.sap_lattice.specs.Diamond.{diamond}
use Rattle.sap_tree.specs.Bare.{bare}
use Rattle.sap_tree.specs.Syntax.{DesignTree}
use Rattle.sap_parse.specs.Text.{IsText}
use Rattle.sap_parse.proofs.OneReading.{one_design}
use Rattle.sap_shape.specs.WellFormed.{WellFormed}
use Rattle.sap_layout.proofs.Formed.{formed_alike}
use Rattle.sap_machine.specs.Design.{machine_design}
use Rattle.sap_machine.specs.DesignText.{machine_text}
use Rattle.sap_machine.proofs.Sound.{reads_back, well_formed}

pub machine_read : (design : DesignTree) × IsText machine_text design × WellFormed diamond design × (bare design ≡ bare machine_design)
machine_read =
    let (design, text, same) = reads_back in
    (design, text, formed_alike diamond machine_design design (sym same) well_formed, same)

pub read_is_machine : (design : DesignTree) → IsText machine_text design → bare design ≡ bare machine_design
read_is_machine design text = ap bare (one_design machine_text design machine_read.0 text machine_read.1) ∙ machine_read.3
