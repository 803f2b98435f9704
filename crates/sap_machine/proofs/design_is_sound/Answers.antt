use Rattle.std.proofs.Common.{sym}
use Rattle.sap_lattice.specs.Diamond.{diamond}
use Rattle.sap_layout.specs.Layout.{FormedAlike, OneProgram}
use Rattle.sap_machine.specs.Design.{machine_design}
use Rattle.sap_machine.specs.Machine.{PlacesDontCount, machine}
use Rattle.sap_machine.proofs.Sound.{whole, well_formed, text_is, reads_back}
use Rattle.sap_machine.proofs.design_is_sound.Goals as goal

places : FormedAlike → OneProgram → PlacesDontCount
unfolding machine
places formed program tree same = (formed diamond machine_design tree (sym same) well_formed, program diamond tree machine_design same)

pub returns : goal.returns
returns c =
    record {
      whole = whole;
      well_formed = well_formed;
      canonical = text_is;
      reads_back = reads_back;
      places = places c.layout_is_free.ensures.formed c.layout_is_free.ensures.program;
    }
