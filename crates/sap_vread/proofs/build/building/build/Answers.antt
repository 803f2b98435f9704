use Rattle.std.proofs.Common.{◌∙◌, ap, sym, subst}
use Rattle.sap_net.specs.IsNetlist.{IsNetlist}
use Rattle.sap_vtext.specs.Modules.{netlist_of}
use Rattle.sap_vparse.specs.Views.{file_of}
use Rattle.sap_vread.proofs.build.Narrowed.{file_same}
use Rattle.sap_vread.proofs.build.Netlist.{file_netlist}
use Rattle.sap_vread.proofs.build.SpelledNames.{spelled_written}
use Rattle.sap_vread.proofs.build.building.build.Goals as goal

pub returns : goal.returns
returns c = c.new.ensures ∙ c.in_ok-parts.ensures ∙ ap netlist_of (file_same (file_of c.args.file.now) c.requires.faultless)

pub new-requires : goal.new-requires
new-requires c =
    let f = file_of c.args.file.now in
    subst IsNetlist (sym (c.in_ok-parts.ensures ∙ ap netlist_of (file_same f c.requires.faultless)))
    (file_netlist f (spelled_written f c.requires.spelled) c.requires.faultless)
