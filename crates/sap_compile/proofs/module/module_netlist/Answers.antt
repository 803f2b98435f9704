use Rattle.sap_vprint.specs.Printed.{file_of}
use Rattle.sap_vprint.specs.Text.{file_pieces, text_of}
use Rattle.sap_vprint.proofs.PrintedModule.{printed_module}
use Rattle.sap_compile.proofs.module.module_netlist.Goals as goal

pub runs-requires : goal.runs-requires
runs-requires c = c.in_ok-netlist.ensures.stands

pub returns : goal.returns
returns c =
    let n = c.in_ok-netlist.netlist in (
      text_of (file_pieces (file_of n)),
      record {
        well_formed = c.lawful.ensures;
        is_module = printed_module n c.rules.ensures;
        stands = c.in_ok-netlist.ensures.stands;
        starts = c.in_ok-netlist.ensures.starts;
        has_one_run = c.runs.ensures.one;
        agrees = c.runs.ensures.agree;
        looks_alike = c.runs.ensures.look_alike;
        tidy =
            record {
              read = c.in_ok-netlist.ensures.read;
              shared = c.in_ok-netlist.ensures.shared;
              folded = c.in_ok-netlist.ensures.folded;
              copies = c.in_ok-netlist.ensures.copies;
            };
        small = c.in_ok-netlist.ensures.small;
      },
    )
