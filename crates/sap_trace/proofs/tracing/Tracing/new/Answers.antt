use Rattle.std.proofs.Common.{length, sym, subst}
use Rattle.sap_net.specs.Net.{Net}
use Rattle.sap_check.specs.Checked.{levels_in, tree_in}
use Rattle.sap_check.specs.Sites.{sites_of}
use Rattle.sap_interface.specs.Designs.{StandsForDesign}
use Rattle.sap_sim.proofs.Stepped.{unstepped_shows}
use Rattle.sap_trace.specs.Given.{given}
use Rattle.sap_trace.specs.Seen.{AreWires}
use Rattle.sap_trace.proofs.tracing.Tracing.new.Goals as goal

pub returns-clause-after : goal.returns-clause-after
returns-clause-after c =
    let ls = levels_in c.args.checked.now in
    let d = tree_in c.args.checked.now in
    record {
      net = c.in_ok-runner.ensures.netlist;
      planned = record {
        stands = subst (StandsForDesign ls d) (sym c.in_ok-runner.ensures.netlist) c.requires.stands;
        wires = subst (λ (n : Net). AreWires n (length (sites_of d)) c.in_ok-runner.wires) (sym c.in_ok-runner.ensures.netlist) c.in_ok-runner.ensures.wires;
        fields = c.in_ok-fields.ensures.fields;
        sized = c.in_ok-fields.ensures.sized;
        room = c.in-Some.ensures.holds;
      };
      shows = unstepped_shows c.args.netlist (given ls) c.in_ok-runner.runner c.in_ok-runner.ensures.unstepped;
    }

pub returns-clause-least : goal.returns-clause-least
returns-clause-least c = c.in-Some.ensures.least
