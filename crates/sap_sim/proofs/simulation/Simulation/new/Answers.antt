use Rattle.std.proofs.Common.{sym, ap, ◌∙◌}
use Rattle.sap_net.specs.Net.{Net}
use Rattle.sap_sim.specs.Prelude.{fields_of, numbers_of}
use Rattle.sap_sim.proofs.Stepped.{unstepped_shows}
use Rattle.sap_sim.proofs.simulation.Simulation.new.Goals as goal

pub returns-clause-after : goal.returns-clause-after
returns-clause-after c =
    let ls = c.args.lattice.now in
    let n = c.args.netlist in
    record {
      net = c.in_ok-planned.ensures.netlist;
      planned = record {
        plan = c.in_ok-planned.ensures.plan;
        fields = c.in_ok-feed.ensures.fields ∙ ap (λ (m : Net). fields_of ls m) (sym c.in_ok-planned.ensures.netlist);
        sized = c.in_ok-feed.ensures.sized;
        room = c.in_ok-held.ensures.holds;
      };
      shows = unstepped_shows n (numbers_of ls n) c.in_ok-planned.planned.runner c.in_ok-planned.ensures.unstepped;
    }
