use Rattle.std.proofs.Common.{◌≡◌, List, ap, ◌∙◌, [], sym, subst, arith}
use Rattle.sap_desk.specs.Row.{Row}
use Rattle.sap_net.specs.Net.{Net}
use Rattle.sap_cycle.specs.Running.{Running}
use Rattle.sap_wave.specs.declared.variable.Variable.{Variable}
use Rattle.sap_wave.specs.Prelude.{Dumping, StandAt, begun, head, text_of, variables_of}
use Rattle.sap_wave_run.proofs.recording.Recording.new.Goals as goal

pub places-requires : goal.places-requires
places-requires c =
    record {
      variables =
          ap (λ (r : Running). variables_of r.net) c.runner.ensures ∙ sym (ap (λ (n : Net). variables_of n) c.netlist.ensures)
          ∙ sym (ap (λ (d : Dumping). d.variables) c.in_ok-dumper.ensures);
    }

pub returns : goal.returns
returns c =
    let after = c.in_ok-simulation.ensures.after in
    let begins : c.in_ok-dumper.dumper ≡ begun c.args.netlist = c.in_ok-dumper.ensures ∙ ap begun (c.netlist.ensures ∙ after.net) in
    record {
      net = after.net;
      planned = after.planned;
      unstepped = after.shows [] tt;
      begun = begins;
      places =
          subst (λ (n : Net). StandAt n (variables_of c.args.netlist) c.in_ok-places.places.items) (ap (λ (r : Running). r.net) c.runner.ensures ∙ after.net)
          (subst (λ (xs : List Variable). StandAt c.runner.result.now.net xs c.in_ok-places.places.items) (ap (λ (d : Dumping). d.variables) begins) c.in_ok-places.ensures);
      head = c.in_ok-head.ensures ∙ ap (λ (d : Dumping). text_of (head d.variables d.first)) begins;
      waiting = ap (λ (b : Row). b.bytes) c.in_ok-waiting.ensures;
      room = omega (arith, ap (λ (b : Row). b.room) c.in_ok-waiting.ensures);
    }
