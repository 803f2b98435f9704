use Rattle.std.proofs.Common.{None}
use Rattle.sap_net.proofs.Exists.{run_exists}
use Rattle.sap_net.proofs.Same.{run_same}
use Rattle.sap_net.proofs.laws.one_run.Goals as goal

pub returns : goal.returns
returns c =
    let n = c.args.netlist.now in
    let rules = c.rules.ensures in
    record {
      some = λ xss fit. run_exists n rules xss None tt fit;
      one = λ xss vs ws. run_same n rules xss None None vs ws tt;
    }
