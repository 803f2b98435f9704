use Rattle.std.proofs.Common.{None}
use Rattle.sap_build.proofs.Back.{run_back}
use Rattle.sap_build.proofs.Seen.{seen_alike}
use Rattle.sap_build.proofs.Through.{run_through}
use Rattle.sap_build.proofs.laws.copies_run_alike.Goals as goal

pub returns : goal.returns
returns c =
    record {
      runs = λ module_name f n rules k xss us. run_through module_name f n rules k xss None us;
      back = run_back;
      shows = seen_alike;
    }
