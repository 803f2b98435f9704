use Rattle.std.proofs.Common.{None}
use Rattle.sap_build.proofs.CopiedParts.{copy_is_whole}
use Rattle.sap_build.proofs.PartRuns.{part_shows, run_inside, run_so}
use Rattle.sap_build.proofs.laws.parts_run_alike.Goals as goal

pub returns : goal.returns
returns c =
    record {
      runs = λ f p n own rules s xss us. run_inside f p n own rules s xss None us;
      only = run_so;
      shows = part_shows;
      copies = copy_is_whole;
    }
