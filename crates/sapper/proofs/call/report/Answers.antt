use Rattle.std.proofs.Common.{◌≡◌, ℕ, List, rules, refl, ap}
use Rattle.sap_files.specs.Ending.{failed, line_of}
use Rattle.sap_files.specs.declared.failure.Failure.TheVariants.{Desk}
use Rattle.sapper.proofs.Calls.{told_as}
use Rattle.sapper.proofs.call.report.Goals as goal

pub returns-in-Desk : goal.returns-in-Desk
returns-in-Desk g c =
    let is : c.args.failure.now ≡ Desk c.in-Desk.name = search rules in
    rw is (told_as (failed c.in-Desk.name.now) 6 _ _ _ refl refl c.tell_desk.ensures)

pub returns-in-PartFile : goal.returns-in-PartFile
returns-in-PartFile g c =
    rw c.in-PartFile.is
    (told_as (failed c.in-PartFile.name) 6 _ _ _ refl (ap (λ (name : List ℕ). line_of (failed name)) c.as_str.ensures) c.tell_desk-in-PartFile.ensures)
