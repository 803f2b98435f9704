use Rattle.sap_files.specs.Steps.{seen}
use Rattle.sap_commands.proofs.PartsLoaded.{HaveLoaded}
use Rattle.sap_commands.proofs.link.load_parts.Given as goal

-- the parts so far
abbrev pub invariant-loop-place : goal.invariant-loop-place
invariant-loop-place g l =
    HaveLoaded l.lattice l.parts l.place l.made.items (seen g.D.Desk.told g.D.Desk.faults g.D.Desk.lost g.D.Desk.sure l.fn.desk)
    (seen g.D.Desk.told g.D.Desk.faults g.D.Desk.lost g.D.Desk.sure l.desk)
