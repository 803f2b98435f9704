use Rattle.sap_lemmas.proofs.Common.{◌≡◌, take, option_map}
use Rattle.sap_desk.specs.Desk.{added}
use Rattle.sap_desk.specs.Whole.{joined}
use Rattle.sap_desk.proofs.stream.write_parts.Given as goal

-- the parts so far are written
abbrev pub invariant-loop-part : goal.invariant-loop-part
invariant-loop-part g l = record {
  told : g.D.Desk.told l.desk ≡ option_map (added 2 (joined (take l.part-index l.parts))) (g.D.Desk.told l.fn.desk);
  given : g.D.Desk.given l.desk ≡ g.D.Desk.given l.fn.desk;
  lost : g.D.Desk.lost l.desk ≡ g.D.Desk.lost l.fn.desk;
  faults : g.D.Desk.faults l.desk ≡ g.D.Desk.faults l.fn.desk;
  sure : g.D.Desk.sure l.fn.desk → g.D.Desk.sure l.desk;
}
