use Rattle.sap_lemmas.proofs.Common.{◌≡◌, ◌<◌, ◌≤◌, ℕ, ◌-◌, List, length, true, ◌^◌}
use Rattle.sap_meaning.specs.Cycle.{Tagged as Given}
use Rattle.sap_lines.specs.Reader.{Backed}
use Rattle.sap_pieces.specs.declared.TheConstants.{LARGE_BYTES}
use Rattle.sap_lines.proofs.stepping.Along.{Along}
use Rattle.sap_lines.proofs.stepping.EveryDesk.{Gave}
use Rattle.sap_lines.proofs.stepping.printing.step_on.Given as goal

abbrev pub invariant-loop-desk : goal.invariant-loop-desk
invariant-loop-desk g l = record {
  along : Along (g.S.Steps.shows l.fn.steps) (g.S.Steps.shows l.steps) (g.S.Steps.levels l.fn.steps) (g.S.Steps.fields l.fn.steps) l.channel
      (g.S.Steps.behind l.steps) l.lines l.cycle
      (g.D.Desk.given l.desk l.channel) l.waiting.bytes (g.D.Desk.told l.fn.desk) (g.D.Desk.told l.desk);
  gave : Gave (g.S.Steps.levels l.fn.steps) (g.S.Steps.fields l.fn.steps) l.lines;
  back : (lines : List (List Given)) (text : List ℕ) → g.S.Steps.shows l.steps lines text → g.S.Steps.shows l.fn.steps lines text;
  live : l.lines.live ≡ true;
  fields : l.lines.fields ≡ g.S.Steps.fields l.fn.steps;
  same_levels : g.S.Steps.levels l.steps ≡ g.S.Steps.levels l.fn.steps;
  same_fields : g.S.Steps.fields l.steps ≡ g.S.Steps.fields l.fn.steps;
  same_room : g.S.Steps.room l.steps ≡ g.S.Steps.room l.fn.steps;
  room : g.S.Steps.room l.fn.steps ≤ l.out.room;
  few : length l.waiting.bytes ≤ LARGE_BYTES;
  large : LARGE_BYTES ≤ l.waiting.room;
  backed : Backed l.lines (g.D.Desk.given l.desk l.channel);
  bounded : g.D.Desk.given l.desk l.channel < 2 ^ 32;
  faults : g.D.Desk.faults l.desk ≡ g.D.Desk.faults l.fn.desk;
  lost : g.D.Desk.lost l.desk ≡ g.D.Desk.lost l.fn.desk;
  sure : g.D.Desk.sure l.fn.desk → g.D.Desk.sure l.desk;
}

abbrev pub decreases-loop-desk : goal.decreases-loop-desk
decreases-loop-desk g l = 2 ^ 32 - l.lines.count
