use Rattle.std.proofs.Common.{◌≡◌, ◌+◌, ◌≤◌, ◌++◌, ℕ, List, length, replicate}
use Rattle.sap_meaning.specs.Cycle.{Tagged as Given}
use Rattle.sap_lines.specs.Stepping.Cycles.{CyclesShown}
use Rattle.sap_pieces.specs.declared.TheConstants.{LARGE_BYTES}
use Rattle.sap_lines.proofs.stepping.printing.step_line.Given as goal

-- the cycles so far
abbrev pub invariant-loop : goal.invariant-loop
invariant-loop g l = record {
  cycle : l.cycle ≡ l.fn.cycle + l.counter;
  behind : (cycles : List (List Given)) → g.S.Steps.behind l.fn.steps cycles → g.S.Steps.behind l.steps (cycles ++ replicate l.counter l.lines.line.inputs);
  shown : CyclesShown (g.S.Steps.behind l.fn.steps) (g.S.Steps.shows l.fn.steps) (g.S.Steps.shows l.steps) l.fn.cycle (replicate l.counter l.lines.line.inputs)
      l.fn.waiting.bytes l.waiting.bytes (g.D.Desk.told l.fn.desk) (g.D.Desk.told l.desk);
  same_levels : g.S.Steps.levels l.steps ≡ g.S.Steps.levels l.fn.steps;
  same_fields : g.S.Steps.fields l.steps ≡ g.S.Steps.fields l.fn.steps;
  same_room : g.S.Steps.room l.steps ≡ g.S.Steps.room l.fn.steps;
  same_shows : (cycles : List (List Given)) (text : List ℕ) → g.S.Steps.shows l.steps cycles text → g.S.Steps.shows l.fn.steps cycles text;
  room : l.fn.out.room ≤ l.out.room;
  few : length l.waiting.bytes ≤ LARGE_BYTES;
  large : l.fn.waiting.room ≤ l.waiting.room;
  given : g.D.Desk.given l.desk ≡ g.D.Desk.given l.fn.desk;
  faults : g.D.Desk.faults l.desk ≡ g.D.Desk.faults l.fn.desk;
  lost : g.D.Desk.lost l.desk ≡ g.D.Desk.lost l.fn.desk;
  sure : g.D.Desk.sure l.fn.desk → g.D.Desk.sure l.desk;
}
