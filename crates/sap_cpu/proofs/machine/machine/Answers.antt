use Rattle.std.proofs.Common.{◌≡◌, sym, ap, subst, ◌∙◌}
use Rattle.sap_tree.specs.Prelude.{bare, design_of}
use Rattle.sap_machine.specs.Design.{machine_design}
use Rattle.sap_machine.specs.DesignText.{machine_text}
use Rattle.sap_machine.specs.Laws.{OthersDontCount, OthersWordsDontCount, RefusesTheWords, RunsTheTable, WordsDecide}
use Rattle.sap_cpu.proofs.machine.machine.Goals as goal

pub unreachable-requires : goal.unreachable-requires
unreachable-requires c =
    let known = c.design_is_sound.ensures.reads_back in
    (c.in-Err.ensures {u = tt}).refused c.in_default.not-Memory known.0 known.1

pub returns-in-Ok : goal.returns-in-Ok
returns-in-Ok c =
    let sound = c.design_is_sound.ensures in
    let known = sound.reads_back in
    let same : bare (design_of c.in-Ok.design) ≡ bare machine_design =
    ap bare (c.one_reading.ensures.one_design machine_text (design_of c.in-Ok.design) known.0 (c.in-Ok.ensures {u = tt}).design known.1) ∙ known.2 in
    let kept = sound.places (design_of c.in-Ok.design) same in
    let is = sym kept.1 in
    record {
      design = same;
      well_formed = kept.0;
      program = kept.1;
      runs = subst RunsTheTable is c.machine_runs_the_table.ensures.runs;
      refuses = subst RefusesTheWords is c.machine_runs_the_table.ensures.refuses;
      words = subst WordsDecide is c.users_are_apart.ensures.words;
      agreeing = subst OthersDontCount is c.users_are_apart.ensures.agreeing;
      differing = subst OthersWordsDontCount is c.users_are_apart.ensures.differing;
    }
