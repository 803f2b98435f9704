use Rattle.std.proofs.Common.{ℕ, List, ap, ◌∙◌, subst}
use Rattle.sap_check.specs.Checked.{levels_in, tree_in}
use Rattle.sap_cycle.specs.Running.{ShowsNext}
use Rattle.sap_lattice.specs.Levels.{Levels}
use Rattle.sap_trace.specs.Given.{given}
use Rattle.sap_tests.proofs.Steps.{shown, stepped}
use Rattle.sap_tests.proofs.refusals.refuses.Goals as goal
use Rattle.sap_tests.proofs.refusals.refuses.Goals.{After-step}

next : (c : After-step) → ShowsNext c.args.runner.now (given (levels_in c.args.checked.now) c.args.line.now) c.step.new.self
next c =
    subst (λ (xs : List ℕ). ShowsNext c.args.runner.now xs c.step.new.self)
    (c.take_numbers.ensures ∙ ap (λ (ls : Levels). given ls c.values-values.result.now) c.lattice.ensures
    ∙ ap (given (levels_in c.args.checked.now)) c.values-values.ensures) c.step.ensures.next

pub suppressed-requires : goal.suppressed-requires
suppressed-requires c = record {
  shows =
      shown (levels_in c.args.checked.now) (tree_in c.args.checked.now) c.args.runner.now c.step.new.self c.args.line.now c.requires.shows
      c.requires.fits c.step.ensures.netlist (next c) c.requires.stepped;
}

pub returns-clause-stepped : goal.returns-clause-stepped
returns-clause-stepped c =
    let s = (goal.at.returns-clause-stepped c).After-step in
    stepped (levels_in c.args.checked.now) (tree_in c.args.checked.now) c.args.runner.now c.step.new.self c.args.line.now c.requires.shows
    c.requires.fits c.step.ensures.netlist (next s) c.requires.stepped
