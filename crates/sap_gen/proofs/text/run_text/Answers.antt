use Rattle.sap_lemmas.proofs.Common.{[], ◌∷◌, refl, sym, subst, IfOk-weaker}
use Rattle.sap_check.specs.Checked.{levels_in, tree_in}
use Rattle.sap_meaning.specs.Prelude.{Program, InputsFit}
use Rattle.sap_sem.specs.Machine.{program_of, state_of}
use Rattle.sap_gen.specs.Stream.{given}
use Rattle.sap_gen.proofs.Texts.{is_generated}
use Rattle.sap_gen.proofs.text.run_text.Goals as goal

pub run-requires-clause-fit : goal.run-requires-clause-fit
run-requires-clause-fit c = λ k.
    subst (λ (p : Program). InputsFit p.world (given c.args.n k ∷ [])) (sym c.in_ok-machine.ensures.program) (c.inputs_fit.ensures c.args.n k)

pub returns : goal.returns
returns c =
    let ls = levels_in c.args.checked.now in
    IfOk-weaker c.text_of.result _ _
    (λ text shown. is_generated c.args.n c.args.size.registers c.args.size.states c.requires.some c.requires.registers c.requires.states
    ls ls c.requires.lattice refl (tree_in c.args.checked.now) c.requires.design
    (program_of c.in_ok-machine.machine) c.in_ok-machine.ensures.program (state_of c.in_ok-machine.machine) (state_of c.run.new.machine) c.in_ok-machine.ensures.state
    c.in_ok-refusals.refusals c.in_ok-refusals.ensures.refusals c.in_ok-refusals.ensures.state text.items shown)
    c.text_of.ensures
