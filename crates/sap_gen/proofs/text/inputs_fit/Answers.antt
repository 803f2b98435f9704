use Rattle.std.proofs.Common.{[], ◌∷◌, sym, subst}
use Rattle.sap_check.specs.Checked.{levels_in}
use Rattle.sap_tree.specs.Syntax.{DesignTree}
use Rattle.sap_meaning.specs.State.{InputsFit}
use Rattle.sap_resolved.specs.Fill.{program_of}
use Rattle.sap_gen.specs.Stream.{given}
use Rattle.sap_gen.proofs.Given.{inputs_fit}
use Rattle.sap_gen.proofs.text.inputs_fit.Goals as goal

pub returns : goal.returns
returns c = λ n k.
    subst (λ (d : DesignTree). InputsFit (program_of (levels_in c.args.checked.now) d).world (given n k ∷ [])) (sym c.requires.design)
    (inputs_fit (levels_in c.args.checked.now) c.requires.names c.args.size.registers c.args.size.states n k)
