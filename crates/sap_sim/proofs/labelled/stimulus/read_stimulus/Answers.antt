use Rattle.sap_lemmas.proofs.Common.{◌≡◌, List, ap, ◌∙◌, IfOk-weaker}
use Rattle.sap_lattice.specs.Levels.{Levels}
use Rattle.sap_check.specs.Checked.{levels_in, tree_in}
use Rattle.sap_stim.specs.declared.field.Field.{Field}
use Rattle.sap_stim.specs.declared.stimulus.Parsed.{Parsed}
use Rattle.sap_stim.specs.Stimulus.{stimulus_of}
use Rattle.sap_sim.specs.Labelled.RunOf.{read_for}
use Rattle.sap_sim.proofs.labelled.stimulus.read_stimulus.Goals as goal

pub returns : goal.returns
returns c =
    let ls = levels_in c.args.checked.now in
    let bytes = c.args.stimulus.now in
    IfOk-weaker c.parse_stream.result (λ (p : Parsed). p ≡ stimulus_of c.lattice.result.now c.in_ok-fields.fields bytes)
    (λ (p : Parsed). p ≡ read_for ls (tree_in c.args.checked.now) bytes)
    (λ p e. e ∙ ap (λ (l : Levels). stimulus_of l c.in_ok-fields.fields bytes) c.lattice.ensures ∙ ap (λ (fs : List Field). stimulus_of ls fs bytes) c.in_ok-fields.ensures.fields)
    c.parse_stream.ensures.read
