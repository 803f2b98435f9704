use Rattle.sap_lemmas.proofs.Common.{◌≡◌, ℕ, List, map, sym, ap, ◌∙◌, subst, All}
use Rattle.sap_net.specs.declared.parts.Input.{Input}
use Rattle.sap_stim.specs.declared.field.Field.{Field}
use Rattle.sap_stim.specs.Line.{IsSized}
use Rattle.sap_sim.specs.Prelude.{with_field, field_of, fields_of, source_of}
use Rattle.sap_sim.proofs.Fits.{fields_sized}
use Rattle.sap_sim.proofs.feed.feed_of.Goals as goal
use Rattle.sap_sim.proofs.feed.feed_of.Goals.{In_ok-line}

fields_are : (c : In_ok-line) → c.in_ok-line.line.fields ≡ fields_of c.args.lattice.now c.args.netlist.now
fields_are c =
    c.in_ok-line.ensures.fields
    ∙ ap (λ (is : List Input). map (field_of c.width-tag.result is) (with_field c.width-tag.result is)) c.inputs-inputs.ensures
    ∙ ap (λ (tag : ℕ). map (field_of tag c.args.netlist.now.inputs) (with_field tag c.args.netlist.now.inputs)) c.width-tag.ensures

pub returns-clause-fields : goal.returns-clause-fields
returns-clause-fields c = let d = (goal.at.returns-clause-fields c).In_ok-line in fields_are d

pub returns-clause-sized : goal.returns-clause-sized
returns-clause-sized c =
    let d = (goal.at.returns-clause-sized c).In_ok-line in
    let n = c.args.netlist.now in
    subst (λ (fs : List Field). All IsSized fs) (sym (fields_are d))
    (subst (λ (tag : ℕ). All IsSized (map (field_of tag n.inputs) (with_field tag n.inputs))) c.width-tag.ensures (fields_sized c.width-tag.result n c.rules.ensures))

pub returns-clause-sources : goal.returns-clause-sources
returns-clause-sources c =
    c.in_ok-sources.ensures
    ∙ ap (λ (is : List Input). map (source_of c.width-tag.result is) is) c.inputs-inputs.ensures
    ∙ ap (λ (tag : ℕ). map (source_of tag c.args.netlist.now.inputs) c.args.netlist.now.inputs) c.width-tag.ensures
