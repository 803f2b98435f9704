use Rattle.sap_lemmas.proofs.Common.{◌≡◌, take, map, filter, not}
use Rattle.sap_sim.specs.Fields.{is_tag, field_of}
use Rattle.sap_sim.proofs.fields.line_of.Given as goal

abbrev pub invariant-loop-input : goal.invariant-loop-input
invariant-loop-input l = record {
  fields_are : l.fields.items ≡ map (field_of l.tag l.inputs) (filter (λ i. not (is_tag l.tag l.inputs i)) (take l.input-index l.inputs));
  names_are : l.names.items ≡ map (λ i. i.name) (filter (λ i. not (is_tag l.tag l.inputs i)) (take l.input-index l.inputs));
}
