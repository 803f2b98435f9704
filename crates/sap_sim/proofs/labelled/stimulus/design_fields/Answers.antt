use Rattle.sap_lemmas.proofs.Common.{List, sym, ap, ◌∙◌, subst, arith, All, append-nil, take_all}
use Rattle.sap_stim.specs.declared.field.Field.{Field}
use Rattle.sap_stim.specs.Line.{IsSized}
use Rattle.sap_sim.proofs.labelled.DesignFields.{all_sized, fields_among, fields_more}
use Rattle.sap_sim.proofs.labelled.stimulus.design_fields.Goals as goal
use Rattle.sap_sim.proofs.labelled.stimulus.design_fields.Goals.{in-Some+in_ok-push, in_default}

pub loop-entity-preserved : goal.loop-entity-preserved
loop-entity-preserved c =
    let more = fields_more c.names-names.result.now c.loop-entity.entity c.field_of.result c.loop-entity.fields.items
    (omega (arith, c.loop-entity-test.true, c.count-entity-end.ensures)) c.field_of.ensures c.loop-entity.invariant in
    elim c.match-field_of.branch [
      | in-Some+in_ok-push w ↦ rw w.fields-is (w.in_ok-push.ensures.items ∙ (rw w.in-Some.is at more))
      | in_default w ↦ rw w.fields-is (sym (append-nil c.loop-entity.fields.items) ∙ (rw w.in_default.is at more))
    ]

pub returns-clause-sized : goal.returns-clause-sized
returns-clause-sized c =
    let es = c.names-names.result.now in
    subst (λ (fs : List Field). All IsSized fs)
    (sym (c.new.ensures ∙ c.loop-entity.invariant ∙ ap fields_among (take_all c.loop-entity.entity es (omega (arith, c.loop-entity-test.false, c.count-entity-end.ensures)))))
    (all_sized es c.have_widths.ensures)
