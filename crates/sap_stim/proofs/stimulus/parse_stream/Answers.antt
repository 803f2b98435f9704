use Rattle.std.proofs.Common.{length, List, ap, sym, ◌∙◌}
use Rattle.sap_stim.specs.declared.field.Field.{Field}
use Rattle.sap_stim.specs.Stimulus.{stimulus_of}
use Rattle.sap_stim.proofs.Pieces.{non_empty}
use Rattle.sap_stim.proofs.Lines.{parse_more, parse_stops, few_more, short_more}
use Rattle.sap_stim.proofs.stimulus.parse_stream.Goals as goal

pub returns-in-Err : goal.returns-in-Err
returns-in-Err c = record {
  read =
      parse_stops c.args.lattice.now c.as_slice-fields.result.now c.loop-fields.spans.items c.loop-fields.rest.now c.cut.result.0.now
      c.in-Err.code c.refused.result (non_empty c.loop-fields.rest.now c.loop-fields-test.ensures) (sym c.in-Err.is
      ∙ c.in_ok-span.ensures) c.cut.ensures.before c.refused.ensures.stream c.refused.ensures.fault
      ∙ c.loop-fields.invariant.read
      ∙ ap (λ (fs : List Field). stimulus_of c.args.lattice.now fs c.args.bytes.now) c.as_slice-fields.ensures;
}

pub loop-fields-preserved : goal.loop-fields-preserved
loop-fields-preserved c = record {
  read =
      parse_more c.args.lattice.now c.as_slice-fields.result.now c.loop-fields.spans.items c.push.new.self.items c.loop-fields.rest.now
      c.cut.result.0.now c.cut.result.1.now c.in-Ok.span (non_empty c.loop-fields.rest.now c.loop-fields-test.ensures) (sym c.in-Ok.is
      ∙ c.in_ok-span.ensures) c.cut.ensures.before c.cut.ensures.behind c.in_ok-push-in-Ok.ensures.items
      ∙ c.loop-fields.invariant.read;
  few = few_more c.loop-fields.spans.items c.push.new.self.items c.in-Ok.span c.loop-fields.rest.now c.cut.result.1.now
      (length c.args.bytes.now) (non_empty c.loop-fields.rest.now c.loop-fields-test.ensures) c.loop-fields.invariant.few c.cut.ensures.behind c.in_ok-push-in-Ok.ensures.items;
  short = short_more c.args.lattice.now c.as_slice-fields.result.now _ c.cut.result.0.now c.loop-fields.spans.items c.push.new.self.items
      c.in-Ok.span (sym c.in-Ok.is ∙ c.in_ok-span.ensures) c.in_ok-push-in-Ok.ensures.items c.loop-fields.invariant.short;
}
