use Rattle.std.proofs.Common.{◌∙◌, ap, arith}
use Rattle.sap_maps.specs.Term.{read}
use Rattle.sap_ir.specs.Calcs.{term_of}
use Rattle.sap_flat.specs.Flat.{is_number}
use Rattle.sap_flat.proofs.Steps.{mark_step}
use Rattle.sap_flat.proofs.groups.mark.Goals as goal

pub loop-i-preserved : goal.loop-i-preserved
loop-i-preserved c =
    mark_step (term_of c.args.when.now) c.args.seat.now c.width-width.result c.args.states.now c.loop-i.i c.args.first c.loop-i.out.items
    c.push.new.self.items c.in_ok-when.when c.in_ok-value.value c.name-name.result _ (omega arith) c.in_ok-push.ensures.items
    c.in_ok-when.ensures c.name-name.ensures (c.in_ok-value.ensures ∙ ap (λ x. is_number (read x) c.width-width.result c.loop-i.i) c.in_ok-copy.ensures) c.loop-i.invariant
