use Rattle.std.proofs.Common.{sym, ap, ◌∙◌, arith}
use Rattle.sap_tagged.specs.States.{saved}
use Rattle.sap_tags_terms.specs.Code.{world_in}
use Rattle.sap_tags_variables.proofs.OfEntities.{of_saved, picked, passed}
use Rattle.sap_tags_variables.proofs.wires.add_first_wires.Goals as goal
use Rattle.sap_tags_variables.proofs.wires.add_first_wires.Goals.{then-is_saved+in_ok-add_first, else-is_saved}

pub loop-m-preserved : goal.loop-m-preserved
loop-m-preserved c =
    let s = c.args.setting.now in
    elim c.if-is_saved.branch [
      | then-is_saved+in_ok-add_first w ↦
          ap (λ v. v.items) w.wires-is
          ∙ picked s (saved (world_in s)) (of_saved s) c.loop-m.m c.args.wires.now.items c.loop-m.wires.items _ (omega arith)
          (sym w.if-is_saved.ensures) c.loop-m.invariant (w.in_ok-add_first.ensures)
      | else-is_saved w ↦
          ap (λ v. v.items) w.wires-is
          ∙ passed s (saved (world_in s)) (of_saved s) c.loop-m.m c.args.wires.now.items c.loop-m.wires.items (omega arith) (sym w.if-is_saved.ensures) c.loop-m.invariant
    ]
