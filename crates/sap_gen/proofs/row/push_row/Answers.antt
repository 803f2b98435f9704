use Rattle.std.proofs.Common.{◌<◌, ◌≤◌, ◌∙◌, ap, length, subst, sym, arith}
use Rattle.sap_check.specs.Checked.{levels_in, tree_in}
use Rattle.sap_lattice.specs.Prelude.{Codes, code_of, Levels, order_of}
use Rattle.sap_names.specs.Entities.{entities_of}
use Rattle.sap_sem.specs.Machine.{program_of, state_of}
use Rattle.sap_gen.proofs.Rows.{all_collected, collected, passed}
use Rattle.sap_gen.proofs.row.push_row.Goals.{then-is_register+in_ok-copy+in_ok-push+in_ok-push-2+in_ok-push-3, else-is_register}
use Rattle.sap_gen.proofs.row.push_row.Goals as goal

pub loop-entity-preserved : goal.loop-entity-preserved
loop-entity-preserved c =
    let ls = levels_in c.args.checked.now in
    let t = tree_in c.args.checked.now in
    let s = state_of c.args.machine.now in
    let low : c.loop-entity.entity < length (entities_of (tree_in c.args.checked.now)) = omega (arith, c.entity_count-entity-end.ensures) in
    let codes : Codes (order_of (levels_in c.args.checked.now)) = subst (λ (m : Levels). Codes (order_of m)) c.lattice-lattice.ensures c.lawful.ensures.codes in
    let two : 2 ≤ length (levels_in c.args.checked.now).names = subst (λ (m : Levels). 2 ≤ length m.names) c.lattice-lattice.ensures c.lawful.ensures.names.before.at_least_two in
    elim c.if-is_register.branch [
      | then-is_register+in_ok-copy+in_ok-push+in_ok-push-2+in_ok-push-3 w ↦
          rw (w.names-is, w.values-is, w.tags-is, w.in_ok-push.ensures.items, w.in_ok-push-2.ensures.items, w.in_ok-push-3.ensures.items, w.in_ok-copy.ensures)
          (collected ls t s (program_of c.args.machine.now) c.requires.program c.loop-entity.entity _ _ _ c.loop-entity.invariant low
          codes (omega arith) (sym c.is_register.ensures ∙ w.if-is_register.true) _ _ _ _
          w.entity.ensures w.value-value.ensures.number w.value-value.ensures.level (w.code.ensures
          ∙ ap (λ (m : Levels). code_of (order_of m) w.value-value.result.1) c.lattice-lattice.ensures))
      | else-is_register w ↦
          rw (w.names-is, w.values-is, w.tags-is) (passed ls t s (program_of c.args.machine.now) c.requires.program c.loop-entity.entity
          _ _ _ c.loop-entity.invariant low (sym c.is_register.ensures ∙ w.if-is_register.false))
    ]

pub returns : goal.returns
returns c =
    let high : length (entities_of (tree_in c.args.checked.now)) ≤ c.loop-entity.entity = omega (arith, c.entity_count-entity-end.ensures) in
    let shown = rw (c.lattice-lattice.ensures, c.from.ensures, c.deref.ensures.value, c.deref-2.ensures.value, c.deref-3.ensures.value) at c.push_row.ensures.text in
    all_collected (levels_in c.args.checked.now) (tree_in c.args.checked.now) (state_of c.args.machine.now) c.push_row.result
    c.loop-entity.entity _ _ _ c.args.cycle c.args.out.now.items c.push_row.new.out.items high c.loop-entity.invariant shown
