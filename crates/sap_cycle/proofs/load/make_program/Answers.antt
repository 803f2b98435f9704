use Rattle.sap_lemmas.proofs.Common.{◌≡◌, ℕ, List, length, map, sym, ap, ◌∙◌, subst, arith, rules, AllByRecursion}
use Rattle.sap_net.specs.IsNetlist.{width_of}
use Rattle.sap_net.specs.declared.parts.Register.{Register}
use Rattle.sap_cycle.specs.declared.steps.Slot.{Slot}
use Rattle.sap_cycle.specs.declared.steps.Step.{Step}
use Rattle.sap_cycle.specs.declared.steps.WritePort.{WritePort}
use Rattle.sap_cycle.specs.Instructions.{step_of_instruction, placed_step}
use Rattle.sap_cycle.specs.Known.{Knows, IsKnownOperand, IsKnownPort, slot_found, ports_found}
use Rattle.sap_cycle.specs.Loaded.{bases_of}
use Rattle.sap_cycle.specs.Means.{NextsMean, PortsMean}
use Rattle.sap_cycle.specs.Order.{IsOrder}
use Rattle.sap_cycle.specs.Runs.{steps_of_runs}
use Rattle.sap_cycle.specs.Running.{first_names, value_names}
use Rattle.sap_cycle.proofs.Compiling.{nexts_known, ports_known, nexts_mean, ports_mean}
use Rattle.sap_cycle.proofs.Row.{row_room, row_there, order_behind}
use Rattle.sap_cycle.proofs.load.make_program.Goals as goal

pub next_slots-requires : goal.next_slots-requires
next_slots-requires c =
    let n = c.args.netlist.now in
    let k = c.compile.new.known in
    subst (AllByRecursion (λ (r : Register). IsKnownOperand k r.next)) (sym c.registers.ensures) (nexts_known n c.rules.ensures k c.in_ok-compiled.ensures.knows)

pub write_ports-requires-clause-operands : goal.write_ports-requires-clause-operands
write_ports-requires-clause-operands c =
    let n = c.args.netlist.now in
    let k = c.compile.new.known in
    subst (AllByRecursion (IsKnownPort k)) (sym c.memories.ensures) (ports_known n c.rules.ensures k c.in_ok-compiled.ensures.knows)

pub write_ports-requires-clause-bases : goal.write_ports-requires-clause-bases
write_ports-requires-clause-bases c =
    let n = c.args.netlist.now in
    let k : Knows (width_of n) n.memories (value_names n) c.compile.new.known = c.in_ok-compiled.ensures.knows in
    k.bases ∙ ap (bases_of 0) (sym c.memories.ensures)

pub in_order-requires-clause-room : goal.in_order-requires-clause-room
in_order-requires-clause-room c =
    let n = c.args.netlist.now in
    let i = c.in_ok-compiled.compiled in
    let base : c.len-base.result ≡ length c.args.known.now.widths.items = search rules in
    let places : c.len-places.result ≡ length c.compile.new.known.widths.items = search rules in
    let room = row_room n i.parts.items i.others.items i.steps.items c.args.known.now c.compile.new.known c.requires.knows
    c.in_ok-compiled.ensures.knows c.in_ok-compiled.ensures.mean in
    omega (arith, base, places, room, ap length c.deref-3.ensures.value)

pub in_order-requires-clause-own : goal.in_order-requires-clause-own
in_order-requires-clause-own c =
    let i = c.in_ok-compiled.compiled in
    let base : c.len-base.result ≡ length c.args.known.now.widths.items = search rules in
    rw (c.deref.ensures.value, c.deref-2.ensures.value, c.deref-3.ensures.value, base)
    (row_there c.args.netlist.now i.parts.items i.others.items i.steps.items c.args.known.now c.requires.knows c.in_ok-compiled.ensures.mean)

pub returns-clause-program : goal.returns-clause-program
returns-clause-program c =
    let n = c.args.netlist.now in
    let k = c.compile.new.known in
    let knows : Knows (width_of n) n.memories (value_names n) k = c.in_ok-compiled.ensures.knows in
    let en : c.in_ok-nexts.nexts.items ≡ map (λ (r : Register). slot_found k r.next) n.registers =
    c.in_ok-nexts.ensures {u = tt} ∙ ap (map (λ (r : Register). slot_found k r.next)) c.registers.ensures in
    let ep : c.in_ok-ports.ports.items ≡ ports_found k 0 n.memories = c.in_ok-ports.ensures {u = tt} ∙ ap (ports_found k 0) c.memories.ensures in
    let i = c.in_ok-compiled.compiled in
    let own = map (step_of_instruction i.others.items) i.steps.items in
    let steps = c.in_ok-steps.steps.items in
    let base : c.len-base.result ≡ length c.args.known.now.widths.items = search rules in
    let made : IsOrder c.len-base.result c.deref.result.now (map (step_of_instruction c.deref-2.result.now) c.deref-3.result.now)
    (map (placed_step c.deref-2.result.now) steps) = c.in_ok-steps.ensures {u = tt} in
    let order : IsOrder c.len-base.result i.parts.items own (map (placed_step i.others.items) steps) =
    rw (c.deref.ensures.value, c.deref-2.ensures.value, c.deref-3.ensures.value) at made in
    let runs : steps_of_runs i.others.items c.in_ok-runs.runs.items ≡ map (placed_step i.others.items) steps =
    c.in_ok-runs.ensures {u = tt} i.others.items ∙ ap (map (placed_step i.others.items)) c.deref-4.ensures.value in
    record {
      steps = (
        own,
        c.in_ok-compiled.ensures.mean,
        subst (λ (ps : List (ℕ × Step)). IsOrder (length (first_names n)) i.parts.items own ps) (sym runs)
            (order_behind n i.parts.items own (map (placed_step i.others.items) steps) c.args.known.now c.len-base.result c.requires.knows base order),
      );
      nexts =
          subst (λ (l : List Slot). NextsMean (value_names n) l n.registers) (sym en)
          (nexts_mean (width_of n) n.memories (value_names n) k knows n.registers (nexts_known n c.rules.ensures k knows));
      ports =
          subst (λ (l : List WritePort). PortsMean (value_names n) 0 l n.memories) (sym ep)
          (ports_mean (width_of n) n.memories (value_names n) k knows n.memories 0 (ports_known n c.rules.ensures k knows));
    }
