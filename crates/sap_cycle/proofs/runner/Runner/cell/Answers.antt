use Rattle.sap_lemmas.proofs.Common.{◌≡◌, ◌+◌, ◌<◌, Some, None, length, get_or, sym, ap, ◌∙◌, subst, arith, rules}
use Rattle.sap_cycle.specs.Running.{Running, GivesCell, value_names, cells_of, seen}
use Rattle.sap_cycle.specs.Means.{cell_count}
use Rattle.sap_cycle.proofs.Found.{looked_up}
use Rattle.sap_cycle.proofs.Kept.{found_memory, is_within, depth_there, base_there, ports_long, kept_within, kept_is, cell_seen_there, cell_not_seen, cell_nowhere}
use Rattle.sap_cycle.proofs.runner.Runner.cell.Goals as goal

pub offset_bounds-memories-k : goal.offset_bounds-memories-k
offset_bounds-memories-k c =
    let k = is_within (found_memory c.self.inside.netlist c.self.invariant.memories_found c.as_bytes.ensures.value c.at_name.ensures c.in-Some.is) in
    let e = ap length c.memories.ensures in
    omega arith

pub bounds-memories-k : goal.bounds-memories-k
bounds-memories-k c = rw c.memories.ensures (is_within (found_memory c.self.inside.netlist c.self.invariant.memories_found c.as_bytes.ensures.value c.at_name.ensures c.in-Some.is))

pub bounds-memories-k-in-Some : goal.bounds-memories-k-in-Some
bounds-memories-k-in-Some c = rw c.memories.ensures
    (is_within (found_memory c.self.inside.netlist c.self.invariant.memories_found c.as_bytes.ensures.value c.at_name.ensures c.in-Some.is))

pub index-requires : goal.index-requires
index-requires c =
    let i = c.self.invariant in
    let n = c.self.inside.netlist in
    let a = found_memory n i.memories_found c.as_bytes.ensures.value c.at_name.ensures c.in-Some.is in
    let k = is_within a in
    let l = ports_long (value_names n) c.self.inside.program.ports.items n.memories 0 i.program.ports in
    search rules

pub overflow_add-index : goal.overflow_add-index
overflow_add-index c =
    let i = c.self.invariant in
    let n = c.self.inside.netlist in
    let a = found_memory n i.memories_found c.as_bytes.ensures.value c.at_name.ensures c.in-Some.is in
    let deep = depth_there a c.index-memories-k.result c.memories.ensures in
    let base = base_there a (value_names n) c.self.inside.program.ports.items c.index.result.now i.program.ports c.index.ensures in
    let lt : c.args.index < a.memory.depth = omega (arith, deep, c.if-index-memories.true) in
    let w : cell_count a.before + c.args.index < length c.self.inside.cells.items =
    rw i.shown.2.cells (kept_within (seen n i.shown.0).cell n.memories c.in-Some.k _ a c.args.index lt) in
    search rules

pub index-requires-then-index-memories : goal.index-requires-then-index-memories
index-requires-then-index-memories c =
    let i = c.self.invariant in
    let n = c.self.inside.netlist in
    let a = found_memory n i.memories_found c.as_bytes.ensures.value c.at_name.ensures c.in-Some.is in
    let deep = depth_there a c.index-memories-k.result c.memories.ensures in
    let base = base_there a (value_names n) c.self.inside.program.ports.items c.index.result.now i.program.ports c.index.ensures in
    let lt : c.args.index < a.memory.depth = omega (arith, deep, c.if-index-memories.true) in
    let w : cell_count a.before + c.args.index < length c.self.inside.cells.items =
    rw i.shown.2.cells (kept_within (seen n i.shown.0).cell n.memories c.in-Some.k _ a c.args.index lt) in
    search rules

pub returns-in-None : goal.returns-in-None
returns-in-None c =
    let i = c.self.invariant in
    let n = c.self.inside.netlist in
    let f = looked_up c.self.inside.memories c.as_bytes.ensures.value c.at_name.ensures c.in-None.is in
    subst (λ (r : Running). GivesCell r c.args.name.now c.args.index None) c.self.view_is
    (λ cycle shows. sym (cell_nowhere n c.self.inside.memories i.memories_found c.args.name.now f cycle c.args.index))

pub returns-then-index-memories : goal.returns-then-index-memories
returns-then-index-memories c =
    let i = c.self.invariant in
    let n = c.self.inside.netlist in
    let x = c.args.name.now in
    let a = found_memory n i.memories_found c.as_bytes.ensures.value c.at_name.ensures c.in-Some.is in
    let deep = depth_there a c.index-memories-k.result c.memories.ensures in
    let base = base_there a (value_names n) c.self.inside.program.ports.items c.index.result.now i.program.ports c.index.ensures in
    let lt : c.args.index < a.memory.depth = omega (arith, deep, c.if-index-memories.true) in
    subst (λ (r : Running). GivesCell r x c.args.index (Some c.index-then-index-memories.result.now)) c.self.view_is
    (λ cycle shows.
    let e : c.index-then-index-memories.result.now ≡ (seen n cycle).cell x c.args.index =
    c.index-then-index-memories.ensures
    ∙ ap (λ l. get_or l (c.index.result.now.base + c.args.index) c.index-then-index-memories.result.now) shows.cells
    ∙ ap (λ j. get_or (cells_of (seen n cycle).cell n.memories) (j + c.args.index) c.index-then-index-memories.result.now) base
    ∙ kept_is (seen n cycle).cell n.memories c.in-Some.k x a c.args.index c.index-then-index-memories.result.now lt in
    ap Some e ∙ sym (cell_seen_there n i.rules c.in-Some.k x a cycle c.args.index lt))

pub returns-else-index-memories : goal.returns-else-index-memories
returns-else-index-memories c =
    let i = c.self.invariant in
    let n = c.self.inside.netlist in
    let x = c.args.name.now in
    let a = found_memory n i.memories_found c.as_bytes.ensures.value c.at_name.ensures c.in-Some.is in
    let deep = depth_there a c.index-memories-k.result c.memories.ensures in
    subst (λ (r : Running). GivesCell r x c.args.index None) c.self.view_is
    (λ cycle shows. sym (cell_not_seen n i.rules c.in-Some.k x a cycle c.args.index (omega (arith, deep, c.if-index-memories.false))))
