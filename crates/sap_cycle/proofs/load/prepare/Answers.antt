use Rattle.std.proofs.Common.{◌≡◌, List, map, None, length, ap, ◌∙◌, subst}
use Rattle.sap_net.specs.IsNetlist.{width_of}
use Rattle.sap_net.specs.declared.parts.Memory.{Memory}
use Rattle.sap_cycle.specs.Known.{Knows, AreStored}
use Rattle.sap_cycle.specs.Loaded.{bases_of}
use Rattle.sap_cycle.specs.Places.{Finds}
use Rattle.sap_cycle.specs.Running.{value_names}
use Rattle.sap_cycle.proofs.First.{filled_count, first_shown}
use Rattle.sap_cycle.proofs.load.prepare.Goals as goal

pub first_known-requires-clause-stored : goal.first_known-requires-clause-stored
first_known-requires-clause-stored c =
    let stored : AreStored c.memories.result.now c.in_ok-stores.stores.numbers c.in_ok-stores.stores.bases.items c.in_ok-stores.stores.cells.items =
    c.in_ok-stores.ensures {u = tt} in
    subst (λ (l : List Memory). Finds c.in_ok-stores.stores.numbers (map (λ (m : Memory). m.name) l)) c.memories.ensures stored.found

pub first_known-requires-clause-bases : goal.first_known-requires-clause-bases
first_known-requires-clause-bases c =
    let stored : AreStored c.memories.result.now c.in_ok-stores.stores.numbers c.in_ok-stores.stores.bases.items c.in_ok-stores.stores.cells.items =
    c.in_ok-stores.ensures {u = tt} in
    stored.bases_are ∙ ap (bases_of 0) c.memories.ensures

pub returns-clause-runner : goal.returns-clause-runner
returns-clause-runner c =
    let n = c.args.netlist.now in
    let stored : AreStored c.memories.result.now c.in_ok-stores.stores.numbers c.in_ok-stores.stores.bases.items c.in_ok-stores.stores.cells.items =
    c.in_ok-stores.ensures {u = tt} in
    let knows : Knows (width_of n) n.memories (value_names n) c.make_program.new.known = c.in_ok-program.ensures.knows in
    let edge : length c.fill.new.numbers.items ≡ length n.registers =
    filled_count c.fill.new.numbers.items c.new-edge.result.items (length c.registers.result.now) 0 c.new-edge.ensures.items (c.in_ok-fill.ensures {u = tt})
    ∙ ap length c.registers.ensures in
    record {
      rules = c.rules.ensures;
      program = c.in_ok-program.ensures.program;
      edge_long = edge;
      values_found = knows.places;
      memories_found = knows.memories;
      shown = (
        None,
        tt,
        first_shown n c.rules.ensures c.in_ok-values.values.items c.in_ok-stores.stores.cells.items c.memories.result.now
            c.memories.ensures (c.in_ok-values.ensures {u = tt}) stored.cells_are,
      );
    }

pub returns-clause-shows : goal.returns-clause-shows
returns-clause-shows c =
    let n = c.args.netlist.now in
    let stored : AreStored c.memories.result.now c.in_ok-stores.stores.numbers c.in_ok-stores.stores.bases.items c.in_ok-stores.stores.cells.items =
    c.in_ok-stores.ensures {u = tt} in
    first_shown n c.rules.ensures c.in_ok-values.values.items c.in_ok-stores.stores.cells.items c.memories.result.now c.memories.ensures
    (c.in_ok-values.ensures {u = tt}) stored.cells_are
