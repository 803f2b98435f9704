use Rattle.std.proofs.Common.{◌<◌, ◌≤◌, ◌∙◌, ap, sym, arith}
use Rattle.sap_meaning.specs.Program.{root}
use Rattle.sap_store.specs.Code.{world_in, store_in}
use Rattle.sap_store.proofs.Puts.{raise_store, raise_ready, raise_past}
use Rattle.sap_store.proofs.entries.raise_one.Goals as goal

pub returns-then-x-len-clause-store : goal.returns-then-x-len-clause-store
returns-then-x-len-clause-store c =
    let w = world_in c.args.environment.now in
    let l : c.args.x < root w = (let e = c.requires.shaped.entries in omega (arith, e)) in
    raise_store w c.args.store.now c.args.x c.index_mut-entry.result.now l c.index_mut-entry.ensures.value c.requires c.args.level
    c.join-entry.result c.set_whole.new.self c.join-entry.ensures c.set_whole.ensures.cells
    (c.set_whole.ensures.whole ∙ c.join-whole.ensures ∙ ap (λ t. w.order.join t c.args.level) c.whole.ensures)

pub returns-then-x-len-clause-ready : goal.returns-then-x-len-clause-ready
returns-then-x-len-clause-ready c =
    let w = world_in c.args.environment.now in
    let l : c.args.x < root w = (let e = c.requires.shaped.entries in omega (arith, e)) in
    raise_ready w c.args.store.now c.args.x c.index_mut-entry.result.now l c.index_mut-entry.ensures.value c.requires c.args.level
    c.join-entry.result c.set_whole.new.self c.join-entry.ensures c.set_whole.ensures.cells
    (c.set_whole.ensures.whole ∙ c.join-whole.ensures ∙ ap (λ t. w.order.join t c.args.level) c.whole.ensures)

pub returns-else-x-len-clause-store : goal.returns-else-x-len-clause-store
returns-else-x-len-clause-store c =
    let w = world_in c.args.environment.now in
    let l : root w ≤ c.args.x = (let e = c.requires.shaped.entries in omega (arith, e)) in
    sym (raise_past w c.args.x c.args.level (store_in c.args.environment.now c.args.store.now) l)
