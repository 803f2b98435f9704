use Rattle.std.proofs.Common.{arith}
use Rattle.std.proofs.lemmas.List.{drop_all}
use Rattle.sap_stream.proofs.Spans.{length_from}
use Rattle.sap_stream.proofs.span.Stream.cycles.Goals as goal

pub overflow_add-cycles : goal.overflow_add-cycles
overflow_add-cycles c =
    let few = rw (← c.deref-span-items.ensures.value) at c.self.invariant in
    omega (arith, length_from c.deref-span-items.result.now c.loop-span.span-index c.span-item.result c.loop-span-test.true c.span-item.is)

pub loop-span-preserved : goal.loop-span-preserved
loop-span-preserved c = omega (arith, length_from c.deref-span-items.result.now c.loop-span.span-index c.span-item.result c.loop-span-test.true c.span-item.is)

pub returns-clause-number : goal.returns-clause-number
returns-clause-number c =
    rw (← c.self.view_is, ← c.deref-span-items.ensures.value)
    (let none = drop_all c.loop-span.span-index c.deref-span-items.result.now c.loop-span-test.false in
    let nothing = rw none at c.loop-span.invariant in
    omega arith)
