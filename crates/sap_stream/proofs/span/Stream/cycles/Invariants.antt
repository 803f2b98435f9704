use Rattle.std.proofs.Common.{◌≡◌, ◌+◌, length, drop}
use Rattle.sap_stream.specs.Spans.{cycles_of}
use Rattle.sap_stream.proofs.span.Stream.cycles.Given as goal

abbrev pub invariant-loop-span : goal.invariant-loop-span
invariant-loop-span l = l.cycles + length (cycles_of (drop l.span-index l.span-items)) ≡ length (cycles_of l.span-items)
