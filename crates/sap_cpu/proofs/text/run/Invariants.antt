use Rattle.sap_cpu.specs.Views.{IsAfter, word_at}
use Rattle.sap_cpu.proofs.text.run.Given as goal

abbrev pub invariant-loop : goal.invariant-loop
invariant-loop l = IsAfter (word_at l.a) (word_at l.b) l.counter l.cpu
