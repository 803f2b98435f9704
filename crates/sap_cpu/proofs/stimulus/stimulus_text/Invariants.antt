use Rattle.sap_cpu.proofs.Texts.{Written}
use Rattle.sap_cpu.proofs.stimulus.stimulus_text.Given as goal

abbrev pub invariant-loop-i : goal.invariant-loop-i
invariant-loop-i l = Written l.a l.b l.i l.out.items
