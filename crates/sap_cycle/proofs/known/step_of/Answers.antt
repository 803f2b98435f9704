use Rattle.sap_lemmas.proofs.Common.{arith, common_steps}
use Rattle.sap_cycle.proofs.known.step_of.Goals as goal

pub returns-in-Copy : goal.returns-in-Copy
returns-in-Copy c = record { step = grind (arith, common_steps); parts = grind (arith, common_steps) }

pub returns-in-One : goal.returns-in-One
returns-in-One c = record { step = grind (arith, common_steps); parts = grind (arith, common_steps) }

pub returns-in-Two : goal.returns-in-Two
returns-in-Two c = record { step = grind (arith, common_steps); parts = grind (arith, common_steps) }

pub returns-in-Choose : goal.returns-in-Choose
returns-in-Choose c = record { step = grind (arith, common_steps); parts = grind (arith, common_steps) }

pub returns-in-Slice : goal.returns-in-Slice
returns-in-Slice c = record { step = grind (arith, common_steps); parts = grind (arith, common_steps) }

pub returns-in-Cell : goal.returns-in-Cell
returns-in-Cell c = record { step = grind (arith, common_steps); parts = grind (arith, common_steps) }
