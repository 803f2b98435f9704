use Rattle.sap_lemmas.proofs.Common.{◌≡◌, ◌++◌, take, flat_map}
use Rattle.sap_vprint.specs.Printed.{initial_cells_of}
use Rattle.sap_vprint.specs.Text.{item_text}
use Rattle.sap_vprint.proofs.lines.initial_cells.Given as goal

abbrev pub invariant-loop-memory : goal.invariant-loop-memory
invariant-loop-memory l = l.out.items ≡ l.initial.out.items ++ flat_map (λ m. item_text (initial_cells_of m)) (take l.memory-index l.memories)
