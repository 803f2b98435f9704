use Rattle.std.proofs.Common.{sym, ap, ◌∙◌, arith}
use Rattle.sap_meaning.specs.Program as program
use Rattle.sap_tags_terms.specs.Code.{world_in}
use Rattle.sap_tags_variables.proofs.OfEntities.{of_memory, picked, passed}
use Rattle.sap_tags_variables.proofs.memories.add_memories.Goals as goal
use Rattle.sap_tags_variables.proofs.memories.add_memories.Goals.{then-is_memory+in_ok-add_memory, else-is_memory}

pub loop-m-preserved : goal.loop-m-preserved
loop-m-preserved c =
    let s = c.args.setting.now in
    elim c.if-is_memory.branch [
      | then-is_memory+in_ok-add_memory w ↦
          ap (λ v. v.items) w.memories-is
          ∙ picked s (program.is_memory (world_in s)) (of_memory s) c.loop-m.m c.args.memories.now.items c.loop-m.memories.items
          _ (omega arith) (sym w.if-is_memory.ensures) c.loop-m.invariant (w.in_ok-add_memory.ensures)
      | else-is_memory w ↦
          ap (λ v. v.items) w.memories-is
          ∙ passed s (program.is_memory (world_in s)) (of_memory s) c.loop-m.m c.args.memories.now.items c.loop-m.memories.items
          (omega arith) (sym w.if-is_memory.ensures) c.loop-m.invariant
    ]
