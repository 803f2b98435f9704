use Rattle.std.proofs.Common.{◌∙◌, List, flat_map, refl, arith}
use Rattle.sap_vtext.specs.Names.{Known}
use Rattle.sap_vtext.specs.Faults.{operand_uses}
use Rattle.sap_vparse.specs.declared.items.Operand.{Operand}
use Rattle.sap_vparse.specs.Views.{operand_of, operands_of}
use Rattle.sap_vjudge.specs.Listed.{uses_faults}
use Rattle.sap_vjudge.specs.Tables.{known_of}
use Rattle.sap_vjudge.proofs.Lists.{operands_used-none, operands_used-cons}
use Rattle.sap_vjudge.proofs.Loops.{loop_step, loop_end}
use Rattle.sap_vjudge.proofs.usage.note_operands.Goals as goal

pub loop-operand-preserved : goal.loop-operand-preserved
loop-operand-preserved c =
    loop_step (λ (k : Known) (xs : List Operand). uses_faults k (flat_map operand_uses (operands_of xs))) (λ k x. uses_faults k (operand_uses (operand_of x))) (λ k x. k)
    operands_used-none operands_used-cons c.args.operands.now c.loop-operand.operand-index _ (known_of c.args.table.now)
    (known_of c.args.table.now) _ _ (omega arith) c.operand-item.is c.note_operand.ensures refl
    ∙ c.loop-operand.invariant

pub returns : goal.returns
returns c =
    loop_end (λ (k : Known) (xs : List Operand). uses_faults k (flat_map operand_uses (operands_of xs))) (λ k x. uses_faults k (operand_uses (operand_of x))) (λ k x. k)
    operands_used-none operands_used-cons c.args.operands.now c.loop-operand.operand-index (known_of c.args.table.now) _ _ (omega arith) c.loop-operand.invariant
