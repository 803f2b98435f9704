use Rattle.std.proofs.Common.{◌∙◌, ℕ, List, flat_map, refl, arith}
use Rattle.sap_vtext.specs.Faults.{operand_constants}
use Rattle.sap_vparse.specs.declared.items.Operand.{Operand}
use Rattle.sap_vparse.specs.Views.{operand_of, operands_of}
use Rattle.sap_vjudge.specs.Listed.{constants_faults}
use Rattle.sap_vjudge.proofs.Lists.{operands_constant-none, operands_constant-cons}
use Rattle.sap_vjudge.proofs.Loops.{loop_step, loop_end}
use Rattle.sap_vjudge.proofs.constants.note_operands.Goals as goal

pub loop-operand-preserved : goal.loop-operand-preserved
loop-operand-preserved c =
    loop_step (λ (k : ℕ) (xs : List Operand). constants_faults (flat_map operand_constants (operands_of xs)))
    (λ k x. constants_faults (operand_constants (operand_of x))) (λ k x. k)
    (λ k. operands_constant-none) (λ k x xs. operands_constant-cons x xs) c.args.operands.now c.loop-operand.operand-index _ 0 0
    _ _ (omega arith) c.operand-item.is c.note_operand.ensures refl
    ∙ c.loop-operand.invariant

pub returns : goal.returns
returns c =
    loop_end (λ (k : ℕ) (xs : List Operand). constants_faults (flat_map operand_constants (operands_of xs))) (λ k x. constants_faults (operand_constants (operand_of x))) (λ k x. k)
    (λ k. operands_constant-none) (λ k x xs. operands_constant-cons x xs) c.args.operands.now c.loop-operand.operand-index 0 _ _ (omega arith) c.loop-operand.invariant
