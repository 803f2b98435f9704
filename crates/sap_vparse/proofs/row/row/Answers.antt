use Rattle.std.proofs.Common.{◌+◌, ◌∙◌, drop, rules, arith}
use Rattle.sap_vparse.specs.Rows.{reads_row, symbols_of}
use Rattle.sap_vparse.proofs.Faults.{fault_goes_on}
use Rattle.sap_vparse.proofs.Rows.{fixed_at, fixed_done, row_at}
use Rattle.sap_walk.proofs.Walking.{bind_ok}
use Rattle.sap_vparse.proofs.row.row.Goals as goal

pub returns-in_err-take-clause-goes : goal.returns-in_err-take-clause-goes
returns-in_err-take-clause-goes c =
    fault_goes_on (symbols_of c.args.row.now) _ c.args.tokens.now c.row.tokens c.take.new.tokens
    (reads_row (symbols_of (drop (c.row.token-index + 1) c.args.row.now))) c.in_err-take.field-0.0 c.from_residual.result
    (search rules) (c.row.invariant.goes ∙ row_at c.args.row.now c.row.token-index _ c.row.tokens c.row-test.true) c.in_err-take.ensures.goes

pub row-preserved : goal.row-preserved
row-preserved c = record {
  goes = c.row.invariant.goes ∙ row_at c.args.row.now c.row.token-index _ c.row.tokens c.row-test.true ∙ bind_ok _ _ _ c.in_ok-take.ensures.goes;
  tree = λ r rest. c.row.invariant.tree r (fixed_at c.args.row.now c.row.token-index _ c.row.tokens c.take.new.tokens r c.row-test.true c.in_ok-take.ensures.tree rest);
  shorter = omega (arith, c.row.invariant.shorter, c.in_ok-take.ensures.shorter);
}

pub returns-clause-tree : goal.returns-clause-tree
returns-clause-tree c = c.row.invariant.tree c.row.tokens (fixed_done c.args.row.now c.row.token-index c.row.tokens c.row-test.false)
