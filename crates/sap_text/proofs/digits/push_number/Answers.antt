use Rattle.sap_lemmas.proofs.Common.{◌<◌, ◌+◌, Result, Ok, Err, length, arith, OnErr, decimal, vec_capacity}
use Rattle.sap_lemmas.proofs.Texts.{one_digit, one_digit_long}
use Rattle.sap_text.proofs.digits.push_number.Goals as goal

pub returns-then-n-lt10-clause-text : goal.returns-then-n-lt10-clause-text
returns-then-n-lt10-clause-text c = one_digit _ c.args.out.now.items c.args.n _ (omega arith) c.in_ok-push.ensures.items (omega arith)

pub returns-in_err-push-clause-full : goal.returns-in_err-push-clause-full
returns-in_err-push-clause-full c = by_result c.from_residual.result where
  by_result : {T E : Type 0} (r : Result T E) → OnErr r (vec_capacity c.args.out.now < length c.args.out.now.items + length (decimal c.args.n))
  by_result (Ok v) = tt
  by_result (Err e) = omega (arith, one_digit_long c.args.n (omega arith), c.in_err-push.ensures.full)
