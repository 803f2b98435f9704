use Rattle.std.proofs.Common.{sym, ap, ◌∙◌, arith}
use Rattle.sap_vlex.specs.Lexemes.{sign_at, sign_or, single_at}
use Rattle.sap_vlex.proofs.Signs.{no_pair}
use Rattle.sap_vlex.proofs.lexeme.sign.Goals as goal

pub returns-then-bytes-lt2-clause-value : goal.returns-then-bytes-lt2-clause-value
unfolding sign_at
returns-then-bytes-lt2-clause-value c =
    c.single.ensures.value ∙ sym (ap (λ o. sign_or o 2 (single_at c.args.bytes.now)) (no_pair c.args.bytes.now (let short = c.if-bytes-lt2.true in omega arith)))
