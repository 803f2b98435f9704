use Rattle.sap_lemmas.proofs.Common.{◌<◌, ◌∙◌, arith, length, position_or_len}
use Rattle.sap_stim.proofs.Pieces.{is_mark, marked_found}
use Rattle.sap_stim.proofs.line.line_ahead.Goals as goal

pub returns-in-Some-clause-none : goal.returns-in-Some-clause-none
returns-in-Some-clause-none c =
    let s = c.args.text.now in
    let marked : position_or_len (is_mark 10) s < length s = omega (arith, c.in-Some.ensures.end, c.in-Some.ensures.within) in
    let found = marked_found 10 s marked in
    (λ none. absurd (let f : ⊥ = cc in f), λ none. absurd (let e = found ∙ none in let f : ⊥ = cc in f))
