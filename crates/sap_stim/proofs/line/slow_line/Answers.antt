use Rattle.sap_lemmas.proofs.Common.{sym, ap, ◌∙◌, true}
use Rattle.sap_stim.specs.Line.{line_of}
use Rattle.sap_stim.proofs.Pieces.{cut_before, found_first}
use Rattle.sap_stim.proofs.line.slow_line.Goals as goal

pub returns-in_err-end-clause-none : goal.returns-in_err-end-clause-none
returns-in_err-end-clause-none c = (λ _. sym c.in_err-end.ensures, λ _. c.from_residual.ensures)

pub returns-clause-none : goal.returns-clause-none
returns-clause-none c = (λ none. absurd (let f : ⊥ = cc in f), λ none. absurd (let e = c.in_ok-end.ensures in let f : ⊥ = cc in f))

pub returns-clause-end : goal.returns-clause-end
returns-clause-end c = (found_first 10 c.args.text.now c.in_ok-end.end c.in_ok-end.ensures).0

pub returns-clause-within : goal.returns-clause-within
returns-clause-within c = (found_first 10 c.args.text.now c.in_ok-end.end c.in_ok-end.ensures).1

pub returns-clause-given : goal.returns-clause-given
returns-clause-given c =
    c.read_line_into-read.ensures.given
    ∙ ap (line_of c.args.lattice.now c.args.fields.now true) (cut_before 10 c.args.text.now c.in_ok-end.end c.in_ok-end.ensures)
