use Rattle.std.proofs.Common.{◌≡◌, ℕ, List, ap, rules, subst, sym, ◌∙◌}
use Rattle.sap_wave.specs.declared.fault.WaveFault.{WaveFault}
use Rattle.sap_wave.specs.declared.variable.Variable.{Variable}
use Rattle.sap_wave.specs.Prelude.{IsWaveFault, ReadUpTo, in_block, open_of, state_of}
use Rattle.sap_wave.proofs.ReadUpTo.{err_so}
use Rattle.sap_wave.proofs.reading.behind_changes.Goals as goal

pub returns-in_err-rest-in-InBlock-clause-fault : goal.returns-in_err-rest-in-InBlock-clause-fault
returns-in_err-rest-in-InBlock-clause-fault c =
    let b = c.in-InBlock.block in
    let fault = c.in_err-rest-in-InBlock.field-0.0 in
    let here : state_of c.args.state ≡ in_block c.deref.result.now (open_of b) =
    ap state_of c.in-InBlock.is ∙ ap (λ (xs : List Variable). in_block xs (open_of b)) (sym c.deref.ensures.value) in
    err_so (λ (f : WaveFault). (bytes : List ℕ) → ReadUpTo bytes c.args.text.now c.args.line (state_of c.args.state)
    → IsWaveFault bytes f) c.from_residual.result fault (search rules)
    (λ bytes a. c.in_err-rest-in-InBlock.ensures.fault bytes (subst (ReadUpTo bytes c.args.text.now c.args.line) here a))

pub returns-in_ok-rest-in-InBlock-clause-read : goal.returns-in_ok-rest-in-InBlock-clause-read
returns-in_ok-rest-in-InBlock-clause-read c = λ bytes a.
    let b = c.in-InBlock.block in
    let r = c.in_ok-rest-in-InBlock.rest in
    let here : state_of c.args.state ≡ in_block c.deref.result.now (open_of b) =
    ap state_of c.in-InBlock.is ∙ ap (λ (xs : List Variable). in_block xs (open_of b)) (sym c.deref.ensures.value) in
    subst (λ (xs : List Variable). ReadUpTo bytes r.text.now r.line (in_block xs (open_of c.read_changes.new.reached))) c.deref.ensures.value
    (c.in_ok-rest-in-InBlock.ensures.read bytes (subst (ReadUpTo bytes c.args.text.now c.args.line) here a))
