use Rattle.std.proofs.Common.{◌∙◌, refl, ap, rules}
use Rattle.sap_vlex.specs.Spelling.{tokens_of}
use Rattle.sap_vparse.proofs.OneReading.{fault_at_token, fault_lexed, in_err, no_ok, not_both, text_is}
use Rattle.sap_vparse.proofs.read.parse.Goals as goal

pub returns-in_err-list-clause-file : goal.returns-in_err-list-clause-file
returns-in_err-list-clause-file c = no_ok _ c.from_residual.result c.in_err-list.field-0.0 (search rules)

pub returns-in_err-list-clause-faultless : goal.returns-in_err-list-clause-faultless
returns-in_err-list-clause-faultless c = no_ok _ c.from_residual.result c.in_err-list.field-0.0 (search rules)

pub returns-in_err-list-clause-fault : goal.returns-in_err-list-clause-fault
returns-in_err-list-clause-fault c =
    in_err _ c.from_residual.result c.in_err-list.field-0.0 (search rules) (λ known. fault_lexed c.args.text.now c.in_err-list.field-0.0 (c.in_err-list.ensures.fault known))

pub returns-in_err-list-clause-refused : goal.returns-in_err-list-clause-refused
returns-in_err-list-clause-refused c =
    in_err _ c.from_residual.result c.in_err-list.field-0.0 (search rules)
    (λ no file t. not_both c.args.text.now file _ t (fault_lexed c.args.text.now c.in_err-list.field-0.0 (c.in_err-list.ensures.fault no)))

pub returns-in-Ok-clause-file : goal.returns-in-Ok-clause-file
returns-in-Ok-clause-file c =
    text_is c.args.text.now (tokens_of c.in_ok-list.list.items) c.new-tokens.result c.file.new.tokens _ c.in_ok-list.ensures.tokens
    (c.new-tokens.ensures ∙ ap tokens_of c.as_slice.ensures.value) c.in-Ok.ensures.tree c.in-Ok.ensures.end

pub returns-in-Ok-clause-faultless : goal.returns-in-Ok-clause-faultless
returns-in-Ok-clause-faultless c = λ fault h. not_both c.args.text.now _ fault
    (text_is c.args.text.now (tokens_of c.in_ok-list.list.items) c.new-tokens.result c.file.new.tokens _ c.in_ok-list.ensures.tokens
    (c.new-tokens.ensures ∙ ap tokens_of c.as_slice.ensures.value) c.in-Ok.ensures.tree c.in-Ok.ensures.end) h

pub returns-in-Err-Token-clause-fault : goal.returns-in-Err-Token-clause-fault
returns-in-Err-Token-clause-fault c = λ no.
    fault_at_token c.args.text.now (tokens_of c.in_ok-list.list.items) c.new-tokens.result c.file.new.tokens c.fault_place.result c.file.result c.in_ok-list.ensures.tokens
    (c.new-tokens.ensures ∙ ap tokens_of c.as_slice.ensures.value) c.file.ensures.goes (cc) c.fault_place.ensures

pub returns-in-Err-Token-clause-refused : goal.returns-in-Err-Token-clause-refused
returns-in-Err-Token-clause-refused c = λ no file t. not_both c.args.text.now file _ t (
    fault_at_token c.args.text.now (tokens_of c.in_ok-list.list.items) c.new-tokens.result c.file.new.tokens c.fault_place.result c.file.result c.in_ok-list.ensures.tokens
    (c.new-tokens.ensures ∙ ap tokens_of c.as_slice.ensures.value) c.file.ensures.goes (cc) c.fault_place.ensures)

pub returns-clause-fault : goal.returns-clause-fault
returns-clause-fault c = λ no. absurd (no refl)

pub returns-clause-refused : goal.returns-clause-refused
returns-clause-refused c = λ no file t. no refl
