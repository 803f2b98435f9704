use Rattle.std.proofs.Common.{length, refl, sym, ap, subst, ◌∙◌, arith, rules}
use Rattle.sap_parse.specs.Stages.{Stage, at_start}
use Rattle.sap_parse.specs.Text.{IsText, too_long}
use Rattle.sap_parse.proofs.OneReading.{few_tokens, fault_at_limit, fault_at_token, fault_lexed, in_err, no_ok, not_both, text_is, text_whole}
use Rattle.sap_parse.proofs.read.parse.Goals as goal

pub returns-then-source-gt-MOST_BYTES-clause-fault : goal.returns-then-source-gt-MOST_BYTES-clause-fault
returns-then-source-gt-MOST_BYTES-clause-fault c = λ no. rw c.first.ensures (too_long (omega arith))

pub returns-then-source-gt-MOST_BYTES-clause-refused : goal.returns-then-source-gt-MOST_BYTES-clause-refused
returns-then-source-gt-MOST_BYTES-clause-refused c = λ no design t. not_both c.args.source.now design _ t (returns-then-source-gt-MOST_BYTES-clause-fault c no)

pub returns-in_err-list-clause-design : goal.returns-in_err-list-clause-design
returns-in_err-list-clause-design c = no_ok _ c.from_residual.result c.in_err-list.field-0.0 (search rules)

pub returns-in_err-list-clause-fault : goal.returns-in_err-list-clause-fault
returns-in_err-list-clause-fault c =
    in_err _ c.from_residual.result c.in_err-list.field-0.0 (search rules) (fault_lexed c.args.source.now c.in_err-list.field-0.0 (omega arith) c.in_err-list.ensures.fault)

pub returns-in_err-list-clause-refused : goal.returns-in_err-list-clause-refused
returns-in_err-list-clause-refused c =
    in_err _ c.from_residual.result c.in_err-list.field-0.0 (search rules)
    (λ no design t. not_both c.args.source.now design _ t (fault_lexed c.args.source.now c.in_err-list.field-0.0 (omega arith) c.in_err-list.ensures.fault no))

pub design-requires : goal.design-requires
design-requires c =
    let few = few_tokens 0 (length c.args.source.now) c.in_ok-list.list c.in_ok-list.ensures.order in
    let same = ap (λ (p : Stage). length p.left) (c.new-tokens.ensures ∙ ap at_start c.as_slice.ensures) in
    omega arith

pub new-requires : goal.new-requires
new-requires c =
    text_whole c.args.source.now _
    (text_is c.args.source.now c.in_ok-list.list c.new-tokens.result c.design.new.tokens _ (omega arith) c.in_ok-list.ensures.ok
    (c.new-tokens.ensures ∙ ap at_start c.as_slice.ensures)
    c.in-Ok.ensures.tree c.in-Ok.ensures.end c.breaks_nothing.ensures)

pub returns-in-Ok-clause-design : goal.returns-in-Ok-clause-design
returns-in-Ok-clause-design c =
    subst (IsText c.args.source.now) (sym c.new.ensures)
    (text_is c.args.source.now c.in_ok-list.list c.new-tokens.result c.design.new.tokens _ (omega arith) c.in_ok-list.ensures.ok
    (c.new-tokens.ensures ∙ ap at_start c.as_slice.ensures)
    c.in-Ok.ensures.tree c.in-Ok.ensures.end c.breaks_nothing.ensures)

pub returns-in-Err-Token-clause-fault : goal.returns-in-Err-Token-clause-fault
returns-in-Err-Token-clause-fault c = λ no.
    fault_at_token c.args.source.now c.in_ok-list.list c.new-tokens.result c.design.new.tokens c.fault_place.result c.design.result (omega arith) c.in_ok-list.ensures.ok
    (c.new-tokens.ensures ∙ ap at_start c.as_slice.ensures) c.design.ensures.goes (cc) c.fault_place.ensures

pub returns-in-Err-Token-clause-refused : goal.returns-in-Err-Token-clause-refused
returns-in-Err-Token-clause-refused c = λ no design t. not_both c.args.source.now design _ t (returns-in-Err-Token-clause-fault c no)

pub returns-in-Err-Limit-clause-fault : goal.returns-in-Err-Limit-clause-fault
returns-in-Err-Limit-clause-fault c = λ no.
    fault_at_limit c.args.source.now c.in_ok-list.list c.new-tokens.result c.design.new.tokens c.fault_place-in-Err-Limit.result c.in-Err-Limit.limit c.design.result (omega arith)
    c.in_ok-list.ensures.ok (c.new-tokens.ensures ∙ ap at_start c.as_slice.ensures) c.design.ensures.goes (cc) c.fault_place-in-Err-Limit.ensures

pub returns-in-Err-Limit-clause-refused : goal.returns-in-Err-Limit-clause-refused
returns-in-Err-Limit-clause-refused c = λ no design t. not_both c.args.source.now design _ t (returns-in-Err-Limit-clause-fault c no)

pub returns-clause-fault : goal.returns-clause-fault
returns-clause-fault c = λ no. absurd (no refl)

pub returns-clause-refused : goal.returns-clause-refused
returns-clause-refused c = λ no design t. no refl
