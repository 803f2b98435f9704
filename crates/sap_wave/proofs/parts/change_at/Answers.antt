use Rattle.std.proofs.Common.{sym, ◌∙◌}
use Rattle.sap_wave.proofs.Fronts.{change_there, no_end, no_space, not_formed}
use Rattle.sap_wave.proofs.Spelled.{on_none}
use Rattle.sap_wave.proofs.parts.change_at.Goals as goal

pub returns-in_err-behind-2-clause-none : goal.returns-in_err-behind-2-clause-none
returns-in_err-behind-2-clause-none c =
    let b = c.bits_at-bits in
    on_none c.from_residual-in_err-behind-2.result
    (no_space c.args.text.now c.in_ok-behind.field-0.now b.result.digits.now b.result.behind.now c.in_ok-behind.ensures.some
    (record { whole = b.ensures.whole; all = b.ensures.digits; others = b.ensures.others }) c.in_err-behind-2.ensures.none)

pub returns-in_err-rest-clause-none : goal.returns-in_err-rest-clause-none
returns-in_err-rest-clause-none c =
    let b = c.bits_at-bits in
    let i = c.id_at-id in
    on_none c.from_residual-in_err-rest.result
    (no_end c.args.text.now c.in_ok-behind.field-0.now b.result.digits.now b.result.behind.now c.in_ok-behind-2.field-0.now i.result.digits.now i.result.behind.now
    c.in_ok-behind.ensures.some (record { whole = b.ensures.whole; all = b.ensures.digits; others = b.ensures.others }) c.in_ok-behind-2.ensures.some
    (record { whole = i.ensures.whole; all = i.ensures.digits; others = i.ensures.others }) c.in_err-rest.ensures.none)

pub returns-then-is_change-clause-some : goal.returns-then-is_change-clause-some
returns-then-is_change-clause-some c =
    let b = c.bits_at-bits in
    let i = c.id_at-id in
    change_there c.args.text.now c.in_ok-behind.field-0.now b.result.digits.now b.result.behind.now c.in_ok-behind-2.field-0.now i.result.digits.now i.result.behind.now
    c.in_ok-rest.rest.now b.result.number c.in_ok-behind.ensures.some (record { whole = b.ensures.whole; all = b.ensures.digits; others = b.ensures.others })
    c.in_ok-behind-2.ensures.some (record { whole = i.ensures.whole; all = i.ensures.digits; others = i.ensures.others }) c.in_ok-rest.ensures.some
    (sym c.is_change.ensures ∙ c.if-is_change.true) b.ensures.number

pub returns-else-is_change-clause-none : goal.returns-else-is_change-clause-none
returns-else-is_change-clause-none c =
    let b = c.bits_at-bits in
    let i = c.id_at-id in
    not_formed c.args.text.now c.in_ok-behind.field-0.now b.result.digits.now b.result.behind.now c.in_ok-behind-2.field-0.now i.result.digits.now i.result.behind.now
    c.in_ok-behind.ensures.some (record { whole = b.ensures.whole; all = b.ensures.digits; others = b.ensures.others }) c.in_ok-behind-2.ensures.some
    (record { whole = i.ensures.whole; all = i.ensures.digits; others = i.ensures.others }) (sym c.is_change.ensures ∙ c.if-is_change.false)
