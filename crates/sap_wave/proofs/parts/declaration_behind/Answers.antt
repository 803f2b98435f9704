use Rattle.std.proofs.Common.{sym, ◌∙◌}
use Rattle.sap_wave.proofs.Parted.{declared_line, no_second, no_third, not_declaration}
use Rattle.sap_wave.proofs.Spelled.{on_none}
use Rattle.sap_wave.proofs.parts.declaration_behind.Goals as goal

pub returns-in_err-second-clause-none : goal.returns-in_err-second-clause-none
returns-in_err-second-clause-none c =
    let a = c.in_ok-first.first in
    on_none c.from_residual-in_err-second.result (λ w i n h. no_second c.args.text.now a.before.now a.behind.now w i n c.in_ok-first.ensures.some c.in_err-second.ensures.none h)

pub returns-in_err-third-clause-none : goal.returns-in_err-third-clause-none
returns-in_err-third-clause-none c =
    let a = c.in_ok-first.first in
    let b = c.in_ok-second.second in
    on_none c.from_residual-in_err-third.result
    (λ w i n h. no_third c.args.text.now a.before.now a.behind.now b.before.now b.behind.now w i n c.in_ok-first.ensures.some
    c.in_ok-second.ensures.some c.in_err-third.ensures.none h)

pub returns-then-is_declaration-clause-some : goal.returns-then-is_declaration-clause-some
returns-then-is_declaration-clause-some c =
    let a = c.in_ok-first.first in
    let b = c.in_ok-second.second in
    let d = c.in_ok-third.third in
    declared_line c.args.text.now a.before.now a.behind.now b.before.now b.behind.now d.before.now d.behind.now c.in_ok-first.ensures.some
    c.in_ok-second.ensures.some c.in_ok-third.ensures.some (sym c.is_declaration.ensures ∙ c.if-is_declaration.true)

pub returns-else-is_declaration-clause-none : goal.returns-else-is_declaration-clause-none
returns-else-is_declaration-clause-none c =
    let a = c.in_ok-first.first in
    let b = c.in_ok-second.second in
    let d = c.in_ok-third.third in
    λ w i n h. not_declaration c.args.text.now a.before.now a.behind.now b.before.now b.behind.now d.before.now d.behind.now w i n
    c.in_ok-first.ensures.some c.in_ok-second.ensures.some c.in_ok-third.ensures.some (sym c.is_declaration.ensures ∙ c.if-is_declaration.false) h
