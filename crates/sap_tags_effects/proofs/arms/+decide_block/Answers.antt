use Rattle.std.proofs.Common.{◌≡◌, ◌∙◌, ◌-◌, ◌<◌, ◌≤◌, ◌^◌, OnOk, drop, length, suc, take, subst, ap, sym, arith}
use Rattle.sap_ir.specs.Prelude.{Body, body_of, follow}
use Rattle.sap_ir.proofs.plain.SeatWidths.{shifted}
use Rattle.sap_tags_terms.specs.Code.{setting_in}
use Rattle.sap_tags_effects.proofs.Pushed.{fresh}
use Rattle.sap_tags_effects.proofs.Picked.{code_choice, code_few, code_first, code_many, code_none}
use Rattle.sap_tags_effects.proofs.Pushed.{body_of-behind}
use Rattle.sap_tags_effects.proofs.arms.+decide_block.Goals as goal

pub returns-in_ok-append : goal.returns-in_ok-append
returns-in_ok-append t c =
    code_first (setting_in c.args.setting.now) c.args.wire c.args.bits c.args.blocks.items c.next.new.self.rest.items c.in-Some.block
    (body_of c.args.out.now.items) (body_of c.append.new.self.items) c.if-bits-eq0.true (sym c.into_iter.ensures.rest ∙ c.in-Some.ensures.items)
    (ap body_of c.in_ok-append.ensures.items ∙ body_of-behind c.args.out.now.items c.in-Some.block.items)

pub returns-in_default : goal.returns-in_default
returns-in_default t c =
    code_none (setting_in c.args.setting.now) c.args.wire c.args.bits c.args.blocks.items (body_of c.args.out.now.items) c.if-bits-eq0.true
    (omega (arith, c.in_default.ensures.len, c.in_default.ensures.cases.1, c.into_iter.ensures.len, c.args.blocks.ok.0))

pub returns-then-len-half : goal.returns-then-len-half
returns-then-len-half t c =
    let bits = c.args.bits in
    let m = bits - 1 in
    let e : bits ≡ suc m = omega arith in
    let half = shifted m (omega arith) in
    let l : length c.args.blocks.items ≤ 2 ^ m = omega (arith, half, c.len.ensures, c.if-len-half.true, c.args.blocks.ok.0) in
    subst (λ (b : Body). OnOk c.decide_block.result (body_of c.decide_block.new.out.items ≡ follow (body_of c.args.out.now.items) b))
    (code_few (setting_in c.args.setting.now) c.args.wire bits m c.args.blocks.items e l) c.decide_block.ensures

pub returns : goal.returns
returns t c =
    let d = setting_in c.args.setting.now in
    let bits = c.args.bits in
    let m = bits - 1 in
    let blocks = c.args.blocks.items in
    let low = c.split_off.new.self.items in
    let high = c.in_ok-upper.upper.items in
    let e : bits ≡ suc m = omega arith in
    let half = shifted m (omega arith) in
    let l : 2 ^ m < length blocks = omega (arith, half, c.len.ensures, c.if-len-half.false, c.args.blocks.ok.0) in
    code_choice d c.args.wire m blocks low high c.in_ok-test.test c.wire_variable-number.result c.decide_block-2.new.out c.decide_block-3.new.out
    c.args.out.now.items c.push.new.self.items c.in_ok-push.ensures.items c.wire_variable-number.ensures c.in_ok-test.ensures
    (fresh c.new-yes.result.items _ _ c.new-yes.ensures.items c.in_ok-decide_block.ensures) (fresh c.new-no.result.items _ _ c.new-no.ensures.items c.in_ok-decide_block-2.ensures)
    ∙ ap (follow (body_of c.args.out.now.items)) (code_many d c.args.wire bits m blocks low high e l (c.in_ok-upper.ensures.items
    ∙ ap (λ n. take n blocks) half) (c.in_ok-upper.ensures.tail ∙ ap (λ n. drop n blocks) half))
