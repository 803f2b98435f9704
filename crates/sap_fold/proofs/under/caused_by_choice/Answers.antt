use Rattle.std.proofs.Common.{◌≡◌, ◌∙◌, sym, subst, rules}
use Rattle.sap_net.specs.declared.parts.Right.TheVariants.{Choose}
use Rattle.sap_fold.specs.Seen.{Defines}
use Rattle.sap_fold.proofs.Unders.{some_caused_second, some_caused_first}
use Rattle.sap_fold.proofs.under.caused_by_choice.Goals as goal

pub returns-then-only_second : goal.returns-then-only_second
returns-then-only_second c = λ d k.
    let ws = c.args.wires.now.list.items in
    let s = c.in-Choose in
    let e : c.args.right.now ≡ Choose s.by s.a s.b = search rules in
    some_caused_second ws d s.by s.a s.b c.args.operand.now c.args.value c.in_ok-second.second
    (sym c.only_second.ensures ∙ c.if-only_second.true) (subst (Defines ws d) e k) (c.in_ok-second.ensures {u = tt})

pub returns-then-only_first : goal.returns-then-only_first
returns-then-only_first c = λ d k.
    let ws = c.args.wires.now.list.items in
    let s = c.in-Choose in
    let e : c.args.right.now ≡ Choose s.by s.a s.b = search rules in
    some_caused_first ws d s.by s.a s.b c.args.operand.now c.args.value c.in_ok-first.first
    (sym c.only_first.ensures ∙ c.if-only_first.true) (subst (Defines ws d) e k) (c.in_ok-first.ensures {u = tt})
