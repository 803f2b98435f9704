use Rattle.sap_lemmas.proofs.Common.{sym, ◌∙◌}
use Rattle.sap_wiring.specs.Wiring.{seen}
use Rattle.sap_wiring.proofs.Judging as rules
use Rattle.sap_wiring.proofs.judge.judge.Goals as goal

pub returns-in_default-target-clause-first : goal.returns-in_default-target-clause-first
returns-in_default-target-clause-first c =
    let g = rules.given (seen c.args.around.now) c.args.texts.now c.args.k c.requires.named c.requires.within c.index-texts-k.is in
    rules.below_k6 _ _ _ _ g (rules.no_k5 _ _ _ _ g c.in-Some.register.endpoint c.in-Some.register.width c.in-Some.ensures)

pub returns-then-is_fed-clause-broken : goal.returns-then-is_fed-clause-broken
returns-then-is_fed-clause-broken c =
    let g = rules.given (seen c.args.around.now) c.args.texts.now c.args.k c.requires.named c.requires.within c.index-texts-k.is in
    rules.is_k7 _ _ _ _ g c.in-Some-target.input.endpoint c.in-Some-target.input.width c.in-Some-target.ensures
    (sym (c.requires.fed c.index-texts-k.result g.here) ∙ c.if-is_fed.true)

pub returns-then-is_fed-clause-first : goal.returns-then-is_fed-clause-first
returns-then-is_fed-clause-first c =
    let g = rules.given (seen c.args.around.now) c.args.texts.now c.args.k c.requires.named c.requires.within c.index-texts-k.is in
    rules.below_k7 _ _ _ _ g (rules.no_k5 _ _ _ _ g c.in-Some.register.endpoint c.in-Some.register.width c.in-Some.ensures)
    (rules.no_k6 _ _ _ _ g c.in-Some-target.input.endpoint c.in-Some-target.input.width c.in-Some-target.ensures)

pub returns-then-register-input-clause-broken : goal.returns-then-register-input-clause-broken
returns-then-register-input-clause-broken c =
    let g = rules.given (seen c.args.around.now) c.args.texts.now c.args.k c.requires.named c.requires.within c.index-texts-k.is in
    rules.is_k8 _ _ _ _ g c.in-Some.register.endpoint c.in-Some-target.input.endpoint c.in-Some.register.width
    c.in-Some-target.input.width c.in-Some.ensures c.in-Some-target.ensures c.if-register-input.true

pub returns-then-register-input-clause-first : goal.returns-then-register-input-clause-first
returns-then-register-input-clause-first c =
    let g = rules.given (seen c.args.around.now) c.args.texts.now c.args.k c.requires.named c.requires.within c.index-texts-k.is in
    rules.below_k8 _ _ _ _ g (rules.no_k5 _ _ _ _ g c.in-Some.register.endpoint c.in-Some.register.width c.in-Some.ensures)
    (rules.no_k6 _ _ _ _ g c.in-Some-target.input.endpoint c.in-Some-target.input.width c.in-Some-target.ensures)
    (rules.no_k7 _ _ _ _ g (sym (c.requires.fed c.index-texts-k.result g.here) ∙ c.if-is_fed.false))

pub returns-in_default-level_of-clause-broken : goal.returns-in_default-level_of-clause-broken
returns-in_default-level_of-clause-broken c =
    let g = rules.given (seen c.args.around.now) c.args.texts.now c.args.k c.requires.named c.requires.within c.index-texts-k.is in
    rules.is_k9 _ _ _ _ g c.in_default-level_of.ensures

pub returns-in_default-level_of-clause-first : goal.returns-in_default-level_of-clause-first
returns-in_default-level_of-clause-first c =
    let g = rules.given (seen c.args.around.now) c.args.texts.now c.args.k c.requires.named c.requires.within c.index-texts-k.is in
    rules.below_k9 _ _ _ _ g (rules.no_k5 _ _ _ _ g c.in-Some.register.endpoint c.in-Some.register.width c.in-Some.ensures)
    (rules.no_k6 _ _ _ _ g c.in-Some-target.input.endpoint c.in-Some-target.input.width c.in-Some-target.ensures)
    (rules.no_k7 _ _ _ _ g (sym (c.requires.fed c.index-texts-k.result g.here) ∙ c.if-is_fed.false))
    (rules.no_k8 _ _ _ _ g c.in-Some.register.endpoint c.in-Some-target.input.endpoint c.in-Some.register.width
    c.in-Some-target.input.width c.in-Some.ensures c.in-Some-target.ensures c.if-register-input.false)

pub returns-clause-wire : goal.returns-clause-wire
returns-clause-wire c =
    let g = rules.given (seen c.args.around.now) c.args.texts.now c.args.k c.requires.named c.requires.within c.index-texts-k.is in
    rules.wire_is _ _ _ _ g c.new.result c.in-Some.register.endpoint c.in-Some-target.input.endpoint c.in-Some-level_of.level
    c.in-Some.register.width c.in-Some-target.input.width c.in-Some.ensures c.in-Some-target.ensures c.if-register-input.false
    c.in-Some-level_of.ensures c.new.ensures.from c.new.ensures.to c.new.ensures.level

pub returns-clause-kept : goal.returns-clause-kept
returns-clause-kept c =
    let g = rules.given (seen c.args.around.now) c.args.texts.now c.args.k c.requires.named c.requires.within c.index-texts-k.is in
    rules.none_stands _ _ _ _ g (rules.no_k5 _ _ _ _ g c.in-Some.register.endpoint c.in-Some.register.width c.in-Some.ensures)
    (rules.no_k6 _ _ _ _ g c.in-Some-target.input.endpoint c.in-Some-target.input.width c.in-Some-target.ensures)
    (rules.no_k7 _ _ _ _ g (sym (c.requires.fed c.index-texts-k.result g.here) ∙ c.if-is_fed.false))
    (rules.no_k8 _ _ _ _ g c.in-Some.register.endpoint c.in-Some-target.input.endpoint c.in-Some.register.width
    c.in-Some-target.input.width c.in-Some.ensures c.in-Some-target.ensures c.if-register-input.false)
    (rules.no_k9 _ _ _ _ g c.in-Some-level_of.level c.in-Some-level_of.ensures)
