use Rattle.std.proofs.Common.{◌≡◌, ◌∙◌, ◌+◌, ◌++◌, ◌/◌, ◌%◌, [], ◌∷◌, List, ℕ, sym, ap, rules, append_assoc}
use Rattle.sap_share.specs.Keys.{number}
use Rattle.sap_share.proofs.Digits.{number_more, number_last}
use Rattle.sap_share.proofs.keys.add_number.Goals as goal

pub loop-rest-preserved : goal.loop-rest-preserved
loop-rest-preserved c =
    let n = c.loop-rest.rest in
    let before = c.loop-rest.key.items in
    let pushed : c.push.new.self.items ≡ before ++ (128 + n % 128) ∷ [] = search rules in
    ap (λ (xs : List ℕ). xs ++ number (n / 128)) pushed
    ∙ append_assoc before ((128 + n % 128) ∷ []) (number (n / 128))
    ∙ ap (λ (xs : List ℕ). before ++ xs) (sym (number_more n c.loop-rest-test.true))
    ∙ c.loop-rest.invariant

pub returns : goal.returns
returns c =
    let n = c.loop-rest.rest in
    let pushed : c.push-2.new.self.items ≡ c.loop-rest.key.items ++ n ∷ [] = search rules in
    pushed ∙ ap (λ (xs : List ℕ). c.loop-rest.key.items ++ xs) (sym (number_last n c.loop-rest-test.false)) ∙ c.loop-rest.invariant
