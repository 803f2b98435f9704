-- A command gets its operands one by one.
use Rattle.sap_lemmas.proofs.Common.{◌≡◌, ◌∙◌, ◌<◌, ◌≤◌, ◌+◌, ◌++◌, zero, suc, ℕ, List, [], ◌∷◌, map, take, get_or, length, ap, refl, arith, Bor, take_all}
use Rattle.clap.specs.Words.{Rule, Text, with_rule}
use Rattle.sap_words.specs.Parser.{alone, command, operand}

rules_more : (xs : List (Bor Text)) (k : ℕ) (d : Bor Text) → k < length xs
    → map operand (map (λ o. o.now) (take k xs)) ++ operand (get_or xs k d).now ∷ [] ≡ map operand (map (λ o. o.now) (take (suc k) xs))
rules_more [] k d l = absurd (omega arith)
rules_more (y ∷ ys) zero d l = refl
rules_more (y ∷ ys) (suc k) d l = ap (λ rs. operand y.now ∷ rs) (rules_more ys k d (omega arith))

pub one_more : (name : Text) (xs : List (Bor Text)) (k : ℕ) (d : Bor Text) → k < length xs
    → with_rule (alone (command name (map (λ o. o.now) (take k xs)))) (operand (get_or xs k d).now) ≡ alone (command name (map (λ o. o.now) (take (k + 1) xs)))
one_more name xs k d l =
    let next : suc k ≡ k + 1 = omega arith in
    ap (λ (rs : List Rule). alone (record (command name []) { rules = rs })) (rules_more xs k d l ∙ ap (λ (j : ℕ). map operand (map (λ o. o.now) (take j xs))) next)

pub all_operands : (name : Text) (xs : List (Bor Text)) (k : ℕ) → length xs ≤ k
    → alone (command name (map (λ o. o.now) (take k xs))) ≡ alone (command name (map (λ o. o.now) xs))
all_operands name xs k l = ap (λ (ys : List (Bor Text)). alone (command name (map (λ o. o.now) ys))) (take_all k xs l)
