-- A block more behind others.
use Rattle.sap_lemmas.proofs.Common.{◌≡◌, ℕ, suc, ◌+◌, List, [], ◌∷◌, ◌++◌, length, refl, sym, ap, ◌∙◌, arith, append_assoc, append-nil}
use Rattle.sap_wave.specs.declared.variable.Variable.{Variable}
use Rattle.sap_wave.specs.Prelude.{Form, block_of, blocks_from, last_among}

pub blocks_more : (n : ℕ) (xs : List Variable) (before : List ℕ) (rest : List (List ℕ)) (after : List ℕ)
    → blocks_from n xs before (rest ++ (after ∷ [])) ≡ blocks_from n xs before rest ++ block_of (n + length rest) xs (last_among before rest) after
blocks_more n xs before [] after =
    let e : n ≡ n + 0 = omega arith in
    append-nil (block_of n xs before after) ∙ ap (λ (k : ℕ). block_of k xs before after) e
blocks_more n xs before (next ∷ rest) after =
    let e : (n + 1) + length rest ≡ n + suc (length rest) = omega arith in
    ap (λ (fs : List Form). block_of n xs before next ++ fs) (blocks_more (n + 1) xs next rest after)
    ∙ sym (append_assoc (block_of n xs before next) (blocks_from (n + 1) xs next rest) (block_of ((n + 1) + length rest) xs (last_among next rest) after))
    ∙ ap (λ (k : ℕ). (block_of n xs before next ++ blocks_from (n + 1) xs next rest) ++ block_of k xs (last_among next rest) after) e

pub last_more : (before : List ℕ) (rest : List (List ℕ)) (after : List ℕ) → last_among before (rest ++ (after ∷ [])) ≡ after
last_more before [] after = refl
last_more before (next ∷ rest) after = last_more next rest after
