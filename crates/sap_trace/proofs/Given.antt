-- What a line gives the inputs of a module, field by field.
use Rattle.std.proofs.Common.{◌≡◌, ℕ, zero, suc, ◌+◌, ◌*◌, ◌<◌, List, [], ◌∷◌, ◌++◌, length, get_or, take, set, refl, sym, ap, ◌∙◌, arith}
use Rattle.std.proofs.lemmas.List.{take_more_set, length-set}
use Rattle.sap_lattice.specs.Prelude.{Levels, order_of, code_of}
use Rattle.sap_meaning.specs.Cycle.{Tagged}
use Rattle.sap_trace.specs.Given.{given}

one_more : (ls : Levels) (xs : List Tagged) (k : ℕ) (x : Tagged) → k < length xs → x ≡ get_or xs k x
    → given ls (take (suc k) xs) ≡ (given ls (take k xs) ++ x.number ∷ []) ++ code_of (order_of ls) x.level ∷ []
one_more ls [] k x l e = absurd (omega arith)
one_more ls (y ∷ ys) zero x l e = ap (λ (z : Tagged). z.number ∷ code_of (order_of ls) z.level ∷ []) (sym e)
one_more ls (y ∷ ys) (suc k) x l e =
    ap (λ (ns : List ℕ). y.number ∷ code_of (order_of ls) y.level ∷ ns) (one_more ls ys k x (omega arith) e)

given_more : (ls : Levels) (xs : List Tagged) (k : ℕ) (x : Tagged) (n : ℕ) (old mid new : List ℕ) → k < length xs → x ≡ get_or xs k x → n ≡ code_of (order_of ls) x.level
    → old ≡ given ls (take k xs) → mid ≡ old ++ x.number ∷ [] → new ≡ mid ++ n ∷ [] → new ≡ given ls (take (k + 1) xs)
given_more ls xs k x n old mid new l e i h f g =
    let j : suc k ≡ k + 1 = omega arith in
    g ∙ ap (λ (m : ℕ). mid ++ m ∷ []) i
    ∙ ap (λ (ns : List ℕ). ns ++ code_of (order_of ls) x.level ∷ []) (f ∙ ap (λ (ns : List ℕ). ns ++ x.number ∷ []) h) ∙ sym (one_more ls xs k x l e)
    ∙ ap (λ (m : ℕ). given ls (take m xs)) j

-- an item that is there is the same whatever stands for one that is not
pub same_item : (xs : List Tagged) (k : ℕ) (d e : Tagged) → k < length xs → get_or xs k d ≡ get_or xs k e
same_item [] k d e l = absurd (omega arith)
same_item (x ∷ xs) zero d e l = refl
same_item (x ∷ xs) (suc k) d e l = same_item xs k d e (omega arith)

-- one field more is written over the numbers
pub given_written : (ls : Levels) (xs : List Tagged) (k : ℕ) (d : Tagged) (ns : List ℕ) (number code : ℕ) → k < length xs
    → length ns ≡ 2 * length xs → number ≡ (get_or xs k d).number
    → code ≡ code_of (order_of ls) (get_or xs k d).level → take (2 * k) ns ≡ given ls (take k xs)
    → take (2 * (k + 1)) (set (set ns (2 * k) number) (2 * k + 1) code) ≡ given ls (take (k + 1) xs)
given_written ls xs k d ns number code l size n c before =
    let mid = set ns (2 * k) number in
    let two : 2 * (k + 1) ≡ 2 * k + 1 + 1 = omega arith in
    let size_mid : length (set ns (2 * k) number) ≡ length ns = length-set ns (2 * k) number in
    ap (λ (m : ℕ). take m (set mid (2 * k + 1) code)) two
    ∙ given_more ls xs k (get_or xs k d) code (take (2 * k) ns) (take (2 * k + 1) mid) (take (2 * k + 1 + 1) (set mid (2 * k + 1) code)) l
    (same_item xs k d (get_or xs k d) l) c before
    (take_more_set ns (2 * k) number (omega (arith, size, l)) ∙ ap (λ (m : ℕ). take (2 * k) ns ++ m ∷ []) n)
    (take_more_set mid (2 * k + 1) code (omega (arith, size, size_mid, l)))
