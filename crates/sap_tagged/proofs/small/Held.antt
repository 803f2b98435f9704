-- Operations of expressions that are put together.
use Rattle.sap_lemmas.proofs.Common.{◌≡◌, ℕ, ◌||◌, ◌+◌, ◌≤◌, List, [], ◌∷◌, ◌++◌, true, sym, ◌∙◌, subst, refl, arith, inl, inr, length-append, cases_Bool}
use Rattle.sap_bits.specs.declared.Op2.{Op2}
use Rattle.sap_bits.specs.declared.Op2.TheVariants.{Or}
use Rattle.sap_maps.specs.Prelude.{Name, Term, cell, two, choose, part}
use Rattle.sap_size.specs.Terms.{same_term, operations_in, operations}
use Rattle.sap_size.proofs.Terms.{term_is, term_self, has, has_both, has_front, has_behind, all_operations, all_has, operations_within}
use Rattle.sap_tagged.specs.Levels.{lub, below_or_at}

-- all terms of the second list stand on the first
abbrev pub Held : List (Term Name) → List (Term Name) → Type 0
Held xs ys = (q : Term Name) → has ys q ≡ true → has xs q ≡ true

-- all operations of a term do
abbrev pub Covers : List (Term Name) → Term Name → Type 0
Covers xs t = Held xs (operations_in t)

pub held_none : (xs : List (Term Name)) → Held xs []
held_none xs q h = absurd (cc)

pub held_first : (xs : List (Term Name)) (t : Term Name) (ys : List (Term Name)) → Held xs (t ∷ ys) → has xs t ≡ true
held_first xs t ys h = h t (rw (term_self t) refl)

pub held_rest : (xs : List (Term Name)) (t : Term Name) (ys : List (Term Name)) → Held xs (t ∷ ys) → Held xs ys
held_rest xs t ys h q m = h q (has_behind (t ∷ []) ys q m)

pub held_front : (xs ys zs : List (Term Name)) → Held xs (ys ++ zs) → Held xs ys
held_front xs ys zs h q m = h q (has_front ys zs q m)

pub held_behind : (xs ys zs : List (Term Name)) → Held xs (ys ++ zs) → Held xs zs
held_behind xs ys zs h q m = h q (has_behind ys zs q m)

pub held_more : (xs : List (Term Name)) (t : Term Name) (ys : List (Term Name)) → has xs t ≡ true → Held xs ys → Held xs (t ∷ ys)
held_more xs t ys f h q m =
    elim (cases_Bool (same_term q t)) [
      | inl e ↦ subst (λ (y : Term Name). has xs y ≡ true) (sym (term_is q t e)) f
      | inr n ↦ h q (rw n at m)
    ]

pub held_both : (xs ys zs : List (Term Name)) → Held xs ys → Held xs zs → Held xs (ys ++ zs)
held_both xs ys zs h k q m =
    elim (cases_Bool (has ys q)) [
      | inl e ↦ h q e
      | inr n ↦ let g : (has ys q || has zs q) ≡ true = sym (has_both ys zs q) ∙ m in k q (rw n at g)
    ]

-- lists within lists

pub within_front : (xs ys : List (Term Name)) (t : Term Name) → Covers xs t → Covers (xs ++ ys) t
within_front xs ys t h q m = has_front xs ys q (h q m)

pub within_behind : (xs ys : List (Term Name)) (t : Term Name) → Covers ys t → Covers (xs ++ ys) t
within_behind xs ys t h q m = has_behind xs ys q (h q m)

pub here : (t : Term Name) (xs : List (Term Name)) → has (t ∷ xs) t ≡ true
here t xs = rw (term_self t) refl

covered : (t : Term Name) → Covers (all_operations t) t
covered t q m = all_has t q m

-- an operation has one more than its operands have together at most

pub cell_weighs : (m : Name) (i : Term Name) → operations (cell m i) ≤ 1 + operations i
cell_weighs m i =
    let t = cell m i in
    let xs = all_operations i in
    let l = operations_within t (t ∷ xs) (held_more (t ∷ xs) t (operations_in i) (here t xs) (within_behind (t ∷ []) xs i (covered i))) in
    omega (arith, l)

pub part_weighs : (a : Term Name) (hi lo : ℕ) → operations (part a hi lo) ≤ 1 + operations a
part_weighs a hi lo =
    let t = part a hi lo in
    let xs = all_operations a in
    let l = operations_within t (t ∷ xs) (held_more (t ∷ xs) t (operations_in a) (here t xs) (within_behind (t ∷ []) xs a (covered a))) in
    omega (arith, l)

pub two_weighs : (o : Op2) (a b : Term Name) → operations (two o a b) ≤ 1 + operations a + operations b
two_weighs o a b =
    let t = two o a b in
    let us = all_operations a in
    let vs = all_operations b in
    let xs = t ∷ (us ++ vs) in
    let l = operations_within t xs (held_more xs t (operations_in a ++ operations_in b) (here t (us ++ vs))
    (held_both xs (operations_in a) (operations_in b) (within_behind (t ∷ []) (us ++ vs) a (within_front us vs a (covered a)))
    (within_behind (t ∷ []) (us ++ vs) b (within_behind us vs b (covered b))))) in
    let n = length-append us vs in
    omega (arith, l, n)

pub choose_weighs : (c a b : Term Name) → operations (choose c a b) ≤ 1 + operations c + operations a + operations b
choose_weighs c a b =
    let t = choose c a b in
    let cs = all_operations c in
    let us = all_operations a in
    let vs = all_operations b in
    let xs = t ∷ (cs ++ (us ++ vs)) in
    let l = operations_within t xs (held_more xs t (operations_in c ++ (operations_in a ++ operations_in b)) (here t (cs ++ (us ++ vs)))
    (held_both xs (operations_in c) (operations_in a ++ operations_in b)
    (within_behind (t ∷ []) (cs ++ (us ++ vs)) c (within_front cs (us ++ vs) c (covered c)))
    (held_both xs (operations_in a) (operations_in b)
    (within_behind (t ∷ []) (cs ++ (us ++ vs)) a (within_behind cs (us ++ vs) a (within_front us vs a (covered a))))
    (within_behind (t ∷ []) (cs ++ (us ++ vs)) b (within_behind cs (us ++ vs) b (within_behind us vs b (covered b))))))) in
    let m = length-append cs (us ++ vs) in
    let n = length-append us vs in
    omega (arith, l, m, n)

pub lub_weighs : (a b : Term Name) → operations (lub a b) ≤ 1 + operations a + operations b
lub_weighs a b = two_weighs Or a b

-- the second level stands in it twice and counts once
pub below_weighs : (a b : Term Name) → operations (below_or_at a b) ≤ 2 + operations a + operations b
below_weighs a b =
    let t = below_or_at a b in
    let u = lub a b in
    let us = all_operations a in
    let vs = all_operations b in
    let ys = us ++ vs in
    let xs = t ∷ (u ∷ ys) in
    let ca : Covers xs a = within_behind (t ∷ (u ∷ [])) ys a (within_front us vs a (covered a)) in
    let cb : Covers xs b = within_behind (t ∷ (u ∷ [])) ys b (within_behind us vs b (covered b)) in
    let cu : Covers xs u = held_more xs u (operations_in a ++ operations_in b) (has_behind (t ∷ []) (u ∷ ys) u (here u ys))
    (held_both xs (operations_in a) (operations_in b) ca cb) in
    let l = operations_within t xs (held_more xs t (operations_in u ++ operations_in b) (here t (u ∷ ys)) (held_both xs (operations_in u) (operations_in b) cu cb)) in
    let n = length-append us vs in
    omega (arith, l, n)
