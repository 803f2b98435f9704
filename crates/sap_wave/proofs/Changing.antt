-- The changes of a block.
use Rattle.sap_lemmas.proofs.Common.{◌≡◌, ℕ, ◌+◌, ◌<◌, ◌≤◌, ◌^◌, List, [], ◌∷◌, ◌++◌, false, Option, Some, None, length, map, get_or, set, refl, sym, ap, ◌∙◌, arith, subst, inl, inr, ◌≢◌, ◌==◌, AllByRecursion, cases_Bool, nat_tests, equal_of_test, some_same}
use Rattle.sap_maps.specs.Ranges.{IsWidth}
use Rattle.sap_wave.specs.Prelude.{identifier, bits, bits_number, Form, OpenBlock, State, in_block, IsKnown, IsChange, is_first, changed, width_at, nothing, set_to, all_set, changes, NumbersFit}
use Rattle.sap_wave.specs.declared.variable.Variable.{Variable}
use Rattle.sap_wave.proofs.DigitsLemmas.{number_back, bits_read_back}
use Rattle.sap_wave.proofs.Formed.{change_plain}
use Rattle.sap_wave.proofs.Going.{Goes, goes_from}
use Rattle.sap_wave.proofs.Lists.{at_next, set_next, one_more_of, within_next, one_further}

abbrev pub open_at : (before : List (List ℕ)) → (now : List (Option ℕ)) → (next : ℕ) → OpenBlock
open_at before now next = record { before = before; now = now; next = next }

known : (xs : List Variable) (k : ℕ) → k < length xs → IsKnown xs (identifier k)
known xs k l =
    let b = number_back k in
    record { within = subst (λ (z : ℕ). z < length xs) (sym b) l; spells = ap identifier (sym b) }

-- variable k, which is x, can change to n
can_change : (xs : List Variable) (o : OpenBlock) (k n : ℕ) (x : Variable) → k < length xs → get_or xs k nothing ≡ x → o.next ≤ k
    → (is_first o ≡ false → get_or o.now k None ≢ Some n) → n < 2 ^ x.width → IsChange xs o (bits x.width n) (identifier k)
can_change xs o k n x l e m h f =
    let b = number_back k in
    record {
      known = known xs k l;
      later = subst (λ (z : ℕ). o.next ≤ z) (sym b) m;
      sized = bits_read_back.width x.width n ∙ sym (ap (λ (v : Variable). v.width) e) ∙ ap (λ (z : ℕ). width_at xs z) (sym b);
      changes = λ later same. h later (ap (λ (z : ℕ). get_or o.now z None) (sym b) ∙ same ∙ ap Some (bits_read_back.reads_back x.width n f));
    }

changed_to : (o : OpenBlock) (k n w : ℕ) → n < 2 ^ w → changed o (bits w n) (identifier k) ≡ open_at o.before (set o.now k (Some n)) (k + 1)
changed_to o k n w f =
    ap (λ (z : ℕ). open_at o.before (set o.now z (Some (bits_number (bits w n)))) (z + 1)) (number_back k)
    ∙ ap (λ (z : ℕ). open_at o.before (set o.now k (Some z)) (k + 1)) (bits_read_back.reads_back w n f)

next_now : (before : List (List ℕ)) (pre : List (Option ℕ)) (a : Option ℕ) (rest : List (Option ℕ)) (k n next : ℕ) → k ≡ length pre
    → open_at before (set (pre ++ (a ∷ rest)) k (Some n)) (k + 1) ≡ open_at before ((pre ++ (Some n ∷ [])) ++ rest) (k + 1)
next_now before pre a rest k n next e =
    ap (λ (z : List (Option ℕ)). open_at before z (k + 1)) (ap (λ (z : ℕ). set (pre ++ (a ∷ rest)) z (Some n)) e ∙ set_next pre a (Some n) rest)

at_k : {A : Type 0} (all pre : List A) (y : A) (ys : List A) (k : ℕ) (d : A) → all ≡ pre ++ (y ∷ ys) → k ≡ length pre → get_or all k d ≡ y
at_k {A = A} all pre y ys k d e l = ap (λ (z : List A). get_or z k d) e ∙ ap (λ (z : ℕ). get_or (pre ++ (y ∷ ys)) z d) l ∙ at_next pre y ys d

within_k : {A : Type 0} (all pre : List A) (y : A) (ys : List A) (k : ℕ) → all ≡ pre ++ (y ∷ ys) → k ≡ length pre → k < length all
within_k all pre y ys k e l = let w = within_next pre y ys in let q = ap length e in omega (arith, w, q, l)

further : {A : Type 0} (pre : List A) (y : A) (k : ℕ) → k ≡ length pre → k + 1 ≡ length (pre ++ (y ∷ []))
further pre y k l = ap (λ (z : ℕ). z + 1) l ∙ sym (one_more_of pre y)

-- where the changes of a block end
pub record Ended (all : List Variable) (s : State) (fs : List Form) (before : List (List ℕ)) (now : List (Option ℕ)) : Type 0 where
  pub next : ℕ
  pub goes : Goes s fs (in_block all (open_at before now next))

-- one more change before others
one_more_change : (all done : List Variable) (x : Variable) (xs : List Variable) (before : List (List ℕ)) (pre : List (Option ℕ)) (a : Option ℕ)
    (rest : List (Option ℕ)) (k n next : ℕ) (fs : List Form) (now : List (Option ℕ)) → all ≡ done ++ (x ∷ xs) → k ≡ length done → k ≡ length pre → next ≤ k
    → IsWidth x.width → n < 2 ^ x.width → (is_first (open_at before (pre ++ (a ∷ rest)) next) ≡ false → a ≢ Some n)
    → Ended all (in_block all (open_at before ((pre ++ (Some n ∷ [])) ++ rest) (k + 1))) fs before now
    → Ended all (in_block all (open_at before (pre ++ (a ∷ rest)) next)) (set_to k x n ∷ fs) before now
one_more_change all done x xs before pre a rest k n next fs now e l p m w f h tail =
    let o : OpenBlock = open_at before (pre ++ (a ∷ rest)) next in
    let here : get_or o.now k None ≡ a = at_k (pre ++ (a ∷ rest)) pre a rest k None refl p in
    let takes = can_change all o k n x (within_k all done x xs k e l) (at_k all done x xs k nothing e l) m (λ later same. h later (sym here ∙ same)) f in
    let same = ap (λ (z : OpenBlock). in_block all z) (changed_to o k n x.width f ∙ next_now before pre a rest k n next p) in
    record {
      next = tail.next;
      goes = (change_plain x.width n k w.0, takes, goes_from _ _ _ fs same tail.goes);
    }

pub all_set_goes : (all done xs : List Variable) (pre : List (Option ℕ)) (ns : List ℕ) (k next : ℕ) → all ≡ done ++ xs → k ≡ length done → k ≡ length pre → next ≤ k
    → NumbersFit xs ns → AllByRecursion (λ x. IsWidth x.width) xs
    → Ended all (in_block all (open_at [] (pre ++ map (λ x. None) xs) next)) (all_set k xs ns) [] (pre ++ map Some ns)
all_set_goes all done [] pre [] k next e l p m f w = record { next = next; goes = refl }
all_set_goes all done [] pre (n ∷ ns) k next e l p m f w = absurd f
all_set_goes all done (x ∷ xs) pre [] k next e l p m f w = absurd f
all_set_goes all done (x ∷ xs) pre (n ∷ ns) k next e l p m f w =
    let i =
    all_set_goes all (done ++ (x ∷ [])) xs (pre ++ (Some n ∷ [])) ns (k + 1) (k + 1) (e ∙ one_further done x xs) (further done x k l) (further pre (Some n) k p)
    (omega arith) f.1 w.1 in
    one_more_change all done x xs [] pre None (map (λ v. None) xs) k n next (all_set (k + 1) xs ns) (pre ++ (Some n ∷ map Some ns)) e l p m w.0 f.0 (λ later. absurd (cc))
    (subst (λ (z : List (Option ℕ)). Ended all (in_block all (open_at [] ((pre ++ (Some n ∷ [])) ++ map (λ v. None) xs) (k + 1)))
    (all_set (k + 1) xs ns) [] z) (sym (one_further pre (Some n) (map Some ns))) i)

pub changes_go : (all done xs : List Variable) (before : List (List ℕ)) (pre : List (Option ℕ)) (ms ns : List ℕ) (k next : ℕ) → all ≡ done ++ xs → k ≡ length done
    → k ≡ length pre → next ≤ k → NumbersFit xs ms → NumbersFit xs ns → AllByRecursion (λ x. IsWidth x.width) xs
    → Ended all (in_block all (open_at before (pre ++ map Some ms) next)) (changes k xs ms ns) before (pre ++ map Some ns)
changes_go all done [] before pre [] [] k next e l p m g f w = record { next = next; goes = refl }
changes_go all done [] before pre [] (n ∷ ns) k next e l p m g f w = absurd f
changes_go all done [] before pre (o ∷ ms) ns k next e l p m g f w = absurd g
changes_go all done (x ∷ xs) before pre [] ns k next e l p m g f w = absurd g
changes_go all done (x ∷ xs) before pre (o ∷ ms) [] k next e l p m g f w = absurd f
changes_go all done (x ∷ xs) before pre (o ∷ ms) (n ∷ ns) k next e l p m g f w =
    let i =
    λ (y : ℕ) (to : ℕ) (q : to ≤ k + 1).
    changes_go all (done ++ (x ∷ [])) xs before (pre ++ (Some y ∷ [])) ms ns (k + 1) to (e ∙ one_further done x xs) (further done x k l) (further pre (Some y) k p) q g.1
    f.1 w.1 in
    elim (cases_Bool (o == n)) [
      | inl t ↦
          let same = equal_of_test o n t in
          let j = i o next (omega (arith, m)) in
          rw t (
          subst (λ (z : List (Option ℕ)). Ended all (in_block all (open_at before z next)) (changes (k + 1) xs ms ns) before (pre ++ (Some n ∷ map Some ns)))
          (sym (one_further pre (Some o) (map Some ms)))
          (subst (λ (z : List (Option ℕ)). Ended all (in_block all (open_at before ((pre ++ (Some o ∷ [])) ++ map Some ms) next)) (changes (k + 1) xs ms ns) before z)
          (ap (λ (y : ℕ). (pre ++ (Some y ∷ [])) ++ map Some ns) same ∙ sym (one_further pre (Some n) (map Some ns))) j)
          )
      | inr d ↦
          let j = i n (k + 1) (omega arith) in
          rw d (
          one_more_change all done x xs before pre (Some o) (map Some ms) k n next (changes (k + 1) xs ms ns) (pre ++ (Some n ∷ map Some ns)) e l p m w.0 f.0
          (λ later same. let q = some_same o n same in grind (arith, nat_tests))
          (subst (λ (z : List (Option ℕ)). Ended all (in_block all (open_at before ((pre ++ (Some n ∷ [])) ++ map Some ms) (k + 1)))
          (changes (k + 1) xs ms ns) before z) (sym (one_further pre (Some n) (map Some ns))) j)
          )
    ]
