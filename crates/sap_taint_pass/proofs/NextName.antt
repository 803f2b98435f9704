-- The name of the least free number is that of the next helping wire.
use Rattle.sap_lemmas.proofs.Common.{◌≡◌, ◌≤◌, ◌<◌, ◌^◌, ℕ, ◌+◌, zero, suc, List, [], ◌∷◌, ◌++◌, ◌==◌, length, true, false, ap, ap₂, sym, subst, ◌∙◌, inl, inr, arith, cases_Bool, append_assoc, true_is_not_false, equal_of_test, above_unequal}
use Rattle.sap_maps.specs.Maps.{Name}
use Rattle.sap_net.specs.Prelude.{Net, is_among, helper}
use Rattle.sap_net.proofs.NamesLemmas.{among_front, among_behind, among_neither}
use Rattle.sap_build.specs.Writing.{taken, IsFree, IsFresh}
use Rattle.sap_taint_pass.specs.Helping.{taken_names, numbered, free_from, free_number, helping_name}
use Rattle.sap_taint_pass.specs.Helped.{help_from, Helped}
use Rattle.sap_taint_pass.proofs.FreeNames.{small, numbered_injective, one_number, reached, trichotomy}
use Rattle.sap_taint_pass.proofs.Numbered.{AreApart, numbers_both, one_of_some, other_number}

-- a search passes taken names only
passed_by : (names : List Name) (tries k j : ℕ) → k ≤ j → j < free_from names k tries → is_among (numbered j) names ≡ true
passed_by names zero k j a b = let c : j < k = b in absurd (omega arith)
passed_by names (suc tries) k j a b =
    elim (cases_Bool (is_among (numbered k) names)) [
      | inl t ↦
          elim (cases_Bool (k == j)) [
            | inl e ↦ subst (λ (i : ℕ). is_among (numbered i) names ≡ true) (equal_of_test k j e) t
            | inr f ↦ passed_by names tries (k + 1) j (above_unequal k j a f) (rw t at b)
          ]
      | inr f ↦ (let c : j < k = rw f at b in absurd (omega arith))
    ]

from_start : (names : List Name) (tries k : ℕ) → k ≤ free_from names k tries
from_start names zero k = let l : k ≤ k = omega arith in l
from_start names (suc tries) k =
    elim (cases_Bool (is_among (numbered k) names)) [
      | inl t ↦ rw t (let l = from_start names tries (k + 1) in omega arith)
      | inr f ↦ rw f (let l : k ≤ k = omega arith in l)
    ]

positive : (names : List Name) (k : ℕ) → 1 ≤ free_number names k
positive names zero = from_start names (length names) 1
positive names (suc k) = let l : free_number names k + 1 ≤ free_number names (suc k) = from_start names (length names) (free_number names k + 1) in omega arith

-- the names of the module and of tags, and k names of helping wires
abbrev names_with : Net → (k : ℕ) → List Name
names_with n k = taken_names n ++ help_from n 0 k

apart : (n : Net) → AreApart (helping_name n)
apart n i j e = one_number (taken_names n) i j (numbered_injective (free_number (taken_names n) i) (free_number (taken_names n) j) e)

one_more : (n : Net) (k : ℕ) → help_from n 0 (suc k) ≡ help_from n 0 k ++ help_from n k 1
one_more n k =
    let s : suc k ≡ k + 1 = omega arith in
    let z : 0 + k ≡ k = omega arith in
    ap (help_from n 0) s ∙ numbers_both (helping_name n) 0 k 1 ∙ ap (λ (j : ℕ). help_from n 0 k ++ help_from n j 1) z

still_among : (n : Net) (k : ℕ) (x : Name) → is_among x (names_with n k) ≡ true → is_among x (names_with n (suc k)) ≡ true
still_among n k x h =
    let e : names_with n k ++ help_from n k 1 ≡ names_with n (suc k) =
    append_assoc (taken_names n) (help_from n 0 k) (help_from n k 1) ∙ ap (λ (xs : List Name). taken_names n ++ xs) (sym (one_more n k)) in
    subst (λ (xs : List Name). is_among x xs ≡ true) e (among_front x (names_with n k) (help_from n k 1) h)

-- all lower numbers are taken, by these
all_taken : (n : Net) (k j : ℕ) → 1 ≤ j → j < free_number (taken_names n) k → is_among (numbered j) (names_with n k) ≡ true
all_taken n zero j a b = among_front (numbered j) (taken_names n) [] (passed_by (taken_names n) (length (taken_names n)) 1 j a b)
all_taken n (suc k) j a b =
    elim (trichotomy j (free_number (taken_names n) k)) [
      | inl l ↦ still_among n k (numbered j) (all_taken n k j a l)
      | inr r ↦
          elim r [
            | inl e ↦
                let here : is_among (helping_name n k) (help_from n 0 (suc k)) ≡ true = one_of_some (helping_name n) 0 (suc k) k (omega arith) (omega arith) in
                among_behind (numbered j) (taken_names n) (help_from n 0 (suc k)) (subst (λ (i : ℕ). is_among (numbered i) (help_from n 0 (suc k)) ≡ true) (sym e) here)
            | inr g ↦
                among_front (numbered j) (taken_names n) (help_from n 0 (suc k))
                (passed_by (taken_names n) (length (taken_names n)) (free_number (taken_names n) k + 1) j (omega arith) b)
          ]
    ]

free_now : (n : Net) (k : ℕ) → is_among (helping_name n k) (names_with n k) ≡ false
free_now n k =
    among_neither (helping_name n k) (taken_names n) (help_from n 0 k) (reached (taken_names n) k).free (other_number (helping_name n) (apart n) 0 k k (inr (omega arith)))

this_number : (n : Net) (k j : ℕ) → j < 2 ^ 64 → IsFree (names_with n k) j → j ≡ free_number (taken_names n) k
this_number n k j l f =
    elim (trichotomy j (free_number (taken_names n) k)) [
      | inl a ↦ (
          let e : is_among (helper j) (names_with n k) ≡ true =
          subst (λ (y : Name). is_among y (names_with n k) ≡ true) (small j l) (all_taken n k j f.positive a) in
          absurd (true_is_not_false (sym e ∙ f.free)))
      | inr r ↦
          elim r [
            | inl e ↦ e
            | inr g ↦ (
                let s : numbered (free_number (taken_names n) k) ≡ helper (free_number (taken_names n) k) = small (free_number (taken_names n) k) (omega arith) in
                let e : is_among (helper (free_number (taken_names n) k)) (names_with n k) ≡ false =
                subst (λ (y : Name). is_among y (names_with n k) ≡ false) s (free_now n k) in
                absurd (true_is_not_false (sym (f.least (free_number (taken_names n) k) (positive (taken_names n) k) g) ∙ e)))
          ]
    ]

pub next_name : (n : Net) (k : ℕ) (m : Net) (x : Name) → Helped n k m → IsFresh (taken m) x → x ≡ helping_name n k
next_name n k m x h f =
    let same : taken m ≡ names_with n k = ap₂ (λ (y : Name) (ys : List Name). y ∷ ys) h.module_named h.names in
    let least : IsFree (names_with n k) f.number = subst (λ (ys : List Name). IsFree ys f.number) same f.least in
    f.named ∙ sym (small f.number f.counted) ∙ ap numbered (this_number n k f.number f.counted least)
