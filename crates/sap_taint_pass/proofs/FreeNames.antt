-- Helping wires have names of their own.
use Rattle.sap_lemmas.proofs.Common.{◌≡◌, ℕ, zero, suc, ◌+◌, ◌^◌, ◌<◌, ◌≤◌, ◌==◌, ◌||◌, ◌≢◌, List, [], ◌∷◌, length, replicate, true, false, ◌⊎◌, sym, ap, ◌∙◌, subst, refl, arith, inl, inr, nat_lt, if◌then◌else◌, decimal, bytes_eq, decimal_is_IsNumeral, decimal_injective, length-replicate, cases_Bool, lt-ltb, ltb-true, true_is_not_false, equal_of_test, test_of_equal, equal_of_bytes_eq}
use Rattle.sap_maps.specs.Maps.{Name}
use Rattle.sap_net.specs.Prelude.{Net, is_name, is_among, helper, IsNetlist}
use Rattle.sap_text.proofs.NamesLemmas.{numeral_inner}
use Rattle.sap_net.proofs.NamesLemmas.{wire_name}
use Rattle.sap_taint_pass.specs.Helping.{taken_names, numbered, free_from, free_number, helping_name, AreHelping, IsSmall}

-- one name a number

pub small : (k : ℕ) → k < 2 ^ 64 → numbered k ≡ helper k
unfolding numbered
small k l = rw (lt-ltb k (2 ^ 64) l) refl

large : (k : ℕ) → nat_lt k (2 ^ 64) ≡ false → numbered k ≡ replicate k 0
unfolding numbered
large k f = rw f refl

no_name : (k : ℕ) → is_name (replicate k 0) ≡ false
unfolding is_name
no_name zero = refl
no_name (suc k) = refl

helper_named : (k : ℕ) → k < 2 ^ 64 → is_name (helper k) ≡ true
unfolding helper
helper_named k l = wire_name (decimal k) (numeral_inner (decimal k) (decimal_is_IsNumeral k l).0.1)

pub numbered_named : (k : ℕ) → k < 2 ^ 64 → is_name (numbered k) ≡ true
numbered_named k l = ap is_name (small k l) ∙ helper_named k l

ends_apart : (i j : ℕ) → i < 2 ^ 64 → helper i ≡ replicate j 0 → ⊥
ends_apart i j l e = let a = helper_named i l in let b : is_name (helper i) ≡ false = ap is_name e ∙ no_name j in cc

helper_injective : (i j : ℕ) → i < 2 ^ 64 → j < 2 ^ 64 → helper i ≡ helper j → i ≡ j
unfolding helper
helper_injective i j a b e = let d : decimal i ≡ decimal j = cc in decimal_injective i j a b d

pub numbered_injective : (i j : ℕ) → numbered i ≡ numbered j → i ≡ j
numbered_injective i j e =
    elim (cases_Bool (nat_lt i (2 ^ 64))) [
      | inl s ↦
          let k = ltb-true i (2 ^ 64) s in
          elim (cases_Bool (nat_lt j (2 ^ 64))) [
            | inl t ↦ let l = ltb-true j (2 ^ 64) t in helper_injective i j k l (sym (small i k) ∙ e ∙ small j l)
            | inr t ↦ absurd (ends_apart i j k (sym (small i k) ∙ e ∙ large j t))
          ]
      | inr s ↦
          elim (cases_Bool (nat_lt j (2 ^ 64))) [
            | inl t ↦ let l = ltb-true j (2 ^ 64) t in absurd (ends_apart j i l (sym (small j l) ∙ sym e ∙ large i s))
            | inr t ↦ sym (length-replicate i 0) ∙ ap length (sym (large i s) ∙ e ∙ large j t) ∙ length-replicate j 0
          ]
    ]

-- a list without a name

without : Name → List Name → List Name
without x [] = []
without x (y ∷ ys) = if bytes_eq x y then without x ys else (y ∷ without x ys)

without_shorter : (x : Name) (ys : List Name) → length (without x ys) ≤ length ys
unfolding without
without_shorter x [] = omega arith
without_shorter x (y ∷ ys) =
    elim (cases_Bool (bytes_eq x y)) [
      | inl t ↦ rw t (omega (arith, without_shorter x ys))
      | inr f ↦ rw f (omega (arith, without_shorter x ys))
    ]

one_less : (x : Name) (ys : List Name) → is_among x ys ≡ true → length (without x ys) < length ys
unfolding without
one_less x [] h = absurd (cc)
one_less x (y ∷ ys) h =
    elim (cases_Bool (bytes_eq x y)) [
      | inl t ↦ rw t (omega (arith, without_shorter x ys))
      | inr f ↦ (let g : is_among x ys ≡ true = rw f at h in rw f (omega (arith, one_less x ys g)))
    ]

without_others : (x z : Name) (ys : List Name) → bytes_eq z x ≡ false → is_among z (without x ys) ≡ is_among z ys
unfolding without
without_others x z [] d = refl
without_others x z (y ∷ ys) d =
    elim (cases_Bool (bytes_eq x y)) [
      | inl t ↦ (
          let e : bytes_eq z y ≡ false = subst (λ (q : Name). bytes_eq z q ≡ false) (equal_of_bytes_eq x y t) d in
          rw (t, e) (without_others x z ys d))
      | inr f ↦ rw f (ap (λ b. bytes_eq z y || b) (without_others x z ys d))
    ]

-- Left to look at from k on: what of the taken names has a number that large.
abbrev pub Left : (taken left : List Name) (k : ℕ) → Type 0
Left taken left k = (j : ℕ) → k ≤ j → is_among (numbered j) left ≡ is_among (numbered j) taken

numbers_apart : (i j : ℕ) → i < j → bytes_eq (numbered j) (numbered i) ≡ false
numbers_apart i j l =
    elim (cases_Bool (bytes_eq (numbered j) (numbered i))) [
      | inl t ↦ (let e = numbered_injective j i (equal_of_bytes_eq (numbered j) (numbered i) t) in absurd (omega arith))
      | inr f ↦ f
    ]

left_less : (taken left : List Name) (k : ℕ) → Left taken left k → Left taken (without (numbered k) left) (k + 1)
left_less taken left k a j l = without_others (numbered k) (numbered j) left (numbers_apart k j (omega arith)) ∙ a j (omega arith)

none_left : (xs : List Name) (x : Name) → length xs ≤ 0 → is_among x xs ≡ false
none_left [] x h = refl
none_left (y ∷ ys) x h = absurd (omega arith)

-- what is found: a free number, and as many names fewer are left behind it as were passed
record Found (taken old : List Name) (k found : ℕ) : Type 0 where
  free : is_among (numbered found) taken ≡ false
  least : k ≤ found
  rest : List Name
  left : Left taken rest (found + 1)
  fewer : found + length rest ≤ k + length old

search_free : (tries k : ℕ) (taken left : List Name) → length left ≤ tries → Left taken left k → Found taken left k (free_from taken k tries)
search_free zero k taken left few a =
    record { free = sym (a k (omega arith)) ∙ none_left left (numbered k) few; least = omega arith; rest = left; left = λ j l. a j (omega arith); fewer = omega arith }
search_free (suc tries) k taken left few a =
    elim (cases_Bool (is_among (numbered k) taken)) [
      | inl t ↦ (
          let m : is_among (numbered k) left ≡ true = a k (omega arith) ∙ t in
          let less = one_less (numbered k) left m in
          let r = search_free tries (k + 1) taken (without (numbered k) left) (omega arith) (left_less taken left k a) in
          let more : Found taken left k (free_from taken (k + 1) tries) =
          record { free = r.free; least = omega (arith, r.least); rest = r.rest; left = r.left; fewer = omega (arith, r.fewer) } in
          rw t more)
      | inr f ↦ (
          let here : Found taken left k k = record { free = f; least = omega arith; rest = left; left = λ j l. a j (omega arith); fewer = omega arith } in
          rw f here)
    ]

-- the numbers of helping wires

pub record Reached (taken : List Name) (k : ℕ) : Type 0 where
  pub free : is_among (numbered (free_number taken k)) taken ≡ false
  rest : List Name
  left : Left taken rest (free_number taken k + 1)
  few : length rest ≤ length taken
  fewer : free_number taken k + length rest ≤ 1 + k + length taken

pub reached : (taken : List Name) (k : ℕ) → Reached taken k
reached taken zero =
    let r = search_free (length taken) 1 taken taken (omega arith) (λ j l. refl) in
    record { free = r.free; rest = r.rest; left = r.left; few = omega (arith, r.fewer, r.least); fewer = omega (arith, r.fewer) }
reached taken (suc k) =
    let p = reached taken k in
    let r = search_free (length taken) (free_number taken k + 1) taken p.rest p.few p.left in
    record { free = r.free; rest = r.rest; left = r.left; few = omega (arith, r.fewer, r.least, p.few); fewer = omega (arith, r.fewer, p.fewer) }

further : (taken : List Name) (k : ℕ) → free_number taken k < free_number taken (suc k)
further taken k =
    let p = reached taken k in
    let r = search_free (length taken) (free_number taken k + 1) taken p.rest p.few p.left in
    omega (arith, r.least)

below_unequal_of : (i j : ℕ) → (i == j) ≡ false → i < suc j → i < j
below_unequal_of i j f l = let apart : i ≢ j = λ e. true_is_not_false (sym (test_of_equal i j e) ∙ f) in omega arith

ascending : (taken : List Name) (i j : ℕ) → i < j → free_number taken i < free_number taken j
ascending taken i zero l = absurd (omega arith)
ascending taken i (suc j) l =
    elim (cases_Bool (i == j)) [
      | inl t ↦ subst (λ n. free_number taken n < free_number taken (suc j)) (sym (equal_of_test i j t)) (further taken j)
      | inr f ↦ (let a = ascending taken i j (below_unequal_of i j f (omega arith)) in let b = further taken j in omega arith)
    ]

pub trichotomy : (i j : ℕ) → (i < j) ⊎ ((i ≡ j) ⊎ (j < i))
trichotomy zero zero = inr (inl refl)
trichotomy zero (suc j) = inl (omega arith)
trichotomy (suc i) zero = inr (inr (omega arith))
trichotomy (suc i) (suc j) =
    elim (trichotomy i j) [
      | inl l ↦ inl (omega arith)
      | inr r ↦ inr (elim r [ inl e ↦ inl (ap suc e) | inr g ↦ inr (omega arith) ])
    ]

pub one_number : (taken : List Name) (i j : ℕ) → free_number taken i ≡ free_number taken j → i ≡ j
one_number taken i j e =
    elim (trichotomy i j) [
      | inl l ↦ (let a = ascending taken i j l in absurd (omega arith))
      | inr r ↦ elim r [ inl s ↦ s | inr g ↦ (let a = ascending taken j i g in absurd (omega arith)) ]
    ]

pub are_helping : (n : Net) → IsNetlist n → IsSmall n → AreHelping n (helping_name n)
are_helping n rules few =
    record {
      named = λ k l. numbered_named (free_number (taken_names n) k) (omega (arith, (reached (taken_names n) k).fewer));
      apart = λ i j e. one_number (taken_names n) i j (numbered_injective (free_number (taken_names n) i) (free_number (taken_names n) j) e);
      free = λ k. (reached (taken_names n) k).free;
    }
