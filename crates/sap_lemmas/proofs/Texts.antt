-- Bytes and texts.
use Rattle.std.proofs.Common.{List, [], ap, append_assoc, arith, false, inl, inr, length, refl, rules, subst, sym, true, ℕ, ⊎_elim, ◌++◌, ◌+◌, ◌-◌, ◌<◌, ◌∙◌, ◌∷◌, ◌≡◌, ◌≤◌}
use Rattle.std.specs.Char.{digit_value, is_ascii_digit}
use Rattle.std.specs.Cmp.Lexicographic.{nat_list_eq_equiv}
use Rattle.std.specs.Fmt.{decimal}
use Rattle.std.specs.List.{list_all}
use Rattle.std.specs.Prelude.{bytes_eq, nat_lt, ◌%◌, ◌/◌, ◌^◌}
use Rattle.std.specs.Str.Parse.{digits_value}
use Rattle.std.proofs.lemmas.Bool.{cases_Bool, ltb-false, ltb-true}
use Rattle.std.proofs.lemmas.Bool.Decides.{nat_tests}
use Rattle.std.proofs.lemmas.Fmt.{decimal_digit, decimal_step}
use Rattle.std.proofs.lemmas.Slice.Eq.{bytes_eq-Decides}
use Rattle.std.proofs.lemmas.Str.Parse.{IsNumeralModel, numerals_by_value}

pub digits_model : IsNumeralModel (λ ds. list_all is_ascii_digit ds ≡ true) (digits_value 10)
digits_model = numerals_by_value _ (search rules)

pub bytes_eq_same : (a : List ℕ) → bytes_eq a a ≡ true
bytes_eq_same a = (bytes_eq-Decides a a).1 refl

pub equal_of_bytes_eq : (m n : List ℕ) → bytes_eq m n ≡ true → m ≡ n
equal_of_bytes_eq m n t = (bytes_eq-Decides m n).0 t

pub bytes_eq_apart_back : (m n : List ℕ) → bytes_eq m n ≡ false → bytes_eq n m ≡ false
bytes_eq_apart_back m n f =
    ⊎_elim
    (λ t. let e : bytes_eq m n ≡ true = (bytes_eq-Decides m n).1 (sym (equal_of_bytes_eq n m t)) in absurd (cc))
    (λ g. g)
    (cases_Bool (bytes_eq n m))

pub bytes_eq_symmetric : (m n : List ℕ) → bytes_eq m n ≡ bytes_eq n m
bytes_eq_symmetric m n =
    ⊎_elim
    (λ t. t ∙ sym (subst (λ z. bytes_eq z m ≡ true) (equal_of_bytes_eq m n t) (bytes_eq_same m)))
    (λ t. t ∙ sym (bytes_eq_apart_back m n t))
    (cases_Bool (bytes_eq m n))

pub bytes_eq_alike : (cs x y : List ℕ) → bytes_eq cs x ≡ true → bytes_eq cs y ≡ bytes_eq x y
bytes_eq_alike cs x y t = ap (λ (n : List ℕ). bytes_eq n y) (equal_of_bytes_eq cs x t)

pub bytes_eq_apart : (bs cs ks : List ℕ) → bytes_eq bs cs ≡ false → bytes_eq bs ks ≡ true → bytes_eq cs ks ≡ false
bytes_eq_apart bs cs ks n y = nat_list_eq_equiv.symm cs ks ∙ sym (nat_list_eq_equiv.congr bs ks cs y) ∙ n

pub digit_in_range : (c : ℕ) → 48 ≤ c → c < 58 → is_ascii_digit c ≡ true
digit_in_range c h k = grind (arith, nat_tests)

pub digit_of_value : (c : ℕ) → digit_value c < 10 → is_ascii_digit c ≡ true
digit_of_value c h =
    elim (cases_Bool (nat_lt c 48)) [
      | inl t ↦ absurd (let g : 36 < 10 = rw t at h in omega (arith, g))
      | inr f ↦
          elim (cases_Bool (nat_lt c 58)) [
            | inl t ↦ digit_in_range c (ltb-false c 48 f) (ltb-true c 58 t)
            | inr g ↦
                elim (cases_Bool (nat_lt c 65)) [
                  | inl t ↦ absurd (let q : 36 < 10 = rw (f, g, t) at h in omega (arith, q))
                  | inr i ↦
                      elim (cases_Bool (nat_lt c 91)) [
                        | inl t ↦ absurd (let q : c - 55 < 10 = rw (f, g, i, t) at h in omega (arith, q, ltb-false c 65 i))
                        | inr j ↦
                            elim (cases_Bool (nat_lt c 97)) [
                              | inl t ↦ absurd (let q : 36 < 10 = rw (f, g, i, j, t) at h in omega (arith, q))
                              | inr k ↦
                                  elim (cases_Bool (nat_lt c 123)) [
                                    | inl t ↦ absurd (let q : c - 87 < 10 = rw (f, g, i, j, k, t) at h in omega (arith, q, ltb-false c 97 k))
                                    | inr l ↦ absurd (let q : 36 < 10 = rw (f, g, i, j, k, l) at h in omega (arith, q))
                                  ]
                            ]
                      ]
                ]
          ]
    ]

pub one_digit_long : (n : ℕ) → n < 10 → length (decimal n) ≡ 1
one_digit_long n few = ap length (decimal_digit n few)

pub one_digit : (out old : List ℕ) (n d : ℕ) → n < 10 → out ≡ old ++ (d ∷ []) → d ≡ 48 + n → out ≡ old ++ decimal n
one_digit out old n d h e f = e ∙ ap (λ x. old ++ (x ∷ [])) f ∙ ap (λ z. old ++ z) (sym (decimal_digit n h))

pub more_digits : (out mid old : List ℕ) (n d : ℕ) → 10 ≤ n → n < 2 ^ 64 → mid ≡ old ++ decimal (n / 10) → out ≡ mid ++ (d ∷ []) → d ≡ 48 + n % 10 → out ≡ old ++ decimal n
more_digits out mid old n d h small e f g =
    f ∙ ap (λ z. z ++ (d ∷ [])) e ∙ append_assoc old (decimal (n / 10)) (d ∷ []) ∙ ap (λ x. old ++ (decimal (n / 10) ++ (x ∷ []))) g
    ∙ ap (λ z. old ++ z) (sym (decimal_step n h small))
