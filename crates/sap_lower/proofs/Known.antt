-- What is known where a gate isn't 0 holds there, and an operand is what it is seen to be.
use Rattle.sap_lemmas.proofs.Common.{◌≡◌, ℕ, zero, suc, ◌==◌, ◌&&◌, ◌||◌, not, Bool, true, false, List, [], ◌∷◌, Option, Some, None, drop, slice_get, list_any, sym, ◌∙◌, subst, refl, inl, inr, arith, nat_tests, bit_and, bytes_eq, equal_of_bytes_eq, cases_Bool, AllByRecursion, all_append, if◌then◌else◌}
use Rattle.std.proofs.lemmas.Nat.{and_le_l, and_le_r}
use Rattle.sap_text.specs.Runs.{number_of}
use Rattle.sap_bits.specs.declared.Op2.TheVariants.{And, Eq}
use Rattle.sap_maps.specs.Prelude.{Name, Valuation}
use Rattle.sap_net.specs.Prelude.{operand_value, operand_width, right_value}
use Rattle.sap_net.specs.declared.parts.Operand.{Operand}
use Rattle.sap_net.specs.declared.parts.Operand.TheVariants.{Named, Constant}
use Rattle.sap_net.specs.declared.parts.Right.{Right}
use Rattle.sap_net.specs.declared.parts.Right.TheVariants.{Two, Choose}
use Rattle.sap_net.specs.declared.parts.Wire.{Wire}
use Rattle.sap_lower.specs.declared.facts.Fact.{Fact}
use Rattle.sap_lower.specs.declared.facts.Fact.TheVariants.{IsSet, Equals}
use Rattle.sap_lower.specs.Facts.{right_if_named, right_numbered, right_of, is_zero, told_by_test, test_facts, of_operand, tests, told_by_gate, gate_facts, facts_of, gates}
use Rattle.sap_lower.specs.Reads.{sets, clears, differs, is_set, is_clear, is_other, of_name, right_denied, test_denied, gate_denied, excluded, nonzero, right_opened, named_opened, opened, chosen_part, seen_through, seen, choices}
use Rattle.sap_lower.proofs.Shared.{Gives, PartsWide}

-- numbers

both_set : (a b x : ℕ) → x ≡ bit_and a b → (x == 0) ≡ false → ((a == 0) ≡ false) × ((b == 0) ≡ false)
both_set a b x e h =
    let p = and_le_l a b in
    let q = and_le_r a b in
    (grind (arith, nat_tests), grind (arith, nat_tests))

eq_told : (a x y : ℕ) → y ≡ (if a == x then 1 else 0) → (y == 0) ≡ false → (a == x) ≡ true
eq_told a x y e h =
    elim (cases_Bool (a == x)) [
      | inl t ↦ t
      | inr f ↦ absurd (let g : y ≡ 0 = rw f at e in let k : (0 == 0) ≡ false = subst (λ (n : ℕ). (n == 0) ≡ false) g h in cc)
    ]

choice_told : (c t z x : ℕ) → x ≡ (if c == 0 then z else t) → z ≡ 0 → (x == 0) ≡ false → ((c == 0) ≡ false) × ((t == 0) ≡ false)
choice_told c t z x e q h =
    elim (cases_Bool (c == 0)) [
      | inl s ↦ absurd (let g : x ≡ z = rw s at e in let k : (0 == 0) ≡ false = subst (λ (n : ℕ). (n == 0) ≡ false) (g ∙ q) h in cc)
      | inr f ↦ let g : x ≡ t = rw f at e in (f, subst (λ (n : ℕ). (n == 0) ≡ false) g h)
    ]

never_both : (b : Bool) → b ≡ true → b ≡ false → ⊥
never_both b t f = let e : true ≡ false = sym t ∙ f in absurd (cc)

and_split : (a b : Bool) → (a && b) ≡ true → (a ≡ true) × (b ≡ true)
and_split true b h = (refl, h)
and_split false b h = absurd (cc)

or_split : {P : Type 0} (a b : Bool) → (a || b) ≡ true → (a ≡ true → P) → (b ≡ true → P) → P
or_split true b h f g = f refl
or_split false b h f g = g h

not_true : (b : Bool) → not b ≡ true → b ≡ false
not_true true h = absurd (cc)
not_true false h = refl

equal_test : (a b : ℕ) → (a == b) ≡ true → a ≡ b
equal_test a b h = grind (arith, nat_tests)

other_test : (a b : ℕ) → (a == b) ≡ false → a ≡ b → ⊥
other_test a b h e = grind (arith, nat_tests)

pub zero_value : (v : Valuation) (o : Operand) → is_zero o ≡ true → operand_value v o ≡ 0
zero_value v (Named x) h = absurd (cc)
zero_value v (Constant w n) h = equal_test n 0 h

abbrev pub FactHolds : Valuation → Fact → Type 0
FactHolds v (IsSet n) = (v.value n == 0) ≡ false
FactHolds v (Equals n x) = v.value n ≡ x

abbrev pub FactsHold : Valuation → List Fact → Type 0
FactsHold v fs = AllByRecursion (FactHolds v) fs

-- what a wire's right side says of its name
pub record Told (widths : Name → ℕ) (v : Valuation) (n : Name) (r : Right) : Type 0 where
  pub value : v.value n ≡ right_value widths v r
  pub wide : PartsWide widths (widths n) r

at_told : (widths : Name → ℕ) (v : Valuation) (ws : List Wire) → Gives widths v ws → (k : ℕ) (w : Wire) → slice_get ws k ≡ Some w → Told widths v w.name w.right
at_told widths v [] g k w e = absurd (cc)
at_told widths v (x ∷ ws) g zero w e =
    let s : x ≡ w = cc in
    subst (λ (y : Wire). Told widths v y.name y.right) s
    (record { value = g.0; wide = subst (λ (u : ℕ). PartsWide widths u x.right) (sym g.1) g.2 })
at_told widths v (x ∷ ws) g (suc k) w e = at_told widths v ws g.3 k w e

named_told : (widths : Name → ℕ) (v : Valuation) (n : Name) (r : Right) (o : Option Wire) → ((w : Wire) → o ≡ Some w → Told widths v w.name w.right)
    → right_if_named n o ≡ Some r → Told widths v n r
named_told widths v n r None f e = absurd (cc)
named_told widths v n r (Some w) f e =
    elim (cases_Bool (bytes_eq w.name n)) [
      | inl t ↦
          let g : Some w.right ≡ Some r = rw t at e in
          let s : w.right ≡ r = cc in
          subst (λ (q : Right). Told widths v n q) s (subst (λ (m : Name). Told widths v m w.right) (equal_of_bytes_eq w.name n t) (f w refl))
      | inr d ↦ absurd (let g : None ≡ Some r = rw d at e in cc)
    ]

numbered_told : (widths : Name → ℕ) (v : Valuation) (ws : List Wire) → Gives widths v ws → (n : Name) (r : Right) (k : Option ℕ)
    → right_numbered ws n k ≡ Some r → Told widths v n r
numbered_told widths v ws g n r None e = absurd (cc)
numbered_told widths v ws g n r (Some k) e = named_told widths v n r (slice_get ws k) (λ w h. at_told widths v ws g k w h) e

module _ (widths : Name → ℕ) (v : Valuation) (ws : List Wire) (given : Gives widths v ws) where
  pub right_told : (n : Name) (r : Right) → right_of ws n ≡ Some r → Told widths v n r
  right_told n r e = numbered_told widths v ws given n r (number_of 10 (drop 1 n)) e

  -- facts hold

  test_more : (of : Name → List Fact) → ((m : Name) → (v.value m == 0) ≡ false → FactsHold v (of m)) → (n : Name) (o : Option Right) → right_of ws n ≡ o
      → (v.value n == 0) ≡ false → FactsHold v (told_by_test of o)
  test_more of hold n (Some (Two And (Named a) (Named b))) e h =
      let t = both_set (v.value a) (v.value b) (v.value n) (right_told n (Two And (Named a) (Named b)) e).value h in
      all_append (FactHolds v) (of a) (of b) (hold a t.0) (hold b t.1)
  test_more of hold n (Some (Two Eq (Named a) (Constant w x))) e h =
      (equal_test (v.value a) x (eq_told (v.value a) x (v.value n) (right_told n (Two Eq (Named a) (Constant w x)) e).value h), tt)
  test_more of hold n _ e h = tt

  test_hold : (k : ℕ) (n : Name) → (v.value n == 0) ≡ false → FactsHold v (test_facts k ws n)
  test_hold zero n h = tt
  test_hold (suc k) n h = (h, test_more (test_facts k ws) (λ m g. test_hold k m g) n (right_of ws n) refl h)

  operand_hold : (k : ℕ) (o : Operand) → (operand_value v o == 0) ≡ false → FactsHold v (of_operand (test_facts k ws) o)
  operand_hold k (Named n) h = test_hold k n h
  operand_hold k (Constant w x) h = tt

  gate_more : (outer : Operand → List Fact) → ((o : Operand) → (operand_value v o == 0) ≡ false → FactsHold v (outer o)) → (n : Name) (o : Option Right)
      → right_of ws n ≡ o → (v.value n == 0) ≡ false → FactsHold v (told_by_gate ws outer n o)
  gate_more outer hold n (Some (Choose c t z)) e h =
      elim (cases_Bool (is_zero z)) [
        | inl q ↦
            let told = choice_told (operand_value v c) (operand_value v t) (operand_value v z) (v.value n) (right_told n (Choose c t z) e).value (zero_value v z q) h in
            rw q (h, all_append (FactHolds v) (of_operand (test_facts tests ws) t) (outer c) (operand_hold tests t told.1) (hold c told.0))
        | inr q ↦ rw q (test_hold tests n h)
      ]
  gate_more outer hold n _ e h = test_hold tests n h

  gate_hold : (k : ℕ) (o : Operand) → (operand_value v o == 0) ≡ false → FactsHold v (gate_facts k ws o)
  gate_hold zero o h = tt
  gate_hold (suc k) (Named n) h = gate_more (gate_facts k ws) (λ o g. gate_hold k o g) n (right_of ws n) refl h
  gate_hold (suc k) (Constant w x) h = tt

  pub facts_hold : (gate : Operand) → (operand_value v gate == 0) ≡ false → FactsHold v (facts_of ws gate)
  facts_hold gate h = gate_hold gates gate h

  module _ (fs : List Fact) (hold : FactsHold v fs) where
    any_tells : {P : Type 0} (p : Fact → Bool) → ((f : Fact) → FactHolds v f → p f ≡ true → P) → (gs : List Fact) → FactsHold v gs → list_any p gs ≡ true → P
    any_tells p tells [] h a = absurd (cc)
    any_tells p tells (f ∷ gs) h a = or_split (p f) (list_any p gs) a (λ t. tells f h.0 t) (λ t. any_tells p tells gs h.1 t)

    sets_tells : (n : Name) (f : Fact) → FactHolds v f → sets n f ≡ true → (v.value n == 0) ≡ false
    sets_tells n (IsSet m) h s = subst (λ (y : Name). (v.value y == 0) ≡ false) (equal_of_bytes_eq m n s) h
    sets_tells n (Equals m x) h s =
        let t = and_split (not (x == 0)) (bytes_eq m n) s in
        subst (λ (y : Name). (v.value y == 0) ≡ false) (equal_of_bytes_eq m n t.1)
        (subst (λ (y : ℕ). (y == 0) ≡ false) (sym h) (not_true (x == 0) t.0))

    clears_tells : (n : Name) (f : Fact) → FactHolds v f → clears n f ≡ true → v.value n ≡ 0
    clears_tells n (IsSet m) h s = absurd (cc)
    clears_tells n (Equals m x) h s =
        let t = and_split (x == 0) (bytes_eq m n) s in
        subst (λ (y : Name). v.value y ≡ 0) (equal_of_bytes_eq m n t.1) (h ∙ equal_test x 0 t.0)

    differs_tells : (n : Name) (x : ℕ) (f : Fact) → FactHolds v f → differs n x f ≡ true → (v.value n == x) ≡ false
    differs_tells n x (IsSet m) h s =
        let t = and_split (x == 0) (bytes_eq m n) s in
        subst (λ (y : Name). (v.value y == x) ≡ false) (equal_of_bytes_eq m n t.1)
        (subst (λ (y : ℕ). (v.value m == y) ≡ false) (sym (equal_test x 0 t.0)) h)
    differs_tells n x (Equals m y) h s =
        let t = and_split (not (y == x)) (bytes_eq m n) s in
        subst (λ (z : Name). (v.value z == x) ≡ false) (equal_of_bytes_eq m n t.1)
        (subst (λ (z : ℕ). (z == x) ≡ false) (sym h) (not_true (y == x) t.0))

    is_on : (n : Name) → is_set fs n ≡ true → (v.value n == 0) ≡ false
    is_on n a = any_tells (sets n) (sets_tells n) fs hold a

    is_off : (n : Name) → is_clear fs n ≡ true → (v.value n == 0) ≡ false → ⊥
    is_off n a h = other_test (v.value n) 0 h (any_tells (clears n) (clears_tells n) fs hold a)

    is_apart : (n : Name) (x : ℕ) → is_other fs n x ≡ true → (v.value n == x) ≡ true → ⊥
    is_apart n x a h = never_both (v.value n == x) h (any_tells (differs n x) (differs_tells n x) fs hold a)

    right_wrong : (operand : Name → Bool) → ((m : Name) → operand m ≡ true → (v.value m == 0) ≡ false → ⊥) → (n : Name) (o : Option Right) → right_of ws n ≡ o
        → right_denied fs operand o ≡ true → (v.value n == 0) ≡ false → ⊥
    right_wrong operand wrong n (Some (Two And (Named a) (Named b))) e d h =
        let t = both_set (v.value a) (v.value b) (v.value n) (right_told n (Two And (Named a) (Named b)) e).value h in
        or_split (operand a) (operand b) d (λ x. wrong a x t.0) (λ x. wrong b x t.1)
    right_wrong operand wrong n (Some (Two Eq (Named a) (Constant w x))) e d h =
        is_apart a x d (eq_told (v.value a) x (v.value n) (right_told n (Two Eq (Named a) (Constant w x)) e).value h)
    right_wrong operand wrong n _ e d h = absurd (cc)

    test_wrong : (k : ℕ) (n : Name) → test_denied k ws fs n ≡ true → (v.value n == 0) ≡ false → ⊥
    test_wrong zero n d h = absurd (cc)
    test_wrong (suc k) n d h =
        or_split (is_clear fs n) (right_denied fs (test_denied k ws fs) (right_of ws n)) d (λ x. is_off n x h)
        (λ x. right_wrong (test_denied k ws fs) (λ m a g. test_wrong k m a g) n (right_of ws n) refl x h)

    operand_wrong : (k : ℕ) (o : Operand) → of_name (test_denied k ws fs) o ≡ true → (operand_value v o == 0) ≡ false → ⊥
    operand_wrong k (Named n) d h = test_wrong k n d h
    operand_wrong k (Constant w x) d h = absurd (cc)

    gate_wrong : (outer : Operand → Bool) → ((o : Operand) → outer o ≡ true → (operand_value v o == 0) ≡ false → ⊥) → (n : Name) (o : Option Right) → right_of ws n ≡ o
        → gate_denied ws fs outer n o ≡ true → (v.value n == 0) ≡ false → ⊥
    gate_wrong outer wrong n (Some (Choose c t z)) e d h =
        elim (cases_Bool (is_zero z)) [
          | inl q ↦
              let told = choice_told (operand_value v c) (operand_value v t) (operand_value v z) (v.value n) (right_told n (Choose c t z) e).value (zero_value v z q) h in
              or_split (is_clear fs n) (of_name (test_denied tests ws fs) t || outer c) (rw q at d) (λ x. is_off n x h)
              (λ x. or_split (of_name (test_denied tests ws fs) t) (outer c) x (λ y. operand_wrong tests t y told.1) (λ y. wrong c y told.0))
          | inr q ↦ test_wrong tests n (rw q at d) h
        ]
    gate_wrong outer wrong n _ e d h = test_wrong tests n d h

    excluded_wrong : (k : ℕ) (o : Operand) → excluded k ws fs o ≡ true → (operand_value v o == 0) ≡ false → ⊥
    excluded_wrong zero o d h = absurd (cc)
    excluded_wrong (suc k) (Named n) d h =
        elim (cases_Bool (is_set fs n)) [
          | inl t ↦ absurd (let g : false ≡ true = rw t at d in cc)
          | inr f ↦ gate_wrong (excluded k ws fs) (λ o a g. excluded_wrong k o a g) n (right_of ws n) refl (rw f at d) h
        ]
    excluded_wrong (suc k) (Constant w x) d h = absurd (cc)

    nonzero_is : (o : Operand) → nonzero fs o ≡ true → (operand_value v o == 0) ≡ false
    nonzero_is (Named n) h = is_on n h
    nonzero_is (Constant w x) h = not_true (x == 0) h

    right_on : (outer : Operand → Bool) → ((o : Operand) → outer o ≡ true → (operand_value v o == 0) ≡ false) → (n : Name) (o : Option Right) → right_of ws n ≡ o
        → right_opened fs outer o ≡ true → (v.value n == 0) ≡ false
    right_on outer on n (Some (Choose c t z)) e h =
        let p = and_split (nonzero fs t) (outer c) h in
        let around : (operand_value v c == 0) ≡ false = on c p.1 in
        let told = (right_told n (Choose c t z) e).value in
        let g : v.value n ≡ operand_value v t = rw around at told in
        subst (λ (k : ℕ). (k == 0) ≡ false) (sym g) (nonzero_is t p.0)
    right_on outer on n _ e h = absurd (cc)

    named_on : (outer : Operand → Bool) → ((o : Operand) → outer o ≡ true → (operand_value v o == 0) ≡ false) → (o : Operand)
        → named_opened ws fs outer o ≡ true → (operand_value v o == 0) ≡ false
    named_on outer on (Named n) h = right_on outer on n (right_of ws n) refl h
    named_on outer on (Constant w x) h = absurd (cc)

    opened_on : (k : ℕ) (o : Operand) → opened k ws fs o ≡ true → (operand_value v o == 0) ≡ false
    unfolding opened
    opened_on zero o h = absurd (cc)
    opened_on (suc k) o h =
        or_split (nonzero fs o) (named_opened ws fs (opened k ws fs) o) h (λ x. nonzero_is o x) (λ x. named_on (opened k ws fs) (λ p g. opened_on k p g) o x)

    open_is : (o : Operand) → opened gates ws fs o ≡ true → (operand_value v o == 0) ≡ false
    open_is o h = opened_on gates o h

    closed_is : (o : Operand) → excluded gates ws fs o ≡ true → (operand_value v o == 0) ≡ true
    closed_is o h = elim (cases_Bool (operand_value v o == 0)) [ inl t ↦ t | inr f ↦ absurd (excluded_wrong gates o h f) ]

    -- what an operand is seen to be has its number ..
    part_value : (again : Operand → Operand) → ((o : Operand) → operand_value v (again o) ≡ operand_value v o) → (n : Name) (o : Option Right) → right_of ws n ≡ o
        → operand_value v (chosen_part ws fs again (Named n) o) ≡ v.value n
    part_value again same n (Some (Choose c a b)) e =
        let told = (right_told n (Choose c a b) e).value in
        elim (cases_Bool (opened gates ws fs c)) [
          | inl t ↦
              let on = open_is c t in
              let g : v.value n ≡ operand_value v a = rw on at told in
              rw t (same a ∙ sym g)
          | inr f ↦
              elim (cases_Bool (excluded gates ws fs c)) [
                | inl t ↦
                    let off = closed_is c t in
                    let g : v.value n ≡ operand_value v b = rw off at told in
                    rw (f, t) (same b ∙ sym g)
                | inr d ↦ rw (f, d) refl
              ]
        ]
    part_value again same n _ e = refl

    through_value : (k : ℕ) (o : Operand) → operand_value v (seen_through k ws fs o) ≡ operand_value v o
    through_value zero o = refl
    through_value (suc k) (Named n) = part_value (seen_through k ws fs) (λ o. through_value k o) n (right_of ws n) refl
    through_value (suc k) (Constant w x) = refl

    pub seen_value : (o : Operand) → operand_value v (seen ws fs o) ≡ operand_value v o
    seen_value o = through_value choices o

  -- .. and its width
  part_wide : (fs : List Fact) (again : Operand → Operand) → ((o : Operand) → operand_width widths (again o) ≡ operand_width widths o) → (n : Name) (o : Option Right)
      → right_of ws n ≡ o → operand_width widths (chosen_part ws fs again (Named n) o) ≡ widths n
  part_wide fs again same n (Some (Choose c a b)) e =
      let told = (right_told n (Choose c a b) e).wide in
      elim (cases_Bool (opened gates ws fs c)) [
        | inl t ↦ rw t (same a ∙ told.0)
        | inr f ↦ elim (cases_Bool (excluded gates ws fs c)) [ inl t ↦ rw (f, t) (same b ∙ told.1) | inr d ↦ rw (f, d) refl ]
      ]
  part_wide fs again same n _ e = refl

  through_wide : (fs : List Fact) (k : ℕ) (o : Operand) → operand_width widths (seen_through k ws fs o) ≡ operand_width widths o
  through_wide fs zero o = refl
  through_wide fs (suc k) (Named n) = part_wide fs (seen_through k ws fs) (λ o. through_wide fs k o) n (right_of ws n) refl
  through_wide fs (suc k) (Constant w x) = refl

  pub seen_wide : (fs : List Fact) (o : Operand) → operand_width widths (seen ws fs o) ≡ operand_width widths o
  seen_wide fs o = through_wide fs choices o
