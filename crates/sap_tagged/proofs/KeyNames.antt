-- Different keys have different names.
use Rattle.sap_lemmas.proofs.Common.{◌≡◌, ℕ, ◌<◌, [], ◌∷◌, Bool, true, false, refl, sym, ap, ◌∙◌, subst, arith, nat_lt, nat_eq, inl, inr, bytes_eq, if◌then◌else◌, list_all, is_ascii_digit, cases_Bool, eqb-true, eq-eqb, and_parts, false_from_ne_true, common_steps, iff_same, true_is_not_false, test_symmetric, bytes_eq_same, equal_of_bytes_eq}
use Rattle.sap_maps.specs.Maps.{Name}
use Rattle.sap_meaning.specs.Program.{root}
use Rattle.sap_tree.specs.Words.{is_name}
use Rattle.sap_tree.specs.declared.version.Version.TheVariants.{One}
use Rattle.sap_net.specs.Names.{is_initial, is_word}
use Rattle.sap_interface.specs.StandsFor.{Named, name, world}
use Rattle.sap_tagged.specs.Keys.{Key, value_key, tag_key, seat_key, refused_key, level_key, wire_key, first_key, inner_key, same, numeral, entity_word, seat_word, key_name}
use Rattle.sap_tagged.proofs.Numerals.{numeral_injective, numeral_digits, numeral_zero}

numerals_apart : (j k : ℕ) → bytes_eq (numeral j) (numeral k) ≡ nat_eq j k
numerals_apart j k =
    iff_same (bytes_eq (numeral j) (numeral k)) (nat_eq j k)
    (λ h. eq-eqb j k (numeral_injective j k (equal_of_bytes_eq (numeral j) (numeral k) h)))
    (λ h. subst (λ (i : ℕ). bytes_eq (numeral j) (numeral i) ≡ true) (eqb-true j k h) (bytes_eq_same (numeral j)))

-- entities have names of their own, which are words, and which the design language takes as names
pub record NamesApart (d : Named) : Type 0 where
  pub apart : (x y : ℕ) → nat_lt x (root (world d)) ≡ true → nat_lt y (root (world d)) ≡ true → bytes_eq (name d x) (name d y) ≡ nat_eq x y
  pub words : (x : ℕ) → nat_lt x (root (world d)) ≡ true → is_word (name d x) ≡ true
  pub named : (x : ℕ) → nat_lt x (root (world d)) ≡ true → is_name One (name d x) ≡ true

-- digits are no word
no_initial : (c : ℕ) → is_ascii_digit c ≡ true → is_initial c ≡ false
no_initial c h = grind (arith, common_steps)

no_word : (n : Name) → list_all is_ascii_digit n ≡ true → is_word n ≡ false
no_word [] h = refl
no_word (c ∷ cs) h = rw (no_initial c (and_parts (is_ascii_digit c) (list_all is_ascii_digit cs) h).0) refl

outside : (x n : ℕ) → nat_lt x n ≡ false → nat_eq x n ≡ false → n < x
outside x n h e = grind (arith, common_steps)

in_and_out : (x y n : ℕ) → nat_lt x n ≡ true → nat_lt y n ≡ false → nat_eq x y ≡ false
in_and_out x y n h k = grind (arith, common_steps)

module _ (d : Named) (names : NamesApart d) where
  abbrev n : ℕ
  n = root (world d)

  word_no_numeral : (x y : ℕ) → nat_lt x n ≡ true → name d x ≡ numeral y → ⊥
  word_no_numeral x y h e = true_is_not_false (sym (names.words x h) ∙ ap is_word e ∙ no_word (numeral y) (numeral_digits y))

  entities_apart : (x y : ℕ) → bytes_eq (entity_word d x) (entity_word d y) ≡ nat_eq x y
  entities_apart x y = elim (cases_Bool (nat_lt x n)) [
    | inl i ↦ elim (cases_Bool (nat_lt y n)) [
      | inl j ↦ rw (i, j) (names.apart x y i j)
      | inr j ↦ rw (i, j) (false_from_ne_true (bytes_eq (name d x) (numeral y))
          (λ e. word_no_numeral x y i (equal_of_bytes_eq (name d x) (numeral y) e)) ∙ sym (in_and_out x y n i j))
    ]
    | inr i ↦ elim (cases_Bool (nat_lt y n)) [
      | inl j ↦ rw (i, j) (false_from_ne_true (bytes_eq (numeral x) (name d y))
          (λ e. word_no_numeral y x j (sym (equal_of_bytes_eq (numeral x) (name d y) e))) ∙ sym (test_symmetric x y ∙ in_and_out y x n j i))
      | inr j ↦ rw (i, j) (numerals_apart x y)
    ]
  ]

  -- the root's word is no entity's
  root_word : (q : ℕ) → nat_eq q n ≡ false → 48 ∷ [] ≡ entity_word d q → ⊥
  root_word q j e = elim (cases_Bool (nat_lt q n)) [
    | inl i ↦ word_no_numeral q 0 i (sym (e ∙ ap (λ (b : Bool). if b then name d q else numeral q) i) ∙ sym numeral_zero)
    | inr i ↦
        (let l : n < q = outside q n i j in
        let z : 0 ≡ q = numeral_injective 0 q (numeral_zero ∙ e ∙ ap (λ (b : Bool). if b then name d q else numeral q) i) in
        omega (arith, l, z))
  ]

  seats_apart : (p q : ℕ) → bytes_eq (seat_word d p) (seat_word d q) ≡ nat_eq p q
  seats_apart p q = elim (cases_Bool (nat_eq p n)) [
    | inl i ↦ elim (cases_Bool (nat_eq q n)) [
      | inl j ↦ rw (i, j) (sym (eq-eqb p q (eqb-true p n i ∙ sym (eqb-true q n j))))
      | inr j ↦
          rw (i, j)
          (false_from_ne_true (bytes_eq (48 ∷ []) (entity_word d q)) (λ e. root_word q j (equal_of_bytes_eq (48 ∷ []) (entity_word d q) e))
          ∙ sym (ap (λ (z : ℕ). nat_eq z q) (eqb-true p n i) ∙ test_symmetric n q ∙ j))
    ]
    | inr i ↦ elim (cases_Bool (nat_eq q n)) [
      | inl j ↦
          rw (i, j)
          (false_from_ne_true (bytes_eq (entity_word d p) (48 ∷ [])) (λ e. root_word p i (sym (equal_of_bytes_eq (entity_word d p) (48 ∷ []) e)))
          ∙ sym (ap (nat_eq p) (eqb-true q n j) ∙ i))
      | inr j ↦ rw (i, j) (entities_apart p q)
    ]
  ]

  pub names_apart : (a b : Key) → bytes_eq (key_name d a) (key_name d b) ≡ same a b
  names_apart (value_key x) (value_key y) = entities_apart x y
  names_apart (tag_key x) (tag_key y) = entities_apart x y
  names_apart (seat_key x) (seat_key y) = seats_apart x y
  names_apart (refused_key x) (refused_key y) = numerals_apart x y
  names_apart (level_key x) (level_key y) = numerals_apart x y
  names_apart (wire_key x) (wire_key y) = numerals_apart x y
  names_apart (first_key x) (first_key y) = numerals_apart x y
  names_apart (inner_key x) (inner_key y) = numerals_apart x y
  names_apart _ _ = refl

pub same_is : (a b : Key) → same a b ≡ true → a ≡ b
same_is (value_key x) (value_key y) h = ap value_key (eqb-true x y h)
same_is (tag_key x) (tag_key y) h = ap tag_key (eqb-true x y h)
same_is (seat_key p) (seat_key q) h = ap seat_key (eqb-true p q h)
same_is (refused_key j) (refused_key k) h = ap refused_key (eqb-true j k h)
same_is (level_key j) (level_key k) h = ap level_key (eqb-true j k h)
same_is (wire_key j) (wire_key k) h = ap wire_key (eqb-true j k h)
same_is (first_key m) (first_key n) h = ap first_key (eqb-true m n h)
same_is (inner_key s) (inner_key t) h = ap inner_key (eqb-true s t h)
same_is _ _ h = cc
