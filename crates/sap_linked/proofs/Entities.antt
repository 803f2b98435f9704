-- The names of the inputs of a design differ.
use Rattle.sap_lemmas.proofs.Common.{◌≡◌, ◌⊎◌, ℕ, zero, suc, ◌+◌, ◌<◌, Bool, true, false, List, [], ◌∷◌, map, get_or, length, refl, sym, ◌∙◌, ap, subst, inl, inr, arith, AllByRecursion, bytes_eq, cases_Bool, or_cases, or_right, neither_right, equal_of_bytes_eq}
use Rattle.sap_maps.specs.Maps.{Name}
use Rattle.sap_meaning.specs.Program.{Entity, nothing, kind_is_input}
use Rattle.sap_net.specs.Prelude.{is_among, AreDistinct, value_name, tag_name}
use Rattle.sap_net.specs.declared.parts.PortKind.{PortKind}
use Rattle.sap_net.proofs.NamesLemmas.{among_behind, among_here}
use Rattle.sap_interface.specs.Prelude.{Named, name, Shown, pairs_of}
use Rattle.sap_linked.proofs.Parted.{contradicted}

pub input_low : (es : List Entity) (x : ℕ) → kind_is_input (get_or es x nothing).kind ≡ true → x < length es
input_low [] zero is = cc
input_low [] (suc x) is = cc
input_low (e ∷ es) zero is = omega arith
input_low (e ∷ es) (suc x) is = let l = input_low es x is in omega (arith, l)

pub compared : (x y : ℕ) → (x ≡ y) ⊎ ((x < y) ⊎ (y < x))
compared zero zero = inl refl
compared zero (suc y) = inr (inl (omega arith))
compared (suc x) zero = inr (inr (omega arith))
compared (suc x) (suc y) = elim (compared x y) [
  | inl e ↦ inl (ap suc e)
  | inr s ↦ elim s [ inl l ↦ inr (inl (omega (arith, l))) | inr g ↦ inr (inr (omega (arith, g))) ]
]

module _ (d : Named) (k : PortKind) where
  abbrev pub names_of_pairs : (ℕ → Bool) → ℕ → List Entity → List Name
  names_of_pairs picks n es = map (λ (p : Shown). p.0) (pairs_of picks k d n es)

  -- a picked entity's names stand there
  placed : (picks : ℕ → Bool) (n j : ℕ) (es : List Entity) → j < length es → picks (n + j) ≡ true → is_among (value_name (name d (n + j))) (names_of_pairs picks n es) ≡ true
  placed picks n j [] low is = absurd (omega (arith, low))
  placed picks n zero (e ∷ es) low is =
      let same : n ≡ n + 0 = omega arith in
      let here : picks n ≡ true = ap picks same ∙ is in
      subst (λ (m : ℕ). is_among (value_name (name d m)) (names_of_pairs picks n (e ∷ es)) ≡ true) same
      (rw here (among_here (value_name (name d n)) (tag_name (name d n) ∷ names_of_pairs picks (n + 1) es)))
  placed picks n (suc j) (e ∷ es) low is =
      let same : n + 1 + j ≡ n + suc j = omega arith in
      let rest = subst (λ (m : ℕ). is_among (value_name (name d m)) (names_of_pairs picks (n + 1) es) ≡ true) same
      (placed picks (n + 1) j es (omega (arith, low)) (ap picks same ∙ is)) in
      elim (cases_Bool (picks n)) [
        | inl t ↦ rw t (among_behind (value_name (name d (n + suc j))) (value_name (name d n) ∷ tag_name (name d n) ∷ []) (names_of_pairs picks (n + 1) es) rest)
        | inr q ↦ rw q rest
      ]

  -- so no two picked entities have one name
  pub differ : (picks : ℕ → Bool) (n j l : ℕ) (es : List Entity) → AreDistinct (names_of_pairs picks n es) → j < l → l < length es
      → picks (n + j) ≡ true → picks (n + l) ≡ true → name d (n + j) ≡ name d (n + l) → ⊥
  differ picks n j l [] a less low is other e = omega (arith, low)
  differ picks n j zero (x ∷ es) a less low is other e = omega (arith, less)
  differ picks n zero (suc l) (x ∷ es) a less low is other e =
      let same : n + 1 + l ≡ n + suc l = omega arith in
      let from : n ≡ n + 0 = omega arith in
      let here : picks n ≡ true = ap picks from ∙ is in
      let b : AreDistinct (value_name (name d n) ∷ (tag_name (name d n) ∷ names_of_pairs picks (n + 1) es)) = rw here at a in
      let there = placed picks (n + 1) l es (omega (arith, low)) (ap picks same ∙ other) in
      let one : name d (n + 1 + l) ≡ name d n = ap (name d) same ∙ sym e ∙ ap (name d) (sym from) in
      let there_too : is_among (value_name (name d n)) (names_of_pairs picks (n + 1) es) ≡ true =
      subst (λ (y : Name). is_among (value_name y) (names_of_pairs picks (n + 1) es) ≡ true) one there in
      contradicted (is_among (value_name (name d n)) (names_of_pairs picks (n + 1) es))
      (neither_right (bytes_eq (value_name (name d n)) (tag_name (name d n))) (is_among (value_name (name d n)) (names_of_pairs picks (n + 1) es)) b.0) there_too
  differ picks n (suc j) (suc l) (x ∷ es) a less low is other e =
      let first : n + 1 + j ≡ n + suc j = omega arith in
      let second : n + 1 + l ≡ n + suc l = omega arith in
      let rest : AreDistinct (names_of_pairs picks (n + 1) es) =
      elim (cases_Bool (picks n)) [
        | inl t ↦ (let b : AreDistinct (value_name (name d n) ∷ (tag_name (name d n) ∷ names_of_pairs picks (n + 1) es)) =
            rw t at a in b.1.1)
        | inr q ↦ rw q at a
      ] in
      differ picks (n + 1) j l es rest (omega (arith, less)) (omega (arith, low)) (ap picks first ∙ is) (ap picks second ∙ other) (ap (name d) first ∙ e ∙ ap (name d) (sym second))

  -- ---- entities of which fewer are picked

  module _ (picks fewer : ℕ → Bool) (follows : (x : ℕ) → fewer x ≡ true → picks x ≡ true) where
    pub still_among : (z : Name) (n : ℕ) (es : List Entity) → is_among z (names_of_pairs fewer n es) ≡ true → is_among z (names_of_pairs picks n es) ≡ true
    still_among z n [] h = h
    still_among z n (e ∷ es) h =
        elim (cases_Bool (fewer n)) [
          | inl t ↦
              let b : is_among z (value_name (name d n) ∷ (tag_name (name d n) ∷ names_of_pairs fewer (n + 1) es)) ≡ true = rw t at h in
              rw (follows n t) (elim (or_cases (bytes_eq z (value_name (name d n))) (is_among z (tag_name (name d n) ∷ names_of_pairs fewer (n + 1) es)) b) [
                | inl v ↦ rw v refl
                | inr r ↦ or_right (bytes_eq z (value_name (name d n))) _ (elim (or_cases (bytes_eq z (tag_name (name d n))) (is_among z (names_of_pairs fewer (n + 1) es)) r) [
                  | inl g ↦ rw g refl
                  | inr s ↦ or_right (bytes_eq z (tag_name (name d n))) _ (still_among z (n + 1) es s)
                ])
              ])
          | inr q ↦
              let rest = still_among z (n + 1) es (rw q at h) in
              elim (cases_Bool (picks n)) [
                | inl t ↦ rw t (among_behind z (value_name (name d n) ∷ tag_name (name d n) ∷ []) (names_of_pairs picks (n + 1) es) rest)
                | inr p ↦ rw p rest
              ]
        ]

    absent : (z : Name) (n : ℕ) (es : List Entity) → is_among z (names_of_pairs picks n es) ≡ false → is_among z (names_of_pairs fewer n es) ≡ false
    absent z n es h = elim (cases_Bool (is_among z (names_of_pairs fewer n es))) [
      | inl t ↦ absurd (contradicted (is_among z (names_of_pairs picks n es)) h (still_among z n es t))
      | inr q ↦ q
    ]

    pub still_distinct : (n : ℕ) (es : List Entity) → AreDistinct (names_of_pairs picks n es) → AreDistinct (names_of_pairs fewer n es)
    still_distinct n [] a = tt
    still_distinct n (e ∷ es) a =
        elim (cases_Bool (fewer n)) [
          | inl t ↦
              let b : AreDistinct (value_name (name d n) ∷ (tag_name (name d n) ∷ names_of_pairs picks (n + 1) es)) = rw (follows n t) at a in
              rw t (
                rw (absent (value_name (name d n)) (n + 1) es (neither_right (bytes_eq (value_name (name d n)) (tag_name (name d n))) _ b.0)) refl,
                (absent (tag_name (name d n)) (n + 1) es b.1.0, still_distinct (n + 1) es b.1.1),
              )
          | inr q ↦
              let rest : AreDistinct (names_of_pairs picks (n + 1) es) =
              elim (cases_Bool (picks n)) [
                | inl t ↦ (let b : AreDistinct
                    (value_name (name d n) ∷ (tag_name (name d n) ∷ names_of_pairs picks (n + 1) es)) = rw t at a in b.1.1)
                | inr p ↦ rw p at a
              ] in
              rw q (still_distinct (n + 1) es rest)
        ]

  -- what stands there is a name of a picked entity
  pub of_pair : (picks : ℕ → Bool) (z : Name) (n : ℕ) (es : List Entity) → is_among z (names_of_pairs picks n es) ≡ true → (x : ℕ)
      × (picks x ≡ true) × ((z ≡ value_name (name d x)) ⊎ (z ≡ tag_name (name d x)))
  of_pair picks z n [] h = absurd (cc)
  of_pair picks z n (e ∷ es) h =
      elim (cases_Bool (picks n)) [
        | inl t ↦
            let b : is_among z (value_name (name d n) ∷ (tag_name (name d n) ∷ names_of_pairs picks (n + 1) es)) ≡ true = rw t at h in
            elim (or_cases (bytes_eq z (value_name (name d n))) (is_among z (tag_name (name d n) ∷ names_of_pairs picks (n + 1) es)) b) [
              | inl v ↦ (n, t, inl (equal_of_bytes_eq z (value_name (name d n)) v))
              | inr r ↦ elim (or_cases (bytes_eq z (tag_name (name d n))) (is_among z (names_of_pairs picks (n + 1) es)) r) [
                | inl g ↦ (n, t, inr (equal_of_bytes_eq z (tag_name (name d n)) g))
                | inr s ↦ of_pair picks z (n + 1) es s
              ]
            ]
        | inr q ↦ of_pair picks z (n + 1) es (rw q at h)
      ]

-- what holds of the names of each input of a design holds of all
pub of_pairs : (Q : Name → Type 0) (picks : ℕ → Bool) (k : PortKind) (d : Named)
    → ((x : ℕ) → picks x ≡ true → Q (value_name (name d x)) × Q (tag_name (name d x))) → (n : ℕ) (es : List Entity)
    → AllByRecursion Q (map (λ (p : Shown). p.0) (pairs_of picks k d n es))
of_pairs Q picks k d h n [] = tt
of_pairs Q picks k d h n (e ∷ es) =
    elim (cases_Bool (picks n)) [
      | inl t ↦ rw t ((h n t).0, ((h n t).1, of_pairs Q picks k d h (n + 1) es))
      | inr q ↦ rw q (of_pairs Q picks k d h (n + 1) es)
    ]
