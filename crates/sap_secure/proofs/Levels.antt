-- Levels at or below l, and those that are not.
use Rattle.sap_lemmas.proofs.Common.{◌≡◌, ℕ, true, false, List, [], ◌∷◌, ◌++◌, refl, sym, ap, ◌∙◌, inl, inr, cases_Bool}
use Rattle.sap_lattice.specs.Order.{Order, Laws}
use Rattle.sap_meaning.specs.Prelude.{Refusal, seen, Low, High}

-- the same level, or both not at or below l
abbrev pub Like : Order → ℕ → ℕ → ℕ → Type 0
Like o l a b = (o.le a l ≡ o.le b l) × (o.le a l ≡ true → a ≡ b)

-- a number with its level, and another
pub record Same (o : Order) (l n t m u : ℕ) : Type 0 where
  pub low : o.le t l ≡ o.le u l
  pub number : o.le t l ≡ true → n ≡ m
  pub level : o.le t l ≡ true → t ≡ u

module _ (o : Order) (laws : Laws o) (l : ℕ) where
  pub high_above : (x y : ℕ) → o.le x y ≡ true → High o l x → High o l y
  high_above x y up high = elim (cases_Bool (o.le y l)) [ inl h ↦ cc (laws.trans x y l up h) | inr h ↦ h ]

  pub low_below : (x y : ℕ) → o.le x y ≡ true → Low o l y → Low o l x
  low_below x y up low = laws.trans x y l up low

  pub high_left : (x y : ℕ) → High o l x → High o l (o.join x y)
  high_left x y high = high_above x (o.join x y) (laws.left x y) high

  pub high_right : (x y : ℕ) → High o l y → High o l (o.join x y)
  high_right x y high = high_above y (o.join x y) (laws.right x y) high

  pub low_join : (x y : ℕ) → Low o l x → Low o l y → Low o l (o.join x y)
  low_join x y a b = laws.least x y l a b

  pub low_left : (x y : ℕ) → Low o l (o.join x y) → Low o l x
  low_left x y h = low_below x _ (laws.left x y) h

  pub low_right : (x y : ℕ) → Low o l (o.join x y) → Low o l y
  low_right x y h = low_below y _ (laws.right x y) h

  -- what is not at or below l is not at or below what is
  pub not_below : (x y : ℕ) → High o l x → Low o l y → o.le x y ≡ false
  not_below x y h low = elim (cases_Bool (o.le x y)) [ inl e ↦ cc (laws.trans x y l e low) | inr e ↦ e ]

  pub same_high : (n t m u : ℕ) → High o l t → High o l u → Same o l n t m u
  same_high n t m u a b = record { low = cc; number = λ h. cc; level = λ h. cc }

  pub same_self : (n t : ℕ) → Same o l n t n t
  same_self n t = record { low = refl; number = λ h. refl; level = λ h. refl }

  pub same_flip : (n t m u : ℕ) → Same o l n t m u → Same o l m u n t
  same_flip n t m u r = record { low = sym r.low; number = λ h. sym (r.number (r.low ∙ h)); level = λ h. sym (r.level (r.low ∙ h)) }

  pub same_next : (n t m u k v : ℕ) → Same o l n t m u → Same o l m u k v → Same o l n t k v
  same_next n t m u k v r q = record {
    low = r.low ∙ q.low;
    number = λ h. r.number h ∙ q.number (sym r.low ∙ h);
    level = λ h. r.level h ∙ q.level (sym r.low ∙ h);
  }

  -- raises by levels that are equal or both high
  pub same_raised : (n t m u a b : ℕ) → Same o l n t m u → Like o l a b → Same o l n (o.join t a) m (o.join u b)
  same_raised n t m u a b r f = elim (cases_Bool (o.le a l)) [
    | inl h ↦ elim (cases_Bool (o.le t l)) [
      | inl k ↦ (let x = r.level k in let v = r.number k in let y = f.1 h in record { low = cc; number = λ _. v; level = λ _. cc })
      | inr k ↦ same_high n _ m _ (high_left t a k) (high_left u b (sym r.low ∙ k))
    ]
    | inr h ↦ same_high n _ m _ (high_right t a h) (high_right u b (sym f.0 ∙ h))
  ]

  pub seen-append : (a b : List Refusal) → seen o l (a ++ b) ≡ seen o l a ++ seen o l b
  seen-append [] b = refl
  seen-append (r ∷ a) b = elim (cases_Bool (o.le r.level l)) [ inl h ↦ rw h (ap (λ rs. r ∷ rs) (seen-append a b)) | inr h ↦ rw h (seen-append a b) ]

  pub seen_nothing : (a b : List Refusal) → seen o l a ≡ [] → seen o l b ≡ [] → seen o l (a ++ b) ≡ []
  seen_nothing a b e f = seen-append a b ∙ rw (e, f) refl

  pub seen_parts : (a b c d : List Refusal) → seen o l a ≡ seen o l c → seen o l b ≡ seen o l d → seen o l (a ++ b) ≡ seen o l (c ++ d)
  seen_parts a b c d e f = seen-append a b ∙ rw (e, f) refl ∙ sym (seen-append c d)
