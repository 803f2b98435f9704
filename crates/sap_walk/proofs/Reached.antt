-- A text has one list of tokens, or one first byte at which none stands.
use Rattle.std.proofs.Common.{◌≡◌, ◌<◌, ◌≤◌, ◌+◌, ◌⊎◌, ℕ, List, [], ◌∷◌, ◌++◌, inl, inr, refl, sym, subst, arith}
use Rattle.sap_walk.specs.Reached.{Reached, start, blank, token}

module _ {Token : Type 0} (Blank : ℕ → ℕ → Type 0) (Stands : ℕ → Token → ℕ → Type 0) where
  -- at most one thing stands at each byte, and it isn't empty
  pub record IsLexer : Type 0 where
    pub blank_length : {n len : ℕ} → Blank n len → 0 < len
    pub token_length : {n len : ℕ} {t : Token} → Stands n t len → 0 < len
    pub one_blank : {n len len' : ℕ} → Blank n len → Blank n len' → len ≡ len'
    pub one_token : {n len len' : ℕ} {t t' : Token} → Stands n t len → Stands n t' len' → (t ≡ t') × (len ≡ len')
    pub apart : {n len len' : ℕ} {t : Token} → Blank n len → Stands n t len' → ⊥

  -- from one place on to a later one
  data Follows : ℕ → List Token → ℕ → List Token → Type 0 where
    here : {n : ℕ} {ts : List Token} → Follows n ts n ts
    over_blank : {n m : ℕ} {ts us : List Token} (len : ℕ) → Blank n len → Follows (n + len) ts m us → Follows n ts m us
    over_token : {n m : ℕ} {ts us : List Token} (t : Token) (len : ℕ) → Stands n t len → Follows (n + len) (ts ++ t ∷ []) m us → Follows n ts m us

  blank_last : {n m : ℕ} {ts us : List Token} (len : ℕ) → Follows n ts m us → Blank m len → Follows n ts (m + len) us
  blank_last len here b = over_blank len b here
  blank_last len (over_blank l c h) b = over_blank l c (blank_last len h b)
  blank_last len (over_token t l c h) b = over_token t l c (blank_last len h b)

  token_last : {n m : ℕ} {ts us : List Token} (t : Token) (len : ℕ) → Follows n ts m us → Stands m t len → Follows n ts (m + len) (us ++ t ∷ [])
  token_last t len here b = over_token t len b here
  token_last t len (over_blank l c h) b = over_blank l c (token_last t len h b)
  token_last t len (over_token u l c h) b = over_token u l c (token_last t len h b)

  from_start : {n : ℕ} {ts : List Token} → Reached Blank Stands n ts → Follows 0 [] n ts
  from_start start = here
  from_start (blank len h b) = blank_last len (from_start h) b
  from_start (token t len h b) = token_last t len (from_start h) b

  module _ (lexer : IsLexer) where
    not_back : {n m : ℕ} {ts us : List Token} → Follows n ts m us → n ≤ m
    not_back here = omega arith
    not_back (over_blank len b h) = omega (arith, not_back h)
    not_back (over_token t len b h) = omega (arith, not_back h)

    after_blank : {n m : ℕ} {ts us : List Token} (len : ℕ) → Blank n len → Follows n ts m us → (n ≡ m) ⊎ Follows (n + len) ts m us
    after_blank len b here = inl refl
    after_blank {n} {m} {ts} {us} len b (over_blank l c h) = inr (subst (λ k. Follows (n + k) ts m us) (lexer.one_blank c b) h)
    after_blank len b (over_token t l c h) = absurd (lexer.apart b c)

    after_token : {n m : ℕ} {ts us : List Token} (t : Token) (len : ℕ) → Stands n t len → Follows n ts m us → (n ≡ m) ⊎ Follows (n + len) (ts ++ t ∷ []) m us
    after_token t len b here = inl refl
    after_token t len b (over_blank l c h) = absurd (lexer.apart c b)
    after_token {n} {m} {ts} {us} t len b (over_token u l c h) =
        let both = lexer.one_token c b in
        inr (subst (λ k. Follows (n + k) (ts ++ t ∷ []) m us) both.1 (subst (λ v. Follows (n + l) (ts ++ v ∷ []) m us) both.0 h))

    same_place : {n m : ℕ} {ts us : List Token} → Follows n ts m us → n ≡ m → ts ≡ us
    same_place here e = refl
    same_place (over_blank len b h) e = absurd (omega (arith, not_back h, lexer.blank_length b))
    same_place (over_token t len b h) e = absurd (omega (arith, not_back h, lexer.token_length b))

    -- of two places that are reached one follows the other
    Along : ℕ → List Token → ℕ → List Token → Type 0
    Along n ts m us = Follows n ts m us ⊎ Follows m us n ts

    blank_along : {n m : ℕ} {ts us : List Token} (len : ℕ) → Blank n len → Follows n ts m us → Along (n + len) ts m us
    unfolding Along
    blank_along {n} {m} {ts} {us} len b h = by_order (after_blank len b h) where
      by_order : (n ≡ m) ⊎ Follows (n + len) ts m us → Follows (n + len) ts m us ⊎ Follows m us (n + len) ts
      by_order (inl e) = inr (over_blank len (subst (λ k. Blank k len) e b)
          (subst (λ k. Follows (k + len) us (n + len) ts) e (subst (λ l. Follows (n + len) l (n + len) ts) (same_place h e) here)))
      by_order (inr g) = inl g

    token_along : {n m : ℕ} {ts us : List Token} (t : Token) (len : ℕ) → Stands n t len → Follows n ts m us → Along (n + len) (ts ++ t ∷ []) m us
    unfolding Along
    token_along {n} {m} {ts} {us} t len b h = by_order (after_token t len b h) where
      by_order : (n ≡ m) ⊎ Follows (n + len) (ts ++ t ∷ []) m us → Follows (n + len) (ts ++ t ∷ []) m us ⊎ Follows m us (n + len) (ts ++ t ∷ [])
      by_order (inl e) =
          inr (over_token t len (subst (λ k. Stands k t len) e b)
          (subst (λ k. Follows (k + len) (us ++ t ∷ []) (n + len) (ts ++ t ∷ [])) e (subst (λ l. Follows (n + len) (l ++ t ∷ []) (n + len) (ts ++ t ∷ [])) (same_place h e) here)))
      by_order (inr g) = inl g

    along : {n m : ℕ} {ts us : List Token} → Reached Blank Stands n ts → Reached Blank Stands m us → Along n ts m us
    unfolding Along
    along start g = inl (from_start g)
    along {m = m} {us = us} (blank {n} {ts} len h b) g = by_order (along h g) where
      by_order : Follows n ts m us ⊎ Follows m us n ts → Follows (n + len) ts m us ⊎ Follows m us (n + len) ts
      by_order (inl f) = blank_along len b f
      by_order (inr f) = inr (blank_last len f b)
    along {m = m} {us = us} (token {n} {ts} t len h b) g = by_order (along h g) where
      by_order : Follows n ts m us ⊎ Follows m us n ts → Follows (n + len) (ts ++ t ∷ []) m us ⊎ Follows m us (n + len) (ts ++ t ∷ [])
      by_order (inl f) = token_along t len b f
      by_order (inr f) = inr (token_last t len f b)

    -- nothing stands there
    pub record IsEnd (n : ℕ) : Type 0 where
      pub no_blank : (len : ℕ) → Blank n len → ⊥
      pub no_token : (t : Token) (len : ℕ) → Stands n t len → ⊥

    stays : {n m : ℕ} {ts us : List Token} → IsEnd n → Follows n ts m us → (n ≡ m) × (ts ≡ us)
    stays e here = (refl, refl)
    stays e (over_blank len b h) = absurd (e.no_blank len b)
    stays e (over_token t len b h) = absurd (e.no_token t len b)

    -- one place is reached where nothing stands, by one list of tokens
    pub one_end : {n m : ℕ} {ts us : List Token} → Reached Blank Stands n ts → Reached Blank Stands m us → IsEnd n → IsEnd m → (n ≡ m) × (ts ≡ us)
    unfolding Along
    one_end {n} {m} {ts} {us} h g e f = by_order (along h g) where
      by_order : Follows n ts m us ⊎ Follows m us n ts → (n ≡ m) × (ts ≡ us)
      by_order (inl x) = stays e x
      by_order (inr x) = let both = stays f x in (sym both.0, sym both.1)
