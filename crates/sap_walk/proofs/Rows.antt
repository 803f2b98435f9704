-- What the rows of a table say of the walk.
use Rattle.std.proofs.Common.{◌≡◌, List, [], ◌∷◌, ◌++◌, Ok, Err, Bool, true, false, refl, sym, ap, ◌∙◌}
use Rattle.std.proofs.lemmas.List.{append-nil}
use Rattle.sap_walk.specs.Rows.{first_then, firsts}
use Rattle.sap_walk.specs.Walk.{Next, begins, empty_here, cannot_stand, Table, at_token, Move, not_needed, rejected, chosen, entered, if_empty, Point, settle, at_end, walk, read, steps}
use Rattle.sap_walk.proofs.Walking.{after, walk_steps}

module _ (W : Table) where
  -- whether each of the symbols may be empty
  abbrev pub all_empty : List W.Symbol → Bool
  all_empty [] = true
  all_empty (s ∷ γ) = if_empty (W.may_be_empty s) (all_empty γ) false

  abbrev as_move : W.Token → W.Past → Next W.Symbol W.Role → Move W.Past W.Symbol W.Limit
  as_move t past n = chosen n (λ role σ. entered (W.enter role t past) σ) not_needed rejected

  pub settle_firsts : (t : W.Token) (past : W.Past) (γ : List W.Symbol) → settle W t past γ ≡ as_move t past (firsts (λ s. W.next s t) γ)
  unfolding settle
  settle_firsts t past [] = refl
  settle_firsts t past (s ∷ γ) = by_next (W.next s t) (settle_firsts t past γ) where
    by_next : (n : Next W.Symbol W.Role) → settle W t past γ ≡ as_move t past (firsts (λ s. W.next s t) γ)
        → chosen n (λ role σ. entered (W.enter role t past) (σ ++ γ)) (settle W t past γ) rejected ≡ as_move t past (first_then n γ (firsts (λ s. W.next s t) γ))
    by_next (begins role σ) e = refl
    by_next empty_here e = e
    by_next cannot_stand e = refl

  -- at a token that does with the symbol what it does with the others
  pub read_as : (s : W.Symbol) (γ : List W.Symbol) (t : W.Token) (ts : List W.Token) (past : W.Past) → W.next s t ≡ firsts (λ x. W.next x t) γ
      → read W s (record { past = past; left = t ∷ ts }) ≡ steps W γ (record { past = past; left = t ∷ ts })
  unfolding read walk
  read_as s γ t ts past e =
      ap (λ m. after W t ts past m)
      (settle_firsts t past (s ∷ []) ∙ ap (as_move t past) (alone (W.next s t)) ∙ ap (as_move t past) e ∙ sym (settle_firsts t past γ))
      ∙ walk_steps W γ (record { past = past; left = t ∷ ts }) where
        alone : (n : Next W.Symbol W.Role) → first_then n [] empty_here ≡ n
        alone (begins role σ) = ap (λ x. begins role x) (append-nil σ)
        alone empty_here = refl
        alone cannot_stand = refl

  end_of : (past : W.Past) (γ : List W.Symbol)
      → at_end W past γ ≡ if_empty (all_empty γ) (Ok (record { past = past; left = [] })) (Err (at_token (record { past = past; left = [] })))
  unfolding at_end
  end_of past [] = refl
  end_of past (s ∷ γ) = by_empty (W.may_be_empty s) (end_of past γ) where
    by_empty : (b : Bool) → at_end W past γ ≡ if_empty (all_empty γ) (Ok (record { past = past; left = [] })) (Err (at_token (record { past = past; left = [] })))
        → if_empty b (at_end W past γ) (Err (at_token (record { past = past; left = [] })))
        ≡ if_empty (if_empty b (all_empty γ) false) (Ok (record { past = past; left = [] })) (Err (at_token (record { past = past; left = [] })))
    by_empty true e = e
    by_empty false e = refl

  -- at the end of the text
  pub end_as : (s : W.Symbol) (γ : List W.Symbol) (past : W.Past) → W.may_be_empty s ≡ all_empty γ
      → read W s (record { past = past; left = [] }) ≡ steps W γ (record { past = past; left = [] })
  unfolding read walk
  end_as s γ past e =
      end_of past (s ∷ []) ∙ ap (λ b. if_empty b (Ok (record { past = past; left = [] })) (Err (at_token (record { past = past; left = [] })))) (alone (W.may_be_empty s) ∙ e)
      ∙ sym (end_of past γ) ∙ walk_steps W γ (record { past = past; left = [] }) where
        alone : (b : Bool) → if_empty b true false ≡ b
        alone true = refl
        alone false = refl

  -- a symbol that stands for others
  pub becomes : (s : W.Symbol) (γ : List W.Symbol) → ((t : W.Token) → W.next s t ≡ firsts (λ x. W.next x t) γ) → W.may_be_empty s ≡ all_empty γ
      → (p : Point W) → read W s p ≡ steps W γ p
  becomes s γ h e p = by_left p.left p.past where
    by_left : (ts : List W.Token) (past : W.Past) → read W s (record { past = past; left = ts }) ≡ steps W γ (record { past = past; left = ts })
    by_left [] past = end_as s γ past e
    by_left (t ∷ ts) past = read_as s γ t ts past (h t)
