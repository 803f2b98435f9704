-- Laws of the walk.
use Rattle.std.proofs.Common.{◌≡◌, List, [], ◌∷◌, ◌++◌, Result, Ok, Err, Bool, true, false, refl, sym, ap, ◌∙◌, append_assoc}
use Rattle.std.proofs.lemmas.List.{append-nil}
use Rattle.sap_walk.specs.Walk.{Next, begins, empty_here, cannot_stand, Table, at_token, at_limit, Move, moved_past, not_needed, rejected, breaks_limit, ◌>>=◌, chosen, moved, entered, if_empty, Point, Outcome, settle, at_end, walk, read, steps}

pub bind_ok : {S E : Type 0} (o : Result S E) (f : S → Result S E) (p : S) → o ≡ Ok p → (o >>= f) ≡ f p
bind_ok o f p e = ap (λ x. x >>= f) e

pub bind_err : {S E : Type 0} (o : Result S E) (f : S → Result S E) (e : E) → o ≡ Err e → (o >>= f) ≡ Err e
bind_err o f e q = ap (λ x. x >>= f) q

pub bind_pure : {S E : Type 0} (o : Result S E) → (o >>= λ p. Ok p) ≡ o
bind_pure (Ok p) = refl
bind_pure (Err e) = refl

pub bind_same : {S E : Type 0} (o : Result S E) (f g : S → Result S E) → ((p : S) → f p ≡ g p) → (o >>= f) ≡ (o >>= g)
bind_same (Ok p) f g h = h p
bind_same (Err e) f g h = refl

pub bind_bind : {S E : Type 0} (o : Result S E) (f g : S → Result S E) → ((o >>= f) >>= g) ≡ (o >>= λ p. f p >>= g)
bind_bind (Ok p) f g = refl
bind_bind (Err e) f g = refl

-- what is to come behind: where the token is not needed before it, it decides
abbrev pub then_with : {Past Symbol Limit : Type 0} → Move Past Symbol Limit → List Symbol → Move Past Symbol Limit → Move Past Symbol Limit
then_with (moved_past past σ) γ m = moved_past past (σ ++ γ)
then_with not_needed γ m = m
then_with rejected γ m = rejected
then_with (breaks_limit limit) γ m = breaks_limit limit

module _ (W : Table) where
  pub settle_append : (t : W.Token) (past : W.Past) (α γ : List W.Symbol) → settle W t past (α ++ γ) ≡ then_with (settle W t past α) γ (settle W t past γ)
  unfolding settle
  settle_append t past [] γ = refl
  settle_append t past (s ∷ α) γ = by_next (W.next s t) (settle_append t past α γ) where
    by_enter : (r : Result W.Past W.Limit) (σ : List W.Symbol) → entered r (σ ++ (α ++ γ)) ≡ then_with (entered r (σ ++ α)) γ (settle W t past γ)
    by_enter (Ok q) σ = ap (λ x. moved_past q x) (sym (append_assoc σ α γ))
    by_enter (Err limit) σ = refl

    by_next : (n : Next W.Symbol W.Role) → settle W t past (α ++ γ) ≡ then_with (settle W t past α) γ (settle W t past γ)
        → chosen n (λ role σ. entered (W.enter role t past) (σ ++ (α ++ γ))) (settle W t past (α ++ γ)) rejected
        ≡ then_with (chosen n (λ role σ. entered (W.enter role t past) (σ ++ α)) (settle W t past α) rejected) γ (settle W t past γ)
    by_next (begins role σ) e = by_enter (W.enter role t past) σ
    by_next empty_here e = e
    by_next cannot_stand e = refl

  end_append : (past : W.Past) (α γ : List W.Symbol) → at_end W past (α ++ γ) ≡ (at_end W past α >>= λ p. walk W p.left p.past γ)
  unfolding walk at_end
  end_append past [] γ = refl
  end_append past (s ∷ α) γ = by_empty (W.may_be_empty s) (end_append past α γ) where
    by_empty : (b : Bool) → at_end W past (α ++ γ) ≡ (at_end W past α >>= λ p. walk W p.left p.past γ)
        → if_empty b (at_end W past (α ++ γ)) (Err (at_token (record { past = past; left = [] })))
        ≡ (if_empty b (at_end W past α) (Err (at_token (record { past = past; left = [] }))) >>= λ p. walk W p.left p.past γ)
    by_empty true h = h
    by_empty false h = refl

  -- what the walk does after a move
  abbrev pub after : W.Token → List W.Token → W.Past → Move W.Past W.Symbol W.Limit → Outcome W
  after t ts past m =
      moved m
      (λ q σ. walk W ts q σ)
      (Ok (record { past = past; left = t ∷ ts }))
      (Err (at_token (record { past = past; left = t ∷ ts })))
      (λ limit. Err (at_limit limit (record { past = past; left = t ∷ ts })))

  pub walk_append : (ts : List W.Token) (past : W.Past) (α γ : List W.Symbol) → walk W ts past (α ++ γ) ≡ (walk W ts past α >>= λ p. walk W p.left p.past γ)
  unfolding walk
  walk_append [] past α γ = end_append past α γ
  walk_append (t ∷ ts) past α γ =
      ap (after t ts past) (settle_append t past α γ) ∙ by_move (settle W t past α) (λ q σ. walk_append ts q σ γ) where
        by_move : (m : Move W.Past W.Symbol W.Limit) → ((q : W.Past) (σ : List W.Symbol) → walk W ts q (σ ++ γ) ≡ (walk W ts q σ >>= λ p. walk W p.left p.past γ))
            → after t ts past (then_with m γ (settle W t past γ)) ≡ (after t ts past m >>= λ p. walk W p.left p.past γ)
        by_move (moved_past q σ) h = h q σ
        by_move not_needed h = refl
        by_move rejected h = refl
        by_move (breaks_limit limit) h = refl

  pub walk_none : (ts : List W.Token) (past : W.Past) → walk W ts past [] ≡ Ok (record { past = past; left = ts })
  unfolding walk settle at_end
  walk_none [] past = refl
  walk_none (t ∷ ts) past = refl

  pub walk_steps : (γ : List W.Symbol) (p : Point W) → walk W p.left p.past γ ≡ steps W γ p
  unfolding read
  walk_steps [] p = walk_none p.left p.past
  walk_steps (s ∷ γ) p = walk_append p.left p.past (s ∷ []) γ ∙ bind_same (read W s p) (λ q. walk W q.left q.past γ) (steps W γ) (walk_steps γ)

  pub steps_append : (α γ : List W.Symbol) (p : Point W) → steps W (α ++ γ) p ≡ (steps W α p >>= steps W γ)
  steps_append α γ p =
      sym (walk_steps (α ++ γ) p) ∙ walk_append p.left p.past α γ ∙ ap (λ o. o >>= λ q. walk W q.left q.past γ) (walk_steps α p)
      ∙ bind_same (steps W α p) _ (steps W γ) (walk_steps γ)

  -- what one symbol reads at a token
  module _ (s : W.Symbol) (t : W.Token) (ts : List W.Token) (past : W.Past) where
    pub read_take : (role : W.Role) (σ : List W.Symbol) (q : W.Past) → W.next s t ≡ begins role σ → W.enter role t past ≡ Ok q
        → read W s (record { past = past; left = t ∷ ts }) ≡ steps W σ (record { past = q; left = ts })
    unfolding read walk settle
    read_take role σ q h e =
        ap (λ n. after t ts past (chosen n (λ role σ. entered (W.enter role t past) (σ ++ [])) not_needed rejected)) h
        ∙ ap (λ r. after t ts past (entered r (σ ++ []))) e ∙ ap (λ x. walk W ts q x) (append-nil σ) ∙ walk_steps σ (record { past = q; left = ts })

    pub read_break : (role : W.Role) (σ : List W.Symbol) (limit : W.Limit) → W.next s t ≡ begins role σ → W.enter role t past ≡ Err limit
        → read W s (record { past = past; left = t ∷ ts }) ≡ Err (at_limit limit (record { past = past; left = t ∷ ts }))
    unfolding read walk settle
    read_break role σ limit h e =
        ap (λ n. after t ts past (chosen n (λ role σ. entered (W.enter role t past) (σ ++ [])) not_needed rejected)) h
        ∙ ap (λ r. after t ts past (entered r (σ ++ []))) e

    pub read_skip : W.next s t ≡ empty_here → read W s (record { past = past; left = t ∷ ts }) ≡ Ok (record { past = past; left = t ∷ ts })
    unfolding read walk settle
    read_skip h = ap (λ n. after t ts past (chosen n (λ role σ. entered (W.enter role t past) (σ ++ [])) not_needed rejected)) h

    pub read_stop : W.next s t ≡ cannot_stand → read W s (record { past = past; left = t ∷ ts }) ≡ Err (at_token (record { past = past; left = t ∷ ts }))
    unfolding read walk settle
    read_stop h = ap (λ n. after t ts past (chosen n (λ role σ. entered (W.enter role t past) (σ ++ [])) not_needed rejected)) h

  pub read_empty : (s : W.Symbol) (past : W.Past) → W.may_be_empty s ≡ true → read W s (record { past = past; left = [] }) ≡ Ok (record { past = past; left = [] })
  unfolding read walk at_end
  read_empty s past h = ap (λ b. if_empty b (Ok (record { past = past; left = [] })) (Err (at_token (record { past = past; left = [] })))) h

  pub read_end : (s : W.Symbol) (past : W.Past) → W.may_be_empty s ≡ false → read W s (record { past = past; left = [] }) ≡ Err (at_token (record { past = past; left = [] }))
  unfolding read walk at_end
  read_end s past h = ap (λ b. if_empty b (Ok (record { past = past; left = [] })) (Err (at_token (record { past = past; left = [] })))) h
