-- Where the walk stands after some tokens, and where it stops.
use Rattle.std.proofs.Common.{◌≡◌, List, [], ◌∷◌, ◌++◌, Err, Bool, true, false, refl, sym, ap, subst, ◌∙◌}
use Rattle.sap_walk.specs.Walk.{Table, Halt, at_token, at_limit, Move, moved_past, not_needed, rejected, breaks_limit, if_empty, Point, Outcome, settle, at_end, walk}
use Rattle.sap_walk.proofs.Walking.{after}

module _ (W : Table) where
  -- all these tokens are taken; then q is kept, and σ is to come
  pub data Runs : List W.Token → W.Past → List W.Symbol → W.Past → List W.Symbol → Type 0 where
    stay : {past : W.Past} {γ : List W.Symbol} → Runs [] past γ past γ
    take : {t : W.Token} {ts : List W.Token} {past q r : W.Past} {γ σ δ : List W.Symbol} → settle W t past γ ≡ moved_past q σ → Runs ts q σ r δ → Runs (t ∷ ts) past γ r δ

  pub runs_walk : {front : List W.Token} {past q : W.Past} {γ σ : List W.Symbol} → Runs front past γ q σ → (ts : List W.Token) → walk W (front ++ ts) past γ ≡ walk W ts q σ
  unfolding walk
  runs_walk stay ts = refl
  runs_walk (take {t} {ts = front} {past} e h) ts = ap (after W t (front ++ ts) past) e ∙ runs_walk h ts

  pub runs_more : {front more : List W.Token} {past q r : W.Past} {γ σ δ : List W.Symbol} → Runs front past γ q σ → Runs more q σ r δ → Runs (front ++ more) past γ r δ
  runs_more stay g = g
  runs_more (take e h) g = take e (runs_more h g)

  abbrev pub left_of : Halt (Point W) W.Limit → List W.Token
  left_of (at_token p) = p.left
  left_of (at_limit limit p) = p.left

  -- where q is kept and σ is to come, the walk halts so
  pub data Stops (q : W.Past) (σ : List W.Symbol) : Halt (Point W) W.Limit → Type 0 where
    too_short : at_end W q σ ≡ Err (at_token (record { past = q; left = [] })) → Stops q σ (at_token (record { past = q; left = [] }))
    refuses : (t : W.Token) (ts : List W.Token) → settle W t q σ ≡ rejected → Stops q σ (at_token (record { past = q; left = t ∷ ts }))
    breaks : (t : W.Token) (ts : List W.Token) (limit : W.Limit) → settle W t q σ ≡ breaks_limit limit → Stops q σ (at_limit limit (record { past = q; left = t ∷ ts }))

  pub record Halts (ts : List W.Token) (past : W.Past) (γ : List W.Symbol) (h : Halt (Point W) W.Limit) : Type 0 where
    pub front : List W.Token
    pub kept : W.Past
    pub to_come : List W.Symbol
    pub runs : Runs front past γ kept to_come
    pub parts : ts ≡ front ++ left_of h
    pub stops : Stops kept to_come h

  same_halt : {a b : Halt (Point W) W.Limit} → ◌≡◌ {A = Outcome W} (Err a) (Err b) → a ≡ b
  same_halt e = cc

  end_halts : (past : W.Past) (γ : List W.Symbol) (h : Halt (Point W) W.Limit) → at_end W past γ ≡ Err h → h ≡ at_token (record { past = past; left = [] })
  unfolding at_end
  end_halts past [] h e = absurd (cc)
  end_halts past (s ∷ γ) h e = by_empty (W.may_be_empty s) e (end_halts past γ h) where
    by_empty : (b : Bool) → if_empty b (at_end W past γ) (Err (at_token (record { past = past; left = [] }))) ≡ Err h
        → (at_end W past γ ≡ Err h → h ≡ at_token (record { past = past; left = [] })) → h ≡ at_token (record { past = past; left = [] })
    by_empty true e g = g e
    by_empty false e g = same_halt (sym e)

  pub walk_halts : (ts : List W.Token) (past : W.Past) (γ : List W.Symbol) (h : Halt (Point W) W.Limit) → walk W ts past γ ≡ Err h → Halts ts past γ h
  unfolding walk
  walk_halts [] past γ h e =
      let same = end_halts past γ h e in
      subst (Halts [] past γ) (sym same) (record {
        front = [];
        kept = past;
        to_come = γ;
        runs = stay;
        parts = refl;
        stops = too_short (e ∙ ap (λ x. Err x) same);
      })
  walk_halts (t ∷ ts) past γ h e = by_move (settle W t past γ) refl e (λ q σ. walk_halts ts q σ h) where
    by_move : (m : Move W.Past W.Symbol W.Limit) → settle W t past γ ≡ m → after W t ts past m ≡ Err h
        → ((q : W.Past) (σ : List W.Symbol) → walk W ts q σ ≡ Err h → Halts ts q σ h) → Halts (t ∷ ts) past γ h
    by_move (moved_past q σ) m e g =
        let w = g q σ e in
        record { front = t ∷ w.front; kept = w.kept; to_come = w.to_come; runs = take m w.runs; parts = ap (λ x. t ∷ x) w.parts; stops = w.stops }
    by_move not_needed m e g = absurd (cc)
    by_move rejected m e g =
        subst (Halts (t ∷ ts) past γ) (same_halt e) (record { front = []; kept = past; to_come = γ; runs = stay; parts = refl; stops = refuses t ts m })
    by_move (breaks_limit limit) m e g =
        subst (Halts (t ∷ ts) past γ) (same_halt e) (record { front = []; kept = past; to_come = γ; runs = stay; parts = refl; stops = breaks t ts limit m })

  -- a refused token is refused whatever follows
  pub refused_there : {front : List W.Token} {past q : W.Past} {γ σ : List W.Symbol} {t : W.Token} → Runs front past γ q σ → settle W t q σ ≡ rejected → (ts : List W.Token)
      → walk W (front ++ t ∷ ts) past γ ≡ Err (at_token (record { past = q; left = t ∷ ts }))
  unfolding walk
  refused_there {q = q} {t = t} h e ts = runs_walk h (t ∷ ts) ∙ ap (after W t ts q) e

  pub broken_there : {front : List W.Token} {past q : W.Past} {γ σ : List W.Symbol} {t : W.Token} {limit : W.Limit} → Runs front past γ q σ
      → settle W t q σ ≡ breaks_limit limit → (ts : List W.Token)
      → walk W (front ++ t ∷ ts) past γ ≡ Err (at_limit limit (record { past = q; left = t ∷ ts }))
  unfolding walk
  broken_there {q = q} {t = t} h e ts = runs_walk h (t ∷ ts) ∙ ap (after W t ts q) e
