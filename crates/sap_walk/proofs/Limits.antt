-- How the walk that stops where a limit is broken and the one that goes past each belong together.
use Rattle.std.proofs.Common.{◌≡◌, ◌≤◌, ◌+◌, ℕ, List, [], ◌∷◌, ◌++◌, length, Option, Some, None, Ok, Err, Bool, true, false, refl, sym, ap, subst, ◌∙◌, arith}
use Rattle.sap_walk.specs.Limits.{Limited, Past, first_of, unless_broken, passed, lenient, strict}
use Rattle.sap_walk.specs.Walk.{Next, begins, empty_here, cannot_stand, at_token, Move, moved_past, not_needed, rejected, breaks_limit, chosen, entered, if_empty, Point, settle, at_end, walk}
use Rattle.sap_walk.proofs.Running.{Runs, stay, take}
use Rattle.sap_walk.proofs.Walking.{after}

module _ (G : Limited) where
  abbrev pub Kept : Type 0
  Kept = Past G.Counts G.Limit

  -- what the two walks do with one token, where no limit was broken before
  pub data Beside (past : Kept) : Move Kept G.Symbol G.Limit → Move Kept G.Symbol G.Limit → Type 0 where
    both_take : {q : Kept} {σ : List G.Symbol} → q.first ≡ None → q.before ≡ past.before + 1 → Beside past (moved_past q σ) (moved_past q σ)
    one_breaks : {q : Kept} {σ : List G.Symbol} {limit : G.Limit} → q.first ≡ Some (past.before, limit) → q.before ≡ past.before + 1
        → Beside past (breaks_limit limit) (moved_past q σ)
    neither_needs : Beside past not_needed not_needed
    both_refuse : Beside past rejected rejected

  pub beside : (t : G.Token) (past : Kept) (γ : List G.Symbol) → past.first ≡ None → Beside past (settle (strict G) t past γ) (settle (lenient G) t past γ)
  unfolding settle
  beside t past [] fresh = neither_needs
  beside t past (s ∷ γ) fresh = by_next (G.next s t) (beside t past γ fresh) where
    by_breach : (role : G.Role) (σ : List G.Symbol) (b : Option G.Limit) → G.breach past.counts role t ≡ b
        → Beside past (entered (unless_broken b (passed G.tally G.breach role t past)) σ) (moved_past (passed G.tally G.breach role t past) σ)
    by_breach role σ None e = both_take (ap (λ b. first_of past.first past.before b) e ∙ ap (λ f. first_of f past.before None) fresh) refl
    by_breach role σ (Some limit) e = one_breaks (ap (λ b. first_of past.first past.before b) e ∙ ap (λ f. first_of f past.before (Some limit)) fresh) refl

    by_next : (n : Next G.Symbol G.Role) → Beside past (settle (strict G) t past γ) (settle (lenient G) t past γ)
        → Beside past
        (chosen n (λ role σ. entered (unless_broken (G.breach past.counts role t) (passed G.tally G.breach role t past)) (σ ++ γ)) (settle (strict G) t past γ) rejected)
        (chosen n (λ role σ. moved_past (passed G.tally G.breach role t past) (σ ++ γ)) (settle (lenient G) t past γ) rejected)
    by_next (begins role σ) h = by_breach role (σ ++ γ) (G.breach past.counts role t) refl
    by_next empty_here h = h
    by_next cannot_stand h = both_refuse

  -- what is known of the lenient move from the strict one
  pub record TakesBoth (past q : Kept) (σ : List G.Symbol) (m : Move Kept G.Symbol G.Limit) : Type 0 where
    pub move : m ≡ moved_past q σ
    pub fresh : q.first ≡ None
    pub before : q.before ≡ past.before + 1

  pub record BreaksOne (past : Kept) (limit : G.Limit) (m : Move Kept G.Symbol G.Limit) : Type 0 where
    pub kept : Kept
    pub to_come : List G.Symbol
    pub move : m ≡ moved_past kept to_come
    pub first : kept.first ≡ Some (past.before, limit)
    pub before : kept.before ≡ past.before + 1

  pub beside_taken : {past q : Kept} {σ : List G.Symbol} {n m : Move Kept G.Symbol G.Limit} → Beside past n m → n ≡ moved_past q σ → TakesBoth past q σ m
  beside_taken {past} {q} {σ} (both_take {q = q'} {σ = σ'} f b) e =
      let same : q' ≡ q = cc in
      record { move = e; fresh = subst (λ (x : Kept). x.first ≡ None) same f; before = subst (λ (x : Kept). x.before ≡ past.before + 1) same b }
  beside_taken _ e = absurd (cc)

  pub beside_refused : {past : Kept} {n m : Move Kept G.Symbol G.Limit} → Beside past n m → n ≡ rejected → m ≡ rejected
  beside_refused both_refuse e = refl
  beside_refused _ e = absurd (cc)

  pub beside_broken : {past : Kept} {n m : Move Kept G.Symbol G.Limit} {limit : G.Limit} → Beside past n m → n ≡ breaks_limit limit → BreaksOne past limit m
  beside_broken {past} {limit = limit} (one_breaks {q = q} {σ = σ} {limit = limit'} f b) e =
      let same : limit' ≡ limit = cc in
      record { kept = q; to_come = σ; move = refl; first = f ∙ ap (λ l. Some (past.before, l)) same; before = b }
  beside_broken _ e = absurd (cc)

  -- a run of the strict walk is one of the lenient walk
  pub record RunsBoth (front : List G.Token) (past q : Kept) (γ σ : List G.Symbol) : Type 0 where
    pub runs : Runs (lenient G) front past γ q σ
    pub fresh : q.first ≡ None
    pub before : q.before ≡ past.before + length front

  pub runs_both : {front : List G.Token} {past q : Kept} {γ σ : List G.Symbol} → Runs (strict G) front past γ q σ → past.first ≡ None → RunsBoth front past q γ σ
  runs_both stay fresh = record { runs = stay; fresh = fresh; before = omega arith }
  runs_both {past = past} {γ = γ} (take {t} {q = q} {σ = σ} e h) fresh =
      let b = beside_taken (beside t past γ fresh) e in
      let g = runs_both h b.fresh in
      record { runs = take b.move g.runs; fresh = g.fresh; before = omega (arith, b.before, g.before) }

  -- the first limit that the lenient walk finds broken stays the first
  pub first_stays : (ts : List G.Token) (past : Kept) (γ : List G.Symbol) (p : Point (lenient G)) (f : ℕ × G.Limit)
      → walk (lenient G) ts past γ ≡ Ok p → past.first ≡ Some f → p.past.first ≡ Some f
  unfolding walk at_end settle
  first_stays [] past γ p f e h = at_the_end γ e where
    at_the_end : (γ : List G.Symbol) → at_end (lenient G) past γ ≡ Ok p → p.past.first ≡ Some f
    at_the_end [] e = let same : record { past = past; left = [] } ≡ p = cc in subst (λ (x : Point (lenient G)). x.past.first ≡ Some f) same h
    at_the_end (s ∷ γ) e = by_empty (G.may_be_empty s) e (at_the_end γ) where
      by_empty : (b : Bool) → if_empty b (at_end (lenient G) past γ) (Err (at_token (record { past = past; left = [] }))) ≡ Ok p
          → (at_end (lenient G) past γ ≡ Ok p → p.past.first ≡ Some f) → p.past.first ≡ Some f
      by_empty true e g = g e
      by_empty false e g = absurd (cc)
  first_stays (t ∷ ts) past γ p f e h = by_move (settle (lenient G) t past γ) refl e (λ q σ. first_stays ts q σ p f) where
    stays : (γ : List G.Symbol) (q : Kept) (σ : List G.Symbol) → settle (lenient G) t past γ ≡ moved_past q σ → q.first ≡ Some f
    stays [] q σ e = absurd (cc)
    stays (s ∷ γ) q σ e = by_next (G.next s t) e (stays γ q σ) where
      by_next : (n : Next G.Symbol G.Role) → chosen n (λ role ρ. moved_past (passed G.tally G.breach role t past) (ρ ++ γ)) (settle (lenient G) t past γ) rejected ≡ moved_past q σ
          → (settle (lenient G) t past γ ≡ moved_past q σ → q.first ≡ Some f) → q.first ≡ Some f
      by_next (begins role ρ) e g =
          let same : passed G.tally G.breach role t past ≡ q = cc in
          subst (λ (x : Kept). x.first ≡ Some f) same (ap (λ x. first_of x past.before (G.breach past.counts role t)) h)
      by_next empty_here e g = g e
      by_next cannot_stand e g = absurd (cc)

    by_move : (m : Move Kept G.Symbol G.Limit) → settle (lenient G) t past γ ≡ m → after (lenient G) t ts past m ≡ Ok p
        → ((q : Kept) (σ : List G.Symbol) → walk (lenient G) ts q σ ≡ Ok p → q.first ≡ Some f → p.past.first ≡ Some f) → p.past.first ≡ Some f
    by_move (moved_past q σ) m e g = g q σ e (stays γ q σ m)
    by_move not_needed m e g = let same : record { past = past; left = t ∷ ts } ≡ p = cc in subst (λ (x : Point (lenient G)). x.past.first ≡ Some f) same h
    by_move _ m e g = absurd (cc)

  -- what is known of the strict move from the lenient one
  pub data FromTaken (past q : Kept) (σ : List G.Symbol) : Move Kept G.Symbol G.Limit → Type 0 where
    taken : q.first ≡ None → q.before ≡ past.before + 1 → FromTaken past q σ (moved_past q σ)
    broken : (limit : G.Limit) → q.first ≡ Some (past.before, limit) → FromTaken past q σ (breaks_limit limit)

  pub beside_lenient : {past q : Kept} {σ : List G.Symbol} {n m : Move Kept G.Symbol G.Limit} → Beside past n m → m ≡ moved_past q σ → FromTaken past q σ n
  beside_lenient {past} {q} {σ} (both_take {q = q'} {σ = σ'} f b) e =
      let same : q' ≡ q = cc in
      subst (FromTaken past q σ) (sym e) (taken (subst (λ (x : Kept). x.first ≡ None) same f) (subst (λ (x : Kept). x.before ≡ past.before + 1) same b))
  beside_lenient {past} {q} {σ} (one_breaks {q = q'} {limit = limit} f b) e =
      let same : q' ≡ q = cc in
      broken limit (subst (λ (x : Kept). x.first ≡ Some (past.before, limit)) same f)
  beside_lenient _ e = absurd (cc)

  pub beside_unneeded : {past : Kept} {n m : Move Kept G.Symbol G.Limit} → Beside past n m → m ≡ not_needed → n ≡ not_needed
  beside_unneeded neither_needs e = refl
  beside_unneeded _ e = absurd (cc)

  some_none : {f : ℕ × G.Limit} (x : Option (ℕ × G.Limit)) → x ≡ Some f → x ≡ None → ⊥
  some_none x e n = cc

  same_number : {n m : ℕ} {a b : G.Limit} (x : Option (ℕ × G.Limit)) → x ≡ Some (n, a) → x ≡ Some (m, b) → n ≡ m
  same_number x e g = let both : ◌≡◌ {A = Option (ℕ × G.Limit)} (Some (_, _)) (Some (_, _)) = sym e ∙ g in ap number both where
    number : Option (ℕ × G.Limit) → ℕ
    number None = 0
    number (Some f) = f.0

  same_limit : {n m : ℕ} {a b : G.Limit} (x : Option (ℕ × G.Limit)) → x ≡ Some (n, a) → x ≡ Some (m, b) → a ≡ b
  same_limit {a = a} x e g = ap limit_in (sym e ∙ g) where
    limit_in : Option (ℕ × G.Limit) → G.Limit
    limit_in None = a
    limit_in (Some f) = f.1

  ended_at : (past : Kept) (γ : List G.Symbol) (p : Point (lenient G)) → at_end (lenient G) past γ ≡ Ok p → record { past = past; left = [] } ≡ p
  unfolding at_end
  ended_at past [] p e = cc
  ended_at past (s ∷ γ) p e = by_empty (G.may_be_empty s) e (ended_at past γ p) where
    by_empty : (b : Bool) → if_empty b (at_end (lenient G) past γ) (Err (at_token (record { past = past; left = [] }))) ≡ Ok p
        → (at_end (lenient G) past γ ≡ Ok p → record { past = past; left = [] } ≡ p) → record { past = past; left = [] } ≡ p
    by_empty true e g = g e
    by_empty false e g = absurd (cc)

  ended_both : (past : Kept) (γ : List G.Symbol) (p : Point (lenient G)) → at_end (lenient G) past γ ≡ Ok p → at_end (strict G) past γ ≡ Ok p
  unfolding at_end
  ended_both past [] p e = e
  ended_both past (s ∷ γ) p e = by_empty (G.may_be_empty s) e (ended_both past γ p) where
    by_empty : (b : Bool) → if_empty b (at_end (lenient G) past γ) (Err (at_token (record { past = past; left = [] }))) ≡ Ok p
        → (at_end (lenient G) past γ ≡ Ok p → at_end (strict G) past γ ≡ Ok p)
        → if_empty b (at_end (strict G) past γ) (Err (at_token (record { past = past; left = [] }))) ≡ Ok p
    by_empty true e g = g e
    by_empty false e g = absurd (cc)

  pub short_both : (past : Kept) (γ : List G.Symbol) → at_end (strict G) past γ ≡ Err (at_token (record { past = past; left = [] }))
      → at_end (lenient G) past γ ≡ Err (at_token (record { past = past; left = [] }))
  unfolding at_end
  short_both past [] e = absurd (cc)
  short_both past (s ∷ γ) e = by_empty (G.may_be_empty s) e (short_both past γ) where
    by_empty : (b : Bool) → if_empty b (at_end (strict G) past γ) (Err (at_token (record { past = past; left = [] }))) ≡ Err (at_token (record { past = past; left = [] }))
        → (at_end (strict G) past γ ≡ Err (at_token (record { past = past; left = [] })) → at_end (lenient G) past γ ≡ Err (at_token (record { past = past; left = [] })))
        → if_empty b (at_end (lenient G) past γ) (Err (at_token (record { past = past; left = [] }))) ≡ Err (at_token (record { past = past; left = [] }))
    by_empty true e g = g e
    by_empty false e g = refl

  kept_fresh : (past : Kept) (ts : List G.Token) (p : Point (lenient G)) (f : ℕ × G.Limit) → record { past = past; left = ts } ≡ p → past.first ≡ None → p.past.first ≡ Some f → ⊥
  kept_fresh past ts p f same fresh e = some_none past.first (subst (λ (x : Point (lenient G)). x.past.first ≡ Some f) (sym same) e) fresh

  -- where no limit is broken the strict walk does as the lenient one
  pub strict_ok : (ts : List G.Token) (past : Kept) (γ : List G.Symbol) (p : Point (lenient G)) → walk (lenient G) ts past γ ≡ Ok p → past.first ≡ None → p.past.first ≡ None
      → walk (strict G) ts past γ ≡ Ok p
  unfolding walk
  strict_ok [] past γ p e fresh free = ended_both past γ p e
  strict_ok (t ∷ ts) past γ p e fresh free = by_move (settle (lenient G) t past γ) refl e (λ q σ e f. strict_ok ts q σ p e f free) where
    by_taken : (q : Kept) (σ : List G.Symbol) (n : Move Kept G.Symbol G.Limit) → FromTaken past q σ n → walk (lenient G) ts q σ ≡ Ok p
        → (q.first ≡ None → walk (strict G) ts q σ ≡ Ok p) → after (strict G) t ts past n ≡ Ok p
    by_taken q σ n (taken f b) e g = g f
    by_taken q σ n (broken limit f) e g = absurd (some_none p.past.first (first_stays ts q σ p (past.before, limit) e f) free)

    by_move : (m : Move Kept G.Symbol G.Limit) → settle (lenient G) t past γ ≡ m → after (lenient G) t ts past m ≡ Ok p
        → ((q : Kept) (σ : List G.Symbol) → walk (lenient G) ts q σ ≡ Ok p → q.first ≡ None → walk (strict G) ts q σ ≡ Ok p)
        → after (strict G) t ts past (settle (strict G) t past γ) ≡ Ok p
    by_move (moved_past q σ) m e g = by_taken q σ (settle (strict G) t past γ) (beside_lenient (beside t past γ fresh) m) e (g q σ e)
    by_move not_needed m e g = ap (after (strict G) t ts past) (beside_unneeded (beside t past γ fresh) m) ∙ e
    by_move _ m e g = absurd (cc)

  -- no limit is broken before the walk begins
  first_later : (ts : List G.Token) (past : Kept) (γ : List G.Symbol) (p : Point (lenient G)) (n : ℕ) (limit : G.Limit)
      → walk (lenient G) ts past γ ≡ Ok p → past.first ≡ None → p.past.first ≡ Some (n, limit) → past.before ≤ n
  unfolding walk
  first_later [] past γ p n limit e fresh f = absurd (kept_fresh past [] p (n, limit) (ended_at past γ p e) fresh f)
  first_later (t ∷ ts) past γ p n limit e fresh f = by_move (settle (lenient G) t past γ) refl e (λ q σ e g. first_later ts q σ p n limit e g f) where
    by_taken : (q : Kept) (σ : List G.Symbol) (m : Move Kept G.Symbol G.Limit) → FromTaken past q σ m → walk (lenient G) ts q σ ≡ Ok p
        → (q.first ≡ None → q.before ≤ n) → past.before ≤ n
    by_taken q σ m (taken g b) e h = omega (arith, h g, b)
    by_taken q σ m (broken other g) e h = omega (arith, same_number p.past.first (first_stays ts q σ p (past.before, other) e g) f)

    by_move : (m : Move Kept G.Symbol G.Limit) → settle (lenient G) t past γ ≡ m → after (lenient G) t ts past m ≡ Ok p
        → ((q : Kept) (σ : List G.Symbol) → walk (lenient G) ts q σ ≡ Ok p → q.first ≡ None → q.before ≤ n) → past.before ≤ n
    by_move (moved_past q σ) m e h = by_taken q σ (settle (strict G) t past γ) (beside_lenient (beside t past γ fresh) m) e (h q σ e)
    by_move not_needed m e h = absurd (kept_fresh past (t ∷ ts) p (n, limit) (cc) fresh f)
    by_move _ m e h = absurd (cc)

  -- the strict walk stops at the token that is the first to break a limit in the lenient walk
  pub record StrictStops (front : List G.Token) (t : G.Token) (past : Kept) (γ : List G.Symbol) (limit : G.Limit) : Type 0 where
    pub kept : Kept
    pub to_come : List G.Symbol
    pub runs : Runs (strict G) front past γ kept to_come
    pub breaks : settle (strict G) t kept to_come ≡ breaks_limit limit

  pub strict_stops : (front : List G.Token) (t : G.Token) (more : List G.Token) (past : Kept) (γ : List G.Symbol) (p : Point (lenient G)) (limit : G.Limit)
      → walk (lenient G) (front ++ t ∷ more) past γ ≡ Ok p → past.first ≡ None → p.past.first ≡ Some (past.before + length front, limit)
      → StrictStops front t past γ limit
  unfolding walk
  strict_stops [] t more past γ p limit e fresh f = by_move (settle (lenient G) t past γ) refl e where
    by_taken : (q : Kept) (σ : List G.Symbol) (n : Move Kept G.Symbol G.Limit) → settle (strict G) t past γ ≡ n → FromTaken past q σ n
        → walk (lenient G) more q σ ≡ Ok p → StrictStops [] t past γ limit
    by_taken q σ n w (taken g b) e = absurd (omega (arith, first_later more q σ p _ limit e g f, b))
    by_taken q σ n w (broken other g) e =
        let same = same_limit p.past.first (first_stays more q σ p (past.before, other) e g) f in
        record { kept = past; to_come = γ; runs = stay; breaks = w ∙ ap (λ l. breaks_limit l) same }

    by_move : (m : Move Kept G.Symbol G.Limit) → settle (lenient G) t past γ ≡ m → after (lenient G) t more past m ≡ Ok p → StrictStops [] t past γ limit
    by_move (moved_past q σ) m e = by_taken q σ (settle (strict G) t past γ) refl (beside_lenient (beside t past γ fresh) m) e
    by_move not_needed m e = absurd (kept_fresh past (t ∷ more) p _ (cc) fresh f)
    by_move _ m e = absurd (cc)
  strict_stops (u ∷ front) t more past γ p limit e fresh f = by_move (settle (lenient G) u past γ) refl e (λ q σ e g h. strict_stops front t more q σ p limit e g h) where
    by_taken : (q : Kept) (σ : List G.Symbol) (n : Move Kept G.Symbol G.Limit) → settle (strict G) u past γ ≡ n → FromTaken past q σ n
        → walk (lenient G) (front ++ t ∷ more) q σ ≡ Ok p
        → (q.first ≡ None → p.past.first ≡ Some (q.before + length front, limit) → StrictStops front t q σ limit) → StrictStops (u ∷ front) t past γ limit
    by_taken q σ n w (taken g b) e h =
        let number : past.before + length (u ∷ front) ≡ q.before + length front = omega (arith, b) in
        let c = h g (f ∙ ap (λ k. Some (k, limit)) number) in
        record { kept = c.kept; to_come = c.to_come; runs = take w c.runs; breaks = c.breaks }
    by_taken q σ n w (broken other g) e h =
        absurd (omega (arith, same_number p.past.first (first_stays (front ++ t ∷ more) q σ p (past.before, other) e g) f))

    by_move : (m : Move Kept G.Symbol G.Limit) → settle (lenient G) u past γ ≡ m → after (lenient G) u (front ++ t ∷ more) past m ≡ Ok p
        → ((q : Kept) (σ : List G.Symbol) → walk (lenient G) (front ++ t ∷ more) q σ ≡ Ok p → q.first ≡ None
        → p.past.first ≡ Some (q.before + length front, limit) → StrictStops front t q σ limit)
        → StrictStops (u ∷ front) t past γ limit
    by_move (moved_past q σ) m e h = by_taken q σ (settle (strict G) u past γ) refl (beside_lenient (beside u past γ fresh) m) e (h q σ e)
    by_move not_needed m e h = absurd (kept_fresh past (u ∷ (front ++ t ∷ more)) p _ (cc) fresh f)
    by_move _ m e h = absurd (cc)
