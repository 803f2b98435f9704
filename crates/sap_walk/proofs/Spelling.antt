-- What is to come, spelled out: `Lang s p q` says that s, in the words of a grammar, stands from p to q.
use Rattle.std.proofs.Common.{◌≡◌, List, [], ◌∷◌, ◌++◌, Result, Ok, Err, refl, sym, ap, subst, ◌∙◌, append_assoc}
use Rattle.sap_walk.specs.Walk.{Next, begins, empty_here, cannot_stand, Table, Move, moved_past, rejected, chosen, entered, Point, settle}
use Rattle.sap_walk.proofs.Running.{Runs, stay, take}

pub taken_past : {P S L : Type 0} {q q' : P} {σ σ' : List S} → ◌≡◌ {A = Move P S L} (moved_past q σ) (moved_past q' σ') → q ≡ q'
taken_past e = cc

pub taken_symbols : {P S L : Type 0} {q q' : P} {σ σ' : List S} → ◌≡◌ {A = Move P S L} (moved_past q σ) (moved_past q' σ') → σ ≡ σ'
taken_symbols e = cc

module _ (W : Table) (Lang : W.Symbol → Point W → Point W → Type 0) where
  -- several symbols stand there, one after another
  abbrev pub Langs : List W.Symbol → Point W → Point W → Type 0
  Langs [] p r = p ≡ r
  Langs (s ∷ γ) p r = (q : Point W) × Lang s p q × Langs γ q r

  pub split : (σ γ : List W.Symbol) (p r : Point W) → Langs (σ ++ γ) p r → (q : Point W) × Langs σ p q × Langs γ q r
  split [] γ p r h = (p, refl, h)
  split (s ∷ σ) γ p r h = let w = split σ γ h.0 r h.2 in (w.0, (h.0, h.1, w.1), w.2)

  -- a symbol spelled after its first token, an empty one, and the shortest way to spell one
  pub record Spells : Type 0 where
    pub keeps : (s : W.Symbol) (t : W.Token) (ts : List W.Token) (past q : W.Past) (r : Point W) (role : W.Role) (σ : List W.Symbol)
        → W.next s t ≡ begins role σ → W.enter role t past ≡ Ok q → Langs σ (record { past = q; left = ts }) r → Lang s (record { past = past; left = t ∷ ts }) r
    pub empties : (s : W.Symbol) (t : W.Token) (p : Point W) → W.next s t ≡ empty_here → Lang s p p
    pub least : (s : W.Symbol) (past : W.Past)
        → (ts : List W.Token) × (q : W.Past) × ((rest : List W.Token) → Lang s (record { past = past; left = ts ++ rest }) (record { past = q; left = rest }))

  module _ (spells : Spells) where
    settle_keeps : (t : W.Token) (ts : List W.Token) (past q : W.Past) (γ σ : List W.Symbol) (r : Point W) → settle W t past γ ≡ moved_past q σ
        → Langs σ (record { past = q; left = ts }) r → Langs γ (record { past = past; left = t ∷ ts }) r
    unfolding settle
    settle_keeps t ts past q [] σ r e h = absurd (cc)
    settle_keeps t ts past q (s ∷ γ) σ r e h = by_next (W.next s t) refl e (λ e. settle_keeps t ts past q γ σ r e h) where
      by_enter : (role : W.Role) (ρ : List W.Symbol) → W.next s t ≡ begins role ρ → (o : Result W.Past W.Limit) → W.enter role t past ≡ o → entered o (ρ ++ γ) ≡ moved_past q σ
          → Langs (s ∷ γ) (record { past = past; left = t ∷ ts }) r
      by_enter role ρ n (Ok q') w e =
          let there = subst (λ x. Langs x (record { past = q; left = ts }) r) (sym (taken_symbols e)) h in
          let c = split ρ γ (record { past = q; left = ts }) r there in
          (c.0, spells.keeps s t ts past q c.0 role ρ n (w ∙ ap (λ x. Ok x) (taken_past e)) c.1, c.2)
      by_enter role ρ n (Err limit) w e = absurd (cc)

      by_next : (n : Next W.Symbol W.Role) → W.next s t ≡ n → chosen n (λ role ρ. entered (W.enter role t past) (ρ ++ γ)) (settle W t past γ) rejected ≡ moved_past q σ
          → (settle W t past γ ≡ moved_past q σ → Langs γ (record { past = past; left = t ∷ ts }) r) → Langs (s ∷ γ) (record { past = past; left = t ∷ ts }) r
      by_next (begins role ρ) n e g = by_enter role ρ n (W.enter role t past) refl e
      by_next empty_here n e g = (record { past = past; left = t ∷ ts }, spells.empties s t (record { past = past; left = t ∷ ts }) n, g e)
      by_next cannot_stand n e g = absurd (cc)

    -- what is to come after some tokens is, with these, what was to come
    pub runs_keep : {front : List W.Token} {past q : W.Past} {γ σ : List W.Symbol} → Runs W front past γ q σ → (ts : List W.Token) (r : Point W)
        → Langs σ (record { past = q; left = ts }) r → Langs γ (record { past = past; left = front ++ ts }) r
    runs_keep stay ts r h = h
    runs_keep (take {t} {ts = front} {past} {q = p} {γ = γ} {σ = σ} e g) ts r h = settle_keeps t (front ++ ts) past p γ σ r e (runs_keep g ts r h)

    pub leasts : (γ : List W.Symbol) (past : W.Past)
        → (ts : List W.Token) × (q : W.Past) × ((rest : List W.Token) → Langs γ (record { past = past; left = ts ++ rest }) (record { past = q; left = rest }))
    leasts [] past = ([], past, λ rest. refl)
    leasts (s ∷ γ) past =
        let a = spells.least s past in
        let b = leasts γ a.1 in (
          a.0 ++ b.0,
          b.1,
          λ rest.
              subst (λ x. Langs (s ∷ γ) (record { past = past; left = x }) (record { past = b.1; left = rest })) (sym (append_assoc a.0 b.0 rest))
              (record { past = a.1; left = b.0 ++ rest }, a.2 (b.0 ++ rest), b.2 rest),
        )

    -- some tokens go on where these end
    pub goes_on : {front : List W.Token} {past q : W.Past} {γ σ : List W.Symbol} → Runs W front past γ q σ
        → (more : List W.Token) × (end : W.Past) × Langs γ (record { past = past; left = front ++ more }) (record { past = end; left = [] })
    goes_on {q = q} {σ = σ} h = let a = leasts σ q in (a.0 ++ [], a.1, runs_keep h (a.0 ++ []) (record { past = a.1; left = [] }) (a.2 []))
