-- Where the walk stops, the tokens of the text go wrong, and there alone.
use Rattle.std.proofs.Common.{◌≡◌, ◌+◌, ℕ, List, [], ◌∷◌, ◌++◌, length, Option, Some, None, Result, Ok, Err, refl, sym, ap, subst, ◌∙◌, append_assoc, arith}
use Rattle.std.proofs.lemmas.List.{append-nil}
use Rattle.sap_walk.specs.Limits.{Limited, Past, lenient, strict}
use Rattle.sap_walk.specs.Prefix.{IsWhole, Begins, IsUnexpected, token, end, IsOver, over}
use Rattle.sap_walk.specs.Walk.{Halt, at_token, at_limit, Point, walk, read}
use Rattle.sap_walk.proofs.Limits.{Kept, beside, beside_refused, beside_broken, runs_both, first_stays, short_both, strict_ok, strict_stops}
use Rattle.sap_walk.proofs.Running.{Runs, stay, take, runs_walk, runs_more, Stops, too_short, refuses, breaks, walk_halts, refused_there, broken_there}

-- two ways to cut a list before an element
data Cut {A : Type 0} (a : List A) (t : A) (r : List A) (b : List A) (u : A) (s : List A) : Type 0 where
  same : t ∷ r ≡ u ∷ s → Cut a t r b u s
  earlier : (m : List A) → b ≡ (a ++ t ∷ []) ++ m → Cut a t r b u s
  later : (m : List A) → a ≡ (b ++ u ∷ []) ++ m → Cut a t r b u s

head_same : {A : Type 0} {x y : A} {xs ys : List A} → x ∷ xs ≡ y ∷ ys → x ≡ y
head_same e = cc

tail_same : {A : Type 0} {x y : A} {xs ys : List A} → x ∷ xs ≡ y ∷ ys → xs ≡ ys
tail_same e = cc

cut : {A : Type 0} (a : List A) (t : A) (r b : List A) (u : A) (s : List A) → a ++ t ∷ r ≡ b ++ u ∷ s → Cut a t r b u s
cut [] t r [] u s e = same e
cut [] t r (y ∷ b) u s e = earlier b (ap (λ x. x ∷ b) (sym (head_same e)))
cut (x ∷ a) t r [] u s e = later a (ap (λ y. y ∷ a) (head_same e))
cut (x ∷ a) t r (y ∷ b) u s e = by_cut (cut a t r b u s (tail_same e)) where
  by_cut : Cut a t r b u s → Cut (x ∷ a) t r (y ∷ b) u s
  by_cut (same h) = same h
  by_cut (earlier m h) = earlier m (ap (λ z. z ∷ b) (sym (head_same e)) ∙ ap (λ z. x ∷ z) h)
  by_cut (later m h) = later m (ap (λ z. z ∷ a) (head_same e) ∙ ap (λ z. y ∷ z) h)

module _ {Token Limit : Type 0} (Reads : List Token → Option (ℕ × Limit) → Type 0) where
  shorter : (a m : List Token) → Begins Reads (a ++ m) → Begins Reads a
  shorter a m b = (m ++ b.0, subst (IsWhole Reads) (append_assoc a m b.0) b.1)

  pub whole_begins : (ts : List Token) → IsWhole Reads ts → Begins Reads ts
  whole_begins ts h = ([], subst (IsWhole Reads) (sym (append-nil ts)) h)

  one_more : (front rest : List Token) (t : Token) → (front ++ t ∷ []) ++ rest ≡ front ++ t ∷ rest
  one_more front rest t = append_assoc front (t ∷ []) rest

  pub unexpected_not_whole : (ts left : List Token) → IsUnexpected Reads ts left → IsWhole Reads ts → ⊥
  unexpected_not_whole ts left (token front {t} {rest} e b never) h =
      never (shorter (front ++ t ∷ []) rest (subst (Begins Reads) (e ∙ sym (one_more front rest t)) (whole_begins ts h)))
  unexpected_not_whole ts left (end b never) h = never h

  -- the place is one
  pub unexpected_one : (ts left left' : List Token) → IsUnexpected Reads ts left → IsUnexpected Reads ts left' → left ≡ left'
  unexpected_one ts left left' (end b never) (end b' never') = refl
  unexpected_one ts left left' (end b never) (token front {t} {rest} e b' never') =
      absurd (never' (shorter (front ++ t ∷ []) rest (subst (Begins Reads) (e ∙ sym (one_more front rest t)) b)))
  unexpected_one ts left left' (token front {t} {rest} e b never) (end b' never') =
      absurd (never (shorter (front ++ t ∷ []) rest (subst (Begins Reads) (e ∙ sym (one_more front rest t)) b')))
  unexpected_one ts left left' (token front {t} {rest} e b never) (token front' {t = t'} {rest = rest'} e' b' never') = by_cut (cut front t rest front' t' rest' (sym e ∙ e')) where
    by_cut : Cut front t rest front' t' rest' → t ∷ rest ≡ t' ∷ rest'
    by_cut (same h) = h
    by_cut (earlier m h) = absurd (never (shorter (front ++ t ∷ []) m (subst (Begins Reads) h b')))
    by_cut (later m h) = absurd (never' (shorter (front' ++ t' ∷ []) m (subst (Begins Reads) h b)))

module _ (G : Limited) (start : G.Symbol) (nothing : Past G.Counts G.Limit) (Reads : List G.Token → Option (ℕ × G.Limit) → Type 0) where
  abbrev pub from : List G.Token → Point (lenient G)
  from ts = record { past = nothing; left = ts }

  -- the walk reads what the grammar has, and tokens that it takes go on as the grammar has it
  pub record Reading : Type 0 where
    pub fresh : nothing.first ≡ None
    pub before : nothing.before ≡ 0
    pub complete : (ts : List G.Token) (first : Option (ℕ × G.Limit)) → Reads ts first
        → (last : Kept G) × (read (lenient G) start (from ts) ≡ Ok (record { past = last; left = [] })) × (last.first ≡ first)
    pub goes_on : (front : List G.Token) (q : Kept G) (σ : List G.Symbol) → Runs (lenient G) front nothing (start ∷ []) q σ
        → (more : List G.Token) × (first : Option (ℕ × G.Limit)) × Reads (front ++ more) first

  module _ (reading : Reading) where
    apart : {A E : Type 0} {a : A} {e : E} (o : Result A E) → o ≡ Ok a → o ≡ Err e → ⊥
    apart o f g = cc

    -- a whole text is walked to its end
    whole_walk : (ts : List G.Token) (h : Halt (Point (lenient G)) G.Limit) → IsWhole Reads ts → walk (lenient G) ts nothing (start ∷ []) ≡ Err h → ⊥
    unfolding read
    whole_walk ts h w e = let c = reading.complete ts w.0 w.1 in apart (walk (lenient G) ts nothing (start ∷ [])) c.1 e

    pub unexpected : (ts : List G.Token) (p : Point (strict G)) → read (strict G) start (from ts) ≡ Err (at_token p) → IsUnexpected Reads ts p.left
    unfolding read walk
    unexpected ts p e = let h = walk_halts (strict G) ts nothing (start ∷ []) (at_token p) e in by_stops h.front h.kept h.to_come h.runs p h.parts h.stops where
      begins : (front : List G.Token) (q : Kept G) (σ : List G.Symbol) → Runs (strict G) front nothing (start ∷ []) q σ → Begins Reads front
      begins front q σ runs = let g = reading.goes_on front q σ (runs_both G runs reading.fresh).runs in (g.0, (g.1, g.2))

      by_stops : (front : List G.Token) (q : Kept G) (σ : List G.Symbol) → Runs (strict G) front nothing (start ∷ []) q σ → (p : Point (strict G)) → ts ≡ front ++ p.left
          → Stops (strict G) q σ (at_token p) → IsUnexpected Reads ts p.left
      by_stops front q σ runs p parts (too_short short) =
          let whole = parts ∙ append-nil front in
          end (subst (Begins Reads) (sym whole) (begins front q σ runs))
          (λ w. whole_walk ts (at_token (record { past = q; left = [] })) w
          (ap (λ x. walk (lenient G) x nothing (start ∷ [])) parts ∙ runs_walk (lenient G) (runs_both G runs reading.fresh).runs [] ∙ short_both G q σ short))
      by_stops front q σ runs p parts (refuses t rest never) =
          let r = runs_both G runs reading.fresh in
          token front parts (begins front q σ runs)
          (λ b. whole_walk ((front ++ t ∷ []) ++ b.0) (at_token (record { past = q; left = t ∷ b.0 })) b.1
          (ap (λ x. walk (lenient G) x nothing (start ∷ [])) (append_assoc front (t ∷ []) b.0)
          ∙ refused_there (lenient G) r.runs (beside_refused G (beside G t q σ r.fresh) never) b.0))

    -- where the walk stops at a limit, the token there is the first that breaks one
    pub is_over : (ts : List G.Token) (p : Point (strict G)) (limit : G.Limit) → read (strict G) start (from ts) ≡ Err (at_limit limit p) → IsOver Reads ts p.left limit
    unfolding read walk
    is_over ts p limit e = let h = walk_halts (strict G) ts nothing (start ∷ []) (at_limit limit p) e in by_stops h.front h.kept h.to_come h.runs p h.parts h.stops where
      by_stops : (front : List G.Token) (q : Kept G) (σ : List G.Symbol) → Runs (strict G) front nothing (start ∷ []) q σ → (p : Point (strict G)) → ts ≡ front ++ p.left
          → Stops (strict G) q σ (at_limit limit p) → IsOver Reads ts p.left limit
      by_stops front q σ runs p parts (breaks t rest broken_limit broken) =
          let r = runs_both G runs reading.fresh in
          let b = beside_broken G (beside G t q σ r.fresh) broken in
          let there = runs_more (lenient G) r.runs (take b.move stay) in
          let g = reading.goes_on (front ++ t ∷ []) b.kept b.to_come there in
          let c = reading.complete ((front ++ t ∷ []) ++ g.0) g.1 g.2 in
          let later = sym (runs_walk (lenient G) there g.0) ∙ c.1 in
          let number : q.before ≡ length front = omega (arith, r.before, reading.before) in
          let first = sym c.2 ∙ first_stays G g.0 b.kept b.to_come (record { past = c.0; left = [] }) (q.before, limit) later b.first ∙ ap (λ n. Some (n, limit)) number in
          over front parts g.0 (subst (λ x. Reads x (Some (length front, limit))) (append_assoc front (t ∷ []) g.0) (subst (Reads ((front ++ t ∷ []) ++ g.0)) first g.2))

    -- a whole text in which no limit is broken is walked to its end
    pub whole_ok : (ts : List G.Token) → Reads ts None → (last : Kept G) × (read (strict G) start (from ts) ≡ Ok (record { past = last; left = [] }))
    unfolding read
    whole_ok ts h = let c = reading.complete ts None h in (c.0, strict_ok G ts nothing (start ∷ []) (record { past = c.0; left = [] }) c.1 reading.fresh c.2)

    -- at the first token that breaks a limit the walk stops
    pub over_stops : (ts left : List G.Token) (limit : G.Limit) → IsOver Reads ts left limit
        → (kept : Kept G) × (read (strict G) start (from ts) ≡ Err (at_limit limit (record { past = kept; left = left })))
    unfolding read
    over_stops ts left limit (over front {t} {rest} {limit = l} parts more h) =
        let c = reading.complete (front ++ t ∷ more) (Some (length front, l)) h in
        let number : length front ≡ nothing.before + length front = omega (arith, reading.before) in
        let s = strict_stops G front t more nothing (start ∷ []) (record { past = c.0; left = [] }) l c.1 reading.fresh (c.2 ∙ ap (λ n. Some (n, l)) number) in
        (s.kept, ap (λ x. walk (strict G) x nothing (start ∷ [])) parts ∙ broken_there (strict G) s.runs s.breaks rest)
