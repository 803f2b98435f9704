-- What stands behind a name and a bracket: a slice, or an index.
use Rattle.sap_lemmas.proofs.Common.{◌≡◌, ◌≢◌, ℕ, List, [], ◌∷◌, ◌++◌, Result, Ok, Err, refl, sym, ap, ◌∙◌}
use Rattle.sap_parse.specs.Limits.{Counts}
use Rattle.sap_parse.specs.Reading.{Enter, Outcome, ahead, ahead_of, read_by, second, steps_by, table}
use Rattle.sap_parse.specs.Stages.{Stage}
use Rattle.sap_parse.specs.Table as s
use Rattle.sap_parse.specs.Table.{Symbol, next, tails, index_symbols}
use Rattle.sap_parse.specs.declared.cursor.Ahead.TheVariants as a
use Rattle.sap_parse.specs.declared.cursor.Ahead.{Ahead}
use Rattle.sap_lex.specs.declared.limit.Limit.{Limit}
use Rattle.sap_parse.specs.declared.role.Role.TheVariants as r
use Rattle.sap_lex.specs.declared.token.Kind.TheVariants as k
use Rattle.sap_lex.specs.declared.token.Kind.{Kind}
use Rattle.sap_lex.specs.declared.token.Sign.TheVariants as j
use Rattle.sap_lex.specs.declared.token.Token.{Token}
use Rattle.sap_parse.proofs.Laws.{at_kind, at_sign, by_left, read_if, stands, step_if, steps_append}
use Rattle.sap_parse.proofs.Single.{ahead_back, ahead_front, next_not_sign}
use Rattle.sap_walk.specs.Limits.{Past}
use Rattle.sap_walk.specs.Rows.{push, ◌or◌, firsts}
use Rattle.sap_walk.specs.Walk.{begins, ◌>>=◌}
use Rattle.sap_walk.proofs.Walking.{bind_pure, read_take, read_break}

module _ (enter : Enter) where
  -- what comes behind a number is read alike
  after_number : (p : Stage) (n : ℕ) (t : Token) (ts : List Token) → p.left ≡ t ∷ ts → t.kind ≡ k.Number n → (f g : Stage → Outcome)
      → ((q : Past Counts Limit) → f (record { past = q; left = ts }) ≡ g (record { past = q; left = ts }))
      → (read_by enter (s.number r.Inner) p >>= f) ≡ (read_by enter (s.number r.Inner) p >>= g)
  unfolding read_by
  after_number p n t ts left kind f g same = by_enter (enter r.Inner t p.past) refl where
    row : next (s.number r.Inner) t.kind ≡ begins r.Inner []
    row = ap (next (s.number r.Inner)) kind

    by_enter : (o : Result (Past Counts Limit) Limit) → enter r.Inner t p.past ≡ o → (read_by enter (s.number r.Inner) p >>= f) ≡ (read_by enter (s.number r.Inner) p >>= g)
    by_enter (Ok q) e =
        let taken = by_left enter p (s.number r.Inner) (t ∷ ts) left ∙ read_take (table enter) (s.number r.Inner) t ts p.past r.Inner [] q row e in
        ap (λ o. o >>= f) taken ∙ same q ∙ sym (ap (λ o. o >>= g) taken)
    by_enter (Err limit) e =
        let broken = by_left enter p (s.number r.Inner) (t ∷ ts) left ∙ read_break (table enter) (s.number r.Inner) t ts p.past r.Inner [] limit row e in
        ap (λ o. o >>= f) broken ∙ sym (ap (λ o. o >>= g) broken)

  -- behind the `[` and a number

  after_colon : (p : Stage) → ahead p.left ≡ a.Sign j.Colon
      → read_by enter s.behind_number p ≡ steps_by enter (s.sign r.Inner j.Colon ∷ s.number r.Inner ∷ s.sign r.Closing j.CloseBracket ∷ s.slices ∷ []) p
  after_colon = at_sign enter s.behind_number (s.sign r.Inner j.Colon) _ j.Colon refl refl

  index_row : (i : Kind) → ahead_of i ≢ a.Sign j.Colon → s.after_number_next i ≡ firsts (λ x. next x i) index_symbols
  index_row i ne = ap (λ n. (push n (s.number r.Inner ∷ s.sign r.Closing j.CloseBracket ∷ s.slices ∷ [])) or firsts (s.operand_next i)
      index_symbols) (next_not_sign r.Inner j.Colon i ne)

  no_colon : (p : Stage) → ahead p.left ≢ a.Sign j.Colon → read_by enter s.behind_number p ≡ steps_by enter index_symbols p
  no_colon p ne = read_if enter s.behind_number index_symbols refl p (λ t ts left. index_row t.kind (λ h. ne (ahead_back t ts h left)))

  -- behind the `[`

  second_ahead : (p : Stage) (t : Token) (ts : List Token) → p.left ≡ t ∷ ts → second p.left ≡ ahead ts
  unfolding second
  second_ahead p t ts left = ap second left

  number_of_ahead : (i : Kind) → ahead_of i ≡ a.Number → (n : ℕ) × (i ≡ k.Number n)
  number_of_ahead (k.Number n) e = (n, refl)
  number_of_ahead _ e = absurd (cc)

  -- a number, and the rest by what comes behind it
  number_then : (σ : List Symbol) (p : Stage) → ahead p.left ≡ a.Number
      → ((q : Stage) → second p.left ≡ ahead q.left → read_by enter s.behind_number q ≡ steps_by enter σ q)
      → read_by enter s.behind_bracket p ≡ steps_by enter (s.number r.Inner ∷ σ) p
  number_then σ p e same =
      let t = stands enter p e (λ h. absurd (cc)) in
      let n = number_of_ahead t.0.kind t.3 in
      at_kind enter s.behind_bracket (s.number r.Inner) (s.behind_number ∷ []) (k.Number n.0) refl refl p t.0 t.1 t.2 n.1
      ∙ after_number p n.0 t.0 t.1 t.2 n.1 (steps_by enter (s.behind_number ∷ [])) (steps_by enter σ)
      (λ q. let here : Stage = record { past = q; left = t.1 } in bind_pure (read_by enter s.behind_number here) ∙ same here (second_ahead p t.0 t.1 t.2))

  pub bracket_slice : (p : Stage) → ahead p.left ≡ a.Number → second p.left ≡ a.Sign j.Colon
      → read_by enter s.behind_bracket p ≡ steps_by enter (s.number r.Inner ∷ s.sign r.Inner j.Colon ∷ s.number r.Inner ∷ s.sign r.Closing j.CloseBracket ∷ s.slices ∷ []) p
  bracket_slice p e f = number_then (s.sign r.Inner j.Colon ∷ s.number r.Inner ∷ s.sign r.Closing j.CloseBracket ∷ s.slices ∷ []) p e
      (λ q front. after_colon q (sym front ∙ f))

  number_row : (i : Kind) → ahead_of i ≡ a.Number → next s.expr i ≡ push (next (s.number r.Inner) i) (s.slices ∷ (tails 1 ++ s.choice ∷ []))
  number_row (k.Number n) e = refl
  number_row _ e = absurd (cc)

  other_row : (i : Kind) → ahead_of i ≢ a.Number → s.after_bracket_next i ≡ push (next s.expr i) (s.sign r.Closing j.CloseBracket ∷ s.slices ∷ [])
  other_row (k.Number n) ne = absurd (ne refl)
  other_row _ ne = refl

  index_of_number : (p : Stage) → ahead p.left ≡ a.Number → second p.left ≢ a.Sign j.Colon
      → read_by enter s.behind_bracket p ≡ steps_by enter (s.expr ∷ s.sign r.Closing j.CloseBracket ∷ s.slices ∷ []) p
  index_of_number p e ne =
      number_then index_symbols p e (λ q front. no_colon q (λ h. ne (front ∙ h)))
      ∙ steps_append enter (s.number r.Inner ∷ s.slices ∷ (tails 1 ++ s.choice ∷ [])) (s.sign r.Closing j.CloseBracket ∷ s.slices ∷ []) p
      ∙ ap (λ o. o >>= steps_by enter (s.sign r.Closing j.CloseBracket ∷ s.slices ∷ []))
      (sym (step_if enter s.expr (s.number r.Inner) (s.slices ∷ (tails 1 ++ s.choice ∷ [])) refl refl p (λ t ts left. number_row t.kind (ahead_front t ts e left))))

  index_of_other : (p : Stage) → ahead p.left ≢ a.Number → read_by enter s.behind_bracket p ≡ steps_by enter (s.expr ∷ s.sign r.Closing j.CloseBracket ∷ s.slices ∷ []) p
  index_of_other p ne = step_if enter s.behind_bracket s.expr (s.sign r.Closing j.CloseBracket ∷ s.slices ∷ []) refl refl p
      (λ t ts left. other_row t.kind (λ h. ne (ahead_back t ts h left)))

  pub bracket_index : (p : Stage) → (ahead p.left ≡ a.Number → second p.left ≢ a.Sign j.Colon)
      → read_by enter s.behind_bracket p ≡ steps_by enter (s.expr ∷ s.sign r.Closing j.CloseBracket ∷ s.slices ∷ []) p
  bracket_index p ne = by_ahead (ahead p.left) refl where
    by_ahead : (x : Ahead) → ahead p.left ≡ x → read_by enter s.behind_bracket p ≡ steps_by enter (s.expr ∷ s.sign r.Closing j.CloseBracket ∷ s.slices ∷ []) p
    by_ahead a.Number e = index_of_number p e (ne e)
    by_ahead _ e = index_of_other p (λ h. absurd (cc))
