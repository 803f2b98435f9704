-- What each symbol of the table reads, by the symbols of its production. `enter` may be any way to go past a token.
use Rattle.sap_lemmas.proofs.Common.{◌≡◌, ◌≢◌, List, [], ◌∷◌, ◌++◌, Ok, Err, true, false, refl, sym, ap, subst, ◌∙◌}
use Rattle.sap_parse.specs.Reading.{Enter, ahead, ahead_of, read_by, steps_by, table}
use Rattle.sap_parse.specs.Stages.{Stage}
use Rattle.sap_parse.specs.Table as s
use Rattle.sap_parse.specs.Table.{Row, Symbol, may_be_empty, next}
use Rattle.sap_parse.specs.declared.cursor.Ahead.TheVariants as a
use Rattle.sap_parse.specs.declared.cursor.Ahead.{Ahead}
use Rattle.sap_parse.specs.declared.role.Role.{Role}
use Rattle.sap_lex.specs.declared.token.Kind.TheVariants as k
use Rattle.sap_lex.specs.declared.token.Kind.{Kind}
use Rattle.sap_lex.specs.declared.token.Sign.{Sign as SignOf}
use Rattle.sap_lex.specs.declared.token.Token.{Token}
use Rattle.sap_tree.specs.declared.word.Word.{Word as WordOf}
pub use Rattle.sap_parse.proofs.Full.{IsFull, push_full}
use Rattle.sap_parse.proofs.Full.{full}
use Rattle.sap_parse.proofs.Single.{ahead_back, kind_ahead, next_not_sign, next_not_word, next_sign, next_word, word_kind_ahead}
use Rattle.sap_walk.specs.Rows.{push, optional, first_then, firsts}
use Rattle.sap_walk.specs.Walk.{Next, begins, empty_here, cannot_stand, at_token, if_empty, ◌>>=◌, steps}
use Rattle.sap_walk.proofs.Rows.{all_empty, end_as, read_as}
use Rattle.sap_walk.proofs.RowsLemmas.{push_none}
use Rattle.sap_walk.proofs.Walking.{bind_bind, bind_pure, bind_same, read_stop, read_end}

-- rows

pub first_then_full : {S R : Type 0} (n m : Next S R) (σ : List S) → IsFull n → first_then n σ m ≡ push n σ
first_then_full empty_here m σ h = absurd (h refl)
first_then_full _ m σ h = refl

optional_stop : {S R : Type 0} (n : Next S R) (σ : List S) → n ≡ cannot_stand → optional (push n σ) ≡ empty_here
optional_stop n σ e = ap (λ m. optional (push m σ)) e

optional_take : {S R : Type 0} (n : Next S R) (role : R) (σ : List S) → n ≡ begins role [] → optional (push n σ) ≡ push n σ
optional_take n role σ e = ap (λ m. optional (push m σ)) e ∙ ap (λ m. push m σ) (sym e)

module _ (enter : Enter) where
  pub steps_are : (σ : List Symbol) (p : Stage) → steps (table enter) σ p ≡ steps_by enter σ p
  unfolding read_by
  steps_are [] p = refl
  steps_are (s ∷ σ) p = bind_same (read_by enter s p) (steps (table enter) σ) (steps_by enter σ) (steps_are σ)

  pub steps_append : (σ τ : List Symbol) (p : Stage) → steps_by enter (σ ++ τ) p ≡ (steps_by enter σ p >>= steps_by enter τ)
  steps_append [] τ p = refl
  steps_append (s ∷ σ) τ p =
      bind_same (read_by enter s p) (steps_by enter (σ ++ τ)) (λ q. steps_by enter σ q >>= steps_by enter τ) (steps_append σ τ)
      ∙ sym (bind_bind (read_by enter s p) (steps_by enter σ) (steps_by enter τ))

  pub by_left : (p : Stage) (s : Symbol) (ts : List Token) → p.left ≡ ts → read_by enter s p ≡ read_by enter s (record { past = p.past; left = ts })
  by_left p s ts e = ap (λ l. read_by enter s (record { past = p.past; left = l })) e

  -- at a token that does with s what it does with the others
  pub read_at : (s : Symbol) (σ : List Symbol) (p : Stage) (t : Token) (ts : List Token) → p.left ≡ t ∷ ts → next s t.kind ≡ firsts (λ x. next x t.kind) σ
      → read_by enter s p ≡ steps_by enter σ p
  unfolding read_by
  read_at s σ p t ts left e =
      by_left p s (t ∷ ts) left ∙ read_as (table enter) s σ t ts p.past e
      ∙ steps_are σ (record { past = p.past; left = t ∷ ts }) ∙ ap (λ l. steps_by enter σ (record { past = p.past; left = l })) (sym left)

  -- at the end of the text
  pub read_none : (s : Symbol) (σ : List Symbol) (p : Stage) → p.left ≡ [] → may_be_empty s ≡ all_empty (table enter) σ → read_by enter s p ≡ steps_by enter σ p
  unfolding read_by
  read_none s σ p none e =
      by_left p s [] none ∙ end_as (table enter) s σ p.past e
      ∙ steps_are σ (record { past = p.past; left = [] }) ∙ ap (λ l. steps_by enter σ (record { past = p.past; left = l })) (sym none)

  -- at whatever stands here
  pub read_if : (s : Symbol) (σ : List Symbol) → may_be_empty s ≡ all_empty (table enter) σ → (p : Stage)
      → ((t : Token) (ts : List Token) → p.left ≡ t ∷ ts → next s t.kind ≡ firsts (λ x. next x t.kind) σ) → read_by enter s p ≡ steps_by enter σ p
  read_if s σ e p h = by_tokens p.left refl where
    by_tokens : (left : List Token) → p.left ≡ left → read_by enter s p ≡ steps_by enter σ p
    by_tokens [] none = read_none s σ p none e
    by_tokens (t ∷ ts) some = read_at s σ p t ts some (h t ts some)

  -- where s' may not be empty, by its row and what comes behind

  behind_full : (s' : Symbol) (τ : List Symbol) (i : Kind) → may_be_empty s' ≡ false → push (next s' i) τ ≡ firsts (λ x. next x i) (s' ∷ τ)
  behind_full s' τ i e = sym (first_then_full (next s' i) (firsts (λ x. next x i) τ) τ (full s' e i))

  pub step_at : (s s' : Symbol) (τ : List Symbol) → may_be_empty s' ≡ false → (p : Stage) (t : Token) (ts : List Token) → p.left ≡ t ∷ ts
      → next s t.kind ≡ push (next s' t.kind) τ → read_by enter s p ≡ steps_by enter (s' ∷ τ) p
  step_at s s' τ e p t ts left h = read_at s (s' ∷ τ) p t ts left (h ∙ behind_full s' τ t.kind e)

  pub step_if : (s s' : Symbol) (τ : List Symbol) → may_be_empty s ≡ false → may_be_empty s' ≡ false → (p : Stage)
      → ((t : Token) (ts : List Token) → p.left ≡ t ∷ ts → next s t.kind ≡ push (next s' t.kind) τ) → read_by enter s p ≡ steps_by enter (s' ∷ τ) p
  step_if s s' τ e e' p h = read_if s (s' ∷ τ) (e ∙ sym (ap (λ b. if_empty b (all_empty (table enter) τ) false) e')) p
      (λ t ts left. h t ts left ∙ behind_full s' τ t.kind e')

  pub step : (s s' : Symbol) (τ : List Symbol) → ((i : Kind) → next s i ≡ push (next s' i) τ) → may_be_empty s ≡ false → may_be_empty s' ≡ false
      → (p : Stage) → read_by enter s p ≡ steps_by enter (s' ∷ τ) p
  step s s' τ h e e' p = step_if s s' τ e e' p (λ t ts left. h t.kind)

  -- where s does as s'
  pub same_if : (s s' : Symbol) → may_be_empty s ≡ false → may_be_empty s' ≡ false → (p : Stage)
      → ((t : Token) (ts : List Token) → p.left ≡ t ∷ ts → next s t.kind ≡ next s' t.kind) → read_by enter s p ≡ read_by enter s' p
  same_if s s' e e' p h = step_if s s' [] e e' p (λ t ts left. h t ts left ∙ sym (push_none (next s' t.kind))) ∙ bind_pure (read_by enter s' p)

  -- where the token that stands here does nothing with s
  pub skips : (s : Symbol) → may_be_empty s ≡ true → (p : Stage) → ((t : Token) (ts : List Token) → p.left ≡ t ∷ ts → next s t.kind ≡ empty_here) → read_by enter s p ≡ Ok p
  skips s e p h = read_if s [] e p h

  -- where it can't begin s

  pub stops_at : (s : Symbol) (p : Stage) (t : Token) (ts : List Token) → p.left ≡ t ∷ ts → next s t.kind ≡ cannot_stand → read_by enter s p ≡ Err (at_token p)
  unfolding read_by
  stops_at s p t ts some h = by_left p s (t ∷ ts) some ∙ read_stop (table enter) s t ts p.past h ∙ ap (λ l. Err (at_token (record { past = p.past; left = l }))) (sym some)

  pub stops : (s : Symbol) → may_be_empty s ≡ false → (p : Stage)
      → ((t : Token) (ts : List Token) → p.left ≡ t ∷ ts → next s t.kind ≡ cannot_stand) → read_by enter s p ≡ Err (at_token p)
  unfolding read_by
  stops s e p h = by_tokens p.left refl where
    by_tokens : (left : List Token) → p.left ≡ left → read_by enter s p ≡ Err (at_token p)
    by_tokens [] none = by_left p s [] none ∙ read_end (table enter) s p.past e ∙ ap (λ l. Err (at_token (record { past = p.past; left = l }))) (sym none)
    by_tokens (t ∷ ts) some = stops_at s p t ts some (h t ts some)

  -- what begins with a sign or a word

  pub sign_full : (role : Role) (x : SignOf) (i : Kind) → IsFull (next (s.sign role x) i)
  sign_full role x = full (s.sign role x) refl

  pub word_full : (role : Role) (x : WordOf) (i : Kind) → IsFull (next (s.word role x) i)
  word_full role x = full (s.word role x) refl

  pub sign_then : (whole : Symbol) (role : Role) (x : SignOf) (σ : List Symbol) → ((i : Kind) → next whole i ≡ push (next (s.sign role x) i) σ) → may_be_empty whole ≡ false
      → (p : Stage) → read_by enter whole p ≡ steps_by enter (s.sign role x ∷ σ) p
  sign_then whole role x σ h e = step whole (s.sign role x) σ h e refl

  pub word_then : (whole : Symbol) (role : Role) (x : WordOf) (σ : List Symbol) → ((i : Kind) → next whole i ≡ push (next (s.word role x) i) σ) → may_be_empty whole ≡ false
      → (p : Stage) → read_by enter whole p ≡ steps_by enter (s.word role x ∷ σ) p
  word_then whole role x σ h e = step whole (s.word role x) σ h e refl

  -- the token that is known to stand here

  pub stands : {x : Ahead} (p : Stage) → ahead p.left ≡ x → x ≢ a.Nothing → (t : Token) × (ts : List Token) × (p.left ≡ t ∷ ts) × (ahead_of t.kind ≡ x)
  unfolding ahead
  stands {x = x} p e ne = by_tokens p.left refl where
    by_tokens : (left : List Token) → p.left ≡ left → (t : Token) × (ts : List Token) × (p.left ≡ t ∷ ts) × (ahead_of t.kind ≡ x)
    by_tokens [] h = absurd (ne (sym e ∙ ap ahead h))
    by_tokens (t ∷ ts) h = (t, ts, h, sym (ap ahead h) ∙ e)

  pub at_kind : (s s' : Symbol) (τ : List Symbol) (i : Kind) → next s i ≡ push (next s' i) τ → may_be_empty s' ≡ false
      → (p : Stage) (t : Token) (ts : List Token) → p.left ≡ t ∷ ts → t.kind ≡ i → read_by enter s p ≡ steps_by enter (s' ∷ τ) p
  at_kind s s' τ i h e p t ts left same = step_at s s' τ e p t ts left (subst (λ i. next s i ≡ push (next s' i) τ) (sym same) h)

  pub at_sign : (s s' : Symbol) (τ : List Symbol) (x : SignOf) → next s (k.Sign x) ≡ push (next s' (k.Sign x)) τ → may_be_empty s' ≡ false
      → (p : Stage) → ahead p.left ≡ a.Sign x → read_by enter s p ≡ steps_by enter (s' ∷ τ) p
  at_sign s s' τ x h e p here = let t = stands p here (λ h. absurd (cc)) in at_kind s s' τ (k.Sign x) h e p t.0 t.1 t.2 (kind_ahead t.0.kind x t.3)

  pub at_word : (s s' : Symbol) (τ : List Symbol) (x : WordOf) → next s (k.Word x) ≡ push (next s' (k.Word x)) τ → may_be_empty s' ≡ false
      → (p : Stage) → ahead p.left ≡ a.Word x → read_by enter s p ≡ steps_by enter (s' ∷ τ) p
  at_word s s' τ x h e p here = let t = stands p here (λ h. absurd (cc)) in at_kind s s' τ (k.Word x) h e p t.0 t.1 t.2 (word_kind_ahead t.0.kind x t.3)

  -- what may be left out

  pub sign_there : (whole : Symbol) (role : Role) (x : SignOf) (σ : List Symbol) → ((i : Kind) → next whole i ≡ optional (push (next (s.sign role x) i) σ))
      → (p : Stage) → ahead p.left ≡ a.Sign x → read_by enter whole p ≡ steps_by enter (s.sign role x ∷ σ) p
  sign_there whole role x σ h =
      at_sign whole (s.sign role x) σ x (h (k.Sign x) ∙ optional_take (next (s.sign role x) (k.Sign x)) role σ (next_sign role x (k.Sign x) refl)) refl

  pub sign_missing : (whole : Symbol) (role : Role) (x : SignOf) (σ : List Symbol)
      → ((i : Kind) → next whole i ≡ optional (push (next (s.sign role x) i) σ)) → may_be_empty whole ≡ true
      → (p : Stage) → ahead p.left ≢ a.Sign x → read_by enter whole p ≡ Ok p
  sign_missing whole role x σ h e p ne = skips whole e p (λ t ts left. h t.kind
      ∙ optional_stop (next (s.sign role x) t.kind) σ (next_not_sign role x t.kind (λ same. ne (ahead_back t ts same left))))

  pub word_there : (whole : Symbol) (role : Role) (x : WordOf) (σ : List Symbol) → ((i : Kind) → next whole i ≡ optional (push (next (s.word role x) i) σ))
      → (p : Stage) → ahead p.left ≡ a.Word x → read_by enter whole p ≡ steps_by enter (s.word role x ∷ σ) p
  word_there whole role x σ h =
      at_word whole (s.word role x) σ x (h (k.Word x) ∙ optional_take (next (s.word role x) (k.Word x)) role σ (next_word role x (k.Word x) refl)) refl

  pub word_missing : (whole : Symbol) (role : Role) (x : WordOf) (σ : List Symbol)
      → ((i : Kind) → next whole i ≡ optional (push (next (s.word role x) i) σ)) → may_be_empty whole ≡ true
      → (p : Stage) → ahead p.left ≢ a.Word x → read_by enter whole p ≡ Ok p
  word_missing whole role x σ h e p ne = skips whole e p (λ t ts left. h t.kind
      ∙ optional_stop (next (s.word role x) t.kind) σ (next_not_word role x t.kind (λ same. ne (ahead_back t ts same left))))

  -- choices by the first token

  pub front_by : {X : Type 0} (f : Ahead → X) (p : Stage) (t : Token) (ts : List Token) (x : X) → f (ahead p.left) ≡ x → p.left ≡ t ∷ ts → f (ahead_of t.kind) ≡ x
  unfolding ahead
  front_by f p t ts x e left = sym (ap (λ l. f (ahead l)) left) ∙ e

  pub nothing_ahead : (p : Stage) → p.left ≡ [] → ahead p.left ≡ a.Nothing
  unfolding ahead
  nothing_ahead p none = ap ahead none

  pub chosen_row : {X : Type 0} (front : Ahead → X) (row : X → Kind → Row) (s : Symbol) → ((i : Kind) → next s i ≡ row (front (ahead_of i)) i)
      → (x : X) (p : Stage) → front (ahead p.left) ≡ x → (t : Token) (ts : List Token) → p.left ≡ t ∷ ts → next s t.kind ≡ row x t.kind
  chosen_row front row s rows x p e t ts left = rows t.kind ∙ ap (λ x. row x t.kind) (front_by front p t ts x e left)

  -- where a symbol that may be empty isn't
  pub step_more : {X : Type 0} (front : Ahead → X) (s s' : Symbol) (τ : List Symbol) → may_be_empty s' ≡ false → (p : Stage) → front (ahead p.left) ≢ front a.Nothing
      → ((t : Token) (ts : List Token) → p.left ≡ t ∷ ts → next s t.kind ≡ push (next s' t.kind) τ) → read_by enter s p ≡ steps_by enter (s' ∷ τ) p
  step_more front s s' τ e p ne h = by_tokens p.left refl where
    by_tokens : (left : List Token) → p.left ≡ left → read_by enter s p ≡ steps_by enter (s' ∷ τ) p
    by_tokens [] none = absurd (ne (ap front (nothing_ahead p none)))
    by_tokens (t ∷ ts) left = step_at s s' τ e p t ts left (h t ts left)
