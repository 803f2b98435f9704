-- What the symbols of expressions read.
use Rattle.sap_lemmas.proofs.Common.{◌≡◌, ◌≢◌, ◌<◌, ◌+◌, ◌-◌, ℕ, suc, List, [], ◌∷◌, ◌++◌, Option, Some, None, Ok, Err, Bool, true, false, cond, refl, sym, ap, ◌∙◌, arith, nat_tests, ◌==◌}
use Rattle.sap_walk.proofs.RowsLemmas.{push_push}
use Rattle.sap_parse.specs.Choices.{primary_of, operator_at, of_precedence, unary_at, unary_operator_of}
use Rattle.sap_parse.specs.Grammar.{sign_of, unary_sign_of}
use Rattle.sap_parse.specs.Reading.{Enter, ahead, ahead_of, read_by, steps_by}
use Rattle.sap_parse.specs.Stages.{Stage}
use Rattle.sap_parse.specs.Table as s
use Rattle.sap_parse.specs.Table.{Symbol, Row, is_unary, next, operator_of, same_level, tails, tightest}
use Rattle.sap_parse.specs.declared.choice.Primary.TheVariants as pr
use Rattle.sap_parse.specs.declared.choice.Primary.{Primary}
use Rattle.sap_parse.specs.declared.cursor.Ahead.TheVariants as a
use Rattle.sap_parse.specs.declared.cursor.Ahead.{Ahead}
use Rattle.sap_parse.specs.declared.role.Role.TheVariants as r
use Rattle.sap_lex.specs.declared.token.Kind.TheVariants as k
use Rattle.sap_lex.specs.declared.token.Kind.{Kind}
use Rattle.sap_lex.specs.declared.token.Sign.TheVariants as j
use Rattle.sap_lex.specs.declared.token.Sign.{Sign as SignOf}
use Rattle.sap_lex.specs.declared.token.Token.{Token}
use Rattle.sap_tree.specs.declared.word.Word.TheVariants as w
use Rattle.sap_tree.specs.Precedence.{precedence, unary_precedence}
use Rattle.sap_tree.specs.declared.syntax.BinaryOperator.{BinaryOperator}
use Rattle.sap_tree.specs.declared.syntax.UnaryOperator.{UnaryOperator}
use Rattle.sap_parse.proofs.Full.{IsFull, full}
use Rattle.sap_parse.proofs.Laws.{at_sign, chosen_row, first_then_full, front_by, same_if, sign_missing, sign_there, skips, step, step_if, step_more, stops}
use Rattle.sap_parse.proofs.Single.{ahead_back, ahead_front, next_not_sign, next_sign}
use Rattle.sap_walk.specs.Rows.{push, optional, ◌or◌, firsts}
use Rattle.sap_walk.specs.Walk.{begins, empty_here, cannot_stand, at_token}
use Rattle.sap_walk.proofs.Walking.{bind_pure}

-- operands, by what the reader chooses

abbrev prim_row : Primary → Kind → Row
prim_row pr.Number = next (s.number r.Inner)
prim_row pr.Sized = next (s.sized r.Inner)
prim_row pr.Paren = next s.paren
prim_row pr.Braces = next s.braces
prim_row pr.Zext = next s.zext
prim_row pr.Neither = λ i. cannot_stand

prim_rows : (i : Kind) → next s.prim i ≡ prim_row (primary_of (ahead_of i)) i
unfolding primary_of
prim_rows (k.Sign j.OpenParen) = refl
prim_rows (k.Word w.Zext) = refl
prim_rows _ = refl

module _ (enter : Enter) where
  pub unary_full : (i : Kind) → IsFull (s.unary_next i)
  unary_full = full s.unary refl

  -- what may be left out

  pub choice_missing : (p : Stage) → ahead p.left ≢ a.Sign j.Question → read_by enter s.choice p ≡ Ok p
  choice_missing = sign_missing enter s.choice r.Inner j.Question _ (λ i. refl) refl

  pub parts_there : (p : Stage) → ahead p.left ≡ a.Sign j.Comma → read_by enter s.parts p ≡ steps_by enter (s.sign r.Inner j.Comma ∷ s.expr ∷ s.parts ∷ []) p
  parts_there = sign_there enter s.parts r.Inner j.Comma _ (λ i. refl)

  pub parts_missing : (p : Stage) → ahead p.left ≢ a.Sign j.Comma → read_by enter s.parts p ≡ Ok p
  parts_missing = sign_missing enter s.parts r.Inner j.Comma _ (λ i. refl) refl

  pub after_name_there : (p : Stage) → ahead p.left ≡ a.Sign j.OpenBracket
      → read_by enter s.behind_name p ≡ steps_by enter (s.sign r.Opening j.OpenBracket ∷ s.behind_bracket ∷ []) p
  after_name_there = sign_there enter s.behind_name r.Opening j.OpenBracket _ (λ i. refl)

  pub after_name_missing : (p : Stage) → ahead p.left ≢ a.Sign j.OpenBracket → read_by enter s.behind_name p ≡ Ok p
  after_name_missing = sign_missing enter s.behind_name r.Opening j.OpenBracket _ (λ i. refl) refl

  pub slices_there : (p : Stage) → ahead p.left ≡ a.Sign j.OpenBracket → read_by enter s.slices p ≡ steps_by enter (s.slice ∷ s.slices ∷ []) p
  slices_there = at_sign enter s.slices s.slice (s.slices ∷ []) j.OpenBracket refl refl

  pub slices_missing : (p : Stage) → ahead p.left ≢ a.Sign j.OpenBracket → read_by enter s.slices p ≡ Ok p
  slices_missing p ne = skips enter s.slices refl p (λ t ts left. no_slice t.kind (λ h. ne (ahead_back t ts h left))) where
    no_slice : (i : Kind) → ahead_of i ≢ a.Sign j.OpenBracket → s.slices_next i ≡ empty_here
    no_slice i h = ap (λ n. optional (push (push n (s.number r.Inner ∷ s.sign r.Inner j.Colon ∷ s.number r.Inner
        ∷ s.sign r.Closing j.CloseBracket ∷ [])) (s.slices ∷ []))) (next_not_sign r.Opening j.OpenBracket i h)

  -- choices by the first token

  chosen : (x : Primary) (p : Stage) → primary_of (ahead p.left) ≡ x → (t : Token) (ts : List Token) → p.left ≡ t ∷ ts → next s.prim t.kind ≡ prim_row x t.kind
  chosen = chosen_row enter primary_of prim_row s.prim prim_rows

  pub prim_number : (p : Stage) → primary_of (ahead p.left) ≡ pr.Number → read_by enter s.prim p ≡ read_by enter (s.number r.Inner) p
  prim_number p e = same_if enter s.prim (s.number r.Inner) refl refl p (chosen pr.Number p e)

  pub prim_sized : (p : Stage) → primary_of (ahead p.left) ≡ pr.Sized → read_by enter s.prim p ≡ read_by enter (s.sized r.Inner) p
  prim_sized p e = same_if enter s.prim (s.sized r.Inner) refl refl p (chosen pr.Sized p e)

  pub prim_paren : (p : Stage) → primary_of (ahead p.left) ≡ pr.Paren → read_by enter s.prim p ≡ read_by enter s.paren p
  prim_paren p e = same_if enter s.prim s.paren refl refl p (chosen pr.Paren p e)

  pub prim_braces : (p : Stage) → primary_of (ahead p.left) ≡ pr.Braces → read_by enter s.prim p ≡ read_by enter s.braces p
  prim_braces p e = same_if enter s.prim s.braces refl refl p (chosen pr.Braces p e)

  pub prim_zext : (p : Stage) → primary_of (ahead p.left) ≡ pr.Zext → read_by enter s.prim p ≡ read_by enter s.zext p
  prim_zext p e = same_if enter s.prim s.zext refl refl p (chosen pr.Zext p e)

  pub prim_neither : (p : Stage) → primary_of (ahead p.left) ≡ pr.Neither → read_by enter s.prim p ≡ Err (at_token p)
  prim_neither p e = stops enter s.prim refl p (chosen pr.Neither p e)

  -- an operand, and what may follow it

  row_post : (i : Kind) → ahead_of i ≢ a.Name → s.post_next i ≡ push (s.prim_next i) (s.slices ∷ [])
  row_post (k.Name n) ne = absurd (ne refl)
  row_post _ ne = refl

  pub post_prim : (p : Stage) → ahead p.left ≢ a.Name → read_by enter s.post p ≡ steps_by enter (s.prim ∷ s.slices ∷ []) p
  post_prim p ne = step_if enter s.post s.prim (s.slices ∷ []) refl refl p (λ t ts left. row_post t.kind (λ h. ne (ahead_back t ts h left)))

  row_name : (i : Kind) → ahead_of i ≡ a.Name → s.post_next i ≡ push (s.name_next r.Inner i) (s.behind_name ∷ [])
  row_name (k.Name n) e = refl
  row_name _ e = absurd (cc)

  pub post_name : (p : Stage) → ahead p.left ≡ a.Name → read_by enter s.post p ≡ steps_by enter (s.any_name r.Inner ∷ s.behind_name ∷ []) p
  post_name p e = step_if enter s.post (s.any_name r.Inner) (s.behind_name ∷ []) refl refl p (λ t ts left. row_name t.kind (ahead_front t ts e left))

  -- unary operators

  unary_sign : (x : SignOf) (o : UnaryOperator) → unary_operator_of x ≡ Some o → (unary_sign_of o ≡ x) × (is_unary x ≡ true)
  unary_sign j.Tilde o e = (cc, cc)
  unary_sign _ o e = (cc, cc)

  unary_kind : (i : Kind) (o : UnaryOperator) → unary_at (ahead_of i) ≡ Some o → s.unary_next i ≡ push (next (s.sign r.Inner (unary_sign_of o)) i) (s.unary ∷ [])
  unfolding unary_at
  unary_kind (k.Sign x) o e =
      let h = unary_sign x o e in
      ap (λ b. (cond b (begins r.Inner (s.unary ∷ [])) cannot_stand) or s.post_next (k.Sign x)) h.1
      ∙ ap (λ n. push n (s.unary ∷ [])) (sym (next_sign r.Inner (unary_sign_of o) (k.Sign x) (ap k.Sign (sym h.0))))
  unary_kind _ o e = absurd (cc)

  unary_not : (i : Kind) → unary_at (ahead_of i) ≡ None → s.unary_next i ≡ s.post_next i
  unfolding unary_at
  unary_not (k.Sign j.Tilde) e = cc
  unary_not _ e = cc

  pub unary_there : (p : Stage) (o : UnaryOperator) → unary_at (ahead p.left) ≡ Some o
      → read_by enter s.unary p ≡ steps_by enter (s.sign r.Inner (unary_sign_of o) ∷ s.unary ∷ []) p
  unary_there p o e = step_if enter s.unary (s.sign r.Inner (unary_sign_of o)) (s.unary ∷ []) refl refl p
      (λ t ts left. unary_kind t.kind o (front_by enter unary_at p t ts (Some o) e left))

  pub unary_missing : (p : Stage) → unary_at (ahead p.left) ≡ None → read_by enter s.unary p ≡ read_by enter s.post p
  unary_missing p e = same_if enter s.unary s.post refl refl p (λ t ts left. unary_not t.kind (front_by enter unary_at p t ts None e left))

  -- operators by precedence

  bin_row : (l : ℕ) (i : Kind) → next (s.bin l) i ≡ push (s.unary_next i) (tails l)
  bin_row l i = first_then_full (s.unary_next i) (firsts (s.operand_next i) (tails l)) (tails l) (unary_full i)

  pub bin_unary : (p : Stage) → read_by enter (s.bin unary_precedence) p ≡ read_by enter s.unary p
  bin_unary p = step enter (s.bin unary_precedence) s.unary [] (bin_row unary_precedence) refl refl p ∙ bind_pure (read_by enter s.unary p)

  tails_more : (l : ℕ) → l < unary_precedence → tails l ≡ tails (l + 1) ++ s.tail l ∷ []
  tails_more l h =
      let one : unary_precedence - l ≡ suc (unary_precedence - (l + 1)) = omega arith in
      let back : unary_precedence - suc (unary_precedence - (l + 1)) ≡ l = omega arith in
      ap tightest one ∙ ap (λ n. tails (l + 1) ++ s.tail n ∷ []) back

  -- an operand of tighter operators, and what comes behind them
  bin_more : (l : ℕ) (σ : List Symbol) (i : Kind) → push (s.unary_next i) (tails l ++ σ) ≡ push (next (s.bin l) i) σ
  bin_more l σ i = sym (push_push (s.unary_next i) (tails l) σ) ∙ ap (λ n. push n σ) (sym (bin_row l i))

  pub bin_tail : (p : Stage) (l : ℕ) → l < unary_precedence → read_by enter (s.bin l) p ≡ steps_by enter (s.bin (l + 1) ∷ s.tail l ∷ []) p
  bin_tail p l h = step enter (s.bin l) (s.bin (l + 1)) (s.tail l ∷ [])
      (λ i. bin_row l i ∙ ap (push (s.unary_next i)) (tails_more l h) ∙ bin_more (l + 1) (s.tail l ∷ []) i) refl refl p

  pub expr_bin : (p : Stage) → read_by enter s.expr p ≡ steps_by enter (s.bin 1 ∷ s.choice ∷ []) p
  expr_bin p = step enter s.expr (s.bin 1) (s.choice ∷ [])
      (λ i. first_then_full (s.unary_next i) (firsts (s.operand_next i) (tails 1 ++ s.choice ∷ [])) (tails 1 ++ s.choice ∷ []) (unary_full i)
      ∙ bin_more 1 (s.choice ∷ []) i) refl refl p

  sign_operator : (x : SignOf) (o : BinaryOperator) → operator_of x ≡ Some o → sign_of o ≡ x
  sign_operator j.Bar o e = cc
  sign_operator _ o e = cc

  -- an operator of the precedence, and what the row then is
  level_some : (l : ℕ) (q : Option BinaryOperator) (o : BinaryOperator) → of_precedence l q ≡ Some o
      → (q ≡ Some o) × (precedence o ≡ l) × (same_level l q ≡ begins r.Inner (s.bin (l + 1) ∷ s.tail l ∷ []))
  level_some l None o e = absurd (cc)
  level_some l (Some x) o e = by_test (precedence x == l) refl e where
    by_test : (b : Bool) → (precedence x == l) ≡ b → cond b (Some x) None ≡ Some o
        → (Some x ≡ Some o) × (precedence o ≡ l) × (same_level l (Some x) ≡ begins r.Inner (s.bin (l + 1) ∷ s.tail l ∷ []))
    by_test true h g =
        let same : x ≡ o = cc in
        let level : precedence x ≡ l = grind (arith, nat_tests) in
        (g, ap precedence (sym same) ∙ level, ap (λ b. cond b (begins r.Inner (s.bin (l + 1) ∷ s.tail l ∷ [])) empty_here) h)
    by_test false h g = absurd (cc)

  level_none : (l : ℕ) (q : Option BinaryOperator) → of_precedence l q ≡ None → same_level l q ≡ empty_here
  level_none l None e = refl
  level_none l (Some x) e = by_test (precedence x == l) refl e where
    by_test : (b : Bool) → (precedence x == l) ≡ b → cond b (Some x) None ≡ None → same_level l (Some x) ≡ empty_here
    by_test true h g = absurd (cc)
    by_test false h g = ap (λ b. cond b (begins r.Inner (s.bin (l + 1) ∷ s.tail l ∷ [])) empty_here) h

  tail_kind : (l : ℕ) (i : Kind) (o : BinaryOperator) → operator_at l (ahead_of i) ≡ Some o
      → s.tail_next l i ≡ push (next (s.sign r.Inner (sign_of o)) i) (s.bin (l + 1) ∷ s.tail l ∷ [])
  unfolding operator_at
  tail_kind l (k.Sign x) o e =
      let h = level_some l (operator_of x) o e in
      h.2 ∙ ap (λ n. push n (s.bin (l + 1) ∷ s.tail l ∷ [])) (sym (next_sign r.Inner (sign_of o) (k.Sign x) (ap k.Sign (sym (sign_operator x o h.0)))))
  tail_kind l _ o e = absurd (cc)

  tail_not : (l : ℕ) (i : Kind) → operator_at l (ahead_of i) ≡ None → s.tail_next l i ≡ empty_here
  unfolding operator_at
  tail_not l (k.Sign x) e = level_none l (operator_of x) e
  tail_not l _ e = refl

  pub tail_there : (p : Stage) (l : ℕ) (o : BinaryOperator) → operator_at l (ahead p.left) ≡ Some o
      → read_by enter (s.tail l) p ≡ steps_by enter (s.sign r.Inner (sign_of o) ∷ s.bin (l + 1) ∷ s.tail l ∷ []) p
  unfolding operator_at
  tail_there p l o e = step_more enter (operator_at l) (s.tail l) (s.sign r.Inner (sign_of o)) (s.bin (l + 1) ∷ s.tail l ∷ []) refl p
      (λ none. let h : None ≡ Some o = sym none ∙ e in absurd (cc)) (λ t ts left. tail_kind l t.kind o (front_by enter (operator_at l) p t ts (Some o) e left))

  pub tail_missing : (p : Stage) (l : ℕ) → operator_at l (ahead p.left) ≡ None → read_by enter (s.tail l) p ≡ Ok p
  tail_missing p l e = skips enter (s.tail l) refl p (λ t ts left. tail_not l t.kind (front_by enter (operator_at l) p t ts None e left))

  pub operator_level : (p : Stage) (l : ℕ) (o : BinaryOperator) → operator_at l (ahead p.left) ≡ Some o → precedence o ≡ l
  unfolding operator_at
  operator_level p l o e = by_ahead (ahead p.left) e where
    by_ahead : (x : Ahead) → operator_at l x ≡ Some o → precedence o ≡ l
    by_ahead (a.Sign x) h = (level_some l (operator_of x) o h).1
    by_ahead _ h = absurd (cc)
