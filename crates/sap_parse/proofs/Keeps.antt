-- A token that a symbol takes, with what is then to come, stands for that symbol.
use Rattle.sap_lemmas.proofs.Common.{◌≡◌, ◌≤◌, ◌+◌, ◌-◌, ℕ, zero, suc, List, [], ◌∷◌, ◌++◌, Option, Some, None, Bool, true, false, cond, refl, sym, ap, subst, ◌∙◌, arith, eqb, eqb-true, bytes_eq}
use Rattle.sap_parse.specs.Grammar as g
use Rattle.sap_parse.specs.Grammar.{sign_of, unary_sign_of}
use Rattle.sap_parse.specs.Limits.{Counts, tally, breach}
use Rattle.sap_parse.specs.Reading.{leniently}
use Rattle.sap_parse.specs.Stages.{Stage, IsToken, IsSign, IsWord, IsName, IsNumber, IsSized, spot_here, here as place_here}
use Rattle.sap_parse.specs.Table as s
use Rattle.sap_parse.specs.Table.{Symbol, Row, if_same, next, operator_of, same_level, tails, tightest, index_symbols, expr_symbols}
use Rattle.sap_lex.specs.Spelling.{sign_text}
use Rattle.sap_lex.specs.declared.limit.Limit.{Limit}
use Rattle.sap_parse.specs.declared.role.Role.TheVariants as r
use Rattle.sap_parse.specs.declared.role.Role.{Role}
use Rattle.sap_lex.specs.declared.token.Kind.TheVariants as k
use Rattle.sap_lex.specs.declared.token.Kind.{Kind}
use Rattle.sap_lex.specs.declared.token.Sign.TheVariants as j
use Rattle.sap_lex.specs.declared.token.Sign.{Sign as SignOf}
use Rattle.sap_lex.specs.declared.token.Token.{Token}
use Rattle.sap_tree.specs.declared.word.Word.TheVariants as w
use Rattle.sap_tree.specs.Prelude.{precedence, unary_precedence, first_of, word_text}
use Rattle.sap_tree.specs.declared.word.Word.{Word as WordOf}
use Rattle.sap_tree.specs.declared.syntax.BinaryOperator.{BinaryOperator}
use Rattle.sap_tree.specs.declared.syntax.UnaryOperator.{UnaryOperator}
use Rattle.sap_tree.specs.Syntax as t
use Rattle.sap_tree.specs.declared.syntax.BinaryOperator.TheVariants as b
use Rattle.sap_tree.specs.declared.syntax.UnaryOperator.TheVariants as u
use Rattle.sap_parse.proofs.ExprLaws.{unary_full}
use Rattle.sap_parse.proofs.Laws.{sign_full}
use Rattle.sap_parse.proofs.Single.{sign_same, word_same}
use Rattle.sap_parse.proofs.Spells.{W, Lang, Langs, last, nothing, operators, expression}
use Rattle.sap_walk.specs.Limits.{Past, passed}
use Rattle.sap_walk.specs.Rows.{push, optional, ◌or◌, first_then, firsts}
use Rattle.sap_walk.specs.Walk.{begins, empty_here, cannot_stand}
use Rattle.sap_walk.proofs.Spelling.{split}

operator_sign : (x : SignOf) (o : BinaryOperator) → operator_of x ≡ Some o → x ≡ sign_of o
operator_sign j.Bar o e = cc
operator_sign _ o e = cc

precedence_small : (o : BinaryOperator) → precedence o + 1 ≤ unary_precedence
precedence_small b.Or = omega arith
precedence_small _ = omega arith

same_role : {role role' : Role} {σ σ' : List Symbol} → ◌≡◌ {A = Row} (begins role σ) (begins role' σ') → role ≡ role'
same_role e = cc

same_symbols : {role role' : Role} {σ σ' : List Symbol} → ◌≡◌ {A = Row} (begins role σ) (begins role' σ') → σ ≡ σ'
same_symbols e = cc

module _ (token : Token) (ts : List Token) (past : Past Counts Limit) where
  abbrev pub here : Stage
  here = record { past = past; left = token ∷ ts }

  abbrev pub behind : Role → Stage
  behind role = record { past = passed tally breach role token past; left = ts }

  pub stands : (role : Role) (kind : Kind) → token.kind ≡ kind → IsToken here role kind (behind role)
  stands role kind e = record { token = token; left = refl; past = refl; is = e }

  -- where the row takes the token, P holds from here to the end of what is then to come
  abbrev pub Keeps : Row → (Stage → Type 0) → Type 0
  Keeps n P = (role : Role) (σ : List Symbol) → n ≡ begins role σ → (q : Stage) → Langs σ (behind role) q → P q

  keeps_take : (role : Role) (τ : List Symbol) (P : Stage → Type 0) → ((q : Stage) → Langs τ (behind role) q → P q) → Keeps (begins role τ) P
  keeps_take role τ P h = λ role' σ e q more.
      h q (subst (λ x. Langs x (behind role) q) (sym (same_symbols e)) (subst (λ x. Langs σ (behind x) q) (sym (same_role e)) more))

  pub keeps_or : (n m : Row) (P : Stage → Type 0) → Keeps n P → Keeps m P → Keeps (n or m) P
  keeps_or (begins role σ) m P h g = h
  keeps_or empty_here m P h g = λ role σ e. absurd (cc)
  keeps_or cannot_stand m P h g = g

  pub keeps_push : (n : Row) (τ : List Symbol) (P Q : Stage → Type 0) → Keeps n P → ((m q : Stage) → P m → Langs τ m q → Q q) → Keeps (push n τ) Q
  keeps_push (begins role ρ) τ P Q h g = keeps_take role (ρ ++ τ) Q (λ q all. let c = split W Lang ρ τ (behind role) q all in g c.0 q (h role ρ refl c.0 c.1) c.2)
  keeps_push empty_here τ P Q h g = λ role σ e. absurd (cc)
  keeps_push cannot_stand τ P Q h g = λ role σ e. absurd (cc)

  pub keeps_optional : (n : Row) (P : Stage → Type 0) → Keeps n P → Keeps (optional n) P
  keeps_optional (begins role σ) P h = h
  keeps_optional empty_here P h = λ role σ e. absurd (cc)
  keeps_optional cannot_stand P h = λ role σ e. absurd (cc)

  -- a row of a single token
  keeps_one : (role : Role) (P : Stage → Type 0) → P (behind role) → Keeps (begins role []) P
  keeps_one role P h = keeps_take role [] P (λ q all. subst P all h)

  keeps_same : (role : Role) (b : Bool) (P : Stage → Type 0) → (b ≡ true → P (behind role)) → Keeps (if_same role b) P
  keeps_same role true P h = keeps_one role P (h refl)
  keeps_same role false P h = λ role' σ e. absurd (cc)

  pub keeps_sign : (role : Role) (x : SignOf) → Keeps (s.sign_next role x token.kind) (λ q. IsSign here role x q)
  keeps_sign role x = by_kind token.kind refl where
    by_kind : (i : Kind) → token.kind ≡ i → Keeps (s.sign_next role x i) (λ q. IsSign here role x q)
    by_kind (k.Sign i) e = keeps_same role (bytes_eq (sign_text i) (sign_text x)) (λ q. IsSign here role x q) (λ h. stands role (k.Sign x) (e ∙ ap k.Sign (sign_same i x h)))
    by_kind _ e = λ role σ f. absurd (cc)

  pub keeps_word : (role : Role) (x : WordOf) → Keeps (s.word_next role x token.kind) (λ q. IsWord here role x q)
  keeps_word role x = by_kind token.kind refl where
    by_kind : (i : Kind) → token.kind ≡ i → Keeps (s.word_next role x i) (λ q. IsWord here role x q)
    by_kind (k.Word i) e = keeps_same role (bytes_eq (word_text i) (word_text x)) (λ q. IsWord here role x q) (λ h. stands role (k.Word x) (e ∙ ap k.Word (word_same i x h)))
    by_kind _ e = λ role σ f. absurd (cc)

  pub keeps_name : (role : Role) → Keeps (s.name_next role token.kind) (λ q. (n : List ℕ) × IsName here role n q)
  keeps_name role = by_kind token.kind refl where
    by_kind : (i : Kind) → token.kind ≡ i → Keeps (s.name_next role i) (λ q. (n : List ℕ) × IsName here role n q)
    by_kind (k.Name n) e = keeps_one role _ (n, stands role (k.Name n) e)
    by_kind _ e = λ role σ f. absurd (cc)

  pub keeps_number : (role : Role) → Keeps (s.number_next role token.kind) (λ q. (n : ℕ) × IsNumber here role n q)
  keeps_number role = by_kind token.kind refl where
    by_kind : (i : Kind) → token.kind ≡ i → Keeps (s.number_next role i) (λ q. (n : ℕ) × IsNumber here role n q)
    by_kind (k.Number n) e = keeps_one role _ (n, stands role (k.Number n) e)
    by_kind _ e = λ role σ f. absurd (cc)

  pub keeps_sized : (role : Role) → Keeps (s.sized_next role token.kind) (λ q. (width n : ℕ) × IsSized here role width n q)
  keeps_sized role = by_kind token.kind refl where
    by_kind : (i : Kind) → token.kind ≡ i → Keeps (s.sized_next role i) (λ q. (width n : ℕ) × IsSized here role width n q)
    by_kind (k.Sized width n) e = keeps_one role _ (width, n, stands role (k.Sized width n) e)
    by_kind _ e = λ role σ f. absurd (cc)

  pub after_sign : (role : Role) (x : SignOf) (τ : List Symbol) (Q : Stage → Type 0)
      → ((m q : Stage) → IsSign here role x m → Langs τ m q → Q q) → Keeps (s.after_sign role x τ token.kind) Q
  after_sign role x τ Q h = keeps_push (s.sign_next role x token.kind) τ (λ q. IsSign here role x q) Q (keeps_sign role x) h

  pub after_word : (role : Role) (x : WordOf) (τ : List Symbol) (Q : Stage → Type 0)
      → ((m q : Stage) → IsWord here role x m → Langs τ m q → Q q) → Keeps (s.after_word role x τ token.kind) Q
  after_word role x τ Q h = keeps_push (s.word_next role x token.kind) τ (λ q. IsWord here role x q) Q (keeps_word role x) h

  pub after_name : (role : Role) (τ : List Symbol) (Q : Stage → Type 0)
      → ((m q : Stage) (n : List ℕ) → IsName here role n m → Langs τ m q → Q q) → Keeps (s.after_name role τ token.kind) Q
  after_name role τ Q h = keeps_push (s.name_next role token.kind) τ (λ q. (n : List ℕ) × IsName here role n q) Q (keeps_name role) (λ m q x more. h m q x.0 x.1 more)

  -- several symbols, one after another

  pub Element : (Symbol → Row) → Symbol → Type 0
  Element row x = Keeps (row x) (λ q. Lang x here q) × (row x ≡ empty_here → Lang x here here)

  abbrev pub Elements : (Symbol → Row) → List Symbol → Type 0
  Elements row [] = Unit {0}
  Elements row (x ∷ σ) = Element row x × Elements row σ

  elements_append : (row : Symbol → Row) (σ τ : List Symbol) → Elements row σ → Elements row τ → Elements row (σ ++ τ)
  elements_append row [] τ h g = g
  elements_append row (x ∷ σ) τ h g = (h.0, elements_append row σ τ h.1 g)

  pub keeps_firsts : (row : Symbol → Row) (σ : List Symbol) → Elements row σ → Keeps (firsts row σ) (λ q. Langs σ here q)
  unfolding Element
  keeps_firsts row [] h = λ role σ e. absurd (cc)
  keeps_firsts row (x ∷ σ) h = by_row (row x) refl h.0 (keeps_firsts row σ h.1) where
    by_row : (n : Row) → row x ≡ n → Keeps (row x) (λ q. Lang x here q) × (row x ≡ empty_here → Lang x here here) → Keeps (firsts row σ) (λ q. Langs σ here q)
        → Keeps (first_then n σ (firsts row σ)) (λ q. Langs (x ∷ σ) here q)
    by_row (begins role ρ) e h g = keeps_push (begins role ρ) σ (λ q. Lang x here q) (λ q. Langs (x ∷ σ) here q)
        (subst (λ n. Keeps n (λ q. Lang x here q)) e h.0) (λ m q a more. (m, a, more))
    by_row empty_here e h g = λ role τ f q more. (here, h.1 e, g role τ f q more)
    by_row cannot_stand e h g = λ role τ f. absurd (cc)

  -- expressions

  pub element : (row : Symbol → Row) (x : Symbol) → Keeps (row x) (λ q. Lang x here q) → (row x ≡ empty_here → Lang x here here) → Element row x
  unfolding Element
  element row x h g = (h, g)

  pub keeps_paren : Keeps (s.paren_next token.kind) (λ q. Lang s.paren here q)
  keeps_paren = after_sign r.Opening j.OpenParen _ _ (λ m q o more. (_, g.parentheses o more.1.1 (last (s.sign r.Closing j.CloseParen) more.0 q more.2)))

  pub keeps_braces : Keeps (s.braces_next token.kind) (λ q. Lang s.braces here q)
  keeps_braces = after_sign r.Opening j.OpenBrace _ _ (λ m q o more.
      let a = more.2 in let b = a.2 in let c = b.2 in
      (_, g.concat o more.1.1 a.1 b.1.1 c.1.1 (last (s.sign r.Closing j.CloseBrace) c.0 q c.2)))

  pub keeps_zext : Keeps (s.zext_next token.kind) (λ q. Lang s.zext here q)
  keeps_zext = after_word r.Inner w.Zext _ _ (λ m q word more.
      let a = more.2 in let b = a.2 in let c = b.2 in
      (_, g.zext word more.1 a.1.1 b.1 c.1.1 (last (s.sign r.Closing j.CloseParen) c.0 q c.2)))

  pub keeps_prim : Keeps (s.prim_next token.kind) (λ q. Lang s.prim here q)
  keeps_prim =
      keeps_or (s.number_next r.Inner token.kind) _ _ (λ role σ e q more. let n = keeps_number r.Inner role σ e q more in (_, g.number n.1))
      (keeps_or (s.sized_next r.Inner token.kind) _ _ (λ role σ e q more. let n = keeps_sized r.Inner role σ e q more in (_, g.sized n.2))
      (keeps_or (s.paren_next token.kind) _ _ keeps_paren (keeps_or (s.braces_next token.kind) _ _ keeps_braces keeps_zext)))

  pub keeps_post : Keeps (s.post_next token.kind) (λ q. Lang s.post here q)
  keeps_post =
      keeps_or (s.after_name r.Inner (s.behind_name ∷ []) token.kind) _ _ (after_name r.Inner _ _ (λ m q n name more. last s.behind_name m q more here n name))
      (keeps_push (s.prim_next token.kind) (s.slices ∷ []) _ (λ q. Lang s.post here q) keeps_prim (λ m q x more. let c = last s.slices m q more x.0 in (c.0, g.post x.1 c.1)))

  keeps_signed : Keeps (s.signed_next token.kind) (λ q. Lang s.unary here q)
  keeps_signed = by_kind token.kind refl where
    one : (o : UnaryOperator) → token.kind ≡ k.Sign (unary_sign_of o) → Keeps (begins r.Inner (s.unary ∷ [])) (λ q. Lang s.unary here q)
    one o e = keeps_take r.Inner (s.unary ∷ []) _ (λ q more. let x = last s.unary (behind r.Inner) q more in (_, g.signed o (stands r.Inner (k.Sign (unary_sign_of o)) e) x.1))

    by_sign : (x : SignOf) → token.kind ≡ k.Sign x → Keeps (s.signed_next (k.Sign x)) (λ q. Lang s.unary here q)
    by_sign j.Tilde e = one u.Not e
    by_sign j.Minus e = one u.Neg e
    by_sign j.Ampersand e = one u.AllOnes e
    by_sign j.Bar e = one u.AnyOne e
    by_sign j.Caret e = one u.Odd e
    by_sign _ e = λ role σ f. absurd (cc)

    by_kind : (i : Kind) → token.kind ≡ i → Keeps (s.signed_next i) (λ q. Lang s.unary here q)
    by_kind (k.Sign x) e = by_sign x e
    by_kind _ e = λ role σ f. absurd (cc)

  pub keeps_unary : Keeps (s.unary_next token.kind) (λ q. Lang s.unary here q)
  keeps_unary = keeps_or (s.signed_next token.kind) _ _ keeps_signed (λ role σ e q more. let x = keeps_post role σ e q more in (x.0, g.unsigned x.1))

  pub keeps_slice : Keeps (s.slice_next token.kind) (λ q. Lang s.slice here q)
  keeps_slice = after_sign r.Opening j.OpenBracket _ _ (λ m q o more.
      let a = more.2 in let b = a.2 in
      (_, _, g.bounds o more.1.1 a.1 b.1.1 (last (s.sign r.Closing j.CloseBracket) b.0 q b.2)))

  pub keeps_slices : Keeps (s.slices_next token.kind) (λ q. Lang s.slices here q)
  keeps_slices = keeps_optional _ _ (keeps_push (s.slice_next token.kind) (s.slices ∷ []) _ (λ q. Lang s.slices here q) keeps_slice
      (λ m q x more y. let c = last s.slices m q more (t.slice (record { first = first_of y; at = token.place }) y x.0 x.1) in (c.0, g.cut x.2 c.1)))

  pub keeps_choice : Keeps (s.choice_next token.kind) (λ q. Lang s.choice here q)
  keeps_choice = keeps_optional _ _ (after_sign r.Inner j.Question _ (λ q. Lang s.choice here q) (λ m q question more p1 x h.
      let a = more.2 in
      (_, g.choice h question more.1.1 a.1 (last s.expr a.0 q a.2).1)))

  pub keeps_tail : (l : ℕ) → Keeps (s.tail_next l token.kind) (λ q. Lang (s.tail l) here q)
  keeps_tail l = by_kind token.kind refl where
    by_level : (o : BinaryOperator) → token.kind ≡ k.Sign (sign_of o) → precedence o ≡ l → Keeps (begins r.Inner (s.bin (l + 1) ∷ s.tail l ∷ [])) (λ q. Lang (s.tail l) here q)
    by_level o e at = keeps_take r.Inner (s.bin (l + 1) ∷ s.tail l ∷ []) _ (λ q more x.
        let y = more.1 in
        let le : l + 1 ≤ unary_precedence = omega (arith, precedence_small o) in
        let c = last (s.tail l) more.0 q more.2 (t.binary_of (record { first = first_of x; at = token.place }) o x y.0) in
        (c.0, g.other o at (stands r.Inner (k.Sign (sign_of o)) e) (y.1 le) c.1))

    by_test : (o : BinaryOperator) → token.kind ≡ k.Sign (sign_of o) → (b : Bool) → eqb (precedence o) l ≡ b
        → Keeps (cond b (begins r.Inner (s.bin (l + 1) ∷ s.tail l ∷ [])) empty_here) (λ q. Lang (s.tail l) here q)
    by_test o e true f = by_level o e (eqb-true (precedence o) l f)
    by_test o e false f = λ role σ g. absurd (cc)

    by_operator : (x : SignOf) → token.kind ≡ k.Sign x → (o : Option BinaryOperator) → operator_of x ≡ o → Keeps (same_level l o) (λ q. Lang (s.tail l) here q)
    by_operator x e None f = λ role σ g. absurd (cc)
    by_operator x e (Some o) f = by_test o (e ∙ ap k.Sign (operator_sign x o f)) (eqb (precedence o) l) refl

    by_kind : (i : Kind) → token.kind ≡ i → Keeps (s.tail_next l i) (λ q. Lang (s.tail l) here q)
    by_kind (k.Sign x) e = by_operator x e (operator_of x) refl
    by_kind _ e = λ role σ f. absurd (cc)

  operands : Symbol → Row
  operands = s.operand_next token.kind

  tail_elements : (n : ℕ) → Elements operands (tightest n)
  unfolding operands
  tail_elements zero = tt
  tail_elements (suc n) = elements_append operands (tightest n) (s.tail (unary_precedence - suc n) ∷ []) (tail_elements n)
      (element operands (s.tail (unary_precedence - suc n)) (keeps_tail (unary_precedence - suc n)) (λ e. nothing (s.tail (unary_precedence - suc n)) refl here), tt)

  unary_element : Element operands s.unary
  unfolding operands
  unary_element = element operands s.unary keeps_unary (λ e. absurd (unary_full leniently token.kind e))

  slices_element : Element operands s.slices
  unfolding operands
  slices_element = element operands s.slices keeps_slices (λ e. nothing s.slices refl here)

  choice_element : Element operands s.choice
  unfolding operands
  choice_element = element operands s.choice keeps_choice (λ e. nothing s.choice refl here)

  close_element : Element operands (s.sign r.Closing j.CloseBracket)
  unfolding operands
  close_element = element operands (s.sign r.Closing j.CloseBracket) (keeps_sign r.Closing j.CloseBracket) (λ e. absurd (sign_full leniently r.Closing j.CloseBracket token.kind e))

  pub keeps_expr : Keeps (s.expr_next token.kind) (λ q. Lang s.expr here q)
  unfolding operands
  keeps_expr role σ e q more =
      let all = keeps_firsts operands expr_symbols (unary_element, elements_append operands (tails 1) (s.choice ∷ []) (tail_elements 8) (choice_element, tt)) role σ e q more in
      expression here all.0 q all.1.0 all.1.1 all.2

  pub keeps_bin : (l : ℕ) → Keeps (next (s.bin l) token.kind) (λ q. Lang (s.bin l) here q)
  unfolding operands
  keeps_bin l role σ e q more =
      let all = keeps_firsts operands (s.unary ∷ tails l) (unary_element, tail_elements (unary_precedence - l)) role σ e q more in
      let a = operators (unary_precedence - l) here all.0 q all.1.0 (omega arith) (g.operand all.1.1) all.2 in
      (a.0, λ le. let level : unary_precedence - (unary_precedence - l) ≡ l = omega arith in subst (λ n. g.Bin n here a.0 q) level a.1)

  pub keeps_after_name : Keeps (s.after_name_next token.kind) (λ q. Lang s.behind_name here q)
  keeps_after_name = keeps_optional _ _ (after_sign r.Opening j.OpenBracket (s.behind_bracket ∷ []) (λ q. Lang s.behind_name here q)
      (λ m q o more p1 n name. last s.behind_bracket m q more p1 here n name o))

  pub keeps_after_bracket : Keeps (s.after_bracket_next token.kind) (λ q. Lang s.behind_bracket here q)
  keeps_after_bracket =
      keeps_or (push (s.number_next r.Inner token.kind) (s.behind_number ∷ [])) _ _
      (keeps_push (s.number_next r.Inner token.kind) (s.behind_number ∷ []) _ (λ q. Lang s.behind_bracket here q) (keeps_number r.Inner)
      (λ m q x more p1 p2 n name o. last s.behind_number m q more p1 p2 here n x.0 name o x.1))
      (keeps_push (s.expr_next token.kind) (s.sign r.Closing j.CloseBracket ∷ s.slices ∷ []) _ (λ q. Lang s.behind_bracket here q) keeps_expr
      (λ m q x more p1 p2 n name o. index p1 p2 m q n x.0 name o x.1 more)) where
        index : (p1 p2 m q : Stage) (n : List ℕ) (x : t.Expression) → IsName p1 r.Inner n p2 → IsSign p2 r.Opening j.OpenBracket here → g.Expr here x m
            → Langs (s.sign r.Closing j.CloseBracket ∷ s.slices ∷ []) m q → (y : t.Expression) × g.Post p1 y q
        index p1 p2 m q n x name o h more = let c = last s.slices more.0 q more.2 (t.cell_at (spot_here p1) n x) in (c.0, g.post (g.cell name o h more.1) c.1)

  pub keeps_after_number : Keeps (s.after_number_next token.kind) (λ q. Lang s.behind_number here q)
  unfolding operands
  keeps_after_number =
      keeps_or (s.after_sign r.Inner j.Colon (s.number r.Inner ∷ s.sign r.Closing j.CloseBracket ∷ s.slices ∷ []) token.kind) _ _
      (after_sign r.Inner j.Colon _ (λ q. Lang s.behind_number here q) (λ m q colon more p1 p2 p3 n high name o number. slice p1 p2 p3 m q n high name o number colon more))
      (λ role σ e q more p1 p2 p3 n m name o number.
      index p1 p2 p3 q n m name o number
      (keeps_firsts operands index_symbols (
        slices_element,
        elements_append operands (tails 1) (s.choice ∷ s.sign r.Closing j.CloseBracket ∷ s.slices ∷ []) (tail_elements 8)
            (choice_element, (close_element, (slices_element, tt))),
      )
      role σ e q more)) where
        slice : (p1 p2 p3 m q : Stage) (n : List ℕ) (high : ℕ) → IsName p1 r.Inner n p2 → IsSign p2 r.Opening j.OpenBracket p3
            → IsNumber p3 r.Inner high here → IsSign here r.Inner j.Colon m
            → Langs (s.number r.Inner ∷ s.sign r.Closing j.CloseBracket ∷ s.slices ∷ []) m q → (y : t.Expression) × g.Post p1 y q
        slice p1 p2 p3 m q n high name o number colon more =
            let a = more.2 in
            let x = t.variable (spot_here p1) n in
            let c = last s.slices a.0 q a.2 (t.slice (record { first = first_of x; at = place_here p2 }) x high more.1.0) in
            (c.0, g.post (g.read name) (g.cut (g.bounds o number colon more.1.1 a.1) c.1))

        index : (p1 p2 p3 q : Stage) (n : List ℕ) (m : ℕ) → IsName p1 r.Inner n p2 → IsSign p2 r.Opening j.OpenBracket p3 → IsNumber p3 r.Inner m here
            → Langs index_symbols here q → (y : t.Expression) × g.Post p1 y q
        index p1 p2 p3 q n m name o number more =
            let first = more.1 (t.literal (spot_here p3) m) in
            let c = split W Lang (tails 1 ++ s.choice ∷ []) (s.sign r.Closing j.CloseBracket ∷ s.slices ∷ []) more.0 q more.2 in
            let x = expression p3 more.0 c.0 first.0 (g.unsigned (g.post (g.number number) first.1)) c.1 in
            let cuts = last s.slices c.2.0 q c.2.2 (t.cell_at (spot_here p1) n x.0) in
            (cuts.0, g.post (g.cell name o x.1 c.2.1) cuts.1)
