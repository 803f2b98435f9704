-- What the grammar spells in expressions, the walk reads.
use Rattle.sap_lemmas.proofs.Common.{◌≡◌, ◌≢◌, ◌+◌, ℕ, List, [], ◌∷◌, ◌++◌, Option, Some, None, Ok, Bool, true, false, refl, sym, ap, subst, ◌∙◌, arith, nat_lt, nat_tests}
use Rattle.sap_parse.proofs.ReadingLemmas.{ok_one}
use Rattle.sap_parse.specs.Grammar as g
use Rattle.sap_parse.specs.Grammar.{sign_of, unary_sign_of}
use Rattle.sap_parse.specs.Reading.{leniently}
use Rattle.sap_parse.specs.Stages.{Stage, IsToken, IsSign}
use Rattle.sap_parse.specs.Table as s
use Rattle.sap_parse.specs.Table.{Symbol, Row, next, operator_of, tails, index_symbols}
use Rattle.sap_parse.specs.declared.role.Role.TheVariants as r
use Rattle.sap_parse.specs.declared.role.Role.{Role}
use Rattle.sap_lex.specs.declared.token.Kind.TheVariants as k
use Rattle.sap_lex.specs.declared.token.Kind.{Kind}
use Rattle.sap_lex.specs.declared.token.Sign.TheVariants as j
use Rattle.sap_lex.specs.declared.token.Sign.{Sign as SignOf}
use Rattle.sap_tree.specs.declared.word.Word.TheVariants as w
use Rattle.sap_tree.specs.Precedence.{precedence, unary_precedence}
use Rattle.sap_tree.specs.declared.syntax.BinaryOperator.{BinaryOperator}
use Rattle.sap_tree.specs.declared.syntax.UnaryOperator.{UnaryOperator}
use Rattle.sap_tree.specs.Syntax as t
use Rattle.sap_tree.specs.declared.syntax.BinaryOperator.TheVariants as b
use Rattle.sap_tree.specs.declared.syntax.UnaryOperator.TheVariants as u
use Rattle.sap_parse.proofs.ExprLaws.{bin_tail, bin_unary, expr_bin, unary_full}
use Rattle.sap_parse.proofs.Known.{R, Rs, at_token_of, at_kind, at_none, stands_here, steps_append, takes, first_kind, first_is, name_reads, number_reads, sign_reads, sized_reads, skipped, word_reads}
use Rattle.sap_walk.specs.Rows.{push, first_then, firsts}
use Rattle.sap_walk.specs.Walk.{begins, empty_here, cannot_stand}
use Rattle.sap_walk.proofs.Walking.{bind_ok, bind_pure}

-- where an expression may end: no operator of this precedence or a tighter one is next, and no `[`

abbrev pub ends_at : ℕ → Option BinaryOperator → Bool
ends_at l None = true
ends_at l (Some o) = nat_lt (precedence o) l

abbrev pub ends_at_sign : ℕ → SignOf → Bool
ends_at_sign l j.OpenBracket = false
ends_at_sign l sign = ends_at l (operator_of sign)

abbrev pub ends : ℕ → Option Kind → Bool
ends l None = true
ends l (Some (k.Sign sign)) = ends_at_sign l sign
ends l (Some kind) = true

-- and no `?` either
abbrev pub ends_expr : Option Kind → Bool
ends_expr (Some (k.Sign j.Question)) = false
ends_expr i = ends 1 i

above_at : (l : ℕ) (o : Option BinaryOperator) → ends_at l o ≡ true → ends_at (l + 1) o ≡ true
above_at l None h = refl
above_at l (Some o) h = grind (arith, nat_tests)

above_sign : (l : ℕ) (x : SignOf) → ends_at_sign l x ≡ true → ends_at_sign (l + 1) x ≡ true
above_sign l j.OpenBracket h = absurd (cc)
above_sign l x h = above_at l (operator_of x) h

pub ends_above : (l : ℕ) (i : Option Kind) → ends l i ≡ true → ends (l + 1) i ≡ true
ends_above l None h = refl
ends_above l (Some (k.Sign x)) h = above_sign l x h
ends_above l (Some _) h = refl

pub operator_ends : (o : BinaryOperator) (l : ℕ) → precedence o ≡ l → ends (l + 1) (Some (k.Sign (sign_of o))) ≡ true
operator_ends b.Or l h = grind (arith, nat_tests)
operator_ends _ l h = grind (arith, nat_tests)

pub no_bracket : (l : ℕ) (i : Option Kind) → ends l i ≡ true → i ≢ Some (k.Sign j.OpenBracket)
no_bracket l i h e = let z : ends l (Some (k.Sign j.OpenBracket)) ≡ true = subst (λ x. ends l x ≡ true) e h in cc

pub expr_bin_ends : (i : Option Kind) → ends_expr i ≡ true → ends 1 i ≡ true
expr_bin_ends None h = refl
expr_bin_ends (Some (k.Sign j.Question)) h = refl
expr_bin_ends (Some (k.Sign _)) h = h
expr_bin_ends (Some _) h = refl

pub no_question : (i : Option Kind) → ends_expr i ≡ true → i ≢ Some (k.Sign j.Question)
no_question i h e = let z : ends_expr (Some (k.Sign j.Question)) ≡ true = subst (λ x. ends_expr x ≡ true) e h in cc

-- rows that are skipped there

skip_level : (l : ℕ) (o : Option BinaryOperator) → ends_at l o ≡ true → s.same_level l o ≡ empty_here
skip_level l None h = refl
skip_level l (Some o) h = grind (arith, nat_tests)

skip_sign : (l : ℕ) (x : SignOf) → ends_at_sign l x ≡ true → s.tail_next l (k.Sign x) ≡ empty_here
skip_sign l j.OpenBracket h = absurd (cc)
skip_sign l x h = skip_level l (operator_of x) h

skip_tail : (l : ℕ) (i : Kind) → ends l (Some i) ≡ true → s.tail_next l i ≡ empty_here
skip_tail l (k.Sign x) h = skip_sign l x h
skip_tail l (k.Word x) h = refl
skip_tail l _ h = refl

skip_slices : (i : Kind) → i ≢ k.Sign j.OpenBracket → s.slices_next i ≡ empty_here
skip_slices (k.Sign j.OpenBracket) ne = absurd (ne refl)
skip_slices _ ne = refl

skip_after_name : (i : Kind) → i ≢ k.Sign j.OpenBracket → s.after_name_next i ≡ empty_here
skip_after_name (k.Sign j.OpenBracket) ne = absurd (ne refl)
skip_after_name _ ne = refl

skip_choice : (i : Kind) → i ≢ k.Sign j.Question → s.choice_next i ≡ empty_here
skip_choice (k.Sign j.Question) ne = absurd (ne refl)
skip_choice _ ne = refl

skip_parts : (i : Kind) → i ≢ k.Sign j.Comma → next s.parts i ≡ empty_here
skip_parts (k.Sign j.Comma) ne = absurd (ne refl)
skip_parts _ ne = refl

-- the kind that is next is not this one
pub not_kind : {i : Kind} (j : Kind) (p : Stage) → first_kind p ≢ Some j → first_kind p ≡ Some i → i ≢ j
not_kind j p ne e same = ne (e ∙ ap (λ x. Some x) same)

-- rows of operators

operator_row : (o : BinaryOperator) → next (s.tail (precedence o)) (k.Sign (sign_of o))
    ≡ firsts (λ y. next y (k.Sign (sign_of o))) (s.sign r.Inner (sign_of o) ∷ s.bin (precedence o + 1) ∷ s.tail (precedence o) ∷ [])
operator_row b.Or = refl
operator_row _ = refl

operator_row_at : (o : BinaryOperator) (l : ℕ) → precedence o ≡ l
    → next (s.tail l) (k.Sign (sign_of o)) ≡ firsts (λ y. next y (k.Sign (sign_of o))) (s.sign r.Inner (sign_of o) ∷ s.bin (l + 1) ∷ s.tail l ∷ [])
operator_row_at o l e = subst (λ n. next (s.tail n) (k.Sign (sign_of o))
    ≡ firsts (λ y. next y (k.Sign (sign_of o))) (s.sign r.Inner (sign_of o) ∷ s.bin (n + 1) ∷ s.tail n ∷ [])) e (operator_row o)

unary_row : (o : UnaryOperator) → next s.unary (k.Sign (unary_sign_of o)) ≡ firsts (λ y. next y (k.Sign (unary_sign_of o))) (s.sign r.Inner (unary_sign_of o) ∷ s.unary ∷ [])
unary_row u.Not = refl
unary_row _ = refl

-- an index behind a name: it may begin with a number, but no `:` follows that

row_after_number : (i : Kind) → i ≢ k.Sign j.Colon → next s.behind_number i ≡ firsts (λ y. next y i) index_symbols
row_after_number (k.Sign j.Colon) ne = absurd (ne refl)
row_after_number _ ne = refl

row_push : (n m : Row) {role : Role} {ρ : List Symbol} (σ : List Symbol) → n ≡ begins role ρ → push n σ ≡ first_then n σ m
row_push n m σ e = ap (λ x. push x σ) e ∙ sym (ap (λ x. first_then x σ m) e)

close : List Symbol
close = s.sign r.Closing j.CloseBracket ∷ s.slices ∷ []

row_after_bracket : (i : Kind) {role : Role} {ρ : List Symbol} → ((n : ℕ) → i ≢ k.Number n) → next s.expr i ≡ begins role ρ
    → next s.behind_bracket i ≡ firsts (λ y. next y i) (s.expr ∷ close)
unfolding close
row_after_bracket (k.Number x) ne e = absurd (ne x refl)
row_after_bracket i ne e = row_push (next s.expr i) (firsts (λ y. next y i) close) close e

-- behind the first operand of an expression
behind : List Symbol
behind = s.slices ∷ (tails 1 ++ s.choice ∷ [])

expr_full : (i : Kind) → next s.expr i ≢ empty_here
expr_full i = by_row (s.unary_next i) (unary_full leniently i) where
  by_row : (n : Row) → n ≢ empty_here → first_then n (tails 1 ++ s.choice ∷ []) (firsts (s.operand_next i) (tails 1 ++ s.choice ∷ [])) ≢ empty_here
  by_row (begins role σ) ne e = cc
  by_row empty_here ne e = ne refl
  by_row cannot_stand ne e = cc

some_one : {a b : Kind} (i : Option Kind) → i ≡ Some a → i ≡ Some b → a ≡ b
some_one i e f = cc

colon_skips : (m : Stage) → first_kind m ≡ Some (k.Sign j.Colon) → Rs behind m ≡ Ok m
unfolding behind
colon_skips m e =
    bind_ok _ _ _ (skip s.slices refl refl) ∙ bind_ok _ _ _ (skip (s.tail 8) refl refl) ∙ bind_ok _ _ _ (skip (s.tail 7) refl refl)
    ∙ bind_ok _ _ _ (skip (s.tail 6) refl refl) ∙ bind_ok _ _ _ (skip (s.tail 5) refl refl) ∙ bind_ok _ _ _ (skip (s.tail 4) refl refl)
    ∙ bind_ok _ _ _ (skip (s.tail 3) refl refl) ∙ bind_ok _ _ _ (skip (s.tail 2) refl refl) ∙ bind_ok _ _ _ (skip (s.tail 1) refl refl)
    ∙ bind_ok _ _ _ (skip s.choice refl refl) where
      skip : (x : Symbol) → s.may_be_empty x ≡ true → next x (k.Sign j.Colon) ≡ empty_here → R x m ≡ Ok m
      skip x h row = skipped x m h (λ i f. subst (λ i. next x i ≡ empty_here) (some_one (first_kind m) e f) row)

-- a number that begins an index isn't followed by `:`
pub no_colon : (p m q : Stage) (n : ℕ) → IsToken p r.Inner (k.Number n) m → R s.expr p ≡ Ok q → first_kind q ≡ Some (k.Sign j.CloseBracket)
    → first_kind m ≢ Some (k.Sign j.Colon)
unfolding behind
no_colon p m q n t h e f =
    let rest : Rs behind m ≡ Ok q = sym (at_token_of s.expr (s.number r.Inner ∷ behind) t refl ∙ bind_ok _ _ _ (number_reads t)) ∙ h in
    let same : m ≡ q = ok_one (Rs behind m) (colon_skips m f) rest in
    let both : k.Sign j.Colon ≡ k.Sign j.CloseBracket = some_one (first_kind m) f (ap first_kind same ∙ e) in
    absurd (cc)

number_index : (p m q : Stage) (n : ℕ) → IsToken p r.Inner (k.Number n) m → R s.expr p ≡ Ok q → first_kind q ≡ Some (k.Sign j.CloseBracket) → R s.behind_bracket p ≡ Rs close q
unfolding close behind
number_index p m q n t h e =
    at_token_of s.behind_bracket (s.number r.Inner ∷ s.behind_number ∷ []) t refl ∙ bind_ok _ _ _ (number_reads t) ∙ bind_pure (R s.behind_number m)
    ∙ by_kind (first_kind m) refl ∙ steps_append behind close m ∙ bind_ok _ _ _ rest where
      rest : Rs behind m ≡ Ok q
      rest = sym (at_token_of s.expr (s.number r.Inner ∷ behind) t refl ∙ bind_ok _ _ _ (number_reads t)) ∙ h

      by_kind : (i : Option Kind) → first_kind m ≡ i → R s.behind_number m ≡ Rs (behind ++ close) m
      by_kind None f = at_none s.behind_number (behind ++ close) m f refl
      by_kind (Some i) f = at_kind s.behind_number (behind ++ close) i m f (row_after_number i (λ c. no_colon p m q n t h e (f ∙ ap (λ x. Some x) c)))

index_reads : (p q : Stage) → R s.expr p ≡ Ok q → first_kind q ≡ Some (k.Sign j.CloseBracket) → R s.behind_bracket p ≡ Rs close q
index_reads p q h e = let t = takes s.expr p q refl expr_full h in by_kind t.kind t.here t.row where
  not_number : {role : Role} {ρ : List Symbol} (i : Kind) → first_kind p ≡ Some i → next s.expr i ≡ begins role ρ → ((n : ℕ) → i ≢ k.Number n) → R s.behind_bracket p ≡ Rs close q
  not_number i f row ne = at_kind s.behind_bracket (s.expr ∷ close) i p f (row_after_bracket i ne row) ∙ bind_ok _ _ _ h

  by_kind : {role : Role} {ρ : List Symbol} (i : Kind) → first_kind p ≡ Some i → next s.expr i ≡ begins role ρ → R s.behind_bracket p ≡ Rs close q
  by_kind (k.Number n) f row = let t = stands_here p r.Inner (k.Number n) f in number_index p t.0 q n t.1 h e
  by_kind i f row = not_number i f row (λ n c. absurd (cc))

-- the rules

pub bounds_read : {p q : Stage} {high low : ℕ} → g.Bounds p high low q → R s.slice p ≡ Ok q
bounds_read (g.bounds o high c low z) =
    at_token_of s.slice (s.sign r.Opening j.OpenBracket ∷ s.number r.Inner ∷ s.sign r.Inner j.Colon ∷ s.number r.Inner ∷ s.sign r.Closing j.CloseBracket ∷ []) o refl
    ∙ bind_ok _ _ _ (sign_reads o) ∙ bind_ok _ _ _ (number_reads high) ∙ bind_ok _ _ _ (sign_reads c) ∙ bind_ok _ _ _ (number_reads low) ∙ bind_ok _ _ _ (sign_reads z)

pub bounds_first : {p q : Stage} {high low : ℕ} → g.Bounds p high low q → first_kind p ≡ Some (k.Sign j.OpenBracket)
bounds_first (g.bounds o high c low z) = first_is o

pub cuts_read : {p q : Stage} {x y : t.Expression} → g.Cuts x p y q → first_kind q ≢ Some (k.Sign j.OpenBracket) → R s.slices p ≡ Ok q
cuts_read {p} g.no_cut ne = skipped s.slices p refl (λ i e. skip_slices i (not_kind (k.Sign j.OpenBracket) p ne e))
cuts_read {p} (g.cut b c) ne = at_kind s.slices (s.slice ∷ s.slices ∷ []) (k.Sign j.OpenBracket) p (bounds_first b) refl
    ∙ bind_ok _ _ _ (bounds_read b) ∙ bind_ok _ _ _ (cuts_read c ne)

after_name_reads : {p q : Stage} {x y : t.Expression} → g.Cuts x p y q → first_kind q ≢ Some (k.Sign j.OpenBracket) → R s.behind_name p ≡ Ok q
after_name_reads {p} g.no_cut ne = skipped s.behind_name p refl (λ i e. skip_after_name i (not_kind (k.Sign j.OpenBracket) p ne e))
after_name_reads {p} (g.cut (g.bounds o high m low z) c) ne =
    at_token_of s.behind_name (s.sign r.Opening j.OpenBracket ∷ s.behind_bracket ∷ []) o refl ∙ bind_ok _ _ _ (sign_reads o)
    ∙ bind_ok _ _ _ (at_token_of s.behind_bracket (s.number r.Inner ∷ s.behind_number ∷ []) high refl ∙ bind_ok _ _ _ (number_reads high)
    ∙ bind_ok _ _ _ (at_token_of s.behind_number (s.sign r.Inner j.Colon ∷ s.number r.Inner ∷ s.sign r.Closing j.CloseBracket ∷ s.slices ∷ []) m refl
    ∙ bind_ok _ _ _ (sign_reads m) ∙ bind_ok _ _ _ (number_reads low) ∙ bind_ok _ _ _ (sign_reads z) ∙ bind_ok _ _ _ (cuts_read c ne)))

pub others_end : {l : ℕ} {p q : Stage} {x y : t.Expression} → g.Others l x p y q → ends l (first_kind q) ≡ true → ends (l + 1) (first_kind p) ≡ true
others_end {l} {p} g.no_other h = ends_above l (first_kind p) h
others_end {l} (g.other o at sign y more) h = ap (λ i. ends (l + 1) i) (first_is sign) ∙ operator_ends o l at

pub parts_end : {p q : Stage} {xs : t.Expressions} → g.Parts p xs q → ends_expr (first_kind q) ≡ true → ends_expr (first_kind p) ≡ true
parts_end g.no_part h = h
parts_end (g.part comma x more) h = ap ends_expr (first_is comma)

-- an operand begins with no unary operator
unary_post : {p q : Stage} {x : t.Expression} → g.Prim p x q → R s.unary p ≡ Rs (s.post ∷ []) p
unary_post (g.number n) = at_token_of s.unary (s.post ∷ []) n refl
unary_post (g.sized n) = at_token_of s.unary (s.post ∷ []) n refl
unary_post (g.read n) = at_token_of s.unary (s.post ∷ []) n refl
unary_post (g.cell n o x z) = at_token_of s.unary (s.post ∷ []) n refl
unary_post (g.parentheses o x z) = at_token_of s.unary (s.post ∷ []) o refl
unary_post (g.concat o x c y more z) = at_token_of s.unary (s.post ∷ []) o refl
unary_post (g.zext word o x c n z) = at_token_of s.unary (s.post ∷ []) word refl

closes : {p m q : Stage} {x y : t.Expression} → IsSign p r.Closing j.CloseBracket m → g.Cuts x m y q → first_kind q ≢ Some (k.Sign j.OpenBracket) → Rs close p ≡ Ok q
unfolding close
closes z c ne = bind_ok _ _ _ (sign_reads z) ∙ bind_ok _ _ _ (cuts_read c ne)

mutual
  pub expr_reads : {p q : Stage} {x : t.Expression} → g.Expr p x q → ends_expr (first_kind q) ≡ true → R s.expr p ≡ Ok q
  expr_reads {p} {q} (g.only x) h =
      expr_bin leniently p ∙ bind_ok _ _ _ (bin_reads x (expr_bin_ends (first_kind q) h))
      ∙ bind_ok _ _ _ (skipped s.choice q refl (λ i e. skip_choice i (not_kind (k.Sign j.Question) q (no_question (first_kind q) h) e)))
  expr_reads {p} (g.choice x question y colon z) h =
      expr_bin leniently p ∙ bind_ok _ _ _ (bin_reads x (ap (ends 1) (first_is question)))
      ∙ bind_ok _ _ _ (at_token_of s.choice (s.sign r.Inner j.Question ∷ s.expr ∷ s.sign r.Inner j.Colon ∷ s.expr ∷ []) question refl
      ∙ bind_ok _ _ _ (sign_reads question) ∙ bind_ok _ _ _ (expr_reads y (ap ends_expr (first_is colon))) ∙ bind_ok _ _ _ (sign_reads colon) ∙ bind_ok _ _ _ (expr_reads z h))

  pub bin_reads : {l : ℕ} {p q : Stage} {x : t.Expression} → g.Bin l p x q → ends l (first_kind q) ≡ true → R (s.bin l) p ≡ Ok q
  bin_reads {p = p} {q = q} (g.operand x) h = bin_unary leniently p ∙ unary_reads x (no_bracket unary_precedence (first_kind q) h)
  bin_reads {l} {p} (g.chain lt x more) h = bin_tail leniently p l lt ∙ bind_ok _ _ _ (bin_reads x (others_end more h)) ∙ bind_ok _ _ _ (others_read more h)

  pub others_read : {l : ℕ} {p q : Stage} {x y : t.Expression} → g.Others l x p y q → ends l (first_kind q) ≡ true → R (s.tail l) p ≡ Ok q
  others_read {l} {p} g.no_other h = skipped (s.tail l) p refl (λ i e. skip_tail l i (subst (λ x. ends l x ≡ true) e h))
  others_read {l} (g.other o at sign y more) h =
      at_token_of (s.tail l) (s.sign r.Inner (sign_of o) ∷ s.bin (l + 1) ∷ s.tail l ∷ []) sign (operator_row_at o l at)
      ∙ bind_ok _ _ _ (sign_reads sign) ∙ bind_ok _ _ _ (bin_reads y (others_end more h)) ∙ bind_ok _ _ _ (others_read more h)

  pub unary_reads : {p q : Stage} {x : t.Expression} → g.Unary p x q → first_kind q ≢ Some (k.Sign j.OpenBracket) → R s.unary p ≡ Ok q
  unary_reads (g.signed o sign x) ne =
      at_token_of s.unary (s.sign r.Inner (unary_sign_of o) ∷ s.unary ∷ []) sign (unary_row o) ∙ bind_ok _ _ _ (sign_reads sign) ∙ bind_ok _ _ _ (unary_reads x ne)
  unary_reads (g.unsigned (g.post x c)) ne = unary_post x ∙ bind_ok _ _ _ (post_reads x c ne)

  pub post_reads : {p m q : Stage} {x y : t.Expression} → g.Prim p x m → g.Cuts x m y q → first_kind q ≢ Some (k.Sign j.OpenBracket) → R s.post p ≡ Ok q
  post_reads (g.number n) c ne = at_token_of s.post (s.prim ∷ s.slices ∷ []) n refl
      ∙ bind_ok _ _ _ (at_token_of s.prim (s.number r.Inner ∷ []) n refl ∙ bind_ok _ _ _ (number_reads n)) ∙ bind_ok _ _ _ (cuts_read c ne)
  post_reads (g.sized n) c ne = at_token_of s.post (s.prim ∷ s.slices ∷ []) n refl
      ∙ bind_ok _ _ _ (at_token_of s.prim (s.sized r.Inner ∷ []) n refl ∙ bind_ok _ _ _ (sized_reads n)) ∙ bind_ok _ _ _ (cuts_read c ne)
  post_reads (g.read n) c ne = at_token_of s.post (s.any_name r.Inner ∷ s.behind_name ∷ []) n refl ∙ bind_ok _ _ _ (name_reads n) ∙ bind_ok _ _ _ (after_name_reads c ne)
  post_reads (g.cell n o x z) c ne =
      at_token_of s.post (s.any_name r.Inner ∷ s.behind_name ∷ []) n refl ∙ bind_ok _ _ _ (name_reads n)
      ∙ bind_ok _ _ _ (at_token_of s.behind_name (s.sign r.Opening j.OpenBracket ∷ s.behind_bracket ∷ []) o refl ∙ bind_ok _ _ _ (sign_reads o)
      ∙ bind_ok _ _ _ (index_reads _ _ (expr_reads x (ap ends_expr (first_is z))) (first_is z) ∙ closes z c ne))
  post_reads (g.parentheses o x z) c ne =
      at_token_of s.post (s.prim ∷ s.slices ∷ []) o refl
      ∙ bind_ok _ _ _ (at_token_of s.prim (s.sign r.Opening j.OpenParen ∷ s.expr ∷ s.sign r.Closing j.CloseParen ∷ []) o refl
      ∙ bind_ok _ _ _ (sign_reads o) ∙ bind_ok _ _ _ (expr_reads x (ap ends_expr (first_is z))) ∙ bind_ok _ _ _ (sign_reads z))
      ∙ bind_ok _ _ _ (cuts_read c ne)
  post_reads (g.concat o x comma y more z) c ne =
      at_token_of s.post (s.prim ∷ s.slices ∷ []) o refl
      ∙ bind_ok _ _ _ (at_token_of s.prim (s.sign r.Opening j.OpenBrace ∷ s.expr ∷ s.sign r.Inner j.Comma ∷ s.expr ∷ s.parts ∷ s.sign r.Closing j.CloseBrace ∷ []) o refl
      ∙ bind_ok _ _ _ (sign_reads o) ∙ bind_ok _ _ _ (expr_reads x (ap ends_expr (first_is comma))) ∙ bind_ok _ _ _ (sign_reads comma)
      ∙ bind_ok _ _ _ (expr_reads y (parts_end more (ap ends_expr (first_is z))))
      ∙ bind_ok _ _ _ (parts_read more (ap ends_expr (first_is z)) (λ e. let f = first_is z in absurd (cc))) ∙ bind_ok _ _ _ (sign_reads z))
      ∙ bind_ok _ _ _ (cuts_read c ne)
  post_reads (g.zext word o x comma n z) c ne =
      at_token_of s.post (s.prim ∷ s.slices ∷ []) word refl
      ∙ bind_ok _ _ _ (at_token_of s.prim (s.word r.Inner w.Zext ∷ s.sign r.Opening j.OpenParen ∷ s.expr ∷ s.sign r.Inner j.Comma
      ∷ s.number r.Inner ∷ s.sign r.Closing j.CloseParen ∷ []) word refl
      ∙ bind_ok _ _ _ (word_reads word) ∙ bind_ok _ _ _ (sign_reads o) ∙ bind_ok _ _ _ (expr_reads x (ap ends_expr (first_is comma))) ∙ bind_ok _ _ _ (sign_reads comma)
      ∙ bind_ok _ _ _ (number_reads n) ∙ bind_ok _ _ _ (sign_reads z))
      ∙ bind_ok _ _ _ (cuts_read c ne)

  pub parts_read : {p q : Stage} {xs : t.Expressions} → g.Parts p xs q → ends_expr (first_kind q) ≡ true → first_kind q ≢ Some (k.Sign j.Comma) → R s.parts p ≡ Ok q
  parts_read {p} g.no_part h ne = skipped s.parts p refl (λ i e. skip_parts i (not_kind (k.Sign j.Comma) p ne e))
  parts_read (g.part comma x more) h ne =
      at_token_of s.parts (s.sign r.Inner j.Comma ∷ s.expr ∷ s.parts ∷ []) comma refl
      ∙ bind_ok _ _ _ (sign_reads comma) ∙ bind_ok _ _ _ (expr_reads x (parts_end more h)) ∙ bind_ok _ _ _ (parts_read more h ne)
