-- Tokens have at most one tree: expressions.
use Rattle.std.proofs.Common.{◌≡◌, ◌≢◌, ◌+◌, ℕ, List, ◌∷◌, Option, Some, Ok, Bool, true, false, refl, sym, ap, ap₂, subst, ◌∙◌, arith}
use Rattle.sap_tree.proofs.SyntaxLemmas.{and_part}
use Rattle.sap_parse.proofs.ReadingLemmas.{ok_one}
use Rattle.sap_parse.specs.Grammar as g
use Rattle.sap_parse.specs.Grammar.{sign_of, unary_sign_of}
use Rattle.sap_parse.specs.Limits.{Counts, tally, breach}
use Rattle.sap_parse.specs.Stages.{Stage, IsToken, IsSign, here}
use Rattle.sap_parse.specs.Table as s
use Rattle.sap_parse.specs.Table.{Symbol}
use Rattle.sap_lex.specs.declared.limit.Limit.{Limit}
use Rattle.sap_parse.specs.declared.role.Role.TheVariants as r
use Rattle.sap_parse.specs.declared.role.Role.{Role}
use Rattle.sap_lex.specs.declared.token.Kind.TheVariants as k
use Rattle.sap_lex.specs.declared.token.Kind.{Kind}
use Rattle.sap_lex.specs.declared.token.Sign.TheVariants as j
use Rattle.sap_lex.specs.declared.token.Sign.{Sign as SignOf}
use Rattle.sap_lex.specs.declared.token.Token.{Token}
use Rattle.sap_tree.specs.Prelude.{precedence, unary_precedence, first_of, enclosed}
use Rattle.sap_tree.specs.declared.place.Spot.{Spot}
use Rattle.sap_tree.specs.declared.syntax.BinaryOperator.{BinaryOperator}
use Rattle.sap_tree.specs.declared.syntax.UnaryOperator.{UnaryOperator}
use Rattle.sap_tree.specs.Syntax as t
use Rattle.sap_text.specs.declared.place.Place.{Place}
use Rattle.sap_tree.specs.declared.syntax.BinaryOperator.TheVariants as b
use Rattle.sap_tree.specs.declared.syntax.UnaryOperator.TheVariants as u
use Rattle.sap_parse.proofs.Complete.{ends, ends_expr, expr_bin_ends, no_bracket, no_colon, no_question, bounds_first, bounds_read, bin_reads, expr_reads, others_end, parts_end, parts_read}
use Rattle.sap_parse.proofs.Known.{R, first_is, first_kind}
use Rattle.sap_walk.specs.Limits.{Past, passed}

pub same_rest : (x : Symbol) {p p' q q' : Stage} → p ≡ p' → R x p ≡ Ok q → R x p' ≡ Ok q' → q ≡ q'
same_rest x {p} e a b = ok_one (R x p) a (ap (λ z. R x z) e ∙ b)

-- one token stands at one stage

heads : {x y : Token} {xs ys : List Token} → x ∷ xs ≡ y ∷ ys → x ≡ y
heads e = cc

tails : {x y : Token} {xs ys : List Token} → x ∷ xs ≡ y ∷ ys → xs ≡ ys
tails e = cc

pub same_token : {p p' q q' : Stage} {role role' : Role} {i j : Kind} → p ≡ p' → IsToken p role i q → IsToken p' role' j q' → i ≡ j
same_token e a b = let lists = sym a.left ∙ ap (λ (p : Stage). p.left) e ∙ b.left in sym a.is ∙ ap (λ (t : Token). t.kind) (heads lists) ∙ b.is

pub same_behind : {p p' q q' : Stage} {role : Role} {i j : Kind} → p ≡ p' → IsToken p role i q → IsToken p' role j q' → q ≡ q'
same_behind {p} {p'} {q} {q'} {role} e a b =
    let lists = sym a.left ∙ ap (λ (p : Stage). p.left) e ∙ b.left in
    let token = heads lists in
    let left : q.left ≡ q'.left = tails lists in
    let past : q.past ≡ q'.past =
    a.past ∙ ap (λ t. passed tally breach role t p.past) token ∙ ap (λ (z : Stage). passed tally breach role b.token z.past) e ∙ sym b.past in
    ap (λ x. stage x q.left) past ∙ ap (λ x. stage q'.past x) left where
      stage : Past Counts Limit → List Token → Stage
      stage x ts = record { past = x; left = ts }

pub name_same : {n m : List ℕ} → k.Name n ≡ k.Name m → n ≡ m
name_same e = cc

pub number_same : {n m : ℕ} → k.Number n ≡ k.Number m → n ≡ m
number_same e = cc

pub width_same : {v w n m : ℕ} → k.Sized v n ≡ k.Sized w m → v ≡ w
width_same e = cc

pub sized_same : {v w n m : ℕ} → k.Sized v n ≡ k.Sized w m → n ≡ m
sized_same e = cc

pub sign_same : {x y : SignOf} → k.Sign x ≡ k.Sign y → x ≡ y
sign_same e = cc

operator_by : SignOf → BinaryOperator
operator_by j.Bar = b.Or
operator_by j.Caret = b.Xor
operator_by j.Ampersand = b.And
operator_by j.Equal = b.Eq
operator_by j.NotEqual = b.Ne
operator_by j.Less = b.Lt
operator_by j.LessOrEqual = b.Le
operator_by j.ShiftLeft = b.Shl
operator_by j.ShiftRight = b.Shr
operator_by j.Plus = b.Add
operator_by j.Minus = b.Sub
operator_by x = b.Mul

operator_back : (o : BinaryOperator) → operator_by (sign_of o) ≡ o
unfolding operator_by
operator_back b.Or = refl
operator_back _ = refl

operator_same : (o o' : BinaryOperator) → sign_of o ≡ sign_of o' → o ≡ o'
operator_same o o' e = sym (operator_back o) ∙ ap operator_by e ∙ operator_back o'

unary_by : SignOf → UnaryOperator
unary_by j.Tilde = u.Not
unary_by j.Minus = u.Neg
unary_by j.Ampersand = u.AllOnes
unary_by j.Bar = u.AnyOne
unary_by x = u.Odd

unary_back : (o : UnaryOperator) → unary_by (unary_sign_of o) ≡ o
unfolding unary_by
unary_back u.Not = refl
unary_back _ = refl

unary_same : (o o' : UnaryOperator) → unary_sign_of o ≡ unary_sign_of o' → o ≡ o'
unary_same o o' e = sym (unary_back o) ∙ ap unary_by e ∙ unary_back o'

-- no operator of the precedence is next where an expression of it ends
at_own : (o : BinaryOperator) → ends (precedence o) (Some (k.Sign (sign_of o))) ≡ true → ⊥
at_own b.Or e = cc
at_own _ e = cc

not_end : {l : ℕ} {p p' q : Stage} → p ≡ p' → (o : BinaryOperator) → precedence o ≡ l → IsSign p' r.Inner (sign_of o) q → ends l (first_kind p) ≡ true → ⊥
not_end {l} {p} e o at sign h =
    let here : ends l (Some (k.Sign (sign_of o))) ≡ true = subst (λ i. ends l i ≡ true) (ap first_kind e ∙ first_is sign) h in
    at_own o (subst (λ n. ends n (Some (k.Sign (sign_of o))) ≡ true) (sym at) here)

-- the kinds with which operands begin
abbrev tag : {p q : Stage} {x : t.Expression} → g.Prim p x q → ℕ
tag (g.number n) = 0
tag (g.sized n) = 1
tag (g.read n) = 2
tag (g.cell n o x z) = 2
tag (g.parentheses o x z) = 3
tag (g.concat o x c y more z) = 4
tag (g.zext word o x c n z) = 5

kind_tag : Option Kind → ℕ
kind_tag (Some (k.Number n)) = 0
kind_tag (Some (k.Sized width n)) = 1
kind_tag (Some (k.Name n)) = 2
kind_tag (Some (k.Sign j.OpenParen)) = 3
kind_tag (Some (k.Sign sign)) = 4
kind_tag i = 5

tag_is : {p q : Stage} {x : t.Expression} (h : g.Prim p x q) → tag h ≡ kind_tag (first_kind p)
unfolding kind_tag
tag_is (g.number n) = sym (ap kind_tag (first_is n))
tag_is (g.sized n) = sym (ap kind_tag (first_is n))
tag_is (g.read n) = sym (ap kind_tag (first_is n))
tag_is (g.cell n o x z) = sym (ap kind_tag (first_is n))
tag_is (g.parentheses o x z) = sym (ap kind_tag (first_is o))
tag_is (g.concat o x c y more z) = sym (ap kind_tag (first_is o))
tag_is (g.zext word o x c n z) = sym (ap kind_tag (first_is word))

same_tag : {p p' q q' : Stage} {x y : t.Expression} → p ≡ p' → (a : g.Prim p x q) (b : g.Prim p' y q') → tag a ≡ tag b
same_tag e a b = tag_is a ∙ ap (λ z. kind_tag (first_kind z)) e ∙ sym (tag_is b)

-- operands begin with no unary operator
unary_kind : Option Kind → Bool
unary_kind (Some (k.Sign j.Tilde)) = true
unary_kind (Some (k.Sign j.Minus)) = true
unary_kind (Some (k.Sign j.Ampersand)) = true
unary_kind (Some (k.Sign j.Bar)) = true
unary_kind (Some (k.Sign j.Caret)) = true
unary_kind i = false

signed_kind : (o : UnaryOperator) → unary_kind (Some (k.Sign (unary_sign_of o))) ≡ true
unfolding unary_kind
signed_kind u.Not = refl
signed_kind _ = refl

prim_kind : {p q : Stage} {x : t.Expression} → g.Prim p x q → unary_kind (first_kind p) ≡ false
unfolding unary_kind
prim_kind (g.number n) = ap unary_kind (first_is n)
prim_kind (g.sized n) = ap unary_kind (first_is n)
prim_kind (g.read n) = ap unary_kind (first_is n)
prim_kind (g.cell n o x z) = ap unary_kind (first_is n)
prim_kind (g.parentheses o x z) = ap unary_kind (first_is o)
prim_kind (g.concat o x c y more z) = ap unary_kind (first_is o)
prim_kind (g.zext word o x c n z) = ap unary_kind (first_is word)

not_signed : {p p' q q' : Stage} {x : t.Expression} → p ≡ p' → (o : UnaryOperator) → IsSign p r.Inner (unary_sign_of o) q → g.Prim p' x q' → ⊥
not_signed e o sign h =
    let yes' : true ≡ false = sym (signed_kind o) ∙ sym (ap unary_kind (first_is sign)) ∙ ap (λ z. unary_kind (first_kind z)) e ∙ prim_kind h in
    absurd (cc)

-- equal parts make equal trees

pub ap₃ : {A B C D : Type 0} (f : A → B → C → D) {a a' : A} {b b' : B} {c c' : C} → a ≡ a' → b ≡ b' → c ≡ c' → f a b c ≡ f a' b' c'
ap₃ f e h i = cc

pub ap₄ : {A B C D E : Type 0} (f : A → B → C → D → E) {a a' : A} {b b' : B} {c c' : C} {d d' : D} → a ≡ a' → b ≡ b' → c ≡ c' → d ≡ d' → f a b c d ≡ f a' b' c' d'
ap₄ f e h i l = cc

pub ap₅ : {A B C D E F : Type 0} (f : A → B → C → D → E → F) {a a' : A} {b b' : B} {c c' : C} {d d' : D} {e e' : E} → a ≡ a' → b ≡ b' → c ≡ c' → d ≡ d' → e ≡ e'
    → f a b c d e ≡ f a' b' c' d' e'
ap₅ f h i l m n = cc

spot_same : {p p' q q' : Place} → p ≡ p' → q ≡ q' → ◌≡◌ {A = Spot} (record { first = p; at = q }) (record { first = p'; at = q' })
spot_same a b = cc

pub here_same : {p p' : Stage} → p ≡ p' → here p ≡ here p'
here_same e = ap here e

pub spot_here_same : {p p' : Stage} → p ≡ p' → ◌≡◌ {A = Spot} (record { first = here p; at = here p }) (record { first = here p'; at = here p' })
spot_here_same e = spot_same (here_same e) (here_same e)

joined_spot : {p p' : Stage} {x x' : t.Expression} → p ≡ p' → x ≡ x' → ◌≡◌ {A = Spot} (record { first = first_of x; at = here p }) (record { first = first_of x'; at = here p' })
joined_spot e f = spot_same (ap first_of f) (here_same e)

-- behind a name no text is both slices and an index
read_cell : {p p' q m o : Stage} {x y : t.Expression} → p ≡ p' → g.Cuts x p y q → IsSign p' r.Opening j.OpenBracket m → R s.expr m ≡ Ok o
    → first_kind o ≡ Some (k.Sign j.CloseBracket) → first_kind q ≢ Some (k.Sign j.OpenBracket) → ⊥
read_cell e g.no_cut sign h f ne = ne (ap first_kind e ∙ first_is sign)
read_cell {m = m} {o = o} e (g.cut (g.bounds b high colon low z) c) sign h f ne =
    let same = same_behind e b sign in
    no_colon _ _ o _ high (ap (λ x. R s.expr x) same ∙ h) f (first_is colon)

-- the numbers of a slice
bounds_one : {p p' q q' : Stage} {h h' l l' : ℕ} → p ≡ p' → g.Bounds p h l q → g.Bounds p' h' l' q' → (h ≡ h') × (l ≡ l')
bounds_one e (g.bounds o n c m z) (g.bounds o' n' c' m' z') =
    let e2 = same_behind e o o' in
    let e3 = same_behind e2 n n' in
    let e4 = same_behind e3 c c' in
    (number_same (same_token e2 n n'), number_same (same_token e4 m m'))

cuts_one : {p p' q q' : Stage} {x x' y y' : t.Expression} → p ≡ p' → x ≡ x' → g.Cuts x p y q → g.Cuts x' p' y' q'
    → first_kind q ≢ Some (k.Sign j.OpenBracket) → first_kind q' ≢ Some (k.Sign j.OpenBracket) → y ≡ y'
cuts_one e f g.no_cut g.no_cut h h' = f
cuts_one e f g.no_cut (g.cut b c) h h' = absurd (h (ap first_kind e ∙ bounds_first b))
cuts_one e f (g.cut b c) g.no_cut h h' = absurd (h' (sym (ap first_kind e) ∙ bounds_first b))
cuts_one e f (g.cut b c) (g.cut b' c') h h' =
    let n = bounds_one e b b' in
    cuts_one (same_rest s.slice e (bounds_read b) (bounds_read b')) (ap₄ t.slice (joined_spot e f) f n.0 n.1) c c' h h'

mutual
  pub expr_one : {p p' q q' : Stage} {x y : t.Expression} → p ≡ p' → g.Expr p x q → g.Expr p' y q' → ends_expr (first_kind q) ≡ true → ends_expr (first_kind q') ≡ true → x ≡ y
  expr_one {q = q} {q' = q'} e (g.only x) (g.only x') h h' = bin_one e x x' (expr_bin_ends (first_kind q) h) (expr_bin_ends (first_kind q') h')
  expr_one {q = q} e (g.only x) (g.choice x' o y' c z') h h' =
      let m = same_rest (s.bin 1) e (bin_reads x (expr_bin_ends (first_kind q) h)) (bin_reads x' (ap (ends 1) (first_is o))) in
      absurd (no_question (first_kind q) h (ap first_kind m ∙ first_is o))
  expr_one {q' = q'} e (g.choice x o y c z) (g.only x') h h' =
      let m = same_rest (s.bin 1) e (bin_reads x (ap (ends 1) (first_is o))) (bin_reads x' (expr_bin_ends (first_kind q') h')) in
      absurd (no_question (first_kind q') h' (sym (ap first_kind m) ∙ first_is o))
  expr_one e (g.choice x o y c z) (g.choice x' o' y' c' z') h h' =
      let ex = ap (ends 1) (first_is o) in let ex' = ap (ends 1) (first_is o') in
      let ey = ap ends_expr (first_is c) in let ey' = ap ends_expr (first_is c') in
      let m2 = same_rest (s.bin 1) e (bin_reads x ex) (bin_reads x' ex') in
      let m3 = same_behind m2 o o' in
      let m4 = same_rest s.expr m3 (expr_reads y ey) (expr_reads y' ey') in
      let m5 = same_behind m4 c c' in
      let tree = bin_one e x x' ex ex' in
      ap₄ t.choice (joined_spot m2 tree) tree (expr_one m3 y y' ey ey') (expr_one m5 z z' h h')

  pub bin_one : {l : ℕ} {p p' q q' : Stage} {x y : t.Expression} → p ≡ p' → g.Bin l p x q → g.Bin l p' y q' → ends l (first_kind q) ≡ true → ends l (first_kind q') ≡ true → x ≡ y
  bin_one {q = q} {q' = q'} e (g.operand x) (g.operand x') h h' = unary_one e x x' (no_bracket unary_precedence (first_kind q) h) (no_bracket unary_precedence (first_kind q') h')
  bin_one e (g.operand x) (g.chain lt x' more') h h' = absurd (omega arith)
  bin_one e (g.chain lt x more) (g.operand x') h h' = absurd (omega arith)
  bin_one {l} e (g.chain lt x more) (g.chain lt' x' more') h h' =
      let m = same_rest (s.bin (l + 1)) e (bin_reads x (others_end more h)) (bin_reads x' (others_end more' h')) in
      others_one m (bin_one e x x' (others_end more h) (others_end more' h')) more more' h h'

  others_one : {l : ℕ} {p p' q q' : Stage} {x x' y y' : t.Expression} → p ≡ p' → x ≡ x' → g.Others l x p y q → g.Others l x' p' y' q'
      → ends l (first_kind q) ≡ true → ends l (first_kind q') ≡ true → y ≡ y'
  others_one e f g.no_other g.no_other h h' = f
  others_one e f g.no_other (g.other o at sign y more) h h' = absurd (not_end e o at sign h)
  others_one e f (g.other o at sign y more) g.no_other h h' = absurd (not_end (sym e) o at sign h')
  others_one {l} e f (g.other o at sign y more) (g.other o' at' sign' y' more') h h' =
      let m = same_behind e sign sign' in
      let n = same_rest (s.bin (l + 1)) m (bin_reads y (others_end more h)) (bin_reads y' (others_end more' h')) in
      others_one n (ap₄ t.binary_of (joined_spot e f) (operator_same o o' (sign_same (same_token e sign sign'))) f
      (bin_one m y y' (others_end more h) (others_end more' h'))) more more' h h'

  unary_one : {p p' q q' : Stage} {x y : t.Expression} → p ≡ p' → g.Unary p x q → g.Unary p' y q'
      → first_kind q ≢ Some (k.Sign j.OpenBracket) → first_kind q' ≢ Some (k.Sign j.OpenBracket) → x ≡ y
  unary_one e (g.signed o sign x) (g.signed o' sign' x') h h' =
      ap₃ t.unary_of (spot_here_same e) (unary_same o o' (sign_same (same_token e sign sign'))) (unary_one (same_behind e sign sign') x x' h h')
  unary_one e (g.signed o sign x) (g.unsigned (g.post x' c')) h h' = absurd (not_signed e o sign x')
  unary_one e (g.unsigned (g.post x c)) (g.signed o' sign' x') h h' = absurd (not_signed (sym e) o' sign' x)
  unary_one e (g.unsigned (g.post x c)) (g.unsigned (g.post x' c')) h h' = post_one e x c x' c' h h'

  -- an operand and slices of it
  post_one : {p p' m m' q q' : Stage} {x x' y y' : t.Expression} → p ≡ p' → g.Prim p x m → g.Cuts x m y q → g.Prim p' x' m' → g.Cuts x' m' y' q'
      → first_kind q ≢ Some (k.Sign j.OpenBracket) → first_kind q' ≢ Some (k.Sign j.OpenBracket) → y ≡ y'
  post_one e (g.number n) c (g.number n') c' h h' = cuts_one (same_behind e n n') (ap₂ t.literal (spot_here_same e) (number_same (same_token e n n'))) c c' h h'
  post_one e (g.sized n) c (g.sized n') c' h h' =
      let same = same_token e n n' in
      cuts_one (same_behind e n n') (ap₃ t.sized_literal (spot_here_same e) (width_same same) (sized_same same)) c c' h h'
  post_one e (g.read n) c (g.read n') c' h h' = cuts_one (same_behind e n n') (ap₂ t.variable (spot_here_same e) (name_same (same_token e n n'))) c c' h h'
  post_one e (g.read n) c (g.cell n' o x z) c' h h' = absurd (read_cell (same_behind e n n') c o (expr_reads x (ap ends_expr (first_is z))) (first_is z) h)
  post_one e (g.cell n o x z) c (g.read n') c' h h' = absurd (read_cell (sym (same_behind e n n')) c' o (expr_reads x (ap ends_expr (first_is z))) (first_is z) h')
  post_one e (g.cell n o x z) c (g.cell n' o' x' z') c' h h' =
      let ex = ap ends_expr (first_is z) in let ex' = ap ends_expr (first_is z') in
      let m2 = same_behind e n n' in
      let m3 = same_behind m2 o o' in
      let m4 = same_rest s.expr m3 (expr_reads x ex) (expr_reads x' ex') in
      cuts_one (same_behind m4 z z') (ap₃ t.cell_at (spot_here_same e) (name_same (same_token e n n')) (expr_one m3 x x' ex ex')) c c' h h'
  post_one e (g.parentheses o x z) c (g.parentheses o' x' z') c' h h' =
      let ex = ap ends_expr (first_is z) in let ex' = ap ends_expr (first_is z') in
      let m2 = same_behind e o o' in
      let m3 = same_rest s.expr m2 (expr_reads x ex) (expr_reads x' ex') in
      cuts_one (same_behind m3 z z') (ap₂ enclosed (here_same e) (expr_one m2 x x' ex ex')) c c' h h'
  post_one e (g.concat o x a y more z) c (g.concat o' x' a' y' more' z') c' h h' =
      let ex = ap ends_expr (first_is a) in let ex' = ap ends_expr (first_is a') in
      let ez = ap ends_expr (first_is z) in let ez' = ap ends_expr (first_is z') in
      let m2 = same_behind e o o' in
      let m3 = same_rest s.expr m2 (expr_reads x ex) (expr_reads x' ex') in
      let m4 = same_behind m3 a a' in
      let m5 = same_rest s.expr m4 (expr_reads y (parts_end more ez)) (expr_reads y' (parts_end more' ez')) in
      let m6 = same_rest s.parts m5 (parts_read more ez (λ e. let f = first_is z in absurd (cc))) (parts_read more' ez' (λ e. let f = first_is z' in absurd (cc))) in
      cuts_one (same_behind m6 z z')
      (ap₂ t.concat (spot_here_same e) (and_part (expr_one m2 x x' ex ex') (and_part (expr_one m4 y y' (parts_end more ez) (parts_end more' ez'))
      (parts_one m5 more more' ez ez' (λ e. let f = first_is z in absurd (cc)) (λ e. let f = first_is z' in absurd (cc))))))
      c c' h h'
  post_one e (g.zext word o x a n z) c (g.zext word' o' x' a' n' z') c' h h' =
      let ex = ap ends_expr (first_is a) in let ex' = ap ends_expr (first_is a') in
      let m2 = same_behind e word word' in
      let m3 = same_behind m2 o o' in
      let m4 = same_rest s.expr m3 (expr_reads x ex) (expr_reads x' ex') in
      let m5 = same_behind m4 a a' in
      let m6 = same_behind m5 n n' in
      cuts_one (same_behind m6 z z') (ap₃ t.zero_extend (spot_here_same e) (expr_one m3 x x' ex ex') (number_same (same_token m5 n n'))) c c' h h'
  post_one e a c b c' h h' = let t = same_tag e a b in absurd (cc)

  pub parts_one : {p p' q q' : Stage} {xs ys : t.Expressions} → p ≡ p' → g.Parts p xs q → g.Parts p' ys q' → ends_expr (first_kind q) ≡ true → ends_expr (first_kind q') ≡ true
      → first_kind q ≢ Some (k.Sign j.Comma) → first_kind q' ≢ Some (k.Sign j.Comma) → xs ≡ ys
  parts_one e g.no_part g.no_part h h' n n' = refl
  parts_one e g.no_part (g.part a x more) h h' n n' = absurd (n (ap first_kind e ∙ first_is a))
  parts_one e (g.part a x more) g.no_part h h' n n' = absurd (n' (sym (ap first_kind e) ∙ first_is a))
  parts_one e (g.part a x more) (g.part a' x' more') h h' n n' =
      let m2 = same_behind e a a' in
      let m3 = same_rest s.expr m2 (expr_reads x (parts_end more h)) (expr_reads x' (parts_end more' h')) in
      and_part (expr_one m2 x x' (parts_end more h) (parts_end more' h')) (parts_one m3 more more' h h' n n')
