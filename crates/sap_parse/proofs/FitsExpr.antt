-- An expression or tag expression of a text within the limits is within its own: it has at least the tokens and brackets of its canonical text.
use Rattle.sap_lemmas.proofs.Common.{◌≡◌, ◌≤◌, ◌+◌, ℕ, max, Bool, true, refl, ap, ◌∙◌, arith, nat_tests, nat_le, ◌&&◌}
use Rattle.sap_parse.specs.Grammar as g
use Rattle.sap_parse.specs.Limits.{Counts}
use Rattle.sap_parse.specs.Stages.{Stage, IsToken, here}
use Rattle.sap_parse.specs.declared.role.Role.TheVariants as r
use Rattle.sap_lex.specs.declared.token.Kind.TheVariants as k
use Rattle.sap_lex.specs.declared.token.Kind.{Kind}
use Rattle.sap_parse.proofs.Between.{all_true, le_true, Between, ◌then◌, gives, still, stands, KindFact}
use Rattle.sap_tree.specs.Prelude.{tokens, part_tokens, brackets, part_brackets, tag_tokens, tag_part_tokens, tag_brackets, tag_part_brackets, parentheses, opened, unary_precedence, slice_precedence, primary_precedence, precedence_of, enclosed, first_of, is_number, is_expression, are_expressions, is_tag, are_tags, is_name}
use Rattle.sap_tree.specs.declared.version.Version.{Version}
use Rattle.sap_tree.specs.Syntax as t
use Rattle.sap_text.specs.declared.place.Place.{Place}

-- the parentheses of an operand

unfoldable pub pars : ℕ → t.Expression → ℕ
pars l x = parentheses l x

unfoldable pub opens : ℕ → t.Expression → ℕ
opens l x = opened l x

pars_up : (l k : ℕ) (x : t.Expression) → l ≤ k → pars l x ≤ pars k x
unfolding pars
pars_up l k x h = grind (arith, nat_tests)

opens_up : (l k : ℕ) (x : t.Expression) → l ≤ k → opens l x ≤ opens k x
unfolding opens
opens_up l k x h = grind (arith, nat_tests)

pars_most : (l : ℕ) (x : t.Expression) → pars l x ≤ 2
unfolding pars
pars_most l x = grind (arith, nat_tests)

opens_most : (l : ℕ) (x : t.Expression) → opens l x ≤ 1
unfolding opens
opens_most l x = grind (arith, nat_tests)

no_pars : (l : ℕ) (x : t.Expression) → l ≤ precedence_of x → pars l x ≡ 0
unfolding pars
no_pars l x h = grind (arith, nat_tests)

no_opens : (l : ℕ) (x : t.Expression) → l ≤ precedence_of x → opens l x ≡ 0
unfolding opens
no_opens l x h = grind (arith, nat_tests)

-- an expression in parentheses is the same but for its place

enclosed_tokens : (p : Place) (x : t.Expression) → tokens (enclosed p x) ≡ tokens x
unfolding enclosed tokens
enclosed_tokens p (t.literal s n) = refl
enclosed_tokens p _ = refl

enclosed_brackets : (p : Place) (x : t.Expression) → brackets (enclosed p x) ≡ brackets x
unfolding enclosed brackets
enclosed_brackets p (t.literal s n) = refl
enclosed_brackets p _ = refl

enclosed_is : (version : Version) (p : Place) (x : t.Expression) → is_expression version (enclosed p x) ≡ is_expression version x
unfolding enclosed is_expression
enclosed_is version p (t.literal s n) = refl
enclosed_is version p _ = refl

-- tests

pub all_of : (a b c : Bool) → (a && (b && c)) ≡ true → (a && b && c) ≡ true
all_of true b c h = h
all_of _ b c h = h

-- what is tested of a token of this kind
abbrev pub kind_is : Version → Kind → Bool
kind_is version (k.Name name) = is_name version name
kind_is version (k.Number n) = is_number n
kind_is version (k.Sized width n) = is_number width && is_number n
kind_is version _ = true

pub kind_true : (version : Version) (kind : Kind) → KindFact version kind → kind_is version kind ≡ true
kind_true version (k.Name name) h = h
kind_true version (k.Number n) h = h
kind_true version (k.Sized width n) h = all_true h.0 h.1
kind_true version _ h = refl

-- between these counts are tokens of an expression: what is tested of them; at least so many of them; and their brackets, so deep or deeper
pub record Fits (is : Bool) (n l : ℕ) (c d : Counts) : Type 0 where
  pub test : is ≡ true
  pub size : c.tokens + n ≤ d.tokens
  pub room : c.tokens ≤ 256 → d.tokens ≤ 256
  pub even : d.brackets ≡ c.brackets
  pub depth : c.brackets ≤ 64 → c.brackets + l ≤ 64
  pub states : d.states ≡ c.states
  pub commands : d.commands ≡ c.commands

abbrev pub Spans : Version → Stage → Stage → Bool → ℕ → ℕ → Type 0
Spans version p q is n l = Between version p q (Fits is n l p.past.counts q.past.counts)

nothing : {version : Version} {p : Stage} → Spans version p p true 0 0
nothing = still (record { test = refl; size = omega arith; room = λ h. h; even = refl; depth = λ h. omega arith; states = refl; commands = refl })

joined : {version : Version} {o p q : Stage} {a b is : Bool} {n m l k i j : ℕ} → Spans version o p a n l → Spans version p q b m k
    → (a ≡ true → b ≡ true → is ≡ true) → i ≤ n + m → j ≤ max l k → Spans version o q is i j
joined x y test fewer less = gives (x then y) (λ f.
    let e = f.0.even in let s = f.0.size in let t = f.1.size in
    record {
      test = test f.0.test f.1.test;
      size = omega arith;
      room = λ h. f.1.room (f.0.room h);
      even = f.1.even ∙ e;
      depth = λ h. let u = f.0.depth h in let v = f.1.depth (omega arith) in omega arith;
      states = f.1.states ∙ f.0.states;
      commands = f.1.commands ∙ f.0.commands;
    })

infixl 10 ◌and◌
◌and◌ : {version : Version} {o p q : Stage} {a b : Bool} {n m l k : ℕ} → Spans version o p a n l → Spans version p q b m k → Spans version o q (a && b) (n + m) (max l k)
x and y = joined x y all_true (omega arith) (omega arith)

eases : {version : Version} {p q : Stage} {a b : Bool} {n m l k : ℕ} → Spans version p q a n l → (a ≡ true → b ≡ true) → m ≤ n → k ≤ l → Spans version p q b m k
eases s h fewer less = joined s nothing (λ e f. h e) (omega arith) (omega arith)

-- a token with what is tested of it
token : {version : Version} {p q : Stage} {kind : Kind} → IsToken p r.Inner kind q → Spans version p q (kind_is version kind) 1 0
token {version} {kind = kind} a = gives (stands a) (λ f.
    let b = f.1.0 in
    record { test = kind_true version kind f.0; size = omega arith; room = λ h. b.room; even = f.1.1; depth = λ h. omega arith; states = b.states; commands = b.commands })

-- and one of which nothing is
infixr 12 ◌before◌
◌before◌ : {version : Version} {o p q : Stage} {kind : Kind} {a : Bool} {n l : ℕ} → IsToken o r.Inner kind p → Spans version p q a n l → Spans version o q a (1 + n) l
x before y = joined (token x) y (λ e f. f) (omega arith) (omega arith)

within : {version : Version} {o p q s : Stage} {i j : Kind} {a : Bool} {n l : ℕ} → IsToken o r.Opening i p → Spans version p q a n l → IsToken q r.Closing j s
    → Spans version o s a (n + 2) (l + 1)
within x y z = gives (stands x then (y then stands z)) (λ f.
    let o = f.0.1 in let o0 = o.0 in let o1 = o.1 in let o2 = o.2 in let m = f.1.0 in let c = f.1.1.1 in let c0 = c.0 in let c1 = c.1 in
    let e = m.even in let s = m.size in
    record {
      test = m.test;
      size = omega arith;
      room = λ h. c0.room;
      even = omega arith;
      depth = λ h. let u = m.depth (omega arith) in omega arith;
      states = c0.states ∙ (m.states ∙ o0.states);
      commands = c0.commands ∙ (m.commands ∙ o0.commands);
    })

-- expressions, where their places ask for this precedence

abbrev Operand : Version → ℕ → Stage → t.Expression → Stage → Type 0
Operand version l p x q = Spans version p q (is_expression version x) (pars l x + tokens x) (opens l x + brackets x)

lower : {version : Version} (l k : ℕ) (x : t.Expression) {p q : Stage} → l ≤ k → Operand version k p x q → Operand version l p x q
lower l k x le s =
    let up = pars_up l k x le in let deep = opens_up l k x le in
    eases s (λ h. h) (omega arith) (omega arith)

-- a construct that binds as tightly as its place asks for
whole : {version : Version} {p q : Stage} {a : Bool} {n m : ℕ} (l : ℕ) (x : t.Expression) → Spans version p q a n m → (a ≡ true → is_expression version x ≡ true)
    → l ≤ precedence_of x → tokens x ≤ n → brackets x ≤ m → Operand version l p x q
whole l x s h tight size nest =
    let bare = no_pars l x tight in let shut = no_opens l x tight in
    eases s h (omega arith) (omega arith)

bounds_between : {version : Version} {p q : Stage} {high low : ℕ} → g.Bounds p high low q → Spans version p q (is_number high && is_number low) 5 1
bounds_between (g.bounds a b c d e) = within a (token b and c before token d) e

-- slices of an operand that ends where they begin
cuts_between : {version : Version} {o p q : Stage} {x y : t.Expression} → g.Cuts x p y q → Operand version slice_precedence o x p → Operand version slice_precedence o y q
unfolding is_expression precedence_of tokens brackets pars opens
cuts_between g.no_cut s = s
cuts_between {version} {p = p} {x = x} (g.cut {high = high} {low = low} b more) s =
    let all = t.slice (record { first = first_of x; at = here p }) x high low in
    let test = all_of (is_expression version x) (is_number high) (is_number low) in
    cuts_between more (whole slice_precedence all (s and bounds_between b) test (omega arith) (omega arith) (omega arith))

in_parentheses : {version : Version} {p q : Stage} (place : Place) (x : t.Expression) → Spans version p q (is_expression version x) (tokens x + 2) (brackets x + 1)
    → Operand version primary_precedence p (enclosed place x) q
in_parentheses place x s =
    let e = enclosed_tokens place x in let f = enclosed_brackets place x in
    let bare = pars_most primary_precedence (enclosed place x) in let shut = opens_most primary_precedence (enclosed place x) in
    eases s (λ h. enclosed_is _ place x ∙ h) (omega arith) (omega arith)

mutual
  unfolding is_expression precedence_of tokens brackets pars opens

  pub expr_between : {version : Version} {p q : Stage} {x : t.Expression} → g.Expr p x q → Spans version p q (is_expression version x) (tokens x) (brackets x)
  expr_between (g.only b) = eases (bin_between b) (λ h. h) (omega arith) (omega arith)
  expr_between (g.choice b s1 y s2 z) =
      eases (bin_between b and s1 before expr_between y and s2 before expr_between z) (λ h. h) (omega arith) (omega arith)

  bin_between : {version : Version} {l : ℕ} {p q : Stage} {x : t.Expression} → g.Bin l p x q → Operand version l p x q
  bin_between (g.operand u) = unary_between u
  bin_between (g.chain {l = l} h b o) = others_between o (lower l (l + 1) _ (omega arith) (bin_between b))

  others_between : {version : Version} {l : ℕ} {o p q : Stage} {x y : t.Expression} → g.Others l x p y q → Operand version l o x p → Operand version l o y q
  others_between g.no_other s = s
  others_between {l} {p = p} {x = x} (g.other {y = y} o level a b more) s =
      let e = ap (λ k. pars k x) level in let f = ap (λ k. pars (k + 1) y) level in
      let e' = ap (λ k. opens k x) level in let f' = ap (λ k. opens (k + 1) y) level in
      let all = t.binary_of (record { first = first_of x; at = here p }) o x y in
      others_between more (whole l all (s and a before bin_between b) (λ h. h) (omega arith) (omega arith) (omega arith))

  unary_between : {version : Version} {p q : Stage} {x : t.Expression} → g.Unary p x q → Operand version unary_precedence p x q
  unary_between {x = z} (g.signed o s u) = whole unary_precedence z (s before unary_between u) (λ h. h) (omega arith) (omega arith) (omega arith)
  unary_between (g.unsigned b) = lower unary_precedence slice_precedence _ (omega arith) (post_between b)

  post_between : {version : Version} {p q : Stage} {x : t.Expression} → g.Post p x q → Operand version slice_precedence p x q
  post_between (g.post b c) = cuts_between c (lower slice_precedence primary_precedence _ (omega arith) (prim_between b))

  prim_between : {version : Version} {p q : Stage} {x : t.Expression} → g.Prim p x q → Operand version primary_precedence p x q
  prim_between {x = z} (g.number a) = whole primary_precedence z (token a) (λ h. h) (omega arith) (omega arith) (omega arith)
  prim_between {x = z} (g.sized a) = whole primary_precedence z (token a) (λ h. h) (omega arith) (omega arith) (omega arith)
  prim_between {x = z} (g.read a) = whole primary_precedence z (token a) (λ h. h) (omega arith) (omega arith) (omega arith)
  prim_between {x = z} (g.cell a b i c) = whole primary_precedence z (token a and within b (expr_between i) c) (λ h. h) (omega arith) (omega arith) (omega arith)
  prim_between (g.parentheses a x b) = in_parentheses _ _ (within a (expr_between x) b)
  prim_between {x = z} (g.concat a x b y xs c) =
      whole primary_precedence z (within a (expr_between x and b before (expr_between y and parts_between xs)) c) (λ h. h) (omega arith) (omega arith) (omega arith)
  prim_between {x = z} (g.zext a b x c n d) =
      whole primary_precedence z (a before within b (expr_between x and c before token n) d) (λ h. h) (omega arith) (omega arith) (omega arith)

  parts_between : {version : Version} {p q : Stage} {xs : t.Expressions} → g.Parts p xs q → Spans version p q (are_expressions version xs) (part_tokens xs) (part_brackets xs)
  parts_between g.no_part = nothing
  parts_between (g.part a x xs) = eases (a before (expr_between x and parts_between xs)) (λ h. h) (omega arith) (omega arith)

mutual
  unfolding is_tag tag_tokens tag_brackets

  pub texpr_between : {version : Version} {p q : Stage} {x : t.TagExpression} → g.Texpr p x q → Spans version p q (is_tag version x) (tag_tokens x) (tag_brackets x)
  texpr_between (g.level a) = token a
  texpr_between (g.tag_of a b x c) = eases (a before within b (expr_between x) c) (λ h. h) (omega arith) (omega arith)
  texpr_between (g.level_at a b x c) = eases (a before within b (expr_between x) c) (λ h. h) (omega arith) (omega arith)
  texpr_between (g.join a b x c y xs d) =
      eases (a before within b (texpr_between x and c before (texpr_between y and texprs_between xs)) d) (λ h. h) (omega arith) (omega arith)

  texprs_between : {version : Version} {p q : Stage} {xs : t.TagExpressions} → g.Texprs p xs q → Spans version p q (are_tags version xs) (tag_part_tokens xs) (tag_part_brackets xs)
  texprs_between g.no_tag = nothing
  texprs_between (g.tag a x xs) = eases (a before (texpr_between x and texprs_between xs)) (λ h. h) (omega arith) (omega arith)

-- an expression or tag expression that stands in no other
pub outermost : {a : Bool} {n l : ℕ} {c d : Counts} → c.tokens ≡ 0 → c.brackets ≡ 0 → Fits a n l c d → (a && (nat_le n 256 && nat_le l 64)) ≡ true
outermost {n = n} {l = l} none closed f =
    let few : n ≤ 256 = let s = f.size in let r = f.room (omega arith) in omega arith in
    let near : l ≤ 64 = let d = f.depth (omega arith) in omega arith in
    all_true f.test (all_true (le_true few) (le_true near))
