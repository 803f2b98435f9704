-- Trees of expressions, from the equations that the reader's functions have.
use Rattle.sap_lemmas.proofs.Common.{◌≡◌, ◌+◌, ℕ, List, [], ◌∷◌, ◌++◌, Result, Ok, Err, refl, sym, ap, subst, ◌∙◌, IfOk}
use Rattle.sap_parse.specs.Grammar as g
use Rattle.sap_parse.specs.Joining.{Indexes, Slices, indexes, join, slices}
use Rattle.sap_parse.specs.Rows.{Between, LastNumber, Range, between, last_number, range}
use Rattle.sap_parse.specs.Stages.{Stage, IsName, IsNumber, IsSign, IsSized, IsWord, here, spot_here}
use Rattle.sap_parse.specs.declared.role.Role.TheVariants as r
use Rattle.sap_lex.specs.declared.token.Sign.TheVariants as s
use Rattle.sap_tree.specs.declared.word.Word.TheVariants as w
use Rattle.sap_tree.specs.Prelude.{precedence, enclosed, first_of, spot_of, expression_of, expressions_of}
use Rattle.sap_tree.specs.declared.place.Spot.{Spot}
use Rattle.sap_tree.specs.declared.syntax.BinaryOperator.{BinaryOperator}
use Rattle.sap_tree.specs.declared.syntax.Expr.{Expr}
use Rattle.sap_tree.specs.declared.syntax.UnaryOperator.{UnaryOperator}
use Rattle.sap_tree.specs.Syntax as t
use Rattle.sap_text.specs.declared.place.Place.{Place}
use Rattle.sap_parse.specs.declared.cursor.Fault.{Fault}

abbrev pub both : Place → Spot
both place = record { first = place; at = place }

pub number_tree : {p q : Stage} {n : ℕ} {place : Place} {spot : Spot} {x : t.Expression} → IsNumber p r.Inner n q → place ≡ here p
    → spot ≡ both place → x ≡ t.literal spot n → g.Prim p x q
number_tree {p = p} {q = q} {n = n} is at same made = subst (λ x. g.Prim p x q) (sym (made ∙ ap (λ s. t.literal s n) (same ∙ ap both at))) (g.number is)

pub sized_tree : {p q : Stage} {width n : ℕ} {place : Place} {spot : Spot} {x : t.Expression} → IsSized p r.Inner width n q → place ≡ here p
    → spot ≡ both place → x ≡ t.sized_literal spot width n → g.Prim p x q
sized_tree {p = p} {q = q} {width = width} {n = n} is at same made = subst (λ x. g.Prim p x q) (sym (made ∙ ap (λ s. t.sized_literal s width n) (same ∙ ap both at))) (g.sized is)

pub read_tree : {p q : Stage} {name : List ℕ} {place : Place} {spot : Spot} {x : t.Expression} → IsName p r.Inner name q → place ≡ here p
    → spot ≡ both place → x ≡ t.variable spot name → g.Prim p x q
read_tree {p = p} {q = q} {name = name} is at same made = subst (λ x. g.Prim p x q) (sym (made ∙ ap (λ s. t.variable s name) (same ∙ ap both at))) (g.read is)

pub paren_tree : {p q : Stage} {x y : t.Expression} {place : Place} → Between r.Opening s.OpenParen r.Closing s.CloseParen p x q
    → place ≡ here p → y ≡ enclosed place x → g.Prim p y q
paren_tree {p = p} {q = q} {x = x} (between a b c) at made = subst (λ y. g.Prim p y q) (sym (made ∙ ap (λ place. enclosed place x) at)) (g.parentheses a b c)

pub concat_tree : {p1 p2 p3 p4 q : Stage} {x x' y z : t.Expression} {xs all : t.Expressions} {place : Place} {spot : Spot}
    → Between r.Opening s.OpenBrace r.Inner s.Comma p1 x p2 → g.Expr p2 y p3 → g.Parts p3 xs p4 → IsSign p4 r.Closing s.CloseBrace q
    → place ≡ here p1 → x' ≡ x → spot ≡ both place → all ≡ t.and_part x' (t.and_part y xs) → z ≡ t.concat spot all → g.Prim p1 z q
concat_tree {p1 = p1} {q = q} {y = y} {xs = xs} {all = all} (between a b c) d e f at alike same items made =
    subst (λ z. g.Prim p1 z q)
    (sym (made ∙ ap (λ s. t.concat s all) (same ∙ ap both at)
    ∙ ap (λ xs. t.concat (spot_here p1) xs) (items ∙ ap (λ x. t.and_part x (t.and_part y xs)) alike))) (g.concat a b c d e f)

pub zext_tree : {p1 p2 p3 q : Stage} {x z : t.Expression} {width : ℕ} {place : Place} {spot : Spot}
    → IsWord p1 r.Inner w.Zext p2 → Between r.Opening s.OpenParen r.Inner s.Comma p2 x p3 → LastNumber s.CloseParen p3 width q
    → place ≡ here p1 → spot ≡ both place → z ≡ t.zero_extend spot x width → g.Prim p1 z q
zext_tree {p1 = p1} {q = q} {x = x} {width = width} a (between b c d) (last_number e f) at same made =
    subst (λ z. g.Prim p1 z q) (sym (made ∙ ap (λ s. t.zero_extend s x width) (same ∙ ap both at))) (g.zext a b c d e f)

pub unary_tree : {p1 p2 q : Stage} {x z : t.Expression} {place : Place} {spot : Spot} (o : UnaryOperator) → IsSign p1 r.Inner (g.unary_sign_of o) p2 → g.Unary p2 x q
    → place ≡ here p1 → spot ≡ both place → z ≡ t.unary_of spot o x → g.Unary p1 z q
unary_tree {p1 = p1} {q = q} {x = x} o a b at same made = subst (λ z. g.Unary p1 z q) (sym (made ∙ ap (λ s. t.unary_of s o x) (same ∙ ap both at))) (g.signed o a b)

pub bounds_tree : {p1 p2 q : Stage} {high low : ℕ} → IsSign p1 r.Opening s.OpenBracket p2 → Range p2 high low q → g.Bounds p1 high low q
bounds_tree a (range b c (last_number d e)) = g.bounds a b c d e

-- an expression named after the operator that stands here
abbrev pub from_to : Place → Place → Spot
from_to first at = record { first = first; at = at }

pub choice_tree : {p1 p2 p3 q : Stage} {x y z all : t.Expression} {place first : Place}
    → g.Bin 1 p1 x p2 → Between r.Inner s.Question r.Inner s.Colon p2 y p3 → g.Expr p3 z q → place ≡ here p2 → first ≡ first_of x
    → all ≡ t.choice (from_to first place) x y z → g.Expr p1 all q
choice_tree {p1 = p1} {q = q} {x = x} {y = y} {z = z} {place = place} a (between b c d) e at begins made =
    subst (λ all. g.Expr p1 all q) (sym (made ∙ ap (λ f. t.choice (from_to f place) x y z) begins ∙ ap (λ at. t.choice (from_to (first_of x) at) x y z) at)) (g.choice a b c d e)

pub other_tree : {l : ℕ} {p1 p2 p3 q : Stage} {x y z all : t.Expression} {place first : Place} (o : BinaryOperator) → precedence o ≡ l
    → IsSign p1 r.Inner (g.sign_of o) p2 → g.Bin (l + 1) p2 y p3
    → place ≡ here p1 → first ≡ first_of x → all ≡ t.binary_of (from_to first place) o x y → g.Others l all p3 z q → g.Others l x p1 z q
other_tree {l = l} {p3 = p3} {q = q} {x = x} {y = y} {z = z} {place = place} o level a b at begins made rest =
    g.other o level a b (subst (λ all. g.Others l all p3 z q) (made ∙ ap (λ f. t.binary_of (from_to f place) o x y) begins
    ∙ ap (λ at. t.binary_of (from_to (first_of x) at) o x y) at) rest)

pub cut_tree : {p1 p2 q : Stage} {x y all : t.Expression} {high low : ℕ} {place first : Place} → g.Bounds p1 high low p2
    → place ≡ here p1 → first ≡ first_of x → all ≡ t.slice (from_to first place) x high low → g.Cuts all p2 y q → g.Cuts x p1 y q
cut_tree {p2 = p2} {q = q} {x = x} {y = y} {high = high} {low = low} {place = place} a at begins made rest =
    g.cut a (subst (λ all. g.Cuts all p2 y q) (made ∙ ap (λ f. t.slice (from_to f place) x high low) begins ∙ ap (λ at. t.slice (from_to (first_of x) at) x high low) at) rest)

-- an operand that begins with a name

sliced_one : {p1 p2 p3 q : Stage} {name : List ℕ} {first at : Place} {y : t.Expression} → IsName p1 r.Inner name p2 → first ≡ here p1
    → IsSign p2 r.Opening s.OpenBracket p3 → at ≡ here p2
    → Slices (from_to first at) (t.variable (both first) name) p3 y q → g.Post p1 y q
unfolding first_of spot_of
sliced_one {p1 = p1} {p2 = p2} {name = name} {first = first} {at = at} a begins b there (slices {p5 = p5} {q = q} {high = high} {low = low} {x = x} c d e f rest) =
    let moved : g.Cuts (t.slice (from_to (here p1) (here p2)) (t.variable (spot_here p1) name) high low) p5 x q
    = subst (λ place. g.Cuts (t.slice (from_to (here p1) place) (t.variable (spot_here p1) name) high low) p5 x q) there
    (subst (λ place. g.Cuts (t.slice (from_to place at) (t.variable (both place) name) high low) p5 x q) begins rest) in
    g.post (g.read a) (g.cut (g.bounds b c d e f) moved)

indexed_one : {p1 p2 p3 q : Stage} {name : List ℕ} {first : Place} {y : t.Expression} → IsName p1 r.Inner name p2 → first ≡ here p1 → IsSign p2 r.Opening s.OpenBracket p3
    → Indexes (both first) name p3 y q → g.Post p1 y q
indexed_one {p1 = p1} {name = name} a begins b (indexes {p3 = p5} {q = q} {i = i} {x = x} c d rest) =
    g.post (g.cell a b c d) (subst (λ place. g.Cuts (t.cell_at (both place) name i) p5 x q) begins rest)

pub sliced_post : (o : Result Expr Fault) (q : Stage) {p1 p2 p3 : Stage} {name : List ℕ} {first at : Place} → IsName p1 r.Inner name p2
    → first ≡ here p1 → IsSign p2 r.Opening s.OpenBracket p3
    → at ≡ here p2 → IfOk o (λ x. Slices (from_to first at) (t.variable (both first) name) p3 (expression_of x) q) → IfOk o (λ x. g.Post p1 (expression_of x) q)
sliced_post (Ok x) q a begins b there h = sliced_one a begins b there h
sliced_post (Err e) q a begins b there h = tt

pub indexed_post : (o : Result Expr Fault) (q : Stage) {p1 p2 p3 : Stage} {name : List ℕ} {first : Place} → IsName p1 r.Inner name p2
    → first ≡ here p1 → IsSign p2 r.Opening s.OpenBracket p3
    → IfOk o (λ x. Indexes (both first) name p3 (expression_of x) q) → IfOk o (λ x. g.Post p1 (expression_of x) q)
indexed_post (Ok x) q a begins b h = indexed_one a begins b h
indexed_post (Err e) q a begins b h = tt

pub slices_tree : (o : Result Expr Fault) (q : Stage) (spot : Spot) (x : t.Expression) {y : t.Expression} {p1 p2 : Stage} {high low : ℕ}
    → Range p1 high low p2 → y ≡ t.slice spot x high low → IfOk o (λ z. g.Cuts y p2 (expression_of z) q) → IfOk o (λ z. Slices spot x p1 (expression_of z) q)
slices_tree (Ok z) q spot x {p2 = p2} (range a b (last_number c d)) made h = slices a b c d (subst (λ y. g.Cuts y p2 (expression_of z) q) made h)
slices_tree (Err e) q spot x a made h = tt

pub indexes_tree : (o : Result Expr Fault) (q : Stage) (spot : Spot) (name : List ℕ) {i y : t.Expression} {p1 p2 p3 : Stage}
    → g.Expr p1 i p2 → IsSign p2 r.Closing s.CloseBracket p3
    → y ≡ t.cell_at spot name i → IfOk o (λ z. g.Cuts y p3 (expression_of z) q) → IfOk o (λ z. Indexes spot name p1 (expression_of z) q)
indexes_tree (Ok z) q spot name {p3 = p3} a b made h = indexes a b (subst (λ y. g.Cuts y p3 (expression_of z) q) made h)
indexes_tree (Err e) q spot name a b made h = tt

pub post_tree : (o : Result Expr Fault) (q : Stage) {x : t.Expression} {p1 p2 : Stage} → g.Prim p1 x p2
    → IfOk o (λ z. g.Cuts x p2 (expression_of z) q) → IfOk o (λ z. g.Post p1 (expression_of z) q)
post_tree (Ok z) q a h = g.post a h
post_tree (Err e) q a h = tt

pub unsigned_tree : (o : Result Expr Fault) (p q : Stage) → IfOk o (λ z. g.Post p (expression_of z) q) → IfOk o (λ z. g.Unary p (expression_of z) q)
unsigned_tree (Ok z) p q h = g.unsigned h
unsigned_tree (Err e) p q h = tt

pub operand_tree : (o : Result Expr Fault) (p q : Stage) (l : ℕ) → l ≡ 9 → IfOk o (λ z. g.Unary p (expression_of z) q) → IfOk o (λ z. g.Bin l p (expression_of z) q)
operand_tree (Ok z) p q l same h = subst (λ l. g.Bin l p (expression_of z) q) (sym same) (g.operand h)
operand_tree (Err e) p q l same h = tt

-- rows of expressions

pub join_push : (xs : List Expr) (x : Expr) (ys : t.Expressions) → join (expressions_of (xs ++ x ∷ [])) ys ≡ join (expressions_of xs) (t.and_part (expression_of x) ys)
join_push [] x ys = refl
join_push (y ∷ xs) x ys = ap (λ zs. t.and_part (expression_of y) zs) (join_push xs x ys)

pub join_none : (xs : t.Expressions) → join xs t.no_part ≡ xs
join_none t.no_part = refl
join_none (t.and_part x xs) = ap (λ zs. t.and_part x zs) (join_none xs)
