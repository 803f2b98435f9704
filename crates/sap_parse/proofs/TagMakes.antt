-- Trees of tag expressions, from the equations that the reader's functions have.
use Rattle.std.proofs.Common.{◌≡◌, List, [], ◌∷◌, ◌++◌, refl, sym, ap, subst, ◌∙◌}
use Rattle.sap_parse.specs.Grammar as g
use Rattle.sap_parse.specs.Joining.{join_tags}
use Rattle.sap_parse.specs.Rows.{Asked, asked, between}
use Rattle.sap_parse.specs.Stages.{Stage, IsName, IsSign, IsWord, here, mention}
use Rattle.sap_parse.specs.declared.role.Role.TheVariants as r
use Rattle.sap_lex.specs.declared.token.Sign.TheVariants as s
use Rattle.sap_tree.specs.declared.word.Word.TheVariants as w
use Rattle.sap_tree.specs.Syntax as t
use Rattle.sap_tree.specs.Trees.{tag_of, tags_of}
use Rattle.sap_tree.specs.declared.name.Mention.{Mention}
use Rattle.sap_tree.specs.declared.syntax.TagExpr.{TagExpr}
use Rattle.sap_text.specs.declared.place.Place.{Place}

pub level_tree : {p q : Stage} {n : Mention} {x : t.TagExpression} → IsName p r.Inner n.name q → n ≡ mention p n.name → x ≡ t.level_of n → g.Texpr p x q
level_tree {p = p} {q = q} a at made = subst (λ x. g.Texpr p x q) (sym (made ∙ ap (λ n. t.level_of n) at)) (g.level a)

pub tag_tree : {p q : Stage} {e : t.Expression} {x : t.TagExpression} {place : Place} → Asked r.Inner w.Tag r.Opening r.Closing p e q
    → place ≡ here p → x ≡ t.tag_at place e → g.Texpr p x q
tag_tree {p = p} {q = q} {e = e} (asked a (between b c d)) at made = subst (λ x. g.Texpr p x q) (sym (made ∙ ap (λ place. t.tag_at place e) at)) (g.tag_of a b c d)

pub level_at_tree : {p q : Stage} {e : t.Expression} {x : t.TagExpression} {place : Place} → Asked r.Inner w.Level r.Opening r.Closing p e q
    → place ≡ here p → x ≡ t.level_at place e → g.Texpr p x q
level_at_tree {p = p} {q = q} {e = e} (asked a (between b c d)) at made = subst (λ x. g.Texpr p x q) (sym (made ∙ ap (λ place. t.level_at place e) at)) (g.level_at a b c d)

pub join_tree : {p1 p2 p3 p4 p5 p6 p7 q : Stage} {x y z : t.TagExpression} {xs all : t.TagExpressions} {place : Place}
    → IsWord p1 r.Inner w.Join p2 → IsSign p2 r.Opening s.OpenParen p3 → g.Texpr p3 x p4 → IsSign p4 r.Inner s.Comma p5 → g.Texpr p5 y p6
    → g.Texprs p6 xs p7 → IsSign p7 r.Closing s.CloseParen q
    → place ≡ here p1 → all ≡ t.and_tag x (t.and_tag y xs) → z ≡ t.join_of place all → g.Texpr p1 z q
join_tree {p1 = p1} {q = q} {all = all} a b c d e f h at items made =
    subst (λ z. g.Texpr p1 z q) (sym (made ∙ ap (λ place. t.join_of place all) at ∙ ap (λ xs. t.join_of (here p1) xs) items)) (g.join a b c d e f h)

pub join_tags_push : (xs : List TagExpr) (x : TagExpr) (ys : t.TagExpressions) → join_tags (tags_of (xs ++ x ∷ [])) ys ≡ join_tags (tags_of xs) (t.and_tag (tag_of x) ys)
join_tags_push [] x ys = refl
join_tags_push (y ∷ xs) x ys = ap (λ zs. t.and_tag (tag_of y) zs) (join_tags_push xs x ys)

pub join_tags_none : (xs : t.TagExpressions) → join_tags xs t.no_tag ≡ xs
join_tags_none t.no_tag = refl
join_tags_none (t.and_tag x xs) = ap (λ zs. t.and_tag x zs) (join_tags_none xs)
