-- The text of each construct, from left to right.
use Rattle.sap_lemmas.proofs.Common.{◌≡◌, ℕ, ◌+◌, ◌-◌, ◌<◌, ◌≤◌, List, [], ◌∷◌, ◌++◌, length, get_or, drop, take, refl, sym, ap, ◌∙◌, arith, append_assoc, at_drop_all, at_drop_more, Some, None, true, false, cond, nat_tests, codes, decimal, nat_lt, flat_map, after_part, append-nil}
use Rattle.sap_lemmas.proofs.Lists.{take_rest_of}
use Rattle.sap_show.specs.Canonical.{unary_text, binary_text, operand_text, bounds_text, expression_text, parts_text, more_parts_text, tag_text, tags_text, more_tags_text, cell_text, simple_text, command_text, arms_text, block_text, else_text, declaration_text, head_text, state_text, version_text, canonical_text}
use Rattle.sap_show.specs.Lists.{list_arms_text, list_text, group_text}
use Rattle.sap_tree.specs.Prelude.{tree_of, precedence, unary_precedence, slice_precedence, precedence_of, Expression, Expressions, TagExpression, TagExpressions, StateTree, expression_of, expressions_of, tag_of, tags_of, command_of, block_of, else_of, constants_of, arm_block_of, arms_of, state_of}
use Rattle.sap_tree.specs.declared.syntax.Decl.{Decl}
use Rattle.sap_tree.specs.declared.name.Mention.{Mention}
use Rattle.sap_tree.specs.declared.place.Spot.{Spot}
use Rattle.sap_tree.specs.declared.syntax.BinaryOperator.{BinaryOperator}
use Rattle.sap_tree.specs.declared.syntax.UnaryOperator.{UnaryOperator}
use Rattle.sap_tree.specs.declared.syntax.Arm.{Arm}
use Rattle.sap_tree.specs.declared.syntax.Block.{Block}
use Rattle.sap_tree.specs.declared.syntax.Cmd.{Cmd}
use Rattle.sap_tree.specs.declared.syntax.Expr.{Expr}
use Rattle.sap_tree.specs.declared.syntax.State.{State, out-State}
use Rattle.sap_tree.specs.declared.syntax.TagExpr.{TagExpr}
use Rattle.sap_tree.specs.declared.version.Version.{Version}
use Rattle.sap_tree.specs.Syntax
use Rattle.sap_text.specs.declared.place.Place.{Place}
use Rattle.sap_tree.proofs.Views.{state_of-out}

-- operands

pub operand_closed : (asked : ℕ) (x : Expression) (text : List ℕ) → precedence_of x < asked → operand_text asked x text ≡ codes "(" ++ (text ++ codes ")")
unfolding operand_text
operand_closed asked x text h = let e : nat_lt (precedence_of x) asked ≡ true = grind (arith, nat_tests) in ap (λ b. cond b (codes "(" ++ (text ++ codes ")")) text) e

pub operand_bare : (asked : ℕ) (x : Expression) (text : List ℕ) → asked ≤ precedence_of x → operand_text asked x text ≡ text
unfolding operand_text
operand_bare asked x text h = let e : nat_lt (precedence_of x) asked ≡ false = grind (arith, nat_tests) in ap (λ b. cond b (codes "(" ++ (text ++ codes ")")) text) e

-- expressions

pub text_number : (spot : Spot) (n : ℕ) → expression_text (Syntax.literal spot n) ≡ decimal n
unfolding expression_text
text_number spot n = refl

pub text_sized : (spot : Spot) (w n : ℕ) → expression_text (Syntax.sized_literal spot w n) ≡ decimal w ++ (codes "'d" ++ decimal n)
unfolding expression_text
text_sized spot w n = refl

pub text_read : (spot : Spot) (name : List ℕ) → expression_text (Syntax.variable spot name) ≡ name
unfolding expression_text
text_read spot name = refl

pub text_cell : (spot : Spot) (name : List ℕ) (i : Expression) → expression_text (Syntax.cell_at spot name i) ≡ name ++ (codes "[" ++ (expression_text i ++ codes "]"))
unfolding expression_text
text_cell spot name i = refl

pub text_unary : (spot : Spot) (o : UnaryOperator) (x : Expression)
    → expression_text (Syntax.unary_of spot o x) ≡ unary_text o ++ operand_text unary_precedence x (expression_text x)
unfolding expression_text
text_unary spot o x = refl

pub text_binary : (spot : Spot) (o : BinaryOperator) (x y : Expression)
    → expression_text (Syntax.binary_of spot o x y)
    ≡ operand_text (precedence o) x (expression_text x) ++ (binary_text o ++ operand_text (precedence o + 1) y (expression_text y))
unfolding expression_text
text_binary spot o x y = refl

pub text_choose : (spot : Spot) (x y z : Expression)
    → expression_text (Syntax.choice spot x y z) ≡ operand_text 1 x (expression_text x) ++ (codes " ? " ++ (expression_text y ++ (codes " : " ++ expression_text z)))
unfolding expression_text
text_choose spot x y z = refl

pub text_slice : (spot : Spot) (x : Expression) (high low : ℕ)
    → expression_text (Syntax.slice spot x high low) ≡ operand_text slice_precedence x (expression_text x) ++ bounds_text high low
unfolding expression_text
text_slice spot x high low = refl

pub text_concat : (spot : Spot) (parts : Expressions) → expression_text (Syntax.concat spot parts) ≡ codes "{" ++ (parts_text parts ++ codes "}")
unfolding expression_text
text_concat spot parts = refl

pub text_zext : (spot : Spot) (x : Expression) (w : ℕ)
    → expression_text (Syntax.zero_extend spot x w) ≡ codes "zext(" ++ (expression_text x ++ (codes ", " ++ (decimal w ++ codes ")")))
unfolding expression_text
text_zext spot x w = refl

-- what is written behind what is there

pub grow_two : (old a new p q all : List ℕ) → a ≡ old ++ p → new ≡ a ++ q → all ≡ p ++ q → new ≡ old ++ all
grow_two old a new p q all e f g = f ∙ ap (λ z. z ++ q) e ∙ append_assoc old p q ∙ ap (λ z. old ++ z) (sym g)

pub grow_three : (old a b new p q r all : List ℕ) → a ≡ old ++ p → b ≡ a ++ q → new ≡ b ++ r → all ≡ p ++ (q ++ r) → new ≡ old ++ all
grow_three old a b new p q r all e f h g = grow_two old a new p (q ++ r) all e (grow_two a b new q r (q ++ r) f h refl) g

pub grow_four : (old a b c new p q r s all : List ℕ) → a ≡ old ++ p → b ≡ a ++ q → c ≡ b ++ r → new ≡ c ++ s → all ≡ p ++ (q ++ (r ++ s)) → new ≡ old ++ all
grow_four old a b c new p q r s all e f h i g = grow_two old a new p (q ++ (r ++ s)) all e (grow_three a b c new q r s (q ++ (r ++ s)) f h i refl) g

pub grow_five : (old a b c d new p q r s t all : List ℕ) → a ≡ old ++ p → b ≡ a ++ q → c ≡ b ++ r → d ≡ c ++ s → new ≡ d ++ t
    → all ≡ p ++ (q ++ (r ++ (s ++ t))) → new ≡ old ++ all
grow_five old a b c d new p q r s t all e f h i j g =
    grow_two old a new p (q ++ (r ++ (s ++ t))) all e (grow_four a b c d new q r s t (q ++ (r ++ (s ++ t))) f h i j refl) g

pub grow_seven : (old a b c d e f new p q r s t u v all : List ℕ) → a ≡ old ++ p → b ≡ a ++ q → c ≡ b ++ r → d ≡ c ++ s → e ≡ d ++ t → f ≡ e ++ u → new ≡ f ++ v
    → all ≡ p ++ (q ++ (r ++ (s ++ (t ++ (u ++ v))))) → new ≡ old ++ all
grow_seven old a b c d e f new p q r s t u v all h i j k l m n g =
    grow_three old a b new p q (r ++ (s ++ (t ++ (u ++ v)))) all h i (grow_five b c d e f new r s t u v (r ++ (s ++ (t ++ (u ++ v)))) j k l m n refl) g

pub grow_eight : (old a b c d e f g new p q r s t u v x all : List ℕ) → a ≡ old ++ p → b ≡ a ++ q → c ≡ b ++ r → d ≡ c ++ s → e ≡ d ++ t → f ≡ e ++ u → g ≡ f ++ v → new ≡ g ++ x
    → all ≡ p ++ (q ++ (r ++ (s ++ (t ++ (u ++ (v ++ x)))))) → new ≡ old ++ all
grow_eight old a b c d e f g new p q r s t u v x all h i j k l m n o whole =
    grow_four old a b c new p q r (s ++ (t ++ (u ++ (v ++ x)))) all h i j (grow_five c d e f g new s t u v x (s ++ (t ++ (u ++ (v ++ x)))) k l m n o refl) whole

pub nothing_more : (old t : List ℕ) → t ≡ [] → old ≡ old ++ t
nothing_more old t e = sym (append-nil old) ∙ ap (λ z. old ++ z) (sym e)

-- parts, the first of them in front; a pattern's rest is seen as what is left behind the first

none_of : {A : Type 0} (text : List A → List ℕ) (xs : List A) → length xs < 1 → text xs ≡ text []
none_of text [] h = refl
none_of text (x ∷ xs) h = absurd (omega arith)

first_of : {A : Type 0} (text : List A → List ℕ) (xs : List A) (d : A) → 1 ≤ length xs → d ≡ get_or xs 0 d → text xs ≡ text (d ∷ take (length xs - 1) (drop 1 xs))
first_of text [] d h e = absurd (omega arith)
first_of {A} text (x ∷ xs) d h e =
    ap (λ (r : List A). text (x ∷ r)) (sym (take_rest_of x xs)) ∙ ap (λ (y : A). text (y ∷ take (length (x ∷ xs) - 1) (drop 1 (x ∷ xs)))) (sym e)

pub parts_none : (xs : List Expr) → length xs < 1 → parts_text (expressions_of xs) ≡ []
unfolding expression_text
parts_none xs h = none_of (λ ys. parts_text (expressions_of ys)) xs h

pub more_parts_none : (xs : List Expr) → length xs < 1 → more_parts_text (expressions_of xs) ≡ []
unfolding expression_text
more_parts_none xs h = none_of (λ ys. more_parts_text (expressions_of ys)) xs h

pub parts_first : (xs : List Expr) (d : Expr) → 1 ≤ length xs → d ≡ get_or xs 0 d
    → parts_text (expressions_of xs) ≡ expression_text (expression_of d) ++ more_parts_text (expressions_of (take (length xs - 1) (drop 1 xs)))
unfolding expression_text
parts_first xs d h e = first_of (λ ys. parts_text (expressions_of ys)) xs d h e

pub more_parts_first : (xs : List Expr) (d : Expr) → 1 ≤ length xs → d ≡ get_or xs 0 d
    → more_parts_text (expressions_of xs) ≡ codes ", " ++ (expression_text (expression_of d) ++ more_parts_text (expressions_of (take (length xs - 1) (drop 1 xs))))
unfolding expression_text
more_parts_first xs d h e = first_of (λ ys. more_parts_text (expressions_of ys)) xs d h e

pub tags_none : (xs : List TagExpr) → length xs < 1 → tags_text (tags_of xs) ≡ []
unfolding tag_text
tags_none xs h = none_of (λ ys. tags_text (tags_of ys)) xs h

pub more_tags_none : (xs : List TagExpr) → length xs < 1 → more_tags_text (tags_of xs) ≡ []
unfolding tag_text
more_tags_none xs h = none_of (λ ys. more_tags_text (tags_of ys)) xs h

pub tags_first : (xs : List TagExpr) (d : TagExpr) → 1 ≤ length xs → d ≡ get_or xs 0 d
    → tags_text (tags_of xs) ≡ tag_text (tag_of d) ++ more_tags_text (tags_of (take (length xs - 1) (drop 1 xs)))
unfolding tag_text
tags_first xs d h e = first_of (λ ys. tags_text (tags_of ys)) xs d h e

pub more_tags_first : (xs : List TagExpr) (d : TagExpr) → 1 ≤ length xs → d ≡ get_or xs 0 d
    → more_tags_text (tags_of xs) ≡ codes ", " ++ (tag_text (tag_of d) ++ more_tags_text (tags_of (take (length xs - 1) (drop 1 xs))))
unfolding tag_text
more_tags_first xs d h e = first_of (λ ys. more_tags_text (tags_of ys)) xs d h e

-- tag expressions

pub text_level : (level : Mention) → tag_text (Syntax.level_of level) ≡ level.name
unfolding tag_text
text_level level = refl

pub text_tag_of : (place : Place) (x : Expression) → tag_text (Syntax.tag_at place x) ≡ codes "tag(" ++ (expression_text x ++ codes ")")
unfolding tag_text
text_tag_of place x = refl

pub text_level_at : (place : Place) (x : Expression) → tag_text (Syntax.level_at place x) ≡ codes "level(" ++ (expression_text x ++ codes ")")
unfolding tag_text
text_level_at place x = refl

pub text_join : (place : Place) (parts : TagExpressions) → tag_text (Syntax.join_of place parts) ≡ codes "join(" ++ (tags_text parts ++ codes ")")
unfolding tag_text
text_join place parts = refl

-- commands

pub text_assign : (name : Mention) (x : Expression) → simple_text (Syntax.assign name x) ≡ name.name ++ (codes " := " ++ expression_text x)
unfolding simple_text
text_assign name x = refl

pub text_write : (name : Mention) (i x : Expression) → simple_text (Syntax.write name i x) ≡ cell_text name.name i ++ (codes " := " ++ expression_text x)
unfolding simple_text
text_write name i x = refl

pub text_set_tag : (place : Place) (name : Mention) (x : TagExpression)
    → simple_text (Syntax.set_tag place name x) ≡ codes "setTag(" ++ (name.name ++ (codes ", " ++ (tag_text x ++ codes ")")))
unfolding simple_text
text_set_tag place name x = refl

pub text_set_cell_tag : (place : Place) (name : Mention) (i : Expression) (x : TagExpression)
    → simple_text (Syntax.set_cell_tag place name i x) ≡ codes "setTag(" ++ (cell_text name.name i ++ (codes ", " ++ (tag_text x ++ codes ")")))
unfolding simple_text
text_set_cell_tag place name i x = refl

pub text_goto : (place : Place) (name : Mention) → simple_text (Syntax.go_to place name) ≡ codes "goto " ++ name.name
unfolding simple_text
text_goto place name = refl

pub text_fall : (place : Place) → simple_text (Syntax.fall_to_child place) ≡ codes "fall"
unfolding simple_text
text_fall place = refl

pub text_do : (margin : List ℕ) (c : Syntax.SimpleCommand) → command_text margin (Syntax.lone c) ≡ margin ++ (simple_text c ++ codes ";\n")
unfolding command_text
text_do margin c = refl

pub text_try : (margin : List ℕ) (c : Syntax.SimpleCommand) (place : Place) (handler : Syntax.CommandBlock)
    → command_text margin (Syntax.try c place handler) ≡ margin ++ (simple_text c ++ (codes " otherwise" ++ (block_text margin handler ++ codes "\n")))
unfolding command_text
text_try margin c place handler = refl

pub text_if : (margin : List ℕ) (place : Place) (x : Expression) (one : Syntax.CommandBlock) (other : Syntax.ElseBlock)
    → command_text margin (Syntax.if_else place x one other)
    ≡ margin ++ (codes "if (" ++ (expression_text x ++ (codes ")" ++ (block_text margin one ++ (else_text margin other ++ codes "\n")))))
unfolding command_text
text_if margin place x one other = refl

two_apart : (a b p q : List ℕ) → b ≡ a ++ (p ++ q) → b ≡ (a ++ p) ++ q
two_apart a b p q h = h ∙ sym (append_assoc a p q)

three_apart : (a b p q r : List ℕ) → b ≡ a ++ (p ++ (q ++ r)) → b ≡ ((a ++ p) ++ q) ++ r
three_apart a b p q r h = two_apart a b p (q ++ r) h ∙ sym (append_assoc (a ++ p) q r)

pub if_grows : (margin : List ℕ) (whole : Syntax.Command) (place : Place) (x : Expression) (one : Syntax.CommandBlock) (other : Syntax.ElseBlock) (old a b c d : List ℕ)
    → whole ≡ Syntax.if_else place x one other → a ≡ old ++ margin → b ≡ a ++ (codes "if (" ++ (expression_text x ++ codes ")")) → c ≡ b ++ block_text margin one
    → d ≡ c ++ else_text margin other → d ++ codes "\n" ≡ old ++ command_text margin whole
if_grows margin whole place x one other old a b c d w h i j k =
    grow_seven old a (a ++ codes "if (") ((a ++ codes "if (") ++ expression_text x) b c d (d ++ codes "\n") margin (codes "if (")
    (expression_text x) (codes ")") (block_text margin one)
    (else_text margin other) (codes "\n") _ h refl refl (three_apart a b (codes "if (") (expression_text x) (codes ")") i) j k refl
    (ap (command_text margin) w ∙ text_if margin place x one other)

text_decided : (margin : List ℕ) (c : Syntax.SimpleCommand) (place : Place) (one other : Syntax.CommandBlock)
    → command_text margin (Syntax.try_then c place one other)
    ≡ margin ++ (simple_text c ++ (codes " then" ++ (block_text margin one ++ (codes " otherwise" ++ (block_text margin other ++ codes "\n")))))
unfolding command_text
text_decided margin c place one other = refl

pub decided_grows : (margin : List ℕ) (whole : Syntax.Command) (x : Syntax.SimpleCommand) (place : Place) (one other : Syntax.CommandBlock) (old a b c d e : List ℕ)
    → whole ≡ Syntax.try_then x place one other → a ≡ old ++ margin → b ≡ a ++ (simple_text x ++ codes " then") → c ≡ b ++ block_text margin one → d ≡ c ++ codes " otherwise"
    → e ≡ d ++ block_text margin other → e ++ codes "\n" ≡ old ++ command_text margin whole
decided_grows margin whole x place one other old a b c d e w h i j k l =
    grow_seven old a (a ++ simple_text x) b c d e (e ++ codes "\n") margin (simple_text x) (codes " then") (block_text margin one)
    (codes " otherwise") (block_text margin other) (codes "\n") _
    h refl (two_apart a b (simple_text x) (codes " then") i) j k l refl
    (ap (command_text margin) w ∙ text_decided margin x place one other)

pub text_last : (margin : List ℕ) (b : Syntax.CommandBlock) → arms_text margin (Syntax.last_arm b) ≡ margin ++ (codes "else" ++ (block_text margin b ++ codes "\n"))
unfolding command_text
text_last margin b = refl

-- the arms, and the block after `else`
arms_are : (margin : List ℕ) (arms : List Arm) (last : Syntax.CommandBlock)
    → arms_text margin (arms_of arms last) ≡ list_arms_text margin arms ++ arms_text margin (Syntax.last_arm last)
unfolding command_text list_arms_text
arms_are margin [] last = refl
arms_are margin (arm ∷ arms) last =
    let m = list_arms_text margin arms in
    let end = arms_text margin (Syntax.last_arm last) in
    let block = block_text margin (arm_block_of arm) in
    ap (λ t. margin ++ (parts_text (constants_of arm) ++ (codes ":" ++ (block ++ (codes "\n" ++ t))))) (arms_are margin arms last)
    ∙ ap (λ t. margin ++ (parts_text (constants_of arm) ++ (codes ":" ++ t))) (sym (append_assoc block (codes "\n" ++ m) end))
    ∙ ap (λ t. margin ++ t) (sym (append_assoc (parts_text (constants_of arm)) (codes ":" ++ (block ++ (codes "\n" ++ m))) end))
    ∙ sym (append_assoc margin (parts_text (constants_of arm) ++ (codes ":" ++ (block ++ (codes "\n" ++ m)))) end)

text_case : (margin : List ℕ) (place : Place) (x : Expression) (arms : List Arm) (last : Syntax.CommandBlock)
    → command_text margin (Syntax.case_of place x (arms_of arms last))
    ≡ margin
    ++ (codes "case (" ++ (expression_text x ++ (codes ") {\n"
    ++ (list_arms_text (margin ++ codes "  ") arms ++ (arms_text (margin ++ codes "  ") (Syntax.last_arm last) ++ (margin ++ codes "}\n"))))))
unfolding command_text
text_case margin place x arms last =
    let m = margin ++ codes "  " in
    let foot = margin ++ codes "}\n" in
    ap (λ t. margin ++ (codes "case (" ++ (expression_text x ++ (codes ") {\n" ++ (t ++ foot))))) (arms_are m arms last)
    ∙ ap (λ t. margin ++ (codes "case (" ++ (expression_text x ++ (codes ") {\n" ++ t)))) (append_assoc (list_arms_text m arms) (arms_text m (Syntax.last_arm last)) foot)

pub case_grows : (margin one two : List ℕ) (whole : Syntax.Command) (place : Place) (x : Expression) (arms listed : List Arm) (last : Syntax.CommandBlock) (old a d e f g : List ℕ)
    → whole ≡ Syntax.case_of place x (arms_of arms last) → one ≡ margin ++ codes "  " → two ≡ margin ++ codes "  " → listed ≡ arms → a ≡ old ++ margin
    → d ≡ a ++ (codes "case (" ++ (expression_text x ++ codes ") {\n")) → e ≡ d ++ list_arms_text one listed → f ≡ e ++ arms_text two (Syntax.last_arm last) → g ≡ f ++ margin
    → g ++ codes "}\n" ≡ old ++ command_text margin whole
case_grows margin one two whole place x arms listed last old a d e f g w o t s h i l m n =
    grow_eight old a (a ++ codes "case (") ((a ++ codes "case (") ++ expression_text x) d e f g (g ++ codes "}\n") margin (codes "case (")
    (expression_text x) (codes ") {\n") (list_arms_text (margin ++ codes "  ") arms)
    (arms_text (margin ++ codes "  ") (Syntax.last_arm last)) margin (codes "}\n") _ h refl refl (three_apart a d (codes "case (") (expression_text x) (codes ") {\n") i)
    (l ∙ ap (λ z. d ++ list_arms_text z listed) o ∙ ap (λ z. d ++ list_arms_text (margin ++ codes "  ") z) s)
    (m ∙ ap (λ z. e ++ arms_text z (Syntax.last_arm last)) t) n refl (ap (command_text margin) w ∙ text_case margin place x arms last)

pub text_block : (margin : List ℕ) (b : Block)
    → block_text margin (block_of b) ≡ codes " {\n" ++ (list_text (margin ++ codes "  ") b.commands.items ++ (margin ++ codes "}"))
unfolding command_text list_text
text_block margin b = refl

pub text_no_else : (margin : List ℕ) → else_text margin (else_of None) ≡ []
unfolding command_text
text_no_else margin = refl

pub text_else : (margin : List ℕ) (b : Block) → else_text margin (else_of (Some b)) ≡ codes " else" ++ block_text margin (block_of b)
unfolding command_text
text_else margin b = refl

-- lists of commands, from a place on

list_text-drop : (margin : List ℕ) (cs : List Cmd) (n : ℕ) (d : Cmd) → n < length cs → d ≡ get_or cs n d
    → list_text margin (drop n cs) ≡ command_text margin (command_of d) ++ list_text margin (drop (n + 1) cs)
unfolding list_text command_text
list_text-drop margin cs n d l e =
    at_drop_more (list_text margin) cs n d l ∙ ap (λ (x : Cmd). command_text margin (command_of x) ++ list_text margin (drop (n + 1) cs)) (sym e)

pub list_text-past : (margin : List ℕ) (cs : List Cmd) (n : ℕ) → length cs ≤ n → list_text margin (drop n cs) ≡ []
unfolding list_text command_text
list_text-past margin cs n l = at_drop_all (list_text margin) cs n l

pub commands_step : (margin : List ℕ) (cs : List Cmd) (n : ℕ) (d : Cmd) (old new : List ℕ) → n < length cs → d ≡ get_or cs n d
    → new ≡ old ++ command_text margin (command_of d) → new ++ list_text margin (drop (n + 1) cs) ≡ old ++ list_text margin (drop n cs)
commands_step margin cs n d old new l e k = after_part old new _ _ _ k (list_text-drop margin cs n d l e)

-- arms, from a place on

list_arms_text-drop : (margin : List ℕ) (arms : List Arm) (n : ℕ) (d : Arm) → n < length arms → d ≡ get_or arms n d
    → list_arms_text margin (drop n arms)
    ≡ margin ++ (parts_text (constants_of d) ++ (codes ":" ++ (block_text margin (arm_block_of d) ++ (codes "\n" ++ list_arms_text margin (drop (n + 1) arms)))))
unfolding list_arms_text
list_arms_text-drop margin arms n d l e =
    let rest = list_arms_text margin (drop (n + 1) arms) in
    at_drop_more (list_arms_text margin) arms n d l
    ∙ ap (λ (x : Arm). margin ++ (parts_text (constants_of x) ++ (codes ":" ++ (block_text margin (arm_block_of x) ++ (codes "\n" ++ rest))))) (sym e)

list_arms_text-past : (margin : List ℕ) (arms : List Arm) (n : ℕ) → length arms ≤ n → list_arms_text margin (drop n arms) ≡ []
unfolding list_arms_text
list_arms_text-past margin arms n l = at_drop_all (list_arms_text margin) arms n l

pub arms_step : (margin : List ℕ) (arms : List Arm) (n : ℕ) (d : Arm) (constants : List Expr) (old a b c e new : List ℕ) → n < length arms
    → d ≡ get_or arms n d → constants ≡ d.constants.items
    → a ≡ old ++ margin → b ≡ a ++ parts_text (expressions_of constants) → c ≡ b ++ codes ":" → e ≡ c ++ block_text margin (arm_block_of d) → new ≡ e ++ codes "\n"
    → new ++ list_arms_text margin (drop (n + 1) arms) ≡ old ++ list_arms_text margin (drop n arms)
arms_step margin arms n d constants old a b c e new l is own h i j k m =
    let rest = list_arms_text margin (drop (n + 1) arms) in
    grow_five old a b c e (new ++ rest) margin (parts_text (constants_of d)) (codes ":") (block_text margin (arm_block_of d)) (codes "\n" ++ rest) _ h
    (i ∙ ap (λ z. a ++ parts_text (expressions_of z)) own) j k (ap (λ z. z ++ rest) m ∙ append_assoc e (codes "\n") rest) (list_arms_text-drop margin arms n d l is)

pub arms_end : (margin : List ℕ) (arms : List Arm) (n : ℕ) (new all : List ℕ) → length arms ≤ n → new ++ list_arms_text margin (drop n arms) ≡ all → new ≡ all
arms_end margin arms n new all l h = sym (append-nil new) ∙ ap (λ r. new ++ r) (sym (list_arms_text-past margin arms n l)) ∙ h

-- at the end nothing is left
pub list_end : (margin : List ℕ) (cs : List Cmd) (n : ℕ) (new all : List ℕ) → length cs ≤ n → new ++ list_text margin (drop n cs) ≡ all → new ≡ all
list_end margin cs n new all l h = sym (append-nil new) ∙ ap (λ r. new ++ r) (sym (list_text-past margin cs n l)) ∙ h

-- states

group_text-drop : (margin : List ℕ) (ss : List State) (n : ℕ) (d : State) → n < length ss → d ≡ get_or ss n d
    → group_text margin (drop n ss) ≡ state_text margin (state_of d) ++ group_text margin (drop (n + 1) ss)
unfolding group_text state_text
group_text-drop margin ss n d l e =
    at_drop_more (group_text margin) ss n d l ∙ ap (λ (x : State). state_text margin (state_of x) ++ group_text margin (drop (n + 1) ss)) (sym e)

pub group_text-past : (margin : List ℕ) (ss : List State) (n : ℕ) → length ss ≤ n → group_text margin (drop n ss) ≡ []
unfolding group_text state_text
group_text-past margin ss n l = at_drop_all (group_text margin) ss n l

pub states_step : (margin : List ℕ) (ss : List State) (n : ℕ) (d : State) (old new : List ℕ) → n < length ss → d ≡ get_or ss n d
    → new ≡ old ++ state_text margin (state_of d) → new ++ group_text margin (drop (n + 1) ss) ≡ old ++ group_text margin (drop n ss)
states_step margin ss n d old new l e k = after_part old new _ _ _ k (group_text-drop margin ss n d l e)

pub group_end : (margin : List ℕ) (ss : List State) (n : ℕ) (new all : List ℕ) → length ss ≤ n → new ++ group_text margin (drop n ss) ≡ all → new ≡ all
group_end margin ss n new all l h = sym (append-nil new) ∙ ap (λ r. new ++ r) (sym (group_text-past margin ss n l)) ∙ h

pub text_state : (margin : List ℕ) (s : State)
    → state_text margin (state_of s)
    ≡ margin
    ++ (head_text (out-State s).name.name (out-State s).kind
    ++ (list_text (margin ++ codes "  ") (out-State s).body.commands.items ++ (group_text (margin ++ codes "  ") (out-State s).children.items ++ (margin ++ codes "}\n"))))
unfolding list_text group_text state_text
text_state margin s = ap (λ (t : StateTree). state_text margin t) (state_of-out s)

pub whole_text : (version : Version) (ds listed : List Decl) (ss : List State) (seen : List State) (old v a b result margin : List ℕ)
    → old ≡ [] → listed ≡ ds → seen ≡ ss → margin ≡ []
    → v ≡ old ++ version_text version → a ≡ v ++ flat_map declaration_text listed → b ≡ a ++ group_text margin seen → result ≡ b → result ≡ canonical_text (tree_of version ds ss)
unfolding canonical_text group_text
whole_text version ds listed ss seen old v a b result margin e i j m n f g h =
    h
    ∙ grow_three old v a b (version_text version) (flat_map declaration_text listed) (group_text margin seen) _ n f g refl
    ∙ ap (λ z. z ++ (version_text version ++ (flat_map declaration_text listed ++ group_text margin seen))) e
    ∙ ap (λ z. version_text version ++ (flat_map declaration_text z ++ group_text margin seen)) i
    ∙ ap (λ z. version_text version ++ (flat_map declaration_text ds ++ group_text z seen)) m
    ∙ ap (λ z. version_text version ++ (flat_map declaration_text ds ++ group_text [] z)) j

pub ruleset operands = (operand_closed, operand_bare, append_assoc)

pub ruleset expressions = (text_number, text_sized, text_read, text_cell, text_unary, text_binary, text_choose, text_slice, text_concat, text_zext, append_assoc)

pub ruleset parts = (parts_none, more_parts_none)

pub ruleset tags = (text_level, text_tag_of, text_level_at, text_join, append_assoc)

pub ruleset tag_lists = (tags_none, more_tags_none)

pub ruleset simples = (text_assign, text_write, text_set_tag, text_set_cell_tag, text_goto, text_fall, append_assoc)

pub ruleset commands = (text_do, text_try, text_if, append_assoc)

pub ruleset blocks = (text_block, text_last, text_no_else, text_else, append_assoc)

pub ruleset lists = (list_text-past, group_text-past)

pub ruleset bodies = (text_state, append_assoc)
