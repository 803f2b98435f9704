-- Tokens have at most one tree: tag expressions, commands, declarations, states and designs.
use Rattle.std.proofs.Common.{◌≡◌, ◌≢◌, ◌+◌, ℕ, List, [], ◌∷◌, Option, Some, None, true, false, refl, sym, ap, ap₂, ◌∙◌}
use Rattle.sap_tree.proofs.SyntaxLemmas.{and_part}
use Rattle.sap_parse.specs.Grammar as g
use Rattle.sap_parse.specs.Stages.{Stage, IsToken, here, mention, numeral}
use Rattle.sap_parse.specs.Table as s
use Rattle.sap_parse.specs.declared.role.Role.TheVariants as r
use Rattle.sap_lex.specs.declared.token.Kind.TheVariants as k
use Rattle.sap_lex.specs.declared.token.Kind.{Kind}
use Rattle.sap_lex.specs.declared.token.Sign.TheVariants as j
use Rattle.sap_tree.specs.declared.word.Word.TheVariants as w
use Rattle.sap_tree.specs.Syntax as t
use Rattle.sap_tree.specs.declared.syntax.Decl.{Decl}
use Rattle.sap_tree.specs.declared.syntax.Kind.{Kind as KindTree}
use Rattle.sap_tree.specs.declared.syntax.Numeral.{Numeral}
use Rattle.sap_tree.specs.declared.syntax.Under.{Under}
use Rattle.sap_tree.specs.declared.version.Version.{Version}
use Rattle.sap_tree.specs.declared.syntax.Decl.TheVariants as d
use Rattle.sap_tree.specs.declared.syntax.Kind.TheVariants as kd
use Rattle.sap_parse.proofs.Complete.{ends_expr, expr_reads}
use Rattle.sap_parse.proofs.CompleteDesign.{arm_reads, block_reads, cmd_reads, constant_reads, constants_read, declarations_not_sapper, header_reads, cmds_not_else, cmds_read, declaration_reads, declarations_read, ends_cmds, initial_not_under, kind_reads, simple_reads, state_first, state_reads, states_end_cmds, texpr_reads}
use Rattle.sap_parse.proofs.Known.{first_is, first_kind, kind_in}
use Rattle.sap_parse.proofs.Unique.{ap₃, ap₄, ap₅, expr_one, here_same, name_same, number_same, same_behind, same_rest, same_token, sized_same, spot_here_same, width_same}

mention_same : {p p' : Stage} {n n' : List ℕ} → p ≡ p' → n ≡ n' → mention p n ≡ mention p' n'
mention_same e f = let h = here_same e in cc

numeral_same : {p p' : Stage} {n n' : ℕ} → p ≡ p' → n ≡ n' → numeral p n ≡ numeral p' n'
numeral_same e f = let h = here_same e in cc

-- tag expressions

abbrev tag_kind : {p q : Stage} {x : t.TagExpression} → g.Texpr p x q → Kind
tag_kind (g.level {name = name} n) = k.Name name
tag_kind (g.tag_of word o x z) = k.Word w.Tag
tag_kind (g.level_at word o x z) = k.Word w.Level
tag_kind (g.join word o x c y more z) = k.Word w.Join

tag_first : {p q : Stage} {x : t.TagExpression} (h : g.Texpr p x q) → first_kind p ≡ Some (tag_kind h)
tag_first (g.level n) = first_is n
tag_first (g.tag_of word o x z) = first_is word
tag_first (g.level_at word o x z) = first_is word
tag_first (g.join word o x c y more z) = first_is word

some_same : {i j : Kind} → ◌≡◌ {A = Option Kind} (Some i) (Some j) → i ≡ j
some_same e = cc

same_first : {p p' q q' : Stage} {x y : t.TagExpression} → p ≡ p' → (a : g.Texpr p x q) (b : g.Texpr p' y q') → tag_kind a ≡ tag_kind b
same_first e a b = some_same (sym (tag_first a) ∙ ap first_kind e ∙ tag_first b)

mutual
  pub texpr_one : {p p' q q' : Stage} {x y : t.TagExpression} → p ≡ p' → g.Texpr p x q → g.Texpr p' y q' → x ≡ y
  texpr_one e (g.level n) (g.level n') = ap t.level_of (mention_same e (name_same (same_token e n n')))
  texpr_one e (g.tag_of word o x z) (g.tag_of word' o' x' z') =
      ap₂ t.tag_at (here_same e) (expr_one (same_behind (same_behind e word word') o o') x x' (ap ends_expr (first_is z)) (ap ends_expr (first_is z')))
  texpr_one e (g.level_at word o x z) (g.level_at word' o' x' z') =
      ap₂ t.level_at (here_same e) (expr_one (same_behind (same_behind e word word') o o') x x' (ap ends_expr (first_is z)) (ap ends_expr (first_is z')))
  texpr_one e (g.join word o x c y more z) (g.join word' o' x' c' y' more' z') =
      let m3 = same_behind (same_behind e word word') o o' in
      let m5 = same_behind (same_rest s.texpr m3 (texpr_reads x) (texpr_reads x')) c c' in
      let m6 = same_rest s.texpr m5 (texpr_reads y) (texpr_reads y') in
      ap₂ t.join_of (here_same e)
      (ap₂ t.and_tag (texpr_one m3 x x') (ap₂ t.and_tag (texpr_one m5 y y')
      (texprs_one m6 more more' (λ e. let f = first_is z in absurd (cc)) (λ e. let f = first_is z' in absurd (cc)))))
  texpr_one e a b = let t = same_first e a b in absurd (cc)

  pub texprs_one : {p p' q q' : Stage} {xs ys : t.TagExpressions} → p ≡ p' → g.Texprs p xs q → g.Texprs p' ys q'
      → first_kind q ≢ Some (k.Sign j.Comma) → first_kind q' ≢ Some (k.Sign j.Comma) → xs ≡ ys
  texprs_one e g.no_tag g.no_tag n n' = refl
  texprs_one e g.no_tag (g.tag c x more) n n' = absurd (n (ap first_kind e ∙ first_is c))
  texprs_one e (g.tag c x more) g.no_tag n n' = absurd (n' (sym (ap first_kind e) ∙ first_is c))
  texprs_one e (g.tag c x more) (g.tag c' x' more') n n' =
      let m2 = same_behind e c c' in
      ap₂ t.and_tag (texpr_one m2 x x') (texprs_one (same_rest s.texpr m2 (texpr_reads x) (texpr_reads x')) more more' n n')

-- simple commands

abbrev simple_kind : {depth : ℕ} {p q : Stage} {c : t.SimpleCommand} → g.Simple depth p c q → Kind
simple_kind (g.assign {name = name} n b x) = k.Name name
simple_kind (g.write {name = name} n o i z b x) = k.Name name
simple_kind (g.set_tag word o n c x z) = k.Word w.SetTag
simple_kind (g.set_cell_tag word o n b i e c x z) = k.Word w.SetTag
simple_kind (g.goto word n) = k.Word w.Goto
simple_kind (g.fall word) = k.Word w.Fall

simple_first : {depth : ℕ} {p q : Stage} {c : t.SimpleCommand} (h : g.Simple depth p c q) → first_kind p ≡ Some (simple_kind h)
simple_first (g.assign n b x) = first_is n
simple_first (g.write n o i z b x) = first_is n
simple_first (g.set_tag word o n c x z) = first_is word
simple_first (g.set_cell_tag word o n b i e c x z) = first_is word
simple_first (g.goto word n) = first_is word
simple_first (g.fall word) = first_is word

simple_same : {depth : ℕ} {p p' q q' : Stage} {c c' : t.SimpleCommand} → p ≡ p' → (a : g.Simple depth p c q) (b : g.Simple depth p' c' q') → simple_kind a ≡ simple_kind b
simple_same e a b = some_same (sym (simple_first a) ∙ ap first_kind e ∙ simple_first b)

pub simple_one : {depth : ℕ} {p p' q q' : Stage} {c c' : t.SimpleCommand} → p ≡ p' → g.Simple depth p c q → g.Simple depth p' c' q'
    → ends_expr (first_kind q) ≡ true → ends_expr (first_kind q') ≡ true → c ≡ c'
simple_one e (g.assign n b x) (g.assign n' b' x') h h' =
    ap₂ t.assign (mention_same e (name_same (same_token e n n'))) (expr_one (same_behind (same_behind e n n') b b') x x' h h')
simple_one e (g.assign n b x) (g.write n' o' i' z' b' x') h h' = let t = same_token (same_behind e n n') b o' in absurd (cc)
simple_one e (g.write n o i z b x) (g.assign n' b' x') h h' = let t = same_token (same_behind e n n') o b' in absurd (cc)
simple_one e (g.write n o i z b x) (g.write n' o' i' z' b' x') h h' =
    let ez = ap ends_expr (first_is z) in let ez' = ap ends_expr (first_is z') in
    let m3 = same_behind (same_behind e n n') o o' in
    let m4 = same_rest s.expr m3 (expr_reads i ez) (expr_reads i' ez') in
    ap₃ t.write (mention_same e (name_same (same_token e n n'))) (expr_one m3 i i' ez ez') (expr_one (same_behind (same_behind m4 z z') b b') x x' h h')
simple_one e (g.set_tag word o n c x z) (g.set_tag word' o' n' c' x' z') h h' =
    let m3 = same_behind (same_behind e word word') o o' in
    ap₃ t.set_tag (here_same e) (mention_same m3 (name_same (same_token m3 n n'))) (texpr_one (same_behind (same_behind m3 n n') c c') x x')
simple_one e (g.set_tag word o n c x z) (g.set_cell_tag word' o' n' b' i' e' c' x' z') h h' =
    let m3 = same_behind (same_behind e word word') o o' in
    let t = same_token (same_behind m3 n n') c b' in absurd (cc)
simple_one e (g.set_cell_tag word o n b i z c x y) (g.set_tag word' o' n' c' x' z') h h' =
    let m3 = same_behind (same_behind e word word') o o' in
    let t = same_token (same_behind m3 n n') b c' in absurd (cc)
simple_one e (g.set_cell_tag word o n b i z c x y) (g.set_cell_tag word' o' n' b' i' z' c' x' y') h h' =
    let ez = ap ends_expr (first_is z) in let ez' = ap ends_expr (first_is z') in
    let m3 = same_behind (same_behind e word word') o o' in
    let m5 = same_behind (same_behind m3 n n') b b' in
    let m6 = same_rest s.expr m5 (expr_reads i ez) (expr_reads i' ez') in
    ap₄ t.set_cell_tag (here_same e) (mention_same m3 (name_same (same_token m3 n n'))) (expr_one m5 i i' ez ez') (texpr_one (same_behind (same_behind m6 z z') c c') x x')
simple_one e (g.goto word n) (g.goto word' n') h h' = let m2 = same_behind e word word' in ap₂ t.go_to (here_same e) (mention_same m2 (name_same (same_token m2 n n')))
simple_one e (g.fall word) (g.fall word') h h' = ap t.fall_to_child (here_same e)
simple_one e a b h h' = let t = simple_same e a b in absurd (cc)

-- commands

not_if : {depth : ℕ} {p p' q : Stage} {c : t.SimpleCommand} → p ≡ p' → g.Simple depth p c q → first_kind p' ≡ Some (k.Word w.If) → ⊥
not_if e h f = by_kind h (some_same (sym (simple_first h) ∙ ap first_kind e ∙ f)) where
  by_kind : {depth : ℕ} {p q : Stage} {c : t.SimpleCommand} (h : g.Simple depth p c q) → simple_kind h ≡ k.Word w.If → ⊥
  by_kind (g.assign n b x) e = cc
  by_kind _ e = cc

not_case : {depth : ℕ} {p p' q : Stage} {c : t.SimpleCommand} → p ≡ p' → g.Simple depth p c q → first_kind p' ≡ Some (k.Word w.Case) → ⊥
not_case e h f = by_kind h (some_same (sym (simple_first h) ∙ ap first_kind e ∙ f)) where
  by_kind : {depth : ℕ} {p q : Stage} {c : t.SimpleCommand} (h : g.Simple depth p c q) → simple_kind h ≡ k.Word w.Case → ⊥
  by_kind (g.assign n b x) e = cc
  by_kind _ e = cc

-- constants of a `case`

constant_one : {p p' q q' : Stage} {x x' : t.Expression} → p ≡ p' → g.Constant p x q → g.Constant p' x' q' → x ≡ x'
constant_one e (g.plain n) (g.plain n') = ap₂ t.literal (spot_here_same e) (number_same (same_token e n n'))
constant_one e (g.plain n) (g.wide n') = let t = same_token e n n' in absurd (cc)
constant_one e (g.wide n) (g.plain n') = let t = same_token e n n' in absurd (cc)
constant_one e (g.wide n) (g.wide n') = let same = same_token e n n' in ap₃ t.sized_literal (spot_here_same e) (width_same same) (sized_same same)

constants_one : {p p' q q' : Stage} {xs ys : t.Expressions} → p ≡ p' → g.Constants p xs q → g.Constants p' ys q'
    → first_kind q ≢ Some (k.Sign j.Comma) → first_kind q' ≢ Some (k.Sign j.Comma) → xs ≡ ys
constants_one e g.no_constant g.no_constant n n' = refl
constants_one e g.no_constant (g.constant c x more) n n' = absurd (n (ap first_kind e ∙ first_is c))
constants_one e (g.constant c x more) g.no_constant n n' = absurd (n' (sym (ap first_kind e) ∙ first_is c))
constants_one e (g.constant c x more) (g.constant c' x' more') n n' =
    let m2 = same_behind e c c' in
    and_part (constant_one m2 x x') (constants_one (same_rest s.constant m2 (constant_reads x) (constant_reads x')) more more' n n')

simple_begins : {depth : ℕ} {p q : Stage} {c : t.SimpleCommand} → g.Simple depth p c q → ends_cmds (first_kind p) ≡ false
simple_begins (g.assign n b x) = ap ends_cmds (first_is n)
simple_begins (g.write n o i z b x) = ap ends_cmds (first_is n)
simple_begins (g.set_tag word o n c x z) = ap ends_cmds (first_is word)
simple_begins (g.set_cell_tag word o n b i z c x y) = ap ends_cmds (first_is word)
simple_begins (g.goto word n) = ap ends_cmds (first_is word)
simple_begins (g.fall word) = ap ends_cmds (first_is word)

cmd_begins : {depth : ℕ} {p q : Stage} {c : t.Command} → g.Cmd depth p c q → ends_cmds (first_kind p) ≡ false
cmd_begins (g.unhandled c z) = simple_begins c
cmd_begins (g.handled c word h) = simple_begins c
cmd_begins (g.branch word o x z one other) = ap ends_cmds (first_is word)
cmd_begins (g.decided c word one other two) = simple_begins c
cmd_begins (g.case word o x z b first arms end) = ap ends_cmds (first_is word)

no_begin : {depth : ℕ} {p p' q : Stage} {c : t.Command} → p ≡ p' → ends_cmds (first_kind p) ≡ true → g.Cmd depth p' c q → ⊥
no_begin e h c = let t : true ≡ false = sym h ∙ ap (λ z. ends_cmds (first_kind z)) e ∙ cmd_begins c in cc

-- a simple command ends at one stage
simple_end : {depth : ℕ} {p p' q q' o o' : Stage} {c c' : t.SimpleCommand} {i j : Kind} → p ≡ p' → g.Simple depth p c q → g.Simple depth p' c' q'
    → IsToken q r.Plain i o → IsToken q' r.Plain j o' → ends_expr (Some i) ≡ true → ends_expr (Some j) ≡ true → q ≡ q'
simple_end {depth} e c c' z z' h h' = same_rest (s.simple depth) e (simple_reads c (ap ends_expr (first_is z) ∙ h)) (simple_reads c' (ap ends_expr (first_is z') ∙ h'))

mutual
  pub cmd_one : {depth : ℕ} {p p' q q' : Stage} {c c' : t.Command} → p ≡ p' → g.Cmd depth p c q → g.Cmd depth p' c' q'
      → first_kind q ≢ Some (k.Word w.Else) → first_kind q' ≢ Some (k.Word w.Else) → c ≡ c'
  cmd_one e (g.unhandled c z) (g.unhandled c' z') n n' = ap t.lone (simple_one e c c' (ap ends_expr (first_is z)) (ap ends_expr (first_is z')))
  cmd_one e (g.unhandled c z) (g.handled c' word' h') n n' = let t = same_token (simple_end e c c' z word' refl refl) z word' in absurd (cc)
  cmd_one e (g.handled c word h) (g.unhandled c' z') n n' = let t = same_token (simple_end e c c' word z' refl refl) word z' in absurd (cc)
  cmd_one e (g.handled c word h) (g.handled c' word' h') n n' =
      let m = simple_end e c c' word word' refl refl in
      ap₃ t.try (simple_one e c c' (ap ends_expr (first_is word)) (ap ends_expr (first_is word'))) (here_same m) (block_one (same_behind m word word') h h')
  cmd_one e (g.unhandled c z) (g.branch word' o' x' z' one' other') n n' = absurd (not_if e c (first_is word'))
  cmd_one e (g.handled c word h) (g.branch word' o' x' z' one' other') n n' = absurd (not_if e c (first_is word'))
  cmd_one e (g.branch word o x z one other) (g.unhandled c' z') n n' = absurd (not_if (sym e) c' (first_is word))
  cmd_one e (g.branch word o x z one other) (g.handled c' word' h') n n' = absurd (not_if (sym e) c' (first_is word))
  cmd_one {depth} e (g.branch word o x z one other) (g.branch word' o' x' z' one' other') n n' =
      let ez = ap ends_expr (first_is z) in let ez' = ap ends_expr (first_is z') in
      let m3 = same_behind (same_behind e word word') o o' in
      let m5 = same_behind (same_rest s.expr m3 (expr_reads x ez) (expr_reads x' ez')) z z' in
      let m6 = same_rest (s.block (depth + 1)) m5 (block_reads one) (block_reads one') in
      ap₄ t.if_else (here_same e) (expr_one m3 x x' ez ez') (block_one m5 one one') (else_one m6 other other' n n')
  cmd_one e (g.unhandled c z) (g.decided c' word' a' o' b') n n' = let t = same_token (simple_end e c c' z word' refl refl) z word' in absurd (cc)
  cmd_one e (g.handled c word h) (g.decided c' word' a' o' b') n n' = let t = same_token (simple_end e c c' word word' refl refl) word word' in absurd (cc)
  cmd_one e (g.decided c word a o b) (g.unhandled c' z') n n' = let t = same_token (simple_end e c c' word z' refl refl) word z' in absurd (cc)
  cmd_one e (g.decided c word a o b) (g.handled c' word' h') n n' = let t = same_token (simple_end e c c' word word' refl refl) word word' in absurd (cc)
  cmd_one {depth} e (g.decided c word a o b) (g.decided c' word' a' o' b') n n' =
      let m = simple_end e c c' word word' refl refl in
      let m1 = same_behind m word word' in
      let m2 = same_rest (s.block (depth + 1)) m1 (block_reads a) (block_reads a') in
      ap₄ t.try_then (simple_one e c c' (ap ends_expr (first_is word)) (ap ends_expr (first_is word'))) (here_same m) (block_one m1 a a') (block_one (same_behind m2 o o') b b')
  cmd_one e (g.decided c word a o b) (g.branch word' o' x' z' one' other') n n' = absurd (not_if e c (first_is word'))
  cmd_one e (g.branch word o x z one other) (g.decided c' word' a' o' b') n n' = absurd (not_if (sym e) c' (first_is word))
  cmd_one e (g.unhandled c z) (g.case word' o' x' z' b' first' arms' end') n n' = absurd (not_case e c (first_is word'))
  cmd_one e (g.handled c word h) (g.case word' o' x' z' b' first' arms' end') n n' = absurd (not_case e c (first_is word'))
  cmd_one e (g.decided c word a o b) (g.case word' o' x' z' b' first' arms' end') n n' = absurd (not_case e c (first_is word'))
  cmd_one e (g.case word o x z b first arms end) (g.unhandled c' z') n n' = absurd (not_case (sym e) c' (first_is word))
  cmd_one e (g.case word o x z b first arms end) (g.handled c' word' h') n n' = absurd (not_case (sym e) c' (first_is word))
  cmd_one e (g.case word o x z b first arms end) (g.decided c' word' a' o' b') n n' = absurd (not_case (sym e) c' (first_is word))
  cmd_one e (g.branch word o x z one other) (g.case word' o' x' z' b' first' arms' end') n n' = let t = same_token e word word' in absurd (cc)
  cmd_one e (g.case word o x z b first arms end) (g.branch word' o' x' z' one' other') n n' = let t = same_token e word word' in absurd (cc)
  cmd_one {depth} e (g.case word o x z b first arms end) (g.case word' o' x' z' b' first' arms' end') n n' =
      let ez = ap ends_expr (first_is z) in let ez' = ap ends_expr (first_is z') in
      let m3 = same_behind (same_behind e word word') o o' in
      let m5 = same_behind (same_rest s.expr m3 (expr_reads x ez) (expr_reads x' ez')) z z' in
      let m6 = same_behind m5 b b' in
      let m7 = same_rest (s.arm (depth + 1)) m6 (arm_reads first) (arm_reads first') in
      let one = arm_one m6 first first' in
      ap₃ t.case_of (here_same e) (expr_one m3 x x' ez ez') (ap₃ t.and_arm one.0 one.1 (arms_one m7 arms arms'))

  arm_one : {depth : ℕ} {p p' q q' : Stage} {cs cs' : t.Expressions} {h h' : t.CommandBlock} → p ≡ p' → g.Arm depth p cs h q → g.Arm depth p' cs' h' q' → (cs ≡ cs') × (h ≡ h')
  arm_one e (g.arm x xs z h) (g.arm x' xs' z' h') =
      let m2 = same_rest s.constant e (constant_reads x) (constant_reads x') in
      let m3 = same_rest s.constants m2 (constants_read xs (λ e. let f = first_is z in absurd (cc))) (constants_read xs' (λ e. let f = first_is z' in absurd (cc))) in (
        and_part (constant_one e x x') (constants_one m2 xs xs' (λ e. let f = first_is z in absurd (cc)) (λ e. let f = first_is z' in absurd (cc))),
        block_one (same_behind m3 z z') h h',
      )

  arms_one : {depth : ℕ} {p p' q q' : Stage} {x x' : t.Arms} → p ≡ p' → g.Arms depth p x q → g.Arms depth p' x' q' → x ≡ x'
  arms_one e (g.last word h) (g.last word' h') = ap t.last_arm (block_one (same_behind e word word') h h')
  arms_one e (g.last word h) (g.and_arm (g.arm (g.plain m) xs' z' h') more') = let t = same_token e word m in absurd (cc)
  arms_one e (g.last word h) (g.and_arm (g.arm (g.wide m) xs' z' h') more') = let t = same_token e word m in absurd (cc)
  arms_one e (g.and_arm (g.arm (g.plain m) xs z h) more) (g.last word' h') = let t = same_token e m word' in absurd (cc)
  arms_one e (g.and_arm (g.arm (g.wide m) xs z h) more) (g.last word' h') = let t = same_token e m word' in absurd (cc)
  arms_one {depth} e (g.and_arm a more) (g.and_arm a' more') =
      let m2 = same_rest (s.arm depth) e (arm_reads a) (arm_reads a') in
      let one = arm_one e a a' in
      ap₃ t.and_arm one.0 one.1 (arms_one m2 more more')

  pub else_one : {depth : ℕ} {p p' q q' : Stage} {x x' : t.ElseBlock} → p ≡ p' → g.Else depth p x q → g.Else depth p' x' q'
      → first_kind q ≢ Some (k.Word w.Else) → first_kind q' ≢ Some (k.Word w.Else) → x ≡ x'
  else_one e g.no_else g.no_else n n' = refl
  else_one e g.no_else (g.else word b) n n' = absurd (n (ap first_kind e ∙ first_is word))
  else_one e (g.else word b) g.no_else n n' = absurd (n' (sym (ap first_kind e) ∙ first_is word))
  else_one e (g.else word b) (g.else word' b') n n' = ap t.with_else (block_one (same_behind e word word') b b')

  pub block_one : {depth : ℕ} {p p' q q' : Stage} {x x' : t.CommandBlock} → p ≡ p' → g.Block depth p x q → g.Block depth p' x' q' → x ≡ x'
  block_one {depth} e (g.block o cs z) (g.block o' cs' z') =
      let m2 = same_behind e o o' in
      let ez = ap ends_cmds (first_is z) in let ez' = ap ends_cmds (first_is z') in
      ap₂ t.command_block (cmds_one m2 cs cs' ez ez') (here_same (same_rest (s.cmds depth) m2 (cmds_read cs ez) (cmds_read cs' ez')))

  pub cmds_one : {depth : ℕ} {p p' q q' : Stage} {cs cs' : t.CommandList} → p ≡ p' → g.Cmds depth p cs q → g.Cmds depth p' cs' q'
      → ends_cmds (first_kind q) ≡ true → ends_cmds (first_kind q') ≡ true → cs ≡ cs'
  cmds_one e g.no_cmd g.no_cmd h h' = refl
  cmds_one e g.no_cmd (g.cmd c more) h h' = absurd (no_begin e h c)
  cmds_one e (g.cmd c more) g.no_cmd h h' = absurd (no_begin (sym e) h' c)
  cmds_one {depth} e (g.cmd c more) (g.cmd c' more') h h' =
      let n = cmds_not_else more h in let n' = cmds_not_else more' h' in
      ap₂ t.and_command (cmd_one e c c' n n') (cmds_one (same_rest (s.cmd depth) e (cmd_reads c n) (cmd_reads c' n')) more more' h h')

-- kinds and declarations

under_same : {a b a' b' : Stage} {n n' : List ℕ} → a ≡ a' → b ≡ b' → n ≡ n'
    → ◌≡◌ {A = Option Under} (Some (record { place = here a; level = mention b n })) (Some (record { place = here a'; level = mention b' n' }))
under_same e f h = let p = here_same e in let m = mention_same f h in cc

authority_one : {p p' q q' : Stage} {x x' : Option Under} → p ≡ p' → g.Authority p x q → g.Authority p' x' q'
    → first_kind q ≢ Some (k.Word w.Under) → first_kind q' ≢ Some (k.Word w.Under) → x ≡ x'
authority_one e g.no_authority g.no_authority n n' = refl
authority_one e g.no_authority (g.authority word m) n n' = absurd (n (ap first_kind e ∙ first_is word))
authority_one e (g.authority word m) g.no_authority n n' = absurd (n' (sym (ap first_kind e) ∙ first_is word))
authority_one e (g.authority word m) (g.authority word' m') n n' = let b = same_behind e word word' in under_same e b (name_same (same_token b m m'))

pub kind_one : {p p' q q' : Stage} {x x' : KindTree} → p ≡ p' → g.KindOf p x q → g.KindOf p' x' q' → first_kind q ≢ Some (k.Word w.Under)
    → first_kind q' ≢ Some (k.Word w.Under) → x ≡ x'
kind_one e (g.dynamic word) (g.dynamic word') n n' = ap kd.Dynamic (here_same e)
kind_one e (g.dynamic word) (g.enforced word' m' u') n n' = let t = same_token e word word' in absurd (cc)
kind_one e (g.enforced word m u) (g.dynamic word') n n' = let t = same_token e word word' in absurd (cc)
kind_one e (g.enforced word m u) (g.enforced word' m' u') n n' =
    let b = same_behind e word word' in
    ap₂ kd.Enforced (mention_same b (name_same (same_token b m m'))) (authority_one (same_behind b m m') u u' n n')

initial_one : {p p' q q' : Stage} {x x' : Option Numeral} → p ≡ p' → g.Initial p x q → g.Initial p' x' q'
    → first_kind q ≢ Some (k.Sign j.Is) → first_kind q' ≢ Some (k.Sign j.Is) → x ≡ x'
initial_one e g.no_initial g.no_initial n n' = refl
initial_one e g.no_initial (g.initial sign m) n n' = absurd (n (ap first_kind e ∙ first_is sign))
initial_one e (g.initial sign m) g.no_initial n n' = absurd (n' (sym (ap first_kind e) ∙ first_is sign))
initial_one e (g.initial sign m) (g.initial sign' m') n n' = let b = same_behind e sign sign' in ap (λ x. Some x) (numeral_same b (number_same (same_token b m m')))

pub declaration_one : {p p' q q' : Stage} {x x' : Decl} → p ≡ p' → g.Declaration p x q → g.Declaration p' x' q' → x ≡ x'
declaration_one e (g.input word n c v z) (g.input word' n' c' v' z') =
    let m2 = same_behind e word word' in
    let m4 = same_behind (same_behind m2 n n') c c' in
    ap₃ d.Input (here_same e) (mention_same m2 (name_same (same_token m2 n n'))) (numeral_same m4 (number_same (same_token m4 v v')))
declaration_one e (g.register word n c v kind start z) (g.register word' n' c' v' kind' start' z') =
    let m2 = same_behind e word word' in
    let m4 = same_behind (same_behind m2 n n') c c' in
    let m5 = same_behind m4 v v' in
    let u = initial_not_under start (λ e. let f = first_is z in absurd (cc)) in
    let u' = initial_not_under start' (λ e. let f = first_is z' in absurd (cc)) in
    let m6 = same_rest s.kind_of m5 (kind_reads kind u) (kind_reads kind' u') in
    ap₅ d.Register (here_same e) (mention_same m2 (name_same (same_token m2 n n'))) (numeral_same m4 (number_same (same_token m4 v v'))) (kind_one m5 kind kind' u u')
    (initial_one m6 start start' (λ e. let f = first_is z in absurd (cc)) (λ e. let f = first_is z' in absurd (cc)))
declaration_one e (g.memory word n c v o depth b kind z) (g.memory word' n' c' v' o' depth' b' kind' z') =
    let m2 = same_behind e word word' in
    let m4 = same_behind (same_behind m2 n n') c c' in
    let m6 = same_behind (same_behind m4 v v') o o' in
    let m8 = same_behind (same_behind m6 depth depth') b b' in
    ap₅ d.Memory (here_same e) (mention_same m2 (name_same (same_token m2 n n'))) (numeral_same m4 (number_same (same_token m4 v v')))
    (numeral_same m6 (number_same (same_token m6 depth depth')))
    (kind_one m8 kind kind' (λ e. let f = first_is z in absurd (cc)) (λ e. let f = first_is z' in absurd (cc)))
declaration_one e (g.input word n c v z) (g.register word' n' c' v' kind' start' z') = let t = same_token e word word' in absurd (cc)
declaration_one e (g.input word n c v z) (g.memory word' n' c' v' o' depth' b' kind' z') = let t = same_token e word word' in absurd (cc)
declaration_one e (g.register word n c v kind start z) (g.input word' n' c' v' z') = let t = same_token e word word' in absurd (cc)
declaration_one e (g.register word n c v kind start z) (g.memory word' n' c' v' o' depth' b' kind' z') = let t = same_token e word word' in absurd (cc)
declaration_one e (g.memory word n c v o depth b kind z) (g.input word' n' c' v' z') = let t = same_token e word word' in absurd (cc)
declaration_one e (g.memory word n c v o depth b kind z) (g.register word' n' c' v' kind' start' z') = let t = same_token e word word' in absurd (cc)

declaration_not_state : {p q : Stage} {x : Decl} → g.Declaration p x q → first_kind p ≡ Some (k.Word w.State) → ⊥
declaration_not_state (g.input word n c v z) e = let f = first_is word in cc
declaration_not_state (g.register word n c v kind start z) e = let f = first_is word in cc
declaration_not_state (g.memory word n c v o depth b kind z) e = let f = first_is word in cc

and_declaration : {x x' : Decl} {xs xs' : List Decl} → x ≡ x' → xs ≡ xs' → x ∷ xs ≡ x' ∷ xs'
and_declaration e f = cc

pub declarations_one : {p p' q q' : Stage} {xs ys : List Decl} → p ≡ p' → g.Declarations p xs q → g.Declarations p' ys q'
    → first_kind q ≡ Some (k.Word w.State) → first_kind q' ≡ Some (k.Word w.State) → xs ≡ ys
declarations_one e g.no_declaration g.no_declaration h h' = refl
declarations_one e g.no_declaration (g.declaration x more) h h' = absurd (declaration_not_state x (sym (ap first_kind e) ∙ h))
declarations_one e (g.declaration x more) g.no_declaration h h' = absurd (declaration_not_state x (ap first_kind e ∙ h'))
declarations_one e (g.declaration x more) (g.declaration x' more') h h' =
    and_declaration (declaration_one e x x') (declarations_one (same_rest s.declaration e (declaration_reads x) (declaration_reads x')) more more' h h')

-- states

mutual
  pub state_one : {depth : ℕ} {p p' q q' : Stage} {x x' : t.StateTree} → p ≡ p' → g.State depth p x q → g.State depth p' x' q' → x ≡ x'
  state_one {depth} e (g.state word n kind o cs children z) (g.state word' n' kind' o' cs' children' z') =
      let m2 = same_behind e word word' in
      let m3 = same_behind m2 n n' in
      let m5 = same_behind (same_rest s.kind_of m3 (kind_reads kind (λ e. let f = first_is o in absurd (cc))) (kind_reads kind' (λ e. let f = first_is o' in absurd (cc)))) o o' in
      let h = states_end_cmds children (ap ends_cmds (first_is z)) in
      let h' = states_end_cmds children' (ap ends_cmds (first_is z')) in
      let m6 = same_rest (s.cmds 1) m5 (cmds_read cs h) (cmds_read cs' h') in
      ap₅ t.state_node (here_same e) (mention_same m2 (name_same (same_token m2 n n'))) (kind_one m3 kind kind' (λ e. let f = first_is o in
      absurd (cc)) (λ e. let f = first_is o' in absurd (cc)))
      (ap₂ t.command_block (cmds_one m5 cs cs' h h') (here_same m6))
      (states_one m6 children children' (λ e. let f = first_is z in absurd (cc)) (λ e. let f = first_is z' in absurd (cc)))

  pub states_one : {depth : ℕ} {p p' q q' : Stage} {xs ys : t.StateList} → p ≡ p' → g.States depth p xs q → g.States depth p' ys q'
      → first_kind q ≢ Some (k.Word w.State) → first_kind q' ≢ Some (k.Word w.State) → xs ≡ ys
  states_one e g.no_state g.no_state n n' = refl
  states_one e g.no_state (g.and_state x more) n n' = absurd (n (ap first_kind e ∙ state_first x))
  states_one e (g.and_state x more) g.no_state n n' = absurd (n' (sym (ap first_kind e) ∙ state_first x))
  states_one {depth} e (g.and_state x more) (g.and_state x' more') n n' =
      ap₂ t.and_state (state_one e x x') (states_one (same_rest (s.state depth) e (state_reads x) (state_reads x')) more more' n n')

design_tree : {v v' : Version} {xs xs' : List Decl} {y y' : t.StateTree} {ys ys' : t.StateList} → v ≡ v' → xs ≡ xs' → y ≡ y' → ys ≡ ys'
    → ◌≡◌ {A = t.DesignTree} (record { version = v; declarations = xs; states = t.and_state y ys }) (record { version = v'; declarations = xs'; states = t.and_state y' ys' })
design_tree d e f h = cc

header_one : {p p' q q' : Stage} {v v' : Version} → p ≡ p' → g.Header p v q → g.Header p' v' q' → first_kind q ≢ Some (k.Word w.Sapper)
    → first_kind q' ≢ Some (k.Word w.Sapper) → v ≡ v'
header_one e g.no_header g.no_header n n' = refl
header_one e g.no_header (g.header word two z) n n' = absurd (n (ap first_kind e ∙ first_is word))
header_one e (g.header word two z) g.no_header n n' = absurd (n' (sym (ap first_kind e) ∙ first_is word))
header_one e (g.header word two z) (g.header word' two' z') n n' = refl

pub design_one : {p p' q q' : Stage} {x y : t.DesignTree} → p ≡ p' → g.Design p x q → g.Design p' y q' → q.left ≡ [] → q'.left ≡ [] → x ≡ y
design_one e (g.design v ds x more) (g.design v' ds' x' more') h h' =
    let n = declarations_not_sapper ds (state_first x) in let n' = declarations_not_sapper ds' (state_first x') in
    let m1 = same_rest s.header e (header_reads v n) (header_reads v' n') in
    let m2 = same_rest s.declarations m1 (declarations_read ds (state_first x)) (declarations_read ds' (state_first x')) in
    let m3 = same_rest (s.state 1) m2 (state_reads x) (state_reads x') in
    design_tree (header_one e v v' n n') (declarations_one m1 ds ds' (state_first x) (state_first x')) (state_one m2 x x')
    (states_one m3 more more' (λ e. let f : None ≡ Some (k.Word w.State) = sym (ap kind_in h) ∙ e in
    absurd (cc)) (λ e. let f : None ≡ Some (k.Word w.State) = sym (ap kind_in h') ∙ e in absurd (cc)))
