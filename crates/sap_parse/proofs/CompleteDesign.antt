-- What the grammar spells in commands, declarations and states, the walk reads.
use Rattle.std.proofs.Common.{◌≡◌, ◌≢◌, ◌+◌, ℕ, List, [], ◌∷◌, Option, Some, None, Ok, Bool, true, false, refl, sym, ap, subst, ◌∙◌}
use Rattle.sap_parse.specs.Grammar as g
use Rattle.sap_parse.specs.Stages.{Stage, IsToken}
use Rattle.sap_parse.specs.Table as s
use Rattle.sap_parse.specs.Table.{Symbol, next, design_symbols}
use Rattle.sap_parse.specs.declared.role.Role.TheVariants as r
use Rattle.sap_lex.specs.declared.token.Kind.TheVariants as k
use Rattle.sap_lex.specs.declared.token.Kind.{Kind}
use Rattle.sap_lex.specs.declared.token.Sign.TheVariants as j
use Rattle.sap_tree.specs.declared.word.Word.TheVariants as w
use Rattle.sap_tree.specs.Syntax as t
use Rattle.sap_tree.specs.declared.syntax.Decl.{Decl}
use Rattle.sap_tree.specs.declared.syntax.Kind.{Kind as KindTree}
use Rattle.sap_tree.specs.declared.syntax.Numeral.{Numeral}
use Rattle.sap_tree.specs.declared.syntax.Under.{Under}
use Rattle.sap_tree.specs.declared.version.Version.{Version}
use Rattle.sap_parse.proofs.Complete.{ends_expr, expr_reads, not_kind}
use Rattle.sap_parse.proofs.Known.{R, Rs, at_kind, at_token_of, first_is, first_kind, kind_in, name_reads, number_reads, sized_reads, sign_reads, skipped, stands_for, word_reads}
use Rattle.sap_walk.specs.Walk.{empty_here}
use Rattle.sap_walk.proofs.Walking.{bind_ok}

-- tag expressions

skip_texprs : (i : Kind) → i ≢ k.Sign j.Comma → next s.texprs i ≡ empty_here
skip_texprs (k.Sign j.Comma) ne = absurd (ne refl)
skip_texprs _ ne = refl

mutual
  pub texpr_reads : {p q : Stage} {x : t.TagExpression} → g.Texpr p x q → R s.texpr p ≡ Ok q
  texpr_reads (g.level n) = at_token_of s.texpr (s.any_name r.Inner ∷ []) n refl ∙ bind_ok _ _ _ (name_reads n)
  texpr_reads (g.tag_of word o x z) =
      at_token_of s.texpr (s.word r.Inner w.Tag ∷ s.sign r.Opening j.OpenParen ∷ s.expr ∷ s.sign r.Closing j.CloseParen ∷ []) word refl
      ∙ bind_ok _ _ _ (word_reads word) ∙ bind_ok _ _ _ (sign_reads o) ∙ bind_ok _ _ _ (expr_reads x (ap ends_expr (first_is z))) ∙ bind_ok _ _ _ (sign_reads z)
  texpr_reads (g.level_at word o x z) =
      at_token_of s.texpr (s.word r.Inner w.Level ∷ s.sign r.Opening j.OpenParen ∷ s.expr ∷ s.sign r.Closing j.CloseParen ∷ []) word refl
      ∙ bind_ok _ _ _ (word_reads word) ∙ bind_ok _ _ _ (sign_reads o) ∙ bind_ok _ _ _ (expr_reads x (ap ends_expr (first_is z))) ∙ bind_ok _ _ _ (sign_reads z)
  texpr_reads (g.join word o x comma y more z) =
      at_token_of s.texpr (s.word r.Inner w.Join ∷ s.sign r.Opening j.OpenParen ∷ s.texpr ∷ s.sign r.Inner j.Comma ∷ s.texpr ∷ s.texprs
      ∷ s.sign r.Closing j.CloseParen ∷ []) word refl
      ∙ bind_ok _ _ _ (word_reads word) ∙ bind_ok _ _ _ (sign_reads o) ∙ bind_ok _ _ _ (texpr_reads x) ∙ bind_ok _ _ _ (sign_reads comma) ∙ bind_ok _ _ _ (texpr_reads y)
      ∙ bind_ok _ _ _ (texprs_read more (λ e. let f = first_is z in absurd (cc))) ∙ bind_ok _ _ _ (sign_reads z)

  pub texprs_read : {p q : Stage} {xs : t.TagExpressions} → g.Texprs p xs q → first_kind q ≢ Some (k.Sign j.Comma) → R s.texprs p ≡ Ok q
  texprs_read {p} g.no_tag ne = skipped s.texprs p refl (λ i e. skip_texprs i (not_kind (k.Sign j.Comma) p ne e))
  texprs_read (g.tag comma x more) ne =
      at_token_of s.texprs (s.sign r.Inner j.Comma ∷ s.texpr ∷ s.texprs ∷ []) comma refl ∙ bind_ok _ _ _ (sign_reads comma)
      ∙ bind_ok _ _ _ (texpr_reads x) ∙ bind_ok _ _ _ (texprs_read more ne)

-- commands

comma_skips : {p q : Stage} → IsToken p r.Plain (k.Sign j.Comma) q → R s.cell_part p ≡ Ok p
comma_skips {p} h = skipped s.cell_part p refl (λ i e. subst (λ i. next s.cell_part i ≡ empty_here) (same i e) refl) where
  same : (i : Kind) → first_kind p ≡ Some i → k.Sign j.Comma ≡ i
  same i e = let f = first_is h in cc

pub simple_reads : {d : ℕ} {p q : Stage} {c : t.SimpleCommand} → g.Simple d p c q → ends_expr (first_kind q) ≡ true → R (s.simple d) p ≡ Ok q
simple_reads {d} (g.assign n b x) h =
    at_token_of (s.simple d) (s.any_name (r.Command d) ∷ s.target ∷ []) n refl ∙ bind_ok _ _ _ (name_reads n)
    ∙ bind_ok _ _ _ (at_token_of s.target (s.sign r.Plain j.Becomes ∷ s.expr ∷ []) b refl ∙ bind_ok _ _ _ (sign_reads b) ∙ bind_ok _ _ _ (expr_reads x h))
simple_reads {d} (g.write n o i z b x) h =
    at_token_of (s.simple d) (s.any_name (r.Command d) ∷ s.target ∷ []) n refl ∙ bind_ok _ _ _ (name_reads n)
    ∙ bind_ok _ _ _ (at_token_of s.target (s.sign r.Plain j.OpenBracket ∷ s.expr ∷ s.sign r.Plain j.CloseBracket ∷ s.sign r.Plain j.Becomes ∷ s.expr ∷ []) o refl
    ∙ bind_ok _ _ _ (sign_reads o) ∙ bind_ok _ _ _ (expr_reads i (ap ends_expr (first_is z))) ∙ bind_ok _ _ _ (sign_reads z)
    ∙ bind_ok _ _ _ (sign_reads b) ∙ bind_ok _ _ _ (expr_reads x h))
simple_reads {d} (g.set_tag word o n comma x z) h =
    at_token_of (s.simple d) (s.word (r.Command d) w.SetTag ∷ s.sign r.Plain j.OpenParen ∷ s.any_name r.Plain ∷ s.cell_part
    ∷ s.sign r.Plain j.Comma ∷ s.texpr ∷ s.sign r.Plain j.CloseParen ∷ []) word refl
    ∙ bind_ok _ _ _ (word_reads word) ∙ bind_ok _ _ _ (sign_reads o) ∙ bind_ok _ _ _ (name_reads n) ∙ bind_ok _ _ _ (comma_skips comma) ∙ bind_ok _ _ _ (sign_reads comma)
    ∙ bind_ok _ _ _ (texpr_reads x) ∙ bind_ok _ _ _ (sign_reads z)
simple_reads {d} (g.set_cell_tag word o n b i e comma x z) h =
    at_token_of (s.simple d) (s.word (r.Command d) w.SetTag ∷ s.sign r.Plain j.OpenParen ∷ s.any_name r.Plain ∷ s.cell_part
    ∷ s.sign r.Plain j.Comma ∷ s.texpr ∷ s.sign r.Plain j.CloseParen ∷ []) word refl
    ∙ bind_ok _ _ _ (word_reads word) ∙ bind_ok _ _ _ (sign_reads o) ∙ bind_ok _ _ _ (name_reads n)
    ∙ bind_ok _ _ _ (at_token_of s.cell_part (s.sign r.Plain j.OpenBracket ∷ s.expr ∷ s.sign r.Plain j.CloseBracket ∷ []) b refl
    ∙ bind_ok _ _ _ (sign_reads b) ∙ bind_ok _ _ _ (expr_reads i (ap ends_expr (first_is e))) ∙ bind_ok _ _ _ (sign_reads e))
    ∙ bind_ok _ _ _ (sign_reads comma) ∙ bind_ok _ _ _ (texpr_reads x) ∙ bind_ok _ _ _ (sign_reads z)
simple_reads {d} (g.goto word n) h = at_token_of (s.simple d) (s.word (r.Command d) w.Goto ∷ s.any_name r.Plain ∷ []) word refl
    ∙ bind_ok _ _ _ (word_reads word) ∙ bind_ok _ _ _ (name_reads n)
simple_reads {d} (g.fall word) h = at_token_of (s.simple d) (s.word (r.Command d) w.Fall ∷ []) word refl ∙ bind_ok _ _ _ (word_reads word)

-- where a list of commands may end
abbrev pub ends_cmds : Option Kind → Bool
ends_cmds None = true
ends_cmds (Some (k.Sign x)) = true
ends_cmds (Some (k.Word w.State)) = true
ends_cmds (Some kind) = false

simple_cmd : {d : ℕ} {p q : Stage} {c : t.SimpleCommand} → g.Simple d p c q → R (s.cmd d) p ≡ Rs (s.simple d ∷ s.ending d ∷ []) p
simple_cmd {d} (g.assign n b x) = at_token_of (s.cmd d) (s.simple d ∷ s.ending d ∷ []) n refl
simple_cmd {d} (g.write n o i z b x) = at_token_of (s.cmd d) (s.simple d ∷ s.ending d ∷ []) n refl
simple_cmd {d} (g.set_tag word o n comma x z) = at_token_of (s.cmd d) (s.simple d ∷ s.ending d ∷ []) word refl
simple_cmd {d} (g.set_cell_tag word o n b i e comma x z) = at_token_of (s.cmd d) (s.simple d ∷ s.ending d ∷ []) word refl
simple_cmd {d} (g.goto word n) = at_token_of (s.cmd d) (s.simple d ∷ s.ending d ∷ []) word refl
simple_cmd {d} (g.fall word) = at_token_of (s.cmd d) (s.simple d ∷ s.ending d ∷ []) word refl

simple_cmds : {d : ℕ} {p q : Stage} {c : t.SimpleCommand} → g.Simple d p c q → R (s.cmds d) p ≡ Rs (s.cmd d ∷ s.cmds d ∷ []) p
simple_cmds {d} (g.assign n b x) = at_token_of (s.cmds d) (s.cmd d ∷ s.cmds d ∷ []) n refl
simple_cmds {d} (g.write n o i z b x) = at_token_of (s.cmds d) (s.cmd d ∷ s.cmds d ∷ []) n refl
simple_cmds {d} (g.set_tag word o n comma x z) = at_token_of (s.cmds d) (s.cmd d ∷ s.cmds d ∷ []) word refl
simple_cmds {d} (g.set_cell_tag word o n b i e comma x z) = at_token_of (s.cmds d) (s.cmd d ∷ s.cmds d ∷ []) word refl
simple_cmds {d} (g.goto word n) = at_token_of (s.cmds d) (s.cmd d ∷ s.cmds d ∷ []) word refl
simple_cmds {d} (g.fall word) = at_token_of (s.cmds d) (s.cmd d ∷ s.cmds d ∷ []) word refl

cmd_cmds : {d : ℕ} {p q : Stage} {c : t.Command} → g.Cmd d p c q → R (s.cmds d) p ≡ Rs (s.cmd d ∷ s.cmds d ∷ []) p
cmd_cmds (g.unhandled c z) = simple_cmds c
cmd_cmds (g.handled c word h) = simple_cmds c
cmd_cmds {d} (g.branch word o x z one other) = at_token_of (s.cmds d) (s.cmd d ∷ s.cmds d ∷ []) word refl
cmd_cmds (g.decided c word one other two) = simple_cmds c
cmd_cmds {d} (g.case word o x z b first arms e) = at_token_of (s.cmds d) (s.cmd d ∷ s.cmds d ∷ []) word refl

pub simple_not_else : {d : ℕ} {p q : Stage} {c : t.SimpleCommand} → g.Simple d p c q → first_kind p ≢ Some (k.Word w.Else)
simple_not_else (g.assign n b x) e = let f = first_is n in absurd (cc)
simple_not_else (g.write n o i z b x) e = let f = first_is n in absurd (cc)
simple_not_else (g.set_tag word o n comma x z) e = let f = first_is word in absurd (cc)
simple_not_else (g.set_cell_tag word o n b i z comma x c) e = let f = first_is word in absurd (cc)
simple_not_else (g.goto word n) e = let f = first_is word in absurd (cc)
simple_not_else (g.fall word) e = let f = first_is word in absurd (cc)

cmd_not_else : {d : ℕ} {p q : Stage} {c : t.Command} → g.Cmd d p c q → first_kind p ≢ Some (k.Word w.Else)
cmd_not_else (g.unhandled c z) e = simple_not_else c e
cmd_not_else (g.handled c word h) e = simple_not_else c e
cmd_not_else (g.branch word o x z one other) e = let f = first_is word in absurd (cc)
cmd_not_else (g.decided c word one other two) e = simple_not_else c e
cmd_not_else (g.case word o x z b first arms end) e = let f = first_is word in absurd (cc)

ends_not_else : (i : Option Kind) → ends_cmds i ≡ true → i ≢ Some (k.Word w.Else)
ends_not_else i h e = let z : ends_cmds (Some (k.Word w.Else)) ≡ true = subst (λ x. ends_cmds x ≡ true) e h in cc

pub cmds_not_else : {d : ℕ} {p q : Stage} {cs : t.CommandList} → g.Cmds d p cs q → ends_cmds (first_kind q) ≡ true → first_kind p ≢ Some (k.Word w.Else)
cmds_not_else {p = p} g.no_cmd h = ends_not_else (first_kind p) h
cmds_not_else (g.cmd c more) h = cmd_not_else c

skip_cmds : (d : ℕ) (i : Kind) → ends_cmds (Some i) ≡ true → next (s.cmds d) i ≡ empty_here
skip_cmds d (k.Sign x) h = refl
skip_cmds d (k.Word w.State) h = refl
skip_cmds d _ h = absurd (cc)

skip_else : (d : ℕ) (i : Kind) → i ≢ k.Word w.Else → next (s.else_part d) i ≡ empty_here
skip_else d (k.Word w.Else) ne = absurd (ne refl)
skip_else d _ ne = refl

-- constants of a `case`

pub constant_reads : {p q : Stage} {x : t.Expression} → g.Constant p x q → R s.constant p ≡ Ok q
constant_reads (g.plain n) = at_token_of s.constant (s.number r.Plain ∷ []) n refl ∙ bind_ok _ _ _ (number_reads n)
constant_reads (g.wide n) = at_token_of s.constant (s.sized r.Plain ∷ []) n refl ∙ bind_ok _ _ _ (sized_reads n)

skip_constants : (i : Kind) → i ≢ k.Sign j.Comma → next s.constants i ≡ empty_here
skip_constants (k.Sign j.Comma) ne = absurd (ne refl)
skip_constants _ ne = refl

pub constants_read : {p q : Stage} {xs : t.Expressions} → g.Constants p xs q → first_kind q ≢ Some (k.Sign j.Comma) → R s.constants p ≡ Ok q
constants_read {p} g.no_constant ne = skipped s.constants p refl (λ i e. skip_constants i (not_kind (k.Sign j.Comma) p ne e))
constants_read (g.constant comma x more) ne =
    at_token_of s.constants (s.sign r.Plain j.Comma ∷ s.constant ∷ s.constants ∷ []) comma refl ∙ bind_ok _ _ _ (sign_reads comma)
    ∙ bind_ok _ _ _ (constant_reads x) ∙ bind_ok _ _ _ (constants_read more ne)

arm_constant : (d : ℕ) {p q : Stage} {x : t.Expression} → g.Constant p x q → R (s.arm d) p ≡ Rs (s.constant ∷ s.constants ∷ s.sign r.Plain j.Colon ∷ s.block d ∷ []) p
arm_constant d (g.plain n) = at_token_of (s.arm d) (s.constant ∷ s.constants ∷ s.sign r.Plain j.Colon ∷ s.block d ∷ []) n refl
arm_constant d (g.wide n) = at_token_of (s.arm d) (s.constant ∷ s.constants ∷ s.sign r.Plain j.Colon ∷ s.block d ∷ []) n refl

arms_more : {d : ℕ} {p q : Stage} {cs : t.Expressions} {h : t.CommandBlock} → g.Arm d p cs h q → R (s.arms d) p ≡ Rs (s.arm d ∷ s.arms d ∷ []) p
arms_more {d} (g.arm (g.plain n) xs z h) = at_token_of (s.arms d) (s.arm d ∷ s.arms d ∷ []) n refl
arms_more {d} (g.arm (g.wide n) xs z h) = at_token_of (s.arms d) (s.arm d ∷ s.arms d ∷ []) n refl

mutual
  pub cmd_reads : {d : ℕ} {p q : Stage} {c : t.Command} → g.Cmd d p c q → first_kind q ≢ Some (k.Word w.Else) → R (s.cmd d) p ≡ Ok q
  cmd_reads {d} (g.unhandled c z) ne =
      simple_cmd c ∙ bind_ok _ _ _ (simple_reads c (ap ends_expr (first_is z)))
      ∙ bind_ok _ _ _ (at_token_of (s.ending d) (s.sign r.Plain j.Semicolon ∷ []) z refl ∙ bind_ok _ _ _ (sign_reads z))
  cmd_reads {d} (g.handled c word h) ne =
      simple_cmd c ∙ bind_ok _ _ _ (simple_reads c (ap ends_expr (first_is word)))
      ∙ bind_ok _ _ _ (at_token_of (s.ending d) (s.word r.Plain w.Otherwise ∷ s.block (d + 1) ∷ []) word refl ∙ bind_ok _ _ _ (word_reads word) ∙ bind_ok _ _ _ (block_reads h))
  cmd_reads {d} (g.branch word o x z one other) ne =
      at_token_of (s.cmd d) (s.word (r.Command d) w.If ∷ s.sign r.Plain j.OpenParen ∷ s.expr ∷ s.sign r.Plain j.CloseParen ∷ s.block (d + 1) ∷ s.else_part (d + 1) ∷ []) word refl
      ∙ bind_ok _ _ _ (word_reads word) ∙ bind_ok _ _ _ (sign_reads o) ∙ bind_ok _ _ _ (expr_reads x (ap ends_expr (first_is z))) ∙ bind_ok _ _ _ (sign_reads z)
      ∙ bind_ok _ _ _ (block_reads one) ∙ bind_ok _ _ _ (else_reads other ne)
  cmd_reads {d} (g.decided c word one other two) ne =
      simple_cmd c ∙ bind_ok _ _ _ (simple_reads c (ap ends_expr (first_is word)))
      ∙ bind_ok _ _ _ (at_token_of (s.ending d) (s.word r.Plain w.Then ∷ s.block (d + 1) ∷ s.word r.Plain w.Otherwise ∷ s.block (d + 1) ∷ []) word refl
      ∙ bind_ok _ _ _ (word_reads word) ∙ bind_ok _ _ _ (block_reads one) ∙ bind_ok _ _ _ (word_reads other) ∙ bind_ok _ _ _ (block_reads two))
  cmd_reads {d} (g.case word o x z b first arms end) ne =
      at_token_of (s.cmd d)
      (s.word (r.Command d) w.Case ∷ s.sign r.Plain j.OpenParen ∷ s.expr ∷ s.sign r.Plain j.CloseParen ∷ s.sign r.Plain j.OpenBrace
      ∷ s.arm (d + 1) ∷ s.arms (d + 1) ∷ s.sign r.Plain j.CloseBrace ∷ []) word refl
      ∙ bind_ok _ _ _ (word_reads word) ∙ bind_ok _ _ _ (sign_reads o) ∙ bind_ok _ _ _ (expr_reads x (ap ends_expr (first_is z))) ∙ bind_ok _ _ _ (sign_reads z)
      ∙ bind_ok _ _ _ (sign_reads b) ∙ bind_ok _ _ _ (arm_reads first) ∙ bind_ok _ _ _ (arms_read arms) ∙ bind_ok _ _ _ (sign_reads end)

  pub arm_reads : {d : ℕ} {p q : Stage} {cs : t.Expressions} {h : t.CommandBlock} → g.Arm d p cs h q → R (s.arm d) p ≡ Ok q
  arm_reads {d} (g.arm x xs z h) =
      arm_constant d x ∙ bind_ok _ _ _ (constant_reads x) ∙ bind_ok _ _ _ (constants_read xs (λ e. let f = first_is z in absurd (cc)))
      ∙ bind_ok _ _ _ (sign_reads z) ∙ bind_ok _ _ _ (block_reads h)

  pub arms_read : {d : ℕ} {p q : Stage} {x : t.Arms} → g.Arms d p x q → R (s.arms d) p ≡ Ok q
  arms_read {d} (g.last word h) = at_token_of (s.arms d) (s.word r.Plain w.Else ∷ s.block d ∷ []) word refl ∙ bind_ok _ _ _ (word_reads word) ∙ bind_ok _ _ _ (block_reads h)
  arms_read (g.and_arm a more) = arms_more a ∙ bind_ok _ _ _ (arm_reads a) ∙ bind_ok _ _ _ (arms_read more)

  pub else_reads : {d : ℕ} {p q : Stage} {x : t.ElseBlock} → g.Else d p x q → first_kind q ≢ Some (k.Word w.Else) → R (s.else_part d) p ≡ Ok q
  else_reads {d} {p} g.no_else ne = skipped (s.else_part d) p refl (λ i e. skip_else d i (not_kind (k.Word w.Else) p ne e))
  else_reads {d} (g.else word x) ne = at_token_of (s.else_part d) (s.word r.Plain w.Else ∷ s.block d ∷ []) word refl
      ∙ bind_ok _ _ _ (word_reads word) ∙ bind_ok _ _ _ (block_reads x)

  pub block_reads : {d : ℕ} {p q : Stage} {x : t.CommandBlock} → g.Block d p x q → R (s.block d) p ≡ Ok q
  block_reads {d} (g.block o cs z) =
      at_token_of (s.block d) (s.sign r.Plain j.OpenBrace ∷ s.cmds d ∷ s.sign r.Plain j.CloseBrace ∷ []) o refl
      ∙ bind_ok _ _ _ (sign_reads o) ∙ bind_ok _ _ _ (cmds_read cs (ap ends_cmds (first_is z))) ∙ bind_ok _ _ _ (sign_reads z)

  pub cmds_read : {d : ℕ} {p q : Stage} {cs : t.CommandList} → g.Cmds d p cs q → ends_cmds (first_kind q) ≡ true → R (s.cmds d) p ≡ Ok q
  cmds_read {d} {p} g.no_cmd h = skipped (s.cmds d) p refl (λ i e. skip_cmds d i (subst (λ x. ends_cmds x ≡ true) e h))
  cmds_read (g.cmd c more) h = cmd_cmds c ∙ bind_ok _ _ _ (cmd_reads c (cmds_not_else more h)) ∙ bind_ok _ _ _ (cmds_read more h)

-- kinds and declarations

skip_authority : (i : Kind) → i ≢ k.Word w.Under → next s.authority i ≡ empty_here
skip_authority (k.Word w.Under) ne = absurd (ne refl)
skip_authority _ ne = refl

skip_initial : (i : Kind) → i ≢ k.Sign j.Is → next s.initial i ≡ empty_here
skip_initial (k.Sign j.Is) ne = absurd (ne refl)
skip_initial _ ne = refl

pub authority_reads : {p q : Stage} {x : Option Under} → g.Authority p x q → first_kind q ≢ Some (k.Word w.Under) → R s.authority p ≡ Ok q
authority_reads {p} g.no_authority ne = skipped s.authority p refl (λ i e. skip_authority i (not_kind (k.Word w.Under) p ne e))
authority_reads (g.authority word n) ne = at_token_of s.authority (s.word r.Plain w.Under ∷ s.any_name r.Plain ∷ []) word refl
    ∙ bind_ok _ _ _ (word_reads word) ∙ bind_ok _ _ _ (name_reads n)

pub kind_reads : {p q : Stage} {x : KindTree} → g.KindOf p x q → first_kind q ≢ Some (k.Word w.Under) → R s.kind_of p ≡ Ok q
kind_reads (g.dynamic word) ne = at_token_of s.kind_of (s.word r.Plain w.Dynamic ∷ []) word refl ∙ bind_ok _ _ _ (word_reads word)
kind_reads (g.enforced word n under) ne =
    at_token_of s.kind_of (s.word r.Plain w.Enforced ∷ s.any_name r.Plain ∷ s.authority ∷ []) word refl
    ∙ bind_ok _ _ _ (word_reads word) ∙ bind_ok _ _ _ (name_reads n) ∙ bind_ok _ _ _ (authority_reads under ne)

pub initial_reads : {p q : Stage} {x : Option Numeral} → g.Initial p x q → first_kind q ≢ Some (k.Sign j.Is) → R s.initial p ≡ Ok q
initial_reads {p} g.no_initial ne = skipped s.initial p refl (λ i e. skip_initial i (not_kind (k.Sign j.Is) p ne e))
initial_reads (g.initial sign n) ne = at_token_of s.initial (s.sign r.Plain j.Is ∷ s.number r.Plain ∷ []) sign refl
    ∙ bind_ok _ _ _ (sign_reads sign) ∙ bind_ok _ _ _ (number_reads n)

pub initial_not_under : {p q : Stage} {x : Option Numeral} → g.Initial p x q → first_kind q ≢ Some (k.Word w.Under) → first_kind p ≢ Some (k.Word w.Under)
initial_not_under g.no_initial ne e = ne e
initial_not_under (g.initial sign n) ne e = let f = first_is sign in absurd (cc)

pub declaration_reads : {p q : Stage} {x : Decl} → g.Declaration p x q → R s.declaration p ≡ Ok q
declaration_reads (g.input word n colon width z) =
    at_token_of s.declaration (s.word r.Input w.Input ∷ s.any_name r.Plain ∷ s.sign r.Plain j.Colon ∷ s.number r.Plain ∷ s.sign r.Plain j.Semicolon ∷ []) word refl
    ∙ bind_ok _ _ _ (word_reads word) ∙ bind_ok _ _ _ (name_reads n) ∙ bind_ok _ _ _ (sign_reads colon) ∙ bind_ok _ _ _ (number_reads width) ∙ bind_ok _ _ _ (sign_reads z)
declaration_reads (g.register word n colon width kind start z) =
    at_token_of s.declaration (s.word r.Register w.Reg ∷ s.any_name r.Plain ∷ s.sign r.Plain j.Colon ∷ s.number r.Plain ∷ s.kind_of
    ∷ s.initial ∷ s.sign r.Plain j.Semicolon ∷ []) word refl
    ∙ bind_ok _ _ _ (word_reads word) ∙ bind_ok _ _ _ (name_reads n) ∙ bind_ok _ _ _ (sign_reads colon) ∙ bind_ok _ _ _ (number_reads width)
    ∙ bind_ok _ _ _ (kind_reads kind (initial_not_under start (λ e. let f = first_is z in absurd (cc))))
    ∙ bind_ok _ _ _ (initial_reads start (λ e. let f = first_is z in absurd (cc))) ∙ bind_ok _ _ _ (sign_reads z)
declaration_reads (g.memory word n colon width o depth c kind z) =
    at_token_of s.declaration (s.word r.Memory w.Mem ∷ s.any_name r.Plain ∷ s.sign r.Plain j.Colon ∷ s.number r.Plain
    ∷ s.sign r.Plain j.OpenBracket ∷ s.number r.Plain ∷ s.sign r.Plain j.CloseBracket ∷ s.kind_of ∷ s.sign r.Plain j.Semicolon ∷ []) word refl
    ∙ bind_ok _ _ _ (word_reads word) ∙ bind_ok _ _ _ (name_reads n) ∙ bind_ok _ _ _ (sign_reads colon) ∙ bind_ok _ _ _ (number_reads width)
    ∙ bind_ok _ _ _ (sign_reads o) ∙ bind_ok _ _ _ (number_reads depth) ∙ bind_ok _ _ _ (sign_reads c)
    ∙ bind_ok _ _ _ (kind_reads kind (λ e. let f = first_is z in absurd (cc))) ∙ bind_ok _ _ _ (sign_reads z)

declaration_more : {p q : Stage} {x : Decl} → g.Declaration p x q → R s.declarations p ≡ Rs (s.declaration ∷ s.declarations ∷ []) p
declaration_more (g.input word n colon width z) = at_token_of s.declarations (s.declaration ∷ s.declarations ∷ []) word refl
declaration_more (g.register word n colon width kind start z) = at_token_of s.declarations (s.declaration ∷ s.declarations ∷ []) word refl
declaration_more (g.memory word n colon width o depth c kind z) = at_token_of s.declarations (s.declaration ∷ s.declarations ∷ []) word refl

state_skips : (x : Symbol) (p : Stage) → s.may_be_empty x ≡ true → next x (k.Word w.State) ≡ empty_here → first_kind p ≡ Some (k.Word w.State) → R x p ≡ Ok p
state_skips x p h row e = skipped x p h (λ i f. subst (λ i. next x i ≡ empty_here) (same i f) row) where
  same : (i : Kind) → first_kind p ≡ Some i → k.Word w.State ≡ i
  same i f = cc

pub declarations_read : {p q : Stage} {xs : List Decl} → g.Declarations p xs q → first_kind q ≡ Some (k.Word w.State) → R s.declarations p ≡ Ok q
declarations_read {p} g.no_declaration e = state_skips s.declarations p refl refl e
declarations_read (g.declaration x more) e = declaration_more x ∙ bind_ok _ _ _ (declaration_reads x) ∙ bind_ok _ _ _ (declarations_read more e)

-- states

pub state_first : {d : ℕ} {p q : Stage} {x : t.StateTree} → g.State d p x q → first_kind p ≡ Some (k.Word w.State)
state_first (g.state word n kind o cs children z) = first_is word

pub states_end_cmds : {d : ℕ} {p q : Stage} {xs : t.StateList} → g.States d p xs q → ends_cmds (first_kind q) ≡ true → ends_cmds (first_kind p) ≡ true
states_end_cmds g.no_state h = h
states_end_cmds (g.and_state x more) h = ap ends_cmds (state_first x)

skip_states : (d : ℕ) (i : Kind) → i ≢ k.Word w.State → next (s.states d) i ≡ empty_here
skip_states d (k.Word w.State) ne = absurd (ne refl)
skip_states d _ ne = refl

mutual
  pub state_reads : {d : ℕ} {p q : Stage} {x : t.StateTree} → g.State d p x q → R (s.state d) p ≡ Ok q
  state_reads {d} (g.state word n kind o cs children z) =
      at_token_of (s.state d) (s.word (r.State d) w.State ∷ s.any_name r.Plain ∷ s.kind_of ∷ s.sign r.Plain j.OpenBrace ∷ s.cmds 1
      ∷ s.states (d + 1) ∷ s.sign r.Plain j.CloseBrace ∷ []) word refl
      ∙ bind_ok _ _ _ (word_reads word) ∙ bind_ok _ _ _ (name_reads n) ∙ bind_ok _ _ _ (kind_reads kind (λ e. let f = first_is o in absurd (cc))) ∙ bind_ok _ _ _ (sign_reads o)
      ∙ bind_ok _ _ _ (cmds_read cs (states_end_cmds children (ap ends_cmds (first_is z))))
      ∙ bind_ok _ _ _ (states_read children (λ e. let f = first_is z in absurd (cc))) ∙ bind_ok _ _ _ (sign_reads z)

  pub states_read : {d : ℕ} {p q : Stage} {xs : t.StateList} → g.States d p xs q → first_kind q ≢ Some (k.Word w.State) → R (s.states d) p ≡ Ok q
  states_read {d} {p} g.no_state ne = skipped (s.states d) p refl (λ i e. skip_states d i (not_kind (k.Word w.State) p ne e))
  states_read {d} {p} (g.and_state x more) ne =
      at_kind (s.states d) (s.state d ∷ s.states d ∷ []) (k.Word w.State) p (state_first x) refl ∙ bind_ok _ _ _ (state_reads x) ∙ bind_ok _ _ _ (states_read more ne)

last_states_read : {p q : Stage} {xs : t.StateList} → g.States 1 p xs q → q.left ≡ [] → R s.last_states p ≡ Ok q
last_states_read {p} g.no_state e = skipped s.last_states p refl (λ i f. let z : None ≡ Some i = sym (ap kind_in e) ∙ f in absurd (cc))
last_states_read {p} (g.and_state x more) e =
    at_kind s.last_states (s.state 1 ∷ s.last_states ∷ []) (k.Word w.State) p (state_first x) refl ∙ bind_ok _ _ _ (state_reads x) ∙ bind_ok _ _ _ (last_states_read more e)

-- the first line of the second version

skip_header : (i : Kind) → i ≢ k.Word w.Sapper → next s.header i ≡ empty_here
skip_header (k.Word w.Sapper) ne = absurd (ne refl)
skip_header _ ne = refl

pub header_reads : {p q : Stage} {v : Version} → g.Header p v q → first_kind q ≢ Some (k.Word w.Sapper) → R s.header p ≡ Ok q
header_reads {p} g.no_header ne = skipped s.header p refl (λ i e. skip_header i (not_kind (k.Word w.Sapper) p ne e))
header_reads (g.header word two z) ne =
    at_token_of s.header (s.word r.Plain w.Sapper ∷ s.word r.Plain w.Two ∷ s.sign r.Plain j.Semicolon ∷ []) word refl
    ∙ bind_ok _ _ _ (word_reads word) ∙ bind_ok _ _ _ (word_reads two) ∙ bind_ok _ _ _ (sign_reads z)

pub declarations_not_sapper : {p q : Stage} {xs : List Decl} → g.Declarations p xs q → first_kind q ≡ Some (k.Word w.State) → first_kind p ≢ Some (k.Word w.Sapper)
declarations_not_sapper g.no_declaration e f = absurd (cc)
declarations_not_sapper (g.declaration (g.input word n colon width z) more) e f = let h = first_is word in absurd (cc)
declarations_not_sapper (g.declaration (g.register word n colon width kind start z) more) e f = let h = first_is word in absurd (cc)
declarations_not_sapper (g.declaration (g.memory word n colon width o depth c kind z) more) e f = let h = first_is word in absurd (cc)

-- a whole design
pub design_reads : {p q : Stage} {x : t.DesignTree} → g.Design p x q → q.left ≡ [] → R s.design p ≡ Ok q
design_reads {p} (g.design h ds x more) e =
    stands_for s.design design_symbols (λ i. refl) refl p ∙ bind_ok _ _ _ (header_reads h (declarations_not_sapper ds (state_first x)))
    ∙ bind_ok _ _ _ (declarations_read ds (state_first x)) ∙ bind_ok _ _ _ (state_reads x) ∙ bind_ok _ _ _ (last_states_read more e)
