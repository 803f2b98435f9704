-- A token that a symbol takes, with what is then to come, stands for that symbol: the symbols outside of expressions.
use Rattle.std.proofs.Common.{◌+◌, ℕ, List, [], ◌∷◌, refl}
use Rattle.sap_parse.specs.Grammar as g
use Rattle.sap_parse.specs.Limits.{Counts}
use Rattle.sap_parse.specs.Reading.{leniently}
use Rattle.sap_parse.specs.Stages.{Stage, IsSign, IsWord, IsName}
use Rattle.sap_parse.specs.Table as s
use Rattle.sap_parse.specs.Table.{Symbol, Row, next, design_symbols}
use Rattle.sap_lex.specs.declared.limit.Limit.{Limit}
use Rattle.sap_parse.specs.declared.role.Role.TheVariants as r
use Rattle.sap_lex.specs.declared.token.Sign.TheVariants as j
use Rattle.sap_lex.specs.declared.token.Token.{Token}
use Rattle.sap_tree.specs.declared.word.Word.TheVariants as w
use Rattle.sap_tree.specs.Syntax as t
use Rattle.sap_parse.proofs.Keeps.{here, Keeps, element, keeps_or, keeps_push, keeps_optional, keeps_sign, keeps_word, keeps_name, keeps_number, keeps_sized, after_sign, after_word, after_name, keeps_firsts, keeps_paren, keeps_braces, keeps_zext, keeps_prim, keeps_post, keeps_unary, keeps_slice, keeps_slices, keeps_choice, keeps_tail, keeps_expr, keeps_bin, keeps_after_name, keeps_after_bracket, keeps_after_number}
use Rattle.sap_parse.proofs.Laws.{push_full, word_full}
use Rattle.sap_parse.proofs.Spells.{Lang, Langs, Cell, no_cell, cell, last, nothing}
use Rattle.sap_walk.specs.Limits.{Past}
use Rattle.sap_walk.specs.Rows.{push, optional, ◌or◌}

module _ (token : Token) (ts : List Token) (past : Past Counts Limit) where
  abbrev At : Stage
  At = here token ts past

  abbrev Kept : Row → (Stage → Type 0) → Type 0
  Kept = Keeps token ts past

  either : (n m : Row) (P : Stage → Type 0) → Kept n P → Kept m P → Kept (n or m) P
  either = keeps_or token ts past

  more_of : (n : Row) (τ : List Symbol) (P Q : Stage → Type 0) → Kept n P → ((m q : Stage) → P m → Langs τ m q → Q q) → Kept (push n τ) Q
  more_of = keeps_push token ts past

  maybe : (n : Row) (P : Stage → Type 0) → Kept n P → Kept (optional n) P
  maybe = keeps_optional token ts past

  keeps_parts : Kept (next s.parts token.kind) (λ q. Lang s.parts At q)
  keeps_parts = maybe _ _ (after_sign token ts past r.Inner j.Comma _ (λ q. Lang s.parts At q) (λ m q comma more. let xs =
      last s.parts more.0 q more.2 in (_, g.part comma more.1.1 xs.1)))

  -- tag expressions

  keeps_tag_of : Kept (s.tag_of_next token.kind) (λ q. Lang s.tag_of At q)
  keeps_tag_of = after_word token ts past r.Inner w.Tag _ _ (λ m q word more. let a = more.2 in (_, g.tag_of word more.1 a.1.1 (last (s.sign r.Closing j.CloseParen) a.0 q a.2)))

  keeps_level_at : Kept (s.level_at_next token.kind) (λ q. Lang s.level_at At q)
  keeps_level_at = after_word token ts past r.Inner w.Level _ _ (λ m q word more. let a = more.2 in
      (_, g.level_at word more.1 a.1.1 (last (s.sign r.Closing j.CloseParen) a.0 q a.2)))

  keeps_join : Kept (s.join_next token.kind) (λ q. Lang s.join At q)
  keeps_join = after_word token ts past r.Inner w.Join _ _ (λ m q word more.
      let a = more.2 in let b = a.2 in let c = b.2 in let d = c.2 in
      (_, g.join word more.1 a.1.1 b.1 c.1.1 d.1.1 (last (s.sign r.Closing j.CloseParen) d.0 q d.2)))

  keeps_texpr : Kept (s.texpr_next token.kind) (λ q. Lang s.texpr At q)
  keeps_texpr =
      either (s.name_next r.Inner token.kind) _ _ (λ role σ e q more. let n = keeps_name token ts past r.Inner role σ e q more in (_, g.level n.1))
      (either (s.tag_of_next token.kind) _ _ keeps_tag_of (either (s.level_at_next token.kind) _ _ keeps_level_at keeps_join))

  keeps_texprs : Kept (next s.texprs token.kind) (λ q. Lang s.texprs At q)
  keeps_texprs = maybe _ _ (after_sign token ts past r.Inner j.Comma _ (λ q. Lang s.texprs At q) (λ m q comma more. let xs =
      last s.texprs more.0 q more.2 in (_, g.tag comma more.1.1 xs.1)))

  -- commands

  keeps_set_tag : (depth : ℕ) → Kept (s.set_tag_next depth token.kind) (λ q. Lang (s.set_tag depth) At q)
  keeps_set_tag depth = after_word token ts past (r.Command depth) w.SetTag _ _ (λ m q word more.
      let a = more.2 in let b = a.2 in let c = b.2 in let d = c.2 in
      by_cell m more.0 a.0 b.0 c.0 d.0 q a.1.0 d.1.0 word more.1 a.1.1 b.1 c.1 d.1.1 (last (s.sign r.Plain j.CloseParen) d.0 q d.2)) where
        by_cell : (p2 p3 p4 p5 p6 p7 q : Stage) (n : List ℕ) (x : t.TagExpression) → IsWord At (r.Command depth) w.SetTag p2
            → IsSign p2 r.Plain j.OpenParen p3 → IsName p3 r.Plain n p4
            → Cell p4 p5 → IsSign p5 r.Plain j.Comma p6 → g.Texpr p6 x p7 → IsSign p7 r.Plain j.CloseParen q → (c : t.SimpleCommand) × g.Simple depth At c q
        by_cell p2 p3 p4 p5 p6 p7 q n x word o name no_cell comma h z = (_, g.set_tag word o name comma h z)
        by_cell p2 p3 p4 p5 p6 p7 q n x word o name (cell b i e) comma h z = (_, g.set_cell_tag word o name b i e comma h z)

  keeps_goto : (depth : ℕ) → Kept (s.goto_next depth token.kind) (λ q. Lang (s.goto depth) At q)
  keeps_goto depth = after_word token ts past (r.Command depth) w.Goto _ _ (λ m q word more. let n = last (s.any_name r.Plain) m q more in (_, g.goto word n.1))

  keeps_fall : (depth : ℕ) → Kept (s.fall_next depth token.kind) (λ q. Lang (s.fall depth) At q)
  keeps_fall depth role σ e q more = (_, g.fall (keeps_word token ts past (r.Command depth) w.Fall role σ e q more))

  keeps_simple : (depth : ℕ) → Kept (s.simple_next depth token.kind) (λ q. Lang (s.simple depth) At q)
  keeps_simple depth =
      either (s.after_name (r.Command depth) (s.target ∷ []) token.kind)
      _ _ (after_name token ts past (r.Command depth) _ _ (λ m q n name more. last s.target m q more depth At n name))
      (either (s.set_tag_next depth token.kind) _ _ (keeps_set_tag depth) (either (s.goto_next depth token.kind) _ _ (keeps_goto depth) (keeps_fall depth)))

  keeps_target : Kept (s.target_next token.kind) (λ q. Lang s.target At q)
  keeps_target =
      either (s.after_sign r.Plain j.Becomes (s.expr ∷ []) token.kind) _ _
      (after_sign token ts past r.Plain j.Becomes _ (λ q. Lang s.target At q) (λ m q b more depth p1 n name. (_, g.assign name b (last s.expr m q more).1)))
      (after_sign token ts past r.Plain j.OpenBracket _ (λ q. Lang s.target At q) (λ m q o more depth p1 n name.
      let a = more.2 in let b = a.2 in (_, g.write name o more.1.1 a.1 b.1 (last s.expr b.0 q b.2).1)))

  keeps_cell_part : Kept (s.cell_part_next token.kind) (λ q. Lang s.cell_part At q)
  keeps_cell_part = maybe _ _ (after_sign token ts past r.Plain j.OpenBracket _ (λ q. Lang s.cell_part At q)
      (λ m q o more. cell o more.1.1 (last (s.sign r.Plain j.CloseBracket) more.0 q more.2)))

  keeps_if : (depth : ℕ) → Kept (s.if_next depth token.kind) (λ q. Lang (s.if_command depth) At q)
  keeps_if depth = after_word token ts past (r.Command depth) w.If _ _ (λ m q word more.
      let a = more.2 in let b = a.2 in let c = b.2 in
      (_, g.branch word more.1 a.1.1 b.1 c.1.1 (last (s.else_part (depth + 1)) c.0 q c.2).1))

  -- a number with or without a width
  keeps_constant : Kept (s.constant_next token.kind) (λ q. Lang s.constant At q)
  keeps_constant =
      either (s.number_next r.Plain token.kind) _ _ (λ role σ e q more. let n = keeps_number token ts past r.Plain role σ e q more in (_, g.plain n.1))
      (λ role σ e q more. let n = keeps_sized token ts past r.Plain role σ e q more in (_, g.wide n.2))

  keeps_constants : Kept (s.constants_next token.kind) (λ q. Lang s.constants At q)
  keeps_constants =
      maybe _ _ (after_sign token ts past r.Plain j.Comma _ (λ q. Lang s.constants At q) (λ m q comma more. let xs =
      last s.constants more.0 q more.2 in (_, g.constant comma more.1.1 xs.1)))

  keeps_arm : (depth : ℕ) → Kept (s.arm_next depth token.kind) (λ q. Lang (s.arm depth) At q)
  keeps_arm depth = more_of (s.constant_next token.kind) (s.constants ∷ s.sign r.Plain j.Colon ∷ s.block depth ∷ []) _ (λ q. Lang (s.arm depth) At q) keeps_constant
      (λ m q x more. let a = more.2 in let b = a.2 in (_, _, g.arm x.1 more.1.1 a.1 (last (s.block depth) a.0 q b).1))

  keeps_arms : (depth : ℕ) → Kept (s.arms_next depth token.kind) (λ q. Lang (s.arms depth) At q)
  keeps_arms depth =
      either (push (s.arm_next depth token.kind) (s.arms depth ∷ [])) _ _
      (more_of (s.arm_next depth token.kind) (s.arms depth ∷ []) _ (λ q. Lang (s.arms depth) At q) (keeps_arm depth)
      (λ m q a more. let rest = last (s.arms depth) m q more in (_, g.and_arm a.2 rest.1)))
      (after_word token ts past r.Plain w.Else _ (λ q. Lang (s.arms depth) At q) (λ m q word more. (_, g.last word (last (s.block depth) m q more).1)))

  keeps_case : (depth : ℕ) → Kept (s.case_next depth token.kind) (λ q. Lang (s.case_command depth) At q)
  keeps_case depth = after_word token ts past (r.Command depth) w.Case _ _ (λ m q word more.
      let a = more.2 in let b = a.2 in let c = b.2 in let d = c.2 in let e = d.2 in
      (_, g.case word more.1 a.1.1 b.1 c.1 d.1.2 e.1.1 (last (s.sign r.Plain j.CloseBrace) e.0 q e.2)))

  keeps_cmd : (depth : ℕ) → Kept (s.cmd_next depth token.kind) (λ q. Lang (s.cmd depth) At q)
  keeps_cmd depth =
      either (push (s.simple_next depth token.kind) (s.ending depth ∷ [])) _ _
      (more_of (s.simple_next depth token.kind) (s.ending depth ∷ []) _ (λ q. Lang (s.cmd depth) At q) (keeps_simple depth)
      (λ m q c more. last (s.ending depth) m q more At c.0 c.1))
      (either (s.if_next depth token.kind) _ _ (keeps_if depth) (keeps_case depth))

  keeps_ending : (depth : ℕ) → Kept (s.ending_next depth token.kind) (λ q. Lang (s.ending depth) At q)
  keeps_ending depth =
      either (s.sign_next r.Plain j.Semicolon token.kind) _ _ (λ role σ e q more p1 c h. (_, g.unhandled h (keeps_sign token ts past r.Plain j.Semicolon role σ e q more)))
      (either (s.after_word r.Plain w.Otherwise (s.block (depth + 1) ∷ []) token.kind) _ _
      (after_word token ts past r.Plain w.Otherwise _ (λ q. Lang (s.ending depth) At q) (λ m q word more p1 c h. (_, g.handled h word (last (s.block (depth + 1)) m q more).1)))
      (after_word token ts past r.Plain w.Then _ (λ q. Lang (s.ending depth) At q) (λ m q word more p1 c h.
      let a = more.2 in (_, g.decided h word more.1.1 a.1 (last (s.block (depth + 1)) a.0 q a.2).1))))

  keeps_else : (depth : ℕ) → Kept (s.else_next depth token.kind) (λ q. Lang (s.else_part depth) At q)
  keeps_else depth = maybe _ _ (after_word token ts past r.Plain w.Else _ (λ q. Lang (s.else_part depth) At q)
      (λ m q word more. (_, g.else word (last (s.block depth) m q more).1)))

  keeps_block : (depth : ℕ) → Kept (s.block_next depth token.kind) (λ q. Lang (s.block depth) At q)
  keeps_block depth = after_sign token ts past r.Plain j.OpenBrace _ _ (λ m q o more. (_, g.block o more.1.1 (last (s.sign r.Plain j.CloseBrace) more.0 q more.2)))

  keeps_cmds : (depth : ℕ) → Kept (s.cmds_next depth token.kind) (λ q. Lang (s.cmds depth) At q)
  keeps_cmds depth = maybe _ _ (more_of (s.cmd_next depth token.kind) (s.cmds depth ∷ []) _ (λ q. Lang (s.cmds depth) At q) (keeps_cmd depth)
      (λ m q c more. let cs = last (s.cmds depth) m q more in (_, g.cmd c.1 cs.1)))

  -- kinds and declarations

  keeps_authority : Kept (s.authority_next token.kind) (λ q. Lang s.authority At q)
  keeps_authority = maybe _ _ (after_word token ts past r.Plain w.Under _ (λ q. Lang s.authority At q)
      (λ m q word more. (_, g.authority word (last (s.any_name r.Plain) m q more).1)))

  keeps_enforced : Kept (s.enforced_next token.kind) (λ q. Lang s.enforced At q)
  keeps_enforced = after_word token ts past r.Plain w.Enforced _ _ (λ m q word more. (_, g.enforced word more.1.1 (last s.authority more.0 q more.2).1))

  keeps_kind : Kept (s.kind_next token.kind) (λ q. Lang s.kind_of At q)
  keeps_kind = either (s.word_next r.Plain w.Dynamic token.kind) _ _ (λ role σ e q more. (_, g.dynamic (keeps_word token ts past r.Plain w.Dynamic role σ e q more))) keeps_enforced

  keeps_initial : Kept (s.initial_next token.kind) (λ q. Lang s.initial At q)
  keeps_initial = maybe _ _ (after_sign token ts past r.Plain j.Is _ (λ q. Lang s.initial At q) (λ m q sign more. (_, g.initial sign (last (s.number r.Plain) m q more).1)))

  keeps_input : Kept (s.input_next token.kind) (λ q. Lang s.input At q)
  keeps_input = after_word token ts past r.Input w.Input _ _ (λ m q word more.
      let a = more.2 in let b = a.2 in (_, g.input word more.1.1 a.1 b.1.1 (last (s.sign r.Plain j.Semicolon) b.0 q b.2)))

  keeps_register : Kept (s.register_next token.kind) (λ q. Lang s.register At q)
  keeps_register = after_word token ts past r.Register w.Reg _ _ (λ m q word more.
      let a = more.2 in let b = a.2 in let c = b.2 in let d = c.2 in
      (_, g.register word more.1.1 a.1 b.1.1 c.1.1 d.1.1 (last (s.sign r.Plain j.Semicolon) d.0 q d.2)))

  keeps_memory : Kept (s.memory_next token.kind) (λ q. Lang s.memory At q)
  keeps_memory = after_word token ts past r.Memory w.Mem _ _ (λ m q word more.
      let a = more.2 in let b = a.2 in let c = b.2 in let d = c.2 in let e = d.2 in let f = e.2 in
      (_, g.memory word more.1.1 a.1 b.1.1 c.1 d.1.1 e.1 f.1.1 (last (s.sign r.Plain j.Semicolon) f.0 q f.2)))

  keeps_declaration : Kept (s.declaration_next token.kind) (λ q. Lang s.declaration At q)
  keeps_declaration = either (s.input_next token.kind) _ _ keeps_input (either (s.register_next token.kind) _ _ keeps_register keeps_memory)

  keeps_declarations : Kept (s.declarations_next token.kind) (λ q. Lang s.declarations At q)
  keeps_declarations = maybe _ _ (more_of (s.declaration_next token.kind) (s.declarations ∷ []) _ (λ q. Lang s.declarations At q) keeps_declaration
      (λ m q d more. let ds = last s.declarations m q more in (_, g.declaration d.1 ds.1)))

  -- states

  keeps_state : (depth : ℕ) → Kept (s.state_next depth token.kind) (λ q. Lang (s.state depth) At q)
  keeps_state depth = after_word token ts past (r.State depth) w.State _ _ (λ m q word more.
      let a = more.2 in let b = a.2 in let c = b.2 in let d = c.2 in
      (_, g.state word more.1.1 a.1.1 b.1 c.1.1 d.1.1 (last (s.sign r.Plain j.CloseBrace) d.0 q d.2)))

  keeps_states : (depth : ℕ) → Kept (s.states_next depth token.kind) (λ q. Lang (s.states depth) At q)
  keeps_states depth = maybe _ _ (more_of (s.state_next depth token.kind) (s.states depth ∷ []) _ (λ q. Lang (s.states depth) At q) (keeps_state depth)
      (λ m q x more. let xs = last (s.states depth) m q more in (_, g.and_state x.1 xs.1)))

  keeps_last_states : Kept (s.last_states_next token.kind) (λ q. Lang s.last_states At q)
  keeps_last_states = more_of (s.state_next 1 token.kind) (s.last_states ∷ []) _ (λ q. Lang s.last_states At q) (keeps_state 1)
      (λ m q x more. let xs = last s.last_states m q more in (_, g.and_state x.1 xs.1))

  keeps_header : Kept (s.header_next token.kind) (λ q. Lang s.header At q)
  keeps_header = maybe _ _ (after_word token ts past r.Plain w.Sapper _ (λ q. Lang s.header At q)
      (λ m q word more. (_, g.header word more.1 (last (s.sign r.Plain j.Semicolon) more.0 q more.2))))

  keeps_design : Kept (next s.design token.kind) (λ q. Lang s.design At q)
  keeps_design role σ e q more =
      let all = keeps_firsts token ts past (s.part_next token.kind) design_symbols (
        element token ts past (s.part_next token.kind) s.header keeps_header (λ e. nothing s.header refl At),
        (
          element token ts past (s.part_next token.kind) s.declarations keeps_declarations (λ e. nothing s.declarations refl At),
          (
            element token ts past (s.part_next token.kind) (s.state 1) (keeps_state 1)
                (λ e. absurd (push_full (next (s.word (r.State 1) w.State) token.kind) _ (word_full leniently (r.State 1) w.State token.kind) e)),
            (element token ts past (s.part_next token.kind) s.last_states keeps_last_states (λ e. nothing s.last_states refl At), tt),
          ),
        ),
      )
      role σ e q more in
      let parts = all.2 in
      (_, g.design all.1.1 parts.1.1 parts.2.1.1 (last s.last_states parts.2.0 q parts.2.2).1)

  -- each symbol
  pub keeps : (x : Symbol) → Kept (next x token.kind) (λ q. Lang x At q)
  keeps (s.sign role x) = keeps_sign token ts past role x
  keeps (s.word role x) = keeps_word token ts past role x
  keeps (s.any_name role) = keeps_name token ts past role
  keeps (s.number role) = keeps_number token ts past role
  keeps (s.sized role) = keeps_sized token ts past role
  keeps s.expr = keeps_expr token ts past
  keeps s.choice = keeps_choice token ts past
  keeps s.unary = keeps_unary token ts past
  keeps s.post = keeps_post token ts past
  keeps s.prim = keeps_prim token ts past
  keeps s.paren = keeps_paren token ts past
  keeps s.braces = keeps_braces token ts past
  keeps s.zext = keeps_zext token ts past
  keeps s.behind_name = keeps_after_name token ts past
  keeps s.behind_bracket = keeps_after_bracket token ts past
  keeps s.behind_number = keeps_after_number token ts past
  keeps s.slices = keeps_slices token ts past
  keeps s.slice = keeps_slice token ts past
  keeps s.parts = keeps_parts
  keeps (s.bin l) = keeps_bin token ts past l
  keeps (s.tail l) = keeps_tail token ts past l
  keeps s.texpr = keeps_texpr
  keeps s.tag_of = keeps_tag_of
  keeps s.level_at = keeps_level_at
  keeps s.join = keeps_join
  keeps s.texprs = keeps_texprs
  keeps (s.simple depth) = keeps_simple depth
  keeps (s.set_tag depth) = keeps_set_tag depth
  keeps (s.goto depth) = keeps_goto depth
  keeps (s.fall depth) = keeps_fall depth
  keeps s.target = keeps_target
  keeps s.cell_part = keeps_cell_part
  keeps (s.cmd depth) = keeps_cmd depth
  keeps (s.if_command depth) = keeps_if depth
  keeps (s.case_command depth) = keeps_case depth
  keeps (s.arm depth) = keeps_arm depth
  keeps (s.arms depth) = keeps_arms depth
  keeps s.constant = keeps_constant
  keeps s.constants = keeps_constants
  keeps (s.ending depth) = keeps_ending depth
  keeps (s.else_part depth) = keeps_else depth
  keeps (s.block depth) = keeps_block depth
  keeps (s.cmds depth) = keeps_cmds depth
  keeps s.authority = keeps_authority
  keeps s.kind_of = keeps_kind
  keeps s.enforced = keeps_enforced
  keeps s.initial = keeps_initial
  keeps s.declaration = keeps_declaration
  keeps s.input = keeps_input
  keeps s.register = keeps_register
  keeps s.memory = keeps_memory
  keeps s.declarations = keeps_declarations
  keeps (s.state depth) = keeps_state depth
  keeps (s.states depth) = keeps_states depth
  keeps s.last_states = keeps_last_states
  keeps s.header = keeps_header
  keeps s.design = keeps_design
