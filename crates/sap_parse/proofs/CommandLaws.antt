-- What the symbols of commands read.
use Rattle.std.proofs.Common.{◌≡◌, ◌≢◌, ℕ, List, [], ◌∷◌, Bool, true, false, Ok, Err, refl, ◌∙◌}
use Rattle.sap_parse.specs.Choices.{command_head, is_constant, primary_of}
use Rattle.sap_parse.specs.Reading.{Enter, ahead, ahead_of, read_by, steps_by}
use Rattle.sap_parse.specs.Stages.{Stage}
use Rattle.sap_parse.specs.Table as s
use Rattle.sap_parse.specs.Table.{Row, next}
use Rattle.sap_parse.specs.declared.choice.CommandHead.TheVariants as h
use Rattle.sap_parse.specs.declared.choice.CommandHead.{CommandHead}
use Rattle.sap_parse.specs.declared.choice.Primary.TheVariants as v
use Rattle.sap_parse.specs.declared.choice.Primary.{Primary}
use Rattle.sap_parse.specs.declared.cursor.Ahead.TheVariants as a
use Rattle.sap_parse.specs.declared.role.Role.TheVariants as r
use Rattle.sap_lex.specs.declared.token.Kind.TheVariants as k
use Rattle.sap_lex.specs.declared.token.Kind.{Kind}
use Rattle.sap_lex.specs.declared.token.Sign.TheVariants as j
use Rattle.sap_lex.specs.declared.token.Token.{Token}
use Rattle.sap_tree.specs.declared.word.Word.TheVariants as w
use Rattle.sap_parse.proofs.Laws.{at_sign, at_word, chosen_row, same_if, sign_missing, sign_then, sign_there, skips, step_if, step_more, stops, word_missing, word_then}
use Rattle.sap_parse.proofs.Single.{ahead_back}
use Rattle.sap_walk.specs.Rows.{push}
use Rattle.sap_walk.specs.Walk.{empty_here, cannot_stand, at_token}
use Rattle.sap_walk.proofs.Walking.{bind_pure}

-- commands, by what the reader chooses

abbrev simple_row : ℕ → CommandHead → Kind → Row
simple_row depth h.Name = λ i. push (next (s.any_name (r.Command depth)) i) (s.target ∷ [])
simple_row depth h.SetTag = next (s.set_tag depth)
simple_row depth h.Goto = next (s.goto depth)
simple_row depth h.Fall = next (s.word (r.Command depth) w.Fall)
simple_row depth _ = λ i. cannot_stand

simple_rows : (depth : ℕ) (i : Kind) → next (s.simple depth) i ≡ simple_row depth (command_head (ahead_of i)) i
unfolding command_head
simple_rows depth (k.Word w.Goto) = refl
simple_rows depth _ = refl

abbrev cmds_row : ℕ → CommandHead → Kind → Row
cmds_row depth h.Neither = λ i. empty_here
cmds_row depth _ = λ i. push (next (s.cmd depth) i) (s.cmds depth ∷ [])

cmds_rows : (depth : ℕ) (i : Kind) → next (s.cmds depth) i ≡ cmds_row depth (command_head (ahead_of i)) i
unfolding command_head
cmds_rows depth (k.Word w.Goto) = refl
cmds_rows depth _ = refl

some_cmd : (depth : ℕ) (x : CommandHead) (i : Kind) → x ≢ h.Neither → cmds_row depth x i ≡ push (next (s.cmd depth) i) (s.cmds depth ∷ [])
some_cmd depth h.Neither i ne = absurd (ne refl)
some_cmd depth _ i ne = refl

-- constants and arms, by what the reader chooses

abbrev constant_row : Primary → Kind → Row
constant_row v.Number = next (s.number r.Plain)
constant_row v.Sized = next (s.sized r.Plain)
constant_row _ = λ i. cannot_stand

constant_rows : (i : Kind) → next s.constant i ≡ constant_row (primary_of (ahead_of i)) i
unfolding primary_of
constant_rows (k.Sign j.OpenParen) = refl
constant_rows (k.Word w.Zext) = refl
constant_rows _ = refl

abbrev arms_row : ℕ → Bool → Kind → Row
arms_row depth true = λ i. push (next (s.arm depth) i) (s.arms depth ∷ [])
arms_row depth false = λ i. push (next (s.word r.Plain w.Else) i) (s.block depth ∷ [])

arms_rows : (depth : ℕ) (i : Kind) → next (s.arms depth) i ≡ arms_row depth (is_constant (primary_of (ahead_of i))) i
unfolding primary_of
arms_rows depth (k.Sign j.OpenParen) = refl
arms_rows depth (k.Word w.Zext) = refl
arms_rows depth _ = refl

module _ (enter : Enter) where
  -- straight productions

  pub goto_steps : (depth : ℕ) (p : Stage) → read_by enter (s.goto depth) p ≡ steps_by enter (s.word (r.Command depth) w.Goto ∷ s.any_name r.Plain ∷ []) p
  goto_steps depth = word_then enter (s.goto depth) (r.Command depth) w.Goto _ (λ i. refl) refl

  pub block_steps : (depth : ℕ) (p : Stage) → read_by enter (s.block depth) p ≡ steps_by enter (s.sign r.Plain j.OpenBrace ∷ s.cmds depth ∷ s.sign r.Plain j.CloseBrace ∷ []) p
  block_steps depth = sign_then enter (s.block depth) r.Plain j.OpenBrace _ (λ i. refl) refl

  -- what may be left out

  pub cell_part_missing : (p : Stage) → ahead p.left ≢ a.Sign j.OpenBracket → read_by enter s.cell_part p ≡ Ok p
  cell_part_missing = sign_missing enter s.cell_part r.Plain j.OpenBracket _ (λ i. refl) refl

  pub else_missing : (depth : ℕ) (p : Stage) → ahead p.left ≢ a.Word w.Else → read_by enter (s.else_part depth) p ≡ Ok p
  else_missing depth = word_missing enter (s.else_part depth) r.Plain w.Else _ (λ i. refl) refl

  -- behind the name of an assignment or a write

  pub target_write : (p : Stage) → ahead p.left ≡ a.Sign j.OpenBracket
      → read_by enter s.target p ≡ steps_by enter (s.sign r.Plain j.OpenBracket ∷ s.expr ∷ s.sign r.Plain j.CloseBracket ∷ s.sign r.Plain j.Becomes ∷ s.expr ∷ []) p
  target_write = at_sign enter s.target (s.sign r.Plain j.OpenBracket) _ j.OpenBracket refl refl

  assign_row : (i : Kind) → ahead_of i ≢ a.Sign j.OpenBracket → s.target_next i ≡ push (next (s.sign r.Plain j.Becomes) i) (s.expr ∷ [])
  assign_row (k.Sign j.OpenBracket) ne = absurd (ne refl)
  assign_row _ ne = refl

  pub target_assign : (p : Stage) → ahead p.left ≢ a.Sign j.OpenBracket → read_by enter s.target p ≡ steps_by enter (s.sign r.Plain j.Becomes ∷ s.expr ∷ []) p
  target_assign p ne = step_if enter s.target (s.sign r.Plain j.Becomes) (s.expr ∷ []) refl refl p (λ t ts left. assign_row t.kind (λ h. ne (ahead_back t ts h left)))

  -- behind a command that can have a handler

  unhandled_row : (depth : ℕ) (i : Kind) → ahead_of i ≢ a.Word w.Otherwise → ahead_of i ≢ a.Word w.Then → s.ending_next depth i ≡ next (s.sign r.Plain j.Semicolon) i
  unhandled_row depth (k.Sign j.Semicolon) ne nt = refl
  unhandled_row depth (k.Word w.Otherwise) ne nt = absurd (ne refl)
  unhandled_row depth (k.Word w.Then) ne nt = absurd (nt refl)
  unhandled_row depth _ ne nt = refl

  pub ending_unhandled : (depth : ℕ) (p : Stage) → ahead p.left ≢ a.Word w.Then → ahead p.left ≢ a.Word w.Otherwise
      → read_by enter (s.ending depth) p ≡ read_by enter (s.sign r.Plain j.Semicolon) p
  ending_unhandled depth p nt ne = same_if enter (s.ending depth) (s.sign r.Plain j.Semicolon) refl refl p
      (λ t ts left. unhandled_row depth t.kind (λ h. ne (ahead_back t ts h left)) (λ h. nt (ahead_back t ts h left)))

  -- choices by the first token

  chosen : (depth : ℕ) (x : CommandHead) (p : Stage) → command_head (ahead p.left) ≡ x
      → (t : Token) (ts : List Token) → p.left ≡ t ∷ ts → next (s.simple depth) t.kind ≡ simple_row depth x t.kind
  chosen depth = chosen_row enter command_head (simple_row depth) (s.simple depth) (simple_rows depth)

  pub simple_name : (depth : ℕ) (p : Stage) → command_head (ahead p.left) ≡ h.Name
      → read_by enter (s.simple depth) p ≡ steps_by enter (s.any_name (r.Command depth) ∷ s.target ∷ []) p
  simple_name depth p e = step_if enter (s.simple depth) (s.any_name (r.Command depth)) (s.target ∷ []) refl refl p (chosen depth h.Name p e)

  pub simple_set_tag : (depth : ℕ) (p : Stage) → command_head (ahead p.left) ≡ h.SetTag → read_by enter (s.simple depth) p ≡ read_by enter (s.set_tag depth) p
  simple_set_tag depth p e = same_if enter (s.simple depth) (s.set_tag depth) refl refl p (chosen depth h.SetTag p e)

  pub simple_goto : (depth : ℕ) (p : Stage) → command_head (ahead p.left) ≡ h.Goto → read_by enter (s.simple depth) p ≡ read_by enter (s.goto depth) p
  simple_goto depth p e = same_if enter (s.simple depth) (s.goto depth) refl refl p (chosen depth h.Goto p e)

  pub simple_fall : (depth : ℕ) (p : Stage) → command_head (ahead p.left) ≡ h.Fall → read_by enter (s.simple depth) p ≡ read_by enter (s.word (r.Command depth) w.Fall) p
  simple_fall depth p e = same_if enter (s.simple depth) (s.word (r.Command depth) w.Fall) refl refl p (chosen depth h.Fall p e)

  pub simple_if : (depth : ℕ) (p : Stage) → command_head (ahead p.left) ≡ h.If → read_by enter (s.simple depth) p ≡ Err (at_token p)
  simple_if depth p e = stops enter (s.simple depth) refl p (chosen depth h.If p e)

  pub simple_case : (depth : ℕ) (p : Stage) → command_head (ahead p.left) ≡ h.Case → read_by enter (s.simple depth) p ≡ Err (at_token p)
  simple_case depth p e = stops enter (s.simple depth) refl p (chosen depth h.Case p e)

  pub simple_neither : (depth : ℕ) (p : Stage) → command_head (ahead p.left) ≡ h.Neither → read_by enter (s.simple depth) p ≡ Err (at_token p)
  simple_neither depth p e = stops enter (s.simple depth) refl p (chosen depth h.Neither p e)

  -- a command, and lists of them

  pub cmd_if : (depth : ℕ) (p : Stage) → ahead p.left ≡ a.Word w.If → read_by enter (s.cmd depth) p ≡ read_by enter (s.if_command depth) p
  cmd_if depth p e = at_word enter (s.cmd depth) (s.if_command depth) [] w.If refl refl p e ∙ bind_pure (read_by enter (s.if_command depth) p)

  pub cmd_case : (depth : ℕ) (p : Stage) → ahead p.left ≡ a.Word w.Case → read_by enter (s.cmd depth) p ≡ read_by enter (s.case_command depth) p
  cmd_case depth p e = at_word enter (s.cmd depth) (s.case_command depth) [] w.Case refl refl p e ∙ bind_pure (read_by enter (s.case_command depth) p)

  no_choice_row : (depth : ℕ) (i : Kind) → ahead_of i ≢ a.Word w.If → ahead_of i ≢ a.Word w.Case → s.cmd_next depth i ≡ push (s.simple_next depth i) (s.ending depth ∷ [])
  no_choice_row depth (k.Word w.If) ne nc = absurd (ne refl)
  no_choice_row depth (k.Word w.Case) ne nc = absurd (nc refl)
  no_choice_row depth _ ne nc = refl

  pub cmd_simple : (depth : ℕ) (p : Stage) → ahead p.left ≢ a.Word w.If → ahead p.left ≢ a.Word w.Case
      → read_by enter (s.cmd depth) p ≡ steps_by enter (s.simple depth ∷ s.ending depth ∷ []) p
  cmd_simple depth p ne nc = step_if enter (s.cmd depth) (s.simple depth) (s.ending depth ∷ []) refl refl p
      (λ t ts left. no_choice_row depth t.kind (λ h. ne (ahead_back t ts h left)) (λ h. nc (ahead_back t ts h left)))

  chosen_cmds : (depth : ℕ) (x : CommandHead) (p : Stage) → command_head (ahead p.left) ≡ x
      → (t : Token) (ts : List Token) → p.left ≡ t ∷ ts → next (s.cmds depth) t.kind ≡ cmds_row depth x t.kind
  chosen_cmds depth = chosen_row enter command_head (cmds_row depth) (s.cmds depth) (cmds_rows depth)

  pub cmds_there : (depth : ℕ) (p : Stage) → command_head (ahead p.left) ≢ h.Neither → read_by enter (s.cmds depth) p ≡ steps_by enter (s.cmd depth ∷ s.cmds depth ∷ []) p
  unfolding command_head
  cmds_there depth p ne = step_more enter command_head (s.cmds depth) (s.cmd depth) (s.cmds depth ∷ []) refl p ne
      (λ t ts left. chosen_cmds depth _ p refl t ts left ∙ some_cmd depth (command_head (ahead p.left)) t.kind ne)

  pub cmds_missing : (depth : ℕ) (p : Stage) → command_head (ahead p.left) ≡ h.Neither → read_by enter (s.cmds depth) p ≡ Ok p
  cmds_missing depth p e = skips enter (s.cmds depth) refl p (chosen_cmds depth h.Neither p e)

  -- constants and arms

  chosen_constant : (x : Primary) (p : Stage) → primary_of (ahead p.left) ≡ x → (t : Token) (ts : List Token) → p.left ≡ t ∷ ts → next s.constant t.kind ≡ constant_row x t.kind
  chosen_constant = chosen_row enter primary_of constant_row s.constant constant_rows

  pub constant_number : (p : Stage) → primary_of (ahead p.left) ≡ v.Number → read_by enter s.constant p ≡ read_by enter (s.number r.Plain) p
  constant_number p e = same_if enter s.constant (s.number r.Plain) refl refl p (chosen_constant v.Number p e)

  pub constant_sized : (p : Stage) → primary_of (ahead p.left) ≡ v.Sized → read_by enter s.constant p ≡ read_by enter (s.sized r.Plain) p
  constant_sized p e = same_if enter s.constant (s.sized r.Plain) refl refl p (chosen_constant v.Sized p e)

  pub constant_paren : (p : Stage) → primary_of (ahead p.left) ≡ v.Paren → read_by enter s.constant p ≡ Err (at_token p)
  constant_paren p e = stops enter s.constant refl p (chosen_constant v.Paren p e)

  pub constant_braces : (p : Stage) → primary_of (ahead p.left) ≡ v.Braces → read_by enter s.constant p ≡ Err (at_token p)
  constant_braces p e = stops enter s.constant refl p (chosen_constant v.Braces p e)

  pub constant_zext : (p : Stage) → primary_of (ahead p.left) ≡ v.Zext → read_by enter s.constant p ≡ Err (at_token p)
  constant_zext p e = stops enter s.constant refl p (chosen_constant v.Zext p e)

  pub constant_neither : (p : Stage) → primary_of (ahead p.left) ≡ v.Neither → read_by enter s.constant p ≡ Err (at_token p)
  constant_neither p e = stops enter s.constant refl p (chosen_constant v.Neither p e)

  pub constants_there : (p : Stage) → ahead p.left ≡ a.Sign j.Comma → read_by enter s.constants p ≡ steps_by enter (s.sign r.Plain j.Comma ∷ s.constant ∷ s.constants ∷ []) p
  constants_there = sign_there enter s.constants r.Plain j.Comma _ (λ i. refl)

  pub constants_missing : (p : Stage) → ahead p.left ≢ a.Sign j.Comma → read_by enter s.constants p ≡ Ok p
  constants_missing = sign_missing enter s.constants r.Plain j.Comma _ (λ i. refl) refl

  chosen_arms : (depth : ℕ) (x : Bool) (p : Stage) → is_constant (primary_of (ahead p.left)) ≡ x
      → (t : Token) (ts : List Token) → p.left ≡ t ∷ ts → next (s.arms depth) t.kind ≡ arms_row depth x t.kind
  chosen_arms depth = chosen_row enter (λ x. is_constant (primary_of x)) (arms_row depth) (s.arms depth) (arms_rows depth)

  pub arms_there : (depth : ℕ) (p : Stage) → is_constant (primary_of (ahead p.left)) ≡ true → read_by enter (s.arms depth) p ≡ steps_by enter (s.arm depth ∷ s.arms depth ∷ []) p
  arms_there depth p e = step_if enter (s.arms depth) (s.arm depth) (s.arms depth ∷ []) refl refl p (chosen_arms depth true p e)

  pub arms_last : (depth : ℕ) (p : Stage) → is_constant (primary_of (ahead p.left)) ≡ false
      → read_by enter (s.arms depth) p ≡ steps_by enter (s.word r.Plain w.Else ∷ s.block depth ∷ []) p
  arms_last depth p e = step_if enter (s.arms depth) (s.word r.Plain w.Else) (s.block depth ∷ []) refl refl p (chosen_arms depth false p e)
