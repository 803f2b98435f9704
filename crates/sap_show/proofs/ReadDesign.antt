-- Where the pieces of a tag expression, a command, a state or a design stand, the grammar reads it, places aside.
use Rattle.sap_lemmas.proofs.Common.{◌≡◌, ◌+◌, ℕ, zero, suc, List, [], ◌∷◌, true, false, refl, ap, ◌∙◌, subst, Option, Some, None, nat_le, ◌&&◌, map, list_all, and_parts}
use Rattle.sap_tree.proofs.SyntaxLemmas.{expression_of_outermost, tag_of_outermost}
use Rattle.sap_parse.specs.Grammar as g
use Rattle.sap_parse.specs.Stages.{Stage, here, spot_here, mention, numeral}
use Rattle.sap_parse.specs.declared.role.Role.TheVariants as r
use Rattle.sap_lex.specs.declared.token.Sign.TheVariants as s
use Rattle.sap_tree.specs.declared.word.Word.TheVariants as w
use Rattle.sap_show.proofs.Pieces.{Piece, space, line, sign, word, name, expression, tag, tags, more_tags, constant, more_constants, constants, simple, margin, command, arms, block, else_part, commands, authority, kind, start, declaration, declarations, state, states, header, design}
use Rattle.sap_show.proofs.ReadBack.{Stand, ReadsBack, ReadsTwo, expression_reads, as_expression}
use Rattle.sap_tree.specs.Prelude.{nowhere, bare_expression, bare_expressions, bare_tag, bare_tags, bare_simple, bare_command, bare_block, bare_else, bare_arms, bare_list, bare_authority, bare_kind, bare_start, bare_declaration, bare_state, bare_states, bare, most_arms, most_blocks, Expression, literal, sized_literal, Expressions, no_part, and_part, TagExpression, TagExpressions, level_of, tag_at, level_at, join_of, no_tag, and_tag, SimpleCommand, assign, write, set_tag, set_cell_tag, go_to, fall_to_child, Command, lone, try, if_else, try_then, case_of, Arms, last_arm, and_arm, CommandBlock, command_block, ElseBlock, no_else, with_else, CommandList, no_command, and_command, StateTree, state_node, StateList, no_state, and_state, DesignTree, is_tag, are_tags, has_two_tags, is_outermost, is_outermost_tag, is_simple, is_command, is_block, is_else, is_constant, are_constants, has_constant, arm_count, are_arms, are_commands, is_kind, is_state, are_states, has_state, block_depth, is_tree, is_declaration, is_name, is_second}
use Rattle.sap_tree.specs.declared.syntax.Decl.{Decl}
use Rattle.sap_tree.specs.declared.syntax.Kind.{Kind as KindTree}
use Rattle.sap_tree.specs.declared.syntax.Numeral.{Numeral}
use Rattle.sap_tree.specs.declared.syntax.Under.{Under}
use Rattle.sap_tree.specs.declared.version.Version.TheVariants.{One, Two}
use Rattle.sap_tree.specs.declared.version.Version.{Version}
use Rattle.sap_tree.specs.Bare.{bare_name, bare_number}
use Rattle.sap_tree.specs.declared.syntax.Decl.TheVariants as d
use Rattle.sap_tree.specs.declared.syntax.Kind.TheVariants as how

mutual
  unfolding bare_tag is_tag

  pub tag_reads : (version : Version) (x : TagExpression) → is_tag version x ≡ true → (rest : List Piece) (p q : Stage)
      → Stand (tag x rest) p q → ReadsBack bare_tag g.Texpr x rest p q
  tag_reads version (level_of n) h rest p q o =
      record { tree = level_of (mention p n.name); same = refl; end = o.0; read = g.level o.1; follow = o.2 }
  tag_reads version (tag_at place x) h rest p q o =
      let i = o.2 in
      let a = expression_reads version x h (sign r.Closing s.CloseParen ∷ rest) i.0 q i.2 in
      record {
        tree = tag_at (here p) a.tree;
        same = ap (λ z. tag_at nowhere z) a.same;
        end = a.follow.0;
        read = g.tag_of o.1 i.1 (as_expression a.read) a.follow.1;
        follow = a.follow.2;
      }
  tag_reads version (level_at place x) h rest p q o =
      let i = o.2 in
      let a = expression_reads version x h (sign r.Closing s.CloseParen ∷ rest) i.0 q i.2 in
      record {
        tree = level_at (here p) a.tree;
        same = ap (λ z. level_at nowhere z) a.same;
        end = a.follow.0;
        read = g.level_at o.1 i.1 (as_expression a.read) a.follow.1;
        follow = a.follow.2;
      }
  tag_reads version (join_of place xs) h rest p q o =
      let e = and_parts (has_two_tags xs) (are_tags version xs) h in
      let i = o.2 in
      let a = two_read version xs e.0 e.1 (sign r.Closing s.CloseParen ∷ rest) i.0 q i.2 in
      record {
        tree = join_of (here p) (and_tag a.first (and_tag a.second a.others));
        same = ap (λ z. join_of nowhere z) a.same;
        end = a.follow.0;
        read = g.join o.1 i.1 a.one a.comma a.two a.more a.follow.1;
        follow = a.follow.2;
      }

  two_read : (version : Version) (xs : TagExpressions) → has_two_tags xs ≡ true → are_tags version xs ≡ true
      → (rest : List Piece) (p q : Stage) → Stand (tags xs rest) p q → ReadsTwo and_tag bare_tags g.Texpr g.Texprs xs rest p q
  two_read version no_tag t h rest p q o = absurd (cc)
  two_read version (and_tag x no_tag) t h rest p q o = absurd (cc)
  two_read version (and_tag x (and_tag y xs)) t h rest p q o =
      let e = and_parts (is_tag version x) (are_tags version (and_tag y xs)) h in
      let f = and_parts (is_tag version y) (are_tags version xs) e.1 in
      let a = tag_reads version x e.0 (more_tags (and_tag y xs) rest) p q o in
      let i = a.follow in
      let v = tag_reads version y f.0 (more_tags xs rest) i.0 q i.2 in
      let l = tags_read version xs f.1 rest v.end q v.follow in
      record {
        first = a.tree;
        second = v.tree;
        others = l.tree;
        same = ap (λ z. and_tag z (and_tag (bare_tag v.tree) (bare_tags l.tree))) a.same
            ∙ ap (λ z. and_tag (bare_tag x) (and_tag z (bare_tags l.tree))) v.same ∙ ap (λ z. and_tag (bare_tag x) (and_tag (bare_tag y) z)) l.same;
        before = a.end;
        after = i.0;
        behind = v.end;
        end = l.end;
        one = a.read;
        comma = i.1;
        two = v.read;
        more = l.read;
        follow = l.follow;
      }

  tags_read : (version : Version) (xs : TagExpressions) → are_tags version xs ≡ true → (rest : List Piece) (p q : Stage)
      → Stand (more_tags xs rest) p q → ReadsBack bare_tags g.Texprs xs rest p q
  tags_read version no_tag h rest p q o = record { tree = no_tag; same = refl; end = p; read = g.no_tag; follow = o }
  tags_read version (and_tag x xs) h rest p q o =
      let e = and_parts (is_tag version x) (are_tags version xs) h in
      let a = tag_reads version x e.0 (more_tags xs rest) o.0 q o.2 in
      let l = tags_read version xs e.1 rest a.end q a.follow in
      record {
        tree = and_tag a.tree l.tree;
        same = ap (λ z. and_tag z (bare_tags l.tree)) a.same ∙ ap (λ z. and_tag (bare_tag x) z) l.same;
        end = l.end;
        read = g.tag o.1 a.read l.read;
        follow = l.follow;
      }

-- an expression or a tag expression that stands in no other

simple_reads : (version : Version) (depth : ℕ) (c : SimpleCommand) → is_simple version c ≡ true → (rest : List Piece) (p q : Stage)
    → Stand (simple depth c rest) p q → ReadsBack bare_simple (g.Simple depth) c rest p q
unfolding bare_simple is_simple
simple_reads version depth (assign n x) h rest p q o =
    let i = o.2 in
    let a = expression_reads version x (expression_of_outermost version x (and_parts (is_name version n.name) (is_outermost version x) h).1) rest i.0 q i.2 in
    record {
      tree = assign (mention p n.name) a.tree;
      same = ap (λ z. assign (bare_name n) z) a.same;
      end = a.end;
      read = g.assign o.1 i.1 (as_expression a.read);
      follow = a.follow;
    }
simple_reads version depth (write n y x) h rest p q o =
    let e = and_parts (is_name version n.name && is_outermost version y) (is_outermost version x) h in
    let f = and_parts (is_name version n.name) (is_outermost version y) e.0 in
    let i = o.2 in
    let a = expression_reads version y (expression_of_outermost version y f.1) (sign r.Plain s.CloseBracket ∷ space ∷ sign r.Plain s.Becomes
    ∷ space ∷ expression x rest) i.0 q i.2 in
    let j = a.follow in
    let l = j.2 in
    let v = expression_reads version x (expression_of_outermost version x e.1) rest l.0 q l.2 in
    record {
      tree = write (mention p n.name) a.tree v.tree;
      same = ap (λ z. write (bare_name n) z (bare_expression v.tree)) a.same ∙ ap (λ z. write (bare_name n) (bare_expression y) z) v.same;
      end = v.end;
      read = g.write o.1 i.1 (as_expression a.read) j.1 l.1 (as_expression v.read);
      follow = v.follow;
    }
simple_reads version depth (set_tag place n x) h rest p q o =
    let i = o.2 in let j = i.2 in let l = j.2 in
    let a = tag_reads version x (tag_of_outermost version x (and_parts (is_name version n.name) (is_outermost_tag version x) h).1) (sign r.Plain s.CloseParen ∷ rest) l.0 q l.2 in
    record {
      tree = set_tag (here p) (mention i.0 n.name) a.tree;
      same = ap (λ z. set_tag nowhere (bare_name n) z) a.same;
      end = a.follow.0;
      read = g.set_tag o.1 i.1 j.1 l.1 a.read a.follow.1;
      follow = a.follow.2;
    }
simple_reads version depth (set_cell_tag place n y x) h rest p q o =
    let e = and_parts (is_name version n.name && is_outermost version y) (is_outermost_tag version x) h in
    let f = and_parts (is_name version n.name) (is_outermost version y) e.0 in
    let i = o.2 in let j = i.2 in let l = j.2 in
    let a = expression_reads version y (expression_of_outermost version y f.1) (sign r.Plain s.CloseBracket ∷ sign r.Plain s.Comma ∷ space
    ∷ tag x (sign r.Plain s.CloseParen ∷ rest)) l.0 q l.2 in
    let m = a.follow in let u = m.2 in
    let v = tag_reads version x (tag_of_outermost version x e.1) (sign r.Plain s.CloseParen ∷ rest) u.0 q u.2 in
    record {
      tree = set_cell_tag (here p) (mention i.0 n.name) a.tree v.tree;
      same = ap (λ z. set_cell_tag nowhere (bare_name n) z (bare_tag v.tree)) a.same ∙ ap (λ z. set_cell_tag nowhere (bare_name n) (bare_expression y) z) v.same;
      end = v.follow.0;
      read = g.set_cell_tag o.1 i.1 j.1 l.1 (as_expression a.read) m.1 u.1 v.read v.follow.1;
      follow = v.follow.2;
    }
simple_reads version depth (go_to place n) h rest p q o =
    let i = o.2 in
    record { tree = go_to (here p) (mention o.0 n.name); same = refl; end = i.0; read = g.goto o.1 i.1; follow = i.2 }
simple_reads version depth (fall_to_child place) h rest p q o = record { tree = fall_to_child (here p); same = refl; end = o.0; read = g.fall o.1; follow = o.2 }

-- constants

constant_reads : (x : Expression) → is_constant x ≡ true → (rest : List Piece) (p q : Stage) → Stand (constant x rest) p q → ReadsBack bare_expression g.Constant x rest p q
unfolding bare_expression
constant_reads (literal spot n) h rest p q o = record { tree = literal (spot_here p) n; same = refl; end = o.0; read = g.plain o.1; follow = o.2 }
constant_reads (sized_literal spot width n) h rest p q o = record { tree = sized_literal (spot_here p) width n; same = refl; end = o.0; read = g.wide o.1; follow = o.2 }
constant_reads _ h rest p q o = absurd (cc)

constants_read : (xs : Expressions) → are_constants xs ≡ true → (rest : List Piece) (p q : Stage)
    → Stand (more_constants xs rest) p q → ReadsBack bare_expressions g.Constants xs rest p q
unfolding bare_expression
constants_read no_part h rest p q o = record { tree = no_part; same = refl; end = p; read = g.no_constant; follow = o }
constants_read (and_part x xs) h rest p q o =
    let e = and_parts (is_constant x) (are_constants xs) h in
    let a = constant_reads x e.0 (more_constants xs rest) o.0 q o.2 in
    let v = constants_read xs e.1 rest a.end q a.follow in
    record {
      tree = and_part a.tree v.tree;
      same = ap (λ z. and_part z (bare_expressions v.tree)) a.same ∙ ap (λ z. and_part (bare_expression x) z) v.same;
      end = v.end;
      read = g.constant o.1 a.read v.read;
      follow = v.follow;
    }

behind_margin : (level : ℕ) (rest : List Piece) (p q : Stage) → Stand (margin level rest) p q → Stand rest p q
behind_margin zero rest p q o = o
behind_margin (suc level) rest p q o = behind_margin level rest p q o

-- the constants of an arm and the `:` behind them: with a block there they are an arm
pub record ReadsValues (xs : Expressions) (rest : List Piece) (p q : Stage) : Type 0 where
  pub tree : Expressions
  pub same : bare_expressions tree ≡ bare_expressions xs
  pub end : Stage
  pub read : (depth : ℕ) (b : CommandBlock) (m : Stage) → g.Block depth end b m → g.Arm depth p tree b m
  pub follow : Stand rest end q

no_arm : false ≡ true → ⊥
no_arm h = cc

values_read : (xs : Expressions) → (has_constant xs && are_constants xs) ≡ true → (rest : List Piece) (p q : Stage) → Stand (constants xs (sign r.Plain s.Colon ∷ rest)) p q
    → ReadsValues xs rest p q
unfolding bare_expression
values_read no_part h rest p q o = absurd (no_arm h)
values_read (and_part x xs) h rest p q o =
    let f = and_parts (is_constant x) (are_constants xs) h in
    let a = constant_reads x f.0 (more_constants xs (sign r.Plain s.Colon ∷ rest)) p q o in
    let v = constants_read xs f.1 (sign r.Plain s.Colon ∷ rest) a.end q a.follow in
    let i = v.follow in
    record {
      tree = and_part a.tree v.tree;
      same = ap (λ z. and_part z (bare_expressions v.tree)) a.same ∙ ap (λ z. and_part (bare_expression x) z) v.same;
      end = i.0;
      read = λ depth b m z. g.arm a.read v.read i.1 z;
      follow = i.2;
    }

mutual
  unfolding bare_command is_command bare_expression

  command_reads : (version : Version) (c : Command) (level depth : ℕ) → is_command version c ≡ true → (rest : List Piece) (p q : Stage)
      → Stand (command c level depth rest) p q → ReadsBack bare_command (g.Cmd depth) c rest p q
  command_reads version (lone c) level depth h rest p q o =
      let a = simple_reads version depth c h (sign r.Plain s.Semicolon ∷ line ∷ rest) p q (behind_margin level _ p q o) in
      record { tree = lone a.tree; same = ap (λ z. lone z) a.same; end = a.follow.0; read = g.unhandled a.read a.follow.1; follow = a.follow.2 }
  command_reads version (try c place handler) level depth h rest p q o =
      let e = and_parts (is_simple version c) (is_block version handler) h in
      let a = simple_reads version depth c e.0 (space ∷ word r.Plain w.Otherwise ∷ block handler level depth (line ∷ rest)) p q (behind_margin level _ p q o) in
      let i = a.follow in
      let v = block_reads version handler level depth e.1 (line ∷ rest) i.0 q i.2 in
      record {
        tree = try a.tree (here a.end) v.tree;
        same = ap (λ z. try z nowhere (bare_block v.tree)) a.same ∙ ap (λ z. try (bare_simple c) nowhere z) v.same;
        end = v.end;
        read = g.handled a.read i.1 v.read;
        follow = v.follow;
      }
  command_reads version (if_else place x one other) level depth h rest p q o =
      let e = and_parts (is_outermost version x && is_block version one) (is_else version other) h in
      let f = and_parts (is_outermost version x) (is_block version one) e.0 in
      let i = behind_margin level (word (r.Command depth) w.If ∷ space ∷ sign r.Plain s.OpenParen
      ∷ expression x (sign r.Plain s.CloseParen ∷ block one level depth (else_part other level depth (line ∷ rest)))) p q o in
      let j = i.2 in
      let a = expression_reads version x (expression_of_outermost version x f.0)
      (sign r.Plain s.CloseParen ∷ block one level depth (else_part other level depth (line ∷ rest))) j.0 q j.2 in
      let l = a.follow in
      let v = block_reads version one level depth f.1 (else_part other level depth (line ∷ rest)) l.0 q l.2 in
      let u = else_reads version other level depth e.1 (line ∷ rest) v.end q v.follow in
      record {
        tree = if_else (here p) a.tree v.tree u.tree;
        same = ap (λ z. if_else nowhere z (bare_block v.tree) (bare_else u.tree)) a.same
            ∙ ap (λ z. if_else nowhere (bare_expression x) z (bare_else u.tree)) v.same ∙ ap (λ z. if_else nowhere (bare_expression x) (bare_block one) z) u.same;
        end = u.end;
        read = g.branch i.1 j.1 (as_expression a.read) l.1 v.read u.read;
        follow = u.follow;
      }
  command_reads version (try_then c place one other) level depth h rest p q o =
      let e = and_parts (is_second version && is_simple version c && is_block version one) (is_block version other) h in
      let f = and_parts (is_second version && is_simple version c) (is_block version one) e.0 in
      let i = and_parts (is_second version) (is_simple version c) f.0 in
      let last = space ∷ word r.Plain w.Otherwise ∷ block other level depth (line ∷ rest) in
      let a = simple_reads version depth c i.1 (space ∷ word r.Plain w.Then ∷ block one level depth last) p q (behind_margin level _ p q o) in
      let j = a.follow in
      let v = block_reads version one level depth f.1 last j.0 q j.2 in
      let l = v.follow in
      let u = block_reads version other level depth e.1 (line ∷ rest) l.0 q l.2 in
      record {
        tree = try_then a.tree (here a.end) v.tree u.tree;
        same = ap (λ z. try_then z nowhere (bare_block v.tree) (bare_block u.tree)) a.same
            ∙ ap (λ z. try_then (bare_simple c) nowhere z (bare_block u.tree)) v.same ∙ ap (λ z. try_then (bare_simple c) nowhere (bare_block one) z) u.same;
        end = u.end;
        read = g.decided a.read j.1 v.read l.1 u.read;
        follow = u.follow;
      }
  command_reads version (case_of place x (last_arm b)) level depth h rest p q o =
      let f = and_parts (is_second version && is_outermost version x && false && nat_le 0 most_arms) (is_block version b) h in
      let g = and_parts (is_second version && is_outermost version x && false) (nat_le 0 most_arms) f.0 in
      absurd (no_arm (and_parts (is_second version && is_outermost version x) false g.0).1)
  command_reads version (case_of place x (and_arm xs b list)) level depth h rest p q o =
      let f = and_parts (is_second version && is_outermost version x && true && nat_le (1 + arm_count list) most_arms) (are_arms version (and_arm xs b list)) h in
      let i = and_parts (is_second version && is_outermost version x && true) (nat_le (1 + arm_count list) most_arms) f.0 in
      let j = and_parts (is_second version && is_outermost version x) true i.0 in
      let l = and_parts (is_second version) (is_outermost version x) j.0 in
      let m = and_parts (has_constant xs && are_constants xs && is_block version b) (are_arms version list) f.1 in
      let foot = margin level (sign r.Plain s.CloseBrace ∷ line ∷ rest) in
      let more = arms list (suc level) depth foot in
      let first = arms (and_arm xs b list) (suc level) depth foot in
      let n = behind_margin level (word (r.Command depth) w.Case ∷ space ∷ sign r.Plain s.OpenParen
      ∷ expression x (sign r.Plain s.CloseParen ∷ space ∷ sign r.Plain s.OpenBrace ∷ line ∷ first)) p q o in
      let t = n.2 in
      let a = expression_reads version x (expression_of_outermost version x l.1) (sign r.Plain s.CloseParen ∷ space ∷ sign r.Plain s.OpenBrace ∷ line ∷ first) t.0 q t.2 in
      let u = a.follow in
      let y = u.2 in
      let e = and_parts (has_constant xs && are_constants xs) (is_block version b) m.0 in
      let c = values_read xs e.0 (block b (suc level) depth (line ∷ more)) y.0 q (behind_margin (suc level) _ y.0 q y.2) in
      let k = block_reads version b (suc level) depth e.1 (line ∷ more) c.end q c.follow in
      let v = arms_read version list (suc level) depth m.1 foot k.end q k.follow in
      let end = behind_margin level (sign r.Plain s.CloseBrace ∷ line ∷ rest) v.end q v.follow in
      record {
        tree = case_of (here p) a.tree (and_arm c.tree k.tree v.tree);
        same = ap (λ z. case_of nowhere z (and_arm (bare_expressions c.tree) (bare_block k.tree) (bare_arms v.tree))) a.same
            ∙ ap (λ z. case_of nowhere (bare_expression x) (and_arm z (bare_block k.tree) (bare_arms v.tree))) c.same
            ∙ ap (λ z. case_of nowhere (bare_expression x) (and_arm (bare_expressions xs) z (bare_arms v.tree))) k.same
            ∙ ap (λ z. case_of nowhere (bare_expression x) (and_arm (bare_expressions xs) (bare_block b) z)) v.same;
        end = end.0;
        read = g.case n.1 t.1 (as_expression a.read) u.1 y.1 (c.read (depth + 1) k.tree k.end k.read) v.read end.1;
        follow = end.2;
      }

  arms_read : (version : Version) (list : Arms) (level depth : ℕ) → are_arms version list ≡ true → (rest : List Piece) (p q : Stage)
      → Stand (arms list level depth rest) p q → ReadsBack bare_arms (g.Arms (depth + 1)) list rest p q
  arms_read version (last_arm b) level depth h rest p q o =
      let i = behind_margin level (word r.Plain w.Else ∷ block b level depth (line ∷ rest)) p q o in
      let a = block_reads version b level depth h (line ∷ rest) i.0 q i.2 in
      record { tree = last_arm a.tree; same = ap (λ z. last_arm z) a.same; end = a.end; read = g.last i.1 a.read; follow = a.follow }
  arms_read version (and_arm xs b list) level depth h rest p q o =
      let e = and_parts (has_constant xs && are_constants xs && is_block version b) (are_arms version list) h in
      let more = arms list level depth rest in
      let f = and_parts (has_constant xs && are_constants xs) (is_block version b) e.0 in
      let c = values_read xs f.0 (block b level depth (line ∷ more)) p q (behind_margin level _ p q o) in
      let i = block_reads version b level depth f.1 (line ∷ more) c.end q c.follow in
      let v = arms_read version list level depth e.1 rest i.end q i.follow in
      record {
        tree = and_arm c.tree i.tree v.tree;
        same = ap (λ z. and_arm z (bare_block i.tree) (bare_arms v.tree)) c.same
            ∙ ap (λ z. and_arm (bare_expressions xs) z (bare_arms v.tree)) i.same ∙ ap (λ z. and_arm (bare_expressions xs) (bare_block b) z) v.same;
        end = v.end;
        read = g.and_arm (c.read (depth + 1) i.tree i.end i.read) v.read;
        follow = v.follow;
      }

  block_reads : (version : Version) (x : CommandBlock) (level depth : ℕ) → is_block version x ≡ true → (rest : List Piece) (p q : Stage)
      → Stand (block x level depth rest) p q → ReadsBack bare_block (g.Block (depth + 1)) x rest p q
  block_reads version (command_block cs after) level depth h rest p q o =
      let a = commands_read version cs (suc level) (depth + 1) h (margin level (sign r.Plain s.CloseBrace ∷ rest)) o.0 q o.2 in
      let i = behind_margin level (sign r.Plain s.CloseBrace ∷ rest) a.end q a.follow in
      record { tree = command_block a.tree (here a.end); same = ap (λ z. command_block z nowhere) a.same; end = i.0; read = g.block o.1 a.read i.1; follow = i.2 }

  else_reads : (version : Version) (x : ElseBlock) (level depth : ℕ) → is_else version x ≡ true → (rest : List Piece) (p q : Stage)
      → Stand (else_part x level depth rest) p q → ReadsBack bare_else (g.Else (depth + 1)) x rest p q
  else_reads version no_else level depth h rest p q o = record { tree = no_else; same = refl; end = p; read = g.no_else; follow = o }
  else_reads version (with_else x) level depth h rest p q o =
      let a = block_reads version x level depth h rest o.0 q o.2 in
      record { tree = with_else a.tree; same = ap (λ z. with_else z) a.same; end = a.end; read = g.else o.1 a.read; follow = a.follow }

  commands_read : (version : Version) (cs : CommandList) (level depth : ℕ) → are_commands version cs ≡ true
      → (rest : List Piece) (p q : Stage) → Stand (commands cs level depth rest) p q → ReadsBack bare_list (g.Cmds depth) cs rest p q
  commands_read version no_command level depth h rest p q o = record { tree = no_command; same = refl; end = p; read = g.no_cmd; follow = o }
  commands_read version (and_command c cs) level depth h rest p q o =
      let e = and_parts (is_command version c) (are_commands version cs) h in
      let a = command_reads version c level depth e.0 (commands cs level depth rest) p q o in
      let v = commands_read version cs level depth e.1 rest a.end q a.follow in
      record {
        tree = and_command a.tree v.tree;
        same = ap (λ z. and_command z (bare_list v.tree)) a.same ∙ ap (λ z. and_command (bare_command c) z) v.same;
        end = v.end;
        read = g.cmd a.read v.read;
        follow = v.follow;
      }

-- kinds and declarations

authority_reads : (x : Option Under) (rest : List Piece) (p q : Stage) → Stand (authority x rest) p q → ReadsBack bare_authority g.Authority x rest p q
authority_reads None rest p q o = record { tree = None; same = refl; end = p; read = g.no_authority; follow = o }
authority_reads (Some under) rest p q o =
    let i = o.2 in
    record {
      tree = Some (record { place = here p; level = mention o.0 under.level.name });
      same = refl;
      end = i.0;
      read = g.authority o.1 i.1;
      follow = i.2;
    }

kind_reads : (x : KindTree) (rest : List Piece) (p q : Stage) → Stand (kind x rest) p q → ReadsBack bare_kind g.KindOf x rest p q
kind_reads (how.Dynamic place) rest p q o = record { tree = how.Dynamic (here p); same = refl; end = o.0; read = g.dynamic o.1; follow = o.2 }
kind_reads (how.Enforced n under) rest p q o =
    let i = o.2 in
    let a = authority_reads under rest i.0 q i.2 in
    record {
      tree = how.Enforced (mention o.0 n.name) a.tree;
      same = ap (λ z. how.Enforced (bare_name n) z) a.same;
      end = a.end;
      read = g.enforced o.1 i.1 a.read;
      follow = a.follow;
    }

start_reads : (x : Option Numeral) (rest : List Piece) (p q : Stage) → Stand (start x rest) p q → ReadsBack bare_start g.Initial x rest p q
start_reads None rest p q o = record { tree = None; same = refl; end = p; read = g.no_initial; follow = o }
start_reads (Some n) rest p q o =
    let i = o.2 in
    record { tree = Some (numeral o.0 n.value); same = refl; end = i.0; read = g.initial o.1 i.1; follow = i.2 }

declaration_reads : (x : Decl) (rest : List Piece) (p q : Stage) → Stand (declaration x rest) p q → ReadsBack bare_declaration g.Declaration x rest p q
declaration_reads (d.Input place n width) rest p q o =
    let i = o.2 in let j = i.2 in let l = j.2 in let m = l.2 in
    record {
      tree = d.Input (here p) (mention o.0 n.name) (numeral j.0 width.value);
      same = refl;
      end = m.0;
      read = g.input o.1 i.1 j.1 l.1 m.1;
      follow = m.2;
    }
declaration_reads (d.Register place n width x initial) rest p q o =
    let i = o.2 in let j = i.2 in let l = j.2 in
    let a = kind_reads x (start initial (sign r.Plain s.Semicolon ∷ line ∷ rest)) l.0 q l.2 in
    let v = start_reads initial (sign r.Plain s.Semicolon ∷ line ∷ rest) a.end q a.follow in
    record {
      tree = d.Register (here p) (mention o.0 n.name) (numeral j.0 width.value) a.tree v.tree;
      same = ap (λ z. d.Register nowhere (bare_name n) (bare_number width) z (bare_start v.tree)) a.same
          ∙ ap (λ z. d.Register nowhere (bare_name n) (bare_number width) (bare_kind x) z) v.same;
      end = v.follow.0;
      read = g.register o.1 i.1 j.1 l.1 a.read v.read v.follow.1;
      follow = v.follow.2;
    }
declaration_reads (d.Memory place n width depth x) rest p q o =
    let i = o.2 in let j = i.2 in let l = j.2 in let m = l.2 in let u = m.2 in let v = u.2 in
    let a = kind_reads x (sign r.Plain s.Semicolon ∷ line ∷ rest) v.0 q v.2 in
    record {
      tree = d.Memory (here p) (mention o.0 n.name) (numeral j.0 width.value) (numeral m.0 depth.value) a.tree;
      same = ap (λ z. d.Memory nowhere (bare_name n) (bare_number width) (bare_number depth) z) a.same;
      end = a.follow.0;
      read = g.memory o.1 i.1 j.1 l.1 m.1 u.1 v.1 a.read a.follow.1;
      follow = a.follow.2;
    }

declarations_read : (xs : List Decl) (rest : List Piece) (p q : Stage) → Stand (declarations xs rest) p q → ReadsBack (map bare_declaration) g.Declarations xs rest p q
declarations_read [] rest p q o = record { tree = []; same = refl; end = p; read = g.no_declaration; follow = o }
declarations_read (x ∷ xs) rest p q o =
    let a = declaration_reads x (declarations xs rest) p q o in
    let v = declarations_read xs rest a.end q a.follow in
    record {
      tree = a.tree ∷ v.tree;
      same = ap (λ z. z ∷ map bare_declaration v.tree) a.same ∙ ap (λ z. bare_declaration x ∷ z) v.same;
      end = v.end;
      read = g.declaration a.read v.read;
      follow = v.follow;
    }

-- states

mutual
  unfolding bare_state is_state is_command bare_command

  state_reads : (version : Version) (x : StateTree) (level depth : ℕ) → is_state version x ≡ true → (rest : List Piece) (p q : Stage)
      → Stand (state x level depth rest) p q → ReadsBack bare_state (g.State depth) x rest p q
  state_reads version (state_node place n x (command_block cs after) children) level depth h rest p q o =
      let b = command_block cs after in
      let e = and_parts (is_name version n.name && is_kind version x && is_block version b && nat_le (block_depth b) most_blocks) (are_states version children) h in
      let f = and_parts (is_name version n.name && is_kind version x && is_block version b) (nat_le (block_depth b) most_blocks) e.0 in
      let u = and_parts (is_name version n.name && is_kind version x) (is_block version b) f.0 in
      let last = margin level (sign r.Plain s.CloseBrace ∷ line ∷ rest) in
      let below = states children (suc level) (depth + 1) last in
      let i = behind_margin level (word (r.State depth) w.State ∷ space ∷ name r.Plain n.name ∷ space ∷ kind x (space ∷ sign r.Plain s.OpenBrace ∷ line
      ∷ commands cs (suc level) 1 below)) p q o in
      let j = i.2 in
      let a = kind_reads x (space ∷ sign r.Plain s.OpenBrace ∷ line ∷ commands cs (suc level) 1 below) j.0 q j.2 in
      let l = a.follow in
      let v = commands_read version cs (suc level) 1 u.1 below l.0 q l.2 in
      let t = states_read version children (suc level) (depth + 1) e.1 last v.end q v.follow in
      let m = behind_margin level (sign r.Plain s.CloseBrace ∷ line ∷ rest) t.end q t.follow in
      record {
        tree = state_node (here p) (mention i.0 n.name) a.tree (command_block v.tree (here v.end)) t.tree;
        same = ap (λ z. state_node nowhere (bare_name n) z (command_block (bare_list v.tree) nowhere) (bare_states t.tree)) a.same
            ∙ ap (λ z. state_node nowhere (bare_name n) (bare_kind x) (command_block z nowhere) (bare_states t.tree)) v.same
            ∙ ap (λ z. state_node nowhere (bare_name n) (bare_kind x) (command_block (bare_list cs) nowhere) z) t.same;
        end = m.0;
        read = g.state i.1 j.1 a.read l.1 v.read t.read m.1;
        follow = m.2;
      }

  states_read : (version : Version) (xs : StateList) (level depth : ℕ) → are_states version xs ≡ true → (rest : List Piece) (p q : Stage)
      → Stand (states xs level depth rest) p q → ReadsBack bare_states (g.States depth) xs rest p q
  states_read version no_state level depth h rest p q o = record { tree = no_state; same = refl; end = p; read = g.no_state; follow = o }
  states_read version (and_state x xs) level depth h rest p q o =
      let e = and_parts (is_state version x) (are_states version xs) h in
      let a = state_reads version x level depth e.0 (states xs level depth rest) p q o in
      let v = states_read version xs level depth e.1 rest a.end q a.follow in
      record {
        tree = and_state a.tree v.tree;
        same = ap (λ z. and_state z (bare_states v.tree)) a.same ∙ ap (λ z. and_state (bare_state x) z) v.same;
        end = v.end;
        read = g.and_state a.read v.read;
        follow = v.follow;
      }

-- the first line

pub record ReadsHeader (version : Version) (rest : List Piece) (p q : Stage) : Type 0 where
  pub end : Stage
  pub read : g.Header p version end
  pub follow : Stand rest end q

header_reads : (version : Version) (rest : List Piece) (p q : Stage) → Stand (header version rest) p q → ReadsHeader version rest p q
header_reads One rest p q o = record { end = p; read = g.no_header; follow = o }
header_reads Two rest p q o = let i = o.2 in let j = i.2 in record { end = j.0; read = g.header o.1 i.1 j.1; follow = j.2 }

pub record ReadsDesign (x : DesignTree) (p q : Stage) : Type 0 where
  pub tree : DesignTree
  pub same : bare tree ≡ bare x
  pub read : g.Design p tree q

abbrev with_parts : Version → List Decl → StateList → DesignTree
with_parts version declarations states = record { version = version; declarations = declarations; states = states }

pub design_reads : (x : DesignTree) → is_tree x ≡ true → (p q : Stage) → Stand (design x) p q → ReadsDesign x p q
unfolding bare bare_state is_state
design_reads x h p q o = by_states x.states (and_parts (list_all (is_declaration x.version) x.declarations && has_state x.states) (are_states x.version x.states) h) o where
  by_states : (ss : StateList) → ((list_all (is_declaration x.version) x.declarations && has_state ss) ≡ true) × (are_states x.version ss ≡ true)
      → Stand (header x.version (declarations x.declarations (states ss 0 1 []))) p q → ReadsDesign (with_parts x.version x.declarations ss) p q
  by_states no_state e o = absurd (no_arm (and_parts (list_all (is_declaration x.version) x.declarations) false e.0).1)
  by_states (and_state y ys) e o =
      let f = and_parts (is_state x.version y) (are_states x.version ys) e.1 in
      let first = header_reads x.version (declarations x.declarations (states (and_state y ys) 0 1 [])) p q o in
      let a = declarations_read x.declarations (states (and_state y ys) 0 1 []) first.end q first.follow in
      let v = state_reads x.version y 0 1 f.0 (states ys 0 1 []) a.end q a.follow in
      let t = states_read x.version ys 0 1 f.1 [] v.end q v.follow in
      record {
        tree = with_parts x.version a.tree (and_state v.tree t.tree);
        same = ap (λ z. with_parts x.version z (and_state (bare_state v.tree) (bare_states t.tree))) a.same
            ∙ ap (λ z. with_parts x.version (map bare_declaration x.declarations) (and_state z (bare_states t.tree))) v.same
            ∙ ap (λ z. with_parts x.version (map bare_declaration x.declarations) (and_state (bare_state y) z)) t.same;
        read = subst (λ m. g.Design p (with_parts x.version a.tree (and_state v.tree t.tree)) m) t.follow (g.design first.read a.read v.read t.read);
      }
