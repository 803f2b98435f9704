-- Where the pieces of a tree stand, the grammar reads that tree, places aside.
use Rattle.sap_lemmas.proofs.Common.{◌≡◌, ◌≤◌, ◌<◌, ◌+◌, ◌-◌, ℕ, zero, suc, List, [], ◌∷◌, Bool, true, false, refl, ap, ◌∙◌, arith, subst, nat_tests, nat_lt, ◌&&◌, and_parts}
use Rattle.sap_parse.specs.Grammar as g
use Rattle.sap_parse.specs.Grammar.{sign_of}
use Rattle.sap_parse.specs.Stages.{Stage, IsToken, IsSign, here, spot_here}
use Rattle.sap_parse.specs.declared.role.Role.TheVariants as r
use Rattle.sap_lex.specs.declared.token.Sign.TheVariants as s
use Rattle.sap_show.proofs.Pieces.{Piece, space, line, token, sign, wrapped, bounds, expression, parts, more_parts}
use Rattle.sap_tree.specs.Prelude.{bare_expression, bare_expressions, no_spot, precedence, unary_precedence, slice_precedence, primary_precedence, precedence_of, first_of, enclosed, Expression, Expressions, literal, sized_literal, variable, cell_at, unary_of, binary_of, choice, slice, concat, zero_extend, no_part, and_part, is_expression, are_expressions, has_two_parts, is_number, is_name}
use Rattle.sap_tree.specs.declared.syntax.BinaryOperator.{BinaryOperator}
use Rattle.sap_tree.specs.declared.version.Version.{Version}
use Rattle.sap_text.specs.declared.place.Place.{Place}
use Rattle.sap_tree.specs.declared.syntax.BinaryOperator.TheVariants as b

-- at p stand the tokens of these pieces, and q comes behind them
abbrev pub Stand : List Piece → Stage → Stage → Type 0
Stand [] p q = p ≡ q
Stand (space ∷ ps) p q = Stand ps p q
Stand (line ∷ ps) p q = Stand ps p q
Stand (token role kind ∷ ps) p q = (m : Stage) × IsToken p role kind m × Stand ps m q

-- an expression as it is read where operands of this precedence are taken: 0 is any expression, and from 10 on one that a slice may follow
pub data At : ℕ → Stage → Expression → Stage → Type 0 where
  loose : {p q : Stage} {x : Expression} → g.Expr p x q → At 0 p x q
  joined : {l : ℕ} {p q : Stage} {x : Expression} → 1 ≤ l → l ≤ unary_precedence → g.Bin l p x q → At l p x q
  tight : {l : ℕ} {p q : Stage} {x : Expression} → g.Post p x q → At l p x q

lowers : (d l : ℕ) {p q : Stage} {x : Expression} → l + d ≤ unary_precedence → g.Bin (l + d) p x q → g.Bin l p x q
lowers zero l {p} {q} {x} h a = let e : l + 0 ≡ l = omega arith in subst (λ n. g.Bin n p x q) e a
lowers (suc d) l {p} {q} {x} h a =
    let e : l + suc d ≡ (l + 1) + d = omega arith in
    g.chain (omega arith) (lowers d (l + 1) (omega arith) (subst (λ n. g.Bin n p x q) e a)) g.no_other

down : (k l : ℕ) {p q : Stage} {x : Expression} → k ≤ l → l ≤ unary_precedence → g.Bin l p x q → g.Bin k p x q
down k l {p} {q} {x} h top a = let e : l ≡ k + (l - k) = omega arith in lowers (l - k) k (omega arith) (subst (λ n. g.Bin n p x q) e a)

as_joined : (k : ℕ) {l : ℕ} {p q : Stage} {x : Expression} → 1 ≤ k → k ≤ unary_precedence → k ≤ l → At l p x q → g.Bin k p x q
as_joined k one top le (loose a) = absurd (omega arith)
as_joined k one top le (joined {l = l} least most a) = down k l le most a
as_joined k one top le (tight a) = down k unary_precedence top (omega arith) (g.operand (g.unsigned a))

pub as_expression : {l : ℕ} {p q : Stage} {x : Expression} → At l p x q → g.Expr p x q
as_expression (loose a) = a
as_expression (joined {l = l} least most a) = g.only (down 1 l least most a)
as_expression (tight a) = g.only (down 1 unary_precedence (omega arith) (omega arith) (g.operand (g.unsigned a)))

of_joined : {l : ℕ} {p q : Stage} {x : Expression} → unary_precedence ≤ l → g.Bin l p x q → g.Unary p x q
of_joined le (g.operand a) = a
of_joined le (g.chain lt a others) = absurd (omega arith)

as_unary : {l : ℕ} {p q : Stage} {x : Expression} → unary_precedence ≤ l → At l p x q → g.Unary p x q
as_unary le (loose a) = absurd (omega arith)
as_unary le (joined least most a) = of_joined le a
as_unary le (tight a) = g.unsigned a

as_tight : {l : ℕ} {p q : Stage} {x : Expression} → slice_precedence ≤ l → At l p x q → g.Post p x q
as_tight le (loose a) = absurd (omega arith)
as_tight le (joined least most a) = absurd (omega arith)
as_tight le (tight a) = a

-- repetitions grow at their ends

other_last : {l : ℕ} {p1 p2 p3 q : Stage} {x y z : Expression} (o : BinaryOperator) → precedence o ≡ l → g.Others l x p1 y p2 → IsSign p2 r.Inner (sign_of o) p3
    → g.Bin (l + 1) p3 z q → g.Others l x p1 (binary_of (record { first = first_of y; at = here p2 }) o y z) q
other_last o at g.no_other s h = g.other o at s h g.no_other
other_last o at (g.other o' at' s' h' others) s h = g.other o' at' s' h' (other_last o at others s h)

two_joined : {l : ℕ} {p p2 p3 q : Stage} {x y : Expression} (o : BinaryOperator) → precedence o ≡ l → l < unary_precedence → g.Bin l p x p2
    → IsSign p2 r.Inner (sign_of o) p3 → g.Bin (l + 1) p3 y q → g.Bin l p (binary_of (record { first = first_of x; at = here p2 }) o x y) q
two_joined o at lt (g.operand u) s h = absurd (omega arith)
two_joined o at lt (g.chain lt' a others) s h = g.chain lt a (other_last o at others s h)

cut_last : {p1 p2 q : Stage} {x y : Expression} {high low : ℕ} → g.Cuts x p1 y p2 → g.Bounds p2 high low q
    → g.Cuts x p1 (slice (record { first = first_of y; at = here p2 }) y high low) q
cut_last g.no_cut s = g.cut s g.no_cut
cut_last (g.cut s' cuts) s = g.cut s' (cut_last cuts s)

cut_behind : {p p2 q : Stage} {y : Expression} {high low : ℕ} → g.Post p y p2 → g.Bounds p2 high low q
    → g.Post p (slice (record { first = first_of y; at = here p2 }) y high low) q
cut_behind (g.post prim cuts) s = g.post prim (cut_last cuts s)

precedence_small : (o : BinaryOperator) → (1 ≤ precedence o) × (precedence o < unary_precedence)
precedence_small b.Or = (omega arith, omega arith)
precedence_small _ = (omega arith, omega arith)

bare_enclosed : (place : Place) (x : Expression) → bare_expression (enclosed place x) ≡ bare_expression x
unfolding bare_expression enclosed
bare_enclosed place (literal spot n) = refl
bare_enclosed place _ = refl

-- what the grammar reads between two stages is the same tree, and then stand the pieces that follow
pub record ReadsBack {A : Type 0} (bare : A → A) (Read : Stage → A → Stage → Type 0) (x : A) (rest : List Piece) (p q : Stage) : Type 0 where
  pub tree : A
  pub same : bare tree ≡ bare x
  pub end : Stage
  pub read : Read p tree end
  pub follow : Stand rest end q

-- the same of a list with two members or more
pub record ReadsTwo {A L : Type 0} (and : A → L → L) (bare : L → L) (One : Stage → A → Stage → Type 0) (More : Stage → L → Stage → Type 0) (xs : L)
    (rest : List Piece) (p q : Stage) : Type 0 where
  pub first : A
  pub second : A
  pub others : L
  pub same : bare (and first (and second others)) ≡ bare xs
  pub before : Stage
  pub after : Stage
  pub behind : Stage
  pub end : Stage
  pub one : One p first before
  pub comma : IsSign before r.Inner s.Comma after
  pub two : One after second behind
  pub more : More behind others end
  pub follow : Stand rest end q

-- the same of an expression, as tightly as it was asked for
pub record Reads (x : Expression) (least : ℕ) (rest : List Piece) (p q : Stage) : Type 0 where
  pub tree : Expression
  pub same : bare_expression tree ≡ bare_expression x
  pub level : ℕ
  pub tightly : least ≤ level
  pub end : Stage
  pub read : At level p tree end
  pub follow : Stand rest end q

abbrev Own : Expression → (List Piece → List Piece) → Type 0
Own x inner = (rest : List Piece) (p q : Stage) → Stand (inner rest) p q → Reads x (precedence_of x) rest p q

at_least : (asked own level : ℕ) → own ≤ level → nat_lt own asked ≡ false → asked ≤ level
at_least asked own level h e = let n : asked ≤ own = grind (arith, nat_tests) in omega arith

in_place : (asked : ℕ) (x : Expression) (inner : List Piece → List Piece) → Own x inner → asked ≤ primary_precedence → (rest : List Piece) (p q : Stage)
    → Stand (wrapped (nat_lt (precedence_of x) asked) inner rest) p q → Reads x asked rest p q
in_place asked x inner own top rest p q = by_test (nat_lt (precedence_of x) asked) refl where
  by_test : (t : Bool) → nat_lt (precedence_of x) asked ≡ t → Stand (wrapped t inner rest) p q → Reads x asked rest p q
  by_test false e h =
      let w = own rest p q h in
      record { tree = w.tree; same = w.same; level = w.level; tightly = at_least asked (precedence_of x) w.level w.tightly e; end = w.end; read = w.read; follow = w.follow }
  by_test true e h =
      let w = own (sign r.Closing s.CloseParen ∷ rest) h.0 q h.2 in
      record {
        tree = enclosed (here p) w.tree;
        same = bare_enclosed (here p) w.tree ∙ w.same;
        level = primary_precedence;
        tightly = top;
        end = w.follow.0;
        read = tight (g.post (g.parentheses h.1 (as_expression w.read) w.follow.1) g.no_cut);
        follow = w.follow.2;
      }

mutual
  unfolding bare_expression is_expression precedence_of

  pub expression_reads : (version : Version) (x : Expression) → is_expression version x ≡ true → (rest : List Piece) (p q : Stage)
      → Stand (expression x rest) p q → Reads x (precedence_of x) rest p q
  expression_reads version (literal spot n) d rest p q h =
      record {
        tree = literal (spot_here p) n;
        same = refl;
        level = primary_precedence;
        tightly = omega arith;
        end = h.0;
        read =
            tight (g.post (g.number h.1) g.no_cut);
        follow = h.2;
      }
  expression_reads version (sized_literal spot width n) d rest p q h =
      record {
        tree = sized_literal (spot_here p) width n;
        same = refl;
        level = primary_precedence;
        tightly = omega arith;
        end = h.0;
        read =
            tight (g.post (g.sized h.1) g.no_cut);
        follow = h.2;
      }
  expression_reads version (variable spot n) d rest p q h =
      record {
        tree = variable (spot_here p) n;
        same = refl;
        level = primary_precedence;
        tightly = omega arith;
        end = h.0;
        read =
            tight (g.post (g.read h.1) g.no_cut);
        follow = h.2;
      }
  expression_reads version (cell_at spot n i) d rest p q h =
      let c = h.2 in
      let a = expression_reads version i (and_parts (is_name version n) (is_expression version i) d).1 (sign r.Closing s.CloseBracket ∷ rest) c.0 q c.2 in
      record {
        tree = cell_at (spot_here p) n a.tree;
        same = ap (λ z. cell_at no_spot n z) a.same;
        level = primary_precedence;
        tightly = omega arith;
        end = a.follow.0;
        read = tight (g.post (g.cell h.1 c.1 (as_expression a.read) a.follow.1) g.no_cut);
        follow = a.follow.2;
      }
  expression_reads version (unary_of spot o x) d rest p q h =
      let a = in_place unary_precedence x (λ ps. expression x ps) (λ ps p q k. expression_reads version x d ps p q k) (omega arith) rest h.0 q h.2 in
      record {
        tree = unary_of (spot_here p) o a.tree;
        same = ap (λ z. unary_of no_spot o z) a.same;
        level = unary_precedence;
        tightly = omega arith;
        end = a.end;
        read = joined (omega arith) (omega arith) (g.operand (g.signed o h.1 (as_unary a.tightly a.read)));
        follow = a.follow;
      }
  expression_reads version (binary_of spot o x y) d rest p q h =
      let small = precedence_small o in
      let e = and_parts (is_expression version x) (is_expression version y) d in
      let a = in_place (precedence o) x (λ ps. expression x ps) (λ ps p q k. expression_reads version x e.0 ps p q k) (omega arith) _ p q h in
      let c = a.follow in
      let v = in_place (precedence o + 1) y (λ ps. expression y ps) (λ ps p q k. expression_reads version y e.1 ps p q k) (omega arith) rest c.0 q c.2 in
      record {
        tree = binary_of (record { first = first_of a.tree; at = here a.end }) o a.tree v.tree;
        same = ap (λ z. binary_of no_spot o z (bare_expression v.tree)) a.same ∙ ap (λ z. binary_of no_spot o (bare_expression x) z) v.same;
        level = precedence o;
        tightly = omega arith;
        end = v.end;
        read = joined small.0 (omega arith) (two_joined o refl small.1 (as_joined (precedence o) small.0 (omega arith) a.tightly a.read) c.1
            (as_joined (precedence o + 1) (omega arith) (omega arith) v.tightly v.read));
        follow = v.follow;
      }
  expression_reads version (choice spot x y z) d rest p q h =
      let e = and_parts (is_expression version x && is_expression version y) (is_expression version z) d in
      let f = and_parts (is_expression version x) (is_expression version y) e.0 in
      let a = in_place 1 x (λ ps. expression x ps) (λ ps p q k. expression_reads version x f.0 ps p q k) (omega arith) _ p q h in
      let c = a.follow in
      let v = expression_reads version y f.1 (space ∷ sign r.Inner s.Colon ∷ space ∷ expression z rest) c.0 q c.2 in
      let k = v.follow in
      let t = expression_reads version z e.1 rest k.0 q k.2 in
      record {
        tree = choice (record { first = first_of a.tree; at = here a.end }) a.tree v.tree t.tree;
        same = ap (λ u. choice no_spot u (bare_expression v.tree) (bare_expression t.tree)) a.same
            ∙ ap (λ u. choice no_spot (bare_expression x) u (bare_expression t.tree)) v.same ∙ ap (λ u. choice no_spot (bare_expression x) (bare_expression y) u) t.same;
        level = 0;
        tightly = omega arith;
        end = t.end;
        read = loose (g.choice (as_joined 1 (omega arith) (omega arith) a.tightly a.read) c.1 (as_expression v.read) k.1 (as_expression t.read));
        follow = t.follow;
      }
  expression_reads version (slice spot x high low) d rest p q h =
      let a = in_place slice_precedence x (λ ps. expression x ps)
      (λ ps p q k. expression_reads version x (and_parts (is_expression version x) (is_number high)
      (and_parts (is_expression version x && is_number high) (is_number low) d).0).0 ps p q k) (omega arith) (bounds high low rest) p q h in
      let i = a.follow in let j = i.2 in let k = j.2 in let l = k.2 in let m = l.2 in
      record {
        tree = slice (record { first = first_of a.tree; at = here a.end }) a.tree high low;
        same = ap (λ z. slice no_spot z high low) a.same;
        level = slice_precedence;
        tightly = omega arith;
        end = m.0;
        read = tight (cut_behind (as_tight a.tightly a.read) (g.bounds i.1 j.1 k.1 l.1 m.1));
        follow = m.2;
      }
  expression_reads version (concat spot xs) d rest p q h =
      let e = and_parts (has_two_parts xs) (are_expressions version xs) d in
      let a = two_read version xs e.0 e.1 (sign r.Closing s.CloseBrace ∷ rest) h.0 q h.2 in
      record {
        tree = concat (spot_here p) (and_part a.first (and_part a.second a.others));
        same = ap (λ z. concat no_spot z) a.same;
        level = primary_precedence;
        tightly = omega arith;
        end = a.follow.0;
        read = tight (g.post (g.concat h.1 a.one a.comma a.two a.more a.follow.1) g.no_cut);
        follow = a.follow.2;
      }
  expression_reads version (zero_extend spot x width) d rest p q h =
      let c = h.2 in
      let a = expression_reads version x (and_parts (is_expression version x) (is_number width) d).0 _ c.0 q c.2 in
      let i = a.follow in let j = i.2 in let k = j.2 in
      record {
        tree = zero_extend (spot_here p) a.tree width;
        same = ap (λ z. zero_extend no_spot z width) a.same;
        level = primary_precedence;
        tightly = omega arith;
        end = k.0;
        read = tight (g.post (g.zext h.1 c.1 (as_expression a.read) i.1 j.1 k.1) g.no_cut);
        follow = k.2;
      }

  two_read : (version : Version) (xs : Expressions) → has_two_parts xs ≡ true → are_expressions version xs ≡ true
      → (rest : List Piece) (p q : Stage) → Stand (parts xs rest) p q → ReadsTwo and_part bare_expressions g.Expr g.Parts xs rest p q
  two_read version no_part t d rest p q h = absurd (cc)
  two_read version (and_part x no_part) t d rest p q h = absurd (cc)
  two_read version (and_part x (and_part y xs)) t d rest p q h =
      let e = and_parts (is_expression version x) (are_expressions version (and_part y xs)) d in
      let f = and_parts (is_expression version y) (are_expressions version xs) e.1 in
      let a = expression_reads version x e.0 (more_parts (and_part y xs) rest) p q h in
      let c = a.follow in
      let v = expression_reads version y f.0 (more_parts xs rest) c.0 q c.2 in
      let t = parts_read version xs f.1 rest v.end q v.follow in
      record {
        first = a.tree;
        second = v.tree;
        others = t.tree;
        same = ap (λ z. and_part z (and_part (bare_expression v.tree) (bare_expressions t.tree))) a.same
            ∙ ap (λ z. and_part (bare_expression x) (and_part z (bare_expressions t.tree))) v.same ∙ ap (λ z. and_part (bare_expression x) (and_part (bare_expression y) z)) t.same;
        before = a.end;
        after = c.0;
        behind = v.end;
        end = t.end;
        one = as_expression a.read;
        comma = c.1;
        two = as_expression v.read;
        more = t.read;
        follow = t.follow;
      }

  parts_read : (version : Version) (xs : Expressions) → are_expressions version xs ≡ true → (rest : List Piece) (p q : Stage)
      → Stand (more_parts xs rest) p q → ReadsBack bare_expressions g.Parts xs rest p q
  parts_read version no_part d rest p q h = record { tree = no_part; same = refl; end = p; read = g.no_part; follow = h }
  parts_read version (and_part x xs) d rest p q h =
      let e = and_parts (is_expression version x) (are_expressions version xs) d in
      let a = expression_reads version x e.0 (more_parts xs rest) h.0 q h.2 in
      let t = parts_read version xs e.1 rest a.end q a.follow in
      record {
        tree = and_part a.tree t.tree;
        same = ap (λ z. and_part z (bare_expressions t.tree)) a.same ∙ ap (λ z. and_part (bare_expression x) z) t.same;
        end = t.end;
        read = g.part h.1 (as_expression a.read) t.read;
        follow = t.follow;
      }
