-- The tokens of a whole design's canonical text break no limit: they are counted as the tree's invariant counts them.
use Rattle.sap_lemmas.proofs.Common.{◌≡◌, ◌≤◌, ◌+◌, ◌-◌, ℕ, List, [], ◌∷◌, length, max, Bool, true, false, cond, refl, ap, ◌∙◌, arith, subst, Some, None, nat_tests, nat_lt, nat_le, ◌&&◌, not, and_parts}
use Rattle.sap_parse.specs.Grammar.{sign_of, unary_sign_of}
use Rattle.sap_parse.specs.Limits.{Counts, outside, tally, breach_of_name, breach_of_role, above, ◌or_else◌}
use Rattle.sap_lex.specs.declared.limit.Limit.TheVariants as l
use Rattle.sap_lex.specs.declared.limit.Limit.{Limit}
use Rattle.sap_parse.specs.declared.role.Role.TheVariants as r
use Rattle.sap_parse.specs.declared.role.Role.{Role}
use Rattle.sap_lex.specs.declared.token.Kind.TheVariants as k
use Rattle.sap_lex.specs.declared.token.Kind.{Kind}
use Rattle.sap_lex.specs.declared.token.Sign.TheVariants as s
use Rattle.sap_lex.specs.declared.token.Sign.{Sign}
use Rattle.sap_lex.specs.declared.token.Token.{Token}
use Rattle.sap_tree.specs.declared.word.Word.TheVariants as w
use Rattle.sap_show.proofs.Pieces.{Piece, space, line, token, sign, wrapped, bounds, expression, parts, more_parts}
use Rattle.sap_tree.specs.Prelude.{tokens, part_tokens, brackets, part_brackets, parentheses, opened, most_name_bytes, most_brackets, most_tokens, precedence, unary_precedence, slice_precedence, precedence_of, Expression, Expressions, literal, sized_literal, variable, cell_at, unary_of, binary_of, choice, slice, concat, zero_extend, no_part, and_part, is_expression, are_expressions, has_two_parts, is_number, is_name, is_word, is_keyword}
use Rattle.sap_tree.specs.declared.version.Version.{Version}

-- the counts after a token in its role
abbrev pub after : Counts → Role → Counts
after c r.Plain = outside c
after c r.Input = record (outside c) { inputs = c.inputs + 1 }
after c r.Register = record (outside c) { registers = c.registers + 1 }
after c r.Memory = record (outside c) { memories = c.memories + 1 }
after c (r.State depth) = record (outside c) { states = c.states + 1 }
after c (r.Command depth) = record (outside c) { commands = c.commands + 1 }
after c r.Inner = record c { tokens = c.tokens + 1 }
after c r.Opening = record c { tokens = c.tokens + 1; brackets = c.brackets + 1 }
after c r.Closing = record c { tokens = c.tokens + 1; brackets = c.brackets - 1 }

pub tally_is : (c : Counts) (role : Role) (t : Token) → tally c role t ≡ after c role
tally_is c r.Plain t = refl
tally_is c _ t = refl

-- from these counts on no token breaks a limit
abbrev pub Within : Counts → List Piece → Type 0
Within c [] = Unit {0}
Within c (space ∷ ps) = Within c ps
Within c (line ∷ ps) = Within c ps
Within c (token role kind ∷ ps) = ((breach_of_name kind or_else breach_of_role c role) ≡ None) × Within (after c role) ps

-- with these tokens of an expression, and these brackets open
abbrev pub at : Counts → ℕ → ℕ → Counts
at c t b = record c { tokens = t; brackets = b }

pub not_above : (most n : ℕ) (limit : Limit) → n ≤ most → above most n limit ≡ None
not_above most n limit h = let e : nat_lt most n ≡ false = grind (arith, nat_tests) in ap (λ b. cond b (Some limit) None) e

pub short_name : (version : Version) (n : List ℕ) → is_name version n ≡ true → breach_of_name (k.Name n) ≡ None
unfolding is_name
short_name version n h = not_above most_name_bytes (length n) l.Name
    (bytes (length n) (and_parts (is_word n && not (is_keyword version n)) (nat_le (length n) most_name_bytes) h).1) where
      bytes : (m : ℕ) → nat_le m most_name_bytes ≡ true → m ≤ most_name_bytes
      bytes m h = grind (arith, nat_tests)

-- sums

first_le : (t n m u : ℕ) → u ≡ t + (n + 1 + m) → u ≤ most_tokens → t + n ≤ most_tokens
first_le t n m u e top = omega arith

both_le : (t n m u : ℕ) → u ≡ t + (n + 1 + m) → u ≤ most_tokens → t + n + 1 ≤ most_tokens
both_le t n m u e top = omega arith

rest_is : (t n m u : ℕ) → u ≡ t + (n + 1 + m) → u ≡ t + n + 1 + m
rest_is t n m u e = omega arith

first_of : (t n m u : ℕ) → u ≡ t + (n + m) → u ≤ most_tokens → t + n ≤ most_tokens
first_of t n m u e top = omega arith

sum_is : (t n m u : ℕ) → u ≡ t + (n + m) → u ≡ t + n + m
sum_is t n m u e = omega arith

choice_le : (t n y z u : ℕ) → u ≡ t + (n + 1 + y + 1 + z) → u ≤ most_tokens
    → (t + n ≤ most_tokens) × (t + n + 1 ≤ most_tokens) × (t + n + 1 + y ≤ most_tokens) × (t + n + 1 + y + 1 ≤ most_tokens)
choice_le t n y z u e top = (omega arith, omega arith, omega arith, omega arith)

choice_is : (t n y z u : ℕ) → u ≡ t + (n + 1 + y + 1 + z) → u ≡ t + n + 1 + y + 1 + z
choice_is t n y z u e = omega arith

left_fits : (b x y : ℕ) → b + max x y ≤ most_brackets → b + x ≤ most_brackets
left_fits b x y h = omega arith

right_fits : (b x y : ℕ) → b + max x y ≤ most_brackets → b + y ≤ most_brackets
right_fits b x y h = omega arith

-- single tokens of an expression

pub inner_free : (t : ℕ) (kind : Kind) → breach_of_name kind ≡ None → t + 1 ≤ most_tokens → (breach_of_name kind or_else above most_tokens (t + 1) l.Expression) ≡ None
inner_free t kind free h = ap (λ o. o or_else above most_tokens (t + 1) l.Expression) free ∙ not_above most_tokens (t + 1) l.Expression h

pub opening_free : (t b : ℕ) → t + 1 ≤ most_tokens → b + 1 ≤ most_brackets
    → (above most_brackets (b + 1) l.Brackets or_else above most_tokens (t + 1) l.Expression) ≡ None
opening_free t b h room = ap (λ o. o or_else above most_tokens (t + 1) l.Expression) (not_above most_brackets (b + 1) l.Brackets room)
    ∙ not_above most_tokens (t + 1) l.Expression h

module _ (c : Counts) where
  pub inner_step : (t u b : ℕ) (kind : Kind) (ps : List Piece) → breach_of_name kind ≡ None → u ≡ t + 1 → u ≤ most_tokens
      → Within (at c u b) ps → Within (at c t b) (token r.Inner kind ∷ ps)
  inner_step t u b kind ps free e top h =
      (ap (λ o. o or_else above most_tokens (t + 1) l.Expression) free ∙ not_above most_tokens (t + 1) l.Expression (omega arith), subst (λ n. Within (at c n b) ps) e h)

  pub opening_step : (t u b : ℕ) (x : Sign) (ps : List Piece) → u ≡ t + 1 → u ≤ most_tokens → b + 1 ≤ most_brackets
      → Within (at c u (b + 1)) ps → Within (at c t b) (sign r.Opening x ∷ ps)
  opening_step t u b x ps e top room h = (
    ap (λ o. o or_else above most_tokens (t + 1) l.Expression) (not_above most_brackets (b + 1) l.Brackets room) ∙ not_above most_tokens (t + 1) l.Expression (omega arith),
    subst (λ n. Within (at c n (b + 1)) ps) e h,
  )

  pub closing_step : (t u b : ℕ) (x : Sign) (ps : List Piece) → u ≡ t + 1 → u ≤ most_tokens → Within (at c u b) ps → Within (at c t (b + 1)) (sign r.Closing x ∷ ps)
  closing_step t u b x ps e top h =
      let less : b ≡ (b + 1) - 1 = omega arith in
      (not_above most_tokens (t + 1) l.Expression (omega arith), subst (λ m. Within (at c (t + 1) m) ps) less (subst (λ n. Within (at c n b) ps) e h))

  -- pieces of so many tokens, which open so many brackets
  abbrev pub Counted : ℕ → ℕ → (List Piece → List Piece) → Type 0
  Counted n m ps = (t u b : ℕ) (rest : List Piece) → u ≡ t + n → u ≤ most_tokens → b + m ≤ most_brackets → Within (at c u b) rest → Within (at c t b) (ps rest)

  wrapped_counted : (asked : ℕ) (x : Expression) (inner : List Piece → List Piece) → Counted (tokens x) (brackets x) inner
      → Counted (parentheses asked x + tokens x) (opened asked x + brackets x) (wrapped (nat_lt (precedence_of x) asked) inner)
  wrapped_counted asked x inner own = by_test (nat_lt (precedence_of x) asked) where
    by_test : (test : Bool) → Counted (cond test 2 0 + tokens x) (cond test 1 0 + brackets x) (wrapped test inner)
    by_test true t u b rest e top room h =
        opening_step t (t + 1) b s.OpenParen (inner (sign r.Closing s.CloseParen ∷ rest)) refl (omega arith) (omega arith)
        (own (t + 1) (t + 1 + tokens x) (b + 1) (sign r.Closing s.CloseParen ∷ rest) refl (omega arith) (omega arith)
        (closing_step (t + 1 + tokens x) u b s.CloseParen rest (omega arith) top h))
    by_test false t u b rest e top room h = own t u b rest (omega arith) top (omega arith) h

  bounds_counted : (high low : ℕ) → Counted 5 1 (bounds high low)
  bounds_counted high low t u b rest e top room h = (
    opening_free t b (omega arith) room,
    (
      inner_free (t + 1) (k.Number high) refl (omega arith),
      (
        inner_free (t + 1 + 1) (k.Sign s.Colon) refl (omega arith),
        (inner_free (t + 1 + 1 + 1) (k.Number low) refl (omega arith), (closing_step (t + 1 + 1 + 1 + 1) u b s.CloseBracket rest (omega arith) top h)),
      ),
    ),
  )

  mutual
    unfolding is_expression tokens brackets

    pub expression_counted : (version : Version) (x : Expression) → is_expression version x ≡ true → Counted (tokens x) (brackets x) (expression x)
    expression_counted version (literal spot n) d t u b rest e top room h = inner_step t u b (k.Number n) rest refl e top h
    expression_counted version (sized_literal spot width n) d t u b rest e top room h = inner_step t u b (k.Sized width n) rest refl e top h
    expression_counted version (variable spot n) d t u b rest e top room h = inner_step t u b (k.Name n) rest (short_name version n d) e top h
    expression_counted version (cell_at spot n i) d t u b rest e top room h =
        let f = and_parts (is_name version n) (is_expression version i) d in
        let same : u ≡ t + (tokens i + 3) = e in
        let fits : b + (1 + brackets i) ≤ most_brackets = room in (
          inner_free t (k.Name n) (short_name version n f.0) (omega arith),
          (
            opening_free (t + 1) b (omega arith) (omega arith),
            (expression_counted version i f.1 (t + 1 + 1) (t + 1 + 1 + tokens i) (b + 1) (sign r.Closing s.CloseBracket ∷ rest) refl (omega arith) (omega arith)
                (closing_step (t + 1 + 1 + tokens i) u b s.CloseBracket rest (omega arith) top h)),
          ),
        )
    expression_counted version (unary_of spot o x) d t u b rest e top room h =
        let same : u ≡ t + (1 + (parentheses unary_precedence x + tokens x)) = e in
        let fits : b + (opened unary_precedence x + brackets x) ≤ most_brackets = room in (
          inner_free t (k.Sign (unary_sign_of o)) refl (omega arith),
          (wrapped_counted unary_precedence x (λ ps. expression x ps) (expression_counted version x d) (t + 1) u b rest (omega arith) top fits h),
        )
    expression_counted version (binary_of spot o x y) d t u b rest e top room h =
        let f = and_parts (is_expression version x) (is_expression version y) d in
        let n = parentheses (precedence o) x + tokens x in
        let m = parentheses (precedence o + 1) y + tokens y in
        let same : u ≡ t + (n + 1 + m) = e in
        let fits : b + max (opened (precedence o) x + brackets x) (opened (precedence o + 1) y + brackets y) ≤ most_brackets = room in
        wrapped_counted (precedence o) x (λ ps. expression x ps) (expression_counted version x f.0) t (t + n) b
        (space ∷ sign r.Inner (sign_of o) ∷ space ∷ wrapped (nat_lt (precedence_of y) (precedence o + 1)) (λ ps. expression y ps) rest) refl
        (first_le t n m u same top) (left_fits b _ _ fits) (
          inner_free (t + n) (k.Sign (sign_of o)) refl (both_le t n m u same top),
          (wrapped_counted (precedence o + 1) y (λ ps. expression y ps) (expression_counted version y f.1) (t + n + 1) u b rest
              (rest_is t n m u same) top (right_fits b _ _ fits) h),
        )
    expression_counted version (choice spot x y z) d t u b rest e top room h =
        let f = and_parts (is_expression version x && is_expression version y) (is_expression version z) d in
        let g = and_parts (is_expression version x) (is_expression version y) f.0 in
        let n = parentheses 1 x + tokens x in
        let same : u ≡ t + (n + 1 + tokens y + 1 + tokens z) = e in
        let fits : b + max (opened 1 x + brackets x) (max (brackets y) (brackets z)) ≤ most_brackets = room in
        let others = right_fits b _ _ fits in
        let le = choice_le t n (tokens y) (tokens z) u same top in
        wrapped_counted 1 x (λ ps. expression x ps) (expression_counted version x g.0) t (t + n) b _ refl le.0 (left_fits b _ _ fits) (
          inner_free (t + n) (k.Sign s.Question) refl le.1,
          expression_counted version y g.1 (t + n + 1) (t + n + 1 + tokens y) b (space ∷ sign r.Inner s.Colon ∷ space ∷ expression z rest) refl le.2 (left_fits b _ _ others) (
            inner_free (t + n + 1 + tokens y) (k.Sign s.Colon) refl le.3,
            expression_counted version z f.1 (t + n + 1 + tokens y + 1) u b rest (choice_is t n (tokens y) (tokens z) u same) top (right_fits b _ _ others) h,
          ),
        )
    expression_counted version (slice spot x high low) d t u b rest e top room h =
        let f = and_parts (is_expression version x) (is_number high) (and_parts (is_expression version x && is_number high) (is_number low) d).0 in
        let n = parentheses slice_precedence x + tokens x in
        let same : u ≡ t + (n + 5) = e in
        let fits : b + max (opened slice_precedence x + brackets x) 1 ≤ most_brackets = room in
        wrapped_counted slice_precedence x (λ ps. expression x ps) (expression_counted version x f.0) t (t + n) b (bounds high low rest)
        refl (first_of t n 5 u same top) (left_fits b _ _ fits)
        (bounds_counted high low (t + n) u b rest (sum_is t n 5 u same) top (right_fits b _ _ fits) h)
    expression_counted version (concat spot xs) d t u b rest e top room h =
        let f = and_parts (has_two_parts xs) (are_expressions version xs) d in
        let same : u ≡ t + (1 + part_tokens xs) = e in
        let fits : b + (1 + part_brackets xs) ≤ most_brackets = room in
        (opening_free t b (omega arith) (omega arith), (parts_counted version xs f.0 f.1 (t + 1) u b rest (omega arith) top (omega arith) h))
    expression_counted version (zero_extend spot x width) d t u b rest e top room h =
        let f = and_parts (is_expression version x) (is_number width) d in
        let same : u ≡ t + (tokens x + 5) = e in
        let fits : b + (1 + brackets x) ≤ most_brackets = room in (
          inner_free t (k.Word w.Zext) refl (omega arith),
          (
            opening_free (t + 1) b (omega arith) (omega arith),
            (expression_counted version x f.0 (t + 1 + 1) (t + 1 + 1 + tokens x) (b + 1) _ refl (omega arith) (omega arith) (
              inner_free (t + 1 + 1 + tokens x) (k.Sign s.Comma) refl (omega arith),
              (
                inner_free (t + 1 + 1 + tokens x + 1) (k.Number width) refl (omega arith),
                (closing_step (t + 1 + 1 + tokens x + 1 + 1) u b s.CloseParen rest (omega arith) top h),
              ),
            )),
          ),
        )

    -- parts, and the `}` behind them
    parts_counted : (version : Version) (xs : Expressions) → has_two_parts xs ≡ true → are_expressions version xs ≡ true
        → (t u b : ℕ) (rest : List Piece) → u ≡ t + part_tokens xs → u ≤ most_tokens
        → b + (1 + part_brackets xs) ≤ most_brackets → Within (at c u b) rest → Within (at c t (b + 1)) (parts xs (sign r.Closing s.CloseBrace ∷ rest))
    parts_counted version no_part two d t u b rest e top room h = absurd (cc)
    parts_counted version (and_part x xs) two d t u b rest e top room h =
        let f = and_parts (is_expression version x) (are_expressions version xs) d in
        let same : u ≡ t + (tokens x + 1 + part_tokens xs) = e in
        let fits : b + (1 + max (brackets x) (part_brackets xs)) ≤ most_brackets = room in
        expression_counted version x f.0 t (t + tokens x) (b + 1) (more_parts xs (sign r.Closing s.CloseBrace ∷ rest)) refl (omega arith) (omega arith)
        (more_parts_counted version xs f.1 (t + tokens x) u b rest (omega arith) top (omega arith) h)

    more_parts_counted : (version : Version) (xs : Expressions) → are_expressions version xs ≡ true → (t u b : ℕ) (rest : List Piece)
        → u ≡ t + (1 + part_tokens xs) → u ≤ most_tokens
        → b + (1 + part_brackets xs) ≤ most_brackets → Within (at c u b) rest → Within (at c t (b + 1)) (more_parts xs (sign r.Closing s.CloseBrace ∷ rest))
    more_parts_counted version no_part d t u b rest e top room h = closing_step t u b s.CloseBrace rest e top h
    more_parts_counted version (and_part x xs) d t u b rest e top room h =
        let f = and_parts (is_expression version x) (are_expressions version xs) d in
        let same : u ≡ t + (1 + (tokens x + 1 + part_tokens xs)) = e in
        let fits : b + (1 + max (brackets x) (part_brackets xs)) ≤ most_brackets = room in (
          inner_free t (k.Sign s.Comma) refl (omega arith),
          (expression_counted version x f.0 (t + 1) (t + 1 + tokens x) (b + 1) (more_parts xs (sign r.Closing s.CloseBrace ∷ rest)) refl (omega arith) (omega arith)
              (more_parts_counted version xs f.1 (t + 1 + tokens x) u b rest (omega arith) top (omega arith) h)),
        )
