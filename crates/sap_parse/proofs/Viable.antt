-- Each symbol can be spelled, and tokens that the walk takes go on as the grammar has it.
use Rattle.sap_lemmas.proofs.Common.{◌≡◌, ◌-◌, ℕ, zero, suc, List, [], ◌∷◌, ◌++◌, Option, Result, Ok, Bool, true, false, refl, sym, ap, subst, append_assoc, and_from, and_parts, bytes_eq_same, ◌&&◌}
use Rattle.sap_parse.specs.Fault.{SpellsSome}
use Rattle.sap_parse.specs.Limits.{Counts, tally, breach}
use Rattle.sap_parse.specs.Stages.{at_start}
use Rattle.sap_parse.specs.Table as s
use Rattle.sap_parse.specs.Table.{Symbol, Row, grammar, next, tails, tightest}
use Rattle.sap_lex.specs.Spelling.{sign_text}
use Rattle.sap_lex.specs.declared.limit.Limit.{Limit}
use Rattle.sap_parse.specs.declared.role.Role.TheVariants as r
use Rattle.sap_parse.specs.declared.role.Role.{Role}
use Rattle.sap_lex.specs.declared.token.Kind.TheVariants as k
use Rattle.sap_lex.specs.declared.token.Kind.{Kind}
use Rattle.sap_lex.specs.declared.token.Sign.TheVariants as j
use Rattle.sap_lex.specs.declared.token.Token.{Token}
use Rattle.sap_tree.specs.Words.{word_text}
use Rattle.sap_tree.specs.declared.word.Word.TheVariants as w
use Rattle.sap_tree.specs.Precedence.{unary_precedence}
use Rattle.sap_parse.proofs.Full.{full}
use Rattle.sap_parse.proofs.KeepsDesign.{keeps}
use Rattle.sap_parse.proofs.Spells.{W, Lang, Langs, last, nothing}
use Rattle.sap_walk.specs.Limits.{Past, lenient, passed}
use Rattle.sap_walk.specs.Walk.{begins, empty_here}
use Rattle.sap_walk.proofs.Running.{Runs}
use Rattle.sap_walk.proofs.Spelling as spelling

-- what is skipped may be empty
skip_empty : (x : Symbol) (i : Kind) → next x i ≡ empty_here → s.may_be_empty x ≡ true
skip_empty x i e = by_test (s.may_be_empty x) refl where
  by_test : (b : Bool) → s.may_be_empty x ≡ b → b ≡ true
  by_test true h = refl
  by_test false h = absurd (full x h i e)

-- the shortest way to spell a symbol

record Least (x : Symbol) (past : Past Counts Limit) : Type 0 where
  tokens : List Token
  after : Past Counts Limit
  spelled : (rest : List Token) → Lang x (record { past = past; left = tokens ++ rest }) (record { past = after; left = rest })

record Leasts (σ : List Symbol) (past : Past Counts Limit) : Type 0 where
  tokens : List Token
  after : Past Counts Limit
  spelled : (rest : List Token) → Langs σ (record { past = past; left = tokens ++ rest }) (record { past = after; left = rest })

Shortest : Symbol → Type 0
Shortest x = (past : Past Counts Limit) → Least x past

empty : (x : Symbol) → s.may_be_empty x ≡ true → Shortest x
unfolding Shortest
empty x e past = record { tokens = []; after = past; spelled = λ rest. nothing x e (record { past = past; left = rest }) }

of_kind : Kind → Token
of_kind i = record { kind = i; place = record { line = 0; column = 0 }; from = 0; to = 0 }

-- whether all of the symbols are such
abbrev all_of : (Symbol → Bool) → List Symbol → Bool
all_of P [] = true
all_of P (x ∷ σ) = P x && all_of P σ

-- whether a token takes the symbol, and such symbols come behind
abbrev is_begun : (Symbol → Bool) → Row → Bool
is_begun P (begins role σ) = all_of P σ
is_begun P n = false

-- by a token that takes the symbol, and what spells such symbols
module _ (P : Symbol → Bool) (short : (x : Symbol) → P x ≡ true → Shortest x) where
  leasts : (σ : List Symbol) → all_of P σ ≡ true → (past : Past Counts Limit) → Leasts σ past
  unfolding Shortest
  leasts [] h past = record { tokens = []; after = past; spelled = λ rest. refl }
  leasts (x ∷ σ) h past =
      let both = and_parts (P x) (all_of P σ) h in
      let a = short x both.0 past in
      let b = leasts σ both.1 a.after in
      record {
        tokens = a.tokens ++ b.tokens;
        after = b.after;
        spelled = λ rest.
            subst (λ ts. Langs (x ∷ σ) (record { past = past; left = ts }) (record { past = b.after; left = rest })) (sym (append_assoc a.tokens b.tokens rest))
            (record { past = a.after; left = b.tokens ++ rest }, a.spelled (b.tokens ++ rest), b.spelled rest);
      }

  by_row : (x : Symbol) (i : Kind) (role : Role) (σ : List Symbol) → next x i ≡ begins role σ → all_of P σ ≡ true → Shortest x
  unfolding Shortest of_kind
  by_row x i role σ e h past =
      let a = leasts σ h (passed tally breach role (of_kind i) past) in
      record {
        tokens = of_kind i ∷ a.tokens;
        after = a.after;
        spelled = λ rest. keeps (of_kind i) (a.tokens ++ rest) past x role σ e (record { past = a.after; left = rest }) (a.spelled rest);
      }

  by_token : (x : Symbol) (i : Kind) → is_begun P (next x i) ≡ true → Shortest x
  by_token x i h = by_next (next x i) refl h where
    by_next : (n : Row) → next x i ≡ n → is_begun P n ≡ true → Shortest x
    by_next (begins role σ) e h = by_row x i role σ e h
    by_next _ e h = absurd (cc)

-- what is one token, with what may be empty
abbrev is_small : Symbol → Bool
is_small (s.sign role x) = true
is_small (s.word role x) = true
is_small (s.any_name role) = true
is_small (s.number role) = true
is_small s.expr = true
is_small s.behind_number = true
is_small s.texpr = true
is_small s.constant = true
is_small s.kind_of = true
is_small (s.ending depth) = true
is_small x = s.may_be_empty x

alone : (x : Symbol) (i : Kind) → is_begun s.may_be_empty (next x i) ≡ true → Shortest x
alone = by_token s.may_be_empty empty

small : (x : Symbol) → is_small x ≡ true → Shortest x
small (s.sign role x) h = by_row s.may_be_empty empty (s.sign role x) (k.Sign x) role [] (ap (s.if_same role) (bytes_eq_same (sign_text x))) refl
small (s.word role x) h = by_row s.may_be_empty empty (s.word role x) (k.Word x) role [] (ap (s.if_same role) (bytes_eq_same (word_text x))) refl
small (s.any_name role) h = alone (s.any_name role) (k.Name []) refl
small (s.number role) h = alone (s.number role) (k.Number 0) refl
small s.expr h = alone s.expr (k.Number 0) refl
small s.behind_number h = alone s.behind_number (k.Sign j.CloseBracket) refl
small s.texpr h = alone s.texpr (k.Name []) refl
small s.constant h = alone s.constant (k.Number 0) refl
small s.kind_of h = alone s.kind_of (k.Word w.Dynamic) refl
small (s.ending depth) h = alone (s.ending depth) (k.Sign j.Semicolon) refl
small x h = empty x h

-- and blocks of these
abbrev is_block : Symbol → Bool
is_block (s.block depth) = true
is_block x = is_small x

block : (x : Symbol) → is_block x ≡ true → Shortest x
block (s.block depth) h = by_token is_small small (s.block depth) (k.Sign j.OpenBrace) refl
block x h = small x h

-- and what ends in a block
abbrev is_part : Symbol → Bool
is_part (s.arm depth) = true
is_part (s.arms depth) = true
is_part x = is_block x

part : (x : Symbol) → is_part x ≡ true → Shortest x
part (s.arm depth) h = by_token is_block block (s.arm depth) (k.Number 0) refl
part (s.arms depth) h = by_token is_block block (s.arms depth) (k.Word w.Else) refl
part x h = block x h

-- the whole of which these are the parts
of_parts : (x : Symbol) (i : Kind) → is_begun is_part (next x i) ≡ true → Shortest x
of_parts = by_token is_part part

empty_tails : (n : ℕ) → all_of s.may_be_empty (tightest n) ≡ true
empty_tails zero = refl
empty_tails (suc n) = one_more (tightest n) (empty_tails n) where
  one_more : (σ : List Symbol) → all_of s.may_be_empty σ ≡ true → all_of s.may_be_empty (σ ++ s.tail (unary_precedence - suc n) ∷ []) ≡ true
  one_more [] h = refl
  one_more (x ∷ σ) h = (let both = and_parts (s.may_be_empty x) (all_of s.may_be_empty σ) h in and_from _ _ both.0 (one_more σ both.1))

shortest : (x : Symbol) → Shortest x
shortest (s.sized role) = of_parts (s.sized role) (k.Sized 1 0) refl
shortest s.unary = of_parts s.unary (k.Number 0) refl
shortest s.post = of_parts s.post (k.Number 0) refl
shortest s.prim = of_parts s.prim (k.Number 0) refl
shortest s.paren = of_parts s.paren (k.Sign j.OpenParen) refl
shortest s.braces = of_parts s.braces (k.Sign j.OpenBrace) refl
shortest s.zext = of_parts s.zext (k.Word w.Zext) refl
shortest s.behind_bracket = of_parts s.behind_bracket (k.Number 0) refl
shortest s.slice = of_parts s.slice (k.Sign j.OpenBracket) refl
shortest (s.bin l) = by_row s.may_be_empty empty (s.bin l) (k.Number 0) r.Inner (s.slices ∷ tails l) refl (empty_tails (unary_precedence - l))
shortest s.tag_of = of_parts s.tag_of (k.Word w.Tag) refl
shortest s.level_at = of_parts s.level_at (k.Word w.Level) refl
shortest s.join = of_parts s.join (k.Word w.Join) refl
shortest (s.simple depth) = of_parts (s.simple depth) (k.Word w.Fall) refl
shortest (s.set_tag depth) = of_parts (s.set_tag depth) (k.Word w.SetTag) refl
shortest (s.goto depth) = of_parts (s.goto depth) (k.Word w.Goto) refl
shortest (s.fall depth) = of_parts (s.fall depth) (k.Word w.Fall) refl
shortest s.target = of_parts s.target (k.Sign j.Becomes) refl
shortest (s.cmd depth) = of_parts (s.cmd depth) (k.Word w.Fall) refl
shortest (s.if_command depth) = of_parts (s.if_command depth) (k.Word w.If) refl
shortest (s.case_command depth) = of_parts (s.case_command depth) (k.Word w.Case) refl
shortest s.enforced = of_parts s.enforced (k.Word w.Enforced) refl
shortest s.declaration = of_parts s.declaration (k.Word w.Input) refl
shortest s.input = of_parts s.input (k.Word w.Input) refl
shortest s.register = of_parts s.register (k.Word w.Reg) refl
shortest s.memory = of_parts s.memory (k.Word w.Mem) refl
shortest (s.state depth) = of_parts (s.state depth) (k.Word w.State) refl
shortest s.design = of_parts s.design (k.Word w.State) refl
shortest x = part x refl

spells : spelling.Spells W Lang
unfolding Shortest
spells = record {
  keeps = λ x t ts past q r role σ row enter more. keeps t ts past x role σ row r (subst (λ p. Langs σ (record { past = p; left = ts }) r) (sym (same_past enter)) more);
  empties = λ x t p row. nothing x (skip_empty x t.kind row) p;
  least = λ x past. let a = shortest x past in (a.tokens, a.after, a.spelled);
} where
  same_past : {a b : Past Counts Limit} → ◌≡◌ {A = Result (Past Counts Limit) Limit} (Ok a) (Ok b) → a ≡ b
  same_past e = cc

-- tokens that the walk takes go on to a design
pub goes_on : (front : List Token) (q : Past Counts Limit) (σ : List Symbol) → Runs (lenient grammar) front (at_start []).past (s.design ∷ []) q σ
    → (more : List Token) × (first : Option (ℕ × Limit)) × SpellsSome (front ++ more) first
goes_on front q σ runs =
    let g = spelling.goes_on W Lang spells runs in
    let d = last s.design (at_start (front ++ g.0)) (record { past = g.1; left = [] }) g.2 in
    (g.0, g.1.first, (d.0, record { end = record { past = g.1; left = [] }; design = d.1; whole = refl; first_is = refl }))
