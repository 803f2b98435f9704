-- What the tokens between two stages of a text within the limits give.
use Rattle.sap_lemmas.proofs.Common.{◌≡◌, ◌<◌, ◌≤◌, ◌+◌, ◌-◌, ◌^◌, ℕ, suc, List, [], ◌∷◌, length, Option, Some, None, Bool, true, false, cond, not, refl, sym, ap, subst, ◌∙◌, arith, nat_tests, nat_le, nat_lt, ◌&&◌, All}
use Rattle.sap_parse.specs.Limits.{Counts, tally, breach, breach_of_name, breach_of_role, above, ◌or_else◌}
use Rattle.sap_lex.specs.Spelled.{HasText, Spells, SpellsSized, decimal, hexadecimal, is_of, text_of}
use Rattle.sap_parse.specs.Stages.{Stage, IsToken}
use Rattle.sap_lex.specs.declared.limit.Limit.TheVariants as l
use Rattle.sap_lex.specs.declared.limit.Limit.{Limit}
use Rattle.sap_parse.specs.declared.role.Role.TheVariants as r
use Rattle.sap_parse.specs.declared.role.Role.{Role}
use Rattle.sap_lex.specs.declared.token.Kind.TheVariants as k
use Rattle.sap_lex.specs.declared.token.Kind.{Kind}
use Rattle.sap_lex.specs.declared.token.Token.{Token}
use Rattle.sap_tree.specs.Prelude.{most_arms, is_number, is_word, is_keyword, is_name}
use Rattle.sap_tree.specs.declared.version.Version.{Version}
use Rattle.sap_walk.specs.Limits.{first_of}

-- tests

pub all_true : {a b : Bool} → a ≡ true → b ≡ true → (a && b) ≡ true
all_true e f = cc (e, f)

pub le_true : {a b : ℕ} → a ≤ b → nat_le a b ≡ true
le_true h = grind (arith, nat_tests)

pub number_true : {n : ℕ} → n < 2 ^ 64 → is_number n ≡ true
number_true h = grind (arith, nat_tests)

-- names and numbers as the lexer gives them

abbrev pub IsGood : Version → Kind → Type 0
IsGood version (k.Name name) = (is_word name ≡ true) × (is_keyword version name ≡ false)
IsGood version (k.Number n) = n < 2 ^ 64
IsGood version (k.Sized width n) = (width < 2 ^ 64) × (n < 2 ^ 64)
IsGood version (k.Word word) = is_of version word ≡ true
IsGood version (k.Sign sign) = Unit {0}

abbrev pub AreGood : Version → List Token → Type 0
AreGood version [] = Unit {0}
AreGood version (t ∷ ts) = IsGood version t.kind × AreGood version ts

sized_good : {width n : ℕ} {text : List ℕ} → SpellsSized width n text → (width < 2 ^ 64) × (n < 2 ^ 64)
sized_good (decimal front digits e a b) = (a.fits, b.fits)
sized_good (hexadecimal front digits e a b) = (a.fits, b.fits)

spelled_good : (version : Version) (kind : Kind) (text : List ℕ) → Spells version kind text → IsGood version kind
spelled_good version (k.Name name) text h = (h.1, h.2)
spelled_good version (k.Number n) text h = h.fits
spelled_good version (k.Sized width n) text h = sized_good h
spelled_good version (k.Word word) text h = h.1
spelled_good version (k.Sign sign) text h = tt

pub texts_good : (version : Version) (source : List ℕ) (ts : List Token) → All (HasText version source) ts → AreGood version ts
texts_good version source [] h = tt
texts_good version source (t ∷ ts) h = (spelled_good version t.kind (text_of source t) (h 0 t (omega arith)), texts_good version source ts (λ i d e. h (suc i) d (omega arith)))

-- from tokens that are good, and where no limit is broken at the end: none was at the beginning, and this holds; no more tokens are left
pub record Between (version : Version) (p q : Stage) (F : Type 0) : Type 0 where
  pub less : length q.left ≤ length p.left
  pub good : AreGood version p.left → AreGood version q.left
  pub back : AreGood version p.left → length p.left ≤ most_arms → q.past.first ≡ None → (p.past.first ≡ None) × F

infixr 10 ◌then◌
pub ◌then◌ : {version : Version} {p q r : Stage} {F G : Type 0} → Between version p q F → Between version q r G → Between version p r (F × G)
a then b = record {
  less = let x = a.less in let y = b.less in omega arith;
  good = λ g. b.good (a.good g);
  back = λ g m e. let less = a.less in let y = b.back (a.good g) (omega arith) e in let x = a.back g m y.0 in (x.0, (x.1, y.1));
}

pub gives : {version : Version} {p q : Stage} {F G : Type 0} → Between version p q F → (F → G) → Between version p q G
gives a f = record { less = a.less; good = a.good; back = λ g m e. let x = a.back g m e in (x.0, f x.1) }

pub still : {version : Version} {p : Stage} {F : Type 0} → F → Between version p p F
still f = record { less = omega arith; good = λ g. g; back = λ g m e. (e, f) }

-- and there are no more tokens at the beginning than a text has bytes
pub sized : {version : Version} {p q : Stage} {F : Type 0} → Between version p q F → Between version p q (F × (length p.left ≤ most_arms))
sized a = record { less = a.less; good = a.good; back = λ g m e. let x = a.back g m e in (x.0, (x.1, m)) }

-- single tokens

abbrev pub KindFact : Version → Kind → Type 0
KindFact version (k.Name name) = is_name version name ≡ true
KindFact version (k.Number n) = is_number n ≡ true
KindFact version (k.Sized width n) = (is_number width ≡ true) × (is_number n ≡ true)
KindFact version (k.Word word) = is_of version word ≡ true
KindFact version (k.Sign sign) = Unit {0}

-- a token that stands in no expression, and begins so many inputs, registers, memories, states and commands
pub record Plainly (i r m s n : ℕ) (c d : Counts) : Type 0 where
  pub inputs : d.inputs ≡ c.inputs + i
  pub registers : d.registers ≡ c.registers + r
  pub memories : d.memories ≡ c.memories + m
  pub states : d.states ≡ c.states + s
  pub commands : d.commands ≡ c.commands + n
  pub tokens : d.tokens ≡ 0
  pub brackets : d.brackets ≡ 0

-- a token of an expression
pub record Inside (c d : Counts) : Type 0 where
  pub tokens : d.tokens ≡ c.tokens + 1
  pub room : d.tokens ≤ 256
  pub states : d.states ≡ c.states
  pub commands : d.commands ≡ c.commands

abbrev pub RoleFact : Role → Counts → Counts → Type 0
RoleFact r.Plain c d = Plainly 0 0 0 0 0 c d
RoleFact r.Input c d = Plainly 1 0 0 0 0 c d × (d.inputs ≤ 64)
RoleFact r.Register c d = Plainly 0 1 0 0 0 c d × (d.registers ≤ 256)
RoleFact r.Memory c d = Plainly 0 0 1 0 0 c d × (d.memories ≤ 16)
RoleFact (r.State depth) c d = Plainly 0 0 0 1 0 c d × (d.states ≤ 256) × (depth ≤ 16)
RoleFact (r.Command depth) c d = Plainly 0 0 0 0 1 c d × (d.commands ≤ 4096) × (depth ≤ 64)
RoleFact r.Inner c d = Inside c d × (d.brackets ≡ c.brackets)
RoleFact r.Opening c d = Inside c d × (d.brackets ≡ c.brackets + 1) × (d.brackets ≤ 64)
RoleFact r.Closing c d = Inside c d × (d.brackets ≡ c.brackets - 1)

above_none : (most n : ℕ) (limit : Limit) → above most n limit ≡ None → n ≤ most
above_none most n limit = by_test (nat_lt most n) refl where
  by_test : (b : Bool) → nat_lt most n ≡ b → cond b (Some limit) None ≡ None → n ≤ most
  by_test true h e = absurd (let f : ◌≡◌ {A = Option Limit} (Some limit) None = e in cc)
  by_test false h e = grind (arith, nat_tests)

both_none : (a b : Option Limit) → (a or_else b) ≡ None → (a ≡ None) × (b ≡ None)
both_none None b e = (refl, e)
both_none (Some limit) b e = absurd (cc)

first_none : (f : Option (ℕ × Limit)) (n : ℕ) (b : Option Limit) → first_of f n b ≡ None → (f ≡ None) × (b ≡ None)
first_none None n None e = (refl, refl)
first_none None n (Some limit) e = absurd (cc)
first_none (Some x) n b e = absurd (cc)

plainly : {i r m s n : ℕ} {c d : Counts} → d.inputs ≡ c.inputs + i → d.registers ≡ c.registers + r → d.memories ≡ c.memories + m
    → d.states ≡ c.states + s → d.commands ≡ c.commands + n → d.tokens ≡ 0 → d.brackets ≡ 0 → Plainly i r m s n c d
plainly inputs registers memories states commands tokens brackets = record {
  inputs = inputs;
  registers = registers;
  memories = memories;
  states = states;
  commands = commands;
  tokens = tokens;
  brackets = brackets;
}

role_fact : (c : Counts) (role : Role) (t : Token) → breach_of_role c role ≡ None → RoleFact role c (tally c role t)
role_fact c r.Plain t e = plainly (omega arith) (omega arith) (omega arith) (omega arith) (omega arith) refl refl
role_fact c r.Input t e =
    (plainly refl (omega arith) (omega arith) (omega arith) (omega arith) refl refl, above_none 64 (c.inputs + 1) l.Inputs e)
role_fact c r.Register t e =
    (plainly (omega arith) refl (omega arith) (omega arith) (omega arith) refl refl, above_none 256 (c.registers + 1) l.Registers e)
role_fact c r.Memory t e =
    (plainly (omega arith) (omega arith) refl (omega arith) (omega arith) refl refl, above_none 16 (c.memories + 1) l.Memories e)
role_fact c (r.State depth) t e =
    let b = both_none (above 256 (c.states + 1) l.States) (above 16 depth l.Nesting) e in (
      plainly (omega arith) (omega arith) (omega arith) refl (omega arith) refl refl,
      above_none 256 (c.states + 1) l.States b.0,
      above_none 16 depth l.Nesting b.1,
    )
role_fact c (r.Command depth) t e =
    let b = both_none (above 4096 (c.commands + 1) l.Commands) (above 64 depth l.Blocks) e in (
      plainly (omega arith) (omega arith) (omega arith) (omega arith) refl refl refl,
      above_none 4096 (c.commands + 1) l.Commands b.0,
      above_none 64 depth l.Blocks b.1,
    )
role_fact c r.Inner t e = (record { tokens = refl; room = above_none 256 (c.tokens + 1) l.Expression e; states = refl; commands = refl }, refl)
role_fact c r.Opening t e =
    let b = both_none (above 64 (c.brackets + 1) l.Brackets) (above 256 (c.tokens + 1) l.Expression) e in
    (record { tokens = refl; room = above_none 256 (c.tokens + 1) l.Expression b.1; states = refl; commands = refl }, refl, above_none 64 (c.brackets + 1) l.Brackets b.0)
role_fact c r.Closing t e = (record { tokens = refl; room = above_none 256 (c.tokens + 1) l.Expression e; states = refl; commands = refl }, refl)

kind_fact : (version : Version) (kind : Kind) → IsGood version kind → breach_of_name kind ≡ None → KindFact version kind
unfolding is_name
kind_fact version (k.Name name) g e = all_true (all_true g.0 (ap not g.1)) (le_true (above_none 40 (length name) l.Name e))
kind_fact version (k.Number n) g e = number_true g
kind_fact version (k.Sized width n) g e = (number_true g.0, number_true g.1)
kind_fact version (k.Word word) g e = g
kind_fact version (k.Sign sign) g e = tt

pub one_less : {p q : Stage} {role : Role} {kind : Kind} → IsToken p role kind q → length q.left + 1 ≤ length p.left
one_less h = let e = ap length h.left in omega arith

-- a token that stands between these stages
pub stands : {version : Version} {p q : Stage} {role : Role} {kind : Kind} → IsToken p role kind q
    → Between version p q (KindFact version kind × RoleFact role p.past.counts q.past.counts)
stands {version} {p} {q} {role} {kind} h = record {
  less = let e = ap length h.left in omega arith;
  good = λ g. (split g).1;
  back = λ g m e. broken (split g).0 (sym (ap (λ x. x.first) h.past) ∙ e);
} where
  split : AreGood version p.left → IsGood version h.token.kind × AreGood version q.left
  split g = subst (AreGood version) h.left g

  broken : IsGood version h.token.kind → first_of p.past.first p.past.before (breach p.past.counts role h.token) ≡ None
      → (p.past.first ≡ None) × (KindFact version kind × RoleFact role p.past.counts q.past.counts)
  broken g e =
      let f = first_none p.past.first p.past.before (breach p.past.counts role h.token) e in
      let b = both_none (breach_of_name h.token.kind) (breach_of_role p.past.counts role) f.1 in (
        f.0,
        (
          subst (KindFact version) h.is (kind_fact version h.token.kind g b.0),
          subst (RoleFact role p.past.counts) (sym (ap (λ x. x.counts) h.past)) (role_fact p.past.counts role h.token b.1),
        ),
      )
