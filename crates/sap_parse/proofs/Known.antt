-- What the walk reads where the first token is known, or where it is known that a symbol is read.
use Rattle.sap_lemmas.proofs.Common.{◌≡◌, ◌≢◌, ℕ, List, [], ◌∷◌, ◌++◌, Option, Some, None, Ok, Err, true, false, refl, sym, ap, subst, ◌∙◌, bytes_eq_same}
use Rattle.sap_parse.specs.Limits.{tally, breach}
use Rattle.sap_parse.specs.Reading.{Outcome, leniently, read_by, steps_by, table}
use Rattle.sap_parse.specs.Stages.{Stage, IsToken}
use Rattle.sap_parse.specs.Table as s
use Rattle.sap_parse.specs.Table.{Symbol, Row, may_be_empty, next}
use Rattle.sap_parse.specs.declared.role.Role.{Role}
use Rattle.sap_lex.specs.Spelling.{sign_text}
use Rattle.sap_lex.specs.declared.token.Kind.TheVariants as k
use Rattle.sap_lex.specs.declared.token.Kind.{Kind}
use Rattle.sap_lex.specs.declared.token.Sign.{Sign as SignOf}
use Rattle.sap_lex.specs.declared.token.Token.{Token}
use Rattle.sap_tree.specs.Words.{word_text}
use Rattle.sap_tree.specs.declared.word.Word.{Word as WordOf}
use Rattle.sap_parse.proofs.Laws as laws
use Rattle.sap_walk.specs.Limits.{passed}
use Rattle.sap_walk.specs.Rows.{firsts}
use Rattle.sap_walk.specs.Walk.{begins, empty_here, cannot_stand, at_token, ◌>>=◌}
use Rattle.sap_walk.proofs.Rows.{all_empty}
use Rattle.sap_walk.proofs.Walking.{read_take}

-- the kind of the first token that is left
abbrev pub kind_in : List Token → Option Kind
kind_in [] = None
kind_in (t ∷ ts) = Some t.kind

abbrev pub first_kind : Stage → Option Kind
first_kind p = kind_in p.left

pub first_is : {p q : Stage} {role : Role} {kind : Kind} → IsToken p role kind q → first_kind p ≡ Some kind
first_is h = ap kind_in h.left ∙ ap (λ x. Some x) h.is

-- a token that stands here, in any role
pub stands_here : (p : Stage) (role : Role) (kind : Kind) → first_kind p ≡ Some kind → (q : Stage) × IsToken p role kind q
stands_here p role kind e = by_left p.left refl where
  by_left : (left : List Token) → p.left ≡ left → (q : Stage) × IsToken p role kind q
  by_left [] none = absurd (let z : None ≡ Some kind = sym (ap kind_in none) ∙ e in cc)
  by_left (t ∷ ts) some = (
    record { past = passed tally breach role t p.past; left = ts },
    record {
      token = t;
      left = some;
      past = refl;
      is =
          let z : Some t.kind ≡ Some kind = sym (ap kind_in some) ∙ e in cc;
    },
  )

-- the walk that goes past each limit
abbrev pub R : Symbol → Stage → Outcome
R = read_by leniently

abbrev pub Rs : List Symbol → Stage → Outcome
Rs = steps_by leniently

pub steps_append : (σ τ : List Symbol) (p : Stage) → Rs (σ ++ τ) p ≡ (Rs σ p >>= Rs τ)
steps_append = laws.steps_append leniently

-- symbols that stand at the token's kind for others

pub at_kind : (x : Symbol) (σ : List Symbol) (kind : Kind) (p : Stage) → first_kind p ≡ Some kind → next x kind ≡ firsts (λ y. next y kind) σ → R x p ≡ Rs σ p
at_kind x σ kind p e row = by_left p.left refl where
  by_left : (left : List Token) → p.left ≡ left → R x p ≡ Rs σ p
  by_left [] none = absurd (let z : None ≡ Some kind = sym (ap kind_in none) ∙ e in cc)
  by_left (t ∷ ts) some =
      let same : t.kind ≡ kind = let z : Some t.kind ≡ Some kind = sym (ap kind_in some) ∙ e in cc in
      laws.read_at leniently x σ p t ts some (subst (λ i. next x i ≡ firsts (λ y. next y i) σ) (sym same) row)

pub at_token_of : (x : Symbol) (σ : List Symbol) {p q : Stage} {role : Role} {kind : Kind} → IsToken p role kind q → next x kind ≡ firsts (λ y. next y kind) σ → R x p ≡ Rs σ p
at_token_of x σ {p} {kind = kind} h row = at_kind x σ kind p (first_is h) row

pub at_none : (x : Symbol) (σ : List Symbol) (p : Stage) → first_kind p ≡ None → may_be_empty x ≡ all_empty (table leniently) σ → R x p ≡ Rs σ p
at_none x σ p e same = laws.read_none leniently x σ p (none p.left e) same where
  none : (left : List Token) → kind_in left ≡ None → left ≡ []
  none [] e = refl
  none (t ∷ ts) e = absurd (cc)

-- symbols that stand for others everywhere
pub stands_for : (x : Symbol) (σ : List Symbol) → ((i : Kind) → next x i ≡ firsts (λ y. next y i) σ) → may_be_empty x ≡ all_empty (table leniently) σ → (p : Stage) → R x p ≡ Rs σ p
stands_for x σ row e p = laws.read_if leniently x σ e p (λ t ts left. row t.kind)

-- single tokens

token_reads : (x : Symbol) {p q : Stage} {role : Role} {kind : Kind} → IsToken p role kind q → next x kind ≡ begins role [] → R x p ≡ Ok q
unfolding read_by leniently
token_reads x {p} {q} {role} {kind} h row =
    let here : next x h.token.kind ≡ begins role [] = subst (λ i. next x i ≡ begins role []) (sym h.is) row in
    ap (λ l. R x (record { past = p.past; left = l })) h.left
    ∙ read_take (table leniently) x h.token q.left p.past role [] (passed tally breach role h.token p.past) here refl
    ∙ ap (λ past. Ok (record { past = past; left = q.left })) (sym h.past)

pub sign_reads : {p q : Stage} {role : Role} {sign : SignOf} → IsToken p role (k.Sign sign) q → R (s.sign role sign) p ≡ Ok q
sign_reads {role = role} {sign = sign} h = token_reads (s.sign role sign) h (ap (s.if_same role) (bytes_eq_same (sign_text sign)))

pub word_reads : {p q : Stage} {role : Role} {word : WordOf} → IsToken p role (k.Word word) q → R (s.word role word) p ≡ Ok q
word_reads {role = role} {word = word} h = token_reads (s.word role word) h (ap (s.if_same role) (bytes_eq_same (word_text word)))

pub name_reads : {p q : Stage} {role : Role} {name : List ℕ} → IsToken p role (k.Name name) q → R (s.any_name role) p ≡ Ok q
name_reads {role = role} h = token_reads (s.any_name role) h refl

pub sized_reads : {p q : Stage} {role : Role} {width n : ℕ} → IsToken p role (k.Sized width n) q → R (s.sized role) p ≡ Ok q
sized_reads {role = role} h = token_reads (s.sized role) h refl

pub number_reads : {p q : Stage} {role : Role} {n : ℕ} → IsToken p role (k.Number n) q → R (s.number role) p ≡ Ok q
number_reads {role = role} h = token_reads (s.number role) h refl

-- what is left out

pub skipped : (x : Symbol) (p : Stage) → may_be_empty x ≡ true → ((i : Kind) → first_kind p ≡ Some i → next x i ≡ empty_here) → R x p ≡ Ok p
skipped x p e row = laws.skips leniently x e p (λ t ts left. row t.kind (ap kind_in left))

-- what is read, and may not be empty, takes the first token

pub record Taken (x : Symbol) (p : Stage) : Type 0 where
  pub kind : Kind
  pub here : first_kind p ≡ Some kind
  pub role : Role
  pub behind : List Symbol
  pub row : next x kind ≡ begins role behind

pub takes : (x : Symbol) (p q : Stage) → may_be_empty x ≡ false → ((i : Kind) → next x i ≢ empty_here) → R x p ≡ Ok q → Taken x p
takes x p q e full h = by_left p.left refl where
  ok_not : {a : Stage} (o : Outcome) → o ≡ Ok q → o ≡ Err (at_token a) → ⊥
  ok_not o f g = cc

  by_next : (t : Token) (ts : List Token) → p.left ≡ t ∷ ts → (n : Row) → next x t.kind ≡ n → Taken x p
  by_next t ts some (begins role σ) w = record { kind = t.kind; here = ap kind_in some; role = role; behind = σ; row = w }
  by_next t ts some empty_here w = absurd (full t.kind w)
  by_next t ts some cannot_stand w = absurd (ok_not (R x p) h (laws.stops_at leniently x p t ts some w))

  by_left : (left : List Token) → p.left ≡ left → Taken x p
  by_left [] none = absurd (ok_not (R x p) h (laws.stops leniently x e p (λ t ts some. let z : [] ≡ t ∷ ts = sym none ∙ some in absurd (cc))))
  by_left (t ∷ ts) some = by_next t ts some (next x t.kind) refl
