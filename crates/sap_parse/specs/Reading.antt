-- What the reader's functions answer.
use Rattle.std.specs.Prelude.{◌≡◌, ℕ, List, [], ◌∷◌, drop, Option, Some, None, Result, Ok, Err}
use Rattle.sap_parse.specs.Limits.{Counts, breach, tally}
use Rattle.sap_parse.specs.Stages.{Stage}
use Rattle.sap_parse.specs.Table.{Symbol, may_be_empty, next}
use Rattle.sap_parse.specs.declared.cursor.Ahead.TheVariants as a
use Rattle.sap_parse.specs.declared.cursor.Ahead.{Ahead}
use Rattle.sap_parse.specs.declared.cursor.Fault.TheVariants as f
use Rattle.sap_parse.specs.declared.cursor.Fault.{Fault}
use Rattle.sap_lex.specs.declared.limit.Limit.{Limit}
use Rattle.sap_parse.specs.declared.role.Role.{Role}
use Rattle.sap_lex.specs.declared.token.Kind.TheVariants as k
use Rattle.sap_lex.specs.declared.token.Kind.{Kind}
use Rattle.sap_lex.specs.declared.token.Token.{Token}
use Rattle.sap_walk.specs.Limits.{Past, passed, unless_broken}
use Rattle.sap_walk.specs.Walk as walk
use Rattle.sap_walk.specs.Walk.{◌>>=◌}

-- Where a reader is: behind so many of the tokens, none of which broke a limit.
abbrev pub stage_at : List Token → ℕ → Counts → Stage
stage_at ts n counts = record { past = record { before = n; counts = counts; first = None }; left = drop n ts }

-- what kind of token stands at the front

-- What the reader looks at of the next token: its word or sign, or that it is a name or a number.
abbrev pub ahead_of : Kind → Ahead
ahead_of (k.Word word) = a.Word word
ahead_of (k.Sign sign) = a.Sign sign
ahead_of (k.Name name) = a.Name
ahead_of (k.Number n) = a.Number
ahead_of (k.Sized width n) = a.Sized

-- What the reader looks at of the tokens that are left.
unfoldable pub ahead : List Token → Ahead
ahead [] = a.Nothing
ahead (t ∷ ts) = ahead_of t.kind

-- And behind it.
unfoldable pub second : List Token → Ahead
second [] = a.Nothing
second (t ∷ ts) = ahead ts

-- the walk by the table of the design grammar; `enter` says how a token is gone past

-- How a token is taken: what is counted after it, or the limit that it breaks.
abbrev pub Enter : Type 0
Enter = Role → Token → Past Counts Limit → Result (Past Counts Limit) Limit

-- The design grammar as a table for the walk, with this way of taking tokens.
abbrev pub table : Enter → walk.Table
table enter = record {
  Symbol = Symbol;
  Role = Role;
  Token = Token;
  Past = Past Counts Limit;
  Limit = Limit;
  next = λ s t. next s t.kind;
  may_be_empty = may_be_empty;
  enter = enter;
}

-- The stage after a symbol, or why the walk came to a halt.
abbrev pub Outcome : Type 0
Outcome = Result Stage (walk.Halt Stage Limit)

-- What taking one symbol at a stage comes to.
unfoldable pub read_by : Enter → Symbol → Stage → Outcome
read_by enter s p = walk.read (table enter) s p

-- What taking several symbols, one after another, comes to.
abbrev pub steps_by : Enter → List Symbol → Stage → Outcome
steps_by enter [] p = Ok p
steps_by enter (s ∷ σ) p = read_by enter s p >>= steps_by enter σ

-- the walk that stops where a limit is broken, and the one that goes past each

-- A token that breaks a limit isn't taken.
unfoldable pub strictly : Enter
strictly role t past = unless_broken (breach past.counts role t) (passed tally breach role t past)

-- A token is taken, whatever limit it breaks.
unfoldable pub leniently : Enter
leniently role t past = Ok (passed tally breach role t past)

-- What taking one symbol comes to, if a broken limit ends the walk.
abbrev pub reads : Symbol → Stage → Outcome
reads = read_by strictly

-- A reader of s that faults there does as the walk does, and stays there.
abbrev pub Stops : Symbol → Stage → Fault → Stage → Type 0
Stops s old f.Token new = reads s old ≡ Err (walk.at_token new)
Stops s old (f.Limit limit) new = reads s old ≡ Err (walk.at_limit limit new)
Stops s old f.Memory new = Unit {0}

-- A reader of s that answers this between these stages does as the walk does.
abbrev pub Goes : {A : Type 0} → Symbol → Stage → Result A Fault → Stage → Type 0
Goes s old (Ok x) new = reads s old ≡ Ok new
Goes s old (Err e) new = Stops s old e new

-- The token that stands at p is passed in this role, and breaks no limit; q comes behind it.
pub record Passes (p : Stage) (role : Role) (token : Token) (q : Stage) : Type 0 where
  pub left : p.left ≡ token ∷ q.left
  pub past : q.past ≡ passed tally breach role token p.past
  pub free : breach p.past.counts role token ≡ None

-- The token that stands at p breaks a limit in this role.
pub record Breaks (p : Stage) (role : Role) (limit : Limit) : Type 0 where
  pub token : Token
  pub rest : List Token
  pub left : p.left ≡ token ∷ rest
  pub broken : breach p.past.counts role token ≡ Some limit

-- The reader stops there, and stays.
abbrev pub IsBroken : Stage → Role → Stage → Fault → Type 0
IsBroken old role new f.Token = ⊥
IsBroken old role new (f.Limit limit) = Breaks old role limit × (new ≡ old)
IsBroken old role new f.Memory = ⊥

-- the number that stands at the front, the name, and the number with a width

-- The number that a token is, if it is one.
abbrev pub number_in : Kind → Option ℕ
number_in (k.Number n) = Some n
number_in kind = None

-- The number that the next token is, if it is one.
unfoldable pub front_number : List Token → Option ℕ
front_number [] = None
front_number (t ∷ ts) = number_in t.kind

-- The name that a token is, if it is one.
abbrev pub name_in : Kind → Option (List ℕ)
name_in (k.Name name) = Some name
name_in kind = None

-- The name that the next token is, if it is one.
unfoldable pub front_name : List Token → Option (List ℕ)
front_name [] = None
front_name (t ∷ ts) = name_in t.kind

-- The width and the number that a sized number is, if the token is one.
abbrev pub sized_in : Kind → Option (ℕ × ℕ)
sized_in (k.Sized width n) = Some (width, n)
sized_in kind = None

-- The width and the number that the next token is, if it is a sized number.
unfoldable pub front_sized : List Token → Option (ℕ × ℕ)
front_sized [] = None
front_sized (t ∷ ts) = sized_in t.kind
