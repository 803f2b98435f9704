-- The laws of walks, for any types of symbols, roles, tokens and limits.
use Rattle.std.specs.Prelude.{◌≡◌, List, Option, None, Result, Ok, Bool}
use Rattle.sap_walk.specs.Limits.{Limited, Past, lenient, strict}
use Rattle.sap_walk.specs.Walk.{Next, Table, Point, steps, walk}

-- A walk over several symbols reads what they read, one after another.
abbrev pub InTurn : (Symbol Role Token Kept Limit : Type 0) → Type 0
InTurn Symbol Role Token Kept Limit =
    (next : Symbol → Token → Next Symbol Role) (may_be_empty : Symbol → Bool) (enter : Role → Token
    → Kept → Result Kept Limit)
    → let W : Table = record {
      Symbol = Symbol;
      Role = Role;
      Token = Token;
      Past = Kept;
      Limit = Limit;
      next = next;
      may_be_empty = may_be_empty;
      enter = enter;
    } in
    (symbols : List Symbol) (p : Point W) → walk W p.left p.past symbols ≡ steps W symbols p

-- Where the walk that goes past each limit reads on without one that is broken, the walk that stops at them reads the
-- same.
abbrev pub ReadsWithin : (Symbol Role Token Counts Limit : Type 0) → Type 0
ReadsWithin Symbol Role Token Counts Limit =
    (next : Symbol → Token → Next Symbol Role) (may_be_empty : Symbol → Bool) (tally : Counts → Role
    → Token → Counts) (breach : Counts → Role → Token → Option Limit)
    → let G : Limited = record {
      Symbol = Symbol;
      Role = Role;
      Token = Token;
      Counts = Counts;
      Limit = Limit;
      next = next;
      may_be_empty = may_be_empty;
      tally = tally;
      breach = breach;
    } in
    (tokens : List Token) (past : Past Counts Limit) (symbols : List Symbol) (p : Point (lenient G))
    → past.first ≡ None → p.past.first ≡ None
    → walk (lenient G) tokens past symbols ≡ Ok p → walk (strict G) tokens past symbols ≡ Ok p
