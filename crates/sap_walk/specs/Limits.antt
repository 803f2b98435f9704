-- A grammar whose tokens may break limits, and its two walks: one goes past each limit and keeps the first that was
-- broken, one stops there.
use Rattle.std.specs.Prelude.{ℕ, ◌+◌, Option, Some, None, Result, Ok, Err, Bool}
use Rattle.sap_walk.specs.Walk.{Next, Table}

-- `tally` adds a token in its role to the counts, and `breach` is the limit that this token breaks after these
-- counts, if any.
pub record Limited : Type 1 where
  pub Symbol : Type 0
  pub Role : Type 0
  pub Token : Type 0
  pub Counts : Type 0
  pub Limit : Type 0
  pub next : Symbol → Token → Next Symbol Role
  pub may_be_empty : Symbol → Bool
  pub tally : Counts → Role → Token → Counts
  pub breach : Counts → Role → Token → Option Limit

-- Of the tokens that went by, this is kept: their number, the counts, and the first of them that broke a limit, by
-- its number from 0, with that limit.
pub record Past (Counts Limit : Type 0) : Type 0 where
  pub before : ℕ
  pub counts : Counts
  pub first : Option (ℕ × Limit)

-- The limit that was broken first: an earlier one, or else the one that this token breaks.
abbrev pub first_of : {Limit : Type 0} → Option (ℕ × Limit) → ℕ → Option Limit → Option (ℕ × Limit)
first_of (Some f) n b = Some f
first_of None n None = None
first_of None n (Some limit) = Some (n, limit)

-- The value, unless a limit is broken.
abbrev pub unless_broken : {A Limit : Type 0} → Option Limit → A → Result A Limit
unless_broken None a = Ok a
unless_broken (Some limit) a = Err limit

-- What is kept after one more token, in its role, has gone by.
abbrev pub passed : {Role Token Counts Limit : Type 0} → (Counts → Role → Token → Counts)
    → (Counts → Role → Token → Option Limit)
    → Role → Token → Past Counts Limit → Past Counts Limit
passed tally breach role t past = record {
  before = past.before + 1;
  counts = tally past.counts role t;
  first = first_of past.first past.before (breach past.counts role t);
}

module _ (G : Limited) where
  -- The walk that goes past each limit.
  abbrev pub lenient : Table
  lenient = record {
    Symbol = G.Symbol;
    Role = G.Role;
    Token = G.Token;
    Past = Past G.Counts G.Limit;
    Limit = G.Limit;
    next = G.next;
    may_be_empty = G.may_be_empty;
    enter = λ role t past. Ok (passed G.tally G.breach role t past);
  }

  -- The walk that stops where a limit is broken.
  abbrev pub strict : Table
  strict = record {
    Symbol = G.Symbol;
    Role = G.Role;
    Token = G.Token;
    Past = Past G.Counts G.Limit;
    Limit = G.Limit;
    next = G.next;
    may_be_empty = G.may_be_empty;
    enter = λ role t past. unless_broken (G.breach past.counts role t) (passed G.tally G.breach role t past);
  }
