-- A walk over the tokens of a text, with a stack of what is to come, for any grammar that tells by the next token what
-- it begins.
use Rattle.std.specs.Prelude.{List, [], ◌∷◌, ◌++◌, Result, Ok, Err, Bool, true, false}

-- What the next token does with the symbol that is to come: it is the first token of it, in this role, and these
-- symbols come behind it; the symbol is empty here; or the token cannot stand here.
pub data Next (Symbol Role : Type 0) : Type 0 where
  begins : Role → List Symbol → Next Symbol Role
  empty_here cannot_stand : Next Symbol Role

-- A grammar as the walk reads it. `Past` is what is kept of the tokens that went by, and `enter` adds to it a token in
-- its role, or says which limit that token breaks.
pub record Table : Type 1 where
  pub Symbol : Type 0
  pub Role : Type 0
  pub Token : Type 0
  pub Past : Type 0
  pub Limit : Type 0
  pub next : Symbol → Token → Next Symbol Role
  pub may_be_empty : Symbol → Bool
  pub enter : Role → Token → Past → Result Past Limit

-- A stage is a place in the text: what is kept of the tokens before it, and the tokens from there on.
pub record Stage (Past Token : Type 0) : Type 0 where
  pub past : Past
  pub left : List Token

-- Why the walk stops, and where: the token there cannot follow, or the text cannot end there; or the token there breaks
-- a limit.
pub data Halt (S Limit : Type 0) : Type 0 where
  at_token : S → Halt S Limit
  at_limit : Limit → S → Halt S Limit

-- What a token does with all that is to come: it is taken, and then this is kept and that is to come; it is not needed;
-- it cannot stand here; or it breaks a limit.
pub data Move (Past Symbol Limit : Type 0) : Type 0 where
  moved_past : Past → List Symbol → Move Past Symbol Limit
  not_needed rejected : Move Past Symbol Limit
  breaks_limit : Limit → Move Past Symbol Limit

infixl 10 ◌>>=◌
-- The next step, unless the walk came to a halt.
abbrev pub ◌>>=◌ : {S E : Type 0} → Result S E → (S → Result S E) → Result S E
(Ok p) >>= f = f p
(Err e) >>= f = Err e

-- The move of a token that was taken, or of a limit that it broke.
abbrev pub entered : {Past Symbol Limit : Type 0} → Result Past Limit → List Symbol → Move Past Symbol Limit
entered (Ok past) σ = moved_past past σ
entered (Err limit) σ = breaks_limit limit

-- One of three answers, by what a token does with a symbol.
abbrev pub chosen : {Symbol Role A : Type 0} → Next Symbol Role → (Role → List Symbol → A) → A → A → A
chosen (begins role σ) take skip stop = take role σ
chosen empty_here take skip stop = skip
chosen cannot_stand take skip stop = stop

-- One of four answers, by what a move came to.
abbrev pub moved : {Past Symbol Limit A : Type 0} → Move Past Symbol Limit → (Past → List Symbol → A)
    → A → A → (Limit → A) → A
moved (moved_past past σ) taken unneeded refused breaks = taken past σ
moved not_needed taken unneeded refused breaks = unneeded
moved rejected taken unneeded refused breaks = refused
moved (breaks_limit limit) taken unneeded refused breaks = breaks limit

-- The first value if the symbol may stand for no token, else the second.
abbrev pub if_empty : {A : Type 0} → Bool → A → A → A
if_empty true a b = a
if_empty false a b = b

module _ (W : Table) where
  -- Where a walk stands: what is past and the next token.
  abbrev pub Point : Type 0
  Point = Stage W.Past W.Token

  -- A walk ends at a point, or stops at one.
  abbrev pub Outcome : Type 0
  Outcome = Result Point (Halt Point W.Limit)

  -- The walk's answer to a token: the first symbol whose row takes it.
  unfoldable pub settle : W.Token → W.Past → List W.Symbol → Move W.Past W.Symbol W.Limit
  settle t past [] = not_needed
  settle t past (s ∷ γ) = chosen (W.next s t) (λ role σ. entered (W.enter role t past) (σ ++ γ))
      (settle t past γ) rejected

  -- The walk's answer to the end of the text: each symbol that is left may be empty.
  unfoldable pub at_end : W.Past → List W.Symbol → Outcome
  at_end past [] = Ok (record { past = past; left = [] })
  at_end past (s ∷ γ) = if_empty (W.may_be_empty s) (at_end past γ) (Err (at_token (record { past = past; left = [] })))

  -- Reads what is to come, or as far as the tokens follow.
  unfoldable pub walk : List W.Token → W.Past → List W.Symbol → Outcome
  walk [] past γ = at_end past γ
  walk (t ∷ ts) past γ =
      moved (settle t past γ)
      (λ q σ. walk ts q σ)
      (Ok (record { past = past; left = t ∷ ts }))
      (Err (at_token (record { past = past; left = t ∷ ts })))
      (λ limit. Err (at_limit limit (record { past = past; left = t ∷ ts })))

  -- Reads one symbol.
  unfoldable pub read : W.Symbol → Point → Outcome
  read s p = walk p.left p.past (s ∷ [])

  -- Reads symbols, one after another.
  abbrev pub steps : List W.Symbol → Point → Outcome
  steps [] p = Ok p
  steps (s ∷ γ) p = read s p >>= steps γ
