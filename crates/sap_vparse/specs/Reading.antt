-- What the reader's functions answer.
use Rattle.std.specs.Prelude.{◌≡◌, ◌≢◌, ℕ, List, [], ◌∷◌, Option, Some, None, Result, Ok, Err}
use Rattle.sap_vtext.specs.Tokens as t
use Rattle.sap_vlex.specs.Spelling.{sign_of, word_of}
use Rattle.sap_vparse.specs.Table.{Symbol, grammar}
use Rattle.sap_vparse.specs.declared.cursor.Ahead.TheVariants as a
use Rattle.sap_vparse.specs.declared.cursor.Ahead.{Ahead}
use Rattle.sap_vparse.specs.declared.cursor.Fault.TheVariants as f
use Rattle.sap_vparse.specs.declared.cursor.Fault.{Fault}
use Rattle.sap_walk.specs.Walk as walk
use Rattle.sap_walk.specs.Walk.{◌>>=◌}

-- What is left behind, or from the token on that cannot follow.
abbrev pub Outcome : Type 0
Outcome = Result (List t.Token) (List t.Token)

-- The tokens that are left where a walk ends or stops.
abbrev pub plain : walk.Outcome grammar → Outcome
plain (Ok p) = Ok p.left
plain (Err (walk.at_token p)) = Err p.left
plain (Err (walk.at_limit limit p)) = Err p.left

-- The walk by the table of the module grammar.
unfoldable pub reads : Symbol → List t.Token → Outcome
reads s ts = plain (walk.read grammar s (record { past = tt; left = ts }))

-- The tokens that are left after some symbols.
abbrev pub steps : List Symbol → List t.Token → Outcome
steps [] ts = Ok ts
steps (s ∷ σ) ts = reads s ts >>= steps σ

-- A reader of s that faults there does as the walk does, and stays there.
abbrev pub Stops : Symbol → List t.Token → Fault → List t.Token → Type 0
Stops s old fault new = fault ≢ f.Memory → reads s old ≡ Err new

-- A reader of s that answers this between these tokens does as the walk does.
abbrev pub Goes : {A : Type 0} → Symbol → List t.Token → Result A Fault → List t.Token → Type 0
Goes s old (Ok x) new = reads s old ≡ Ok new
Goes s old (Err e) new = Stops s old e new

-- The first token is passed, and this is its place.
pub record Passes (old : List t.Token) (place : ℕ) (new : List t.Token) : Type 0 where
  pub token : t.Token
  pub parts : old ≡ token ∷ new
  pub there : place ≡ token.place

-- What kind of token stands at the front.
pub data Head : Type 0 where
  of_word : t.Word → Head
  of_sign : t.Sign → Head
  of_name of_number of_constant of_nothing : Head

-- The head of a kind of token.
abbrev pub head_of : t.Kind → Head
head_of (t.word x) = of_word x
head_of (t.sign x) = of_sign x
head_of (t.name n) = of_name
head_of (t.number n digits) = of_number
head_of (t.constant width n) = of_constant

-- The head of the first token.
unfoldable pub head : List t.Token → Head
head [] = of_nothing
head (x ∷ ts) = head_of x.kind

-- The head that the reader looks for.
abbrev pub ahead_of : Ahead → Head
ahead_of (a.Word x) = of_word (word_of x)
ahead_of (a.Sign x) = of_sign (sign_of x)
ahead_of a.Name = of_name
ahead_of a.Number = of_number
ahead_of a.Constant = of_constant
ahead_of a.Nothing = of_nothing

-- The place of the first token, where there is one.
abbrev pub here : List t.Token → ℕ
here [] = 0
here (x ∷ ts) = x.place

-- the name that stands at the front; the number, with how many digits it is written; the constant, its width first

-- The name of a token.
abbrev pub name_in : t.Kind → Option (List ℕ)
name_in (t.name n) = Some n
name_in _ = None

-- The name of the first token.
unfoldable pub front_name : List t.Token → Option (List ℕ)
front_name [] = None
front_name (x ∷ ts) = name_in x.kind

-- The number and the digits of a token.
abbrev pub number_in : t.Kind → Option (ℕ × ℕ)
number_in (t.number n digits) = Some (n, digits)
number_in _ = None

-- The number and the digits of the first token.
unfoldable pub front_number : List t.Token → Option (ℕ × ℕ)
front_number [] = None
front_number (x ∷ ts) = number_in x.kind

-- The width and the number of a token that is a constant.
abbrev pub constant_in : t.Kind → Option (ℕ × ℕ)
constant_in (t.constant width n) = Some (width, n)
constant_in _ = None

-- The width and the number of the first token that is a constant.
unfoldable pub front_constant : List t.Token → Option (ℕ × ℕ)
front_constant [] = None
front_constant (x ∷ ts) = constant_in x.kind
