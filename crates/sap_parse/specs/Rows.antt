-- Rows of symbols that functions of the reader take at once, and what stands between their stages.
use Rattle.std.specs.Prelude.{◌≡◌, ℕ, List, [], ◌∷◌, Result, Ok, Err}
use Rattle.sap_parse.specs.Grammar as g
use Rattle.sap_parse.specs.Reading.{Outcome, steps_by, strictly}
use Rattle.sap_parse.specs.Stages.{Stage, IsNumber, IsSign, IsWord}
use Rattle.sap_parse.specs.Table as u
use Rattle.sap_parse.specs.Table.{Symbol}
use Rattle.sap_parse.specs.declared.cursor.Fault.TheVariants as f
use Rattle.sap_parse.specs.declared.cursor.Fault.{Fault}
use Rattle.sap_parse.specs.declared.role.Role.TheVariants as r
use Rattle.sap_parse.specs.declared.role.Role.{Role}
use Rattle.sap_lex.specs.declared.token.Sign.TheVariants as s
use Rattle.sap_lex.specs.declared.token.Sign.{Sign}
use Rattle.sap_tree.specs.Syntax as t
use Rattle.sap_tree.specs.declared.word.Word.{Word}
use Rattle.sap_walk.specs.Walk as walk

-- The symbols of a row, one after another.
unfoldable pub reads_row : List Symbol → Stage → Outcome
reads_row σ p = steps_by strictly σ p

-- A reader of the row that faults there does as the walk does, and stays there.
abbrev pub RowStops : List Symbol → Stage → Fault → Stage → Type 0
RowStops σ old f.Token new = reads_row σ old ≡ Err (walk.at_token new)
RowStops σ old (f.Limit limit) new = reads_row σ old ≡ Err (walk.at_limit limit new)
RowStops σ old f.Memory new = Unit {0}

-- A reader of the row that answers this between these stages does as the walk does.
abbrev pub RowGoes : {A : Type 0} → List Symbol → Stage → Result A Fault → Stage → Type 0
RowGoes σ old (Ok x) new = reads_row σ old ≡ Ok new
RowGoes σ old (Err e) new = RowStops σ old e new

-- an expression between two signs

-- The symbols of an expression between two signs.
abbrev pub between_row : Role → Sign → Role → Sign → List Symbol
between_row opening left closing right = u.sign opening left ∷ u.expr ∷ u.sign closing right ∷ []

-- The text between two stages is an expression between two signs.
pub data Between (opening : Role) (left : Sign) (closing : Role) (right : Sign) : Stage → t.Expression
    → Stage → Type 0 where
  between : {p1 p2 p3 q : Stage} {x : t.Expression} → IsSign p1 opening left p2 → g.Expr p2 x p3
      → IsSign p3 closing right q
      → Between opening left closing right p1 x q

-- a word, and an expression in parentheses

-- The symbols of a keyword and an expression in parentheses.
abbrev pub asked_row : Role → Word → Role → Role → List Symbol
asked_row role word opening closing = u.word role word ∷ between_row opening s.OpenParen closing s.CloseParen

-- The text between two stages is a keyword and an expression in parentheses.
pub data Asked (role : Role) (word : Word) (opening closing : Role) : Stage → t.Expression → Stage → Type 0 where
  asked : {p1 p2 q : Stage} {x : t.Expression} → IsWord p1 role word p2
      → Between opening s.OpenParen closing s.CloseParen p2 x q
      → Asked role word opening closing p1 x q

-- a number in an expression, and the sign that closes its brackets

-- The symbols of a number and the sign that closes after it.
abbrev pub last_number_row : Sign → List Symbol
last_number_row right = u.number r.Inner ∷ u.sign r.Closing right ∷ []

-- The text between two stages is a number and the sign that closes after it.
pub data LastNumber (right : Sign) : Stage → ℕ → Stage → Type 0 where
  last_number : {p1 p2 q : Stage} {n : ℕ} → IsNumber p1 r.Inner n p2 → IsSign p2 r.Closing right q
      → LastNumber right p1 n q

-- the bounds of a slice, and `]`

-- The symbols of a slice's range, up to its closing bracket.
abbrev pub range_row : List Symbol
range_row = u.number r.Inner ∷ u.sign r.Inner s.Colon ∷ last_number_row s.CloseBracket

-- The text between two stages is a slice's range, up to its closing bracket.
pub data Range : Stage → (high low : ℕ) → Stage → Type 0 where
  range : {p1 p2 p3 q : Stage} {high low : ℕ} → IsNumber p1 r.Inner high p2
      → IsSign p2 r.Inner s.Colon p3 → LastNumber s.CloseBracket p3 low q → Range p1 high low q
