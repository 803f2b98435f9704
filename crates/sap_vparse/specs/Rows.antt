-- Tokens in a row.
use Rattle.std.specs.Prelude.{◌≡◌, ◌≢◌, List, [], ◌∷◌, map, Result, Ok, Err}
use Rattle.sap_vtext.specs.Grammar.{IsConstant, IsDigit, IsName, IsNumber, IsOperand, IsSign, IsWord}
use Rattle.sap_vtext.specs.Items as item
use Rattle.sap_vtext.specs.Tokens as t
use Rattle.sap_vparse.specs.Reading.{Outcome, reads, steps}
use Rattle.sap_walk.specs.Walk.{◌>>=◌}
use Rattle.sap_vlex.specs.Spelling.{sign_of, word_of}
use Rattle.sap_vparse.specs.Table as s
use Rattle.sap_vparse.specs.Table.{Symbol}
use Rattle.sap_vparse.specs.declared.cursor.Fault.TheVariants as f
use Rattle.sap_vparse.specs.declared.cursor.Fault.{Fault}
use Rattle.sap_vparse.specs.declared.row.Fixed.TheVariants as k
use Rattle.sap_vparse.specs.declared.row.Fixed.{Fixed}

-- The grammar's symbol for a fixed token.
abbrev pub symbol_of : Fixed → Symbol
symbol_of (k.Word word) = s.word (word_of word)
symbol_of (k.Sign sign) = s.sign (sign_of sign)
symbol_of (k.Digit digit) = s.digit digit

-- The grammar's symbols for fixed tokens.
abbrev pub symbols_of : List Fixed → List Symbol
symbols_of xs = map symbol_of xs

-- The walk over symbols in a row.
unfoldable pub reads_row : List Symbol → List t.Token → Outcome
reads_row σ ts = steps σ ts

-- A reader of a row that faults there does as the walk does, and stays there.
abbrev pub StopsOn : List Symbol → List t.Token → Fault → List t.Token → Type 0
StopsOn σ old fault new = fault ≢ f.Memory → reads_row σ old ≡ Err new

-- A reader of a row that answers this between these tokens does as the walk does.
abbrev pub GoesOn : {A : Type 0} → List Symbol → List t.Token → Result A Fault → List t.Token → Type 0
GoesOn σ old (Ok x) new = reads_row σ old ≡ Ok new
GoesOn σ old (Err e) new = StopsOn σ old e new

-- This token stands at the front, or these do.
abbrev pub IsFixed : List t.Token → Fixed → List t.Token → Type 0
IsFixed ts (k.Word word) r = IsWord ts (word_of word) r
IsFixed ts (k.Sign sign) r = IsSign ts (sign_of sign) r
IsFixed ts (k.Digit digit) r = IsDigit ts digit r

infixr 10 ◌then◌
-- The tokens begin with these fixed tokens.
pub data AreFixed : List t.Token → List Fixed → List t.Token → Type 0 where
  done : {r : List t.Token} → AreFixed r [] r
  ◌then◌ : {ts m r : List t.Token} {x : Fixed} {xs : List Fixed} → IsFixed ts x m → AreFixed m xs r
      → AreFixed ts (x ∷ xs) r

-- This stands at the front, and then these tokens.
abbrev pub NumberThen : List t.Token → item.Number → List Fixed → List t.Token → Type 0
NumberThen ts n xs r = (m : List t.Token) × IsNumber ts n m × AreFixed m xs r

-- The tokens begin with a constant and then these fixed tokens.
abbrev pub ConstantThen : List t.Token → item.Constant → List Fixed → List t.Token → Type 0
ConstantThen ts c xs r = (m : List t.Token) × IsConstant ts c m × AreFixed m xs r

-- The tokens begin with a name and then these fixed tokens.
abbrev pub NameThen : List t.Token → item.Mention → List Fixed → List t.Token → Type 0
NameThen ts x xs r = (m : List t.Token) × IsName ts x m × AreFixed m xs r

-- The tokens begin with an operand and then these fixed tokens.
abbrev pub OperandThen : List t.Token → item.Operand → List Fixed → List t.Token → Type 0
OperandThen ts x xs r = (m : List t.Token) × IsOperand ts x m × AreFixed m xs r

-- Parts of a production, a symbol or several in a row, one after another.
pub data Part : Type 0 where
  single : Symbol → Part
  several : List Symbol → Part

-- The tokens that are left after a part of a production.
abbrev pub reads_part : Part → List t.Token → Outcome
reads_part (single s) ts = reads s ts
reads_part (several σ) ts = reads_row σ ts

-- The tokens that are left after parts in turn.
abbrev pub in_turn : List Part → List t.Token → Outcome
in_turn [] ts = Ok ts
in_turn (x ∷ xs) ts = reads_part x ts >>= in_turn xs
