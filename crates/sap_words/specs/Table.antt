-- What words are a command, as a relation over the table.
use Rattle.std.specs.Prelude.{◌≡◌, ◌≤◌, ℕ, Bool, true, false, List, [], ◌∷◌, length, Contains, Some, ◌↔◌}
use Rattle.std.specs.Char.{is_ascii_digit}
use Rattle.std.specs.List.{list_all}
use Rattle.std.specs.Str.Parse.{digits_value}
use Rattle.sap_words.specs.Words.{Words, Value, Maker, Row, commands, is_number, is_operand, command_of}

-- None of them begins with `-`.
abbrev pub AreOperands : List (List ℕ) → Type 0
AreOperands words = list_all is_operand words ≡ true

-- The word is one to four decimal digits, and this number, from 1 to 1000.
pub record IsRunNumber (word : List ℕ) (n : ℕ) : Type 0 where
  pub digits : list_all is_ascii_digit word ≡ true
  pub at_least_one : 1 ≤ length word
  pub at_most_four : length word ≤ 4
  pub value : n ≡ digits_value 10 word
  pub some : 1 ≤ n
  pub within : n ≤ 1000

-- The word gives this value: itself, or its number.
abbrev pub Gives : (is_number : Bool) → (word : List ℕ) → Value is_number → Type 0
Gives false word v = v ≡ word
Gives true word n = IsRunNumber word n

-- As many words as operands, each of which gives a value, and the command is made of these values.
abbrev pub Makes : (operands : List (List ℕ)) → Maker operands → (words : List (List ℕ)) → Words → Type 0
Makes [] make [] c = make ≡ c
Makes [] make (word ∷ words) c = ⊥
Makes (operand ∷ operands) make [] c = ⊥
Makes (operand ∷ operands) make (word ∷ words) c =
    (v : Value (is_number operand)) × Gives (is_number operand) word v × Makes operands (make v) words c

-- What words ask: the first is the name of a row of the table, the others are operands, and they make the command by
-- that row.
pub record IsCommand (words : List (List ℕ)) (c : Words) : Type 0 where
  pub row : Row
  pub is_row : Contains commands row
  pub operands : List (List ℕ)
  pub are : words ≡ row.name ∷ operands
  pub fit : AreOperands operands
  pub makes : Makes row.operands row.make operands c

-- Words are read as a command exactly where the table says that they ask it.
abbrev pub ReadsTable : List (List ℕ) → Type 0
ReadsTable words = (c : Words) → command_of words ≡ Some c ↔ IsCommand words c
