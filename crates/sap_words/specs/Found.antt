-- What `clap` finds, as a command.
use Rattle.std.specs.Prelude.{ℕ, List, [], ◌∷◌, take, length, slice_get, Option, option_and_then, unwrap_or}
use Rattle.sap_words.specs.Words.{Row, Words, made, row_named}

-- The value of the operand at a place, by its name, or nothing.
abbrev pub value_at : (value : List ℕ → Option (List ℕ)) → (operands : List (List ℕ)) → (place : ℕ) → List ℕ
value_at value operands place = unwrap_or (option_and_then value (slice_get operands place)) []

-- The command that the first of five values make, as many as the row has operands.
abbrev pub made_of_five : (name first second third fourth fifth : List ℕ) → Option Words
made_of_five name first second third fourth fifth =
    option_and_then (λ r. made r.operands r.make
    (take (length r.operands) (first ∷ second ∷ third ∷ fourth ∷ fifth ∷ []))) (row_named name)

-- The command that the values of its operands make by a row.
abbrev pub made_from : (value : List ℕ → Option (List ℕ)) → Row → Option Words
made_from value r =
    made r.operands r.make (take (length r.operands) (value_at value r.operands 0 ∷ value_at value r.operands 1
    ∷ value_at value r.operands 2 ∷ value_at value r.operands 3 ∷ value_at value r.operands 4 ∷ []))

-- The command that the values of its operands make by the row of this name.
abbrev pub found : (name : List ℕ) → (value : List ℕ → Option (List ℕ)) → Option Words
found name value = option_and_then (made_from value) (row_named name)
