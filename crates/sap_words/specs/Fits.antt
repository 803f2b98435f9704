-- Which words give operands their values.
use Rattle.std.specs.Prelude.{ℕ, Bool, true, false, not, ◌&&◌, ◌||◌, is_some, List, [], ◌∷◌}
use Rattle.sap_words.specs.Words.{is_number, number_of}

-- The word gives the operand of this name a value.
abbrev pub fits : (operand word : List ℕ) → Bool
fits operand word = not (is_number operand) || is_some (number_of word)

-- As many words as operands, each of which gives its operand a value.
abbrev pub fit : (operands words : List (List ℕ)) → Bool
fit [] [] = true
fit [] (word ∷ words) = false
fit (operand ∷ operands) [] = false
fit (operand ∷ operands) (word ∷ words) = fits operand word && fit operands words
