-- The tokens of a module's text.
use Rattle.std.specs.Prelude.{◌≡◌, ℕ, List, ◌∷◌}

-- These are the keywords.
pub data Word : Type 0 where
  module_word endmodule_word input_word output_word reg_word wire_word assign_word initial_word
      always_word posedge_word if_word for_word integer_word clk_word i_word : Word

-- These are the signs.
pub data Sign : Type 0 where
  open_paren close_paren open_brace close_brace open_bracket close_bracket comma semicolon colon question at is : Sign
  equal not_equal less less_or_equal shift_left shift_right plus minus star ampersand bar caret tilde : Sign

-- A token is a keyword, a sign, a name, which is no keyword, a number or a constant.
pub data Kind : Type 0 where
  word : Word → Kind
  sign : Sign → Kind
  name : List ℕ → Kind
  number : (value digits : ℕ) → Kind
  constant : (width value : ℕ) → Kind

-- A token is of a kind, and its place is how many bytes of the text come before it.
pub record Token : Type 0 where
  pub place : ℕ
  pub kind : Kind

-- The first of the tokens is of this kind and stands at this place, and then come the others.
pub record IsToken (tokens : List Token) (place : ℕ) (kind : Kind) (others : List Token) : Type 0 where
  pub parts : tokens ≡ record { place = place; kind = kind } ∷ others
