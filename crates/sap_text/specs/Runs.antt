-- Runs of bytes of one class at the front of a text, and the numbers that digits spell.
use Rattle.std.specs.Prelude.{ℕ, ◌^◌, List, Bool, nat_lt, if◌then◌else◌, Option, Some, None}
use Rattle.std.specs.Char.{is_ascii_digit, is_ascii_hexdigit}
use Rattle.std.specs.List.{prefix_len}
use Rattle.std.specs.Str.Parse.{digits_value}
use Rattle.sap_text.specs.Blanks.{is_in_line}
use Rattle.sap_text.specs.Names.{is_inner}
use Rattle.sap_text.specs.declared.scan.Class.TheVariants as c
use Rattle.sap_text.specs.declared.scan.Class.{Class}

-- A byte is of a class: within a name, a decimal digit, a hexadecimal digit, or any byte but LF.
abbrev pub is_in : Class → ℕ → Bool
is_in c.Inner b = is_inner b
is_in c.Decimal b = is_ascii_digit b
is_in c.Hexadecimal b = is_ascii_hexdigit b
is_in c.Comment b = is_in_line b

-- `run` says how many bytes of a class stand at the front.
abbrev pub run : Class → List ℕ → ℕ
run class bytes = prefix_len (is_in class) bytes

-- `number_of` is the number that digits of a base spell, if it is below 2^64.
abbrev pub number_of : (base : ℕ) → List ℕ → Option ℕ
number_of base digits = if nat_lt (digits_value base digits) (2 ^ 64) then Some (digits_value base digits) else None
