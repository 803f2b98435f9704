-- Commands, their table, and the command that words are.
use Rattle.std.specs.Prelude.{◌≡◌, ℕ, Bool, true, false, not, ◌&&◌, List, [], ◌∷◌, length, nat_le, bytes_eq, eqb, codes, find, Option, Some, None, option_and_then, if◌then◌else◌}
use Rattle.std.specs.Str.{byte}
use Rattle.std.specs.Char.{is_ascii_digit}
use Rattle.std.specs.List.{list_all}
use Rattle.std.specs.Str.Parse.{digits_value}
use Rattle.sap_words.specs.declared.table.Command.{Command}
use Rattle.sap_words.specs.declared.table.Command.TheVariants.{Compile, Link, Run, Trace, Fmt, Sim, Taint, Wave, Unwave, Report, Twin, Gen, Machine, Asm, Cpu}

-- Each operand is the name of a file, but LEVEL, which is that of a level, and N, which is a number.
pub data Words : Type 0 where
  compile : (lattice design out : List ℕ) → Words
  link : (lattice system out : List ℕ) → Words
  run : (lattice design stimulus : List ℕ) → Words
  trace : (lattice design stimulus : List ℕ) → Words
  fmt : (design : List ℕ) → Words
  sim : (lattice verilog stimulus : List ℕ) → Words
  taint : (lattice verilog out : List ℕ) → Words
  wave : (lattice verilog stimulus out : List ℕ) → Words
  unwave : (lattice dump : List ℕ) → Words
  report : (lattice design : List ℕ) → Words
  twin : (lattice design first second level : List ℕ) → Words
  gen : (n : ℕ) → Words
  machine : Words
  asm : (first second : List ℕ) (n : ℕ) → Words
  cpu : (first second : List ℕ) (n : ℕ) → Words

-- The command with its operands, as the definitions have it.
abbrev pub words_of : Command → Words
words_of (Compile lattice design out) = compile lattice.now design.now out.now
words_of (Link lattice system out) = link lattice.now system.now out.now
words_of (Run lattice design stimulus) = run lattice.now design.now stimulus.now
words_of (Trace lattice design stimulus) = trace lattice.now design.now stimulus.now
words_of (Fmt design) = fmt design.now
words_of (Sim lattice verilog stimulus) = sim lattice.now verilog.now stimulus.now
words_of (Taint lattice verilog out) = taint lattice.now verilog.now out.now
words_of (Wave lattice verilog stimulus out) = wave lattice.now verilog.now stimulus.now out.now
words_of (Unwave lattice dump) = unwave lattice.now dump.now
words_of (Report lattice design) = report lattice.now design.now
words_of (Twin lattice design first second level) = twin lattice.now design.now first.now second.now level.now
words_of (Gen number) = gen number.value
words_of Machine = machine
words_of (Asm first second number) = asm first.now second.now number.value
words_of (Cpu first second number) = cpu first.now second.now number.value

-- The command is `twin`.
abbrev pub IsTwin : Option Words → Type 0
IsTwin c = (lattice : List ℕ) × (design : List ℕ) × (first : List ℕ) × (second : List ℕ)
    × (level : List ℕ) × (c ≡ Some (twin lattice design first second level))

-- ---- the table

-- Of all operands N alone is a number.
abbrev pub is_number : (operand : List ℕ) → Bool
is_number operand = bytes_eq operand (codes "N")

-- A word gives itself as an operand, or its number.
abbrev pub Value : (is_number : Bool) → Type 0
Value false = List ℕ
Value true = ℕ

-- A maker makes a command of a value for each operand.
abbrev pub Maker : (operands : List (List ℕ)) → Type 0
Maker [] = Words
Maker (operand ∷ operands) = Value (is_number operand) → Maker operands

-- A command has a name, the names of its operands in order, and what makes it of their values.
pub record Row : Type 0 where
  pub name : List ℕ
  pub operands : List (List ℕ)
  pub make : Maker operands

-- A command's row: its name, its operands and what they make.
abbrev pub row : (name : List ℕ) → (operands : List (List ℕ)) → Maker operands → Row
row name operands make = record { name = name; operands = operands; make = make }

-- The commands, each with its operands.
abbrev pub commands : List Row
commands = row (codes "compile") (codes "LATTICE" ∷ codes "DESIGN" ∷ codes "OUT" ∷ []) compile
    ∷ row (codes "link") (codes "LATTICE" ∷ codes "SYSTEM" ∷ codes "OUT" ∷ []) link
    ∷ row (codes "run") (codes "LATTICE" ∷ codes "DESIGN" ∷ codes "STIM" ∷ []) run
    ∷ row (codes "trace") (codes "LATTICE" ∷ codes "DESIGN" ∷ codes "STIM" ∷ []) trace
    ∷ row (codes "sim") (codes "LATTICE" ∷ codes "VERILOG" ∷ codes "STIM" ∷ []) sim
    ∷ row (codes "taint") (codes "LATTICE" ∷ codes "VERILOG" ∷ codes "OUT" ∷ []) taint
    ∷ row (codes "wave") (codes "LATTICE" ∷ codes "VERILOG" ∷ codes "STIM" ∷ codes "OUT" ∷ []) wave
    ∷ row (codes "unwave") (codes "LATTICE" ∷ codes "WAVE" ∷ []) unwave
    ∷ row (codes "report") (codes "LATTICE" ∷ codes "DESIGN" ∷ []) report
    ∷ row (codes "twin") (codes "LATTICE" ∷ codes "DESIGN" ∷ codes "FIRST" ∷ codes "SECOND" ∷ codes "LEVEL" ∷ []) twin
    ∷ row (codes "fmt") (codes "DESIGN" ∷ []) fmt
    ∷ row (codes "gen") (codes "N" ∷ []) gen
    ∷ row (codes "machine") [] machine
    ∷ row (codes "asm") (codes "A" ∷ codes "B" ∷ codes "N" ∷ []) asm
    ∷ row (codes "cpu") (codes "A" ∷ codes "B" ∷ codes "N" ∷ []) cpu
    ∷ []

-- ---- what words are by it

-- An operand begins with no `-`.
abbrev pub is_operand : List ℕ → Bool
is_operand [] = true
is_operand (c ∷ cs) = not (eqb c (byte "-"))

-- N is one to four decimal digits, and its number is from 1 to 1000.
abbrev pub are_few_digits : List ℕ → Bool
are_few_digits text = nat_le 1 (length text) && (nat_le (length text) 4 && list_all is_ascii_digit text)

-- The number is 1 to 1000.
abbrev pub is_run_number : ℕ → Bool
is_run_number n = nat_le 1 n && nat_le n 1000

-- The number that a word spells.
abbrev pub number_of : List ℕ → Option ℕ
number_of text =
    if are_few_digits text then (if is_run_number (digits_value 10 text) then Some (digits_value 10 text) else None)
    else None

-- What a word gives for an operand: the word, or its number.
abbrev pub value_of : (is_number : Bool) → (word : List ℕ) → Option (Value is_number)
value_of false word = Some word
value_of true word = number_of word

-- `made` is the command that words make, if each gives a value and they are as many as the operands.
abbrev pub made : (operands : List (List ℕ)) → Maker operands → (words : List (List ℕ)) → Option Words
made [] make [] = Some make
made [] make (word ∷ words) = None
made (operand ∷ operands) make [] = None
made (operand ∷ operands) make (word ∷ words) =
    option_and_then (λ v. made operands (make v) words) (value_of (is_number operand) word)

-- The row of a command, by its name.
abbrev pub row_named : (name : List ℕ) → Option Row
row_named name = find (λ r. bytes_eq name r.name) commands

-- `made_by` is the command that words make by the row of this name.
abbrev pub made_by : (name : List ℕ) → (words : List (List ℕ)) → Option Words
made_by name words = option_and_then (λ r. made r.operands r.make words) (row_named name)

-- `command_of` is the command of the words, if they are one: that of the row of the first word.
abbrev pub command_of : List (List ℕ) → Option Words
command_of [] = None
command_of (name ∷ operands) = if list_all is_operand operands then made_by name operands else None
