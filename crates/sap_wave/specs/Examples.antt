-- A worked example: a module with two registers and their tags, one cycle.
use Rattle.std.specs.Prelude.{◌≡◌, ℕ, List, [], ◌∷◌, ◌++◌, codes}
use Rattle.sap_text.specs.Places.{line}
use Rattle.sap_wave.specs.declared.fault.WaveCode.TheVariants.{Y1, Y2, Y3, Y4, Y5}
use Rattle.sap_wave.specs.Digits.{identifier, bits}
use Rattle.sap_wave.specs.declared.variable.Variable.{Variable}
use Rattle.sap_wave.specs.Waves.{Wave}
use Rattle.sap_wave.specs.Faults.{IsFault}
use Rattle.sap_wave.specs.Dumps.{IsReading, dump_text}

-- A variable of a width and a name.
abbrev pub of_width : ℕ → List ℕ → Variable
of_width width name = record { name = name; width = width }

-- Two values with their tags.
abbrev pub variables : List Variable
variables = of_width 8 (codes "v_x") ∷ (of_width 1 (codes "t_x")
    ∷ (of_width 8 (codes "v_y") ∷ (of_width 1 (codes "t_y") ∷ [])))

-- The numbers of the first block.
abbrev pub first : List ℕ
first = 1 ∷ (0 ∷ (2 ∷ (0 ∷ [])))

-- The numbers of the second block.
abbrev pub second : List ℕ
second = 2 ∷ (0 ∷ (1 ∷ (0 ∷ [])))

-- The wave of the two blocks.
abbrev pub wave : Wave
wave = record { variables = variables; blocks = first ∷ (second ∷ []) }

-- Lines, one behind the other.
abbrev pub lines : List (List ℕ) → List ℕ
lines [] = []
lines (text ∷ texts) = line text ++ lines texts

-- The line that begins the last block is the fourteenth.
abbrev pub text : (last_block : List ℕ) → List ℕ
text last_block =
    lines (
    codes "$timescale 1ns $end"
    ∷ (codes "$scope module top $end"
    ∷ (codes "$var reg 8 ! v_x $end"
    ∷ (codes "$var reg 1 \" t_x $end"
    ∷ (codes "$var reg 8 # v_y $end"
    ∷ (codes "$var reg 1 $ t_y $end"
    ∷ (codes "$upscope $end"
    ∷ (codes "$enddefinitions $end"
    ∷ (codes "#0"
    ∷ (codes "b00000001 !"
    ∷ (codes "b0 \""
    ∷ (codes "b00000010 #"
    ∷ (codes "b0 $"
    ∷ (last_block
    ∷ (codes "b00000010 !"
    ∷ (codes "b00000001 #"
    ∷ [])))))))))))))))
    )

-- The text that is written for the two blocks.
abbrev pub Written : Type 0
Written = dump_text variables first (second ∷ []) ≡ text (codes "#1")

-- The text is read as the two blocks.
abbrev pub Read : Type 0
Read = IsReading (text (codes "#1")) wave

-- The second block has the number 1.
abbrev pub OtherNumber : Type 0
OtherNumber = IsFault (text (codes "#2")) 14 Y4

-- A variable of width 1, and then these lines.
abbrev pub one_variable : (rest : List (List ℕ)) → List ℕ
one_variable rest =
    lines (
    codes "$timescale 1ns $end"
    ∷ (codes "$scope module top $end"
    ∷ (codes "$var reg 1 ! v $end"
    ∷ (codes "$upscope $end"
    ∷ (codes "$enddefinitions $end"
    ∷ rest))))
    )

-- Nothing at all.
abbrev pub Nothing : Type 0
Nothing = IsFault [] 1 Y1

-- A line without LF.
abbrev pub NotEnded : Type 0
NotEnded = IsFault (codes "$timescale 1ns $end") 1 Y1

-- No block.
abbrev pub NoBlock : Type 0
NoBlock = IsFault (one_variable []) 6 Y1

-- The identifier of the second variable at the first.
abbrev pub OtherIdentifier : Type 0
OtherIdentifier = IsFault (lines (codes "$timescale 1ns $end"
    ∷ (codes "$scope module top $end" ∷ (codes "$var reg 1 \" v $end" ∷ [])))) 3 Y2

-- A change of a second variable, where there is one.
abbrev pub UnknownVariable : Type 0
UnknownVariable = IsFault (one_variable (codes "#0" ∷ (codes "b0 \"" ∷ []))) 7 Y3

-- A change to the number that stands.
abbrev pub SameNumber : Type 0
SameNumber = IsFault (one_variable (codes "#0" ∷ (codes "b0 !" ∷ (codes "#1" ∷ (codes "b0 !" ∷ []))))) 9 Y5

-- A block 0 without the variable.
abbrev pub NoNumber : Type 0
NoNumber = IsFault (one_variable (codes "#0" ∷ [])) 7 Y5

-- Identifiers of one, two and three digits.
abbrev pub Identifiers : Type 0
Identifiers =
    (identifier 0 ≡ codes "!") × (identifier 93 ≡ codes "~") × (identifier 94 ≡ codes "\"!")
    × (identifier 8835 ≡ codes "~~") × (identifier 8836 ≡ codes "\"!!")

-- How numbers are written in binary digits.
abbrev pub Bits : Type 0
Bits = (bits 1 0 ≡ codes "0") × (bits 8 2 ≡ codes "00000010")
