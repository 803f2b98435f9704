-- Worked examples: programs in assembly, their words, the run of two of them, and what the table makes of them.
use Rattle.std.specs.Prelude.{◌≡◌, ℕ, zero, suc, ◌+◌, List, [], ◌∷◌, ◌++◌, Ok, Err, map, replicate, codes}
use Rattle.sap_text.specs.Places.{line}
use Rattle.sap_lattice.specs.Order.{Order}
use Rattle.sap_meaning.specs.Program.{Program}
use Rattle.sap_meaning.specs.Agree.{StreamsAgree}
use Rattle.sap_meaning.specs.Cycle.{Tagged}
use Rattle.sap_meaning.specs.Store.{Store, own, number, level}
use Rattle.sap_meaning.specs.Examples.{at_level}
use Rattle.sap_machine.specs.declared.fault.AsmCode.TheVariants.{B1, B2, B3, B4}
use Rattle.sap_machine.specs.Assembly.{assembled, refused}
use Rattle.sap_machine.specs.Table.{UserState, step}
use Rattle.sap_machine.specs.Text.{asm_text, cpu_text}
use Rattle.sap_machine.specs.Machine.{entity}
use Rattle.sap_machine.specs.Machine as the
use Rattle.sap_machine.specs.Laws.{after_cycles}

-- A user with this program counter and accumulator, whose cells are all 3 and whose words are all this one.
abbrev pub user_with : (pc acc word : ℕ) → UserState
user_with pc acc word = record { pc = pc; acc = acc; cell = λ k. 3; word = λ k. word }

-- The program counter and the accumulator behind one instruction.
abbrev pub stepped : UserState → ℕ × ℕ
stepped s = ((step s).pc, (step s).acc)

-- What the numbers of a word do past their ends: add and sub modulo 256, the program counter modulo 16, a place modulo
-- 16.
abbrev pub AroundTheEnds : Type 0
AroundTheEnds = (stepped (user_with 15 254 1024) ≡ (0, 1)) × (stepped (user_with 4 1 1280) ≡ (5, 254))
    × (stepped (user_with 4 9 (1536 + 18)) ≡ (2, 9))

-- Jz with and without a 0, halt, and an operation past the last.
abbrev pub Branches : Type 0
Branches = (stepped (user_with 4 0 1799) ≡ (7, 0)) × (stepped (user_with 4 1 1799) ≡ (5, 1))
    × (stepped (user_with 4 9 2048) ≡ (4, 9)) × (stepped (user_with 4 9 2304) ≡ (5, 9))

-- A store changes one cell.
abbrev pub Stored : Type 0
Stored = ((step (user_with 4 9 770)).cell 2 ≡ 9) × ((step (user_with 4 9 770)).cell 1 ≡ 3)

-- A's program, and b's.
abbrev pub program_a : List ℕ
program_a = line (codes "ldi 5") ++ line (codes "st 1") ++ line (codes "add 1") ++ line (codes "halt")

-- The second user's program: it loads 7 and halts.
abbrev pub program_b : List ℕ
program_b = line (codes "ldi 7") ++ line (codes "halt")

-- The words of the first user's program, worked out by hand.
abbrev pub words_a : List ℕ
words_a = 261 ∷ 769 ∷ 1025 ∷ 2048 ∷ replicate 12 0

-- The words of the second user's program, worked out by hand.
abbrev pub words_b : List ℕ
words_b = 263 ∷ 2048 ∷ replicate 14 0

-- The two programs, and an empty one, are assembled to these words.
abbrev pub Assembles : Type 0
Assembles = (assembled program_a ≡ Ok words_a) × (assembled program_b ≡ Ok words_b)
    × (assembled [] ≡ Ok (replicate 16 0))

-- Numbers on both sides of the largest, and with a zero in front.
abbrev pub Numbers : Type 0
Numbers = (assembled (line (codes "ld 16")) ≡ refused B2 1) × (assembled (line (codes "ldi 256")) ≡ refused B2 1)
    × (assembled (line (codes "ld 015") ++ line (codes "ldi 255")) ≡ Ok (527 ∷ 511 ∷ replicate 14 0))

-- Four digits, an operand where none belongs, an empty line, two spaces, none, upper case, a tab, a CR, and a byte past
-- ASCII.
abbrev pub NoForm : Type 0
NoForm = (assembled (line (codes "ldi 0255")) ≡ refused B1 1)
    × (assembled (line (codes "halt 1")) ≡ refused B1 1) × (assembled (line []) ≡ refused B1 1)
    × (assembled (line (codes "nop") ++ line (codes "ldi  5")) ≡ refused B1 2)
    × (assembled (line (codes "ldi")) ≡ refused B1 1)
    × (assembled (line (codes "NOP")) ≡ refused B1 1) × (assembled (line (codes "ldi" ++ 9 ∷ codes "5")) ≡ refused B1 1)
    × (assembled (line (codes "nop" ++ 13 ∷ [])) ≡ refused B1 1)
    × (assembled (line (codes "ldi 5" ++ 200 ∷ [])) ≡ refused B1 1)

-- A last line without LF, whatever it is.
abbrev pub NoEnd : Type 0
NoEnd = (assembled (line (codes "nop") ++ codes "what") ≡ refused B4 2) × (assembled (codes "nop") ≡ refused B4 1)

-- So many lines `nop`.
abbrev pub nops : (count : ℕ) → List ℕ
nops zero = []
nops (suc k) = line (codes "nop") ++ nops k

-- Sixteen lines, and a seventeenth with and without LF.
abbrev pub TooMany : Type 0
TooMany = (assembled (nops 16) ≡ Ok (replicate 16 0)) × (assembled (nops 17) ≡ refused B3 17)
    × (assembled (nops 16 ++ codes "what") ≡ refused B3 17)

-- Lines of a stimulus that bring nothing.
abbrev pub idle_lines : (count : ℕ) → List ℕ
idle_lines zero = []
idle_lines (suc k) = line (codes "0@a 0@b") ++ idle_lines k

-- What `asm` prints for the two programs.
abbrev pub AsmOfTwo : Type 0
AsmOfTwo = asm_text program_a program_b 2
    ≡ Ok (line (codes "261@a 263@b") ++ line (codes "769@a 2048@b") ++ line (codes "1025@a 0@b")
    ++ line (codes "2048@a 0@b") ++ idle_lines 12 ++ line (codes "0@low 0@low *13"))

-- What `cpu` prints for the two programs.
abbrev pub CpuOfTwo : Type 0
CpuOfTwo = cpu_text program_a program_b 2 ≡ Ok (line (codes "a pc=3 acc=10") ++ line (codes "b pc=1 acc=7"))

-- The first file's fault comes before the second's.
abbrev pub Refusals : Type 0
Refusals = (asm_text (line (codes "ld 16")) (codes "halt") 2 ≡ Err (codes "asm 1: B2 line 1"))
    × (cpu_text program_a (line (codes "nop") ++ codes "halt") 2 ≡ Err (codes "asm 2: B4 line 2"))

-- The lowest level.
abbrev pub low : ℕ
low = the.level (codes "low")

-- The first user's level.
abbrev pub level_a : ℕ
level_a = the.level (codes "a")

-- The second user's level.
abbrev pub level_b : ℕ
level_b = the.level (codes "b")

-- The cycles that bring two lists of words, at the users' levels, and cycles that bring nothing.
abbrev pub given_words : (a b : List ℕ) → List (List Tagged)
given_words [] b = []
given_words (x ∷ a) [] = []
given_words (x ∷ a) (y ∷ b) = (at_level level_a x ∷ at_level level_b y ∷ []) ∷ given_words a b

-- Cycles that bring nothing.
abbrev pub idle_cycles : (count : ℕ) → List (List Tagged)
idle_cycles zero = []
idle_cycles (suc k) = (at_level low 0 ∷ at_level low 0 ∷ []) ∷ idle_cycles k

-- The stimulus of two slices.
abbrev pub two_slices : (a b : List ℕ) → List (List Tagged)
two_slices a b = given_words a b ++ idle_cycles 13

-- The names of the machine's registers.
abbrev pub register_names : List (List ℕ)
register_names = codes "pc" ∷ codes "acc" ∷ codes "ir" ∷ codes "cnt" ∷ codes "who" ∷ codes "n"
    ∷ codes "apc" ∷ codes "aacc" ∷ codes "bpc" ∷ codes "bacc" ∷ []

-- The number and level of an entity.
abbrev pub content : Program → Store → (x : ℕ) → Tagged
content p s x = at_level (level p.world (own x) s) (number (own x) s)

-- The numbers and levels of the machine's registers.
abbrev pub registers : Program → Store → List Tagged
registers p s = map (λ name. content p s (entity name)) register_names

-- Pc=3@a acc=10@a ir=0@a cnt=4@low who=0@low n=0@low apc=3@a aacc=10@a bpc=1@b bacc=7@b.
abbrev pub RunOfTwo : Program → Type 0
RunOfTwo p = registers p (after_cycles p 29 (two_slices words_a words_b)).store
    ≡ at_level level_a 3 ∷ at_level level_a 10 ∷ at_level level_a 0 ∷ at_level low 4 ∷ at_level low 0 ∷ at_level low 0
    ∷ at_level level_a 3 ∷ at_level level_a 10 ∷ at_level level_b 1 ∷ at_level level_b 7 ∷ []

-- This stimulus, and that in which a's program is `halt` alone, agree at b for 29 cycles.
abbrev pub TwinsAgree : Order → Type 0
TwinsAgree o = StreamsAgree o level_b (two_slices words_a words_b) (two_slices (2048 ∷ replicate 15 0) words_b)
