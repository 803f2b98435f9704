-- The texts that two users' programs give: a stimulus for the machine, and what the table makes of them.
use Rattle.std.specs.Prelude.{ℕ, ◌+◌, ◌*◌, List, [], ◌∷◌, ◌++◌, Result, Ok, Err, codes, get_or}
use Rattle.std.specs.Fmt.{decimal}
use Rattle.sap_text.specs.Places.{line}
use Rattle.sap_machine.specs.declared.fault.AsmCode.{AsmCode}
use Rattle.sap_machine.specs.declared.fault.AsmCode.TheVariants.{B1, B2, B3, B4}
use Rattle.sap_machine.specs.declared.user.User.{User}
use Rattle.sap_machine.specs.declared.user.User.TheVariants.{A, B}
use Rattle.sap_machine.specs.declared.fault.AsmFault.{AsmFault}
use Rattle.sap_machine.specs.Assembly.{Assembled, assembled}
use Rattle.sap_machine.specs.Table.{UserState}
use Rattle.sap_machine.specs.Slices.{after_slices}

-- WORD@a WORD@b.
abbrev pub word_line : (x y : ℕ) → List ℕ
word_line x y = line (decimal x ++ codes "@a " ++ decimal y ++ codes "@b")

-- Such a line for each place of two lists of words.
abbrev pub word_lines : (a b : List ℕ) → List ℕ
word_lines [] b = []
word_lines (x ∷ a) [] = []
word_lines (x ∷ a) (y ∷ b) = word_line x y ++ word_lines a b

-- The stimulus of n slices: a line for each word, and one repeated for the cycles behind them.
unfoldable pub stimulus_text : (a b : List ℕ) → (n : ℕ) → List ℕ
stimulus_text a b n = word_lines a b ++ line (codes "0@low 0@low *" ++ decimal (1 + 6 * n))

-- NAME pc=PC acc=ACC.
abbrev pub user_line : (name : List ℕ) → UserState → List ℕ
user_line name s = line (name ++ codes " pc=" ++ decimal s.pc ++ codes " acc=" ++ decimal s.acc)

-- A user with these words after n slices.
abbrev pub user_after : User → (words : List ℕ) → (n : ℕ) → UserState
user_after u words n = after_slices u (λ i. get_or words i 0) n

-- Both users after n slices of their words.
unfoldable pub users_text : (a b : List ℕ) → (n : ℕ) → List ℕ
users_text a b n = user_line (codes "a") (user_after A a n) ++ user_line (codes "b") (user_after B b n)

-- How a code of assembly is written.
abbrev pub code_text : AsmCode → List ℕ
code_text B1 = codes "B1"
code_text B2 = codes "B2"
code_text B3 = codes "B3"
code_text B4 = codes "B4"

-- Asm F: CODE line L, where the file F is the first or the second.
abbrev pub refusal_text : (file : ℕ) → AsmFault → List ℕ
refusal_text f r = codes "asm " ++ decimal f ++ codes ": " ++ code_text r.code ++ codes " line " ++ decimal r.line

-- What the words of the file F give, or the text of its refusal.
abbrev pub in_file : (file : ℕ) → Assembled → (List ℕ → Result (List ℕ) (List ℕ)) → Result (List ℕ) (List ℕ)
in_file f (Ok words) gives = gives words
in_file f (Err fault) gives = Err (refusal_text f fault)

-- What two texts in assembly give; a fault of the first comes before those of the second.
abbrev pub of_both : (gives : (a b : List ℕ) → List ℕ) → (first second : List ℕ) → Result (List ℕ) (List ℕ)
of_both gives first second = in_file 1 (assembled first) (λ a. in_file 2 (assembled second) (λ b. Ok (gives a b)))

-- The stimulus, and the users' lines, of two texts and n slices.
abbrev pub asm_text : (first second : List ℕ) → (n : ℕ) → Result (List ℕ) (List ℕ)
asm_text first second n = of_both (λ a b. stimulus_text a b n) first second

-- What `cpu` prints for two programs and a number of time slices, or the fault.
abbrev pub cpu_text : (first second : List ℕ) → (n : ℕ) → Result (List ℕ) (List ℕ)
cpu_text first second n = of_both (λ a b. users_text a b n) first second
