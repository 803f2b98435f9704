-- The dump of variables and their numbers, line by line, and what a dump is read as.
use Rattle.std.specs.Prelude.{◌≡◌, ℕ, ◌+◌, List, [], ◌∷◌, ◌++◌, ◌==◌, drop, get_or, if◌then◌else◌}
use Rattle.sap_wave.specs.Digits.{bits, identifier, numeral}
use Rattle.sap_wave.specs.Lines.{Form, timescale, scope, upscope, end_definitions, variable, block, change, text_of}
use Rattle.sap_wave.specs.Waves.{IsFit, Wave}
use Rattle.sap_wave.specs.declared.variable.Variable.{Variable}

-- Variable k is declared.
abbrev pub declaration : (k : ℕ) → Variable → Form
declaration k x = variable (numeral x.width) (identifier k) x.name

-- Each variable, the first of which has the number k.
abbrev pub declarations : (k : ℕ) → List Variable → List Form
declarations k [] = []
declarations k (x ∷ xs) = declaration k x ∷ declarations (k + 1) xs

-- Variable k has this number.
abbrev pub set_to : (k : ℕ) → Variable → ℕ → Form
set_to k x number = change (bits x.width number) (identifier k)

-- Each variable has its number.
abbrev pub all_set : (k : ℕ) → List Variable → List ℕ → List Form
all_set k [] numbers = []
all_set k (x ∷ xs) [] = []
all_set k (x ∷ xs) (n ∷ ns) = set_to k x n ∷ all_set (k + 1) xs ns

-- Each variable whose number isn't the one before.
abbrev pub changes : (k : ℕ) → List Variable → (before after : List ℕ) → List Form
changes k [] before after = []
changes k (x ∷ xs) [] after = []
changes k (x ∷ xs) (m ∷ ms) [] = []
changes k (x ∷ xs) (m ∷ ms) (n ∷ ns) = if m == n then changes (k + 1) xs ms ns
    else set_to k x n ∷ changes (k + 1) xs ms ns

-- The head of a dump, with block 0.
abbrev pub head : List Variable → (first : List ℕ) → List Form
head xs first =
    timescale ∷ (scope ∷ (declarations 0 xs ++ (upscope
    ∷ (end_definitions ∷ (block (numeral 0) ∷ all_set 0 xs first)))))

-- Block n.
abbrev pub block_of : (n : ℕ) → List Variable → (before after : List ℕ) → List Form
block_of n xs before after = block (numeral n) ∷ changes 0 xs before after

-- The blocks from n on, by the numbers before them and after each.
abbrev pub blocks_from : (n : ℕ) → List Variable → (before : List ℕ) → List (List ℕ) → List Form
blocks_from n xs before [] = []
blocks_from n xs before (after ∷ rest) = block_of n xs before after ++ blocks_from (n + 1) xs after rest

-- The last of some numbers, or those before them.
abbrev pub last_among : (before : List ℕ) → List (List ℕ) → List ℕ
last_among before [] = before
last_among before (after ∷ rest) = last_among after rest

-- The lines of a dump.
abbrev pub dump : List Variable → (first : List ℕ) → (rest : List (List ℕ)) → List Form
dump xs first rest = head xs first ++ blocks_from 1 xs first rest

-- The text of a dump.
abbrev pub dump_text : List Variable → (first : List ℕ) → (rest : List (List ℕ)) → List ℕ
dump_text xs first rest = text_of (dump xs first rest)

-- The dump of a wave that has a block 0.
abbrev pub dump_of : Wave → List ℕ
dump_of w = dump_text w.variables (get_or w.blocks 0 []) (drop 1 w.blocks)

-- The reading of a dump: the bytes are the dump of this wave.
pub record IsReading (bytes : List ℕ) (w : Wave) : Type 0 where
  pub fits : IsFit w
  pub is_dump : bytes ≡ dump_of w
