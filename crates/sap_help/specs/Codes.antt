-- The codes of faults.
use Rattle.std.specs.Prelude.{◌≡◌, ◌+◌, ℕ, Bool, ◌||◌, List, [], ◌∷◌, ◌++◌, take, length, bytes_eq, codes}
use Rattle.std.specs.List.{list_any}

-- The code is one of those that are known.
abbrev pub is_one_of : List (List ℕ) → List ℕ → Bool
is_one_of known code = list_any (bytes_eq code) known

-- Of designs; E13 is none.
abbrev pub design_codes : List (List ℕ)
design_codes = codes "E1" ∷ codes "E2" ∷ codes "E3" ∷ codes "E4" ∷ codes "E5" ∷ codes "E6" ∷ codes "E7"
    ∷ codes "E8" ∷ codes "E9" ∷ codes "E10" ∷ codes "E11" ∷ codes "E12" ∷ codes "E14" ∷ codes "E15"
    ∷ codes "E16" ∷ codes "E17" ∷ codes "E18" ∷ []

-- Of lattice files.
abbrev pub lattice_codes : List (List ℕ)
lattice_codes = codes "L1" ∷ codes "L2" ∷ codes "L3" ∷ codes "L4" ∷ codes "L5" ∷ codes "L6" ∷ codes "L7"
    ∷ codes "L8" ∷ []

-- Of stimuli.
abbrev pub stimulus_codes : List (List ℕ)
stimulus_codes = codes "S1" ∷ codes "S2" ∷ codes "S3" ∷ codes "S4" ∷ codes "S5" ∷ codes "S6" ∷ []

-- Of modules, and of one to which tags are added.
abbrev pub module_codes : List (List ℕ)
module_codes = codes "V1" ∷ codes "V2" ∷ codes "V3" ∷ codes "V4" ∷ codes "V5" ∷ codes "V6" ∷ codes "V7"
    ∷ codes "X1" ∷ []

-- Of systems of linked designs.
abbrev pub system_codes : List (List ℕ)
system_codes = codes "K1" ∷ codes "K2" ∷ codes "K3" ∷ codes "K4" ∷ codes "K5" ∷ codes "K6" ∷ codes "K7"
    ∷ codes "K8" ∷ codes "K9" ∷ []

-- Of value change dumps.
abbrev pub wave_codes : List (List ℕ)
wave_codes = codes "Y1" ∷ codes "Y2" ∷ codes "Y3" ∷ codes "Y4" ∷ codes "Y5" ∷ []

-- Of assembly.
abbrev pub assembly_codes : List (List ℕ)
assembly_codes = codes "B1" ∷ codes "B2" ∷ codes "B3" ∷ codes "B4" ∷ []

-- The text is a code that the program prints.
abbrev pub is_code : List ℕ → Bool
is_code code = is_one_of design_codes code
    || (is_one_of lattice_codes code || (is_one_of stimulus_codes code
    || (is_one_of module_codes code || (is_one_of system_codes code
    || (is_one_of wave_codes code || is_one_of assembly_codes code)))))

-- The text of a code begins with it and a colon.
abbrev pub IsTextOf : (code text : List ℕ) → Type 0
IsTextOf code text = take (length code + 1) text ≡ code ++ codes ":"
