-- The lines that tell how a table was run, and why one is refused.
use Rattle.std.specs.Prelude.{ℕ, List, ◌++◌, codes, decimal}
use Rattle.sap_rows.specs.declared.refusal.Why.{Why}
use Rattle.sap_rows.specs.declared.refusal.Why.TheVariants.{Says, Memory}

-- The line that says how many rows a table has, and how many differ.
abbrev pub counts_line : (table : List ℕ) → (rows differing : ℕ) → List ℕ
counts_line table rows differing = table ++ codes ": " ++ decimal rows ++ codes " rows, "
    ++ decimal differing ++ codes " differ\n"

-- The line that says why a table is rejected, and where.
abbrev pub refusal_line : (table : List ℕ) → (line : ℕ) → Why → List ℕ
refusal_line table line (Says text) = table ++ codes ": line " ++ decimal line ++ codes ": " ++ text.now ++ codes "\n"
refusal_line table line Memory = table ++ codes ": memory\n"
