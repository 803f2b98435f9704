-- The table as the code has it: names alone.
use Rattle.std.specs.Prelude.{ℕ, List, map}
use Rattle.std.specs.Borrow.{Bor}
use Rattle.sap_words.specs.Words.{Row}

-- A name, and the names of the operands.
abbrev pub Heading : Type 0
Heading = Bor (List ℕ) × Bor (List (Bor (List ℕ)))

-- Texts, as the definitions have them.
abbrev pub texts : Bor (List (Bor (List ℕ))) → List (List ℕ)
texts os = map (λ o. o.now) os.now

-- The name and operands of a stored heading.
abbrev pub written : Heading → List ℕ × List (List ℕ)
written h = (h.0.now, texts h.1)

-- The name and operands of a row.
abbrev pub heading : Row → List ℕ × List (List ℕ)
heading r = (r.name, r.operands)
