-- Lists of names, each with what was declared of it. The first entry of a name counts.
use Rattle.std.specs.Prelude.{◌≡◌, ℕ, List, [], ◌∷◌, Option, Some, None, bytes_eq, if◌then◌else◌}
use Rattle.sap_maps.specs.Maps.{Name, Valuation}

-- What the first entry of a name in the list says of it, if there is one.
abbrev pub find : {X : Type 0} → List (Name × X) → Name → Option X
find [] n = None
find (e ∷ es) n = if bytes_eq e.0 n then Some e.1 else find es n

-- A scope has names with their widths.
abbrev pub Scope : Type 0
Scope = List (Name × ℕ)

-- Equal numbers at all declared names.
abbrev pub Agree : Scope → Valuation → Valuation → Type 0
Agree sc v w = (n : Name) (u : ℕ) → find sc n ≡ Some u → v.value n ≡ w.value n
