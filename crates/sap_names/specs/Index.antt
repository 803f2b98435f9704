-- A map from each name to the number of the first entity that bears it.
use Rattle.std.specs.Prelude.{◌≡◌, ℕ, List, Option, Vec}
use Rattle.std.specs.Global.{Global}
use Rattle.std.specs.Map.{lookup}
use Rattle.std.specs.Str.{bytes_eq}
use Rattle.sap_names.specs.declared.entity.Entity.{Entity}
use Rattle.sap_names.specs.Entities.{number_of}

-- The number under a name.
abbrev pub under : List (Vec ℕ Global × ℕ) → List ℕ → Option ℕ
under entries name = lookup (λ (k : Vec ℕ Global). bytes_eq name k.items) entries

-- The entries of a map lead from each name to the number of its first entity.
abbrev pub Numbers : List Entity → List (Vec ℕ Global × ℕ) → Type 0
Numbers es entries = (name : List ℕ) → under entries name ≡ number_of es name
