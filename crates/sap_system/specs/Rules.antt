-- The rules on the parts of a system, in the order in which they are tested, and the first that is broken.
use Rattle.std.specs.Prelude.{◌≡◌, ◌<◌, ◌≤◌, ◌+◌, ◌⊎◌, ◌==◌, ℕ, Bool, true, List, length, map}
use Rattle.std.specs.List.{list_any}
use Rattle.std.specs.Str.{byte}
use Rattle.sap_lattice.specs.Closure.{name_at}
use Rattle.sap_lattice.specs.Rules.{BadName, IsFirst}
use Rattle.sap_system.specs.declared.fault.SysCode.TheVariants.{K3, K4}
use Rattle.sap_system.specs.declared.fault.SysFault.{SysFault}
use Rattle.sap_system.specs.declared.fault.SysFault.TheVariants.{Rule}
use Rattle.sap_system.specs.declared.file.Part.{Part}

-- K3: there are too few or too many parts.
abbrev pub BadCount : List Part → Type 0
BadCount parts = (length parts < 1) ⊎ (8 < length parts)

-- The names of the parts.
abbrev pub part_names : List Part → List (List ℕ)
part_names parts = map (λ p. p.name) parts

-- The name has an underscore.
abbrev pub has_underscore : List ℕ → Bool
has_underscore name = list_any (λ c. c == byte "_") name

-- What is no name for the part at place k: what is none for a level there, and what has `_`.
pub data BadPartName (names : List (List ℕ)) (k : ℕ) : Type 0 where
  bad : BadName names k → BadPartName names k
  underscore : has_underscore (name_at names k) ≡ true → BadPartName names k

-- K4: part k has no name of the design language, or one that is too long, a keyword or an earlier part's, or has `_`.
abbrev pub BadPart : List Part → ℕ → Type 0
BadPart parts k = (k < length parts) × BadPartName (part_names parts) k

-- A system has one to eight parts.
pub record KeepsCount (parts : List Part) : Type 0 where
  pub some : 1 ≤ length parts
  pub few : length parts ≤ 8

-- None of the two is broken.
pub record KeepsParts (parts : List Part) : Type 0 where
  pub count : KeepsCount parts
  pub named : (k : ℕ) → ¬ BadPart parts k

-- What an answer of K3 and K4 says: the rule that is broken first, and how many parts there are, or which one it is,
-- from 1.
abbrev pub FirstBroken : List Part → SysFault → Type 0
FirstBroken parts (Rule K3 n) = BadCount parts × (n ≡ length parts)
FirstBroken parts (Rule K4 n) = KeepsCount parts × ((k : ℕ) × IsFirst (BadPart parts) k × (n ≡ k + 1))
FirstBroken parts _ = ⊥
