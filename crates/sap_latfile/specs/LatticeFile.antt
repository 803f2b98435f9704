-- The lattice of a file, and the first rule that a file breaks.
use Rattle.std.specs.Prelude.{◌≡◌, ℕ, List, Some}
use Rattle.std.specs.Str.{IsUtf8}
use Rattle.toml.specs.Data.{Members}
use Rattle.toml.specs.Parse.{parse_document}
use Rattle.sap_lattice.specs.Built.{IsLatticeOf}
use Rattle.sap_lattice.specs.Levels.{Levels}
use Rattle.sap_lattice.specs.Rules.{FirstBroken}
use Rattle.sap_lattice.specs.declared.pair.Pair.{Pair}
use Rattle.sap_latfile.specs.Document.{Lists}
use Rattle.sap_latfile.specs.declared.fault.LatFileFault.{LatFileFault}
use Rattle.sap_latfile.specs.declared.fault.LatFileFault.TheVariants.{NotToml, Shape, Rule, Memory}

-- The bytes are UTF-8, and read as TOML they are this document.
abbrev pub IsDocument : List ℕ → Members → Type 0
IsDocument bytes document = IsUtf8 bytes × (parse_document bytes ≡ Some document)

-- The bytes are a document that lists these names and pairs.
pub record IsFileOf (bytes : List ℕ) (names : List (List ℕ)) (pairs : List Pair) : Type 0 where
  pub document : Members
  pub is_document : IsDocument bytes document
  pub lists : Lists document names pairs

-- L1: the bytes are no document.
abbrev pub IsNoDocument : List ℕ → Type 0
IsNoDocument bytes = (document : Members) → ¬ IsDocument bytes document

-- L2: the bytes are a document that lists no names and pairs.
pub record HasOtherShape (bytes : List ℕ) : Type 0 where
  pub document : Members
  pub is_document : IsDocument bytes document
  pub other : (names : List (List ℕ)) (pairs : List Pair) → ¬ Lists document names pairs

-- What each answer says: the rule that is broken first, L1 and L2 before those on names and pairs.
abbrev pub FirstFault : List ℕ → LatFileFault → Type 0
FirstFault bytes NotToml = IsNoDocument bytes
FirstFault bytes Shape = HasOtherShape bytes
FirstFault bytes (Rule fault) = (names : List (List ℕ)) × (pairs : List Pair)
    × IsFileOf bytes names pairs × FirstBroken names pairs fault
FirstFault bytes Memory = ⊥

-- `l` is the lattice of the names and pairs of the file.
abbrev pub IsLatticeOfFile : List ℕ → Levels → Type 0
IsLatticeOfFile bytes l = (names : List (List ℕ)) × (pairs : List Pair) × IsFileOf bytes names pairs
    × IsLatticeOf names pairs l
