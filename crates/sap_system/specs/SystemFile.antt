-- The system that a file lists, and the first rule that a file breaks.
use Rattle.std.specs.Prelude.{◌≡◌, ℕ, List}
use Rattle.toml.specs.Data.{Members}
use Rattle.sap_latfile.specs.LatticeFile.{IsDocument, IsNoDocument}
use Rattle.sap_system.specs.Document.{Lists}
use Rattle.sap_system.specs.Listing.{Listing}
use Rattle.sap_system.specs.Rules.{FirstBroken, KeepsParts}
use Rattle.sap_system.specs.declared.fault.SysFault.{SysFault}
use Rattle.sap_system.specs.declared.fault.SysFault.TheVariants.{Rule}
use Rattle.sap_system.specs.declared.fault.SysCode.TheVariants.{K1, K2}

-- The bytes are a document that lists these parts and wires.
pub record IsFileOf (bytes : List ℕ) (s : Listing) : Type 0 where
  pub document : Members
  pub is_document : IsDocument bytes document
  pub lists : Lists document s

-- K2: the bytes are a document that lists no parts and wires.
pub record HasOtherShape (bytes : List ℕ) : Type 0 where
  pub document : Members
  pub is_document : IsDocument bytes document
  pub other : (s : Listing) → ¬ Lists document s

-- What each answer says: the rule that is broken first, K1 and K2 before those on parts; the number of K1 and K2 is 0.
abbrev pub FirstFault : List ℕ → SysFault → Type 0
FirstFault bytes (Rule K1 n) = IsNoDocument bytes × (n ≡ 0)
FirstFault bytes (Rule K2 n) = HasOtherShape bytes × (n ≡ 0)
FirstFault bytes fault = (s : Listing) × IsFileOf bytes s × FirstBroken s.parts fault

-- `s` is the system of the file: the file lists it, and its parts keep the rules.
abbrev pub IsSystemOfFile : List ℕ → Listing → Type 0
IsSystemOfFile bytes s = IsFileOf bytes s × KeepsParts s.parts
