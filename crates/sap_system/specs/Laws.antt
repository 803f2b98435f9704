-- What a file says of the system that it lists, and of the fault that it has. Want of memory is no fault of a file.
use Rattle.std.specs.Prelude.{◌≡◌, ℕ, List}
use Rattle.sap_system.specs.Listing.{Listing}
use Rattle.sap_system.specs.SystemFile.{FirstFault, IsSystemOfFile}
use Rattle.sap_system.specs.declared.fault.SysFault.{SysFault}

-- A file is at most one system.
abbrev pub OneSystem : Type 0
OneSystem = (bytes : List ℕ) (s t : Listing) → IsSystemOfFile bytes s → IsSystemOfFile bytes t → s ≡ t

-- A file has at most one first fault.
abbrev pub OneFault : Type 0
OneFault = (bytes : List ℕ) (one other : SysFault) → FirstFault bytes one → FirstFault bytes other → one ≡ other

-- And none where it is a system.
abbrev pub NotBoth : Type 0
NotBoth = (bytes : List ℕ) (s : Listing) (fault : SysFault) → IsSystemOfFile bytes s → FirstFault bytes fault → ⊥
