-- Where a fault on a file or on channel 1 may come from, over a desk on which no call is still to fail by its number.
use Rattle.std.specs.Prelude.{◌≡◌, ◌⊎◌, ℕ, List, length, Option, Some, None}
use Rattle.sap_desk.specs.Desk.{Told, bytes_of, stream}
use Rattle.sap_desk.specs.Whole.{MissingOrLong}
use Rattle.sap_lines.specs.Stepping.Printed.{MissingOrTooLong}
use Rattle.sap_files.specs.Contents.{Has}
use Rattle.sap_files.specs.Asks.{Asks, file, with_the, gives, prints, writes, stops}

-- A file holds as much as there is room for.
abbrev pub FullFile : (name : List ℕ) → Told → Told → Type 0
FullFile name t n = length (bytes_of n name) ≡ n.room

-- Channel 1, open before the call, holds as much as there is room for.
abbrev pub FullOutput : Told → Told → Type 0
FullOutput t n = t.uses 1 ≡ stream → length (n.written 1) ≡ n.room

-- Why a file can't be read: it is missing; or so long that its end is never read, where it is read to its end.
abbrev pub IsUnreadable : (most : Option ℕ) → (name : List ℕ) → Told → Type 0
IsUnreadable None name t = MissingOrLong name t
IsUnreadable (Some most) name t = t.files name ≡ None

-- Why a call of this command failed, on a desk on which none is still to fail by its number. Either a file can't be
-- read, those before it standing for values; or a stimulus can't be read up to its refused line; or what is written
-- fills the room.
abbrev pub OutsideOf : Asks → Told → Told → Type 0
OutsideOf (file name k rest) t n = IsUnreadable k.most name t
    ⊎ ((v : k.Value) × Has t name k.Stands v × OutsideOf (rest v) t n)
OutsideOf (with_the V Holds rest) t n = (v : V) × Holds v × OutsideOf (rest v) t n
OutsideOf (gives text) t n = FullOutput t n
OutsideOf (prints name text fault) t n = MissingOrTooLong fault name t ⊎ FullOutput t n
OutsideOf (writes name text) t n = FullFile name t n
OutsideOf (stops why) t n = ⊥
