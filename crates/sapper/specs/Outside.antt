-- Where a fault may come from, over a desk on which no call is still to fail by its number.
use Rattle.std.specs.Prelude.{◌≡◌, ℕ, List, length}
use Rattle.sap_desk.specs.Desk.{Told, stream}
use Rattle.sap_commands.specs.Commands.{asks_for}
use Rattle.sap_files.specs.Outside.{OutsideOf}

-- A fault on a file or on standard output comes from what the arguments ask.
abbrev pub Outside : List (List ℕ) → Told → Told → Type 0
Outside words t n = OutsideOf (asks_for words) t n

-- A fault on standard error comes from a full channel: if it was open before the call, it holds as much as there is
-- room for.
abbrev pub FullLines : Told → Told → Type 0
FullLines t n = t.uses 2 ≡ stream → length (n.written 2) ≡ n.room
