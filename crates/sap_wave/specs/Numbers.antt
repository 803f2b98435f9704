-- The numbers that variables have so far.
use Rattle.std.specs.Prelude.{ℕ, List, map, Option, Some}
use Rattle.sap_wave.specs.declared.state.Numbers.{Numbers}
use Rattle.sap_wave.specs.declared.state.Numbers.TheVariants.{First, Later}

-- The numbers of an open block that are known.
abbrev pub now_of : Numbers → List (Option ℕ)
now_of (First ns) = ns.items
now_of (Later ns) = map Some ns.items
