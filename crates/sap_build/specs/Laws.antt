-- What holds of every copy of a netlist under other names, and of every netlist that stands in a larger one.
use Rattle.std.specs.Prelude.{◌≡◌, ℕ, List, map, true}
use Rattle.sap_maps.specs.Maps.{Name, Valuation}
use Rattle.sap_net.specs.Names.{is_name}
use Rattle.sap_net.specs.Net.{Net}
use Rattle.sap_net.specs.IsNetlist.{IsNetlist}
use Rattle.sap_net.specs.Runs.{IsRun, observed}
use Rattle.sap_net.specs.Laws.{AreSame, AreSameRuns}
use Rattle.sap_build.specs.Copies.{copy_net, KeepsApart, through}
use Rattle.sap_build.specs.Parts.{IsPart, fed_numbers}

-- The copy keeps the rules of netlists.
abbrev pub CopiesAreNetlists : Type 0
CopiesAreNetlists =
    (module_name : Name) (f : Name → Name) (n : Net) → is_name module_name ≡ true → IsNetlist n → KeepsApart f n
    → IsNetlist (copy_net module_name f n)

-- A run of the copy is a run of the netlist.
abbrev pub CopiesRunAlike : Type 0
CopiesRunAlike =
    (module_name : Name) (f : Name → Name) (n : Net) → IsNetlist n → KeepsApart f n
    → (xss : List (List ℕ)) (us : List Valuation)
    → IsRun (copy_net module_name f n) xss us → IsRun n xss (map (through f) us)

-- And every run of the netlist is that of a run of the copy.
abbrev pub CopiesRunBack : Type 0
CopiesRunBack =
    (module_name : Name) (f : Name → Name) (n : Net) → is_name module_name ≡ true → IsNetlist n
    → KeepsApart f n → (xss : List (List ℕ)) (vs : List Valuation)
    → IsRun n xss vs → (us : List Valuation) × IsRun (copy_net module_name f n) xss us
    × AreSameRuns n vs (map (through f) us)

-- Where the numbers of a valuation are those of one of the copy, so is what is seen of it.
abbrev pub CopiesShowAlike : Type 0
CopiesShowAlike =
    (module_name : Name) (f : Name → Name) (n : Net) → IsNetlist n → KeepsApart f n → (v u : Valuation)
    → AreSame n v (through f u)
    → AreSame n (observed n v) (through f (observed (copy_net module_name f n) u))

-- ---- parts of a larger netlist

-- In each run of the whole a part has a run of its own, on the numbers that feed it.
abbrev pub PartsRun : Type 0
PartsRun =
    (f : Name → Name) (part whole : Net) → IsNetlist part → IsNetlist whole → IsPart f part whole
    → (xss : List (List ℕ)) (us : List Valuation)
    → IsRun whole xss us → IsRun part (map (fed_numbers f part) us) (map (through f) us)

-- In each run of the whole a part has no other run of its own, on the numbers that feed it.
abbrev pub PartsRunSo : Type 0
PartsRunSo =
    (f : Name → Name) (part whole : Net) → IsNetlist part → IsNetlist whole → IsPart f part whole
    → (xss : List (List ℕ)) (us vs : List Valuation)
    → IsRun whole xss us → IsRun part (map (fed_numbers f part) us) vs → AreSameRuns part vs (map (through f) us)

-- What is seen of a cycle of the whole is seen of the part's cycle.
abbrev pub PartsShow : Type 0
PartsShow =
    (f : Name → Name) (part whole : Net) → IsNetlist part → IsNetlist whole → IsPart f part whole
    → (v u : Valuation) → AreSame part v (through f u)
    → AreSame part (observed part v) (through f (observed whole u))

-- A copy is a whole of one part.
abbrev pub CopiesAreParts : Type 0
CopiesAreParts = (module_name : Name) (f : Name → Name) (n : Net) → IsNetlist n → KeepsApart f n
    → IsPart f n (copy_net module_name f n)
