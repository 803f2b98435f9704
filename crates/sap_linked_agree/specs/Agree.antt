-- When the runs of a system's module agree at a level l, and what the numbers show of it: part by part.
use Rattle.std.specs.Prelude.{◌<◌, ℕ, List, length, map}
use Rattle.std.specs.List.{AllZip}
use Rattle.sap_lattice.specs.Codes.{code_of}
use Rattle.sap_maps.specs.Maps.{Valuation}
use Rattle.sap_meaning.specs.Cycle.{Tagged}
use Rattle.sap_meaning.specs.Agree.{StreamsAgree}
use Rattle.sap_net.specs.Net.{Net}
use Rattle.sap_net.specs.Runs.{IsRun, observed}
use Rattle.sap_interface.specs.Compiled.{coded_stream}
use Rattle.sap_build.specs.Copies.{through}
use Rattle.sap_link.specs.Composites.{StreamFits}
use Rattle.sap_linked.specs.Parts.{Part, NamedSystem, part_at, system_of, in_part}
use Rattle.sap_compile.specs.Agree.{CyclesAgree, CyclesLookAlike}
use Rattle.sap_compile.specs.Runs.{HasOneRun}

-- What is seen of a run, under the names of a part.
abbrev pub seen_of : Part → Net → List Valuation → List Valuation
seen_of p n vs = map (through (in_part p.name)) (map (observed n) vs)

-- For every level l, every two streams that fit the system and agree at l, their levels given as codes, and every part:
-- what is seen of the part in the netlist's runs is so related at l, cycle n with cycle n.
abbrev pub OnAgreeingStreams : NamedSystem → Net → (Pair : Part → (l : ℕ) → Valuation → Valuation → Type 0) → Type 0
OnAgreeingStreams s n Pair =
    (l : ℕ) (a b : List (List Tagged)) → StreamFits (system_of s) a → StreamFits (system_of s) b
    → StreamsAgree s.order l a b
    → (vs us : List Valuation) → IsRun n (coded_stream (code_of s.order) a) vs
    → IsRun n (coded_stream (code_of s.order) b) us
    → (i : ℕ) → i < length s.parts → let p = part_at s i in AllZip (Pair p l) (seen_of p n vs) (seen_of p n us)

-- The runs agree.
abbrev pub SystemRunsAgree : NamedSystem → Net → Type 0
SystemRunsAgree s n = OnAgreeingStreams s n (λ p. CyclesAgree p.design p.sites)

-- And the numbers show it.
abbrev pub SystemRunsLookAlike : NamedSystem → Net → Type 0
SystemRunsLookAlike s n = OnAgreeingStreams s n (λ p. CyclesLookAlike p.design p.sites)

-- On every stream that fits the system, its levels given as codes, the netlist has exactly one run.
abbrev pub SystemHasOneRun : NamedSystem → Net → Type 0
SystemHasOneRun s n = (stream : List (List Tagged)) → StreamFits (system_of s) stream
    → HasOneRun n (coded_stream (code_of s.order) stream)
