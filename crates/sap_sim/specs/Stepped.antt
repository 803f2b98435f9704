-- A netlist that is stepped on the lines of a stimulus, one after another.
use Rattle.std.specs.Prelude.{◌≡◌, ℕ, ◌≤◌, List, [], ◌∷◌, ◌++◌, None, length, map}
use Rattle.std.specs.List.{last_or}
use Rattle.sap_maps.specs.Maps.{Valuation}
use Rattle.sap_meaning.specs.Cycle.{Tagged as Given}
use Rattle.sap_net.specs.Net.{Net}
use Rattle.sap_net.specs.Runs.{IsRun, observed}
use Rattle.sap_cycle.specs.Running.{Running, Shows}
use Rattle.sap_stim.specs.declared.field.Field.{Field}
use Rattle.sap_sim.specs.Told.{told_from}

-- A simulator in the middle of its run, with its plan of rows.
pub record Stepped (Plan : Type 0) : Type 0 where
  -- the netlist, and what it shows
  pub runner : Running
  -- where in the netlist its steps find what they need
  pub plan : Plan
  -- the fields of a line
  pub fields : List Field
  -- for how many bytes a buffer needs room to take what is told of any cycle
  pub room : ℕ

-- A run of a netlist on these lines, on each of which its inputs get these numbers.
abbrev pub IsRunOn : Net → (numbers : List Given → List ℕ) → (lines : List (List Given)) → List Valuation → Type 0
IsRunOn n numbers lines run = IsRun n (map numbers lines) run

-- The runner shows the last cycle of a run on these lines.
abbrev pub ShowsLast : Net → (numbers : List Given → List ℕ) → (lines : List (List Given)) → Running → Type 0
ShowsLast n numbers lines r = (run : List Valuation) → IsRunOn n numbers lines run → Shows r (last_or None run)

-- It is this netlist, stepped on these lines.
pub record IsAfter {Plan : Type 0} (IsPlanned : Stepped Plan → Type 0) (n : Net) (numbers : List Given
    → List ℕ) (lines : List (List Given)) (s : Stepped Plan) : Type 0 where
  pub net : s.runner.net ≡ n
  pub planned : IsPlanned s
  pub shows : ShowsLast n numbers lines s.runner

-- Behind the old bytes stand others, at most so many.
abbrev pub HasMore : (most : ℕ) → (old now : List ℕ) → Type 0
HasMore most old now = (more : List ℕ) × (now ≡ old ++ more) × (length more ≤ most)

-- Behind the old bytes stands what is told of the last of these lines.
abbrev pub TellsMore : (tell : (cycle : ℕ) → Valuation → List ℕ) → Net → (numbers : List Given → List ℕ)
    → (lines : List (List Given)) → (cycle : ℕ) → (old now : List ℕ) → Type 0
TellsMore tell n numbers lines cycle old now =
    (run : List Valuation) (v : Valuation) → IsRunOn n numbers lines (run ++ v ∷ [])
    → now ≡ old ++ tell cycle (observed n v)

-- What is told of all these lines, their cycles counted from 1.
abbrev pub TellsAll : (tell : (cycle : ℕ) → Valuation → List ℕ) → Net → (numbers : List Given → List ℕ)
    → (lines : List (List Given)) → (text : List ℕ) → Type 0
TellsAll tell n numbers lines text = (run : List Valuation) → IsRunOn n numbers lines run
    → text ≡ told_from tell 1 (map (observed n) run)
