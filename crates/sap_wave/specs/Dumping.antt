-- A dump that is written block by block, as a netlist runs.
use Rattle.std.specs.Prelude.{◌≡◌, ℕ, ◌+◌, List, [], ◌∷◌, ◌++◌, Option, Some, length, map, slice_get}
use Rattle.sap_maps.specs.Maps.{Valuation}
use Rattle.sap_net.specs.Net.{Net}
use Rattle.sap_cycle.specs.Running.{Running, Shows, seen, value_names}
use Rattle.sap_wave.specs.declared.variable.Variable.{Variable}
use Rattle.sap_wave.specs.Digits.{identifier}
use Rattle.sap_wave.specs.Lines.{text_of}
use Rattle.sap_wave.specs.Dumps.{block_of, head, last_among}
use Rattle.sap_wave.specs.Runs.{initial_numbers, numbers_after, run_dump, variables_of}

-- A dump that is being written: its variables, the first numbers and the last ones.
pub record Dumping : Type 0 where
  pub variables : List Variable
  -- their numbers before the first cycle
  pub first : List ℕ
  -- their numbers after the last block
  pub last : List ℕ
  -- how many blocks stand behind block 0
  pub count : ℕ
  -- the text of the last of these; none of them has none
  pub block : List ℕ

-- A netlist before its first cycle.
abbrev pub begun : Net → Dumping
begun n = record {
  variables = variables_of n;
  first = initial_numbers n;
  last = initial_numbers n;
  count = 0;
  block = [];
}

-- One block more, after which the variables have these numbers.
abbrev pub with_block : Dumping → List ℕ → Dumping
with_block d numbers =
    record {
      variables = d.variables;
      first = d.first;
      last = numbers;
      count = d.count + 1;
      block = text_of (block_of (d.count + 1) d.variables d.last numbers);
    }

-- The numbers that are seen of the variables.
abbrev pub numbers_seen : Net → (cycle : Option Valuation) → List ℕ
numbers_seen n cycle = map (λ x. (seen n cycle).value x.name) (variables_of n)

-- Each variable has its place in a runner of the netlist.
abbrev pub StandAt : Net → List Variable → (places : List ℕ) → Type 0
StandAt n xs places = map (slice_get (value_names n)) places ≡ map (λ x. Some x.name) xs

-- One block more, by what a runner shows.
abbrev pub AddsBlock : Running → (old new : Dumping) → Type 0
AddsBlock r old new = (cycle : Option Valuation) → Shows r cycle → new ≡ with_block old (numbers_seen r.net cycle)

-- How many bytes changes take at most, where the first of these variables has the number k.
abbrev pub changes_room : (k : ℕ) → List Variable → ℕ
changes_room k [] = 0
changes_room k (x ∷ xs) = x.width + length (identifier k) + 3 + changes_room (k + 1) xs

-- How many bytes a block takes at most: its number is counted as 20 digits.
abbrev pub block_room : List Variable → ℕ
block_room xs = 22 + changes_room 0 xs

-- The numbers after the last of these cycles.
abbrev pub last_numbers : Net → List Valuation → List ℕ
last_numbers n vs = last_among (initial_numbers n) (map (numbers_after n) vs)

-- The dump is that of a netlist's run of these cycles, as far as it is written.
pub record IsAfter (n : Net) (vs : List Valuation) (d : Dumping) : Type 0 where
  pub variables : d.variables ≡ variables_of n
  pub first : d.first ≡ initial_numbers n
  pub last : d.last ≡ last_numbers n vs
  pub count : d.count ≡ length vs

-- The head and the blocks, one behind another, add up to the dump of the run.
pub record BlocksAddUp (n : Net) : Type 0 where
  -- no cycle has the head alone
  pub begins : IsAfter n [] (begun n) × (run_dump n [] ≡ text_of (head (variables_of n) (initial_numbers n)))
  -- a cycle more has a block more
  pub goes_on : (vs : List Valuation) (v : Valuation) (d : Dumping) → IsAfter n vs d
      → IsAfter n (vs ++ (v ∷ [])) (with_block d (numbers_after n v))
      × (run_dump n (vs ++ (v ∷ [])) ≡ run_dump n vs ++ (with_block d (numbers_after n v)).block)
