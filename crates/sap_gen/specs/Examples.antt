-- Generated runs, worked out.
use Rattle.std.specs.Prelude.{◌≡◌, ◌++◌, codes}
use Rattle.sap_text.specs.Places.{line}
use Rattle.sap_gen.specs.Design.{register_count, state_count}
use Rattle.sap_gen.specs.Stream.{cycle_count}
use Rattle.sap_gen.specs.Text.{generated_text}

-- What `gen` prints for 1, worked out by hand.
abbrev pub OfOne : Type 0
OfOne = generated_text 1
    ≡ line (codes "gen 1: 3 registers, 2 states, 4 cycles, 3 refusals")
    ++ line (codes "cycle 4: x0=187@a x1=38@a x2=80@a")

-- What `gen` prints for 2, worked out by hand.
abbrev pub OfTwo : Type 0
OfTwo = generated_text 2
    ≡ line (codes "gen 2: 4 registers, 3 states, 8 cycles, 10 refusals")
    ++ line (codes "cycle 8: x0=231@a x1=189@a x2=93@a x3=17@a")

-- The size of the run of 1000.
abbrev pub LargestSize : Type 0
LargestSize = (register_count 1000 ≡ 42) × (state_count 1000 ≡ 9) × (cycle_count 1000 ≡ 4000)
