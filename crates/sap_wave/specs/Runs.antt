-- The dump of a module's run: the variables are its `output reg` ports.
use Rattle.std.specs.Prelude.{ℕ, List, ◌∷◌, map, filter}
use Rattle.sap_maps.specs.Maps.{Valuation}
use Rattle.sap_net.specs.declared.parts.Port.{Port}
use Rattle.sap_net.specs.Net.{Net}
use Rattle.sap_net.specs.IsNetlist.{width_of}
use Rattle.sap_net.specs.Shown.{is_register}
use Rattle.sap_net.specs.Runs.{observed, initial_number}
use Rattle.sap_wave.specs.declared.variable.Variable.{Variable}
use Rattle.sap_wave.specs.Waves.{Wave}
use Rattle.sap_wave.specs.Dumps.{dump_of}

-- The registers that these ports show, in their order.
abbrev pub variables_among : Net → List Port → List Variable
variables_among n ps = map (λ p. record { name = p.name; width = width_of n p.name })
    (filter (λ p. is_register p.kind) ps)

-- The variables of a dump of a net's run: its registers that ports show.
abbrev pub variables_of : Net → List Variable
variables_of n = variables_among n n.ports

-- The start numbers of variables.
abbrev pub initial_of : Net → List Variable → List ℕ
initial_of n xs = map (λ x. initial_number n x.name) xs

-- The start numbers of a net's variables.
abbrev pub initial_numbers : Net → List ℕ
initial_numbers n = initial_of n (variables_of n)

-- The numbers after the edge of a cycle.
abbrev pub numbers_after : Net → Valuation → List ℕ
numbers_after n v = map (λ x. (observed n v).value x.name) (variables_of n)

-- A run as a wave, and what is written of it.
abbrev pub run_wave : Net → List Valuation → Wave
run_wave n vs = record { variables = variables_of n; blocks = initial_numbers n ∷ map (numbers_after n) vs }

-- The dump of a run.
abbrev pub run_dump : Net → List Valuation → List ℕ
run_dump n vs = dump_of (run_wave n vs)
