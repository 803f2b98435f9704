-- The wires that keep whether a body or a branch is done.
use Rattle.std.specs.Prelude.{ℕ, zero, suc, ◌+◌, ◌^◌, nat_lt, List, [], ◌∷◌, replicate, if◌then◌else◌}
use Rattle.std.specs.Str.{byte}
use Rattle.std.specs.Fmt.{decimal}
use Rattle.sap_maps.specs.Maps.{Name}
use Rattle.sap_ir.specs.declared.guarded.Var.{Var}

-- A `g` and the number. There are fewer than 2 ^ 64, so that those beyond need only differ, also from all declared
-- names.
unfoldable pub gate_name : ℕ → Name
gate_name k = if nat_lt k (2 ^ 64) then byte "g" ∷ decimal k else replicate k 0

-- The wire of a gate.
abbrev pub gate_wire : ℕ → Var
gate_wire k = record { name = gate_name k; width = 1; start = 0 }

-- So many from number k on.
abbrev pub gate_wires : (k count : ℕ) → List Var
gate_wires k zero = []
gate_wires k (suc n) = gate_wire k ∷ gate_wires (k + 1) n
