-- Where rows find what they show, by the places of variables.
use Rattle.std.specs.Prelude.{ℕ, List, map, get_or}
use Rattle.sap_maps.specs.Maps.{Name}
use Rattle.sap_net.specs.PortNames.{value_name, tag_name}
use Rattle.sap_sim.specs.Numbers.{place}
use Rattle.sap_wave.specs.declared.variable.Variable.{Variable}
use Rattle.sap_wave.specs.Waves.{names_of}

-- The places of each `v_x`.
abbrev pub value_places : List Variable → List Name → List ℕ
value_places vs xs = map (λ x. place (names_of vs) (value_name x)) xs

-- And of each `t_x`.
abbrev pub tag_places : List Variable → List Name → List ℕ
tag_places vs xs = map (λ x. place (names_of vs) (tag_name x)) xs

-- The numbers at places.
abbrev pub numbers_at : (numbers : List ℕ) → (places : List ℕ) → List ℕ
numbers_at numbers places = map (λ k. get_or numbers k 0) places
