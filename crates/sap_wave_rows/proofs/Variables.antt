-- The variables of a run are the ports that rows show.
use Rattle.sap_lemmas.proofs.Common.{◌≡◌, ℕ, List, [], ◌∷◌, true, map, refl, ap, ap₂, ◌∙◌, inl, inr, bytes_eq, cases_Bool, or_other, equal_of_bytes_eq, bytes_eq_apart_back}
use Rattle.std.proofs.Common.{one-add}
use Rattle.sap_lattice.specs.Levels.{Levels}
use Rattle.sap_maps.specs.Prelude.{Name, Valuation, Scope}
use Rattle.sap_net.specs.Prelude.{Net, is_among, width_of, observed, is_register, register_ports, port_widths, shown_among}
use Rattle.sap_net.specs.declared.parts.Port.{Port}
use Rattle.sap_sim.specs.Prelude.{tag_width, shown_registers}
use Rattle.sap_wave.specs.declared.variable.Variable.{Variable}
use Rattle.sap_wave.specs.Prelude.{variables_among, variables_of, numbers_after, names_of}
use Rattle.sap_wave_rows.specs.Rows.{widths_of, shown_variables, by_name}

-- by name
names_among : (n : Net) (ps : List Port) → names_of (variables_among n ps) ≡ register_ports ps
names_among n [] = refl
names_among n (p ∷ ps) =
    elim (cases_Bool (is_register p.kind)) [
      | inl t ↦ rw t (ap (λ (z : List Name). p.name ∷ z) (names_among n ps))
      | inr e ↦ rw e (names_among n ps)
    ]

pub names_are : (n : Net) → names_of (variables_of n) ≡ register_ports n.ports
names_are n = names_among n n.ports

-- and by width
widths_among : (n : Net) (ps : List Port) → widths_of (variables_among n ps) ≡ map (λ x. (x, width_of n x)) (register_ports ps)
widths_among n [] = refl
widths_among n (p ∷ ps) =
    elim (cases_Bool (is_register p.kind)) [
      | inl t ↦ rw t (ap (λ (z : Scope). (p.name, width_of n p.name) ∷ z) (widths_among n ps))
      | inr e ↦ rw e (widths_among n ps)
    ]

widths_are : (n : Net) → widths_of (variables_of n) ≡ port_widths n
widths_are n = widths_among n n.ports

pub shown_are : (ls : Levels) (n : Net) → shown_variables ls (variables_of n) ≡ shown_registers ls n
shown_are ls n = ap₂ (λ (sc : Scope) (ns : List Name). shown_among (tag_width ls) sc ns) (widths_are n) (names_are n)

-- the number of a variable is what is seen of its name
number_at : (f : Name → ℕ) (xs : List Variable) (y : Name) → is_among y (names_of xs) ≡ true → (by_name xs (map (λ x. f x.name) xs)).value y ≡ f y
number_at f [] y h = absurd (cc)
number_at f (x ∷ xs) y h =
    elim (cases_Bool (bytes_eq x.name y)) [
      | inl e ↦ rw e (ap f (equal_of_bytes_eq x.name y e))
      | inr e ↦ rw (e, one-add) (number_at f xs y (or_other (bytes_eq y x.name) (is_among y (names_of xs)) h (bytes_eq_apart_back x.name y e)))
    ]

pub number_seen : (n : Net) (v : Valuation) (y : Name) → is_among y (register_ports n.ports) ≡ true
    → (by_name (variables_of n) (numbers_after n v)).value y ≡ (observed n v).value y
number_seen n v y h = number_at (λ x. (observed n v).value x) (variables_of n) y (ap (is_among y) (names_are n) ∙ h)
