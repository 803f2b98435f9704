-- What the input gets fits it.
use Rattle.sap_lemmas.proofs.Common.{◌≡◌, ℕ, zero, suc, ◌+◌, List, [], ◌∷◌, ◌++◌, length, map, refl, sym, ap, ◌∙◌, subst, arith, range_with_len}
use Rattle.sap_lattice.proofs.KeptLemmas.{order_of-count}
use Rattle.sap_lattice.specs.Prelude.{Levels, order_of, level_names}
use Rattle.sap_meaning.specs.Prelude.{Entity, AllFit, InputsFit, input_widths}
use Rattle.sap_resolved.specs.Fill.{program_of}
use Rattle.sap_resolved.specs.Worlds.{all_declared, group_entities, states_in}
use Rattle.sap_gen.specs.Design.{declared_register, design_of_counts, state}
use Rattle.sap_tree.specs.Making.{states}
use Rattle.sap_gen.specs.Stream.{given}

no_input_among_registers : (ls : Levels) (a k : ℕ) (rest : List Entity) → input_widths (all_declared ls (map declared_register (range_with_len a k)) ++ rest) ≡ input_widths rest
no_input_among_registers ls a zero rest = refl
no_input_among_registers ls a (suc k) rest = no_input_among_registers ls (a + 1) k rest

no_input_among_states : (ls : Levels) (n x r t a k : ℕ) → input_widths (group_entities ls n x (states (map (state r t) (range_with_len a k)))) ≡ []
no_input_among_states ls n x r t a zero = refl
no_input_among_states ls n x r t a (suc k) = no_input_among_states ls (n + 1) (x + states_in (state r t a)) r t (a + 1) k

one_input : (ls : Levels) (r t : ℕ) → input_widths (program_of ls (design_of_counts r t)).world.entities ≡ 8 ∷ []
one_input ls r t =
    ap (λ (ws : List ℕ). 8 ∷ ws)
    (no_input_among_registers ls 0 r (group_entities ls 0 (length (design_of_counts r t).declarations) (design_of_counts r t).states)
    ∙ no_input_among_states ls 0 (length (design_of_counts r t).declarations) r t 0 t)

given_fits : (count n c : ℕ) → count ≡ 4 → AllFit count (8 ∷ []) (given n c ∷ [])
given_fits count n c e = (omega arith, omega arith, tt)

pub inputs_fit : (ls : Levels) → ls.names ≡ level_names → (r t n c : ℕ) → InputsFit (program_of ls (design_of_counts r t)).world (given n c ∷ [])
inputs_fit ls names r t n c =
    subst (λ (ws : List ℕ). AllFit (order_of ls).count ws (given n c ∷ [])) (sym (one_input ls r t))
    (given_fits (order_of ls).count n c (order_of-count ls ∙ ap length names))
