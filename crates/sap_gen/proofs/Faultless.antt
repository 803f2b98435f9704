-- The generated design has no fault of names and widths over the levels low, a, b and high.
use Rattle.sap_lemmas.proofs.Common.{◌≡◌, ℕ, zero, suc, ◌+◌, ◌%◌, ◌<◌, ◌≤◌, List, [], ◌∷◌, ◌++◌, Bool, true, false, Some, map, refl, ap, arith, if◌then◌else◌, ◌==◌, codes, range_with_len}
use Rattle.sap_tree.specs.Prelude.{nowhere, no_spot, variable, binary_of, assign, go_to, commands, enforced, named, states}
use Rattle.sap_tree.specs.declared.syntax.BinaryOperator.TheVariants.{Add}
use Rattle.sap_tree.specs.declared.syntax.Kind.TheVariants.{Dynamic}
use Rattle.sap_names.specs.Prelude.{Lookup, entities_of, what_is, command_faults, commands_faults, declaration_faults, declarations_faults, design_name_faults, kind_faults, simple_faults, states_faults}
use Rattle.sap_names.specs.declared.fault.Fault.{Fault}
use Rattle.sap_names.specs.declared.kind.Declared.TheVariants as d
use Rattle.sap_lattice.specs.Diamond.{level_names}
use Rattle.sap_gen.specs.Design.{assignment, declared_register, design_of_counts, input_name, register_name, state, state_name, transfer}
use Rattle.sap_gen.proofs.Entities.{each_once, what_input, what_register, what_state}

pub none_of : (xs ys : List Fault) → xs ≡ [] → ys ≡ [] → xs ++ ys ≡ []
none_of xs ys a b = rw (a, b) refl

-- declarations

kind_faultless : (le : ℕ → ℕ → Bool) (b : Bool) → kind_faults level_names le (if b then Dynamic nowhere else enforced (codes "a")) ++ [] ≡ []
kind_faultless le true = refl
kind_faultless le false = refl

registers_faultless : (le : ℕ → ℕ → Bool) (a k : ℕ) → declarations_faults level_names le (map declared_register (range_with_len a k)) ≡ []
registers_faultless le a zero = refl
registers_faultless le a (suc k) =
    none_of (declaration_faults level_names le (declared_register a)) (declarations_faults level_names le (map declared_register (range_with_len (a + 1) k)))
    (kind_faultless le (a % 2 == 0)) (registers_faultless le (a + 1) k)

-- commands

sum_faultless : (what : Lookup) (target operand input : List ℕ) → what target ≡ Some (d.Register 8) → what operand ≡ Some (d.Register 8) → what input ≡ Some (d.Input 8)
    → simple_faults level_names what (assign (named target) (binary_of no_spot Add (variable no_spot operand) (variable no_spot input))) ≡ []
sum_faultless what target operand input a b c = rw (a, b, c) refl

goto_faultless : (what : Lookup) (target : List ℕ) → what target ≡ Some d.State → simple_faults level_names what (go_to nowhere (named target)) ++ [] ≡ []
goto_faultless what target a = rw a refl

module _ (r t : ℕ) (some : 0 < r) (more : 0 < t) (what : Lookup) (input : what input_name ≡ Some (d.Input 8)) (registers : (i : ℕ) → i < r
    → what (register_name i) ≡ Some (d.Register 8)) (places : (j : ℕ) → j < t → what (state_name j) ≡ Some d.State) where
  body_faultless : (j a k : ℕ) → a + k ≤ r → commands_faults level_names what (commands (map (assignment r j) (range_with_len a k) ++ transfer t j ∷ [])) ≡ []
  body_faultless j a zero b = goto_faultless what (state_name ((j + 1) % t)) (places ((j + 1) % t) (omega arith))
  body_faultless j a (suc k) b =
      none_of (command_faults level_names what (assignment r j a))
      (commands_faults level_names what (commands (map (assignment r j) (range_with_len (a + 1) k) ++ transfer t j ∷ [])))
      (sum_faultless what (register_name a) (register_name ((a + j) % r)) input_name (registers a (omega arith)) (registers ((a + j) % r) (omega arith)) input)
      (body_faultless j (a + 1) k (omega arith))

  pub states_faultless : (le : ℕ → ℕ → Bool) (a k : ℕ) → states_faults level_names le what (states (map (state r t) (range_with_len a k))) ≡ []
  states_faultless le a zero = refl
  states_faultless le a (suc k) =
      none_of (commands_faults level_names what (commands (map (assignment r a) (range_with_len 0 r) ++ transfer t a ∷ [])) ++ [])
      (states_faults level_names le what (states (map (state r t) (range_with_len (a + 1) k))))
      (ap (λ (fs : List Fault). fs ++ []) (body_faultless a 0 r (omega arith)))
      (states_faultless le (a + 1) k)

pub names_faultless : (le : ℕ → ℕ → Bool) (r t : ℕ) → 0 < r → r ≤ 64 → 0 < t → t ≤ 64 → design_name_faults level_names le (design_of_counts r t) ≡ []
names_faultless le r t some few more short =
    none_of _ (states_faults level_names le (what_is (entities_of (design_of_counts r t))) (states (map (state r t) (range_with_len 0 t))))
    (none_of _ (declarations_faults level_names le (map declared_register (range_with_len 0 r))) (each_once r t few short) (registers_faultless le 0 r))
    (states_faultless r t some more (what_is (entities_of (design_of_counts r t))) (what_input r t few short) (what_register r t few short) (what_state r t few short) le 0 t)
