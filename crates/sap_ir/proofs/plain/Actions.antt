-- Tests and actions over what a program declares: the rule and its test.
use Rattle.sap_lemmas.proofs.Common.{◌≡◌, ℕ, [], ◌∷◌, map, Some, true, refl, arith, and_from, and_parts}
use Rattle.sap_maps.proofs.ScopeLemmas.{found_first}
use Rattle.sap_maps.specs.Prelude.{Name, find, Term, constant, read}
use Rattle.sap_net.specs.Names.{AreDistinct}
use Rattle.sap_ir.specs.Source.{Action, set, Command, Source, readable, shapes}
use Rattle.sap_ir.specs.IsGuarded.{TermFine, assignable, ActionFine, CommandFine, declared, IsGuarded}
use Rattle.sap_ir.specs.Test.{value_is_fine, action_is_fine, command_is_fine, is_guarded}
use Rattle.sap_ir.proofs.Declared.{assignable_readable}
use Rattle.sap_ir.proofs.Tested.{guarded_from}
use Rattle.sap_ir.proofs.Passes.{guarded_to}

-- the same declarations with one command
one_command : Source → Command → Source
one_command s c =
    record { inputs = s.inputs; wires = s.wires; registers = s.registers; memories = s.memories; ports = s.ports; commands = c ∷ [] }

command_from : (s : Source) (c : Command) → is_guarded s ≡ true → command_is_fine s c ≡ true → CommandFine s c
unfolding is_guarded one_command
command_from s c g h =
    let p = and_parts _ _ g in
    let k : is_guarded (one_command s c) ≡ true = and_from _ _ p.0 (and_from (command_is_fine s c) true h refl) in
    (guarded_from (one_command s c) k).commands.0

one_bit : (s : Source) → value_is_fine s (constant 1 1) 1 ≡ true
one_bit s = refl

pub action_from : (s : Source) → is_guarded s ≡ true → (a : Action) → action_is_fine s a ≡ true → ActionFine s a
action_from s g a h =
    (command_from s (record { when = constant 1 1; act = a }) g (and_from (value_is_fine s (constant 1 1) 1) (action_is_fine s a) (one_bit s) h)).1

-- a is some action that is fine
pub test_from : (s : Source) (a : Action) → is_guarded s ≡ true → action_is_fine s a ≡ true → (t : Term Name) → value_is_fine s t 1 ≡ true → TermFine (shapes s) (readable s) 1 t
test_from s a g h t e =
    (command_from s (record { when = t; act = a }) g (and_from (value_is_fine s t 1) (action_is_fine s a) e h)).0

command_to : (s : Source) (c : Command) → IsGuarded s → CommandFine s c → command_is_fine s c ≡ true
unfolding is_guarded one_command
command_to s c g f =
    let k : IsGuarded (one_command s c) =
    record {
      named = g.named;
      not_helping = g.not_helping;
      declared_once = g.declared_once;
      inputs = g.inputs;
      wires = g.wires;
      registers = g.registers;
      memories = g.memories;
      ports_declared = g.ports_declared;
      ports_once = g.ports_once;
      commands = (f, tt);
    } in
    let p = and_parts _ _ (guarded_to (one_command s c) k) in
    (and_parts (command_is_fine s c) true p.1).0

one_bit_fine : (s : Source) → TermFine (shapes s) (readable s) 1 (constant 1 1)
one_bit_fine s = (refl, omega arith)

pub action_to : (s : Source) → IsGuarded s → (a : Action) → ActionFine s a → action_is_fine s a ≡ true
action_to s g a f =
    (and_parts (value_is_fine s (constant 1 1) 1) (action_is_fine s a) (command_to s (record { when = constant 1 1; act = a }) g (one_bit_fine s, f))).1

-- a is some action that is fine
pub test_to : (s : Source) (a : Action) → IsGuarded s → ActionFine s a → (t : Term Name) → TermFine (shapes s) (readable s) 1 t → value_is_fine s t 1 ≡ true
test_to s a g f t e =
    (and_parts (value_is_fine s t 1) (action_is_fine s a) (command_to s (record { when = t; act = a }) g (e, f))).0

-- what is assigned to itself
pub itself_fine : (s : Source) → AreDistinct (declared s) → (x : Name) (u : ℕ) → find (map (λ r. (r.name, r.width)) s.registers) x ≡ Some u → ActionFine s (set x (read x))
itself_fine s d x u f =
    let a : find (assignable s) x ≡ Some u = found_first (map (λ r. (r.name, r.width)) s.registers) (map (λ r. (r.name, r.width)) s.wires) x u f in
    (u, a, assignable_readable s d x u a)
