-- An input keeps the number that it is given.
use Rattle.sap_lemmas.proofs.Common.{◌≡◌, ℕ, ◌==◌, List, [], ◌∷◌, ◌++◌, map, Option, Some, None, Bool, true, false, sym, ◌∙◌, subst, refl, inl, inr, if◌then◌else◌, bytes_eq, AllByRecursion, cases_Bool, bytes_eq_same, equal_of_bytes_eq}
use Rattle.sap_net.proofs.NamesLemmas.{not_found}
use Rattle.sap_maps.proofs.ScopeLemmas.{found_second}
use Rattle.sap_maps.specs.Prelude.{Name, Valuation, set_value, find}
use Rattle.sap_net.specs.Prelude.{is_among, AreDistinct, InputsAre}
use Rattle.sap_ir.specs.Prelude.{Source, Action, set, put, Command, width_of, Going, value_in, number_at_start, begun, after_action, after_command, after, cycle, assignable, variable_names, memory_names, ActionFine, CommandFine, IsGuarded}
use Rattle.sap_ir.specs.declared.guarded.Var.{Var}
use Rattle.sap_ir.proofs.Declared.{not_front, not_behind_list, distinct_front, apart_lists_back}
use Rattle.sap_lower.specs.Lowered.{input_of}
use Rattle.sap_lower.proofs.Rules.{each_variable}
use Rattle.sap_lower.proofs.Whole.{both_hold}

-- what isn't assigned keeps its number

chosen_kept : (off : Bool) (g : Going) (x n : Name) (a : ℕ) → bytes_eq n x ≡ false
    → (if off then g else record { now = set_value g.now x a; next = g.next }).now.value n ≡ g.now.value n
chosen_kept true g x n a d = refl
chosen_kept false g x n a d = rw d refl

other_name : (s : Source) (n x : Name) (u : ℕ) → find (assignable s) n ≡ None → find (assignable s) x ≡ Some u → bytes_eq n x ≡ false
other_name s n x u new f =
    elim (cases_Bool (bytes_eq n x)) [
      | inl t ↦ absurd (let e : find (assignable s) x ≡ None = subst (λ (m : Name). find (assignable s) m ≡ None) (equal_of_bytes_eq n x t) new in cc)
      | inr d ↦ d
    ]

action_keeps : (s : Source) (vw : Name → ℕ) (off : Bool) (g : Going) (n : Name) (a : Action) → ActionFine s a → find (assignable s) n ≡ None
    → (if off then g else after_action vw g a).now.value n ≡ g.now.value n
action_keeps s vw off g n (set x t) f new = chosen_kept off g x n (value_in vw g t) (other_name s n x f.0 new f.1)
action_keeps s vw true g n (put m i t) f new = refl
action_keeps s vw false g n (put m i t) f new = refl

after_keeps : (s : Source) (vw : Name → ℕ) (cs : List Command) (g : Going) (n : Name) → AllByRecursion (CommandFine s) cs → find (assignable s) n ≡ None
    → (after vw g cs).now.value n ≡ g.now.value n
after_keeps s vw [] g n f new = refl
after_keeps s vw (c ∷ cs) g n f new =
    after_keeps s vw cs (after_command vw g c) n f.1 new ∙ action_keeps s vw (value_in vw g c.when == 0) g n c.act f.0.1 new

-- how a cycle begins

past : (s : Source) (before : Option Valuation) (v : Valuation) (i : Var) (x : ℕ) (all is : List Var) (xs : List ℕ) → is_among i.name (variable_names is) ≡ false
    → AllByRecursion (λ y. v.value y.name ≡ number_at_start s before all xs y.name) is
    → AllByRecursion (λ y. v.value y.name ≡ number_at_start s before (i ∷ all) (x ∷ xs) y.name) is
past s before v i x all [] xs d a = tt
past s before v i x all (y ∷ is) xs d a =
    elim (cases_Bool (bytes_eq i.name y.name)) [
      | inl t ↦ absurd (let e : is_among i.name (variable_names (y ∷ is)) ≡ true = rw t refl in cc)
      | inr f ↦ (rw f a.0, past s before v i x all is xs (rw f at d) a.1)
    ]

given_at_start : (s : Source) (before : Option Valuation) (v : Valuation) (is : List Var) (xs : List ℕ) → InputsAre v (map input_of is) xs → AreDistinct (variable_names is)
    → AllByRecursion (λ x. v.value x.name ≡ number_at_start s before is xs x.name) is
given_at_start s before v [] [] a d = tt
given_at_start s before v [] (x ∷ xs) a d = absurd a
given_at_start s before v (i ∷ is) [] a d = absurd a
given_at_start s before v (i ∷ is) (x ∷ xs) a d =
    (rw (bytes_eq_same i.name) a.0, past s before v i x is is xs d.0 (given_at_start s before v is xs a.1 d.1))

no_assigned : (s : Source) → IsGuarded s → AllByRecursion (λ x. find (assignable s) x.name ≡ None) s.inputs
no_assigned s g =
    let is = variable_names s.inputs in
    let rs = variable_names s.registers in
    let ws = variable_names s.wires in
    let ms = memory_names s.memories in
    each_variable (λ x. find (assignable s) x.name ≡ None) s.inputs (λ x a.
    let d = apart_lists_back is (rs ++ (ws ++ ms)) g.declared_once x.name a in
    let w = not_front x.name ws ms (not_behind_list x.name rs (ws ++ ms) d) in
    found_second (map (λ (y : Var). (y.name, y.width)) s.registers) (map (λ (y : Var). (y.name, y.width)) s.wires) x.name
    (not_found {X = ℕ} (λ (y : Var). y.name) (λ y. y.width) s.registers x.name (not_front x.name rs (ws ++ ms) d))
    ∙ not_found {X = ℕ} (λ (y : Var). y.name) (λ y. y.width) s.wires x.name w)

pub inputs_same : (s : Source) → IsGuarded s → (e : Option Valuation) (xs : List ℕ) (v : Valuation) → InputsAre v (map input_of s.inputs) xs
    → AllByRecursion (λ x. v.value x.name ≡ (cycle s e xs).value x.name) s.inputs
inputs_same s g e xs v a =
    let is = variable_names s.inputs in
    let others = variable_names s.registers ++ (variable_names s.wires ++ memory_names s.memories) in
    both_hold (λ x. v.value x.name ≡ number_at_start s e s.inputs xs x.name) (λ x. find (assignable s) x.name ≡ None) (λ x. v.value x.name ≡ (cycle s e xs).value x.name) s.inputs
    (λ x h new. h ∙ sym (after_keeps s (width_of s) s.commands (begun s e xs) x.name g.commands new))
    (given_at_start s e v s.inputs xs a (distinct_front is others g.declared_once)) (no_assigned s g)
