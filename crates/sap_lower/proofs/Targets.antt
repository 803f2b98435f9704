-- The names that commands assign, and what stands at first for a register that none of them assigns.
use Rattle.sap_lemmas.proofs.Common.{◌≡◌, ◌||◌, ℕ, suc, ◌+◌, ◌<◌, List, [], ◌∷◌, ◌++◌, Option, Some, None, Bool, true, false, append_assoc, AllByRecursion, length, drop, get_or, map, sym, ap, ap₂, ◌∙◌, refl, inl, inr, unwrap_or, bytes_eq, bytes_eq_symmetric, cases_Bool, add-one, drop-cons, if◌then◌else◌}
use Rattle.sap_maps.specs.Prelude.{Name, find, Term}
use Rattle.sap_net.specs.Names.{is_among}
use Rattle.sap_net.specs.Rules.{Shapes}
use Rattle.sap_net.specs.declared.parts.Operand.TheVariants.{Named, Constant}
use Rattle.sap_ir.specs.Calcs.{action_of, commands_of}
use Rattle.sap_ir.specs.Source.{Action, set, put, Command, Source, shapes}
use Rattle.sap_ir.specs.IsGuarded.{IsGuarded, variable_names, memory_names}
use Rattle.sap_ir.proofs.Declared.{apart_lists, distinct_behind, distinct_front}
use Rattle.sap_maps.proofs.ScopeLemmas.{found_first, found_second}
use Rattle.sap_net.proofs.NamesLemmas.{among_front, not_found}
use Rattle.sap_ir.specs.declared.guarded.GuardedCmd.{GuardedCmd}
use Rattle.sap_ir.specs.declared.guarded.Var.{Var}
use Rattle.sap_share.specs.Sets.{AreSame, holds}
use Rattle.sap_lower.specs.declared.parts.Part.{Part}
use Rattle.sap_lower.specs.declared.lowering.Lowering.{Lowering}
use Rattle.sap_lower.specs.Commands.{low_action, low_command, low_commands, low_set}
use Rattle.sap_lower.specs.Lowered.{first_entries, first_lowering, last_lowering, named_entry, register_entry, register_part, targets, with_target, zero_entry}
use Rattle.sap_lower.specs.Lowering.{nothing, present}
use Rattle.sap_lower.proofs.Stands.{replaced_other}
use Rattle.sap_lower.proofs.Order.{each_found, find_under, of_option, under_names}
use Rattle.sap_lower.proofs.Netlist.{named_part}
use Rattle.sap_lower.proofs.Rules.{each_variable}
use Rattle.sap_lower.proofs.Whole.{both_hold}

-- one command more

either_way : (a b c : Bool) → (a || (b || c)) ≡ ((b || a) || c)
either_way true true c = refl
either_way true false c = refl
either_way false true c = refl
either_way false false c = refl

moved : (a : Action) (xs held : List Name) (n : Name) → (is_among n xs || is_among n (with_target a held)) ≡ (is_among n (with_target a xs) || is_among n held)
moved (set x t) xs held n = either_way (is_among n xs) (bytes_eq n x) (is_among n held)
moved (put m i t) xs held n = refl

pub targets_step : (cmds : List GuardedCmd) (k : ℕ) (item : GuardedCmd) (held new : List Name) (n : Name) (z : Bool) → k < length cmds → item ≡ get_or cmds k item
    → AreSame new (with_target (action_of item.act) held) → (is_among n (targets (commands_of (drop k cmds))) || holds held n) ≡ z
    → (is_among n (targets (commands_of (drop (k + 1) cmds))) || holds new n) ≡ z
targets_step cmds k item held new n z l e s h =
    let d : drop k cmds ≡ item ∷ drop (k + 1) cmds = drop-cons cmds k item l ∙ ap (λ (x : GuardedCmd). x ∷ drop (suc k) cmds) (sym e)
    ∙ ap (λ (j : ℕ). item ∷ drop j cmds) (sym (add-one k)) in
    let rest = targets (commands_of (drop (k + 1) cmds)) in
    ap (λ (b : Bool). is_among n rest || b) (s n) ∙ moved (action_of item.act) rest held n
    ∙ sym (ap (λ (cs : List GuardedCmd). is_among n (targets (commands_of cs)) || is_among n held) d) ∙ h

-- two lists on which the same names stand

abbrev part_if : Var → (is_assigned : Bool) → Part
part_if r b = record { operand = if b then Named r.name else Constant r.width r.start; width = r.width }

part_same : (xs ys : List Name) (r : Var) → AreSame xs ys → register_entry xs r ≡ register_entry ys r
part_same xs ys r h = ap (λ (b : Bool). (r.name, part_if r b)) (h r.name)

pub entries_same : (xs ys : List Name) (rs : List Var) → AreSame xs ys → map (register_entry xs) rs ≡ map (register_entry ys) rs
entries_same xs ys [] h = refl
entries_same xs ys (r ∷ rs) h = ap₂ (λ (e : Name × Part) (es : List (Name × Part)). e ∷ es) (part_same xs ys r h) (entries_same xs ys rs h)

-- a name that nothing assigns stands for what it stood for

other_target : (a : Action) (cs : List Command) (n : Name) → is_among n (with_target a (targets cs)) ≡ false → is_among n (targets cs) ≡ false
other_target (set x t) cs n h = elim (cases_Bool (bytes_eq n x)) [ inl e ↦ absurd (let f : true ≡ false = rw e at h in cc) | inr e ↦ rw e at h ]
other_target (put m i t) cs n h = h

action_leaves : (ms : Shapes) (s : Lowering) (c : Term Name) (a : Action) (cs : List Command) (n : Name) → is_among n (with_target a (targets cs)) ≡ false
    → present (low_action ms s c a).entries n ≡ present s.entries n
action_leaves ms s c (set x t) cs n h =
    elim (cases_Bool (bytes_eq x n)) [
      | inl e ↦ absurd (let k : bytes_eq n x ≡ true = bytes_eq_symmetric n x ∙ e in let f : true ≡ false = rw k at h in cc)
      | inr e ↦ ap (λ o. unwrap_or o nothing) (replaced_other s.entries x n (low_set ms s c x t).part e)
    ]
action_leaves ms s c (put m i t) cs n h = refl

pub commands_leave : (ms : Shapes) (cs : List Command) (s : Lowering) (n : Name) → is_among n (targets cs) ≡ false
    → present (low_commands ms s cs).entries n ≡ present s.entries n
commands_leave ms [] s n h = refl
commands_leave ms (c ∷ cs) s n h =
    commands_leave ms cs (low_command ms s c) n (other_target c.act cs n h) ∙ action_leaves ms s c.when c.act cs n h

-- what each register stands for at first

found_part : (is : List Var) (rs : List Var) (es : List (Name × Part)) (assigned : List Name) (x : Var) → is_among x.name (variable_names is) ≡ false
    → find (under_names rs) x.name ≡ Some x → present (map named_entry is ++ map (register_entry assigned) rs ++ es) x.name ≡ register_part assigned x
found_part is rs es assigned x apart found =
    let part = register_part assigned in
    let n = x.name in
    let own : find (map (register_entry assigned) rs) n ≡ Some (part x) = find_under part rs n ∙ ap (λ (o : Option Var). of_option part o) found in
    let none : find (map named_entry is) n ≡ None = not_found {X = Part} (λ (y : Var). y.name) named_part is n apart in
    let all : find (map named_entry is ++ map (register_entry assigned) rs ++ es) n ≡ Some (part x) =
    ap (λ (l : List (Name × Part)). find l n) (append_assoc (map named_entry is) (map (register_entry assigned) rs) es)
    ∙ found_second (map named_entry is) (map (register_entry assigned) rs ++ es) n none ∙ found_first (map (register_entry assigned) rs) es n (part x) own in
    ap (λ o. unwrap_or o nothing) all

pub registers_present : (s : Source) → IsGuarded s → AllByRecursion (λ x. present (first_entries s) x.name ≡ register_part (targets s.commands) x) s.registers
registers_present s g =
    let I = variable_names s.inputs in
    let R = variable_names s.registers in
    let rest = variable_names s.wires ++ memory_names s.memories in
    let differ = distinct_front R rest (distinct_behind I (R ++ rest) g.declared_once) in
    both_hold (λ x. is_among x.name R ≡ true) (λ x. find (under_names s.registers) x.name ≡ Some x)
    (λ x. present (first_entries s) x.name ≡ register_part (targets s.commands) x) s.registers
    (λ x a f. found_part s.inputs s.registers (map zero_entry s.wires) (targets s.commands) x
    (apart_lists I (R ++ rest) g.declared_once x.name (among_front x.name R rest a)) f)
    (each_variable (λ x. is_among x.name R ≡ true) s.registers (λ x a. a)) (each_found s.registers differ)

-- so does a register that nothing assigns at the end
pub unassigned_part : (s : Source) (x : Var) → present (first_entries s) x.name ≡ register_part (targets s.commands) x → is_among x.name (targets s.commands) ≡ false
    → present (last_lowering s).entries x.name ≡ part_if x false
unassigned_part s x e f =
    commands_leave (shapes s) s.commands (first_lowering s) x.name f ∙ e
    ∙ ap (part_if x) f
