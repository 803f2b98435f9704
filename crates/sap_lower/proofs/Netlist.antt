-- The netlist of a program follows the rules of netlists.
use Rattle.sap_lemmas.proofs.Common.{◌≡◌, ℕ, ◌^◌, ◌<◌, List, [], ◌∷◌, ◌++◌, map, length, Some, None, Bool, true, false, sym, ap, ◌∙◌, subst, refl, inl, inr, append_assoc, if◌then◌else◌, unwrap_or, bytes_eq, AllByRecursion, pow_pos, cases_Bool, equal_of_bytes_eq}
use Rattle.sap_net.proofs.NamesLemmas.{not_found, among_each}
use Rattle.sap_maps.proofs.ScopeLemmas.{found_first, found_second}
use Rattle.sap_ir.proofs.IsGuardedLemmas.{plain_wide, register_wide}
use Rattle.sap_maps.specs.Prelude.{Name, Scope, find}
use Rattle.sap_net.specs.Prelude.{is_among, AreDistinct, IsWidth, IsDepth, IsOperand}
use Rattle.sap_net.specs.declared.parts.Operand.TheVariants.{Named, Constant}
use Rattle.sap_ir.specs.Prelude.{Source, Action, set, put, Command, variable_names, memory_names, declared, is_helping, IsRegisterVar, IsMemoryVariable, ActionFine, CommandFine, IsGuarded}
use Rattle.sap_ir.specs.declared.guarded.Var.{Var}
use Rattle.sap_ir.specs.declared.guarded.MemoryVariable.{MemoryVariable}
use Rattle.sap_ir.specs.Source as source
use Rattle.sap_ir.proofs.Declared.{not_front, not_behind_list, assignable_readable}
use Rattle.sap_lower.specs.declared.parts.Part.{Part}
use Rattle.sap_share.specs.Names.{helper}
use Rattle.sap_lower.specs.Lowering.{present}
use Rattle.sap_lower.specs.Commands.{no_port, port_of}
use Rattle.sap_lower.specs.Lowered.{named_entry, targets, register_part, register_entry, zero_entry, first_entries, first_port, index_bits, first_lowering, last_lowering, registers_declared}
use Rattle.sap_lower.proofs.Standing.{ActionOk, CommandOk}
use Rattle.sap_lower.proofs.Stands.{HasEntries}
use Rattle.sap_lower.proofs.Fits.{NoHelpers, EnvFits}
use Rattle.sap_lower.proofs.CommandsFit.{AllWide, PortsFit, StateFits, commands_fit}
use Rattle.sap_lower.proofs.Order.{same_found, found_of}
use Rattle.sap_lower.proofs.Begins.{scope_of, shapes_list, port_at_first, first_port_found, bits_of_depth}
use Rattle.sap_lower.proofs.Helping.{helper_is_helping}

-- what each name is at first

has_named : (f : Var → Part) (n : Name) (u : ℕ) (xs : List Var) (sc : Scope) (es : List (Name × Part))
    → (find sc n ≡ Some u → (x : Part) × (find es n ≡ Some x)) → find (scope_of xs ++ sc) n ≡ Some u → (x : Part) × (find (map (λ x. (x.name, f x)) xs ++ es) n ≡ Some x)
has_named f n u [] sc es k h = k h
has_named f n u (x ∷ xs) sc es k h =
    elim (cases_Bool (bytes_eq x.name n)) [
      | inl t ↦ (f x, rw t refl)
      | inr e ↦ let r = has_named f n u xs sc es k (rw e at h) in (r.0, rw e r.1)
    ]

abbrev pub named_part : Var → Part
named_part x = record { operand = Named x.name; width = x.width }

abbrev zero_part : Var → Part
zero_part x = record { operand = Constant x.width 0; width = x.width }

has_zero : (n : Name) (u : ℕ) (xs : List Var) → find (scope_of xs) n ≡ Some u → (x : Part) × (find (map zero_entry xs) n ≡ Some x)
has_zero n u [] h = absurd (cc)
has_zero n u (x ∷ xs) h =
    elim (cases_Bool (bytes_eq x.name n)) [
      | inl t ↦ (zero_part x, rw t refl)
      | inr e ↦ let r = has_zero n u xs (rw e at h) in (r.0, rw e r.1)
    ]

pub entries_have : (s : Source) → HasEntries (source.readable s) (first_entries s)
entries_have s n u h =
    let a = append_assoc (scope_of s.inputs) (scope_of s.registers) (scope_of s.wires) in
    let g : find (scope_of s.inputs ++ (scope_of s.registers ++ scope_of s.wires)) n ≡ Some u = subst (λ (sc : Scope). find sc n ≡ Some u) a h in
    let r = has_named named_part n u s.inputs (scope_of s.registers ++ scope_of s.wires) (map (register_entry (targets s.commands)) s.registers ++ map zero_entry s.wires)
    (λ k. has_named (register_part (targets s.commands)) n u s.registers (scope_of s.wires) (map zero_entry s.wires) (λ j. has_zero n u s.wires j) k) g in (
      r.0,
      subst (λ (es : List (Name × Part)). find es n ≡ Some r.0)
          (sym (append_assoc (map named_entry s.inputs) (map (register_entry (targets s.commands)) s.registers) (map zero_entry s.wires))) r.1,
    )

pub ports_have : (s : Source) → HasEntries (source.shapes s) (map first_port s.memories)
ports_have s n e h = (port_at_first e, first_port_found s.memories n e h)

abbrev PartFits : Scope → (u : ℕ) → Part → Type 0
PartFits sc u p = IsOperand sc u p.operand × (p.width ≡ u)

named_fits : (n : Name) (u : ℕ) (sc : Scope) (xs : List Var) (sd : Scope) (es : List (Name × Part))
    → (find (scope_of xs) n ≡ Some u → find sc n ≡ Some u)
    → (find (scope_of xs) n ≡ None → find sd n ≡ Some u → PartFits sc u (present es n)) → find (scope_of xs ++ sd) n ≡ Some u → PartFits sc u (present (map named_entry xs ++ es) n)
named_fits n u sc [] sd es k j h = j refl h
named_fits n u sc (x ∷ xs) sd es k j h =
    elim (cases_Bool (bytes_eq x.name n)) [
      | inl t ↦
          let q : Some x.width ≡ Some u = rw t at h in
          let w : x.width ≡ u = cc in
          let here : find (scope_of (x ∷ xs)) n ≡ Some u = rw t q in
          rw t (subst (λ (y : Name). find sc y ≡ Some u) (sym (equal_of_bytes_eq x.name n t)) (k here), w)
      | inr f ↦ rw f (named_fits n u sc xs sd es (λ g. k (rw f g)) (λ g. j (rw f g)) (rw f at h))
    ]

either_fits : (sc : Scope) (u : ℕ) (x : Var) (b : Bool) → find sc x.name ≡ Some u → x.width ≡ u → x.start < 2 ^ x.width
    → IsOperand sc u (if b then Named x.name else Constant x.width x.start)
either_fits sc u x true f w l = f
either_fits sc u x false f w l = (w, subst (λ (k : ℕ). x.start < 2 ^ k) w l)

registers_fit : (assigned : List Name) (n : Name) (u : ℕ) (sc : Scope) (xs : List Var) (sd : Scope) (es : List (Name × Part))
    → AllByRecursion IsRegisterVar xs → (find (scope_of xs) n ≡ Some u → find sc n ≡ Some u)
    → (find (scope_of xs) n ≡ None → find sd n ≡ Some u → PartFits sc u (present es n)) → find (scope_of xs ++ sd) n ≡ Some u
    → PartFits sc u (present (map (register_entry assigned) xs ++ es) n)
registers_fit assigned n u sc [] sd es a k j h = j refl h
registers_fit assigned n u sc (x ∷ xs) sd es a k j h =
    elim (cases_Bool (bytes_eq x.name n)) [
      | inl t ↦
          let q : Some x.width ≡ Some u = rw t at h in
          let w : x.width ≡ u = cc in
          let here : find (scope_of (x ∷ xs)) n ≡ Some u = rw t q in
          let found : find sc x.name ≡ Some u = subst (λ (y : Name). find sc y ≡ Some u) (sym (equal_of_bytes_eq x.name n t)) (k here) in
          rw t (either_fits sc u x (is_among x.name assigned) found w a.0.1, w)
      | inr f ↦ rw f (registers_fit assigned n u sc xs sd es a.1 (λ g. k (rw f g)) (λ g. j (rw f g)) (rw f at h))
    ]

zero_fits : (n : Name) (u : ℕ) (sc : Scope) (xs : List Var) → find (scope_of xs) n ≡ Some u → PartFits sc u (present (map zero_entry xs) n)
zero_fits n u sc [] h = absurd (cc)
zero_fits n u sc (x ∷ xs) h =
    elim (cases_Bool (bytes_eq x.name n)) [
      | inl t ↦
          let q : Some x.width ≡ Some u = rw t at h in
          let w : x.width ≡ u = cc in
          rw t ((w, pow_pos u), w)
      | inr f ↦ rw f (zero_fits n u sc xs (rw f at h))
    ]

-- the inputs, and the registers in the order of their declaration
abbrev pub first_scope : Source → Scope
first_scope s = scope_of s.inputs ++ scope_of (registers_declared s)

registers_scope : (s : Source) (n : Name) → find (scope_of (registers_declared s)) n ≡ find (scope_of s.registers) n
registers_scope s n = found_of (λ x. x.width) (registers_declared s) s.registers n (same_found s.registers s.ports n)

same_behind : (es fs gs : Scope) (n : Name) → find fs n ≡ find gs n → find (es ++ fs) n ≡ find (es ++ gs) n
same_behind [] fs gs n h = h
same_behind (e ∷ es) fs gs n h = ap (λ o. if bytes_eq e.0 n then Some e.1 else o) (same_behind es fs gs n h)

pub first_found : (s : Source) (n : Name) → find (first_scope s) n ≡ find (scope_of s.inputs ++ scope_of s.registers) n
first_found s n = same_behind (scope_of s.inputs) (scope_of (registers_declared s)) (scope_of s.registers) n (registers_scope s n)

first_env : (s : Source) → IsGuarded s → EnvFits (first_scope s) (source.readable s) (first_entries s)
first_env s i n u h =
    let is = scope_of s.inputs in
    let rs = scope_of s.registers in
    let ws = scope_of s.wires in
    let sc = first_scope s in
    let g : find (is ++ (rs ++ ws)) n ≡ Some u = subst (λ (sd : Scope). find sd n ≡ Some u) (append_assoc is rs ws) h in
    let assigned = targets s.commands in
    let r = named_fits n u sc s.inputs (rs ++ ws) (map (register_entry assigned) s.registers ++ map zero_entry s.wires)
    (λ k. found_first is (scope_of (registers_declared s)) n u k)
    (λ z k. registers_fit assigned n u sc s.registers ws (map zero_entry s.wires) i.registers (λ j. found_second is (scope_of (registers_declared s)) n z
    ∙ registers_scope s n ∙ j) (λ y j. zero_fits n u sc s.wires j) k) g in
    subst (λ (es : List (Name × Part)). PartFits sc u (present es n))
    (sym (append_assoc (map named_entry s.inputs) (map (register_entry assigned) s.registers) (map zero_entry s.wires))) r

-- widths

wide_found : (xs : List Var) (sc : Scope) → AllByRecursion (λ x. IsWidth x.width) xs → AllWide sc → AllWide (scope_of xs ++ sc)
wide_found [] sc a k n u h = k n u h
wide_found (x ∷ xs) sc a k n u h =
    elim (cases_Bool (bytes_eq x.name n)) [
      | inl t ↦ let q : Some x.width ≡ Some u = rw t at h in let w : x.width ≡ u = cc in subst IsWidth w a.0
      | inr f ↦ wide_found xs sc a.1 k n u (rw f at h)
    ]

none_wide : AllWide []
none_wide n u h = absurd (cc)

nothing_behind : (sc : Scope) → sc ++ [] ≡ sc
nothing_behind [] = refl
nothing_behind (e ∷ sc) = ap (λ sd. e ∷ sd) (nothing_behind sc)

readable_wide : (s : Source) → IsGuarded s → AllWide (source.readable s)
readable_wide s g n u h =
    let k : find (scope_of s.inputs ++ (scope_of s.registers ++ (scope_of s.wires ++ []))) n ≡ Some u =
    subst (λ (sc : Scope). find sc n ≡ Some u) (append_assoc (scope_of s.inputs) (scope_of s.registers) (scope_of s.wires)
    ∙ ap (λ (sc : Scope). scope_of s.inputs ++ (scope_of s.registers ++ sc)) (sym (nothing_behind (scope_of s.wires)))) h in
    wide_found s.inputs _ (plain_wide s.inputs g.inputs)
    (wide_found s.registers _ (register_wide s.registers g.registers) (wide_found s.wires [] (plain_wide s.wires g.wires) none_wide)) n u k

memory_found : (ms : List MemoryVariable) → AllByRecursion IsMemoryVariable ms → (n : Name) (e : ℕ × ℕ) → find (shapes_list ms) n ≡ Some e → IsWidth e.0 × ((b : ℕ) × IsDepth e.1 b)
memory_found [] a n e h = absurd (cc)
memory_found (m ∷ ms) a n e h =
    elim (cases_Bool (bytes_eq m.name n)) [
      | inl t ↦ let q : Some (m.width, m.depth) ≡ Some e = rw t at h in let w : (m.width, m.depth) ≡ e = cc in
          subst (λ (d : ℕ × ℕ). IsWidth d.0 × ((b : ℕ) × IsDepth d.1 b)) w (a.0.0, a.0.1)
      | inr f ↦ memory_found ms a.1 n e (rw f at h)
    ]

first_ports_fit : (s : Source) → IsGuarded s → (sc : Scope) → PortsFit (source.shapes s) sc (map first_port s.memories)
first_ports_fit s g sc m e h =
    let f = memory_found s.memories g.memories m e h in
    let b = f.1.0 in
    let d = f.1.1 in
    let k : index_bits e.1 ≡ b = bits_of_depth 12 e.1 b d.1 d.0 d.2 in
    let p : port_of (map first_port s.memories) m ≡ port_at_first e = ap (λ o. unwrap_or o no_port) (first_port_found s.memories m e h) in
    rw p (record {
      wide = refl;
      deep = subst (λ (q : ℕ). IsDepth e.1 q) (sym k) d;
      enable = (refl, pow_pos 1);
      index = (refl, pow_pos (index_bits e.1));
      value = (refl, pow_pos e.0);
    })

-- no declared name is a helping one

pub helpers_apart : (s : Source) → IsGuarded s → (k : ℕ) → k < 2 ^ 64 → is_among (helper k) (declared s) ≡ false
helpers_apart s g k l =
    elim (cases_Bool (is_among (helper k) (declared s))) [
      | inl t ↦ absurd (let f : is_helping (helper k) ≡ false =
          among_each (λ x. is_helping x ≡ false) (declared s) g.not_helping (helper k) t in let h = helper_is_helping k l in cc)
      | inr f ↦ f
    ]

-- the assignments in terms of what can be read

action_ok : (s : Source) → AreDistinct (declared s) → (a : Action) → ActionFine s a → ActionOk (source.shapes s) (source.readable s) a
action_ok s d (set x t) f = (f.0, assignable_readable s d x f.0 f.1, f.2)
action_ok s d (put m i t) f = f

commands_ok : (s : Source) → AreDistinct (declared s) → (cs : List Command) → AllByRecursion (CommandFine s) cs
    → AllByRecursion (CommandOk (source.shapes s) (source.readable s)) cs
commands_ok s d [] f = tt
commands_ok s d (c ∷ cs) f = ((f.0.0, action_ok s d c.act f.0.1), commands_ok s d cs f.1)

pub source_commands : (s : Source) → IsGuarded s → AllByRecursion (CommandOk (source.shapes s) (source.readable s)) s.commands
source_commands s g = commands_ok s g.declared_once s.commands g.commands

-- the state after all assignments fits

no_helping_memory : (s : Source) → IsGuarded s → NoHelpers (source.shapes s)
no_helping_memory s g k l =
    let is = variable_names s.inputs in
    let rs = variable_names s.registers in
    let ws = variable_names s.wires in
    let ms = memory_names s.memories in
    let a = not_behind_list (helper k) is (rs ++ (ws ++ ms)) (helpers_apart s g k l) in
    let b = not_behind_list (helper k) ws ms (not_behind_list (helper k) rs (ws ++ ms) a) in
    not_found {X = ℕ × ℕ} (λ (m : MemoryVariable). m.name) (λ m. (m.width, m.depth)) s.memories (helper k) b

no_helping_value : (s : Source) → IsGuarded s → (k : ℕ) → k < 2 ^ 64 → find (first_scope s) (helper k) ≡ None
no_helping_value s g k l =
    let is = variable_names s.inputs in
    let rs = variable_names s.registers in
    let ws = variable_names s.wires in
    let ms = memory_names s.memories in
    let h = helpers_apart s g k l in
    let a = not_front (helper k) is (rs ++ (ws ++ ms)) h in
    let b = not_front (helper k) rs (ws ++ ms) (not_behind_list (helper k) is (rs ++ (ws ++ ms)) h) in
    first_found s (helper k)
    ∙ found_second (scope_of s.inputs) (scope_of s.registers) (helper k) (not_found {X = ℕ} (λ (x : Var). x.name) (λ x. x.width) s.inputs (helper k) a)
    ∙ not_found {X = ℕ} (λ (x : Var). x.name) (λ x. x.width) s.registers (helper k) b

pub last_fits : (s : Source) → IsGuarded s → length (last_lowering s).wires < 2 ^ 64 → StateFits (source.shapes s) (first_scope s) (source.readable s) (last_lowering s)
last_fits s g l =
    let first : StateFits (source.shapes s) (first_scope s) (source.readable s) (first_lowering s) = record {
      fits = record { wires = tt; named = tt; helping = tt; fresh = λ k a b. no_helping_value s g k b; others = λ n h. refl };
      env = first_env s g;
      has = entries_have s;
      has_ports = ports_have s;
      ports = first_ports_fit s g (first_scope s);
    } in
    commands_fit (source.shapes s) (first_scope s) (source.readable s) (no_helping_memory s g) (readable_wide s g)
    (λ m e h. (memory_found s.memories g.memories m e h).0) s.commands (first_lowering s) (source_commands s g) first l
