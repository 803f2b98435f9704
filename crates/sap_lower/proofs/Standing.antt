-- After all assignments and writes each name and each memory has its number.
use Rattle.sap_lemmas.proofs.Common.{◌≡◌, ℕ, ◌^◌, ◌==◌, ◌||◌, List, [], ◌∷◌, Some, Bool, true, false, sym, ap, subst, refl, inl, inr, if◌then◌else◌, unwrap_or, bytes_eq, AllByRecursion, cases_Bool, bytes_eq_apart_back, bytes_eq_same, equal_of_bytes_eq}
use Rattle.sap_maps.specs.Prelude.{Name, Valuation, set_value, Scope, find, Term}
use Rattle.sap_net.specs.Prelude.{is_among, AreDistinct, Shapes, IsWidth}
use Rattle.sap_ir.specs.Prelude.{Action, set, put, Command, Going, value_in, set_cell, after_action, after_command, after, TermFine, with_memory, memories_written}
use Rattle.sap_lower.specs.declared.parts.WritePort.{WritePort}
use Rattle.sap_share.specs.Tables.{replaced}
use Rattle.sap_lower.specs.declared.lowering.Lowering.{Lowering}
use Rattle.sap_lower.specs.Commands.{no_port, port_of, low_set, low_put, low_action, low_command, low_commands}
use Rattle.sap_lower.proofs.Shared.{Gives}
use Rattle.sap_lower.proofs.Means.{SameCells, Around, GivesBefore, front}
use Rattle.sap_lower.proofs.Adding.{commands_added}
use Rattle.sap_lower.proofs.Stands.{HasEntries, replaced_same, replaced_other, replaced_has, set_stands}
use Rattle.sap_lower.proofs.Ports.{PortIs, now_of, put_is, other_is, set_is}

-- an action over declared names, of fitting widths
abbrev pub ActionOk : Shapes → Scope → Action → Type 0
ActionOk ms vars (set x a) = (u : ℕ) × (find vars x ≡ Some u) × TermFine ms vars u a
ActionOk ms vars (put m i a) = (w : ℕ) × (b : ℕ) × IsWidth b × (find ms m ≡ Some (w, 2 ^ b)) × TermFine ms vars b i × TermFine ms vars w a

abbrev pub CommandOk : Shapes → Scope → Command → Type 0
CommandOk ms vars c = TermFine ms vars 1 c.when × ActionOk ms vars c.act

abbrev pub PortsAre : Shapes → Valuation → List (Name × WritePort) → Going → (Name → Bool) → Type 0
PortsAre ms v ps g done = (m : Name) (e : ℕ × ℕ) → find ms m ≡ Some e → PortIs v (port_of ps m) m g (done m)

pub record Standing (ms : Shapes) (vars : Scope) (vw widths : Name → ℕ) (v : Valuation) (s : Lowering) (g : Going) (done : Name → Bool) : Type 0 where
  pub around : Around ms vars vw widths v s.entries g.now.value g.now.cell
  pub has : HasEntries vars s.entries
  pub has_ports : HasEntries ms s.ports
  pub ports : PortsAre ms v s.ports g done

-- the memories that are still to be written differ from each other and from those that were
pub record Later (done : Name → Bool) (rest : List Name) : Type 0 where
  pub distinct : AreDistinct rest
  pub apart : (n : Name) → is_among n rest ≡ true → done n ≡ false

abbrev pub done_after : (off : Bool) → Action → (Name → Bool) → Name → Bool
done_after off (set x a) done n = done n
done_after off (put m i a) done n = if off then done n else (if bytes_eq m n then true else done n)

pub commands_front : (widths : Name → ℕ) (v : Valuation) (ms : Shapes) (cs : List Command) (s : Lowering) → Gives widths v (low_commands ms s cs).wires → Gives widths v s.wires
commands_front widths v ms cs s h = commands_added (GivesBefore widths v) (front widths v) ms cs s h

cells_set : (b : Bool) (g : Going) (x : Name) (a : ℕ) → (if b then g else record { now = set_value g.now x a; next = g.next }).now.cell ≡ g.now.cell
cells_set true g x a = refl
cells_set false g x a = refl

same_else : (off d b : Bool) → b ≡ false → (if off then d else (if b then true else d)) ≡ d
same_else true d b f = refl
same_else false d b f = rw f refl

action_stands : (ms : Shapes) (vars : Scope) (vw widths : Name → ℕ) (v : Valuation) (s : Lowering) (g : Going) (done : Name → Bool)
    → Standing ms vars vw widths v s g done → (c : Term Name) (a : Action) → TermFine ms vars 1 c → ActionOk ms vars a
    → ((m : Name) → (value_in vw g c == 0) ≡ false → is_among m (with_memory a []) ≡ true → done m ≡ false) → Gives widths v (low_action ms s c a).wires
    → Standing ms vars vw widths v (low_action ms s c a) (if value_in vw g c == 0 then g else after_action vw g a) (done_after (value_in vw g c == 0) a done)
action_stands ms vars vw widths v s g done k c (set x t) fc f once h =
    let off = value_in vw g c == 0 in
    let a = value_in vw g t in
    let e = cells_set off g x a in
    record {
      around = record {
        declared = k.around.declared;
        env = set_stands ms vars vw widths v s g k.around k.has c x t f.0 f.1 fc f.2 h;
        memories = subst (λ (cells : Name → ℕ → ℕ). SameCells ms v cells) (sym e) k.around.memories;
      };
      has = replaced_has vars s.entries x (low_set ms s c x t).part k.has;
      has_ports = k.has_ports;
      ports = λ m q found. set_is v (port_of s.ports m) m g (done m) (k.ports m q found) off x a;
    }
action_stands ms vars vw widths v s g done k c (put m i t) fc f once h =
    let off = value_in vw g c == 0 in
    let vi = value_in vw g i in
    let vt = value_in vw g t in
    let p = port_of s.ports m in
    let q = low_put ms s.entries m p c i t s.wires in
    let e = now_of off g m vi vt in
    let here : is_among m (m ∷ []) ≡ true = rw (bytes_eq_same m) refl in
    let is = put_is ms vars vw widths v s.entries g k.around p m (f.0, 2 ^ f.1) f.3 (done m) (k.ports m (f.0, 2 ^ f.1) f.3) c i t f.1 f.0 fc f.4 f.5 (λ o. once m o here) s.wires h in
    let after : Going = if off then g else record { now = g.now; next = set_cell g.next m vi vt } in
    record {
      around = subst (λ (now : Valuation). Around ms vars vw widths v s.entries now.value now.cell) (sym e) k.around;
      has = k.has;
      has_ports = replaced_has ms s.ports m q.port k.has_ports;
      ports = λ n r found.
          elim (cases_Bool (bytes_eq m n)) [
            | inl same ↦
                let mn : m ≡ n = equal_of_bytes_eq m n same in
                let old = k.has_ports m (f.0, 2 ^ f.1) f.3 in
                let z : port_of (replaced s.ports m q.port) m ≡ q.port = ap (λ o. unwrap_or o no_port) (replaced_same s.ports m q.port old.0 old.1) in
                let d : (if off then done m else true) ≡ done_after off (put m i t) done m = rw (bytes_eq_same m) refl in
                let there : PortIs v (port_of (replaced s.ports m q.port) m) m after (done_after off (put m i t) done m) =
                rw z (subst (λ (b : Bool). PortIs v q.port m after b) d is) in
                subst (λ (y : Name). PortIs v (port_of (replaced s.ports m q.port) y) y after (done_after off (put m i t) done y)) mn there
            | inr other ↦
                let z : port_of (replaced s.ports m q.port) n ≡ port_of s.ports n = ap (λ o. unwrap_or o no_port) (replaced_other s.ports m n q.port other) in
                let d : done n ≡ done_after off (put m i t) done n = sym (same_else off (done n) (bytes_eq m n) other) in
                rw z (subst (λ (b : Bool). PortIs v (port_of s.ports n) n after b) d (other_is v (port_of s.ports n) n g (done n) (k.ports n r found) off m vi vt other))
          ];
    }

-- what is still to be written after one command

later_set : (off : Bool) (a : Action) (done : Name → Bool) (others : List Name) → Later done (if off then others else with_memory a others) → Later (done_after off a done) others
later_set true (set x a) done others l = record { distinct = l.distinct; apart = l.apart }
later_set false (set x a) done others l = record { distinct = l.distinct; apart = l.apart }
later_set true (put m i a) done others l = record { distinct = l.distinct; apart = l.apart }
later_set false (put m i a) done others l =
    record {
      distinct = l.distinct.1;
      apart = λ n h.
          elim (cases_Bool (bytes_eq m n)) [
            | inl t ↦ absurd (let e : is_among n others ≡ false = subst (λ (y : Name). is_among y others ≡ false) (equal_of_bytes_eq m n t) l.distinct.0 in cc)
            | inr f ↦ rw f (l.apart n (rw (bytes_eq_apart_back m n f) h))
          ];
    }

once_now : (off : Bool) (a : Action) (done : Name → Bool) (others : List Name) → Later done (if off then others else with_memory a others)
    → (m : Name) → off ≡ false → is_among m (with_memory a []) ≡ true → done m ≡ false
once_now false (put n i a) done others l m o h =
    elim (cases_Bool (bytes_eq m n)) [ inl t ↦ l.apart m (rw t refl) | inr f ↦ absurd (let e : (false || false) ≡ true = rw f at h in cc) ]
once_now _ _ done others l m o h = absurd (cc)

-- all commands
pub commands_stand : (ms : Shapes) (vars : Scope) (vw widths : Name → ℕ) (v : Valuation) (cs : List Command) (s : Lowering) (g : Going)
    (done : Name → Bool) → Standing ms vars vw widths v s g done → AllByRecursion (CommandOk ms vars) cs
    → Later done (memories_written vw g cs) → Gives widths v (low_commands ms s cs).wires
    → (last : Name → Bool) × Standing ms vars vw widths v (low_commands ms s cs) (after vw g cs) last
commands_stand ms vars vw widths v [] s g done k f l h = (done, k)
commands_stand ms vars vw widths v (c ∷ cs) s g done k f l h =
    let off = value_in vw g c.when == 0 in
    let others = memories_written vw (after_command vw g c) cs in
    let h' = commands_front widths v ms cs (low_command ms s c) h in
    let one = action_stands ms vars vw widths v s g done k c.when c.act f.0.0 f.0.1 (once_now off c.act done others l) h' in
    commands_stand ms vars vw widths v cs (low_command ms s c) (after_command vw g c) (done_after off c.act done) one f.1 (later_set off c.act done others l) h
