-- A cycle of the netlist has the numbers of the program's cycle.
use Rattle.sap_lemmas.proofs.Common.{◌≡◌, ℕ, ◌^◌, ◌<◌, ◌==◌, ◌&&◌, List, [], ◌∷◌, ◌++◌, map, Option, Some, None, Bool, false, sym, ap, ◌∙◌, subst, refl, if◌then◌else◌, unwrap_or, AllByRecursion, AllZip, all_of_map, all_parts, all_second}
use Rattle.sap_net.proofs.RulesLemmas.{readable_kept}
use Rattle.sap_maps.specs.Prelude.{Name, Valuation, Scope, find}
use Rattle.sap_maps.proofs.Scopes.{found_here, found_behind}
use Rattle.sap_net.specs.Prelude.{AreDistinct, Net, Shapes, AreWires, readable_after, operand_value, Holds, first_readable, readable, shapes, width_of, IsNetlist, written, IsWithin, InputsAre, IsCycle, IsRunAfter, observed, WidthsAre}
use Rattle.sap_net.specs.declared.parts.Wire.{Wire}
use Rattle.sap_net.proofs.Within.{widths_are}
use Rattle.sap_net.proofs.Observed.{observed_inputs, observed_registers, observed_wires, observed_memories}
use Rattle.sap_ir.specs.Prelude.{Source, Going, first_number, first_cell, begun, after, cycle, variable_names, IsGuarded, memories_written, WithinBefore, NumbersFit, WritesOnce}
use Rattle.sap_ir.specs.declared.guarded.Var.{Var}
use Rattle.sap_ir.specs.declared.guarded.MemoryVariable.{MemoryVariable}
use Rattle.sap_ir.specs.Guarded.{run_after}
use Rattle.sap_ir.specs.Source as source
use Rattle.sap_ir.proofs.Passes.{source_widths}
use Rattle.sap_lower.specs.declared.parts.Part.{Part}
use Rattle.sap_lower.specs.declared.parts.WritePort.{WritePort}
use Rattle.sap_lower.specs.Lowering.{present}
use Rattle.sap_lower.specs.Commands.{port_of, no_port}
use Rattle.sap_lower.specs.Lowered.{targets, register_part, first_entries, first_port, input_of, listed, out_wire, register_of, memory_of, registers_declared, first_lowering, last_lowering, lowered}
use Rattle.sap_lower.specs.Same.{SameNumbers, RunsAlike}
use Rattle.sap_lower.proofs.SeenFits.{right_parts, parts_wide}
use Rattle.sap_lower.proofs.Shared.{Gives}
use Rattle.sap_lower.proofs.Means.{Env, SameCells, Around, gives_front, gives_behind}
use Rattle.sap_lower.proofs.Stands.{HasEntries}
use Rattle.sap_lower.proofs.Standing.{CommandOk, PortsAre, Standing, Later, commands_stand}
use Rattle.sap_lower.proofs.Order.{from_declared}
use Rattle.sap_lower.proofs.Begins.{IsKnown, KeepsIfUnassigned, env_first, cells_first, first_port_found}
use Rattle.sap_lower.proofs.Rules.{found_mapped}
use Rattle.sap_lower.proofs.Targets.{registers_present, unassigned_part}
use Rattle.sap_lower.proofs.Whole.{both_hold}
use Rattle.sap_lower.proofs.Listed.{listed_holds}
use Rattle.sap_lower.proofs.Inputs.{inputs_same}

-- What is known of a program whose netlist follows the rules.
pub record Known (s : Source) : Type 0 where
  pub rules : IsGuarded s
  pub netlist : IsNetlist (lowered s)
  pub commands : AllByRecursion (CommandOk (source.shapes s) (source.readable s)) s.commands
  pub entries : HasEntries (source.readable s) (first_entries s)
  pub ports : HasEntries (source.shapes s) (map first_port s.memories)
  pub found : AllByRecursion (λ x. find (readable (lowered s)) x.name ≡ Some x.width) (s.inputs ++ s.registers)
  pub shapes : shapes (lowered s) ≡ source.shapes s
  pub registers_readable : AllByRecursion (λ x. find (source.readable s) x.name ≡ Some x.width) s.registers
  pub wires_readable : AllByRecursion (λ x. find (source.readable s) x.name ≡ Some x.width) s.wires
  pub memories_found : AllByRecursion (λ m. find (source.shapes s) m.name ≡ Some (m.width, m.depth)) s.memories
  pub registers_differ : AreDistinct (variable_names s.registers)

-- each wire is found at the end with its width
gives_from : (widths : Name → ℕ) (v : Valuation) (ms : Shapes) (ws : List Wire) (sc : Scope) → AreWires ms sc ws
    → WidthsAre (readable_after sc ws) widths → Holds widths v ws → Gives widths v ws
gives_from widths v ms [] sc f w h = tt
gives_from widths v ms (x ∷ ws) sc f w h =
    let kept = λ (m : Name) (k : ℕ) (g : find sc m ≡ Some k). readable_kept ms ws ((x.name, x.width) ∷ sc) f.4 m k (found_behind sc x.name x.width f.1 m k g) in (
      h.0,
      w x.name x.width (readable_kept ms ws _ f.4 x.name x.width (found_here x.name x.width sc)),
      parts_wide (readable_after sc (x ∷ ws)) widths w x.width x.right (right_parts ms sc (readable_after sc (x ∷ ws)) kept x.width x.right f.3),
      gives_from widths v ms ws _ f.4 w h.1,
    )

known_from : (n : Net) (v : Valuation) → IsWithin n v → (xs : List Var) → AllByRecursion (λ x. find (readable n) x.name ≡ Some x.width) xs
    → AllByRecursion (IsKnown (width_of n) v) xs
known_from n v w [] a = tt
known_from n v w (x ∷ xs) a =
    ((widths_are n x.name x.width a.0, w.value x.name x.width a.0), known_from n v w xs a.1)

-- the netlist's cycle before and the program's cycle before have equal numbers after the edge
pub record SameAfter (s : Source) (p e : Valuation) : Type 0 where
  pub registers : AllByRecursion (λ x. operand_value p (present (last_lowering s).entries x.name).operand ≡ e.value x.name) s.registers
  pub memories : AllByRecursion (λ m. (i : ℕ) → written p (memory_of (last_lowering s).ports m) i ≡ e.cell m.name i) s.memories

abbrev pub SameBefore : Source → (p e : Option Valuation) → Type 0
SameBefore s None None = Unit {0}
SameBefore s None (Some e) = ⊥
SameBefore s (Some p) None = ⊥
SameBefore s (Some p) (Some e) = SameAfter s p e

joined_all : {X : Type 0} (f g h : X → ℕ) (xs : List X) → AllByRecursion (λ x. f x ≡ g x) xs → AllByRecursion (λ x. g x ≡ h x) xs → AllByRecursion (λ x. f x ≡ h x) xs
joined_all f g h [] a b = tt
joined_all f g h (x ∷ xs) a b = (a.0 ∙ b.0, joined_all f g h xs a.1 b.1)

joined_all_at : {X : Type 0} (f g h : X → ℕ → ℕ) (xs : List X) → AllByRecursion (λ x. (i : ℕ) → f x i ≡ g x i) xs
    → AllByRecursion (λ x. (i : ℕ) → g x i ≡ h x i) xs → AllByRecursion (λ x. (i : ℕ) → f x i ≡ h x i) xs
joined_all_at f g h [] a b = tt
joined_all_at f g h (x ∷ xs) a b = (λ i. a.0 i ∙ b.0 i, joined_all_at f g h xs a.1 b.1)

registers_begin : (s : Source) → Known s → (p e : Option Valuation) (xs : List ℕ) (v : Valuation) → SameBefore s p e
    → IsCycle (lowered s) p xs v → AllByRecursion (λ x. v.value x.name ≡ first_number e x) s.registers
registers_begin s k None None xs v b c =
    let es = (last_lowering s).entries in
    from_declared (λ x. v.value x.name ≡ x.start) s.registers s.ports k.registers_differ
    (all_of_map (λ r. v.value r.name ≡ r.start) (register_of es) (registers_declared s) c.begins.0)
registers_begin s k None (Some e) xs v b c = absurd b
registers_begin s k (Some p) None xs v b c = absurd b
registers_begin s k (Some p) (Some e) xs v b c =
    let es = (last_lowering s).entries in
    let a = from_declared (λ x. v.value x.name ≡ operand_value p (present es x.name).operand) s.registers s.ports k.registers_differ
    (all_of_map (λ r. v.value r.name ≡ operand_value p r.next) (register_of es) (registers_declared s) c.begins.0) in
    joined_all (λ (x : Var). v.value x.name) (λ x. operand_value p (present es x.name).operand) (λ x. e.value x.name) s.registers a b.registers

-- a register that nothing assigns has its start
unassigned_begin : (s : Source) → Known s → (p : Option Valuation) (xs : List ℕ) (v : Valuation) → IsCycle (lowered s) p xs v
    → AllByRecursion (KeepsIfUnassigned (targets s.commands) v) s.registers
unassigned_begin s k None xs v c =
    let es = (last_lowering s).entries in
    let starts = from_declared (λ x. v.value x.name ≡ x.start) s.registers s.ports k.registers_differ
    (all_of_map (λ r. v.value r.name ≡ r.start) (register_of es) (registers_declared s) c.begins.0) in
    found_mapped (λ x. v.value x.name ≡ x.start) (KeepsIfUnassigned (targets s.commands) v) s.registers (λ x h u. h) starts
unassigned_begin s k (Some p) xs v c =
    let es = (last_lowering s).entries in
    let next = from_declared (λ x. v.value x.name ≡ operand_value p (present es x.name).operand) s.registers s.ports k.registers_differ
    (all_of_map (λ r. v.value r.name ≡ operand_value p r.next) (register_of es) (registers_declared s) c.begins.0) in
    both_hold (λ x. v.value x.name ≡ operand_value p (present es x.name).operand) (λ x. present (first_entries s) x.name ≡ register_part (targets s.commands) x)
    (KeepsIfUnassigned (targets s.commands) v) s.registers
    (λ x h f u. h ∙ ap (λ (q : Part). operand_value p q.operand) (unassigned_part s x f u)) next (registers_present s k.rules)

cells_begin : (s : Source) (p e : Option Valuation) (xs : List ℕ) (v : Valuation) → SameBefore s p e → IsCycle (lowered s) p xs v
    → AllByRecursion (λ m. (i : ℕ) → v.cell m.name i ≡ first_cell e m i) s.memories
cells_begin s None None xs v b c = all_of_map (λ m. (i : ℕ) → v.cell m.name i ≡ m.start) (memory_of (last_lowering s).ports) s.memories c.begins.1
cells_begin s None (Some e) xs v b c = absurd b
cells_begin s (Some p) None xs v b c = absurd b
cells_begin s (Some p) (Some e) xs v b c =
    let ps = (last_lowering s).ports in
    let a = all_of_map (λ m. (i : ℕ) → v.cell m.name i ≡ written p m i) (memory_of ps) s.memories c.begins.1 in
    joined_all_at (λ (m : MemoryVariable) i. v.cell m.name i) (λ m i. written p (memory_of ps m) i) (λ m i. e.cell m.name i) s.memories a b.memories

-- the numbers that the program's cycle begins with are within their widths

numbers_fit : (is : List Var) (xs : List ℕ) (v : Valuation) → InputsAre v (map input_of is) xs → AllByRecursion (λ x. v.value x.name < 2 ^ x.width) is → NumbersFit is xs
numbers_fit [] [] v a b = tt
numbers_fit [] (x ∷ xs) v a b = absurd a
numbers_fit (i ∷ is) [] v a b = absurd a
numbers_fit (i ∷ is) (x ∷ xs) v a b = (subst (λ (y : ℕ). y < 2 ^ i.width) a.0 b.0, numbers_fit is xs v a.1 b.1)

all_below : (widths : Name → ℕ) (v : Valuation) (xs : List Var) → AllByRecursion (IsKnown widths v) xs → AllByRecursion (λ x. v.value x.name < 2 ^ x.width) xs
all_below widths v [] a = tt
all_below widths v (x ∷ xs) a = (a.0.1, all_below widths v xs a.1)

registers_within : (v e : Valuation) (rs : List Var) → AllByRecursion (λ x. v.value x.name ≡ e.value x.name) rs
    → AllByRecursion (λ x. v.value x.name < 2 ^ x.width) rs → AllByRecursion (λ x. e.value x.name < 2 ^ x.width) rs
registers_within v e [] a b = tt
registers_within v e (r ∷ rs) a b = (subst (λ (y : ℕ). y < 2 ^ r.width) a.0 b.0, registers_within v e rs a.1 b.1)

cells_within : (ms : Shapes) (v e : Valuation) → ((m : Name) (d : ℕ × ℕ) → find ms m ≡ Some d → (i : ℕ) → v.cell m i < 2 ^ d.0)
    → (xs : List MemoryVariable) → AllByRecursion (λ m. find ms m.name ≡ Some (m.width, m.depth)) xs
    → AllByRecursion (λ m. (i : ℕ) → v.cell m.name i ≡ e.cell m.name i) xs → AllByRecursion (λ m. (i : ℕ) → e.cell m.name i < 2 ^ m.width) xs
cells_within ms v e b [] f a = tt
cells_within ms v e b (m ∷ xs) f a =
    (λ i. subst (λ (y : ℕ). y < 2 ^ m.width) (a.0 i) (b m.name (m.width, m.depth) f.0 i), cells_within ms v e b xs f.1 a.1)

within_before : (s : Source) → Known s → (e : Option Valuation) (v : Valuation)
    → ((m : Name) (d : ℕ × ℕ) → find (source.shapes s) m ≡ Some d → (i : ℕ) → v.cell m i < 2 ^ d.0)
    → AllByRecursion (λ x. v.value x.name < 2 ^ x.width) s.registers → AllByRecursion (λ x. v.value x.name ≡ first_number e x) s.registers
    → AllByRecursion (λ m. (i : ℕ) → v.cell m.name i ≡ first_cell e m i) s.memories → WithinBefore s e
within_before s k None v b r a c = tt
within_before s k (Some e) v b r a c =
    record { registers = registers_within v e s.registers a r; memories = cells_within (source.shapes s) v e b s.memories k.memories_found c }

-- what stands at the end

ends_same : (widths : Name → ℕ) (v : Valuation) (sc : Scope) (es : List (Name × Part)) (g : Name → ℕ) → Env widths v sc es g
    → (rs : List Var) → AllByRecursion (λ x. find sc x.name ≡ Some x.width) rs → AllByRecursion (λ x. operand_value v (present es x.name).operand ≡ g x.name) rs
ends_same widths v sc es g env [] f = tt
ends_same widths v sc es g env (r ∷ rs) f = ((env r.name r.width f.0).shows.value, ends_same widths v sc es g env rs f.1)

outs_same : (widths : Name → ℕ) (v : Valuation) (es : List (Name × Part)) (g : Name → ℕ) (rs : List Var)
    → Gives widths v (map (out_wire es) rs) → AllByRecursion (λ x. operand_value v (present es x.name).operand ≡ g x.name) rs → AllByRecursion (λ x. v.value x.name ≡ g x.name) rs
outs_same widths v es g [] h a = tt
outs_same widths v es g (r ∷ rs) h a = (h.0 ∙ a.0, outs_same widths v es g rs h.3 a.1)

memories_same : (ms : Shapes) (v : Valuation) (ps : List (Name × WritePort)) (g : Going) (done : Name → Bool) → PortsAre ms v ps g done
    → SameCells ms v g.now.cell → (xs : List MemoryVariable) → AllByRecursion (λ m. find ms m.name ≡ Some (m.width, m.depth)) xs
    → AllByRecursion (λ m. (i : ℕ) → written v (memory_of ps m) i ≡ g.next m.name i) xs
memories_same ms v ps g done k c [] f = tt
memories_same ms v ps g done k c (m ∷ xs) f =
    let p = port_of ps m.name in
    let is = k m.name (m.width, m.depth) f.0 in (
      λ i. ap (λ (y : ℕ). if operand_value v p.enable == 1 && operand_value v p.index == i then operand_value v p.value else y)
          (c.same m.name (m.width, m.depth) f.0 i) ∙ sym (is.next i),
      memories_same ms v ps g done k c xs f.1,
    )

-- equal numbers of one cycle, as the edge leaves them and as they are seen
pub record CycleSame (s : Source) (v e : Valuation) : Type 0 where
  pub after : SameAfter s v e
  pub inputs : AllByRecursion (λ x. v.value x.name ≡ e.value x.name) s.inputs
  pub wires : AllByRecursion (λ x. v.value x.name ≡ e.value x.name) (listed s.ports s.wires)

pub cycle_same : (s : Source) → Known s → WritesOnce s → (p e : Option Valuation) (xs : List ℕ) (v : Valuation) → SameBefore s p e
    → IsCycle (lowered s) p xs v → CycleSame s v (cycle s e xs)
cycle_same s k once p e xs v b c =
    let n = lowered s in
    let widths = width_of n in
    let ms = source.shapes s in
    let vars = source.readable s in
    let vw = source.width_of s in
    let g = begun s e xs in
    let t = last_lowering s in
    let shown = listed s.ports s.wires in
    let w = c.valuation.within in
    let gives = gives_from widths v (shapes n) n.wires (first_readable n) k.netlist.assigns (widths_are n) c.valuation.equations in
    let known = all_parts (IsKnown widths v) s.inputs s.registers (known_from n v w (s.inputs ++ s.registers) k.found) in
    let starts = registers_begin s k p e xs v b c in
    let cells = cells_begin s p e xs v b c in
    let below : (m : Name) (d : ℕ × ℕ) → find ms m ≡ Some d → (i : ℕ) → v.cell m i < 2 ^ d.0 =
    λ m d f i. w.cell m d (subst (λ (sh : Shapes). find sh m ≡ Some d) (sym k.shapes) f) i in
    let env = env_first s widths v e xs c.given known.0 starts (unassigned_begin s k p xs v c) known.1 in
    let memories : SameCells ms v g.now.cell = record { same = cells_first v e s.memories cells; below = below } in
    let around : Around ms vars vw widths v (first_entries s) g.now.value g.now.cell =
    record { declared = source_widths s k.rules.declared_once; env = env; memories = memories } in
    let ports : PortsAre ms v (map first_port s.memories) g (λ m. false) =
    λ m d f. let r = ap (λ o. unwrap_or o no_port) (first_port_found s.memories m d f) in rw r (record { written = λ f. refl; next = λ j. refl }) in
    let first : Standing ms vars vw widths v (first_lowering s) g (λ m. false) =
    record { around = around; has = k.entries; has_ports = k.ports; ports = ports } in
    let fits = within_before s k e v below (all_below widths v s.registers known.1) starts cells in
    let given = numbers_fit s.inputs xs v c.given (all_below widths v s.inputs known.0) in
    let later : Later (λ m. false) (memories_written vw g s.commands) = record { distinct = once e xs fits given; apart = λ m h. refl } in
    let last = commands_stand ms vars vw widths v s.commands (first_lowering s) g (λ m. false) first k.commands later
    (gives_front widths v t.wires (map (out_wire t.entries) shown) gives) in
    let end = after vw g s.commands in
    let l = last.1 in
    let ends = ends_same widths v vars t.entries end.now.value l.around.env in
    record {
      after = record {
        registers = ends s.registers k.registers_readable;
        memories = memories_same ms v t.ports end last.0 l.ports l.around.memories s.memories k.memories_found;
      };
      inputs = inputs_same s k.rules e xs v c.given;
      wires = outs_same widths v t.entries end.now.value shown (gives_behind widths v t.wires (map (out_wire t.entries) shown) gives)
          (ends shown (listed_holds (λ x. find vars x.name ≡ Some x.width) s.ports s.wires k.wires_readable));
    }

-- what is seen of a cycle
pub cycle_seen : (s : Source) → Known s → (v e : Valuation) → CycleSame s v e → SameNumbers s (lowered s) v e
cycle_seen s k v e same =
    let n = lowered s in
    let t = last_lowering s in
    let shown = listed s.ports s.wires in
    let rs = from_declared (λ x. (observed n v).value x.name ≡ operand_value v (present t.entries x.name).operand) s.registers s.ports k.registers_differ
    (all_of_map (λ r. (observed n v).value r.name ≡ operand_value v r.next) (register_of t.entries) (registers_declared s) (observed_registers n k.netlist v)) in
    let is = all_of_map (λ i. (observed n v).value i.name ≡ v.value i.name) input_of s.inputs (observed_inputs n k.netlist v) in
    let ws = all_of_map (λ w. (observed n v).value w.name ≡ v.value w.name) (out_wire t.entries) shown
    (all_second (λ w. (observed n v).value w.name ≡ v.value w.name) t.wires (map (out_wire t.entries) shown) (observed_wires n k.netlist v)) in
    let ms = all_of_map (λ m. (i : ℕ) → (observed n v).cell m.name i ≡ written v m i) (memory_of t.ports) s.memories (observed_memories n k.netlist v) in
    record {
      inputs = joined_all (λ (x : Var). (observed n v).value x.name) (λ x. v.value x.name) (λ x. e.value x.name) s.inputs is same.inputs;
      registers = joined_all (λ (x : Var). (observed n v).value x.name) (λ x. operand_value v (present t.entries x.name).operand)
          (λ x. e.value x.name) s.registers rs same.after.registers;
      wires = joined_all (λ (x : Var). (observed n v).value x.name) (λ x. v.value x.name) (λ x. e.value x.name) shown ws same.wires;
      memories = joined_all_at (λ (m : MemoryVariable) i. (observed n v).cell m.name i) (λ m i. written v (memory_of t.ports m) i)
          (λ m i. e.cell m.name i) s.memories ms same.after.memories;
    }

run_same : (s : Source) → Known s → WritesOnce s → (xss : List (List ℕ)) (p e : Option Valuation) (vs : List Valuation) → SameBefore s p e
    → IsRunAfter (lowered s) p xss vs → AllZip (SameNumbers s (lowered s)) vs (run_after s e xss)
run_same s k once [] p e [] b r = tt
run_same s k once [] p e (v ∷ vs) b r = absurd r
run_same s k once (xs ∷ xss) p e [] b r = absurd r
run_same s k once (xs ∷ xss) p e (v ∷ vs) b r =
    let same = cycle_same s k once p e xs v b r.0 in
    (cycle_seen s k v (cycle s e xs) same, run_same s k once xss (Some v) (Some (cycle s e xs)) vs same.after r.1)

pub runs_alike : (s : Source) → Known s → WritesOnce s → RunsAlike s (lowered s)
runs_alike s k once = λ xss vs fit r. run_same s k once xss None None vs tt r
