-- Cycles and runs of a part, and what is seen of them.
use Rattle.sap_lemmas.proofs.Common.{◌≡◌, ℕ, List, [], ◌∷◌, map, Option, Some, None, sym, ap, ◌∙◌, refl, false, option_map, AllByRecursion, all_follow, map_of_all}
use Rattle.sap_maps.specs.Maps.{Name, Valuation}
use Rattle.sap_net.specs.Prelude.{is_among, Net, operand_value, right_value, Holds, IsNetlist, first_readable, register_names, shapes, width_of, written, value_after, Begins, InputsAre, IsCycle, IsRun, IsRunAfter, observed, AreSame, AreSameRuns}
use Rattle.sap_net.specs.declared.parts.Input.{Input}
use Rattle.sap_net.specs.declared.parts.Wire.{Wire}
use Rattle.sap_net.specs.declared.parts.Register.{Register}
use Rattle.sap_net.specs.declared.parts.Memory.{Memory}
use Rattle.sap_net.proofs.NamesLemmas.{not_found}
use Rattle.sap_net.proofs.Observed.{observed_inputs, observed_memories, observed_registers, observed_wires}
use Rattle.sap_net.proofs.Same.{run_same}
use Rattle.sap_build.specs.Copies.{copy_wire, copy_register, copy_memory, through}
use Rattle.sap_build.specs.Parts.{IsPart, Feeds, fed_numbers}
use Rattle.sap_build.proofs.Inside.{each_found, of_readable, of_shapes, part_reads, part_shapes, part_widths}
use Rattle.sap_build.proofs.Seen.{same_seen}
use Rattle.sap_build.proofs.Through.{operand_through, wires_through, written_through}

equations_each : (widths : Name → ℕ) (v : Valuation) (ws : List Wire) → Holds widths v ws → AllByRecursion (λ w. v.value w.name ≡ right_value widths v w.right) ws
equations_each widths v [] h = tt
equations_each widths v (w ∷ ws) h = (h.0, equations_each widths v ws h.1)

each_equation : (widths : Name → ℕ) (v : Valuation) (ws : List Wire) → AllByRecursion (λ w. v.value w.name ≡ right_value widths v w.right) ws → Holds widths v ws
each_equation widths v [] a = tt
each_equation widths v (w ∷ ws) a = (a.0, each_equation widths v ws a.1)

all_both : {X : Type 0} (P Q R : X → Type 0) (xs : List X) → ((x : X) → P x → Q x → R x) → AllByRecursion P xs → AllByRecursion Q xs → AllByRecursion R xs
all_both P Q R [] h a b = tt
all_both P Q R (x ∷ xs) h a b = (h x a.0 b.0, all_both P Q R xs h a.1 b.1)

fed_so : (f : Name → Name) (v : Valuation) (is : List Input) → InputsAre (through f v) is (map (λ i. v.value (f i.name)) is)
fed_so f v [] = tt
fed_so f v (i ∷ is) = (refl, fed_so f v is)

module _ (f : Name → Name) (p n : Net) (own : IsNetlist p) (rules : IsNetlist n) (s : IsPart f p n) where
  of_registers : (P : Register → Type 0) → AllByRecursion P n.registers → AllByRecursion (λ r. P (copy_register f r)) p.registers
  of_registers P a = each_found (λ (r : Register). r.name) (λ (r : Register). f r.name) (copy_register f) P n.registers p.registers a s.registers

  of_memories : (P : Memory → Type 0) → AllByRecursion P n.memories → AllByRecursion (λ m. P (copy_memory f m)) p.memories
  of_memories P a = each_found (λ (m : Memory). m.name) (λ (m : Memory). f m.name) (copy_memory f) P n.memories p.memories a s.memories

  of_wires : (P : Wire → Type 0) → AllByRecursion P n.wires → AllByRecursion (λ w. P (copy_wire f w)) p.wires
  of_wires P a = each_found (λ (w : Wire). w.name) (λ (w : Wire). f w.name) (copy_wire f) P n.wires p.wires a s.wires

  begins : (q : Option Valuation) (v : Valuation) → Begins n q v → Begins p (option_map (through f) q) (through f v)
  begins None v h = (of_registers (λ r. v.value r.name ≡ r.start) h.0, of_memories (λ m. (i : ℕ) → v.cell m.name i ≡ m.start) h.1)
  begins (Some q) v h = (
    all_follow (λ (r : Register). v.value (f r.name) ≡ operand_value q (copy_register f r).next) (λ r. v.value (f r.name) ≡ operand_value (through f q) r.next) p.registers
        (λ r e. e ∙ operand_through f q r.next) (of_registers (λ r. v.value r.name ≡ operand_value q r.next) h.0),
    all_follow (λ (m : Memory). (i : ℕ) → v.cell (f m.name) i ≡ written q (copy_memory f m) i) (λ m. (i : ℕ) → v.cell (f m.name) i ≡ written (through f q) m i) p.memories
        (λ m e i. e i ∙ written_through f q m i) (of_memories (λ m. (i : ℕ) → v.cell m.name i ≡ written q m i) h.1),
  )

  equations : (v : Valuation) → Holds (width_of n) v n.wires → Holds (width_of p) (through f v) p.wires
  equations v h =
      wires_through f (shapes p) p.wires (first_readable p) (width_of n) (width_of p) v own.assigns (part_widths f p n rules s)
      (each_equation (width_of n) v (map (copy_wire f) p.wires)
      (map_of_all (λ (w : Wire). v.value w.name ≡ right_value (width_of n) v w.right) (copy_wire f) p.wires
      (of_wires (λ w. v.value w.name ≡ right_value (width_of n) v w.right) (equations_each (width_of n) v n.wires h))))

  cycle : (q : Option Valuation) (xs : List ℕ) (v : Valuation) → IsCycle n q xs v → IsCycle p (option_map (through f) q) (fed_numbers f p v) (through f v)
  cycle q xs v c =
      record {
        begins = begins q v c.begins;
        given = fed_so f v p.inputs;
        valuation = record {
          within = record {
            value = λ x u h. c.valuation.within.value (f x) u (part_reads f p n rules s x u h);
            cell = λ m t h. c.valuation.within.cell (f m) t (part_shapes f p n rules s m t h);
          };
          equations = equations v c.valuation.equations;
        };
      }

  pub run_inside : (xss : List (List ℕ)) (q : Option Valuation) (us : List Valuation) → IsRunAfter n q xss us
      → IsRunAfter p (option_map (through f) q) (map (fed_numbers f p) us) (map (through f) us)
  run_inside [] q [] r = tt
  run_inside [] q (u ∷ us) r = absurd r
  run_inside (xs ∷ xss) q [] r = absurd r
  run_inside (xs ∷ xss) q (u ∷ us) r = (cycle q xs u r.0, run_inside xss (Some u) us r.1)

  pub run_so : (xss : List (List ℕ)) (us vs : List Valuation) → IsRun n xss us → IsRun p (map (fed_numbers f p) us) vs → AreSameRuns p vs (map (through f) us)
  run_so xss us vs r t = run_same p own (map (fed_numbers f p) us) None None vs (map (through f) us) tt t (run_inside xss None us r)

  -- a name that no register has is seen as it is
  unclocked_seen : (v : Valuation) (x : Name) → is_among x (register_names n) ≡ false → (observed n v).value x ≡ v.value x
  unclocked_seen v x h = ap (value_after v x) (not_found (λ (r : Register). r.name) (λ r. r.next) n.registers x h)

  inside_seen : (v : Valuation) → AreSame p (observed p (through f v)) (through f (observed n v))
  inside_seen v =
      record {
        value = of_readable (λ x u. (observed p (through f v)).value x ≡ (observed n v).value (f x)) p
            (all_both (λ (i : Input). (observed p (through f v)).value i.name ≡ v.value (f i.name)) (λ i. Feeds n (f i.name) i.width)
            (λ i. (observed p (through f v)).value i.name ≡ (observed n v).value (f i.name)) p.inputs
            (λ i a b. a ∙ sym (unclocked_seen v (f i.name) b.unclocked)) (observed_inputs p own (through f v)) s.fed)
            (all_both (λ (r : Register). (observed p (through f v)).value r.name ≡ operand_value (through f v) r.next)
            (λ r. (observed n v).value (f r.name) ≡ operand_value v (copy_register f r).next)
            (λ r. (observed p (through f v)).value r.name ≡ (observed n v).value (f r.name)) p.registers
            (λ r a b. a ∙ sym (b ∙ operand_through f v r.next)) (observed_registers p own (through f v))
            (of_registers (λ r. (observed n v).value r.name ≡ operand_value v r.next) (observed_registers n rules v)))
            (all_both (λ (w : Wire). (observed p (through f v)).value w.name ≡ v.value (f w.name))
            (λ w. (observed n v).value (f w.name) ≡ v.value (f w.name)) (λ w. (observed p (through f v)).value w.name ≡ (observed n v).value (f w.name)) p.wires
            (λ w a b. a ∙ sym b) (observed_wires p own (through f v)) (of_wires (λ w. (observed n v).value w.name ≡ v.value w.name) (observed_wires n rules v)));
        cell = of_shapes (λ m t. (i : ℕ) → (observed p (through f v)).cell m i ≡ (observed n v).cell (f m) i) p
            (all_both (λ (m : Memory). (i : ℕ) → (observed p (through f v)).cell m.name i ≡ written (through f v) m i) (λ m. (i : ℕ)
            → (observed n v).cell (f m.name) i ≡ written v (copy_memory f m) i) (λ m. (i : ℕ)
            → (observed p (through f v)).cell m.name i ≡ (observed n v).cell (f m.name) i) p.memories
            (λ m a b i. a i ∙ sym (b i ∙ written_through f v m i)) (observed_memories p own (through f v))
            (of_memories (λ m. (i : ℕ) → (observed n v).cell m.name i ≡ written v m i) (observed_memories n rules v)));
      }

  pub part_shows : (v u : Valuation) → AreSame p v (through f u) → AreSame p (observed p v) (through f (observed n u))
  part_shows v u a =
      let e = same_seen p own v (through f u) a in
      let o = inside_seen u in
      record { value = λ x w h. e.value x w h ∙ o.value x w h; cell = λ m d h i. e.cell m d h i ∙ o.cell m d h i }
