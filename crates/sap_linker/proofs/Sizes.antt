-- How many items the netlist of a system has when it is made small.
use Rattle.sap_lemmas.proofs.Common.{◌≡◌, ℕ, zero, suc, ◌+◌, ◌*◌, ◌≤◌, Bool, false, not, List, [], ◌∷◌, ◌++◌, map, filter, length, sum_by, Option, Some, None, refl, sym, ap, ◌∙◌, subst, inl, inr, arith, AllZip, cases_Bool, filter-append, sum_by-cons, length_map}
use Rattle.std.proofs.lemmas.List.Filters.{length-filter_both}
use Rattle.sap_maps.specs.Maps.{Name}
use Rattle.sap_lattice.specs.Levels.{Levels}
use Rattle.sap_check.specs.Checked.{tree_in}
use Rattle.sap_meaning.specs.Program.{Entity, is_input, is_register}
use Rattle.sap_net.specs.Prelude.{is_among, Net, IsNetlist}
use Rattle.sap_net.specs.declared.parts.PortKind.{PortKind}
use Rattle.sap_net.specs.declared.parts.Port.{Port}
use Rattle.sap_net.specs.declared.parts.Register.{Register}
use Rattle.sap_net.specs.declared.parts.Memory.{Memory}
use Rattle.sap_net.specs.declared.parts.Right.{Right}
use Rattle.sap_net.specs.declared.parts.Right.TheVariants.{Copy, One, Two, Choose, Concat, Slice, Cell}
use Rattle.sap_net.specs.declared.parts.Wire.{Wire}
use Rattle.sap_net.specs.declared.parts.PortKind.TheVariants as kind
use Rattle.sap_trim.specs.Alike.{DeclaresAlike}
use Rattle.sap_trim.specs.Few.{HasFewWires, calculated, is_copy}
use Rattle.sap_trim.specs.Names.{port_names, shown_wires}
use Rattle.sap_interface.specs.Prelude.{named_of, site_count_of, Named, world, Shown, pairs_of, site_ports}
use Rattle.sap_build.specs.Copies.{copy_right, copy_wire, copy_register, copy_memory}
use Rattle.sap_link.specs.Systems.{Wire as SystemWire}
use Rattle.sap_linked.specs.Prelude.{Part, NamedSystem, in_part, fed_inputs, input_ports, is_free, linked_ports, ports_in, register_ports, refusal_ports, copies_of, feeds, feeds_through, held_ports, linked_net, shown_names, named_system, part_of}
use Rattle.sap_linker.specs.declared.parts.LinkedPart.{LinkedPart}
use Rattle.sap_linker.specs.Given.{AreOver, IsOver, designs_of, named_design, net_at, nets_of}
use Rattle.sap_linker.specs.Linking.{with_ports}
use Rattle.sap_linker.specs.Sizes.{HasFewItems, net_items}
use Rattle.sap_linker.proofs.Counting.{both_lengths}
use Rattle.sap_linker.proofs.Fed.{fed_few}
use Rattle.sap_linker.proofs.Shown.{is_wire, shown_few, shown_many}

-- ---- ports that show wires

abbrev wires_among : List Shown → ℕ
wires_among ps = length (filter (λ (p : Shown). is_wire p.1) ps)

wires_among_both : (ps qs : List Shown) → wires_among (ps ++ qs) ≡ wires_among ps + wires_among qs
wires_among_both ps qs =
    ap (λ (rs : List Shown). length rs) (filter-append (λ (p : Shown). is_wire p.1) ps qs)
    ∙ both_lengths (filter (λ (p : Shown). is_wire p.1) ps) (filter (λ (p : Shown). is_wire p.1) qs)

wires_among_few : (ps : List Shown) → wires_among ps ≤ length ps
wires_among_few [] = omega arith
wires_among_few (p ∷ ps) =
    let rest = wires_among_few ps in
    elim (cases_Bool (is_wire p.1)) [ inl t ↦ rw t (omega (arith, rest)) | inr f ↦ rw f (omega (arith, rest)) ]

no_wires : (picks : ℕ → Bool) (k : PortKind) (d : Named) (name : Name) → is_wire k ≡ false → (x : ℕ) (es : List Entity)
    → wires_among (map (λ (port : Shown). (in_part name port.0, port.1)) (pairs_of picks k d x es)) ≡ 0
no_wires picks k d name other x [] = refl
no_wires picks k d name other x (e ∷ es) =
    let rest = no_wires picks k d name other (x + 1) es in
    elim (cases_Bool (picks x)) [ inl t ↦ rw (t, other) rest | inr f ↦ rw f rest ]

no_input_wires : (ws : List SystemWire) (k : ℕ) (ps : List Part) → wires_among (input_ports ws k ps) ≡ 0
no_input_wires ws k [] = refl
no_input_wires ws k (p ∷ ps) =
    let own = ports_in p (pairs_of (is_free ws p k) kind.Input p.design 0 (world p.design).entities) in
    let both = wires_among_both own (input_ports ws (suc k) ps) in
    let here = no_wires (is_free ws p k) kind.Input p.design p.name refl 0 (world p.design).entities in
    let rest = no_input_wires ws (suc k) ps in
    omega (arith, both, here, rest)

no_register_wires : (ps : List Part) → wires_among (register_ports ps) ≡ 0
no_register_wires [] = refl
no_register_wires (p ∷ ps) =
    let own = ports_in p (pairs_of (is_register (world p.design)) kind.Register p.design 0 (world p.design).entities) in
    let both = wires_among_both own (register_ports ps) in
    let here = no_wires (is_register (world p.design)) kind.Register p.design p.name refl 0 (world p.design).entities in
    let rest = no_register_wires ps in
    omega (arith, both, here, rest)

site_wires : (k sites : ℕ) → length (site_ports k sites) ≡ 2 * sites
site_wires k zero = omega arith
site_wires k (suc n) = let rest = site_wires (k + 1) n in omega (arith, rest)

ports_that_show : (ps : List Shown)
    → length (filter (λ (p : Port). is_wire p.kind) (map {B = Port} (λ (port : Shown). record { name = port.0; kind = port.1 }) ps)) ≡ wires_among ps
ports_that_show [] = refl
ports_that_show (p ∷ ps) =
    elim (cases_Bool (is_wire p.1)) [ inl t ↦ rw t (ap suc (ports_that_show ps)) | inr f ↦ rw f (ports_that_show ps) ]

sites_are_wires : (k sites : ℕ) → wires_among (site_ports k sites) ≡ 2 * sites
sites_are_wires k zero = omega arith
sites_are_wires k (suc n) = let rest = sites_are_wires (k + 1) n in omega (arith, rest)

kinds_of_ports : (ps : List Port) → wires_among (map (λ (p : Port). (p.name, p.kind)) ps) ≡ length (filter (λ (p : Port). is_wire p.kind) ps)
kinds_of_ports [] = refl
kinds_of_ports (p ∷ ps) =
    elim (cases_Bool (is_wire p.kind)) [ inl t ↦ rw t (ap suc (kinds_of_ports ps)) | inr f ↦ rw f (kinds_of_ports ps) ]

-- the netlist of a part shows two wires for each check site, or more
sites_shown : (ls : Levels) (p : LinkedPart) → IsOver ls p → 2 * site_count_of (tree_in p.checked.now) ≤ length (shown_wires p.netlist.now)
sites_shown ls p over =
    let n : Net = p.netlist.now in
    let d : Named = named_of ls (tree_in p.checked.now) in
    let sites = site_count_of (tree_in p.checked.now) in
    let inputs = pairs_of (is_input (world d)) kind.Input d 0 (world d).entities in
    let registers = pairs_of (is_register (world d)) kind.Register d 0 (world d).entities in
    let many : length (filter (λ (p : Port). is_wire p.kind) n.ports) ≤ length (shown_wires n) = shown_many n over.net.netlist in
    let kinds = kinds_of_ports n.ports in
    let same : wires_among (map (λ (p : Port). (p.name, p.kind)) n.ports) ≡ wires_among (inputs ++ registers ++ site_ports 1 sites) =
    ap (λ (ps : List Shown). wires_among ps) over.net.stands.interface.declares.ports in
    let a = wires_among_both (inputs ++ registers) (site_ports 1 sites) in
    let b = sites_are_wires 1 sites in
    omega (arith, many, kinds, same, a, b)

abbrev shown_in : List LinkedPart → ℕ
shown_in parts = sum_by (λ (p : LinkedPart). length (shown_wires p.netlist.now)) parts

refusal_wires : (ls : Levels) (parts : List LinkedPart) → AreOver ls parts → length (refusal_ports (map (part_of ls) (designs_of parts))) ≤ shown_in parts
refusal_wires ls [] over = omega arith
refusal_wires ls (p ∷ parts) over =
    let q : Part = part_of ls (named_design p) in
    let rest = refusal_wires ls parts over.1 in
    let more = refusal_ports (map (part_of ls) (designs_of parts)) in
    let both = both_lengths (ports_in q (site_ports 1 q.sites)) more in
    let own = length_map {B = Shown} (λ (port : Shown). (in_part q.name port.0, port.1)) (site_ports 1 q.sites) in
    let sites = site_wires 1 q.sites in
    let shown = sites_shown ls p over.0 in
    let sum = sum_by-cons (λ (r : LinkedPart). length (shown_wires r.netlist.now)) p parts in
    omega (arith, rest, both, own, sites, shown, sum)

-- ---- what is copied, and what feeds

module _ {X : Type 0} (of : Net → List X) (copy : (Name → Name) → X → X) (ls : Levels) (nets : ℕ → Net) where
  copied : (k : ℕ) (parts : List LinkedPart) → ((j : ℕ) → nets (k + j) ≡ net_at parts j)
      → length (copies_of (λ i. of (nets i)) copy k (map (part_of ls) (designs_of parts))) ≡ sum_by (λ (p : LinkedPart). length (of p.netlist.now)) parts
  copied k [] at = refl
  copied k (p ∷ parts) at =
      let here : nets k ≡ p.netlist.now = ap nets (omega arith) ∙ at 0 in
      let rest = copied (suc k) parts (λ j. let next : suc k + j ≡ k + suc j = omega arith in ap nets next ∙ at (suc j)) in
      let own = length_map (copy (in_part p.name.now)) (of (nets k)) in
      let same = ap (λ (n : Net). length (of n)) here in
      let both = both_lengths (map (copy (in_part p.name.now)) (of (nets k))) (copies_of (λ i. of (nets i)) copy (suc k) (map (part_of ls) (designs_of parts))) in
      let sum = sum_by-cons (λ (r : LinkedPart). length (of r.netlist.now)) p parts in
      omega (arith, rest, own, same, both, sum)

few_feed : (s : NamedSystem) (w : SystemWire) (l : Option ℕ) → length (calculated (feeds_through s w l)) ≤ 3
few_feed s w None = omega arith
few_feed s w (Some l) = omega arith

calculated_both : (ws us : List Wire) → length (calculated (ws ++ us)) ≡ length (calculated ws) + length (calculated us)
calculated_both ws us =
    ap (λ (vs : List Wire). length vs) (filter-append (λ (w : Wire). not (is_copy w.right)) ws us) ∙ both_lengths (calculated ws) (calculated us)

copy_stays : (f : Name → Name) (r : Right) → is_copy (copy_right f r) ≡ is_copy r
copy_stays f (Copy a) = refl
copy_stays f (One op a) = refl
copy_stays f (Two op a b) = refl
copy_stays f (Choose c a b) = refl
copy_stays f (Concat os) = refl
copy_stays f (Slice x hi lo) = refl
copy_stays f (Cell m i) = refl

calculated_same : (f : Name → Name) (ws : List Wire) → length (calculated (map (copy_wire f) ws)) ≡ length (calculated ws)
calculated_same f [] = refl
calculated_same f (w ∷ ws) =
    let rest = calculated_same f ws in
    let stays = copy_stays f w.right in
    elim (cases_Bool (is_copy w.right)) [ inl t ↦ rw (stays, t) rest | inr e ↦ rw (stays, e) (ap suc rest) ]

abbrev calculated_in : List LinkedPart → ℕ
calculated_in parts = sum_by (λ (p : LinkedPart). length (calculated p.netlist.now.wires)) parts

calculated_copies : (ls : Levels) (nets : ℕ → Net) (k : ℕ) (parts : List LinkedPart) → ((j : ℕ) → nets (k + j) ≡ net_at parts j)
    → length (calculated (copies_of (λ i. (nets i).wires) copy_wire k (map (part_of ls) (designs_of parts)))) ≡ calculated_in parts
calculated_copies ls nets k [] at = refl
calculated_copies ls nets k (p ∷ parts) at =
    let here : nets k ≡ p.netlist.now = ap nets (omega arith) ∙ at 0 in
    let rest = calculated_copies ls nets (suc k) parts (λ j. let next : suc k + j ≡ k + suc j = omega arith in ap nets next ∙ at (suc j)) in
    let own = calculated_same (in_part p.name.now) (nets k).wires in
    let same = ap (λ (n : Net). length (calculated n.wires)) here in
    let both = calculated_both (map (copy_wire (in_part p.name.now)) (nets k).wires) (copies_of (λ i. (nets i).wires) copy_wire (suc k) (map (part_of ls) (designs_of parts))) in
    let sum = sum_by-cons (λ (r : LinkedPart). length (calculated r.netlist.now.wires)) p parts in
    omega (arith, rest, own, same, both, sum)

few_feeds : (s : NamedSystem) (ws : List SystemWire) → length (calculated (feeds s ws)) ≤ 3 * length ws
few_feeds s [] = omega arith
few_feeds s (w ∷ ws) =
    let here = few_feed s w w.level in
    let rest = few_feeds s ws in
    let both = calculated_both (feeds_through s w w.level) (feeds s ws) in
    omega (arith, here, rest, both)

-- ---- all

abbrev registers_in : List LinkedPart → ℕ
registers_in parts = sum_by (λ (p : LinkedPart). length p.netlist.now.registers) parts

abbrev memories_in : List LinkedPart → ℕ
memories_in parts = sum_by (λ (p : LinkedPart). length p.netlist.now.memories) parts

-- of wires that are calculated, and those that are ports, only those are counted twice that are both
twice : (ps : List Name) (ws : List Wire)
    → length (calculated ws) + length (filter (λ (w : Wire). is_among w.name ps) ws) ≤ length ws + length (calculated (filter (λ (w : Wire). is_among w.name ps) ws))
twice ps [] = omega arith
twice ps (w ∷ ws) =
    let rest = twice ps ws in
    elim (cases_Bool (is_among w.name ps)) [
      | inl t ↦ elim (cases_Bool (is_copy w.right)) [ inl e ↦ rw (t, e) (omega (arith, rest)) | inr f ↦ rw (t, f) (omega (arith, rest)) ]
      | inr g ↦ elim (cases_Bool (is_copy w.right)) [ inl e ↦ rw (g, e) (omega (arith, rest)) | inr f ↦ rw (g, f) (omega (arith, rest)) ]
    ]

summed : (parts : List LinkedPart) → calculated_in parts + shown_in parts + registers_in parts + memories_in parts ≤ sum_by net_items (nets_of parts)
summed [] = omega arith
summed (p ∷ parts) =
    let rest = summed parts in
    let own : length (calculated p.netlist.now.wires) + length (shown_wires p.netlist.now) ≤ length p.netlist.now.wires + length (calculated (shown_wires p.netlist.now)) =
    twice (port_names p.netlist.now) p.netlist.now.wires in
    let a = sum_by-cons (λ (r : LinkedPart). length (calculated r.netlist.now.wires)) p parts in
    let b = sum_by-cons (λ (r : LinkedPart). length (shown_wires r.netlist.now)) p parts in
    let c = sum_by-cons (λ (r : LinkedPart). length r.netlist.now.registers) p parts in
    let d = sum_by-cons (λ (r : LinkedPart). length r.netlist.now.memories) p parts in
    let e : sum_by net_items (nets_of (p ∷ parts)) ≡ net_items p.netlist.now + sum_by net_items (nets_of parts) = sum_by-cons net_items p.netlist.now (nets_of parts) in
    omega (arith, rest, own, a, b, c, d, e)

module _ (ls : Levels) (wires : List SystemWire) (parts : List LinkedPart) (over : AreOver ls parts) where
  abbrev s : NamedSystem
  s = named_system ls (designs_of parts) wires

  abbrev all : Net
  all = linked_net s (net_at parts)

  from_first : (j : ℕ) → net_at parts (0 + j) ≡ net_at parts j
  from_first j = let same : 0 + j ≡ j = omega arith in ap (net_at parts) same

  wires_calculated : length (calculated all.wires) ≤ 3 * length wires + calculated_in parts
  wires_calculated =
      let copies = copies_of (λ i. (net_at parts i).wires) copy_wire 0 s.parts in
      let both = calculated_both (feeds s wires) copies in
      let fed = few_feeds s wires in
      let own = calculated_copies ls (net_at parts) 0 parts from_first in
      omega (arith, both, fed, own)

  wires_shown : IsNetlist all → length (shown_wires all) ≤ 2 * length wires + shown_in parts
  wires_shown rules =
      let few = shown_few all rules in
      let ports = ports_that_show (held_ports s) in
      let a = wires_among_both (linked_ports s) (fed_inputs wires 0 s.parts) in
      let b = wires_among_both (input_ports wires 0 s.parts ++ register_ports s.parts) (refusal_ports s.parts) in
      let c = wires_among_both (input_ports wires 0 s.parts) (register_ports s.parts) in
      let i = no_input_wires wires 0 s.parts in
      let r = no_register_wires s.parts in
      let f = wires_among_few (refusal_ports s.parts) in
      let g = wires_among_few (fed_inputs wires 0 s.parts) in
      let sites = refusal_wires ls parts over in
      let fed = fed_few wires 0 s.parts in
      omega (arith, few, ports, a, b, c, i, r, f, g, sites, fed)

  registers_there : length all.registers ≡ registers_in parts
  registers_there =
      let rs = copies_of (λ i. (net_at parts i).registers) copy_register 0 s.parts in
      let test : Register → Bool = λ r. is_among r.name (shown_names s) in
      both_lengths (filter test rs) (filter (λ (r : Register). not (test r)) rs) ∙ length-filter_both test (λ (r : Register). not (test r)) (λ r. refl) rs
      ∙ copied (λ (n : Net). n.registers) copy_register ls (net_at parts) 0 parts from_first

  memories_there : length all.memories ≡ memories_in parts
  memories_there = copied (λ (n : Net). n.memories) copy_memory ls (net_at parts) 0 parts from_first

  pub few_items : (count : ℕ) (whole small : Net) → whole ≡ all → IsNetlist whole → DeclaresAlike whole small → HasFewWires whole small
      → HasFewItems (nets_of parts) (length wires) (with_ports count small)
  few_items count whole small same rules declares few =
      let a : length small.wires ≤ length (calculated all.wires) + length (shown_wires all) = subst (λ n. HasFewWires n small) same few in
      let b = wires_calculated in
      let c = wires_shown (subst (λ n. IsNetlist n) same rules) in
      let d : length small.registers ≡ length whole.registers =
      sym (length_map {B = Name × (ℕ × ℕ)} (λ (r : Register). (r.name, (r.width, r.start))) small.registers) ∙ ap length declares.registers
      ∙ length_map (λ (r : Register). (r.name, (r.width, r.start))) whole.registers in
      let e : length small.memories ≡ length whole.memories =
      sym (length_map {B = Name × (ℕ × (ℕ × ℕ))} (λ (m : Memory). (m.name, (m.width, (m.depth, m.start)))) small.memories) ∙ ap length declares.memories
      ∙ length_map (λ (m : Memory). (m.name, (m.width, (m.depth, m.start)))) whole.memories in
      let f = ap (λ (n : Net). length n.registers) same ∙ registers_there in
      let g = ap (λ (n : Net). length n.memories) same ∙ memories_there in
      let h = summed parts in
      omega (arith, a, b, c, d, e, f, g, h)

-- ---- texts of wires

pub as_many : {A B : Type 0} (P : A → B → Type 0) (xs : List A) (ys : List B) → AllZip P xs ys → length xs ≡ length ys
as_many P [] [] a = refl
as_many P [] (y ∷ ys) a = absurd a
as_many P (x ∷ xs) [] a = absurd a
as_many P (x ∷ xs) (y ∷ ys) a = ap suc (as_many P xs ys a.1)
