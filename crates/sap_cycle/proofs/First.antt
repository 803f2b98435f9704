-- What the arrays have before the first step.
use Rattle.sap_lemmas.proofs.Common.{◌≡◌, ℕ, zero, suc, ◌+◌, ◌<◌, List, [], ◌∷◌, ◌++◌, map, Option, Some, None, false, length, get_or, take, replicate, sym, ap, ◌∙◌, subst, refl, arith, append_assoc, append-nil, length-append, unwrap_or, AllByRecursion, all_follow, flat_map, range_with_len, flat_map-append, map-append, take_more, length-replicate, get_or_default}
use Rattle.sap_maps.specs.Prelude.{Name, Scope, find}
use Rattle.sap_net.specs.Prelude.{Net, IsNetlist, input_names, register_names, wire_names, readable, width_of, NameMap}
use Rattle.sap_net.specs.declared.parts.Memory.{Memory}
use Rattle.sap_net.specs.declared.parts.Register.{Register}
use Rattle.sap_cycle.specs.declared.known.Known.{Known}
use Rattle.sap_cycle.specs.declared.steps.Slot.{Slot}
use Rattle.sap_cycle.specs.declared.steps.WritePort.{WritePort}
use Rattle.sap_cycle.specs.Means.{cell_count}
use Rattle.sap_cycle.specs.Loaded.{bases_of}
use Rattle.sap_cycle.specs.Places.{Finds}
use Rattle.sap_cycle.specs.Known.{AreStored, first_numbers, slot_found, ports_found}
use Rattle.sap_cycle.specs.Running.{Shows, value_names, cells_of, seen}
use Rattle.sap_cycle.proofs.Cells.{cells_with, cells_equal}
use Rattle.sap_cycle.proofs.Cycle.{first_registers, first_memories}
use Rattle.sap_cycle.proofs.Distinct.{AreReadable, inputs_no_registers, wires_no_registers, inputs_readable, registers_readable}
use Rattle.sap_cycle.proofs.Found.{finds_none}
use Rattle.sap_cycle.proofs.Learned.{bases_long}

zeros : {A : Type 0} (es : List (Name × ℕ)) (key : A → Name) (xs : List A) → AllByRecursion (λ x. find es (key x) ≡ None) xs
    → map (λ y. unwrap_or (find es y) 0) (map key xs) ≡ replicate (length xs) 0
zeros {A} es key [] h = refl
zeros {A} es key (x ∷ xs) h =
    let e : unwrap_or (find es (key x)) 0 ≡ 0 = ap (λ o. unwrap_or o 0) h.0 in
    let r = zeros es key xs h.1 in
    cc

starts : (f : Name → ℕ) (rs : List Register) → AllByRecursion (λ r. f r.name ≡ r.start) rs → map f (map (λ r. r.name) rs) ≡ map (λ r. r.start) rs
starts f [] h = refl
starts f (r ∷ rs) h = let e = h.0 in let g = starts f rs h.1 in cc

first_values_seen : (n : Net) → IsNetlist n → first_numbers n ≡ map (seen n None).value (value_names n)
first_values_seen n rules =
    let f = (seen n None).value in
    let es = map (λ r. (r.name, r.start)) n.registers in
    let ei : map f (input_names n) ≡ replicate (length n.inputs) 0 = zeros es (λ i. i.name) n.inputs (inputs_no_registers n rules (λ r. r.start)) in
    let ew : map f (wire_names n) ≡ replicate (length n.wires) 0 = zeros es (λ w. w.name) n.wires (wires_no_registers n rules (λ r. r.start)) in
    let er : map f (register_names n) ≡ map (λ r. r.start) n.registers = starts f n.registers (first_registers n rules) in
    sym (
    map-append f (input_names n ++ register_names n) (wire_names n)
    ∙ ap (λ l. l ++ map f (wire_names n)) (map-append f (input_names n) (register_names n))
    ∙ append_assoc (map f (input_names n)) (map f (register_names n)) (map f (wire_names n))
    ∙ ap (λ l. l ++ (map f (register_names n) ++ map f (wire_names n))) ei
    ∙ ap (λ l. replicate (length n.inputs) 0 ++ (l ++ map f (wire_names n))) er
    ∙ ap (λ l. replicate (length n.inputs) 0 ++ (map (λ r. r.start) n.registers ++ l)) ew
    )

same_number : (x from count : ℕ) → replicate count x ≡ map (λ i. x) (range_with_len from count)
same_number x from zero = refl
same_number x from (suc k) = ap (λ l. x ∷ l) (same_number x (from + 1) k)

filled : (ms : List Memory) → flat_map (λ m. replicate m.depth m.start) ms ≡ cells_with (λ m i. m.start) ms
filled [] = refl
filled (m ∷ ms) =
    let e = same_number m.start 0 m.depth in
    let r = filled ms in
    cc

first_cells_seen : (n : Net) → IsNetlist n → flat_map (λ m. replicate m.depth m.start) n.memories ≡ cells_of (seen n None).cell n.memories
first_cells_seen n rules =
    filled n.memories ∙ sym (cells_equal (λ m. (seen n None).cell m.name) (λ m i. m.start) n.memories (first_memories n rules))

filled_long : (ms : List Memory) → length (flat_map (λ m. replicate m.depth m.start) ms) ≡ cell_count ms
filled_long [] = refl
filled_long (m ∷ ms) =
    omega (arith, length-append (replicate m.depth m.start) (flat_map (λ k. replicate k.depth k.start) ms), length-replicate m.depth m.start, filled_long ms)

bases_push : (b : ℕ) (ms : List Memory) (m : Memory) → bases_of b (ms ++ m ∷ []) ≡ bases_of b ms ++ (b + cell_count ms) ∷ []
bases_push b [] m = ap (λ (k : ℕ). k ∷ []) (let e : b ≡ b + 0 = omega arith in e)
bases_push b (k ∷ ms) m =
    ap (λ (l : List ℕ). b ∷ l) (bases_push (b + k.depth) ms m)
    ∙ ap (λ (j : ℕ). b ∷ (bases_of (b + k.depth) ms ++ j ∷ [])) (let e : (b + k.depth) + cell_count ms ≡ b + (k.depth + cell_count ms) = omega arith in e)

-- no memory, and one more
pub stored_none : (m : NameMap ℕ) → m.entries ≡ [] → (bases cells : List ℕ) → bases ≡ [] → cells ≡ [] → AreStored [] m bases cells
stored_none m empty bases cells b c = record { found = finds_none m empty; bases_are = b; cells_are = c }

pub stored_more : (ms : List Memory) (i : ℕ) (m : Memory) (old new : NameMap ℕ) (bases cells : List ℕ) → i < length ms → m ≡ get_or ms i m → AreStored (take i ms) old bases cells
    → Finds new (map (λ k. k.name) (take i ms) ++ m.name ∷ []) → AreStored (take (i + 1) ms) new (bases ++ length cells ∷ []) (cells ++ replicate m.depth m.start)
stored_more ms i m old new bases cells lt is s finds =
    let taken : take (i + 1) ms ≡ take i ms ++ m ∷ [] = take_more ms i m lt ∙ ap (λ (x : Memory). take i ms ++ x ∷ []) (sym is) in
    let long : length cells ≡ 0 + cell_count (take i ms) = ap length s.cells_are ∙ filled_long (take i ms)
    ∙ (let e : cell_count (take i ms) ≡ 0 + cell_count (take i ms) = omega arith in e) in
    subst (λ (l : List Memory). AreStored l new (bases ++ length cells ∷ []) (cells ++ replicate m.depth m.start)) (sym taken)
    (record {
      found = subst (Finds new) (sym (map-append (λ (k : Memory). k.name) (take i ms) (m ∷ []))) finds;
      bases_are = ap (λ (l : List ℕ). l ++ length cells ∷ []) s.bases_are ∙ ap (λ (j : ℕ). bases_of 0 (take i ms) ++ j ∷ []) long ∙ sym (bases_push 0 (take i ms) m);
      cells_are =
          ap (λ (l : List ℕ). l ++ replicate m.depth m.start) s.cells_are
          ∙ ap (λ (l : List ℕ). flat_map (λ (k : Memory). replicate k.depth k.start) (take i ms) ++ l) (sym (append-nil (replicate m.depth m.start)))
          ∙ sym (flat_map-append (λ (k : Memory). replicate k.depth k.start) (take i ms) (m ∷ []));
    })

abbrev port : (base : ℕ) → (enable index value : Slot) → WritePort
port b e i v = record { base = b; enable = e; index = i; value = v }

abbrev port_of : Known → (base : ℕ) → Memory → WritePort
port_of k b m = port b (slot_found k m.enable) (slot_found k m.index) (slot_found k m.value)

ports_push : (k : Known) (ms : List Memory) (m : Memory) (b : ℕ) → ports_found k b (ms ++ m ∷ []) ≡ ports_found k b ms ++ port_of k (b + cell_count ms) m ∷ []
ports_push k [] m b = ap (λ (j : ℕ). port_of k j m ∷ []) (let e : b ≡ b + 0 = omega arith in e)
ports_push k (x ∷ ms) m b =
    ap (λ (l : List WritePort). port_of k b x ∷ l) (ports_push k ms m (b + x.depth))
    ∙ ap (λ (j : ℕ). port_of k b x ∷ (ports_found k (b + x.depth) ms ++ port_of k j m ∷ []))
    (let e : (b + x.depth) + cell_count ms ≡ b + (x.depth + cell_count ms) = omega arith in e)

bases_get : (ms : List Memory) (i b : ℕ) → i < length ms → get_or (bases_of b ms) i 0 ≡ b + cell_count (take i ms)
bases_get [] i b lt = absurd (omega arith)
bases_get (m ∷ ms) zero b lt = omega arith
bases_get (m ∷ ms) (suc i) b lt = let r = bases_get ms i (b + m.depth) (omega arith) in omega (arith, r)

-- the parts of a port
port_is : (p : WritePort) (k : Known) (b : ℕ) (m : Memory) → p.base ≡ b → p.enable ≡ slot_found k m.enable → p.index ≡ slot_found k m.index
    → p.value ≡ slot_found k m.value → p ≡ port_of k b m
port_is p k b m base enable index value =
    ap (λ (j : ℕ). port j p.enable p.index p.value) base
    ∙ ap (λ (s : Slot). port b s p.index p.value) enable
    ∙ ap (λ (s : Slot). port b (slot_found k m.enable) s p.value) index
    ∙ ap (λ (s : Slot). port b (slot_found k m.enable) (slot_found k m.index) s) value

-- one more port
pub ports_more : (k : Known) (ms : List Memory) (i : ℕ) (m : Memory) (old new : List WritePort) (p : WritePort) → k.bases.items ≡ bases_of 0 ms → i < length ms → m ≡ get_or ms i m
    → old ≡ ports_found k 0 (take i ms) → new ≡ old ++ p ∷ []
    → p.base ≡ get_or k.bases.items i p.base → p.enable ≡ slot_found k m.enable → p.index ≡ slot_found k m.index → p.value ≡ slot_found k m.value
    → new ≡ ports_found k 0 (take (i + 1) ms)
ports_more k ms i m old new p bases lt is was pushed base enable index value =
    let taken : take (i + 1) ms ≡ take i ms ++ m ∷ [] = take_more ms i m lt ∙ ap (λ (x : Memory). take i ms ++ x ∷ []) (sym is) in
    let within : i < length (bases_of 0 ms) = omega (arith, bases_long 0 ms, lt) in
    let there : p.base ≡ 0 + cell_count (take i ms) =
    base ∙ ap (λ (l : List ℕ). get_or l i p.base) bases ∙ get_or_default (bases_of 0 ms) i p.base 0 within ∙ bases_get ms i 0 lt in
    pushed
    ∙ ap (λ (l : List WritePort). l ++ p ∷ []) was
    ∙ ap (λ (q : WritePort). ports_found k 0 (take i ms) ++ q ∷ []) (port_is p k (0 + cell_count (take i ms)) m there enable index value)
    ∙ sym (ports_push k (take i ms) m 0)
    ∙ sym (ap (ports_found k 0) taken)

-- the widths of inputs and registers
all_wide : {A : Type 0} (sc : Scope) (key : A → Name) (width : A → ℕ) (list : List A) → AreReadable sc key width list
    → AllByRecursion (λ a. unwrap_or (find sc (key a)) 0 ≡ width a) list
all_wide {A} sc key width list h =
    all_follow (λ a. find sc (key a) ≡ Some (width a)) (λ a. unwrap_or (find sc (key a)) 0 ≡ width a) list (λ a e. ap (λ (o : Option ℕ). unwrap_or o 0) e) h

pub inputs_wide : (n : Net) → IsNetlist n → AllByRecursion (λ i. width_of n i.name ≡ i.width) n.inputs
inputs_wide n rules = all_wide (readable n) (λ i. i.name) (λ i. i.width) n.inputs (inputs_readable n rules)

pub registers_wide : (n : Net) → IsNetlist n → AllByRecursion (λ r. width_of n r.name ≡ r.width) n.registers
registers_wide n rules = all_wide (readable n) (λ r. r.name) (λ r. r.width) n.registers (registers_readable n rules)

-- as many numbers as were filled in
pub filled_count : (new old : List ℕ) (count x : ℕ) → old ≡ [] → new ≡ old ++ replicate count x → length new ≡ count
filled_count new old count x none filled = ap length (filled ∙ ap (λ (l : List ℕ). l ++ replicate count x) none) ∙ length-replicate count x

-- what is shown before the first cycle
pub first_shown : (n : Net) → IsNetlist n → (values cells : List ℕ) (ms : List Memory) → ms ≡ n.memories → values ≡ first_numbers n
    → cells ≡ flat_map (λ m. replicate m.depth m.start) ms
    → Shows (record { net = n; stepped = false; values = values; cells = cells }) None
first_shown n rules values cells ms same v c =
    record {
      stepped = refl;
      values = v ∙ first_values_seen n rules;
      cells = c ∙ ap (flat_map (λ (m : Memory). replicate m.depth m.start)) same ∙ first_cells_seen n rules;
    }

-- the numbers of inputs, registers and wires, filled in one after another
pub numbers_filled : (n : Net) (none inputs starts all : List ℕ) (i w : ℕ) (rs : List Register) → i ≡ length n.inputs → rs ≡ n.registers → w ≡ length n.wires
    → none ≡ [] → inputs ≡ none ++ replicate i 0 → starts ≡ inputs ++ map (λ r. r.start) rs → all ≡ starts ++ replicate w 0 → all ≡ first_numbers n
numbers_filled n none inputs starts all i w rs ei er ew e a b c =
    let fi = replicate (length n.inputs) 0 in
    let one : inputs ≡ fi = a ∙ ap (λ (l : List ℕ). l ++ replicate i 0) e ∙ ap (λ (k : ℕ). replicate k 0) ei in
    let two : starts ≡ fi ++ map (λ (r : Register). r.start) n.registers =
    b ∙ ap (λ (l : List ℕ). l ++ map (λ (r : Register). r.start) rs) one ∙ ap (λ (l : List Register). fi ++ map (λ (r : Register). r.start) l) er in
    c ∙ ap (λ (l : List ℕ). l ++ replicate w 0) two ∙ ap (λ (k : ℕ). (fi ++ map (λ (r : Register). r.start) n.registers) ++ replicate k 0) ew
    ∙ append_assoc fi (map (λ (r : Register). r.start) n.registers) (replicate (length n.wires) 0)
