-- Where a memory's cells are kept.
use Rattle.sap_lemmas.proofs.Common.{◌≡◌, ℕ, zero, suc, ◌+◌, ◌<◌, ◌≤◌, List, [], ◌∷◌, ◌++◌, map, Option, Some, None, length, get_or, ap, ◌∙◌, subst, refl, arith, slice_get, slice_index, AllByRecursion, get_or_default, lt-ltb, le-ltb, length-append}
use Rattle.sap_maps.specs.Prelude.{Name, Valuation, find}
use Rattle.sap_net.specs.Prelude.{Net, IsNetlist, memory_names, at_name, NameMap}
use Rattle.sap_net.specs.declared.parts.Memory.{Memory}
use Rattle.sap_cycle.specs.declared.steps.WritePort.{WritePort}
use Rattle.sap_cycle.specs.Means.{PortsMean, cell_count}
use Rattle.sap_cycle.specs.Places.{Finds}
use Rattle.sap_cycle.specs.Running.{cells_of, seen, cell_seen}
use Rattle.sap_cycle.proofs.Cells.{cells_long, cell_at, count_more}
use Rattle.sap_cycle.proofs.Distinct.{memories_found}
use Rattle.sap_cycle.proofs.Found.{looked_up}
use Rattle.sap_cycle.proofs.Looked.{covers_listed, missing}

-- the k-th of some memories
pub record IsAt (ms : List Memory) (k : ℕ) (x : Name) : Type 0 where
  pub before : List Memory
  pub memory : Memory
  pub behind : List Memory
  pub whole : ms ≡ before ++ memory ∷ behind
  pub k_is : k ≡ length before
  pub named : memory.name ≡ x

pub is_at : (ms : List Memory) (k : ℕ) (x : Name) → slice_get (map (λ m. m.name) ms) k ≡ Some x → IsAt ms k x
is_at [] k x h = absurd (cc)
is_at (m ∷ ms) zero x h = record { before = []; memory = m; behind = ms; whole = refl; k_is = refl; named = cc }
is_at (m ∷ ms) (suc k) x h =
    let r = is_at ms k x h in
    record { before = m ∷ r.before; memory = r.memory; behind = r.behind; whole = ap (λ l. m ∷ l) r.whole; k_is = ap suc r.k_is; named = r.named }

get_there : {A : Type 0} (before : List A) (m : A) (behind : List A) (d : A) → get_or (before ++ m ∷ behind) (length before) d ≡ m
get_there {A} [] m behind d = refl
get_there {A} (b ∷ before) m behind d = get_there before m behind d

pub memory_is : (ms : List Memory) (k : ℕ) (x : Name) (a : IsAt ms k x) (d : Memory) → get_or ms k d ≡ a.memory
memory_is ms k x a d =
    ap (λ l. get_or l k d) a.whole ∙ ap (λ j. get_or (a.before ++ a.memory ∷ a.behind) j d) a.k_is ∙ get_there a.before a.memory a.behind d

pub at_within : (ms : List Memory) (k : ℕ) (x : Name) → slice_get (map (λ m. m.name) ms) k ≡ Some x → k < length ms
at_within [] k x h = absurd (cc)
at_within (m ∷ ms) zero x h = omega arith
at_within (m ∷ ms) (suc k) x h = omega (arith, at_within ms k x h)

pub is_within : {ms : List Memory} {k : ℕ} {x : Name} → IsAt ms k x → k < length ms
is_within a = omega (arith, a.k_is, ap length a.whole, length-append a.before (a.memory ∷ a.behind))

-- the memory that a look-up of its name found
pub found_memory : (n : Net) {m : NameMap ℕ} {x y : Name} {o : Option ℕ} {k : ℕ} → Finds m (memory_names n) → y ≡ x → o ≡ at_name m y → o ≡ Some k → IsAt n.memories k x
found_memory n {m = m} {x = x} {k = k} finds same gave is = is_at n.memories k x (finds.found x k (looked_up m same gave is))

pub depth_there : {ns ms : List Memory} {k : ℕ} {x : Name} (a : IsAt ns k x) (d : Memory) → ms ≡ ns → (get_or ms k d).depth ≡ a.memory.depth
depth_there {ns = ns} {k = k} {x = x} a d same = rw same (ap (λ (m : Memory). m.depth) (memory_is ns k x a d))

pub ports_long : (names : List Name) (ps : List WritePort) (ms : List Memory) (base : ℕ) → PortsMean names base ps ms → length ps ≡ length ms
ports_long names [] [] base h = refl
ports_long names [] (m ∷ ms) base h = absurd h
ports_long names (p ∷ ps) [] base h = absurd h
ports_long names (p ∷ ps) (m ∷ ms) base h = let e = ports_long names ps ms (base + m.depth) h.1 in cc

port_base : (names : List Name) (ps : List WritePort) (before : List Memory) (m : Memory) (behind : List Memory) (d : WritePort) (base : ℕ)
    → PortsMean names base ps (before ++ m ∷ behind)
    → (get_or ps (length before) d).base ≡ base + cell_count before
port_base names [] [] m behind d base h = absurd h
port_base names [] (b ∷ before) m behind d base h = absurd h
port_base names (p ∷ ps) [] m behind d base h = h.0.0 ∙ (let e : base ≡ base + 0 = omega arith in e)
port_base names (p ∷ ps) (b ∷ before) m behind d base h = omega (arith, port_base names ps before m behind d (base + b.depth) h.1)

pub base_is : (names : List Name) (ps : List WritePort) (ms : List Memory) (k : ℕ) (x : Name) (a : IsAt ms k x) (d : WritePort)
    → PortsMean names 0 ps ms → (get_or ps k d).base ≡ cell_count a.before
base_is names ps ms k x a d h =
    ap (λ j. (get_or ps j d).base) a.k_is
    ∙ port_base names ps a.before a.memory a.behind d 0 (subst (PortsMean names 0 ps) a.whole h)
    ∙ (let e : 0 + cell_count a.before ≡ cell_count a.before = omega arith in e)

-- the base of the memory's port
pub base_there : {ms : List Memory} {k : ℕ} {x : Name} (a : IsAt ms k x) (names : List Name) (ps : List WritePort) (p : WritePort) → PortsMean names 0 ps ms
    → p ≡ get_or ps k p → p.base ≡ cell_count a.before
base_there {ms = ms} {k = k} {x = x} a names ps p mean is = ap (λ (q : WritePort). q.base) is ∙ base_is names ps ms k x a p mean

-- a cell below the depth
pub kept_within : (f : Name → ℕ → ℕ) (ms : List Memory) (k : ℕ) (x : Name) (a : IsAt ms k x) (i : ℕ) → i < a.memory.depth → cell_count a.before + i < length (cells_of f ms)
kept_within f ms k x a i lt = omega (arith, cells_long f ms, ap cell_count a.whole, count_more a.before a.memory a.behind)

pub kept_is : (f : Name → ℕ → ℕ) (ms : List Memory) (k : ℕ) (x : Name) (a : IsAt ms k x) (i d : ℕ) → i < a.memory.depth → get_or (cells_of f ms) (cell_count a.before + i) d ≡ f x i
kept_is f ms k x a i d lt =
    get_or_default (cells_of f ms) (cell_count a.before + i) d 0 (kept_within f ms k x a i lt)
    ∙ ap (λ l. slice_index (cells_of f l) (cell_count a.before + i)) a.whole
    ∙ cell_at f a.before a.memory a.behind i lt
    ∙ ap (λ y. f y i) a.named

found_in_middle : (es : List (Name × Memory)) (before : List Memory) (m : Memory) (behind : List Memory)
    → AllByRecursion (λ k. find es k.name ≡ Some k) (before ++ m ∷ behind) → find es m.name ≡ Some m
found_in_middle es [] m behind h = h.0
found_in_middle es (b ∷ before) m behind h = found_in_middle es before m behind h.1

memory_found : (n : Net) → IsNetlist n → (k : ℕ) (x : Name) (a : IsAt n.memories k x) → find (map (λ m. (m.name, m)) n.memories) x ≡ Some a.memory
memory_found n rules k x a =
    let es = map (λ m. (m.name, m)) n.memories in
    let f = found_in_middle es a.before a.memory a.behind (subst (AllByRecursion (λ m. find es m.name ≡ Some m)) a.whole (memories_found n rules (λ m. m))) in
    subst (λ (y : Name). find es y ≡ Some a.memory) a.named f

pub cell_seen_there : (n : Net) → IsNetlist n → (k : ℕ) (x : Name) (a : IsAt n.memories k x) (cycle : Option Valuation) (i : ℕ)
    → i < a.memory.depth → cell_seen n cycle x i ≡ Some ((seen n cycle).cell x i)
cell_seen_there n rules k x a cycle i lt = rw (memory_found n rules k x a, lt-ltb i a.memory.depth lt) refl

pub cell_not_seen : (n : Net) → IsNetlist n → (k : ℕ) (x : Name) (a : IsAt n.memories k x) (cycle : Option Valuation) (i : ℕ) → a.memory.depth ≤ i → cell_seen n cycle x i ≡ None
cell_not_seen n rules k x a cycle i le = rw (memory_found n rules k x a, le-ltb i a.memory.depth le) refl

pub cell_nowhere : (n : Net) (m : NameMap ℕ) → Finds m (memory_names n) → (x : Name) → at_name m x ≡ None → (cycle : Option Valuation) (i : ℕ) → cell_seen n cycle x i ≡ None
cell_nowhere n m finds x h cycle i =
    rw (missing m (memory_names n) finds (map (λ k. (k.name, k)) n.memories) (covers_listed (λ k. k.name) (λ k. k) n.memories) x h) refl
