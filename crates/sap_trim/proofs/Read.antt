-- Each helping wire of the new netlist is read.
use Rattle.sap_lemmas.proofs.Common.{◌≡◌, ℕ, List, [], ◌∷◌, ◌++◌, map, filter, Some, Bool, true, false, sym, ap, ◌∙◌, subst, refl, inl, inr, append_assoc, append-nil, ◌⊎◌, bytes_eq, AllByRecursion, cases_Bool, or_false, all_append, all_follow, map_of_all, bytes_eq_same, equal_of_bytes_eq}
use Rattle.sap_net.proofs.NamesLemmas.{among_behind, among_front, among_here}
use Rattle.sap_maps.specs.Prelude.{Name, Scope, find}
use Rattle.sap_maps.proofs.Scopes.{apart, found_here, found_behind}
use Rattle.sap_net.specs.Prelude.{is_among, Net, Shapes, IsOperand, AreOperands, IsRight, AreWires, names_of, Puts}
use Rattle.sap_net.specs.declared.parts.Operand.{Operand}
use Rattle.sap_net.specs.declared.parts.Operand.TheVariants.{Named, Constant}
use Rattle.sap_net.specs.declared.parts.Right.{Right}
use Rattle.sap_net.specs.declared.parts.Right.TheVariants.{Copy, One, Two, Choose, Concat, Slice, Cell}
use Rattle.sap_net.specs.declared.parts.Register.{Register}
use Rattle.sap_net.specs.declared.parts.Memory.{Memory}
use Rattle.sap_net.specs.declared.parts.Wire.{Wire}
use Rattle.sap_share.specs.Keys.{key}
use Rattle.sap_trim.specs.Names.{port_names, shown_wires}
use Rattle.sap_trim.specs.Reads.{operand_reads, operands_reads, right_reads, wire_reads, register_reads, memory_reads, edge_reads, IsRead}
use Rattle.sap_fold.specs.Slices.{sliced}
use Rattle.sap_trim.specs.Replaced.{Stands, standing, standing_operand, replaced}
use Rattle.sap_share.specs.Rights.{rights}
use Rattle.sap_fold.specs.Wires.{Adds}
use Rattle.sap_fold.specs.Wires.{Provides}
use Rattle.sap_trim.specs.Walked.{State, Steps, Walked}
use Rattle.sap_trim.specs.Needed.{is_needed, needed, needed_wires}
use Rattle.sap_trim.specs.Built.{wire_of, register_of, memory_of, built}
use Rattle.sap_share.proofs.Decoding.{key_is}
use Rattle.sap_fold.proofs.Lists.{or_elim, among_split}
use Rattle.sap_net.proofs.NamesLemmas.{among_each}
use Rattle.sap_trim.proofs.Replaced.{stands_for}

-- a wire with its operands replaced
abbrev pub Copies : (taken : Name → Bool) → State → Wire → State → Type 0
Copies taken s w t = Steps taken s w.name w.width (replaced s.stands w.right) t

single : (x z : Name) → is_among x (z ∷ []) ≡ true → x ≡ z
single x z h = equal_of_bytes_eq x z (sym (or_false (bytes_eq x z)) ∙ h)

-- x stands for the name y
abbrev pub StandsFor : Stands → Name → Name → Type 0
StandsFor e x y = e x ≡ Some (Named y)

operand_read : (e : Stands) (x y : Name) → StandsFor e x y → (o : Operand) → is_among x (operand_reads o) ≡ true → is_among y (operand_reads (standing_operand e o)) ≡ true
operand_read e x y s (Named z) h =
    let q : x ≡ z = single x z h in
    let t : standing e z ≡ Named y = subst (λ (a : Name). standing e a ≡ Named y) q (stands_for e x (Named y) s) in
    subst (λ (o : Operand). is_among y (operand_reads o) ≡ true) (sym t) (among_here y [])
operand_read e x y s (Constant w n) h = absurd (cc)

operands_read : (e : Stands) (x y : Name) → StandsFor e x y → (os : List Operand) → is_among x (operands_reads os) ≡ true
    → is_among y (operands_reads (map (standing_operand e) os)) ≡ true
operands_read e x y s [] h = absurd (cc)
operands_read e x y s (o ∷ os) h =
    let rest = operands_reads (map (standing_operand e) os) in
    among_split x (operand_reads o) (operands_reads os) (is_among y (operands_reads (map (standing_operand e) (o ∷ os))) ≡ true)
    (λ t. among_front y (operand_reads (standing_operand e o)) rest (operand_read e x y s o t))
    (λ t. among_behind y (operand_reads (standing_operand e o)) rest (operands_read e x y s os t)) h

two_read : (e : Stands) (x y : Name) → StandsFor e x y → (o p : Operand) → is_among x (operand_reads o ++ operand_reads p) ≡ true
    → is_among y (operand_reads (standing_operand e o) ++ operand_reads (standing_operand e p)) ≡ true
two_read e x y s o p h =
    let a = operand_reads (standing_operand e o) in
    let b = operand_reads (standing_operand e p) in
    among_split x (operand_reads o) (operand_reads p) (is_among y (a ++ b) ≡ true)
    (λ t. among_front y a b (operand_read e x y s o t)) (λ t. among_behind y a b (operand_read e x y s p t)) h

-- what a right side reads it reads once replaced
replaced_read : (e : Stands) (x y : Name) → StandsFor e x y → (r : Right) → is_among x (right_reads r) ≡ true → is_among y (right_reads (replaced e r)) ≡ true
replaced_read e x y s (Copy o) h = operand_read e x y s o h
replaced_read e x y s (One op o) h = operand_read e x y s o h
replaced_read e x y s (Two op o p) h = two_read e x y s o p h
replaced_read e x y s (Choose c o p) h =
    let a = operand_reads (standing_operand e c) in
    let b = operand_reads (standing_operand e o) ++ operand_reads (standing_operand e p) in
    among_split x (operand_reads c) (operand_reads o ++ operand_reads p) (is_among y (a ++ b) ≡ true)
    (λ t. among_front y a b (operand_read e x y s c t)) (λ t. among_behind y a b (two_read e x y s o p t)) h
replaced_read e x y s (Concat os) h = operands_read e x y s os h
replaced_read e x y s (Slice z hi lo) h =
    let q : x ≡ z = single x z h in
    let t : standing e z ≡ Named y = subst (λ (a : Name). standing e a ≡ Named y) q (stands_for e x (Named y) s) in
    subst (λ (o : Operand). is_among y (right_reads (sliced o hi lo)) ≡ true) (sym t) (among_here y [])
replaced_read e x y s (Cell m i) h = operand_read e x y s i h

-- a wire that is found by its right side reads what that reads
found_reads : (ws : List Wire) (u : ℕ) (r : Right) (n y : Name) → find (rights ws) (key u r) ≡ Some n → is_among y (right_reads r) ≡ true → is_among y (wire_reads ws) ≡ true
found_reads [] u r n y e h = absurd (cc)
found_reads (w ∷ ws) u r n y e h =
    elim (cases_Bool (bytes_eq (key w.width w.right) (key u r))) [
      | inl t ↦
          let k = key_is w.width u w.right r (equal_of_bytes_eq (key w.width w.right) (key u r) t) in
          among_front y (right_reads w.right) (wire_reads ws) (subst (λ (q : Right). is_among y (right_reads q) ≡ true) (sym k.1) h)
      | inr f ↦ among_behind y (right_reads w.right) (wire_reads ws) (found_reads ws u r n y (rw f at e) h)
    ]

reads_both : (ws xs : List Wire) → wire_reads (ws ++ xs) ≡ wire_reads ws ++ wire_reads xs
reads_both [] xs = refl
reads_both (w ∷ ws) xs = ap (λ (ns : List Name). right_reads w.right ++ ns) (reads_both ws xs) ∙ sym (append_assoc (right_reads w.right) (wire_reads ws) (wire_reads xs))

pub reads_front : (ws xs : List Wire) (y : Name) → is_among y (wire_reads ws) ≡ true → is_among y (wire_reads (ws ++ xs)) ≡ true
reads_front ws xs y h = subst (λ (ns : List Name). is_among y ns ≡ true) (sym (reads_both ws xs)) (among_front y (wire_reads ws) (wire_reads xs) h)

pub reads_behind : (ws xs : List Wire) (y : Name) → is_among y (wire_reads xs) ≡ true → is_among y (wire_reads (ws ++ xs)) ≡ true
reads_behind ws xs y h = subst (λ (ns : List Name). is_among y ns ≡ true) (sym (reads_both ws xs)) (among_behind y (wire_reads ws) (wire_reads xs) h)

adds_reads : (taken : Name → Bool) (ws : List Wire) (next u : ℕ) (r : Right) (n y : Name) (after : List Wire) (na : ℕ)
    → Adds taken ws next u r n after na → is_among y (right_reads r) ≡ true → is_among y (wire_reads after) ≡ true
adds_reads taken ws next u r n y after na (inl a) h =
    subst (λ (xs : List Wire). is_among y (wire_reads xs) ≡ true) (sym a.wires) (found_reads ws u r n y a.found h)
adds_reads taken ws next u r n y after na (inr a) h =
    let x : Wire = record { name = n; width = u; right = r } in
    subst (λ (xs : List Wire). is_among y (wire_reads xs) ≡ true) (sym a.wires) (reads_behind ws (x ∷ []) y (among_front y (right_reads r) [] h))

-- what a right side reads its operand is, or a wire reads it
provides_reads : (taken : Name → Bool) (ws : List Wire) (next u : ℕ) (r : Right) (o : Operand) (after : List Wire) (na : ℕ) (y : Name)
    → Provides taken ws next u r o after na → is_among y (right_reads r) ≡ true → (o ≡ Named y) ⊎ (is_among y (wire_reads after) ≡ true)
provides_reads taken ws next u (Copy (Named z)) o after na y a h = inl (a.0 ∙ ap Named (sym (single y z h)))
provides_reads taken ws next u (Copy (Constant w k)) o after na y a h = absurd (cc)
provides_reads taken ws next u (One op p) o after na y a h = inr (adds_reads taken ws next u (One op p) a.0 y after na a.2 h)
provides_reads taken ws next u (Two op p q) o after na y a h = inr (adds_reads taken ws next u (Two op p q) a.0 y after na a.2 h)
provides_reads taken ws next u (Choose c p q) o after na y a h = inr (adds_reads taken ws next u (Choose c p q) a.0 y after na a.2 h)
provides_reads taken ws next u (Concat os) o after na y a h = inr (adds_reads taken ws next u (Concat os) a.0 y after na a.2 h)
provides_reads taken ws next u (Slice x hi lo) o after na y a h = inr (adds_reads taken ws next u (Slice x hi lo) a.0 y after na a.2 h)
provides_reads taken ws next u (Cell m i) o after na y a h = inr (adds_reads taken ws next u (Cell m i) a.0 y after na a.2 h)

-- the wires that a step adds have the name that stands
abbrev Added : List Wire → Operand → List Wire → Type 0
Added ws o after = (more : List Wire) × (after ≡ ws ++ more) × AllByRecursion (λ w. o ≡ Named w.name) more

adds_added : (taken : Name → Bool) (ws : List Wire) (next u : ℕ) (r : Right) (o : Operand) (n : Name) (after : List Wire) (na : ℕ)
    → o ≡ Named n → Adds taken ws next u r n after na → Added ws o after
adds_added taken ws next u r o n after na e (inl a) = ([], a.wires ∙ sym (append-nil ws), tt)
adds_added taken ws next u r o n after na e (inr a) = (record { name = n; width = u; right = r } ∷ [], a.wires, (e, tt))

provides_added : (taken : Name → Bool) (ws : List Wire) (next u : ℕ) (r : Right) (o : Operand) (after : List Wire) (na : ℕ)
    → Provides taken ws next u r o after na → Added ws o after
provides_added taken ws next u (Copy p) o after na a = ([], a.1 ∙ sym (append-nil ws), tt)
provides_added taken ws next u (One op p) o after na a = adds_added taken ws next u (One op p) o a.0 after na a.1 a.2
provides_added taken ws next u (Two op p q) o after na a = adds_added taken ws next u (Two op p q) o a.0 after na a.1 a.2
provides_added taken ws next u (Choose c p q) o after na a = adds_added taken ws next u (Choose c p q) o a.0 after na a.1 a.2
provides_added taken ws next u (Concat os) o after na a = adds_added taken ws next u (Concat os) o a.0 after na a.1 a.2
provides_added taken ws next u (Slice x hi lo) o after na a = adds_added taken ws next u (Slice x hi lo) o a.0 after na a.1 a.2
provides_added taken ws next u (Cell m i) o after na a = adds_added taken ws next u (Cell m i) o a.0 after na a.1 a.2

-- what a wire reads stands for its own operand, or a new wire reads it
abbrev pub Passes : Stands → List Wire → Wire → Type 0
Passes e hs w = (x y : Name) → is_among x (right_reads w.right) ≡ true → StandsFor e x y → StandsFor e w.name y ⊎ (is_among y (wire_reads hs) ≡ true)

pub record Read (ws : List Wire) (so : Scope) (s t : State) : Type 0 where
  -- names that are there stand for the same
  pub stable : (x : Name) (u : ℕ) → find so x ≡ Some u → t.stands x ≡ s.stands x
  pub passes : AllByRecursion (Passes t.stands t.wires) ws
  -- each new wire is what a name stands for
  pub more : List Wire
  pub wires : t.wires ≡ s.wires ++ more
  pub images : AllByRecursion (λ h. (n : Name) × (is_among n (names_of ws) ≡ true) × StandsFor t.stands n h.name) more

operand_found : (so : Scope) (u : ℕ) (o : Operand) → IsOperand so u o → (x : Name) → is_among x (operand_reads o) ≡ true → (k : ℕ) × (find so x ≡ Some k)
operand_found so u (Named z) h x t = (u, subst (λ (a : Name). find so a ≡ Some u) (sym (single x z t)) h)
operand_found so u (Constant w n) h x t = absurd (cc)

abbrev IsFound : Scope → Name → Type 0
IsFound so x = (k : ℕ) × (find so x ≡ Some k)

operands_found : (so : Scope) (u : ℕ) (os : List Operand) → AreOperands so u os → (x : Name) → is_among x (operands_reads os) ≡ true → IsFound so x
operands_found so u [] h x t = absurd (cc)
operands_found so u (o ∷ os) h x t =
    among_split x (operand_reads o) (operands_reads os) (IsFound so x) (λ q. operand_found so h.0 o h.3 x q) (λ q. operands_found so h.1 os h.4 x q) t

right_found : (ms : Shapes) (so : Scope) (u : ℕ) (r : Right) → IsRight ms so u r → (x : Name) → is_among x (right_reads r) ≡ true → IsFound so x
right_found ms so u (Copy o) h x t = operand_found so u o h x t
right_found ms so u (One op o) h x t = operand_found so h.0 o h.2 x t
right_found ms so u (Two op o p) h x t =
    among_split x (operand_reads o) (operand_reads p) (IsFound so x) (λ q. operand_found so h.0 o h.4 x q) (λ q. operand_found so h.1 p h.5 x q) t
right_found ms so u (Choose c o p) h x t =
    among_split x (operand_reads c) (operand_reads o ++ operand_reads p) (IsFound so x) (λ q. operand_found so 1 c h.0 x q)
    (λ z. among_split x (operand_reads o) (operand_reads p) (IsFound so x) (λ q. operand_found so u o h.1 x q) (λ q. operand_found so u p h.2 x q) z) t
right_found ms so u (Concat os) h x t = operands_found so u os h.1 x t
right_found ms so u (Slice z hi lo) h x t = (h.0, subst (λ (a : Name). find so a ≡ Some h.0) (sym (single x z t)) h.2)
right_found ms so u (Cell m i) h x t = operand_found so h.0 i h.2 x t

pub bound_here : (e f : Stands) (x : Name) (o : Operand) → Puts e x o f → f x ≡ Some o
bound_here e f x o b = let t = bytes_eq_same x in b x ∙ rw t refl

pub bound_other : (e f : Stands) (x : Name) (o : Operand) → Puts e x o f → (y : Name) → bytes_eq x y ≡ false → f y ≡ e y
bound_other e f x o b y d = b y ∙ rw d refl

pub walk_reads : (taken : Name → Bool) (ms : Shapes) (ws : List Wire) (so : Scope) (s t : State) → AreWires ms so ws → Walked (Copies taken) s ws t → Read ws so s t
walk_reads taken ms [] so s t f e =
    record {
      stable = λ x u h. sym (ap (λ (z : State). z.stands x) e);
      passes = tt;
      more = [];
      wires = sym (ap (λ (z : State). z.wires) e) ∙ sym (append-nil s.wires);
      images = tt;
    }
walk_reads taken ms (w ∷ ws) so s t f k =
    let m = k.0 in
    let c = k.1 in
    let sd = (w.name, w.width) ∷ so in
    let r = walk_reads taken ms ws sd m t f.4 k.2 in
    let rr = replaced s.stands w.right in
    let a = provides_added taken s.wires s.next w.width rr c.operand m.wires m.next c.provides in
    let here : t.stands w.name ≡ Some c.operand = r.stable w.name w.width (found_here w.name w.width so) ∙ bound_here s.stands m.stands w.name c.operand c.binds in
    let same : (x : Name) (u : ℕ) → find so x ≡ Some u → t.stands x ≡ s.stands x = λ x u h.
    r.stable x u (found_behind so w.name w.width f.1 x u h) ∙ bound_other s.stands m.stands w.name c.operand c.binds x (apart so w.name x u f.1 h) in
    record {
      stable = same;
      passes = (
        λ x y h q.
            let g = right_found ms so w.width w.right f.3 x h in
            let before : StandsFor s.stands x y = sym (same x g.0 g.1) ∙ q in
            elim (provides_reads taken s.wires s.next w.width rr c.operand m.wires m.next y c.provides (replaced_read s.stands x y before w.right h)) [
              | inl e ↦ inl (here ∙ ap Some e)
              | inr e ↦ inr (subst (λ (xs : List Wire). is_among y (wire_reads xs) ≡ true) (sym r.wires) (reads_front m.wires r.more y e))
            ],
        r.passes,
      );
      more = a.0 ++ r.more;
      wires = r.wires ∙ ap (λ (ys : List Wire). ys ++ r.more) a.1 ∙ append_assoc s.wires a.0 r.more;
      images = all_append (λ h. (n : Name) × (is_among n (names_of (w ∷ ws)) ≡ true) × StandsFor t.stands n h.name) a.0 r.more
          (all_follow (λ h. c.operand ≡ Named h.name) (λ h. (n : Name) × (is_among n (names_of (w ∷ ws)) ≡ true)
          × StandsFor t.stands n h.name) a.0 (λ h e. (w.name, among_here w.name (names_of ws), here ∙ ap Some e)) a.2)
          (all_follow (λ h. (n : Name) × (is_among n (names_of ws) ≡ true) × StandsFor t.stands n h.name) (λ h. (n : Name)
          × (is_among n (names_of (w ∷ ws)) ≡ true) × StandsFor t.stands n h.name) r.more (λ h e. (e.0, among_behind e.0 (w.name ∷ []) (names_of ws) e.1, e.2)) r.images);
    }

-- what registers and memories read

registers_read : (e : Stands) (x y : Name) → StandsFor e x y → (rs : List Register) → is_among x (register_reads rs) ≡ true
    → is_among y (register_reads (map (register_of e) rs)) ≡ true
registers_read e x y s [] h = absurd (cc)
registers_read e x y s (r ∷ rs) h =
    let a = operand_reads (standing_operand e r.next) in
    let b = register_reads (map (register_of e) rs) in
    among_split x (operand_reads r.next) (register_reads rs) (is_among y (a ++ b) ≡ true)
    (λ t. among_front y a b (operand_read e x y s r.next t)) (λ t. among_behind y a b (registers_read e x y s rs t)) h

memories_read : (e : Stands) (x y : Name) → StandsFor e x y → (ms : List Memory) → is_among x (memory_reads ms) ≡ true → is_among y (memory_reads (map (memory_of e) ms)) ≡ true
memories_read e x y s [] h = absurd (cc)
memories_read e x y s (m ∷ ms) h =
    let a = operand_reads (standing_operand e m.enable) in
    let b = operand_reads (standing_operand e m.index) in
    let c = operand_reads (standing_operand e m.value) in
    let d = memory_reads (map (memory_of e) ms) in
    among_split x (operand_reads m.enable) (operand_reads m.index ++ (operand_reads m.value ++ memory_reads ms)) (is_among y (a ++ (b ++ (c ++ d))) ≡ true)
    (λ t. among_front y a (b ++ (c ++ d)) (operand_read e x y s m.enable t))
    (λ k. among_behind y a (b ++ (c ++ d))
    (among_split x (operand_reads m.index) (operand_reads m.value ++ memory_reads ms) (is_among y (b ++ (c ++ d)) ≡ true)
    (λ t. among_front y b (c ++ d) (operand_read e x y s m.index t))
    (λ l. among_behind y b (c ++ d)
    (among_split x (operand_reads m.value) (memory_reads ms) (is_among y (c ++ d) ≡ true)
    (λ t. among_front y c d (operand_read e x y s m.value t)) (λ t. among_behind y c d (memories_read e x y s ms t)) l)) k)) h

edge_read : (n : Net) (ws : List Wire) (e : Stands) (x y : Name) → StandsFor e x y → is_among x (edge_reads n) ≡ true → is_among y (edge_reads (built n ws e)) ≡ true
edge_read n ws e x y s h =
    let a = register_reads (map (register_of e) n.registers) in
    let b = memory_reads (map (memory_of e) n.memories) in
    among_split x (register_reads n.registers) (memory_reads n.memories) (is_among y (a ++ b) ≡ true)
    (λ t. among_front y a b (registers_read e x y s n.registers t)) (λ t. among_behind y a b (memories_read e x y s n.memories t)) h

-- a port wire reads what its name stands for
abbrev PortsRead : Stands → List Name → List Wire → List Name → Type 0
PortsRead e P ws outs = AllByRecursion (λ w. is_among w.name P ≡ true → (y : Name) → StandsFor e w.name y → is_among y outs ≡ true) ws

ports_more : (e : Stands) (P : List Name) (ws : List Wire) (a b : List Name) → PortsRead e P ws b → PortsRead e P ws (a ++ b)
ports_more e P ws a b h =
    all_follow (λ w. is_among w.name P ≡ true → (y : Name) → StandsFor e w.name y → is_among y b ≡ true) (λ w. is_among w.name P ≡ true
    → (y : Name) → StandsFor e w.name y → is_among y (a ++ b) ≡ true) ws
    (λ w k p y s. among_behind y a b (k p y s)) h

ports_read : (e : Stands) (P : List Name) (ws : List Wire) → PortsRead e P ws (wire_reads (map (wire_of e) (filter (λ w. is_among w.name P) ws)))
ports_read e P [] = tt
ports_read e P (w ∷ ws) =
    let shown = filter (λ x. is_among x.name P) ws in
    let rest = wire_reads (map (wire_of e) shown) in
    elim (cases_Bool (is_among w.name P)) [
      | inl t ↦
          let is : filter (λ x. is_among x.name P) (w ∷ ws) ≡ w ∷ shown = rw t refl in
          subst (λ (zs : List Wire). PortsRead e P (w ∷ ws) (wire_reads (map (wire_of e) zs))) (sym is) (
            λ p y s. among_front y (operand_reads (standing e w.name)) rest
                (subst (λ (o : Operand). is_among y (operand_reads o) ≡ true) (sym (stands_for e w.name (Named y) s)) (among_here y [])),
            ports_more e P ws (operand_reads (standing e w.name)) rest (ports_read e P ws),
          )
      | inr f ↦
          let is : filter (λ x. is_among x.name P) (w ∷ ws) ≡ shown = rw f refl in
          subst (λ (zs : List Wire). PortsRead e P (w ∷ ws) (wire_reads (map (wire_of e) zs))) (sym is) (
            λ p y s. absurd (let q : true ≡ false = sym p ∙ f in cc),
            ports_read e P ws,
          )
    ]

-- each needed wire's operand is read
abbrev OperandsRead : Stands → List Name → List Wire → Type 0
OperandsRead e all ks = AllByRecursion (λ w. (y : Name) → StandsFor e w.name y → is_among y all ≡ true) ks

by_reader : (e : Stands) (hs : List Wire) (all : List Name) (x y : Name) → StandsFor e x y
    → ((z : Name) → is_among z (wire_reads hs) ≡ true → is_among z all ≡ true) → (ks : List Wire) → AllByRecursion (Passes e hs) ks
    → OperandsRead e all ks → is_among x (wire_reads ks) ≡ true → is_among y all ≡ true
by_reader e hs all x y s k [] p r h = absurd (cc)
by_reader e hs all x y s k (w ∷ ks) p r h =
    among_split x (right_reads w.right) (wire_reads ks) (is_among y all ≡ true)
    (λ t. elim (p.0 x y t s) [ inl q ↦ r.0 y q | inr q ↦ k y q ])
    (λ t. by_reader e hs all x y s k ks p.1 r.1 t) h

needed_read : (e : Stands) (hs : List Wire) (all P E : List Name) → ((z : Name) → is_among z (wire_reads hs) ≡ true → is_among z all ≡ true)
    → ((x y : Name) → StandsFor e x y → is_among x E ≡ true → is_among y all ≡ true) → (ws : List Wire)
    → AllByRecursion (λ w. is_among w.name P ≡ true → (y : Name) → StandsFor e w.name y → is_among y all ≡ true) ws
    → AllByRecursion (Passes e hs) (needed P E ws) → OperandsRead e all (needed P E ws)
needed_read e hs all P E k edge [] ports p = tt
needed_read e hs all P E k edge (w ∷ ws) ports p =
    let ks = needed P E ws in
    elim (cases_Bool (is_needed P E w ks)) [
      | inl t ↦
          let q : AllByRecursion (Passes e hs) (w ∷ ks) = rw t at p in
          let rest = needed_read e hs all P E k edge ws ports.1 q.1 in
          rw t (
            λ y s.
                or_elim (is_among w.name P) (is_among w.name (wire_reads ks ++ E)) (is_among y all ≡ true)
                (λ h. ports.0 h y s)
                (λ h. among_split w.name (wire_reads ks) E (is_among y all ≡ true) (λ g. by_reader e hs all w.name y s k ks q.1 rest g) (λ g. edge w.name y s g) h)
                t,
            rest,
          )
      | inr f ↦ rw f (needed_read e hs all P E k edge ws ports.1 (rw f at p))
    ]

pub all_read : (n : Net) (so : Scope) (s t : State) → s.wires ≡ [] → Read (needed_wires n) so s t → AllByRecursion (λ h. IsRead (built n t.wires t.stands) h.name) t.wires
all_read n so s t none r =
    let e = t.stands in
    let hs = t.wires in
    let P = port_names n in
    let E = edge_reads n in
    let outs = map (wire_of e) (shown_wires n) in
    let B = built n hs e in
    let all = wire_reads B.wires ++ edge_reads B in
    let from_helpers : (z : Name) → is_among z (wire_reads hs) ≡ true → is_among z all ≡ true =
    λ z h. among_front z (wire_reads B.wires) (edge_reads B) (reads_front hs outs z h) in
    let from_edge : (x y : Name) → StandsFor e x y → is_among x E ≡ true → is_among y all ≡ true =
    λ x y q h. among_behind y (wire_reads B.wires) (edge_reads B) (edge_read n hs e x y q h) in
    let ports = all_follow (λ w. is_among w.name P ≡ true → (y : Name) → StandsFor e w.name y
    → is_among y (wire_reads outs) ≡ true) (λ w. is_among w.name P ≡ true → (y : Name) → StandsFor e w.name y → is_among y all ≡ true) n.wires
    (λ w k p y q. among_front y (wire_reads B.wires) (edge_reads B) (reads_behind hs outs y (k p y q))) (ports_read e P n.wires) in
    let operands = needed_read e hs all P E from_helpers from_edge n.wires ports r.passes in
    let named : AllByRecursion (λ x. (y : Name) → StandsFor e x y → is_among y all ≡ true) (names_of (needed_wires n)) =
    map_of_all (λ x. (y : Name) → StandsFor e x y → is_among y all ≡ true) (λ (w : Wire). w.name) (needed_wires n) operands in
    let images = all_follow (λ h. (m : Name) × (is_among m (names_of (needed_wires n)) ≡ true) × StandsFor e m h.name) (λ h. is_among h.name all ≡ true) r.more
    (λ h k. among_each (λ x. (y : Name) → StandsFor e x y → is_among y all ≡ true) (names_of (needed_wires n)) named k.0 k.1 h.name k.2) r.images in
    let is : hs ≡ r.more = r.wires ∙ ap (λ (xs : List Wire). xs ++ r.more) none in
    subst (λ (xs : List Wire). AllByRecursion (λ h. is_among h.name all ≡ true) xs) (sym is) images
