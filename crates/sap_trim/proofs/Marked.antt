-- Marks at the places of names, and the wires that have one.
use Rattle.sap_lemmas.proofs.Common.{◌≡◌, ℕ, zero, suc, ◌+◌, ◌-◌, ◌<◌, ◌≤◌, ◌==◌, ◌||◌, Bool, true, false, List, [], ◌∷◌, ◌++◌, length, map, take, drop, replicate, get_or, set, Option, Some, None, sym, ap, ap₂, ◌∙◌, subst, refl, arith, inl, inr, append_assoc, if◌then◌else◌, option_map, bytes_eq, cases_Bool, or_parts, Decides-eqb, take-append_seam, length-map, length-replicate, drop_all, append-nil, or_false, bytes_eq_apart_back, equal_of_bytes_eq, map-append, flat_map-append, flat_map, take_more}
use Rattle.std.proofs.lemmas.List.{length-set}
use Rattle.sap_maps.specs.Maps.{Name}
use Rattle.sap_net.specs.Prelude.{is_among, AreDistinct, place_in, names_of, Net}
use Rattle.sap_net.specs.declared.parts.Port.{Port}
use Rattle.sap_net.specs.declared.parts.Register.{Register}
use Rattle.sap_net.specs.declared.parts.Memory.{Memory}
use Rattle.sap_net.specs.declared.parts.Operand.{Operand}
use Rattle.sap_net.specs.declared.parts.Wire.{Wire}
use Rattle.sap_net.proofs.NamesLemmas.{among_append}
use Rattle.sap_trim.specs.Names.{port_names}
use Rattle.sap_trim.specs.Needed.{Marks, MarksNeeded, has_place, is_at, is_marked, is_needed, marked, needed}
use Rattle.sap_trim.specs.Reads.{edge_reads, memory_reads, operand_reads, operands_reads, register_reads, right_reads, wire_reads}
use Rattle.sap_trim.proofs.Loops.{drop_less}

-- the marks at the places of some names

or_together : (a b c : Bool) → (a || (b || c)) ≡ ((a || b) || c)
or_together true b c = refl
or_together false b c = refl

or_behind : (a b c : Bool) → (b || (a || c)) ≡ ((a || b) || c)
or_behind true true c = refl
or_behind _ _ c = refl

has_append : (m : List Name) (xs ys : List Name) (k : ℕ) → has_place m (xs ++ ys) k ≡ (has_place m xs k || has_place m ys k)
has_append m [] ys k = refl
has_append m (x ∷ xs) ys k =
    ap (λ (b : Bool). is_at (place_in m x) k || b) (has_append m xs ys k)
    ∙ or_together (is_at (place_in m x) k) (has_place m xs k) (has_place m ys k)

pub marks_both : (m : List Name) (xs ys : List Name) (bs cs ds : List Bool) → Marks m xs bs cs → Marks m ys cs ds → Marks m (xs ++ ys) bs ds
marks_both m xs ys bs cs ds f g =
    record {
      long = g.long ∙ f.long;
      each = λ k l.
          g.each k (subst (λ (n : ℕ). k < n) (sym f.long) l)
          ∙ ap (λ (b : Bool). has_place m ys k || b) (f.each k l)
          ∙ or_behind (has_place m xs k) (has_place m ys k) (is_marked bs k)
          ∙ ap (λ (b : Bool). b || is_marked bs k) (sym (has_append m xs ys k));
    }

-- Where names have their places and no two are equal, the place of a wire has the place of a name on a list if the wire's name is on it.

above_zero : (j : ℕ) → (suc j == zero) ≡ false
above_zero j =
    elim (cases_Bool (suc j == zero)) [
      | inl t ↦ absurd (let e = (Decides-eqb (suc j) zero).0 t in omega (arith, e))
      | inr f ↦ f
    ]

below_next : (k : ℕ) → (zero == suc k) ≡ false
below_next k =
    elim (cases_Bool (zero == suc k)) [
      | inl t ↦ absurd (let e = (Decides-eqb zero (suc k)).0 t in omega (arith, e))
      | inr f ↦ f
    ]

both_further : (j k : ℕ) → (suc j == suc k) ≡ (j == k)
both_further j k =
    elim (cases_Bool (j == k)) [
      | inl t ↦ (Decides-eqb (suc j) (suc k)).1 (ap (λ (n : ℕ). suc n) ((Decides-eqb j k).0 t)) ∙ sym t
      | inr f ↦
          elim (cases_Bool (suc j == suc k)) [
            | inl t ↦
                let e = (Decides-eqb (suc j) (suc k)).0 t in
                let u : (j == k) ≡ true = (Decides-eqb j k).1 (omega (arith, e)) in
                absurd (cc)
            | inr g ↦ g ∙ sym f
          ]
    ]

not_first : (o : Option ℕ) → is_at (option_map suc o) zero ≡ false
not_first None = refl
not_first (Some j) = above_zero j

one_further : (o : Option ℕ) (k : ℕ) → is_at (option_map suc o) (suc k) ≡ is_at o k
one_further None k = refl
one_further (Some j) k = both_further j k

other_there : (n : Name) (ns : List Name) (k : ℕ) → is_among n ns ≡ false → k < length ns → bytes_eq (get_or ns k []) n ≡ false
other_there n [] k a l = absurd (omega (arith, l))
other_there n (x ∷ ns) zero a l =
    let p = or_parts (bytes_eq n x) (is_among n ns) a in bytes_eq_apart_back n x p.0
other_there n (x ∷ ns) (suc k) a l =
    let p = or_parts (bytes_eq n x) (is_among n ns) a in other_there n ns k p.1 (omega (arith, l))

place_at : (ns : List Name) → AreDistinct ns → (k : ℕ) → k < length ns → (x : Name) → is_at (place_in ns x) k ≡ bytes_eq (get_or ns k []) x
place_at [] d k l x = absurd (omega (arith, l))
place_at (n ∷ ns) d zero l x =
    elim (cases_Bool (bytes_eq n x)) [
      | inl t ↦ rw t refl
      | inr f ↦ rw f (not_first (place_in ns x))
    ]
place_at (n ∷ ns) d (suc k) l x =
    let l' : k < length ns = omega (arith, l) in
    elim (cases_Bool (bytes_eq n x)) [
      | inl t ↦
          let o = other_there n ns k d.0 l' in
          let p : bytes_eq (get_or ns k []) x ≡ false = subst (λ (y : Name). bytes_eq (get_or ns k []) y ≡ false) (equal_of_bytes_eq n x t) o in
          rw t (below_next k ∙ sym p)
      | inr f ↦ rw f (one_further (place_in ns x) k ∙ place_at ns d.1 k l' x)
    ]

pub placed : (m : List Name) (ns : List Name) → m ≡ ns → AreDistinct ns → (k : ℕ) → k < length ns → (xs : List Name) → has_place m xs k ≡ is_among (get_or ns k []) xs
placed m ns i d k l [] = refl
placed m ns i d k l (x ∷ xs) =
    ap₂ (λ (a b : Bool). a || b) (ap (λ (ys : List Name). is_at (place_in ys x) k) i ∙ place_at ns d k l x) (placed m ns i d k l xs)

-- the name at the place of a wire
pub named_at : (ws : List Wire) (k : ℕ) (w : Wire) → k < length ws → w ≡ get_or ws k w → get_or (names_of ws) k [] ≡ w.name
named_at [] k w l e = absurd (omega (arith, l))
named_at (x ∷ ws) zero w l e = sym (ap (λ (y : Wire). y.name) e)
named_at (x ∷ ws) (suc k) w l e = named_at ws k w (omega (arith, l)) e

-- one more wire that may be needed

or_front : (a b c : Bool) → (a || (b || c)) ≡ (b || (a || c))
or_front true true c = refl
or_front _ _ c = refl

pub is_needed_at : (m : List Name) (P E : List Name) (ws ks : List Wire) (k : ℕ) (w : Wire) → m ≡ names_of ws → AreDistinct (names_of ws)
    → k < length (names_of ws) → w ≡ get_or ws k w → k < length ws → has_place m (wire_reads ks ++ (P ++ E)) k ≡ is_needed P E w ks
is_needed_at m P E ws ks k w i d n e l =
    let R = wire_reads ks in
    let x = w.name in
    placed m (names_of ws) i d k n (R ++ (P ++ E))
    ∙ ap (λ (y : Name). is_among y (R ++ (P ++ E))) (named_at ws k w l e)
    ∙ among_append x R (P ++ E)
    ∙ ap (λ (b : Bool). is_among x R || b) (among_append x P E)
    ∙ or_front (is_among x R) (is_among x P) (is_among x E)
    ∙ ap (λ (b : Bool). is_among x P || b) (sym (among_append x R E))

pub read_next : (m : List Name) (P E : List Name) (w : Wire) (ks : List Wire) (bs cs : List Bool)
    → Marks m (if is_needed P E w ks then right_reads w.right else []) bs cs → (k : ℕ) → k < length bs → is_marked bs k ≡ has_place m (wire_reads ks ++ (P ++ E)) k
    → is_marked cs k ≡ has_place m (wire_reads (if is_needed P E w ks then w ∷ ks else ks) ++ (P ++ E)) k
read_next m P E w ks bs cs f k l e =
    elim (cases_Bool (is_needed P E w ks)) [
      | inl t ↦
          let R = right_reads w.right in
          let g : Marks m R bs cs = rw t at f in
          rw t (g.each k l ∙ ap (λ (b : Bool). has_place m R k || b) e
          ∙ sym (ap (λ (xs : List Name). has_place m xs k) (append_assoc R (wire_reads ks) (P ++ E)) ∙ has_append m R (wire_reads ks ++ (P ++ E)) k))
      | inr n ↦
          let g : Marks m [] bs cs = rw n at f in
          rw n (g.each k l ∙ e)
    ]

set_at : {X : Type 0} (xs : List X) (k : ℕ) (x : X) → k < length xs → drop k (set xs k x) ≡ x ∷ drop (suc k) xs
set_at [] k x l = absurd (omega (arith, l))
set_at (y ∷ xs) zero x l = refl
set_at (y ∷ xs) (suc k) x l = set_at xs k x (omega (arith, l))

pub kept_next : (P E : List Name) (bs : List Bool) (k : ℕ) (w : Wire) (ws : List Wire) (b : Bool) → k < length bs
    → b ≡ is_needed P E w (needed P E ws) → marked (drop (suc k) bs) ws ≡ needed P E ws → marked (drop k (set bs k b)) (w ∷ ws) ≡ needed P E (w ∷ ws)
kept_next P E bs k w ws b l e f =
    ap (λ (cs : List Bool). marked cs (w ∷ ws)) (set_at bs k b l)
    ∙ ap₂ (λ (c : Bool) (xs : List Wire). if c then w ∷ xs else xs) e f

none_marked : (bs : List Bool) → marked bs [] ≡ []
none_marked [] = refl
none_marked (b ∷ bs) = refl

-- there is a wire at each place
wire_at : (ws : List Wire) (k : ℕ) → k < length ws → (w : Wire) × (w ≡ get_or ws k w)
wire_at [] k l = absurd (omega (arith, l))
wire_at (w ∷ ws) zero l = (w, refl)
wire_at (w ∷ ws) (suc k) l = wire_at ws k (omega (arith, l))

-- Behind the place r the wires that are needed are kept, and all names that these read, and those of the ends, are marked.
pub record Keeping (m : List Name) (P E : List Name) (ws : List Wire) (r : ℕ) (read kept : List Bool) : Type 0 where
  pub within : r ≤ length ws
  pub long : length read ≡ length ws
  pub kept_long : length kept ≡ length ws
  pub reads : (k : ℕ) → k < length ws → is_marked read k ≡ has_place m (wire_reads (needed P E (drop r ws)) ++ (P ++ E)) k
  pub keeps : marked (drop r kept) (drop r ws) ≡ needed P E (drop r ws)

unset : (n k : ℕ) → get_or (replicate n false) k false ≡ false
unset (suc n) (suc k) = unset n k
unset _ _ = refl

pub first_keeping : (m : List Name) (P E : List Name) (ws : List Wire) (bs read kept : List Bool) → bs ≡ replicate (length ws) false
    → Marks m (P ++ E) bs read → kept ≡ replicate (length ws) false → Keeping m P E ws (length ws) read kept
first_keeping m P E ws bs read kept e f g =
    let n = length ws in
    let none : drop n ws ≡ [] = drop_all n ws (omega arith) in
    let b = ap (λ (cs : List Bool). length cs) e ∙ length-replicate n false in
    record {
      within = omega arith;
      long = f.long ∙ b;
      kept_long = ap (λ (cs : List Bool). length cs) g ∙ length-replicate n false;
      reads = λ k l.
          let z : is_marked bs k ≡ false = ap (λ (cs : List Bool). is_marked cs k) e ∙ unset n k in
          let r : is_marked read k ≡ has_place m (P ++ E) k =
          f.each k (subst (λ (j : ℕ). k < j) (sym b) l) ∙ ap (λ (c : Bool). has_place m (P ++ E) k || c) z ∙ or_false (has_place m (P ++ E) k) in
          subst (λ (zs : List Wire). is_marked read k ≡ has_place m (wire_reads (needed P E zs) ++ (P ++ E)) k) (sym none) r;
      keeps = subst (λ (zs : List Wire). marked (drop n kept) zs ≡ needed P E zs) (sym none) (none_marked (drop n kept));
    }

pub next_keeping : (m : List Name) (P E : List Name) (ws : List Wire) (r : ℕ) (read kept new after : List Bool) → m ≡ names_of ws
    → AreDistinct (names_of ws) → 0 < r → Keeping m P E ws r read kept → after ≡ set kept (r - 1) (is_marked read (r - 1))
    → ((w : Wire) → w ≡ get_or ws (r - 1) w → Marks m (if is_marked read (r - 1) then right_reads w.right else []) read new) → Keeping m P E ws (r - 1) new after
next_keeping m P E ws r read kept new after i d p h q g =
    let k = r - 1 in
    let rest = drop r ws in
    let ks = needed P E rest in
    let within = h.within in
    let l : k < length ws = omega (arith, within) in
    let s : suc k ≡ r = omega (arith, p) in
    let there = wire_at ws k l in
    let w = there.0 in
    let e = there.1 in
    let t : drop k ws ≡ w ∷ rest = drop_less ws r w p within e in
    let long : length (names_of ws) ≡ length ws = length-map ws (λ (x : Wire). x.name) in
    let b : is_marked read k ≡ is_needed P E w ks = h.reads k l ∙ is_needed_at m P E ws ks k w i d (subst (λ (n : ℕ). k < n) (sym long) l) e l in
    let f = subst (λ (c : Bool). Marks m (if c then right_reads w.right else []) read new) b (g w e) in
    let there_kept : marked (drop (suc k) kept) rest ≡ ks = subst (λ (n : ℕ). marked (drop n kept) rest ≡ ks) (sym s) h.keeps in
    let now = kept_next P E kept k w rest (is_marked read k) (subst (λ (n : ℕ). k < n) (sym h.kept_long) l) b there_kept in
    record {
      within = omega (arith, within);
      long = f.long ∙ h.long;
      kept_long = ap (λ (cs : List Bool). length cs) q ∙ length-set kept k (is_marked read k) ∙ h.kept_long;
      reads = λ j lj.
          subst (λ (zs : List Wire). is_marked new j ≡ has_place m (wire_reads (needed P E zs) ++ (P ++ E)) j) (sym t)
          (read_next m P E w ks read new f j (subst (λ (n : ℕ). j < n) (sym h.long) lj) (h.reads j lj));
      keeps = subst (λ (zs : List Wire). marked (drop k after) zs ≡ needed P E zs) (sym t)
          (subst (λ (cs : List Bool). marked (drop k cs) (w ∷ rest) ≡ needed P E (w ∷ rest)) (sym q) now);
    }

pub all_kept : (m : List Name) (n : Net) (ws : List Wire) (r : ℕ) (read kept : List Bool) → ws ≡ n.wires → r ≡ 0
    → Keeping m (port_names n) (edge_reads n) ws r read kept → MarksNeeded n kept
all_kept m n ws r read kept e z h =
    let P = port_names n in
    let E = edge_reads n in
    let k : marked kept ws ≡ needed P E ws = subst (λ (j : ℕ). marked (drop j kept) (drop j ws) ≡ needed P E (drop j ws)) z h.keeps in
    record {
      long = h.kept_long ∙ ap (λ (xs : List Wire). length xs) e;
      needed = subst (λ (xs : List Wire). marked kept xs ≡ needed P E xs) e k;
    }

-- A vector of marks after all of it was lent.

abbrev pub written : (new old : List Bool) (count : ℕ) → List Bool
written new old count = take count (new ++ drop (length new) old)

pub whole_back : (new old : List Bool) (count : ℕ) → length new ≡ length old → count ≡ length old → written new old count ≡ new
whole_back new old count e l =
    subst (λ (k : ℕ). take k (new ++ drop (length new) old) ≡ new) (e ∙ sym l) (take-append_seam new (drop (length new) old))

-- one more wire, kept or not

push_at : (bs : List Bool) (ws : List Wire) (k : ℕ) (w : Wire) → length bs ≡ length ws → k < length ws → w ≡ get_or ws k w
    → marked bs (take (suc k) ws) ≡ marked bs (take k ws) ++ marked (is_marked bs k ∷ []) (w ∷ [])
push_at bs [] k w n l e = absurd (omega (arith, l))
push_at [] (v ∷ ws) k w n l e = absurd (omega (arith, n))
push_at (c ∷ bs) (v ∷ ws) zero w n l e =
    ap₂ (λ (x : Wire) (xs : List Wire). if c then x ∷ xs else xs) (sym e) (none_marked bs)
push_at (c ∷ bs) (v ∷ ws) (suc k) w n l e =
    let r = push_at bs ws k w (omega (arith, n)) (omega (arith, l)) e in
    elim (cases_Bool c) [ inl t ↦ rw t (ap (λ (xs : List Wire). v ∷ xs) r) | inr u ↦ rw u r ]

pub marked_push : (bs : List Bool) (ws : List Wire) (k : ℕ) (w : Wire) → length bs ≡ length ws → k < length ws → w ≡ get_or ws k w
    → marked bs (take (k + 1) ws) ≡ marked bs (take k ws) ++ marked (is_marked bs k ∷ []) (w ∷ [])
marked_push bs ws k w n l e =
    let s : suc k ≡ k + 1 = omega arith in
    subst (λ (j : ℕ). marked bs (take j ws) ≡ marked bs (take k ws) ++ marked (is_marked bs k ∷ []) (w ∷ [])) s (push_at bs ws k w n l e)

-- what the ends of a netlist read
pub ends_marked : (m : List Name) (n : Net) (ps : List Port) (rs : List Register) (ms : List Memory) (a b c d : List Bool) → ps ≡ n.ports → rs ≡ n.registers → ms ≡ n.memories
    → Marks m (map (λ p. p.name) ps) a b → Marks m (register_reads rs) b c → Marks m (memory_reads ms) c d → Marks m (port_names n ++ edge_reads n) a d
ends_marked m n ps rs ms a b c d p r q f g h =
    let f' = subst (λ (xs : List Port). Marks m (map (λ p. p.name) xs) a b) p f in
    let g' = subst (λ (xs : List Register). Marks m (register_reads xs) b c) r g in
    let h' = subst (λ (xs : List Memory). Marks m (memory_reads xs) c d) q h in
    marks_both m (port_names n) (edge_reads n) a b d f' (marks_both m (register_reads n.registers) (memory_reads n.memories) b c d g' h')

-- what one more part reads

pub marks_more : {A : Type 0} (reads : List A → List Name) (own : A → List Name) → ((xs : List A) (x : A) → reads (xs ++ x ∷ []) ≡ reads xs ++ own x)
    → (m : List Name) (xs : List A) (k : ℕ) (x : A) (a b c : List Bool) → k < length xs → x ≡ get_or xs k x
    → Marks m (reads (take k xs)) a b → Marks m (own x) b c → Marks m (reads (take (k + 1) xs)) a c
marks_more reads own push m xs k x a b c l e f g =
    let taken : take (k + 1) xs ≡ take k xs ++ x ∷ [] = take_more xs k x l ∙ ap (λ y. take k xs ++ y ∷ []) (sym e) in
    subst (λ (ns : List Name). Marks m ns a c) (sym (ap reads taken ∙ push (take k xs) x)) (marks_both m (reads (take k xs)) (own x) a b c f g)

pub ports_push : (ps : List Port) (p : Port) → map (λ x. x.name) (ps ++ p ∷ []) ≡ map (λ x. x.name) ps ++ p.name ∷ []
ports_push ps p = map-append (λ (x : Port). x.name) ps (p ∷ [])

reads_push : {A : Type 0} (own : A → List Name) (xs : List A) (x : A) → flat_map own (xs ++ x ∷ []) ≡ flat_map own xs ++ own x
reads_push own xs x = flat_map-append own xs (x ∷ []) ∙ ap (λ (ns : List Name). flat_map own xs ++ ns) (append-nil (own x))

pub operands_push : (os : List Operand) (o : Operand) → operands_reads (os ++ o ∷ []) ≡ operands_reads os ++ operand_reads o
operands_push os o = reads_push operand_reads os o

pub edges_push : (rs : List Register) (r : Register) → register_reads (rs ++ r ∷ []) ≡ register_reads rs ++ operand_reads r.next
edges_push rs r = reads_push (λ (x : Register). operand_reads x.next) rs r

abbrev pub writes : Memory → List Name
writes m = operand_reads m.enable ++ (operand_reads m.index ++ operand_reads m.value)

pub writes_push : (ms : List Memory) (m : Memory) → memory_reads (ms ++ m ∷ []) ≡ memory_reads ms ++ (operand_reads m.enable ++ (operand_reads m.index ++ operand_reads m.value))
writes_push [] m = ap (λ (ns : List Name). operand_reads m.enable ++ (operand_reads m.index ++ ns)) (append-nil (operand_reads m.value))
writes_push (x ∷ ms) m =
    let a = operand_reads x.enable in
    let b = operand_reads x.index in
    let c = operand_reads x.value in
    let rest = memory_reads ms in
    ap (λ (ns : List Name). a ++ (b ++ (c ++ ns))) (writes_push ms m)
    ∙ ap (λ (ns : List Name). a ++ (b ++ ns)) (sym (append_assoc c rest (writes m)))
    ∙ ap (λ (ns : List Name). a ++ ns) (sym (append_assoc b (c ++ rest) (writes m)))
    ∙ sym (append_assoc a (b ++ (c ++ rest)) (writes m))
