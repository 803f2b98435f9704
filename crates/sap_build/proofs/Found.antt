-- What is found of a name is found of its copy.
use Rattle.sap_lemmas.proofs.Common.{◌≡◌, ℕ, List, [], ◌∷◌, ◌++◌, map, Some, true, false, ap, ◌∙◌, subst, refl, inl, inr, bytes_eq, option_map, AllByRecursion, cases_Bool, or_right, all_append, bytes_eq_same, equal_of_bytes_eq}
use Rattle.sap_maps.specs.Prelude.{Name, Scope, find}
use Rattle.sap_net.specs.Prelude.{Net, is_among, readable_after, IsNetlist, input_names, wire_names, register_names, memory_names, names_of, first_readable, readable, shapes}
use Rattle.sap_net.specs.declared.parts.Input.{Input}
use Rattle.sap_net.specs.declared.parts.Wire.{Wire}
use Rattle.sap_net.specs.declared.parts.Register.{Register}
use Rattle.sap_net.specs.declared.parts.Memory.{Memory}
use Rattle.sap_net.proofs.NamesLemmas.{among_front, among_behind}
use Rattle.sap_build.specs.Copies.{copy_input, copy_wire, copy_register, copy_memory, copy_net, IsOneToOne}

-- entries under other names, with other things
abbrev pub copied : {X Y : Type 0} → (Name → Name) → (X → Y) → List (Name × X) → List (Name × Y)
copied f g es = map (λ e. (f e.0, g e.1)) es

-- each entry's name is one of these
abbrev pub AreDeclared : {X : Type 0} → List Name → List (Name × X) → Type 0
AreDeclared ns es = AllByRecursion (λ e. is_among e.0 ns ≡ true) es

pub apart_copied : (f : Name → Name) (ns : List Name) → IsOneToOne f ns → (a b : Name) → is_among a ns ≡ true → is_among b ns ≡ true
    → bytes_eq a b ≡ false → bytes_eq (f a) (f b) ≡ false
apart_copied f ns one a b h k d =
    elim (cases_Bool (bytes_eq (f a) (f b))) [
      | inl t ↦
          let e : a ≡ b = one a b h k (equal_of_bytes_eq (f a) (f b) t) in
          let s : bytes_eq a b ≡ true = subst (λ (y : Name). bytes_eq a y ≡ true) e (bytes_eq_same a) in
          absurd (cc)
      | inr q ↦ q
    ]

pub find_copied : {X Y : Type 0} (f : Name → Name) (g : X → Y) (ns : List Name) → IsOneToOne f ns → (es : List (Name × X))
    → AreDeclared ns es → (x : Name) → is_among x ns ≡ true → find (copied f g es) (f x) ≡ option_map g (find es x)
find_copied f g ns one [] d x h = refl
find_copied f g ns one (e ∷ es) d x h =
    elim (cases_Bool (bytes_eq e.0 x)) [
      | inl t ↦
          let i : bytes_eq (f e.0) (f x) ≡ true = subst (λ (y : Name). bytes_eq (f e.0) (f y) ≡ true) (equal_of_bytes_eq e.0 x t) (bytes_eq_same (f e.0)) in
          rw (t, i) refl
      | inr q ↦
          let i : bytes_eq (f e.0) (f x) ≡ false = apart_copied f ns one e.0 x d.0 h q in
          rw (q, i) (find_copied f g ns one es d.1 x h)
    ]

pub found_declared : {X : Type 0} (ns : List Name) (es : List (Name × X)) → AreDeclared ns es → (x : Name) (u : X) → find es x ≡ Some u → is_among x ns ≡ true
found_declared ns [] d x u h = absurd (cc)
found_declared ns (e ∷ es) d x u h =
    elim (cases_Bool (bytes_eq e.0 x)) [
      | inl t ↦ subst (λ (y : Name). is_among y ns ≡ true) (equal_of_bytes_eq e.0 x t) d.0
      | inr q ↦ found_declared ns es d.1 x u (rw q at h)
    ]

pub found_copied : {X Y : Type 0} (f : Name → Name) (g : X → Y) (ns : List Name) → IsOneToOne f ns → (es : List (Name × X))
    → AreDeclared ns es → (x : Name) (u : X) → find es x ≡ Some u → find (copied f g es) (f x) ≡ Some (g u)
found_copied f g ns one es d x u h = find_copied f g ns one es d x (found_declared ns es d x u h) ∙ ap (option_map g) h

-- all entries of a netlist are declared

abbrev pub AllAmong : List Name → List Name → Type 0
AllAmong xs ns = (x : Name) → is_among x xs ≡ true → is_among x ns ≡ true

pub entries_declared : {X Y : Type 0} (name : Y → Name) (of : Y → X) (ns : List Name) (ys : List Y) → AllAmong (map name ys) ns → AreDeclared ns (map (λ y. (name y, of y)) ys)
entries_declared name of ns [] h = tt
entries_declared name of ns (y ∷ ys) h = (
  h (name y) (rw (bytes_eq_same (name y)) refl),
  entries_declared name of ns ys (λ n a. h n (or_right (bytes_eq n (name y)) (is_among n (map name ys)) a)),
)

after_declared : (ns : List Name) (ws : List Wire) (sc : Scope) → AllAmong (names_of ws) ns → AreDeclared ns sc → AreDeclared ns (readable_after sc ws)
after_declared ns [] sc h d = d
after_declared ns (w ∷ ws) sc h d =
    after_declared ns ws ((w.name, w.width) ∷ sc) (λ n a. h n (or_right (bytes_eq n w.name) (is_among n (names_of ws)) a)) (h w.name (rw (bytes_eq_same w.name) refl), d)

pub inputs_among : (n : Net) → IsNetlist n → AllAmong (input_names n) n.names
inputs_among n rules x h =
    let i = input_names n in
    let w = wire_names n in
    let r = register_names n in
    let m = memory_names n in
    rules.declared x ∙ among_front x ((i ++ w) ++ r) m (among_front x (i ++ w) r (among_front x i w h))

pub wires_among : (n : Net) → IsNetlist n → AllAmong (wire_names n) n.names
wires_among n rules x h =
    let i = input_names n in
    let w = wire_names n in
    let r = register_names n in
    let m = memory_names n in
    rules.declared x ∙ among_front x ((i ++ w) ++ r) m (among_front x (i ++ w) r (among_behind x i w h))

pub registers_among : (n : Net) → IsNetlist n → AllAmong (register_names n) n.names
registers_among n rules x h =
    let i = input_names n in
    let w = wire_names n in
    let r = register_names n in
    let m = memory_names n in
    rules.declared x ∙ among_front x ((i ++ w) ++ r) m (among_behind x (i ++ w) r h)

pub memories_among : (n : Net) → IsNetlist n → AllAmong (memory_names n) n.names
memories_among n rules x h =
    rules.declared x ∙ among_behind x ((input_names n ++ wire_names n) ++ register_names n) (memory_names n) h

pub first_declared : (n : Net) → IsNetlist n → AreDeclared n.names (first_readable n)
first_declared n rules =
    all_append {A = Name × ℕ} (λ e. is_among e.0 n.names ≡ true) (map (λ i. (i.name, i.width)) n.inputs) (map (λ r. (r.name, r.width)) n.registers)
    (entries_declared {X = ℕ} (λ (i : Input). i.name) (λ i. i.width) n.names n.inputs (inputs_among n rules))
    (entries_declared {X = ℕ} (λ (r : Register). r.name) (λ r. r.width) n.names n.registers (registers_among n rules))

pub readable_declared : (n : Net) → IsNetlist n → AreDeclared n.names (readable n)
readable_declared n rules = after_declared n.names n.wires (first_readable n) (wires_among n rules) (first_declared n rules)

pub shapes_declared : (n : Net) → IsNetlist n → AreDeclared n.names (shapes n)
shapes_declared n rules = entries_declared {X = ℕ × ℕ} (λ (m : Memory). m.name) (λ m. (m.width, m.depth)) n.names n.memories (memories_among n rules)

-- what a copy declares

first_copied : (f : Name → Name) (is : List Input) (rs : List Register)
    → map {B = Name × ℕ} (λ i. (i.name, i.width)) (map (copy_input f) is) ++ map {B =
    Name × ℕ} (λ r. (r.name, r.width)) (map (copy_register f) rs) ≡ copied f (λ (u : ℕ). u) (map (λ i. (i.name, i.width)) is ++ map (λ r. (r.name, r.width)) rs)
first_copied f [] [] = refl
first_copied f [] (r ∷ rs) = ap (λ es. (f r.name, r.width) ∷ es) (first_copied f [] rs)
first_copied f (i ∷ is) rs = ap (λ es. (f i.name, i.width) ∷ es) (first_copied f is rs)

after_copied : (f : Name → Name) (ws : List Wire) (sc : Scope) → readable_after (copied f (λ (u : ℕ). u) sc) (map (copy_wire f) ws) ≡ copied f (λ (u : ℕ). u) (readable_after sc ws)
after_copied f [] sc = refl
after_copied f (w ∷ ws) sc = after_copied f ws ((w.name, w.width) ∷ sc)

pub first_readable_copied : (module_name : Name) (f : Name → Name) (n : Net) → first_readable (copy_net module_name f n) ≡ copied f (λ (u : ℕ). u) (first_readable n)
first_readable_copied module_name f n = first_copied f n.inputs n.registers

pub readable_copied : (module_name : Name) (f : Name → Name) (n : Net) → readable (copy_net module_name f n) ≡ copied f (λ (u : ℕ). u) (readable n)
readable_copied module_name f n =
    ap (λ (sc : Scope). readable_after sc (map (copy_wire f) n.wires)) (first_copied f n.inputs n.registers) ∙ after_copied f n.wires (first_readable n)

-- entries of copies are copies of entries
pub entries_copied : {X Y Z : Type 0} (f : Name → Name) (copy : Z → Z) (name : Z → Name) (of : Z → X) (of_copy : Z → Y) (g : X
    → Y) (zs : List Z) → ((z : Z) → name (copy z) ≡ f (name z)) → ((z : Z) → of_copy (copy z) ≡ g (of z))
    → map {B = Name × Y} (λ z. (name z, of_copy z)) (map copy zs) ≡ copied f g (map (λ z. (name z, of z)) zs)
entries_copied f copy name of of_copy g [] h k = refl
entries_copied f copy name of of_copy g (z ∷ zs) h k =
    let a = h z in
    let b = k z in
    let r = entries_copied f copy name of of_copy g zs h k in
    cc

pub shapes_copied : (module_name : Name) (f : Name → Name) (n : Net) → shapes (copy_net module_name f n) ≡ copied f (λ (s : ℕ × ℕ). s) (shapes n)
shapes_copied module_name f n =
    entries_copied {X = ℕ × ℕ} {Y = ℕ × ℕ} f (copy_memory f) (λ m. m.name) (λ m. (m.width, m.depth)) (λ m. (m.width, m.depth)) (λ s. s) n.memories (λ m. refl) (λ m. refl)
