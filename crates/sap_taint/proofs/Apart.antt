-- What is no register of a netlist is none of its tainted form, and nor is its tag.
use Rattle.sap_lemmas.proofs.Common.{◌≡◌, ℕ, List, [], ◌∷◌, ◌++◌, map, Option, Some, None, true, ◌⊎◌, sym, ◌∙◌, ap, subst, refl, inl, inr, bytes_eq, cases_Bool, or_right, or_cases, equal_of_bytes_eq}
use Rattle.sap_maps.specs.Prelude.{Name, Scope, find}
use Rattle.sap_net.specs.Prelude.{Net, is_among, AreDistinct, Shapes, AreValues, AreWires, readable_after, IsNetlist, readable, first_readable, shapes, input_names, names_of, wire_names, register_names, memory_names}
use Rattle.sap_net.specs.declared.parts.Operand.{Operand}
use Rattle.sap_net.specs.declared.parts.Input.{Input}
use Rattle.sap_net.specs.declared.parts.Wire.{Wire}
use Rattle.sap_net.specs.declared.parts.Register.{Register}
use Rattle.sap_net.proofs.NamesLemmas.{among_here, among_append, among_front, among_behind, found_of, found_among}
use Rattle.sap_taint.specs.TagNames.{name_of_tag, HasRoomForTags}
use Rattle.sap_taint.specs.TaggedForm.{HasTaggedForm}
use Rattle.sap_taint.proofs.Clashes.{apart_from_tags, tags_distinct}

-- a name that is read is declared
read_name : (ws : List Wire) (sc : Scope) (x : Name) (k : ℕ) → find (readable_after sc ws) x ≡ Some k → (is_among x (names_of ws) ≡ true) ⊎ (find sc x ≡ Some k)
read_name [] sc x k h = inr h
read_name (w ∷ ws) sc x k h =
    elim (read_name ws ((w.name, w.width) ∷ sc) x k h) [
      | inl a ↦ inl (or_right (bytes_eq x w.name) (is_among x (names_of ws)) a)
      | inr g ↦ elim (cases_Bool (bytes_eq w.name x)) [
        | inl t ↦ inl (subst (λ (y : Name). is_among y (w.name ∷ names_of ws) ≡ true) (equal_of_bytes_eq w.name x t) (among_here w.name (names_of ws)))
        | inr f ↦ inr (rw f at g)
      ]
    ]

first_name : (is : List Input) (rs : List Register) (x : Name) (k : ℕ) → find (map (λ i. (i.name, i.width)) is ++ map (λ r. (r.name, r.width)) rs) x ≡ Some k
    → (is_among x (map (λ i. i.name) is) ≡ true) ⊎ (is_among x (map (λ r. r.name) rs) ≡ true)
first_name [] rs x k h = inr (found_among (λ r. r.name) (λ r. r.width) rs x k h)
first_name (i ∷ is) rs x k h =
    elim (cases_Bool (bytes_eq i.name x)) [
      | inl t ↦ inl (subst (λ (y : Name). is_among y (i.name ∷ map (λ i. i.name) is) ≡ true) (equal_of_bytes_eq i.name x t) (among_here i.name _))
      | inr f ↦ elim (first_name is rs x k (rw f at h)) [
        | inl a ↦ inl (or_right (bytes_eq x i.name) _ a)
        | inr b ↦ inr b
      ]
    ]

in_first : (x : Name) (a b c d : List Name) → is_among x a ≡ true → is_among x (a ++ b ++ c ++ d) ≡ true
in_first x a b c d h = among_front x (a ++ b ++ c) d (among_front x (a ++ b) c (among_front x a b h))

in_second : (x : Name) (a b c d : List Name) → is_among x b ≡ true → is_among x (a ++ b ++ c ++ d) ≡ true
in_second x a b c d h = among_front x (a ++ b ++ c) d (among_front x (a ++ b) c (among_behind x a b h))

in_third : (x : Name) (a b c d : List Name) → is_among x c ≡ true → is_among x (a ++ b ++ c ++ d) ≡ true
in_third x a b c d h = among_front x (a ++ b ++ c) d (among_behind x (a ++ b) c h)

in_fourth : (x : Name) (a b c d : List Name) → is_among x d ≡ true → is_among x (a ++ b ++ c ++ d) ≡ true
in_fourth x a b c d h = among_behind x (a ++ b ++ c) d h

register_declared : (n : Net) → IsNetlist n → (x : Name) → is_among x (register_names n) ≡ true → is_among x n.names ≡ true
register_declared n rules x h = rules.declared x ∙ in_third x (input_names n) (wire_names n) (register_names n) (memory_names n) h

memory_declared : (n : Net) → IsNetlist n → (x : Name) → is_among x (memory_names n) ≡ true → is_among x n.names ≡ true
memory_declared n rules x h = rules.declared x ∙ in_fourth x (input_names n) (wire_names n) (register_names n) (memory_names n) h

read_declared : (n : Net) → IsNetlist n → (x : Name) (k : ℕ) → find (readable n) x ≡ Some k → is_among x n.names ≡ true
read_declared n rules x k h =
    elim (read_name n.wires (first_readable n) x k h) [
      | inl a ↦ rules.declared x ∙ in_second x (input_names n) (wire_names n) (register_names n) (memory_names n) a
      | inr g ↦ elim (first_name n.inputs n.registers x k g) [
        | inl a ↦ rules.declared x ∙ in_first x (input_names n) (wire_names n) (register_names n) (memory_names n) a
        | inr b ↦ register_declared n rules x b
      ]
    ]

-- a name that is read is no memory's
no_memory_first : (ms : Shapes) (es : Scope) → AreValues ms es → (x : Name) (k : ℕ) → find es x ≡ Some k → find ms x ≡ None
no_memory_first ms [] rules x k h = absurd (cc)
no_memory_first ms (e ∷ es) rules x k h =
    elim (cases_Bool (bytes_eq e.0 x)) [
      | inl t ↦ subst (λ (y : Name). find ms y ≡ None) (equal_of_bytes_eq e.0 x t) rules.2
      | inr f ↦ no_memory_first ms es rules.3 x k (rw f at h)
    ]

no_memory : (ms : Shapes) (ws : List Wire) (sc : Scope) → AreWires ms sc ws → ((x : Name) (k : ℕ) → find sc x ≡ Some k → find ms x ≡ None)
    → (x : Name) (k : ℕ) → find (readable_after sc ws) x ≡ Some k → find ms x ≡ None
no_memory ms [] sc rules a x k h = a x k h
no_memory ms (w ∷ ws) sc rules a x k h =
    no_memory ms ws ((w.name, w.width) ∷ sc) rules.4
    (λ y j g. elim (cases_Bool (bytes_eq w.name y)) [
      | inl t ↦ subst (λ (z : Name). find ms z ≡ None) (equal_of_bytes_eq w.name y t) rules.2
      | inr f ↦ a y j (rw f at g)
    ])
    x k h

-- a tag on a list of tags is that of a name
pub of_whom : (x : Name) (ys : List Name) → is_among x (map name_of_tag ys) ≡ true → (y : Name) × (is_among y ys ≡ true) × (x ≡ name_of_tag y)
of_whom x [] h = absurd (cc)
of_whom x (y ∷ ys) h =
    elim (cases_Bool (bytes_eq x (name_of_tag y))) [
      | inl t ↦ (y, among_here y ys, equal_of_bytes_eq x (name_of_tag y) t)
      | inr f ↦ (let r = of_whom x ys (rw f at h) in (r.0, or_right (bytes_eq r.0 y) (is_among r.0 ys) r.1, r.2))
    ]

pub tag_among : (x : Name) (ys : List Name) → is_among x ys ≡ true → is_among (name_of_tag x) (map name_of_tag ys) ≡ true
tag_among x [] h = absurd (cc)
tag_among x (y ∷ ys) h =
    elim (cases_Bool (bytes_eq x y)) [
      | inl t ↦ subst (λ (z : Name). is_among (name_of_tag x) (map name_of_tag (z ∷ ys)) ≡ true) (equal_of_bytes_eq x y t) (among_here (name_of_tag x) (map name_of_tag ys))
      | inr f ↦ or_right (bytes_eq (name_of_tag x) (name_of_tag y)) _ (tag_among x ys (rw f at h))
    ]

-- different names have different tags
pub one_tag_each : (xs : List Name) → AreDistinct (map name_of_tag xs) → (x y : Name) → is_among x xs ≡ true → is_among y xs ≡ true → name_of_tag x ≡ name_of_tag y → x ≡ y
one_tag_each [] d x y a b e = absurd (cc)
one_tag_each (z ∷ zs) d x y a b e =
    elim (cases_Bool (bytes_eq x z)) [
      | inl t ↦ elim (cases_Bool (bytes_eq y z)) [
        | inl u ↦ equal_of_bytes_eq x z t ∙ sym (equal_of_bytes_eq y z u)
        | inr g ↦ absurd (
            let i : name_of_tag y ≡ name_of_tag z = sym e ∙ ap name_of_tag (equal_of_bytes_eq x z t) in
            let j : is_among (name_of_tag z) (map name_of_tag zs) ≡ true = subst (λ (q : Name). is_among q (map name_of_tag zs) ≡ true) i (tag_among y zs (rw g at b)) in
            let k = d.0 in cc)
      ]
      | inr f ↦ elim (cases_Bool (bytes_eq y z)) [
        | inl u ↦ absurd (
            let i : name_of_tag x ≡ name_of_tag z = e ∙ ap name_of_tag (equal_of_bytes_eq y z u) in
            let j : is_among (name_of_tag z) (map name_of_tag zs) ≡ true = subst (λ (q : Name). is_among q (map name_of_tag zs) ≡ true) i (tag_among x zs (rw f at a)) in
            let k = d.0 in cc)
        | inr g ↦ one_tag_each zs d.1 x y (rw f at a) (rw g at b) e
      ]
    ]

-- a tag's name is no declared name
pub no_tag : (n : Net) → HasRoomForTags n → (x y : Name) → is_among x n.names ≡ true → is_among y n.names ≡ true → x ≡ name_of_tag y → ⊥
no_tag n free x y a b e =
    let f = apart_from_tags n.names free.distinct x a in
    let g : is_among x (map name_of_tag n.names) ≡ true = subst (λ (q : Name). is_among q (map name_of_tag n.names) ≡ true) (sym e) (tag_among y n.names b) in
    cc

-- of registers and memories
either_declared : (n : Net) → IsNetlist n → (y : Name) → is_among y (register_names n ++ memory_names n) ≡ true
    → (is_among y (register_names n) ≡ true) ⊎ (is_among y (memory_names n) ≡ true)
either_declared n rules y h = or_cases (is_among y (register_names n)) (is_among y (memory_names n)) (sym (among_append y (register_names n) (memory_names n)) ∙ h)

declared_of : (n : Net) → IsNetlist n → (y : Name) → is_among y (register_names n ++ memory_names n) ≡ true → is_among y n.names ≡ true
declared_of n rules y h = elim (either_declared n rules y h) [ inl a ↦ register_declared n rules y a | inr b ↦ memory_declared n rules y b ]

abbrev Nexts : Net → List (Name × Operand)
Nexts n = map (λ r. (r.name, r.next)) n.registers

no_register : (n : Net) (x : Name) → find (Nexts n) x ≡ None → is_among x (register_names n) ≡ true → ⊥
no_register n x none a = let f = found_of (λ r. r.name) (λ r. r.next) n.registers x a in let g = f.1 in cc

no_memory_name : (n : Net) (x : Name) → find (shapes n) x ≡ None → is_among x (memory_names n) ≡ true → ⊥
no_memory_name n x none a =
    let f : (s : ℕ × ℕ) × (find (shapes n) x ≡ Some s) = found_of (λ m. m.name) (λ m. (m.width, m.depth)) n.memories x a in
    let g = f.1 in
    cc

-- in the tainted form a register is one of n, or a tag of a register or a memory
whose : (w : ℕ) (n m : Net) → HasTaggedForm w n m → (y : Name) (o : Operand) → find (Nexts m) y ≡ Some o
    → (is_among y (register_names n) ≡ true) ⊎ (is_among y (map name_of_tag (register_names n ++ memory_names n)) ≡ true)
whose w n m form y o h =
    or_cases (is_among y (register_names n)) (is_among y (map name_of_tag (register_names n ++ memory_names n)))
    (sym (among_append y (register_names n) (map name_of_tag (register_names n ++ memory_names n))) ∙ sym (form.registers y)
    ∙ found_among (λ r. r.name) (λ r. r.next) m.registers y o h)

none_unless : {A : Type 0} (o : Option A) → ((a : A) → o ≡ Some a → ⊥) → o ≡ None
none_unless None f = refl
none_unless (Some a) f = absurd (f a refl)

pub stays_apart : (w : ℕ) (n m : Net) → IsNetlist n → HasRoomForTags n → HasTaggedForm w n m → (x : Name) (k : ℕ) → find (readable n) x ≡ Some k
    → find (map (λ r. (r.name, r.next)) n.registers) x ≡ None
    → (find (map (λ r. (r.name, r.next)) m.registers) x ≡ None) × (find (map (λ r. (r.name, r.next)) m.registers) (name_of_tag x) ≡ None)
stays_apart w n m rules free form x k read none =
    let declared = read_declared n rules x k read in (
      none_unless (find (Nexts m) x) (λ o h. elim (whose w n m form x o h) [
        | inl a ↦ no_register n x none a
        | inr b ↦ (let r = of_whom x (register_names n ++ memory_names n) b in no_tag n free x r.0 declared (declared_of n rules r.0 r.1) r.2)
      ]),
      none_unless (find (Nexts m) (name_of_tag x)) (λ o h. elim (whose w n m form (name_of_tag x) o h) [
        | inl a ↦ no_tag n free (name_of_tag x) x (register_declared n rules (name_of_tag x) a) declared refl
        | inr b ↦ (
            let r = of_whom (name_of_tag x) (register_names n ++ memory_names n) b in
            let e = one_tag_each n.names (tags_distinct n.names free.distinct) x r.0 declared (declared_of n rules r.0 r.1) r.2 in
            elim (either_declared n rules r.0 r.1) [
              | inl c ↦ no_register n x none (subst (λ (q : Name). is_among q (register_names n) ≡ true) (sym e) c)
              | inr d ↦
                  no_memory_name n x (no_memory (shapes n) n.wires (first_readable n) rules.assigns (no_memory_first (shapes n) (first_readable n) rules.values) x k read)
                  (subst (λ (q : Name). is_among q (memory_names n) ≡ true) (sym e) d)
            ])
      ]),
    )
