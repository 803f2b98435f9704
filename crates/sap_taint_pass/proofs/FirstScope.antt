-- What can be read from the start: names and their tags.
use Rattle.sap_lemmas.proofs.Common.{◌≡◌, ℕ, ◌+◌, List, [], ◌∷◌, ◌++◌, map, Some, None, true, ap, sym, ◌∙◌, subst, refl, inl, inr, bytes_eq, AllByRecursion, cases_Bool, bytes_eq_same, equal_of_bytes_eq, bytes_eq_apart_back}
use Rattle.sap_maps.specs.Prelude.{Name, Scope, find}
use Rattle.sap_maps.proofs.Scopes.{not_first, not_behind}
use Rattle.sap_net.specs.Prelude.{Net, is_among, AreDistinct, Shapes, IsWidth, AreValues, AreMemories, first_readable, shapes}
use Rattle.sap_net.specs.declared.parts.Input.{Input}
use Rattle.sap_net.specs.declared.parts.Register.{Register}
use Rattle.sap_net.specs.declared.parts.Memory.{Memory}
use Rattle.sap_taint.specs.TagNames.{name_of_tag, with_tags}
use Rattle.sap_taint.specs.TaggedForm.{tagged_inputs}
use Rattle.sap_taint_pass.specs.Tainted.{in_order, found_first, tagged_registers, memory_tags}
use Rattle.sap_taint.proofs.Apart.{tag_among}
use Rattle.sap_build.proofs.Found.{AreDeclared, first_declared, shapes_declared}
use Rattle.sap_taint_pass.proofs.InOrder.{by_name, name_found, cases_found, not_ordered, still_found}
use Rattle.sap_taint_pass.proofs.Setting.{Setting, IsDeclared, name_with_tags, tag_with_tags, tag_apart, name_apart, tags_apart, not_declared, tag_no_memory}

abbrev pub input_entries : List Input → Scope
input_entries is = map (λ i. (i.name, i.width)) is

abbrev pub register_entries : List Register → Scope
register_entries rs = map (λ r. (r.name, r.width)) rs

abbrev pub memory_entries : List Memory → Shapes
memory_entries ms = map (λ m. (m.name, (m.width, m.depth))) ms

-- each name with its tag behind it, and tags of memories
abbrev pub tagged_entries : (w : ℕ) → Scope → Scope
tagged_entries w [] = []
tagged_entries w (e ∷ es) = e ∷ (name_of_tag e.0, w) ∷ tagged_entries w es

abbrev pub tag_entries : (w : ℕ) → List Memory → Scope
tag_entries w ms = map (λ m. (name_of_tag m.name, w)) ms

abbrev pub all_entries : (w : ℕ) → Net → Scope
all_entries w n = tagged_entries w (first_readable n) ++ tag_entries w n.memories

gathered_memories : (helping : ℕ → Name) (w k : ℕ) (ms : List Memory) → register_entries (memory_tags helping w k ms) ≡ tag_entries w ms
gathered_memories helping w k [] = refl
gathered_memories helping w k (m ∷ ms) = ap (λ es. (name_of_tag m.name, w) ∷ es) (gathered_memories helping w (k + 4) ms)

pub gathered_registers : (helping : ℕ → Name) (w k : ℕ) (rs : List Register) (ms : List Memory)
    → register_entries (tagged_registers w rs ++ memory_tags helping w k ms) ≡ tagged_entries w (register_entries rs) ++ tag_entries w ms
gathered_registers helping w k [] ms = gathered_memories helping w k ms
gathered_registers helping w k (r ∷ rs) ms = ap (λ es. (r.name, r.width) ∷ (name_of_tag r.name, w) ∷ es) (gathered_registers helping w k rs ms)

pub gathered : (helping : ℕ → Name) (w k : ℕ) (is : List Input) (rs : List Register) (ms : List Memory)
    → input_entries (tagged_inputs w is) ++ register_entries (tagged_registers w rs ++ memory_tags helping w k ms)
    ≡ tagged_entries w (input_entries is ++ register_entries rs) ++ tag_entries w ms
gathered helping w k [] rs ms = gathered_registers helping w k rs ms
gathered helping w k (i ∷ is) rs ms = ap (λ es. (i.name, i.width) ∷ (name_of_tag i.name, w) ∷ es) (gathered helping w k is rs ms)

-- names are found as they were

no_tag_entry : (helping : ℕ → Name) (w : ℕ) (n : Net) → Setting helping w n → (ms : List Memory) → AreDeclared n.names (memory_entries ms)
    → (y : Name) → IsDeclared n y → find (tag_entries w ms) y ≡ None
no_tag_entry helping w n s [] d y a = refl
no_tag_entry helping w n s (m ∷ ms) d y a = rw (tag_apart helping w n s m.name y d.0 a) (no_tag_entry helping w n s ms d.1 y a)

pub name_entry : (helping : ℕ → Name) (w : ℕ) (n : Net) → Setting helping w n → (es : Scope) → AreDeclared n.names es → (y : Name) → IsDeclared n y
    → find (tagged_entries w es ++ tag_entries w n.memories) y ≡ find es y
name_entry helping w n s [] d y a = no_tag_entry helping w n s n.memories (shapes_declared n s.rules) y a
name_entry helping w n s (e ∷ es) d y a =
    elim (cases_Bool (bytes_eq e.0 y)) [
      | inl t ↦ rw t refl
      | inr f ↦ rw (f, tag_apart helping w n s e.0 y d.0 a) (name_entry helping w n s es d.1 y a)
    ]

-- tags are found with theirs

pub memory_tag_entry : (helping : ℕ → Name) (w : ℕ) (n : Net) → Setting helping w n → (ms : List Memory)
    → AreDeclared n.names (memory_entries ms) → (y : Name) → IsDeclared n y → (q : ℕ × ℕ)
    → find (memory_entries ms) y ≡ Some q → find (tag_entries w ms) (name_of_tag y) ≡ Some w
memory_tag_entry helping w n s [] d y a q h = absurd (cc)
memory_tag_entry helping w n s (m ∷ ms) d y a q h =
    elim (cases_Bool (bytes_eq m.name y)) [
      | inl t ↦ (
          let e : bytes_eq (name_of_tag m.name) (name_of_tag y) ≡ true =
          subst (λ (z : Name). bytes_eq (name_of_tag m.name) (name_of_tag z) ≡ true) (equal_of_bytes_eq m.name y t) (bytes_eq_same (name_of_tag m.name)) in
          rw e refl)
      | inr f ↦ rw (tags_apart helping w n s m.name y d.0 a f) (memory_tag_entry helping w n s ms d.1 y a q (rw f at h))
    ]

pub no_memory_tag : (helping : ℕ → Name) (w : ℕ) (n : Net) → Setting helping w n → (ms : List Memory) → AreDeclared n.names (memory_entries ms) → (y : Name) → IsDeclared n y
    → find (memory_entries ms) y ≡ None → find (tag_entries w ms) (name_of_tag y) ≡ None
no_memory_tag helping w n s [] d y a h = refl
no_memory_tag helping w n s (m ∷ ms) d y a h =
    rw (tags_apart helping w n s m.name y d.0 a (bytes_eq_apart_back y m.name (not_first (m.name, (m.width, m.depth)) (memory_entries ms) y h)))
    (no_memory_tag helping w n s ms d.1 y a (not_behind (m.name, (m.width, m.depth)) (memory_entries ms) y h))

pub no_tag_found : (helping : ℕ → Name) (w : ℕ) (n : Net) → Setting helping w n → (es : Scope) → AreDeclared n.names es → (y : Name) → IsDeclared n y → find es y ≡ None
    → find (tagged_entries w es ++ tag_entries w n.memories) (name_of_tag y) ≡ find (tag_entries w n.memories) (name_of_tag y)
no_tag_found helping w n s [] d y a h = refl
no_tag_found helping w n s (e ∷ es) d y a h =
    rw (name_apart helping w n s e.0 y d.0 a, tags_apart helping w n s e.0 y d.0 a (bytes_eq_apart_back y e.0 (not_first e es y h)))
    (no_tag_found helping w n s es d.1 y a (not_behind e es y h))

pub tag_found : (helping : ℕ → Name) (w : ℕ) (n : Net) → Setting helping w n → (es : Scope) → AreDeclared n.names es → (y : Name) → IsDeclared n y → (u : ℕ) → find es y ≡ Some u
    → find (tagged_entries w es ++ tag_entries w n.memories) (name_of_tag y) ≡ Some w
tag_found helping w n s [] d y a u h = absurd (cc)
tag_found helping w n s (e ∷ es) d y a u h =
    elim (cases_Bool (bytes_eq e.0 y)) [
      | inl t ↦ (
          let g : bytes_eq (name_of_tag e.0) (name_of_tag y) ≡ true =
          subst (λ (z : Name). bytes_eq (name_of_tag e.0) (name_of_tag z) ≡ true) (equal_of_bytes_eq e.0 y t) (bytes_eq_same (name_of_tag e.0)) in
          rw (name_apart helping w n s e.0 y d.0 a, g) refl)
      | inr f ↦ rw (name_apart helping w n s e.0 y d.0 a, tags_apart helping w n s e.0 y d.0 a f) (tag_found helping w n s es d.1 y a u (rw f at h))
    ]

-- and nothing else is

pub entries_declared : (w : ℕ) (ns : List Name) (es : Scope) (bs : Scope) → AreDeclared ns es → AreDeclared (with_tags ns) bs
    → AreDeclared (with_tags ns) (tagged_entries w es ++ bs)
entries_declared w ns [] bs d b = b
entries_declared w ns (e ∷ es) bs d b =
    (name_with_tags e.0 ns d.0, (tag_with_tags (name_of_tag e.0) ns (tag_among e.0 ns d.0), entries_declared w ns es bs d.1 b))

pub tags_declared : (w : ℕ) (ns : List Name) (ms : List Memory) → AreDeclared ns (memory_entries ms) → AreDeclared (with_tags ns) (tag_entries w ms)
tags_declared w ns [] d = tt
tags_declared w ns (m ∷ ms) d = (tag_with_tags (name_of_tag m.name) ns (tag_among m.name ns d.0), tags_declared w ns ms d.1)

pub all_declared : (helping : ℕ → Name) (w : ℕ) (n : Net) → Setting helping w n → AreDeclared (with_tags n.names) (all_entries w n)
all_declared helping w n s = entries_declared w n.names (first_readable n) (tag_entries w n.memories) (first_declared n s.rules)
    (tags_declared w n.names n.memories (shapes_declared n s.rules))

-- they are values

tags_are_values : (helping : ℕ → Name) (w : ℕ) (n : Net) → Setting helping w n → (ms : List Memory)
    → AreDeclared n.names (memory_entries ms) → AreMemories (memory_entries ms) → AreValues (shapes n) (tag_entries w ms)
tags_are_values helping w n s [] d rules = tt
tags_are_values helping w n s (m ∷ ms) d rules = (
  s.wide,
  no_memory_tag helping w n s ms d.1 m.name d.0 rules.1,
  tag_no_memory helping w n s m.name d.0,
  tags_are_values helping w n s ms d.1 rules.2,
)

pub entries_are_values : (helping : ℕ → Name) (w : ℕ) (n : Net) → Setting helping w n → (es : Scope) → AreDeclared n.names es → AreValues (shapes n) es
    → AreValues (shapes n) (tagged_entries w es ++ tag_entries w n.memories)
entries_are_values helping w n s [] d rules = tags_are_values helping w n s n.memories (shapes_declared n s.rules) s.rules.memory_shapes
entries_are_values helping w n s (e ∷ es) d rules = (
  rules.0,
  rw (tag_apart helping w n s e.0 e.0 d.0 d.0) (name_entry helping w n s es d.1 e.0 d.0 ∙ rules.1),
  rules.2,
  (
    s.wide,
    no_tag_found helping w n s es d.1 e.0 d.0 rules.1 ∙ no_memory_tag helping w n s n.memories (shapes_declared n s.rules) e.0 d.0 rules.2,
    tag_no_memory helping w n s e.0 d.0,
    entries_are_values helping w n s es d.1 rules.3,
  ),
)

-- registers in their order

pub find_behind : (es bs cs : Scope) (y : Name) → find bs y ≡ find cs y → find (es ++ bs) y ≡ find (es ++ cs) y
find_behind [] bs cs y h = h
find_behind (e ∷ es) bs cs y h =
    elim (cases_Bool (bytes_eq e.0 y)) [
      | inl t ↦ rw t refl
      | inr f ↦ rw f (find_behind es bs cs y h)
    ]

pub any_found : (xs : List Name) (rs : List Register) → AreDeclared xs (register_entries rs) → (y : Name)
    → find (register_entries (in_order xs rs)) y ≡ find (register_entries rs) y
any_found xs rs d y =
    elim (cases_Bool (is_among y xs)) [
      | inl t ↦ still_found (λ r. r.width) xs rs y t
      | inr f ↦ not_ordered (λ r. r.width) xs rs y f ∙ sym (not_declared xs (register_entries rs) d y f)
    ]

pub each_value : (ms : Shapes) (rs : List Register) → AreValues ms (register_entries rs) → AllByRecursion (λ r. IsWidth r.width × (find ms r.name ≡ None)) rs
each_value ms [] a = tt
each_value ms (r ∷ rs) a = ((a.0, a.2), each_value ms rs a.3)

pub ordered_values : (ms : Shapes) (xs : List Name) (rs : List Register) → AreDistinct xs
    → AllByRecursion (λ r. IsWidth r.width × (find ms r.name ≡ None)) (in_order xs rs) → AreValues ms (register_entries (in_order xs rs))
ordered_values ms [] rs d a = tt
ordered_values ms (x ∷ xs) rs d a =
    elim (cases_found (find (by_name rs) x)) [
      | inl none ↦ (
          let b : AllByRecursion (λ r. IsWidth r.width × (find ms r.name ≡ None)) (in_order xs rs) =
          subst (λ o. AllByRecursion (λ r. IsWidth r.width × (find ms r.name ≡ None)) (found_first o (in_order xs rs))) none a in
          rw none (ordered_values ms xs rs d.1 b))
      | inr r ↦ (
          let b : AllByRecursion (λ r. IsWidth r.width × (find ms r.name ≡ None)) (r.0 ∷ in_order xs rs) =
          subst (λ o. AllByRecursion (λ r. IsWidth r.width × (find ms r.name ≡ None)) (found_first o (in_order xs rs))) r.1 a in
          let new : find (register_entries (in_order xs rs)) r.0.name ≡ None =
          subst (λ (z : Name). find (register_entries (in_order xs rs)) z ≡ None) (sym (name_found rs x r.0 r.1)) (not_ordered (λ q. q.width) xs rs x d.0) in
          rw r.1 (b.0.0, new, b.0.1, ordered_values ms xs rs d.1 b.1))
    ]

pub values_behind : (ms : Shapes) (is : List Input) (bs cs : Scope) → ((y : Name) → find cs y ≡ find bs y)
    → (AreValues ms bs → AreValues ms cs) → AreValues ms (input_entries is ++ bs) → AreValues ms (input_entries is ++ cs)
values_behind ms [] bs cs same f a = f a
values_behind ms (i ∷ is) bs cs same f a =
    (a.0, find_behind (input_entries is) cs bs i.name (same i.name) ∙ a.1, a.2, values_behind ms is bs cs same f a.3)
