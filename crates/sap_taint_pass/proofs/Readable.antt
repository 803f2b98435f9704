-- All wires read what is there, and what can be read behind them.
use Rattle.sap_lemmas.proofs.Common.{◌≡◌, ◌<◌, ◌≤◌, ℕ, ◌+◌, List, [], ◌∷◌, ◌++◌, map, Option, Some, None, true, false, ◌||◌, ◌⊎◌, ap, ap₂, sym, ◌∙◌, subst, refl, inl, inr, arith, bytes_eq, AllByRecursion, cases_Bool, or_right, pow_pos, all_append, all_follow}
use Rattle.sap_maps.specs.Prelude.{Name, Scope, find}
use Rattle.sap_net.specs.Prelude.{Net, is_among, Shapes, IsWidth, AreWires, AreValues, IsRegister, IsMemory, readable_after, IsNetlist, first_readable, readable, shapes, names_of, wire_names}
use Rattle.sap_net.specs.declared.parts.Wire.{Wire}
use Rattle.sap_net.specs.declared.parts.Register.{Register}
use Rattle.sap_net.specs.declared.parts.Memory.{Memory}
use Rattle.sap_net.proofs.NamesLemmas.{among_here}
use Rattle.sap_net.proofs.RulesLemmas.{Grows, operand_grows, wires_both, readable_both, readable_kept, wires_new, wires_distinct}
use Rattle.sap_net.proofs.Same.{all_found}
use Rattle.sap_taint.specs.TagNames.{name_of_tag, with_tags}
use Rattle.sap_taint.specs.TaggedForm.{tagged_inputs}
use Rattle.sap_taint_pass.specs.Tainted.{in_order, tagged_registers, memory_tags, all_registers, tag_wires, write_wires, all_wires, help_for_wires, help_for_writes, tainted_by}
use Rattle.sap_taint.proofs.Apart.{tag_among}
use Rattle.sap_build.proofs.Inserted.{right_grows}
use Rattle.sap_build.proofs.Found.{AreDeclared, AllAmong, found_declared, first_declared, shapes_declared, wires_among, entries_declared, registers_among}
use Rattle.sap_taint_pass.proofs.FirstScope as first
use Rattle.sap_taint_pass.proofs.InOrder.{all_ordered}
use Rattle.sap_taint_pass.proofs.JoinWires.{HelpingNew}
use Rattle.sap_taint_pass.proofs.Numbered.{some_names, other_number, one_of_some}
use Rattle.sap_taint_pass.proofs.Setting.{Setting, IsDeclared, help_free, help_undeclared, help_apart_tag, help_no_memory, tag_undeclared, not_declared}
use Rattle.sap_taint_pass.proofs.TagWires.{Tagged, Stands, readable_other, readable_new, tag_wires_fit, tag_wires_wide, tag_wires_names}
use Rattle.sap_taint_pass.proofs.WriteWires.{Stocked, operand_tagged, tag_fits, write_wires_fit, write_wires_wide, write_wires_names}

-- from the start

registers_declared : (helping : ℕ → Name) (w : ℕ) (n : Net) → Setting helping w n → AreDeclared (with_tags n.names) (first.register_entries (all_registers helping w n))
registers_declared helping w n s =
    subst (AreDeclared (with_tags n.names)) (sym (first.gathered_registers helping w (help_for_wires n.wires) n.registers n.memories))
    (first.entries_declared w n.names (first.register_entries n.registers) (first.tag_entries w n.memories)
    (entries_declared {X = ℕ} (λ (r : Register). r.name) (λ r. r.width) n.names n.registers (registers_among n s.rules))
    (first.tags_declared w n.names n.memories (shapes_declared n s.rules)))

any_order : (helping : ℕ → Name) (w : ℕ) (n : Net) → Setting helping w n → (y : Name)
    → find (first.register_entries (in_order (with_tags n.names) (all_registers helping w n))) y ≡ find (first.register_entries (all_registers helping w n)) y
any_order helping w n s y = first.any_found (with_tags n.names) (all_registers helping w n) (registers_declared helping w n s) y

pub first_found : (helping : ℕ → Name) (w : ℕ) (n : Net) → Setting helping w n → (y : Name) → find (first_readable (tainted_by helping w n)) y ≡ find (first.all_entries w n) y
first_found helping w n s y =
    first.find_behind (first.input_entries (tagged_inputs w n.inputs)) (first.register_entries (in_order (with_tags n.names) (all_registers helping w n)))
    (first.register_entries (all_registers helping w n)) y (any_order helping w n s y)
    ∙ ap (λ (sc : Scope). find sc y) (first.gathered helping w (help_for_wires n.wires) n.inputs n.registers n.memories)

pub first_values : (helping : ℕ → Name) (w : ℕ) (n : Net) → Setting helping w n → AreValues (shapes n) (first_readable (tainted_by helping w n))
first_values helping w n s =
    let rs = all_registers helping w n in
    let is = tagged_inputs w n.inputs in
    let all : AreValues (shapes n) (first.input_entries is ++ first.register_entries rs) =
    subst (AreValues (shapes n)) (sym (first.gathered helping w (help_for_wires n.wires) n.inputs n.registers n.memories))
    (first.entries_are_values helping w n s (first_readable n) (first_declared n s.rules) s.rules.values) in
    first.values_behind (shapes n) is (first.register_entries rs) (first.register_entries (in_order (with_tags n.names) rs)) (any_order helping w n s)
    (λ a. first.ordered_values (shapes n) (with_tags n.names) rs s.room.distinct
    (all_ordered (λ r. IsWidth r.width × (find (shapes n) r.name ≡ None)) (with_tags n.names) rs (first.each_value (shapes n) rs a)))
    all

-- the wires that were there

-- declared names are found in both as in one
abbrev SameDeclared : List Name → Scope → Scope → Type 0
SameDeclared ns sn sm = (y : Name) → is_among y ns ≡ true → find sm y ≡ find sn y

same_more : (ns : List Name) (sn sm : Scope) (e : Name × ℕ) → SameDeclared ns sn sm → SameDeclared ns (e ∷ sn) (e ∷ sm)
same_more ns sn sm e a y d =
    elim (cases_Bool (bytes_eq e.0 y)) [
      | inl t ↦ rw t refl
      | inr f ↦ rw f (a y d)
    ]

same_grows : (ns : List Name) (sn sm : Scope) → AreDeclared ns sn → SameDeclared ns sn sm → Grows sn sm
same_grows ns sn sm d a y u h = a y (found_declared ns sn d y u h) ∙ h

data_wires_fit : (ns : List Name) (ms : Shapes) (ws : List Wire) (sn sm : Scope) → AreDeclared ns sn → SameDeclared ns sn sm
    → AllAmong (names_of ws) ns → AreWires ms sn ws → AreWires ms sm ws
data_wires_fit ns ms [] sn sm d a k rules = tt
data_wires_fit ns ms (x ∷ ws) sn sm d a k rules =
    let here = k x.name (among_here x.name (names_of ws)) in (
      rules.0,
      a x.name here ∙ rules.1,
      rules.2,
      right_grows ms ms (λ m t h. h) sn sm (same_grows ns sn sm d a) x.width x.right rules.3,
      data_wires_fit ns ms ws ((x.name, x.width) ∷ sn) ((x.name, x.width) ∷ sm) (here, d) (same_more ns sn sm (x.name, x.width) a)
          (λ y m. k y (or_right (bytes_eq y x.name) (is_among y (names_of ws)) m)) rules.4,
    )

same_after : (ns : List Name) (ws : List Wire) (sn sm : Scope) → SameDeclared ns sn sm → SameDeclared ns (readable_after sn ws) (readable_after sm ws)
same_after ns [] sn sm a = a
same_after ns (x ∷ ws) sn sm a = same_after ns ws ((x.name, x.width) ∷ sn) ((x.name, x.width) ∷ sm) (same_more ns sn sm (x.name, x.width) a)

pub first_same : (helping : ℕ → Name) (w : ℕ) (n : Net) → Setting helping w n → SameDeclared n.names (first_readable n) (first_readable (tainted_by helping w n))
first_same helping w n s y d = first_found helping w n s y ∙ first.name_entry helping w n s (first_readable n) (first_declared n s.rules) y d

abbrev pub after_data : (helping : ℕ → Name) (w : ℕ) → Net → Scope
after_data helping w n = readable_after (first_readable (tainted_by helping w n)) n.wires

pub data_fits : (helping : ℕ → Name) (w : ℕ) (n : Net) → Setting helping w n → AreWires (shapes n) (first_readable (tainted_by helping w n)) n.wires
data_fits helping w n s =
    data_wires_fit n.names (shapes n) n.wires (first_readable n) (first_readable (tainted_by helping w n)) (first_declared n s.rules)
    (first_same helping w n s) (wires_among n s.rules) s.rules.assigns

not_wire : (n : Net) → IsNetlist n → (y : Name) → is_among y n.names ≡ false → is_among y (wire_names n) ≡ false
not_wire n rules y h =
    elim (cases_Bool (is_among y (wire_names n))) [
      | inl t ↦ (let e = wires_among n rules y t in absurd (cc))
      | inr f ↦ f
    ]

-- a tag, and a helping name, are found there as they are from the start
tag_there : (helping : ℕ → Name) (w : ℕ) (n : Net) → Setting helping w n → (y : Name) → IsDeclared n y
    → find (after_data helping w n) (name_of_tag y) ≡ find (first.all_entries w n) (name_of_tag y)
tag_there helping w n s y d =
    readable_other n.wires (first_readable (tainted_by helping w n)) (name_of_tag y) (not_wire n s.rules (name_of_tag y) (tag_undeclared helping w n s y d))
    ∙ first_found helping w n s (name_of_tag y)

help_there : (helping : ℕ → Name) (w : ℕ) (n : Net) → Setting helping w n → (i : ℕ) → find (after_data helping w n) (helping i) ≡ None
help_there helping w n s i =
    readable_other n.wires (first_readable (tainted_by helping w n)) (helping i) (not_wire n s.rules (helping i) (help_undeclared helping w n s i))
    ∙ first_found helping w n s (helping i)
    ∙ not_declared (with_tags n.names) (first.all_entries w n) (first.all_declared helping w n s) (helping i) (help_free helping w n s i)

maybe : {A : Type 0} (o : Option A) → (o ≡ None) ⊎ ((a : A) × (o ≡ Some a))
maybe None = inl refl
maybe (Some a) = inr (a, refl)

first_tagged : (helping : ℕ → Name) (w : ℕ) (n : Net) → Setting helping w n → Tagged w (shapes n) (first_readable n) (after_data helping w n)
first_tagged helping w n s =
    let declared = first_declared n s.rules in
    let value = λ (y : Name) (u : ℕ) (h : find (first_readable n) y ≡ Some u).
    let d = found_declared n.names (first_readable n) declared y u h in
    let e : find (after_data helping w n) (name_of_tag y) ≡ Some w = tag_there helping w n s y d ∙ first.tag_found helping w n s (first_readable n) declared y d u h in
    e in
    record {
      value = value;
      memory = λ y q h.
          let d = found_declared n.names (shapes n) (shapes_declared n s.rules) y q h in
          elim (maybe (find (first_readable n) y)) [
            | inl none ↦
                tag_there helping w n s y d ∙ first.no_tag_found helping w n s (first_readable n) declared y d none
                ∙ first.memory_tag_entry helping w n s n.memories (shapes_declared n s.rules) y d q h
            | inr r ↦ value y r.0 r.1
          ];
    }

first_stands : (helping : ℕ → Name) (w : ℕ) (n : Net) → Setting helping w n → Stands helping w n (first_readable n) (after_data helping w n) 0 n.wires
first_stands helping w n s =
    record {
      tagged = first_tagged helping w n s;
      help = λ i h. help_there helping w n s i;
      later = λ x m.
          let d = wires_among n s.rules x m in
          let new = wires_new (shapes n) n.wires (first_readable n) s.rules.assigns x m in
          tag_there helping w n s x d ∙ first.no_tag_found helping w n s (first_readable n) (first_declared n s.rules) x d new.0
          ∙ first.no_memory_tag helping w n s n.memories (shapes_declared n s.rules) x d new.1;
      declared = wires_among n s.rules;
      distinct = wires_distinct (shapes n) n.wires (first_readable n) s.rules.assigns;
    }

-- the tags of wires

abbrev pub the_tag_wires : (helping : ℕ → Name) (w : ℕ) → Net → List Wire
the_tag_wires helping w n = tag_wires helping w 0 n.wires

abbrev pub after_tags : (helping : ℕ → Name) (w : ℕ) → Net → Scope
after_tags helping w n = readable_after (after_data helping w n) (the_tag_wires helping w n)

tags_fit : (helping : ℕ → Name) (w : ℕ) (n : Net) → Setting helping w n → AreWires (shapes n) (after_data helping w n) (the_tag_wires helping w n)
tags_fit helping w n s = tag_wires_fit helping w n s n.wires (first_readable n) (after_data helping w n) 0 (first_stands helping w n s) s.rules.assigns

-- a name that can be read is a wire's, or could be read before
of_wire : (ws : List Wire) (sc : Scope) (x : Name) (k : ℕ) → find (readable_after sc ws) x ≡ Some k → (is_among x (names_of ws) ≡ true) ⊎ (find sc x ≡ Some k)
of_wire ws sc x k h =
    elim (cases_Bool (is_among x (names_of ws))) [
      | inl t ↦ inl t
      | inr f ↦ inr (sym (readable_other ws sc x f) ∙ h)
    ]

tags_stocked : (helping : ℕ → Name) (w : ℕ) (n : Net) → Setting helping w n → Stocked w (shapes n) (readable n) (after_tags helping w n)
tags_stocked helping w n s =
    let a = first_stands helping w n s in
    let fits = tags_fit helping w n s in
    let kept = readable_kept (shapes n) (the_tag_wires helping w n) (after_data helping w n) fits in
    let same = same_after n.names n.wires (first_readable n) (first_readable (tainted_by helping w n)) (first_same helping w n s) in
    let declared = λ (y : Name) (u : ℕ) (h : find (readable n) y ≡ Some u).
    let d : IsDeclared n y = elim (of_wire n.wires (first_readable n) y u h) [
      | inl m ↦ wires_among n s.rules y m
      | inr g ↦ found_declared n.names (first_readable n) (first_declared n s.rules) y u g
    ] in d in
    record {
      numbers = λ y u h. kept y u (same y (declared y u h) ∙ h);
      tags = record {
        value = λ y u h. elim (of_wire n.wires (first_readable n) y u h) [
          | inl m ↦
              readable_new (shapes n) w (the_tag_wires helping w n) (after_data helping w n) fits (tag_wires_wide helping w 0 n.wires) (name_of_tag y)
              (tag_wires_names helping w 0 n.wires (name_of_tag y)
              ∙ or_right (is_among (name_of_tag y) (some_names helping 0 (help_for_wires n.wires))) _ (tag_among y (wire_names n) m))
          | inr g ↦ kept (name_of_tag y) w (a.tagged.value y u g)
        ];
        memory = λ y q h. kept (name_of_tag y) w (a.tagged.memory y q h);
      };
    }

no_wire_tag : (helping : ℕ → Name) (w : ℕ) (n : Net) → Setting helping w n → (i : ℕ) (xs : List Name) → AllAmong xs n.names → is_among (helping i) (map name_of_tag xs) ≡ false
no_wire_tag helping w n s i [] k = refl
no_wire_tag helping w n s i (x ∷ xs) k =
    rw (help_apart_tag helping w n s i x (k x (among_here x xs))) (no_wire_tag helping w n s i xs (λ y m. k y (or_right (bytes_eq y x) (is_among y xs) m)))

tags_help : (helping : ℕ → Name) (w : ℕ) (n : Net) → Setting helping w n → HelpingNew helping (after_tags helping w n) (help_for_wires n.wires)
tags_help helping w n s i h =
    readable_other (the_tag_wires helping w n) (after_data helping w n) (helping i)
    (tag_wires_names helping w 0 n.wires (helping i)
    ∙ ap₂ (λ p q. p || q) (other_number helping s.names.apart 0 (help_for_wires n.wires) i (inr (omega arith)))
    (no_wire_tag helping w n s i (wire_names n) (wires_among n s.rules)))
    ∙ help_there helping w n s i

-- the wires of writes

abbrev pub the_write_wires : (helping : ℕ → Name) (w : ℕ) → Net → List Wire
the_write_wires helping w n = write_wires helping w (help_for_wires n.wires) n.memories

writes_fit : (helping : ℕ → Name) (w : ℕ) (n : Net) → Setting helping w n → AreWires (shapes n) (after_tags helping w n) (the_write_wires helping w n)
writes_fit helping w n s =
    write_wires_fit helping s.names.apart w s.wide (shapes n) (help_no_memory helping w n s) (readable n) (after_tags helping w n) (help_for_wires n.wires)
    (tags_stocked helping w n s) (tags_help helping w n s) n.memories s.rules.writes (all_found n.memories s.rules.memory_shapes)

readable_whole : (helping : ℕ → Name) (w : ℕ) (n : Net) → readable (tainted_by helping w n) ≡ readable_after (after_tags helping w n) (the_write_wires helping w n)
readable_whole helping w n =
    readable_both n.wires (the_tag_wires helping w n ++ the_write_wires helping w n) (first_readable (tainted_by helping w n))
    ∙ readable_both (the_tag_wires helping w n) (the_write_wires helping w n) (after_data helping w n)

pub wires_fit : (helping : ℕ → Name) (w : ℕ) (n : Net) → Setting helping w n → AreWires (shapes n) (first_readable (tainted_by helping w n)) (all_wires helping w n)
wires_fit helping w n s =
    wires_both (shapes n) n.wires (the_tag_wires helping w n ++ the_write_wires helping w n) (first_readable (tainted_by helping w n)) (data_fits helping w n s)
    (wires_both (shapes n) (the_tag_wires helping w n) (the_write_wires helping w n) (after_data helping w n) (tags_fit helping w n s) (writes_fit helping w n s))

-- All can be read at the end, with its tags.
pub stocked : (helping : ℕ → Name) (w : ℕ) (n : Net) → Setting helping w n → Stocked w (shapes n) (readable n) (readable (tainted_by helping w n))
stocked helping w n s =
    let a = tags_stocked helping w n s in
    let kept = readable_kept (shapes n) (the_write_wires helping w n) (after_tags helping w n) (writes_fit helping w n s) in
    rw (readable_whole helping w n)
    (record {
      numbers = λ y u h. kept y u (a.numbers y u h);
      tags = record {
        value = λ y u h. kept (name_of_tag y) w (a.tags.value y u h);
        memory = λ y q h. kept (name_of_tag y) w (a.tags.memory y q h);
      };
    })

-- registers and memories

write_help : (helping : ℕ → Name) (w : ℕ) (n : Net) → Setting helping w n → (i : ℕ) → help_for_wires n.wires ≤ i → i < help_for_wires n.wires + help_for_writes n.memories
    → find (readable (tainted_by helping w n)) (helping i) ≡ Some w
write_help helping w n s i a b =
    let k = help_for_wires n.wires in
    let c = help_for_writes n.memories in
    let m : is_among (helping i) (names_of (the_write_wires helping w n)) ≡ true =
    ap (is_among (helping i)) (write_wires_names helping w k n.memories) ∙ one_of_some helping k c i a b in
    rw (readable_whole helping w n)
    (readable_new (shapes n) w (the_write_wires helping w n) (after_tags helping w n) (writes_fit helping w n s) (write_wires_wide helping w k n.memories) (helping i) m)

tagged_registers_fit : (w : ℕ) (ms : Shapes) (sn sm : Scope) → Stocked w ms sn sm → (rs : List Register) → AllByRecursion (IsRegister sn) rs
    → AllByRecursion (IsRegister sm) (tagged_registers w rs)
tagged_registers_fit w ms sn sm a [] rules = tt
tagged_registers_fit w ms sn sm a (r ∷ rs) rules = (
  (rules.0.0, operand_grows sn sm a.numbers r.width r.next rules.0.1),
  ((pow_pos w, tag_fits w sm r.next (operand_tagged w ms sn sm a.tags r.width r.next rules.0.1)), tagged_registers_fit w ms sn sm a rs rules.1),
)

memory_tags_fit : (helping : ℕ → Name) (w : ℕ) (sm : Scope) (ms : List Memory) (k : ℕ)
    → ((i : ℕ) → k ≤ i → i < k + help_for_writes ms → find sm (helping i) ≡ Some w) → AllByRecursion (IsRegister sm) (memory_tags helping w k ms)
memory_tags_fit helping w sm [] k h = tt
memory_tags_fit helping w sm (m ∷ ms) k h =
    ((pow_pos w, h (k + 3) (omega arith) (omega arith)), memory_tags_fit helping w sm ms (k + 4) (λ i a b. h i (omega arith) (omega arith)))

pub registers_fit : (helping : ℕ → Name) (w : ℕ) (n : Net) → Setting helping w n
    → AllByRecursion (IsRegister (readable (tainted_by helping w n))) (in_order (with_tags n.names) (all_registers helping w n))
registers_fit helping w n s =
    let sm = readable (tainted_by helping w n) in
    all_ordered (IsRegister sm) (with_tags n.names) (all_registers helping w n)
    (all_append (IsRegister sm) (tagged_registers w n.registers) (memory_tags helping w (help_for_wires n.wires) n.memories)
    (tagged_registers_fit w (shapes n) (readable n) sm (stocked helping w n s) n.registers s.rules.nexts)
    (memory_tags_fit helping w sm n.memories (help_for_wires n.wires) (write_help helping w n s)))

memory_grows : (sn sm : Scope) → Grows sn sm → (m : Memory) → IsMemory sn m → IsMemory sm m
memory_grows sn sm g m h =
    record {
      bits = h.bits;
      depth = h.depth;
      start = h.start;
      enable = operand_grows sn sm g 1 m.enable h.enable;
      index = operand_grows sn sm g h.bits m.index h.index;
      value = operand_grows sn sm g m.width m.value h.value;
    }

pub memories_fit : (helping : ℕ → Name) (w : ℕ) (n : Net) → Setting helping w n → AllByRecursion (IsMemory (readable (tainted_by helping w n))) n.memories
memories_fit helping w n s =
    let sm = readable (tainted_by helping w n) in
    all_follow (IsMemory (readable n)) (IsMemory sm) n.memories (memory_grows (readable n) sm (stocked helping w n s).numbers) s.rules.writes
