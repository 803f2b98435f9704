-- A cycle, and a run: the plain program does what the design does.
use Rattle.sap_lemmas.proofs.Common.{◌≡◌, ℕ, zero, suc, ◌+◌, ◌^◌, ◌<◌, ◌≤◌, List, [], ◌∷◌, ◌++◌, map, length, Bool, true, false, not, ◌||◌, Option, Some, None, inl, inr, refl, sym, ap, ◌∙◌, subst, if◌then◌else◌, arith, get_or, nat_lt, nat_eq, unwrap_or, codes, cases_Bool, eqb-true, eq-eqb, and_parts, lt-ltb, ltb-true, or_right, common_steps, or_other, true_is_not_false, less_test_of_positive}
use Rattle.sap_lemmas.proofs.Numbers.{less_of_tests}
use Rattle.sap_net.proofs.NamesLemmas.{among_behind, among_front, not_found}
use Rattle.sap_meaning.proofs.ProgramLemmas.{own_kind, register_no_memory, state_no_memory}
use Rattle.sap_maps.proofs.ScopeLemmas.{found_first, found_second}
use Rattle.sap_maps.specs.Maps.{Name, Valuation}
use Rattle.sap_meaning.specs.Program as program
use Rattle.sap_meaning.specs.Prelude.{World, Kind, entity, nothing, root, children, width, is_input, is_register, is_memory, is_dynamic, listed, kind_is_input, kind_is_memory, own, start, next, start_whole, next_whole, owner, Store, settle, After, run_state, Tagged, given, set_inputs, root_fall, cycle, cycle_listed, run_from, first, InputsFit, StreamFits, refused_sites, RisesFrom, Sublist, numbers_from, program_sites, ListsServe, SitesInOrder}
use Rattle.sap_meaning.proofs.SitesLemmas.{numbers_rise}
use Rattle.sap_net.specs.Names.{is_among, AreDistinct}
use Rattle.sap_ir.specs.Prelude.{Source, readable, width_of, variable_names, memory_names, Going, first_number, first_cell, number_at_start, begun, Nested, Forest, declarations, child_does, enter, falls_of}
use Rattle.sap_ir.specs.declared.guarded.Var.{Var}
use Rattle.sap_ir.specs.Plain.Does.{run_after}
use Rattle.sap_ir.specs.declared.guarded.MemoryVariable as stores
use Rattle.sap_ir.proofs.Declared.{distinct_front, distinct_behind, apart_lists, not_readable, readable_width}
use Rattle.sap_ir.specs.Plain.Does as plain
use Rattle.sap_net.specs.PortNames as ports
use Rattle.sap_interface.specs.Prelude.{Named, name, world, depth, StandsFor, coded, coded_stream, CyclesStand}
use Rattle.sap_interface.proofs.Refused.{refused_within}
use Rattle.sap_tagged.specs.Prelude.{value_key, tag_key, seat_key, refused_key, level_key, key_name, numeral, Setting, setting_of, top_plain, variable, level_at_start, value_var, tag_var, seat_var, all_entities, shown_registers, has_own_tag, tag_registers, seat_registers, site_wires, memory_of, tags_of, plain_of, Lawful, at, has_tag, tag_slot, refused_after, AllNumbersFit, RunStands}
use Rattle.sap_tagged.proofs.Bools.{value_within, register_within, memory_within, tagged_within}
use Rattle.sap_tagged.proofs.KeyNames.{names_apart}
use Rattle.sap_tagged.proofs.Members.{In, among_by, find_by, among_in, number_in, number_out, start_out, in_front, in_behind, in_entities, reached, cell_in}
use Rattle.sap_tagged.proofs.Inputs.{From, GivenAt, given_at, numbers_fit}
use Rattle.sap_tagged.proofs.Groups.{LawfulStates, goes_run}
use Rattle.sap_tagged.proofs.Falls.{Loose, Cycles, shaped_top, top_runs}
use Rattle.sap_tagged.proofs.Ends.{refusals_told, levels_told}
use Rattle.sap_tagged.proofs.Premises.{Design}
use Rattle.sap_tagged.proofs.Numerals.{numeral_decimal}

lt_not : (x n : ℕ) → nat_lt x n ≡ true → nat_eq x n ≡ false
lt_not x n h = grind (arith, common_steps)

-- the names of ports
module _ (d : Named) where
  pub value_known : (x : ℕ) → nat_lt x (root (world d)) ≡ true → key_name d (value_key x) ≡ ports.value_name (name d x)
  value_known x h = rw h refl

  pub tag_known : (x : ℕ) → nat_lt x (root (world d)) ≡ true → key_name d (tag_key x) ≡ ports.tag_name (name d x)
  tag_known x h = rw h refl

  pub seat_known : (x : ℕ) → nat_lt x (root (world d)) ≡ true → key_name d (seat_key x) ≡ ports.seat_name (name d x)
  seat_known x h = rw (lt_not x (root (world d)) h, h) refl

  pub root_known : key_name d (seat_key (root (world d))) ≡ ports.root_seat
  root_known = rw (eq-eqb (root (world d)) (root (world d)) refl) refl

  pub refused_known : (k : ℕ) → k < 2 ^ 64 → key_name d (refused_key k) ≡ ports.refused_name k
  refused_known k h = ap (λ (n : Name). codes "c_" ++ n) (numeral_decimal k h)

  pub level_known : (k : ℕ) → k < 2 ^ 64 → key_name d (level_key k) ≡ ports.refused_level_name k
  level_known k h = ap (λ (n : Name). codes "l_" ++ n) (numeral_decimal k h)

-- the wires of a site
pub refused_in : (d : Named) (u j k n : ℕ) → k ≤ j → j < k + n → In (site_wires d u k n) (variable (key_name d (refused_key j)) 1 0)
refused_in d u j k zero l m = absurd (omega arith)
refused_in d u j k (suc n) l m = elim (reached k j l) [
  | inl e ↦ inl (ap (λ (i : ℕ). variable (key_name d (refused_key i)) 1 0) e)
  | inr e ↦ inr (inr (refused_in d u j (k + 1) n e (omega arith)))
]

pub level_in : (d : Named) (u j k n : ℕ) → k ≤ j → j < k + n → In (site_wires d u k n) (variable (key_name d (level_key j)) u 0)
level_in d u j k zero l m = absurd (omega arith)
level_in d u j k (suc n) l m = elim (reached k j l) [
  | inl e ↦ inr (inl (ap (λ (i : ℕ). variable (key_name d (level_key i)) u 0) e))
  | inr e ↦ inr (inr (level_in d u j (k + 1) n e (omega arith)))
]

input_no_memory : (k : Kind) → kind_is_input k ≡ true → kind_is_memory k ≡ false
input_no_memory program.input h = refl
input_no_memory _ h = absurd (true_is_not_false (sym h))

module _ (d : Named) (tag sites : ℕ) (design : Design d tag sites) where
  abbrev w : World
  w = world d

  abbrev n : ℕ
  n = root (world d)

  abbrev p : Nested
  p = plain_of d tag sites

  abbrev src : Source
  src = declarations (plain_of d tag sites)

  abbrev set : Setting
  set = setting_of d tag

  abbrev value_register : ℕ → Var
  value_register x = value_var d x (entity w x).initial

  abbrev tag_register : ℕ → Var
  tag_register x = tag_var d tag x (level_at_start d x)

  -- what is declared

  pub in_all : {A : Type 0} (picks : ℕ → Bool) (of : ℕ → List A) (v : A) (x : ℕ) → nat_lt x n ≡ true → picks x ≡ true → In (of x) v → In (all_entities d picks of) v
  in_all picks of v x l h i = let m : x < n = ltb-true x n l in in_entities picks of v x h i 0 w.entities (omega arith) (omega (arith, m))

  pub in_value : (x : ℕ) → is_register w x ≡ true → In src.registers (value_register x)
  in_value x r = in_front (shown_registers d tag) (tag_registers d tag ++ seat_registers d) (value_register x)
      (in_all (is_register w) _ (value_register x) x (register_within w x r) r (inl refl))

  pub in_tag : (x : ℕ) → is_register w x ≡ true → In src.registers (tag_register x)
  in_tag x r = in_front (shown_registers d tag) (tag_registers d tag ++ seat_registers d) (tag_register x)
      (in_all (is_register w) _ (tag_register x) x (register_within w x r) r (inr (inl refl)))

  pub in_own_tag : (x : ℕ) → nat_lt x n ≡ true → has_own_tag d x ≡ true → In src.registers (tag_register x)
  in_own_tag x l h =
      in_behind (shown_registers d tag) (tag_registers d tag ++ seat_registers d) (tag_register x)
      (in_front (tag_registers d tag) (seat_registers d) (tag_register x) (in_all (has_own_tag d) _ (tag_register x) x l h (inl refl)))

  pub in_seat : (q : ℕ) → 0 < children w q → In src.registers (seat_var d q)
  in_seat q h =
      in_behind (shown_registers d tag) (tag_registers d tag ++ seat_registers d) (seat_var d q)
      (in_behind (tag_registers d tag) (seat_registers d) (seat_var d q)
      (elim (cases_Bool (nat_eq q n)) [
        | inl e ↦
            in_behind (all_entities d (λ p. nat_lt 0 (children w p)) (λ p. seat_var d p ∷ [])) (seat_var d n ∷ []) (seat_var d q)
            (inl (ap (seat_var d) (sym (eqb-true q n e))))
        | inr e ↦
            in_front (all_entities d (λ p. nat_lt 0 (children w p)) (λ p. seat_var d p ∷ [])) (seat_var d n ∷ []) (seat_var d q)
            (in_all (λ p. nat_lt 0 (children w p)) (λ p. seat_var d p ∷ []) (seat_var d q) q (less_of_tests q n (design.parents q h) e)
            (less_test_of_positive (children w q) h) (inl refl))
      ]))

  pub in_memory : (m : ℕ) → is_memory w m ≡ true → In src.memories (memory_of d m)
  in_memory m h = in_all (is_memory w) (λ m. memory_of d m ∷ tags_of d tag m) (memory_of d m) m (memory_within w m h) h (inl refl)

  abbrev tags_store : ℕ → stores.MemoryVariable
  tags_store m = record { name = key_name d (tag_key m); width = tag; depth = depth d m; start = level_at_start d m }

  pub in_tags : (m : ℕ) → is_memory w m ≡ true → is_dynamic w m ≡ false → In src.memories (tags_store m)
  in_tags m h t = in_all (is_memory w) (λ m. memory_of d m ∷ tags_of d tag m) (tags_store m) m (memory_within w m h) h (inr (rw t (inl refl)))

  pub in_input : (x : ℕ) → is_input w x ≡ true → nat_lt x n ≡ true → In src.inputs (value_var d x 0)
  in_input x i l = in_all (is_input w) (λ x. value_var d x 0 ∷ tag_var d tag x 0 ∷ []) (value_var d x 0) x l i (inl refl)

  -- names

  abbrev input_names : List Name
  input_names = variable_names src.inputs

  abbrev register_names : List Name
  register_names = variable_names src.registers

  abbrev wire_names : List Name
  wire_names = variable_names src.wires

  abbrev store_names : List Name
  store_names = memory_names src.memories

  pub behind_inputs : AreDistinct (register_names ++ (wire_names ++ store_names))
  behind_inputs = distinct_behind input_names (register_names ++ (wire_names ++ store_names)) design.distinct

  pub registers_once : AreDistinct register_names
  registers_once = distinct_front register_names (wire_names ++ store_names) behind_inputs

  pub inputs_once : AreDistinct input_names
  inputs_once = distinct_front input_names (register_names ++ (wire_names ++ store_names)) design.distinct

  pub behind_registers : AreDistinct (wire_names ++ store_names)
  behind_registers = distinct_behind register_names (wire_names ++ store_names) behind_inputs

  pub wires_once : AreDistinct wire_names
  wires_once = distinct_front wire_names store_names behind_registers

  pub stores_once : AreDistinct store_names
  stores_once = distinct_behind wire_names store_names behind_registers

  -- widths

  abbrev widths : Name → ℕ
  widths = width_of (declarations (plain_of d tag sites))

  input_width : (x : ℕ) → is_input w x ≡ true → nat_lt x n ≡ true → widths (key_name d (value_key x)) ≡ width w x
  input_width x i l =
      let inputs = map (λ (v : Var). (v.name, v.width)) src.inputs in
      let registers = map (λ (v : Var). (v.name, v.width)) src.registers in
      let wires = map (λ (v : Var). (v.name, v.width)) src.wires in
      readable_width src (key_name d (value_key x)) (width w x)
      (found_first (inputs ++ registers) wires (key_name d (value_key x)) (width w x)
      (found_first inputs registers (key_name d (value_key x)) (width w x)
      (find_by (λ (v : Var). v.name) (λ v. v.width) src.inputs (value_var d x 0) inputs_once (in_input x i l))))

  not_input_name : (v : Var) → In src.registers v → is_among v.name input_names ≡ false
  not_input_name v i =
      apart_lists input_names (register_names ++ (wire_names ++ store_names)) design.distinct v.name
      (among_front v.name register_names (wire_names ++ store_names) (among_in src.registers v i))

  register_width : (v : Var) → In src.registers v → widths v.name ≡ v.width
  register_width v i =
      let inputs = map (λ (v : Var). (v.name, v.width)) src.inputs in
      let registers = map (λ (v : Var). (v.name, v.width)) src.registers in
      let wires = map (λ (v : Var). (v.name, v.width)) src.wires in
      readable_width src v.name v.width
      (found_first (inputs ++ registers) wires v.name v.width
      (found_second inputs registers v.name (not_found (λ (v : Var). v.name) (λ v. v.width) src.inputs v.name (not_input_name v i))
      ∙ find_by (λ (v : Var). v.name) (λ v. v.width) src.registers v registers_once i))

  memory_width : (m : ℕ) → is_memory w m ≡ true → widths (key_name d (value_key m)) ≡ width w m
  memory_width m h =
      ap (λ (o : Option ℕ). unwrap_or o 0)
      (found_second (readable src) (map (λ (s : stores.MemoryVariable). (s.name, s.width)) src.memories) (key_name d (value_key m))
      (not_readable src design.distinct (key_name d (value_key m)) (among_by (λ (z : stores.MemoryVariable). z.name) src.memories (memory_of d m) (in_memory m h)))
      ∙ find_by (λ (z : stores.MemoryVariable). z.name) (λ (z : stores.MemoryVariable). z.width) src.memories (memory_of d m) stores_once (in_memory m h))

  pub lawful : Lawful set widths
  lawful = record {
    apart = names_apart d design.names;
    joined = design.joined;
    order = design.within;
    values = λ x v. elim (cases_Bool (is_input w x)) [
      | inl i ↦ input_width x i (value_within w x v)
      | inr i ↦ register_width (value_register x) (in_value x (or_other (is_input w x) (is_register w x) v i))
    ];
    cells = memory_width;
  }

  pub lawful_states : LawfulStates set
  lawful_states = record {
    apart = λ s t h k. rw (h, k) (design.names.apart s t h k);
    seats = λ s h. ap (λ (b : Bool). ports.seat_name (if b then name d s else numeral s)) h ∙ sym (seat_known d s h);
    root_seat = sym (root_known d);
  }

  -- what the numbers after a cycle have for the next one
  record Rests (before : Option Valuation) (t : Store) : Type 0 where
    numbers : (x : ℕ) → is_register w x ≡ true → first_number before (value_register x) ≡ t.number (own x)
    levels : (x : ℕ) → has_tag w x ≡ true → is_input w x ≡ false → first_number before (tag_register x) ≡ d.code (t.level (tag_slot w x))
    seats : (q : ℕ) → 0 < children w q → first_number before (seat_var d q) ≡ t.child q
    seated : (q : ℕ) → 0 < children w q → t.child q < children w q
    cells : (m i : ℕ) → is_memory w m ≡ true → first_cell before (memory_of d m) i ≡ t.number (start m i)
    next_cells : (m i : ℕ) → is_memory w m ≡ true → first_cell before (memory_of d m) i ≡ t.number (next m i)
    marks : (m i : ℕ) → is_memory w m ≡ true → is_dynamic w m ≡ false → first_cell before (tags_store m) i ≡ d.code (t.level (start m i))
    next_marks : (m i : ℕ) → is_memory w m ≡ true → is_dynamic w m ≡ false → first_cell before (tags_store m) i ≡ d.code (t.level (next m i))
    whole : (m : ℕ) → t.level (start_whole m) ≡ t.level (next_whole m)

  owner_is : (x : ℕ) → owner (tag_slot w x) ≡ x
  owner_is x = by (is_memory w x)
    where
      by : (b : Bool) → owner (if b then next_whole x else own x) ≡ x
      by true = refl
      by false = refl

  rests_first : Rests None (first w)
  unfolding first
  rests_first = record {
    numbers = λ x r. refl;
    levels = λ x r i. ap (λ (y : ℕ). d.code (if is_dynamic w y then w.order.bottom else (entity w y).declared)) (sym (owner_is x));
    seats = λ q h. refl;
    seated = λ q h. h;
    cells = λ m i h. refl;
    next_cells = λ m i h. refl;
    marks = λ m i h t. refl;
    next_marks = λ m i h t. refl;
    whole = λ m. refl;
  }

  -- the store as the inputs are set
  abbrev entered : List Tagged → Store → Store
  entered inputs t = set_inputs w inputs t

  entered_number : (inputs : List Tagged) (t : Store) (x : ℕ) → (entered inputs t).number (own x) ≡ (if is_input w x then (given w inputs x).number else t.number (own x))
  unfolding set_inputs
  entered_number inputs t x = refl

  entered_level : (inputs : List Tagged) (t : Store) (x : ℕ) → (entered inputs t).level (own x) ≡ (if is_input w x then (given w inputs x).level else t.level (own x))
  unfolding set_inputs
  entered_level inputs t x = refl

  entered_slot : (inputs : List Tagged) (t : Store) (x : ℕ) → is_input w x ≡ false → (entered inputs t).level (tag_slot w x) ≡ t.level (tag_slot w x)
  unfolding set_inputs
  entered_slot inputs t x i = by (is_memory w x)
    where
      by : (b : Bool) → (set_inputs w inputs t).level (if b then next_whole x else own x) ≡ t.level (if b then next_whole x else own x)
      by true = refl
      by false = ap (λ (c : Bool). if c then (given w inputs x).level else t.level (own x)) i

  entered_memory : (inputs : List Tagged) (t : Store) (m i : ℕ)
      → ((entered inputs t).number (start m i) ≡ t.number (start m i)) × ((entered inputs t).number (next m i) ≡ t.number (next m i))
      × ((entered inputs t).level (start m i) ≡ t.level (start m i)) × ((entered inputs t).level (next m i) ≡ t.level (next m i))
      × ((entered inputs t).level (start_whole m) ≡ t.level (start_whole m)) × ((entered inputs t).level (next_whole m) ≡ t.level (next_whole m))
  unfolding set_inputs
  entered_memory inputs t m i = (refl, refl, refl, refl, refl, refl)

  entered_child : (inputs : List Tagged) (t : Store) (q : ℕ) → (entered inputs t).child q ≡ t.child q
  unfolding set_inputs
  entered_child inputs t q = refl

  from_first : From d 0 w.entities
  from_first k = let i : 0 + k ≡ k = omega arith in ap (λ (x : ℕ). get_or w.entities x nothing) (sym i)

  abbrev default : Tagged
  default = record { number = 0; level = w.order.bottom }

  abbrev start_at : Option Valuation → List Tagged → Name → ℕ
  start_at before inputs a = number_at_start src before src.inputs (coded d.code inputs) a

  register_starts : (before : Option Valuation) (inputs : List Tagged) (v : Var) → In src.registers v → start_at before inputs v.name ≡ first_number before v
  register_starts before inputs v i =
      start_out src before src.inputs (coded d.code inputs) v.name (not_input_name v i) ∙ number_in before src.registers v registers_once i

  wire_starts : (before : Option Valuation) (inputs : List Tagged) (v : Var) → In src.wires v → start_at before inputs v.name ≡ 0
  wire_starts before inputs v i =
      let m : is_among v.name (wire_names ++ store_names) ≡ true = among_front v.name wire_names store_names (among_in src.wires v i) in
      start_out src before src.inputs (coded d.code inputs) v.name
      (apart_lists input_names (register_names ++ (wire_names ++ store_names)) design.distinct v.name (among_behind v.name register_names (wire_names ++ store_names) m))
      ∙ number_out before src.registers v.name (apart_lists register_names (wire_names ++ store_names) behind_inputs v.name m)

  input_starts : (before : Option Valuation) (inputs : List Tagged) → InputsFit w inputs → (x : ℕ) → is_input w x ≡ true → nat_lt x n ≡ true
      → (start_at before inputs (key_name d (value_key x)) ≡ (given w inputs x).number) × (start_at before inputs (key_name d (tag_key x)) ≡ d.code (given w inputs x).level)
  input_starts before inputs fit x i l =
      let z : 0 + x ≡ x = omega arith in
      let m : 0 + length w.entities ≤ n = omega arith in
      let r : GivenAt d tag src before 0 w.entities inputs x default =
      given_at d tag src before design.names default w.order.count 0 w.entities inputs x from_first fit m (ltb-true x n l) (ap (is_input w) z ∙ i) in (
        ap (λ (y : ℕ). start_at before inputs (key_name d (value_key y))) (sym z) ∙ r.number,
        ap (λ (y : ℕ). start_at before inputs (key_name d (tag_key y))) (sym z) ∙ r.level,
      )

  abbrev going : Option Valuation → List Tagged → Going
  going before inputs = begun src before (coded d.code inputs)

  tag_starts : (before : Option Valuation) (inputs : List Tagged) (t : Store) → Rests before t → (x : ℕ) → has_tag w x ≡ true → is_input w x ≡ false
      → start_at before inputs (key_name d (tag_key x)) ≡ d.code (t.level (tag_slot w x))
  tag_starts before inputs t r x h i = elim (cases_Bool (is_register w x)) [
    | inl e ↦ register_starts before inputs (tag_register x) (in_tag x e) ∙ r.levels x h i
    | inr e ↦
        register_starts before inputs (tag_register x)
        (in_own_tag x (tagged_within w x h) (own_kind (entity w x).kind (is_dynamic w x) (and_parts (nat_lt x n) (not (is_memory w x) || is_dynamic w x) h).1 i e))
        ∙ r.levels x h i
  ]

  begins : (before : Option Valuation) (inputs : List Tagged) (t : Store) → InputsFit w inputs → Rests before t → Loose set (going before inputs) (entered inputs t)
  begins before inputs t fit r = record {
    value = λ x v. elim (cases_Bool (is_input w x)) [
      | inl i ↦
          (input_starts before inputs fit x i (value_within w x v)).0
          ∙ sym (entered_number inputs t x ∙ ap (λ (q : Bool). if q then (given w inputs x).number else t.number (own x)) i)
      | inr i ↦
          register_starts before inputs (value_register x) (in_value x (or_other (is_input w x) (is_register w x) v i))
          ∙ r.numbers x (or_other (is_input w x) (is_register w x) v i)
          ∙ sym (entered_number inputs t x ∙ ap (λ (q : Bool). if q then (given w inputs x).number else t.number (own x)) i)
    ];
    tag = λ x h. elim (cases_Bool (is_input w x)) [
      | inl i ↦
          (input_starts before inputs fit x i (tagged_within w x h)).1
          ∙ ap d.code (sym (entered_level inputs t x ∙ ap (λ (q : Bool). if q then (given w inputs x).level else t.level (own x)) i))
          ∙ ap (λ (q : Bool). d.code ((entered inputs t).level (if q then next_whole x else own x))) (sym (input_no_memory (entity w x).kind i))
      | inr i ↦ tag_starts before inputs t r x h i ∙ ap d.code (sym (entered_slot inputs t x i))
    ];
    seat = λ q h. register_starts before inputs (seat_var d q) (in_seat q h) ∙ r.seats q h ∙ sym (entered_child inputs t q);
    seated = λ q h. subst (λ (k : ℕ). k < children w q) (sym (entered_child inputs t q)) (r.seated q h);
    starts = λ m i h. cell_in before src.memories (memory_of d m) i stores_once (in_memory m h) ∙ r.cells m i h ∙ sym (entered_memory inputs t m i).0;
    start_tags = λ m i h q. cell_in before src.memories (tags_store m) i stores_once (in_tags m h q) ∙ r.marks m i h q ∙ ap d.code (sym (entered_memory inputs t m i).2);
    nexts = λ m i h. cell_in before src.memories (memory_of d m) i stores_once (in_memory m h) ∙ r.next_cells m i h ∙ sym (entered_memory inputs t m i).1;
    next_tags = λ m i h q. cell_in before src.memories (tags_store m) i stores_once (in_tags m h q) ∙ r.next_marks m i h q ∙ ap d.code (sym (entered_memory inputs t m i).3);
  }

  abbrev forest : Forest
  forest = top_plain (setting_of d tag) (listed d.program.hang) 0 d.program.states

  abbrev final : Option Valuation → List Tagged → Going
  final before inputs = falls_of (width_of (declarations (plain_of d tag sites))) ports.root_seat forest (going before inputs)

  abbrev body_after : List Tagged → Store → After
  body_after inputs t = root_fall w (listed d.program.hang) (λ s. run_state w s n) d.program.states ((entered inputs t).child n) (entered inputs t)

  some_child : (n k : ℕ) → n ≡ suc k → 0 < n
  some_child n k e = omega (arith, e)

  root_number : (before : Option Valuation) (inputs : List Tagged) (t : Store) → Loose set (going before inputs) (entered inputs t) → 0 < children w n
      → (going before inputs).now.value ports.root_seat ≡ (entered inputs t).child n
  root_number before inputs t l h = ap (going before inputs).now.value (sym (root_known d)) ∙ l.seat n h

  abbrev Final : Option Valuation → List Tagged → Store → Type 0
  Final before inputs t = Cycles set (going before inputs) (final before inputs) (body_after inputs t)

  turned : (before : Option Valuation) (inputs : List Tagged) (t : Store) → InputsFit w inputs → Rests before t → 0 < children w n → Final before inputs t
  turned before inputs t fit r some =
      let l = begins before inputs t fit r in
      let shape = shaped_top set (listed d.program.hang) 0 d.program.states in
      let goes = goes_run set widths lawful lawful_states n ports.root_seat d.program.states forest (sym (root_known d)) design.fine.count design.fine.states shape in
      let z = root_number before inputs t l some in
      subst (λ (k : ℕ). Cycles set (going before inputs) (child_does widths (enter ports.root_seat forest) forest k (going before inputs)) (body_after inputs t)) (sym z)
      (top_runs set widths lawful lawful_states (listed d.program.hang) d.program.states d.program.states 0 0 (enter ports.root_seat forest) design.fine.states design.fine.states
      design.few_arms (λ t h. h) goes ((entered inputs t).child n) (going before inputs) (entered inputs t) l
      (λ m h. (entered_memory inputs t m 0).4 ∙ r.whole m ∙ sym (entered_memory inputs t m 0).5))

  -- the end of a cycle

  settled_slots : (t : Store) → ((x : ℕ) → (settle t).number (own x) ≡ t.number (own x)) × ((x : ℕ) → (settle t).level (own x) ≡ t.level (own x))
      × ((m i : ℕ) → (settle t).number (start m i) ≡ t.number (next m i)) × ((m i : ℕ) → (settle t).level (start m i) ≡ t.level (next m i))
      × ((m : ℕ) → (settle t).level (start_whole m) ≡ t.level (next_whole m)) × ((q : ℕ) → (settle t).child q ≡ t.child q)
      × ((m i : ℕ) → (settle t).number (next m i) ≡ t.number (next m i)) × ((m i : ℕ) → (settle t).level (next m i) ≡ t.level (next m i))
      × ((m : ℕ) → (settle t).level (next_whole m) ≡ t.level (next_whole m))
  unfolding settle
  settled_slots t = ((λ x. refl), (λ x. refl), (λ m i. refl), (λ m i. refl), (λ m. refl), (λ q. refl), (λ m i. refl), (λ m i. refl), (λ m. refl))

  settled_tag : (t : Store) (x : ℕ) → (settle t).level (tag_slot w x) ≡ t.level (tag_slot w x)
  unfolding settle
  settled_tag t x = by (is_memory w x)
    where
      by : (b : Bool) → (settle t).level (if b then next_whole x else own x) ≡ t.level (if b then next_whole x else own x)
      by true = refl
      by false = refl

  abbrev shown : Option Valuation → List Tagged → Valuation
  shown before inputs = plain.cycle (plain_of d tag sites) before (coded d.code inputs)

  own_level : (g : Going) (t : Store) → Loose set g t → (x : ℕ) → nat_lt x n ≡ true → is_memory w x ≡ false → at set g (tag_key x) ≡ d.code (t.level (own x))
  own_level g t l x h m =
      l.tag x (rw (h, m) refl) ∙ ap (λ (b : Bool). d.code (t.level (if b then next_whole x else own x))) m

  pub site_bound : (k : ℕ) → k ≤ sites → k < 2 ^ 64
  site_bound k h = fits k (2 ^ 64) h design.few
    where
      fits : (k m : ℕ) → k ≤ sites → 1 + sites ≤ m → k < m
      fits k m h l = omega (arith, h, l)

  some_number : (t : Store) → 0 < children w n → t.child n ≡ t.child n
  some_number t h = refl

  stands_for : (before : Option Valuation) (inputs : List Tagged) (t : Store) (a : After)
      → Cycles set (going before inputs) (final before inputs) a → RisesFrom 1 (refused_sites a.refused)
      → Sublist (refused_sites a.refused) (numbers_from 1 sites) → 0 < children w n → StandsFor d sites (shown before inputs) (settle a.store) a.refused
  stands_for before inputs t a c rises in_order some =
      let g = final before inputs in
      let s = a.store in
      let e = settled_slots s in
      let st = c.stands in
      record {
        register_values = λ x r.
            ap g.now.value (sym (value_known d x (register_within w x r))) ∙ st.value x (or_right (is_input w x) (is_register w x) r) ∙ sym (e.0 x);
        register_tags = λ x r.
            ap g.now.value (sym (tag_known d x (register_within w x r)))
            ∙ own_level g s st x (register_within w x r) (register_no_memory (entity w x).kind r) ∙ ap d.code (sym (e.1 x));
        cells = λ m i h l. ap (λ (a : Name). g.next a i) (sym (value_known d m (memory_within w m h))) ∙ st.nexts m i h ∙ sym (e.2 m i);
        cell_tags = λ m i h q l.
            ap (λ (a : Name). g.next a i) (sym (tag_known d m (memory_within w m h))) ∙ st.next_tags m i h q ∙ ap d.code (sym (e.3 m i))
            ∙ ap (λ (b : Bool). d.code ((settle s).level (if b then start_whole m else start m i))) (sym q);
        memory_tags = λ m h q.
            ap g.now.value (sym (tag_known d m (memory_within w m h)))
            ∙ st.tag m (rw (memory_within w m h, q) (or_right (not (is_memory w m)) true refl))
            ∙ ap (λ (b : Bool). d.code (s.level (if b then next_whole m else own m))) h ∙ ap d.code (sym (e.4 m));
        state_tags = λ x h l.
            let b = lt-ltb x n l in
            ap g.now.value (sym (tag_known d x b)) ∙ own_level g s st x b (state_no_memory (entity w x).kind h) ∙ ap d.code (sym (e.1 x));
        seats = λ q l h. ap g.now.value (sym (seat_known d q (lt-ltb q n l))) ∙ st.seat q h ∙ sym (e.5 q);
        root_seat = ap g.now.value (sym (root_known d)) ∙ st.seat n some ∙ sym (e.5 n);
        refused_sites = in_order;
        refusals = λ k l m.
            refusals_told k a.refused (g.now.value (ports.refused_name k))
            (ap g.now.value (sym (refused_known d k (site_bound k m))) ∙ c.refused k
            ∙ ap (refused_after k a.refused) (wire_starts before inputs (variable (key_name d (refused_key k)) 1 0)
            (in_front (site_wires d tag 1 sites) _ _ (refused_in d tag k 1 sites l (omega (arith, m))))));
        refusal_levels = λ k u h.
            ap g.now.value (sym (level_known d k (site_bound k (refused_within sites a.refused in_order k u h).1))) ∙ c.levels k ∙ levels_told d.code k u 1 a.refused _ rises h;
      }

  rests_next : (before : Option Valuation) (inputs : List Tagged) (a : After) → Cycles set (going before inputs) (final before inputs) a
      → Rests (Some (shown before inputs)) (settle a.store)
  rests_next before inputs a c =
      let s = a.store in
      let e = settled_slots s in
      let st = c.stands in
      record {
        numbers = λ x r. st.value x (or_right (is_input w x) (is_register w x) r) ∙ sym (e.0 x);
        levels = λ x h i. st.tag x h ∙ ap d.code (sym (settled_tag s x));
        seats = λ q h. st.seat q h ∙ sym (e.5 q);
        seated = λ q h. subst (λ (k : ℕ). k < children w q) (sym (e.5 q)) (st.seated q h);
        cells = λ m i h. st.nexts m i h ∙ sym (e.2 m i);
        next_cells = λ m i h. st.nexts m i h ∙ sym (e.6 m i);
        marks = λ m i h q. st.next_tags m i h q ∙ ap d.code (sym (e.3 m i));
        next_marks = λ m i h q. st.next_tags m i h q ∙ ap d.code (sym (e.7 m i));
        whole = λ m. e.4 m ∙ sym (e.8 m);
      }

  module _ (serve : ListsServe) (ordered : SitesInOrder) (some : 0 < children (world d) (root (world d))) where
    cycle_is : (inputs : List Tagged) (t : Store)
        → cycle d.program inputs t ≡ (let a : After = record { store = settle (body_after inputs t).store; refused = (body_after inputs t).refused } in a)
    unfolding cycle_listed
    cycle_is inputs t = sym (serve d.program design.exact inputs t)

    abbrev CycleStands : Option Valuation → List Tagged → After → Type 0
    CycleStands before inputs a = StandsFor d sites (shown before inputs) a.store a.refused × Rests (Some (shown before inputs)) a.store

    cycle_stands : (before : Option Valuation) (inputs : List Tagged) (t : Store) → InputsFit w inputs → Rests before t → CycleStands before inputs (cycle d.program inputs t)
    cycle_stands before inputs t fit r =
        let h : Final before inputs t = turned before inputs t fit r some in
        let e = cycle_is inputs t in
        let o = ordered d.program design.fine inputs t in
        let listed_rise : RisesFrom 1 (program_sites d.program) = subst (λ (xs : List ℕ). RisesFrom 1 xs) (sym design.numbered) (numbers_rise 1 sites) in
        let rises : RisesFrom 1 (refused_sites (body_after inputs t).refused) = subst (λ (a : After). RisesFrom 1 (refused_sites a.refused)) e (o.1 1 listed_rise) in
        let in_order : Sublist (refused_sites (body_after inputs t).refused) (numbers_from 1 sites) =
        subst (λ (a : After). Sublist (refused_sites a.refused) (numbers_from 1 sites)) e
        (subst (λ (xs : List ℕ). Sublist (refused_sites (cycle d.program inputs t).refused) xs) design.numbered o.0) in
        subst (λ (a : After). CycleStands before inputs a) (sym e)
        (stands_for before inputs t (body_after inputs t) h rises in_order some, rests_next before inputs (body_after inputs t) h)

    runs_stand : (before : Option Valuation) (t : Store) (stream : List (List Tagged)) → StreamFits w stream → Rests before t
        → CyclesStand d sites (run_after (plain_of d tag sites) before (coded_stream d.code stream)) (run_from d.program t stream)
    runs_stand before t [] fit r = tt
    runs_stand before t (inputs ∷ stream) fit r =
        let c = cycle_stands before inputs t fit.0 r in
        (c.0, runs_stand (Some (shown before inputs)) (cycle d.program inputs t).store stream fit.1 c.1)

    takes_all : (stream : List (List Tagged)) → StreamFits w stream → AllNumbersFit src.inputs (coded_stream d.code stream)
    takes_all [] fit = tt
    takes_all (inputs ∷ stream) fit = (numbers_fit d tag design.small w.order.count 0 w.entities inputs from_first fit.0, takes_all stream fit.1)

    -- the run stands for the labelled run
    pub run_stands : RunStands d sites (plain_of d tag sites)
    run_stands = record {
      takes = takes_all;
      stands = λ stream fit. runs_stand None (first w) stream fit rests_first;
    }
