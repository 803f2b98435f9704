-- A module has one text of rows on a stimulus, and two lattices that are the same give it the same.
use Rattle.sap_lemmas.proofs.Common.{◌≡◌, ℕ, ◌+◌, true, false, List, [], ◌∷◌, ◌++◌, drop, map, None, refl, sym, ◌∙◌, ap, subst, inl, inr, ◌==◌, bytes_eq, find as find_level, if◌then◌else◌, length, option_map, AllByRecursion, cases_Bool, false≢true, bytes_eq_same, equal_of_bytes_eq}
use Rattle.sap_lattice.specs.Prelude.{name_at, Levels, numbers, order_of, code_of, width_of, Order}
use Rattle.sap_latfile.specs.OneLattice.{AreSame}
use Rattle.sap_maps.specs.Prelude.{Name, Valuation, find}
use Rattle.sap_net.specs.Prelude.{Net, is_among, IsNetlist, readable, register_names, AreSame as AreSameValues, AreSameRuns, IsRegister, IsRun, observed, value_after, operand_value, value_name, tag_name, port_widths, register_ports, shown_among}
use Rattle.sap_net.specs.declared.parts.Input.{Input}
use Rattle.sap_net.specs.declared.parts.Register.{Register}
use Rattle.sap_net.proofs.Same.{run_same}
use Rattle.sap_net.proofs.Unique.{operand_agree}
use Rattle.sap_meaning.specs.Cycle.{Tagged as Given}
use Rattle.sap_stim.specs.declared.stimulus.Parsed.{Parsed}
use Rattle.sap_stim.specs.Rows.{Shown, shown, shown_of, row_text}
use Rattle.sap_stim.specs.Stimulus.{stimulus_of}
use Rattle.sap_sim.specs.Prelude.{field_of, fields_of, is_tag, with_field, given, numbers_of, value_for, row_of, rows_from, shown_registers, IsSimulated, Rows}
use Rattle.sap_sim.specs.Simulated.{read_for}
use Rattle.sap_sim.proofs.Registers.{IsShown, all_shown, register_port_is}
use Rattle.sap_wave.specs.Waves.{Wave, names_of}
use Rattle.sap_wave_rows.specs.Rows.{by_name, rows_of_wave, shown_variables, widths_of}
use Rattle.sap_files.specs.StimulusTexts.{AreModuleRows}
use Rattle.sap_files.proofs.Stimuli.{stimulus_in}

-- what an input gets, over an order
abbrev number_by : Order → List Input → List Given → Input → ℕ
number_by o is xs i =
    if is_tag (width_of o) is i then code_of o (given (width_of o) is xs (value_for i.name)).level else (given (width_of o) is xs i.name).number

-- what is shown of a register, over names of levels and an order
abbrev shown_by : List (List ℕ) → Order → (name : List ℕ) → (value tag : ℕ) → Shown
shown_by names o name value tag = record {
  name = name;
  value = value;
  level = option_map (name_at names) (find_level (λ level. code_of o level == tag) (numbers (length names)));
  tag = tag;
}

module _ (l m : Levels) (same : AreSame l m) where
  pub read_net_in : (n : Net) (bytes : List ℕ) → read_for l n bytes ≡ read_for m n bytes
  read_net_in n bytes =
      ap (λ (o : Order). stimulus_of l (map (field_of (width_of o) n.inputs) (with_field (width_of o) n.inputs)) bytes) same.order
      ∙ stimulus_in l m same (fields_of m n) bytes

  pub line_numbers_in : (n : Net) → numbers_of l n ≡ numbers_of m n
  line_numbers_in n =
      let by_order : Order → List Given → List ℕ = λ o xs. map (number_by o n.inputs xs) n.inputs in
      ap by_order same.order

  numbers_in : (n : Net) (stream : List (List Given)) → map (numbers_of l n) stream ≡ map (numbers_of m n) stream
  numbers_in n stream = ap (λ (o : Order). map (λ xs. map (number_by o n.inputs xs) n.inputs) stream) same.order

  shown_in : (n : Net) → shown_registers l n ≡ shown_registers m n
  shown_in n = ap (λ (o : Order). shown_among (width_of o) (port_widths n) (register_ports n.ports)) same.order

  register_in : (name : List ℕ) (value tag : ℕ) → shown l name value tag ≡ shown m name value tag
  register_in name value tag =
      ap (λ (names : List (List ℕ)). shown_by names (order_of l) name value tag) same.names
      ∙ ap (λ (o : Order). shown_by m.names o name value tag) same.order

  registers_in : (names : List (List ℕ)) (values tags : List ℕ) → shown_of l names values tags ≡ shown_of m names values tags
  registers_in [] values tags = refl
  registers_in (name ∷ names) [] tags = refl
  registers_in (name ∷ names) (value ∷ values) [] = refl
  registers_in (name ∷ names) (value ∷ values) (tag ∷ tags) = rw (register_in name value tag, registers_in names values tags) refl

  row_in : (xs : List Name) (k : ℕ) (v : Valuation) → row_of l xs k v ≡ row_of m xs k v
  row_in xs k v = ap (row_text k) (registers_in xs (map (λ x. v.value (value_name x)) xs) (map (λ x. v.value (tag_name x)) xs))

  from_in : (xs : List Name) (k : ℕ) (vs : List Valuation) → rows_from l xs k vs ≡ rows_from m xs k vs
  from_in xs k [] = refl
  from_in xs k (v ∷ vs) =
      ap (λ (text : List ℕ). text ++ rows_from l xs (k + 1) vs) (row_in xs k v) ∙ ap (λ (text : List ℕ). row_of m xs k v ++ text) (from_in xs (k + 1) vs)

  pub waves_in : (w : Wave) → rows_of_wave l w ≡ rows_of_wave m w
  waves_in w =
      let numbers = map (by_name w.variables) (drop 1 w.blocks) in
      from_in (shown_variables l w.variables) 1 numbers
      ∙ ap (λ (o : Order). rows_from m (shown_among (width_of o) (widths_of w.variables) (names_of w.variables)) 1 numbers) same.order

-- two runs of a netlist have the same rows

among_rest : (x : Name) (r : Register) (rs : List Register) → bytes_eq r.name x ≡ false → is_among x (map (λ r. r.name) (r ∷ rs)) ≡ true
    → is_among x (map (λ r. r.name) rs) ≡ true
among_rest x r rs apart among = elim (cases_Bool (bytes_eq x r.name)) [
  | inl t ↦ absurd (false≢true (sym apart ∙ subst (λ (y : Name). bytes_eq y x ≡ true) (equal_of_bytes_eq x r.name t) (bytes_eq_same x)))
  | inr f ↦ rw f at among
]

-- a register's number after the edge
module _ (v w : Valuation) (x : Name) where
  after_same : (rs : List Register) → is_among x (map (λ r. r.name) rs) ≡ true → AllByRecursion (λ r. operand_value v r.next ≡ operand_value w r.next) rs
      → value_after v x (find (map (λ r. (r.name, r.next)) rs) x) ≡ value_after w x (find (map (λ r. (r.name, r.next)) rs) x)
  after_same [] among all = absurd (false≢true among)
  after_same (r ∷ rs) among all = elim (cases_Bool (bytes_eq r.name x)) [
    | inl t ↦ rw t all.0
    | inr f ↦ rw f (after_same rs (among_rest x r rs f among) all.1)
  ]

all_next : (n : Net) (v w : Valuation) → AreSameValues n v w → (rs : List Register) → AllByRecursion (IsRegister (readable n)) rs
    → AllByRecursion (λ r. operand_value v r.next ≡ operand_value w r.next) rs
all_next n v w same [] rules = tt
all_next n v w same (r ∷ rs) rules = (operand_agree (readable n) v w same.value r.width r.next rules.0.1, all_next n v w same rs rules.1)

register_same : (n : Net) → IsNetlist n → (v w : Valuation) → AreSameValues n v w → (x : Name) → is_among x (register_names n) ≡ true
    → (observed n v).value x ≡ (observed n w).value x
register_same n rules v w same x among = after_same v w x n.registers among (all_next n v w same n.registers rules.nexts)

maps_same : (f g : Name → ℕ) (xs : List Name) → AllByRecursion (λ x. f x ≡ g x) xs → map f xs ≡ map g xs
maps_same f g [] all = refl
maps_same f g (x ∷ xs) all = rw (all.0, maps_same f g xs all.1) refl

-- what rows show of a register
abbrev IsSeen : Net → Valuation → Valuation → Name → Type 0
IsSeen n v w x =
    ((observed n v).value (value_name x) ≡ (observed n w).value (value_name x)) × ((observed n v).value (tag_name x) ≡ (observed n w).value (tag_name x))

seen : (n : Net) → IsNetlist n → (v w : Valuation) → AreSameValues n v w → (xs : List Name)
    → AllByRecursion (IsShown (register_ports n.ports) (register_ports n.ports)) xs → AllByRecursion (IsSeen n v w) xs
seen n rules v w same [] all = tt
seen n rules v w same (x ∷ xs) all = (
  (
    register_same n rules v w same (value_name x) (register_port_is n rules (value_name x) all.0.0),
    register_same n rules v w same (tag_name x) (register_port_is n rules (tag_name x) all.0.1),
  ),
  seen n rules v w same xs all.1,
)

values_seen : (n : Net) (v w : Valuation) (xs : List Name) → AllByRecursion (IsSeen n v w) xs
    → AllByRecursion (λ x. (observed n v).value (value_name x) ≡ (observed n w).value (value_name x)) xs
values_seen n v w [] all = tt
values_seen n v w (x ∷ xs) all = (all.0.0, values_seen n v w xs all.1)

tags_seen : (n : Net) (v w : Valuation) (xs : List Name) → AllByRecursion (IsSeen n v w) xs
    → AllByRecursion (λ x. (observed n v).value (tag_name x) ≡ (observed n w).value (tag_name x)) xs
tags_seen n v w [] all = tt
tags_seen n v w (x ∷ xs) all = (all.0.1, tags_seen n v w xs all.1)

module _ (ls : Levels) (n : Net) (rules : IsNetlist n) (xs : List Name) (shows : AllByRecursion (IsShown (register_ports n.ports) (register_ports n.ports)) xs) where
  row_same : (k : ℕ) (v w : Valuation) → AreSameValues n v w → row_of ls xs k (observed n v) ≡ row_of ls xs k (observed n w)
  row_same k v w same =
      let all = seen n rules v w same xs shows in
      ap (λ (values : List ℕ). row_text k (shown_of ls xs values (map (λ x. (observed n v).value (tag_name x)) xs)))
      (maps_same (λ x. (observed n v).value (value_name x)) (λ x. (observed n w).value (value_name x)) xs (values_seen n v w xs all))
      ∙ ap (λ (tags : List ℕ). row_text k (shown_of ls xs (map (λ x. (observed n w).value (value_name x)) xs) tags))
      (maps_same (λ x. (observed n v).value (tag_name x)) (λ x. (observed n w).value (tag_name x)) xs (tags_seen n v w xs all))

  pub run_rows_same : (k : ℕ) (vs ws : List Valuation) → AreSameRuns n vs ws → rows_from ls xs k (map (observed n) vs) ≡ rows_from ls xs k (map (observed n) ws)
  run_rows_same k [] [] same = refl
  run_rows_same k [] (w ∷ ws) same = absurd same
  run_rows_same k (v ∷ vs) [] same = absurd same
  run_rows_same k (v ∷ vs) (w ∷ ws) same =
      ap (λ (text : List ℕ). text ++ rows_from ls xs (k + 1) (map (observed n) vs)) (row_same k v w same.0)
      ∙ ap (λ (text : List ℕ). row_of ls xs k (observed n w) ++ text) (run_rows_same (k + 1) vs ws same.1)

pub one_rows : (ls : Levels) (n : Net) → IsNetlist n → (bytes text other : List ℕ) → AreModuleRows ls n bytes text → AreModuleRows ls n bytes other → text ≡ other
one_rows ls n rules bytes text other a b =
    let one = run_same n rules (map (numbers_of ls n) (read_for ls n bytes).stream) None None a.1.run b.1.run tt a.1.is_run b.1.is_run in
    a.1.text
    ∙ run_rows_same ls n rules (shown_registers ls n) (all_shown (width_of (order_of ls)) n (register_ports n.ports)) 1 a.1.run b.1.run one
    ∙ sym b.1.text

pub simulated_in : (l m : Levels) → AreSame l m → (n : Net) (bytes : List ℕ) (rows : Rows) → IsSimulated l n bytes rows → IsSimulated m n bytes rows
simulated_in l m same n bytes rows is =
    let inputs = numbers_in l m same n (read_for l n bytes).stream ∙ ap (λ (p : Parsed). map (numbers_of m n) p.stream) (read_net_in l m same n bytes) in
    record {
      fault = is.fault ∙ ap (λ (p : Parsed). p.fault) (read_net_in l m same n bytes);
      run = is.run;
      is_run = subst (λ (xss : List (List ℕ)). IsRun n xss is.run) inputs is.is_run;
      text =
          is.text
          ∙ from_in l m same (shown_registers l n) 1 (map (observed n) is.run)
          ∙ ap (λ (xs : List Name). rows_from m xs 1 (map (observed n) is.run)) (shown_in l m same n);
    }
