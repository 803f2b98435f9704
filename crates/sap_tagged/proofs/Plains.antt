-- The plain program of a design keeps the rules of its type: names are found, and states are fine.
use Rattle.sap_lemmas.proofs.Common.{◌≡◌, ℕ, ◌<◌, List, [], ◌∷◌, ◌++◌, map, Bool, true, false, not, ◌||◌, Some, None, refl, ap, ◌∙◌, subst, nat_lt, bytes_eq, inl, inr, if◌then◌else◌, AllByRecursion, cases_Bool, and_parts, lt-ltb, or_other}
use Rattle.sap_net.proofs.NamesLemmas.{among_behind, among_front, not_found}
use Rattle.sap_meaning.proofs.ProgramLemmas.{own_kind}
use Rattle.sap_maps.proofs.ScopeLemmas.{found_first, found_second}
use Rattle.sap_maps.specs.Prelude.{Name, Scope, find}
use Rattle.sap_meaning.specs.Prelude.{World, Group, entity, root, children, is_input, is_register, is_memory, is_dynamic, listed, size}
use Rattle.sap_meaning.specs.Sites as sites_of_program
use Rattle.sap_tree.specs.Words.{is_name}
use Rattle.sap_tree.specs.declared.version.Version.TheVariants.{One}
use Rattle.sap_net.specs.Prelude.{is_among, AreDistinct, seat_name}
use Rattle.sap_ir.specs.Prelude.{Source, readable, assignable, variable_names, memory_names, Nested, Forest, declarations, group_names, state_names, seats, IsPlain, is_gate}
use Rattle.sap_ir.specs.declared.guarded.Var.{Var}
use Rattle.sap_ir.specs.declared.guarded.MemoryVariable.{MemoryVariable}
use Rattle.sap_ir.proofs.Declared.{apart_lists}
use Rattle.sap_net.specs.PortNames as ports
use Rattle.sap_ir.proofs.plain.SeatWidths.{seat_holds}
use Rattle.sap_interface.specs.StandsFor.{Named, name, world}
use Rattle.sap_tagged.specs.Prelude.{numeral, entity_word, Key, seat_key, first_key, inner_key, same, key_name, Setting, setting_of, saved, top_plain, variable, level_at_start, value_var, tag_var, seat_var, site_wires, group_wires, first_wires, inner_wires, memory_of, plain_of, has_tag}
use Rattle.sap_tagged.proofs.Bools.{value_within, memory_within, tagged_within}
use Rattle.sap_tagged.proofs.KeyNames.{names_apart}
use Rattle.sap_tagged.proofs.Members.{In, find_by, among_in, in_front, in_behind}
use Rattle.sap_tagged.proofs.Groups.{LawfulStates, Shaped}
use Rattle.sap_tagged.proofs.Falls.{shaped_top}
use Rattle.sap_tagged.proofs.Premises.{Design}
use Rattle.sap_tagged.proofs.Cycle.{behind_inputs, inputs_once, registers_once, wires_once, stores_once, lawful_states, in_value, in_tag, in_own_tag, in_seat, in_memory, in_tags, in_input, in_all, refused_in, level_in}
use Rattle.sap_tagged.proofs.Ends.{Among, counted_bounds}
use Rattle.sap_tagged.proofs.Fits.{Declares}
use Rattle.sap_tagged.proofs.Bodies.{Assigns, SiteWires}
use Rattle.sap_tagged.proofs.Hanging.{root_hangs}
use Rattle.sap_tagged.proofs.Forests.{AllFound, SeatRegisters, group_has, some_states, seat_is_fine, top_fine}
use Rattle.sap_tagged.proofs.Namings.{all_states, inside_state, states_once, key_no_gate}
use Rattle.sap_tagged.proofs.Rules.{Fitting, all_names, guarded}

module _ (d : Named) (tag sites : ℕ) (design : Design d tag sites) (fit : Fitting d tag) where
  abbrev w : World
  w = world d

  abbrev p : Nested
  p = plain_of d tag sites

  abbrev src : Source
  src = declarations (plain_of d tag sites)

  abbrev set : Setting
  set = setting_of d tag

  abbrev input_names : List Name
  input_names = variable_names src.inputs

  abbrev register_names : List Name
  register_names = variable_names src.registers

  abbrev wire_names : List Name
  wire_names = variable_names src.wires

  abbrev store_names : List Name
  store_names = memory_names src.memories

  abbrev scope : List Var → Scope
  scope xs = map (λ (z : Var). (z.name, z.width)) xs

  found_own : (xs : List Var) (v : Var) → AreDistinct (variable_names xs) → In xs v → find (scope xs) v.name ≡ Some v.width
  found_own xs v o i = find_by (λ (z : Var). z.name) (λ z. z.width) xs v o i

  no_input : (n : Name) → is_among n (register_names ++ (wire_names ++ store_names)) ≡ true → find (scope src.inputs) n ≡ None
  no_input n h = not_found (λ (z : Var). z.name) (λ z. z.width) src.inputs n (apart_lists input_names (register_names ++ (wire_names ++ store_names)) design.distinct n h)

  no_register : (n : Name) → is_among n (wire_names ++ store_names) ≡ true → find (scope src.registers) n ≡ None
  no_register n h = not_found (λ (z : Var). z.name) (λ z. z.width) src.registers n (apart_lists register_names (wire_names ++ store_names) (behind_inputs d tag sites design) n h)

  input_found : (v : Var) → In src.inputs v → find (readable src) v.name ≡ Some v.width
  input_found v i =
      found_first (scope src.inputs ++ scope src.registers) (scope src.wires) v.name v.width
      (found_first (scope src.inputs) (scope src.registers) v.name v.width (found_own src.inputs v (inputs_once d tag sites design) i))

  register_found : (v : Var) → In src.registers v → find (readable src) v.name ≡ Some v.width
  register_found v i =
      found_first (scope src.inputs ++ scope src.registers) (scope src.wires) v.name v.width
      (found_second (scope src.inputs) (scope src.registers) v.name (no_input v.name (among_front v.name register_names (wire_names ++ store_names) (among_in src.registers v i)))
      ∙ found_own src.registers v (registers_once d tag sites design) i)

  register_assignable : (v : Var) → In src.registers v → find (assignable src) v.name ≡ Some v.width
  register_assignable v i = found_first (scope src.registers) (scope src.wires) v.name v.width (found_own src.registers v (registers_once d tag sites design) i)

  wire_among : (v : Var) → In src.wires v → is_among v.name (wire_names ++ store_names) ≡ true
  wire_among v i = among_front v.name wire_names store_names (among_in src.wires v i)

  wire_found : (v : Var) → In src.wires v → find (readable src) v.name ≡ Some v.width
  wire_found v i =
      let m = wire_among v i in
      let n : is_among v.name (register_names ++ (wire_names ++ store_names)) ≡ true = among_behind v.name register_names (wire_names ++ store_names) m in
      found_second (scope src.inputs ++ scope src.registers) (scope src.wires) v.name
      (found_second (scope src.inputs) (scope src.registers) v.name (no_input v.name n) ∙ no_register v.name m)
      ∙ found_own src.wires v (wires_once d tag sites design) i

  wire_assignable : (v : Var) → In src.wires v → find (assignable src) v.name ≡ Some v.width
  wire_assignable v i =
      found_second (scope src.registers) (scope src.wires) v.name (no_register v.name (wire_among v i)) ∙ found_own src.wires v (wires_once d tag sites design) i

  -- what is declared

  in_input_tag : (x : ℕ) → is_input w x ≡ true → nat_lt x (root w) ≡ true → In src.inputs (tag_var d tag x 0)
  in_input_tag x i l = in_all d tag sites design (is_input w) (λ x. value_var d x 0 ∷ tag_var d tag x 0 ∷ []) (tag_var d tag x 0) x l i (inr (inl refl))

  abbrev tag_register : ℕ → Var
  tag_register x = tag_var d tag x (level_at_start d x)

  in_tag_register : (x : ℕ) → has_tag w x ≡ true → is_input w x ≡ false → In src.registers (tag_register x)
  in_tag_register x h i = elim (cases_Bool (is_register w x)) [
    | inl e ↦ in_tag d tag sites design x e
    | inr e ↦
        in_own_tag d tag sites design x (tagged_within w x h)
        (own_kind (entity w x).kind (is_dynamic w x) (and_parts (nat_lt x (root w)) (not (is_memory w x) || is_dynamic w x) h).1 i e)
  ]

  abbrev first_wire : ℕ → Var
  first_wire m = variable (key_name d (first_key m)) tag 0

  in_first : (m : ℕ) → saved w m ≡ true → In src.wires (first_wire m)
  in_first m h =
      in_behind (site_wires d tag 1 sites) (first_wires d tag ++ (inner_wires d tag ++ group_wires d tag 0 d.program.states)) (first_wire m)
      (in_front (first_wires d tag) (inner_wires d tag ++ group_wires d tag 0 d.program.states) (first_wire m)
      (in_all d tag sites design (saved w) (λ m. first_wire m ∷ []) (first_wire m) m (memory_within w m (and_parts (is_memory w m) (is_dynamic w m) h).0) h (inl refl)))

  abbrev inner_wire : ℕ → Var
  inner_wire x = variable (key_name d (inner_key x)) tag 0

  in_inner : (x : ℕ) → nat_lt x (root w) ≡ true → 0 < children w x → In src.wires (inner_wire x)
  in_inner x l h =
      in_behind (site_wires d tag 1 sites) (first_wires d tag ++ (inner_wires d tag ++ group_wires d tag 0 d.program.states)) (inner_wire x)
      (in_behind (first_wires d tag) (inner_wires d tag ++ group_wires d tag 0 d.program.states) (inner_wire x)
      (in_front (inner_wires d tag) (group_wires d tag 0 d.program.states) (inner_wire x)
      (in_all d tag sites design (λ q. nat_lt 0 (children w q)) (λ q. inner_wire q ∷ []) (inner_wire x) x l (lt-ltb 0 (children w x) h) (inl refl))))

  own_found : AllFound src (group_wires d tag 0 d.program.states)
  own_found v i =
      let j : In src.wires v =
      in_behind (site_wires d tag 1 sites) (first_wires d tag ++ (inner_wires d tag ++ group_wires d tag 0 d.program.states)) v
      (in_behind (first_wires d tag) (inner_wires d tag ++ group_wires d tag 0 d.program.states) v (in_behind (inner_wires d tag) (group_wires d tag 0 d.program.states) v i)) in
      (wire_found v j, wire_assignable v j)

  in_site : (v : Var) → In (site_wires d tag 1 sites) v → In src.wires v
  in_site v i = in_front (site_wires d tag 1 sites) (first_wires d tag ++ (inner_wires d tag ++ group_wires d tag 0 d.program.states)) v i

  site_found : (k : ℕ) → Among (sites_of_program.program_sites d.program) k → SiteWires set src k
  site_found k a =
      let b = counted_bounds sites 1 k (subst (λ (xs : List ℕ). Among xs k) design.numbered a) in (
        wire_assignable _ (in_site _ (refused_in d tag k 1 sites b.0 b.1)),
        wire_assignable _ (in_site _ (level_in d tag k 1 sites b.0 b.1)),
      )

  seat_registers : SeatRegisters set src
  seat_registers q h = find_by (λ (z : Var). z.name) (λ z. (z.width, z.start)) src.registers (seat_var d q) (registers_once d tag sites design) (in_seat d tag sites design q h)

  declares : Declares set src
  declares = record {
    values = λ x v. elim (cases_Bool (is_input w x)) [
      | inl i ↦ input_found (value_var d x 0) (in_input d tag sites design x i (value_within w x v))
      | inr i ↦ register_found (value_var d x (entity w x).initial) (in_value d tag sites design x (or_other (is_input w x) (is_register w x) v i))
    ];
    tags = λ x h. elim (cases_Bool (is_input w x)) [
      | inl i ↦ input_found (tag_var d tag x 0) (in_input_tag x i (tagged_within w x h))
      | inr i ↦ register_found (tag_register x) (in_tag_register x h i)
    ];
    seats = λ q h. register_found (seat_var d q) (in_seat d tag sites design q h);
    firsts = λ m h. wire_found (first_wire m) (in_first m h);
    inners = λ x l h. wire_found (inner_wire x) (in_inner x l h);
    stores = λ m h. find_by (λ (z : MemoryVariable). z.name) (λ z. (z.width, z.depth)) src.memories (memory_of d m)
        (stores_once d tag sites design) (in_memory d tag sites design m h);
    marks = λ m h t. find_by (λ (z : MemoryVariable). z.name) (λ z. (z.width, z.depth)) src.memories _ (stores_once d tag sites design) (in_tags d tag sites design m h t);
    wide = fit.wide;
    small = design.small;
    few_levels = fit.few_levels;
    few_children = λ q. seat_holds (children w q) (design.few_children q);
  }

  -- registers of current children

  abbrev forest : Forest
  forest = top_plain (setting_of d tag) (listed d.program.hang) 0 d.program.states

  shape : Shaped set d.program.states forest
  shape = shaped_top set (listed d.program.hang) 0 d.program.states

  states : LawfulStates set
  states = lawful_states d tag sites design

  no_seat : (a : Key) (q : ℕ) (n : Name) → ((p : ℕ) → same a (seat_key p) ≡ false) → n ≡ key_name d (seat_key q) → bytes_eq (key_name d a) n ≡ false
  no_seat a q n f e =
      ap (bytes_eq (key_name d a)) e ∙ names_apart d design.names a (seat_key q) ∙ f q

  none_of : (n : Name) (xs : List Name) → AllByRecursion (λ (x : Name). bytes_eq n (seat_name x) ≡ false) xs → is_among n (map seat_name xs) ≡ false
  none_of n [] h = refl
  none_of n (x ∷ xs) h = rw (h.0, none_of n xs h.1) refl

  free : (a : Key) → ((p : ℕ) → same a (seat_key p) ≡ false) → is_among (key_name d a) (seats p) ≡ false
  free a f =
      let own : bytes_eq (key_name d a) ports.root_seat ≡ false = no_seat a (root w) ports.root_seat f states.root_seat in
      let others : is_among (key_name d a) (map seat_name (state_names forest)) ≡ false =
      none_of (key_name d a) (state_names forest)
      (all_states set (λ (x : Name). bytes_eq (key_name d a) (seat_name x) ≡ false) d.program.states forest shape
      (λ t i. no_seat a t (seat_name (entity_word d t)) f (states.seats t (inside_state w d.program.states 0 d.program.states design.fine.states t i).declared))) in
      rw (own, others) refl

  assigns : Assigns set src (seats p)
  assigns = record {
    values = λ x r. register_assignable (value_var d x (entity w x).initial) (in_value d tag sites design x r);
    tags = λ x h i. register_assignable (tag_register x) (in_tag_register x h i);
    firsts = λ m h. wire_assignable (first_wire m) (in_first m h);
    inners = λ x l h. wire_assignable (inner_wire x) (in_inner x l h);
    free = free;
  }

  pub plain : 0 < children w (root w) → IsPlain (plain_of d tag sites)
  plain some =
      let g : Group = d.program.states in
      let f = design.fine in
      let l : 0 < size g = subst (λ (n : ℕ). 0 < n) f.count some in
      record {
        declares = guarded d tag sites design fit;
        not_gates = all_names d tag sites design fit (λ (x : Name). is_gate x ≡ false) (key_no_gate d design.names);
        some_state = some_states set g forest shape l;
        states_named = all_states set (λ (x : Name). is_name One x ≡ true) g forest shape (λ t i. let l =
            (inside_state w g 0 g f.states t i).declared in ap (is_name One) (ap (λ (b : Bool). if b then name d t else numeral t) l) ∙ design.names.named t l);
        states_differ = states_once set states g 0 g forest f.states shape;
        root = seat_is_fine set src seat_registers declares.few_children (root w) ports.root_seat g forest states.root_seat f.count shape;
        states_fine =
            top_fine d tag src (seats p) declares assigns states seat_registers g g 0 0 (listed d.program.hang) (group_names forest)
            f.states f.states (λ t h. h) (group_has set g forest shape)
            (root_hangs w g d.program.hang f.states design.exact.hang) own_found design.exact.lists site_found fit.sized.states fit.ranged.states fit.conditions design.few_arms;
      }
