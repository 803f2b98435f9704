-- The rows of a netlist that stands for a design are those of the design's labelled run.
use Rattle.sap_lemmas.proofs.Common.{◌≡◌, ℕ, ◌+◌, ◌<◌, List, [], ◌∷◌, Bool, true, false, Some, None, length, map, sym, ap, ap₂, ◌∙◌, subst, refl, arith, bytes_eq, inl, inr, filter, not, cases_Bool, or_from, Decides-eqb, length-map, neither_left, neither_right}
use Rattle.sap_stim.proofs.FitsLemmas.{line_count}
use Rattle.sap_tree.specs.Prelude.{DesignTree, is_whole}
use Rattle.sap_lattice.specs.Prelude.{Levels, order_of, Laws, Codes, code_of}
use Rattle.sap_maps.specs.Prelude.{Name, Scope, find}
use Rattle.sap_maps.proofs.Scopes.{not_first, not_behind}
use Rattle.sap_meaning.specs.Prelude.{Entity, is_input, is_register, Tagged as Given, input_widths, StreamFits}
use Rattle.sap_meaning.specs.State as state
use Rattle.sap_net.specs.Prelude.{is_among, AreDistinct, Net, IsNetlist, shapes, IsRun, observed, tag_name, register_ports, port_widths, shown_among}
use Rattle.sap_net.specs.declared.parts.Input.{Input}
use Rattle.sap_cycle.proofs.Distinct.{AreFresh}
use Rattle.sap_interface.specs.Prelude.{Named, name, world, coded, coded_stream, named_of, site_count_of, StandsForDesign}
use Rattle.sap_stim.specs.declared.field.Field.{Field}
use Rattle.sap_stim.specs.declared.field.Field.TheVariants as field
use Rattle.sap_stim.specs.declared.stimulus.Parsed.{Parsed}
use Rattle.sap_stim.specs.Stimulus.{stimulus_of}
use Rattle.sap_stim.specs.Fits.{LineFits, StimulusFits}
use Rattle.sap_stim.specs.Fits as stim
use Rattle.sap_sim.specs.Prelude.{tag_width, with_field, field_of, fields_of, is_tag, given, field_names, number_for, numbers_of, register_widths, shown_registers, rows_from, IsSimulated, Rows, design_fields, labelled_rows, IsRunOf}
use Rattle.sap_sim.specs.Fields as fields
use Rattle.sap_sim.proofs.Registers.{port_wide}
use Rattle.sap_sim.proofs.Fits.{inputs_found, fresh_inputs}
use Rattle.sap_sim.proofs.labelled.Ports.{pair_names, input_names_are, register_ports_are}
use Rattle.sap_sim.proofs.labelled.Words.{input_some, register_some, value_back, tag_back, value_no_tag, tag_no_value}
use Rattle.sap_sim.proofs.labelled.Inputs.{Known, pair_scope, value_scope, to_input, inputs_are, filtered, fields_are, numbers_are, given_back}
use Rattle.sap_sim.proofs.labelled.DesignFields.{by_widths}
use Rattle.sap_sim.proofs.labelled.Registers.{register_names, Seen, shown_are, tag_among}
use Rattle.sap_sim.proofs.labelled.Cycles.{from_first, rows_stand}

-- names that are found once are distinct

none_among : (is : List Input) (x : Name) → find (fields.input_widths is) x ≡ None → is_among x (map (λ i. i.name) is) ≡ false
none_among [] x h = refl
none_among (i ∷ is) x h =
    or_from (bytes_eq x i.name) _ (not_first (i.name, i.width) (fields.input_widths is) x h) (none_among is x (not_behind (i.name, i.width) (fields.input_widths is) x h))

distinct_inputs : (is : List Input) → AreFresh (λ i. i.name) (λ i. i.width) is → AreDistinct (map (λ i. i.name) is)
distinct_inputs [] h = tt
distinct_inputs (i ∷ is) h = (none_among is i.name h.0, distinct_inputs is h.1)

fewer : (p : Input → Bool) (is : List Input) (x : Name) → is_among x (map (λ i. i.name) is) ≡ false → is_among x (map (λ i. i.name) (filter p is)) ≡ false
fewer p [] x h = refl
fewer p (i ∷ is) x h =
    let a : bytes_eq x i.name ≡ false = neither_left (bytes_eq x i.name) _ h in
    let b : is_among x (map (λ i. i.name) is) ≡ false = neither_right (bytes_eq x i.name) _ h in
    elim (cases_Bool (p i)) [ inl t ↦ rw (t, a) (fewer p is x b) | inr f ↦ rw f (fewer p is x b) ]

distinct_filtered : (p : Input → Bool) (is : List Input) → AreDistinct (map (λ i. i.name) is) → AreDistinct (map (λ i. i.name) (filter p is))
distinct_filtered p [] h = tt
distinct_filtered p (i ∷ is) h =
    elim (cases_Bool (p i)) [ inl t ↦ rw t (fewer p is i.name h.0, distinct_filtered p is h.1) | inr f ↦ rw f (distinct_filtered p is h.1) ]

-- lines that fit the fields of a design

fit_line : (ls : Levels) (us : List ℕ) (xs : List Given) → LineFits ls (map (λ w. field.Tagged w) us) xs → state.AllFit (order_of ls).count us xs
fit_line ls [] [] h = tt
fit_line ls [] (x ∷ xs) h = absurd h
fit_line ls (u ∷ us) [] h = absurd h
fit_line ls (u ∷ us) (x ∷ xs) h = (h.0.value, h.0.level, fit_line ls us xs h.1)

pub fit_stream : (ls : Levels) (t : DesignTree) (stream : List (List Given)) → stim.StreamFits ls (design_fields t) stream → StreamFits (world (named_of ls t)) stream
fit_stream ls t [] h = tt
fit_stream ls t (xs ∷ stream) h =
    let widths = input_widths (world (named_of ls t)).entities in
    (fit_line ls widths xs (subst (λ (fs : List Field). LineFits ls fs xs) (by_widths ls t) h.0), fit_stream ls t stream h.1)

module _ (ls : Levels) (t : DesignTree) (n : Net) (whole : is_whole t ≡ true) (net : IsNetlist n) (stands : StandsForDesign ls t n) where
  abbrev d : Named
  d = named_of ls t

  abbrev es : List Entity
  es = (world (named_of ls t)).entities

  known : (x : ℕ) → is_input (world (named_of ls t)) x ≡ true → Known (named_of ls t) (tag_width ls) (fields.input_widths n.inputs) x
  known x h = record {
    value = (stands.interface.declares.inputs x h).0;
    tag_is = (stands.interface.declares.inputs x h).1;
    value_base = value_back (name d x) (input_some ls t whole x h);
    tag_base = tag_back (name d x) (input_some ls t whole x h);
    no_tag = value_no_tag (name d x);
  }

  the_inputs : n.inputs ≡ map to_input (pair_scope (named_of ls t) (tag_width ls) 0 (world (named_of ls t)).entities)
  the_inputs = inputs_are d (tag_width ls) n.inputs (input_names_are d (site_count_of t) n net stands.interface.declares.ports) (inputs_found n net) known

  have_fields : with_field (tag_width ls) n.inputs ≡ map to_input (value_scope (named_of ls t) 0 (world (named_of ls t)).entities)
  have_fields = ap (filter (λ i. not (is_tag (tag_width ls) n.inputs i))) the_inputs ∙ filtered d (tag_width ls) n.inputs known 0 es

  pub same_fields : fields_of ls n ≡ design_fields t
  same_fields =
      ap (map (field_of (tag_width ls) n.inputs)) have_fields ∙ fields_are d (tag_width ls) n.inputs known 0 es (from_first d)
      ∙ sym (by_widths ls t)

  scope_firsts : (sc : Scope) → map (λ i. i.name) (map to_input sc) ≡ map (λ (e : Name × ℕ). e.0) sc
  scope_firsts [] = refl
  scope_firsts (e ∷ sc) = ap (λ (zs : List Name). e.0 ∷ zs) (scope_firsts sc)

  the_names : field_names (tag_width ls) n.inputs ≡ map (λ (e : Name × ℕ). e.0) (value_scope (named_of ls t) 0 (world (named_of ls t)).entities)
  the_names = ap (map (λ (i : Input). i.name)) have_fields ∙ scope_firsts (value_scope d 0 es)

  names_distinct : AreDistinct (field_names (tag_width ls) n.inputs)
  names_distinct = distinct_filtered (λ i. not (is_tag (tag_width ls) n.inputs i)) n.inputs (distinct_inputs n.inputs (fresh_inputs (shapes n) n.inputs _ net.values))

  pub same_numbers : (xs : List Given) → LineFits ls (fields_of ls n) xs → numbers_of ls n xs ≡ coded (code_of (order_of ls)) xs
  same_numbers xs fits =
      let vs = field_names (tag_width ls) n.inputs in
      let l : length xs ≡ length (field_names (tag_width ls) n.inputs) =
      line_count ls (fields_of ls n) xs fits ∙ length-map (with_field (tag_width ls) n.inputs) (field_of (tag_width ls) n.inputs)
      ∙ sym (length-map (with_field (tag_width ls) n.inputs) (λ i. i.name)) in
      ap (map (number_for ls n.inputs xs)) the_inputs
      ∙ numbers_are ls d n.inputs known xs 0 es
      ∙ ap (λ (ns : List Name). coded (code_of (order_of ls)) (map (given (tag_width ls) n.inputs xs) ns)) (sym the_names)
      ∙ ap (coded (code_of (order_of ls))) (given_back vs names_distinct xs l)

  pub same_stream : (stream : List (List Given)) → stim.StreamFits ls (fields_of ls n) stream → map (numbers_of ls n) stream ≡ coded_stream (code_of (order_of ls)) stream
  same_stream [] fits = refl
  same_stream (xs ∷ stream) fits = ap₂ (λ (ys : List ℕ) (yss : List (List ℕ)). ys ∷ yss) (same_numbers xs fits.0) (same_stream stream fits.1)

  seen : (x : ℕ) → x < length (world (named_of ls t)).entities → is_register (world (named_of ls t)) x ≡ true → Seen (named_of ls t) (tag_width ls) (port_widths n) x
  seen x l h =
      let z : 0 + x ≡ x = omega arith in
      let a : is_among (tag_name (name (named_of ls t) x)) (register_ports n.ports) ≡ true =
      ap (is_among (tag_name (name d x))) (register_ports_are d (site_count_of t) n stands.interface.declares.ports)
      ∙ subst (λ (y : ℕ). is_among (tag_name (name (named_of ls t) y))
      (pair_names (is_register (world (named_of ls t))) (named_of ls t) 0 (world (named_of ls t)).entities) ≡ true) z
      (tag_among d 0 es x l (ap (is_register (world d)) z ∙ h)) in
      let f : find (register_widths n.registers) (tag_name (name (named_of ls t) x)) ≡ Some (tag_width ls) =
      (stands.interface.declares.part.registers x h).1 in
      record {
        value_base = value_back (name d x) (register_some ls t whole x h);
        no_value = tag_no_value (name d x);
        has = port_wide (tag_width ls) n net (tag_name (name d x)) ∙ rw (a, f) ((Decides-eqb (tag_width ls) (tag_width ls)).1 refl);
      }

  pub same_shown : shown_registers ls n ≡ register_names (named_of ls t) 0 (world (named_of ls t)).entities
  same_shown =
      ap (shown_among (tag_width ls) (port_widths n)) (register_ports_are d (site_count_of t) n stands.interface.declares.ports)
      ∙ shown_are d (tag_width ls) (port_widths n) (length es) seen 0 es (omega arith)

  pub is_run_of : Codes (order_of ls) → Laws (order_of ls) → 0 < length ls.names → StimulusFits → (bytes : List ℕ) (rows : Rows)
      → IsSimulated ls n bytes rows → IsRunOf ls t bytes rows
  is_run_of codes laws some fit bytes rows sim =
      let p : stimulus_of ls (fields_of ls n) bytes ≡ stimulus_of ls (design_fields t) bytes = ap (λ (fs : List Field). stimulus_of ls fs bytes) same_fields in
      let read = stimulus_of ls (fields_of ls n) bytes in
      let fits = fit ls (fields_of ls n) bytes laws.bottom_is_level in
      let fits' : stim.StreamFits ls (design_fields t) (stimulus_of ls (fields_of ls n) bytes).stream =
      subst (λ (fs : List Field). stim.StreamFits ls fs (stimulus_of ls (fields_of ls n) bytes).stream) same_fields fits in
      let run : IsRun n (coded_stream (code_of (order_of ls)) (stimulus_of ls (fields_of ls n) bytes).stream) sim.run =
      subst (λ (xss : List (List ℕ)). IsRun n xss sim.run) (same_stream read.stream fits) sim.is_run in
      let cycles = stands.stands read.stream (fit_stream ls t read.stream fits') sim.run run in
      record {
        fault = sim.fault ∙ ap (λ (q : Parsed). q.fault) p;
        text =
            sim.text ∙ ap (λ (xs : List Name). rows_from ls xs 1 (map (observed n) sim.run)) same_shown
            ∙ rows_stand ls d (site_count_of t) codes some refl 1 (map (observed n) sim.run) _ cycles
            ∙ ap (λ (q : Parsed). labelled_rows ls t q.stream) p;
      }
