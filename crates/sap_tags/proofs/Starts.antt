-- The plain program of a design starts as the design does.
use Rattle.std.proofs.Common.{◌≡◌, ℕ, ◌<◌, ◌≤◌, [], ◌++◌, true, None, sym, ap, ◌∙◌, if◌then◌else◌, arith}
use Rattle.std.proofs.lemmas.Bool.{lt-ltb}
use Rattle.sap_maps.specs.Maps.{Name}
use Rattle.sap_tree.specs.Syntax.{DesignTree}
use Rattle.sap_lattice.specs.Prelude.{width_of, Levels, order_of}
use Rattle.sap_meaning.specs.Prelude.{World, entity, root, children, is_memory, is_state, is_dynamic, first, first_level, start, start_whole}
use Rattle.sap_meaning.proofs.ProgramLemmas.{state_no_memory}
use Rattle.sap_net.proofs.NamesLemmas.{among_front}
use Rattle.sap_net.specs.PortNames.{refused_name}
use Rattle.sap_ir.specs.Prelude.{register_number, cell_at_start, variable_names, memory_names}
use Rattle.sap_ir.specs.declared.guarded.Var.{Var}
use Rattle.sap_ir.specs.declared.guarded.MemoryVariable.{MemoryVariable}
use Rattle.sap_ir.proofs.Declared.{apart_lists}
use Rattle.sap_interface.specs.Prelude.{Named, world, depth, StandsFor, named_of, site_count_of}
use Rattle.sap_tagged.specs.Prelude.{tag_key, refused_key, key_name, IsSound, plain_for, variable, level_at_start, value_var, tag_var, seat_var, has_own_tag, registers_of, wires_of, site_wires, memory_of, memories_of, plain_of}
use Rattle.sap_tagged.proofs.Bools.{register_within, memory_within}
use Rattle.sap_tagged.proofs.Cycle.{value_known, tag_known, seat_known, root_known, refused_known, refused_in, in_value, in_tag, in_own_tag, in_seat, in_memory, in_tags, behind_inputs, registers_once, stores_once, site_bound}
use Rattle.sap_tagged.proofs.Designs.{design, some_child}
use Rattle.sap_tagged.proofs.Ends.{refusals_told}
use Rattle.sap_tagged.proofs.Members.{In, among_in, number_in, number_out, cell_in, in_front}
use Rattle.sap_tagged.proofs.Premises.{Design}
use Rattle.sap_tags.specs.Starts.{plain_initial, PlainStartsAsDesign}

module _ (d : Named) (tag sites : ℕ) (premises : Design d tag sites) (some : 0 < children (world d) (root (world d))) where
  abbrev w : World
  w = world d

  abbrev value : Name → ℕ
  value = register_number None (registers_of d tag)

  abbrev cell : Name → ℕ → ℕ
  cell = cell_at_start None (memories_of d tag)

  at_register : (v : Var) → In (registers_of d tag) v → value v.name ≡ v.start
  at_register v i = number_in None (registers_of d tag) v (registers_once d tag sites premises) i

  at_cell : (m : MemoryVariable) (i : ℕ) → In (memories_of d tag) m → cell m.name i ≡ m.start
  at_cell m i h = cell_in None (memories_of d tag) m i (stores_once d tag sites premises) h

  at_wire : (v : Var) → In (wires_of d tag sites) v → value v.name ≡ 0
  at_wire v i =
      let wires = variable_names (wires_of d tag sites) in
      let stores = memory_names (memories_of d tag) in
      number_out None (registers_of d tag) v.name
      (apart_lists (variable_names (registers_of d tag)) (wires ++ stores) (behind_inputs d tag sites premises) v.name
      (among_front v.name wires stores (among_in (wires_of d tag sites) v i)))

  at_site : (k : ℕ) → 1 ≤ k → k ≤ sites → value (refused_name k) ≡ 0
  at_site k l m =
      let refused = variable (key_name d (refused_key k)) 1 0 in
      ap value (sym (refused_known d k (site_bound d tag sites premises k m)))
      ∙ at_wire refused (in_front (site_wires d tag 1 sites) _ refused (refused_in d tag k 1 sites l (omega (arith, m))))

  abbrev tag_register : ℕ → Var
  tag_register x = tag_var d tag x (level_at_start d x)

  abbrev tags_store : ℕ → MemoryVariable
  tags_store m = record { name = key_name d (tag_key m); width = tag; depth = depth d m; start = level_at_start d m }

  own_tag_of_memory : (m : ℕ) → is_memory w m ≡ true → is_dynamic w m ≡ true → has_own_tag d m ≡ true
  own_tag_of_memory m h q = ap (λ b. if b then is_dynamic w m else is_state w m) h ∙ q

  own_tag_of_state : (x : ℕ) → is_state w x ≡ true → has_own_tag d x ≡ true
  own_tag_of_state x h = ap (λ b. if b then is_dynamic w x else is_state w x) (state_no_memory (entity w x).kind h) ∙ h

  starts : StandsFor d sites (plain_initial (plain_of d tag sites)) (first (world d)) []
  unfolding first
  starts = record {
    register_values = λ x r.
        ap value (sym (value_known d x (register_within w x r))) ∙ at_register (value_var d x (entity w x).initial) (in_value d tag sites premises x r);
    register_tags = λ x r. ap value (sym (tag_known d x (register_within w x r))) ∙ at_register (tag_register x) (in_tag d tag sites premises x r);
    cells = λ m i h l.
        ap (λ (a : Name). cell a i) (sym (value_known d m (memory_within w m h))) ∙ at_cell (memory_of d m) i (in_memory d tag sites premises m h);
    cell_tags = λ m i h q l.
        ap (λ (a : Name). cell a i) (sym (tag_known d m (memory_within w m h))) ∙ at_cell (tags_store m) i (in_tags d tag sites premises m h q)
        ∙ ap (λ b. d.code (first_level w (if b then start_whole m else start m i))) (sym q);
    memory_tags = λ m h q.
        ap value (sym (tag_known d m (memory_within w m h)))
        ∙ at_register (tag_register m) (in_own_tag d tag sites premises m (memory_within w m h) (own_tag_of_memory m h q));
    state_tags = λ x h l.
        let b = lt-ltb x (root w) l in
        ap value (sym (tag_known d x b)) ∙ at_register (tag_register x) (in_own_tag d tag sites premises x b (own_tag_of_state x h));
    seats = λ q l h. ap value (sym (seat_known d q (lt-ltb q (root w) l))) ∙ at_register (seat_var d q) (in_seat d tag sites premises q h);
    root_seat = ap value (sym (root_known d)) ∙ at_register (seat_var d (root w)) (in_seat d tag sites premises (root w) some);
    refused_sites = tt;
    refusals = λ k l m. refusals_told k [] (value (refused_name k)) (at_site k l m);
    refusal_levels = λ k u h. absurd h;
  }

pub plain_starts : (ls : Levels) (d : DesignTree) → IsSound ls d → PlainStartsAsDesign ls d (plain_for ls d)
plain_starts ls d sound = starts (named_of ls d) (width_of (order_of ls)) (site_count_of d) (design ls d sound) (some_child ls d sound)
