-- The tainted netlist has the form of the netlist with tags.
use Rattle.sap_lemmas.proofs.Common.{◌≡◌, ℕ, ◌++◌, map, true, ◌||◌, ap, sym, ◌∙◌, refl, inl, inr, or_cases, map-append, or_true, or_assoc}
use Rattle.sap_maps.specs.Maps.{Name}
use Rattle.sap_net.specs.Prelude.{Net, is_among, wire_names, register_names, memory_names}
use Rattle.sap_net.proofs.NamesLemmas.{among_append, each_among}
use Rattle.sap_taint.specs.TagNames.{name_of_tag}
use Rattle.sap_taint.specs.TaggedForm.{HasTaggedForm}
use Rattle.sap_taint_pass.specs.Tainted.{help_for_wires, help_for_writes, helping_names, tainted_by}
use Rattle.sap_taint_pass.proofs.Numbered.{some_names}
use Rattle.sap_taint_pass.proofs.Setting.{Setting}
use Rattle.sap_taint_pass.proofs.Readable.{stocked}
use Rattle.sap_taint_pass.proofs.IsTainted.{ordered_registers}
use Rattle.sap_taint_pass.proofs.TaintedRules.{wires_declare, helpers_both}

helper_is_wire : (helping : ℕ → Name) (w : ℕ) (n : Net) (x : Name) → is_among x (helping_names helping n) ≡ true → is_among x (wire_names (tainted_by helping w n)) ≡ true
helper_is_wire helping w n x m =
    let h = is_among x (some_names helping 0 (help_for_wires n.wires)) in
    let k = is_among x (some_names helping (help_for_wires n.wires) (help_for_writes n.memories)) in
    wires_declare helping w n x
    ∙ elim (or_cases h k (sym (helpers_both helping n x) ∙ m)) [
      | inl a ↦ ap (λ b. is_among x (wire_names n) || ((b || is_among x (map name_of_tag (wire_names n))) || k)) a ∙ simp or_true
      | inr a ↦ ap (λ b. is_among x (wire_names n) || ((h || is_among x (map name_of_tag (wire_names n))) || b)) a ∙ simp or_true
    ]

tag_is_wire : (helping : ℕ → Name) (w : ℕ) (n : Net) (x : Name) → is_among x (map name_of_tag (wire_names n)) ≡ true → is_among x (wire_names (tainted_by helping w n)) ≡ true
tag_is_wire helping w n x m =
    wires_declare helping w n x
    ∙ ap
    (λ b. is_among x (wire_names n)
    || ((is_among x (some_names helping 0 (help_for_wires n.wires)) || b) || is_among x (some_names helping (help_for_wires n.wires) (help_for_writes n.memories))))
    m
    ∙ simp or_true

register_members : (helping : ℕ → Name) (w : ℕ) (n : Net) → Setting helping w n → (x : Name)
    → is_among x (register_names (tainted_by helping w n)) ≡ is_among x (register_names n ++ map name_of_tag (register_names n ++ memory_names n))
register_members helping w n s x =
    let r = register_names n in
    let ms = memory_names n in
    ordered_registers helping w n s x
    ∙ sym (or_assoc (is_among x r) (is_among x (map name_of_tag r)) (is_among x (map name_of_tag ms)))
    ∙ sym
    (among_append x r (map name_of_tag (r ++ ms))
    ∙ ap (λ b. is_among x r || b) (ap (is_among x) (map-append name_of_tag r ms) ∙ among_append x (map name_of_tag r) (map name_of_tag ms)))

pub has_form : (helping : ℕ → Name) (w : ℕ) (n : Net) → Setting helping w n → HasTaggedForm w n (tainted_by helping w n)
has_form helping w n s =
    let there = stocked helping w n s in
    let m = tainted_by helping w n in
    record {
      module_name = refl;
      ports = refl;
      inputs = refl;
      helping = helping_names helping n;
      names = refl;
      helping_wires = each_among (λ x. is_among x (wire_names m) ≡ true) (helping_names helping n) (helper_is_wire helping w n);
      wires = each_among (λ x. is_among x (wire_names m) ≡ true) (map name_of_tag (wire_names n)) (tag_is_wire helping w n);
      registers = register_members helping w n s;
      memories = λ x. refl;
      values = λ x u h. (there.numbers x u h, there.tags.value x u h);
      shapes = λ x q h. (h, there.tags.memory x q h);
    }
