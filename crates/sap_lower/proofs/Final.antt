-- The netlist of a program is a netlist that declares what the program declares.
use Rattle.sap_lemmas.proofs.Common.{◌≡◌, ℕ, ◌^◌, ◌<◌, ◌||◌, List, [], ◌∷◌, ◌++◌, map, take, length, Some, None, Bool, true, false, sym, ap, ◌∙◌, subst, refl, inl, inr, append_assoc, ⊎_elim, codes, bytes_eq, AllByRecursion, cases_Bool, or_cases, all_append, map_of_all, bytes_eq_apart_back}
use Rattle.sap_lemmas.proofs.Bools.{or_follows}
use Rattle.sap_net.proofs.RulesLemmas.{wires_new, wires_distinct}
use Rattle.sap_net.proofs.NamesLemmas.{among_append, among_behind, among_front, distinct_both, each_among, not_found, among_each}
use Rattle.sap_lower.proofs.LoweredLemmas.{ports_named}
use Rattle.sap_ir.proofs.IsGuardedLemmas.{plain_wide, register_wide, variables_append}
use Rattle.sap_maps.specs.Prelude.{Name, Scope, find}
use Rattle.sap_net.specs.Prelude.{is_name, is_among, AreDistinct, IsWidth, AreWires, readable_after, IsRegister, IsMemory, AreValues, input_names, register_names, memory_names, readable, PortShows, IsNetlist, names_of}
use Rattle.sap_net.specs.declared.parts.Wire.{Wire}
use Rattle.sap_ir.specs.Prelude.{Source, variable_names, declared, IsGuarded}
use Rattle.sap_ir.specs.declared.guarded.Var.{Var}
use Rattle.sap_ir.specs.declared.guarded.MemoryVariable.{MemoryVariable}
use Rattle.sap_ir.specs.Source as source
use Rattle.sap_ir.specs.IsGuarded as ir
use Rattle.sap_ir.proofs.Declared.{distinct_front, distinct_behind, apart_lists, apart_lists_back}
use Rattle.sap_lower.specs.Lowered.{listed, register_of, memory_of, input_port, port_shown, registers_declared, all_wires, names_declared, last_lowering, lowered}
use Rattle.sap_lower.proofs.Order.{to_declared}
use Rattle.sap_lower.proofs.Begins.{scope_of}
use Rattle.sap_lower.proofs.Declares.{filter_same}
use Rattle.sap_lower.proofs.Netlist.{first_scope, first_found, last_fits}
use Rattle.sap_lower.proofs.Rules.{first_readable_is, shapes_are, each_variable}
use Rattle.sap_lower.proofs.Names.{inputs_named, registers_named, memories_named, outs_named, declared_named, declared_among, declared_distinct, new_to_first, new_to_second}
use Rattle.sap_lower.proofs.Listed.{into_listed, of_listed}
use Rattle.sap_lower.proofs.Whole.{last_short, wires_are, registers_found, nexts_are, writes_are, grows_to_all, stores_found, values_are, memories_are}
use Rattle.sap_lower.proofs.Result.{Kinds, names_distinct, names_among, registers_ordered, memories_ordered, take_front, inputs_shown, of_unported}

-- of two that never hold together
input_no_memory : (a b : Bool) → (b ≡ true → a ≡ false) → a ≡ true → b ≡ false
input_no_memory a true h t = absurd (let e = h refl in cc)
input_no_memory a false h t = refl

no_memory : (ms : List MemoryVariable) (n : Name) → find {X = ℕ × ℕ} (map (λ m. (m.name, (m.width, m.depth))) ms) n ≡ None → is_among n (ir.memory_names ms) ≡ false
no_memory [] n h = refl
no_memory (m ∷ ms) n h =
    elim (cases_Bool (bytes_eq m.name n)) [
      | inl t ↦ absurd (let g : Some (m.width, m.depth) ≡ None = rw t at h in cc)
      | inr f ↦ let u = bytes_eq_apart_back m.name n f in rw u (no_memory ms n (rw f at h))
    ]

top_named : is_name (codes "top") ≡ true
unfolding is_name
top_named = refl

among_four : (x : Name) (a b c d : List Name) → is_among x (a ++ b ++ c ++ d) ≡ (((is_among x a || is_among x b) || is_among x c) || is_among x d)
among_four x a b c d =
    among_append x (a ++ b ++ c) d ∙ ap (λ (q : Bool). q || is_among x d) (among_append x (a ++ b) c ∙ ap (λ (q : Bool). q || is_among x c) (among_append x a b))

pub scopes_append : (xs ys : List Var) → scope_of (xs ++ ys) ≡ scope_of xs ++ scope_of ys
scopes_append [] ys = refl
scopes_append (x ∷ xs) ys = ap (λ (es : Scope). (x.name, x.width) ∷ es) (scopes_append xs ys)

pub distinct_values : (xs ys : List Var) → AreDistinct (variable_names xs) → AreDistinct (variable_names ys)
    → ((n : Name) → is_among n (variable_names xs) ≡ true → is_among n (variable_names ys) ≡ false) → AreDistinct (variable_names (xs ++ ys))
distinct_values xs ys d e h = subst AreDistinct (sym (variables_append xs ys)) (distinct_both (variable_names xs) (variable_names ys) d e h)

-- the kinds of names
kinds_of : (s : Source) → IsGuarded s → AreWires (source.shapes s) (first_scope s) (all_wires s)
    → Kinds (variable_names s.inputs) (variable_names s.registers) (variable_names s.wires) (ir.memory_names s.memories) s.ports (names_of (all_wires s))
kinds_of s g w =
    let I = variable_names s.inputs in
    let R = variable_names s.registers in
    let W = variable_names s.wires in
    let M = ir.memory_names s.memories in
    let d = g.declared_once in
    let d1 = distinct_behind I (R ++ (W ++ M)) d in
    let d2 = distinct_behind R (W ++ M) d1 in
    let new = wires_new (source.shapes s) (all_wires s) (first_scope s) w in
    let first : (n : Name) → is_among n (names_of (all_wires s)) ≡ true → find (scope_of s.inputs ++ scope_of s.registers) n ≡ None = λ n h. sym (first_found s n) ∙ (new n h).0 in
    let port : (n : Name) → is_among n s.ports ≡ true → is_among n (R ++ W) ≡ true = λ n h. among_each (λ x. is_among x (R ++ W) ≡ true) s.ports g.ports_declared n h in
    record {
      inputs = distinct_front I (R ++ (W ++ M)) d;
      registers = distinct_front R (W ++ M) d1;
      memories = distinct_behind W M d2;
      ports = g.ports_once;
      wires = wires_distinct (source.shapes s) (all_wires s) (first_scope s) w;
      port_is = λ n h.
          let e : (is_among n R || is_among n W) ≡ true = sym (among_append n R W) ∙ port n h in
          or_follows (is_among n R) (is_among n W) (is_among n (names_of (all_wires s)))
          (λ t. rw (outs_named (last_lowering s).entries (last_lowering s).wires (listed s.ports s.wires))
          (among_behind n (names_of (last_lowering s).wires) (variable_names (listed s.ports s.wires)) (into_listed s.ports s.wires n t h))) e;
      port_no_input = λ n h. apart_lists I (R ++ (W ++ M)) d n (subst (λ (l : List Name). is_among n l ≡ true) (append_assoc R W M) (among_front n (R ++ W) M (port n h)));
      port_no_memory = λ n h. apart_lists_back (R ++ W) M (subst AreDistinct (sym (append_assoc R W M)) d1) n (port n h);
      register_no_input = λ n h. apart_lists I (R ++ (W ++ M)) d n (among_front n R (W ++ M) h);
      register_no_memory = λ n h. apart_lists_back (R ++ W) M (subst AreDistinct (sym (append_assoc R W M)) d1) n (among_front n R W h);
      memory_no_input = λ n h. apart_lists I (R ++ (W ++ M)) d n (among_behind n R (W ++ M) (among_behind n W M h));
      wire_no_input = λ n h. new_to_first s.inputs s.registers n (first n h);
      wire_no_register = λ n h. new_to_second s.inputs s.registers n (first n h);
      wire_no_memory = λ n h. no_memory s.memories n (new n h).1;
    }

named_wires : (ws : List Wire) → AllByRecursion (λ w. is_name w.name ≡ true) ws → AllByRecursion (λ x. is_name x ≡ true) (names_of ws)
named_wires [] a = tt
named_wires (w ∷ ws) a = (a.0, named_wires ws a.1)

shows_ports : (s : Source) → Kinds (variable_names s.inputs) (variable_names s.registers) (variable_names s.wires)
    (ir.memory_names s.memories) s.ports (names_of (all_wires s)) → (ps : List Name)
    → AllByRecursion (λ x. (is_among x (variable_names s.registers) || is_among x (names_of (all_wires s))) ≡ true) ps
    → AllByRecursion (λ p. PortShows (lowered s) p.kind p.name) (map (port_shown s.registers) ps)
shows_ports s k [] a = tt
shows_ports s k (p ∷ ps) a = (
  elim (cases_Bool (is_among p (variable_names s.registers))) [
    | inl t ↦ rw t (ap (λ (ns : List Name). is_among p ns) (registers_named (last_lowering s).entries (registers_declared s)) ∙ declared_among s.registers s.ports p ∙ t)
    | inr f ↦ let h : (false || is_among p (names_of (all_wires s))) ≡ true = rw f at a.0 in rw f h
  ],
  shows_ports s k ps a.1,
)

shows_inputs : (s : Source) (xs : List Var) → AllByRecursion (λ x. is_among x.name (variable_names s.inputs) ≡ true) xs
    → AllByRecursion (λ p. PortShows (lowered s) p.kind p.name) (map input_port xs)
shows_inputs s [] a = tt
shows_inputs s (x ∷ xs) a = (ap (λ (ns : List Name). is_among x.name ns) (inputs_named s.inputs) ∙ a.0, shows_inputs s xs a.1)

pub lowered_rules : (s : Source) → IsGuarded s → length (all_wires s) < 2 ^ 64 → IsNetlist (lowered s)
lowered_rules s g l =
    let n = lowered s in
    let t = last_lowering s in
    let I = variable_names s.inputs in
    let R = variable_names s.registers in
    let W = variable_names s.wires in
    let M = ir.memory_names s.memories in
    let P = s.ports in
    let A = names_of (all_wires s) in
    let D = registers_declared s in
    let shown = listed s.ports s.wires in
    let fits = last_fits s g (last_short s l) in
    let wires = wires_are s g fits in
    let k = kinds_of s g wires in
    let ei = inputs_named s.inputs in
    let er = registers_named t.entries D in
    let em = memories_named t.ports s.memories in
    let among_all : (x : Name) → is_among x (declared s) ≡ true → is_name x ≡ true = λ x h. among_each (λ y. is_name y ≡ true) (declared s) g.named x h in
    let ri : (x : Name) → is_among x I ≡ true → is_name x ≡ true = λ x h. among_all x (among_front x I (R ++ (W ++ M)) h) in
    let rr : (x : Name) → is_among x R ≡ true → is_name x ≡ true = λ x h. among_all x (among_behind x I (R ++ (W ++ M)) (among_front x R (W ++ M) h)) in
    let rm : (x : Name) → is_among x M ≡ true → is_name x ≡ true = λ x h. among_all x (among_behind x I (R ++ (W ++ M)) (among_behind x R (W ++ M) (among_behind x W M h))) in
    let rw' : (x : Name) → is_among x W ≡ true → is_name x ≡ true = λ x h. among_all x (among_behind x I (R ++ (W ++ M)) (among_behind x R (W ++ M) (among_front x W M h))) in
    let names_a : AllByRecursion (λ x. is_name x ≡ true) A =
    rw (outs_named t.entries t.wires shown)
    (all_append (λ x. is_name x ≡ true) (names_of t.wires) (variable_names shown) (named_wires t.wires fits.fits.named)
    (each_among (λ x. is_name x ≡ true) (variable_names shown) (λ x h. rw' x (of_listed s.ports s.wires x h)))) in
    let ra : (x : Name) → is_among x A ≡ true → is_name x ≡ true = λ x h. among_each (λ y. is_name y ≡ true) A names_a x h in
    let rp : (x : Name) → is_among x P ≡ true → is_name x ≡ true = λ x h. ⊎_elim (rr x) (ra x) (or_cases (is_among x R) (is_among x A) (k.port_is x h)) in
    let N = λ (x : Name). is_name x ≡ true in
    let sc = first_readable_is s in
    let sh = shapes_are s in
    let widths : AllByRecursion (λ x. IsWidth x.width) (s.inputs ++ D) =
    all_append (λ x. IsWidth x.width) s.inputs D (plain_wide s.inputs g.inputs) (to_declared (λ x. IsWidth x.width) s.registers P (register_wide s.registers g.registers)) in
    let new : AllByRecursion (λ x. find (source.shapes s) x.name ≡ None) (s.inputs ++ D) =
    all_append (λ x. find (source.shapes s) x.name ≡ None) s.inputs D
    (each_variable (λ x. find (source.shapes s) x.name ≡ None) s.inputs
    (λ x a. not_found {X = ℕ × ℕ} (λ (m : MemoryVariable). m.name) (λ m. (m.width, m.depth)) s.memories x.name
    (input_no_memory (is_among x.name I) (is_among x.name M) (k.memory_no_input x.name) a)))
    (to_declared (λ x. find (source.shapes s) x.name ≡ None) s.registers P
    (each_variable (λ x. find (source.shapes s) x.name ≡ None) s.registers
    (λ x a. not_found {X = ℕ × ℕ} (λ (m : MemoryVariable). m.name) (λ m. (m.width, m.depth)) s.memories x.name (k.register_no_memory x.name a)))) in
    let apart : AreDistinct (variable_names (s.inputs ++ D)) =
    distinct_values s.inputs D k.inputs (declared_distinct s.registers P k.registers k.ports)
    (λ x h. input_no_memory (is_among x I) (is_among x (variable_names D)) (λ e. k.register_no_input x (sym (declared_among s.registers P x) ∙ e)) h) in
    let values : AreValues (source.shapes s) (first_scope s) =
    subst (λ (e : Scope). AreValues (source.shapes s) e) (scopes_append s.inputs D) (values_are (source.shapes s) (s.inputs ++ D) apart widths new) in
    let readable_is : readable n ≡ readable_after (first_scope s) (all_wires s) = ap (λ (e : Scope). readable_after e (all_wires s)) sc in
    let grows = grows_to_all s g fits in
    let behind = readable_after (first_scope s) t.wires in
    let all = readable_after (first_scope s) (all_wires s) in
    let nexts : AllByRecursion (λ x. IsRegister all (register_of t.entries x)) D =
    to_declared (λ x. IsRegister all (register_of t.entries x)) s.registers P
    (nexts_are behind all (source.readable s) t.entries grows fits.env s.registers (registers_found s g) g.registers) in
    let writes : AllByRecursion (λ m. IsMemory all (memory_of t.ports m)) s.memories =
    writes_are (source.shapes s) behind all t.ports grows fits.ports s.memories (stores_found s.memories k.memories) g.memories in
    record {
      module_named = top_named;
      named = all_append N I _ (each_among N I ri)
          (all_append N P _ (each_among N P rp) (all_append N _ _ (each_among N _ (λ x h. ra x (of_unported P A x h)))
          (all_append N _ M (each_among N _ (λ x h. rr x (of_unported P R x h))) (each_among N M rm))));
      declared_once = names_distinct I R W M P A k;
      declared = λ x. names_among I R W M P A k x
          ∙ sym (among_four x (input_names n) A (register_names n) (memory_names n)
          ∙ rw (ei, er, em) (ap (λ (b : Bool). ((is_among x I || is_among x A) || b) || is_among x M) (declared_among s.registers P x)));
      registers_in_order =
          filter_same (λ x. is_among x (register_names n)) (λ x. is_among x R) (names_declared s (all_wires s))
          (λ x. ap (λ (ns : List Name). is_among x ns) er ∙ declared_among s.registers P x)
          ∙ registers_ordered I R W M P A k ∙ sym (declared_named s.registers P) ∙ sym er;
      memories_in_order =
          filter_same (λ x. is_among x (memory_names n)) (λ x. is_among x M) (names_declared s (all_wires s)) (λ x. ap (λ (ns : List Name). is_among x ns) em)
          ∙ memories_ordered I R W M P A k ∙ sym em;
      ports_first =
          let e = ports_named s.registers s.inputs P in
          e ∙ take_front n.ports (I ++ P) _ e ∙ ap (λ (ns : List Name). take (length n.ports) ns) (append_assoc I P _);
      ports_show = all_append (λ p. PortShows n p.kind p.name) (map input_port s.inputs) (map (port_shown s.registers) P)
          (shows_inputs s s.inputs (each_variable (λ x. is_among x.name I ≡ true) s.inputs (λ x a. a)))
          (shows_ports s k P (each_among (λ x. (is_among x R || is_among x A) ≡ true) P k.port_is));
      inputs_are_ports = inputs_shown s.registers s.inputs P ∙ sym ei;
      values = rw (sh, sc) values;
      memory_shapes = rw sh (memories_are s.memories k.memories g.memories);
      assigns = rw (sh, sc) wires;
      nexts = rw sc (map_of_all (IsRegister all) (register_of t.entries) D nexts);
      writes = rw sc (map_of_all (IsMemory all) (memory_of t.ports) s.memories writes);
    }
