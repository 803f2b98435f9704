-- The tainted netlist keeps all rules of netlists.
use Rattle.sap_lemmas.proofs.Common.{◌≡◌, ℕ, Bool, List, [], ◌∷◌, ◌++◌, map, filter, take, length, true, false, ◌||◌, ◌&&◌, ap, ap₂, sym, ◌∙◌, subst, refl, inl, inr, arith, AllByRecursion, cases_Bool, map-append, or_true, iff_same, all_append}
use Rattle.sap_maps.specs.Maps.{Name}
use Rattle.sap_net.specs.Prelude.{Net, is_name, is_among, IsNetlist, PortShows, is_input, input_names, wire_names, register_names, memory_names, names_of}
use Rattle.sap_net.specs.declared.parts.Port.{Port}
use Rattle.sap_net.specs.declared.parts.PortKind.{PortKind}
use Rattle.sap_net.specs.declared.parts.PortKind.TheVariants as kind
use Rattle.sap_net.proofs.NamesLemmas.{filter_among, among_append}
use Rattle.sap_taint.specs.TagNames.{name_of_tag, with_tags}
use Rattle.sap_taint.specs.TaggedForm.{tagged_ports}
use Rattle.sap_taint_pass.specs.Tainted.{all_registers, help_for_wires, help_for_writes, helping_names, tainted_by}
use Rattle.sap_taint.proofs.Apart.{of_whom, tag_among}
use Rattle.sap_build.proofs.Found.{AllAmong, memories_among}
use Rattle.sap_build.proofs.OneMore.{four_parts}
use Rattle.sap_taint_pass.proofs.Filters.{filter_front, filter_names, filter_again}
use Rattle.sap_taint_pass.proofs.InOrder.{names_in, ordered_names}
use Rattle.sap_taint_pass.proofs.Numbered.{some_names, numbers_both}
use Rattle.sap_taint_pass.proofs.Setting.{Setting, among_with_tags, name_with_tags, tag_with_tags, tag_undeclared}
use Rattle.sap_taint_pass.proofs.TagWires.{names_both, tag_wires_names}
use Rattle.sap_taint_pass.proofs.WriteWires.{write_wires_names}
use Rattle.sap_taint_pass.proofs.Readable.{the_tag_wires, the_write_wires, first_values, wires_fit, registers_fit, memories_fit}
use Rattle.sap_taint_pass.proofs.IsTainted.{all_named, helpers_named, helper_is_free, names_are_distinct, tagged_input_names, ordered_registers}

-- each name is declared where something has it

pub input_names_tagged : (helping : ℕ → Name) (w : ℕ) (n : Net) → input_names (tainted_by helping w n) ≡ with_tags (input_names n)
input_names_tagged helping w n = tagged_input_names w n.inputs

pub wires_declare : (helping : ℕ → Name) (w : ℕ) (n : Net) (x : Name)
    → is_among x (wire_names (tainted_by helping w n))
    ≡ (is_among x (wire_names n)
    || ((is_among x (some_names helping 0 (help_for_wires n.wires)) || is_among x (map name_of_tag (wire_names n)))
    || is_among x (some_names helping (help_for_wires n.wires) (help_for_writes n.memories))))
wires_declare helping w n x =
    let k = help_for_wires n.wires in
    let ts = the_tag_wires helping w n in
    let ws = the_write_wires helping w n in
    ap (is_among x) (names_both n.wires (ts ++ ws))
    ∙ among_append x (wire_names n) (names_of (ts ++ ws))
    ∙ ap (λ b. is_among x (wire_names n) || b)
    (ap (is_among x) (names_both ts ws)
    ∙ among_append x (names_of ts) (names_of ws)
    ∙ ap₂ (λ a b. a || b) (tag_wires_names helping w 0 n.wires x) (ap (is_among x) (write_wires_names helping w k n.memories)))

tags_follow : (xs ys : List Name) → AllAmong xs ys → (y : Name) → is_among y (map name_of_tag xs) ≡ true → is_among y (map name_of_tag ys) ≡ true
tags_follow xs ys k y m =
    let r = of_whom y xs m in subst (λ (z : Name). is_among z (map name_of_tag ys) ≡ true) (sym r.2) (tag_among r.0 ys (k r.0 r.1))

same_tags : (xs ys : List Name) → ((x : Name) → is_among x xs ≡ is_among x ys) → (y : Name) → is_among y (map name_of_tag xs) ≡ is_among y (map name_of_tag ys)
same_tags xs ys same y =
    iff_same (is_among y (map name_of_tag xs)) (is_among y (map name_of_tag ys)) (tags_follow xs ys (λ x m. sym (same x) ∙ m) y) (tags_follow ys xs (λ x m. same x ∙ m) y)

regrouped : (i w r m ti tw tr tm h k : Bool)
    → (((((i || w) || r) || m) || (((ti || tw) || tr) || tm)) || (h || k)) ≡ ((((i || ti) || (w || ((h || tw) || k))) || ((r || tr) || tm)) || m)
regrouped true w r m ti tw tr tm h k = refl
regrouped false true r m ti tw tr tm h k = simp or_true
regrouped false false true m ti tw tr tm h k = simp or_true
regrouped false false false true ti tw tr tm h k = simp or_true
regrouped false false false false true tw tr tm h k = refl
regrouped false false false false false true tr tm h k = simp or_true
regrouped false false false false false false true tm h k = simp or_true
regrouped false false false false false false false true h k = simp or_true
regrouped false false false false false false false false true k = refl
regrouped false false false false false false false false false true = refl
regrouped false false false false false false false false false false = refl

tags_of_parts : (a b c d : List Name) → map name_of_tag (a ++ b ++ c ++ d) ≡ map name_of_tag a ++ map name_of_tag b ++ map name_of_tag c ++ map name_of_tag d
tags_of_parts a b c d =
    map-append name_of_tag (a ++ b ++ c) d
    ∙ ap (λ ns. ns ++ map name_of_tag d) (map-append name_of_tag (a ++ b) c ∙ ap (λ ns. ns ++ map name_of_tag c) (map-append name_of_tag a b))

pub helpers_both : (helping : ℕ → Name) (n : Net) (x : Name)
    → is_among x (helping_names helping n)
    ≡ (is_among x (some_names helping 0 (help_for_wires n.wires)) || is_among x (some_names helping (help_for_wires n.wires) (help_for_writes n.memories)))
helpers_both helping n x =
    let k = help_for_wires n.wires in
    let c = help_for_writes n.memories in
    ap (is_among x) (numbers_both helping 0 k c)
    ∙ ap (λ j. is_among x (some_names helping 0 k ++ some_names helping j c)) (omega arith)
    ∙ among_append x (some_names helping 0 k) (some_names helping k c)

all_declare : (helping : ℕ → Name) (w : ℕ) (n : Net) → Setting helping w n → (x : Name)
    → is_among x (with_tags n.names ++ helping_names helping n)
    ≡ is_among x (input_names (tainted_by helping w n) ++ wire_names (tainted_by helping w n) ++ register_names (tainted_by helping w n) ++ memory_names n)
all_declare helping w n s x =
    let m = tainted_by helping w n in
    let i = input_names n in
    let ws = wire_names n in
    let r = register_names n in
    let ms = memory_names n in
    let t = λ (ns : List Name). is_among x (map name_of_tag ns) in
    let h = is_among x (some_names helping 0 (help_for_wires n.wires)) in
    let k = is_among x (some_names helping (help_for_wires n.wires) (help_for_writes n.memories)) in
    let names : is_among x n.names ≡ (((is_among x i || is_among x ws) || is_among x r) || is_among x ms) = s.rules.declared x ∙ four_parts x i ws r ms in
    let tags : is_among x (map name_of_tag n.names) ≡ (((t i || t ws) || t r) || t ms) =
    same_tags n.names (i ++ ws ++ r ++ ms) s.rules.declared x ∙ ap (is_among x) (tags_of_parts i ws r ms)
    ∙ four_parts x (map name_of_tag i) (map name_of_tag ws) (map name_of_tag r) (map name_of_tag ms) in
    let help : is_among x (helping_names helping n) ≡ (h || k) = helpers_both helping n x in
    let inputs : is_among x (input_names m) ≡ (is_among x i || t i) = ap (is_among x) (input_names_tagged helping w n) ∙ among_with_tags x i in
    let left : is_among x (with_tags n.names ++ helping_names helping n)
    ≡ (((((is_among x i || is_among x ws) || is_among x r) || is_among x ms) || (((t i || t ws) || t r) || t ms)) || (h || k)) =
    among_append x (with_tags n.names) (helping_names helping n) ∙ ap₂ (λ a b. a || b) (among_with_tags x n.names ∙ ap₂ (λ a b. a || b) names tags) help in
    let right : is_among x (input_names m ++ wire_names m ++ register_names m ++ ms)
    ≡ ((((is_among x i || t i) || (is_among x ws || ((h || t ws) || k))) || ((is_among x r || t r) || t ms)) || is_among x ms) =
    four_parts x (input_names m) (wire_names m) (register_names m) ms
    ∙ ap (λ q. q || is_among x ms) (ap₂ (λ a b. a || b) (ap₂ (λ a b. a || b) inputs (wires_declare helping w n x)) (ordered_registers helping w n s x)) in
    left ∙ regrouped (is_among x i) (is_among x ws) (is_among x r) (is_among x ms) (t i) (t ws) (t r) (t ms) h k ∙ sym right

-- registers and memories in order

registers_ordered : (helping : ℕ → Name) (w : ℕ) (n : Net) → Setting helping w n
    → filter (λ x. is_among x (register_names (tainted_by helping w n))) (with_tags n.names ++ helping_names helping n) ≡ register_names (tainted_by helping w n)
registers_ordered helping w n s =
    let ns = with_tags n.names in
    let rs = all_registers helping w n in
    let f = λ (x : Name). is_among x (names_in rs) in
    subst (λ (rs : List Name). filter (λ x. is_among x rs) (ns ++ helping_names helping n) ≡ rs) (sym (ordered_names ns rs))
    (filter_front (λ x. is_among x (filter f ns)) ns (helping_names helping n)
    (λ y m. filter_among f ns y ∙ ap (λ b. b && f y) (helper_is_free helping w n s y m))
    ∙ filter_again f ns)

not_with_tags : (ns : List Name) (y : Name) → is_among y (with_tags ns) ≡ false → is_among y ns ≡ false
not_with_tags ns y h =
    elim (cases_Bool (is_among y ns)) [
      | inl t ↦ (let e = name_with_tags y ns t in absurd (cc))
      | inr f ↦ f
    ]

no_memory_among : (n : Net) → IsNetlist n → (y : Name) → is_among y n.names ≡ false → is_among y (memory_names n) ≡ false
no_memory_among n rules y h =
    elim (cases_Bool (is_among y (memory_names n))) [
      | inl t ↦ (let e = memories_among n rules y t in absurd (cc))
      | inr f ↦ f
    ]

memories_ordered : (helping : ℕ → Name) (w : ℕ) (n : Net) → Setting helping w n
    → filter (λ x. is_among x (memory_names n)) (with_tags n.names ++ helping_names helping n) ≡ memory_names n
memories_ordered helping w n s =
    let f = λ (x : Name). is_among x (memory_names n) in
    filter_front f (with_tags n.names) (helping_names helping n) (λ y m. no_memory_among n s.rules y (not_with_tags n.names y (helper_is_free helping w n s y m)))
    ∙ filter_names f n.names (λ y d. no_memory_among n s.rules (name_of_tag y) (tag_undeclared helping w n s y d))
    ∙ s.rules.memories_in_order

-- ports

ports_in_front : (ps : List Port) (ns rest : List Name) → map (λ p. p.name) ps ≡ take (length ps) ns
    → map (λ p. p.name) (tagged_ports ps) ≡ take (length (tagged_ports ps)) (with_tags ns ++ rest)
ports_in_front [] ns rest h = refl
ports_in_front (p ∷ ps) [] rest h = absurd (cc)
ports_in_front (p ∷ ps) (x ∷ ns) rest h =
    let e : p.name ≡ x = cc in
    let g : map (λ p. p.name) ps ≡ take (length ps) ns = cc in
    ap₂ (λ y ys. y ∷ name_of_tag y ∷ ys) e (ports_in_front ps ns rest g)

input_ports : (ps : List Port) → map (λ p. p.name) (filter (λ p. is_input p.kind) (tagged_ports ps)) ≡ with_tags (map (λ p. p.name) (filter (λ p. is_input p.kind) ps))
input_ports [] = refl
input_ports (p ∷ ps) =
    elim (cases_Bool (is_input p.kind)) [
      | inl t ↦ rw t (ap (λ ns. p.name ∷ name_of_tag p.name ∷ ns) (input_ports ps))
      | inr f ↦ rw f (input_ports ps)
    ]

port_shows : (helping : ℕ → Name) (w : ℕ) (n : Net) → Setting helping w n → (k : PortKind) (x : Name) → PortShows n k x
    → PortShows (tainted_by helping w n) k x × PortShows (tainted_by helping w n) k (name_of_tag x)
port_shows helping w n s kind.Input x h = (
  ap (is_among x) (input_names_tagged helping w n) ∙ name_with_tags x (input_names n) h,
  ap (is_among (name_of_tag x)) (input_names_tagged helping w n) ∙ tag_with_tags (name_of_tag x) (input_names n) (tag_among x (input_names n) h),
)
port_shows helping w n s kind.Register x h = (
  ordered_registers helping w n s x ∙ ap (λ b. (b || is_among x (map name_of_tag (register_names n))) || is_among x (map name_of_tag (memory_names n))) h,
  ordered_registers helping w n s (name_of_tag x)
      ∙ ap (λ b. (is_among (name_of_tag x) (register_names n) || b) || is_among (name_of_tag x) (map name_of_tag (memory_names n))) (tag_among x (register_names n) h)
      ∙ simp or_true,
)
port_shows helping w n s kind.Wire x h = (
  wires_declare helping w n x
      ∙ ap
      (λ b. b
      || ((is_among x (some_names helping 0 (help_for_wires n.wires)) || is_among x (map name_of_tag (wire_names n)))
      || is_among x (some_names helping (help_for_wires n.wires) (help_for_writes n.memories))))
      h,
  wires_declare helping w n (name_of_tag x)
      ∙ ap
      (λ b. is_among (name_of_tag x) (wire_names n)
      || ((is_among (name_of_tag x) (some_names helping 0 (help_for_wires n.wires)) || b)
      || is_among (name_of_tag x) (some_names helping (help_for_wires n.wires) (help_for_writes n.memories))))
      (tag_among x (wire_names n) h)
      ∙ simp or_true,
)

all_ports_show : (helping : ℕ → Name) (w : ℕ) (n : Net) → Setting helping w n → (ps : List Port) → AllByRecursion (λ p. PortShows n p.kind p.name) ps
    → AllByRecursion (λ p. PortShows (tainted_by helping w n) p.kind p.name) (tagged_ports ps)
all_ports_show helping w n s [] a = tt
all_ports_show helping w n s (p ∷ ps) a =
    let h = port_shows helping w n s p.kind p.name a.0 in (h.0, (h.1, all_ports_show helping w n s ps a.1))

pub tainted_is_netlist : (helping : ℕ → Name) (w : ℕ) (n : Net) → Setting helping w n → IsNetlist (tainted_by helping w n)
tainted_is_netlist helping w n s =
    record {
      module_named = s.rules.module_named;
      named = all_append (λ (x : Name). is_name x ≡ true) (with_tags n.names) (helping_names helping n) (all_named n.names s.rules.named) (helpers_named helping w n s);
      declared_once = names_are_distinct helping w n s;
      declared = all_declare helping w n s;
      registers_in_order = registers_ordered helping w n s;
      memories_in_order = memories_ordered helping w n s;
      ports_first = ports_in_front n.ports n.names (helping_names helping n) s.rules.ports_first;
      ports_show = all_ports_show helping w n s n.ports s.rules.ports_show;
      inputs_are_ports = input_ports n.ports ∙ ap with_tags s.rules.inputs_are_ports ∙ sym (input_names_tagged helping w n);
      values = first_values helping w n s;
      memory_shapes = s.rules.memory_shapes;
      assigns = wires_fit helping w n s;
      nexts = registers_fit helping w n s;
      writes = memories_fit helping w n s;
    }
