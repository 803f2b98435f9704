-- The dump of a run reads back as the run: its numbers fit.
use Rattle.sap_lemmas.proofs.Common.{◌≡◌, ℕ, zero, suc, ◌<◌, ◌^◌, List, [], ◌∷◌, ◌++◌, true, false, Option, Some, None, length, map, take, refl, sym, ap, ◌∙◌, arith, subst, inl, inr, unwrap_or, AllByRecursion, bytes_eq, cases_Bool, neither_left, neither_right, all_second, all_of_map}
use Rattle.sap_maps.specs.Prelude.{Name, Valuation, IsWidth, Scope, find}
use Rattle.sap_maps.proofs.Scopes.{found_here, not_first, not_behind}
use Rattle.sap_net.specs.Prelude.{Net, is_name, is_among, AreDistinct, Shapes, AreValues, IsRegister, operand_value, IsNetlist, PortShows, register_names, input_names, wire_names, memory_names, first_readable, readable, shapes, width_of, IsWithin, IsRunAfter, observed, initial_number, is_register}
use Rattle.sap_net.specs.declared.parts.PortKind.{PortKind}
use Rattle.sap_net.specs.declared.parts.Port.{Port}
use Rattle.sap_net.specs.declared.parts.Register.{Register}
use Rattle.sap_net.specs.declared.parts.PortKind.TheVariants as kind
use Rattle.sap_net.proofs.NamesLemmas.{among_each, among_front, among_behind}
use Rattle.sap_net.proofs.Observed.{observed_registers}
use Rattle.sap_net.proofs.RulesLemmas.{values_found, values_past, readable_kept}
use Rattle.sap_net.proofs.Within.{nexts_below, widths_are}
use Rattle.sap_wave.specs.declared.variable.Variable.{Variable}
use Rattle.sap_wave.specs.Prelude.{AreVariables, NumbersFit, names_of, variables_among, variables_of, numbers_after, RunsReadBack}

-- The registers of a netlist.

widths_wide : (ms : Shapes) (es : Scope) → AreValues ms es → AllByRecursion (λ e. IsWidth e.1) es
widths_wide ms [] h = tt
widths_wide ms (e ∷ es) h = (h.0, widths_wide ms es h.3)

abbrev pub starts : List Register → Scope
starts rs = map (λ r. (r.name, r.start)) rs

keep_starts : (r : Register) (all rs : List Register) → find {X = ℕ} (map (λ r. (r.name, r.width)) rs) r.name ≡ None
    → AllByRecursion (λ s. find (starts all) s.name ≡ Some s.start) rs → AllByRecursion (λ s. find (starts (r ∷ all)) s.name ≡ Some s.start) rs
keep_starts r all [] fresh h = tt
keep_starts r all (s ∷ rs) fresh h = (
  rw (not_first (s.name, s.width) _ r.name fresh) h.0,
  keep_starts r all rs (not_behind (s.name, s.width) _ r.name fresh) h.1,
)

pub starts_found : (ms : Shapes) (rs : List Register) → AreValues ms (map (λ r. (r.name, r.width)) rs) → AllByRecursion (λ r. find (starts rs) r.name ≡ Some r.start) rs
starts_found ms [] h = tt
starts_found ms (r ∷ rs) h = (found_here r.name r.start (starts rs), keep_starts r rs rs h.1 (starts_found ms rs h.3))

-- what the name of each register has
pub all_names : (P : Name → Type 0) (Q : Register → Type 0) (rs : List Register) → ((r : Register) → Q r → P r.name) → AllByRecursion Q rs → AllByRecursion P (map (λ r. r.name) rs)
all_names P Q [] f h = tt
all_names P Q (r ∷ rs) f h = (f r h.0, all_names P Q rs f h.1)

pub all_and : (P Q : Register → Type 0) (rs : List Register) → AllByRecursion P rs → AllByRecursion Q rs → AllByRecursion (λ r. P r × Q r) rs
all_and P Q [] h k = tt
all_and P Q (r ∷ rs) h k = ((h.0, k.0), all_and P Q rs h.1 k.1)

-- its width is the register's
pub widths_found : (n : Net) → IsNetlist n → AllByRecursion (λ r. width_of n r.name ≡ r.width) n.registers
widths_found n rules =
    each n.registers
    (all_of_map (λ e. find (first_readable n) e.0 ≡ Some e.1) (λ (r : Register). (r.name, r.width)) n.registers
    (all_second (λ e. find (first_readable n) e.0 ≡ Some e.1) (map (λ x. (x.name, x.width)) n.inputs) (map (λ r. (r.name, r.width)) n.registers)
    (values_found (shapes n) (first_readable n) rules.values)))
  where
    each : (rs : List Register) → AllByRecursion (λ r. find (first_readable n) r.name ≡ Some r.width) rs → AllByRecursion (λ r. width_of n r.name ≡ r.width) rs
    each [] h = tt
    each (r ∷ rs) h = (widths_are n r.name r.width (readable_kept (shapes n) n.wires (first_readable n) rules.assigns r.name r.width h.0), each rs h.1)

sized_names : (n : Net) → IsNetlist n → AllByRecursion (λ x. IsWidth (width_of n x)) (register_names n)
sized_names n rules =
    let own = values_past (shapes n) n.inputs (map (λ r. (r.name, r.width)) n.registers) rules.values in
    all_names (λ x. IsWidth (width_of n x)) (λ r. (width_of n r.name ≡ r.width) × IsWidth r.width) n.registers
    (λ r h. subst IsWidth (sym h.0) h.1)
    (all_and (λ r. width_of n r.name ≡ r.width) (λ r. IsWidth r.width) n.registers (widths_found n rules)
    (all_of_map (λ e. IsWidth e.1) (λ (r : Register). (r.name, r.width)) n.registers (widths_wide (shapes n) (map (λ r. (r.name, r.width)) n.registers) own)))

below_width : (a b u w : ℕ) → a ≡ b → u ≡ w → b < 2 ^ w → a < 2 ^ u
below_width a b u w e f h = subst (λ (z : ℕ). a < 2 ^ z) (sym f) (subst (λ (z : ℕ). z < 2 ^ w) (sym e) h)

starts_below : (sc : Scope) (rs : List Register) → AllByRecursion (IsRegister sc) rs → AllByRecursion (λ r. r.start < 2 ^ r.width) rs
starts_below sc [] h = tt
starts_below sc (r ∷ rs) h = (h.0.0, starts_below sc rs h.1)

starts_fit : (n : Net) → IsNetlist n → AllByRecursion (λ x. initial_number n x < 2 ^ width_of n x) (register_names n)
starts_fit n rules =
    let own = values_past (shapes n) n.inputs (map (λ r. (r.name, r.width)) n.registers) rules.values in
    all_names (λ x. initial_number n x < 2 ^ width_of n x)
    (λ r. (width_of n r.name ≡ r.width) × ((find (starts n.registers) r.name ≡ Some r.start) × (r.start < 2 ^ r.width))) n.registers
    (λ r h. below_width (initial_number n r.name) r.start (width_of n r.name) r.width (ap (λ (o : Option ℕ). unwrap_or o 0) h.1.0) h.0 h.1.1)
    (all_and (λ r. width_of n r.name ≡ r.width) (λ r. (find (starts n.registers) r.name ≡ Some r.start) × (r.start < 2 ^ r.width)) n.registers (widths_found n rules)
    (all_and (λ r. find (starts n.registers) r.name ≡ Some r.start) (λ r. r.start < 2 ^ r.width) n.registers (starts_found (shapes n) n.registers own)
    (starts_below (readable n) n.registers rules.nexts)))

after_fit : (n : Net) → IsNetlist n → (v : Valuation) → IsWithin n v → AllByRecursion (λ x. (observed n v).value x < 2 ^ width_of n x) (register_names n)
after_fit n rules v within =
    all_names (λ x. (observed n v).value x < 2 ^ width_of n x)
    (λ r. (width_of n r.name ≡ r.width) × (((observed n v).value r.name ≡ operand_value v r.next) × (operand_value v r.next < 2 ^ r.width))) n.registers
    (λ r h. below_width ((observed n v).value r.name) (operand_value v r.next) (width_of n r.name) r.width h.1.0 h.0 h.1.1)
    (all_and (λ r. width_of n r.name ≡ r.width) (λ r. ((observed n v).value r.name ≡ operand_value v r.next)
    × (operand_value v r.next < 2 ^ r.width)) n.registers (widths_found n rules)
    (all_and (λ r. (observed n v).value r.name ≡ operand_value v r.next) (λ r. operand_value v r.next < 2 ^ r.width) n.registers (observed_registers n rules v)
    (nexts_below (readable n) v within.value n.registers rules.nexts)))

named_names : (n : Net) → IsNetlist n → (x : Name) → is_among x (register_names n) ≡ true → is_name x ≡ true
named_names n rules x h =
    among_each (λ y. is_name y ≡ true) n.names rules.named x
    (rules.declared x
    ∙ among_front x ((input_names n ++ wire_names n) ++ register_names n) (memory_names n)
    (among_behind x (input_names n ++ wire_names n) (register_names n) h))

-- The ports that show registers.

pub shows_register : (n : Net) (k : PortKind) (x : Name) → is_register k ≡ true → PortShows n k x → is_among x (register_names n) ≡ true
shows_register n kind.Input x e h = absurd (cc)
shows_register n kind.Register x e h = h
shows_register n kind.Wire x e h = absurd (cc)

pub each_shown : (n : Net) (P : Variable → Type 0) → ((x : Name) → is_among x (register_names n) ≡ true → P (record { name = x; width = width_of n x })) → (ps : List Port)
    → AllByRecursion (λ p. PortShows n p.kind p.name) ps → AllByRecursion P (variables_among n ps)
each_shown n P f [] h = tt
each_shown n P f (p ∷ ps) h =
    elim (cases_Bool (is_register p.kind)) [
      | inl t ↦ rw t (f p.name (shows_register n p.kind p.name t h.0), each_shown n P f ps h.1)
      | inr e ↦ rw e (each_shown n P f ps h.1)
    ]

fit_of_all : (f : Name → ℕ) (xs : List Variable) → AllByRecursion (λ x. f x.name < 2 ^ x.width) xs → NumbersFit xs (map (λ x. f x.name) xs)
fit_of_all f [] h = tt
fit_of_all f (x ∷ xs) h = (h.0, fit_of_all f xs h.1)

not_shown : (n : Net) (y : Name) (ps : List Port) → is_among y (map (λ p. p.name) ps) ≡ false → is_among y (names_of (variables_among n ps)) ≡ false
not_shown n y [] h = refl
not_shown n y (p ∷ ps) h =
    let first = neither_left (bytes_eq y p.name) (is_among y (map (λ p. p.name) ps)) h in
    let others = not_shown n y ps (neither_right (bytes_eq y p.name) (is_among y (map (λ p. p.name) ps)) h) in
    elim (cases_Bool (is_register p.kind)) [ inl t ↦ rw (t, first) others | inr e ↦ rw e others ]

shown_once : (n : Net) (ps : List Port) → AreDistinct (map (λ p. p.name) ps) → AreDistinct (names_of (variables_among n ps))
shown_once n [] h = tt
shown_once n (p ∷ ps) h =
    elim (cases_Bool (is_register p.kind)) [
      | inl t ↦ rw t (not_shown n p.name ps h.0, shown_once n ps h.1)
      | inr e ↦ rw e (shown_once n ps h.1)
    ]

not_taken : (k : ℕ) (y : Name) (xs : List Name) → is_among y xs ≡ false → is_among y (take k xs) ≡ false
not_taken zero y xs h = refl
not_taken (suc k) y [] h = refl
not_taken (suc k) y (x ∷ xs) h = rw (neither_left (bytes_eq y x) (is_among y xs) h) (not_taken k y xs (neither_right (bytes_eq y x) (is_among y xs) h))

distinct_taken : (k : ℕ) (xs : List Name) → AreDistinct xs → AreDistinct (take k xs)
distinct_taken zero xs h = tt
distinct_taken (suc k) [] h = tt
distinct_taken (suc k) (x ∷ xs) h = (not_taken k x xs h.0, distinct_taken k xs h.1)

pub are_variables : (n : Net) → IsNetlist n → AreVariables (variables_of n)
are_variables n rules =
    record {
      named = each_shown n (λ x. is_name x.name ≡ true) (named_names n rules) n.ports rules.ports_show;
      sized = each_shown n (λ x. IsWidth x.width) (among_each (λ x. IsWidth (width_of n x)) (register_names n) (sized_names n rules)) n.ports rules.ports_show;
      distinct = shown_once n n.ports (subst AreDistinct (sym rules.ports_first) (distinct_taken (length n.ports) n.names rules.declared_once));
    }

all_after_fit : (n : Net) → IsNetlist n → (before : Option Valuation) (xss : List (List ℕ)) (vs : List Valuation) → IsRunAfter n before xss vs
    → AllByRecursion (NumbersFit (variables_of n)) (map (numbers_after n) vs)
all_after_fit n rules before [] [] h = tt
all_after_fit n rules before [] (v ∷ vs) h = absurd h
all_after_fit n rules before (xs ∷ xss) [] h = absurd h
all_after_fit n rules before (xs ∷ xss) (v ∷ vs) h = (
  fit_of_all (λ x. (observed n v).value x) (variables_of n)
      (each_shown n (λ x. (observed n v).value x.name < 2 ^ x.width)
      (among_each (λ x. (observed n v).value x < 2 ^ width_of n x) (register_names n) (after_fit n rules v h.0.valuation.within)) n.ports rules.ports_show),
  all_after_fit n rules (Some v) xss vs h.1,
)

pub runs_read_back : RunsReadBack
runs_read_back n xss vs rules run =
    record {
      fits =
          record {
            variables = are_variables n rules;
            begun = omega arith;
            numbers = (
              fit_of_all (λ x. initial_number n x) (variables_of n)
                  (each_shown n (λ x. initial_number n x.name < 2 ^ x.width)
                  (among_each (λ x. initial_number n x < 2 ^ width_of n x) (register_names n) (starts_fit n rules)) n.ports rules.ports_show),
              all_after_fit n rules None xss vs run,
            );
          };
      is_dump = refl;
    }
