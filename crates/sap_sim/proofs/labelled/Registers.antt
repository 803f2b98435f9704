-- The registers that rows show of a module with a design's interface.
use Rattle.sap_lemmas.proofs.Common.{◌≡◌, ℕ, zero, suc, ◌+◌, ◌<◌, ◌≤◌, List, [], ◌∷◌, ◌++◌, Bool, true, false, ◌||◌, Some, None, length, map, sym, ap, ◌∙◌, refl, arith, bytes_eq, if◌then◌else◌, inl, inr, option_map, cases_Bool, bytes_eq_same}
use Rattle.sap_lattice.specs.Prelude.{name_at, Levels, order_of, Codes, code_of}
use Rattle.sap_maps.specs.Prelude.{Name, Valuation, Scope}
use Rattle.sap_meaning.specs.Prelude.{Entity, is_register, kind_is_register, Store, own, number, level}
use Rattle.sap_net.specs.Prelude.{is_among, value_name, tag_name, value_of, has_tag, shown_among}
use Rattle.sap_interface.specs.StandsFor.{Named, name, world}
use Rattle.sap_stim.specs.Rows.{Shown, level_coded, shown_of}
use Rattle.sap_sim.specs.Labelled.LabelledRows.{level_name, register_shown, registers_shown}
use Rattle.sap_sim.proofs.labelled.Inputs.{From, from_next, from_here}
use Rattle.sap_sim.proofs.labelled.Levels.{name_coded}
use Rattle.sap_sim.proofs.labelled.Ports.{pair_names}

-- the names of the registers, in the order of declaration
abbrev pub register_names : Named → (x : ℕ) → List Entity → List Name
register_names d x [] = []
register_names d x (e ∷ es) = (if is_register (world d) x then name d x ∷ [] else []) ++ register_names d (x + 1) es

pub record Seen (d : Named) (tag : ℕ) (widths : Scope) (x : ℕ) : Type 0 where
  pub value_base : value_of (value_name (name d x)) ≡ Some (name d x)
  pub no_value : value_of (tag_name (name d x)) ≡ None
  pub has : has_tag tag widths (name d x) ≡ true

pub shown_are : (d : Named) (tag : ℕ) (widths : Scope) (last : ℕ)
    → ((x : ℕ) → x < last → is_register (world d) x ≡ true → Seen d tag widths x) → (x : ℕ) (es : List Entity) → x + length es ≤ last
    → shown_among tag widths (pair_names (is_register (world d)) d x es) ≡ register_names d x es
shown_are d tag widths last seen x [] l = refl
shown_are d tag widths last seen x (e ∷ es) l =
    let rest : shown_among tag widths (pair_names (is_register (world d)) d (x + 1) es) ≡ register_names d (x + 1) es = shown_are d tag widths last seen (x + 1) es (omega arith) in
    elim (cases_Bool (is_register (world d) x)) [
      | inl t ↦ (let s = seen x (omega arith) t in rw (t, s.value_base, s.no_value, s.has) (ap (λ (zs : List Name). name d x ∷ zs) rest))
      | inr f ↦ rw f rest
    ]

second : (a b c : Bool) → b ≡ true → (a || (b || c)) ≡ true
second true b c h = refl
second false b c h = rw h refl

third : (a b c : Bool) → c ≡ true → (a || (b || c)) ≡ true
third true b c h = refl
third false true c h = refl
third false false c h = h

-- a register's tag is among the names of the pairs
pub tag_among : (d : Named) (x : ℕ) (es : List Entity) (k : ℕ) → k < length es → is_register (world d) (x + k) ≡ true
    → is_among (tag_name (name d (x + k))) (pair_names (is_register (world d)) d x es) ≡ true
tag_among d x [] k l t = absurd (omega arith)
tag_among d x (e ∷ es) zero l t =
    let z : x + 0 ≡ x = omega arith in
    let u : is_register (world d) x ≡ true = ap (is_register (world d)) (sym z) ∙ t in
    rw (z, u) (second (bytes_eq (tag_name (name d x)) (value_name (name d x))) (bytes_eq (tag_name (name d x)) (tag_name (name d x))) _ (bytes_eq_same (tag_name (name d x))))
tag_among d x (e ∷ es) (suc k) l t =
    let z : x + suc k ≡ x + 1 + k = omega arith in
    let u : is_register (world d) (x + 1 + k) ≡ true = ap (is_register (world d)) (sym z) ∙ t in
    let rest = tag_among d (x + 1) es k (omega arith) u in
    elim (cases_Bool (is_register (world d) x)) [
      | inl v ↦ rw (z, v) (third (bytes_eq (tag_name (name d (x + 1 + k))) (value_name (name d x))) (bytes_eq (tag_name (name d (x + 1 + k))) (tag_name (name d x))) _ rest)
      | inr f ↦ rw (z, f) rest
    ]

-- what rows show of a cycle that stands for a state
pub shown_row : (ls : Levels) (d : Named) (v : Valuation) (s : Store) → Codes (order_of ls) → 0 < length ls.names → d.code ≡ code_of (order_of ls)
    → ((x : ℕ) → is_register (world d) x ≡ true → v.value (value_name (name d x)) ≡ number (own x) s)
    → ((x : ℕ) → is_register (world d) x ≡ true → v.value (tag_name (name d x)) ≡ d.code (level (world d) (own x) s))
    → (x : ℕ) (es : List Entity) → From d x es
    → shown_of ls (register_names d x es) (map (λ n. v.value (value_name n)) (register_names d x es))
    (map (λ n. v.value (tag_name n)) (register_names d x es)) ≡ registers_shown ls d s x es
shown_row ls d v s codes some code values tags x [] from = refl
shown_row ls d v s codes some code values tags x (e ∷ es) from =
    let h : is_register (world d) x ≡ kind_is_register e.kind = ap (λ (f : Entity). kind_is_register f.kind) (sym (from_here d x e es from)) in
    let rest = shown_row ls d v s codes some code values tags (x + 1) es (from_next d x e es from) in
    let t = level (world d) (own x) s in
    elim (cases_Bool (is_register (world d) x)) [
      | inl u ↦ (
          let k : kind_is_register e.kind ≡ true = sym h ∙ u in
          let c : option_map (name_at ls.names) (level_coded ls (d.code (level (world d) (own x) s))) ≡ Some (level_name ls (level (world d) (own x) s)) =
          ap (λ (f : ℕ → ℕ). option_map (name_at ls.names) (level_coded ls (f t))) code ∙ name_coded ls codes some t in
          rw (u, k, values x u, tags x u, c) (ap (λ (zs : List Shown). register_shown ls d s x ∷ zs) rest)
          )
      | inr f ↦ (
          let k : kind_is_register e.kind ≡ false = sym h ∙ f in
          rw (f, k) rest
          )
    ]
