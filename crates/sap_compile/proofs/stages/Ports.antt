-- The ports of the interface, and their names.
use Rattle.sap_lemmas.proofs.Common.{◌≡◌, ℕ, zero, suc, ◌+◌, ◌<◌, ◌≤◌, List, [], ◌∷◌, ◌++◌, map, Bool, true, false, ◌||◌, inl, inr, refl, sym, ap, subst, if◌then◌else◌, arith, bytes_eq, AllByRecursion, cases_Bool, all_append, bytes_eq_same, equal_of_bytes_eq}
use Rattle.sap_maps.specs.Maps.{Name}
use Rattle.sap_meaning.specs.Program.{Entity, is_input, is_register}
use Rattle.sap_net.specs.Prelude.{is_among, refused_name, refused_level_name}
use Rattle.sap_net.specs.declared.parts.PortKind.{PortKind}
use Rattle.sap_net.specs.declared.parts.PortKind.TheVariants as kind
use Rattle.sap_ir.specs.IsGuarded.{variable_names, memory_names}
use Rattle.sap_ir.specs.declared.guarded.Var.{Var}
use Rattle.sap_ir.specs.declared.guarded.MemoryVariable.{MemoryVariable}
use Rattle.sap_interface.specs.Prelude.{Named, world, Shown, pairs_of, site_ports, ports_of, holds_numbers, IsInterfaceName, value_of, tag_of, refusal_of, level_of}
use Rattle.sap_tagged.proofs.Members.{In, in_behind, reached}

-- what holds of all

pub all_front : {X : Type 0} (P : X → Type 0) (xs ys : List X) → AllByRecursion P (xs ++ ys) → AllByRecursion P xs
all_front P [] ys a = tt
all_front P (x ∷ xs) ys a = (a.0, all_front P xs ys a.1)

pub variable_among : (P : Name → Type 0) (xs : List Var) → AllByRecursion (λ x. P x.name) xs → (n : Name) → is_among n (variable_names xs) ≡ true → P n
variable_among P [] a n h = absurd (cc)
variable_among P (x ∷ xs) a n h =
    elim (cases_Bool (bytes_eq n x.name)) [ inl t ↦ subst P (sym (equal_of_bytes_eq n x.name t)) a.0 | inr f ↦ variable_among P xs a.1 n (rw f at h) ]

pub store_among : (P : Name → Type 0) (ms : List MemoryVariable) → AllByRecursion (λ m. P m.name) ms → (n : Name) → is_among n (memory_names ms) ≡ true → P n
store_among P [] a n h = absurd (cc)
store_among P (m ∷ ms) a n h =
    elim (cases_Bool (bytes_eq n m.name)) [ inl t ↦ subst P (sym (equal_of_bytes_eq n m.name t)) a.0 | inr f ↦ store_among P ms a.1 n (rw f at h) ]

-- the wires of a site are ports

refused_there : (j k n : ℕ) → k ≤ j → j < k + n → In (site_ports k n) (refused_name j, kind.Wire)
refused_there j k zero l m = absurd (omega arith)
refused_there j k (suc n) l m = elim (reached k j l) [
  | inl e ↦ inl (ap (λ (i : ℕ). let r : Shown = (refused_name i, kind.Wire) in r) e)
  | inr e ↦ inr (inr (refused_there j (k + 1) n e (omega arith)))
]

level_there : (j k n : ℕ) → k ≤ j → j < k + n → In (site_ports k n) (refused_level_name j, kind.Wire)
level_there j k zero l m = absurd (omega arith)
level_there j k (suc n) l m = elim (reached k j l) [
  | inl e ↦ inr (inl (ap (λ (i : ℕ). let r : Shown = (refused_level_name i, kind.Wire) in r) e))
  | inr e ↦ inr (inr (level_there j (k + 1) n e (omega arith)))
]

module _ (d : Named) (sites : ℕ) where
  in_sites : (q : Shown) → In (site_ports 1 sites) q → In (ports_of d sites) q
  in_sites q h =
      let inputs = pairs_of (is_input (world d)) kind.Input d 0 (world d).entities in
      let registers = pairs_of (is_register (world d)) kind.Register d 0 (world d).entities in
      in_behind (inputs ++ registers) (site_ports 1 sites) q h

  pub refused_port : (k : ℕ) → 1 ≤ k → k ≤ sites → In (ports_of d sites) (refused_name k, kind.Wire)
  refused_port k i j = in_sites _ (refused_there k 1 sites i (omega (arith, j)))

  pub level_port : (k : ℕ) → 1 ≤ k → k ≤ sites → In (ports_of d sites) (refused_level_name k, kind.Wire)
  level_port k i j = in_sites _ (level_there k 1 sites i (omega (arith, j)))

  -- each port has a name of the interface

  abbrev IsNamed : Shown → Type 0
  IsNamed q = IsInterfaceName d sites q.0

  pair_named : (k : PortKind) (x : ℕ) (b : Bool) (ns : List Shown) → (b ≡ true → AllByRecursion IsNamed ns) → AllByRecursion IsNamed (if b then ns else [])
  pair_named k x true ns h = h refl
  pair_named k x false ns h = tt

  pairs_named : (picks : ℕ → Bool) (k : PortKind) → ((x : ℕ) → picks x ≡ true → holds_numbers (world d) x ≡ true) → (x : ℕ) (es : List Entity)
      → AllByRecursion IsNamed (pairs_of picks k d x es)
  pairs_named picks k f x [] = tt
  pairs_named picks k f x (e ∷ es) =
      all_append IsNamed _ (pairs_of picks k d (x + 1) es) (pair_named k x (picks x) _ (λ h. (value_of x (f x h), (tag_of x (f x h), tt)))) (pairs_named picks k f (x + 1) es)

  sites_named : (k n : ℕ) → 1 ≤ k → k + n ≤ 1 + sites → AllByRecursion IsNamed (site_ports k n)
  sites_named k zero i l = tt
  sites_named k (suc n) i l =
      let j : k ≤ sites = omega (arith, l) in
      (refusal_of k i j, (level_of k i j, sites_named (k + 1) n (omega (arith, i)) (omega (arith, l))))

  input_holds : (x : ℕ) → is_input (world d) x ≡ true → holds_numbers (world d) x ≡ true
  input_holds x h = rw h refl

  either_on : (a b c : Bool) → b ≡ true → (a || (b || c)) ≡ true
  either_on true b c h = refl
  either_on false true c h = refl
  either_on false false c h = absurd (cc)

  register_holds : (x : ℕ) → is_register (world d) x ≡ true → holds_numbers (world d) x ≡ true
  register_holds x h = either_on _ (is_register (world d) x) _ h

  pub ports_named : AllByRecursion (λ q. IsInterfaceName d sites q.0) (ports_of d sites)
  ports_named =
      let inputs = pairs_of (is_input (world d)) kind.Input d 0 (world d).entities in
      let registers = pairs_of (is_register (world d)) kind.Register d 0 (world d).entities in
      all_append IsNamed (inputs ++ registers) (site_ports 1 sites)
      (all_append IsNamed inputs registers (pairs_named (is_input (world d)) kind.Input input_holds 0 (world d).entities)
      (pairs_named (is_register (world d)) kind.Register register_holds 0 (world d).entities))
      (sites_named 1 sites (omega arith) (omega arith))

-- a port that shows a wire is none of the inputs

no_input : kind.Input ≡ kind.Wire → ⊥
no_input e = cc

pub wire_among : (is : List Var) (shows : Name → PortKind) (ns : List Name) (n : Name)
    → In (map {B = Shown} (λ x. (x.name, kind.Input)) is ++ map (λ x. (x, shows x)) ns) (n, kind.Wire)
    → is_among n ns ≡ true
wire_among (i ∷ is) shows ns n (inl e) = absurd (no_input (ap (λ (q : Shown). q.1) e))
wire_among (i ∷ is) shows ns n (inr h) = wire_among is shows ns n h
wire_among [] shows [] n h = absurd h
wire_among [] shows (m ∷ ns) n (inl e) =
    let t : bytes_eq n m ≡ true = subst (λ (x : Name). bytes_eq n x ≡ true) (sym (ap (λ (q : Shown). q.0) e)) (bytes_eq_same n) in rw t refl
wire_among [] shows (m ∷ ns) n (inr h) =
    elim (cases_Bool (bytes_eq n m)) [ inl t ↦ rw t refl | inr f ↦ rw f (wire_among [] shows ns n h) ]
