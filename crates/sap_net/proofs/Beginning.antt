-- The first cycle of a netlist begins with its initial numbers.
use Rattle.sap_lemmas.proofs.Common.{◌≡◌, ◌⊎◌, ℕ, List, [], ◌∷◌, map, Some, true, inl, inr, refl, sym, ap, ◌∙◌, subst, bytes_eq, unwrap_or, Option, AllByRecursion, cases_Bool, or_right, true_is_not_false, bytes_eq_same, equal_of_bytes_eq}
use Rattle.sap_maps.specs.Prelude.{Name, find}
use Rattle.sap_net.specs.Names.{is_among, AreDistinct}
use Rattle.sap_net.specs.IsNetlist.{register_names, memory_names}
use Rattle.sap_net.specs.declared.parts.Register.{Register}
use Rattle.sap_net.specs.declared.parts.Memory.{Memory}
use Rattle.sap_net.specs.Laws.{BeginsWithInitial}
use Rattle.sap_net.proofs.NamesLemmas.{filter_distinct}

module _ {A : Type 0} (name : A → Name) (start : A → ℕ) where
  abbrev Stands : List A → A → Type 0
  Stands [] x = ⊥
  Stands (y ∷ ys) x = (y ≡ x) ⊎ Stands ys x

  named : (xs : List A) (x : A) → Stands xs x → is_among (name x) (map name xs) ≡ true
  named [] x s = absurd s
  named (y ∷ ys) x (inl e) = subst (λ (z : A). is_among (name z) (map name (y ∷ ys)) ≡ true) e (rw (bytes_eq_same (name y)) refl)
  named (y ∷ ys) x (inr s) = or_right (bytes_eq (name x) (name y)) (is_among (name x) (map name ys)) (named ys x s)

  found : (xs : List A) → AreDistinct (map name xs) → (x : A) → Stands xs x → find (map (λ z. (name z, start z)) xs) (name x) ≡ Some (start x)
  found [] d x s = absurd s
  found (y ∷ ys) d x (inl e) =
      subst (λ (z : A). find (map (λ z. (name z, start z)) (y ∷ ys)) (name z) ≡ Some (start z)) e (rw (bytes_eq_same (name y)) refl)
  found (y ∷ ys) d x (inr s) =
      elim (cases_Bool (bytes_eq (name y) (name x))) [
        | inl t ↦ (
            let again : is_among (name y) (map name ys) ≡ true =
            subst (λ (n : Name). is_among n (map name ys) ≡ true) (sym (equal_of_bytes_eq (name y) (name x) t)) (named ys x s) in
            absurd (true_is_not_false (sym again ∙ d.0))
            )
        | inr f ↦ rw f (found ys d.1 x s)
      ]

  each : (P : A → Type 0) (xs : List A) → ((x : A) → Stands xs x → P x) → AllByRecursion P xs
  each P [] f = tt
  each P (x ∷ xs) f = (f x (inl refl), each P xs (λ y s. f y (inr s)))

  starts_found : (xs : List A) → AreDistinct (map name xs) → AllByRecursion (λ x. unwrap_or (find (map (λ z. (name z, start z)) xs) (name x)) 0 ≡ start x) xs
  starts_found xs once =
      each (λ x. unwrap_or (find (map (λ z. (name z, start z)) xs) (name x)) 0 ≡ start x) xs
      (λ x s. ap (λ (o : Option ℕ). unwrap_or o 0) (found xs once x s))

for_all_cells : {A : Type 0} (P : A → Type 0) (xs : List A) → AllByRecursion P xs → AllByRecursion (λ x. (i : ℕ) → P x) xs
for_all_cells P [] a = tt
for_all_cells P (x ∷ xs) a = (λ i. a.0, for_all_cells P xs a.1)

pub begins_with_initial : BeginsWithInitial
begins_with_initial n rules =
    let registers : AreDistinct (register_names n) =
    subst (λ (ns : List Name). AreDistinct ns) rules.registers_in_order (filter_distinct (λ x. is_among x (register_names n)) n.names rules.declared_once) in
    let memories : AreDistinct (memory_names n) =
    subst (λ (ns : List Name). AreDistinct ns) rules.memories_in_order (filter_distinct (λ x. is_among x (memory_names n)) n.names rules.declared_once) in (
      starts_found (λ (r : Register). r.name) (λ (r : Register). r.start) n.registers registers,
      for_all_cells _ n.memories (starts_found (λ (m : Memory). m.name) (λ (m : Memory). m.start) n.memories memories),
    )
