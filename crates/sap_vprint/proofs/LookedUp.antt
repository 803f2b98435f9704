-- What is looked up in a netlist's lists is what it has.
use Rattle.sap_lemmas.proofs.Common.{◌≡◌, ◌<◌, ℕ, zero, suc, arith, List, [], ◌∷◌, ◌++◌, length, get_or, false, Option, Some, None, refl, sym, ap, ◌∙◌, subst, inl, inr, ⊎_elim, map, is_some, IfNone, IfSome, bytes_eq, cases_Bool, or_from, equal_of_bytes_eq}
use Rattle.sap_net.proofs.NamesLemmas.{among_append}
use Rattle.sap_maps.specs.Prelude.{Name, find}
use Rattle.sap_net.specs.Prelude.{is_among, Net, IsNetlist, input_names, wire_names, register_names, memory_names}
use Rattle.sap_net.specs.declared.parts.Input.{Input}
use Rattle.sap_net.specs.declared.parts.Wire.{Wire}
use Rattle.sap_net.specs.declared.parts.Register.{Register}
use Rattle.sap_net.specs.declared.parts.Memory.{Memory}
use Rattle.sap_text.specs.Best.{StandsIn}
use Rattle.sap_vtext.specs.Names.{Shape, input, wire, register, memory}
use Rattle.sap_vtext.proofs.NameLists.{found_key}
use Rattle.sap_vprint.specs.declared.lookup.Entity.{Entity}
use Rattle.sap_vprint.specs.Lookup.{shape_of, shape_found}
use Rattle.sap_vprint.specs.Printed.{entities}
use Rattle.sap_vprint.proofs.Entities.{entity_keys}
use Rattle.sap_vprint.proofs.Declared.{input_found, register_found, wire_found, memory_found}

pub not_listed : {A : Type 0} (name : A → Name) (xs : List A) (x : Name) → ((k : ℕ) (y : A) → k < length xs → name (get_or xs k y) ≡ x → ⊥) → is_among x (map name xs) ≡ false
not_listed name [] x f = refl
not_listed name (y ∷ ys) x f =
    or_from (bytes_eq x (name y)) (is_among x (map name ys))
    (⊎_elim (λ t. absurd (f 0 y (omega arith) (sym (equal_of_bytes_eq x (name y) t)))) (λ e. e) (cases_Bool (bytes_eq x (name y))))
    (not_listed name ys x (λ k z lt e. f (suc k) z (omega arith) e))

listed : {A : Type 0} (xs : List A) (i : ℕ) (d : A) → i < length xs → StandsIn (get_or xs i d) xs
listed [] i d h = absurd (omega arith)
listed (x ∷ xs) zero d h = inl refl
listed (x ∷ xs) (suc i) d h = inr (listed xs i d (omega arith))

-- the same of a list that is equal to another
pub not_listed_in : {A : Type 0} (name : A → Name) (xs ys : List A) (x : Name) → xs ≡ ys
    → ((k : ℕ) (y : A) → k < length xs → name (get_or xs k y) ≡ x → ⊥) → is_among x (map name ys) ≡ false
not_listed_in name xs ys x e f = subst (λ zs. is_among x (map name zs) ≡ false) e (not_listed name xs x f)

pub if_none : {A : Type 0} (o : Option A) (P : Type 0) → P → IfNone o P
if_none None P p = p
if_none (Some x) P p = tt

module _ (n : Net) (h : IsNetlist n) where
  pub input_at : (xs : List Input) (i : ℕ) (d : Input) (x : Name) → xs ≡ n.inputs → i < length xs → (get_or xs i d).name ≡ x
      → find (entities n) x ≡ Some (input (get_or xs i d).width)
  input_at xs i d x q lt e =
      subst (λ z. find (entities n) z ≡ Some (input (get_or xs i d).width)) e (input_found n h (get_or xs i d) (subst (λ zs. StandsIn (get_or xs i d) zs) q (listed xs i d lt)))

  pub wire_at : (xs : List Wire) (i : ℕ) (d : Wire) (x : Name) → xs ≡ n.wires → i < length xs → (get_or xs i d).name ≡ x → find (entities n) x ≡ Some (wire (get_or xs i d).width)
  wire_at xs i d x q lt e =
      subst (λ z. find (entities n) z ≡ Some (wire (get_or xs i d).width)) e (wire_found n h (get_or xs i d) (subst (λ zs. StandsIn (get_or xs i d) zs) q (listed xs i d lt)))

  pub register_at : (xs : List Register) (i : ℕ) (d : Register) (x : Name) → xs ≡ n.registers → i < length xs → (get_or xs i d).name ≡ x
      → find (entities n) x ≡ Some (register (get_or xs i d).width)
  register_at xs i d x q lt e =
      subst (λ z. find (entities n) z ≡ Some (register (get_or xs i d).width)) e
      (register_found n h (get_or xs i d) (subst (λ zs. StandsIn (get_or xs i d) zs) q (listed xs i d lt)))

  pub memory_at : (xs : List Memory) (i : ℕ) (d : Memory) (x : Name) → xs ≡ n.memories → i < length xs → (get_or xs i d).name ≡ x
      → find (entities n) x ≡ Some (memory (get_or xs i d).width (get_or xs i d).depth)
  memory_at xs i d x q lt e =
      subst (λ z. find (entities n) z ≡ Some (memory (get_or xs i d).width (get_or xs i d).depth)) e
      (memory_found n h (get_or xs i d) (subst (λ zs. StandsIn (get_or xs i d) zs) q (listed xs i d lt)))

-- what stands on no list isn't there
pub nothing_else : (n : Net) (x : Name) → is_among x (wire_names n) ≡ false → is_among x (register_names n) ≡ false
    → is_among x (input_names n) ≡ false → is_among x (memory_names n) ≡ false
    → find (entities n) x ≡ None
nothing_else n x w r i m = by_case (find (entities n) x) (found_key (entities n) x ∙ ap (is_among x) (entity_keys n) ∙ all_false) where
  by_case : (o : Option Shape) → is_some o ≡ false → o ≡ None
  by_case None e = refl
  by_case (Some s) e = absurd (cc)

  all_false : is_among x (input_names n ++ (register_names n ++ (wire_names n ++ memory_names n))) ≡ false
  all_false =
      among_append x (input_names n) (register_names n ++ (wire_names n ++ memory_names n))
      ∙ or_from _ _ i (among_append x (register_names n) (wire_names n ++ memory_names n) ∙ or_from _ _ r (among_append x (wire_names n) (memory_names n) ∙ or_from _ _ w m))

-- what the last list has, or nothing
pub looked_up : (n : Net) (x : Name) (o : Option Entity) → IfSome o (λ e. find (entities n) x ≡ Some (shape_of e)) → IfNone o (is_among x (memory_names n) ≡ false)
    → is_among x (wire_names n) ≡ false → is_among x (register_names n) ≡ false → is_among x (input_names n) ≡ false → shape_found o ≡ find (entities n) x
looked_up n x (Some e) f g w r i = sym f
looked_up n x None f g w r i = sym (nothing_else n x w r i g)
