-- Names and numbers: a used name is that of the entity of its number, and a declared name has the number of its place.
use Rattle.sap_lemmas.proofs.Common.{◌≡◌, ℕ, zero, suc, ◌+◌, ◌<◌, List, [], ◌∷◌, ◌++◌, length, Bool, true, false, not, Option, Some, None, refl, sym, ap, ◌∙◌, subst, arith, inl, inr, bytes_eq, option_map, cases_Bool, bytes_eq_same, equal_of_bytes_eq}
use Rattle.std.proofs.Math.Numerals.{add-one}
use Rattle.sap_names.proofs.NameFaultsLemmas.{no_fault}
use Rattle.sap_names.proofs.FaultLemmas.{nil_left, nil_right}
use Rattle.sap_tree.specs.declared.name.Mention.{Mention}
use Rattle.sap_names.specs.Prelude.{find, number_of, what_is, use_faults, name_faults, is_declared, twice}
use Rattle.sap_names.specs.declared.entity.Entity.{Entity}
use Rattle.sap_names.specs.declared.kind.Use.{Use as Uses}
use Rattle.sap_names.specs.declared.kind.Code.TheVariants.{E3}
use Rattle.sap_shape.specs.Sites as shape
use Rattle.sap_names.specs.Entities as entities
use Rattle.sap_meaning.specs.Program.{World, is_dynamic}
use Rattle.sap_resolved.specs.Terms.{known, entity_number}
use Rattle.sap_resolved.proofs.Lookup.{AllMatch, Numbered, numbered}
use Rattle.sap_resolved.proofs.premises.Places.{name_at}

plus_one : (o : Option ℕ) (x : ℕ) → option_map (λ n. n + 1) o ≡ Some x → (y : ℕ) × (o ≡ Some y) × (suc y ≡ x)
plus_one None x h = cc
plus_one (Some y) x h = let e : y + 1 ≡ x = cc in (y, refl, sym (add-one y) ∙ e)

-- a number is that of its entity's name
pub number_at : (es : List Entity) (a : List ℕ) (x : ℕ) → number_of es a ≡ Some x → name_at es x ≡ a
number_at [] a x h = cc
number_at (e ∷ es) a x h = elim (cases_Bool (bytes_eq e.name.name a)) [
  | inl t ↦
      let i : Some 0 ≡ Some x = rw t at h in
      let j : 0 ≡ x = cc in
      subst (λ y. name_at (e ∷ es) y ≡ a) j (equal_of_bytes_eq e.name.name a t)
  | inr t ↦
      let r = plus_one (number_of es a) x (rw t at h) in
      subst (λ y. name_at (e ∷ es) y ≡ a) r.2 (number_at es a r.0 r.1)
]

not_before : (before : List Entity) (e : Entity) (a : List ℕ) → is_declared (before ++ e ∷ []) a ≡ false
    → (is_declared before a ≡ false) × (bytes_eq e.name.name a ≡ false)
not_before [] e a h = elim (cases_Bool (bytes_eq e.name.name a)) [ inl t ↦ (let i : true ≡ false = rw t at h in cc) | inr t ↦ (refl, t) ]
not_before (f ∷ before) e a h = elim (cases_Bool (bytes_eq f.name.name a)) [
  | inl t ↦ (let i : true ≡ false = rw t at h in cc)
  | inr t ↦ (let r = not_before before e a (rw t at h) in (rw t r.0, r.1))
]

-- no name is declared twice
unique_from : (before es : List Entity) → twice before es ≡ [] → (x : ℕ) → x < length es
    → (is_declared before (name_at es x) ≡ false) × (number_of es (name_at es x) ≡ Some x)
unique_from before [] h x l = absurd (omega arith)
unique_from before (e ∷ es) h zero l =
    (no_fault (is_declared before e.name.name) E3 e.name.place (nil_left _ _ h), rw (bytes_eq_same e.name.name) refl)
unique_from before (e ∷ es) h (suc x) l =
    let s : x < length es = omega arith in
    let r = unique_from (before ++ e ∷ []) es (nil_right _ _ h) x s in
    let n = not_before before e (name_at es x) r.0 in
    (n.0, rw (n.1, r.1) (ap (λ y. Some y) (add-one x)))

pub unique : (es : List Entity) → twice [] es ≡ [] → (x : ℕ) → x < length es → entity_number es (name_at es x) ≡ x
unique es h x l = ap known (unique_from [] es h x l).1

found_of : (how : Uses) (m : Mention) (o : Option Entity) → use_faults how (option_map (λ (e : Entity). e.what) o) m.place ≡ [] → (e : Entity) × (o ≡ Some e)
found_of how m None h = cc
found_of how m (Some e) h = (e, refl)

module _ (es : List Entity) (w : World) (match : AllMatch es w.entities) where
  -- a name without faults of its use is declared
  pub found : (how : Uses) (m : Mention) → name_faults how (what_is es) m ≡ [] → (e : Entity) × (find es m.name ≡ Some e)
  found how m h = found_of how m (find es m.name) h

  pub named : (how : Uses) (m : Mention) → name_faults how (what_is es) m ≡ [] → name_at es (entity_number es m.name) ≡ m.name
  named how m h =
      let f = found how m h in
      let r : Numbered es w.entities m.name f.0 = numbered es w.entities match m.name f.0 f.1 in
      let k : entity_number es m.name ≡ r.number = ap known r.is in
      subst (λ n. name_at es n ≡ m.name) (sym k) (number_at es m.name r.number r.is)

  -- the entity of its number is dynamic where it is
  dynamic_at : (m : Mention) (e : Entity) → find es m.name ≡ Some e → is_dynamic w (entity_number es m.name) ≡ e.dynamic
  dynamic_at m e f =
      let r : Numbered es w.entities m.name e = numbered es w.entities match m.name e f in
      let k : entity_number es m.name ≡ r.number = ap known r.is in
      subst (λ n. is_dynamic w n ≡ e.dynamic) (sym k) r.same.dynamic

  pub dynamic_same : (how : Uses) (m : Mention) → name_faults how (what_is es) m ≡ [] → is_dynamic w (entity_number es m.name) ≡ shape.is_dynamic es m.name
  dynamic_same how m h = let f = found how m h in dynamic_at m f.0 f.1 ∙ sym (ap entities.dynamic_of f.1)

  pub enforced_same : (how : Uses) (m : Mention) → name_faults how (what_is es) m ≡ []
      → not (is_dynamic w (entity_number es m.name)) ≡ shape.is_enforced es m.name
  enforced_same how m h = let f = found how m h in ap (λ (b : Bool). not b) (dynamic_at m f.0 f.1) ∙ sym (ap entities.enforced_of f.1)
