-- What a text names: at most one entity of one part.
use Rattle.sap_lemmas.proofs.Common.{◌≡◌, ℕ, List, [], ◌∷◌, ◌++◌, Option, Some, None, MatchOption, slice_get, option_map, Bor, refl, sym, ap, ap₂, ◌∙◌, subst, arith, same_Some, none-some}
use Rattle.std.proofs.lemmas.Str.Pattern.{IsSplitOnceResult, split_parts, split_after}
use Rattle.sap_names.specs.Entities.{number_of, what_is}
use Rattle.sap_names.specs.declared.entity.Entity.{Entity}
use Rattle.sap_names.specs.declared.kind.Declared.{Declared}
use Rattle.sap_names.proofs.Numbers.{find_some, find_none}
use Rattle.sap_system.specs.Wires.{NamedPart, Surroundings, Names}
use Rattle.sap_link.specs.Systems.{Endpoint, endpoint}
use Rattle.sap_wiring.specs.Wiring.{IsEndpoint, PartsNamed}
use Rattle.sap_wiring.proofs.Parts.{lacks_at, cut_same, lacks_dot, parts_apart}

-- a part's name, a dot, and an entity's name
dotted : (p e : List ℕ) → (p ++ (46 ∷ [])) ++ e ≡ p ++ (46 ∷ e)
dotted [] e = refl
dotted (c ∷ p) e = ap (λ l. c ∷ l) (dotted p e)

pub none_is : {A : Type 0} (r : Option A) (P : Type 0) (Q : A → Type 0) → r ≡ None → P → MatchOption r P Q
none_is None P Q e p = p
none_is (Some x) P Q e p = absurd (none-some x (sym e))

-- what two names of one text come to
pub record SameNames (u : Surroundings) (i j : ℕ) (e f : List ℕ) (d c : Declared) (p q : NamedPart) : Type 0 where
  pub part : i ≡ j
  pub entity : e ≡ f
  pub declared : d ≡ c
  pub same_part : p ≡ q

pub same_none : (u : Surroundings) (l m : List ℕ) → l ≡ m → ((i : ℕ) (e : List ℕ) (d : Declared) → ¬ Names u l i e d) → (i : ℕ) (e : List ℕ) (d : Declared) → ¬ Names u m i e d
same_none u l m same none i e d n = none i e d (subst (λ t. Names u t i e d) (sym same) n)

module _ (u : Surroundings) (named : PartsNamed u) where
  pub names_same : (text : List ℕ) (i j : ℕ) (e f : List ℕ) (d c : Declared) (a : Names u text i e d) (b : Names u text j f c) → SameNames u i j e f d c a.part b.part
  names_same text i j e f d c a b =
      let cut = cut_same a.part.name b.part.name e f (lacks_dot u named i a.part a.is_part) (lacks_dot u named j b.part b.is_part)
      (sym (dotted a.part.name e) ∙ sym a.spelled ∙ b.spelled ∙ dotted b.part.name f) in
      let place : i ≡ j = parts_apart u named i j a.part b.part a.is_part b.is_part cut.0 in
      let part : a.part ≡ b.part = same_Some a.part b.part (sym a.is_part ∙ ap (λ k. slice_get u.parts k) place ∙ b.is_part) in
      record {
        part = place;
        entity = cut.1;
        declared = same_Some d c (sym a.stands_for ∙ ap₂ (λ (p : NamedPart) (x : List ℕ). what_is p.entities x) part cut.1 ∙ b.stands_for);
        same_part = part;
      }

  -- a text names at most one entity
  pub endpoint_same : (text : List ℕ) (d c : Declared) (x y : Endpoint) → IsEndpoint u text d x → IsEndpoint u text c y → x ≡ y
  endpoint_same text d c x y a b =
      let s = names_same text x.part y.part a.entity b.entity d c a.names b.names in
      let n : x.entity ≡ y.entity = same_Some x.entity y.entity
      (sym a.number ∙ ap₂ (λ (p : NamedPart) (l : List ℕ). number_of p.entities l) s.same_part s.entity ∙ b.number) in
      ap₂ endpoint s.part n

  -- what an entity isn't declared as, its text doesn't name
  pub other_kind : (l m : List ℕ) → l ≡ m → (d : Declared) (x : Endpoint) → IsEndpoint u l d x → (i : ℕ) (e : List ℕ) (c : Declared) → (d ≡ c → ⊥) → ¬ Names u m i e c
  other_kind l m same d x at i e c apart n = apart (names_same m x.part i at.entity e d c (subst (λ t. Names u t x.part at.entity d) same at.names) n).declared

  -- a text without a dot names nothing
  pub uncut : (text : List ℕ) → IsSplitOnceResult 46 text None → (i : ℕ) (e : List ℕ) (d : Declared) → ¬ Names u text i e d
  uncut text none i e d n = split_after 46 text n.part.name e None none (omega arith) (n.spelled
      ∙ dotted n.part.name e) (λ k low. lacks_at n.part.name (lacks_dot u named i n.part n.is_part) k low)

  -- what stands before its first dot is the part's name, and what stands behind it the entity's
  pub cut : (text : List ℕ) (x : Bor (List ℕ) × Bor (List ℕ)) → IsSplitOnceResult 46 text (Some x)
      → (i : ℕ) (e : List ℕ) (d : Declared) (n : Names u text i e d) → (x.0.now ≡ n.part.name) × (x.1.now ≡ e)
  cut text x some i e d n = split_after 46 text n.part.name e (Some x) some (omega arith) (n.spelled
      ∙ dotted n.part.name e) (λ k low. lacks_at n.part.name (lacks_dot u named i n.part n.is_part) k low)

  -- what is no entity of the part of this name is named by no text
  pub unnumbered : (text : List ℕ) (x : Bor (List ℕ) × Bor (List ℕ)) → IsSplitOnceResult 46 text (Some x) → (k : ℕ) (q : NamedPart)
      → slice_get u.parts k ≡ Some q → q.name ≡ x.0.now
      → None ≡ number_of q.entities x.1.now → (i : ℕ) (e : List ℕ) (d : Declared) → ¬ Names u text i e d
  unnumbered text x some k q at called none i e d n =
      let parts = cut text x some i e d n in
      let place : k ≡ i = parts_apart u named k i q n.part at n.is_part (called ∙ parts.0) in
      let part : q ≡ n.part = same_Some q n.part (sym at ∙ ap (λ j. slice_get u.parts j) place ∙ n.is_part) in
      let lost : None ≡ what_is n.part.entities e = ap (λ o. option_map (λ (y : Entity). y.what) o) (find_none q.entities x.1.now none)
      ∙ ap₂ (λ (p : NamedPart) (l : List ℕ). what_is p.entities l) part parts.1 in
      none-some d (lost ∙ n.stands_for)

-- the entity of a number that was found
pub numbered : (u : Surroundings) (text : List ℕ) (x : Bor (List ℕ) × Bor (List ℕ)) → IsSplitOnceResult 46 text (Some x)
    → (k : ℕ) (q : NamedPart) → slice_get u.parts k ≡ Some q → q.name ≡ x.0.now
    → (n : ℕ) → Some n ≡ number_of q.entities x.1.now → (found : Entity) → slice_get q.entities n ≡ Some found → (e : Endpoint) → e.part ≡ k
    → e.entity ≡ n → IsEndpoint u text found.what e
numbered u text x some k q at called n is found here e e_part e_entity = record {
  entity = x.1.now;
  names = record {
    part = q;
    is_part = ap (λ i. slice_get u.parts i) e_part ∙ at;
    spelled = (split_parts 46 text (Some x) some (omega arith)).0 ∙ ap (λ l. l ++ (46 ∷ x.1.now)) (sym called) ∙ sym (dotted q.name x.1.now);
    stands_for = ap (λ o. option_map (λ (y : Entity). y.what) o) (sym (find_some q.entities x.1.now n is) ∙ here);
  };
  number = sym is ∙ ap Some (sym e_entity);
}
