-- What is added to sets, one after another.
use Rattle.sap_lemmas.proofs.Common.{◌≡◌, ◌∙◌, ℕ, ◌||◌, ◌&&◌, Bool, true, false, List, [], ◌∷◌, ◌++◌, map, refl, sym, ap, ap₂, Some, eqb, bytes_eq, or_assoc, or_false, and_false}
use Rattle.std.proofs.lemmas.List.{reverse-append}
use Rattle.sap_names.specs.Entities.{number_of, entity_number}
use Rattle.sap_names.specs.declared.entity.Entity.{Entity}
use Rattle.sap_hang.specs.Sets.{has}
use Rattle.sap_hang.specs.Rows.{rows_of}
use Rattle.sap_hang.specs.Walks.{Test, Stands, Adds, firsts_of, table_of, passing}
use Rattle.sap_hang.specs.declared.set.Set.{Set}
use Rattle.sap_hang.proofs.Numbers.{same_bytes, told_apart, Known, known, number_is}

module _ (es : List Entity) where
  -- nothing
  pub adds_none : (f : Test) (s : Set) → ((name : List ℕ) → f name ≡ false) → Adds es f s s
  adds_none f s h = record { adds = λ name x i. ap (λ (b : Bool). b || has s x) (sym (h name)) }

  pub adds_same : (f g : Test) (s t : Set) → ((name : List ℕ) → f name ≡ g name) → Adds es f s t → Adds es g s t
  adds_same f g s t h a = record { adds = λ name x i. a.adds name x i ∙ ap (λ (b : Bool). b || has s x) (h name) }

  pub adds_both : (f g : Test) (s t u : Set) → Adds es f s t → Adds es g t u → Adds es (λ name. g name || f name) s u
  adds_both f g s t u a b =
      record { adds = λ name x i. b.adds name x i ∙ ap (λ (c : Bool). g name || c) (a.adds name x i) ∙ or_assoc (g name) (f name) (has s x) }

  -- the numbers of a set
  pub adds_union : (f : Test) (other s t : Set) → Stands es f other → ((x : ℕ) → has t x ≡ (has other x || has s x)) → Adds es f s t
  adds_union f other s t h u = record { adds = λ name x i. u x ∙ ap (λ (b : Bool). b || has s x) (h.stands name x i) }

  pub stands_alone : (f : Test) (s t : Set) → ((x : ℕ) → has s x ≡ false) → Adds es f s t → Stands es f t
  stands_alone f s t e a = record { stands = λ name x i. a.adds name x i ∙ ap (λ (b : Bool). f name || b) (e x) ∙ or_false (f name) }

  pub starts : (f : Test) (s : Set) → ((x : ℕ) → has s x ≡ false) → ((name : List ℕ) → f name ≡ false) → Stands es f s
  starts f s e h = record { stands = λ name x i. e x ∙ sym (h name) }

  pub stands_more : (f g : Test) (s t : Set) → Stands es f s → Adds es g s t → Stands es (λ name. g name || f name) t
  stands_more f g s t h a = record { stands = λ name x i. a.adds name x i ∙ ap (λ (b : Bool). g name || b) (h.stands name x i) }

  pub stands_same : (f g : Test) (s : Set) → ((name : List ℕ) → f name ≡ g name) → Stands es f s → Stands es g s
  stands_same f g s h a = record { stands = λ name x i. a.stands name x i ∙ h name }

  -- the number of a name
  pub adds_name : (a : List ℕ) (k : ℕ) (s t : Set) → Some k ≡ number_of es a → ((x : ℕ) → has t x ≡ (eqb x k || has s x)) → Adds es (λ name. bytes_eq a name) s t
  adds_name a k s t h u = record { adds = λ name x i. u x ∙ ap (λ (b : Bool). b || has s x) (told_apart es a name k x (sym h) i) }

  guarded : (t b c : Bool) → t ≡ true → (b || c) ≡ ((b && t) || c)
  guarded true true c h = refl
  guarded true false c h = refl
  guarded false b c h = absurd (cc)

  -- behind a test that holds
  pub adds_where : (f : Test) (t : Bool) (s u : Set) → t ≡ true → Adds es f s u → Adds es (λ name. f name && t) s u
  adds_where f t s u h a = record { adds = λ name x i. a.adds name x i ∙ guarded t (f name) (has s x) h }

  -- a test of names that this name passes
  passed : (g : Test) (a name : List ℕ) (t b c : Bool) → g a ≡ t → t ≡ true → (b ≡ true → a ≡ name) → (b || c) ≡ ((g name && b) || c)
  passed g a name t false c h p e = ap (λ (q : Bool). q || c) (sym (and_false (g name)))
  passed g a name t true c h p e = ap (λ (q : Bool). (q && true) || c) (sym (sym (ap g (e refl)) ∙ h ∙ p))

  pub adds_passed : (g : Test) (a : List ℕ) (k : ℕ) (own s t : Set) → Stands es g own → Some k ≡ number_of es a → has own k ≡ true
      → ((x : ℕ) → has t x ≡ (eqb x k || has s x)) → Adds es (λ name. g name && bytes_eq a name) s t
  adds_passed g a k own s t h n p u =
      record {
        adds = λ name x i. (adds_name a k s t n u).adds name x i
            ∙ passed g a name true (bytes_eq a name) (has s x) (sym (h.stands a k (sym n)) ∙ p) refl (same_bytes a name);
      }

  -- rows

  abbrev firsts_in : List Entity → List ℕ
  firsts_in rest = map (λ (e : Entity). entity_number es e.name.name) rest

  pub shown : (f : Test) (s : Set) → Stands es f s → (rest : List Entity) → Known es rest → map (λ (x : ℕ). has s x) (firsts_in rest) ≡ passing rest f
  shown f s h [] k = refl
  shown f s h (e ∷ rest) k =
      ap₂ (λ (b : Bool) (l : List Bool). b ∷ l) (h.stands e.name.name (entity_number es e.name.name) (number_is (number_of es e.name.name) k.0)) (shown f s h rest k.1)

  -- one row more in front
  pub row_more : (f : Test) (s : Set) (rows new : List Set) → Stands es f s → new ≡ rows ++ s ∷ [] → table_of es new ≡ passing es f ∷ table_of es rows
  row_more f s rows new h e =
      ap (table_of es) e ∙ ap (rows_of (firsts_of es)) (reverse-append rows (s ∷ [])) ∙ ap (λ (r : List Bool). r ∷ table_of es rows) (shown f s h es (known es))
