-- What is written along a path, and where it writes a memory again.
use Rattle.sap_lemmas.proofs.Common.{◌≡◌, ◌⊎◌, inl, inr, ℕ, List, [], ◌∷◌, ◌++◌, true, refl, ap, sym, subst, ◌∙◌, bytes_eq, bytes_eq-Decides, or_cases, or_left, or_right}
use Rattle.sap_tree.specs.Syntax.{SimpleCommand, write, set_cell_tag}
use Rattle.sap_names.specs.Fault.{StandsIn}
use Rattle.sap_names.specs.declared.fault.Fault.{Fault}
use Rattle.sap_shape.specs.Paths.{Path, IsOfMemory, place_of, twice_at}
use Rattle.sap_shape.specs.Walk.{Written, past_simple, either}

-- faults of two lists

pub stands_left : (f : Fault) (a b : List Fault) → StandsIn f a → StandsIn f (a ++ b)
stands_left f [] b h = absurd h
stands_left f (x ∷ a) b (inl h) = inl h
stands_left f (x ∷ a) b (inr h) = inr (stands_left f a b h)

pub stands_right : (f : Fault) (a b : List Fault) → StandsIn f b → StandsIn f (a ++ b)
stands_right f [] b h = h
stands_right f (x ∷ a) b h = inr (stands_right f a b h)

pub stands_parts : (f : Fault) (a b : List Fault) → StandsIn f (a ++ b) → StandsIn f a ⊎ StandsIn f b
stands_parts f [] b h = inr h
stands_parts f (x ∷ a) b (inl h) = inl (inl h)
stands_parts f (x ∷ a) b (inr h) = elim (stands_parts f a b h) [ inl i ↦ inl (inr i) | inr i ↦ inr i ]

-- one command

pub step_past : (k : SimpleCommand) (p : Written) (m : List ℕ) → past_simple k p m ≡ true → (p m ≡ true) ⊎ IsOfMemory k m
step_past (write target index e) p m h = elim (or_cases (bytes_eq target.name m) (p m) h) [ inl i ↦ inr ((bytes_eq-Decides target.name m).0 i) | inr i ↦ inl i ]
step_past (set_cell_tag place target index tag) p m h =
    elim (or_cases (bytes_eq target.name m) (p m) h) [ inl i ↦ inr ((bytes_eq-Decides target.name m).0 i) | inr i ↦ inl i ]
step_past _ p m h = inl h

pub past_before : (k : SimpleCommand) (p : Written) (m : List ℕ) → p m ≡ true → past_simple k p m ≡ true
past_before (write target index e) p m h = or_right (bytes_eq target.name m) (p m) h
past_before (set_cell_tag place target index tag) p m h = or_right (bytes_eq target.name m) (p m) h
past_before _ p m h = h

pub past_here : (k : SimpleCommand) (p : Written) (m : List ℕ) → IsOfMemory k m → past_simple k p m ≡ true
past_here (write target index e) p m h = or_left (bytes_eq target.name m) (p m) ((bytes_eq-Decides target.name m).1 h)
past_here (set_cell_tag place target index tag) p m h = or_left (bytes_eq target.name m) (p m) ((bytes_eq-Decides target.name m).1 h)
past_here _ p m h = absurd h

-- what has been written behind a path

abbrev pub past_path : Path → Written → Written
past_path [] p = p
past_path (k ∷ path) p = past_path path (past_simple k p)

pub past_both : (a b : Path) (p : Written) → past_path (a ++ b) p ≡ past_path b (past_path a p)
past_both [] b p = refl
past_both (k ∷ a) b p = past_both a b (past_simple k p)

pub past_kept : (path : Path) (p : Written) (m : List ℕ) → p m ≡ true → past_path path p m ≡ true
past_kept [] p m h = h
past_kept (k ∷ path) p m h = past_kept path (past_simple k p) m (past_before k p m h)

-- k stands on the path, behind a command of its memory or where that was written before

abbrev pub Behind : Written → Path → SimpleCommand → Type 0
Behind p [] k = ⊥
Behind p (j ∷ path) k = ((k ≡ j) × (m : List ℕ) × IsOfMemory k m × (p m ≡ true)) ⊎ Behind (past_simple j p) path k

pub behind_front : (a b : Path) (p : Written) (k : SimpleCommand) → Behind p a k → Behind p (a ++ b) k
behind_front [] b p k h = absurd h
behind_front (j ∷ a) b p k (inl h) = inl h
behind_front (j ∷ a) b p k (inr h) = inr (behind_front a b (past_simple j p) k h)

pub behind_rest : (a b : Path) (p : Written) (k : SimpleCommand) → Behind (past_path a p) b k → Behind p (a ++ b) k
behind_rest [] b p k h = h
behind_rest (j ∷ a) b p k h = inr (behind_rest a b (past_simple j p) k h)

behind_parts : (a b : Path) (p : Written) (k : SimpleCommand) → Behind p (a ++ b) k → Behind p a k ⊎ Behind (past_path a p) b k
behind_parts [] b p k h = inr h
behind_parts (j ∷ a) b p k (inl h) = inl (inl h)
behind_parts (j ∷ a) b p k (inr h) = elim (behind_parts a b (past_simple j p) k h) [ inl i ↦ inl (inr i) | inr i ↦ inr i ]

-- What holds where these memories are written, and why: one of them is enough, or none is needed.

abbrev Cause : (Written → Type 0) → Written → Type 0
Cause A p = ((m : List ℕ) × (p m ≡ true) × ((q : Written) → q m ≡ true → A q)) ⊎ ((q : Written) → A q)

abbrev Caused : (Written → Type 0) → Type 0
Caused A = (p : Written) → A p → Cause A p

cause_before : (k : SimpleCommand) (A : Written → Type 0) (p : Written) → Cause A (past_simple k p) → Cause (λ q. A (past_simple k q)) p
cause_before k A p (inl c) = elim (step_past k p c.0 c.1) [
  | inl i ↦ inl (c.0, i, λ q h. c.2 (past_simple k q) (past_before k q c.0 h))
  | inr i ↦ inr (λ q. c.2 (past_simple k q) (past_here k q c.0 i))
]
cause_before k A p (inr c) = inr (λ q. c (past_simple k q))

past_caused : (path : Path) (m : List ℕ) → Caused (λ p. past_path path p m ≡ true)
past_caused [] m p h = inl (m, h, λ q i. i)
past_caused (k ∷ path) m p h = cause_before k (λ q. past_path path q m ≡ true) p (past_caused path m (past_simple k p) h)

behind_caused : (path : Path) (k : SimpleCommand) → Caused (λ p. Behind p path k)
behind_caused [] k p h = absurd h
behind_caused (j ∷ path) k p (inl h) = inl (h.1, h.3, λ q i. inl (h.0, h.1, h.2, i))
behind_caused (j ∷ path) k p (inr h) = elim (cause_before j (λ q. Behind q path k) p (behind_caused path k (past_simple j p) h)) [
  | inl c ↦ inl (c.0, c.1, λ q i. inr (c.2 q i))
  | inr c ↦ inr (λ q. inr (c q))
]

-- one path and then another
abbrev pub Then : (Path → Type 0) → (Path → Type 0) → Path → Type 0
Then T V path = (first : Path) × (rest : Path) × T first × V rest × (path ≡ first ++ rest)

abbrev pub Either : (Path → Type 0) → (Path → Type 0) → Path → Type 0
Either T V path = T path ⊎ V path

-- D has what paths T have written behind them
pub record Reaches (D : Written → Written) (T : Path → Type 0) : Type 0 where
  pub on_path : (m : List ℕ) (p : Written) → D p m ≡ true → (path : Path) × T path × (past_path path p m ≡ true)
  pub of_path : (m : List ℕ) (p : Written) (path : Path) → T path → past_path path p m ≡ true → D p m ≡ true

-- A has the commands of paths T that write a memory again
pub record Repeats (A : Written → List Fault) (T : Path → Type 0) : Type 0 where
  pub on_path : (p : Written) (f : Fault) → StandsIn f (A p) → (k : SimpleCommand) × (path : Path) × T path × Behind p path k × (f ≡ twice_at (place_of k))
  pub of_path : (p : Written) (k : SimpleCommand) (path : Path) → T path → Behind p path k → StandsIn (twice_at (place_of k)) (A p)

module _ (D : Written → Written) (T : Path → Type 0) (R : Reaches D T) where
  carried : (path : Path) × T path → (A : Written → Type 0) → Caused A → (p : Written) → A (D p) → (path : Path) × T path × A (past_path path p)
  carried some A caused p h = elim (caused (D p) h) [
    | inl c ↦ (let r = R.on_path c.0 p c.1 in (r.0, r.1, c.2 (past_path r.0 p) r.2))
    | inr c ↦ (some.0, some.1, c (past_path some.0 p))
  ]

  arrived : (A : Written → Type 0) → Caused A → (p : Written) (path : Path) → T path → A (past_path path p) → A (D p)
  arrived A caused p path t h = elim (caused (past_path path p) h) [ inl c ↦ c.2 (D p) (R.of_path c.0 p path t c.1) | inr c ↦ c (D p) ]

  -- on a second part
  module _ (V : Path → Type 0) where
    pub reaches_behind : (path : Path) × T path → (E : Written → Written) → Reaches E V → Reaches (λ p. E (D p)) (Then T V)
    reaches_behind some E S = record {
      on_path = λ m p h.
          let r = S.on_path m (D p) h in
          let c = carried some (λ q. past_path r.0 q m ≡ true) (past_caused r.0 m) p r.2 in
          (c.0 ++ r.0, (c.0, r.0, c.1, r.1, refl), ap (λ (w : Written). w m) (past_both c.0 r.0 p) ∙ c.2);
      of_path = λ m p path t h.
          S.of_path m (D p) t.1 t.3
          (arrived (λ q. past_path t.1 q m ≡ true) (past_caused t.1 m) p t.0 t.2
          (sym (ap (λ (w : Written). w m) (past_both t.0 t.1 p)) ∙ subst (λ (x : Path). past_path x p m ≡ true) t.4 h));
    }

    module _ (A : Written → List Fault) (S : Repeats A V) where
      pub found_behind : (path : Path) × T path → (p : Written) (f : Fault) → StandsIn f (A (D p))
          → (k : SimpleCommand) × (path : Path) × Then T V path × Behind p path k × (f ≡ twice_at (place_of k))
      found_behind some p f h =
          let r = S.on_path (D p) f h in
          let c = carried some (λ q. Behind q r.1 r.0) (behind_caused r.1 r.0) p r.3 in
          (r.0, c.0 ++ r.1, (c.0, r.1, c.1, r.2, refl), behind_rest c.0 r.1 p r.0 c.2, r.4)

      pub stands_behind : (p : Written) (k : SimpleCommand) (first rest : Path) → T first → V rest → Behind (past_path first p) rest k
          → StandsIn (twice_at (place_of k)) (A (D p))
      stands_behind p k first rest t v h = S.of_path (D p) k rest v (arrived (λ q. Behind q rest k) (behind_caused rest k) p first t h)

pub then_parts : (T V : Path → Type 0) (path : Path) (t : Then T V path) (p : Written) (k : SimpleCommand) → Behind p path k
    → Behind p t.0 k ⊎ Behind (past_path t.0 p) t.1 k
then_parts T V path t p k h = behind_parts t.0 t.1 p k (subst (λ (x : Path). Behind p x k) t.4 h)

-- two sets of paths

pub reaches_either : (D E : Written → Written) (T V : Path → Type 0) → Reaches D T → Reaches E V → Reaches (λ p. either (D p) (E p)) (Either T V)
reaches_either D E T V R S = record {
  on_path = λ m p h. elim (or_cases (D p m) (E p m) h) [
    | inl i ↦ (let r = R.on_path m p i in (r.0, inl r.1, r.2))
    | inr i ↦ (let r = S.on_path m p i in (r.0, inr r.1, r.2))
  ];
  of_path = λ m p path t h. elim t [
    | inl i ↦ or_left (D p m) (E p m) (R.of_path m p path i h)
    | inr i ↦ or_right (D p m) (E p m) (S.of_path m p path i h)
  ];
}

pub repeats_either : (A B : Written → List Fault) (T V : Path → Type 0) → Repeats A T → Repeats B V → Repeats (λ p. A p ++ B p) (Either T V)
repeats_either A B T V R S = record {
  on_path = λ p f h. elim (stands_parts f (A p) (B p) h) [
    | inl i ↦ (let r = R.on_path p f i in (r.0, r.1, inl r.2, r.3, r.4))
    | inr i ↦ (let r = S.on_path p f i in (r.0, r.1, inr r.2, r.3, r.4))
  ];
  of_path = λ p k path t h. elim t [
    | inl i ↦ stands_left (twice_at (place_of k)) (A p) (B p) (R.of_path p k path i h)
    | inr i ↦ stands_right (twice_at (place_of k)) (A p) (B p) (S.of_path p k path i h)
  ];
}

pub repeats_then : (D : Written → Written) (A B : Written → List Fault) (T V : Path → Type 0) → (path : Path) × T path → (path : Path) × V path
    → Reaches D T → Repeats A T → Repeats B V → Repeats (λ p. A p ++ B (D p)) (Then T V)
repeats_then D A B T V some other R S P = record {
  on_path = λ p f h. elim (stands_parts f (A p) (B (D p)) h) [
    | inl i ↦ (
        let r = S.on_path p f i in
        (r.0, r.1 ++ other.0, (r.1, other.0, r.2, other.1, refl), behind_front r.1 other.0 p r.0 r.3, r.4))
    | inr i ↦ found_behind D T R V B P some p f i
  ];
  of_path = λ p k path t h. elim (then_parts T V path t p k h) [
    | inl i ↦ stands_left (twice_at (place_of k)) (A p) (B (D p)) (S.of_path p k t.0 t.2 i)
    | inr i ↦ stands_right (twice_at (place_of k)) (A p) (B (D p)) (stands_behind D T R V B P p k t.0 t.1 t.2 t.3 i)
  ];
}

-- the same paths in other words
pub reaches_same : (D : Written → Written) (T V : Path → Type 0) → ((path : Path) → T path → V path) → ((path : Path) → V path → T path) → Reaches D T → Reaches D V
reaches_same D T V to from R = record {
  on_path = λ m p h. let r = R.on_path m p h in (r.0, to r.0 r.1, r.2);
  of_path = λ m p path t h. R.of_path m p path (from path t) h;
}

pub repeats_same : (A : Written → List Fault) (T V : Path → Type 0) → ((path : Path) → T path → V path) → ((path : Path) → V path → T path) → Repeats A T
    → Repeats A V
repeats_same A T V to from R = record {
  on_path = λ p f h. let r = R.on_path p f h in (r.0, r.1, to r.1 r.2, r.3, r.4);
  of_path = λ p k path t h. R.of_path p k path (from path t) h;
}
