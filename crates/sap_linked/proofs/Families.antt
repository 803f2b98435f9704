-- Names of copies: which they are, and that they differ.
use Rattle.sap_lemmas.proofs.Common.{◌≡◌, ℕ, suc, ◌+◌, ◌<◌, ◌≤◌, true, false, List, [], ◌∷◌, ◌++◌, map, get_or, length, refl, sym, ◌∙◌, ap, subst, inl, inr, arith, bytes_eq, cases_Bool, or_cases, equal_of_bytes_eq}
use Rattle.sap_maps.specs.Maps.{Name}
use Rattle.sap_net.specs.Names.{is_among, AreDistinct}
use Rattle.sap_net.proofs.NamesLemmas.{among_append, among_behind, among_front, among_here, distinct_both}
use Rattle.sap_build.proofs.Copied.{among_copied}
use Rattle.sap_linked.specs.Prelude.{Part, NamedSystem, no_part, part_at, in_part, NamesFit, copies_of}
use Rattle.sap_linked.proofs.Apart.{stay_apart}
use Rattle.sap_linked.proofs.Entities.{compared}

abbrev pub named_copies : (ns : ℕ → List Name) → ℕ → List Part → List Name
named_copies ns k [] = []
named_copies ns k (p ∷ ps) = map (in_part p.name) (ns k) ++ named_copies ns (suc k) ps

pub map_both : {X Y : Type 0} (f : X → Y) (xs ys : List X) → map f (xs ++ ys) ≡ map f xs ++ map f ys
map_both f [] ys = refl
map_both {X} {Y} f (x ∷ xs) ys = ap (λ (zs : List Y). f x ∷ zs) (map_both f xs ys)

map_copies : {X : Type 0} (copy : X → X) (name : X → Name) (f : Name → Name) → ((x : X) → name (copy x) ≡ f (name x)) → (xs : List X) → map name (map copy xs) ≡ map f (map name xs)
map_copies copy name f h [] = refl
map_copies copy name f h (x ∷ xs) = ap (λ (z : Name). z ∷ map name (map copy xs)) (h x) ∙ ap (λ (zs : List Name). f (name x) ∷ zs) (map_copies copy name f h xs)

pub copies_named : {X : Type 0} (items : ℕ → List X) (copy : (Name → Name) → X → X) (name : X → Name)
    → ((f : Name → Name) (x : X) → name (copy f x) ≡ f (name x)) → (k : ℕ) (ps : List Part)
    → map name (copies_of items copy k ps) ≡ named_copies (λ i. map name (items i)) k ps
copies_named items copy name h k [] = refl
copies_named items copy name h k (p ∷ ps) =
    map_both name (map (copy (in_part p.name)) (items k)) (copies_of items copy (suc k) ps)
    ∙ ap (λ (zs : List Name). zs ++ map name (copies_of items copy (suc k) ps)) (map_copies (copy (in_part p.name)) name (in_part p.name) (h (in_part p.name)) (items k))
    ∙ ap (λ (zs : List Name). map (in_part p.name) (map name (items k)) ++ zs) (copies_named items copy name h (suc k) ps)

-- z is the name of a part, from part k on, behind the part's name
pub record Behind (s : NamedSystem) (ns : ℕ → List Name) (k : ℕ) (z : Name) : Type 0 where
  pub part : ℕ
  pub from : k ≤ part
  pub low : part < length s.parts
  pub name : Name
  pub is : is_among name (ns part) ≡ true
  pub behind : z ≡ in_part (part_at s part).name name

pub of_map : (f : Name → Name) (xs : List Name) (z : Name) → is_among z (map f xs) ≡ true → (x : Name) × (is_among x xs ≡ true) × (z ≡ f x)
of_map f [] z h = absurd (cc)
of_map f (x ∷ xs) z h =
    elim (cases_Bool (bytes_eq z (f x))) [
      | inl t ↦ (x, among_here x xs, equal_of_bytes_eq z (f x) t)
      | inr q ↦ let r = of_map f xs z (rw q at h) in (r.0, among_behind r.0 (x ∷ []) xs r.1, r.2)
    ]

abbrev pub Suffix : NamedSystem → ℕ → List Part → Type 0
Suffix s k ps = ((j : ℕ) → part_at s (k + j) ≡ get_or ps j (no_part s.order)) × (k + length ps ≡ length s.parts)

module _ (s : NamedSystem) where
  no_more : (n : ℕ) → n + 0 ≡ n
  no_more n = omega arith

  pub whole_list : Suffix s 0 s.parts
  whole_list = ((λ j. let same : 0 + j ≡ j = omega arith in ap (part_at s) same), (let same : 0 + length s.parts ≡ length s.parts = omega arith in same))

  pub later : (k : ℕ) (p : Part) (ps : List Part) → Suffix s k (p ∷ ps) → Suffix s (suc k) ps
  later k p ps at = (
    (λ j. let next : suc k + j ≡ k + suc j = omega arith in ap (part_at s) next ∙ at.0 (suc j)),
    (let e = at.1 in omega (arith, e)),
  )

  pub this : (k : ℕ) (p : Part) (ps : List Part) → Suffix s k (p ∷ ps) → part_at s k ≡ p
  this k p ps at = ap (part_at s) (sym (no_more k)) ∙ at.0 0

  pub of_among : (ns : ℕ → List Name) (k : ℕ) (ps : List Part) → Suffix s k ps → (z : Name) → is_among z (named_copies ns k ps) ≡ true → Behind s ns k z
  of_among ns k [] at z h = absurd (cc)
  of_among ns k (p ∷ ps) at z h =
      elim (or_cases (is_among z (map (in_part p.name) (ns k))) (is_among z (named_copies ns (suc k) ps))
      (sym (among_append z (map (in_part p.name) (ns k)) (named_copies ns (suc k) ps)) ∙ h)) [
        | inl t ↦
            let m = of_map (in_part p.name) (ns k) z t in
            record {
              part = k;
              from = omega arith;
              low = let e = at.1 in omega (arith, e);
              name = m.0;
              is = m.1;
              behind = m.2 ∙ ap (λ (q : Part). in_part q.name m.0) (sym (this k p ps at));
            }
        | inr t ↦
            let b = of_among ns (suc k) ps (later k p ps at) z t in
            record { part = b.part; from = let f = b.from in omega (arith, f); low = b.low; name = b.name; is = b.is; behind = b.behind }
      ]

  -- what part i has stands among all
  pub among_copies : (ns : ℕ → List Name) (k : ℕ) (ps : List Part) → Suffix s k ps → (i : ℕ) → k ≤ i → i < length s.parts → (x : Name) → is_among x (ns i) ≡ true
      → is_among (in_part (part_at s i).name x) (named_copies ns k ps) ≡ true
  among_copies ns k [] at i from low x h = absurd (let e = at.1 in omega (arith, e, from, low))
  among_copies ns k (p ∷ ps) at i from low x h = elim (compared k i) [
    | inl e ↦
        let here : is_among (in_part p.name x) (map (in_part p.name) (ns k)) ≡ true =
        among_copied (in_part p.name) x (ns k) (subst (λ (j : ℕ). is_among x (ns j) ≡ true) (sym e) h) in
        subst (λ (j : ℕ). is_among (in_part (part_at s j).name x) (named_copies ns k (p ∷ ps)) ≡ true) e
        (subst (λ (q : Part). is_among (in_part q.name x) (named_copies ns k (p ∷ ps)) ≡ true) (sym (this k p ps at))
        (among_front (in_part p.name x) (map (in_part p.name) (ns k)) (named_copies ns (suc k) ps) here))
    | inr unlike ↦ elim unlike [
      | inl less ↦
          among_behind (in_part (part_at s i).name x) (map (in_part p.name) (ns k)) (named_copies ns (suc k) ps)
          (among_copies ns (suc k) ps (later k p ps at) i (omega (arith, less)) low x h)
      | inr more ↦ absurd (omega (arith, more, from))
    ]
  ]

  module _ (fit : NamesFit s) where
    abbrev Long : (ℕ → List Name) → Type 0
    Long ns = (i : ℕ) → i < length s.parts → (x : Name) → is_among x (ns i) ≡ true → 2 ≤ length x

    abbrev Meet : (ns ms : ℕ → List Name) → Type 0
    Meet ns ms = (i : ℕ) × (x : Name) × (i < length s.parts) × (is_among x (ns i) ≡ true) × (is_among x (ms i) ≡ true)

    pub one_part : (i j : ℕ) (x y : Name) → i < length s.parts → j < length s.parts → 2 ≤ length x → 2 ≤ length y
        → in_part (part_at s i).name x ≡ in_part (part_at s j).name y → (i ≡ j) × (x ≡ y)
    one_part i j x y low less long far e =
        let r = stay_apart (part_at s i).name (part_at s j).name x y (fit.whole i low) (fit.whole j less) long far e in
        (fit.distinct i j low less r.0, r.1)

    pub meets : (ns ms : ℕ → List Name) → Long ns → Long ms → (k l : ℕ) (z : Name) → Behind s ns k z → Behind s ms l z → Meet ns ms
    meets ns ms long far k l z a b =
        let r = one_part a.part b.part a.name b.name a.low b.low (long a.part a.low a.name a.is) (far b.part b.low b.name b.is) (sym a.behind ∙ b.behind) in
        (a.part, a.name, a.low, a.is, subst (λ (x : Name). is_among x (ms a.part) ≡ true) (sym r.1) (subst (λ (i : ℕ). is_among b.name (ms i) ≡ true) (sym r.0) b.is))

    map_distinct : (f : Name → Name) (xs : List Name) → ((x y : Name) → is_among x xs ≡ true → is_among y xs ≡ true → f x ≡ f y → x ≡ y) → AreDistinct xs → AreDistinct (map f xs)
    map_distinct f [] one d = tt
    map_distinct f (x ∷ xs) one d = (
      elim (cases_Bool (is_among (f x) (map f xs))) [
        | inl t ↦ absurd (let m = of_map f xs (f x) t in
            let e : x ≡ m.0 = one x m.0 (among_here x xs) (among_behind m.0 (x ∷ []) xs m.1) m.2 in
            let no : is_among m.0 xs ≡ false = subst (λ (y : Name). is_among y xs ≡ false) e d.0 in let yes = m.1 in cc)
        | inr q ↦ q
      ],
      map_distinct f xs (λ y z hy hz e. one y z (among_behind y (x ∷ []) xs hy) (among_behind z (x ∷ []) xs hz) e) d.1,
    )

    pub copies_distinct : (ns : ℕ → List Name) → Long ns → ((i : ℕ) → i < length s.parts → AreDistinct (ns i)) → (k : ℕ) (ps : List Part)
        → Suffix s k ps → AreDistinct (named_copies ns k ps)
    copies_distinct ns long own k [] at = tt
    copies_distinct ns long own k (p ∷ ps) at =
        let low : k < length s.parts = (let e = at.1 in omega (arith, e)) in
        let same = ap (λ (q : Part). q.name) (this k p ps at) in
        let one = λ (x y : Name) (hx : is_among x (ns k) ≡ true) (hy : is_among y (ns k) ≡ true) (e : in_part p.name x ≡ in_part p.name y).
        (one_part k k x y low low (long k low x hx) (long k low y hy) (subst (λ (n : Name). in_part n x ≡ in_part n y) (sym same) e)).1 in
        distinct_both (map (in_part p.name) (ns k)) (named_copies ns (suc k) ps)
        (map_distinct (in_part p.name) (ns k) one (own k low))
        (copies_distinct ns long own (suc k) ps (later k p ps at))
        (λ z h. elim (cases_Bool (is_among z (named_copies ns (suc k) ps))) [
          | inl t ↦ absurd (
              let m = of_map (in_part p.name) (ns k) z h in
              let b = of_among ns (suc k) ps (later k p ps at) z t in
              let e : in_part (part_at s k).name m.0 ≡ in_part (part_at s b.part).name b.name = ap (λ (n : Name). in_part n m.0) same ∙ sym m.2 ∙ b.behind in
              let r = (one_part k b.part m.0 b.name low b.low (long k low m.0 m.1) (long b.part b.low b.name b.is) e).0 in
              let f = b.from in
              omega (arith, r, f))
          | inr q ↦ q
        ])
