-- The numbers of names: two names with one number are one.
use Rattle.sap_lemmas.proofs.Common.{◌≡◌, ◌∙◌, ◌+◌, ℕ, suc, Bool, true, false, List, [], ◌∷◌, refl, sym, ap, subst, arith, Option, Some, None, eqb, if◌then◌else◌, option_map, unwrap_or, is_some, slice_get, bytes_eq, eqb-true, eq-eqb, bytes_eq-Decides, nat_list_eq_equiv}
use Rattle.sap_names.specs.Entities.{number_of}
use Rattle.sap_names.specs.declared.entity.Entity.{Entity}

pub same_bytes : (a b : List ℕ) → bytes_eq a b ≡ true → a ≡ b
same_bytes a b h = (bytes_eq-Decides a b).0 h

bytes_same : (a : List ℕ) → bytes_eq a a ≡ true
bytes_same a = nat_list_eq_equiv.refl a

abbrev name_at : List Entity → ℕ → Option (List ℕ)
name_at es x = option_map (λ (e : Entity). e.name.name) (slice_get es x)

named_step : (e : Entity) (es : List Entity) (a : List ℕ) (x : ℕ) (b : Bool) (o : Option ℕ) → bytes_eq e.name.name a ≡ b
    → ((k : ℕ) → o ≡ Some k → name_at es k ≡ Some a) → (if b then Some 0 else option_map (λ n. n + 1) o) ≡ Some x → name_at (e ∷ es) x ≡ Some a
named_step e es a x true o h k i = let z : 0 ≡ x = cc in subst (λ (n : ℕ). name_at (e ∷ es) n ≡ Some a) z (ap (λ (l : List ℕ). Some l) (same_bytes e.name.name a h))
named_step e es a x false None h k i = absurd (cc)
named_step e es a x false (Some m) h k i =
    let y : m + 1 ≡ x = cc in
    let z : suc m ≡ x = omega arith in
    subst (λ (n : ℕ). name_at (e ∷ es) n ≡ Some a) z (k m refl)

named : (es : List Entity) (a : List ℕ) (x : ℕ) → number_of es a ≡ Some x → name_at es x ≡ Some a
named [] a x h = absurd (cc)
named (e ∷ es) a x h = named_step e es a x (bytes_eq e.name.name a) (number_of es a) refl (λ k i. named es a k i) h

one_name : (es : List Entity) (a b : List ℕ) (x y : ℕ) → number_of es a ≡ Some x → number_of es b ≡ Some y → x ≡ y → a ≡ b
one_name es a b x y h i e = let p = named es a x h in let q = named es b y i in let r = ap (name_at es) e in cc

-- numbers are equal where names are
pub told_apart : (es : List Entity) (a b : List ℕ) (x y : ℕ) → number_of es a ≡ Some x → number_of es b ≡ Some y → eqb y x ≡ bytes_eq a b
told_apart es a b x y h i = by_test (bytes_eq a b) refl
  where
    differ : (c : Bool) → bytes_eq a b ≡ false → eqb y x ≡ c → c ≡ false
    differ false t u = refl
    differ true t u =
        let same = one_name es a b x y h i (sym (eqb-true y x u)) in
        sym (bytes_same a) ∙ ap (λ (l : List ℕ). bytes_eq a l) same ∙ t

    by_test : (t : Bool) → bytes_eq a b ≡ t → eqb y x ≡ t
    by_test true t = let same = same_bytes a b t in let n = ap (number_of es) same in let z : y ≡ x = cc in eq-eqb y x z
    by_test false t = differ (eqb y x) t refl

-- the name of each entity has a number

abbrev pub Known : List Entity → List Entity → Type 0
Known es [] = Unit {0}
Known es (e ∷ rest) = (is_some (number_of es e.name.name) ≡ true) × Known es rest

kept : (b : Bool) (o : Option ℕ) → is_some o ≡ true → is_some (if b then Some 0 else option_map (λ n. n + 1) o) ≡ true
kept true o h = refl
kept false None h = absurd (cc)
kept false (Some k) h = refl

wider : (e : Entity) (es rest : List Entity) → Known es rest → Known (e ∷ es) rest
wider e es [] k = tt
wider e es (x ∷ rest) k = (kept (bytes_eq e.name.name x.name.name) (number_of es x.name.name) k.0, wider e es rest k.1)

first_known : (e : Entity) (es : List Entity) → is_some (number_of (e ∷ es) e.name.name) ≡ true
first_known e es = ap (λ (b : Bool). is_some (if b then Some 0 else option_map (λ (n : ℕ). n + 1) (number_of es e.name.name))) (bytes_same e.name.name)

pub known : (es : List Entity) → Known es es
known [] = tt
known (e ∷ es) = (first_known e es, wider e es es (known es))

pub number_is : (o : Option ℕ) → is_some o ≡ true → o ≡ Some (unwrap_or o 0)
number_is None h = absurd (cc)
number_is (Some k) h = refl
