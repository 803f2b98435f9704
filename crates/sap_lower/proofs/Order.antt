-- The registers in the order of their declaration: those that are ports first.
use Rattle.sap_lemmas.proofs.Common.{◌≡◌, List, [], ◌∷◌, ◌++◌, map, Option, Some, None, Bool, true, false, sym, ap, ◌∙◌, subst, refl, inl, inr, append_assoc, if◌then◌else◌, bytes_eq, AllByRecursion, cases_Bool, all_append, bytes_eq_apart_back, bytes_eq_same, equal_of_bytes_eq}
use Rattle.sap_maps.proofs.ScopeLemmas.{found_first, found_second}
use Rattle.sap_maps.specs.Prelude.{Name, find}
use Rattle.sap_net.specs.Names.{is_among, AreDistinct}
use Rattle.sap_ir.specs.IsGuarded.{variable_names}
use Rattle.sap_ir.specs.declared.guarded.Var.{Var}
use Rattle.sap_lower.specs.Lowered.{in_front, picked, unlisted}

abbrev pub under_names : List Var → List (Name × Var)
under_names xs = map (λ x. (x.name, x)) xs

named_found : (rs : List Var) (n : Name) (r : Var) → find (under_names rs) n ≡ Some r → r.name ≡ n
named_found [] n r h = absurd (cc)
named_found (x ∷ rs) n r h =
    elim (cases_Bool (bytes_eq x.name n)) [
      | inl t ↦ let g : Some x ≡ Some r = rw t at h in let e : x ≡ r = cc in ap (λ (y : Var). y.name) (sym e) ∙ equal_of_bytes_eq x.name n t
      | inr f ↦ named_found rs n r (rw f at h)
    ]

front_found : (o : Option Var) (rest : List Var) (p n : Name) → ((r : Var) → o ≡ Some r → r.name ≡ p) → bytes_eq n p ≡ false
    → find (under_names (in_front o rest)) n ≡ find (under_names rest) n
front_found None rest p n h d = refl
front_found (Some r) rest p n h d =
    let e : bytes_eq r.name n ≡ false = subst (λ (y : Name). bytes_eq y n ≡ false) (sym (h r refl)) (bytes_eq_apart_back n p d) in rw e refl

front_is : (o : Option Var) (rest : List Var) (p : Name) → ((r : Var) → o ≡ Some r → r.name ≡ p)
    → (o ≡ None → find (under_names rest) p ≡ None) → find (under_names (in_front o rest)) p ≡ o
front_is None rest p h k = k refl
front_is (Some r) rest p h k =
    let e : bytes_eq r.name p ≡ true = subst (λ (y : Name). bytes_eq r.name y ≡ true) (h r refl) (bytes_eq_same r.name) in rw e refl

none_either : (b : Bool) (o : Option Var) → o ≡ None → (if b then o else None) ≡ None
none_either true o h = h
none_either false o h = refl

picked_found : (rs : List Var) (ps : List Name) (n : Name) → find (under_names (picked rs ps)) n ≡ (if is_among n ps then find (under_names rs) n else None)
picked_found rs [] n = refl
picked_found rs (p ∷ ps) n =
    elim (cases_Bool (bytes_eq n p)) [
      | inl t ↦
          let e : p ≡ n = sym (equal_of_bytes_eq n p t) in
          let here : find (under_names (picked rs (p ∷ ps))) p ≡ find (under_names rs) p =
          front_is (find (under_names rs) p) (picked rs ps) p (λ r h. named_found rs p r h) (λ z. picked_found rs ps p ∙ none_either (is_among p ps) (find (under_names rs) p) z) in
          rw t (subst (λ (y : Name). find (under_names (picked rs (p ∷ ps))) y ≡ find (under_names rs) y) e here)
      | inr f ↦ rw f (front_found (find (under_names rs) p) (picked rs ps) p n (λ r h. named_found rs p r h) f ∙ picked_found rs ps n)
    ]

same_both : (b : Bool) (o : Option Var) → (if b then o else o) ≡ o
same_both true o = refl
same_both false o = refl

unlisted_found : (ps : List Name) (rs : List Var) (n : Name) → find (under_names (unlisted ps rs)) n ≡ (if is_among n ps then None else find (under_names rs) n)
unlisted_found ps [] n = sym (same_both (is_among n ps) None)
unlisted_found ps (r ∷ rs) n =
    elim (cases_Bool (bytes_eq r.name n)) [
      | inl t ↦
          let e : r.name ≡ n = equal_of_bytes_eq r.name n t in
          elim (cases_Bool (is_among n ps)) [
            | inl a ↦
                let a' : is_among r.name ps ≡ true = subst (λ (y : Name). is_among y ps ≡ true) (sym e) a in
                let g : find (under_names (unlisted ps rs)) n ≡ None = unlisted_found ps rs n ∙ rw a refl in
                rw (a', a) g
            | inr b ↦
                let b' : is_among r.name ps ≡ false = subst (λ (y : Name). is_among y ps ≡ false) (sym e) b in
                rw (b', b, t) refl
          ]
      | inr f ↦
          elim (cases_Bool (is_among r.name ps)) [
            | inl a ↦ rw (a, f) (unlisted_found ps rs n)
            | inr b ↦ rw (b, f) (unlisted_found ps rs n)
          ]
    ]

pub split_names : (xs ys : List Var) → under_names (xs ++ ys) ≡ under_names xs ++ under_names ys
split_names [] ys = refl
split_names (x ∷ xs) ys = ap (λ es. (x.name, x) ∷ es) (split_names xs ys)

both : (b : Bool) (o : Option Var) (es fs : List (Name × Var)) (n : Name) → find es n ≡ (if b then o else None) → find fs n ≡ (if b then None else o) → find (es ++ fs) n ≡ o
both true None es fs n h k = found_second es fs n h ∙ k
both true (Some r) es fs n h k = found_first es fs n r h
both false o es fs n h k = found_second es fs n h ∙ k

pub same_found : (rs : List Var) (ps : List Name) (n : Name) → find (under_names (picked rs ps ++ unlisted ps rs)) n ≡ find (under_names rs) n
same_found rs ps n =
    let e = split_names (picked rs ps) (unlisted ps rs) in
    ap (λ (es : List (Name × Var)). find es n) e
    ∙ both (is_among n ps) (find (under_names rs) n) (under_names (picked rs ps)) (under_names (unlisted ps rs)) n (picked_found rs ps n) (unlisted_found ps rs n)

abbrev pub of_option : {X : Type 0} → (Var → X) → Option Var → Option X
of_option f None = None
of_option f (Some x) = Some (f x)

pub find_under : {X : Type 0} (f : Var → X) (xs : List Var) (n : Name) → find (map (λ x. (x.name, f x)) xs) n ≡ of_option f (find (under_names xs) n)
find_under f [] n = refl
find_under f (x ∷ xs) n =
    elim (cases_Bool (bytes_eq x.name n)) [ inl t ↦ rw t refl | inr e ↦ rw e (find_under f xs n) ]

-- what is kept of each register is found alike
pub found_of : {X : Type 0} (f : Var → X) (xs ys : List Var) (n : Name) → find (under_names xs) n ≡ find (under_names ys) n
    → find (map (λ x. (x.name, f x)) xs) n ≡ find (map (λ x. (x.name, f x)) ys) n
found_of f xs ys n h = find_under f xs n ∙ ap (λ o. of_option f o) h ∙ sym (find_under f ys n)

-- what holds of the one list holds of the other

pub found_holds : (P : Var → Type 0) (xs : List Var) (n : Name) (x : Var) → AllByRecursion P xs → find (under_names xs) n ≡ Some x → P x
found_holds P [] n x a h = absurd (cc)
found_holds P (y ∷ xs) n x a h =
    elim (cases_Bool (bytes_eq y.name n)) [
      | inl t ↦ let g : Some y ≡ Some x = rw t at h in let e : y ≡ x = cc in subst P e a.0
      | inr f ↦ found_holds P xs n x a.1 (rw f at h)
    ]

found_more : (y : Var) (all xs : List Var) → is_among y.name (variable_names xs) ≡ false
    → AllByRecursion (λ x. find (under_names all) x.name ≡ Some x) xs → AllByRecursion (λ x. find (under_names (y ∷ all)) x.name ≡ Some x) xs
found_more y all [] d a = tt
found_more y all (x ∷ xs) d a =
    elim (cases_Bool (bytes_eq y.name x.name)) [
      | inl t ↦ absurd (let e : is_among y.name (variable_names (x ∷ xs)) ≡ true = rw t refl in cc)
      | inr f ↦ (rw f a.0, found_more y all xs (rw f at d) a.1)
    ]

pub each_found : (xs : List Var) → AreDistinct (variable_names xs) → AllByRecursion (λ x. find (under_names xs) x.name ≡ Some x) xs
each_found [] d = tt
each_found (x ∷ xs) d = (rw (bytes_eq_same x.name) refl, found_more x xs xs d.0 (each_found xs d.1))

holds_of : (P : Var → Type 0) (all xs ys : List Var) → AllByRecursion P ys
    → ((n : Name) → find (under_names ys) n ≡ find (under_names all) n) → AllByRecursion (λ x. find (under_names all) x.name ≡ Some x) xs → AllByRecursion P xs
holds_of P all [] ys a e f = tt
holds_of P all (x ∷ xs) ys a e f = (found_holds P ys x.name x a (e x.name ∙ f.0), holds_of P all xs ys a e f.1)

pub from_declared : (P : Var → Type 0) (rs : List Var) (ps : List Name) → AreDistinct (variable_names rs) → AllByRecursion P (picked rs ps ++ unlisted ps rs) → AllByRecursion P rs
from_declared P rs ps d a = holds_of P rs rs (picked rs ps ++ unlisted ps rs) a (same_found rs ps) (each_found rs d)

holds_front : (P : Var → Type 0) (o : Option Var) (rest : List Var) → ((r : Var) → o ≡ Some r → P r) → AllByRecursion P rest → AllByRecursion P (in_front o rest)
holds_front P None rest h a = a
holds_front P (Some r) rest h a = (h r refl, a)

picked_holds : (P : Var → Type 0) (rs : List Var) (ps : List Name) → AllByRecursion P rs → AllByRecursion P (picked rs ps)
picked_holds P rs [] a = tt
picked_holds P rs (p ∷ ps) a = holds_front P (find (under_names rs) p) (picked rs ps) (λ r h. found_holds P rs p r a h) (picked_holds P rs ps a)

unlisted_holds : (P : Var → Type 0) (ps : List Name) (rs : List Var) → AllByRecursion P rs → AllByRecursion P (unlisted ps rs)
unlisted_holds P ps [] a = tt
unlisted_holds P ps (r ∷ rs) a =
    elim (cases_Bool (is_among r.name ps)) [
      | inl t ↦ rw t (unlisted_holds P ps rs a.1)
      | inr f ↦ rw f (a.0, unlisted_holds P ps rs a.1)
    ]

pub to_declared : (P : Var → Type 0) (rs : List Var) (ps : List Name) → AllByRecursion P rs → AllByRecursion P (picked rs ps ++ unlisted ps rs)
to_declared P rs ps a = all_append P (picked rs ps) (unlisted ps rs) (picked_holds P rs ps a) (unlisted_holds P ps rs a)

front_split : {X : Type 0} (f : Var → X) (o : Option Var) (rest : List Var) → map f (in_front o []) ++ map f rest ≡ map f (in_front o rest)
front_split f None rest = refl
front_split f (Some r) rest = refl

-- one port more
pub picked_step : {X : Type 0} (f : Var → X) (rs : List Var) (p : Name) (ps : List Name) (xs : List X)
    → (xs ++ map f (picked rs (p ∷ []))) ++ map f (picked rs ps) ≡ xs ++ map f (picked rs (p ∷ ps))
picked_step f rs p ps xs =
    append_assoc xs (map f (picked rs (p ∷ []))) (map f (picked rs ps)) ∙ ap (λ ys. xs ++ ys) (front_split f (find (under_names rs) p) (picked rs ps))
