-- What holds of every element of a list, or of one.
use Rattle.std.proofs.Common.{Bool, List, None, Some, [], ap, arith, cond, false, filter, inl, inr, length, map, refl, subst, suc, sym, take, true, ℕ, ◌++◌, ◌+◌, ◌∙◌, ◌∷◌, ◌≡◌}
use Rattle.std.specs.List.{AllByRecursion, list_all, list_any, prefix_len}
use Rattle.std.specs.Prelude.{find as first_such, slice_index, ◌||◌, ◌&&◌}
use Rattle.std.proofs.lemmas.Bool.{and_from, and_parts, cases_Bool}

pub all_equal : {X : Type 0} (xs : List X) (f : X → ℕ) → AllByRecursion (λ x. f x ≡ f x) xs
all_equal [] f = tt
all_equal (x ∷ xs) f = (refl, all_equal xs f)

pub all_of_map : {X Y : Type 0} (P : Y → Type 0) (f : X → Y) (xs : List X) → AllByRecursion P (map f xs) → AllByRecursion (λ x. P (f x)) xs
all_of_map P f [] a = tt
all_of_map P f (x ∷ xs) a = (a.0, all_of_map P f xs a.1)

pub all_filter : {X : Type 0} (P : X → Type 0) (f : X → Bool) (xs : List X) → AllByRecursion P xs → AllByRecursion P (filter f xs)
all_filter P f [] a = tt
all_filter P f (x ∷ xs) a =
    elim (cases_Bool (f x)) [ inl t ↦ rw t (a.0, all_filter P f xs a.1) | inr e ↦ rw e (all_filter P f xs a.1) ]

pub all_append : {A : Type 0} (P : A → Type 0) (xs ys : List A) → AllByRecursion P xs → AllByRecursion P ys → AllByRecursion P (xs ++ ys)
all_append P [] ys h k = k
all_append P (x ∷ xs) ys h k = (h.0, all_append P xs ys h.1 k)

pub all_parts : {X : Type 0} (P : X → Type 0) (xs ys : List X) → AllByRecursion P (xs ++ ys) → AllByRecursion P xs × AllByRecursion P ys
all_parts P [] ys a = (tt, a)
all_parts P (x ∷ xs) ys a = let r = all_parts P xs ys a.1 in ((a.0, r.0), r.1)

pub all_second : {X : Type 0} (P : X → Type 0) (xs ys : List X) → AllByRecursion P (xs ++ ys) → AllByRecursion P ys
all_second P [] ys a = a
all_second P (x ∷ xs) ys a = all_second P xs ys a.1

pub map_of_all : {X Y : Type 0} (P : Y → Type 0) (f : X → Y) (xs : List X) → AllByRecursion (λ x. P (f x)) xs → AllByRecursion P (map f xs)
map_of_all P f [] a = tt
map_of_all P f (x ∷ xs) a = (a.0, map_of_all P f xs a.1)

pub all_follow : {X : Type 0} (P Q : X → Type 0) (xs : List X) → ((x : X) → P x → Q x) → AllByRecursion P xs → AllByRecursion Q xs
all_follow P Q [] h a = tt
all_follow P Q (x ∷ xs) h a = (h x a.0, all_follow P Q xs h a.1)

pub all_of_test : {X : Type 0} (f : X → Bool) (P : X → Type 0) → ((x : X) → f x ≡ true → P x) → (xs : List X) → list_all f xs ≡ true → AllByRecursion P xs
all_of_test f P k [] h = tt
all_of_test f P k (x ∷ xs) h = let p = and_parts (f x) (list_all f xs) h in (k x p.0, all_of_test f P k xs p.1)

pub none_found : {A : Type 0} (p : A → Bool) (xs : List A) → list_any p xs ≡ false → first_such p xs ≡ None
none_found p [] h = refl
none_found p (x ∷ xs) h = by_test (p x) h (none_found p xs) where
  by_test : (b : Bool) → (b || list_any p xs) ≡ false → (list_any p xs ≡ false → first_such p xs ≡ None) → cond b (Some x) (first_such p xs) ≡ None
  by_test true g f = absurd (cc)
  by_test false g f = f g

pub test_of_all : {X : Type 0} (f : X → Bool) (P : X → Type 0) → ((x : X) → P x → f x ≡ true) → (xs : List X) → AllByRecursion P xs → list_all f xs ≡ true
test_of_all f P k [] h = refl
test_of_all f P k (x ∷ xs) h = and_from (f x) (list_all f xs) (k x h.0) (test_of_all f P k xs h.1)

pub none_passes : {A : Type 0} (p : A → Bool) (xs : List A) → first_such p xs ≡ None → list_any p xs ≡ false
none_passes p [] h = refl
none_passes p (x ∷ xs) h = by_test (p x) h (none_passes p xs) where
  by_test : (b : Bool) → cond b (Some x) (first_such p xs) ≡ None → (first_such p xs ≡ None → list_any p xs ≡ false) → (b || list_any p xs) ≡ false
  by_test true q k = absurd (cc)
  by_test false q k = k q

pub prefix_run : (p : ℕ → Bool) (ds rest : List ℕ) → list_all p ds ≡ true → p (slice_index rest 0) ≡ false → prefix_len p (ds ++ rest) ≡ length ds
prefix_run p [] [] all stop = refl
prefix_run p [] (x ∷ xs) all stop = ap (λ b. cond b (1 + prefix_len p xs) 0) stop
prefix_run p (d ∷ ds) rest all stop =
    let f = and_parts (p d) (list_all p ds) all in
    ap (λ b. cond b (1 + prefix_len p (ds ++ rest)) 0) f.0 ∙ (let ih = prefix_run p ds rest f.1 stop in omega arith)

pub all_equal_at : {X : Type 0} (xs : List X) (f : X → ℕ → ℕ) → AllByRecursion (λ x. (i : ℕ) → f x i ≡ f x i) xs
all_equal_at [] f = tt
all_equal_at (x ∷ xs) f = (λ i. refl, all_equal_at xs f)

-- what stands at the front of a list and passes a test
pub run_passes : {X : Type 0} (p : X → Bool) (xs : List X) → list_all p (take (prefix_len p xs) xs) ≡ true
run_passes p [] = refl
run_passes p (x ∷ xs) = by_test (p x) refl (run_passes p xs) where
  one_more : (n : ℕ) → suc n ≡ 1 + n
  one_more n = omega arith

  by_test : (b : Bool) → p x ≡ b → list_all p (take (prefix_len p xs) xs) ≡ true → list_all p (take (cond b (1 + prefix_len p xs) 0) (x ∷ xs)) ≡ true
  by_test true h k = subst (λ m. list_all p (take m (x ∷ xs)) ≡ true) (one_more (prefix_len p xs)) (subst (λ b. (b && list_all p (take (prefix_len p xs) xs)) ≡ true) (sym h) k)
  by_test false h k = refl
