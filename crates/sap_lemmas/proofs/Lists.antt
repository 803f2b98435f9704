-- Lists: joined, mapped, taken from and looked into.
use Rattle.std.proofs.Common.{Bool, Err, List, Ok, OnOk, Result, [], ap, append_assoc, arith, drop, false, get_or, if◌then◌else◌, length, length-append, map, one-add, refl, suc, sym, take, zero, ℕ, ◌++◌, ◌+◌, ◌-◌, ◌<◌, ◌∙◌, ◌∷◌, ◌≡◌, ◌≤◌}
use Rattle.std.specs.Map.{AreApart, IsKeyTest, KeepsOthers, lookup}
use Rattle.std.specs.Prelude.{is_ok, slice_index}
use Rattle.std.proofs.lemmas.Grind.{common_steps}

pub joined_part_on_last : {E : Type 0} (r : Result (Unit {0}) E) (new a t x : List ℕ) → new ≡ (if is_ok r then a ++ t else a) → t ≡ x → OnOk r (new ≡ a ++ x)
joined_part_on_last (Ok u) new a t x e f = e ∙ ap (λ (z : List ℕ). a ++ z) f
joined_part_on_last (Err e) new a t x p f = tt

pub joined_on_last : {E : Type 0} (r : Result (Unit {0}) E) (new a t x : List ℕ) → new ≡ (if is_ok r then a ++ t else a) → a ++ t ≡ x → OnOk r (new ≡ x)
joined_on_last (Ok u) new a t x e f = e ∙ f
joined_on_last (Err e) new a t x p f = tt

pub drop_front : (a b : List ℕ) → drop (length a) (a ++ b) ≡ b
drop_front a b = grind (arith, common_steps)

pub drop_past : {A : Type 0} (xs : List A) (x : ℕ) → length xs ≤ x → drop x xs ≡ []
drop_past [] zero l = refl
drop_past [] (suc x) l = refl
drop_past (y ∷ xs) zero l = absurd (omega arith)
drop_past (y ∷ xs) (suc x) l = drop_past xs x (omega arith)

pub get_early : (xs ys : List Bool) (x : ℕ) → x < length xs → get_or (xs ++ ys) x false ≡ get_or xs x false
get_early [] ys x h = absurd (omega arith)
get_early (y ∷ xs) ys zero h = refl
get_early (y ∷ xs) ys (suc x) h = let k : x < length xs = omega arith in get_early xs ys x k

pub length_map : {A B : Type 0} (f : A → B) (xs : List A) → length (map f xs) ≡ length xs
length_map f [] = refl
length_map f (x ∷ xs) = ap suc (length_map f xs)

pub quoted_length : (a b : List ℕ) → length a + 2 + length b ≡ length (a ++ (39 ∷ 100 ∷ b))
quoted_length a b = simp length-append (omega arith)

pub others_kept : {K X : Type 0} (eq : K → K → Bool) (test : K → Bool) (old new : List (K × X)) → KeepsOthers eq test old new
    → (other : K → Bool) → IsKeyTest eq other → AreApart test other → lookup other new ≡ lookup other old
unfolding KeepsOthers
others_kept eq test old new h = h

pub index_drop : (xs : List ℕ) (n i : ℕ) → slice_index (drop n xs) i ≡ slice_index xs (n + i)
index_drop xs n i = grind (arith, common_steps)

pub take_more : (n x : ℕ) (xs : List ℕ) → take (1 + n) (x ∷ xs) ≡ x ∷ take n xs
take_more n x xs = rw one-add refl

pub take_rest_of : {A : Type 0} (x : A) (xs : List A) → take (length (x ∷ xs) - 1) (drop 1 (x ∷ xs)) ≡ xs
take_rest_of x xs = grind (arith, common_steps)

pub take_front : (a b : List ℕ) → take (length a) (a ++ b) ≡ a
take_front a b = grind (arith, common_steps)

pub append_three : (xs ys zs : List ℕ) → xs ++ (ys ++ zs) ≡ (xs ++ ys) ++ zs
append_three [] ys zs = refl
append_three (x ∷ xs) ys zs = ap (λ ws. x ∷ ws) (append_three xs ys zs)

pub after_part : (old new part rest all : List ℕ) → new ≡ old ++ part → all ≡ part ++ rest → new ++ rest ≡ old ++ all
after_part old new part rest all h e = ap (λ l. l ++ rest) h ∙ append_assoc old part rest ∙ ap (λ l. old ++ l) (sym e)

pub tail_equal : (a b : List ℕ) (xs ys : List (List ℕ)) → a ∷ xs ≡ b ∷ ys → xs ≡ ys
tail_equal a b xs ys h = cc
