-- Words, and the numbers that they have.
use Rattle.sap_lemmas.proofs.Common.{◌≡◌, ◌≢◌, ◌∙◌, ◌+◌, ◌*◌, ◌<◌, ◌≤◌, ℕ, zero, suc, ◌/◌, ◌%◌, ◌^◌, ◌||◌, Bool, true, false, List, [], length, set, refl, sym, ap, ap₂, arith, get_or, bit_or, bit_and, eqb, ltb, max, bit_at, eqb-true, eq-eqb, ltb-true, ltb-false, get_or-set_other, get_or_default, or_zero_r, bit_at_or}
use Rattle.std.proofs.Common.{w64}
use Rattle.std.proofs.lemmas.List.{get_or-set_same}
use Rattle.std.proofs.Math.ListN.{get_or-eq_default}
use Rattle.std.proofs.lemmas.Nat.Bits.{bit_at-zero, bit_at_set_same, bit_at_set_other, bit_at-lt, shr_and_one}
use Rattle.sap_hang.specs.declared.set.Set.{Set}
use Rattle.sap_hang.specs.Sets.{has}

-- the bit of a number in a list of words
abbrev bit_in : List ℕ → ℕ → ℕ
bit_in words x = bit_at (get_or words (x / 64) 0) (x % 64)

pub has_is : (s : Set) (words : List ℕ) (x : ℕ) → s.words.items ≡ words → has s x ≡ eqb (bit_at (get_or words (x / 64) 0) (x % 64)) 1
unfolding has
has_is s words x e = ap (λ (l : List ℕ). eqb (bit_in l x) 1) e

pub none : (s : Set) (x : ℕ) → s.words.items ≡ [] → has s x ≡ false
none s x e = has_is s [] x e ∙ ap (λ (n : ℕ). eqb n 1) (bit_at-zero (x % 64))

-- the same words at each place
pub same_words : (s t : Set) (x : ℕ) → ((i : ℕ) → get_or t.words.items i 0 ≡ get_or s.words.items i 0) → has t x ≡ has s x
unfolding has
same_words s t x h = ap (λ (n : ℕ). eqb (bit_at n (x % 64)) 1) (h (x / 64))

-- a bit was set in the word of k
one_more : (x k : ℕ) (old new : List ℕ) (word : ℕ) → k / 64 < length old → word ≡ get_or old (k / 64) 0
    → new ≡ set old (k / 64) (bit_or word (1 * 2 ^ (k % 64) % 18446744073709551616))
    → (t : Bool) → eqb x k ≡ t → eqb (bit_in new x) 1 ≡ (t || eqb (bit_in old x) 1)
one_more x k old new word h w e true t =
    let same : x ≡ k = eqb-true x k t in
    let within : k % 64 < 64 = omega arith in
    ap (λ (y : ℕ). eqb (bit_in new y) 1) same
    ∙ ap (λ (l : List ℕ). eqb (bit_in l k) 1) e
    ∙ ap (λ (n : ℕ). eqb (bit_at n (k % 64)) 1) (get_or-set_same old (k / 64) (bit_or word (1 * 2 ^ (k % 64) % 18446744073709551616)) 0 h)
    ∙ ap (λ (n : ℕ). eqb n 1) (bit_at_set_same w64 word (k % 64) within)
one_more x k old new word h w e false t =
    ap (λ (l : List ℕ). eqb (bit_in l x) 1) e ∙ elsewhere (eqb (x / 64) (k / 64)) refl
  where
    other : x ≢ k
    other same = absurd (cc (eq-eqb x k same))

    elsewhere : (b : Bool) → eqb (x / 64) (k / 64) ≡ b → eqb (bit_in (set old (k / 64) (bit_or word (1 * 2 ^ (k % 64) % 18446744073709551616))) x) 1 ≡ eqb (bit_in old x) 1
    elsewhere true s =
        let same : x / 64 ≡ k / 64 = eqb-true (x / 64) (k / 64) s in
        let within : k % 64 < 64 = omega arith in
        let bits : x % 64 ≢ k % 64 = λ r. other (omega arith) in
        ap (λ (n : ℕ). eqb (bit_at (get_or (set old (k / 64) (bit_or word (1 * 2 ^ (k % 64) % 18446744073709551616))) n 0) (x % 64)) 1) same
        ∙ ap (λ (n : ℕ). eqb (bit_at n (x % 64)) 1) (get_or-set_same old (k / 64) (bit_or word (1 * 2 ^ (k % 64) % 18446744073709551616)) 0 h)
        ∙ ap (λ (n : ℕ). eqb n 1) (bit_at_set_other w64 word (k % 64) within (x % 64) bits)
        ∙ ap (λ (n : ℕ). eqb (bit_at n (x % 64)) 1) w
        ∙ ap (λ (n : ℕ). eqb (bit_at (get_or old n 0) (x % 64)) 1) (sym same)
    elsewhere false s =
        let places : x / 64 ≢ k / 64 = λ r. absurd (cc (eq-eqb (x / 64) (k / 64) r)) in
        ap (λ (n : ℕ). eqb (bit_at n (x % 64)) 1) (get_or-set_other old (k / 64) (x / 64) (bit_or word (1 * 2 ^ (k % 64) % 18446744073709551616)) 0 places)

pub inserted : (old wide new : Set) (k word : ℕ) → ((i : ℕ) → get_or wide.words.items i 0 ≡ get_or old.words.items i 0) → k / 64 < length wide.words.items
    → word ≡ get_or wide.words.items (k / 64) 0 → new.words.items ≡ set wide.words.items (k / 64) (bit_or word (1 * 2 ^ (k % 64) % 18446744073709551616))
    → (x : ℕ) → has new x ≡ (eqb x k || has old x)
inserted old wide new k word s h w e x =
    has_is new new.words.items x refl ∙ one_more x k wide.words.items new.words.items word h w e (eqb x k) refl
    ∙ ap (λ (b : Bool). eqb x k || b) (sym (has_is wide wide.words.items x refl) ∙ same_words old wide x s)

max_or : (a b : ℕ) → a < 2 → b < 2 → eqb (max a b) 1 ≡ (eqb b 1 || eqb a 1)
max_or zero zero h i = refl
max_or zero (suc zero) h i = refl
max_or (suc zero) zero h i = refl
max_or (suc zero) (suc zero) h i = refl
max_or (suc (suc a)) b h i = absurd (omega arith)
max_or zero (suc (suc b)) h i = absurd (omega arith)
max_or (suc zero) (suc (suc b)) h i = absurd (omega arith)

-- each word has the bits of two
pub united : (old other new : Set) → ((i : ℕ) → get_or new.words.items i 0 ≡ bit_or (get_or old.words.items i 0) (get_or other.words.items i 0))
    → (x : ℕ) → has new x ≡ (has other x || has old x)
united old other new h x =
    has_is new new.words.items x refl ∙ ap (λ (n : ℕ). eqb (bit_at n (x % 64)) 1) (h (x / 64))
    ∙ ap (λ (n : ℕ). eqb n 1) (bit_at_or a b (x % 64))
    ∙ max_or (bit_at a (x % 64)) (bit_at b (x % 64)) (bit_at-lt a (x % 64)) (bit_at-lt b (x % 64))
    ∙ ap₂ (λ (p q : Bool). p || q) (sym (has_is other other.words.items x refl)) (sym (has_is old old.words.items x refl))
  where
    a : ℕ
    a = get_or old.words.items (x / 64) 0

    b : ℕ
    b = get_or other.words.items (x / 64) 0

pub has_word : (s : Set) (words : List ℕ) (x word : ℕ) → words ≡ s.words.items → true ≡ ltb (x / 64) (length words) → word ≡ get_or words (x / 64) word
    → eqb (bit_and (word / 2 ^ (x % 64)) 1) 1 ≡ has s x
has_word s words x word e l h =
    ap (λ (n : ℕ). eqb n 1) (shr_and_one word (x % 64))
    ∙ ap (λ (n : ℕ). eqb (bit_at n (x % 64)) 1) (h ∙ get_or_default words (x / 64) word 0 (ltb-true (x / 64) (length words) (sym l)))
    ∙ sym (has_is s words x (sym e))

pub has_beyond : (s : Set) (words : List ℕ) (x : ℕ) → words ≡ s.words.items → false ≡ ltb (x / 64) (length words) → false ≡ has s x
has_beyond s words x e l =
    sym (has_is s words x (sym e)
    ∙ ap (λ (n : ℕ). eqb (bit_at n (x % 64)) 1) (get_or-eq_default words 0 {n = x / 64} (ltb-false (x / 64) (length words) (sym l)))
    ∙ ap (λ (n : ℕ). eqb n 1) (bit_at-zero (x % 64)))

-- words that have the bits of both, before a place

pub or_step : (old other words new : List ℕ) (i word mine k : ℕ) → i < length words → word ≡ get_or other i 0 → mine ≡ get_or words i 0 → new ≡ set words i (bit_or mine word)
    → ((j : ℕ) → j < i → get_or words j 0 ≡ bit_or (get_or old j 0) (get_or other j 0)) → ((j : ℕ) → i ≤ j → get_or words j 0 ≡ get_or old j 0)
    → k < i + 1 → get_or new k 0 ≡ bit_or (get_or old k 0) (get_or other k 0)
or_step old other words new i word mine k l w m e before behind h = by_test (eqb k i) refl
  where
    by_test : (t : Bool) → eqb k i ≡ t → get_or new k 0 ≡ bit_or (get_or old k 0) (get_or other k 0)
    by_test true t =
        let same : k ≡ i = eqb-true k i t in
        ap (λ (z : List ℕ). get_or z k 0) e ∙ ap (λ (j : ℕ). get_or (set words i (bit_or mine word)) j 0) same
        ∙ get_or-set_same words i (bit_or mine word) 0 l
        ∙ ap₂ (λ (a b : ℕ). bit_or a b) (m ∙ behind i (omega arith)) w
        ∙ ap (λ (j : ℕ). bit_or (get_or old j 0) (get_or other j 0)) (sym same)
    by_test false t =
        let other_place : k ≢ i = λ r. absurd (cc (eq-eqb k i r)) in
        ap (λ (z : List ℕ). get_or z k 0) e ∙ get_or-set_other words i k (bit_or mine word) 0 other_place ∙ before k (omega arith)

pub or_behind : (old words new : List ℕ) (i v k : ℕ) → new ≡ set words i v → ((j : ℕ) → i ≤ j → get_or words j 0 ≡ get_or old j 0) → i + 1 ≤ k → get_or new k 0 ≡ get_or old k 0
or_behind old words new i v k e behind h =
    let other_place : k ≢ i = λ r. omega arith in
    ap (λ (z : List ℕ). get_or z k 0) e ∙ get_or-set_other words i k v 0 other_place ∙ behind k (omega arith)

pub all_words : (old wide new other : List ℕ) (n : ℕ) → length other ≤ n → ((j : ℕ) → get_or wide j 0 ≡ get_or old j 0)
    → ((j : ℕ) → j < n → get_or new j 0 ≡ bit_or (get_or wide j 0) (get_or other j 0)) → ((j : ℕ) → n ≤ j → get_or new j 0 ≡ get_or wide j 0)
    → (k : ℕ) → get_or new k 0 ≡ bit_or (get_or old k 0) (get_or other k 0)
all_words old wide new other n l s before behind k = by_test (ltb k n) refl
  where
    by_test : (t : Bool) → ltb k n ≡ t → get_or new k 0 ≡ bit_or (get_or old k 0) (get_or other k 0)
    by_test true t = before k (ltb-true k n t) ∙ ap (λ (a : ℕ). bit_or a (get_or other k 0)) (s k)
    by_test false t =
        let past : n ≤ k = ltb-false k n t in
        behind k past ∙ s k ∙ sym (ap (λ (b : ℕ). bit_or (get_or old k 0) b) (get_or-eq_default other 0 {n = k} (omega arith)) ∙ or_zero_r (get_or old k 0))
