-- What calls in a row make of a desk.
use Rattle.sap_lemmas.proofs.Common.{◌≡◌, ℕ, ◌+◌, ◌<◌, Bool, true, false, cond, List, [], ◌++◌, length, take, drop, append_assoc, refl, sym, ◌∙◌, ap, ap₂, subst, arith, inl, inr, eqb, Option, Some, None, option_map, cases_eq, nat_tests, drop-drop, take-append-drop, append-nil, bytes_eq, ltb, IfSome, IsSome, unwrap_or, Result, Ok, Err, OnErr, test_of_same, bytes_eq_same}
use Rattle.std.proofs.Math.Seq.{drop-nil}
use Rattle.sap_desk.specs.Cause.{Gave}
use Rattle.sap_desk.specs.Desk.{Told, Use, at_name, added, added_to, closed, reads, writes, stream, at_number, rest_of, rest_of_use, moved, moved_use, read_on, read_on_use, bytes_of, IsReading}

pub option_map-twice : {A B C : Type 0} (f : B → C) (g : A → B) (o : Option A) → option_map f (option_map g o) ≡ option_map (λ a. f (g a)) o
option_map-twice f g None = refl
option_map-twice f g (Some a) = refl

pub option_map-same : {A B : Type 0} (f g : A → B) (o : Option A) → ((a : A) → f a ≡ g a) → option_map f o ≡ option_map g o
option_map-same f g None h = refl
option_map-same f g (Some a) h = ap Some (h a)

pub option_map-id : {A : Type 0} (f : A → A) (o : Option A) → ((a : A) → f a ≡ a) → o ≡ option_map f o
option_map-id f None h = refl
option_map-id f (Some a) h = ap Some (sym (h a))

pub at_number-same : {A : Type 0} (k : ℕ) (x : A) (f : ℕ → A) → at_number k x f k ≡ x
at_number-same k x f = rw (test_of_same k) refl

at_number-twice-at : {A : Type 0} (k : ℕ) (x y : A) (f : ℕ → A) (n : ℕ) → at_number k y (at_number k x f) n ≡ at_number k y f n
at_number-twice-at k x y f n = elim (eqb n k) as (λ b. cond b y (cond b x (f n)) ≡ cond b y (f n)) [ true ↦ refl | false ↦ refl ]

pub at_number-twice : {A : Type 0} (k : ℕ) (x y : A) (f : ℕ → A) → at_number k y (at_number k x f) ≡ at_number k y f
at_number-twice k x y f = λ i n. at_number-twice-at k x y f n i

at_number-keeps-at : {A : Type 0} (k : ℕ) (x : A) (f : ℕ → A) → f k ≡ x → (n : ℕ) → at_number k x f n ≡ f n
at_number-keeps-at k x f h n = elim (cases_eq n k) [
  | inl same ↦ rw (same, test_of_same k) (sym h)
  | inr other ↦ let no : eqb n k ≡ false = grind (arith, nat_tests) in rw no refl
]

pub at_number-keeps : {A : Type 0} (k : ℕ) (x : A) (f : ℕ → A) → f k ≡ x → at_number k x f ≡ f
at_number-keeps k x f h = λ i n. at_number-keeps-at k x f h n i

-- two steps of one channel
uses-twice : (channel : ℕ) (f g : Use → Use) (uses : ℕ → Use)
    → at_number channel (g (at_number channel (f (uses channel)) uses channel)) (at_number channel (f (uses channel)) uses) ≡ at_number channel (g (f (uses channel))) uses
uses-twice channel f g uses =
    ap (λ (u : Use). at_number channel (g u) (at_number channel (f (uses channel)) uses)) (at_number-same channel (f (uses channel)) uses)
    ∙ at_number-twice channel (f (uses channel)) (g (f (uses channel))) uses

read_on_use-none : (u : Use) → u ≡ read_on_use None 0 u
read_on_use-none (reads name q p) = ap (reads name q) (omega arith)
read_on_use-none (writes name) = refl
read_on_use-none closed = refl
read_on_use-none stream = refl

-- no read
pub read_on-none : (channel : ℕ) (t : Told) → read_on channel None 0 t ≡ t
read_on-none channel t = λ i. record t { uses = at_number-keeps channel (read_on_use None 0 (t.uses channel)) t.uses (read_on_use-none (t.uses channel)) i }

moved_use-behind : (asked : Option ℕ) (m n : ℕ) (u : Use) → moved_use n (read_on_use asked m u) ≡ read_on_use (Some m) (m + n) u
moved_use-behind None m n (reads name q p) = ap (reads name (p + m)) (omega arith)
moved_use-behind (Some k) m n (reads name q p) = ap (reads name (p + m)) (omega arith)
moved_use-behind None m n (writes name) = refl
moved_use-behind (Some k) m n (writes name) = refl
moved_use-behind None m n closed = refl
moved_use-behind (Some k) m n closed = refl
moved_use-behind None m n stream = refl
moved_use-behind (Some k) m n stream = refl

-- one read more
pub moved-behind : (channel : ℕ) (asked : Option ℕ) (m n : ℕ) (t : Told) → moved channel n (read_on channel asked m t) ≡ read_on channel (Some m) (m + n) t
moved-behind channel asked m n t =
    let uses_are = uses-twice channel (read_on_use asked m) (moved_use n) t.uses
    ∙ ap (λ (u : Use). at_number channel u t.uses) (moved_use-behind asked m n (t.uses channel)) in
    λ i. record t { uses = uses_are i }

-- where the last of all reads was asked for, the second of them behind `m` bytes
abbrev pub last_asked : (first : Option ℕ) (m : ℕ) (second : Option ℕ) → Option ℕ
last_asked first m None = first
last_asked first m (Some k) = Some (m + k)

read_on_use-twice : (a b : Option ℕ) (m n : ℕ) (u : Use) → read_on_use b n (read_on_use a m u) ≡ read_on_use (last_asked a m b) (m + n) u
read_on_use-twice None None m n (reads name q p) = ap (reads name q) (omega arith)
read_on_use-twice (Some j) None m n (reads name q p) = ap (reads name (p + j)) (omega arith)
read_on_use-twice None (Some k) m n (reads name q p) = ap₂ (reads name) (omega arith) (omega arith)
read_on_use-twice (Some j) (Some k) m n (reads name q p) = ap₂ (reads name) (omega arith) (omega arith)
read_on_use-twice None None m n (writes name) = refl
read_on_use-twice (Some j) None m n (writes name) = refl
read_on_use-twice None (Some k) m n (writes name) = refl
read_on_use-twice (Some j) (Some k) m n (writes name) = refl
read_on_use-twice None None m n closed = refl
read_on_use-twice (Some j) None m n closed = refl
read_on_use-twice None (Some k) m n closed = refl
read_on_use-twice (Some j) (Some k) m n closed = refl
read_on_use-twice None None m n stream = refl
read_on_use-twice (Some j) None m n stream = refl
read_on_use-twice None (Some k) m n stream = refl
read_on_use-twice (Some j) (Some k) m n stream = refl

-- reads, and then others
pub read_on-twice : (channel : ℕ) (a b : Option ℕ) (m n : ℕ) (t : Told)
    → read_on channel b n (read_on channel a m t) ≡ read_on channel (last_asked a m b) (m + n) t
read_on-twice channel a b m n t =
    let uses_are = uses-twice channel (read_on_use a m) (read_on_use b n) t.uses
    ∙ ap (λ (u : Use). at_number channel u t.uses) (read_on_use-twice a b m n (t.uses channel)) in
    λ i. record t { uses = uses_are i }

-- a read that gives nothing changes a channel alone that is open for reading
moved_use-unread : (u : Use) → (¬ IsReading u) → u ≡ moved_use 0 u
moved_use-unread (reads name q p) shut = absurd (shut tt)
moved_use-unread (writes name) shut = refl
moved_use-unread closed shut = refl
moved_use-unread stream shut = refl

pub moved-unread : (channel : ℕ) (t : Told) → (¬ IsReading (t.uses channel)) → t ≡ moved channel 0 t
moved-unread channel t shut =
    let uses_are = at_number-keeps channel (moved_use 0 (t.uses channel)) t.uses (moved_use-unread (t.uses channel) shut) in
    sym (λ i. record t { uses = uses_are i })

rest-read_on_use : (t : Told) (asked : Option ℕ) (n : ℕ) (u : Use) → rest_of_use t (read_on_use asked n u) ≡ drop n (rest_of_use t u)
rest-read_on_use t None n (reads name q p) = sym (drop-drop n p (bytes_of t name))
rest-read_on_use t (Some k) n (reads name q p) = sym (drop-drop n p (bytes_of t name))
rest-read_on_use t None n (writes name) = sym (drop-nil n)
rest-read_on_use t (Some k) n (writes name) = sym (drop-nil n)
rest-read_on_use t None n closed = sym (drop-nil n)
rest-read_on_use t (Some k) n closed = sym (drop-nil n)
rest-read_on_use t None n stream = sym (drop-nil n)
rest-read_on_use t (Some k) n stream = sym (drop-nil n)

rest-moved_use : (t : Told) (n : ℕ) (u : Use) → rest_of_use t (moved_use n u) ≡ drop n (rest_of_use t u)
rest-moved_use t n (reads name q p) = sym (drop-drop n p (bytes_of t name))
rest-moved_use t n (writes name) = sym (drop-nil n)
rest-moved_use t n closed = sym (drop-nil n)
rest-moved_use t n stream = sym (drop-nil n)

-- what is left depends on the files
rest-same : (t n : Told) (u : Use) → n.files ≡ t.files → rest_of_use n u ≡ rest_of_use t u
rest-same t n (reads name q p) same = ap (λ (f : List ℕ → Option (List ℕ)). drop p (unwrap_or (f name) [])) same
rest-same t n (writes name) same = refl
rest-same t n closed same = refl
rest-same t n stream same = refl

pub rest-moved : (channel n : ℕ) (t : Told) → rest_of (moved channel n t) channel ≡ drop n (rest_of t channel)
rest-moved channel n t =
    ap (rest_of_use (moved channel n t)) (at_number-same channel (moved_use n (t.uses channel)) t.uses)
    ∙ rest-same t (moved channel n t) (moved_use n (t.uses channel)) refl ∙ rest-moved_use t n (t.uses channel)

pub rest-read_on : (channel : ℕ) (asked : Option ℕ) (n : ℕ) (t : Told) → rest_of (read_on channel asked n t) channel ≡ drop n (rest_of t channel)
rest-read_on channel asked n t =
    ap (rest_of_use (read_on channel asked n t)) (at_number-same channel (read_on_use asked n (t.uses channel)) t.uses)
    ∙ rest-same t (read_on channel asked n t) (read_on_use asked n (t.uses channel)) refl ∙ rest-read_on_use t asked n (t.uses channel)

-- one more piece, and what was read and what is left are still all
pub read_more : (channel : ℕ) (asked : Option ℕ) (len count : ℕ) (bytes before after : List ℕ) (old mid : Option Told)
    → mid ≡ option_map (read_on channel asked len) old
    → IfSome old (λ t. bytes ++ drop len (rest_of t channel) ≡ rest_of t channel)
    → IfSome mid (λ t. Gave t channel count before after)
    → IfSome old (λ t. (bytes ++ take count after) ++ drop (len + count) (rest_of t channel) ≡ rest_of t channel)
read_more channel asked len count bytes before after None mid is so_far gave = tt
read_more channel asked len count bytes before after (Some t) mid is so_far gave =
    let g : Gave (read_on channel asked len t) channel count before after = let P : Option Told → Type 0 = λ o. IfSome o (λ t. Gave t channel count before after) in subst P is gave in
    let rest = rest-read_on channel asked len t in
    let piece : take count after ≡ take count (drop len (rest_of t channel)) = g.piece ∙ ap (take count) rest in
    rw (piece, ← drop-drop count len (rest_of t channel), append_assoc bytes _ _, take-append-drop count (drop len (rest_of t channel))) so_far

pub read_end : (channel : ℕ) (asked : Option ℕ) (len : ℕ) (bytes before after : List ℕ) (old mid : Option Told)
    → mid ≡ option_map (read_on channel asked len) old
    → IfSome old (λ t. bytes ++ drop len (rest_of t channel) ≡ rest_of t channel)
    → IfSome mid (λ t. Gave t channel 0 before after)
    → (length before ≡ 0 → ⊥)
    → IfSome old (λ t. bytes ≡ rest_of t channel)
read_end channel asked len bytes before after None mid is so_far gave some = tt
read_end channel asked len bytes before after (Some t) mid is so_far gave some =
    let g : Gave (read_on channel asked len t) channel 0 before after = let P : Option Told → Type 0 = λ o. IfSome o (λ t. Gave t channel 0 before after) in subst P is gave in
    elim (g.end refl) [
      | inl none ↦ absurd (some none)
      | inr done ↦
          let left : drop len (rest_of t channel) ≡ [] = sym (rest-read_on channel asked len t) ∙ done in
          sym (append-nil bytes) ∙ rw left at so_far
    ]

pub told_more : (channel : ℕ) (asked : Option ℕ) (len count : ℕ) (old mid new : Option Told)
    → mid ≡ option_map (read_on channel asked len) old → new ≡ option_map (moved channel count) mid
    → new ≡ option_map (read_on channel (Some len) (len + count)) old
told_more channel asked len count old mid new is more =
    more ∙ ap (option_map (moved channel count)) is ∙ option_map-twice (moved channel count) (read_on channel asked len) old
    ∙ option_map-same _ _ old (moved-behind channel asked len count)

pub file_there : (o : Option (List ℕ)) → IsSome o → o ≡ Some (unwrap_or o [])
file_there None h = cc
file_there (Some x) h = refl

pub at_name-same : {A : Type 0} (k : List ℕ) (x : A) (f : List ℕ → A) → at_name k x f k ≡ x
at_name-same k x f = let same : bytes_eq k k ≡ true = bytes_eq_same k in rw same refl

at_name-twice-at : {A : Type 0} (k : List ℕ) (x y : A) (f : List ℕ → A) (n : List ℕ) → at_name k y (at_name k x f) n ≡ at_name k y f n
at_name-twice-at k x y f n = elim (bytes_eq n k) as (λ b. cond b y (cond b x (f n)) ≡ cond b y (f n)) [ true ↦ refl | false ↦ refl ]

pub at_name-twice : {A : Type 0} (k : List ℕ) (x y : A) (f : List ℕ → A) → at_name k y (at_name k x f) ≡ at_name k y f
at_name-twice k x y f = λ i n. at_name-twice-at k x y f n i

pub number-at : {A : Type 0} (k : ℕ) (x : A) (f h : ℕ → A) → h ≡ at_number k x f → h k ≡ x
number-at {A = A} k x f h e = ap (λ (q : ℕ → A). q k) e ∙ at_number-same k x f

pub other_number : (n k : ℕ) → n < k → eqb n k ≡ false
other_number n k h = grind (arith, nat_tests)

added_to-twice : (u : Use) (a b : List ℕ) (files : List ℕ → Option (List ℕ)) → added_to u b (added_to u a files) ≡ added_to u (a ++ b) files
added_to-twice (reads name q p) a b files = refl
added_to-twice (writes name) a b files =
    ap (λ (o : Option (List ℕ)). at_name name (Some (unwrap_or o [] ++ b)) (at_name name (Some (unwrap_or (files name) [] ++ a)) files))
    (at_name-same name (Some (unwrap_or (files name) [] ++ a)) files)
    ∙ at_name-twice name (Some (unwrap_or (files name) [] ++ a)) (Some ((unwrap_or (files name) [] ++ a) ++ b)) files
    ∙ ap (λ (l : List ℕ). at_name name (Some l) files) (append_assoc (unwrap_or (files name) []) a b)
added_to-twice closed a b files = refl
added_to-twice stream a b files = refl

added_files-twice : (above : Bool) (u : Use) (a b : List ℕ) (files : List ℕ → Option (List ℕ))
    → cond above (added_to u b (cond above (added_to u a files) files)) (cond above (added_to u a files) files) ≡ cond above (added_to u (a ++ b) files) files
added_files-twice true u a b files = added_to-twice u a b files
added_files-twice false u a b files = refl

-- two pieces in turn are one piece
pub added-twice : (channel : ℕ) (a b : List ℕ) (t : Told) → added channel b (added channel a t) ≡ added channel (a ++ b) t
added-twice channel a b t =
    let files_are = added_files-twice (ltb 2 channel) (t.uses channel) a b t.files in
    let piece_is : at_number channel (t.written channel ++ a) t.written channel ++ b ≡ t.written channel ++ (a ++ b)
    = ap (λ (l : List ℕ). l ++ b) (at_number-same channel (t.written channel ++ a) t.written) ∙ append_assoc (t.written channel) a b in
    let written_are = ap (λ (l : List ℕ). at_number channel l (at_number channel (t.written channel ++ a) t.written)) piece_is
    ∙ at_number-twice channel (t.written channel ++ a) (t.written channel ++ (a ++ b)) t.written in
    λ i. record t { files = files_are i; written = written_are i }

pub on_err : {T E P : Type 0} (r : Result T E) → P → OnErr r P
on_err (Ok v) p = tt
on_err (Err e) p = p
