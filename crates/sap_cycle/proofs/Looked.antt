-- What a look-up of a name finds.
use Rattle.sap_lemmas.proofs.Common.{◌≡◌, ℕ, zero, suc, ◌+◌, ◌-◌, ◌<◌, ◌≤◌, List, [], ◌∷◌, ◌++◌, Bool, true, false, map, Option, Some, None, length, get_or, sym, ap, ◌∙◌, subst, refl, arith, length-append, append_assoc, append-nil, ⊎_elim, ◌⊎◌, inl, inr, true≢false, slice_get, option_map, is_some, IsSome, Contains, nat_le, nat_lt, ◌||◌, ◌&&◌, bytes_eq, AllByRecursion, cases_Bool, cases_lt, lt-ltb, le-ltb, le-leb, lt-leb, length-map, slice_get-map, get_or_from_slice_get, all_append, all_follow, map_of_all, equal_of_bytes_eq}
use Rattle.std.proofs.lemmas.List.Elements.{Contains-append_left, Contains-append_right, Contains-push}
use Rattle.sap_maps.specs.Prelude.{Name, Valuation, Scope, find}
use Rattle.sap_net.specs.Prelude.{Net, readable_after, IsNetlist, first_readable, readable, input_names, register_names, wire_names, at_name, NameMap}
use Rattle.sap_net.specs.declared.parts.Input.{Input}
use Rattle.sap_net.specs.declared.parts.Wire.{Wire}
use Rattle.sap_cycle.specs.Places.{Finds}
use Rattle.sap_cycle.specs.Running.{first_names, value_names, can_be_seen}
use Rattle.sap_cycle.proofs.Distinct.{inputs_readable, registers_readable, wires_readable, registers_found, inputs_no_registers, wires_no_registers}

-- every name that is found is on the list
abbrev pub Covers : {X : Type 0} → List (Name × X) → List Name → Type 0
Covers {X} es names = (x : Name) (u : X) → find es x ≡ Some u → Contains names x

pub covers_front : {X : Type 0} (m : Name) (k : X) (es : List (Name × X)) (names : List Name) → Covers es names → Covers ((m, k) ∷ es) (m ∷ names)
covers_front {X} m k es names cov x u h =
    ⊎_elim
    (λ t. (0, omega arith, equal_of_bytes_eq m x t))
    (λ f. Contains-append_right (m ∷ []) names x (cov x u (rw f at h)))
    (cases_Bool (bytes_eq m x))

pub covers_push : {X : Type 0} (m : Name) (k : X) (es : List (Name × X)) (names : List Name) → Covers es names → Covers ((m, k) ∷ es) (names ++ m ∷ [])
covers_push {X} m k es names cov x u h =
    ⊎_elim
    (λ t. subst (Contains (names ++ m ∷ [])) (equal_of_bytes_eq m x t) (Contains-push names m))
    (λ f. Contains-append_left names (m ∷ []) x (cov x u (rw f at h)))
    (cases_Bool (bytes_eq m x))

pub covers_listed : {A X : Type 0} (key : A → Name) (of : A → X) (list : List A) → Covers (map (λ a. (key a, of a)) list) (map key list)
covers_listed {A} {X} key of [] x u h = absurd (cc)
covers_listed {A} {X} key of (a ∷ list) x u h = covers_front (key a) (of a) _ _ (covers_listed key of list) x u h

covers_inputs : (is : List Input) (sd : Scope) (names : List Name) → Covers sd names → Covers (map (λ i. (i.name, i.width)) is ++ sd) (map (λ i. i.name) is ++ names)
covers_inputs [] sd names cov = cov
covers_inputs (i ∷ is) sd names cov = covers_front i.name i.width _ _ (covers_inputs is sd names cov)

pub covers_first : (n : Net) → Covers (first_readable n) (first_names n)
covers_first n = covers_inputs n.inputs _ (register_names n) (covers_listed (λ r. r.name) (λ r. r.width) n.registers)

covers_after : (ws : List Wire) (sc : Scope) (names : List Name) → Covers sc names → Covers (readable_after sc ws) (names ++ map (λ w. w.name) ws)
covers_after [] sc names cov = rw append-nil cov
covers_after (w ∷ ws) sc names cov =
    rw (← append_assoc names (w.name ∷ []) (map (λ w. w.name) ws)) (covers_after ws _ _ (covers_push w.name w.width sc names cov))

pub covers_readable : (n : Net) → Covers (readable n) (value_names n)
covers_readable n = covers_after n.wires (first_readable n) (first_names n) (covers_first n)

pub cases_option : {X : Type 0} (o : Option X) → (o ≡ None) ⊎ ((u : X) × (o ≡ Some u))
cases_option {X} None = inl refl
cases_option {X} (Some u) = inr (u, refl)

pub none_there : (o : Option ℕ) → o ≡ None → IsSome o → ⊥
none_there None e h = absurd (true≢false (sym h))
none_there (Some k) e h = cc

-- a name that a map of places doesn't find is none of those that the list covers
pub missing : {X : Type 0} (m : NameMap ℕ) (names : List Name) → Finds m names → (es : List (Name × X)) → Covers es names → (x : Name) → at_name m x ≡ None → find es x ≡ None
missing {X} m names finds es cov x h = elim (cases_option (find es x)) [ inl e ↦ e | inr s ↦ absurd (none_there (at_name m x) h (finds.all x (cov x s.0 s.1))) ]

pub all_at : {A : Type 0} (P : A → Type 0) (xs : List A) (k : ℕ) (x : A) → AllByRecursion P xs → slice_get xs k ≡ Some x → P x
all_at {A} P [] k x h e = absurd (cc)
all_at {A} P (y ∷ xs) zero x h e = let q : y ≡ x = cc in subst P q h.0
all_at {A} P (y ∷ xs) (suc k) x h e = all_at P xs k x h.1 e

front_at : {A : Type 0} (xs ys : List A) (k : ℕ) (x : A) → k < length xs → slice_get (xs ++ ys) k ≡ Some x → slice_get xs k ≡ Some x
front_at {A} [] ys k x lt h = absurd (omega arith)
front_at {A} (y ∷ xs) ys zero x lt h = h
front_at {A} (y ∷ xs) ys (suc k) x lt h = front_at xs ys k x (omega arith) h

back_at : {A : Type 0} (xs ys : List A) (j : ℕ) → slice_get (xs ++ ys) (length xs + j) ≡ slice_get ys j
back_at {A} [] ys j = ap (slice_get ys) (let e : 0 + j ≡ j = omega arith in e)
back_at {A} (y ∷ xs) ys j = ap (slice_get (y ∷ (xs ++ ys))) (let e : suc (length xs) + j ≡ suc (length xs + j) = omega arith in e) ∙ back_at xs ys j

behind_at : {A : Type 0} (xs ys : List A) (k : ℕ) (x : A) → length xs ≤ k → slice_get (xs ++ ys) k ≡ Some x → slice_get ys (k - length xs) ≡ Some x
behind_at {A} xs ys k x le h =
    sym (back_at xs ys (k - length xs)) ∙ ap (slice_get (xs ++ ys)) (let e : length xs + (k - length xs) ≡ k = omega arith in e) ∙ h

is_found : {A : Type 0} (es : Scope) (key : A → Name) (width : A → ℕ) (list : List A)
    → AllByRecursion (λ a. find es (key a) ≡ Some (width a)) list → AllByRecursion (λ a. is_some (find es (key a)) ≡ true) list
is_found {A} es key width list h = all_follow (λ a. find es (key a) ≡ Some (width a)) (λ a. is_some (find es (key a)) ≡ true) list (λ a e. rw e refl) h

isnt_found : {A : Type 0} (es : Scope) (key : A → Name) (list : List A) → AllByRecursion (λ a. find es (key a) ≡ None) list
    → AllByRecursion (λ a. is_some (find es (key a)) ≡ false) list
isnt_found {A} es key list h = all_follow (λ a. find es (key a) ≡ None) (λ a. is_some (find es (key a)) ≡ false) list (λ a e. rw e refl) h

all_readable : (n : Net) → IsNetlist n → AllByRecursion (λ x. is_some (find (readable n) x) ≡ true) (value_names n)
all_readable n rules =
    let P = λ (x : Name). is_some (find (readable n) x) ≡ true in
    all_append P (first_names n) (wire_names n)
    (all_append P (input_names n) (register_names n)
    (map_of_all P (λ i. i.name) n.inputs (is_found (readable n) (λ i. i.name) (λ i. i.width) n.inputs (inputs_readable n rules)))
    (map_of_all P (λ r. r.name) n.registers (is_found (readable n) (λ r. r.name) (λ r. r.width) n.registers (registers_readable n rules))))
    (map_of_all P (λ w. w.name) n.wires (is_found (readable n) (λ w. w.name) (λ w. w.width) n.wires (wires_readable n rules)))

-- the place of a register
abbrev pub is_register : Net → (place : ℕ) → Bool
is_register n k = nat_le (length n.inputs) k && nat_lt (k - length n.inputs) (length n.registers)

abbrev registers_of : Net → Scope
registers_of n = map (λ r. (r.name, r.width)) n.registers

first_seen : (n : Net) → IsNetlist n → (x : Name) (k : ℕ) → slice_get (value_names n) k ≡ Some x → is_some (find (registers_of n) x) ≡ is_register n k
first_seen n rules x k h =
    let li : length (input_names n) ≡ length n.inputs = length-map n.inputs (λ i. i.name) in
    let lr : length (register_names n) ≡ length n.registers = length-map n.registers (λ r. r.name) in
    let lf : length (first_names n) ≡ length (input_names n) + length (register_names n) = length-append (input_names n) (register_names n) in
    let yes_seen = λ (y : Name). is_some (find (registers_of n) y) ≡ true in
    let not_seen = λ (y : Name). is_some (find (registers_of n) y) ≡ false in
    ⊎_elim
    (λ (lt : k < length (first_names n)).
    let f : slice_get (first_names n) k ≡ Some x = front_at (first_names n) (wire_names n) k x lt h in
    ⊎_elim
    (λ (in_inputs : k < length (input_names n)).
    let q : is_some (find (registers_of n) x) ≡ false =
    all_at not_seen (input_names n) k x (map_of_all not_seen (λ i. i.name) n.inputs
    (isnt_found (registers_of n) (λ i. i.name) n.inputs (inputs_no_registers n rules (λ r. r.width)))) (front_at (input_names n) (register_names n) k x in_inputs f) in
    let t : nat_le (length n.inputs) k ≡ false = lt-leb (length n.inputs) k (omega arith) in
    q ∙ sym (ap (λ (b : Bool). b && nat_lt (k - length n.inputs) (length n.registers)) t))
    (λ (past : length (input_names n) ≤ k).
    let q : is_some (find (registers_of n) x) ≡ true =
    all_at yes_seen (register_names n) (k - length (input_names n)) x
    (map_of_all yes_seen (λ r. r.name) n.registers
    (is_found (registers_of n) (λ r. r.name) (λ r. r.width) n.registers (registers_found n rules (λ r. r.width)))) (behind_at (input_names n) (register_names n) k x past f) in
    let t : nat_le (length n.inputs) k ≡ true = le-leb (length n.inputs) k (omega arith) in
    let u : nat_lt (k - length n.inputs) (length n.registers) ≡ true = lt-ltb (k - length n.inputs) (length n.registers) (omega arith) in
    let w : is_register n k ≡ true = rw (t, u) refl in
    q ∙ sym w)
    (cases_lt k (length (input_names n))))
    (λ (past : length (first_names n) ≤ k).
    let q : is_some (find (registers_of n) x) ≡ false =
    all_at not_seen (wire_names n) (k - length (first_names n)) x
    (map_of_all not_seen (λ w. w.name) n.wires (isnt_found (registers_of n) (λ w. w.name) n.wires (wires_no_registers n rules (λ r. r.width))))
    (behind_at (first_names n) (wire_names n) k x past h) in
    let t : nat_le (length n.inputs) k ≡ true = le-leb (length n.inputs) k (omega arith) in
    let u : nat_lt (k - length n.inputs) (length n.registers) ≡ false = le-ltb (k - length n.inputs) (length n.registers) (omega arith) in
    let w : is_register n k ≡ false = rw (t, u) refl in
    q ∙ sym w)
    (cases_lt k (length (first_names n)))

-- what can be seen is what a look-up of the place tests
pub seen_there : (n : Net) → IsNetlist n → (x : Name) (k : ℕ) → slice_get (value_names n) k ≡ Some x
    → (cycle : Option Valuation) (stepped : Bool) → stepped ≡ is_some cycle → can_be_seen n cycle x ≡ (stepped || is_register n k)
seen_there n rules x k h None stepped e = rw e (first_seen n rules x k h)
seen_there n rules x k h (Some v) stepped e = rw e (all_at (λ y. is_some (find (readable n) y) ≡ true) (value_names n) k x (all_readable n rules) h)

pub seen_nowhere : (n : Net) (m : NameMap ℕ) → Finds m (value_names n) → (x : Name) → at_name m x ≡ None → (cycle : Option Valuation) → can_be_seen n cycle x ≡ false
seen_nowhere n m finds x h None =
    let cov : Covers (registers_of n) (value_names n) =
    λ y u g. Contains-append_left (first_names n) (wire_names n) y
    (Contains-append_right (input_names n) (register_names n) y (covers_listed (λ r. r.name) (λ r. r.width) n.registers y u g)) in
    rw (missing m (value_names n) finds (registers_of n) cov x h) refl
seen_nowhere n m finds x h (Some v) = rw (missing m (value_names n) finds (readable n) (covers_readable n) x h) refl

-- the number at a place
pub number_there : (f : Name → ℕ) (names : List Name) (values : List ℕ) (k : ℕ) (x : Name) (d : ℕ) → values ≡ map f names → slice_get names k ≡ Some x → get_or values k d ≡ f x
number_there f names values k x d e h =
    let g : slice_get (map f names) k ≡ Some (f x) = slice_get-map f names k ∙ ap (option_map f) h in
    ap (λ l. get_or l k d) e ∙ get_or_from_slice_get _ k _ d g
