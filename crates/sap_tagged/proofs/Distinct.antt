-- No name is declared twice.
use Rattle.sap_lemmas.proofs.Common.{◌≡◌, ℕ, zero, suc, ◌+◌, ◌≤◌, List, [], ◌∷◌, ◌++◌, map, length, Bool, true, false, refl, sym, ap, ap₂, ◌∙◌, subst, if◌then◌else◌, arith, nat_lt, nat_eq, append_assoc, eqb-true, eq-eqb, false_from_ne_true, true_is_not_false, map-append, AllByRecursion, all_append, all_follow}
use Rattle.sap_maps.specs.Maps.{Name}
use Rattle.sap_meaning.specs.Program as program
use Rattle.sap_meaning.specs.Program.{World, Kind, Entity, entity, root, children, is_input, is_register, is_memory, is_dynamic, kind_is_input, kind_is_register, kind_is_memory, kind_is_state, Command, lone, try, if_else, try_then, case_of, Arms, last_arm, and_arm, Block, end_block, command_then, State, state_node, Group, no_node, and_node}
use Rattle.sap_net.specs.Names.{is_among, AreDistinct}
use Rattle.sap_ir.specs.Prelude.{declared, variable_names, declarations}
use Rattle.sap_ir.specs.declared.guarded.Var.{Var}
use Rattle.sap_ir.specs.declared.guarded.MemoryVariable.{MemoryVariable}
use Rattle.sap_interface.specs.StandsFor.{Named, world, depth}
use Rattle.sap_tagged.specs.Prelude.{Key, value_key, tag_key, seat_key, refused_key, level_key, wire_key, first_key, inner_key, same, key_name, wires, wires_arms, wires_block, wires_state, wires_group, saved, level_at_start, for_entities, shown_registers, has_own_tag, tag_registers, seat_var, seat_registers, site_wires, step_wires, command_wires, arms_wires, block_wires, state_wires, group_wires, first_wires, inner_wires, memory_of, tags_of, plain_of}
use Rattle.sap_tagged.proofs.KeyNames.{NamesApart, names_apart, same_is}

-- lists of keys

abbrev pub Other : Key → Key → Type 0
Other a b = same a b ≡ false

abbrev pub OnceEach : List Key → Type 0
OnceEach [] = Unit {0}
OnceEach (a ∷ ks) = AllByRecursion (Other a) ks × OnceEach ks

pub once_join : (xs ys : List Key) → OnceEach xs → OnceEach ys → AllByRecursion (λ a. AllByRecursion (Other a) ys) xs → OnceEach (xs ++ ys)
once_join [] ys h k f = k
once_join (a ∷ xs) ys h k f = (all_append (Other a) xs ys h.0 f.0, once_join xs ys h.1 k f.1)

other_by : (a b : Key) (f : Key → ℕ) → (f a ≡ f b → ⊥) → Other a b
other_by a b f n = false_from_ne_true (same a b) (λ e. n (ap f (same_is a b e)))

-- two lists apart by a number of each key
pub lists_apart : (f : Key → ℕ) (c : ℕ) (xs ys : List Key) → AllByRecursion (λ a. f a ≡ c) xs → AllByRecursion (λ b. suc c ≤ f b) ys
    → AllByRecursion (λ a. AllByRecursion (Other a) ys) xs
lists_apart f c xs ys h k =
    all_follow (λ a. f a ≡ c) (λ a. AllByRecursion (Other a) ys) xs (λ a e. all_follow (λ b. suc c ≤ f b) (Other a) ys (λ b l. other_by a b f (λ i. clash (f a) (f b) e l i)) k) h
  where
    clash : (m n : ℕ) → m ≡ c → suc c ≤ n → m ≡ n → ⊥
    clash m n e l i = omega (arith, e, l, i)

module _ (d : Named) (names : NamesApart d) where
  not_among : (a : Key) (ks : List Key) → AllByRecursion (Other a) ks → is_among (key_name d a) (map (key_name d) ks) ≡ false
  not_among a [] h = refl
  not_among a (b ∷ ks) h = rw (names_apart d names a b ∙ h.0, not_among a ks h.1) refl

  pub distinct_keys : (ks : List Key) → OnceEach ks → AreDistinct (map (key_name d) ks)
  distinct_keys [] h = tt
  distinct_keys (a ∷ ks) h = (not_among a ks h.0, distinct_keys ks h.1)

-- keys of entities, and of numbers in a row

-- the number in a key
abbrev index : Key → ℕ
index (value_key x) = x
index (tag_key x) = x
index (seat_key p) = p
index (refused_key k) = k
index (level_key k) = k
index (wire_key k) = k
index (first_key m) = m
index (inner_key s) = s

abbrev IndexIs : ℕ → Key → Type 0
IndexIs x a = index a ≡ x

abbrev IndexFrom : ℕ → Key → Type 0
IndexFrom x a = x ≤ index a

pub if_every : {A : Type 0} (P : A → Type 0) (b : Bool) (xs : List A) → (b ≡ true → AllByRecursion P xs) → AllByRecursion P (if b then xs else [])
if_every P true xs f = f refl
if_every P false xs f = tt

if_once : (b : Bool) (ks : List Key) → OnceEach ks → OnceEach (if b then ks else [])
if_once true ks h = h
if_once false ks h = tt

entities_from : (picks : ℕ → Bool) (of : ℕ → List Key) → ((x : ℕ) → AllByRecursion (IndexIs x) (of x)) → (x : ℕ) (es : List Entity)
    → AllByRecursion (IndexFrom x) (for_entities picks of x es)
entities_from picks of f x [] = tt
entities_from picks of f x (e ∷ es) =
    all_append (IndexFrom x) (if picks x then of x else []) (for_entities picks of (x + 1) es)
    (if_every (IndexFrom x) (picks x) (of x) (λ t. all_follow (IndexIs x) (IndexFrom x) (of x) (λ a i. at_least (index a) i) (f x)))
    (all_follow (IndexFrom (x + 1)) (IndexFrom x) (for_entities picks of (x + 1) es) (λ a l. less (index a) l) (entities_from picks of f (x + 1) es))
  where
    at_least : (n : ℕ) → n ≡ x → x ≤ n
    at_least n e = omega (arith, e)

    less : (n : ℕ) → x + 1 ≤ n → x ≤ n
    less n l = omega (arith, l)

pub entities_once : (picks : ℕ → Bool) (of : ℕ → List Key) → ((x : ℕ) → AllByRecursion (IndexIs x) (of x)) → ((x : ℕ) → OnceEach (of x))
    → (x : ℕ) (es : List Entity) → OnceEach (for_entities picks of x es)
entities_once picks of f o x [] = tt
entities_once picks of f o x (e ∷ es) =
    once_join (if picks x then of x else []) (for_entities picks of (x + 1) es) (if_once (picks x) (of x) (o x)) (entities_once picks of f o (x + 1) es)
    (lists_apart index x (if picks x then of x else []) (for_entities picks of (x + 1) es) (if_every (IndexIs x) (picks x) (of x) (λ t. f x))
    (all_follow (IndexFrom (x + 1)) (λ b. suc x ≤ index b) (for_entities picks of (x + 1) es) (λ a l. later (index a) l) (entities_from picks of f (x + 1) es)))
  where
    later : (n : ℕ) → x + 1 ≤ n → suc x ≤ n
    later n l = omega (arith, l)

pub entities_all : {A : Type 0} (P : A → Type 0) (picks : ℕ → Bool) (of : ℕ → List A) → ((x : ℕ) → picks x ≡ true → AllByRecursion P (of x))
    → (x : ℕ) (es : List Entity) → AllByRecursion P (for_entities picks of x es)
entities_all P picks of f x [] = tt
entities_all P picks of f x (e ∷ es) =
    all_append P (if picks x then of x else []) (for_entities picks of (x + 1) es) (if_every P (picks x) (of x) (f x)) (entities_all P picks of f (x + 1) es)

pub entities_named : {A : Type 0} (f : A → Name) (d : Named) (picks : ℕ → Bool) (of : ℕ → List A) (keys : ℕ → List Key)
    → ((x : ℕ) → map f (of x) ≡ map (key_name d) (keys x)) → (x : ℕ) (es : List Entity)
    → map f (for_entities picks of x es) ≡ map (key_name d) (for_entities picks keys x es)
entities_named f d picks of keys e x [] = refl
entities_named f d picks of keys e x (u ∷ es) =
    map-append f (if picks x then of x else []) (for_entities picks of (x + 1) es)
    ∙ ap₂ (λ (xs ys : List Name). xs ++ ys) (by (picks x)) (entities_named f d picks of keys e (x + 1) es)
    ∙ sym (map-append (key_name d) (if picks x then keys x else []) (for_entities picks keys (x + 1) es))
  where
    by : (b : Bool) → map f (if b then of x else []) ≡ map (key_name d) (if b then keys x else [])
    by true = e x
    by false = refl

-- the keys of sites and of wires

abbrev pub site_keys : (k sites : ℕ) → List Key
site_keys k zero = []
site_keys k (suc n) = refused_key k ∷ level_key k ∷ site_keys (k + 1) n

abbrev pub wire_keys : (k n : ℕ) → List Key
wire_keys k zero = []
wire_keys k (suc n) = wire_key k ∷ wire_keys (k + 1) n

sites_from : (k n : ℕ) → AllByRecursion (IndexFrom k) (site_keys k n)
sites_from k zero = tt
sites_from k (suc n) = (omega arith, (omega arith, all_follow (IndexFrom (k + 1)) (IndexFrom k) (site_keys (k + 1) n) (λ a l. less (index a) l) (sites_from (k + 1) n)))
  where
    less : (n : ℕ) → k + 1 ≤ n → k ≤ n
    less n l = omega (arith, l)

wires_from : (k n : ℕ) → AllByRecursion (IndexFrom k) (wire_keys k n)
wires_from k zero = tt
wires_from k (suc n) = (omega arith, all_follow (IndexFrom (k + 1)) (IndexFrom k) (wire_keys (k + 1) n) (λ a l. less (index a) l) (wires_from (k + 1) n))
  where
    less : (n : ℕ) → k + 1 ≤ n → k ≤ n
    less n l = omega (arith, l)

behind : (a : Key) (ks : List Key) → AllByRecursion (IndexFrom (index a + 1)) ks → AllByRecursion (Other a) ks
behind a ks h = all_follow (IndexFrom (index a + 1)) (Other a) ks (λ b l. other_by a b index (λ e. clash (index a) (index b) l e)) h
  where
    clash : (m n : ℕ) → m + 1 ≤ n → m ≡ n → ⊥
    clash m n l e = omega (arith, l, e)

pub sites_once : (k n : ℕ) → OnceEach (site_keys k n)
sites_once k zero = tt
sites_once k (suc n) =
    ((refl, behind (refused_key k) (site_keys (k + 1) n) (sites_from (k + 1) n)), (behind (level_key k) (site_keys (k + 1) n) (sites_from (k + 1) n), sites_once (k + 1) n))

wires_once : (k n : ℕ) → OnceEach (wire_keys k n)
wires_once k zero = tt
wires_once k (suc n) = (behind (wire_key k) (wire_keys (k + 1) n) (wires_from (k + 1) n), wires_once (k + 1) n)

wires_join : (k m n : ℕ) → wire_keys k m ++ wire_keys (k + m) n ≡ wire_keys k (m + n)
wires_join k zero n = ap₂ (λ (i j : ℕ). wire_keys i j) (plus k) (minus n)
  where
    plus : (k : ℕ) → k + zero ≡ k
    plus k = omega arith

    minus : (n : ℕ) → n ≡ zero + n
    minus n = omega arith
wires_join k (suc m) n =
    ap (λ (i : ℕ). wire_key k ∷ (wire_keys (k + 1) m ++ wire_keys i n)) (plus k m) ∙ ap (λ (ks : List Key). wire_key k ∷ ks) (wires_join (k + 1) m n)
    ∙ ap (wire_keys k) (more m n)
  where
    plus : (k m : ℕ) → k + suc m ≡ k + 1 + m
    plus k m = omega arith

    more : (m n : ℕ) → suc (m + n) ≡ suc m + n
    more m n = omega arith

module _ (d : Named) (tag : ℕ) where
  abbrev keyed : List Key → List Name
  keyed ks = map (key_name d) ks

  pub sites_named : (k n : ℕ) → variable_names (site_wires d tag k n) ≡ keyed (site_keys k n)
  sites_named k zero = refl
  sites_named k (suc n) = ap (λ (ns : List Name). key_name d (refused_key k) ∷ key_name d (level_key k) ∷ ns) (sites_named (k + 1) n)

  two_lists : (xs ys : List Var) (k m n : ℕ) → variable_names xs ≡ keyed (wire_keys k m) → variable_names ys ≡ keyed (wire_keys (k + m) n)
      → variable_names (xs ++ ys) ≡ keyed (wire_keys k (m + n))
  two_lists xs ys k m n e f =
      map-append (λ (x : Var). x.name) xs ys ∙ ap₂ (λ (a b : List Name). a ++ b) e f
      ∙ sym (map-append (key_name d) (wire_keys k m) (wire_keys (k + m) n)) ∙ ap keyed (wires_join k m n)

  one_more : (xs : List Var) (k n u : ℕ) → variable_names xs ≡ keyed (wire_keys (k + 1) n) → key_name d (wire_key k) ∷ variable_names xs ≡ keyed (wire_keys k (1 + n))
  one_more xs k n u e = ap (λ (ns : List Name). key_name d (wire_key k) ∷ ns) e ∙ ap (λ (i : ℕ). keyed (wire_keys k i)) (more n)
    where
      more : (n : ℕ) → suc n ≡ 1 + n
      more n = omega arith

  step_named : (k : ℕ) → variable_names (step_wires d tag k) ≡ keyed (wire_keys k 5)
  step_named k =
      let a : k + 2 ≡ k + 1 + 1 = omega arith in
      let b : k + 3 ≡ k + 1 + 1 + 1 = omega arith in
      let c : k + 4 ≡ k + 1 + 1 + 1 + 1 = omega arith in
      rw (a, b, c) refl

  mutual
    command_named : (k : ℕ) (c : Command) → variable_names (command_wires d tag k c) ≡ keyed (wire_keys k (wires c))
    command_named k (lone s) = step_named k
    command_named k (try s hang h) = two_lists (step_wires d tag k) (block_wires d tag (k + 5) h) k 5 (wires_block h) (step_named k) (block_named (k + 5) h)
    command_named k (if_else hang e a b) =
        let m = wires_block a in
        let n = wires_block b in
        let two : k + 2 ≡ k + 1 + 1 = omega arith in
        let r : variable_names (block_wires d tag (k + 2) a ++ block_wires d tag (k + 2 + m) b) ≡ keyed (wire_keys (k + 2) (m + n)) =
        two_lists (block_wires d tag (k + 2) a) (block_wires d tag (k + 2 + m) b) (k + 2) m n (block_named (k + 2) a) (block_named (k + 2 + m) b) in
        ap (λ (ns : List Name). key_name d (wire_key k) ∷ key_name d (wire_key (k + 1)) ∷ ns) (r ∙ ap (λ (i : ℕ). keyed (wire_keys i (m + n))) two)
        ∙ ap (λ (i : ℕ). keyed (wire_keys k i)) (count m n)
      where
        count : (m n : ℕ) → suc (suc (m + n)) ≡ 2 + (m + n)
        count m n = omega arith
    command_named k (try_then s hang a b) =
        let m = wires_block a in
        let n = wires_block b in
        two_lists (step_wires d tag k) (block_wires d tag (k + 5) a ++ block_wires d tag (k + 5 + m) b) k 5 (m + n) (step_named k)
        (two_lists (block_wires d tag (k + 5) a) (block_wires d tag (k + 5 + m) b) (k + 5) m n (block_named (k + 5) a) (block_named (k + 5 + m) b))
    command_named k (case_of hang e arms) =
        let n = wires_arms arms in
        let two : k + 2 ≡ k + 1 + 1 = omega arith in
        let three : k + 3 ≡ k + 1 + 1 + 1 = omega arith in
        let four : k + 4 ≡ k + 1 + 1 + 1 + 1 = omega arith in
        ap (λ (ns : List Name). key_name d (wire_key k) ∷ key_name d (wire_key (k + 1)) ∷ key_name d (wire_key (k + 2))
        ∷ key_name d (wire_key (k + 3)) ∷ ns) (arms_named (k + 4) arms)
        ∙ ap₂ (λ (i j : ℕ). key_name d (wire_key k) ∷ key_name d (wire_key (k + 1)) ∷ key_name d (wire_key i) ∷ key_name d (wire_key j) ∷ keyed (wire_keys (k + 4) n)) two three
        ∙ ap (λ (i : ℕ). key_name d (wire_key k) ∷ key_name d (wire_key (k + 1)) ∷ key_name d (wire_key (k + 1 + 1))
        ∷ key_name d (wire_key (k + 1 + 1 + 1)) ∷ keyed (wire_keys i n)) four
        ∙ ap (λ (i : ℕ). keyed (wire_keys k i)) (count n)
      where
        count : (n : ℕ) → suc (suc (suc (suc n))) ≡ 4 + n
        count n = omega arith

    arms_named : (k : ℕ) (arms : Arms) → variable_names (arms_wires d tag k arms) ≡ keyed (wire_keys k (wires_arms arms))
    arms_named k (last_arm b) = block_named k b
    arms_named k (and_arm constants b arms) =
        two_lists (block_wires d tag k b) (arms_wires d tag (k + wires_block b) arms) k (wires_block b) (wires_arms arms) (block_named k b) (arms_named (k + wires_block b) arms)

    block_named : (k : ℕ) (b : Block) → variable_names (block_wires d tag k b) ≡ keyed (wire_keys k (wires_block b))
    block_named k end_block = refl
    block_named k (command_then c cs) =
        two_lists (command_wires d tag k c) (block_wires d tag (k + wires c) cs) k (wires c) (wires_block cs) (command_named k c) (block_named (k + wires c) cs)

  mutual
    state_named : (k : ℕ) (t : State) → variable_names (state_wires d tag k t) ≡ keyed (wire_keys k (wires_state t))
    state_named k (state_node s b g) =
        let m = wires_block b in
        let n = wires_group g in
        one_more (block_wires d tag (k + 1) b ++ group_wires d tag (k + 1 + m) g) k (m + n) tag
        (two_lists (block_wires d tag (k + 1) b) (group_wires d tag (k + 1 + m) g) (k + 1) m n (block_named (k + 1) b) (group_named (k + 1 + m) g))
        ∙ ap (λ (i : ℕ). keyed (wire_keys k i)) (count m n)
      where
        count : (m n : ℕ) → 1 + (m + n) ≡ 1 + m + n
        count m n = omega arith

    group_named : (k : ℕ) (g : Group) → variable_names (group_wires d tag k g) ≡ keyed (wire_keys k (wires_group g))
    group_named k no_node = refl
    group_named k (and_node (state_node s b g) rest) =
        let n = 1 + wires_block b + wires_group g in
        two_lists (state_wires d tag k (state_node s b g)) (group_wires d tag (k + n) rest) k n (wires_group rest) (state_named k (state_node s b g)) (group_named (k + n) rest)

-- the list on which a key stands
abbrev pub value_list : Kind → ℕ
value_list program.input = 0
value_list program.register = 1
value_list (program.memory depth) = 9
value_list (program.state place last) = 10

abbrev pub tag_list : Kind → Bool → ℕ
tag_list program.input b = 0
tag_list program.register b = 1
tag_list (program.memory depth) b = if b then 2 else 9
tag_list (program.state place last) b = 2

abbrev pub list_number : World → Key → ℕ
list_number w (value_key x) = value_list (entity w x).kind
list_number w (tag_key x) = tag_list (entity w x).kind (is_dynamic w x)
list_number w (seat_key p) = if nat_eq p (root w) then 4 else 3
list_number w (refused_key k) = 5
list_number w (level_key k) = 5
list_number w (first_key m) = 6
list_number w (inner_key s) = 7
list_number w (wire_key k) = 8

input_lists : (k : Kind) (b : Bool) → kind_is_input k ≡ true → (value_list k ≡ 0) × (tag_list k b ≡ 0)
input_lists program.input b h = (refl, refl)
input_lists _ b h = absurd (true_is_not_false (sym h))

pub register_lists : (k : Kind) (b : Bool) → kind_is_register k ≡ true → (value_list k ≡ 1) × (tag_list k b ≡ 1)
register_lists program.register b h = (refl, refl)
register_lists _ b h = absurd (true_is_not_false (sym h))

own_lists : (k : Kind) (b : Bool) → (if kind_is_memory k then b else kind_is_state k) ≡ true → tag_list k b ≡ 2
own_lists (program.memory depth) b h = rw h refl
own_lists (program.state place last) b h = refl
own_lists _ b h = absurd (true_is_not_false (sym h))

memory_lists : (k : Kind) (b : Bool) → kind_is_memory k ≡ true → (value_list k ≡ 9) × (b ≡ false → tag_list k b ≡ 9)
memory_lists (program.memory depth) b h = (refl, λ e. rw e refl)
memory_lists _ b h = absurd (true_is_not_false (sym h))

module _ (d : Named) (tag sites : ℕ) (names : NamesApart d) where
  abbrev pub list_of : Key → ℕ
  list_of a = list_number (world d) a

  abbrev two_keys : ℕ → List Key
  two_keys x = value_key x ∷ tag_key x ∷ []

  abbrev tag_keys : ℕ → List Key
  tag_keys x = tag_key x ∷ []

  abbrev seat_keys : ℕ → List Key
  seat_keys p = seat_key p ∷ []

  abbrev first_keys : ℕ → List Key
  first_keys m = first_key m ∷ []

  abbrev inner_keys : ℕ → List Key
  inner_keys p = inner_key p ∷ []

  abbrev pub store_keys : ℕ → List Key
  store_keys m = value_key m ∷ (if is_dynamic (world d) m then [] else tag_key m ∷ [])

  abbrev pub of_entities : (ℕ → Bool) → (ℕ → List Key) → List Key
  of_entities picks of = for_entities picks of 0 (world d).entities

  abbrev pub all_keys : List Key
  all_keys =
      of_entities (is_input (world d)) two_keys
      ++ ((of_entities (is_register (world d)) two_keys
      ++ (of_entities (has_own_tag d) tag_keys ++ (of_entities (λ p. nat_lt 0 (children (world d) p)) seat_keys ++ seat_key (root (world d)) ∷ [])))
      ++ ((site_keys 1 sites ++ (of_entities (saved (world d)) first_keys
      ++ (of_entities (λ p. nat_lt 0 (children (world d) p)) inner_keys ++ wire_keys 0 (wires_group d.program.states))))
      ++ of_entities (is_memory (world d)) store_keys))

  -- keys of one list before those of later ones
  record Ordered (c : ℕ) (ks : List Key) : Type 0 where
    once : OnceEach ks
    from : AllByRecursion (λ a. c ≤ list_of a) ks

  ordered_join : (c : ℕ) (xs ys : List Key) → OnceEach xs → AllByRecursion (λ a. list_of a ≡ c) xs → Ordered (suc c) ys → Ordered c (xs ++ ys)
  ordered_join c xs ys o e r = record {
    once = once_join xs ys o r.once (lists_apart list_of c xs ys e r.from);
    from =
        all_append (λ a. c ≤ list_of a) xs ys (all_follow (λ a. list_of a ≡ c) (λ a. c ≤ list_of a) xs (λ a i. here (list_of a) i) e)
        (all_follow (λ a. suc c ≤ list_of a) (λ a. c ≤ list_of a) ys (λ a l. later (list_of a) l) r.from);
  }
    where
      here : (n : ℕ) → n ≡ c → c ≤ n
      here n e = omega (arith, e)

      later : (n : ℕ) → suc c ≤ n → c ≤ n
      later n l = omega (arith, l)

  of_wires : (k n : ℕ) → AllByRecursion (λ a. list_of a ≡ 8) (wire_keys k n)
  of_wires k zero = tt
  of_wires k (suc n) = (refl, of_wires (k + 1) n)

  of_sites : (k n : ℕ) → AllByRecursion (λ a. list_of a ≡ 5) (site_keys k n)
  of_sites k zero = tt
  of_sites k (suc n) = (refl, (refl, of_sites (k + 1) n))

  seat_list : (q : ℕ) → nat_eq q (root (world d)) ≡ false → list_of (seat_key q) ≡ 3
  seat_list q e = rw e refl

  store_once : (m : ℕ) (b : Bool) → OnceEach (value_key m ∷ (if b then [] else tag_key m ∷ []))
  store_once m true = (tt, tt)
  store_once m false = ((refl, tt), (tt, tt))

  store_index : (m : ℕ) (b : Bool) → AllByRecursion (IndexIs m) (value_key m ∷ (if b then [] else tag_key m ∷ []))
  store_index m true = (refl, tt)
  store_index m false = (refl, (refl, tt))

  store_list : (m : ℕ) → is_memory (world d) m ≡ true → AllByRecursion (λ a. list_of a ≡ 9) (store_keys m)
  store_list m h =
      let r = memory_lists (entity (world d) m).kind (is_dynamic (world d) m) h in
      (r.0, if_other (is_dynamic (world d) m) r.1 refl)
    where
      if_other : (b : Bool) → (is_dynamic (world d) m ≡ false → tag_list (entity (world d) m).kind (is_dynamic (world d) m) ≡ 9)
          → is_dynamic (world d) m ≡ b → AllByRecursion (λ a. list_of a ≡ 9) (if b then [] else tag_key m ∷ [])
      if_other true f e = tt
      if_other false f e = (f e, tt)

  -- seats of entities come before the root's
  seats_list : (x : ℕ) (es : List Entity) → x + length es ≤ root (world d)
      → AllByRecursion (λ a. list_of a ≡ 3) (for_entities (λ p. nat_lt 0 (children (world d) p)) seat_keys x es)
  seats_list x [] l = tt
  seats_list x (e ∷ es) l =
      all_append (λ a. list_of a ≡ 3) (if nat_lt 0 (children (world d) x) then seat_keys x else []) (for_entities (λ p. nat_lt 0 (children (world d) p)) seat_keys (x + 1) es)
      (if_every (λ a. list_of a ≡ 3) (nat_lt 0 (children (world d) x)) (seat_keys x) (λ t. (seat_list x (not_root x (length es) (root (world d)) l), tt)))
      (seats_list (x + 1) es (omega (arith, l)))
    where
      not_root : (x m n : ℕ) → x + suc m ≤ n → nat_eq x n ≡ false
      not_root x m n l = false_from_ne_true (nat_eq x n) (λ e. clash x m n l (eqb-true x n e))
        where
          clash : (x m n : ℕ) → x + suc m ≤ n → x ≡ n → ⊥
          clash x m n l e = omega (arith, l, e)

  all_once : OnceEach all_keys
  all_once =
      let entities = (world d).entities in
      let stores : Ordered 9 (of_entities (is_memory (world d)) store_keys) =
      record {
        once = entities_once (is_memory (world d)) store_keys (λ m. store_index m (is_dynamic (world d) m)) (λ m. store_once m (is_dynamic (world d) m)) 0 entities;
        from = all_follow (λ a. list_of a ≡ 9) (λ a. 9 ≤ list_of a) _ (λ a e. nine (list_of a) e)
            (entities_all (λ a. list_of a ≡ 9) (is_memory (world d)) store_keys store_list 0 entities);
      } in
      let ws : Ordered 8 (wire_keys 0 (wires_group d.program.states) ++ of_entities (is_memory (world d)) store_keys) =
      ordered_join 8 (wire_keys 0 (wires_group d.program.states)) _ (wires_once 0 (wires_group d.program.states)) (of_wires 0 (wires_group d.program.states)) stores in
      let cs = ordered_join 7 (of_entities (λ p. nat_lt 0 (children (world d) p)) inner_keys) _
      (entities_once (λ p. nat_lt 0 (children (world d) p)) inner_keys (λ p. (refl, tt)) (λ p. (tt, tt)) 0 entities)
      (entities_all (λ a. list_of a ≡ 7) (λ p. nat_lt 0 (children (world d) p)) inner_keys (λ p h. (refl, tt)) 0 entities) ws in
      let fs = ordered_join 6 (of_entities (saved (world d)) first_keys) _ (entities_once (saved (world d)) first_keys (λ m. (refl, tt)) (λ m. (tt, tt)) 0 entities)
      (entities_all (λ a. list_of a ≡ 6) (saved (world d)) first_keys (λ m h. (refl, tt)) 0 entities) cs in
      let ss = ordered_join 5 (site_keys 1 sites) _ (sites_once 1 sites) (of_sites 1 sites) fs in
      let rs = ordered_join 4 (seat_key (root (world d)) ∷ []) _ (tt, tt) (rw (eq-eqb (root (world d)) (root (world d)) refl) (refl, tt)) ss in
      let seats = ordered_join 3 (of_entities (λ p. nat_lt 0 (children (world d) p)) seat_keys) _
      (entities_once (λ p. nat_lt 0 (children (world d) p)) seat_keys (λ p. (refl, tt)) (λ p. (tt, tt)) 0 entities) (seats_list 0 entities (omega arith)) rs in
      let ts = ordered_join 2 (of_entities (has_own_tag d) tag_keys) _ (entities_once (has_own_tag d) tag_keys (λ m. (refl, tt)) (λ m. (tt, tt)) 0 entities)
      (entities_all (λ a. list_of a ≡ 2) (has_own_tag d) tag_keys (λ x h. (own_lists (entity (world d) x).kind (is_dynamic (world d) x) h, tt)) 0 entities) seats in
      let regs = ordered_join 1 (of_entities (is_register (world d)) two_keys) _
      (entities_once (is_register (world d)) two_keys (λ m. (refl, (refl, tt))) (λ m. ((refl, tt), (tt, tt))) 0 entities)
      (entities_all (λ a. list_of a ≡ 1) (is_register (world d)) two_keys (λ x h. let r =
      register_lists (entity (world d) x).kind (is_dynamic (world d) x) h in (r.0, (r.1, tt))) 0 entities) ts in
      let ins = ordered_join 0 (of_entities (is_input (world d)) two_keys) _
      (entities_once (is_input (world d)) two_keys (λ m. (refl, (refl, tt))) (λ m. ((refl, tt), (tt, tt))) 0 entities)
      (entities_all (λ a. list_of a ≡ 0) (is_input (world d)) two_keys (λ x h. let r =
      input_lists (entity (world d) x).kind (is_dynamic (world d) x) h in (r.0, (r.1, tt))) 0 entities) regs in
      subst OnceEach
      (regroup (of_entities (is_input (world d)) two_keys) (of_entities (is_register (world d)) two_keys) (of_entities (has_own_tag d) tag_keys)
      (of_entities (λ p. nat_lt 0 (children (world d) p)) seat_keys) (seat_key (root (world d)) ∷ []) (site_keys 1 sites) (of_entities (saved (world d)) first_keys)
      (of_entities (λ p. nat_lt 0 (children (world d) p)) inner_keys) (wire_keys 0 (wires_group d.program.states)) (of_entities (is_memory (world d)) store_keys))
      ins.once
    where
      nine : (n : ℕ) → n ≡ 9 → 9 ≤ n
      nine n e = omega (arith, e)

      regroup : (a b c e f g h i j k : List Key) → a ++ (b ++ (c ++ (e ++ (f ++ (g ++ (h ++ (i ++ (j ++ k)))))))) ≡ a ++ ((b ++ (c ++ (e ++ f))) ++ ((g ++ (h ++ (i ++ j))) ++ k))
      regroup a b c e f g h i j k =
          ap (λ (z : List Key). a ++ z)
          (sym (append_assoc b (c ++ (e ++ f)) ((g ++ (h ++ (i ++ j))) ++ k)
          ∙ ap (λ (z : List Key). b ++ z) (append_assoc c (e ++ f) ((g ++ (h ++ (i ++ j))) ++ k)
          ∙ ap (λ (z : List Key). c ++ z) (append_assoc e f ((g ++ (h ++ (i ++ j))) ++ k)
          ∙ ap (λ (z : List Key). e ++ (f ++ z)) (append_assoc g (h ++ (i ++ j)) k
          ∙ ap (λ (z : List Key). g ++ z) (append_assoc h (i ++ j) k ∙ ap (λ (z : List Key). h ++ z) (append_assoc i j k)))))))

  store_named : (m : ℕ) → map (λ (s : MemoryVariable). s.name) (memory_of d m ∷ tags_of d tag m) ≡ map (key_name d) (store_keys m)
  store_named m = ap (λ (ns : List Name). key_name d (value_key m) ∷ ns) (by (is_dynamic (world d) m))
    where
      by : (b : Bool)
          → map (λ (s : MemoryVariable). s.name) (if b then [] else record { name = key_name d (tag_key m); width = tag; depth = depth d m; start = level_at_start d m } ∷ [])
          ≡ map (key_name d) (if b then [] else tag_key m ∷ [])
      by true = refl
      by false = refl

  abbrev nk : List Key → List Name
  nk ks = map (key_name d) ks

  pub all_named : declared (declarations (plain_of d tag sites)) ≡ map (key_name d) all_keys
  all_named =
      let entities = (world d).entities in
      let var_name : Var → Name = λ x. x.name in
      let ins = entities_named {A = Var} var_name d (is_input (world d)) _ two_keys (λ x. refl) 0 entities in
      let regs = entities_named {A = Var} var_name d (is_register (world d)) _ two_keys (λ x. refl) 0 entities in
      let ts = entities_named {A = Var} var_name d (has_own_tag d) _ tag_keys (λ x. refl) 0 entities in
      let seats = entities_named {A = Var} var_name d (λ p. nat_lt 0 (children (world d) p)) _ seat_keys (λ x. refl) 0 entities in
      let fs = entities_named {A = Var} var_name d (saved (world d)) _ first_keys (λ x. refl) 0 entities in
      let inners = entities_named {A = Var} var_name d (λ p. nat_lt 0 (children (world d) p)) _ inner_keys (λ x. refl) 0 entities in
      let ms = entities_named {A = MemoryVariable} (λ s. s.name) d (is_memory (world d)) _ store_keys store_named 0 entities in
      ap₂ (λ (a b : List Name). a ++ b) ins
      (ap₂ (λ (a b : List Name). a ++ b)
      (joined_names var_name (shown_registers d tag) (tag_registers d tag ++ seat_registers d) _ _ regs
      (joined_names var_name (tag_registers d tag) (seat_registers d) _ _ ts
      (joined_names var_name _ (seat_var d (root (world d)) ∷ []) _ (seat_key (root (world d)) ∷ []) seats refl)))
      (ap₂ (λ (a b : List Name). a ++ b)
      (joined_names var_name (site_wires d tag 1 sites) (first_wires d tag ++ (inner_wires d tag ++ group_wires d tag 0 d.program.states)) _ _ (sites_named d tag 1 sites)
      (joined_names var_name (first_wires d tag) (inner_wires d tag ++ group_wires d tag 0 d.program.states) _ _ fs
      (joined_names var_name (inner_wires d tag) (group_wires d tag 0 d.program.states) _ _ inners (group_named d tag 0 d.program.states))))
      ms))
      ∙ sym (map_four (of_entities (is_input (world d)) two_keys)
      (of_entities (is_register (world d)) two_keys
      ++ (of_entities (has_own_tag d) tag_keys ++ (of_entities (λ p. nat_lt 0 (children (world d) p)) seat_keys ++ seat_key (root (world d)) ∷ [])))
      (site_keys 1 sites ++ (of_entities (saved (world d)) first_keys
      ++ (of_entities (λ p. nat_lt 0 (children (world d) p)) inner_keys ++ wire_keys 0 (wires_group d.program.states))))
      (of_entities (is_memory (world d)) store_keys))
    where
      joined_names : {A : Type 0} (f : A → Name) (xs ys : List A) (ks ls : List Key) → map f xs ≡ nk ks → map f ys ≡ nk ls → map f (xs ++ ys) ≡ nk (ks ++ ls)
      joined_names f xs ys ks ls e g = map-append f xs ys ∙ ap₂ (λ (a b : List Name). a ++ b) e g ∙ sym (map-append (key_name d) ks ls)

      map_four : (a b c e : List Key) → nk (a ++ (b ++ (c ++ e))) ≡ nk a ++ (nk b ++ (nk c ++ nk e))
      map_four a b c e =
          map-append (key_name d) a (b ++ (c ++ e))
          ∙ ap (λ (z : List Name). nk a ++ z) (map-append (key_name d) b (c ++ e) ∙ ap (λ (z : List Name). nk b ++ z) (map-append (key_name d) c e))

  pub distinct : AreDistinct (declared (declarations (plain_of d tag sites)))
  distinct = subst AreDistinct (sym all_named) (distinct_keys d names all_keys all_once)
