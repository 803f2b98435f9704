-- The tainted netlist is a netlist.
use Rattle.sap_lemmas.proofs.Common.{◌≡◌, ℕ, ◌+◌, ◌==◌, Bool, List, [], ◌∷◌, ◌++◌, map, true, false, ◌||◌, ◌&&◌, ap, sym, ◌∙◌, subst, refl, inl, inr, arith, unwrap_or, not, byte, AllByRecursion, list_all, cases_Bool, or_cases, and_from, and_left, and_right}
use Rattle.sap_maps.specs.Maps.{Name}
use Rattle.sap_net.specs.Prelude.{Net, is_name, is_keyword, is_word, is_among, is_initial, is_inner, AreDistinct, value_of, tag_name, register_names, memory_names}
use Rattle.sap_net.specs.declared.parts.Input.{Input}
use Rattle.sap_net.specs.declared.parts.Register.{Register}
use Rattle.sap_net.specs.declared.parts.Memory.{Memory}
use Rattle.sap_net.proofs.NamesLemmas.{among_append, each_among, distinct_both, filter_among}
use Rattle.sap_taint.specs.TagNames.{name_of_tag, with_tags}
use Rattle.sap_taint.specs.TaggedForm.{tagged_inputs}
use Rattle.sap_taint_pass.specs.Tainted.{in_order, tagged_registers, memory_tags, all_registers, help_for_wires, help_count, helping_names, tainted_by}
use Rattle.sap_taint.proofs.Apart.{of_whom, tag_among}
use Rattle.sap_build.proofs.Found.{AllAmong, registers_among, memories_among}
use Rattle.sap_taint_pass.proofs.InOrder.{names_in, ordered_names}
use Rattle.sap_taint_pass.proofs.Numbered.{numbered, numbers_distinct}
use Rattle.sap_taint_pass.proofs.Setting.{Setting, among_with_tags, name_with_tags, tag_with_tags, help_free}

-- names

behind_inner : (bs : List ℕ) → list_all is_inner bs ≡ true → list_all is_inner (unwrap_or (value_of bs) bs) ≡ true
behind_inner (a ∷ (b ∷ (c ∷ x))) h =
    elim (cases_Bool (a == byte "v" && b == byte "_")) [
      | inl t ↦ rw t (and_right (is_inner b) (list_all is_inner (c ∷ x)) (and_right (is_inner a) (list_all is_inner (b ∷ c ∷ x)) h))
      | inr f ↦ rw f h
    ]
behind_inner _ h = h

initial_inner : (c : ℕ) → is_initial c ≡ true → is_inner c ≡ true
initial_inner c h = grind (arith, h)

inner_of_name : (x : Name) → is_name x ≡ true → list_all is_inner x ≡ true
unfolding is_name
inner_of_name [] h = refl
inner_of_name (c ∷ cs) h =
    let w : (is_initial c && list_all is_inner cs) ≡ true = and_left (is_word (c ∷ cs)) (not (is_keyword (c ∷ cs))) h in
    and_from (is_inner c) (list_all is_inner cs) (initial_inner c (and_left (is_initial c) (list_all is_inner cs) w)) (and_right (is_initial c) (list_all is_inner cs) w)

tag_text_named : (x : Name) → list_all is_inner x ≡ true → is_name (tag_name x) ≡ true
unfolding is_name
tag_text_named x h = rw h refl

tag_named : (x : Name) → is_name x ≡ true → is_name (name_of_tag x) ≡ true
unfolding name_of_tag
tag_named x h = tag_text_named (unwrap_or (value_of x) x) (behind_inner x (inner_of_name x h))

pub all_named : (xs : List Name) → AllByRecursion (λ x. is_name x ≡ true) xs → AllByRecursion (λ x. is_name x ≡ true) (with_tags xs)
all_named [] a = tt
all_named (x ∷ xs) a = (a.0, (tag_named x a.0, all_named xs a.1))

pub helpers_named : (helping : ℕ → Name) (w : ℕ) (n : Net) → Setting helping w n → AllByRecursion (λ x. is_name x ≡ true) (helping_names helping n)
helpers_named helping w n s =
    each_among (λ x. is_name x ≡ true) (helping_names helping n)
    (λ x m. let r = numbered helping 0 (help_count n) x m in subst (λ (y : Name). is_name y ≡ true) (sym r.3) (s.names.named r.0 (omega (arith, r.2))))

-- a helping name is no other
pub helper_is_free : (helping : ℕ → Name) (w : ℕ) (n : Net) → Setting helping w n → (x : Name) → is_among x (helping_names helping n) ≡ true
    → is_among x (with_tags n.names) ≡ false
helper_is_free helping w n s x m =
    let r = numbered helping 0 (help_count n) x m in
    subst (λ (y : Name). is_among y (with_tags n.names) ≡ false) (sym r.3) (help_free helping w n s r.0)

pub names_are_distinct : (helping : ℕ → Name) (w : ℕ) (n : Net) → Setting helping w n → AreDistinct (with_tags n.names ++ helping_names helping n)
names_are_distinct helping w n s =
    distinct_both (with_tags n.names) (helping_names helping n) s.room.distinct (numbers_distinct helping s.names.apart 0 (help_count n))
    (λ x m. elim (cases_Bool (is_among x (helping_names helping n))) [
      | inl t ↦ (let e = helper_is_free helping w n s x t in absurd (cc))
      | inr f ↦ f
    ])

-- who is declared

pub tagged_input_names : (w : ℕ) (is : List Input) → map (λ i. i.name) (tagged_inputs w is) ≡ with_tags (map (λ i. i.name) is)
tagged_input_names w [] = refl
tagged_input_names w (i ∷ is) = ap (λ ns. i.name ∷ name_of_tag i.name ∷ ns) (tagged_input_names w is)

memory_tag_names : (helping : ℕ → Name) (w k : ℕ) (ms : List Memory) → names_in (memory_tags helping w k ms) ≡ map name_of_tag (map (λ m. m.name) ms)
memory_tag_names helping w k [] = refl
memory_tag_names helping w k (m ∷ ms) = ap (λ ns. name_of_tag m.name ∷ ns) (memory_tag_names helping w (k + 4) ms)

tagged_register_names : (helping : ℕ → Name) (w k : ℕ) (rs : List Register) (ms : List Memory)
    → names_in (tagged_registers w rs ++ memory_tags helping w k ms) ≡ with_tags (map (λ r. r.name) rs) ++ map name_of_tag (map (λ m. m.name) ms)
tagged_register_names helping w k [] ms = memory_tag_names helping w k ms
tagged_register_names helping w k (r ∷ rs) ms = ap (λ ns. r.name ∷ name_of_tag r.name ∷ ns) (tagged_register_names helping w k rs ms)

-- the names of all registers, in any order
pub unordered_names : (helping : ℕ → Name) (w : ℕ) (n : Net) → names_in (all_registers helping w n) ≡ with_tags (register_names n) ++ map name_of_tag (memory_names n)
unordered_names helping w n = tagged_register_names helping w (help_for_wires n.wires) n.registers n.memories

tag_of_declared : (n : Net) (xs : List Name) → AllAmong xs n.names → (x : Name) → is_among x (map name_of_tag xs) ≡ true → is_among x (with_tags n.names) ≡ true
tag_of_declared n xs k x m =
    let r = of_whom x xs m in
    subst (λ (y : Name). is_among y (with_tags n.names) ≡ true) (sym r.2) (tag_with_tags (name_of_tag r.0) n.names (tag_among r.0 n.names (k r.0 r.1)))

pub follows : (a b : Bool) → (b ≡ true → a ≡ true) → (a && b) ≡ b
follows false true h = h refl
follows _ _ h = refl

pub all_registers_declared : (helping : ℕ → Name) (w : ℕ) (n : Net) → Setting helping w n → AllAmong (names_in (all_registers helping w n)) (with_tags n.names)
all_registers_declared helping w n s x m =
    let h : is_among x (with_tags (register_names n) ++ map name_of_tag (memory_names n)) ≡ true = sym (ap (is_among x) (unordered_names helping w n)) ∙ m in
    elim (or_cases (is_among x (with_tags (register_names n))) (is_among x (map name_of_tag (memory_names n)))
    (sym (among_append x (with_tags (register_names n)) (map name_of_tag (memory_names n))) ∙ h)) [
      | inl a ↦ elim (or_cases (is_among x (register_names n)) (is_among x (map name_of_tag (register_names n))) (sym (among_with_tags x (register_names n)) ∙ a)) [
        | inl b ↦ name_with_tags x n.names (registers_among n s.rules x b)
        | inr b ↦ tag_of_declared n (register_names n) (registers_among n s.rules) x b
      ]
      | inr b ↦ tag_of_declared n (memory_names n) (memories_among n s.rules) x b
    ]

pub ordered_registers : (helping : ℕ → Name) (w : ℕ) (n : Net) → Setting helping w n → (x : Name)
    → is_among x (register_names (tainted_by helping w n))
    ≡ ((is_among x (register_names n) || is_among x (map name_of_tag (register_names n))) || is_among x (map name_of_tag (memory_names n)))
ordered_registers helping w n s x =
    let rs = all_registers helping w n in
    let f = λ (y : Name). is_among y (names_in rs) in
    let both : is_among x (names_in (in_order (with_tags n.names) rs)) ≡ (is_among x (with_tags n.names) && is_among x (names_in rs)) =
    ap (is_among x) (ordered_names (with_tags n.names) rs) ∙ filter_among f (with_tags n.names) x in
    both
    ∙ follows (is_among x (with_tags n.names)) (is_among x (names_in rs)) (all_registers_declared helping w n s x)
    ∙ ap (is_among x) (unordered_names helping w n)
    ∙ among_append x (with_tags (register_names n)) (map name_of_tag (memory_names n))
    ∙ ap (λ b. b || is_among x (map name_of_tag (memory_names n))) (among_with_tags x (register_names n))
