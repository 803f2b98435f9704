-- The tainted netlist has few items.
use Rattle.sap_lemmas.proofs.Common.{◌≡◌, ◌≤◌, ◌+◌, ◌*◌, ℕ, suc, Bool, List, [], ◌∷◌, ◌++◌, length, filter, true, false, ◌||◌, ap, sym, ◌∙◌, refl, inl, inr, arith, bytes_eq, cases_Bool, length-append, length-map, equal_of_bytes_eq}
use Rattle.sap_maps.specs.Maps.{Name}
use Rattle.sap_net.specs.Prelude.{Net, is_among, AreDistinct}
use Rattle.sap_net.specs.declared.parts.Operand.{Operand}
use Rattle.sap_net.specs.declared.parts.Operand.TheVariants.{Named, Constant}
use Rattle.sap_net.specs.declared.parts.Right.{Right}
use Rattle.sap_net.specs.declared.parts.Right.TheVariants.{Copy, One, Two, Choose, Concat, Slice, Cell}
use Rattle.sap_net.specs.declared.parts.Wire.{Wire}
use Rattle.sap_net.specs.declared.parts.Register.{Register}
use Rattle.sap_net.specs.declared.parts.Memory.{Memory}
use Rattle.sap_taint.specs.TagNames.{name_of_tag, with_tags}
use Rattle.sap_taint_pass.specs.Tainted.{operands_of, tags_of, joins, joined, help_for, tag_wires, write_wires, memory_tags, tagged_registers, help_for_wires, all_wires, all_registers, in_order}
use Rattle.sap_taint_pass.specs.Helping.{helping_name}
use Rattle.sap_taint_pass.specs.Small.{concatenated, all_concatenated, TaintedIsSmall}
use Rattle.sap_taint_pass.proofs.Filters.{filter_none}
use Rattle.sap_taint_pass.proofs.InOrder.{names_in, ordered_names}

-- wires

joins_count : (helping : ℕ → Name) (w k : ℕ) (x t : Name) (ts : List Name) → length (joins helping w k x t ts) ≡ 1 + help_for (t ∷ ts)
joins_count helping w k x t (a ∷ (b ∷ (c ∷ ts))) = omega (arith, joins_count helping w (k + 1) x (helping k) (b ∷ (c ∷ ts)))
joins_count helping w k x t _ = refl

joined_count : (helping : ℕ → Name) (w k : ℕ) (x : Name) (ts : List Name) → length (joined helping w k x ts) ≡ 1 + help_for ts
joined_count helping w k x [] = refl
joined_count helping w k x (t ∷ ts) = joins_count helping w k x t ts

tags_fewer : (os : List Operand) → length (tags_of os) ≤ length os
tags_fewer [] = omega arith
tags_fewer (Named x ∷ os) = omega (arith, tags_fewer os)
tags_fewer (Constant u n ∷ os) = omega (arith, tags_fewer os)

help_fewer : (ts : List Name) → help_for ts ≤ length ts
help_fewer [] = omega arith
help_fewer (a ∷ []) = omega arith
help_fewer (a ∷ (b ∷ ts)) = omega arith

one_at_three : (ts : List Name) → length ts ≤ 3 → help_for ts ≤ 1
one_at_three [] l = omega arith
one_at_three (a ∷ []) l = omega arith
one_at_three (a ∷ (b ∷ ts)) l = omega arith

one_for : (os : List Operand) → length os ≤ 3 → help_for (tags_of os) ≤ 1
one_for os l = one_at_three (tags_of os) (omega (arith, l, tags_fewer os))

few_for : (right : Right) → help_for (tags_of (operands_of right)) ≤ 1 + concatenated right
few_for (Copy a) = one_for (a ∷ []) (omega arith)
few_for (One op a) = one_for (a ∷ []) (omega arith)
few_for (Two op a b) = one_for (a ∷ b ∷ []) (omega arith)
few_for (Choose c a b) = one_for (c ∷ a ∷ b ∷ []) (omega arith)
few_for (Concat os) = omega (arith, help_fewer (tags_of os), tags_fewer os)
few_for (Slice x hi lo) = one_for (Named x ∷ []) (omega arith)
few_for (Cell m i) = one_for (Named m ∷ i ∷ []) (omega arith)

tag_wires_count : (helping : ℕ → Name) (w k : ℕ) (xs : List Wire) → length (tag_wires helping w k xs) ≤ 2 * length xs + all_concatenated xs
tag_wires_count helping w k [] = omega arith
tag_wires_count helping w k (x ∷ xs) =
    let ts = tags_of (operands_of x.right) in
    let own = joined helping w k (name_of_tag x.name) ts in
    let rest = tag_wires helping w (k + help_for ts) xs in
    omega (arith, length-append own rest, joined_count helping w k (name_of_tag x.name) ts, few_for x.right, tag_wires_count helping w (k + help_for ts) xs)

write_wires_count : (helping : ℕ → Name) (w k : ℕ) (ms : List Memory) → length (write_wires helping w k ms) ≡ 4 * length ms
write_wires_count helping w k [] = refl
write_wires_count helping w k (m ∷ ms) = omega (arith, write_wires_count helping w (k + 4) ms)

wires_count : (helping : ℕ → Name) (w : ℕ) (n : Net) → length (all_wires helping w n) ≤ 3 * length n.wires + all_concatenated n.wires + 4 * length n.memories
wires_count helping w n =
    let k = help_for_wires n.wires in
    let tags = tag_wires helping w 0 n.wires in
    let writes = write_wires helping w k n.memories in
    omega (arith, length-append n.wires (tags ++ writes), length-append tags writes, tag_wires_count helping w 0 n.wires, write_wires_count helping w k n.memories)

-- registers

tagged_count : (w : ℕ) (rs : List Register) → length (tagged_registers w rs) ≡ 2 * length rs
tagged_count w [] = refl
tagged_count w (r ∷ rs) = omega (arith, tagged_count w rs)

memory_tags_count : (helping : ℕ → Name) (w k : ℕ) (ms : List Memory) → length (memory_tags helping w k ms) ≡ length ms
memory_tags_count helping w k [] = refl
memory_tags_count helping w k (m ∷ ms) = ap suc (memory_tags_count helping w (k + 4) ms)

registers_count : (helping : ℕ → Name) (w : ℕ) (n : Net) → length (all_registers helping w n) ≡ 2 * length n.registers + length n.memories
registers_count helping w n =
    let k = help_for_wires n.wires in
    let rs = tagged_registers w n.registers in
    let ms = memory_tags helping w k n.memories in
    omega (arith, length-append rs ms, tagged_count w n.registers, memory_tags_count helping w k n.memories)

-- a name is once at most among names that are distinct
once : (y : Name) (xs : List Name) → AreDistinct xs → length (filter (λ x. bytes_eq x y) xs) ≤ 1
once y [] d = omega arith
once y (x ∷ xs) d =
    elim (cases_Bool (bytes_eq x y)) [
      | inl t ↦ (
          let none : filter (λ z. bytes_eq z y) xs ≡ [] =
          filter_none (λ z. bytes_eq z y) xs
          (λ z m. elim (cases_Bool (bytes_eq z y)) [
            | inl s ↦ (
                let e : z ≡ x = equal_of_bytes_eq z y s ∙ sym (equal_of_bytes_eq x y t) in
                let there : is_among x xs ≡ true = sym (ap (λ q. is_among q xs) e) ∙ m in
                let not_there : is_among x xs ≡ false = d.0 in
                absurd (cc))
            | inr f ↦ f
          ]) in
          rw t (let l = ap length none in omega (arith, l)))
      | inr f ↦ rw f (once y xs d.1)
    ]

both_fewer : (f g : Name → Bool) (xs : List Name) → length (filter (λ x. f x || g x) xs) ≤ length (filter f xs) + length (filter g xs)
both_fewer f g [] = omega arith
both_fewer f g (x ∷ xs) =
    let rest = both_fewer f g xs in
    elim (cases_Bool (f x)) [
      | inl t ↦ elim (cases_Bool (g x)) [ inl u ↦ rw (t, u) (omega (arith, rest)) | inr u ↦ rw (t, u) (omega (arith, rest)) ]
      | inr t ↦ elim (cases_Bool (g x)) [ inl u ↦ rw (t, u) (omega (arith, rest)) | inr u ↦ rw (t, u) (omega (arith, rest)) ]
    ]

-- as many of them as there are names
as_many : (xs ys : List Name) → AreDistinct xs → length (filter (λ x. is_among x ys) xs) ≤ length ys
as_many xs [] d = let l = ap length (filter_none (λ x. false) xs (λ y m. refl)) in omega (arith, l)
as_many xs (y ∷ ys) d = omega (arith, both_fewer (λ x. bytes_eq x y) (λ x. is_among x ys) xs, once y xs d, as_many xs ys d)

ordered_count : (xs : List Name) (rs : List Register) → AreDistinct xs → length (in_order xs rs) ≤ length rs
ordered_count xs rs d =
    let made = in_order xs rs in
    let a : length (names_in made) ≡ length made = length-map made (λ (r : Register). r.name) in
    let b : length (names_in rs) ≡ length rs = length-map rs (λ (r : Register). r.name) in
    omega (arith, a, b, ap length (ordered_names xs rs), as_many xs (names_in rs) d)

pub is_small : TaintedIsSmall
is_small w n room =
    let helping = helping_name n in
    let rs = all_registers helping w n in
    omega (arith, wires_count helping w n, registers_count helping w n, ordered_count (with_tags n.names) rs room.distinct)
