-- The names of a netlist with a design's interface, behind the name of a part.
use Rattle.sap_lemmas.proofs.Common.{◌≡◌, ◌<◌, ◌≤◌, ◌⊎◌, ℕ, zero, suc, Bool, true, false, not, List, [], ◌∷◌, ◌++◌, length, refl, sym, subst, inl, inr, arith, ◌==◌, ◌&&◌, ◌/◌, ◌%◌, codes, decimal, byte, bytes_eq, AllByRecursion, list_all, and_from, and_parts, cases_Bool, and_false, equal_of_bytes_eq}
use Rattle.std.specs.Fmt.{digits_onto, digit_glyph, digits}
use Rattle.sap_maps.specs.Maps.{Name}
use Rattle.sap_net.specs.Names.{helper, is_among, is_initial, is_inner, is_keyword, is_name, is_word, keywords, IsHelpingName}
use Rattle.sap_net.proofs.NamesLemmas.{among_each}
use Rattle.sap_interface.specs.Prelude.{Named, IsInterfaceName, value_of, tag_of, state_tag_of, child_of, child_of_root, refusal_of, level_of}
use Rattle.sap_linked.specs.Prelude.{in_part, has_no_underscore, PartsKeepApart}
use Rattle.sap_linked.proofs.Apart.{stay_apart}
use Rattle.sap_linked.proofs.Own.{both}

-- ---- two bytes or more

interface_long : (d : Named) (sites : ℕ) (x : Name) → IsInterfaceName d sites x → 2 ≤ length x
interface_long d sites _ (value_of x h) = omega arith
interface_long d sites _ (tag_of x h) = omega arith
interface_long d sites _ (state_tag_of x h l) = omega arith
interface_long d sites _ (child_of p l c) = omega arith
interface_long d sites _ child_of_root = omega arith
interface_long d sites _ (refusal_of j i l) = omega arith
interface_long d sites _ (level_of j i l) = omega arith

some_more : (k n : ℕ) (ds : List ℕ) → 0 < length ds → 0 < length (digits_onto k 10 false n ds)
some_more zero n ds h = h
some_more (suc k) n ds h =
    elim (cases_Bool (n / 10 == 0)) [
      | inl t ↦ rw t (omega arith)
      | inr q ↦ rw q (some_more k (n / 10) (digit_glyph false (n % 10) ∷ ds) (omega arith))
    ]

some_digits : (n : ℕ) → 0 < length (decimal n)
unfolding digits
some_digits n =
    elim (cases_Bool (n / 10 == 0)) [
      | inl t ↦ rw t (omega arith)
      | inr q ↦ rw q (some_more 63 (n / 10) (digit_glyph false (n % 10) ∷ []) (omega arith))
    ]

helper_long : (x : Name) → IsHelpingName x → 2 ≤ length x
unfolding helper
helper_long x h = let some = some_digits h.0 in let long : 2 ≤ length (helper h.0) = omega (arith, some) in subst (λ (y : Name). 2 ≤ length y) (sym h.1) long

pub either_long : (d : Named) (sites : ℕ) (x : Name) → IsInterfaceName d sites x ⊎ IsHelpingName x → 2 ≤ length x
either_long d sites x (inl is) = interface_long d sites x is
either_long d sites x (inr is) = helper_long x is

-- ---- names that a module can have

all_both : (f : ℕ → Bool) (xs ys : Name) → list_all f xs ≡ true → list_all f ys ≡ true → list_all f (xs ++ ys) ≡ true
all_both f [] ys a b = b
all_both f (x ∷ xs) ys a b = let p = and_parts (f x) (list_all f xs) a in and_from (f x) (list_all f (xs ++ ys)) p.0 (all_both f xs ys p.1 b)

with_underscore : (part x : Name) → has_no_underscore (part ++ (codes "_" ++ x)) ≡ false
with_underscore [] x = refl
with_underscore (b ∷ part) x = rw (with_underscore part x) (and_false (not (b == byte "_")))

no_keyword : (z : Name) (ks : List Name) → AllByRecursion (λ k. has_no_underscore k ≡ true) ks → has_no_underscore z ≡ false → is_among z ks ≡ false
no_keyword z [] a h = refl
no_keyword z (k ∷ ks) a h =
    elim (cases_Bool (bytes_eq z k)) [
      | inl t ↦ absurd (let same = equal_of_bytes_eq z k t in
          let no : has_no_underscore k ≡ false = subst (λ (y : Name). has_no_underscore y ≡ false) same h in let yes = a.0 in cc)
      | inr q ↦ rw q (no_keyword z ks a.1 h)
    ]

keywords_whole : AllByRecursion (λ k. has_no_underscore k ≡ true) keywords
keywords_whole = (refl, (refl, (refl, (refl, (refl, (refl, (refl, (refl, (refl, (refl, (refl, (refl, (refl, (refl, (refl, tt)))))))))))))))

not_true : (b : Bool) → b ≡ false → not b ≡ true
not_true b h = rw h refl

pub in_part_named : (part : Name) (a b : ℕ) (x : Name) → list_all is_inner part ≡ true → is_word (a ∷ (b ∷ x)) ≡ true → is_name (in_part part (a ∷ (b ∷ x))) ≡ true
unfolding is_name
in_part_named part a b x inner word =
    let first = and_parts (is_initial a) (is_inner b && list_all is_inner x) word in
    let second = and_parts (is_inner b) (list_all is_inner x) first.1 in
    let z = part ++ (codes "_" ++ x) in
    let rest : list_all is_inner z ≡ true = all_both is_inner part (codes "_" ++ x) inner (and_from (is_inner (byte "_")) (list_all is_inner x) refl second.1) in
    let under : has_no_underscore (a ∷ (b ∷ z)) ≡ false = rw (with_underscore part x) (rw (and_false (not (b == byte "_"))) (and_false (not (a == byte "_")))) in
    and_from (is_word (a ∷ (b ∷ z))) (not (is_keyword (a ∷ (b ∷ z))))
    (and_from (is_initial a) (is_inner b && list_all is_inner z) first.0 (and_from (is_inner b) (list_all is_inner z) second.0 rest))
    (not_true (is_keyword (a ∷ (b ∷ z))) (no_keyword (a ∷ (b ∷ z)) keywords keywords_whole under))

long_named : (part x : Name) → list_all is_inner part ≡ true → 2 ≤ length x → is_name x ≡ true → is_name (in_part part x) ≡ true
unfolding is_name
long_named part [] inner long named = absurd (omega (arith, long))
long_named part (a ∷ []) inner long named = absurd (omega (arith, long))
long_named part (a ∷ (b ∷ x)) inner long named = in_part_named part a b x inner (and_parts (is_word (a ∷ (b ∷ x))) (not (is_keyword (a ∷ (b ∷ x)))) named).0

pub parts_keep_apart : PartsKeepApart
parts_keep_apart part d tag sites n none inner rules interface =
    let long = among_each (λ x. IsInterfaceName d sites x ⊎ IsHelpingName x) n.names interface.names in
    record {
      apart = λ x y hx hy e. (stay_apart part part x y none none (either_long d sites x (long x hx)) (either_long d sites y (long y hy)) e).1;
      named =
          both (λ (x : Name). IsInterfaceName d sites x ⊎ IsHelpingName x) (λ x. is_name x ≡ true) (λ x. is_name (in_part part x) ≡ true) n.names
          (λ x is named. long_named part x inner (either_long d sites x is) named) interface.names rules.named;
    }
