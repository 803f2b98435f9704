-- A tainted netlist in the making, step by step.
use Rattle.sap_lemmas.proofs.Common.{◌≡◌, ◌<◌, ◌≤◌, ℕ, ◌+◌, suc, List, [], ◌∷◌, ◌++◌, length, drop, get_or, ap, ap₂, sym, ◌∙◌, refl, arith, append-nil, drop-cons, drop_past, append_assoc, length-append}
use Rattle.sap_maps.specs.Maps.{Name}
use Rattle.sap_net.specs.Net.{Net}
use Rattle.sap_net.specs.declared.parts.Wire.{Wire}
use Rattle.sap_net.specs.declared.parts.Register.{Register}
use Rattle.sap_net.specs.declared.parts.Memory.{Memory}
use Rattle.sap_build.specs.Writing.{grown, declared, assigned, registered, taken, IsFresh}
use Rattle.sap_build.proofs.Grown.{grown_twice, declared_grows, assigned_grows, registered_grows, wire_in_front}
use Rattle.sap_taint.specs.TagNames.{with_tags}
use Rattle.sap_taint_pass.specs.Tainted.{joins, joined, union, help_for, write_by, write_at, memory_tag}
use Rattle.sap_taint_pass.specs.Helping.{helping_name}
use Rattle.sap_taint_pass.specs.Helped.{help_from, Helped, Adds, AreWriteNames}
use Rattle.sap_taint_pass.proofs.Numbered.{numbers_both}
use Rattle.sap_taint_pass.proofs.NextName.{next_name}

-- lists by places

pub tail_of : {X : Type 0} (xs : List X) (k : ℕ) (x : X) → k < length xs → x ≡ get_or xs k x → drop k xs ≡ x ∷ drop (k + 1) xs
tail_of xs k x l e =
    let s : suc k ≡ k + 1 = omega arith in
    drop-cons xs k x l ∙ ap₂ (λ y ys. y ∷ ys) (sym e) (ap (λ j. drop j xs) s)

pub nothing_left : {X : Type 0} (xs : List X) (k : ℕ) → length xs ≤ k → drop k xs ≡ []
nothing_left xs k l = drop_past xs k l

-- more helping wires

pub help_both : (n : Net) (k a b : ℕ) → help_from n k (a + b) ≡ help_from n k a ++ help_from n (k + a) b
help_both n k a b = numbers_both (helping_name n) k a b

from_first : (n : Net) (k count : ℕ) → help_from n 0 (k + count) ≡ help_from n 0 k ++ help_from n k count
from_first n k count = let z : 0 + k ≡ k = omega arith in help_both n 0 k count ∙ ap (λ (j : ℕ). help_from n 0 k ++ help_from n j count) z

pub helped_more : (n : Net) (k count : ℕ) (ws : List Wire) (rs : List Register) (m m' : Net) → Helped n k m → Adds n k count ws rs m m' → Helped n (k + count) m'
helped_more n k count ws rs m m' h e =
    let names : m.names ++ help_from n k count ≡ with_tags n.names ++ help_from n 0 (k + count) =
    ap (λ (xs : List Name). xs ++ help_from n k count) h.names
    ∙ append_assoc (with_tags n.names) (help_from n 0 k) (help_from n k count)
    ∙ ap (λ (xs : List Name). with_tags n.names ++ xs) (sym (from_first n k count)) in
    record { module_named = ap (λ (x : Net). x.module_name) e ∙ h.module_named; names = ap (λ (x : Net). x.names) e ∙ names }

pub adds_more : (n : Net) (k a b : ℕ) (ws us : List Wire) (rs ss : List Register) (m m' : Net) → Adds n k a ws rs m m'
    → grown (help_from n (k + a) b) us ss m' ≡ grown (help_from n k (a + b)) (ws ++ us) (rs ++ ss) m
adds_more n k a b ws us rs ss m m' e =
    ap (grown (help_from n (k + a) b) us ss) e
    ∙ grown_twice (help_from n k a) (help_from n (k + a) b) ws us rs ss m
    ∙ ap (λ (xs : List Name). grown xs (ws ++ us) (rs ++ ss) m) (sym (help_both n k a b))

-- one helping wire

pub one_declared : (n : Net) (k : ℕ) (m m' : Net) (x : Name) → Helped n k m → IsFresh (taken m) x → m' ≡ declared x m → Adds n k 1 [] [] m m'
one_declared n k m m' x h f e =
    e ∙ ap (λ (y : Name). declared y m) (next_name n k m x h f) ∙ declared_grows (helping_name n k) m

-- four

pub record FourNames (n : Net) (k : ℕ) (m m' : Net) (a b c d : Name) : Type 0 where
  pub named : AreWriteNames (helping_name n) k a b c d
  pub adds : Adds n k 4 [] [] m m'

pub four : (n : Net) (k : ℕ) (m m1 m2 m3 m4 : Net) (a b c d : Name) → Helped n k m → IsFresh (taken m) a → m1 ≡ declared a m → IsFresh (taken m1) b → m2 ≡ declared b m1
    → IsFresh (taken m2) c → m3 ≡ declared c m2 → IsFresh (taken m3) d → m4 ≡ declared d m3 → FourNames n k m m4 a b c d
four n k m m1 m2 m3 m4 a b c d h fa ea fb eb fc ec fd ed =
    let p1 = one_declared n k m m1 a h fa ea in
    let h1 = helped_more n k 1 [] [] m m1 h p1 in
    let p2 = one_declared n (k + 1) m1 m2 b h1 fb eb in
    let q2 : Adds n k 2 [] [] m m2 = p2 ∙ adds_more n k 1 1 [] [] [] [] m m1 p1 in
    let h2 = helped_more n k 2 [] [] m m2 h q2 in
    let p3 = one_declared n (k + 2) m2 m3 c h2 fc ec in
    let q3 : Adds n k 3 [] [] m m3 = p3 ∙ adds_more n k 2 1 [] [] [] [] m m2 q2 in
    let h3 = helped_more n k 3 [] [] m m3 h q3 in
    let p4 = one_declared n (k + 3) m3 m4 d h3 fd ed in
    record {
      named =
          record { first = next_name n k m a h fa; second = next_name n (k + 1) m1 b h1 fb; third = next_name n (k + 2) m2 c h2 fc; fourth = next_name n (k + 3) m3 d h3 fd };
      adds = p4 ∙ adds_more n k 3 1 [] [] [] [] m m3 q3;
    }

-- names, then a register, then wires
pub all_added : (n : Net) (k count : ℕ) (ws : List Wire) (r : Register) (m m1 m2 m3 : Net) → Adds n k count [] [] m m1 → m2 ≡ registered r m1 → m3 ≡ grown [] ws [] m2
    → Adds n k count ws (r ∷ []) m m3
all_added n k count ws r m m1 m2 m3 e f g =
    let xs = help_from n k count in
    g
    ∙ ap (grown [] ws []) (f ∙ registered_grows r m1 ∙ ap (grown [] [] (r ∷ [])) e ∙ grown_twice xs [] [] [] [] (r ∷ []) m)
    ∙ grown_twice (xs ++ []) [] [] ws (r ∷ []) [] m
    ∙ ap (λ (ys : List Name). grown ys ws (r ∷ []) m) (append_assoc xs [] [] ∙ append-nil xs)

pub named_writes : (helping : ℕ → Name) (k w : ℕ) (x : Memory) (kept new chosen all : Name) (xs : List Name) (m : Net) → AreWriteNames helping k kept new chosen all
    → grown xs (write_by w x kept new chosen all) (memory_tag w x all ∷ []) m ≡ grown xs (write_at helping w k x) (memory_tag w x (helping (k + 3)) ∷ []) m
named_writes helping k w x kept new chosen all xs m a =
    ap₂ (λ (p q : Name). grown xs (write_by w x p q chosen all) (memory_tag w x all ∷ []) m) a.first a.second
    ∙ ap₂ (λ (p q : Name). grown xs (write_by w x (helping k) (helping (k + 1)) p q) (memory_tag w x q ∷ []) m) a.third a.fourth

-- unions, wire by wire

join_more : (helping : ℕ → Name) (w k : ℕ) (x t a last : Name) (ts : List Name)
    → joins helping w k x t (a ∷ (ts ++ last ∷ [])) ≡ union w (helping k) t a ∷ joins helping w (k + 1) x (helping k) (ts ++ last ∷ [])
join_more helping w k x t a last [] = refl
join_more helping w k x t a last (b ∷ ts) = refl

pub union_more : (n : Net) (k w : ℕ) (m m1 m2 : Net) (next so_far tag : Name) (wire : Wire) → Helped n k m → IsFresh (taken m) next → m1 ≡ declared next m
    → wire ≡ union w next so_far tag → m2 ≡ assigned wire m1
    → m2 ≡ assigned (union w (helping_name n k) so_far tag) (declared (helping_name n k) m)
union_more n k w m m1 m2 next so_far tag wire h f e is g =
    let same = next_name n k m next h f in
    g ∙ ap₂ assigned (is ∙ ap (λ (y : Name). union w y so_far tag) same) (e ∙ ap (λ (y : Name). declared y m) same)

pub helped_union : (n : Net) (k : ℕ) (m m' : Net) (wire : Wire) → Helped n k m → m' ≡ assigned wire (declared (helping_name n k) m) → Helped n (k + 1) m'
helped_union n k m m' wire h e =
    let adds : Adds n k 1 (wire ∷ []) [] m (grown (help_from n k 1) (wire ∷ []) [] m) = refl in
    let g = helped_more n k 1 (wire ∷ []) [] m (grown (help_from n k 1) (wire ∷ []) [] m) h adds in
    record { module_named = ap (λ (x : Net). x.module_name) e ∙ g.module_named; names = ap (λ (x : Net). x.names) e ∙ g.names }

pub joins_step : (n : Net) (k w : ℕ) (m m' : Net) (so_far shown tag x last : Name) (rest ts : List Name)
    → m' ≡ assigned (union w (helping_name n k) so_far tag) (declared (helping_name n k) m) → shown ≡ helping_name n k → rest ≡ tag ∷ ts
    → grown (help_from n (k + 1) (length ts)) (joins (helping_name n) w (k + 1) x shown (ts ++ last ∷ [])) [] m'
    ≡ grown (help_from n k (length rest)) (joins (helping_name n) w k x so_far (rest ++ last ∷ [])) [] m
joins_step n k w m m' so_far shown tag x last rest ts e s parts =
    let u = union w (helping_name n k) so_far tag in
    let xs = help_from n (k + 1) (length ts) in
    ap₂ (λ (y : Name) (z : Net). grown xs (joins (helping_name n) w (k + 1) x y (ts ++ last ∷ [])) [] z) s e
    ∙ wire_in_front (helping_name n k) u xs (joins (helping_name n) w (k + 1) x (helping_name n k) (ts ++ last ∷ [])) m
    ∙ ap (λ (ws : List Wire). grown (help_from n k (suc (length ts))) ws [] m) (sym (join_more (helping_name n) w k x so_far tag last ts))
    ∙ ap (λ (ys : List Name). grown (help_from n k (length ys)) (joins (helping_name n) w k x so_far (ys ++ last ∷ [])) [] m) (sym parts)

help_between : (first last : Name) (others : List Name) → length others ≡ help_for (first ∷ (others ++ last ∷ []))
help_between first last [] = refl
help_between first last (a ∷ ts) = omega (arith, length-append ts (last ∷ []))

-- joins of tags by their first and last
pub joined_ends : (n : Net) (k w : ℕ) (m m' : Net) (x first last : Name) (tags others : List Name) → tags ≡ first ∷ (others ++ last ∷ [])
    → Adds n k (length others) (joins (helping_name n) w k x first (others ++ last ∷ [])) [] m m'
    → Adds n k (help_for tags) (joined (helping_name n) w k x tags) [] m m'
joined_ends n k w m m' x first last tags others e p =
    p
    ∙ ap (λ (j : ℕ). grown (help_from n k j) (joins (helping_name n) w k x first (others ++ last ∷ [])) [] m) (help_between first last others)
    ∙ ap (λ (ts : List Name). grown (help_from n k (help_for ts)) (joined (helping_name n) w k x ts) [] m) (sym e)

-- and of one or none
pub joined_alone : (n : Net) (k w : ℕ) (m m' : Net) (x : Name) (tags : List Name) (wire : Wire) → help_for tags ≡ 0 → joined (helping_name n) w k x tags ≡ wire ∷ []
    → m' ≡ assigned wire m → Adds n k (help_for tags) (joined (helping_name n) w k x tags) [] m m'
joined_alone n k w m m' x tags wire none one e =
    e ∙ assigned_grows wire m ∙ ap₂ (λ (j : ℕ) (ws : List Wire). grown (help_from n k j) ws [] m) (sym none) (sym one)
