-- All rules of netlists, for the netlist of a program.
use Rattle.sap_lemmas.proofs.Common.{◌≡◌, ◌&&◌, ◌||◌, List, [], ◌∷◌, ◌++◌, map, filter, take, length, Bool, true, false, not, sym, ap, ap₂, ◌∙◌, refl, inl, inr, cases_Bool, and_false, and_left, append-nil}
use Rattle.sap_lemmas.proofs.Lists.{tail_equal}
use Rattle.sap_net.proofs.NamesLemmas.{among_append, among_neither, distinct_both, each_among}
use Rattle.sap_maps.specs.Maps.{Name}
use Rattle.sap_net.specs.Prelude.{is_among, AreDistinct, is_input}
use Rattle.sap_net.specs.declared.parts.Port.{Port}
use Rattle.sap_ir.specs.IsGuarded.{variable_names}
use Rattle.sap_ir.specs.declared.guarded.Var.{Var}
use Rattle.sap_lower.specs.Lowered.{input_port, port_shown, unported}
use Rattle.sap_lower.proofs.Declares.{unported_among, filter_append, filter_none, filter_all, unported_distinct}

-- What is known of the names: the inputs I, registers R, wires W and memories M of a program, its ports P, and all wires A of its netlist.
pub record Kinds (I R W M P A : List Name) : Type 0 where
  pub inputs : AreDistinct I
  pub registers : AreDistinct R
  pub memories : AreDistinct M
  pub ports : AreDistinct P
  pub wires : AreDistinct A
  pub port_is : (n : Name) → is_among n P ≡ true → (is_among n R || is_among n A) ≡ true
  pub port_no_input : (n : Name) → is_among n P ≡ true → is_among n I ≡ false
  pub port_no_memory : (n : Name) → is_among n P ≡ true → is_among n M ≡ false
  pub register_no_input : (n : Name) → is_among n R ≡ true → is_among n I ≡ false
  pub register_no_memory : (n : Name) → is_among n R ≡ true → is_among n M ≡ false
  pub memory_no_input : (n : Name) → is_among n M ≡ true → is_among n I ≡ false
  pub wire_no_input : (n : Name) → is_among n A ≡ true → is_among n I ≡ false
  pub wire_no_register : (n : Name) → is_among n A ≡ true → is_among n R ≡ false
  pub wire_no_memory : (n : Name) → is_among n A ≡ true → is_among n M ≡ false

abbrev pub all_names : (I R M P A : List Name) → List Name
all_names I R M P A = I ++ (P ++ (unported P A ++ (unported P R ++ M)))

-- where the first holds the second doesn't, turned round
turned : (a b : Bool) → (a ≡ true → b ≡ false) → b ≡ true → a ≡ false
turned true b h t = absurd (let e = h refl in cc)
turned false b h t = refl

pub of_unported : (P xs : List Name) (n : Name) → is_among n (unported P xs) ≡ true → is_among n xs ≡ true
of_unported P xs n h = and_left (is_among n xs) (not (is_among n P)) (sym (unported_among P xs n) ∙ h)

no_unported : (P xs : List Name) (n : Name) → is_among n xs ≡ false → is_among n (unported P xs) ≡ false
no_unported P xs n h = unported_among P xs n ∙ rw h refl

port_unported : (P xs : List Name) (n : Name) → is_among n P ≡ true → is_among n (unported P xs) ≡ false
port_unported P xs n h = unported_among P xs n ∙ rw h (and_false (is_among n xs))

pub names_distinct : (I R W M P A : List Name) → Kinds I R W M P A → AreDistinct (all_names I R M P A)
names_distinct I R W M P A k =
    let FA = unported P A in
    let FR = unported P R in
    let d1 = distinct_both FR M (unported_distinct P R k.registers) k.memories (λ n h. k.register_no_memory n (of_unported P R n h)) in
    let d2 = distinct_both FA (FR ++ M) (unported_distinct P A k.wires) d1
    (λ n h. let a = of_unported P A n h in among_neither n FR M (no_unported P R n (k.wire_no_register n a)) (k.wire_no_memory n a)) in
    let d3 = distinct_both P (FA ++ (FR ++ M)) k.ports d2
    (λ n h. among_neither n FA (FR ++ M) (port_unported P A n h) (among_neither n FR M (port_unported P R n h) (k.port_no_memory n h))) in
    distinct_both I (P ++ (FA ++ (FR ++ M))) k.inputs d3
    (λ n h. among_neither n P (FA ++ (FR ++ M)) (turned (is_among n P) (is_among n I) (k.port_no_input n) h)
    (among_neither n FA (FR ++ M) (no_unported P A n (turned (is_among n A) (is_among n I) (k.wire_no_input n) h))
    (among_neither n FR M (no_unported P R n (turned (is_among n R) (is_among n I) (k.register_no_input n) h)) (turned (is_among n M) (is_among n I) (k.memory_no_input n) h))))

same_either : (i p a r m : Bool) → (p ≡ true → (r || a) ≡ true) → (i || (p || ((a && not p) || ((r && not p) || m)))) ≡ (((i || a) || r) || m)
same_either true p a r m h = refl
same_either false true true r m h = refl
same_either false true false true m h = refl
same_either false true false false m h = absurd (let e = h refl in cc)
same_either false false true r m h = refl
same_either false false false true m h = refl
same_either false false false false m h = refl

pub names_among : (I R W M P A : List Name) → Kinds I R W M P A → (n : Name) → is_among n (all_names I R M P A) ≡ (((is_among n I || is_among n A) || is_among n R) || is_among n M)
names_among I R W M P A k n =
    let FA = unported P A in
    let FR = unported P R in
    among_append n I (P ++ (FA ++ (FR ++ M)))
    ∙ ap (λ (b : Bool). is_among n I || b) (among_append n P (FA ++ (FR ++ M))
    ∙ ap (λ (b : Bool). is_among n P || b) (among_append n FA (FR ++ M)
    ∙ ap₂ (λ (x y : Bool). x || y) (unported_among P A n) (among_append n FR M ∙ ap (λ (b : Bool). b || is_among n M) (unported_among P R n))))
    ∙ same_either (is_among n I) (is_among n P) (is_among n A) (is_among n R) (is_among n M) (k.port_is n)

pub registers_ordered : (I R W M P A : List Name) → Kinds I R W M P A → filter (λ x. is_among x R) (all_names I R M P A) ≡ filter (λ x. is_among x R) P ++ unported P R
registers_ordered I R W M P A k =
    let f : Name → Bool = λ (x : Name). is_among x R in
    let FA = unported P A in
    let FR = unported P R in
    let i = filter_none f I (each_among (λ x. f x ≡ false) I (λ n h. turned (is_among n R) (is_among n I) (k.register_no_input n) h)) in
    let a = filter_none f FA (each_among (λ x. f x ≡ false) FA (λ n h. k.wire_no_register n (of_unported P A n h))) in
    let r = filter_all f FR (each_among (λ x. f x ≡ true) FR (λ n h. of_unported P R n h)) in
    let m = filter_none f M (each_among (λ x. f x ≡ false) M (λ n h. turned (is_among n R) (is_among n M) (k.register_no_memory n) h)) in
    filter_append f I (P ++ (FA ++ (FR ++ M)))
    ∙ ap₂ (λ (x y : List Name). x ++ y) i (filter_append f P (FA ++ (FR ++ M))
    ∙ ap (λ (y : List Name). filter f P ++ y) (filter_append f FA (FR ++ M)
    ∙ ap₂ (λ (x y : List Name). x ++ y) a (filter_append f FR M ∙ ap₂ (λ (x y : List Name). x ++ y) r m ∙ append-nil FR)))

pub memories_ordered : (I R W M P A : List Name) → Kinds I R W M P A → filter (λ x. is_among x M) (all_names I R M P A) ≡ M
memories_ordered I R W M P A k =
    let f : Name → Bool = λ (x : Name). is_among x M in
    let FA = unported P A in
    let FR = unported P R in
    let i = filter_none f I (each_among (λ x. f x ≡ false) I (λ n h. turned (is_among n M) (is_among n I) (k.memory_no_input n) h)) in
    let p = filter_none f P (each_among (λ x. f x ≡ false) P (λ n h. k.port_no_memory n h)) in
    let a = filter_none f FA (each_among (λ x. f x ≡ false) FA (λ n h. k.wire_no_memory n (of_unported P A n h))) in
    let r = filter_none f FR (each_among (λ x. f x ≡ false) FR (λ n h. k.register_no_memory n (of_unported P R n h))) in
    let m = filter_all f M (each_among (λ x. f x ≡ true) M (λ n h. h)) in
    filter_append f I (P ++ (FA ++ (FR ++ M)))
    ∙ ap₂ (λ (x y : List Name). x ++ y) i (filter_append f P (FA ++ (FR ++ M))
    ∙ ap₂ (λ (x y : List Name). x ++ y) p (filter_append f FA (FR ++ M) ∙ ap₂ (λ (x y : List Name). x ++ y) a (filter_append f FR M ∙ ap₂ (λ (x y : List Name). x ++ y) r m)))

-- ports

pub take_front : (xs : List Port) (ys zs : List Name) → map (λ (p : Port). p.name) xs ≡ ys → ys ≡ take (length xs) (ys ++ zs)
take_front [] [] zs h = refl
take_front (x ∷ xs) (y ∷ ys) zs h = ap (λ (ns : List Name). y ∷ ns) (take_front xs ys zs (tail_equal x.name y (map (λ (p : Port). p.name) xs) ys h))
take_front _ _ zs h = absurd (cc)

no_inputs : (rs : List Var) (ps : List Name) → map (λ (p : Port). p.name) (filter (λ (p : Port). is_input p.kind) (map (port_shown rs) ps)) ≡ []
no_inputs rs [] = refl
no_inputs rs (p ∷ ps) =
    elim (cases_Bool (is_among p (variable_names rs))) [ inl t ↦ rw t (no_inputs rs ps) | inr f ↦ rw f (no_inputs rs ps) ]

pub inputs_shown : (rs : List Var) (xs : List Var) (ps : List Name)
    → map (λ (p : Port). p.name) (filter (λ (p : Port). is_input p.kind) (map input_port xs ++ map (port_shown rs) ps)) ≡ variable_names xs
inputs_shown rs [] ps = no_inputs rs ps
inputs_shown rs (x ∷ xs) ps = ap (λ (ns : List Name). x.name ∷ ns) (inputs_shown rs xs ps)
