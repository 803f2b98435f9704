-- The names of the new netlist.
use Rattle.sap_lemmas.proofs.Common.{◌≡◌, ℕ, ◌||◌, ◌&&◌, List, [], ◌∷◌, ◌++◌, map, filter, take, drop, length, None, Bool, true, false, sym, ap, ◌∙◌, refl, inl, inr, arith, append_assoc, AllByRecursion, cases_Bool, take-append-drop, or_false, or_true}
use Rattle.std.proofs.lemmas.List.{take_at}
use Rattle.sap_net.proofs.NamesLemmas.{among_append, filter_among}
use Rattle.sap_maps.specs.Prelude.{Name, Scope, find}
use Rattle.sap_maps.proofs.Scopes.{not_behind}
use Rattle.sap_net.specs.Prelude.{is_among, Shapes, IsWidth, AreWires, names_of}
use Rattle.sap_net.specs.declared.parts.Port.{Port}
use Rattle.sap_net.specs.declared.parts.Wire.{Wire}
use Rattle.sap_fold.proofs.Lists.{filter_append, filter_all}

-- what each wire keeps
abbrev pub IsNewWire : Shapes → Scope → Wire → Type 0
IsNewWire ms sc w = IsWidth w.width × (find sc w.name ≡ None) × (find ms w.name ≡ None)

less_new : (ms : Shapes) (sc : Scope) (e : Name × ℕ) (ws : List Wire) → AllByRecursion (IsNewWire ms (e ∷ sc)) ws → AllByRecursion (IsNewWire ms sc) ws
less_new ms sc e [] a = tt
less_new ms sc e (w ∷ ws) a = ((a.0.0, not_behind e sc w.name a.0.1, a.0.2), less_new ms sc e ws a.1)

pub each_new : (ms : Shapes) (ws : List Wire) (sc : Scope) → AreWires ms sc ws → AllByRecursion (IsNewWire ms sc) ws
each_new ms [] sc a = tt
each_new ms (w ∷ ws) sc a =
    ((a.0, a.1, a.2), less_new ms sc (w.name, w.width) ws (each_new ms ws ((w.name, w.width) ∷ sc) a.4))

pub filter_holds : {X : Type 0} (f : X → Bool) (xs : List X) → AllByRecursion (λ x. f x ≡ true) (filter f xs)
filter_holds f [] = tt
filter_holds f (x ∷ xs) =
    elim (cases_Bool (f x)) [ inl t ↦ rw t (t, filter_holds f xs) | inr e ↦ rw e (filter_holds f xs) ]

pub names_filter : (f : Name → Bool) (ws : List Wire) → names_of (filter (λ w. f w.name) ws) ≡ filter f (names_of ws)
names_filter f [] = refl
names_filter f (w ∷ ws) =
    elim (cases_Bool (f w.name)) [
      | inl t ↦ rw t (ap (λ (ns : List Name). w.name ∷ ns) (names_filter f ws))
      | inr e ↦ rw e (names_filter f ws)
    ]

pub names_append : (ws xs : List Wire) → names_of (ws ++ xs) ≡ names_of ws ++ names_of xs
names_append [] xs = refl
names_append (w ∷ ws) xs = ap (λ (ns : List Name). w.name ∷ ns) (names_append ws xs)

tests : (i w r m p h : Bool) → (i ≡ true → p ≡ true) → (((((i || w) || r) || m) && (p || (r || m))) || h) ≡ (((i || (h || (w && p))) || r) || m)
tests true w r m p h k = let e = k refl in rw e refl
tests false true r m true h k = simp (or_true, or_false)
tests false true true m false h k = simp (or_true, or_false)
tests false true false true false h k = simp (or_true, or_false)
tests false true false false false h k = simp (or_true, or_false)
tests false false true m p h k = simp (or_true, or_false)
tests false false false true p h k = simp (or_true, or_false)
tests false false false false p h k = simp (or_true, or_false)

-- inputs I, wires W, registers R, memories M and ports P of a netlist, all its names N; helping wires H, wires that are ports S
pub declared_names : (I W R M P N H S : List Name) → ((x : Name) → is_among x N ≡ is_among x (I ++ W ++ R ++ M))
    → ((x : Name) → is_among x I ≡ true → is_among x P ≡ true) → ((x : Name) → is_among x S ≡ (is_among x W && is_among x P))
    → (x : Name) → is_among x (filter (λ y. is_among y (P ++ (R ++ M))) N ++ H) ≡ is_among x (I ++ (H ++ S) ++ R ++ M)
declared_names I W R M P N H S d i s x =
    let a = among_append x (filter (λ y. is_among y (P ++ (R ++ M))) N) H in
    let b = filter_among (λ y. is_among y (P ++ (R ++ M))) N x in
    let c = d x in
    let c3 = among_append x (I ++ W ++ R) M in
    let c2 = among_append x (I ++ W) R in
    let c1 = among_append x I W in
    let p1 = among_append x P (R ++ M) in
    let p2 = among_append x R M in
    let e3 = among_append x (I ++ (H ++ S) ++ R) M in
    let e2 = among_append x (I ++ (H ++ S)) R in
    let e1 = among_append x I (H ++ S) in
    let e0 = among_append x H S in
    let t = tests (is_among x I) (is_among x W) (is_among x R) (is_among x M) (is_among x P) (is_among x H) (i x) in
    let q = s x in
    cc

port_count : (ps : List Port) → length (map (λ p. p.name) ps) ≡ length ps
port_count [] = refl
port_count (p ∷ ps) = let h = port_count ps in omega arith

pub ports_in_front : (ps : List Port) (N H : List Name) (kept : Name → Bool) → map (λ p. p.name) ps ≡ take (length ps) N
    → AllByRecursion (λ x. kept x ≡ true) (map (λ p. p.name) ps) → map (λ p. p.name) ps ≡ take (length ps) (filter kept N ++ H)
ports_in_front ps N H kept e a =
    let P : List Name = map (λ p. p.name) ps in
    let k = length ps in
    let rest = drop k N in
    let whole : N ≡ P ++ rest = sym (take-append-drop k N) ∙ ap (λ (xs : List Name). xs ++ rest) (sym e) in
    let kept_is : filter kept N ≡ P ++ filter kept rest =
    ap (filter kept) whole ∙ filter_append kept P rest ∙ ap (λ (xs : List Name). xs ++ filter kept rest) (filter_all kept P a) in
    let long = port_count ps in
    let all : filter kept N ++ H ≡ P ++ (filter kept rest ++ H) = ap (λ (xs : List Name). xs ++ H) kept_is ∙ append_assoc P (filter kept rest) H in
    sym (ap (take k) all ∙ take_at P (filter kept rest ++ H) k long)
