-- Steps of loops over the parts of a netlist.
use Rattle.sap_lemmas.proofs.Common.{◌≡◌, ℕ, ◌-◌, ◌<◌, ◌||◌, List, [], ◌∷◌, ◌++◌, map, drop, length, Option, Bool, false, sym, ap, ap₂, ◌∙◌, subst, refl, inl, inr, suc, ◌≤◌, get_or, arith, ◌⊎◌, bytes_eq, cases_Bool, or_false, equal_of_bytes_eq, take_more, take, ◌+◌}
use Rattle.std.proofs.Common.{drop-cons}
use Rattle.sap_maps.specs.Maps.{Name}
use Rattle.sap_net.specs.Prelude.{is_among, Net, Puts}
use Rattle.sap_net.specs.declared.parts.Port.{Port}
use Rattle.sap_net.specs.declared.parts.Register.{Register}
use Rattle.sap_net.specs.declared.parts.Memory.{Memory}
use Rattle.sap_net.specs.declared.parts.Operand.{Operand}
use Rattle.sap_net.specs.declared.parts.Operand.TheVariants.{Constant}
use Rattle.sap_net.specs.declared.parts.Wire.{Wire}
use Rattle.sap_share.specs.Sets.{holds}
use Rattle.sap_trim.specs.Names.{lasting_names}
use Rattle.sap_net.proofs.NamesLemmas.{among_append}
use Rattle.sap_trim.specs.Replaced.{Stands}
use Rattle.sap_trim.specs.Stays.{KeepsStart}
use Rattle.sap_trim.specs.Walked.{State, Walked, SomeRegister, StartsAt, Starts}

empty_holds : (s : List Name) (n : Name) → s ≡ [] → holds s n ≡ false
empty_holds s n e = ap (λ (ns : List Name). holds ns n) e

pub lasting_held : (n : Name) (net : Net) (ps : List Port) (rs : List Register) (ms : List Memory) (s0 s1 s2 s3 : List Name) → s0 ≡ []
    → ps ≡ net.ports → rs ≡ net.registers → ms ≡ net.memories
    → holds s1 n ≡ (is_among n (map (λ m. m.name) ms) || holds s0 n) → holds s2 n ≡ (is_among n (map (λ r. r.name) rs) || holds s1 n)
    → holds s3 n ≡ (is_among n (map (λ p. p.name) ps) || holds s2 n) → holds s3 n ≡ is_among n (lasting_names net)
lasting_held n net ps rs ms s0 s1 s2 s3 e p r m a b c =
    let P = map (λ x. x.name) net.ports in
    let R = map (λ x. x.name) net.registers in
    let M = map (λ x. x.name) net.memories in
    let a' : holds s1 n ≡ is_among n M = a ∙ ap₂ (λ (xs : List Memory) (y : Bool). is_among n (map (λ x. x.name) xs) || y) m (empty_holds s0 n e) ∙ or_false (is_among n M) in
    let b' : holds s2 n ≡ (is_among n R || is_among n M) = b ∙ ap₂ (λ (xs : List Register) (y : Bool). is_among n (map (λ x. x.name) xs) || y) r a' in
    let c' : holds s3 n ≡ (is_among n P || (is_among n R || is_among n M)) = c ∙ ap₂ (λ (xs : List Port) (y : Bool). is_among n (map (λ x. x.name) xs) || y) p b' in
    c' ∙ sym (among_append n P (R ++ M) ∙ ap (λ (y : Bool). is_among n P || y) (among_append n R M))

-- one more wire walked

walked_push : (Step : State → Wire → State → Type 0) (ws : List Wire) (s t u : State) (w : Wire) → Walked Step s ws t → Step t w u → Walked Step s (ws ++ w ∷ []) u
walked_push Step [] s t u w e k = (u, subst (λ (z : State). Step z w u) (sym e) k, refl)
walked_push Step (x ∷ ws) s t u w e k = (e.0, e.1, walked_push Step ws e.0 t u w e.2 k)

pub walked_more : (Step : State → Wire → State → Type 0) (ws : List Wire) (k : ℕ) (w : Wire) (s t u : State) → k < length ws → w ≡ get_or ws k w
    → Walked Step s (take k ws) t → Step t w u → Walked Step s (take (k + 1) ws) u
walked_more Step ws k w s t u l e f g =
    subst (λ (zs : List Wire). Walked Step s zs u) (sym (take_more ws k w l ∙ ap (λ z. take k ws ++ z ∷ []) (sym e))) (walked_push Step (take k ws) s t u w f g)

pub walked_both : (Step : State → Wire → State → Type 0) (ws xs : List Wire) (s t u : State) → Walked Step s ws t → Walked Step t xs u → Walked Step s (ws ++ xs) u
walked_both Step [] xs s t u e k = subst (λ (z : State). Walked Step z xs u) (sym e) k
walked_both Step (w ∷ ws) xs s t u e k = (e.0, e.1, walked_both Step ws xs e.0 t u e.2 k)

-- the place before
pub drop_less : (ws : List Wire) (r : ℕ) (w : Wire) → 0 < r → r ≤ length ws → w ≡ get_or ws (r - 1) w → drop (r - 1) ws ≡ w ∷ drop r ws
drop_less ws r w p h e =
    let k = r - 1 in
    let l : k < length ws = omega arith in
    let s : suc k ≡ r = omega arith in
    drop-cons ws k w l ∙ ap₂ (λ (x : Wire) (n : ℕ). x ∷ drop n ws) (sym e) s

-- starts of registers

some_front : (P : Register → Type 0) (rs : List Register) (r : Register) → SomeRegister P rs → SomeRegister P (rs ++ r ∷ [])
some_front P [] r h = absurd h
some_front P (x ∷ rs) r (inl h) = inl h
some_front P (x ∷ rs) r (inr h) = inr (some_front P rs r h)

some_last : (P : Register → Type 0) (rs : List Register) (r : Register) → P r → SomeRegister P (rs ++ r ∷ [])
some_last P [] r h = inl h
some_last P (x ∷ rs) r h = inr (some_last P rs r h)

pub starts_push : (ws : List Wire) (rs : List Register) (x : Name) (a b c : Option Operand) (r : Register) → Starts ws rs x a b → (c ≡ b)
    ⊎ StartsAt ws x c r → Starts ws (rs ++ r ∷ []) x a c
starts_push ws rs x a b c r (inl e) (inl f) = inl (f ∙ e)
starts_push ws rs x a b c r (inr h) (inl f) =
    inr (some_front (StartsAt ws x c) rs r (subst (λ (o : Option Operand). SomeRegister (StartsAt ws x o) rs) (sym f) h))
starts_push ws rs x a b c r h (inr q) = inr (some_last (StartsAt ws x c) rs r q)

pub start_bound : (ws : List Wire) (e f : Stands) (r : Register) → KeepsStart ws r → Puts e r.name (Constant r.width r.start) f → (x : Name) → (f x ≡ e x) ⊎ StartsAt ws x (f x) r
start_bound ws e f r s b x =
    elim (cases_Bool (bytes_eq r.name x)) [
      | inl t ↦ inr (s, equal_of_bytes_eq r.name x t, rw t at (b x))
      | inr n ↦ inl (rw n at (b x))
    ]

pub starts_over : (ws : List Wire) (rs ss : List Register) (x : Name) (a b c : Option Operand) → rs ≡ ss → Starts ws rs x a c → a ≡ b → Starts ws ss x b c
starts_over ws rs ss x a b c e h f =
    subst (λ (qs : List Register). Starts ws qs x b c) e (subst (λ (o : Option Operand). Starts ws rs x o c) f h)
