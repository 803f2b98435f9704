-- The registers of a netlist, and those that rows show.
use Rattle.sap_lemmas.proofs.Common.{Bool, ◌≡◌, ℕ, zero, suc, ◌+◌, ◌<◌, List, [], ◌∷◌, ◌++◌, true, false, cond, ◌&&◌, Option, Some, None, length, get_or, take, map, sym, ap, ◌∙◌, subst, refl, arith, bytes_eq, inl, inr, ◌==◌, unwrap_or, if◌then◌else◌, All, AllByRecursion, list_all, IsUtf8, cases_Bool, false≢true, Decides-eqb, same_Some, and_left, and_right, all_filter, all_of_map, map_of_all, bytes_eq_apart_back, bytes_eq_same, equal_of_bytes_eq, append-nil}
use Rattle.sap_text.proofs.NamesLemmas.{inner_text, word_inner}
use Rattle.sap_net.proofs.NamesLemmas.{among_behind, among_front, among_here}
use Rattle.sap_maps.specs.Prelude.{Name, Scope, find}
use Rattle.sap_net.specs.Prelude.{Net, is_among, is_name, is_word, is_initial, is_inner, IsNetlist, readable, width_of, register_names, input_names, wire_names, memory_names, PortShows, value_of, is_number, behind, value_name, tag_name, is_register, register_ports, port_widths, has_tag, shown_by, shown_among}
use Rattle.sap_net.specs.declared.parts.Port.{Port}
use Rattle.sap_net.specs.declared.parts.PortKind.{PortKind}
use Rattle.sap_net.specs.declared.parts.Register.{Register}
use Rattle.sap_net.specs.declared.parts.PortKind.TheVariants as kind
use Rattle.sap_cycle.proofs.Distinct.{registers_found, registers_readable}
use Rattle.sap_cycle.proofs.Learned.{all_get_or}
use Rattle.sap_sim.specs.Shown.{register_widths}
use Rattle.sap_sim.proofs.Lists.{taken}

-- what holds of each name of a list holds of one that is among them
pub among_all : (P : Name → Type 0) (ns : List Name) (x : Name) → AllByRecursion P ns → is_among x ns ≡ true → P x
among_all P [] x all h = absurd (false≢true h)
among_all P (n ∷ ns) x all h =
    elim (cases_Bool (bytes_eq x n)) [
      | inl t ↦ subst P (sym (equal_of_bytes_eq x n t)) all.0
      | inr f ↦ among_all P ns x all.1 (rw f at h)
    ]

-- what holds of the names of a list's elements
pub all_names : {A : Type 0} (key : A → Name) (P : Name → Type 0) (list : List A) → AllByRecursion (λ a. P (key a)) list → AllByRecursion P (map key list)
all_names {A} key P [] h = tt
all_names {A} key P (a ∷ list) h = (h.0, all_names key P list h.1)

some_none : {X : Type 0} (o : Option X) (x : X) → o ≡ Some x → o ≡ None → ⊥
some_none {X} o x h k = cc

not_none : (sc : Scope) (x : Name) (w : ℕ) → find sc x ≡ Some w → find sc x ≡ None → ⊥
not_none sc x w h k = some_none (find sc x) w h k

weaker : {A : Type 0} (P Q : A → Type 0) → ((a : A) → P a → Q a) → (list : List A) → AllByRecursion P list → AllByRecursion Q list
weaker {A} P Q f [] h = tt
weaker {A} P Q f (a ∷ list) h = (f a h.0, weaker P Q f list h.1)

pub register_found : (n : Net) → IsNetlist n → (x : Name) → is_among x (register_names n) ≡ true → find (readable n) x ≡ None → ⊥
register_found n net x h none =
    among_all (λ (y : Name). find (readable n) y ≡ None → ⊥) (register_names n) x
    (all_names (λ (r : Register). r.name) (λ (y : Name). find (readable n) y ≡ None → ⊥) n.registers
    (weaker (λ (r : Register). find (readable n) r.name ≡ Some r.width) (λ (r : Register). find (readable n) r.name ≡ None
    → ⊥) (λ r e. not_none (readable n) r.name r.width e) n.registers
    (registers_readable n net)))
    h none

pub register_declared : (n : Net) → IsNetlist n → (x : Name) → is_among x (register_names n) ≡ true → is_among x n.names ≡ true
register_declared n net x h =
    net.declared x ∙ among_front x (input_names n ++ wire_names n ++ register_names n) (memory_names n) (among_behind x (input_names n ++ wire_names n) (register_names n) h)

-- names are texts
name_utf8 : (x : Name) → is_name x ≡ true → IsUtf8 x
unfolding is_name
name_utf8 x h = inner_text x (word_inner x (and_left (is_word x) _ h))

pub register_utf8 : (n : Net) → IsNetlist n → (x : Name) → is_among x (register_names n) ≡ true → IsUtf8 x
register_utf8 n net x h = name_utf8 x (among_all (λ (y : Name). is_name y ≡ true) n.names x net.named (register_declared n net x h))

-- names of ports have letters, digits and `_` alone

all_take : {A : Type 0} (P : A → Type 0) (n : ℕ) (xs : List A) → AllByRecursion P xs → AllByRecursion P (take n xs)
all_take P zero xs a = tt
all_take P (suc n) [] a = tt
all_take P (suc n) (x ∷ xs) a = (a.0, all_take P n xs a.1)

pub ports_named : (n : Net) → IsNetlist n → All (λ (x : Name). is_name x ≡ true) (register_ports n.ports)
ports_named n net =
    let P : Name → Type 0 = λ x. is_name x ≡ true in
    let ports : AllByRecursion P (map (λ (p : Port). p.name) n.ports) =
    subst (λ (xs : List Name). AllByRecursion P xs) (sym net.ports_first) (all_take P (length n.ports) n.names net.named) in
    λ k d h. all_get_or P (register_ports n.ports) k d
    (map_of_all P (λ (p : Port). p.name) _ (all_filter (λ (p : Port). P p.name) (λ (p : Port). is_register p.kind) n.ports
    (all_of_map P (λ (p : Port). p.name) n.ports ports))) h

pub behind_inner : (letter : ℕ) (n x : Name) → behind letter n ≡ Some x → is_name n ≡ true → list_all is_inner x ≡ true
unfolding is_name
behind_inner letter [] x e h = absurd (cc)
behind_inner letter (a ∷ []) x e h = absurd (cc)
behind_inner letter (a ∷ (b ∷ [])) x e h = absurd (cc)
behind_inner letter (a ∷ (b ∷ (c ∷ y))) x e h = by_test (a == letter && b == 95) e where
  rest : list_all is_inner (c ∷ y) ≡ true
  rest = and_right (is_inner b) (list_all is_inner (c ∷ y)) (and_right (is_initial a) (list_all is_inner (b ∷ (c ∷ y))) (and_left (is_word (a ∷ (b ∷ (c ∷ y)))) _ h))

  by_test : (t : Bool) → cond t (Some (c ∷ y)) None ≡ Some x → list_all is_inner x ≡ true
  by_test true f = subst (λ (z : Name). list_all is_inner z ≡ true) (same_Some (c ∷ y) x f) rest
  by_test false f = absurd (cc)

-- what rows show

append_three : (xs ys zs : List Name) → xs ++ (ys ++ zs) ≡ (xs ++ ys) ++ zs
append_three [] ys zs = refl
append_three (x ∷ xs) ys zs = ap (λ ws. x ∷ ws) (append_three xs ys zs)

shown_push : (tag : ℕ) (widths : Scope) (ps : List Name) (p : Name) → shown_among tag widths (ps ++ p ∷ []) ≡ shown_among tag widths ps ++ shown_by tag widths (value_of p)
shown_push tag widths [] p = append-nil (shown_by tag widths (value_of p))
shown_push tag widths (q ∷ ps) p =
    ap (λ (ys : List Name). shown_by tag widths (value_of q) ++ ys) (shown_push tag widths ps p)
    ∙ append_three (shown_by tag widths (value_of q)) (shown_among tag widths ps) (shown_by tag widths (value_of p))

pub shown_more : (tag : ℕ) (widths : Scope) (ps : List Name) (k : ℕ) (p : Name) → k < length ps → p ≡ get_or ps k p
    → shown_among tag widths (take (k + 1) ps) ≡ shown_among tag widths (take k ps) ++ shown_by tag widths (value_of p)
shown_more tag widths ps k p h e = ap (shown_among tag widths) (taken ps k p h e) ∙ shown_push tag widths (take k ps) p

of_kind : (n : Net) (p : Port) (ps : List Port) → AllByRecursion (λ (x : Name). is_among x (register_names n) ≡ true) (register_ports ps)
    → (k : PortKind) → p.kind ≡ k → PortShows n p.kind p.name
    → AllByRecursion (λ (x : Name). is_among x (register_names n) ≡ true) (register_ports (p ∷ ps))
of_kind n p ps rest kind.Input e h = rw e rest
of_kind n p ps rest kind.Register e h = rw e (rw e at h, rest)
of_kind n p ps rest kind.Wire e h = rw e rest

port_is_register : (n : Net) (ps : List Port) → AllByRecursion (λ p. PortShows n p.kind p.name) ps
    → AllByRecursion (λ (x : Name). is_among x (register_names n) ≡ true) (register_ports ps)
port_is_register n [] h = tt
port_is_register n (p ∷ ps) h = of_kind n p ps (port_is_register n ps h.1) p.kind refl h.0

pub register_port_is : (n : Net) → IsNetlist n → (x : Name) → is_among x (register_ports n.ports) ≡ true → is_among x (register_names n) ≡ true
register_port_is n net x h = among_all (λ (y : Name). is_among y (register_names n) ≡ true) (register_ports n.ports) x (port_is_register n n.ports net.ports_show) h

-- the ports' widths

find_port : (f : Name → ℕ) (ps : List Name) (x : Name) → find (map (λ p. (p, f p)) ps) x ≡ (if is_among x ps then Some (f x) else None)
find_port f [] x = refl
find_port f (p ∷ ps) x = elim (cases_Bool (bytes_eq x p)) [
  | inl t ↦ subst (λ (y : Name). find (map (λ p. (p, f p)) (y ∷ ps)) x ≡ (if is_among x (y ∷ ps) then Some (f x) else None)) (equal_of_bytes_eq x p t) (rw (bytes_eq_same x) refl)
  | inr g ↦ (let o : bytes_eq p x ≡ false = bytes_eq_apart_back x p g in rw (g, o) (find_port f ps x))
]

-- in both its width
abbrev IsWide : Net → Name → Type 0
IsWide n x = (u : ℕ) × (find (register_widths n.registers) x ≡ Some u) × (find (readable n) x ≡ Some u)

all_wide : (n : Net) (rs : List Register) → AllByRecursion (λ r. find (register_widths n.registers) r.name ≡ Some r.width) rs
    → AllByRecursion (λ r. find (readable n) r.name ≡ Some r.width) rs
    → AllByRecursion (λ r. IsWide n r.name) rs
all_wide n [] h k = tt
all_wide n (r ∷ rs) h k = ((r.width, h.0, k.0), all_wide n rs h.1 k.1)

register_wide : (n : Net) → IsNetlist n → (x : Name) → is_among x (register_names n) ≡ true → IsWide n x
register_wide n net x h =
    among_all (IsWide n) (register_names n) x
    (all_names (λ (r : Register). r.name) (IsWide n) n.registers (all_wide n n.registers (registers_found n net (λ r. r.width)) (registers_readable n net))) h

-- a port of a width is a port that is a register of it
pub port_wide : (tag : ℕ) (n : Net) → IsNetlist n → (x : Name)
    → is_number tag (find (port_widths n) x) ≡ (is_among x (register_ports n.ports) && is_number tag (find (register_widths n.registers) x))
port_wide tag n net x = ap (is_number tag) (find_port (width_of n) (register_ports n.ports) x) ∙ by_port (is_among x (register_ports n.ports)) refl
  where
    by_port : (b : Bool) → is_among x (register_ports n.ports) ≡ b
        → is_number tag (if b then Some (width_of n x) else None) ≡ (b && is_number tag (find (register_widths n.registers) x))
    by_port false e = refl
    by_port true e =
        let w = register_wide n net x (register_port_is n net x e) in
        ap (λ (o : Option ℕ). is_number tag (Some (unwrap_or o 0))) w.2 ∙ sym (ap (is_number tag) w.1)

wide_port : (tag : ℕ) (n : Net) (x : Name) → is_number tag (find (port_widths n) x) ≡ true → is_among x (register_ports n.ports) ≡ true
wide_port tag n x h = by_port (is_among x (register_ports n.ports)) refl (sym (ap (is_number tag) (find_port (width_of n) (register_ports n.ports) x)) ∙ h)
  where
    by_port : (b : Bool) → is_among x (register_ports n.ports) ≡ b → is_number tag (if b then Some (width_of n x) else None) ≡ true → is_among x (register_ports n.ports) ≡ true
    by_port true e i = e
    by_port false e i = absurd (false≢true i)

-- a name is the letter, `_` and what is behind them
pub behind_is : (letter : ℕ) (p x : Name) → behind letter p ≡ Some x → p ≡ letter ∷ (95 ∷ x)
behind_is letter [] x h = cc
behind_is letter (a ∷ []) x h = cc
behind_is letter (a ∷ (b ∷ [])) x h = cc
behind_is letter (a ∷ (b ∷ (c ∷ p))) x h =
    elim (cases_Bool (a == letter && b == 95)) [
      | inl t ↦ (
          let i : a ≡ letter = (Decides-eqb a letter).0 (and_left (a == letter) (b == 95) t) in
          let j : b ≡ 95 = (Decides-eqb b 95).0 (and_right (a == letter) (b == 95) t) in
          let k : Some (c ∷ p) ≡ Some x = rw t at h in
          cc
          )
      | inr f ↦ (let k : None ≡ Some x = rw f at h in cc)
    ]

-- both names of what is shown are among the ports
abbrev pub IsShown : List Name → List Name → Name → Type 0
IsShown ps all x = (is_among (value_name x) ps ≡ true) × (is_among (tag_name x) all ≡ true)

all_join : (P : Name → Type 0) (xs ys : List Name) → AllByRecursion P xs → AllByRecursion P ys → AllByRecursion P (xs ++ ys)
all_join P [] ys h k = k
all_join P (x ∷ xs) ys h k = (h.0, all_join P xs ys h.1 k)

among_rest : (x p : Name) (ps : List Name) → is_among x ps ≡ true → is_among x (p ∷ ps) ≡ true
among_rest x p ps h = elim (cases_Bool (bytes_eq x p)) [ inl t ↦ rw t refl | inr f ↦ rw f h ]

shown_here : (tag : ℕ) (n : Net) (p : Name) (ps : List Name) (o : Option Name) → value_of p ≡ o
    → AllByRecursion (IsShown (p ∷ ps) (register_ports n.ports)) (shown_by tag (port_widths n) o)
shown_here tag n p ps None e = tt
shown_here tag n p ps (Some x) e =
    elim (cases_Bool (has_tag tag (port_widths n) x)) as (λ v. AllByRecursion (IsShown (p ∷ ps) (register_ports n.ports)) (shown_by tag (port_widths n) (Some x))) [
      | inl t ↦ (
          let i : is_among (value_name x) (p ∷ ps) ≡ true = subst (λ (y : Name). is_among y (p ∷ ps) ≡ true) (behind_is 118 p x e) (among_here p ps) in
          let j : is_among (tag_name x) (register_ports n.ports) ≡ true = wide_port tag n (tag_name x) t in
          rw t ((i, j), tt)
          )
      | inr f ↦ rw f tt
    ]

pub all_shown : (tag : ℕ) (n : Net) (ps : List Name) → AllByRecursion (IsShown ps (register_ports n.ports)) (shown_among tag (port_widths n) ps)
all_shown tag n [] = tt
all_shown tag n (p ∷ ps) =
    all_join (IsShown (p ∷ ps) (register_ports n.ports)) (shown_by tag (port_widths n) (value_of p)) (shown_among tag (port_widths n) ps)
    (shown_here tag n p ps (value_of p) refl)
    (weaker (IsShown ps (register_ports n.ports)) (IsShown (p ∷ ps) (register_ports n.ports))
    (λ x h. (among_rest (value_name x) p ps h.0, h.1)) (shown_among tag (port_widths n) ps) (all_shown tag n ps))

-- the facts of a list by places
pub each : {A : Type 0} (P : A → Type 0) (list : List A) → AllByRecursion P list → (k : ℕ) (d : A) → k < length list → P (get_or list k d)
each {A} P [] h k d l = absurd (omega arith)
each {A} P (a ∷ list) h zero d l = h.0
each {A} P (a ∷ list) h (suc k) d l = each P list h.1 k d (omega arith)

pub values_are : (tag : ℕ) (n : Net) → IsNetlist n → (xs : List Name) → xs ≡ shown_among tag (port_widths n) (register_ports n.ports)
    → (k : ℕ) (d : Name) → k < length xs → is_among (118 ∷ (95 ∷ get_or xs k d)) (register_names n) ≡ true
values_are tag n net xs e k d l =
    each (λ (x : Name). is_among (118 ∷ (95 ∷ x)) (register_names n) ≡ true) xs
    (subst (λ (ys : List Name). AllByRecursion (λ (x : Name). is_among (118 ∷ (95 ∷ x)) (register_names n) ≡ true) ys) (sym e)
    (weaker (IsShown (register_ports n.ports) (register_ports n.ports)) (λ (x : Name). is_among (118 ∷ (95 ∷ x)) (register_names n) ≡ true)
    (λ x h. register_port_is n net (value_name x) h.0) _
    (all_shown tag n (register_ports n.ports))))
    k d l

pub tags_are : (tag : ℕ) (n : Net) → IsNetlist n → (xs : List Name) → xs ≡ shown_among tag (port_widths n) (register_ports n.ports)
    → (k : ℕ) (d : Name) → k < length xs → is_among (116 ∷ (95 ∷ get_or xs k d)) (register_names n) ≡ true
tags_are tag n net xs e k d l =
    each (λ (x : Name). is_among (116 ∷ (95 ∷ x)) (register_names n) ≡ true) xs
    (subst (λ (ys : List Name). AllByRecursion (λ (x : Name). is_among (116 ∷ (95 ∷ x)) (register_names n) ≡ true) ys) (sym e)
    (weaker (IsShown (register_ports n.ports) (register_ports n.ports)) (λ (x : Name). is_among (116 ∷ (95 ∷ x)) (register_names n) ≡ true)
    (λ x h. register_port_is n net (tag_name x) h.1) _
    (all_shown tag n (register_ports n.ports))))
    k d l
