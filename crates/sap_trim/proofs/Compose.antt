-- One pass behind another.
use Rattle.sap_lemmas.proofs.Common.{◌≡◌, ℕ, List, [], ◌∷◌, ◌++◌, map, None, sym, ap, ap₂, ◌∙◌, subst, refl, AllByRecursion, AllZip, all_of_map, map_of_all}
use Rattle.sap_maps.specs.Maps.{Name, Valuation}
use Rattle.sap_net.specs.Prelude.{Net, width_of, IsNetlist, AllFit, observed, is_among}
use Rattle.sap_net.specs.declared.parts.Port.{Port}
use Rattle.sap_net.specs.declared.parts.Input.{Input}
use Rattle.sap_net.specs.declared.parts.Register.{Register}
use Rattle.sap_net.specs.declared.parts.Memory.{Memory}
use Rattle.sap_net.proofs.Exists.{run_exists}
use Rattle.sap_share.specs.Sets.{AreSame}
use Rattle.sap_trim.specs.Names.{lasting_names, port_names}
use Rattle.sap_trim.specs.Alike.{DeclaresAlike, ShowsAlike, RunsAlike}

joined : {X : Type 0} (f g h : Name → X) (xs : List Name) → AllByRecursion (λ x. f x ≡ g x) xs → AllByRecursion (λ x. g x ≡ h x) xs → AllByRecursion (λ x. f x ≡ h x) xs
joined f g h [] a b = tt
joined f g h (x ∷ xs) a b = (a.0 ∙ b.0, joined f g h xs a.1 b.1)

joined_at : (f g h : Name → ℕ → ℕ) (xs : List Name) → AllByRecursion (λ x. (i : ℕ) → f x i ≡ g x i) xs
    → AllByRecursion (λ x. (i : ℕ) → g x i ≡ h x i) xs → AllByRecursion (λ x. (i : ℕ) → f x i ≡ h x i) xs
joined_at f g h [] a b = tt
joined_at f g h (x ∷ xs) a b = (λ i. a.0 i ∙ b.0 i, joined_at f g h xs a.1 b.1)

-- by names

by_ports : (P : Name → Type 0) (ps : List Port) → AllByRecursion (λ p. P p.name) ps → AllByRecursion P (map (λ p. p.name) ps)
by_ports P ps a = map_of_all P (λ (p : Port). p.name) ps a

of_ports : (P : Name → Type 0) (ps : List Port) → AllByRecursion P (map (λ p. p.name) ps) → AllByRecursion (λ p. P p.name) ps
of_ports P ps a = all_of_map P (λ (p : Port). p.name) ps a

first_of : (rs : List Register) → map (λ (e : Name × (ℕ × ℕ)). e.0) (map (λ r. (r.name, (r.width, r.start))) rs) ≡ map (λ r. r.name) rs
first_of [] = refl
first_of (r ∷ rs) = ap (λ (ns : List Name). r.name ∷ ns) (first_of rs)

first_in : (ms : List Memory) → map (λ (e : Name × (ℕ × (ℕ × ℕ))). e.0) (map (λ m. (m.name, (m.width, (m.depth, m.start)))) ms) ≡ map (λ m. m.name) ms
first_in [] = refl
first_in (m ∷ ms) = ap (λ (ns : List Name). m.name ∷ ns) (first_in ms)

registers_same : (a b : Net) → DeclaresAlike a b → map (λ r. r.name) b.registers ≡ map (λ r. r.name) a.registers
registers_same a b d =
    sym (first_of b.registers) ∙ ap (λ (es : List (Name × (ℕ × ℕ))). map (λ (e : Name × (ℕ × ℕ)). e.0) es) d.registers ∙ first_of a.registers

memories_same : (a b : Net) → DeclaresAlike a b → map (λ m. m.name) b.memories ≡ map (λ m. m.name) a.memories
memories_same a b d =
    sym (first_in b.memories) ∙ ap (λ (es : List (Name × (ℕ × (ℕ × ℕ)))). map (λ (e : Name × (ℕ × (ℕ × ℕ))). e.0) es) d.memories ∙ first_in a.memories

-- the same names of ports, and the same that stay

pub shown_same : (a b : Net) (xs : List Name) → DeclaresAlike a b → AreSame xs (port_names a) → AreSame xs (port_names b)
shown_same a b xs d h n = h n ∙ ap (λ (ps : List Port). is_among n (map (λ p. p.name) ps)) (sym d.ports)

pub lasting_same : (a b : Net) (xs : List Name) → DeclaresAlike a b → AreSame xs (lasting_names a) → AreSame xs (lasting_names b)
lasting_same a b xs d h n =
    let ports : port_names b ≡ port_names a = ap (λ (ps : List Port). map (λ p. p.name) ps) d.ports in
    let edge = ap₂ (λ (rs ms : List Name). rs ++ ms) (registers_same a b d) (memories_same a b d) in
    h n ∙ ap (is_among n) (sym (ap₂ (λ (ps rs : List Name). ps ++ rs) ports edge))

pub declares_both : (a b c : Net) → DeclaresAlike a b → DeclaresAlike b c → DeclaresAlike a c
declares_both a b c d e =
    let back : AllByRecursion (λ p. width_of c p.name ≡ width_of b p.name) a.ports =
    subst (λ (ps : List Port). AllByRecursion (λ p. width_of c p.name ≡ width_of b p.name) ps) d.ports e.widths in
    record {
      module_name = e.module_name ∙ d.module_name;
      ports = e.ports ∙ d.ports;
      inputs = e.inputs ∙ d.inputs;
      registers = e.registers ∙ d.registers;
      memories = e.memories ∙ d.memories;
      widths = of_ports (λ x. width_of c x ≡ width_of a x) a.ports
          (joined (width_of c) (width_of b) (width_of a) (map (λ p. p.name) a.ports)
          (by_ports (λ x. width_of c x ≡ width_of b x) a.ports back) (by_ports (λ x. width_of b x ≡ width_of a x) a.ports d.widths));
    }

shows_both : (a b c : Net) → DeclaresAlike a b → (u v w : Valuation) → ShowsAlike a b u v → ShowsAlike b c v w → ShowsAlike a c u w
shows_both a b c d u v w s t =
    let f = (observed a u).value in
    let g = (observed b v).value in
    let h = (observed c w).value in
    let p : AllByRecursion (λ p. g p.name ≡ h p.name) a.ports = subst (λ (ps : List Port). AllByRecursion (λ p. g p.name ≡ h p.name) ps) d.ports t.ports in
    let r : AllByRecursion (λ x. g x ≡ h x) (map (λ r. r.name) a.registers) =
    subst (AllByRecursion (λ x. g x ≡ h x)) (registers_same a b d) (map_of_all (λ x. g x ≡ h x) (λ (r : Register). r.name) b.registers t.registers) in
    let fc = (observed a u).cell in
    let gc = (observed b v).cell in
    let hc = (observed c w).cell in
    let m : AllByRecursion (λ x. (i : ℕ) → gc x i ≡ hc x i) (map (λ m. m.name) a.memories) =
    subst (AllByRecursion (λ x. (i : ℕ) → gc x i ≡ hc x i)) (memories_same a b d)
    (map_of_all (λ x. (i : ℕ) → gc x i ≡ hc x i) (λ (m : Memory). m.name) b.memories t.memories) in
    record {
      ports = of_ports (λ x. f x ≡ h x) a.ports (joined f g h (map (λ p. p.name) a.ports) (by_ports (λ x. f x ≡ g x) a.ports s.ports) (by_ports (λ x. g x ≡ h x) a.ports p));
      registers = all_of_map (λ x. f x ≡ h x) (λ (r : Register). r.name) a.registers
          (joined f g h (map (λ r. r.name) a.registers) (map_of_all (λ x. f x ≡ g x) (λ (r : Register). r.name) a.registers s.registers) r);
      memories = all_of_map (λ x. (i : ℕ) → fc x i ≡ hc x i) (λ (m : Memory). m.name) a.memories
          (joined_at fc gc hc (map (λ m. m.name) a.memories) (map_of_all (λ x. (i : ℕ) → fc x i ≡ gc x i) (λ (m : Memory). m.name) a.memories s.memories) m);
    }

all_both : (a b c : Net) → DeclaresAlike a b → (us vs ws : List Valuation) → AllZip (ShowsAlike a b) us vs → AllZip (ShowsAlike b c) vs ws → AllZip (ShowsAlike a c) us ws
all_both a b c d [] [] [] s t = tt
all_both a b c d [] [] (w ∷ ws) s t = absurd t
all_both a b c d [] (v ∷ vs) ws s t = absurd s
all_both a b c d (u ∷ us) [] ws s t = absurd s
all_both a b c d (u ∷ us) (v ∷ vs) [] s t = absurd t
all_both a b c d (u ∷ us) (v ∷ vs) (w ∷ ws) s t = (shows_both a b c d u v w s.0 t.0, all_both a b c d us vs ws s.1 t.1)

pub runs_both : (a b c : Net) → IsNetlist b → DeclaresAlike a b → RunsAlike a b → RunsAlike b c → RunsAlike a c
runs_both a b c rules d f g = λ xss us ws fit r q.
    let fit' : AllFit b.inputs xss = subst (λ (is : List Input). AllFit is xss) (sym d.inputs) fit in
    let m = run_exists b rules xss None tt fit' in
    all_both a b c d us m.0 ws (f xss us m.0 fit r m.1) (g xss m.0 ws fit' m.1 q)
