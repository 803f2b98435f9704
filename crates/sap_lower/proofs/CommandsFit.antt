-- The wires of all assignments and writes fit.
use Rattle.sap_lemmas.proofs.Common.{◌≡◌, ℕ, ◌^◌, ◌<◌, ◌≤◌, Bool, true, false, List, [], ◌∷◌, Some, length, ap, subst, refl, arith, inl, inr, unwrap_or, bytes_eq, AllByRecursion, cases_Bool, same_power, equal_of_bytes_eq}
use Rattle.sap_net.proofs.RulesLemmas.{one_wide, Grows, operand_grows}
use Rattle.sap_maps.specs.Prelude.{Name, Scope, find, Term, choose}
use Rattle.sap_net.specs.Rules.{Shapes, IsWidth, IsDepth, IsOperand, readable_after}
use Rattle.sap_net.specs.declared.parts.Operand.{Operand}
use Rattle.sap_net.specs.declared.parts.Operand.TheVariants.{Constant}
use Rattle.sap_net.specs.declared.parts.Right.TheVariants.{Choose}
use Rattle.sap_net.specs.declared.parts.Wire.{Wire}
use Rattle.sap_ir.specs.Prelude.{Action, set, put, Command, TermFine}
use Rattle.sap_lower.specs.declared.parts.WritePort.{WritePort}
use Rattle.sap_lower.specs.Facts.{facts_of, is_zero}
use Rattle.sap_lower.specs.Lowering.{nothing, present, Low, plus, calculated, low}
use Rattle.sap_lower.specs.Writes.{reads_cell, LowWrite, spared, low_write}
use Rattle.sap_share.specs.Tables.{replaced}
use Rattle.sap_lower.specs.declared.lowering.Lowering.{Lowering}
use Rattle.sap_fold.specs.Folding.{same_operand}
use Rattle.sap_lower.specs.declared.parts.Part.{Part}
use Rattle.sap_lower.specs.Commands.{chosen_unless, entries_plain, entries_under, no_port, port_of, taken_over, low_set, low_put, low_action, low_command, low_commands}
use Rattle.sap_lower.proofs.Stands.{HasEntries, replaced_same, replaced_other, replaced_has}
use Rattle.sap_lower.proofs.Standing.{ActionOk, CommandOk}
use Rattle.sap_lower.proofs.Adding.{commands_added, spared_added, unless_added, write_added}
use Rattle.sap_lower.proofs.SeenFits.{env_seen_fits}
use Rattle.sap_lower.proofs.Fits.{IsLonger, longer, Fits, NoHelpers, EnvFits, env_grows, Lowered, plus_at, plus_long, calculated_at, low_long, low_fits}

abbrev pub AllWide : Scope → Type 0
AllWide vars = (n : Name) (u : ℕ) → find vars n ≡ Some u → IsWidth u

abbrev pub AllCellsWide : Shapes → Type 0
AllCellsWide ms = (m : Name) (e : ℕ × ℕ) → find ms m ≡ Some e → IsWidth e.0

-- a memory's write port fits the memory
pub record PortFits (sc : Scope) (p : WritePort) (width depth : ℕ) : Type 0 where
  pub wide : p.width ≡ width
  pub deep : IsDepth depth p.bits
  pub enable : IsOperand sc 1 p.enable
  pub index : IsOperand sc p.bits p.index
  pub value : IsOperand sc width p.value

abbrev pub PortsFit : Shapes → Scope → List (Name × WritePort) → Type 0
PortsFit ms sc ps = (m : Name) (e : ℕ × ℕ) → find ms m ≡ Some e → PortFits sc (port_of ps m) e.0 e.1

pub record StateFits (ms : Shapes) (sc vars : Scope) (s : Lowering) : Type 0 where
  pub fits : Fits ms sc s.wires
  pub env : EnvFits (readable_after sc s.wires) vars s.entries
  pub has : HasEntries vars s.entries
  pub has_ports : HasEntries ms s.ports
  pub ports : PortsFit ms (readable_after sc s.wires) s.ports

port_grows : (sc sd : Scope) → Grows sc sd → (p : WritePort) (w d : ℕ) → PortFits sc p w d → PortFits sd p w d
port_grows sc sd g p w d f =
    record {
      wide = f.wide;
      deep = f.deep;
      enable = operand_grows sc sd g 1 p.enable f.enable;
      index = operand_grows sc sd g p.bits p.index f.index;
      value = operand_grows sc sd g w p.value f.value;
    }

commands_long : (ms : Shapes) (cs : List Command) (s : Lowering) → length s.wires ≤ length (low_commands ms s cs).wires
commands_long ms cs s = commands_added IsLonger longer ms cs s

ports_grow : (ms : Shapes) (sc sd : Scope) (ps : List (Name × WritePort)) → Grows sc sd → PortsFit ms sc ps → PortsFit ms sd ps
ports_grow ms sc sd ps g f m e h = port_grows sc sd g (port_of ps m) e.0 e.1 (f m e h)

unless_fits : (ms : Shapes) (sc : Scope) → NoHelpers ms → (kept : Bool) (es : List (Name × Part)) (n : Name) (c a : Operand) (ws : List Wire) (u : ℕ) → IsWidth u
    → Fits ms sc ws → IsOperand (readable_after sc ws) u (present es n).operand × ((present es n).width ≡ u) → IsOperand (readable_after sc ws) 1 c
    → IsOperand (readable_after sc ws) u a → length (chosen_unless kept es n c a ws).wires < 2 ^ 64
    → Lowered ms sc ws (chosen_unless kept es n c a ws).wires (chosen_unless kept es n c a ws).part u
unless_fits ms sc apart true es n c a ws u iu fits old oc oa l = record { fits = fits; grows = λ m q h. h; operand = old.0; width = old.1 }
unless_fits ms sc apart false es n c a ws u iu fits old oc oa l =
    plus_at ms sc ws (present es n).width u (Choose c a (present es n).operand) old.1 apart fits iu (oc, oa, old.0) l

unless_long : (kept : Bool) (es : List (Name × Part)) (n : Name) (c a : Operand) (ws : List Wire) → length ws ≤ length (chosen_unless kept es n c a ws).wires
unless_long kept es n c a ws = unless_added IsLonger longer kept es n c a ws

set_fits : (ms : Shapes) (sc vars : Scope) → NoHelpers ms → AllWide vars → (s : Lowering) (c : Term Name) (n : Name) (t : Term Name) (u : ℕ)
    → find vars n ≡ Some u → TermFine ms vars 1 c → TermFine ms vars u t → StateFits ms sc vars s → length (low_set ms s c n t).wires < 2 ^ 64
    → Lowered ms sc s.wires (low_set ms s c n t).wires (low_set ms s c n t).part u
set_fits ms sc vars apart wide s c n t u found fc ft k l =
    let es = s.entries in
    let plain = entries_plain es in
    let z = low ms plain c s.wires in
    let seen = entries_under z es in
    let x = low ms seen t z.wires in
    let kept = same_operand x.part.operand (present seen n).operand in
    let e = unless_long kept es n z.part.operand x.part.operand x.wires in
    let lx = low_long ms seen t z.wires in
    let iu = wide n u found in
    let ep = env_seen_fits ms (readable_after sc s.wires) [] tt [] vars es k.env in
    let c' = low_fits ms sc vars plain apart 1 c one_wide fc s.wires ep k.fits (omega (arith, e, lx)) in
    let ez = env_grows (readable_after sc s.wires) (readable_after sc z.wires) vars es c'.grows k.env in
    let eu = env_seen_fits ms sc z.wires c'.fits.wires (facts_of z.wires z.part.operand) vars es ez in
    let t' = low_fits ms sc vars seen apart u t iu ft z.wires eu c'.fits (omega (arith, e)) in
    let ex = env_grows (readable_after sc z.wires) (readable_after sc x.wires) vars es t'.grows ez in
    let oc = operand_grows (readable_after sc z.wires) (readable_after sc x.wires) t'.grows 1 z.part.operand c'.operand in
    let p = unless_fits ms sc apart kept es n z.part.operand x.part.operand x.wires u iu t'.fits (ex n u found) oc t'.operand l in
    record {
      fits = p.fits;
      grows = λ m q h. p.grows m q (t'.grows m q (c'.grows m q h));
      operand = p.operand;
      width = p.width;
    }

set_state_fits : (ms : Shapes) (sc vars : Scope) → NoHelpers ms → AllWide vars
    → (s : Lowering) (c : Term Name) (n : Name) (t : Term Name) (u : ℕ) → find vars n ≡ Some u → TermFine ms vars 1 c → TermFine ms vars u t
    → StateFits ms sc vars s → length (low_set ms s c n t).wires < 2 ^ 64
    → StateFits ms sc vars (low_action ms s c (set n t))
set_state_fits ms sc vars apart wide s c n t u found fc ft k l =
    let p = set_fits ms sc vars apart wide s c n t u found fc ft k l in
    let m = low_set ms s c n t in
    let y = m.part in
    let em = env_grows (readable_after sc s.wires) (readable_after sc m.wires) vars s.entries p.grows k.env in
    record {
      fits = p.fits;
      has = replaced_has vars s.entries n y k.has;
      has_ports = k.has_ports;
      ports = ports_grow ms (readable_after sc s.wires) (readable_after sc m.wires) s.ports p.grows k.ports;
      env = λ q w h.
          elim (cases_Bool (bytes_eq n q)) [
            | inl same ↦
                let nq : n ≡ q = equal_of_bytes_eq n q same in
                let found' : find vars q ≡ Some u = subst (λ (a : Name). find vars a ≡ Some u) nq found in
                let uw : u ≡ w = cc in
                let old = k.has n u found in
                let z : present (replaced s.entries n y) n ≡ y = ap (λ o. unwrap_or o nothing) (replaced_same s.entries n y old.0 old.1) in
                let there : IsOperand (readable_after sc m.wires) u (present (replaced s.entries n y) n).operand
                × ((present (replaced s.entries n y) n).width ≡ u) = rw z (p.operand, p.width) in
                subst (λ (a : Name). IsOperand (readable_after sc m.wires) w (present (replaced s.entries n y) a).operand
                × ((present (replaced s.entries n y) a).width ≡ w)) nq
                (subst (λ (b : ℕ). IsOperand (readable_after sc m.wires) b (present (replaced s.entries n y) n).operand
                × ((present (replaced s.entries n y) n).width ≡ b)) uw there)
            | inr d ↦
                let z : present (replaced s.entries n y) q ≡ present s.entries q = ap (λ o. unwrap_or o nothing) (replaced_other s.entries n q y d) in
                rw z (em q w h)
          ];
    }

over_long : (first : Bool) (ws : List Wire) (w : ℕ) (c n o : Operand) → length ws ≤ length (taken_over first ws w c n o).wires
over_long true ws w c n o = omega arith
over_long false ws w c n o = plus_long ws w (Choose c n o)

over_fits : (ms : Shapes) (sc : Scope) (first : Bool) (ws : List Wire) (w u : ℕ) (c n o : Operand) → w ≡ u → NoHelpers ms → Fits ms sc ws → IsWidth u
    → IsOperand (readable_after sc ws) 1 c → IsOperand (readable_after sc ws) u n → IsOperand (readable_after sc ws) u o
    → length (taken_over first ws w c n o).wires < 2 ^ 64 → Lowered ms sc ws (taken_over first ws w c n o).wires (taken_over first ws w c n o).part u
over_fits ms sc true ws w u c n o e apart fits iw oc on oo l = record { fits = fits; grows = λ m k h. h; operand = on; width = e }
over_fits ms sc false ws w u c n o e apart fits iw oc on oo l = plus_at ms sc ws w u (Choose c n o) e apart fits iw (oc, on, oo) l

-- a write of a term fits the memory's cells
record WriteFits (ms : Shapes) (sc : Scope) (ws : List Wire) (x : LowWrite) (w : ℕ) : Type 0 where
  fits : Fits ms sc x.wires
  grows : Grows (readable_after sc ws) (readable_after sc x.wires)
  when : IsOperand (readable_after sc x.wires) 1 x.write.when
  value : IsOperand (readable_after sc x.wires) w x.write.value

plain_fits : (ms : Shapes) (sc : Scope) (ws : List Wire) (x : Low) (c : Operand) (w : ℕ) → Lowered ms sc ws x.wires x.part w → IsOperand (readable_after sc ws) 1 c
    → WriteFits ms sc ws (record { wires = x.wires; write = record { when = c; value = x.part.operand } }) w
plain_fits ms sc ws x c w l oc =
    record { fits = l.fits; grows = l.grows; when = operand_grows (readable_after sc ws) (readable_after sc x.wires) l.grows 1 c oc; value = l.operand }

spared_fits : (ms : Shapes) (sc : Scope) → NoHelpers ms → (keeps : Bool) (c t : Operand) (a b : Part) (ws : List Wire) (w : ℕ) → IsWidth w → Fits ms sc ws
    → IsOperand (readable_after sc ws) 1 c → IsOperand (readable_after sc ws) 1 t → IsOperand (readable_after sc ws) w a.operand → a.width ≡ w
    → IsOperand (readable_after sc ws) w b.operand → length (spared keeps c t a b ws).wires < 2 ^ 64 → WriteFits ms sc ws (spared keeps c t a b ws) w
spared_fits ms sc apart true c t a b ws w iw fits oc ot oa wa ob l =
    let p = plus_at ms sc ws 1 1 (Choose t (Constant 1 0) c) refl apart fits one_wide (ot, (refl, omega arith), oc) l in
    record {
      fits = p.fits;
      grows = p.grows;
      when = p.operand;
      value = operand_grows (readable_after sc ws) (readable_after sc (plus ws 1 (Choose t (Constant 1 0) c)).wires) p.grows w b.operand ob;
    }
spared_fits ms sc apart false c t a b ws w iw fits oc ot oa wa ob l =
    plain_fits ms sc ws (calculated ws a.width (Choose t a.operand b.operand)) c w
    (calculated_at ms sc ws a.width w (Choose t a.operand b.operand) wa apart fits iw (ot, oa, ob) l) oc

write_fits : (ms : Shapes) (sc vars : Scope) (es : List (Name × Part)) → NoHelpers ms → (m : Name) (c i : Operand) (w : ℕ) (t : Term Name) → IsWidth w
    → TermFine ms vars w t → (ws : List Wire) → EnvFits (readable_after sc ws) vars es → Fits ms sc ws → IsOperand (readable_after sc ws) 1 c
    → length (low_write ms es m c i t ws).wires < 2 ^ 64 → WriteFits ms sc ws (low_write ms es m c i t ws) w
write_fits ms sc vars es apart m c i w (choose t a b) iw f ws env fits oc l =
    let z = low ms es t ws in
    let x = low ms es a z.wires in
    let y = low ms es b x.wires in
    let s0 = readable_after sc ws in
    let sz = readable_after sc z.wires in
    let sx = readable_after sc x.wires in
    let sy = readable_after sc y.wires in
    let keeps = reads_cell y.wires m i x.part.operand in
    let e = spared_added IsLonger longer keeps c z.part.operand x.part y.part y.wires in
    let lb = low_long ms es b x.wires in
    let la = low_long ms es a z.wires in
    let t' = low_fits ms sc vars es apart 1 t one_wide f.0 ws env fits (omega (arith, e, lb, la)) in
    let ez = env_grows s0 sz vars es t'.grows env in
    let a' = low_fits ms sc vars es apart w a iw f.1 z.wires ez t'.fits (omega (arith, e, lb)) in
    let ex = env_grows sz sx vars es a'.grows ez in
    let b' = low_fits ms sc vars es apart w b iw f.2 x.wires ex a'.fits (omega (arith, e)) in
    let oc' = operand_grows sx sy b'.grows 1 c (operand_grows sz sx a'.grows 1 c (operand_grows s0 sz t'.grows 1 c oc)) in
    let ot = operand_grows sx sy b'.grows 1 z.part.operand (operand_grows sz sx a'.grows 1 z.part.operand t'.operand) in
    let oa = operand_grows sx sy b'.grows w x.part.operand a'.operand in
    let p = spared_fits ms sc apart keeps c z.part.operand x.part y.part y.wires w iw b'.fits oc' ot oa a'.width b'.operand l in
    record {
      fits = p.fits;
      grows = λ n k h. p.grows n k (b'.grows n k (a'.grows n k (t'.grows n k h)));
      when = p.when;
      value = p.value;
    }
write_fits ms sc vars es apart m c i w t iw f ws env fits oc l =
    plain_fits ms sc ws (low ms es t ws) c w (low_fits ms sc vars es apart w t iw f ws env fits l) oc

put_state_fits : (ms : Shapes) (sc vars : Scope) → NoHelpers ms → AllCellsWide ms
    → (s : Lowering) (c : Term Name) (m : Name) (i t : Term Name) (w b : ℕ) → IsWidth b → find ms m ≡ Some (w, 2 ^ b) → TermFine ms vars 1 c
    → TermFine ms vars b i → TermFine ms vars w t → StateFits ms sc vars s → length (low_action ms s c (put m i t)).wires < 2 ^ 64
    → StateFits ms sc vars (low_action ms s c (put m i t))
put_state_fits ms sc vars apart wide s c m i t w b ib found fc fi ft k len =
    let es = s.entries in
    let p = port_of s.ports m in
    let pf = k.ports m (w, 2 ^ b) found in
    let plain = entries_plain es in
    let z = low ms plain c s.wires in
    let seen = entries_under z es in
    let y = low ms seen i z.wires in
    let x = low_write ms seen m z.part.operand y.part.operand t y.wires in
    let when = x.write.when in
    let re = Choose when (Constant 1 1) p.enable in
    let e = plus x.wires 1 re in
    let first = is_zero p.enable in
    let j = taken_over first e.wires p.bits when y.part.operand p.index in
    let l = taken_over first j.wires p.width when x.write.value p.value in
    let ll = over_long first j.wires p.width when x.write.value p.value in
    let lj = over_long first e.wires p.bits when y.part.operand p.index in
    let le = plus_long x.wires 1 re in
    let lx = write_added IsLonger longer ms seen m z.part.operand y.part.operand t y.wires in
    let ly = low_long ms seen i z.wires in
    let iw = wide m (w, 2 ^ b) found in
    let bits : b ≡ p.bits = same_power b p.bits pf.deep.2 in
    let s0 = readable_after sc s.wires in
    let sz = readable_after sc z.wires in
    let sy = readable_after sc y.wires in
    let sx = readable_after sc x.wires in
    let se = readable_after sc e.wires in
    let sj = readable_after sc j.wires in
    let sl = readable_after sc l.wires in
    let ep = env_seen_fits ms s0 [] tt [] vars es k.env in
    let c' = low_fits ms sc vars plain apart 1 c one_wide fc s.wires ep k.fits (omega (arith, ll, lj, le, lx, ly)) in
    let ez = env_grows s0 sz vars es c'.grows k.env in
    let eu = env_seen_fits ms sc z.wires c'.fits.wires (facts_of z.wires z.part.operand) vars es ez in
    let i' = low_fits ms sc vars seen apart b i ib fi z.wires eu c'.fits (omega (arith, ll, lj, le, lx)) in
    let ey = env_grows sz sy vars seen i'.grows eu in
    let ocy = operand_grows sz sy i'.grows 1 z.part.operand c'.operand in
    let t' = write_fits ms sc vars seen apart m z.part.operand y.part.operand w t iw ft y.wires ey i'.fits ocy (omega (arith, ll, lj, le)) in
    let g0x : Grows s0 sx = λ n q h. t'.grows n q (i'.grows n q (c'.grows n q h)) in
    let px = port_grows s0 sx g0x p w (2 ^ b) pf in
    let oi = operand_grows sy sx t'.grows b y.part.operand i'.operand in
    let e' = plus_at ms sc x.wires 1 1 re refl apart t'.fits one_wide (t'.when, (refl, omega arith), px.enable) (omega (arith, ll, lj)) in
    let pe = port_grows sx se e'.grows p w (2 ^ b) px in
    let oi' = subst (λ (q : ℕ). IsOperand se q y.part.operand) bits (operand_grows sx se e'.grows b y.part.operand oi) in
    let j' = over_fits ms sc first e.wires p.bits p.bits when y.part.operand p.index refl apart e'.fits (subst (λ (q : ℕ). IsWidth q) bits ib)
    (operand_grows sx se e'.grows 1 when t'.when) oi' pe.index (omega (arith, ll)) in
    let pj = port_grows se sj j'.grows p w (2 ^ b) pe in
    let ot = operand_grows se sj j'.grows w x.write.value (operand_grows sx se e'.grows w x.write.value t'.value) in
    let ocj = operand_grows se sj j'.grows 1 when (operand_grows sx se e'.grows 1 when t'.when) in
    let l' = over_fits ms sc first j.wires p.width w when x.write.value p.value pf.wide apart j'.fits iw ocj ot pj.value len in
    let g0l : Grows s0 sl = λ n q h. l'.grows n q (j'.grows n q (e'.grows n q (g0x n q h))) in
    let port = (low_put ms es m p c i t s.wires).port in
    let here : PortFits sl port w (2 ^ b) = record {
      wide = pf.wide;
      deep = pf.deep;
      enable = operand_grows sj sl l'.grows 1 e.part.operand (operand_grows se sj j'.grows 1 e.part.operand e'.operand);
      index = operand_grows sj sl l'.grows p.bits j.part.operand j'.operand;
      value = l'.operand;
    } in
    record {
      fits = l'.fits;
      env = env_grows s0 sl vars es g0l k.env;
      has = k.has;
      has_ports = replaced_has ms s.ports m port k.has_ports;
      ports = λ n q h.
          elim (cases_Bool (bytes_eq m n)) [
            | inl same ↦
                let mn : m ≡ n = equal_of_bytes_eq m n same in
                let found' : find ms n ≡ Some (w, 2 ^ b) = subst (λ (a : Name). find ms a ≡ Some (w, 2 ^ b)) mn found in
                let eq : (w, 2 ^ b) ≡ q = cc in
                let old = k.has_ports m (w, 2 ^ b) found in
                let r : port_of (replaced s.ports m port) m ≡ port = ap (λ o. unwrap_or o no_port) (replaced_same s.ports m port old.0 old.1) in
                let there : PortFits sl (port_of (replaced s.ports m port) m) w (2 ^ b) = rw r here in
                subst (λ (a : Name). PortFits sl (port_of (replaced s.ports m port) a) q.0 q.1) mn
                (subst (λ (d : ℕ × ℕ). PortFits sl (port_of (replaced s.ports m port) m) d.0 d.1) eq there)
            | inr d ↦
                let r : port_of (replaced s.ports m port) n ≡ port_of s.ports n = ap (λ o. unwrap_or o no_port) (replaced_other s.ports m n port d) in
                rw r (port_grows s0 sl g0l (port_of s.ports n) q.0 q.1 (k.ports n q h))
          ];
    }

action_fits : (ms : Shapes) (sc vars : Scope) → NoHelpers ms → AllWide vars → AllCellsWide ms → (s : Lowering) (c : Term Name) (a : Action)
    → TermFine ms vars 1 c → ActionOk ms vars a → StateFits ms sc vars s → length (low_action ms s c a).wires < 2 ^ 64 → StateFits ms sc vars (low_action ms s c a)
action_fits ms sc vars apart wide cells s c (set x t) fc f k l = set_state_fits ms sc vars apart wide s c x t f.0 f.1 fc f.2 k l
action_fits ms sc vars apart wide cells s c (put m i t) fc f k l = put_state_fits ms sc vars apart cells s c m i t f.0 f.1 f.2 f.3 fc f.4 f.5 k l

pub commands_fit : (ms : Shapes) (sc vars : Scope) → NoHelpers ms → AllWide vars → AllCellsWide ms → (cs : List Command) (s : Lowering)
    → AllByRecursion (CommandOk ms vars) cs → StateFits ms sc vars s → length (low_commands ms s cs).wires < 2 ^ 64 → StateFits ms sc vars (low_commands ms s cs)
commands_fit ms sc vars apart wide cells [] s f k l = k
commands_fit ms sc vars apart wide cells (c ∷ cs) s f k l =
    let one = action_fits ms sc vars apart wide cells s c.when c.act f.0.0 f.0.1 k (omega (arith, commands_long ms cs (low_command ms s c))) in
    commands_fit ms sc vars apart wide cells cs (low_command ms s c) f.1 one l
