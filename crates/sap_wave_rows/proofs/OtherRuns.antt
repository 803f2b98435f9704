-- All runs on a stimulus have the same rows.
use Rattle.sap_lemmas.proofs.Common.{◌≡◌, true, ℕ, ◌+◌, List, [], ◌∷◌, ◌++◌, None, map, refl, sym, ap₂, ◌∙◌, AllByRecursion}
use Rattle.sap_lattice.specs.Levels.{Levels}
use Rattle.sap_maps.specs.Maps.{Name, Valuation}
use Rattle.sap_net.specs.Prelude.{IsNetlist, readable, register_names, AreSame, AreSameRuns, is_among, Net, IsRegister, observed, register_ports, operand_value}
use Rattle.sap_net.specs.declared.parts.Register.{Register}
use Rattle.sap_net.proofs.Observed.{observed_registers}
use Rattle.sap_net.proofs.Same.{run_same}
use Rattle.sap_net.proofs.Unique.{operand_agree}
use Rattle.sap_sim.specs.Prelude.{numbers_of, rows_from, shown_registers}
use Rattle.sap_sim.specs.Simulated.{read_for}
use Rattle.sap_sim.proofs.Registers.{all_names, among_all, register_port_is}
use Rattle.sap_wave.specs.Laws.{OneWaveOrFault, RunsReadBack}
use Rattle.sap_wave_rows.specs.Laws.{RowsOfStimuli}
use Rattle.sap_wave_rows.proofs.RowsOfRuns.{row_agrees, rows_of_dumps}

module _ (n : Net) (rules : IsNetlist n) (v w : Valuation) (same : AreSame n v w) where
  abbrev IsSeen : Name → Type 0
  IsSeen x = (observed n v).value x ≡ (observed n w).value x

  registers_seen : (rs : List Register) → AllByRecursion (λ r. (observed n v).value r.name ≡ operand_value v r.next) rs
      → AllByRecursion (λ r. (observed n w).value r.name ≡ operand_value w r.next) rs → AllByRecursion (IsRegister (readable n)) rs → AllByRecursion (λ r. IsSeen r.name) rs
  registers_seen [] a b are = tt
  registers_seen (r ∷ rs) a b are =
      (a.0 ∙ operand_agree (readable n) v w same.value r.width r.next are.0.1 ∙ sym b.0, registers_seen rs a.1 b.1 are.1)

  port_seen : (x : Name) → is_among x (register_ports n.ports) ≡ true → IsSeen x
  port_seen x h =
      among_all IsSeen (register_names n) x
      (all_names (λ (r : Register). r.name) IsSeen n.registers (registers_seen n.registers (observed_registers n rules v) (observed_registers n rules w) rules.nexts))
      (register_port_is n rules x h)

rows_same : (ls : Levels) (n : Net) → IsNetlist n → (cycle : ℕ) (vs ws : List Valuation) → AreSameRuns n vs ws
    → rows_from ls (shown_registers ls n) cycle (map (observed n) vs) ≡ rows_from ls (shown_registers ls n) cycle (map (observed n) ws)
rows_same ls n rules cycle [] [] same = refl
rows_same ls n rules cycle [] (w ∷ ws) same = absurd same
rows_same ls n rules cycle (v ∷ vs) [] same = absurd same
rows_same ls n rules cycle (v ∷ vs) (w ∷ ws) same =
    ap₂ (λ (row rows : List ℕ). row ++ rows) (row_agrees ls n cycle (observed n v) (observed n w) (port_seen n rules v w same.0)) (rows_same ls n rules (cycle + 1) vs ws same.1)

pub rows_of_stimuli : OneWaveOrFault → RunsReadBack → RowsOfStimuli
rows_of_stimuli one back ls n bytes rows vs w rules sim run reading =
    let inputs = map (numbers_of ls n) (read_for ls n bytes).stream in
    rows_of_dumps one back ls n inputs vs w rules run reading
    ∙ rows_same ls n rules 1 vs sim.run (run_same n rules inputs None None vs sim.run tt run sim.is_run)
    ∙ sym sim.text
