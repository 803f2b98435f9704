-- One command more.
use Rattle.std.proofs.Common.{◌≡◌, ℕ, suc, ◌+◌, ◌<◌, List, ◌∷◌, length, drop, get_or, sym, ap, ◌∙◌, add-one, drop-cons}
use Rattle.sap_net.specs.Rules.{Shapes}
use Rattle.sap_ir.specs.Calcs.{command_of, commands_of}
use Rattle.sap_ir.specs.declared.guarded.GuardedCmd.{GuardedCmd}
use Rattle.sap_lower.specs.declared.lowering.Lowering.{Lowering}
use Rattle.sap_lower.specs.Commands.{low_command, low_commands}

pub commands_step : (ms : Shapes) (now new z : Lowering) (cmds : List GuardedCmd) (k : ℕ) (item : GuardedCmd) → k < length cmds → item ≡ get_or cmds k item
    → new ≡ low_command ms now (command_of item) → low_commands ms now (commands_of (drop k cmds)) ≡ z → low_commands ms new (commands_of (drop (k + 1) cmds)) ≡ z
commands_step ms now new z cmds k item l e s h =
    let d : drop k cmds ≡ item ∷ drop (k + 1) cmds = drop-cons cmds k item l ∙ ap (λ (x : GuardedCmd). x ∷ drop (suc k) cmds) (sym e)
    ∙ ap (λ (j : ℕ). item ∷ drop j cmds) (sym (add-one k)) in
    ap (λ (q : Lowering). low_commands ms q (commands_of (drop (k + 1) cmds))) s ∙ sym (ap (λ (cs : List GuardedCmd). low_commands ms now (commands_of cs)) d) ∙ h
