use Rattle.sap_lemmas.proofs.Common.{ap, arith, err_from_is_err_and}
use Rattle.sap_desk.specs.Row.{Row}
use Rattle.sap_wave_rows.specs.Rows.{rows_of_wave}
use Rattle.sap_files.specs.Steps.{whole}
use Rattle.sap_files.proofs.Ended.{gave, got, past, quiet_self, reading_ended, starved}
use Rattle.sap_files.proofs.Lattices.{whole_same}
use Rattle.sap_files.proofs.NetsAlike.{waves_in}
use Rattle.sap_commands.proofs.unwave.unwave.Goals as goal

pub returns-in_err-levels : goal.returns-in_err-levels
returns-in_err-levels g c =
    let p = err_from_is_err_and c.from_residual.result c.from_residual.ensures.1 in
    rw (p.1, p.2) (reading_ended c.in_err-levels.ensures)

pub returns-in_err-wave : goal.returns-in_err-wave
returns-in_err-wave g c =
    let p = err_from_is_err_and c.from_residual-in_err-wave.result c.from_residual-in_err-wave.ensures.1 in
    rw (p.1, p.2) (past (whole c.in_ok-levels.levels) c.in_ok-levels.ensures.1 c.in_ok-levels.ensures.2 (reading_ended c.in_err-wave.ensures))

pub returns-in_err-rows : goal.returns-in_err-rows
returns-in_err-rows g c =
    let p = err_from_is_err_and c.from_residual-in_err-rows.result c.from_residual-in_err-rows.ensures.1 in
    rw (p.1, p.2)
    (past (whole c.in_ok-levels.levels) c.in_ok-levels.ensures.1 c.in_ok-levels.ensures.2 (got c.in_ok-wave.wave c.in_ok-wave.ensures (starved _ (quiet_self _))))

pub returns-in_err-waiting : goal.returns-in_err-waiting
returns-in_err-waiting g c =
    let p = err_from_is_err_and c.from_residual-in_err-waiting.result c.from_residual-in_err-waiting.ensures.1 in
    rw (p.1, p.2)
    (past (whole c.in_ok-levels.levels) c.in_ok-levels.ensures.1 c.in_ok-levels.ensures.2 (got c.in_ok-wave.wave c.in_ok-wave.ensures (starved _ (quiet_self _))))

pub put_pieces-requires-clause-stands : goal.put_pieces-requires-clause-stands
put_pieces-requires-clause-stands g c = (rows_of_wave c.in_ok-levels.levels c.in_ok-wave.wave, c.in_ok-rows.ensures)

pub put_pieces-requires-clause-waiting : goal.put_pieces-requires-clause-waiting
put_pieces-requires-clause-waiting g c = ap (λ (b : Row). b.bytes) c.in_ok-waiting.ensures

pub put_pieces-requires-clause-room : goal.put_pieces-requires-clause-room
put_pieces-requires-clause-room g c = omega (arith, ap (λ (b : Row). b.room) c.in_ok-waiting.ensures)

pub returns : goal.returns
returns g c =
    let k = c.in_ok-levels.levels in
    let w = c.in_ok-wave.wave in
    let same = whole_same c.in_ok-levels.ensures.0 k c.in_ok-levels.ensures.2 in
    let text = rows_of_wave k w in
    past (whole k) c.in_ok-levels.ensures.1 c.in_ok-levels.ensures.2
    (got w c.in_ok-wave.ensures (gave text (waves_in k (whole k) same w) (c.put_pieces.ensures text c.in_ok-rows.ensures)))
