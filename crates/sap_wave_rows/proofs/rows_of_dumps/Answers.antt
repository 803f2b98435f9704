use Rattle.sap_wave_rows.proofs.RowsOfRuns.{rows_of_runs, rows_of_dumps}
use Rattle.sap_wave_rows.proofs.OtherRuns.{rows_of_stimuli}
use Rattle.sap_wave_rows.proofs.rows_of_dumps.Goals as goal

pub returns-clause-runs : goal.returns-clause-runs
returns-clause-runs c = rows_of_runs

pub returns-clause-dumps : goal.returns-clause-dumps
returns-clause-dumps c = rows_of_dumps c.one_wave_or_fault.ensures.one c.runs_read_back.ensures

pub returns-clause-stimuli : goal.returns-clause-stimuli
returns-clause-stimuli c = rows_of_stimuli c.one_wave_or_fault.ensures.one c.runs_read_back.ensures
