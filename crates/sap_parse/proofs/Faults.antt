-- A reader that faults where a part of it does.
use Rattle.std.proofs.Common.{◌≡◌, List, Result, Err, sym, subst, ◌∙◌}
use Rattle.sap_parse.specs.Reading.{Goes, Outcome, Stops, reads}
use Rattle.sap_parse.specs.Rows.{RowGoes, RowStops, reads_row}
use Rattle.sap_parse.specs.Stages.{Stage}
use Rattle.sap_parse.specs.Table.{Symbol}
use Rattle.sap_parse.specs.declared.cursor.Fault.TheVariants as f
use Rattle.sap_parse.specs.declared.cursor.Fault.{Fault}
use Rattle.sap_walk.specs.Walk.{◌>>=◌}
use Rattle.sap_walk.proofs.Walking.{bind_err}

faulted : (whole one : Symbol) (old mid new : Stage) (rest : Stage → Outcome) (e : Fault) → reads whole old ≡ (reads one mid >>= rest) → Stops one mid e new → Stops whole old e new
faulted whole one old mid new rest f.Token same stops = same ∙ bind_err _ _ _ stops
faulted whole one old mid new rest (f.Limit limit) same stops = same ∙ bind_err _ _ _ stops
faulted whole one old mid new rest f.Memory same stops = tt

pub fault_goes : {A : Type 0} (whole one : Symbol) (old mid new : Stage) (rest : Stage → Outcome) (e : Fault) (r : Result A Fault) → r ≡ Err e
    → reads whole old ≡ (reads one mid >>= rest) → Stops one mid e new → Goes whole old r new
fault_goes whole one old mid new rest e r is same stops = subst (λ r. Goes whole old r new) (sym is) (faulted whole one old mid new rest e same stops)

-- the same where the whole, or the part, is a row of symbols

row_faulted : (row : List Symbol) (one : Symbol) (old mid new : Stage) (rest : Stage → Outcome) (e : Fault)
    → reads_row row old ≡ (reads one mid >>= rest) → Stops one mid e new → RowStops row old e new
row_faulted row one old mid new rest f.Token same stops = same ∙ bind_err _ _ _ stops
row_faulted row one old mid new rest (f.Limit limit) same stops = same ∙ bind_err _ _ _ stops
row_faulted row one old mid new rest f.Memory same stops = tt

pub fault_goes_on : {A : Type 0} (row : List Symbol) (one : Symbol) (old mid new : Stage) (rest : Stage → Outcome) (e : Fault) (r : Result A Fault) → r ≡ Err e
    → reads_row row old ≡ (reads one mid >>= rest) → Stops one mid e new → RowGoes row old r new
fault_goes_on row one old mid new rest e r is same stops = subst (λ r. RowGoes row old r new) (sym is) (row_faulted row one old mid new rest e same stops)

in_row_faulted : (whole : Symbol) (row : List Symbol) (old mid new : Stage) (rest : Stage → Outcome) (e : Fault)
    → reads whole old ≡ (reads_row row mid >>= rest) → RowStops row mid e new → Stops whole old e new
in_row_faulted whole row old mid new rest f.Token same stops = same ∙ bind_err _ _ _ stops
in_row_faulted whole row old mid new rest (f.Limit limit) same stops = same ∙ bind_err _ _ _ stops
in_row_faulted whole row old mid new rest f.Memory same stops = tt

pub fault_goes_in_row : {A : Type 0} (whole : Symbol) (row : List Symbol) (old mid new : Stage) (rest : Stage → Outcome) (e : Fault) (r : Result A Fault) → r ≡ Err e
    → reads whole old ≡ (reads_row row mid >>= rest) → RowStops row mid e new → Goes whole old r new
fault_goes_in_row whole row old mid new rest e r is same stops = subst (λ r. Goes whole old r new) (sym is) (in_row_faulted whole row old mid new rest e same stops)

row_faulted_in_row : (whole row : List Symbol) (old mid new : Stage) (rest : Stage → Outcome) (e : Fault)
    → reads_row whole old ≡ (reads_row row mid >>= rest) → RowStops row mid e new → RowStops whole old e new
row_faulted_in_row whole row old mid new rest f.Token same stops = same ∙ bind_err _ _ _ stops
row_faulted_in_row whole row old mid new rest (f.Limit limit) same stops = same ∙ bind_err _ _ _ stops
row_faulted_in_row whole row old mid new rest f.Memory same stops = tt

pub fault_goes_on_in_row : {A : Type 0} (whole row : List Symbol) (old mid new : Stage) (rest : Stage → Outcome) (e : Fault) (r : Result A Fault) → r ≡ Err e
    → reads_row whole old ≡ (reads_row row mid >>= rest) → RowStops row mid e new → RowGoes whole old r new
fault_goes_on_in_row whole row old mid new rest e r is same stops = subst (λ r. RowGoes whole old r new) (sym is) (row_faulted_in_row whole row old mid new rest e same stops)
