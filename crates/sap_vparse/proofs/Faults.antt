-- A reader that faults where a part of it does.
use Rattle.sap_lemmas.proofs.Common.{◌≡◌, List, Result, Ok, Err, sym, subst, ◌∙◌, IfOk}
use Rattle.sap_vtext.specs.Tokens.{Token}
use Rattle.sap_vparse.specs.Reading.{Goes, Outcome, Stops, reads}
use Rattle.sap_vparse.specs.Rows.{GoesOn, StopsOn, reads_row}
use Rattle.sap_vparse.specs.Table.{Symbol}
use Rattle.sap_vparse.specs.declared.cursor.Fault.{Fault}
use Rattle.sap_walk.specs.Walk.{◌>>=◌}
use Rattle.sap_walk.proofs.Walking.{bind_err}

faulted : (whole one : Symbol) (old mid new : List Token) (rest : List Token → Outcome) (e : Fault)
    → reads whole old ≡ (reads one mid >>= rest) → Stops one mid e new → Stops whole old e new
faulted whole one old mid new rest e same stops = λ known. same ∙ bind_err _ _ _ (stops known)

pub fault_goes : {A : Type 0} (whole one : Symbol) (old mid new : List Token) (rest : List Token → Outcome) (e : Fault) (r : Result A Fault) → r ≡ Err e
    → reads whole old ≡ (reads one mid >>= rest) → Stops one mid e new → Goes whole old r new
fault_goes whole one old mid new rest e r is same stops = subst (λ r. Goes whole old r new) (sym is) (faulted whole one old mid new rest e same stops)

-- the same of a row of symbols

row_faulted : (σ : List Symbol) (one : Symbol) (old mid new : List Token) (rest : List Token → Outcome) (e : Fault)
    → reads_row σ old ≡ (reads one mid >>= rest) → Stops one mid e new → StopsOn σ old e new
row_faulted σ one old mid new rest e same stops = λ known. same ∙ bind_err _ _ _ (stops known)

pub fault_goes_on : {A : Type 0} (σ : List Symbol) (one : Symbol) (old mid new : List Token) (rest : List Token → Outcome) (e : Fault) (r : Result A Fault) → r ≡ Err e
    → reads_row σ old ≡ (reads one mid >>= rest) → Stops one mid e new → GoesOn σ old r new
fault_goes_on σ one old mid new rest e r is same stops = subst (λ r. GoesOn σ old r new) (sym is) (row_faulted σ one old mid new rest e same stops)

in_row_faulted : (whole : Symbol) (σ : List Symbol) (old mid new : List Token) (rest : List Token → Outcome) (e : Fault)
    → reads whole old ≡ (reads_row σ mid >>= rest) → StopsOn σ mid e new → Stops whole old e new
in_row_faulted whole σ old mid new rest e same stops = λ known. same ∙ bind_err _ _ _ (stops known)

pub fault_goes_in_row : {A : Type 0} (whole : Symbol) (σ : List Symbol) (old mid new : List Token) (rest : List Token → Outcome) (e : Fault) (r : Result A Fault) → r ≡ Err e
    → reads whole old ≡ (reads_row σ mid >>= rest) → StopsOn σ mid e new → Goes whole old r new
fault_goes_in_row whole σ old mid new rest e r is same stops = subst (λ r. Goes whole old r new) (sym is) (in_row_faulted whole σ old mid new rest e same stops)

-- a reader that ends with another one

pub ends_with : {A : Type 0} (whole one : Symbol) (old mid new : List Token) (r : Result A Fault) → reads whole old ≡ reads one mid → Goes one mid r new → Goes whole old r new
ends_with whole one old mid new (Ok x) same goes = same ∙ goes
ends_with whole one old mid new (Err e) same goes = λ known. same ∙ goes known

pub ends_with_row : {A : Type 0} (whole : Symbol) (σ : List Symbol) (old mid new : List Token) (r : Result A Fault)
    → reads whole old ≡ reads_row σ mid → GoesOn σ mid r new → Goes whole old r new
ends_with_row whole σ old mid new (Ok x) same goes = same ∙ goes
ends_with_row whole σ old mid new (Err e) same goes = λ known. same ∙ goes known

pub if_ok : {A E : Type 0} {P Q : A → Type 0} (r : Result A E) → ((x : A) → P x → Q x) → IfOk r P → IfOk r Q
if_ok (Ok x) f h = f x h
if_ok (Err e) f h = h
