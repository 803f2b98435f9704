-- Changes that are read one after another.
use Rattle.std.proofs.Common.{◌≡◌, ℕ, ◌+◌, List, refl, sym, subst}
use Rattle.sap_wave.specs.declared.fault.WaveCode.{WaveCode}
use Rattle.sap_wave.specs.declared.variable.Variable.{Variable}
use Rattle.sap_wave.specs.Prelude.{IsChangeAt, IsFault, IsLeast, IsWrong, change, ended, form_text, IsLine, ReadUpTo, OpenBlock, Takes, after, in_block, IsSound}
use Rattle.sap_wave.proofs.Each.{least_stands}
use Rattle.sap_wave.proofs.ReadUpTo.{goes_on, stops_here}
use Rattle.sap_wave.proofs.Sounding.{sound_after}

change_line : (rest d i : List ℕ) (number : ℕ) (behind : List ℕ) → IsChangeAt rest d i number behind → IsLine (ended (form_text (change d i))) (change d i)
change_line rest d i number behind c = record { ended = refl; text = refl; formed = c.formed }

pub change_goes : (bytes rest : List ℕ) (n : ℕ) (xs : List Variable) (o p : OpenBlock) (d i : List ℕ) (number : ℕ) (behind : List ℕ) → IsChangeAt rest d i number behind
    → Takes (in_block xs o) (change d i) → in_block xs p ≡ after (in_block xs o) (change d i) → ReadUpTo bytes rest n (in_block xs o)
    → ReadUpTo bytes behind (n + 1) (in_block xs p)
change_goes bytes rest n xs o p d i number behind c t e a =
    goes_on bytes rest (form_text (change d i)) behind n (in_block xs o) (in_block xs p) a c.line
    (record { form = change d i; is_line = change_line rest d i number behind c; takes = t; reached = e })

pub change_sound : (rest : List ℕ) (xs : List Variable) (o p : OpenBlock) (d i : List ℕ) (number : ℕ) (behind : List ℕ) → IsChangeAt rest d i number behind
    → Takes (in_block xs o) (change d i) → in_block xs p ≡ after (in_block xs o) (change d i) → IsSound (in_block xs o) → IsSound (in_block xs p)
change_sound rest xs o p d i number behind c t e s = subst IsSound (sym e) (sound_after (in_block xs o) (change d i) c.formed s t)

pub change_stops : (bytes rest : List ℕ) (n : ℕ) (xs : List Variable) (o : OpenBlock) (d i : List ℕ) (number : ℕ) (behind : List ℕ)
    (code : WaveCode) → IsChangeAt rest d i number behind
    → IsLeast (IsWrong (in_block xs o) (change d i)) code → ReadUpTo bytes rest n (in_block xs o) → IsFault bytes n code
change_stops bytes rest n xs o d i number behind code c h a =
    stops_here bytes rest (form_text (change d i)) behind n (in_block xs o) code a c.line
    (least_stands (in_block xs o) (ended (form_text (change d i))) (change d i) (change_line rest d i number behind c) refl code h)
