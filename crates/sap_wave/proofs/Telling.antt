-- What reads line by line is the dump of the wave that it tells, and the other way round.
use Rattle.sap_lemmas.proofs.Common.{◌≡◌, ℕ, List, [], ◌∷◌, ◌++◌, Bool, length, drop, get_or, refl, sym, ap, ◌∙◌, arith, subst, if◌then◌else◌, append-nil}
use Rattle.sap_text.specs.Lines.{Line, lines_of}
use Rattle.sap_wave.specs.Prelude.{Form, form_text, text_of, IsLine, Wave, IsFit, IsReading, dump_of, dump_text, State, before_timescale, in_block, after, Reads, Ends, ReadsSo, DumpsReadSo}
use Rattle.sap_wave.proofs.Lined.{text_of_lines, lines_back}
use Rattle.sap_wave.proofs.Lists.{one_further}
use Rattle.sap_wave.proofs.Told.{Told, is_over, tells}
use Rattle.sap_wave.proofs.Dumping.{dump_reads}

line_text : (l : Line) (f : Form) → IsLine l f → l.text ++ (if l.ended then 10 ∷ [] else []) ≡ form_text f ++ (10 ∷ [])
line_text l f is = ap (λ (b : Bool). l.text ++ (if b then 10 ∷ [] else [])) is.ended ∙ ap (λ (z : List ℕ). z ++ (10 ∷ [])) (sym is.text)

-- the lines on the way to a state
record Way (t : State) (ls : List Line) (done : List Form) : Type 0 where
  forms : List Form
  text : text_of_lines ls ≡ text_of forms
  told : Told t (done ++ forms)

reads_told : (s t : State) (ls : List Line) (done : List Form) → Reads s ls t → Told s done → Way t ls done
reads_told s t [] done same h =
    record { forms = []; text = refl; told = subst (λ (z : State). Told z (done ++ [])) same (subst (Told s) (sym (append-nil done)) h) }
reads_told s t (l ∷ ls) done reads h =
    let f = reads.0 in
    let way = reads_told (after s f) t ls (done ++ (f ∷ [])) reads.3 (tells s f done reads.1.formed reads.2 h) in
    record {
      forms = f ∷ way.forms;
      text = ap (λ (z : List ℕ). z ++ text_of_lines ls) (line_text l f reads.1) ∙ ap (λ (z : List ℕ). (form_text f ++ (10 ∷ [])) ++ z) way.text;
      told = subst (Told t) (sym (one_further done f way.forms)) way.told;
    }

-- where the lines end
record Tells (w : Wave) (forms : List Form) : Type 0 where
  fits : IsFit w
  dump : text_of forms ≡ dump_of w

ends_told : (s : State) (w : Wave) (forms : List Form) → Ends s w → Told s forms → Tells w forms
ends_told (in_block xs o) w forms ends h =
    let whole = is_over xs o forms h.1 ends.0 in
    subst (λ (z : Wave). Tells z forms) (sym ends.1)
    (record {
      fits =
          record {
            variables = h.0;
            begun = let e = ap length whole.are in omega (arith, e);
            numbers = whole.fits;
          };
      dump = ap text_of whole.forms ∙ ap (λ (bs : List (List ℕ)). dump_text xs (get_or bs 0 []) (drop 1 bs)) (sym whole.are);
    })
ends_told _ w forms ends h = absurd ends

pub so_is_reading : (bytes : List ℕ) (w : Wave) → ReadsSo bytes w → IsReading bytes w
so_is_reading bytes w h =
    let way = reads_told before_timescale h.last (lines_of bytes) [] h.lines refl in
    let told = ends_told h.last w way.forms h.ends way.told in
    record { fits = told.fits; is_dump = sym (lines_back bytes) ∙ way.text ∙ told.dump }

pub reading_so : (bytes : List ℕ) (w : Wave) → IsReading bytes w → ReadsSo bytes w
reading_so bytes w h = subst (λ (z : List ℕ). ReadsSo z w) (sym h.is_dump) (dump_reads w h.fits)

pub dumps_read_so : DumpsReadSo
dumps_read_so bytes w = (reading_so bytes w, so_is_reading bytes w)
