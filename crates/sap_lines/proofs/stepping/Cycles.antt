-- The cycles of a line, one after another.
use Rattle.sap_lemmas.proofs.Common.{◌≡◌, ℕ, ◌+◌, ◌-◌, ◌<◌, ◌≤◌, List, [], ◌∷◌, ◌++◌, length, replicate, take, append_assoc, refl, sym, ◌∙◌, ap, subst, inl, inr, arith, length-append, Option, cases_lt, append-nil, length-replicate, take_all, take-append-le}
use Rattle.std.proofs.lemmas.List.{replicate-append-replicate, replicate_more}
use Rattle.sap_desk.specs.Desk.{Told}
use Rattle.sap_desk.specs.Whole.{CutOutput}
use Rattle.sap_meaning.specs.Cycle.{Tagged as Given}
use Rattle.sap_stream.specs.Spans.{Span, cycles_in}
use Rattle.sap_lines.specs.Stepping.Cycles.{Adds, AddsAlong, CyclesCut, CyclesShown}
use Rattle.sap_lines.specs.Stepping.Pace.{Shows}
use Rattle.sap_pieces.specs.Written.{PartWritten}
use Rattle.sap_pieces.proofs.Written.{written_behind, written_then}
use Rattle.sap_lines.proofs.stepping.Pieces.{cut_then}

-- what was written behind that

module _ (behind : List (List Given) → Type 0) (shows later : Shows) (count : ℕ) (waited waits : List ℕ) (before mid after : Option Told) where
  pub shown_then : (cycles : List (List Given)) (left : List ℕ) → CyclesShown behind shows later count cycles waited waits before mid → PartWritten 1 waits left mid after
      → CyclesShown behind shows later count cycles waited left before after
  shown_then cycles left so wrote = record {
    text = so.text;
    adds = so.adds;
    along = so.along;
    written = written_then 1 (waited ++ so.text) waits before mid so.written left after wrote;
  }

  pub cut_last : (line : Span) → CyclesShown behind shows later count (cycles_in line) waited waits before mid → CutOutput waits mid after
      → CyclesCut behind shows later count line waited before after
  cut_last line so failed = record {
    first = line.count;
    within = omega arith;
    text = so.text;
    adds = so.adds;
    cut = cut_then (waited ++ so.text) waits before mid after so.written failed;
  }

-- before the first cycle
pub none_shown : (behind : List (List Given) → Type 0) (shows : Shows) (count : ℕ) (x : List Given) (waits : List ℕ) (now : Option Told)
    → CyclesShown behind shows shows count (replicate 0 x) waits waits now now
none_shown behind shows count x waits now = record {
  text = [];
  adds = none_added;
  along = λ first. ([], [], subst (λ (cycles : List (List Given)). Adds behind shows shows count cycles []) (sym (take_all first [] (omega arith))) none_added, refl);
  written = record { part = []; whole = sym (append-nil waits); told = inl (refl, refl) };
} where
  none_added : Adds behind shows shows count [] []
  none_added cycles shown h many is_shown =
      subst (λ (all : List (List Given)). shows all (shown ++ [])) (sym (append-nil cycles)) (subst (shows cycles) (sym (append-nil shown)) is_shown)

-- as many cycles as the line has
pub all_shown : (behind : List (List Given) → Type 0) (shows later : Shows) (count n : ℕ) (line : Span) (waited waits : List ℕ) (before after : Option Told) → n ≡ line.count
    → CyclesShown behind shows later count (replicate n line.inputs) waited waits before after → CyclesShown behind shows later count (cycles_in line) waited waits before after
all_shown behind shows later count n line waited waits before after is so =
    subst (λ (k : ℕ). CyclesShown behind shows later count (replicate k line.inputs) waited waits before after) is so

-- one more

cycle_more : (cycles : List (List Given)) (x : List Given) (i : ℕ) → (cycles ++ replicate i x) ++ x ∷ [] ≡ cycles ++ replicate (i + 1) x
cycle_more cycles x i = append_assoc cycles (replicate i x) (x ∷ []) ∙ ap (λ (xs : List (List Given)). cycles ++ xs) (replicate_more i x)

pub behind_more : (behind now after : List (List Given) → Type 0) (x line : List Given) (i : ℕ) → line ≡ x
    → ((cycles : List (List Given)) → behind cycles → now (cycles ++ replicate i x))
    → ((cycles : List (List Given)) → now cycles → after (cycles ++ line ∷ [])) → (cycles : List (List Given)) → behind cycles → after (cycles ++ replicate (i + 1) x)
behind_more behind now after x line i same so step cycles h =
    subst after (cycle_more cycles x i) (subst (λ (l : List Given). after ((cycles ++ replicate i x) ++ l ∷ [])) same (step (cycles ++ replicate i x) (so cycles h)))

module _ (behind now : List (List Given) → Type 0) (shows later last : Shows) (count cycle i : ℕ) (x line : List Given)
    (waited waits text : List ℕ) (before mid after : Option Told)
    (same : line ≡ x) (stands : (cycles : List (List Given)) → behind cycles → now (cycles ++ replicate i x)) (is : cycle ≡ count + i)
    (step : Adds now later last cycle (line ∷ []) text)
    (so : CyclesShown behind shows later count (replicate i x) waited waits before mid) where
  adds_more : Adds behind shows last count (replicate (i + 1) x) (so.text ++ text)
  adds_more cycles shown h many is_shown =
      let so_far : List (List Given) = cycles ++ replicate i x in
      let size : length so_far ≡ length cycles + length (replicate i x) = length-append cycles (replicate i x) in
      let here : last (so_far ++ line ∷ []) ((shown ++ so.text) ++ text)
      = step so_far (shown ++ so.text) (stands cycles h) (omega (arith, size, length-replicate i x, is, many)) (so.adds cycles shown h many is_shown) in
      subst (λ (all : List (List Given)). last all (shown ++ (so.text ++ text))) (cycle_more cycles x i)
      (subst (λ (l : List Given). last (so_far ++ l ∷ []) (shown ++ (so.text ++ text))) same
      (subst (last (so_far ++ line ∷ [])) (append_assoc shown so.text text) here))

  written_so : PartWritten 1 (waited ++ (so.text ++ text)) (waits ++ text) before mid
  written_so =
      subst (λ (l : List ℕ). PartWritten 1 l (waits ++ text) before mid) (append_assoc waited so.text text) (written_behind 1 (waited ++ so.text) waits text before mid so.written)

  along_more : ((cycles : List (List Given)) (shown : List ℕ) → last cycles shown → shows cycles shown) → AddsAlong behind shows count (replicate (i + 1) x) (so.text ++ text)
  along_more back first = elim (cases_lt i first) [
    | inl all ↦ (
      so.text ++ text,
      [],
      subst (λ (cycles : List (List Given)). Adds behind shows shows count cycles (so.text ++ text))
          (sym (take_all first (replicate (i + 1) x) (omega (arith, all, length-replicate (i + 1) x))))
          (λ cycles shown h many is_shown. back (cycles ++ replicate (i + 1) x) (shown ++ (so.text ++ text)) (adds_more cycles shown h many is_shown)),
      sym (append-nil (so.text ++ text)),
    )
    | inr few ↦
        let (part, more, adds, is) = so.along first in
        let same : take first (replicate (i + 1) x) ≡ take first (replicate i x)
        = ap (take first) (sym (replicate_more i x)) ∙ take-append-le first (replicate i x) (x ∷ []) (omega (arith, few, length-replicate i x)) in (
          part,
          more ++ text,
          subst (λ (cycles : List (List Given)). Adds behind shows shows count cycles part) (sym same) adds,
          ap (λ (l : List ℕ). l ++ text) is ∙ append_assoc part more text,
        )
  ]

  pub shown_more : ((cycles : List (List Given)) (shown : List ℕ) → last cycles shown → shows cycles shown) → (left : List ℕ) → PartWritten 1 (waits ++ text) left mid after
      → CyclesShown behind shows last count (replicate (i + 1) x) waited left before after
  shown_more back left wrote = record {
    text = so.text ++ text;
    adds = adds_more;
    along = along_more back;
    written = written_then 1 (waited ++ (so.text ++ text)) (waits ++ text) before mid written_so left after wrote;
  }

  pub cut_more : (n : ℕ) → i < n → CutOutput (waits ++ text) mid after → CyclesCut behind shows last count (record { inputs = x; count = n }) waited before after
  cut_more n below failed = record {
    first = i + 1;
    within = omega arith;
    text = so.text ++ text;
    adds = adds_more;
    cut = cut_then (waited ++ (so.text ++ text)) (waits ++ text) before mid after written_so failed;
  }

-- the first cycles of a line and the others
pub cycles_cut : (cycles rest : List (List Given)) (line : Span) (first : ℕ) → first ≤ line.count
    → (cycles ++ cycles_in line) ++ rest ≡ (cycles ++ replicate first line.inputs) ++ (replicate (line.count - first) line.inputs ++ rest)
cycles_cut cycles rest line first within =
    let sum : first + (line.count - first) ≡ line.count = omega arith in
    let both : replicate first line.inputs ++ replicate (line.count - first) line.inputs ≡ cycles_in line
    = replicate-append-replicate first (line.count - first) line.inputs ∙ ap (λ (n : ℕ). replicate n line.inputs) sum in
    ap (λ (xs : List (List Given)). (cycles ++ xs) ++ rest) (sym both)
    ∙ ap (λ (xs : List (List Given)). xs ++ rest) (sym (append_assoc cycles (replicate first line.inputs) (replicate (line.count - first) line.inputs)))
    ∙ append_assoc (cycles ++ replicate first line.inputs) (replicate (line.count - first) line.inputs) rest
