use Rattle.sap_lemmas.proofs.Common.{◌≡◌, ◌+◌, ◌-◌, ◌<◌, ℕ, List, Ok, true, take, drop, length, refl, sym, ap, ◌∙◌, slice_set, arith, after_first, before_first, position_or_len, length-set, length-drop, take_all, take_more_set}
use Rattle.sap_stim.specs.Line.{fields_of, is_starred}
use Rattle.sap_stim.proofs.EachField.{read_more, enough_more, read_begins, nothing_read, read_ends}
use Rattle.sap_stim.proofs.FromLeft.{EndsAhead, field_given, last_ahead, none_left, left_behind, fields_with, fields_before, piece_same, starred_some}
use Rattle.sap_stim.proofs.Marks.{front_length, line, next_rest}
use Rattle.sap_stim.proofs.Pieces.{is_mark}
use Rattle.sap_stim.proofs.along.read_ahead.Goals as goal
use Rattle.sap_stim.proofs.along.read_ahead.Goals.{Else-is_starred}

-- what a slice from a place on is
from : (s : List ℕ) (at : ℕ) → take (length s - at) (drop at s) ≡ drop at s
from s at = take_all (length s - at) (drop at s) (let l = length-drop at s in omega arith)

pub loop-k-init : goal.loop-k-init
loop-k-init c =
    let l = line c.args.text.now in
    record {
      within = omega arith;
      left = none_left l;
      read = λ e. (nothing_read c.args.lattice.now c.args.fields.now _ l refl e, (read_begins c.args.lattice.now c.args.fields.now l e).1);
    }

pub loop-k-preserved : goal.loop-k-preserved
loop-k-preserved c =
    let s = c.args.text.now in
    let at = c.loop-k.at in
    let size = c.in_ok-input.size in
    let rest = from s at in
    let field : size ≡ position_or_len (is_mark 32) (line (drop at s)) = c.in_ok-input.ensures.end ∙ ap (λ (l : List ℕ). position_or_len (is_mark 32) (line l)) rest in
    let more : size < position_or_len (is_mark 10) (drop at s) = omega (arith, c.if-ends_line.ensures.more refl, ap (position_or_len (is_mark 10)) rest) in
    let next = next_rest s at size c.loop-k.invariant.within field more in
    let first : List ℕ = before_first (is_mark 32) (line (drop at s)) in
    record {
      within = next.0;
      left = left_behind (line s) c.loop-k.k (line (drop at s)) first _ c.loop-k.invariant.left refl next.1
          (omega (arith, field, more, front_length 10 (drop at s), front_length 32 (line (drop at s))));
      read = λ e.
          let so_far = c.loop-k.invariant.read e in (
            read_more c.args.lattice.now c.args.fields.now c.loop-k.k _ _ _ (line (drop at s)) first _ c.in_ok-input.input
                c.loop-k-test.true so_far.1 (field_given c.args.lattice.now c.args.fields.now c.loop-k.k _ c.in_ok-input.input _ (drop at s)
                rest c.in_ok-input.ensures.given) refl next.1
                (take_more_set c.loop-k.inputs c.loop-k.k c.in_ok-input.input (omega (arith, c.loop-k.auto.inputs, c.requires.places, c.loop-k-test.true)))
                ∙ so_far.0,
            enough_more c.args.fields.now c.loop-k.k (line (drop at s)) _ c.loop-k-test.true so_far.1 next.1,
          );
    }

-- the last field is the last piece
whole_last : (c : Else-is_starred) → EndsAhead c.args.text.now c.loop-k.k c.loop-k.at c.in_ok-input.size
whole_last c =
    last_ahead c.args.text.now c.loop-k.k c.loop-k.at c.in_ok-input.size _ (from c.args.text.now c.loop-k.at)
    c.loop-k.invariant.left c.loop-k.invariant.within c.in_ok-input.ensures.end (c.if-ends_line.ensures.whole refl)

whole_count : (c : Else-is_starred) → length (fields_of (line c.args.text.now)) ≡ length c.args.fields.now
whole_count c =
    let s = c.args.text.now in
    let ends = whole_last c in
    fields_with (line s) c.loop-k.k _ (omega (arith, front_length 10 s, ends.1, c.if-size-lt1.false)) ends.0
    (ap is_starred (piece_same s c.loop-k.at c.in_ok-input.size _ (from s c.loop-k.at)) ∙ sym c.is_starred.ensures ∙ c.if-is_starred.false)
    ∙ omega (arith, c.loop-k-test.true, c.if-k-fields.false)

pub returns-then-ends_line-clause-end : goal.returns-then-ends_line-clause-end
returns-then-ends_line-clause-end c = (whole_last c).1

pub returns-then-ends_line-clause-last : goal.returns-then-ends_line-clause-last
returns-then-ends_line-clause-last c = let last = (whole_last c).0 in (last.0, last.2)

pub returns-then-ends_line-clause-count : goal.returns-then-ends_line-clause-count
returns-then-ends_line-clause-count c = whole_count c

pub returns-then-ends_line-clause-given : goal.returns-then-ends_line-clause-given
returns-then-ends_line-clause-given c =
    let ls = c.args.lattice.now in
    let fs = c.args.fields.now in
    let k = c.loop-k.k in
    let s = c.args.text.now in
    let at = c.loop-k.at in
    let rest : List ℕ = line (drop at s) in
    let new = slice_set c.loop-k.inputs k c.in_ok-input.input in
    let so_far = c.loop-k.invariant.read (whole_count c) in
    ap Ok (sym (take_all (k + 1) new (omega (arith, length-set c.loop-k.inputs k c.in_ok-input.input, c.loop-k.auto.inputs, c.requires.places, c.if-k-fields.false))))
    ∙ sym (read_ends ls fs (k + 1) (take (k + 1) new) (after_first (is_mark 32) rest) c.if-k-fields.false)
    ∙ read_more ls fs k _ (take k c.loop-k.inputs) (take (k + 1) new) rest (before_first (is_mark 32) rest) (after_first (is_mark 32) rest) c.in_ok-input.input
    c.loop-k-test.true so_far.1 (field_given ls fs k _ c.in_ok-input.input _ (drop at s) (from s at) c.in_ok-input.ensures.given) refl refl
    (take_more_set c.loop-k.inputs k c.in_ok-input.input (omega (arith, c.loop-k.auto.inputs, c.requires.places, c.loop-k-test.true)))
    ∙ so_far.0

pub returns-clause-end : goal.returns-clause-end
returns-clause-end c =
    (last_ahead c.args.text.now c.loop-k.k c.loop-k.at c.field_len-size.result _ (from c.args.text.now c.loop-k.at)
    c.loop-k.invariant.left c.loop-k.invariant.within c.field_len-size.ensures.end (c.if-not-ends_line.ensures.whole refl)).1

pub returns-clause-last : goal.returns-clause-last
returns-clause-last c =
    let ends : EndsAhead c.args.text.now c.loop-k.k c.loop-k.at c.field_len-size.result =
    last_ahead c.args.text.now c.loop-k.k c.loop-k.at c.field_len-size.result _ (from c.args.text.now c.loop-k.at)
    c.loop-k.invariant.left c.loop-k.invariant.within c.field_len-size.ensures.end (c.if-not-ends_line.ensures.whole refl) in
    (ends.0.0, ends.0.2)

pub returns-clause-count : goal.returns-clause-count
returns-clause-count c =
    let s = c.args.text.now in
    let at = c.loop-k.at in
    let size = c.field_len-size.result in
    let ends : EndsAhead s c.loop-k.k at size =
    last_ahead s c.loop-k.k at size _ (from s at) c.loop-k.invariant.left c.loop-k.invariant.within c.field_len-size.ensures.end (c.if-not-ends_line.ensures.whole refl) in
    let starred : is_starred (take size (take (length s - at) (drop at s))) ≡ true = sym c.is_starred-2.ensures ∙ c.if-not-is_starred.false in
    fields_before (line s) c.loop-k.k _ (omega (arith, front_length 10 s, ends.1, starred_some size _ starred)) ends.0
    (ap is_starred (piece_same s at size _ (from s at)) ∙ starred)
    ∙ omega (arith, c.loop-k-test.false, c.loop-k.auto.k-end)

pub returns-clause-given : goal.returns-clause-given
returns-clause-given c =
    let s = c.args.text.now in
    let at = c.loop-k.at in
    let size = c.field_len-size.result in
    let ends : EndsAhead s c.loop-k.k at size =
    last_ahead s c.loop-k.k at size _ (from s at) c.loop-k.invariant.left c.loop-k.invariant.within c.field_len-size.ensures.end (c.if-not-ends_line.ensures.whole refl) in
    let starred : is_starred (take size (take (length s - at) (drop at s))) ≡ true = sym c.is_starred-2.ensures ∙ c.if-not-is_starred.false in
    let count : length (fields_of (line s)) ≡ length c.args.fields.now =
    fields_before (line s) c.loop-k.k _ (omega (arith, front_length 10 s, ends.1, starred_some size _ starred)) ends.0
    (ap is_starred (piece_same s at size _ (from s at)) ∙ starred)
    ∙ omega (arith, c.loop-k-test.false, c.loop-k.auto.k-end) in
    ap Ok (sym (take_all c.loop-k.k c.loop-k.inputs (omega (arith, c.loop-k.auto.inputs, c.requires.places, c.loop-k-test.false))))
    ∙ sym (read_ends c.args.lattice.now c.args.fields.now c.loop-k.k _ (line (drop at s)) c.loop-k-test.false)
    ∙ (c.loop-k.invariant.read count).0
