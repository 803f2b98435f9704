-- For how many cycles a line stands, by its last piece.
use Rattle.sap_lemmas.proofs.Common.{◌≡◌, ℕ, ◌-◌, Bool, true, false, Some, None, Result, Ok, Err, cond, List, [], ◌∷◌, length, drop, take, sym, ap, ◌∙◌, arith, digits_value, take_all, length-drop}
use Rattle.sap_stim.specs.declared.fault.StimCode.{StimCode}
use Rattle.sap_stim.specs.declared.fault.StimCode.TheVariants.{S6}
use Rattle.sap_stim.specs.Line.{is_starred, count_in, is_count, count_of}

abbrev pub digits_count : List ℕ → Result ℕ StimCode
digits_count digits = cond (is_count digits) (Ok (digits_value 10 digits)) (Err S6)

pub without_count : (piece : List ℕ) (b : Bool) → b ≡ is_starred piece → b ≡ false → Ok 1 ≡ count_of (count_in (piece ∷ []))
without_count piece b e is = sym (ap (λ (t : Bool). count_of (cond t (Some piece) None)) (sym e ∙ is))

pub with_count : (piece : List ℕ) (b : Bool) (r : Result ℕ StimCode) → b ≡ is_starred piece → b ≡ true
    → r ≡ digits_count (take (length piece - 1) (drop 1 piece)) → r ≡ count_of (count_in (piece ∷ []))
with_count piece b r e is read =
    let digits : take (length piece - 1) (drop 1 piece) ≡ drop 1 piece = take_all (length piece - 1) (drop 1 piece) (let l = length-drop 1 piece in omega arith) in
    read ∙ ap digits_count digits ∙ sym (ap (λ (t : Bool). count_of (cond t (Some piece) None)) (sym e ∙ is))
