-- The function of the table, and its relation.
use Rattle.sap_lemmas.proofs.Common.{◌≡◌, ◌∙◌, ◌≤◌, ℕ, List, [], ◌∷◌, Option, Some, None, Bool, true, false, sym, ap, subst, refl, inl, inr, arith, not, option_and_then, if◌then◌else◌, list_all, digits_value, cases_Bool}
use Rattle.sap_words.specs.Words.{Words, Value, Maker, Row, is_number, is_operand, value_of, made, made_by, row_named, command_of, number_of, are_few_digits, is_run_number}
use Rattle.sap_words.specs.Table.{IsRunNumber, Gives, Makes, IsCommand, ReadsTable}
use Rattle.sap_words.proofs.Rows.{row_found, named}

-- ---- numbers

number_gives : (word : List ℕ) (n : ℕ) → number_of word ≡ Some n → IsRunNumber word n
number_gives word n h =
    elim (cases_Bool (are_few_digits word)) [
      | inl few ↦
          let h1 : (if is_run_number (digits_value 10 word) then Some (digits_value 10 word) else None) ≡ Some n = rw few at h in
          elim (cases_Bool (is_run_number (digits_value 10 word))) [
            | inl fits ↦
                let g : Some (digits_value 10 word) ≡ Some n = rw fits at h1 in
                let e : digits_value 10 word ≡ n = cc in
                subst (IsRunNumber word) e (record {
                  digits = grind (arith, few);
                  at_least_one = grind (arith, few);
                  at_most_four =
                      grind (arith, few);
                  value = refl;
                  some = grind (arith, fits);
                  within = grind (arith, fits);
                })
            | inr not ↦ let g : None ≡ Some n = rw not at h1 in absurd (cc)
          ]
      | inr not ↦ let g : None ≡ Some n = rw not at h in absurd (cc)
    ]

number_is : (word : List ℕ) (n : ℕ) → IsRunNumber word n → number_of word ≡ Some n
number_is word n k =
    let few : are_few_digits word ≡ true = grind (arith, k.digits, k.at_least_one, k.at_most_four) in
    let some : 1 ≤ digits_value 10 word = subst (λ m. 1 ≤ m) k.value k.some in
    let within : digits_value 10 word ≤ 1000 = subst (λ m. m ≤ 1000) k.value k.within in
    let fits : is_run_number (digits_value 10 word) ≡ true = grind (arith, some, within) in
    let whole : number_of word ≡ Some (digits_value 10 word) = rw few (rw fits refl) in
    whole ∙ ap Some (sym k.value)

-- ---- values

gives : (b : Bool) (word : List ℕ) (v : Value b) → value_of b word ≡ Some v → Gives b word v
gives false word v h = let e : word ≡ v = cc in sym e
gives true word n h = number_gives word n h

is_value : (b : Bool) (word : List ℕ) (v : Value b) → Gives b word v → value_of b word ≡ Some v
is_value false word v e = ap Some (sym e)
is_value true word n k = number_is word n k

-- ---- what words make

makes : (operands : List (List ℕ)) (make : Maker operands) (words : List (List ℕ)) (c : Words) → made operands make words ≡ Some c → Makes operands make words c
makes [] make [] c h = cc
makes [] make (word ∷ words) c h = absurd (cc)
makes (operand ∷ operands) make [] c h = absurd (cc)
makes (operand ∷ operands) make (word ∷ words) c h = go (value_of (is_number operand) word) refl (λ v. makes operands (make v) words c) h
  where
    go : (o : Option (Value (is_number operand))) → value_of (is_number operand) word ≡ o
        → ((v : Value (is_number operand)) → made operands (make v) words ≡ Some c → Makes operands (make v) words c)
        → option_and_then (λ v. made operands (make v) words) o ≡ Some c → Makes (operand ∷ operands) make (word ∷ words) c
    go None e rest g = absurd (cc)
    go (Some v) e rest g = (v, gives (is_number operand) word v e, rest v g)

pub is_made : (operands : List (List ℕ)) (make : Maker operands) (words : List (List ℕ)) (c : Words) → Makes operands make words c → made operands make words ≡ Some c
is_made [] make [] c h = ap Some h
is_made [] make (word ∷ words) c h = absurd h
is_made (operand ∷ operands) make [] c h = absurd h
is_made (operand ∷ operands) make (word ∷ words) c h =
    ap (option_and_then (λ v. made operands (make v) words)) (is_value (is_number operand) word h.0 h.1) ∙ is_made operands (make h.0) words c h.2

-- ---- the table

read : (name : List ℕ) (operands : List (List ℕ)) (c : Words) → command_of (name ∷ operands) ≡ Some c → IsCommand (name ∷ operands) c
read name operands c h =
    elim (cases_Bool (list_all is_operand operands)) [
      | inl fit ↦ let g : made_by name operands ≡ Some c = rw fit at h in go (row_named name) refl fit g
      | inr not ↦ let g : None ≡ Some c = rw not at h in absurd (cc)
    ]
  where
    go : (o : Option Row) → row_named name ≡ o → list_all is_operand operands ≡ true
        → option_and_then (λ (r : Row). made r.operands r.make operands) o ≡ Some c → IsCommand (name ∷ operands) c
    go None e fit g = absurd (cc)
    go (Some r) e fit g =
        let f = row_found name r e in
        record { row = r; is_row = f.0; operands = operands; are = ap (λ n. n ∷ operands) f.1; fit = fit; makes = makes r.operands r.make operands c g }

asked : (words : List (List ℕ)) (c : Words) → IsCommand words c → command_of words ≡ Some c
asked words c k =
    let whole : command_of (k.row.name ∷ k.operands) ≡ made_by k.row.name k.operands = rw k.fit refl in
    ap command_of k.are ∙ whole ∙ ap (option_and_then (λ (r : Row). made r.operands r.make k.operands)) (named k.row k.is_row)
    ∙ is_made k.row.operands k.row.make k.operands c k.makes

pub tabled : (words : List (List ℕ)) → ReadsTable words
tabled [] c = ((λ h. absurd (cc)), asked [] c)
tabled (name ∷ operands) c = (read name operands c, asked (name ∷ operands) c)
