use Rattle.sap_lemmas.proofs.Common.{◌≡◌, ◌∙◌, List, ℕ, ap, sym, arith, rules, is_some, false}
use Rattle.indexmap.proofs.CallerLemmas.{insert_entry-new}
use Rattle.sap_names.specs.Index.{under}
use Rattle.sap_names.proofs.Numbers.{numbers_added, numbers_passed, under_none}
use Rattle.sap_names.proofs.entities.numbers.Goals as goal
use Rattle.sap_names.proofs.entities.numbers.Goals.{then-not-contains_key+in_ok-key+in_ok-insert, else-not-contains_key}

pub loop-number-preserved : goal.loop-number-preserved
loop-number-preserved c = elim c.if-not-contains_key.branch [
  | then-not-contains_key+in_ok-key+in_ok-insert w ↦
      (let key : w.in_ok-key.key.items ≡ c.index-entities-number.result.name.name = search rules in
      let absent : is_some (under c.loop-number.map.entries c.index-entities-number.result.name.name) ≡ false =
      ap (λ (l : List ℕ). is_some (under c.loop-number.map.entries l)) (sym c.as_bytes.ensures) ∙ sym c.contains_key.ensures ∙ w.if-not-contains_key.true in
      numbers_added c.args.entities.now c.loop-number.number c.index-entities-number.result c.loop-number.map.entries _ w.in_ok-key.key (omega arith) c.index-entities-number.is key
      (ap (λ m. m.entries) w.map-is ∙ w.in_ok-insert.ensures.entries
      ∙ insert_entry-new _ c.loop-number.map w.in_ok-key.key c.loop-number.number (under_none c.loop-number.map.entries _ _ key absent))
      c.loop-number.invariant)
  | else-not-contains_key w ↦
      numbers_passed c.args.entities.now c.loop-number.number c.index-entities-number.result c.loop-number.map.entries _ (omega arith) c.index-entities-number.is
      (ap (λ (l : List ℕ). is_some (under c.loop-number.map.entries l)) (sym c.as_bytes.ensures) ∙ sym c.contains_key.ensures ∙ w.if-not-contains_key.false)
      (ap (λ m. m.entries) w.map-is) c.loop-number.invariant
]
