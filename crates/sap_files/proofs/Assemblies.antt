-- A text in assembly stands for one list of words, or is refused for one reason.
use Rattle.sap_lemmas.proofs.Common.{◌≡◌, ℕ, List, sym, ◌∙◌, ap, Ok, Err}
use Rattle.sap_machine.specs.Assembly.{Assembled, assembled}
use Rattle.sap_machine.specs.declared.fault.AsmFault.{AsmFault}
use Rattle.sap_files.specs.Prelude.{asm_refused, IsLawful, assembly_file}

one_words : (x : Assembled) (v w : List ℕ) → x ≡ Ok v → x ≡ Ok w → v ≡ w
one_words x v w is was = cc

one_fault : (x : Assembled) (f g : AsmFault) → x ≡ Err f → x ≡ Err g → f ≡ g
one_fault x f g is was = cc

words_or_fault : (x : Assembled) (v : List ℕ) (f : AsmFault) → x ≡ Ok v → x ≡ Err f → ⊥
words_or_fault x v f is was = cc

pub assembly_lawful : (place : ℕ) → IsLawful (assembly_file place)
assembly_lawful place = record {
  one_value = λ text v w is was. one_words (assembled text) v w is was;
  one_reason = λ text why other (fault, is, stands) (fault', was, stands').
      is ∙ ap (asm_refused place) (one_fault (assembled text) fault fault' stands stands') ∙ sym was;
  not_both = λ text v why is (fault, was, stands). words_or_fault (assembled text) v fault is stands;
}
