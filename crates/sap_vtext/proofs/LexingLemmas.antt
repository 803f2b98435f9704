-- On what stands in Lexing: what several crates cite.
use Rattle.sap_lemmas.proofs.Common.{List, [], refl, ℕ, ◌≡◌, list_any, bytes_eq}
use Rattle.sap_vtext.specs.Lexing.{bad, front, word_text, words}
use Rattle.sap_net.specs.Names.{is_keyword}

pub front_at_end : front [] ≡ bad
unfolding front
front_at_end = refl

pub keywords_are : (n : List ℕ) → list_any (λ w. bytes_eq n (word_text w)) words ≡ is_keyword n
keywords_are n = refl
