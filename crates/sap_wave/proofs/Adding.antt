-- The head and the blocks of a dump add up to the dump.
use Rattle.sap_lemmas.proofs.Common.{◌≡◌, ℕ, ◌+◌, List, [], ◌∷◌, ◌++◌, length, map, refl, sym, ap, ◌∙◌, arith, append_assoc, append-nil, map-append, length_map}
use Rattle.sap_maps.specs.Maps.{Valuation}
use Rattle.sap_net.specs.Net.{Net}
use Rattle.sap_wave.specs.declared.variable.Variable.{Variable}
use Rattle.sap_wave.specs.Prelude.{Form, text_of, block_of, blocks_from, dump_text, head, last_among, initial_numbers, numbers_after, run_dump, variables_of, Dumping, IsAfter, BlocksAddUp, with_block, last_numbers}
use Rattle.sap_wave.proofs.Blocks.{blocks_more, last_more}
use Rattle.sap_wave.proofs.WrittenLines.{text_append}
use Rattle.sap_wave.proofs.Lists.{one_more_of}

text_more : (xs : List Variable) (first : List ℕ) (rest : List (List ℕ)) (after : List ℕ)
    → dump_text xs first (rest ++ (after ∷ [])) ≡ dump_text xs first rest ++ text_of (block_of (1 + length rest) xs (last_among first rest) after)
text_more xs first rest after =
    let block = block_of (1 + length rest) xs (last_among first rest) after in
    ap (λ (fs : List Form). text_of (head xs first ++ fs)) (blocks_more 1 xs first rest after)
    ∙ ap text_of (sym (append_assoc (head xs first) (blocks_from 1 xs first rest) block))
    ∙ text_append (head xs first ++ blocks_from 1 xs first rest) block

cycles_more : (n : Net) (vs : List Valuation) (v : Valuation) → map (numbers_after n) (vs ++ (v ∷ [])) ≡ map (numbers_after n) vs ++ (numbers_after n v ∷ [])
cycles_more n vs v = map-append (numbers_after n) vs (v ∷ [])

run_more : (n : Net) (vs : List Valuation) (v : Valuation) (d : Dumping) → IsAfter n vs d
    → run_dump n (vs ++ (v ∷ [])) ≡ run_dump n vs ++ (with_block d (numbers_after n v)).block
run_more n vs v d a =
    let rest = map (numbers_after n) vs in
    let count : 1 + length rest ≡ d.count + 1 = let l = length_map (numbers_after n) vs in let e = a.count in omega (arith, l, e) in
    ap (dump_text (variables_of n) (initial_numbers n)) (cycles_more n vs v)
    ∙ text_more (variables_of n) (initial_numbers n) rest (numbers_after n v)
    ∙ ap (λ (k : ℕ). run_dump n vs ++ text_of (block_of k (variables_of n) (last_numbers n vs) (numbers_after n v))) count
    ∙ ap (λ (xs : List Variable). run_dump n vs ++ text_of (block_of (d.count + 1) xs (last_numbers n vs) (numbers_after n v))) (sym a.variables)
    ∙ ap (λ (ns : List ℕ). run_dump n vs ++ text_of (block_of (d.count + 1) d.variables ns (numbers_after n v))) (sym a.last)

after_more : (n : Net) (vs : List Valuation) (v : Valuation) (d : Dumping) → IsAfter n vs d → IsAfter n (vs ++ (v ∷ [])) (with_block d (numbers_after n v))
after_more n vs v d a =
    record {
      variables = a.variables;
      first = a.first;
      last = sym (ap (last_among (initial_numbers n)) (cycles_more n vs v) ∙ last_more (initial_numbers n) (map (numbers_after n) vs) (numbers_after n v));
      count = let e = a.count in let m = one_more_of vs v in omega (arith, e, m);
    }

pub blocks_add_up : (n : Net) → BlocksAddUp n
blocks_add_up n =
    record {
      begins = (
        record { variables = refl; first = refl; last = refl; count = refl },
        ap text_of (append-nil (head (variables_of n) (initial_numbers n))),
      );
      goes_on = λ vs v d a. (after_more n vs v d a, run_more n vs v d a);
    }
