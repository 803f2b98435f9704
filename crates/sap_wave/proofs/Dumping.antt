-- The dump of a wave reads so line by line.
use Rattle.sap_lemmas.proofs.Common.{◌≡◌, ℕ, ◌+◌, ◌≤◌, List, [], ◌∷◌, ◌++◌, true, Some, length, map, drop, get_or, refl, sym, ap, ◌∙◌, arith, AllByRecursion}
use Rattle.sap_maps.specs.Ranges.{IsWidth}
use Rattle.sap_wave.specs.Prelude.{Form, OpenBlock, State, before_timescale, declaring, in_block, IsNextBlock, is_full, numbers_in, blocks_of, ReadsSo, Wave, IsFit, AreVariables, NumbersFit, numeral, declarations, changes, blocks_from, head, dump, dump_text, dump_of}
use Rattle.sap_wave.specs.declared.variable.Variable.{Variable}
use Rattle.sap_wave.proofs.Formed.{timescale_plain, scope_plain, upscope_plain, end_definitions_plain, block_plain, numeral_back}
use Rattle.sap_wave.proofs.Going.{Goes, goes_from, goes_on, goes_text}
use Rattle.sap_wave.proofs.Lists.{one_more_of, one_further}
use Rattle.sap_wave.proofs.Declaring.{all_declared}
use Rattle.sap_wave.proofs.Changing.{open_at, Ended, all_set_goes, changes_go}

full : (ns : List ℕ) → is_full (map Some ns) ≡ true
full [] = refl
full (n ∷ ns) = full ns

numbers_back : (ns : List ℕ) → numbers_in (map Some ns) ≡ ns
numbers_back [] = refl
numbers_back (n ∷ ns) = ap (λ l. n ∷ l) (numbers_back ns)

-- where the blocks end
record AllEnded (all : List Variable) (s : State) (fs : List Form) (blocks : List (List ℕ)) : Type 0 where
  last : OpenBlock
  goes : Goes s fs (in_block all last)
  whole : is_full last.now ≡ true
  are : blocks_of last ≡ blocks

blocks_go : (all : List Variable) (n : ℕ) (before : List (List ℕ)) (ms : List ℕ) (next : ℕ) (rest : List (List ℕ)) → AllByRecursion (λ x. IsWidth x.width) all
    → NumbersFit all ms → AllByRecursion (NumbersFit all) rest → n ≡ length before + 1
    → AllEnded all (in_block all (open_at before (map Some ms) next)) (blocks_from n all ms rest) (before ++ (ms ∷ rest))
blocks_go all n before ms next [] w g f e =
    record { last = open_at before (map Some ms) next; goes = refl; whole = full ms; are = ap (λ z. before ++ (z ∷ [])) (numbers_back ms) }
blocks_go all n before ms next (ns ∷ rest) w g f e =
    let takes : IsNextBlock (open_at before (map Some ms) next) (numeral n) = record { full = full ms; in_turn = numeral_back n ∙ e } in
    let begun : in_block all (open_at (before ++ (numbers_in (map Some ms) ∷ [])) (map Some ms) 0) ≡ in_block all (open_at (before ++ (ms ∷ [])) (map Some ms) 0) =
    ap (λ z. in_block all (open_at (before ++ (z ∷ [])) (map Some ms) 0)) (numbers_back ms) in
    let block_ends = changes_go all [] all (before ++ (ms ∷ [])) [] ms ns 0 0 refl refl refl (omega arith) g f.0 w in
    let more = one_more_of before ms in
    let rest_ends =
    blocks_go all (n + 1) (before ++ (ms ∷ [])) ns block_ends.next rest w f.0 f.1 (omega (arith, more, e)) in
    record {
      last = rest_ends.last;
      goes = (
        block_plain n,
        takes,
        goes_from _ _ _ (changes 0 all ms ns ++ blocks_from (n + 1) all ns rest) begun
            (goes_on _ (in_block all (open_at (before ++ (ms ∷ [])) (map Some ns) block_ends.next)) (in_block all rest_ends.last) (changes 0 all ms ns)
            (blocks_from (n + 1) all ns rest) block_ends.goes rest_ends.goes),
      );
      whole = rest_ends.whole;
      are = rest_ends.are ∙ sym (one_further before ms (ns ∷ rest));
    }

pub head_goes : (xs : List Variable) (first : List ℕ) → AreVariables xs → NumbersFit xs first
    → Ended xs before_timescale (head xs first) [] (map Some first)
head_goes xs first v f =
    let set = all_set_goes xs [] xs [] first 0 0 refl refl refl (omega arith) f v.sized in
    record {
      next = set.next;
      goes = (
        timescale_plain,
        tt,
        (
          scope_plain,
          tt,
          goes_on (declaring []) (declaring xs) (in_block xs (open_at [] (map Some first) set.next)) (declarations 0 xs) _ (all_declared xs v.distinct v.named v.sized)
              (upscope_plain, tt, (end_definitions_plain, tt, (block_plain 0, numeral_back 0, set.goes))),
        ),
      );
    }

dump_text_reads : (xs : List Variable) (first : List ℕ) (rest : List (List ℕ)) → AreVariables xs → NumbersFit xs first → AllByRecursion (NumbersFit xs) rest
    → ReadsSo (dump_text xs first rest) (record { variables = xs; blocks = first ∷ rest })
dump_text_reads xs first rest v f g =
    let h = head_goes xs first v f in
    let b = blocks_go xs 1 [] first h.next rest v.sized f g refl in
    record {
      last = in_block xs b.last;
      lines =
          goes_text before_timescale (in_block xs b.last) (dump xs first rest)
          (goes_on before_timescale (in_block xs (open_at [] (map Some first) h.next)) (in_block xs b.last) (head xs first) (blocks_from 1 xs first rest) h.goes b.goes);
      ends = (b.whole, ap (λ z. let w : Wave = record { variables = xs; blocks = z } in w) (sym b.are));
    }

pub dump_reads : (w : Wave) → IsFit w → ReadsSo (dump_of w) w
dump_reads w h = by w.variables w.blocks h.variables h.begun h.numbers where
  by : (xs : List Variable) (blocks : List (List ℕ)) → AreVariables xs → 1 ≤ length blocks → AllByRecursion (NumbersFit xs) blocks
      → ReadsSo (dump_text xs (get_or blocks 0 []) (drop 1 blocks)) (record { variables = xs; blocks = blocks })
  by xs [] v some f = absurd (omega (arith, some))
  by xs (first ∷ rest) v some f = dump_text_reads xs first rest v f.0 f.1
