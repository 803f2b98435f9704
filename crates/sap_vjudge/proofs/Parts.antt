-- The sum of the widths of parts, one after another.
use Rattle.sap_lemmas.proofs.Common.{◌≡◌, ◌∙◌, ℕ, ◌+◌, ◌<◌, ◌≤◌, List, length, get_or, drop, refl, sym, ap, arith, Option, Some, None, drop_all}
use Rattle.sap_vtext.specs.Names.{Known}
use Rattle.sap_vtext.specs.Widths.{add_widths, parts_width, operand_width}
use Rattle.sap_vparse.specs.declared.items.Operand.{Operand}
use Rattle.sap_vparse.specs.Views.{operand_of, operands_of}
use Rattle.sap_vjudge.proofs.Loops.{here}

pub add_widths-zero : (o : Option ℕ) → add_widths (Some 0) o ≡ o
add_widths-zero None = refl
add_widths-zero (Some w) = ap (λ (n : ℕ). Some n) (omega arith)

add_some : (s w : ℕ) (o : Option ℕ) → add_widths (Some s) (add_widths (Some w) o) ≡ add_widths (Some (s + w)) o
add_some s w None = refl
add_some s w (Some v) = ap (λ (n : ℕ). Some n) (omega arith)

module _ (k : Known) (xs : List Operand) (n : ℕ) (s : ℕ) (all : Option ℕ) (so_far : add_widths (Some s) (parts_width k (operands_of (drop n xs))) ≡ all) where
  part : (d : Operand) (w : Option ℕ) → n < length xs → d ≡ get_or xs n d → w ≡ operand_width k (operand_of d)
      → add_widths (Some s) (add_widths w (parts_width k (operands_of (drop (n + 1) xs)))) ≡ all
  part d w h is width =
      ap (λ (v : Option ℕ). add_widths (Some s) (add_widths v (parts_width k (operands_of (drop (n + 1) xs))))) width
      ∙ ap (λ (ys : List Operand). add_widths (Some s) (parts_width k (operands_of ys))) (sym (here xs n d h is)) ∙ so_far

  -- a part without a width
  pub part_none : (d : Operand) → n < length xs → d ≡ get_or xs n d → None ≡ operand_width k (operand_of d) → None ≡ all
  part_none d h is width = part d None h is width

  -- one with a width
  pub part_some : (d : Operand) (w : ℕ) → n < length xs → d ≡ get_or xs n d → Some w ≡ operand_width k (operand_of d)
      → add_widths (Some (s + w)) (parts_width k (operands_of (drop (n + 1) xs))) ≡ all
  part_some d w h is width = sym (add_some s w (parts_width k (operands_of (drop (n + 1) xs)))) ∙ part d (Some w) h is width

  pub part_end : length xs ≤ n → Some s ≡ all
  part_end h =
      let last : s ≡ s + 0 = omega arith in
      ap (λ (m : ℕ). Some m) last ∙ ap (λ (ys : List Operand). add_widths (Some s) (parts_width k (operands_of ys))) (sym (drop_all n xs h)) ∙ so_far

pub ruleset parts = (add_widths-zero)
