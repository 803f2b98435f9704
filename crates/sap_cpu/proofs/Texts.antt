-- The lines of both users, one behind the other; and those of a stimulus.
use Rattle.std.proofs.Common.{◌≡◌, ℕ, zero, suc, ◌+◌, ◌*◌, ◌<◌, List, [], ◌∷◌, ◌++◌, length, take, get_or, sym, ap, ap₂, ◌∙◌, add-one, append_assoc, arith}
use Rattle.std.specs.Fmt.{decimal}
use Rattle.std.specs.Prelude.{codes}
use Rattle.std.proofs.lemmas.List.{append-nil, take_all}
use Rattle.sap_text.specs.Places.{line_end}
use Rattle.sap_machine.specs.declared.user.User.TheVariants.{A, B}
use Rattle.sap_machine.specs.Table.{UserState}
use Rattle.sap_machine.specs.Text.{stimulus_text, user_line, users_text, word_line, word_lines}
use Rattle.sap_cpu.specs.Views.{CpuSeen, IsAfter, state_of, word_at}

pub both_lines : (a b : List ℕ) (n : ℕ) (cpu : CpuSeen) (none one two : List ℕ) → IsAfter (word_at a) (word_at b) n cpu → none ≡ []
    → one ≡ none ++ user_line (codes "a") (state_of cpu A) → two ≡ one ++ user_line (codes "b") (state_of cpu B) → two ≡ users_text a b n
unfolding users_text
both_lines a b n cpu none one two is nothing first second =
    second ∙ ap (λ (l : List ℕ). l ++ user_line (codes "b") (state_of cpu B)) (first ∙ ap (λ (l : List ℕ). l ++ user_line (codes "a") (state_of cpu A)) nothing)
    ∙ ap₂ (λ (x y : UserState). user_line (codes "a") x ++ user_line (codes "b") y) is.first is.second

-- so many words of both lists, a line each
pub one_line_more : (a b : List ℕ) (i : ℕ) → i < length a → i < length b
    → word_lines (take (suc i) a) (take (suc i) b) ≡ word_lines (take i a) (take i b) ++ word_line (get_or a i 0) (get_or b i 0)
one_line_more [] b i ha hb = absurd (omega arith)
one_line_more (x ∷ a) [] i ha hb = absurd (omega arith)
one_line_more (x ∷ a) (y ∷ b) zero ha hb = append-nil (word_line x y)
one_line_more (x ∷ a) (y ∷ b) (suc i) ha hb =
    ap (λ (l : List ℕ). word_line x y ++ l) (one_line_more a b i (omega arith) (omega arith))
    ∙ sym (append_assoc (word_line x y) (word_lines (take i a) (take i b)) (word_line (get_or a i 0) (get_or b i 0)))

-- the lines of the first i words
pub record Written (a b : List ℕ) (i : ℕ) (out : List ℕ) : Type 0 where
  pub text : out ≡ word_lines (take i a) (take i b)
  pub size_a : length a ≡ 16
  pub size_b : length b ≡ 16

pub written_more : (a b : List ℕ) (i : ℕ) (out later : List ℕ) → i < 16 → Written a b i out → later ≡ out ++ word_line (get_or a i 0) (get_or b i 0) → Written a b (i + 1) later
written_more a b i out later below w is = record {
  text = is ∙ ap (λ (l : List ℕ). l ++ word_line (get_or a i 0) (get_or b i 0)) w.text
      ∙ sym (one_line_more a b i (omega (arith, w.size_a)) (omega (arith, w.size_b))) ∙ ap (λ n. word_lines (take n a) (take n b)) (sym (add-one i));
  size_a = w.size_a;
  size_b = w.size_b;
}

pub all_written : (a b a' b' : List ℕ) (n m : ℕ) (out one two three : List ℕ) → Written a b 16 out → a ≡ a' → b ≡ b' → m ≡ 1 + 6 * n
    → one ≡ out ++ codes "0@low 0@low *" → two ≡ one ++ decimal m → three ≡ two ++ line_end
    → three ≡ stimulus_text a' b' n
unfolding stimulus_text
all_written a b a' b' n m out one two three w is_a is_b is_m first second third =
    let head : List ℕ = codes "0@low 0@low *" in
    let lines : out ≡ word_lines a' b' = w.text ∙ ap₂ word_lines (take_all 16 a (omega (arith, w.size_a)) ∙ is_a) (take_all 16 b (omega (arith, w.size_b)) ∙ is_b) in
    third ∙ ap (λ (l : List ℕ). l ++ line_end) (second ∙ ap₂ (λ (l d : List ℕ). l ++ d) (first ∙ ap (λ (l : List ℕ). l ++ head) lines) (ap decimal is_m))
    ∙ ap (λ (l : List ℕ). l ++ line_end) (append_assoc (word_lines a' b') head (decimal (1 + 6 * n)))
    ∙ append_assoc (word_lines a' b') (head ++ decimal (1 + 6 * n)) line_end
