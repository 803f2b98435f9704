use Rattle.std.proofs.Common.{◌≡◌, ℕ, ◌++◌, ◌∷◌, [], length, drop}
use Rattle.sap_maps.specs.Maps.{Name}
use Rattle.sap_net.specs.Net.{Net}
use Rattle.sap_build.specs.Writing.{grown}
use Rattle.sap_taint_pass.specs.Tainted.{joins}
use Rattle.sap_taint_pass.specs.Helping.{helping_name}
use Rattle.sap_taint_pass.specs.Helped.{help_from, Helped}
use Rattle.sap_taint_pass.proofs.joins.add_unions.Given as goal

abbrev pub invariant-loop-tag : goal.invariant-loop-tag
invariant-loop-tag l =
    (n : Net) (k : ℕ) → Helped n k l.fn.writer
    → (j : ℕ) × Helped n j l.writer
    × ((x last : Name) → grown (help_from n j (length (drop l.tag-index l.others)))
    (joins (helping_name n) l.width j x l.so_far (drop l.tag-index l.others ++ last ∷ [])) [] l.writer
    ≡ grown (help_from n k (length l.others)) (joins (helping_name n) l.width k x l.first (l.others ++ last ∷ [])) [] l.fn.writer)
