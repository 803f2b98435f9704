use Rattle.sap_lemmas.proofs.Common.{ap, ℕ, lookup, bytes_eq}
use Rattle.std.proofs.Common.{Vec, Global}
use Rattle.sap_vread.specs.Build.Firsts.{number_of}
use Rattle.sap_vread.proofs.build.firsts.Firsts.new.Goals as goal

pub returns : goal.returns
unfolding number_of
returns c = λ n. ap (λ es. lookup (λ (k : Vec ℕ Global). bytes_eq n k.items) es) c.new.ensures.empty
