use Rattle.sap_lemmas.proofs.Common.{refl, ap, get_or, length, eqb-false}
use Rattle.sap_meaning.specs.Examples.{refused_at}
use Rattle.sap_worked.proofs.pairs.refusals_compared.Goals as goal

pub returns : goal.returns
returns c = record {
  refusals_alike = refl;
  refused_site = λ e. eqb-false 1 2 refl (ap (λ rs. (get_or rs 0 (refused_at 0 0)).site) e);
  refused_level = λ e. eqb-false 0 1 refl (ap (λ rs. (get_or rs 0 (refused_at 0 0)).level) e);
  refused_seen_in_one = λ e. eqb-false 1 0 refl (ap length e);
  refused_too_many = λ e. eqb-false 1 2 refl (ap length e);
  refusals_agree_below = record { at_left = refl; not_at_right = λ e. eqb-false 1 0 refl (ap length e) };
}
