use Rattle.sap_lemmas.proofs.Common.{◌≤◌, arith, le-leb, pow_mono}
use Rattle.sap_sem.proofs.asked.is_below.Goals as goal

pub returns-then-width-ge64 : goal.returns-then-width-ge64
returns-then-width-ge64 c =
    let wide : 64 ≤ c.args.width = c.if-width-ge64.true in
    let most = pow_mono {i = 64} {j = c.args.width} wide in
    let fits = c.ranges.number.fits in
    ((λ t. omega (arith, most, fits)), (λ l. le-leb 64 c.args.width wide))
