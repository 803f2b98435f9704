use Rattle.sap_lemmas.proofs.Common.{◌≡◌, arith, [], ◌∷◌, ◌++◌, length, map, ap, sym, ◌∙◌, length-map, map-append}
use Rattle.sap_cycle.proofs.Found.{finds_more}
use Rattle.sap_cycle.proofs.known.learn.Goals as goal

pub returns : goal.returns
returns c = λ f ms names known wide.
    let y = c.args.name.now in
    let widths = c.args.known.now.widths.items in
    let long : length widths ≡ length names = ap length known.widths_are ∙ length-map names f in
    let place : c.len-place.result ≡ length names = omega (arith, long, c.len-place.ensures) in
    let pushed : c.push.new.self.items ≡ widths ++ c.args.width ∷ [] = c.in_ok-push.ensures.items in
    record {
      places = finds_more c.args.known.now.places c.put.new.map names y c.len-place.result place (c.in_ok-put.ensures {u = tt}) known.places;
      widths_are = pushed ∙ ap (λ ws. ws ++ c.args.width ∷ []) known.widths_are ∙ ap (λ w. map f names ++ w ∷ []) (sym wide) ∙ sym (map-append f names (y ∷ []));
      memories = known.memories;
      bases = known.bases;
    }
