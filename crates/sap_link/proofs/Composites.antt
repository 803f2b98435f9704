-- Composite cycles and runs that agree.
use Rattle.std.proofs.Common.{ℕ, [], ◌∷◌, sym, subst}
use Rattle.sap_lattice.specs.Order.{Order, Laws}
use Rattle.sap_meaning.specs.Laws.{StatesRest}
use Rattle.sap_meaning.specs.Agree.{InputsAgree, RefusalsAgree, StatesAgree}
use Rattle.sap_secure.specs.Laws.{OneCycle}
use Rattle.sap_link.specs.Systems.{System, part, world, IsPart}
use Rattle.sap_link.specs.Composites.{states_of, part_inputs, composite_cycle, first_states}
use Rattle.sap_link.specs.Laws.{FineSystem, PartInputsAgree, CompositesRest, CompositeCyclesAgree, LaterCompositesAgree, CompositesOfStreamsAgree}
use Rattle.sap_link.proofs.Itself.{agrees_itself}
use Rattle.sap_link.proofs.Agreeing.{part_inputs_agree}

-- the order of a system is that of each part
order_laws : (y : System) → FineSystem y → (i : ℕ) → IsPart y i → Laws y.order
order_laws y fine i is = subst (λ (o : Order). Laws o) (fine.order i is) (fine.parts i is).order

pub inputs_law : PartInputsAgree
inputs_law y fine l s t same a b inputs i is = part_inputs_agree y fine (order_laws y fine i is) l s t same a b inputs i

pub cycle_law : OneCycle → CompositeCyclesAgree
cycle_law one y fine l s t rs rt same a b inputs = record {
  states = λ i is. (both i is).0;
  refusals = λ i is. subst (λ (o : Order). RefusalsAgree o l (composite_cycle y a s i).refused (composite_cycle y b t i).refused) (fine.order i is) (both i is).1;
}
  where
    both : (i : ℕ) → IsPart y i → StatesAgree (part y i) l (composite_cycle y a s i).store (composite_cycle y b t i).store
        × RefusalsAgree (world y i).order l (composite_cycle y a s i).refused (composite_cycle y b t i).refused
    both i is =
        one (part y i) (fine.parts i is) l (s i) (t i) (rs i is) (rt i is) (same i is) (part_inputs y s a i) (part_inputs y t b i)
        (subst (λ (o : Order). InputsAgree o l (part_inputs y s a i) (part_inputs y t b i)) (sym (fine.order i is)) (inputs_law y fine l s t same a b inputs i is))

pub composites_rest : StatesRest → CompositesRest
composites_rest rest y fine = ((λ i is. (rest (part y i) (fine.parts i is)).0), λ a s rs i is. (rest (part y i) (fine.parts i is)).1 (part_inputs y s a i) (s i) (rs i is))

pub later_law : CompositeCyclesAgree → CompositesRest → LaterCompositesAgree
later_law one rest y fine l s t rs rt same [] [] streams = tt
later_law one rest y fine l s t rs rt same [] (b ∷ bs) streams = absurd streams
later_law one rest y fine l s t rs rt same (a ∷ as') [] streams = absurd streams
later_law one rest y fine l s t rs rt same (a ∷ as') (b ∷ bs) streams =
    let now = one y fine l s t rs rt same a b streams.0 in
    let later = (rest y fine).1 in
    (now, later_law one rest y fine l (states_of (composite_cycle y a s)) (states_of (composite_cycle y b t)) (later a s rs) (later b t rt) now.states as' bs streams.1)

pub first_law : CompositeCyclesAgree → CompositesRest → CompositesOfStreamsAgree
first_law one rest y fine l a b streams =
    let firsts = (rest y fine).0 in
    later_law one rest y fine l (first_states y) (first_states y) firsts firsts (λ i is. agrees_itself (part y i) l (first_states y i)) a b streams
