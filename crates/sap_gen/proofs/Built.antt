-- Lists of commands and of states, one by one.
use Rattle.sap_lemmas.proofs.Common.{◌≡◌, ℕ, ◌+◌, List, [], ◌∷◌, ◌++◌, map, refl, sym, ap, ap₂, ◌∙◌, arith, range_with_len, map-append}
use Rattle.std.proofs.lemmas.List.FromFn.{map-range_with_len_more}
use Rattle.sap_tree.specs.Prelude.{nowhere, Command, command_block, CommandList, DesignTree, StateList, and_command, and_state, command_of, commands_of, state_of, states_of, tree_of, commands, states}
use Rattle.sap_tree.specs.declared.syntax.Cmd.{Cmd}
use Rattle.sap_tree.specs.declared.syntax.Decl.{Decl}
use Rattle.sap_tree.specs.declared.syntax.State.{State}
use Rattle.sap_tree.specs.declared.version.Version.TheVariants.{One}
use Rattle.sap_text.specs.declared.place.Place.{Place}
use Rattle.sap_gen.specs.Design.{assignment, body, declared_input, declared_register, design_of_counts, state, transfer}

-- one more is added to what a range gives
pub one_more : {A B : Type 0} (seen : A → B) (f : ℕ → B) (old new : List A) (x : A) (n : ℕ) → map seen old ≡ map f (range_with_len 0 n) → new ≡ old ++ x ∷ [] → seen x ≡ f n
    → map seen new ≡ map f (range_with_len 0 (n + 1))
one_more {B = B} seen f old new x n before grown is =
    ap (map seen) grown ∙ map-append seen old (x ∷ [])
    ∙ ap₂ (λ (xs : List B) (y : B). xs ++ y ∷ []) before is
    ∙ sym (map-range_with_len_more f 0 n n (let e : 0 + n ≡ n = omega arith in e))

-- the same of the declarations, which the input's begins
pub one_declared : (old new : List Decl) (x : Decl) (n : ℕ) → old ≡ declared_input ∷ map declared_register (range_with_len 0 n) → new ≡ old ++ x ∷ [] → x ≡ declared_register n
    → new ≡ declared_input ∷ map declared_register (range_with_len 0 (n + 1))
one_declared old new x n before grown is =
    grown ∙ ap₂ (λ (ds : List Decl) (d : Decl). ds ++ d ∷ []) before is
    ∙ ap (λ (ds : List Decl). declared_input ∷ ds) (sym (map-range_with_len_more declared_register 0 n n (let e : 0 + n ≡ n = omega arith in e)))

pub commands_each : (cs : List Cmd) → commands_of cs ≡ commands (map command_of cs)
commands_each [] = refl
commands_each (c ∷ cs) = ap (λ (rest : CommandList). and_command (command_of c) rest) (commands_each cs)

-- a body of its assignments and its goto
pub body_built : (r t j : ℕ) (old new : List Cmd) (x : Cmd) (place : Place) → map command_of old ≡ map (assignment r j) (range_with_len 0 r)
    → new ≡ old ++ x ∷ [] → command_of x ≡ transfer t j → place ≡ nowhere
    → command_block (commands_of new) place ≡ body r t j
body_built r t j old new x place before grown is here =
    ap₂ (λ (cs : CommandList) (p : Place). command_block cs p)
    (commands_each new ∙ ap commands (ap (map command_of) grown ∙ map-append command_of old (x ∷ []) ∙ ap₂ (λ (xs : List Command) (y : Command). xs ++ y ∷ []) before is)) here

pub states_each : (ss : List State) → states_of ss ≡ states (map state_of ss)
states_each [] = refl
states_each (s ∷ ss) = ap (λ (rest : StateList). and_state (state_of s) rest) (states_each ss)

-- the whole
pub design_built : (r t : ℕ) (ds : List Decl) (ss : List State) → ds ≡ declared_input ∷ map declared_register (range_with_len 0 r)
    → map state_of ss ≡ map (state r t) (range_with_len 0 t)
    → tree_of One ds ss ≡ design_of_counts r t
design_built r t ds ss d s =
    ap₂ (λ (ds : List Decl) (list : StateList). let tree : DesignTree = record { version = One; declarations = ds; states = list } in tree) d (states_each ss ∙ ap states s)
