-- What is without E10: it is open, or it closes.
use Rattle.std.proofs.Common.{◌≡◌, ◌⊎◌, inl, inr, List, [], ◌++◌, refl}
use Rattle.sap_names.proofs.FaultLemmas.{nil_left, nil_right}
use Rattle.sap_text.specs.declared.place.Place.{Place}
use Rattle.sap_tree.specs.Syntax.{Expression, Expressions, SimpleCommand, go_to, fall_to_child, Command, try, if_else, try_then, case_of, Arms, and_arm, CommandBlock, ElseBlock, with_else, CommandList, no_command, and_command}
use Rattle.sap_names.specs.declared.fault.Fault.{Fault}
use Rattle.sap_shape.specs.Closing.{transfer_faults, then_faults, open_faults, open_block_faults, open_arms_faults, open_else_faults, open_list_faults, last_faults, closing_faults, closing_arms_faults, closing_else_faults, closing_list_faults}

abbrev pub Ended : Command → Type 0
Ended c = (open_faults c ≡ []) ⊎ ((after : Place) × (last_faults c after ≡ []))

abbrev pub Shut : CommandBlock → Type 0
Shut b = (open_block_faults b ≡ []) ⊎ (closing_faults b ≡ [])

abbrev pub ShutArms : Arms → Type 0
ShutArms arms = (open_arms_faults arms ≡ []) ⊎ (closing_arms_faults arms ≡ [])

abbrev pub ShutElse : ElseBlock → Type 0
ShutElse b = (open_else_faults b ≡ []) ⊎ ((place : Place) × (closing_else_faults b place ≡ []))

abbrev pub ShutList : CommandList → Type 0
ShutList cs = (open_list_faults cs ≡ []) ⊎ ((after : Place) × (closing_list_faults cs after ≡ []))

-- the list of a block, and the block of an `else`
pub shut_list : (cs : CommandList) (after : Place) → (open_list_faults cs ≡ []) ⊎ (closing_list_faults cs after ≡ []) → ShutList cs
shut_list cs after o = elim o [ inl i ↦ inl i | inr i ↦ inr (after, i) ]

pub shut_else : (b : CommandBlock) → ShutElse (with_else b) → Shut b
shut_else b o = elim o [ inl i ↦ inl i | inr i ↦ inr i.1 ]

-- the first command of a list, and the others
pub shut_first : (c : Command) (cs : CommandList) → ShutList (and_command c cs) → Ended c
shut_first c no_command o = elim o [ inl i ↦ inl (nil_left _ _ i) | inr i ↦ inr i ]
shut_first c (and_command d ds) o = elim o [ inl i ↦ inl (nil_left _ _ i) | inr i ↦ inl (nil_left _ _ i.1) ]

pub shut_rest : (c : Command) (cs : CommandList) → ShutList (and_command c cs) → ShutList cs
shut_rest c no_command o = inl refl
shut_rest c (and_command d ds) o = elim o [ inl i ↦ inl (nil_right _ _ i) | inr i ↦ inr (i.0, nil_right _ _ i.1) ]

-- a handler closes or is open, as its command does
handler_closed : (c : SimpleCommand) (place : Place) (b : CommandBlock) (after : Place) → last_faults (try c place b) after ≡ [] → Shut b
handler_closed (go_to p target) place b after f = inr f
handler_closed (fall_to_child p) place b after f = inr f
handler_closed _ place b after f = absurd (cc f)

pub shut_handler : (c : SimpleCommand) (place : Place) (b : CommandBlock) → Ended (try c place b) → Shut b
shut_handler c place b o = elim o [ inl i ↦ inl (nil_right _ _ i) | inr i ↦ handler_closed c place b i.0 i.1 ]

pub shut_branch : (place : Place) (e : Expression) (b : CommandBlock) (other : ElseBlock) → Ended (if_else place e b other) → Shut b
shut_branch place e b other o = elim o [ inl i ↦ inl (nil_left _ _ i) | inr i ↦ inr (nil_left _ _ i.1) ]

pub shut_other : (place : Place) (e : Expression) (b : CommandBlock) (other : ElseBlock) → Ended (if_else place e b other) → ShutElse other
shut_other place e b other o = elim o [ inl i ↦ inl (nil_right _ _ i) | inr i ↦ inr (place, nil_right _ _ i.1) ]

-- a command with `then` is no transfer
pub then_parts : (c : SimpleCommand) (place : Place) (rest : List Fault) → then_faults c place rest ≡ [] → (transfer_faults c ≡ []) × (rest ≡ [])
then_parts (go_to p target) place rest f = absurd (cc f)
then_parts (fall_to_child p) place rest f = absurd (cc f)
then_parts _ place rest f = (refl, f)

module _ (c : SimpleCommand) (place : Place) (a b : CommandBlock) (o : Ended (try_then c place a b)) where
  opened : open_faults (try_then c place a b) ≡ [] → (transfer_faults c ≡ []) × (open_block_faults a ++ open_block_faults b ≡ [])
  opened f = then_parts c place (open_block_faults a ++ open_block_faults b) f

  closed : (after : Place) → last_faults (try_then c place a b) after ≡ [] → (transfer_faults c ≡ []) × (closing_faults a ++ closing_faults b ≡ [])
  closed after f = then_parts c place (closing_faults a ++ closing_faults b) f

  pub no_transfer : transfer_faults c ≡ []
  no_transfer = elim o [ inl i ↦ (opened i).0 | inr i ↦ (closed i.0 i.1).0 ]

  pub shut_accepted : Shut a
  shut_accepted = elim o [ inl i ↦ inl (nil_left _ _ (opened i).1) | inr i ↦ inr (nil_left _ _ (closed i.0 i.1).1) ]

  pub shut_refused : Shut b
  shut_refused = elim o [ inl i ↦ inl (nil_right _ _ (opened i).1) | inr i ↦ inr (nil_right _ _ (closed i.0 i.1).1) ]

-- the arms of a `case`
pub shut_arms : (place : Place) (e : Expression) (arms : Arms) → Ended (case_of place e arms) → ShutArms arms
shut_arms place e arms o = elim o [ inl i ↦ inl i | inr i ↦ inr i.1 ]

pub shut_arm : (constants : Expressions) (b : CommandBlock) (arms : Arms) → ShutArms (and_arm constants b arms) → Shut b
shut_arm constants b arms o = elim o [ inl i ↦ inl (nil_left _ _ i) | inr i ↦ inr (nil_left _ _ i) ]

pub shut_later : (constants : Expressions) (b : CommandBlock) (arms : Arms) → ShutArms (and_arm constants b arms) → ShutArms arms
shut_later constants b arms o = elim o [ inl i ↦ inl (nil_right _ _ i) | inr i ↦ inr (nil_right _ _ i) ]
