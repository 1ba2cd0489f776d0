-- What a machine is once an operand is pushed, and once some are dropped.
use Rattle.std.specs.Prelude.{◌≡◌, ℕ, [], ◌∷◌, ◌++◌}
use Rattle.eval_store.specs.declared.word.Word.{Word}
use Rattle.eval_state.specs.declared.machine.Machine.{Machine}
use Rattle.eval_state.specs.Frames.{others_of}

pub record IsPushed (old new : Machine) (word : Word) : Type 0 where
  pub operands : new.operands.items ≡ old.operands.items ++ word ∷ []
  pub same : new ≡ record old { operands = new.operands }

pub record IsDropped (old new : Machine) (count : ℕ) : Type 0 where
  pub operands : new.operands.items ≡ others_of count old.operands.items
  pub same : new ≡ record old { operands = new.operands }
