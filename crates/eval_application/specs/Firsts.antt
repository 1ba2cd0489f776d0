-- What a machine is once the first one of its last operands was taken away.
use Rattle.std.specs.Prelude.{◌≡◌, ℕ, ◌-◌, ◌∷◌}
use Rattle.eval_store.specs.declared.word.Word.{Word}
use Rattle.eval_state.specs.declared.machine.Machine.{Machine}
use Rattle.eval_state.specs.Frames.{last_of, others_of}

pub record IsFirstArgument (old new : Machine) (count : ℕ) (word : Word) : Type 0 where
  pub last : last_of count old.operands.items ≡ word ∷ last_of (count - 1) new.operands.items
  pub others : others_of count old.operands.items ≡ others_of (count - 1) new.operands.items
  pub same : new ≡ record old { operands = new.operands }
