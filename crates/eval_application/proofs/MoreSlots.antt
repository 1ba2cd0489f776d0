-- Frames stay as they are when the activation that runs has more slots.
use Rattle.std.proofs.Common.{◌≡◌, ℕ, ◌+◌, ◌-◌, length, take, List, ◌++◌, ap, ◌∙◌, arith, length-append}
use Rattle.std.proofs.lemmas.List.{take-append-le}
use Rattle.eval_state.specs.Frames.{others_of}

-- those below the new ones
pub below_more : {X : Type 0} (slots more : List X) (k n : ℕ) → n ≡ k + length more → others_of n (slots ++ more) ≡ others_of k slots
below_more slots more k n e =
    let l : length (slots ++ more) ≡ length slots + length more = length-append slots more in
    let d : length (slots ++ more) - n ≡ length slots - k = omega arith in
    ap (λ m. take m (slots ++ more)) d ∙ take-append-le (length slots - k) slots more (omega arith)
