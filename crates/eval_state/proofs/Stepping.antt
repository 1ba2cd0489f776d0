-- Steps that are the same, and steps one of which leads to the other.
use Rattle.std.proofs.Common.{◌≡◌, ℕ, List, Result, Ok, Err, OnOk, ◌∙◌}
use Rattle.eval_machine.specs.Configuration.{Setting, Configuration}
use Rattle.eval_store.specs.View.{Beside}
use Rattle.eval_state.specs.declared.machine.Machine.{Machine}
use Rattle.eval_state.specs.View.{StepsTo, IsGiven, setting_of}

-- where a call answers Ok
pub on_ok : {T E : Type 0} (r : Result T E) (P Q : Type 0) → (P → Q) → OnOk r P → OnOk r Q
on_ok (Ok x) P Q f p = f p
on_ok (Err e) P Q f p = p

-- what is the same configuration, given what a run is given
pub same_configuration : (old new : Machine) (f g : List (List ℕ) → Setting → Beside → Configuration) → StepsTo old new f
    → ((names : List (List ℕ)) (b : Beside) → IsGiven names old.given → f names (setting_of names old.given) b ≡ g names (setting_of names old.given) b)
    → StepsTo old new g
same_configuration old new f g s e = record {
  given = s.given;
  comes = λ names b k. s.comes names b k ∙ e names b k;
}
