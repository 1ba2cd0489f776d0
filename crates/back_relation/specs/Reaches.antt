-- How an exit of the activation may be left, where one more record stands inside.
use Rattle.std.specs.Prelude.{◌≡◌, ℕ, List, ◌∷◌, Option}
use Rattle.lang_meaning.specs.State.{Exit}
use Rattle.back_lowering.specs.Scope.{behind_cleanup}
use Rattle.back_lowering.specs.declared.scope.Reach.{Reach}
use Rattle.back_relation.specs.Worlds.{Standing, for_exit, IsIn}
use Rattle.back_relation.specs.Activation.{ExitReached}

-- under the record of another exit as before; and under that of a cleanup by a transfer at most
pub record LawOfReaches : Type 0 where
  pub under_exit :
      (rs valid : List Standing) (exits : List Exit) (new : Standing) (x : Exit) (reach : Reach) (e : ℕ) (word : Option ℕ) → new.role ≡ for_exit x
      → (x.number ≡ e → ⊥) → ((r : Standing) → IsIn r rs → new.address ≡ r.address → ⊥) → ExitReached reach rs valid exits e word
      → ExitReached reach (new ∷ rs) (new ∷ valid) (x ∷ exits) e word
  pub under_cleanup :
      (rs valid : List Standing) (exits : List Exit) (new : Standing) (reach : Reach) (e : ℕ) (word : Option ℕ)
      → ExitReached reach rs valid exits e word → ExitReached (behind_cleanup reach) (new ∷ rs) valid exits e word
