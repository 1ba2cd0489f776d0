-- A tagbody whose segments do what they mean at all levels down to the last one: so do its turns, from the last level on.
use Rattle.std.proofs.Common.{◌≡◌, ℕ, zero, suc, ◌≤◌, subst, arith}
use Rattle.flat_language.specs.FlatForm.{FlatForms}
use Rattle.back_relation.specs.Setting.{Setting}
use Rattle.back_relation.specs.Placed.{IsPlaced}
use Rattle.back_relation.specs.FormLaws.{AllDo}
use Rattle.back_exits.specs.Tagbodies.{LawOfTagbodiesAtLevels}
use Rattle.back_exits.specs.Turns.{TurnsDo}
use Rattle.back_exits.proofs.WholeTagbodies.{whole_turns_law, whole_tagbodies_law}

module _ (setting : Setting) (all : FlatForms) (placed : IsPlaced setting) where
  abbrev DoAt : ℕ → Type 0
  DoAt k = (j t : ℕ) → j ≤ k → t ≤ setting.turns_each → AllDo setting j t all

  same_level : (j k t : ℕ) → suc j ≡ suc k → TurnsDo setting j t all → TurnsDo setting k t all
  same_level j k t e does = let same : j ≡ k = omega (arith, e) in subst (λ n. TurnsDo setting n t all) same does

  turns_do : (k : ℕ) → DoAt k → TurnsDo setting k setting.turns_each all
  turns_do zero does =
      whole_turns_law setting zero setting.turns_each all placed (omega arith) (λ t h. does zero t (omega arith) h) (λ j same. absurd (omega (arith, same)))
  turns_do (suc k) does =
      whole_turns_law setting (suc k) setting.turns_each all placed (omega arith) (λ t h. does (suc k) t (omega arith) h)
      (λ j same. same_level k j setting.turns_each same (turns_do k (λ i t low h. does i t (omega (arith, low)) h)))

  below : (k : ℕ) → DoAt k → (j : ℕ) → k ≡ suc j → TurnsDo setting j setting.turns_each all
  below k does j same = turns_do j (λ i t low h. does i t (omega (arith, same, low)) h)

pub tagbodies_at_levels_law : LawOfTagbodiesAtLevels
tagbodies_at_levels_law setting k turns all placed fewer does =
    whole_tagbodies_law setting k turns all placed fewer (λ t h. does k t (omega arith) (omega (arith, h, fewer))) (below setting all placed k does)
