use Rattle.std.proofs.Common.{rules, inl, inr, ◌≡◌, ℕ, true, subst, arith}
use Rattle.back_allocation.specs.Names.{IsPassedIn}
use Rattle.back_allocation.specs.NamesFound.{owner_in}
use Rattle.back_allocation.specs.Places.{place_in, begins_in}
use Rattle.back_allocation.proofs.Naming.{below_or_not}
use Rattle.back_allocation.proofs.placing.are_passed_in.Goals as goal

pub loop-name-preserved : goal.loop-name-preserved
loop-name-preserved c k above low begins =
    elim (below_or_not k c.loop-name.name) [
      | inl below ↦ c.loop-name.invariant k above below begins
      | inr beyond ↦
          (let here : c.loop-name.name ≡ k = omega (arith, low, beyond) in
          let chosen = c.args.chosen.now in
          subst (λ (n : ℕ). begins_in chosen.lives n ≡ true → IsPassedIn (owner_in c.args.owners.now n) (place_in chosen.constants.items chosen.allocation.spots.items n)) here
          (c.is_passed_in.ensures (search rules)) begins)
    ]
