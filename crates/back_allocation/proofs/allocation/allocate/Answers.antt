use Rattle.std.proofs.Common.{ℕ, List, Option, length, ap, sym, subst, ◌∙◌}
use Rattle.back_liveness.specs.declared.barrier.Barrier.{Barrier}
use Rattle.back_liveness.specs.declared.step.Step.{Step}
use Rattle.back_liveness.specs.Liveness.{OnlyCrossed, AreStructured, AreTight, Covers}
use Rattle.back_liveness.specs.Points.{EndBy}
use Rattle.back_allocation.specs.Constants.{AreKept, AreKeptParts}
use Rattle.back_allocation.specs.LineSteps.{landings_in, steps_from}
use Rattle.back_allocation.specs.Slots.{AreLives}
use Rattle.back_allocation.proofs.Choosing.{kept_inside, chosen_well}
use Rattle.back_allocation.proofs.Stepping.{step_count}
use Rattle.back_allocation.proofs.Wanted.{slots_wanted, lives_are}
use Rattle.back_allocation.proofs.allocation.allocate.Goals as goal

pub linear_scan-requires-clause-inside : goal.linear_scan-requires-clause-inside
linear_scan-requires-clause-inside c =
    let constants = c.in_ok-constants.constants.items in
    kept_inside constants c.in_ok-found.found.intervals c.in_ok-kept.kept c.in_ok-found.found.parts c.parts_without_constants-kept_parts.result
    (subst (λ (k : List (Option ℕ)). AreKept k c.in_ok-found.found.intervals c.in_ok-kept.kept) c.as_slice-2.ensures.value c.in_ok-kept.ensures)
    (subst (λ (k : List (Option ℕ)). AreKeptParts k c.in_ok-found.found.parts c.parts_without_constants-kept_parts.result) c.as_slice-3.ensures.value c.parts_without_constants-kept_parts.ensures)
    c.in_ok-found.ensures.covers.inside

pub returns-clause-chosen : goal.returns-clause-chosen
returns-clause-chosen c =
    let landings : ℕ → List ℕ = landings_in c.args.landings.now in
    let barriers : List Barrier = c.in_ok-barriers.barriers.items in
    let found = c.in_ok-found.found.intervals in
    let parts = c.in_ok-found.found.parts in
    let crossed = c.in_ok-found.found.crossed in
    let wishes = c.in_ok-wishes.wishes in
    let constants = c.in_ok-constants.constants.items in
    let kept = subst (λ (k : List (Option ℕ)). AreKept k found c.in_ok-kept.kept) c.as_slice-2.ensures.value c.in_ok-kept.ensures in
    let kept_parts = subst (λ (k : List (Option ℕ)). AreKeptParts k parts c.parts_without_constants-kept_parts.result) c.as_slice-3.ensures.value c.parts_without_constants-kept_parts.ensures in
    let covers =
    subst (λ (b : List Barrier). Covers (steps_from landings 0 c.args.lines.now) b found parts crossed) c.as_slice.ensures.value
    (subst (λ s. Covers s c.as_slice.result.now found parts crossed) c.in_ok-steps.ensures c.in_ok-found.ensures.covers) in
    let more =
    subst (λ s. Covers s c.args.overwritten.now c.in_ok-again.again.intervals c.in_ok-again.again.parts c.in_ok-again.again.crossed) c.in_ok-steps.ensures
    c.in_ok-again.ensures.covers in
    chosen_well c.args.lines.now c.args.parameters landings (length c.args.owners.now) found c.in_ok-again.again.intervals c.in_ok-kept.kept parts c.in_ok-again.again.parts
    c.parts_without_constants-kept_parts.result crossed c.in_ok-again.again.crossed barriers c.args.overwritten.now constants wishes c.in_ok-allocation.allocation.spots.items
    c.in_ok-allocation.allocation.slots c.in_ok-found.ensures.count c.in_ok-again.ensures.count covers more c.in_ok-barriers.ensures.barriers c.in_ok-constants.ensures kept
    c.in_ok-wishes.ensures.hold c.in_ok-allocation.ensures kept_parts
    (kept_inside constants found c.in_ok-kept.kept parts c.parts_without_constants-kept_parts.result kept kept_parts c.in_ok-found.ensures.covers.inside)
    c.requires.registers c.requires.parameters c.none_told-is_clear.result c.none_told-is_clear.ensures

pub returns-clause-slots : goal.returns-clause-slots
returns-clause-slots c =
    let landings : ℕ → List ℕ = landings_in c.args.landings.now in
    let barriers : List Barrier = c.in_ok-barriers.barriers.items in
    let found = c.in_ok-found.found.intervals in
    let kept = subst (λ (k : List (Option ℕ)). AreKept k found c.in_ok-kept.kept) c.as_slice-2.ensures.value c.in_ok-kept.ensures in
    slots_wanted c.args.lines.now landings c.args.parameters c.args.owners.now found c.in_ok-kept.kept c.parts_without_constants-kept_parts.result
    c.in_ok-found.found.crossed barriers c.in_ok-constants.constants.items c.in_ok-wishes.wishes c.in_ok-allocation.allocation.spots.items
    c.in_ok-allocation.allocation.slots c.in_ok-barriers.ensures.long
    (subst (λ (n : ℕ). EndBy n found) (ap length c.in_ok-steps.ensures ∙ step_count landings 0 c.args.lines.now) c.in_ok-found.ensures.ends)
    (subst (λ (b : List Barrier). OnlyCrossed b found c.in_ok-found.found.crossed) c.as_slice.ensures.value c.in_ok-found.ensures.only)
    c.in_ok-barriers.ensures.only kept c.in_ok-wishes.ensures.asked c.in_ok-allocation.ensures

pub returns-clause-lives : goal.returns-clause-lives
returns-clause-lives c =
    let found = c.in_ok-found.found in
    subst (λ (s : List Step). AreLives s (length c.args.owners.now) found.intervals) c.in_ok-steps.ensures
    (lives_are c.in_ok-steps.steps c.as_slice.result.now (length c.args.owners.now) found.intervals found.parts found.crossed c.in_ok-found.ensures.count
    c.in_ok-found.ensures.covers c.in_ok-found.ensures.alive)

pub returns-clause-tight : goal.returns-clause-tight
returns-clause-tight c structured =
    let is = c.in_ok-steps.ensures in
    subst (λ (s : List Step). AreTight s c.in_ok-found.found.intervals) is
    (c.in_ok-found.ensures.tight (subst (λ (s : List Step). AreStructured s) (sym is) structured))
