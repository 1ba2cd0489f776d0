-- Whether a function takes so many arguments is read off a word; where it does not, a level is judged, and that is an error.
use Rattle.std.proofs.Common.{◌≡◌, ℕ, zero, suc, ◌+◌, ◌/◌, ◌%◌, ◌^◌, ◌≤◌, Bool, true, false, List, [], refl, sym, subst, arith}
use Rattle.std.specs.Prelude.{◌==◌, nat_lt, not, slice_set, Some}
use Rattle.std.proofs.lemmas.Bool.Decides.{nat_tests}
use Rattle.lang_meaning.specs.Signals.{takes}
use Rattle.lang_meaning.specs.State.{DynamicContext, more}
use Rattle.flat_language.specs.FlatSignals.{descend}
use Rattle.flat_language.specs.FlatState.{FlatState, FlatEvaluated, gives}
use Rattle.lang_meaning.specs.Values.{nil}
use Rattle.lang_meaning.specs.Counts.{unit_cost}
use Rattle.mid_code.specs.declared.operation.Counted.TheVariants.{Level}
use Rattle.mid_code.specs.Law.{Grown}
use Rattle.mid_code.specs.Meaning.{exec_step}
use Rattle.mid_code.specs.State.{Registers, MidState, Next}
use Rattle.mid_code.specs.State.{charged as mid_charged, go_on as mid_go_on}
use Rattle.back_lowering.specs.Program.{procedure_with}
use Rattle.back_lowering.specs.RoutineCodes.{level_code}
use Rattle.back_lowering.specs.Routines.{level_routine}
use Rattle.back_lowering.specs.Steps.{call}
use Rattle.back_relation.specs.Setting.{Setting}
use Rattle.back_relation.specs.Placed.{IsPlaced}
use Rattle.back_relation.specs.Chains.{arity_word}
use Rattle.back_relation.specs.Room.{level_words}
use Rattle.back_relation.specs.Worlds.{World, Standing}
use Rattle.back_relation.specs.Around.{CallBegins, SiteStored}
use Rattle.back_relation.specs.Ends.{WorldKept, Around, CallEnds, Returned, LeftCall}
use Rattle.back_relation.specs.Forms.{below_at, code_at}
use Rattle.back_relation.specs.RoutineClaims.{LevelThere, level_credit}
use Rattle.back_relation.specs.Procedures.{called}
use Rattle.back_relation.specs.Starts.{FlatGrown}
use Rattle.back_relation.proofs.Growth.{same_flat}
use Rattle.back_relation.proofs.Straight.{world_cost, around_cost}
use Rattle.back_relation.proofs.Then.{world_then, back_then}
use Rattle.back_calling.proofs.Entered.{no_level_at}
use Rattle.back_calling.proofs.Inner.{going_on_law, looked, nothing_because}
use Rattle.back_calling.proofs.Numbers.{numbers_law}
use Rattle.back_calling.specs.Applying.{judging_cost}
use Rattle.back_calling.proofs.Levels.{level_there, levels_there_at}
use Rattle.back_exits.proofs.Points.{point_begins}

-- ---- numbers of arguments

pub odd_tells : (required : ℕ) (rest : Bool) → (arity_word required rest % 2 == 1) ≡ rest
odd_tells required true = grind (arith, nat_tests)
odd_tells required false = grind (arith, nat_tests)

pub half_is : (required : ℕ) (rest : Bool) → arity_word required rest / 2 ^ (1 % 32) ≡ required
half_is required true = omega arith
half_is required false = omega arith

pub some_more : (required n : ℕ) → takes required true n ≡ true → nat_lt n required ≡ false
some_more required n e = grind (arith, nat_tests)

pub too_few : (required n : ℕ) → takes required true n ≡ false → nat_lt n required ≡ true
too_few required n e = grind (arith, nat_tests)

pub so_many : (required n : ℕ) → takes required false n ≡ true → not (n == required) ≡ false
so_many required n e = grind (arith, nat_tests)

pub others_many : (required n : ℕ) → takes required false n ≡ false → not (n == required) ≡ true
others_many required n e = grind (arith, nat_tests)

-- ---- a level is judged, whatever turns are to be left over

module _ (setting : Setting) (placed : IsPlaced setting) where
  pub judged_over :
      (k n m t c2 credit : ℕ) (rs valid : List Standing) (w : World) (around : DynamicContext) (z : FlatState) (y : MidState) (regs : Registers) (f : FlatState → FlatEvaluated) (next : Next)
      → CallBegins setting rs valid level_words w around z y → judging_cost + c2 ≤ credit → FlatGrown z (f z).state → ((g : Registers) (x : MidState) → Grown x (next g x).state)
      → (1 ≤ k → (word : ℕ) (y' : MidState) → WorldKept setting w w z z y y' → Around setting judging_cost z z y y' → (SiteStored setting around y → SiteStored setting around y')
      → CallEnds setting c2 m rs valid w around z y' (f z) (next (slice_set regs t (Some word)) y'))
      → CallEnds setting credit m rs valid w around z y (descend (below_at setting k) f around z)
      (mid_go_on (exec_step (code_at setting k n) (call t (level_routine setting.at) []) regs y) next)
  judged_over zero n m t c2 credit rs valid w around z y regs f next b enough flat_grown grown h =
      let none : FlatEvaluated = record { outcome = more; state = z } in
      looked setting level_credit (credit + unit_cost) (λ q. Returned setting credit w z y none q) (λ q. LeftCall setting credit rs valid w around z y none q) ⊥ (λ x. 0) (code_at setting zero n) m m t (level_routine setting.at) [] [] z y
      regs none none next tt (omega arith) (omega arith) (same_flat z) grown (λ end because. because) (λ asked left_then e. absurd (cc e)) (λ x. absurd x)
      (no_level_at setting n (level_routine setting.at) m (procedure_with Level 0 (level_code setting.at)) [] w z (mid_charged 40 y) (mid_charged 40 y) z none ((numbers_law setting).routine 15 _ placed refl)
      refl refl (same_flat z) (world_cost setting 40 b.things).things)
      (λ x. absurd x)
  judged_over (suc j) n m t c2 credit rs valid w around z y regs f next b enough flat_grown grown h =
      let b1 : CallBegins setting rs valid level_words w around z (mid_charged 40 y) =
      point_begins setting (world_cost setting 40 b.things) (around_cost setting {credit = 40} z y 40 (omega arith)) b in
      subst (λ r. CallEnds setting credit m rs valid w around z y r (mid_go_on (exec_step (code_at setting (suc j) n) (call t (level_routine setting.at) []) regs y) next)) (sym (level_there setting j f around z))
      (looked setting level_credit (credit + unit_cost) (λ q. Returned setting credit w z y (f z) q) (λ q. LeftCall setting credit rs valid w around z y (f z) q)
      (LevelThere setting (suc j) n rs valid w around z (mid_charged 40 y) (called (code_at setting (suc j) n) (level_routine setting.at) [] (mid_charged 40 y))) (λ x. x.word) (code_at setting (suc j) n) m m t
      (level_routine setting.at) [] [] z y regs (gives nil z) (f z) next tt (omega arith) (omega arith) flat_grown grown (nothing_because setting (f z) b.things flat_grown) (λ asked left_then e. absurd (cc e)) (λ x. x.end)
      (levels_there_at setting j n m rs valid w around z (mid_charged 40 y) placed b1)
      (λ x.
      let world = world_then setting (world_cost setting 40 b.things) (around_cost setting {credit = 40} z y 40 (omega arith)) x.world in
      let back : Around setting judging_cost z z y (called (code_at setting (suc j) n) (level_routine setting.at) [] (mid_charged 40 y)).state =
      back_then setting (world_cost setting 40 b.things) (around_cost setting {credit = 40} z y 40 (omega arith)) (omega arith) x.back in
      going_on_law setting judging_cost c2 credit m m rs valid w w around z z y (called (code_at setting (suc j) n) (level_routine setting.at) [] (mid_charged 40 y)).state (f z)
      (next (slice_set regs t (Some x.word)) (called (code_at setting (suc j) n) (level_routine setting.at) [] (mid_charged 40 y)).state) world back enough (omega arith) refl
      (h (omega arith) x.word (called (code_at setting (suc j) n) (level_routine setting.at) [] (mid_charged 40 y)).state world back (λ stored. x.site stored))))
