-- A part and what goes on with its value, where the rest may cost what the part leaves of its first unit.
use Rattle.std.proofs.Common.{◌≡◌, ℕ, ◌+◌, ◌≤◌, sym, subst, arith}
use Rattle.lang_meaning.specs.Counts.{unit_cost}
use Rattle.lang_meaning.specs.Values.{Value}
use Rattle.flat_language.specs.FlatState.{FlatState, FlatEvaluated, go_on, charged}
use Rattle.mid_code.specs.Law.{Grown}
use Rattle.mid_code.specs.State.{Registers, MidState, MidOutcome, Next}
use Rattle.mid_code.specs.State.{go_on as mid_go_on}
use Rattle.back_relation.specs.Setting.{Setting}
use Rattle.back_relation.specs.Ends.{form_credit}
use Rattle.back_relation.specs.Forms.{FormEnds, SparingForm}
use Rattle.back_relation.specs.Starts.{FlatGrown, Start, EndsAt, FellFrom}
use Rattle.back_relation.proofs.Growth.{then_value}
use Rattle.back_relation.proofs.Parts.{go_on_falls}
use Rattle.back_relation.proofs.Starts.{start_charged, ends_charged}
use Rattle.back_relation.proofs.Then.{ends_go_on, ends_then}

module _ (setting : Setting) where
  -- **a part that leaves something of its first unit, and the rest**, with the part's value in a register at or behind the first one
  pub two_sparing :
      {c2 c : ℕ} (a : Start setting) (d1 : ℕ) {r : FlatEvaluated} {q : MidOutcome} (f : Value → FlatState → FlatEvaluated) (next : Next) → a.d ≤ d1 → form_credit + c2 ≤ unit_cost + c
      → Grown a.y q.state → SparingForm setting a.turns a.rs a.valid a.s d1 a.w a.env a.around a.z a.regs a.y r q
      → ((v : Value) (z : FlatState) → FlatGrown z (f v z).state) → ((g : Registers) (y : MidState) → Grown y (next g y).state)
      → ((x : FellFrom setting form_credit (start_charged setting a 1) d1 r q)
      → FormEnds setting c2 a.turns a.rs a.valid a.s a.d x.w' a.env a.around r.state q.registers q.state (f x.result r.state) (next q.registers q.state))
      → EndsAt setting c a (go_on r f) (mid_go_on q next)
  two_sparing {c2} {c} a d1 {r} {q} f next low enough costs e grown mid_grown h =
      ends_charged setting {c1 = form_credit + c2} a 1 (omega (arith, enough))
      (ends_go_on setting {c1 = form_credit} {c = form_credit + c2} {d = a.d} {d1 = d1} {z = charged 1 a.z} {r = r} {q = q} f next low (omega arith) e grown mid_grown
      (λ x.
      subst (λ p. EndsAt setting (form_credit + c2) (start_charged setting a 1) p (mid_go_on q next)) (sym (then_value r f x.result x.outcome))
      (subst (λ p. EndsAt setting (form_credit + c2) (start_charged setting a 1) (f x.result r.state) p) (sym (go_on_falls q next x.end))
      (ends_then setting low x.reached {c2 = c2} {c = form_credit + c2} (omega arith) (omega (arith, x.reached.back.paid, costs.cost)) (h x)))))
