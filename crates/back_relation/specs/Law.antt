-- Laws of combining: what holds wherever parts of code are put together.
use Rattle.std.specs.Prelude.{◌≡◌, ℕ, ◌+◌, ◌≤◌, Bool, true, false, List, ◌++◌, Some, if◌then◌else◌}
use Rattle.lang_meaning.specs.State.{DynamicContext}
use Rattle.lang_meaning.specs.Values.{Value}
use Rattle.flat_language.specs.FlatState.{FlatState, FlatEvaluated, go_on}
use Rattle.mid_code.specs.declared.operation.Test.{Test}
use Rattle.mid_code.specs.Costs.{test_cost}
use Rattle.mid_code.specs.Law.{Grown}
use Rattle.mid_code.specs.MidCode.{MidStep, MidCode, choose, code_of}
use Rattle.mid_code.specs.State.{Registers, register, MidState, MidOutcome, Next}
use Rattle.mid_code.specs.State.{charged as mid_charged, go_on as mid_go_on}
use Rattle.mid_code.specs.Words.{compares}
use Rattle.mid_code.specs.Meaning.{Context, exec, exec_step}
use Rattle.back_relation.specs.Setting.{Setting}
use Rattle.back_relation.specs.Worlds.{World, Standing}
use Rattle.back_relation.specs.Around.{AroundStands}
use Rattle.back_relation.specs.Ends.{WorldKept, Around}
use Rattle.back_relation.specs.Forms.{FormEnds}
use Rattle.back_relation.specs.Starts.{FlatGrown, Start, EndsFrom, EndsAt, FellFrom}

-- code in two parts runs the first part, and then the second from where that fell out
abbrev pub LawOfParts : Type 0
LawOfParts =
    (c : Context) (ss ts : List MidStep) (rs : Registers) (z : MidState)
    → exec c (code_of (ss ++ ts)) rs z ≡ mid_go_on (exec c (code_of ss) rs z) (λ rs' y. exec c (code_of ts) rs' y)

-- what is around stands again where a part of code is done
abbrev pub LawOfAround : Type 0
LawOfAround =
    (setting : Setting) (credit : ℕ) (w w' : World) (rs valid : List Standing) (around : DynamicContext) (z z' : FlatState) (y y' : MidState)
    → WorldKept setting w w' z z' y y' → Around setting credit z z' y y' → AroundStands setting w rs valid around z y
    → AroundStands setting w' rs valid around z' y'

-- one thing after another: a part, and what goes on with its value
abbrev pub LawOfTwoParts : Type 0
LawOfTwoParts =
    (setting : Setting) (c1 c2 credit d1 : ℕ) (a : Start setting) (r : FlatEvaluated) (q : MidOutcome) (f : Value → FlatState → FlatEvaluated) (next : Next)
    → a.d ≤ d1 → c1 + c2 ≤ credit → a.z.state.units ≤ r.state.state.units → EndsFrom setting c1 a d1 r q
    → ((v : Value) (z : FlatState) → FlatGrown z (f v z).state) → ((g : Registers) (y : MidState) → Grown y (next g y).state)
    → ((x : FellFrom setting c1 a d1 r q)
    → FormEnds setting c2 a.turns a.rs a.valid a.s a.d x.w' a.env a.around r.state q.registers q.state (f x.result r.state) (next q.registers q.state))
    → EndsAt setting credit a (go_on r f) (mid_go_on q next)

-- a choice: one code or another, as a test says
abbrev pub LawOfChoices : Type 0
LawOfChoices =
    (setting : Setting) (c1 credit : ℕ) (c : Context) (a : Start setting) (t : Test) (first second : MidCode) (v w : ℕ) (b : Bool) (f g : FlatEvaluated)
    → register t.first a.regs ≡ Some v → register t.second a.regs ≡ Some w → compares t.comparison v w ≡ b → c1 + 14 ≤ credit
    → a.z.state.units ≤ f.state.state.units → a.z.state.units ≤ g.state.state.units
    → (b ≡ true
    → FormEnds setting c1 a.turns a.rs a.valid a.s a.d a.w a.env a.around a.z a.regs (mid_charged test_cost a.y) f (exec c first a.regs (mid_charged test_cost a.y)))
    → (b ≡ false
    → FormEnds setting c1 a.turns a.rs a.valid a.s a.d a.w a.env a.around a.z a.regs (mid_charged test_cost a.y) g (exec c second a.regs (mid_charged test_cost a.y)))
    → EndsAt setting credit a (if b then f else g) (exec_step c (choose t first second) a.regs a.y)
