-- What comes behind a part of code, by how the part ended.
use Rattle.std.proofs.Common.{◌≡◌, List, [], ◌∷◌, refl, sym, ap, ◌∙◌}
use Rattle.mid_code.specs.MidCode.{MidStep, code_of}
use Rattle.mid_code.specs.State.{Registers, MidState, End, falls, returns, cuts, no_room, no_level, no_turn, halts, unhandled, exhausted, stuck, MidOutcome, Next, ends, go_on, go_on_from}
use Rattle.mid_code.specs.Meaning.{Context, exec, exec_step}

-- an end that is not falling out
abbrev pub IsLast : End → Type 0
IsLast falls = ⊥
IsLast other = Unit {0}

pub go_on_falls : (q : MidOutcome) (next : Next) → q.end ≡ falls → go_on q next ≡ next q.registers q.state
unfolding go_on
go_on_falls q next e = ap (λ e. go_on_from e q next) e

pub go_on_last : (e : End) (q : MidOutcome) (next : Next) → q.end ≡ e → IsLast e → go_on q next ≡ q
unfolding go_on
go_on_last falls q next same h = absurd h
go_on_last (returns w) q next same h = ap (λ e. go_on_from e q next) same
go_on_last (cuts n w) q next same h = ap (λ e. go_on_from e q next) same
go_on_last (no_room asked left) q next same h = ap (λ e. go_on_from e q next) same
go_on_last no_level q next same h = ap (λ e. go_on_from e q next) same
go_on_last no_turn q next same h = ap (λ e. go_on_from e q next) same
go_on_last (halts w) q next same h = ap (λ e. go_on_from e q next) same
go_on_last (unhandled class site condition) q next same h = ap (λ e. go_on_from e q next) same
go_on_last exhausted q next same h = ap (λ e. go_on_from e q next) same
go_on_last stuck q next same h = ap (λ e. go_on_from e q next) same

-- nothing comes behind
pub go_on_ends : (q : MidOutcome) → go_on q (λ rs z. ends falls rs z) ≡ q
unfolding go_on
go_on_ends q = by q.end refl
  where
    by : (e : End) → q.end ≡ e → go_on_from q.end q (λ rs z. ends falls rs z) ≡ q
    by falls e = ap (λ x. go_on_from x q (λ rs z. ends falls rs z)) e ∙ ap (λ x. ends x q.registers q.state) (sym e)
    by (returns w) e = ap (λ x. go_on_from x q (λ rs z. ends falls rs z)) e
    by (cuts n w) e = ap (λ x. go_on_from x q (λ rs z. ends falls rs z)) e
    by (no_room asked left) e = ap (λ x. go_on_from x q (λ rs z. ends falls rs z)) e
    by no_level e = ap (λ x. go_on_from x q (λ rs z. ends falls rs z)) e
    by no_turn e = ap (λ x. go_on_from x q (λ rs z. ends falls rs z)) e
    by (halts w) e = ap (λ x. go_on_from x q (λ rs z. ends falls rs z)) e
    by (unhandled class site condition) e = ap (λ x. go_on_from x q (λ rs z. ends falls rs z)) e
    by exhausted e = ap (λ x. go_on_from x q (λ rs z. ends falls rs z)) e
    by stuck e = ap (λ x. go_on_from x q (λ rs z. ends falls rs z)) e

pub single_step : (c : Context) (s : MidStep) (rs : Registers) (z : MidState) → exec c (code_of (s ∷ [])) rs z ≡ exec_step c s rs z
unfolding exec
single_step c s rs z = go_on_ends (exec_step c s rs z)

-- a step, and what comes behind
pub step_then :
    (c : Context) (s : MidStep) (ss : List MidStep) (rs : Registers) (z : MidState)
    → exec c (code_of (s ∷ ss)) rs z ≡ go_on (exec_step c s rs z) (λ rs' y. exec c (code_of ss) rs' y)
unfolding exec
step_then c s ss rs z = refl
