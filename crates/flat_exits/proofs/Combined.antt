-- What an evaluation comes to: a state in which no more exits are new than units were charged. One lemma for each combinator of the meaning.
use Rattle.std.proofs.Common.{ℕ, ◌+◌, ◌≤◌, Bool, true, false, List, [], ◌∷◌, arith, Option, Some, None, length}
use Rattle.std.specs.Prelude.{◌==◌, if◌then◌else◌}
use Rattle.lang_meaning.specs.declared.primitive.Primitive.{Primitive}
use Rattle.lang_meaning.specs.declared.program.ProgramRows.{ProgramRows}
use Rattle.lang_meaning.specs.Values.{Value, object}
use Rattle.lang_meaning.specs.Objects.{Object, function}
use Rattle.lang_meaning.specs.Primitives.{Answer, primitive}
use Rattle.lang_meaning.specs.State.{State, DynamicContext, Landing, Outcome, value, exit, full, more, exits_from, Limit, has_room, room_left, with_words, stored}
use Rattle.lang_meaning.specs.State as base
use Rattle.lang_meaning.proofs.Answers.{state_of}
use Rattle.flat_language.specs.declared.place.Home.{Home}
use Rattle.flat_language.specs.FlatState.{FrameSlot, Captured, FlatEnvironment, FlatState, FlatEvaluated, FlatAct, on_state, charged, with_slots, gives, leaves, go_on, go_on_from, landed, landed_from, caught, cleaned, cleaned_from, request, make, make_closure, with_stack, in_frame, in_new_slots, in_own_frame}
use Rattle.flat_language.specs.FlatSignals.{FlatTask, FlatEvaluation, with_some}
use Rattle.flat_laws.proofs.Answers.{HoldsOfAnswers, primitive_answers}
use Rattle.flat_exits.specs.Laws.{ExitsArePaid}

-- states

pub unchanged : (z : FlatState) → ExitsArePaid z z
unchanged z = record { by = omega arith }

pub both : {x y z : FlatState} → ExitsArePaid x y → ExitsArePaid y z → ExitsArePaid x z
both a b = record { by = omega (arith, a.by, b.by) }

-- evaluations

pub record ComesTo (z : FlatState) (r : FlatEvaluated) : Type 0 where
  pub grows : ExitsArePaid z r.state

-- with one exit that is not paid
pub record Owes (z : FlatState) (r : FlatEvaluated) : Type 0 where
  pub by : r.state.state.exits + z.state.units ≤ z.state.exits + r.state.state.units + 1

-- what goes on from values, and from states
abbrev pub Continues : (Value → FlatState → FlatEvaluated) → Type 0
Continues next = (v : Value) (z : FlatState) → ComesTo z (next v z)

abbrev pub OwesOn : (Value → FlatState → FlatEvaluated) → Type 0
OwesOn next = (v : Value) (z : FlatState) → Owes z (next v z)

abbrev pub Follows : (FlatState → FlatEvaluated) → Type 0
Follows next = (z : FlatState) → ComesTo z (next z)

-- an act, in every dynamic context, and a meaning, of all tasks
abbrev pub Acts : FlatAct → Type 0
Acts act = (around : DynamicContext) (z : FlatState) → ComesTo z (act around z)

abbrev pub Tasks : (FlatTask → FlatEvaluation) → Type 0
Tasks below = (task : FlatTask) (env : FlatEnvironment) → Acts (below task env)

pub itself : {z : FlatState} (r : FlatEvaluated) → ExitsArePaid z r.state → ComesTo z r
itself r g = record { grows = g }

pub given : {z : FlatState} (v : Value) (after : FlatState) → ExitsArePaid z after → ComesTo z (gives v after)
given v after g = record { grows = g }

pub sooner : {y z : FlatState} {r : FlatEvaluated} → ExitsArePaid y z → ComesTo z r → ComesTo y r
sooner g x = record { grows = both g x.grows }

pub owes : {z : FlatState} {r : FlatEvaluated} → ComesTo z r → Owes z r
owes x = record { by = omega (arith, x.grows.by) }

-- a unit that was charged before pays for it
pub paid : (n : ℕ) (z : FlatState) {r : FlatEvaluated} → 1 ≤ n → Owes (charged n z) r → ComesTo z r
paid n z few x = record { grows = record { by = omega (arith, few, x.by) } }

-- what is done with a result
used : {y : FlatState} {r : FlatEvaluated} (f : Outcome → FlatState → FlatEvaluated) → ((o : Outcome) (z : FlatState) → ComesTo z (f o z)) → ComesTo y r
    → ComesTo y (f r.outcome r.state)
used {y} {r} f h x = sooner x.grows (h r.outcome r.state)

pub on : {y : FlatState} {r : FlatEvaluated} {next : Value → FlatState → FlatEvaluated} → ComesTo y r → Continues next → ComesTo y (go_on r next)
on {y} {r} {next} x c = used (λ o z. go_on_from o z next) at x
  where
    at : (o : Outcome) (z : FlatState) → ComesTo z (go_on_from o z next)
    at (value v) z = c v z
    at (exit e v landing) z = itself (record { outcome = exit e v landing; state = z }) (unchanged z)
    at (full asked left) z = itself (record { outcome = full asked left; state = z }) (unchanged z)
    at more z = itself (record { outcome = more; state = z }) (unchanged z)

-- the same where what goes on owes one, and where it is told how it was come to
pub on_owing : {y : FlatState} {r : FlatEvaluated} {next : Value → FlatState → FlatEvaluated} → ComesTo y r → OwesOn next → Owes y (go_on r next)
on_owing {y} {r} {next} x c = by r.outcome r.state x.grows
  where
    by : (o : Outcome) (z : FlatState) → ExitsArePaid y z → Owes y (go_on_from o z next)
    by (value v) z g = let h = c v z in record { by = omega (arith, g.by, h.by) }
    by (exit e v landing) z g = record { by = omega (arith, g.by) }
    by (full asked left) z g = record { by = omega (arith, g.by) }
    by more z g = record { by = omega (arith, g.by) }

pub tests : {z : FlatState} (b : Bool) {r s : FlatEvaluated} → ComesTo z r → ComesTo z s → ComesTo z (if b then r else s)
tests true x y = x
tests false x y = y

pub tests_owing : {z : FlatState} (b : Bool) {r s : FlatEvaluated} → Owes z r → Owes z s → Owes z (if b then r else s)
tests_owing true x y = x
tests_owing false x y = y

-- a form with an exit
pub lands_on : {y : FlatState} {r : FlatEvaluated} (e : ℕ) {land : Value → Landing → FlatState → FlatEvaluated}
    → ((v : Value) (landing : Landing) (z : FlatState) → ComesTo z (land v landing z)) → ComesTo y r → ComesTo y (landed e land r)
lands_on {y} {r} e {land} c x = used (landed_from e land) at x
  where
    at : (o : Outcome) (z : FlatState) → ComesTo z (landed_from e land o z)
    at (value v) z = given v z (unchanged z)
    at (exit n v landing) z = tests (n == e) (c v landing z) (itself (record { outcome = exit n v landing; state = z }) (unchanged z))
    at (full asked left) z = itself (record { outcome = full asked left; state = z }) (unchanged z)
    at more z = itself (record { outcome = more; state = z }) (unchanged z)

pub catches : {y : FlatState} {r : FlatEvaluated} (e : ℕ) → ComesTo y r → ComesTo y (caught e r)
catches e x = lands_on e (λ v landing z. given v z (unchanged z)) x

-- the same where the exit itself is owed
pub owing_catches : {y : FlatState} {r : FlatEvaluated} (e : ℕ) → Owes y r → Owes y (caught e r)
owing_catches {y} {r} e x = by r.outcome r.state x.by
  where
    kept : (o : Outcome) (z : FlatState) → ComesTo z (landed_from e (λ v landing y. gives v y) o z)
    kept (value v) z = given v z (unchanged z)
    kept (exit n v landing) z = tests (n == e) (given v z (unchanged z)) (itself (record { outcome = exit n v landing; state = z }) (unchanged z))
    kept (full asked left) z = itself (record { outcome = full asked left; state = z }) (unchanged z)
    kept more z = itself (record { outcome = more; state = z }) (unchanged z)

    by : (o : Outcome) (z : FlatState) → z.state.exits + y.state.units ≤ y.state.exits + z.state.units + 1 → Owes y (landed_from e (λ v landing y. gives v y) o z)
    by o z g = let h = (kept o z).grows.by in record { by = omega (arith, g, h) }

-- a cleanup
pub cleans : {y : FlatState} {r : FlatEvaluated} (around : DynamicContext) {cleanup : FlatAct} → Acts cleanup → ComesTo y r → ComesTo y (cleaned cleanup around r)
cleans {y} {r} around {cleanup} c x = used (cleaned_from cleanup around) at x
  where
    at : (o : Outcome) (z : FlatState) → ComesTo z (cleaned_from cleanup around o z)
    at (value v) z = on (c around z) (λ w after. given v after (unchanged after))
    at (exit e v landing) z =
        on (c (record around { exits = exits_from e around.exits }) z) (λ w after. itself (leaves e v landing after) (unchanged after))
    at (full asked left) z = itself (record { outcome = full asked left; state = z }) (unchanged z)
    at more z = itself (record { outcome = more; state = z }) (unchanged z)

-- what is there, if something is
pub some : {X : Type 0} (o : Option X) {otherwise : FlatAct} {next : X → FlatAct} → Acts otherwise → ((x : X) → Acts (next x)) → Acts (with_some o otherwise next)
some None n s = n
some (Some x) n s = s x

-- requests, objects and functions
pub requests : (limit : Limit) (n m : ℕ) (z : FlatState) {next : FlatState → FlatEvaluated} → Follows next → ComesTo z (request limit n m z next)
requests limit n m z {next} c =
    tests (has_room limit (z.state.heap + z.state.stack + n + m))
    (sooner (record { by = omega arith }) (c (on_state (λ y. with_words n m y) z)))
    (itself (record { outcome = full (n + m) (room_left limit (z.state.heap + z.state.stack)); state = z }) (unchanged z))

pub charges : (n : ℕ) (z : FlatState) {r : FlatEvaluated} → ComesTo (charged n z) r → ComesTo z r
charges n z x = sooner (record { by = omega arith }) x

pub made : (limit : Limit) (size besides : ℕ) (o : Object) (z : FlatState) {next : Value → FlatState → FlatEvaluated}
    → Continues next → ComesTo z (make limit size besides o z next)
made limit size besides o z c =
    requests limit size 0 z (λ entered.
    sooner (record { by = omega arith }) (c (object (length entered.state.store)) (on_state (λ y. stored o (base.charged (size + besides) y)) entered)))

-- the same where it pays for what goes on
pays : (size besides : ℕ) (o : Object) (entered : FlatState) {r : FlatEvaluated} → 1 ≤ size → Owes (on_state (λ y. stored o (base.charged (size + besides) y)) entered) r
    → ComesTo entered r
pays size besides o entered few x = record { grows = record { by = omega (arith, few, x.by) } }

pub made_paying : (limit : Limit) (size besides : ℕ) (o : Object) (z : FlatState) {next : Value → FlatState → FlatEvaluated}
    → 1 ≤ size → OwesOn next → ComesTo z (make limit size besides o z next)
made_paying limit size besides o z few c =
    requests limit size 0 z (λ entered.
    pays size besides o entered few (c (object (length entered.state.store)) (on_state (λ y. stored o (base.charged (size + besides) y)) entered)))

pub function_made : (limit : Limit) (procedure : ℕ) (cs : List Captured) (z : FlatState) {next : Value → FlatState → FlatEvaluated}
    → Continues next → ComesTo z (make_closure limit procedure cs z next)
function_made limit procedure cs z c =
    requests limit (2 + length cs) 0 z (λ entered.
    sooner (record { by = omega arith })
    (c (object (length entered.state.store)) (record entered {
      state = stored (function procedure) (base.charged (2 + length cs + 0) entered.state);
      captured = (length entered.state.store, cs) ∷ entered.captured;
    })))

with_words_back : (stack : ℕ) (z : FlatState) {r : FlatEvaluated} → ComesTo z r → ComesTo z (with_stack stack r)
with_words_back stack z x = record { grows = record { by = x.grows.by } }

-- an application, whose words are given back
pub framed : (limit : Limit) (size : ℕ) (z : FlatState) {body : FlatState → FlatEvaluated} → Follows body → ComesTo z (in_frame limit size body z)
framed limit size z c = requests limit 0 size z (λ entered. with_words_back z.state.stack entered (c entered))

-- a body with new slots, and one in a frame of its own
pub new_slots_left : (hs : List Home) (vs : List Value) (z : FlatState) {body : FlatState → FlatEvaluated} → Follows body → ComesTo z (in_new_slots hs vs body z)
new_slots_left hs vs z c = let x = c (with_slots hs vs z) in record { grows = record { by = x.grows.by } }

pub slots_paid : (hs : List Home) (vs : List Value) (z : FlatState) → ExitsArePaid z (with_slots hs vs z)
slots_paid hs vs z = record { by = omega arith }

pub own_slots_left : (z : FlatState) {body : FlatState → FlatEvaluated} → Follows body → ComesTo z (in_own_frame body z)
own_slots_left z c = let x = c (record z { frame = [] }) in record { grows = record { by = x.grows.by } }

-- the step of a primitive
module _ (frame : List FrameSlot) (captured : List (ℕ × List Captured)) where
  abbrev around : State → FlatState
  around z = record { state = z; frame = frame; captured = captured }

  abbrev Keeps : Value → State → Answer → Type 0
  Keeps set z a = ExitsArePaid (around z) (around (state_of a))

  answers_keep : HoldsOfAnswers Keeps
  answers_keep = record {
    value = λ set v z. unchanged (around z);
    counts = λ set v n z. record { by = omega arith };
    changes = λ v i o z h. record { by = omega arith };
    prints = λ set v c z. record { by = omega arith };
    reads = λ set v z. record { by = omega arith };
    object_made = λ set size besides o z. unchanged (around z);
    symbol_made = λ set z. unchanged (around z);
    failed = λ set class vs z. unchanged (around z);
    failed_late = λ set class vs n z. record { by = omega arith };
    mistaken = λ set v expected z. unchanged (around z);
  }

  primitive_between : (names : List (List ℕ)) (program : ProgramRows) (which : Primitive) (vs : List Value) (z : State)
      → ExitsArePaid (around z) (around (state_of (primitive names program which vs z)))
  primitive_between names program which vs z = primitive_answers Keeps answers_keep names program which vs z

pub primitive_step :
    (names : List (List ℕ)) (program : ProgramRows) (which : Primitive) (vs : List Value) (z : FlatState)
    → ExitsArePaid z (record z { state = state_of (primitive names program which vs z.state) })
primitive_step names program which vs z = primitive_between z.frame z.captured names program which vs z.state
