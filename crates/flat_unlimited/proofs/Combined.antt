-- What does not end for want of words: one lemma for each combinator of the meaning.
use Rattle.std.proofs.Common.{◌≡◌, ℕ, ◌+◌, Bool, true, false, List, [], ◌∷◌, refl, ap, Option, Some, None, length}
use Rattle.std.specs.Prelude.{◌==◌, if◌then◌else◌}
use Rattle.lang_meaning.specs.Values.{Value, object}
use Rattle.lang_meaning.specs.Objects.{Object, function}
use Rattle.lang_meaning.specs.State.{DynamicContext, Landing, Outcome, value, exit, full, more, exits_from, Limit, unlimited, has_room, room_left, with_words, stored}
use Rattle.lang_meaning.specs.State as base
use Rattle.flat_language.specs.declared.place.Home.{Home}
use Rattle.flat_language.specs.FlatState.{Captured, FlatEnvironment, FlatState, FlatEvaluated, FlatAct, on_state, with_slots, gives, leaves, go_on, go_on_from, landed, landed_from, caught, cleaned, cleaned_from, request, make, make_closure, with_stack, in_frame, in_new_slots, with_frame, in_own_frame}
use Rattle.flat_language.specs.FlatSignals.{FlatTask, FlatEvaluation, with_some}
use Rattle.flat_unlimited.specs.Laws.{HadRoom}

pub record NeverFull (r : FlatEvaluated) : Type 0 where
  pub by : HadRoom r.outcome

-- what goes on from values, and from states
abbrev pub Continues : (Value → FlatState → FlatEvaluated) → Type 0
Continues next = (v : Value) (z : FlatState) → NeverFull (next v z)

abbrev pub Follows : (FlatState → FlatEvaluated) → Type 0
Follows next = (z : FlatState) → NeverFull (next z)

-- an act, in every dynamic context, and a meaning, of all tasks
abbrev pub Acts : FlatAct → Type 0
Acts act = (around : DynamicContext) (z : FlatState) → NeverFull (act around z)

abbrev pub Tasks : (FlatTask → FlatEvaluation) → Type 0
Tasks below = (task : FlatTask) (env : FlatEnvironment) → Acts (below task env)

pub given : (v : Value) (z : FlatState) → NeverFull (gives v z)
given v z = record { by = tt }

pub left_by : (e : ℕ) (v : Value) (landing : Landing) (z : FlatState) → NeverFull (leaves e v landing z)
left_by e v landing z = record { by = tt }

-- what is done with a result
used : (f : Outcome → FlatState → FlatEvaluated) → ((o : Outcome) (z : FlatState) → HadRoom o → NeverFull (f o z)) → {r : FlatEvaluated} → NeverFull r
    → NeverFull (f r.outcome r.state)
used f h {r} x = h r.outcome r.state x.by

pub on : {r : FlatEvaluated} {next : Value → FlatState → FlatEvaluated} → NeverFull r → Continues next → NeverFull (go_on r next)
on {r} {next} x c = used (λ o z. go_on_from o z next) at x
  where
    at : (o : Outcome) (z : FlatState) → HadRoom o → NeverFull (go_on_from o z next)
    at (value v) z h = c v z
    at (exit e v landing) z h = record { by = tt }
    at (full asked left) z h = absurd h
    at more z h = record { by = tt }

-- a test
pub tests : (b : Bool) {r s : FlatEvaluated} → NeverFull r → NeverFull s → NeverFull (if b then r else s)
tests true x y = x
tests false x y = y

-- a form with an exit
pub lands_on : (e : ℕ) {land : Value → Landing → FlatState → FlatEvaluated} {r : FlatEvaluated}
    → ((v : Value) (landing : Landing) (z : FlatState) → NeverFull (land v landing z)) → NeverFull r → NeverFull (landed e land r)
lands_on e {land} {r} c x = used (landed_from e land) at x
  where
    at : (o : Outcome) (z : FlatState) → HadRoom o → NeverFull (landed_from e land o z)
    at (value v) z h = given v z
    at (exit n v landing) z h = tests (n == e) (c v landing z) (left_by n v landing z)
    at (full asked left) z h = absurd h
    at more z h = record { by = tt }

pub catches : (e : ℕ) {r : FlatEvaluated} → NeverFull r → NeverFull (caught e r)
catches e x = lands_on e (λ v landing z. given v z) x

-- a cleanup
pub cleans : (around : DynamicContext) {cleanup : FlatAct} {r : FlatEvaluated} → Acts cleanup → NeverFull r → NeverFull (cleaned cleanup around r)
cleans around {cleanup} {r} c x = used (cleaned_from cleanup around) at x
  where
    at : (o : Outcome) (z : FlatState) → HadRoom o → NeverFull (cleaned_from cleanup around o z)
    at (value v) z h = on (c around z) (λ w after. given v after)
    at (exit e v landing) z h = on (c (record around { exits = exits_from e around.exits }) z) (λ w after. left_by e v landing after)
    at (full asked left) z h = absurd h
    at more z h = record { by = tt }

-- what is there, if something is
pub some : {X : Type 0} (o : Option X) {otherwise : FlatAct} {next : X → FlatAct} → Acts otherwise → ((x : X) → Acts (next x)) → Acts (with_some o otherwise next)
some None n s = n
some (Some x) n s = s x

-- requests, where there is no limit
chosen : (b : Bool) {r s : FlatEvaluated} → (b ≡ true → NeverFull r) → (b ≡ false → NeverFull s) → NeverFull (if b then r else s)
chosen true x y = x refl
chosen false x y = y refl

pub requests : (limit : Limit) → limit ≡ unlimited → (n m : ℕ) (z : FlatState) {next : FlatState → FlatEvaluated} → Follows next → NeverFull (request limit n m z next)
requests limit e n m z {next} c =
    let room : has_room limit (z.state.heap + z.state.stack + n + m) ≡ true = ap (λ l. has_room l (z.state.heap + z.state.stack + n + m)) e in
    chosen (has_room limit (z.state.heap + z.state.stack + n + m)) (λ h. c (on_state (λ y. with_words n m y) z)) (λ h. absurd (cc (h, room)))

pub made : (limit : Limit) → limit ≡ unlimited → (size besides : ℕ) (o : Object) (z : FlatState) {next : Value → FlatState → FlatEvaluated}
    → Continues next → NeverFull (make limit size besides o z next)
made limit e size besides o z c =
    requests limit e size 0 z (λ entered. c (object (length entered.state.store)) (on_state (λ y. stored o (base.charged (size + besides) y)) entered))

pub function_made : (limit : Limit) → limit ≡ unlimited → (procedure : ℕ) (cs : List Captured) (z : FlatState) {next : Value → FlatState → FlatEvaluated}
    → Continues next → NeverFull (make_closure limit procedure cs z next)
function_made limit e procedure cs z c =
    requests limit e (2 + length cs) 0 z (λ entered.
    c (object (length entered.state.store)) (record entered {
      state = stored (function procedure) (base.charged (2 + length cs + 0) entered.state);
      captured = (length entered.state.store, cs) ∷ entered.captured;
    }))

with_words_back : (stack : ℕ) {r : FlatEvaluated} → NeverFull r → NeverFull (with_stack stack r)
with_words_back stack x = record { by = x.by }

-- an application, whose words are given back
pub framed : (limit : Limit) → limit ≡ unlimited → (size : ℕ) (z : FlatState) {body : FlatState → FlatEvaluated} → Follows body → NeverFull (in_frame limit size body z)
framed limit e size z c = requests limit e 0 size z (λ entered. with_words_back z.state.stack (c entered))

-- a body with new slots, and one in a frame of its own
pub new_slots_left : (hs : List Home) (vs : List Value) (z : FlatState) {body : FlatState → FlatEvaluated} → Follows body → NeverFull (in_new_slots hs vs body z)
new_slots_left hs vs z c = let x = c (with_slots hs vs z) in record { by = x.by }

pub own_frame_left : (z : FlatState) {r : FlatEvaluated} → NeverFull r → NeverFull (with_frame z.frame r)
own_frame_left z x = record { by = x.by }

pub own_slots_left : (z : FlatState) {body : FlatState → FlatEvaluated} → Follows body → NeverFull (in_own_frame body z)
own_slots_left z c = own_frame_left z (c (record z { frame = [] }))
