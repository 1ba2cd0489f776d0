-- What an evaluation of flat forms comes to: a later state, and among transfers only those to exits around. One lemma for each
-- combinator of the meaning.
use Rattle.std.proofs.Common.{◌≡◌, ℕ, ◌+◌, Bool, true, false, List, [], ◌∷◌, refl, sym, ◌⊎◌, inl, inr, Option, Some, None, length}
use Rattle.std.specs.Prelude.{◌==◌, if◌then◌else◌}
use Rattle.lang_meaning.specs.Laws.{IsExitOf, LandsIn}
use Rattle.lang_meaning.specs.Values.{Value, object}
use Rattle.lang_meaning.specs.Objects.{Object}
use Rattle.lang_meaning.specs.State.{DynamicContext, Exit, ExitKind, Landing, Outcome, value, exit, full, more, exits_from, Limit, has_room, room_left, with_words, stored}
use Rattle.lang_meaning.proofs.Compared.{exits_from_all}
use Rattle.flat_language.specs.declared.place.Home.{Home}
use Rattle.flat_language.specs.FlatState.{Captured, FlatEnvironment, FlatState, FlatEvaluated, FlatAct, on_state, charged, with_values, new_slots, new_boxes, with_slots, gives, leaves, go_on, go_on_from, landed, landed_from, caught, cleaned, cleaned_from, request, make, make_closure, with_stack, in_frame, in_new_slots, with_frame, in_own_frame}
use Rattle.flat_language.specs.FlatSignals.{FlatTask, FlatEvaluation, with_some}
use Rattle.flat_language.proofs.Lists.{unequal}
use Rattle.flat_laws.proofs.Steps.{IsKeptByFlatRules}

-- an exit after the first one
other_exit : (e x : ℕ) (exits : List Exit) → (e == x) ≡ false → x ≡ e ⊎ IsExitOf e exits → IsExitOf e exits
other_exit e x exits h (inl same) = absurd (unequal e x h (sym same))
other_exit e x exits h (inr i) = i

wider_landing : (few many : List Exit) → ((e : ℕ) → IsExitOf e few → IsExitOf e many) → (o : Outcome) → LandsIn few o → LandsIn many o
wider_landing few many w (value v) l = tt
wider_landing few many w (exit e v landing) (inl i) = inl i
wider_landing few many w (exit e v landing) (inr i) = inr (w e i)
wider_landing few many w (full asked left) l = tt
wider_landing few many w more l = tt

module _ (R : FlatState → FlatState → Type 0) (k : IsKeptByFlatRules R) where
  -- from a state, among exits, an evaluation comes to a later state and lands among the exits
  pub record ComesTo (exits : List Exit) (z : FlatState) (r : FlatEvaluated) : Type 0 where
    pub grows : R z r.state
    pub lands : LandsIn exits r.outcome

  -- what goes on from values, and from states
  abbrev pub Continues : List Exit → (Value → FlatState → FlatEvaluated) → Type 0
  Continues exits next = (v : Value) (z : FlatState) → ComesTo exits z (next v z)

  abbrev pub Follows : List Exit → (FlatState → FlatEvaluated) → Type 0
  Follows exits next = (z : FlatState) → ComesTo exits z (next z)

  -- an act, in every dynamic context
  abbrev pub Acts : FlatAct → Type 0
  Acts act = (around : DynamicContext) (z : FlatState) → ComesTo around.exits z (act around z)

  -- a meaning, of all tasks
  abbrev pub Tasks : (FlatTask → FlatEvaluation) → Type 0
  Tasks below = (task : FlatTask) (env : FlatEnvironment) → Acts (below task env)

module _ {R : FlatState → FlatState → Type 0} {k : IsKeptByFlatRules R} where
  pub itself : (exits : List Exit) {z : FlatState} (r : FlatEvaluated) → R z r.state → LandsIn exits r.outcome → ComesTo R k exits z r
  itself exits r g l = record { grows = g; lands = l }

  pub given : (exits : List Exit) {z : FlatState} (v : Value) (after : FlatState) → R z after → ComesTo R k exits z (gives v after)
  given exits v after g = itself exits (gives v after) g tt

  -- from an earlier state, and among more exits
  pub sooner : {exits : List Exit} {y z : FlatState} {r : FlatEvaluated} → R y z → ComesTo R k exits z r → ComesTo R k exits y r
  sooner g x = record { grows = k.both g x.grows; lands = x.lands }

  pub wider : {few many : List Exit} {z : FlatState} {r : FlatEvaluated} → ((e : ℕ) → IsExitOf e few → IsExitOf e many)
      → ComesTo R k few z r → ComesTo R k many z r
  wider {few} {many} {z} {r} w x = record { grows = x.grows; lands = wider_landing few many w r.outcome x.lands }

  -- what is done with a result
  pub used : {exits others : List Exit} {y : FlatState} {r : FlatEvaluated} (f : Outcome → FlatState → FlatEvaluated)
      → ((o : Outcome) (z : FlatState) → LandsIn exits o → ComesTo R k others z (f o z))
      → ComesTo R k exits y r → ComesTo R k others y (f r.outcome r.state)
  used {exits} {others} {y} {r} f h x = sooner x.grows (h r.outcome r.state x.lands)

  pub on : {exits : List Exit} {y : FlatState} {r : FlatEvaluated} {next : Value → FlatState → FlatEvaluated}
      → ComesTo R k exits y r → Continues R k exits next → ComesTo R k exits y (go_on r next)
  on {exits} {y} {r} {next} x c = used (λ o z. go_on_from o z next) at x
    where
      at : (o : Outcome) (z : FlatState) → LandsIn exits o → ComesTo R k exits z (go_on_from o z next)
      at (value v) z l = c v z
      at (exit e v landing) z l = itself exits (record { outcome = exit e v landing; state = z }) (k.none z) l
      at (full asked left) z l = itself exits (record { outcome = full asked left; state = z }) (k.none z) l
      at more z l = itself exits (record { outcome = more; state = z }) (k.none z) l

  -- a test
  pub tests : {exits : List Exit} {z : FlatState} (b : Bool) {r s : FlatEvaluated}
      → ComesTo R k exits z r → ComesTo R k exits z s → ComesTo R k exits z (if b then r else s)
  tests true x y = x
  tests false x y = y

  chosen : {exits : List Exit} {z : FlatState} (b : Bool) {r s : FlatEvaluated}
      → (b ≡ true → ComesTo R k exits z r) → (b ≡ false → ComesTo R k exits z s) → ComesTo R k exits z (if b then r else s)
  chosen true x y = x refl
  chosen false x y = y refl

  -- a form with an exit
  pub lands_on : {exits : List Exit} {y : FlatState} {r : FlatEvaluated} (e : ℕ) (kind : ExitKind)
      {land : Value → Landing → FlatState → FlatEvaluated}
      → ((v : Value) (landing : Landing) (z : FlatState) → ComesTo R k exits z (land v landing z))
      → ComesTo R k (record { number = e; kind = kind } ∷ exits) y r → ComesTo R k exits y (landed e land r)
  lands_on {exits} {y} {r} e kind {land} c x = used (landed_from e land) at x
    where
      at : (o : Outcome) (z : FlatState) → LandsIn (record { number = e; kind = kind } ∷ exits) o
          → ComesTo R k exits z (landed_from e land o z)
      at (value v) z l = given exits v z (k.none z)
      at (exit n v landing) z (inl i) = chosen (n == e) (λ h. c v landing z)
          (λ h. itself exits (record { outcome = exit n v landing; state = z }) (k.none z) (inl i))
      at (exit n v landing) z (inr i) = chosen (n == e) (λ h. c v landing z)
          (λ h. itself exits (record { outcome = exit n v landing; state = z }) (k.none z) (inr (other_exit n e exits h i)))
      at (full asked left) z l = itself exits (record { outcome = full asked left; state = z }) (k.none z) l
      at more z l = itself exits (record { outcome = more; state = z }) (k.none z) l

  pub catches : {exits : List Exit} {y : FlatState} {r : FlatEvaluated} (e : ℕ) (kind : ExitKind)
      → ComesTo R k (record { number = e; kind = kind } ∷ exits) y r → ComesTo R k exits y (caught e r)
  catches {exits} e kind x = lands_on e kind (λ v landing z. given exits v z (k.none z)) x

  -- a cleanup
  pub cleans : {y : FlatState} {r : FlatEvaluated} (around : DynamicContext) {cleanup : FlatAct} → Acts R k cleanup
      → ComesTo R k around.exits y r → ComesTo R k around.exits y (cleaned cleanup around r)
  cleans {y} {r} around {cleanup} c x = used (cleaned_from cleanup around) at x
    where
      at : (o : Outcome) (z : FlatState) → LandsIn around.exits o → ComesTo R k around.exits z (cleaned_from cleanup around o z)
      at (value v) z l = on (c around z) (λ w after. given around.exits v after (k.none after))
      at (exit e v landing) z l =
          on (wider (λ n. exits_from_all n e around.exits) (c (record around { exits = exits_from e around.exits }) z))
          (λ w after. itself around.exits (leaves e v landing after) (k.none after) l)
      at (full asked left) z l = itself around.exits (record { outcome = full asked left; state = z }) (k.none z) l
      at more z l = itself around.exits (record { outcome = more; state = z }) (k.none z) l

  -- what is there, if something is
  pub some : {X : Type 0} (o : Option X) {otherwise : FlatAct} {next : X → FlatAct} → Acts R k otherwise
      → ((x : X) → Acts R k (next x)) → Acts R k (with_some o otherwise next)
  some None n s = n
  some (Some x) n s = s x

  -- requests of the heap, objects and functions
  pub requests : {exits : List Exit} (limit : Limit) (n : ℕ) (z : FlatState) {next : FlatState → FlatEvaluated}
      → Follows R k exits next → ComesTo R k exits z (request limit n 0 z next)
  requests {exits} limit n z {next} c =
      tests (has_room limit (z.state.heap + z.state.stack + n + 0))
      (sooner (k.words n z) (c (on_state (λ y. with_words n 0 y) z)))
      (itself exits (record { outcome = full (n + 0) (room_left limit (z.state.heap + z.state.stack)); state = z }) (k.none z) tt)

  pub charges : {exits : List Exit} (n : ℕ) (z : FlatState) {r : FlatEvaluated}
      → ComesTo R k exits (charged n z) r → ComesTo R k exits z r
  charges n z x = sooner (k.charge n z) x

  pub made : {exits : List Exit} (limit : Limit) (size besides : ℕ) (o : Object) (z : FlatState) {next : Value → FlatState → FlatEvaluated}
      → Continues R k exits next → ComesTo R k exits z (make limit size besides o z next)
  made {exits} limit size besides o z c =
      requests limit size z (λ entered.
      charges (size + besides) entered
      (sooner (k.store o (charged (size + besides) entered))
      (c (object (length entered.state.store)) (on_state (λ y. stored o y) (charged (size + besides) entered)))))

  pub function_made : {exits : List Exit} (limit : Limit) (procedure : ℕ) (cs : List Captured) (z : FlatState) {next : Value → FlatState → FlatEvaluated}
      → Continues R k exits next → ComesTo R k exits z (make_closure limit procedure cs z next)
  function_made {exits} limit procedure cs z c =
      requests limit (2 + length cs) z (λ entered.
      charges (2 + length cs + 0) entered
      (sooner (k.function procedure cs (charged (2 + length cs + 0) entered))
      (c (object (length entered.state.store)) _)))

  -- an application, whose words are given back
  pub framed : {exits : List Exit} (limit : Limit) (size : ℕ) (z : FlatState) {body : FlatState → FlatEvaluated}
      → Follows R k exits body → ComesTo R k exits z (in_frame limit size body z)
  framed {exits} limit size z {body} c =
      let entered : FlatState = on_state (λ y. with_words 0 size y) z in
      let x : ComesTo R k exits entered (body entered) = c entered in
      tests (has_room limit (z.state.heap + z.state.stack + 0 + size))
      (itself exits (with_stack z.state.stack (body entered)) (k.given_back size z (body entered).state x.grows) x.lands)
      (itself exits (record { outcome = full (0 + size) (room_left limit (z.state.heap + z.state.stack)); state = z }) (k.none z) tt)

  -- a body with new slots, and one in a frame of its own
  pub new_slots_left : {exits : List Exit} (hs : List Home) (vs : List Value) (z : FlatState) {body : FlatState → FlatEvaluated}
      → Follows R k exits body → ComesTo R k exits z (in_new_slots hs vs body z)
  new_slots_left {exits} hs vs z {body} c =
      let x : ComesTo R k exits (with_slots hs vs z) (body (with_slots hs vs z)) = c (with_slots hs vs z) in record {
        grows = k.both (k.values (new_boxes hs vs) z)
            (k.slots (new_slots hs vs (length z.state.variables)) (with_values (new_boxes hs vs) z) (body (with_slots hs vs z)).state x.grows);
        lands = x.lands;
      }

  pub own_frame_left : {exits : List Exit} (z : FlatState) {r : FlatEvaluated}
      → ComesTo R k exits (record z { frame = [] }) r → ComesTo R k exits z (with_frame z.frame r)
  own_frame_left z {r} x = record { grows = k.own_frame [] z r.state x.grows; lands = x.lands }

  -- one that begins with slots
  pub own_slots_left : {exits : List Exit} (hs : List Home) (vs : List Value) (z : FlatState) {body : FlatState → FlatEvaluated}
      → Follows R k exits body → ComesTo R k exits z (in_own_frame (λ inner. body (with_slots hs vs inner)) z)
  own_slots_left {exits} hs vs z {body} c =
      let inner : FlatState = with_slots hs vs (record z { frame = [] }) in
      let x : ComesTo R k exits inner (body inner) = c inner in record {
        grows = k.both (k.values (new_boxes hs vs) z)
            (k.own_frame (new_slots hs vs (length z.state.variables)) (with_values (new_boxes hs vs) z) (body inner).state x.grows);
        lands = x.lands;
      }
