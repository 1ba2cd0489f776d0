-- Where the transfers of an evaluation go, and which exits functions capture. One lemma for each combinator of the meaning.
--
-- Some exits are reserved: nothing names them. Numbers of exits grow, and so what names exits is bounded by a floor: so many exits
-- were made at least. Where `counted` holds, all that is named was made as well.
use Rattle.std.proofs.Common.{◌≡◌, ◌≤◌, ℕ, suc, ◌+◌, Bool, true, false, List, [], ◌∷◌, ◌++◌, refl, ap, subst, ◌∙◌, arith, Option, Some, None, length}
use Rattle.std.specs.Prelude.{◌<◌, ◌==◌, if◌then◌else◌, slice_get, ⊤}
use Rattle.std.proofs.lemmas.Option.{slice_get_within}
use Rattle.base.specs.declared.place.Place.{Place}
use Rattle.lang_meaning.specs.declared.primitive.Primitive.{Primitive}
use Rattle.lang_meaning.specs.declared.program.ProgramRows.{ProgramRows}
use Rattle.lang_meaning.specs.Values.{Value, object}
use Rattle.lang_meaning.specs.Objects.{Object, cons, string, vector, instance, function, closure, generic_function, class_object, input_stream, output_stream, fresh_symbol}
use Rattle.lang_meaning.specs.Primitives.{primitive}
use Rattle.lang_meaning.specs.State.{State, DynamicContext, Exit, Landing, at_segment, at_site, Outcome, value, exit, full, more, exits_from, Limit, has_room, room_left, with_words, stored}
use Rattle.lang_meaning.specs.State as base
use Rattle.lang_meaning.proofs.Answers.{state_of}
use Rattle.flat_language.specs.declared.place.Home.{Home}
use Rattle.flat_language.specs.FlatState.{Captured, FlatEnvironment, FlatState, FlatEvaluated, FlatAct, under, on_state, with_slots, gives, leaves, go_on, go_on_from, landed, landed_from, caught, cleaned, cleaned_from, request, make, make_closure, with_stack, in_frame, in_new_slots, in_own_frame}
use Rattle.flat_language.specs.FlatSignals.{FlatTask, FlatEvaluation, with_some}
use Rattle.flat_laws.specs.Blanks.{blank}
use Rattle.flat_laws.specs.FlatLater.{FlatLater}
use Rattle.flat_laws.proofs.Keeps.{primitive_keeps}
use Rattle.flat_ends.specs.Laws.{IsInstance}
use Rattle.flat_ends.specs.Leaving.{CaptureOnly, FunctionsCaptureOnly, NamesOnly, TurnsOnly, is_sought}

-- ---- what is kept

module _ (Reserved : ℕ → Type 0) where
  -- reserved exits around are not sought
  abbrev pub Hidden : List Exit → Type 0
  Hidden [] = ⊤
  Hidden (x ∷ xs) = (Reserved x.number → is_sought x.kind ≡ false) × Hidden xs

  -- a transfer at a site goes to exit 0; one to a reserved exit goes there, at a site and with an instance
  pub record GoesSo (e : ℕ) (v : Value) (landing : Landing) (z : FlatState) : Type 0 where
    pub site : (place : Place) → landing ≡ at_site place → e ≡ 0
    pub end : Reserved e → (e ≡ 0) × (place : Place) × (landing ≡ at_site place) × IsInstance z v

  abbrev pub Going : Outcome → FlatState → Type 0
  Going (value v) z = ⊤
  Going (exit e v landing) z = GoesSo e v landing z
  Going (full asked left_then) z = ⊤
  Going more z = ⊤

module _ (Reserved : ℕ → Type 0) (Counted : Type 0) where
  -- an exit that may be named, where so many were made
  pub record Named (floor e : ℕ) : Type 0 where
    pub free : Reserved e → ⊥
    pub made : Counted → e < floor

  -- so many exits were made, the reserved ones among them, and functions captured only what may be named
  pub record Kept (floor : ℕ) (z : FlatState) : Type 0 where
    pub up : floor ≤ z.state.exits
    pub first : (e : ℕ) → Reserved e → e < floor
    pub captured : FunctionsCaptureOnly (Named z.state.exits) z

  -- what an evaluation comes to
  pub record Comes (floor : ℕ) (r : FlatEvaluated) : Type 0 where
    pub kept : Kept floor r.state
    pub goes : Going Reserved r.outcome r.state

  -- what goes on from values, and from states
  abbrev pub Continues : ℕ → (Value → FlatState → FlatEvaluated) → Type 0
  Continues floor next = (v : Value) (z : FlatState) → Kept floor z → Comes floor (next v z)

  abbrev pub Follows : ℕ → (FlatState → FlatEvaluated) → Type 0
  Follows floor next = (z : FlatState) → Kept floor z → Comes floor (next z)

  -- an act, in every dynamic context in which reserved exits are hidden, and a meaning, of all tasks
  abbrev pub Acts : ℕ → FlatAct → Type 0
  Acts floor act = (around : DynamicContext) → Hidden Reserved around.exits → (z : FlatState) → Kept floor z → Comes floor (act around z)

  abbrev pub Tasks : (FlatTask → FlatEvaluation) → Type 0
  Tasks below = (floor : ℕ) (task : FlatTask) (env : FlatEnvironment) → TurnsOnly (Named floor) task → NamesOnly (Named floor) env → Acts floor (below task env)

-- an instance is one later on
of_blank : (o : Option Object) (c : ℕ) (slots : List (Option Value)) (mark : Value) → blank o ≡ blank (Some (instance c slots mark))
    → (class : ℕ) × (others : List (Option Value)) × (now : Value) × (o ≡ Some (instance class others now))
of_blank None c slots mark e = absurd (cc e)
of_blank (Some (cons a d)) c slots mark e = absurd (cc e)
of_blank (Some (string bytes)) c slots mark e = absurd (cc e)
of_blank (Some (vector vs)) c slots mark e = absurd (cc e)
of_blank (Some (instance class others now)) c slots mark e = (class, others, now, refl)
of_blank (Some (function p)) c slots mark e = absurd (cc e)
of_blank (Some (closure required rest body env)) c slots mark e = absurd (cc e)
of_blank (Some (generic_function g)) c slots mark e = absurd (cc e)
of_blank (Some (class_object k)) c slots mark e = absurd (cc e)
of_blank (Some input_stream) c slots mark e = absurd (cc e)
of_blank (Some output_stream) c slots mark e = absurd (cc e)
of_blank (Some (fresh_symbol serial)) c slots mark e = absurd (cc e)

pub instance_later : {z z' : FlatState} (v : Value) → FlatLater z z' → IsInstance z v → IsInstance z' v
instance_later {z} {z'} v g h =
    let found = of_blank (slice_get z'.state.store h.number) h.class h.slots h.mark
    (g.objects h.number (slice_get_within z.state.store h.number (instance h.class h.slots h.mark) h.stands) ∙ ap blank h.stands) in
    record { number = h.number; is = h.is; class = found.0; slots = found.1; mark = found.2; stands = found.3 }

pub instance_same : {z z' : FlatState} (v : Value) → z'.state.store ≡ z.state.store → IsInstance z v → IsInstance z' v
instance_same {z} {z'} v same h = record {
  number = h.number;
  is = h.is;
  class = h.class;
  slots = h.slots;
  mark = h.mark;
  stands = ap (λ (os : List Object). slice_get os h.number) same ∙ h.stands;
}

-- an object that was stored last stands there
last_stands : {X : Type 0} (xs : List X) (x : X) → slice_get (xs ++ x ∷ []) (length xs) ≡ Some x
last_stands [] x = refl
last_stands (y ∷ xs) x = last_stands xs x

module _ (R : ℕ → Type 0) where
  goes_later : {z z' : FlatState} (o : Outcome) → ((v : Value) → IsInstance z v → IsInstance z' v) → Going R o z → Going R o z'
  goes_later (value v) h g = tt
  goes_later (exit e v landing) h g = record { site = g.site; end = λ r. let at = g.end r in (at.0, at.1, at.2, h v at.3) }
  goes_later (full asked left_then) h g = tt
  goes_later more h g = tt

  -- fewer exits
  one_of : (b : Bool) (xs ys : List Exit) → Hidden R xs → Hidden R ys → Hidden R (if b then xs else ys)
  one_of true xs ys h k = h
  one_of false xs ys h k = k

  pub hidden_from : (e : ℕ) (xs : List Exit) → Hidden R xs → Hidden R (exits_from e xs)
  hidden_from e [] h = tt
  hidden_from e (x ∷ xs) h = one_of (x.number == e) (x ∷ xs) (exits_from e xs) h (hidden_from e xs h.1)

module _ {R : ℕ → Type 0} {C : Type 0} where
  -- ---- names

  pub named_up : {floor up : ℕ} {e : ℕ} → floor ≤ up → Named R C floor e → Named R C up e
  named_up {floor} {up} {e} high n = record { free = n.free; made = λ c. let few = n.made c in omega (arith, few, high) }

  pub capture_up : {floor up : ℕ} → floor ≤ up → (cs : List Captured) → CaptureOnly (Named R C floor) cs → CaptureOnly (Named R C up) cs
  capture_up high cs h n e found = named_up high (h n e found)

  pub names_up : {floor up : ℕ} {env : FlatEnvironment} → floor ≤ up → NamesOnly (Named R C floor) env → NamesOnly (Named R C up) env
  names_up {env = env} high h = record { own = λ n e found. named_up high (h.own n e found); captured = capture_up high env.captured h.captured }

  -- ---- states

  -- what has the same functions, and no fewer exits
  pub kept_later : {floor : ℕ} {z z' : FlatState} → Kept R C floor z → z.state.exits ≤ z'.state.exits → z'.captured ≡ z.captured → Kept R C floor z'
  kept_later {floor} {z} {z'} h high captured = record {
    up = let u = h.up in omega (arith, high, u);
    first = h.first;
    captured = λ i cs e. capture_up high cs (h.captured i cs (subst (λ (fs : List (ℕ × List Captured)). under i fs ≡ Some cs) captured e));
  }

  pub kept_as : {floor : ℕ} {z z' : FlatState} → Kept R C floor z → z'.state.exits ≡ z.state.exits → z'.captured ≡ z.captured → Kept R C floor z'
  kept_as {floor} {z} {z'} h same captured = kept_later h (omega (arith, same)) captured

  -- the floor is raised to all exits that were made, and is let down again
  pub raised : {floor : ℕ} {z : FlatState} → Kept R C floor z → Kept R C z.state.exits z
  raised {floor} {z} h = record { up = omega arith; first = λ e r. (let few = h.first e r in let u = h.up in omega (arith, few, u)); captured = h.captured }

  pub lowered : {floor up : ℕ} {r : FlatEvaluated} → floor ≤ up → ((e : ℕ) → R e → e < floor) → Comes R C up r → Comes R C floor r
  lowered {floor} {up} {r} high first x = record {
    kept = record { up = (let u = x.kept.up in omega (arith, high, u)); first = first; captured = x.kept.captured };
    goes = x.goes;
  }

  -- an exit high, which may be named
  pub kept_made : {floor : ℕ} {z z' : FlatState} → Kept R C floor z → z'.state.exits ≡ z.state.exits + 1 → z'.captured ≡ z.captured → Kept R C (suc z.state.exits) z'
  kept_made {floor} {z} {z'} h one captured = record {
    up = omega (arith, one);
    first = λ e r. (let few = h.first e r in let u = h.up in omega (arith, few, u));
    captured = λ i cs e. capture_up (omega (arith, one)) cs (h.captured i cs (subst (λ (fs : List (ℕ × List Captured)). under i fs ≡ Some cs) captured e));
  }

  -- an exit that is made is not reserved
  pub is_new : {floor : ℕ} {z : FlatState} → Kept R C floor z → R z.state.exits → ⊥
  is_new {floor} {z} h r = let few = h.first z.state.exits r in let u = h.up in absurd (omega (arith, few, u))

  -- and it may be named from then on
  pub new_named : {floor : ℕ} {z : FlatState} → Kept R C floor z → Named R C (suc z.state.exits) z.state.exits
  new_named h = record { free = is_new h; made = λ c. omega arith }

module _ {R : ℕ → Type 0} {C : Type 0} {floor : ℕ} where
  -- ---- evaluations

  pub given : (v : Value) (z : FlatState) → Kept R C floor z → Comes R C floor (gives v z)
  given v z h = record { kept = h; goes = tt }

  pub full_here : (asked left_then : ℕ) (z : FlatState) → Kept R C floor z → Comes R C floor (record { outcome = full asked left_then; state = z })
  full_here asked left_then z h = record { kept = h; goes = tt }

  pub more_here : (z : FlatState) → Kept R C floor z → Comes R C floor (record { outcome = more; state = z })
  more_here z h = record { kept = h; goes = tt }

  -- a transfer to another exit than the reserved ones
  pub leaves_other : (e : ℕ) (v : Value) (segment : ℕ) (z : FlatState) → (R e → ⊥) → Kept R C floor z → Comes R C floor (leaves e v (at_segment segment) z)
  leaves_other e v segment z free h = record { kept = h; goes = record { site = λ place same. absurd (cc same); end = λ r. absurd (free r) } }

  -- what is done with a result
  used : {r : FlatEvaluated} (f : Outcome → FlatState → FlatEvaluated) → ((o : Outcome) (z : FlatState) → Kept R C floor z → Going R o z → Comes R C floor (f o z)) → Comes R C floor r
      → Comes R C floor (f r.outcome r.state)
  used {r} f h x = h r.outcome r.state x.kept x.goes

  pub on : {r : FlatEvaluated} {next : Value → FlatState → FlatEvaluated} → Comes R C floor r → Continues R C floor next → Comes R C floor (go_on r next)
  on {r} {next} x c = used (λ o z. go_on_from o z next) at x
    where
      at : (o : Outcome) (z : FlatState) → Kept R C floor z → Going R o z → Comes R C floor (go_on_from o z next)
      at (value v) z h e = c v z h
      at (exit n v landing) z h e = record { kept = h; goes = e }
      at (full asked left_then) z h e = full_here asked left_then z h
      at more z h e = more_here z h

  pub tests : (b : Bool) {r s : FlatEvaluated} → Comes R C floor r → Comes R C floor s → Comes R C floor (if b then r else s)
  tests true x y = x
  tests false x y = y

  pub chosen : (b : Bool) {r s : FlatEvaluated} → (b ≡ true → Comes R C floor r) → (b ≡ false → Comes R C floor s) → Comes R C floor (if b then r else s)
  chosen true x y = x refl
  chosen false x y = y refl

  -- a form with an exit
  pub lands_on : {r : FlatEvaluated} (e : ℕ) {land : Value → Landing → FlatState → FlatEvaluated}
      → ((v : Value) (landing : Landing) (z : FlatState) → Kept R C floor z → Comes R C floor (land v landing z)) → Comes R C floor r → Comes R C floor (landed e land r)
  lands_on {r} e {land} c x = used (landed_from e land) at x
    where
      at : (o : Outcome) (z : FlatState) → Kept R C floor z → Going R o z → Comes R C floor (landed_from e land o z)
      at (value v) z h k = given v z h
      at (exit n v landing) z h k = tests (n == e) (c v landing z h) (record { kept = h; goes = k })
      at (full asked left_then) z h k = full_here asked left_then z h
      at more z h k = more_here z h

  pub catches : {r : FlatEvaluated} (e : ℕ) → Comes R C floor r → Comes R C floor (caught e r)
  catches e x = lands_on e (λ v landing z h. given v z h) x

  -- a cleanup, which leaves instances what they are
  pub cleans : {r : FlatEvaluated} (around : DynamicContext) {cleanup : FlatAct} → Hidden R around.exits → Acts R C floor cleanup
      → ((within : DynamicContext) (z : FlatState) → FlatLater z (cleanup within z).state) → Comes R C floor r → Comes R C floor (cleaned cleanup around r)
  cleans {r} around {cleanup} hidden c grows x = used (cleaned_from cleanup around) at x
    where
      passed : (e : ℕ) (v : Value) (landing : Landing) (z : FlatState) (q : FlatEvaluated) → Going R (exit e v landing) z → FlatLater z q.state → Comes R C floor q
          → Comes R C floor (go_on q (λ w after. leaves e v landing after))
      passed e v landing z q k g y = by q.outcome q.state y.kept y.goes g
        where
          by : (o : Outcome) (z' : FlatState) → Kept R C floor z' → Going R o z' → FlatLater z z' → Comes R C floor (go_on_from o z' (λ w after. leaves e v landing after))
          by (value w) z' h goes g = record { kept = h; goes = goes_later R (exit e v landing) (λ u i. instance_later u g i) k }
          by (exit n w l) z' h goes g = record { kept = h; goes = goes }
          by (full asked left_then) z' h goes g = full_here asked left_then z' h
          by more z' h goes g = more_here z' h

      at : (o : Outcome) (z : FlatState) → Kept R C floor z → Going R o z → Comes R C floor (cleaned_from cleanup around o z)
      at (value v) z h k = on (c around hidden z h) (λ w after s. given v after s)
      at (exit e v landing) z h k =
          let within : DynamicContext = record around { exits = exits_from e around.exits } in
          passed e v landing z (cleanup within z) k (grows within z) (c within (hidden_from R e around.exits hidden) z h)
      at (full asked left_then) z h k = full_here asked left_then z h
      at more z h k = more_here z h

  -- what is there, if something is
  pub some : {X : Type 0} (o : Option X) {otherwise : FlatAct} {next : X → FlatAct} → Acts R C floor otherwise → ((x : X) → Acts R C floor (next x)) → Acts R C floor (with_some o otherwise next)
  some None n s = n
  some (Some x) n s = s x

  -- requests, objects and functions
  pub requests : (limit : Limit) (n m : ℕ) (z : FlatState) {next : FlatState → FlatEvaluated} → Kept R C floor z → Follows R C floor next → Comes R C floor (request limit n m z next)
  requests limit n m z {next} h c =
      tests (has_room limit (z.state.heap + z.state.stack + n + m))
      (c (on_state (λ y. with_words n m y) z) (kept_as h refl refl))
      (full_here (n + m) (room_left limit (z.state.heap + z.state.stack)) z h)

  pub made : (limit : Limit) (size besides : ℕ) (o : Object) (z : FlatState) {next : Value → FlatState → FlatEvaluated}
      → Kept R C floor z → Continues R C floor next → Comes R C floor (make limit size besides o z next)
  made limit size besides o z h c =
      requests limit size 0 z h (λ entered s.
      c (object (length entered.state.store)) (on_state (λ y. stored o (base.charged (size + besides) y)) entered) (kept_as s refl refl))

  -- an instance that is made
  pub instance_made : (limit : Limit) (size besides class : ℕ) (slots : List (Option Value)) (mark : Value) (z : FlatState) {next : Value → FlatState → FlatEvaluated}
      → Kept R C floor z → ((v : Value) (y : FlatState) → Kept R C floor y → IsInstance y v → Comes R C floor (next v y)) → Comes R C floor (make limit size besides (instance class slots mark) z next)
  instance_made limit size besides class slots mark z h c =
      requests limit size 0 z h (λ entered s.
      c (object (length entered.state.store)) (on_state (λ y. stored (instance class slots mark) (base.charged (size + besides) y)) entered) (kept_as s refl refl)
      (record {
        number = length entered.state.store;
        is = refl;
        class = class;
        slots = slots;
        mark = mark;
        stands = last_stands entered.state.store (instance class slots mark);
      }))

  pub function_made : (limit : Limit) (procedure : ℕ) (cs : List Captured) (z : FlatState) {next : Value → FlatState → FlatEvaluated}
      → Kept R C floor z → CaptureOnly (Named R C floor) cs → Continues R C floor next → Comes R C floor (make_closure limit procedure cs z next)
  function_made limit procedure cs z h only c =
      requests limit (2 + length cs) 0 z h (λ entered s.
      c (object (length entered.state.store)) (record entered {
        state = stored (function procedure) (base.charged (2 + length cs + 0) entered.state);
        captured = (length entered.state.store, cs) ∷ entered.captured;
      }) (record { up = s.up; first = s.first; captured = λ i ds e. by entered s i ds (i == length entered.state.store) e }))
    where
      by : (entered : FlatState) → Kept R C floor entered → (i : ℕ) (ds : List Captured) (b : Bool) → (if b then Some cs else under i entered.captured) ≡ Some ds → CaptureOnly (Named R C entered.state.exits) ds
      by entered s i ds true e = subst (λ (fs : List Captured). CaptureOnly (Named R C entered.state.exits) fs) (cc e) (capture_up s.up cs only)
      by entered s i ds false e = s.captured i ds e

  with_words_back : (stack : ℕ) {r : FlatEvaluated} → Comes R C floor r → Comes R C floor (with_stack stack r)
  with_words_back stack {r} x = record {
    kept = kept_as x.kept refl refl;
    goes = goes_later R r.outcome (λ v i. instance_same v refl i) x.goes;
  }

  -- an application, whose words are given back
  pub framed : (limit : Limit) (size : ℕ) (z : FlatState) {body : FlatState → FlatEvaluated} → Kept R C floor z → Follows R C floor body → Comes R C floor (in_frame limit size body z)
  framed limit size z h c = requests limit 0 size z h (λ entered s. with_words_back z.state.stack (c entered s))

  -- a body with new slots, and one in a frame of its own
  pub new_slots_left : (hs : List Home) (vs : List Value) (z : FlatState) {body : FlatState → FlatEvaluated} → Kept R C floor z → Follows R C floor body → Comes R C floor (in_new_slots hs vs body z)
  new_slots_left hs vs z {body} h c =
      let x : Comes R C floor (body (with_slots hs vs z)) = c (with_slots hs vs z) (kept_as h refl refl) in record {
        kept = kept_as x.kept refl refl;
        goes = goes_later R (body (with_slots hs vs z)).outcome (λ v i. instance_same v refl i) x.goes;
      }

  pub own_slots_left : (z : FlatState) {body : FlatState → FlatEvaluated} → Kept R C floor z → Follows R C floor body → Comes R C floor (in_own_frame body z)
  own_slots_left z {body} h c =
      let x : Comes R C floor (body (record z { frame = [] })) = c (record z { frame = [] }) (kept_as h refl refl) in record {
        kept = kept_as x.kept refl refl;
        goes = goes_later R (body (record z { frame = [] })).outcome (λ v i. instance_same v refl i) x.goes;
      }

  -- the step of a primitive
  pub primitive_kept :
      (names : List (List ℕ)) (program : ProgramRows) (which : Primitive) (vs : List Value) (z : FlatState) → Kept R C floor z
      → Kept R C floor (record z { state = state_of (primitive names program which vs z.state) })
  primitive_kept names program which vs z h = kept_as h (primitive_keeps names program which vs z.state).exits refl
