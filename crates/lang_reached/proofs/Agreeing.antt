-- Two evaluations side by side, which come to the same: one lemma for each combinator of the meaning.
use Rattle.std.proofs.Common.{◌≡◌, ℕ, ◌+◌, Bool, true, false, List, [], ◌∷◌, ◌++◌, length, refl, ap, subst, Option, Some, None, take, drop}
use Rattle.std.specs.Prelude.{◌==◌, if◌then◌else◌}
use Rattle.base.specs.AllOf.{all_both, all_take, all_drop}
use Rattle.lang_meaning.specs.declared.capture.Capture.TheVariants.{Method}
use Rattle.lang_meaning.specs.Form.{Form}
use Rattle.lang_meaning.specs.Captured.{captures, has_box}
use Rattle.lang_meaning.specs.Values.{Value, nil, object}
use Rattle.lang_meaning.specs.Objects.{Called, Environment, no_environment, Object, cons}
use Rattle.lang_meaning.specs.State.{State, DynamicContext, Landing, Outcome, value, exit, full, more, Evaluated, gives, leaves, Act, go_on, go_on_from, landed, landed_from, caught, cleaned, cleaned_from, exits_from, Limit, has_room, room_left, request, with_words, charged, make, stored, with_stack, in_frame}
use Rattle.lang_meaning.specs.Signals.{Task, nothing, Evaluation, with_some, descend, make_list, gathered, with_boxes, with_record, search}
use Rattle.lang_reached.proofs.Live.{Setting, Live, AllLive, ObjectFine, StateFine, AroundFine, EnvironmentFine, OutcomeFine, TaskFine}
use Rattle.lang_reached.proofs.States.{new_live, stored_fine}

module _ (t : Setting) where
  -- both are the same, and fine
  pub record Agrees (r s : Evaluated) : Type 0 where
    pub same : r ≡ s
    pub outcome : OutcomeFine t r.outcome
    pub state : StateFine t r.state

  -- what goes on from values, from states, and acts in every dynamic context
  abbrev pub Continues : (next next' : Value → State → Evaluated) → Type 0
  Continues next next' = (v : Value) (z : State) → Live t v → StateFine t z → Agrees (next v z) (next' v z)

  abbrev pub ContinuesAll : (next next' : List Value → State → Evaluated) → Type 0
  ContinuesAll next next' = (vs : List Value) (z : State) → AllLive t vs → StateFine t z → Agrees (next vs z) (next' vs z)

  abbrev pub Follows : (next next' : State → Evaluated) → Type 0
  Follows next next' = (z : State) → StateFine t z → Agrees (next z) (next' z)

  abbrev pub Acts : (act act' : Act) → Type 0
  Acts act act' = (around : DynamicContext) (z : State) → AroundFine t around → StateFine t z → Agrees (act around z) (act' around z)

  -- the meanings one level below
  abbrev pub Within : (below below' : Task → Evaluation) → Type 0
  Within below below' =
      (task : Task) (env : Environment) → TaskFine t task → EnvironmentFine t env → Acts (below task env) (below' task env)

module _ {t : Setting} where
  -- one result for both
  pub itself : (r : Evaluated) → OutcomeFine t r.outcome → StateFine t r.state → Agrees t r r
  itself r o f = record { same = refl; outcome = o; state = f }

  pub given : (v : Value) (z : State) → Live t v → StateFine t z → Agrees t (gives v z) (gives v z)
  given v z l f = itself (gives v z) l f

  -- it is enough to look at one result
  used : {r s : Evaluated} (f f' : Outcome → State → Evaluated)
      → ((o : Outcome) (z : State) → OutcomeFine t o → StateFine t z → Agrees t (f o z) (f' o z))
      → Agrees t r s → Agrees t (f r.outcome r.state) (f' s.outcome s.state)
  used {r} {s} f f' h x =
      subst (λ q. Agrees t (f r.outcome r.state) (f' q.outcome q.state)) x.same (h r.outcome r.state x.outcome x.state)

  pub on : {r s : Evaluated} {next next' : Value → State → Evaluated}
      → Agrees t r s → Continues t next next' → Agrees t (go_on r next) (go_on s next')
  on {r} {s} {next} {next'} x c = used (λ o z. go_on_from o z next) (λ o z. go_on_from o z next') by x
    where
      by : (o : Outcome) (z : State) → OutcomeFine t o → StateFine t z → Agrees t (go_on_from o z next) (go_on_from o z next')
      by (value v) z l f = c v z l f
      by (exit e v landing) z l f = itself (record { outcome = exit e v landing; state = z }) l f
      by (full asked left) z l f = itself (record { outcome = full asked left; state = z }) l f
      by more z l f = itself (record { outcome = more; state = z }) l f

  -- a test, the same on both sides
  pub chosen : (b : Bool) {r s r' s' : Evaluated} → (b ≡ true → Agrees t r s) → (b ≡ false → Agrees t r' s')
      → Agrees t (if b then r else r') (if b then s else s')
  chosen true x x' = x refl
  chosen false x x' = x' refl

  pub tests : (b : Bool) {r s r' s' : Evaluated} → Agrees t r s → Agrees t r' s' → Agrees t (if b then r else r') (if b then s else s')
  tests b x x' = chosen b (λ h. x) (λ h. x')

  -- a form with an exit
  pub lands_on : {r s : Evaluated} (e : ℕ) {land land' : Value → Landing → State → Evaluated}
      → ((v : Value) (landing : Landing) (z : State) → Live t v → StateFine t z → Agrees t (land v landing z) (land' v landing z))
      → Agrees t r s → Agrees t (landed e land r) (landed e land' s)
  lands_on {r} {s} e {land} {land'} c x = used (landed_from e land) (landed_from e land') by x
    where
      by : (o : Outcome) (z : State) → OutcomeFine t o → StateFine t z → Agrees t (landed_from e land o z) (landed_from e land' o z)
      by (value v) z l f = given v z l f
      by (exit n v landing) z l f = tests (n == e) (c v landing z l f) (itself (record { outcome = exit n v landing; state = z }) l f)
      by (full asked left) z l f = itself (record { outcome = full asked left; state = z }) l f
      by more z l f = itself (record { outcome = more; state = z }) l f

  pub catches : {r s : Evaluated} (e : ℕ) → Agrees t r s → Agrees t (caught e r) (caught e s)
  catches e x = lands_on e (λ v landing z l f. given v z l f) x

  -- a cleanup
  pub cleans : {r s : Evaluated} (around : DynamicContext) {cleanup cleanup' : Act} → AroundFine t around → Acts t cleanup cleanup'
      → Agrees t r s → Agrees t (cleaned cleanup around r) (cleaned cleanup' around s)
  cleans {r} {s} around {cleanup} {cleanup'} a c x = used (cleaned_from cleanup around) (cleaned_from cleanup' around) by x
    where
      by : (o : Outcome) (z : State) → OutcomeFine t o → StateFine t z
          → Agrees t (cleaned_from cleanup around o z) (cleaned_from cleanup' around o z)
      by (value v) z l f = on (c around z a f) (λ w after l' f'. given v after l f')
      by (exit e v landing) z l f =
          on (c (record around { exits = exits_from e around.exits }) z a f) (λ w after l' f'. itself (leaves e v landing after) l f')
      by (full asked left) z l f = itself (record { outcome = full asked left; state = z }) l f
      by more z l f = itself (record { outcome = more; state = z }) l f

  -- what is there, if something is
  pub some : {X : Type 0} (o : Option X) {otherwise otherwise' : Act} {next next' : X → Act} → Acts t otherwise otherwise'
      → ((x : X) → o ≡ Some x → Acts t (next x) (next' x)) → Acts t (with_some o otherwise next) (with_some o otherwise' next')
  some None n s = n
  some (Some x) n s = s x refl

  -- requests, objects and applications
  pub requests : (limit : Limit) (heap stack : ℕ) (z : State) {next next' : State → Evaluated} → StateFine t z → Follows t next next'
      → Agrees t (request limit heap stack z next) (request limit heap stack z next')
  requests limit heap stack z {next} {next'} f c =
      tests (has_room limit (z.heap + z.stack + heap + stack))
      (c (with_words heap stack z) f)
      (itself (record { outcome = full (heap + stack) (room_left limit (z.heap + z.stack)); state = z }) tt f)

  pub made : (limit : Limit) (size besides : ℕ) (o : Object) (z : State) {next next' : Value → State → Evaluated} → StateFine t z
      → ((i : ℕ) → ObjectFine t i o) → Continues t next next' → Agrees t (make limit size besides o z next) (make limit size besides o z next')
  made limit size besides o z f h c =
      requests limit size 0 z f (λ entered f'.
      c (object (length entered.store)) (stored o (charged (size + besides) entered)) (new_live f'.store)
      (stored_fine (charged (size + besides) entered) f' o h))

  pub stacked : {r s : Evaluated} (n : ℕ) → Agrees t r s → Agrees t (with_stack n r) (with_stack n s)
  stacked {r} {s} n x = record { same = ap (with_stack n) x.same; outcome = x.outcome; state = x.state }

  pub framed : (limit : Limit) (size : ℕ) (z : State) {body body' : State → Evaluated} → StateFine t z → Follows t body body'
      → Agrees t (in_frame limit size body z) (in_frame limit size body' z)
  framed limit size z f c = requests limit 0 size z f (λ entered f'. stacked z.stack (c entered f'))

  pub descends : {below below' : Task → Evaluation} → Within t below below' → (around : DynamicContext) (z : State) {next next' : State → Evaluated}
      → AroundFine t around → StateFine t z → Follows t next next'
      → Agrees t (descend below next around z) (descend below' next' around z)
  descends w around z a f c = on (w nothing no_environment tt tt around z a f) (λ v after l f'. c after f')

  pub lists : (limit : Limit) (vs : List Value) (z : State) {next next' : Value → State → Evaluated} → AllLive t vs → StateFine t z
      → Continues t next next' → Agrees t (make_list limit vs z next) (make_list limit vs z next')
  lists limit [] z h f c = c nil z tt f
  lists limit (v ∷ vs) z h f c =
      lists limit vs z h.1 f (λ tail after l f'. made limit 2 0 (cons v tail) after f' (λ i. (h.0, l)) c)

  pub gathers : (limit : Limit) (required : ℕ) (rest : Option ℕ) (vs : List Value) (z : State) {next next' : List Value → State → Evaluated}
      → AllLive t vs → StateFine t z → ContinuesAll t next next'
      → Agrees t (gathered limit required rest vs z next) (gathered limit required rest vs z next')
  gathers limit required None vs z h f c = c vs z h f
  gathers limit required (Some rest) vs z h f c =
      lists limit (drop required vs) z (all_drop (Live t) required vs h) f (λ tail after l f'.
      c (take required vs ++ tail ∷ []) after (all_both (Live t) (take required vs) (tail ∷ []) (all_take (Live t) required vs h) (l, tt)) f')

  pub boxes : (limit : Limit) (vs : List ℕ) (body : Form) (z : State) {next next' : State → Evaluated} → StateFine t z → Follows t next next'
      → Agrees t (with_boxes limit vs body z next) (with_boxes limit vs body z next')
  boxes limit [] body z f c = c z f
  boxes limit (v ∷ vs) body z f c =
      tests (has_box v body)
      (requests limit 1 0 z f (λ entered f'. boxes limit vs body (charged 1 entered) f' c))
      (boxes limit vs body z f c)

  pub records : (limit : Limit) (called : Option Called) (body : Form) (z : State) {next next' : State → Evaluated} → StateFine t z → Follows t next next'
      → Agrees t (with_record limit called body z next) (with_record limit called body z next')
  records limit None body z f c = c z f
  records limit (Some called) body z f c =
      tests (captures Method body)
      (requests limit (2 + length called.arguments) 0 z f (λ entered f'. c (charged (2 + length called.arguments) entered) f'))
      (c z f)

  -- a search
  pub searches : {X : Type 0} (p : X → Bool) {found found' : X → State → Evaluated} {otherwise otherwise' : State → Evaluated}
      → ((x : X) → Follows t (found x) (found' x)) → Follows t otherwise otherwise' → (xs : List X) (z : State) → StateFine t z
      → Agrees t (search p found otherwise xs z) (search p found' otherwise' xs z)
  searches p g o [] z f = o z f
  searches p g o (x ∷ xs) z f = tests (p x) (g x (charged 1 z) f) (searches p g o xs (charged 1 z) f)
