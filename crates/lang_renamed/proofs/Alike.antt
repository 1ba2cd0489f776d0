-- Two evaluations side by side, of a program and of the renamed one: one lemma for each combinator of the meaning.
use Rattle.std.specs.Prelude.{◌≡◌, ℕ, ◌+◌, ◌==◌, Bool, true, false, List, [], ◌∷◌, ◌++◌, Option, Some, None, if◌then◌else◌, length, take, drop, option_map, refl}
use Rattle.std.proofs.Common.{ap, ◌∙◌}
use Rattle.lang_meaning.specs.declared.capture.Capture.TheVariants.{Method}
use Rattle.lang_meaning.specs.Form.{Form}
use Rattle.lang_meaning.specs.Captured.{captures, has_box}
use Rattle.lang_meaning.specs.Values.{Value, nil, object}
use Rattle.lang_meaning.specs.Objects.{Called, Object, cons}
use Rattle.lang_meaning.specs.State.{State, DynamicContext, Landing, Outcome, value, exit, full, more, Evaluated, gives, Act, go_on, go_on_from, landed, landed_from, caught, cleaned, cleaned_from, exits_from, Limit, has_room, room_left, request, with_words, charged, make, stored, with_stack, in_frame}
use Rattle.lang_meaning.specs.Signals.{with_some, make_list, gathered, with_boxes, with_record, search}
use Rattle.lang_renamed.specs.Renaming.{form_by}
use Rattle.lang_renamed.specs.RenamedRuns.{object_by, state_by, evaluated_by}
use Rattle.lang_renamed.proofs.Lists.{length_by}
use Rattle.lang_renamed.proofs.Stores.{stored_by}
use Rattle.lang_renamed.proofs.Walks.{captures_by, box_by}

module _ (r : ℕ → ℕ) where
  -- the second is the first, renamed
  pub record Renamed (x y : Evaluated) : Type 0 where
    pub is : y ≡ evaluated_by r x

  pub record StateRenamed (z z' : State) : Type 0 where
    pub is : z' ≡ state_by r z

  -- what goes on from values, from states, and acts in every dynamic context
  abbrev pub Continues : (next next' : Value → State → Evaluated) → Type 0
  Continues next next' = (v : Value) (z z' : State) → StateRenamed z z' → Renamed (next v z) (next' v z')

  abbrev pub ContinuesAll : (next next' : List Value → State → Evaluated) → Type 0
  ContinuesAll next next' = (vs : List Value) (z z' : State) → StateRenamed z z' → Renamed (next vs z) (next' vs z')

  abbrev pub Follows : (next next' : State → Evaluated) → Type 0
  Follows next next' = (z z' : State) → StateRenamed z z' → Renamed (next z) (next' z')

  abbrev pub Acts : (act act' : Act) → Type 0
  Acts act act' = (around : DynamicContext) (z z' : State) → StateRenamed z z' → Renamed (act around z) (act' around z')

module _ {r : ℕ → ℕ} where
  pub now : (z : State) → StateRenamed r z (state_by r z)
  now z = record { is = refl }

  -- the second in other words
  pub moved : {x y y' : Evaluated} → y ≡ y' → Renamed r x y' → Renamed r x y
  moved e p = record { is = e ∙ p.is }

  -- it is enough to look at the state renamed
  pub at_state : {x : Evaluated} {z z' : State} (f : State → Evaluated) → StateRenamed r z z' → Renamed r x (f (state_by r z)) → Renamed r x (f z')
  at_state f s p = moved (ap f s.is) p

  pub ended : (o : Outcome) {z z' : State} → StateRenamed r z z' → Renamed r (record { outcome = o; state = z }) (record { outcome = o; state = z' })
  ended o s = record { is = ap (λ z. record { outcome = o; state = z }) s.is }

  pub given : (v : Value) {z z' : State} → StateRenamed r z z' → Renamed r (gives v z) (gives v z')
  given v s = ended (value v) s

  pub charges : (n : ℕ) {z z' : State} → StateRenamed r z z' → StateRenamed r (charged n z) (charged n z')
  charges n s = record { is = ap (charged n) s.is }

  used : {x y : Evaluated} (f f' : Outcome → State → Evaluated) → ((o : Outcome) (z z' : State) → StateRenamed r z z' → Renamed r (f o z) (f' o z')) → Renamed r x y →
      Renamed r (f x.outcome x.state) (f' y.outcome y.state)
  used {x} {y} f f' h p = moved (ap (λ (q : Evaluated). f' q.outcome q.state) p.is) (h x.outcome x.state (state_by r x.state) (now x.state))

  pub on : {x y : Evaluated} {next next' : Value → State → Evaluated} → Renamed r x y → Continues r next next' → Renamed r (go_on x next) (go_on y next')
  on {x} {y} {next} {next'} p c = used (λ o z. go_on_from o z next) (λ o z. go_on_from o z next') by p
    where
      by : (o : Outcome) (z z' : State) → StateRenamed r z z' → Renamed r (go_on_from o z next) (go_on_from o z' next')
      by (value v) z z' s = c v z z' s
      by (exit e v landing) z z' s = ended (exit e v landing) s
      by (full asked left) z z' s = ended (full asked left) s
      by more z z' s = ended more s

  -- a test that comes to the same
  pub tests : (b b' : Bool) {x y x' y' : Evaluated} → b' ≡ b → Renamed r x y → Renamed r x' y' → Renamed r (if b then x else x') (if b' then y else y')
  tests true true e p p' = p
  tests false false e p p' = p'
  tests true false e p p' = absurd (cc)
  tests false true e p p' = absurd (cc)

  -- a form with an exit
  pub lands_on : {x y : Evaluated} (e : ℕ) {land land' : Value → Landing → State → Evaluated} →
      ((v : Value) (landing : Landing) (z z' : State) → StateRenamed r z z' → Renamed r (land v landing z) (land' v landing z')) → Renamed r x y →
      Renamed r (landed e land x) (landed e land' y)
  lands_on {x} {y} e {land} {land'} c p = used (landed_from e land) (landed_from e land') by p
    where
      by : (o : Outcome) (z z' : State) → StateRenamed r z z' → Renamed r (landed_from e land o z) (landed_from e land' o z')
      by (value v) z z' s = given v s
      by (exit n v landing) z z' s = tests (n == e) (n == e) refl (c v landing z z' s) (ended (exit n v landing) s)
      by (full asked left) z z' s = ended (full asked left) s
      by more z z' s = ended more s

  pub catches : {x y : Evaluated} (e : ℕ) → Renamed r x y → Renamed r (caught e x) (caught e y)
  catches e p = lands_on e (λ v landing z z' s. given v s) p

  -- a cleanup
  pub cleans : {x y : Evaluated} (around : DynamicContext) {cleanup cleanup' : Act} → Acts r cleanup cleanup' → Renamed r x y →
      Renamed r (cleaned cleanup around x) (cleaned cleanup' around y)
  cleans {x} {y} around {cleanup} {cleanup'} c p = used (cleaned_from cleanup around) (cleaned_from cleanup' around) by p
    where
      by : (o : Outcome) (z z' : State) → StateRenamed r z z' → Renamed r (cleaned_from cleanup around o z) (cleaned_from cleanup' around o z')
      by (value v) z z' s = on (c around z z' s) (λ w y y' t. given v t)
      by (exit e v landing) z z' s = on (c (record around { exits = exits_from e around.exits }) z z' s) (λ w y y' t. ended (exit e v landing) t)
      by (full asked left) z z' s = ended (full asked left) s
      by more z z' s = ended more s

  -- what is there, if something is, and what is there renamed
  pub some : {X : Type 0} (o : Option X) {otherwise otherwise' : Act} {next next' : X → Act} → Acts r otherwise otherwise' →
      ((x : X) → Acts r (next x) (next' x)) → Acts r (with_some o otherwise next) (with_some o otherwise' next')
  some None n h = n
  some (Some x) n h = h x

  pub some_by : {X Y : Type 0} (f : X → Y) (o : Option X) (o' : Option Y) {otherwise otherwise' : Act} {next : X → Act} (next' : Y → Act) → o' ≡ option_map f o →
      Acts r otherwise otherwise' → ((x : X) → Acts r (next x) (next' (f x))) → Acts r (with_some o otherwise next) (with_some o' otherwise' next')
  some_by f None o' {otherwise} {otherwise'} next' e n h around z z' s = moved (ap (λ u. with_some u otherwise' next' around z') e) (n around z z' s)
  some_by f (Some x) o' {otherwise} {otherwise'} next' e n h around z z' s = moved (ap (λ u. with_some u otherwise' next' around z') e) (h x around z z' s)

  -- requests, objects and applications
  pub requests : (limit : Limit) (heap stack : ℕ) {z z' : State} {next next' : State → Evaluated} → StateRenamed r z z' → Follows r next next' →
      Renamed r (request limit heap stack z next) (request limit heap stack z' next')
  requests limit heap stack {z} {z'} {next} {next'} s c =
      at_state (λ y. request limit heap stack y next') s
      (tests (has_room limit (z.heap + z.stack + heap + stack)) (has_room limit (z.heap + z.stack + heap + stack)) refl
      (c (with_words heap stack z) (with_words heap stack (state_by r z)) (now (with_words heap stack z)))
      (ended (full (heap + stack) (room_left limit (z.heap + z.stack))) (now z)))

  pub made : (limit : Limit) (size besides : ℕ) (o : Object) {z z' : State} {next next' : Value → State → Evaluated} → StateRenamed r z z' → Continues r next next' →
      Renamed r (make limit size besides o z next) (make limit size besides (object_by r o) z' next')
  made limit size besides o {z} {z'} {next} {next'} s c =
      requests limit size 0 {next = λ entered. next (object (length entered.store)) (stored o (charged (size + besides) entered))}
      {next' = λ entered. next' (object (length entered.store)) (stored (object_by r o) (charged (size + besides) entered))} s (λ y y' t.
      at_state (λ entered. next' (object (length entered.store)) (stored (object_by r o) (charged (size + besides) entered))) t
      (moved
      (ap (λ n. next' (object n) (stored (object_by r o) (charged (size + besides) (state_by r y)))) (length_by (object_by r) y.store))
      (c (object (length y.store)) (stored o (charged (size + besides) y)) (stored (object_by r o) (charged (size + besides) (state_by r y)))
      (record { is = stored_by r o (charged (size + besides) y) }))))

  pub stacked : {x y : Evaluated} (n : ℕ) → Renamed r x y → Renamed r (with_stack n x) (with_stack n y)
  stacked n p = record { is = ap (with_stack n) p.is }

  pub framed : (limit : Limit) (size : ℕ) {z z' : State} {body body' : State → Evaluated} → StateRenamed r z z' → Follows r body body' →
      Renamed r (in_frame limit size body z) (in_frame limit size body' z')
  framed limit size {z} {z'} {body} {body'} s c =
      at_state (in_frame limit size body') s
      (requests limit 0 size {next = λ entered. with_stack z.stack (body entered)} {next' = λ entered. with_stack z.stack (body' entered)} (now z)
      (λ y y' t. stacked z.stack (c y y' t)))

  pub lists : (limit : Limit) (vs : List Value) {z z' : State} {next next' : Value → State → Evaluated} → StateRenamed r z z' → Continues r next next' →
      Renamed r (make_list limit vs z next) (make_list limit vs z' next')
  lists limit [] {z} {z'} s c = c nil z z' s
  lists limit (v ∷ vs) {z} {z'} {next} {next'} s c =
      lists limit vs {next = λ tail after. make limit 2 0 (cons v tail) after next} {next' = λ tail after. make limit 2 0 (cons v tail) after next'} s
      (λ tail y y' t. made limit 2 0 (cons v tail) t c)

  pub gathers : (limit : Limit) (required : ℕ) (rest : Option ℕ) (vs : List Value) {z z' : State} {next next' : List Value → State → Evaluated} → StateRenamed r z z' →
      ContinuesAll r next next' → Renamed r (gathered limit required rest vs z next) (gathered limit required rest vs z' next')
  gathers limit required None vs {z} {z'} s c = c vs z z' s
  gathers limit required (Some rest) vs {z} {z'} {next} {next'} s c =
      lists limit (drop required vs) {next = λ tail after. next (take required vs ++ tail ∷ []) after} {next' = λ tail after. next' (take required vs ++ tail ∷ []) after} s
      (λ tail y y' t. c (take required vs ++ tail ∷ []) y y' t)

  pub boxes : (limit : Limit) (vs : List ℕ) (body : Form) {z z' : State} {next next' : State → Evaluated} → StateRenamed r z z' → Follows r next next' →
      Renamed r (with_boxes limit vs body z next) (with_boxes limit vs (form_by r body) z' next')
  boxes limit [] body {z} {z'} s c = c z z' s
  boxes limit (v ∷ vs) body s c =
      tests (has_box v body) (has_box v (form_by r body)) (box_by r v body)
      (requests limit 1 0 s (λ y y' t. boxes limit vs body (charges 1 t) c))
      (boxes limit vs body s c)

  pub records : (limit : Limit) (called : Option Called) (body : Form) {z z' : State} {next next' : State → Evaluated} → StateRenamed r z z' → Follows r next next' →
      Renamed r (with_record limit called body z next) (with_record limit called (form_by r body) z' next')
  records limit None body {z} {z'} s c = c z z' s
  records limit (Some called) body {z} {z'} s c =
      tests (captures Method body) (captures Method (form_by r body)) (captures_by r Method body)
      (requests limit (2 + length called.arguments) 0 s (λ y y' t.
      c (charged (2 + length called.arguments) y) (charged (2 + length called.arguments) y') (charges (2 + length called.arguments) t)))
      (c z z' s)

  -- a search
  pub searches : {X : Type 0} (p : X → Bool) {found found' : X → State → Evaluated} {otherwise otherwise' : State → Evaluated} →
      ((x : X) → Follows r (found x) (found' x)) → Follows r otherwise otherwise' → (xs : List X) {z z' : State} → StateRenamed r z z' →
      Renamed r (search p found otherwise xs z) (search p found' otherwise' xs z')
  searches p g o [] {z} {z'} s = o z z' s
  searches p g o (x ∷ xs) {z} {z'} s =
      tests (p x) (p x) refl (g x (charged 1 z) (charged 1 z') (charges 1 s)) (searches p g o xs (charges 1 s))
