-- Two evaluations side by side, the second with at least as many levels: one lemma for each combinator.
use Rattle.std.proofs.Common.{◌≡◌, ℕ, ◌+◌, Bool, true, false, T, List, [], ◌∷◌, refl, sym, ap, subst, ◌∙◌, ◌⊎◌, inl, inr, ⊎_elim, Option, Some, None}
use Rattle.std.proofs.Math.Dec.{eqb_refl}
use Rattle.std.specs.Prelude.{◌==◌, if◌then◌else◌, length}
use Rattle.lang_meaning.specs.Laws.{IsExitOf, LandsIn}
use Rattle.lang_meaning.specs.Prefixes.{IsPrefix}
use Rattle.lang_meaning.specs.Values.{Value, object}
use Rattle.lang_meaning.specs.Objects.{Environment, Object}
use Rattle.lang_meaning.specs.State.{State, DynamicContext, Exit, ExitKind, Landing, Outcome, value, exit, full, more, Evaluated, gives, leaves, Act, go_on, go_on_from, landed, landed_from, caught, cleaned, cleaned_from, exits_from, Limit, has_room, room_left, request, with_words, charged, make, stored, with_stack, in_frame}
use Rattle.lang_meaning.specs.Signals.{Context, Task, Evaluation, with_some}
use Rattle.lang_meaning.proofs.Steps.{IsKeptByRules, prefix_of_prefix}

-- the first evaluation ran out of levels, and what it printed is a beginning of what the second one did
pub record IsCut (r s : Evaluated) : Type 0 where
  pub ran_out : r.outcome ≡ more
  pub prefix : IsPrefix r.state.printed s.state.printed

other_number : (m n : ℕ) → (m == n) ≡ false → n ≡ m → ⊥
other_number m n h e = subst T h (subst (λ i. T (m == i)) (sym e) (eqb_refl m))

-- an exit after the first one
other_exit : (e x : ℕ) (exits : List Exit) → (e == x) ≡ false → x ≡ e ⊎ IsExitOf e exits → IsExitOf e exits
other_exit e x exits h (inl same) = absurd (other_number e x h same)
other_exit e x exits h (inr i) = i

-- an exit of those from one on is one of all
pub exits_from_all : (e n : ℕ) (exits : List Exit) → IsExitOf e (exits_from n exits) → IsExitOf e exits
exits_from_all e n [] i = i
exits_from_all e n (x ∷ xs) i = by (x.number == n) (exits_from_all e n xs) i
  where
    by : (b : Bool) → (IsExitOf e (exits_from n xs) → IsExitOf e xs)
        → IsExitOf e (if b then x ∷ xs else exits_from n xs) → IsExitOf e (x ∷ xs)
    by true others j = j
    by false others j = inr (others j)

wider_landing : (few many : List Exit) → ((e : ℕ) → IsExitOf e few → IsExitOf e many) → (o : Outcome) → LandsIn few o → LandsIn many o
wider_landing few many w (value v) l = tt
wider_landing few many w (exit e v landing) (inl i) = inl i
wider_landing few many w (exit e v landing) (inr i) = inr (w e i)
wider_landing few many w (full asked left) l = tt
wider_landing few many w more l = tt

module _ (R : State → State → Type 0) (k : IsKeptByRules R) where
  -- from a state, among exits: the second evaluation goes on from the state and lands among the exits, and the
  -- first one is the same or was cut
  pub record Extends (exits : List Exit) (z : State) (r s : Evaluated) : Type 0 where
    pub grows : R z s.state
    pub lands : LandsIn exits s.outcome
    pub either : r ≡ s ⊎ IsCut r s

  -- what goes on from values, and from states
  abbrev pub Continues : List Exit → (Value → State → Evaluated) → (Value → State → Evaluated) → Type 0
  Continues exits next next' = (v : Value) (z : State) → Extends exits z (next v z) (next' v z)

  abbrev pub Follows : List Exit → (State → Evaluated) → (State → Evaluated) → Type 0
  Follows exits next next' = (z : State) → Extends exits z (next z) (next' z)

  -- acts, in every dynamic context
  abbrev pub Acts : Act → Act → Type 0
  Acts act act' = (around : DynamicContext) (z : State) → Extends around.exits z (act around z) (act' around z)

  -- one meaning beside another, for all tasks
  abbrev pub Within : (Task → Evaluation) → (Task → Evaluation) → Type 0
  Within low high = (task : Task) (env : Environment) → Acts (low task env) (high task env)

  -- two contexts that differ in the meaning one level below
  pub record Beside : Type 0 where
    pub context : Context
    pub higher : Task → Evaluation
    pub within : Within context.below higher

-- acts in both contexts
module _ {R : State → State → Type 0} {k : IsKeptByRules R} (b : Beside R k) where
  abbrev pub second : Context
  second = record b.context { below = b.higher }

  abbrev pub Both : (Context → Act) → Type 0
  Both act = Acts R k (act b.context) (act second)

module _ {R : State → State → Type 0} {k : IsKeptByRules R} where
  -- one result for both
  pub itself : (exits : List Exit) {z : State} (r : Evaluated) → R z r.state → LandsIn exits r.outcome → Extends R k exits z r r
  itself exits r g l = record { grows = g; lands = l; either = inl refl }

  pub given : (exits : List Exit) {z : State} (v : Value) (after : State) → R z after → Extends R k exits z (gives v after) (gives v after)
  given exits v after g = itself exits (gives v after) g tt

  -- from an earlier state, and among more exits
  pub sooner : {exits : List Exit} {y z : State} {r s : Evaluated} → R y z → Extends R k exits z r s → Extends R k exits y r s
  sooner g x = record { grows = k.both g x.grows; lands = x.lands; either = x.either }

  pub wider : {few many : List Exit} {z : State} {r s : Evaluated} → ((e : ℕ) → IsExitOf e few → IsExitOf e many)
      → Extends R k few z r s → Extends R k many z r s
  wider {few} {many} {z} {r} {s} w x =
      record { grows = x.grows; lands = wider_landing few many w s.outcome x.lands; either = x.either }

  -- what is done with a result, where More stays More: it is enough to look at one result
  pub used : {exits others : List Exit} {y : State} {r s : Evaluated} (f f' : Outcome → State → Evaluated)
      → ((z : State) → f more z ≡ record { outcome = more; state = z })
      → ((o : Outcome) (z : State) → LandsIn exits o → Extends R k others z (f o z) (f' o z))
      → Extends R k exits y r s → Extends R k others y (f r.outcome r.state) (f' s.outcome s.state)
  used {exits} {others} {y} {r} {s} f f' m h x =
      let w : Extends R k others y (f s.outcome s.state) (f' s.outcome s.state) = sooner x.grows (h s.outcome s.state x.lands) in
      ⊎_elim
      (λ same. subst (λ q. Extends R k others y (f q.outcome q.state) (f' s.outcome s.state)) (sym same) w)
      (λ cut.
      let e : f r.outcome r.state ≡ record { outcome = more; state = r.state } = ap (λ o. f o r.state) cut.ran_out ∙ m r.state in
      record {
        grows = w.grows;
        lands = w.lands;
        either = inr (subst (λ q. IsCut q (f' s.outcome s.state)) (sym e)
            (record { ran_out = refl; prefix = prefix_of_prefix cut.prefix (k.prefix (h s.outcome s.state x.lands).grows) }));
      })
      x.either

  pub on : {exits : List Exit} {y : State} {r s : Evaluated} {next next' : Value → State → Evaluated}
      → Extends R k exits y r s → Continues R k exits next next' → Extends R k exits y (go_on r next) (go_on s next')
  on {exits} {y} {r} {s} {next} {next'} x c =
      used (λ o z. go_on_from o z next) (λ o z. go_on_from o z next') (λ z. refl) at x
    where
      at : (o : Outcome) (z : State) → LandsIn exits o → Extends R k exits z (go_on_from o z next) (go_on_from o z next')
      at (value v) z l = c v z
      at (exit e v landing) z l = itself exits (record { outcome = exit e v landing; state = z }) (k.none z) l
      at (full asked left) z l = itself exits (record { outcome = full asked left; state = z }) (k.none z) l
      at more z l = itself exits (record { outcome = more; state = z }) (k.none z) l

  -- a test, the same on both sides
  pub chosen : {exits : List Exit} {z : State} (b : Bool) {r s r' s' : Evaluated}
      → (b ≡ true → Extends R k exits z r s) → (b ≡ false → Extends R k exits z r' s')
      → Extends R k exits z (if b then r else r') (if b then s else s')
  chosen true x x' = x refl
  chosen false x x' = x' refl

  pub tests : {exits : List Exit} {z : State} (b : Bool) {r s r' s' : Evaluated}
      → Extends R k exits z r s → Extends R k exits z r' s' → Extends R k exits z (if b then r else r') (if b then s else s')
  tests b x x' = chosen b (λ h. x) (λ h. x')

  -- a form with an exit
  pub lands_on : {exits : List Exit} {y : State} {r s : Evaluated} (e : ℕ) (kind : ExitKind)
      {land land' : Value → Landing → State → Evaluated}
      → ((v : Value) (landing : Landing) (z : State) → Extends R k exits z (land v landing z) (land' v landing z))
      → Extends R k (record { number = e; kind = kind } ∷ exits) y r s
      → Extends R k exits y (landed e land r) (landed e land' s)
  lands_on {exits} {y} {r} {s} e kind {land} {land'} c x = used (landed_from e land) (landed_from e land') (λ z. refl) at x
    where
      at : (o : Outcome) (z : State) → LandsIn (record { number = e; kind = kind } ∷ exits) o
          → Extends R k exits z (landed_from e land o z) (landed_from e land' o z)
      at (value v) z l = given exits v z (k.none z)
      at (exit n v landing) z (inl i) = chosen (n == e) (λ h. c v landing z)
          (λ h. itself exits (record { outcome = exit n v landing; state = z }) (k.none z) (inl i))
      at (exit n v landing) z (inr i) = chosen (n == e) (λ h. c v landing z)
          (λ h. itself exits (record { outcome = exit n v landing; state = z }) (k.none z) (inr (other_exit n e exits h i)))
      at (full asked left) z l = itself exits (record { outcome = full asked left; state = z }) (k.none z) l
      at more z l = itself exits (record { outcome = more; state = z }) (k.none z) l

  pub catches : {exits : List Exit} {y : State} {r s : Evaluated} (e : ℕ) (kind : ExitKind)
      → Extends R k (record { number = e; kind = kind } ∷ exits) y r s → Extends R k exits y (caught e r) (caught e s)
  catches {exits} e kind x = lands_on e kind (λ v landing z. given exits v z (k.none z)) x

  -- a cleanup
  pub cleans : {y : State} {r s : Evaluated} (around : DynamicContext) {cleanup cleanup' : Act} → Acts R k cleanup cleanup'
      → Extends R k around.exits y r s → Extends R k around.exits y (cleaned cleanup around r) (cleaned cleanup' around s)
  cleans {y} {r} {s} around {cleanup} {cleanup'} c x =
      used (cleaned_from cleanup around) (cleaned_from cleanup' around) (λ z. refl) at x
    where
      at : (o : Outcome) (z : State) → LandsIn around.exits o
          → Extends R k around.exits z (cleaned_from cleanup around o z) (cleaned_from cleanup' around o z)
      at (value v) z l = on (c around z) (λ w after. given around.exits v after (k.none after))
      at (exit e v landing) z l =
          on (wider (λ n. exits_from_all n e around.exits) (c (record around { exits = exits_from e around.exits }) z))
          (λ w after. itself around.exits (leaves e v landing after) (k.none after) l)
      at (full asked left) z l = itself around.exits (record { outcome = full asked left; state = z }) (k.none z) l
      at more z l = itself around.exits (record { outcome = more; state = z }) (k.none z) l

  -- what is there, if something is
  pub some : {X : Type 0} (o : Option X) {otherwise otherwise' : Act} {next next' : X → Act} → Acts R k otherwise otherwise'
      → ((x : X) → Acts R k (next x) (next' x)) → Acts R k (with_some o otherwise next) (with_some o otherwise' next')
  some None n s = n
  some (Some x) n s = s x

  -- requests, objects and applications
  pub requests : {exits : List Exit} (limit : Limit) (heap stack : ℕ) (z : State) {next next' : State → Evaluated}
      → Follows R k exits next next' → Extends R k exits z (request limit heap stack z next) (request limit heap stack z next')
  requests {exits} limit heap stack z {next} {next'} c =
      tests (has_room limit (z.heap + z.stack + heap + stack))
      (sooner (k.words heap stack z) (c (with_words heap stack z)))
      (itself exits (record { outcome = full (heap + stack) (room_left limit (z.heap + z.stack)); state = z }) (k.none z) tt)

  pub charges : {exits : List Exit} (n : ℕ) (z : State) {r s : Evaluated}
      → Extends R k exits (charged n z) r s → Extends R k exits z r s
  charges n z x = sooner (k.charge n z) x

  pub made : {exits : List Exit} (limit : Limit) (size besides : ℕ) (o : Object) (z : State) {next next' : Value → State → Evaluated}
      → Continues R k exits next next' → Extends R k exits z (make limit size besides o z next) (make limit size besides o z next')
  made {exits} limit size besides o z c =
      requests limit size 0 z (λ entered.
      charges (size + besides) entered
      (sooner (k.store o (charged (size + besides) entered))
      (c (object (length entered.store)) (stored o (charged (size + besides) entered)))))

  pub stacked : {exits : List Exit} {z : State} {r s : Evaluated} (n : ℕ) → Extends R k exits z r s → Extends R k exits z (with_stack n r) (with_stack n s)
  stacked {exits} {z} {r} {s} n x = record {
    grows = k.both x.grows (k.stack n s.state);
    lands = x.lands;
    either = ⊎_elim (λ same. inl (ap (with_stack n) same)) (λ cut. inr (record { ran_out = cut.ran_out; prefix = cut.prefix })) x.either;
  }

  pub framed : {exits : List Exit} (limit : Limit) (size : ℕ) (z : State) {body body' : State → Evaluated}
      → Follows R k exits body body' → Extends R k exits z (in_frame limit size body z) (in_frame limit size body' z)
  framed limit size z c = requests limit 0 size z (λ entered. stacked z.stack (c entered))
