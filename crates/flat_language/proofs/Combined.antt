-- Two evaluations that end alike: one lemma for each combinator.
use Rattle.std.proofs.Common.{◌≡◌, ℕ, ◌+◌, ◌==◌, Bool, true, false, List, [], ◌∷◌, ◌++◌, refl, sym, ap, subst, ◌∙◌, inl, inr, ⊎_elim, Option, Some, None, length, take, length-append}
use Rattle.std.specs.List.{range_with_len}
use Rattle.std.specs.Prelude.{slice_get, slice_set, if◌then◌else◌}
use Rattle.lang_meaning.specs.Form.{Form}
use Rattle.lang_meaning.specs.Values.{Value, object}
use Rattle.lang_meaning.specs.Objects.{Object, Environment, function, closure}
use Rattle.lang_meaning.specs.State.{State, DynamicContext, Landing, Outcome, value, exit, full, more, Evaluated, gives, Act, go_on, go_on_from, landed, landed_from, caught, cleaned, cleaned_from, exits_from, Limit, exit_made, has_room, room_left, request, with_words, charged, make, stored, changed, with_stack, in_frame}
use Rattle.lang_meaning.specs.Lookup.{under_number, with_values}
use Rattle.lang_meaning.specs.Signals.{with_some, search}
use Rattle.flat_language.specs.declared.place.Home.{Home}
use Rattle.flat_language.specs.declared.place.VariablePlace.{VariablePlace}
use Rattle.flat_language.specs.declared.place.VariablePlace.TheVariants.{Slot, SlotBox, CapturedValue, CapturedBox}
use Rattle.flat_language.specs.declared.program.FlatProcedure.{FlatProcedure}
use Rattle.flat_language.specs.FlatState.{FrameSlot, Captured, FlatEnvironment, FlatState, FlatEvaluated, FlatAct, under}
use Rattle.flat_language.specs.FlatState as flat
use Rattle.flat_language.specs.FlatSignals as flat_signals
use Rattle.flat_language.specs.declared.place.Known.{Known}
use Rattle.flat_language.specs.Scope.{Scope}
use Rattle.flat_language.proofs.Alike.{VariableKind, constant, boxed, slot, World, StandsIn, Later, SameBindings, BindingsAlike, BindingsMatch, flat_around, InSlot, PlaceAt, VariableAt, Matches, SameObject, ObjectsAlike, Related, Beside, twin, Sim, Continues, Follows, Acts, Lands}
use Rattle.flat_language.proofs.Lists.{pushed, changed_both, length-changed, in_front}
use Rattle.flat_language.proofs.Frames.{fewer_slots, begun, ended}
use Rattle.flat_language.proofs.NewSlots.{kinds_at, with_new_slots, new_variables, boxes_from, with_new_dynamics, new_dynamics}

-- what stands in a list stands in itself
pub kept_itself : {X : Type 0} (xs : List X) → StandsIn xs xs
kept_itself xs = record { kept = λ i x h. h }

-- and in a list after another one
pub kept_after : {X : Type 0} {xs ys zs : List X} → StandsIn xs ys → StandsIn ys zs → StandsIn xs zs
kept_after a b = record { kept = λ i x h. b.kept i x (a.kept i x h) }

-- and in front of more
pub kept_more : {X : Type 0} (xs ys : List X) → StandsIn xs (xs ++ ys)
kept_more xs ys = record { kept = λ i x h. in_front xs ys i x h }

-- and in a list that is the same
pub same_kept : {X : Type 0} {xs ys : List X} → ys ≡ xs → StandsIn xs ys
same_kept e = record { kept = λ i x h. ap (λ zs. slice_get zs i) e ∙ h }

-- a world is later than itself
pub itself : (w : World) → Later w w
itself w = record { kinds = kept_itself w.kinds; own = refl; start = refl }

-- a world after a later one
pub after_that : {w u x : World} → Later w u → Later u x → Later w x
after_that a b = record { kinds = kept_after a.kinds b.kinds; own = b.own ∙ a.own; start = b.start ∙ a.start }

-- dynamic bindings in a later world
pub same_later : {ks ls : List VariableKind} → StandsIn ks ls → (bs cs : List (List ℕ × ℕ)) → SameBindings ks bs cs → SameBindings ls bs cs
same_later l [] [] e = e
same_later l [] (c ∷ cs) e = e
same_later l (b ∷ bs) [] e = e
same_later l (b ∷ bs) (c ∷ cs) e = (e.0, l.kept b.1 (boxed c.1) e.1, same_later l bs cs e.2)

abbrev pub bound_later : {ks ls : List VariableKind} (bs : List (List ℕ × ℕ)) → StandsIn ks ls → BindingsAlike ks bs → BindingsAlike ls bs
bound_later bs l b = record { bindings = b.bindings; same = same_later l bs b.bindings b.same }

-- a place stays that of its variable where more is known
in_slot_kept : (w u : World) → StandsIn w.kinds u.kinds → (n : ℕ) (fixed : Bool) (i : ℕ) → InSlot w n fixed i → InSlot u n fixed i
in_slot_kept w u l n true i h = (h.0, l.kept i (constant h.0) h.1)
in_slot_kept w u l n false i h = l.kept i (slot n) h

pub place_kept : (w u : World) (e : FlatEnvironment) → StandsIn w.kinds u.kinds → StandsIn w.own u.own → (p : VariablePlace) (fixed : Bool) (i : ℕ) → PlaceAt w e p fixed i → PlaceAt u e p fixed i
place_kept w u e l o (Slot n) fixed i h = (o.kept n i h.0, in_slot_kept w u l n fixed i h.1)
place_kept w u e l o (SlotBox n) fixed i h = (o.kept n i h.0, (h.1.0, l.kept i (boxed h.1.0) h.1.1))
place_kept w u e l o (CapturedValue n) fixed i h = (h.0, (h.1.0, l.kept i (constant h.0) h.1.1, h.1.2))
place_kept w u e l o (CapturedBox n) fixed i h = (h.0, (h.1.0, l.kept i (boxed h.0) h.1.1))

-- so does that of a name
pub variable_kept : (w u : World) (e : FlatEnvironment) → StandsIn w.kinds u.kinds → StandsIn w.own u.own → (k : Known) (o : Option ℕ) → VariableAt w e k o → VariableAt u e k o
variable_kept w u e l o k None h = h
variable_kept w u e l o k (Some i) h = place_kept w u e l o k.place k.fixed i h

-- environments match where more is known, and in a later world
pub matches_kept : {w u : World} {s : Scope} {env : Environment} {e : FlatEnvironment} → StandsIn w.kinds u.kinds → u.own ≡ w.own → Matches w s env e → Matches u s env e
matches_kept {w} {u} {s} {env} {e} l same m = record {
  variables = λ v k h. variable_kept w u e l (same_kept same) k (under_number v env.variables) (m.variables v k h);
  exits = m.exits;
  method = m.method;
  slots = ap length same ∙ m.slots;
  own = m.own;
}

pub matches_later : {w u : World} {s : Scope} {env : Environment} {e : FlatEnvironment} → Later w u → Matches w s env e → Matches u s env e
matches_later l m = matches_kept l.kinds l.own m

-- an object that no form made a function of
pub record IsDatum (o : Object) : Type 0 where
  pub no_closure : (required : List ℕ) (rest : Option ℕ) (body : Form) (env : Environment) → o ≡ closure required rest body env → ⊥
  pub no_function : (p : ℕ) → o ≡ function p → ⊥

module _ {ps : List FlatProcedure} where
  pub objects_later : {ks ls : List VariableKind} {o o' : Option Object} {t : Option (List Captured)} → StandsIn ks ls → ObjectsAlike ps ks o o' t → ObjectsAlike ps ls o o' t
  objects_later l x = ⊎_elim (λ s. inl s) (λ f. inr (record {
    required = f.required;
    rest = f.rest;
    body = f.body;
    env = f.env;
    procedure = f.procedure;
    captured = f.captured;
    one = f.one;
    other = f.other;
    under = f.under;
    alike = record {
      scope = f.alike.scope;
      first = f.alike.first;
      kinds = f.alike.kinds;
      there = f.alike.there;
      sound = f.alike.sound;
      environment = matches_kept l refl f.alike.environment;
    };
  })) x

  -- it is enough to look at the twin of a state
  pub at_twin : {w : World} {z : State} {y : FlatState} (P : FlatState → Type 0) (b : Beside ps w z y)
      → (Beside ps w z (twin ps z b.store b.boxes b.frame b.captured) → P (twin ps z b.store b.boxes b.frame b.captured)) → P y
  at_twin P b h = subst P (sym b.is) (h (record {
    world = b.world;
    later = b.later;
    store = b.store;
    boxes = b.boxes;
    frame = b.frame;
    captured = b.captured;
    related = b.related;
    is = refl;
  }))

  -- a step that changes neither variables nor store
  pub step : {w : World} {z : State} {y : FlatState} (g : State → State) → Beside ps w z y
      → ((x : State) → (g x).variables ≡ x.variables) → ((x : State) → (g x).store ≡ x.store)
      → ((x : State) (os : List Object) (vs : List Value) → g (record x { store = os; variables = vs }) ≡ record (g x) { store = os; variables = vs })
      → Beside ps w (g z) (flat.on_state g y)
  step {w} {z} {y} g b v s h = record {
    world = b.world;
    later = b.later;
    store = b.store;
    boxes = b.boxes;
    frame = b.frame;
    captured = b.captured;
    related = subst (λ vs. Related ps b.world vs b.boxes b.frame (g z).store b.store b.captured) (sym (v z))
        (subst (λ os. Related ps b.world z.variables b.boxes b.frame os b.store b.captured) (sym (s z)) b.related);
    is = ap (λ (x : FlatState). flat.on_state g x) b.is ∙ ap (λ (x : State). record { state = x; frame = b.frame; captured = b.captured }) (h z b.store b.boxes);
  }

  pub charges : {w : World} {z : State} {y : FlatState} (n : ℕ) → Beside ps w z y → Beside ps w (charged n z) (flat.charged n y)
  charges n b = step (λ z. charged n z) b (λ x. refl) (λ x. refl) (λ x os vs. refl)

  pub exits_made : {w : World} {z : State} {y : FlatState} → Beside ps w z y → Beside ps w (exit_made z) (flat.exit_made y)
  exits_made b = step (λ z. exit_made z) b (λ x. refl) (λ x. refl) (λ x os vs. refl)

  -- from an earlier world, and at the world of now
  pub sooner : {w u : World} {r : Evaluated} {q : FlatEvaluated} → Later w u → Sim ps u r q → Sim ps w r q
  sooner l x = record {
    beside = record {
      world = x.beside.world;
      later = after_that l x.beside.later;
      store = x.beside.store;
      boxes = x.beside.boxes;
      frame = x.beside.frame;
      captured = x.beside.captured;
      related = x.beside.related;
      is = x.beside.is;
    };
    same = x.same;
  }

  pub now : {w : World} {z : State} {y : FlatState} (b : Beside ps w z y) → Beside ps b.world z y
  now b = record { world = b.world; later = itself b.world; store = b.store; boxes = b.boxes; frame = b.frame; captured = b.captured; related = b.related; is = b.is }

  -- ends
  pub ends : {w : World} {z : State} {y : FlatState} (o : Outcome) → Beside ps w z y
      → Sim ps w (record { outcome = o; state = z }) (record { outcome = o; state = y })
  ends o b = record { beside = b; same = refl }

  pub given : {w : World} {z : State} {y : FlatState} (v : Value) → Beside ps w z y → Sim ps w (gives v z) (flat.gives v y)
  given v b = ends (value v) b

  -- what is done with a result: it is enough to look at results with the same outcome
  pub used : {w u : World} {r : Evaluated} {q : FlatEvaluated} (f : Outcome → State → Evaluated) (f' : Outcome → FlatState → FlatEvaluated)
      → ((o : Outcome) (z : State) (y : FlatState) → Beside ps w z y → Sim ps u (f o z) (f' o y))
      → Sim ps w r q → Sim ps u (f r.outcome r.state) (f' q.outcome q.state)
  used {w} {u} {r} {q} f f' h x =
      subst (λ (o : Outcome). Sim ps u (f r.outcome r.state) (f' o q.state)) (sym x.same) (h r.outcome r.state q.state x.beside)

  pub on : {w : World} {r : Evaluated} {q : FlatEvaluated} {next : Value → State → Evaluated} {next' : Value → FlatState → FlatEvaluated}
      → Sim ps w r q → Continues ps w next next' → Sim ps w (go_on r next) (flat.go_on q next')
  on {w} {r} {q} {next} {next'} x c = used (λ o z. go_on_from o z next) (λ o y. flat.go_on_from o y next') at x
    where
      at : (o : Outcome) (z : State) (y : FlatState) → Beside ps w z y → Sim ps w (go_on_from o z next) (flat.go_on_from o y next')
      at (value v) z y b = c v z y b
      at (exit e v landing) z y b = ends (exit e v landing) b
      at (full asked left) z y b = ends (full asked left) b
      at more z y b = ends more b

  pub tests : {w : World} (b : Bool) {r r' : Evaluated} {q q' : FlatEvaluated}
      → Sim ps w r q → Sim ps w r' q' → Sim ps w (if b then r else r') (if b then q else q')
  tests true x x' = x
  tests false x x' = x'

  pub chosen : {w : World} (b : Bool) {r r' : Evaluated} {q q' : FlatEvaluated}
      → (b ≡ true → Sim ps w r q) → (b ≡ false → Sim ps w r' q') → Sim ps w (if b then r else r') (if b then q else q')
  chosen true x x' = x refl
  chosen false x x' = x' refl

  pub lands_on : {w : World} {r : Evaluated} {q : FlatEvaluated} (e : ℕ)
      {land : Value → Landing → State → Evaluated} {land' : Value → Landing → FlatState → FlatEvaluated}
      → Lands ps w land land' → Sim ps w r q → Sim ps w (landed e land r) (flat.landed e land' q)
  lands_on {w} {r} {q} e {land} {land'} c x = used (landed_from e land) (flat.landed_from e land') at x
    where
      at : (o : Outcome) (z : State) (y : FlatState) → Beside ps w z y → Sim ps w (landed_from e land o z) (flat.landed_from e land' o y)
      at (value v) z y b = ends (value v) b
      at (exit n v landing) z y b = tests (n == e) (c v landing z y b) (ends (exit n v landing) b)
      at (full asked left) z y b = ends (full asked left) b
      at more z y b = ends more b

  pub catches : {w : World} {r : Evaluated} {q : FlatEvaluated} (e : ℕ) → Sim ps w r q → Sim ps w (caught e r) (flat.caught e q)
  catches e x = lands_on e (λ v landing z y b. given v b) x

  pub cleans : {w : World} {r : Evaluated} {q : FlatEvaluated} (around : DynamicContext) (bound : BindingsMatch w around) {cleanup : Act} (cleanup' : FlatAct) → Acts ps w cleanup cleanup'
      → Sim ps w r q → Sim ps w (cleaned cleanup around r) (flat.cleaned cleanup' (flat_around around bound) q)
  cleans {w} {r} {q} around bound {cleanup} cleanup' c x = used (cleaned_from cleanup around) (flat.cleaned_from cleanup' (flat_around around bound)) at x
    where
      at : (o : Outcome) (z : State) (y : FlatState) → Beside ps w z y → Sim ps w (cleaned_from cleanup around o z) (flat.cleaned_from cleanup' (flat_around around bound) o y)
      at (value v) z y b = on (c around bound z y b) (λ ignored after later a. given v a)
      at (exit e v landing) z y b =
          on (c (record around { exits = exits_from e around.exits }) bound z y b) (λ ignored after later a. ends (exit e v landing) a)
      at (full asked left) z y b = ends (full asked left) b
      at more z y b = ends more b

  pub some : {w : World} {X : Type 0} (o : Option X) {otherwise : Act} (otherwise' : FlatAct) {next : X → Act} (next' : X → FlatAct)
      → Acts ps w otherwise otherwise' → ((x : X) → Acts ps w (next x) (next' x))
      → Acts ps w (with_some o otherwise next) (flat_signals.with_some o otherwise' next')
  some None otherwise' next' n s = n
  some (Some x) otherwise' next' n s = s x

  -- requests, objects and applications
  pub requests : {w : World} (limit : Limit) (heap stack : ℕ) (z : State) (y : FlatState) → Beside ps w z y → {next : State → Evaluated} {next' : FlatState → FlatEvaluated}
      → Follows ps w next next' → Sim ps w (request limit heap stack z next) (flat.request limit heap stack y next')
  requests {w} limit heap stack z y b {next} {next'} c =
      at_twin (λ y'. Sim ps w (request limit heap stack z next) (flat.request limit heap stack y' next')) b (λ a.
      tests (has_room limit (z.heap + z.stack + heap + stack))
      (c (with_words heap stack z) _ (step (λ x. with_words heap stack x) a (λ x. refl) (λ x. refl) (λ x os vs. refl)))
      (ends (full (heap + stack) (room_left limit (z.heap + z.stack))) a))

  same_datum : (o : Object) → IsDatum o → (t : Option (List Captured)) → SameObject ps (Some o) (Some o) t
  same_datum o d t = record {
    same = refl;
    plain = λ required rest body env h. d.no_closure required rest body env (cc h);
    bare = λ p h. absurd (d.no_function p (cc h));
  }

  pub stored_related : {w : World} {vs us : List Value} {frame : List FrameSlot} {store flat_store : List Object} {cs : List (ℕ × List Captured)} (o : Object) → IsDatum o
      → Related ps w vs us frame store flat_store cs → Related ps w vs us frame (store ++ o ∷ []) (flat_store ++ o ∷ []) cs
  stored_related {w} {vs} {us} {frame} {store} {flat_store} {cs} o d r = record {
    values = r.values;
    lengths = length-append flat_store (o ∷ []) ∙ ap (λ n. n + 1) r.lengths ∙ sym (length-append store (o ∷ []));
    objects = λ i.
        pushed (λ x y. ObjectsAlike ps w.kinds x y (under i cs)) store flat_store o o i r.lengths
        (λ e. inl (same_datum o d (under i cs))) (λ e. r.objects i);
  }

  pub more_stored : {w : World} {z : State} {y : FlatState} (o : Object) → IsDatum o → Beside ps w z y
      → Beside ps w (stored o z) (flat.on_state (λ x. stored o x) y)
  more_stored {w} {z} {y} o d b = record {
    world = b.world;
    later = b.later;
    store = b.store ++ o ∷ [];
    boxes = b.boxes;
    frame = b.frame;
    captured = b.captured;
    related = stored_related o d b.related;
    is = ap (λ (x : FlatState). flat.on_state (λ x. stored o x) x) b.is;
  }

  pub changed_related : {w : World} {vs us : List Value} {frame : List FrameSlot} {store flat_store : List Object} {cs : List (ℕ × List Captured)} (i : ℕ) (o : Object) → IsDatum o
      → Related ps w vs us frame store flat_store cs → Related ps w vs us frame (slice_set store i o) (slice_set flat_store i o) cs
  changed_related {w} {vs} {us} {frame} {store} {flat_store} {cs} i o d r = record {
    values = r.values;
    lengths = length-changed flat_store i o ∙ r.lengths ∙ sym (length-changed store i o);
    objects = λ j.
        changed_both (λ x y. ObjectsAlike ps w.kinds x y (under j cs)) store flat_store i j o r.lengths
        (inl (same_datum o d (under j cs))) (r.objects j);
  }

  pub one_changed : {w : World} {z : State} {y : FlatState} (i : ℕ) (o : Object) → IsDatum o → Beside ps w z y
      → Beside ps w (changed i o z) (flat.on_state (λ x. changed i o x) y)
  one_changed i o d b = record {
    world = b.world;
    later = b.later;
    store = slice_set b.store i o;
    boxes = b.boxes;
    frame = b.frame;
    captured = b.captured;
    related = changed_related i o d b.related;
    is = ap (λ (x : FlatState). flat.on_state (λ x. changed i o x) x) b.is;
  }

  pub made : {w : World} (limit : Limit) (size besides : ℕ) (o : Object) → IsDatum o → (z : State) (y : FlatState) → Beside ps w z y
      → {next : Value → State → Evaluated} {next' : Value → FlatState → FlatEvaluated}
      → Continues ps w next next' → Sim ps w (make limit size besides o z next) (flat.make limit size besides o y next')
  made {w} limit size besides o d z y b {next} {next'} c =
      requests limit size 0 z y b (λ entered later a.
      subst (λ n. Sim ps w
      (next (object (length entered.store)) (stored o (charged (size + besides) entered)))
      (next' (object n) (flat.on_state (λ x. stored o (charged (size + besides) x)) later)))
      (sym (ap (λ (x : FlatState). length x.state.store) a.is ∙ a.related.lengths))
      (c (object (length entered.store)) (stored o (charged (size + besides) entered)) _
      (more_stored o d (charges (size + besides) a))))

  pub stacked : {w : World} {r : Evaluated} {q : FlatEvaluated} (n : ℕ) → Sim ps w r q → Sim ps w (with_stack n r) (flat.with_stack n q)
  stacked {w} {r} {q} n x = record {
    beside = step (λ z. record z { stack = n }) x.beside (λ x. refl) (λ x. refl) (λ x os vs. refl);
    same = x.same;
  }

  pub framed : {w : World} (limit : Limit) (size : ℕ) (z : State) (y : FlatState) → Beside ps w z y → {body : State → Evaluated} {body' : FlatState → FlatEvaluated}
      → Follows ps w body body' → Sim ps w (in_frame limit size body z) (flat.in_frame limit size body' y)
  framed {w} limit size z y b {body} {body'} c =
      at_twin (λ y'. Sim ps w (in_frame limit size body z) (flat.in_frame limit size body' y')) b (λ a.
      requests limit 0 size z _ a (λ entered later x. stacked z.stack (c entered later x)))

  -- a search
  pub searches : {w : World} {X : Type 0} (p : X → Bool) {found : X → State → Evaluated} {found' : X → FlatState → FlatEvaluated}
      {otherwise : State → Evaluated} {otherwise' : FlatState → FlatEvaluated}
      → ((x : X) → Follows ps w (found x) (found' x)) → Follows ps w otherwise otherwise'
      → (xs : List X) (z : State) (y : FlatState) → Beside ps w z y
      → Sim ps w (search p found otherwise xs z) (flat_signals.search p found' otherwise' xs y)
  searches p f o [] z y b = o z y b
  searches p f o (x ∷ xs) z y b =
      tests (p x)
      (f x (charged 1 z) (flat.charged 1 y) (charges 1 b))
      (searches p f o xs (charged 1 z) (flat.charged 1 y) (charges 1 b))

  -- new variables, with new slots
  pub slots_made : {w : World} {z : State} {y : FlatState} (hs : List Home) (ss : List Bool) (vs : List Value) → length hs ≡ length vs → length ss ≡ length vs
      → (b : Beside ps w z y) → Beside ps (with_new_slots b.world hs ss vs (length z.variables) (length b.boxes)) (with_values vs z) (flat.with_slots hs vs y)
  slots_made {w} {z} {y} hs ss vs e f b = record {
    world = with_new_slots b.world hs ss vs (length z.variables) (length b.boxes);
    later = itself (with_new_slots b.world hs ss vs (length z.variables) (length b.boxes));
    store = b.store;
    boxes = b.boxes ++ flat.new_boxes hs vs;
    frame = b.frame ++ flat.new_slots hs vs (length b.boxes);
    captured = b.captured;
    related = record {
      values = new_variables b.related.values hs ss vs e f;
      lengths = b.related.lengths;
      objects = λ i. objects_later (kept_more b.world.kinds (kinds_at hs ss vs (length b.world.own) (length b.boxes))) (b.related.objects i);
    };
    is = ap (λ (x : FlatState). flat.with_slots hs vs x) b.is;
  }

  -- and when they are gone
  pub slots_gone : {w : World} {z : State} {y : FlatState} (hs : List Home) (ss : List Bool) (vs : List Value)
      → (b : Beside ps w z y) → {r : Evaluated} {q : FlatEvaluated} → Sim ps (with_new_slots b.world hs ss vs (length z.variables) (length b.boxes)) r q
      → Sim ps w r (flat.without_slots_from (length y.frame) q)
  slots_gone {w} {z} {y} hs ss vs b {r} {q} x =
      let many : length b.world.own ≡ length y.frame = sym (ap (λ (s : FlatState). length s.frame) b.is ∙ b.related.values.slot_count) in
      subst (λ n. Sim ps w r (flat.without_slots_from n q)) many (record {
        beside = record {
          world = record x.beside.world { own = b.world.own };
          later = record {
            kinds = kept_after b.later.kinds (kept_after (kept_more b.world.kinds (kinds_at hs ss vs (length b.world.own) (length b.boxes))) x.beside.later.kinds);
            own = b.later.own;
            start = x.beside.later.start ∙ b.later.start;
          };
          store = x.beside.store;
          boxes = x.beside.boxes;
          frame = take (length b.world.own) x.beside.frame;
          captured = x.beside.captured;
          related = record {
            values = fewer_slots x.beside.related.values b.world.own (range_with_len (length z.variables) (length vs)) x.beside.later.own;
            lengths = x.beside.related.lengths;
            objects = x.beside.related.objects;
          };
          is = ap (λ (s : FlatState). record s { frame = take (length b.world.own) s.frame }) x.beside.is;
        };
        same = x.same;
      })

  -- a frame of its own
  pub frame_made : {w : World} {z : State} {y : FlatState} → (b : Beside ps w z y)
      → Beside ps (record b.world { own = []; start = z.variables }) z (record y { frame = [] })
  frame_made {w} {z} {y} b = record {
    world = record b.world { own = []; start = z.variables };
    later = itself (record b.world { own = []; start = z.variables });
    store = b.store;
    boxes = b.boxes;
    frame = [];
    captured = b.captured;
    related = record { values = begun b.related.values; lengths = b.related.lengths; objects = b.related.objects };
    is = ap (λ (s : FlatState). record s { frame = [] }) b.is;
  }

  -- and when it is left
  pub frame_left : {w u : World} {z : State} {y : FlatState} (b : Beside ps w z y) → StandsIn b.world.kinds u.kinds → u.start ≡ z.variables
      → {r : Evaluated} {q : FlatEvaluated} → Sim ps u r q → Sim ps w r (flat.with_frame y.frame q)
  frame_left {w} {u} {z} {y} b l began {r} {q} x =
      subst (λ frame. Sim ps w r (flat.with_frame frame q)) (sym (ap (λ (s : FlatState). s.frame) b.is)) (record {
        beside = record {
          world = record x.beside.world { own = b.world.own; start = b.world.start };
          later = record { kinds = kept_after b.later.kinds (kept_after l x.beside.later.kinds); own = b.later.own; start = b.later.start };
          store = x.beside.store;
          boxes = x.beside.boxes;
          frame = b.frame;
          captured = x.beside.captured;
          related = record {
            values = ended b.related.values (kept_after l x.beside.later.kinds) (x.beside.later.start ∙ began) x.beside.related.values;
            lengths = x.beside.related.lengths;
            objects = x.beside.related.objects;
          };
          is = ap (λ (s : FlatState). record s { frame = b.frame }) x.beside.is;
        };
        same = x.same;
      })

  -- new dynamic bindings
  pub dynamics_made : {w : World} {z : State} {y : FlatState} (vs : List Value)
      → (b : Beside ps w z y) → Beside ps (with_new_dynamics b.world vs (length z.variables) (length b.boxes)) (with_values vs z) (flat.with_values vs y)
  dynamics_made {w} {z} {y} vs b = record {
    world = with_new_dynamics b.world vs (length z.variables) (length b.boxes);
    later = itself (with_new_dynamics b.world vs (length z.variables) (length b.boxes));
    store = b.store;
    boxes = b.boxes ++ vs;
    frame = b.frame;
    captured = b.captured;
    related = record {
      values = new_dynamics b.related.values vs;
      lengths = b.related.lengths;
      objects = λ i. objects_later (kept_more b.world.kinds (boxes_from (length b.boxes) vs)) (b.related.objects i);
    };
    is = ap (λ (x : FlatState). flat.with_values vs x) b.is;
  }
