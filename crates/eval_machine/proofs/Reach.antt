-- That the machine comes from one configuration to another: one lemma for each combinator of the meaning.
use Rattle.std.proofs.Common.{◌≡◌, ℕ, zero, suc, ◌+◌, ◌==◌, Bool, true, false, List, [], ◌∷◌, Option, Some, None, refl, sym, ap, subst, ◌∙◌, arith}
use Rattle.std.specs.Prelude.{if◌then◌else◌, length}
use Rattle.lang_meaning.specs.Values.{Value, nil, object}
use Rattle.lang_meaning.specs.Objects.{Object, Called, cons}
use Rattle.lang_meaning.specs.State.{DynamicContext, Landing, Outcome, value, exit, full, more, exits_from, Limit, has_room, room_left, with_words, stored}
use Rattle.lang_meaning.specs.State as base
use Rattle.lang_meaning.specs.Lookup.{passed}
use Rattle.lang_meaning.specs.Meaning.{segment_of}
use Rattle.flat_language.specs.declared.place.Home.{Home}
use Rattle.flat_language.specs.declared.place.Home.TheVariants as home
use Rattle.flat_language.specs.FlatForm.{FlatForm, FlatForms}
use Rattle.flat_language.specs.FlatState.{FrameSlot, FlatState, FlatEvaluated, FlatAct, on_state, gives, go_on, go_on_from, landed, landed_from, caught, charged, request, make, with_stack, without_slots_from, with_frame}
use Rattle.flat_language.specs.FlatState as flat
use Rattle.flat_language.specs.FlatSignals.{make_list, with_record, with_boxes}
use Rattle.flat_language.specs.FlatSignals as flat_signals
use Rattle.flat_language.specs.FlatMeaning.{from_segment}
use Rattle.eval_machine.specs.Configuration.{Setting, Situation, Wait, ContinuationFrame, Configuration, Transition, evaluate, come_to, kept, awaits, catches, turns, cleans, restores_stack, restores_slots, drops_slots, unbinds, configuration, ended, then_on, then_on_from, first_that, some_or, descend}
use Rattle.eval_machine.specs.Applications.{requested, made, listed, recorded, boxes_requested, searched}
use Rattle.eval_machine.specs.Step.{value_step, segments_step}
use Rattle.eval_machine.specs.Run.{next, steps}

-- more steps after some
pub steps_joined : (s : Setting) (n j : ℕ) (m : Configuration) → steps s j (steps s n m) ≡ steps s (n + j) m
steps_joined s zero j m = let e : j ≡ 0 + j = omega arith in ap (λ i. steps s i m) e
steps_joined s (suc n) j m =
    let e : suc (n + j) ≡ suc n + j = omega arith in
    steps_joined s n j (next s m) ∙ ap (λ i. steps s i m) e

module _ (s : Setting) where
  -- the machine comes to that outcome and state, with those frames
  pub record ReachesOutcome (m : Configuration) (r : FlatEvaluated) (frames : List ContinuationFrame) : Type 0 where
    pub count : ℕ
    pub is : steps s count m ≡ ended r frames

  -- at once
  pub here : {r : FlatEvaluated} {frames : List ContinuationFrame} → ReachesOutcome (ended r frames) r frames
  here = record { count = 0; is = refl }

  -- after a step
  pub after_step : {m : Configuration} {r : FlatEvaluated} {frames : List ContinuationFrame} → ReachesOutcome (next s m) r frames → ReachesOutcome m r frames
  after_step x = record { count = suc x.count; is = x.is }

  -- where it came to something on the way
  pub by_way : {m : Configuration} {r q : FlatEvaluated} {frames outer : List ContinuationFrame} → ReachesOutcome m r frames → ReachesOutcome (ended r frames) q outer → ReachesOutcome m q outer
  by_way {m} {r} {q} {frames} {outer} x y = record {
    count = x.count + y.count;
    is = sym (steps_joined s x.count y.count m) ∙ (ap (λ a. steps s y.count a) x.is ∙ y.is);
  }

  -- a part, and what goes on with its value
  pub on : {m : Configuration} {r : FlatEvaluated} {w : Wait} {frames : List ContinuationFrame} {follow : Value → FlatState → FlatEvaluated}
      → ReachesOutcome m r (awaits w ∷ frames) → ((v : Value) (z : FlatState) → ReachesOutcome (value_step s w v frames z) (follow v z) frames)
      → ReachesOutcome m (go_on r follow) frames
  on {m} {r} {w} {frames} {follow} x c = by_way x (at r.outcome r.state)
    where
      at : (o : Outcome) (z : FlatState) → ReachesOutcome (configuration (come_to o) (awaits w ∷ frames) z) (go_on_from o z follow) frames
      at (value v) z = after_step (c v z)
      at (exit e v landing) z = after_step here
      at (full asked left) z = after_step here
      at more z = after_step here

  -- a form with an exit
  pub catching : {m : Configuration} {r : FlatEvaluated} {e : ℕ} {frames : List ContinuationFrame} → ReachesOutcome m r (catches e ∷ frames) → ReachesOutcome m (caught e r) frames
  catching x = by_way x (after_step here)

  -- the end of a body with a handler or dynamic bindings of its own
  pub unbound : {m : Configuration} {r : FlatEvaluated} {frames : List ContinuationFrame} → ReachesOutcome m r (unbinds ∷ frames) → ReachesOutcome m r frames
  unbound x = by_way x (after_step here)

  -- either of two
  pub either : (b : Bool) {m m' : Configuration} {r r' : FlatEvaluated} {frames : List ContinuationFrame}
      → ReachesOutcome m r frames → ReachesOutcome m' r' frames → ReachesOutcome (if b then m else m') (if b then r else r') frames
  either true x y = x
  either false x y = y

  -- a tagbody
  pub turning : {m : Configuration} {r : FlatEvaluated} {e : ℕ} {all : FlatForms} {at : Situation} {frames : List ContinuationFrame} {land : Value → Landing → FlatState → FlatEvaluated}
      → ReachesOutcome m r (turns e all at ∷ frames)
      → ((v : Value) (landing : Landing) (z : FlatState)
      → ReachesOutcome (descend at.level (λ k. segments_step s e (from_segment (segment_of landing) all) all (record at { level = k })) frames z) (land v landing z) frames)
      → ReachesOutcome m (landed e land r) frames
  turning {m} {r} {e} {all} {at} {frames} {land} x c = by_way x (ends r.outcome r.state)
    where
      ends : (o : Outcome) (z : FlatState) → ReachesOutcome (configuration (come_to o) (turns e all at ∷ frames) z) (landed_from e land o z) frames
      ends (value v) z = after_step here
      ends (exit n v landing) z = after_step (either (n == e) (c v landing z) here)
      ends (full asked left) z = after_step here
      ends more z = after_step here

  -- a form with a cleanup
  pub cleaning : {m : Configuration} {r : FlatEvaluated} {cleanup : FlatForm} {at : Situation} {frames : List ContinuationFrame} {act : FlatAct}
      → ReachesOutcome m r (cleans cleanup at ∷ frames)
      → ((around : DynamicContext) (outer : List ContinuationFrame) (z : FlatState) → ReachesOutcome (configuration (evaluate cleanup (record at { around = around })) outer z) (act around z) outer)
      → ReachesOutcome m (flat.cleaned act at.around r) frames
  cleaning {m} {r} {cleanup} {at} {frames} {act} x c = by_way x (ends r.outcome r.state)
    where
      ends : (o : Outcome) (z : FlatState) → ReachesOutcome (configuration (come_to o) (cleans cleanup at ∷ frames) z) (flat.cleaned_from act at.around o z) frames
      ends (value v) z = after_step (on (c at.around (awaits (kept (value v)) ∷ frames) z) (λ w y. here))
      ends (exit e v landing) z =
          after_step (on (c (record at.around { exits = exits_from e at.around.exits }) (awaits (kept (exit e v landing)) ∷ frames) z) (λ w y. here))
      ends (full asked left) z = after_step here
      ends more z = after_step here

  -- the end of an application, and of a body with new slots
  pub stack_left : {m : Configuration} {r : FlatEvaluated} {n : ℕ} {frames : List ContinuationFrame} → ReachesOutcome m r (restores_stack n ∷ frames) → ReachesOutcome m (with_stack n r) frames
  stack_left x = by_way x (after_step here)

  pub slots_left : {m : Configuration} {r : FlatEvaluated} {slots : List FrameSlot} {frames : List ContinuationFrame} → ReachesOutcome m r (restores_slots slots ∷ frames) → ReachesOutcome m (with_frame slots r) frames
  slots_left x = by_way x (after_step here)

  pub slots_dropped : {m : Configuration} {r : FlatEvaluated} {n : ℕ} {frames : List ContinuationFrame} → ReachesOutcome m r (drops_slots n ∷ frames) → ReachesOutcome m (without_slots_from n r) frames
  slots_dropped x = by_way x (after_step here)

  -- what is evaluated where there is room
  room : (b : Bool) (r q : FlatEvaluated) (z : FlatState) (asked left : ℕ) {frames : List ContinuationFrame} (ahead : Value → FlatState → Configuration)
      → ReachesOutcome (then_on r frames ahead) q frames
      → ReachesOutcome (then_on (if b then r else record { outcome = full asked left; state = z }) frames ahead) (if b then q else record { outcome = full asked left; state = z }) frames
  room true r q z asked left ahead x = x
  room false r q z asked left ahead x = here

  -- requests and objects
  pub asks : (limit : Limit) (heap stack : ℕ) (z : FlatState) {frames : List ContinuationFrame} (ahead : Value → FlatState → Configuration) {follow : FlatState → FlatEvaluated}
      → ((v : Value) (y : FlatState) → ReachesOutcome (ahead v y) (follow y) frames)
      → ReachesOutcome (then_on (requested limit heap stack z) frames ahead) (request limit heap stack z follow) frames
  asks limit heap stack z ahead {follow} c =
      room (has_room limit (z.state.heap + z.state.stack + heap + stack)) (gives nil (on_state (λ y. with_words heap stack y) z)) (follow (on_state (λ y. with_words heap stack y) z)) z
      (heap + stack) (room_left limit (z.state.heap + z.state.stack)) ahead (c nil (on_state (λ y. with_words heap stack y) z))

  pub makes : (limit : Limit) (size besides : ℕ) (o : Object) (z : FlatState) {frames : List ContinuationFrame} (ahead : Value → FlatState → Configuration) {follow : Value → FlatState → FlatEvaluated}
      → ((v : Value) (y : FlatState) → ReachesOutcome (ahead v y) (follow v y) frames)
      → ReachesOutcome (then_on (made limit size besides o z) frames ahead) (make limit size besides o z follow) frames
  makes limit size besides o z ahead {follow} c =
      let entered : FlatState = on_state (λ y. with_words size 0 y) z in
      let after : FlatState = on_state (λ y. stored o (base.charged (size + besides) y)) entered in
      room (has_room limit (z.state.heap + z.state.stack + size + 0)) (gives (object (length entered.state.store)) after) (follow (object (length entered.state.store)) after) z
      (size + 0) (room_left limit (z.state.heap + z.state.stack)) ahead (c (object (length entered.state.store)) after)

  -- a list
  then_after : (r : FlatEvaluated) (more_of : Value → FlatState → FlatEvaluated) (frames : List ContinuationFrame) (ahead : Value → FlatState → Configuration)
      → then_on r frames (λ v z. then_on (more_of v z) frames ahead) ≡ then_on (go_on r more_of) frames ahead
  then_after r more_of frames ahead = at r.outcome r.state
    where
      at : (o : Outcome) (z : FlatState) → then_on_from o z frames (λ v y. then_on (more_of v y) frames ahead) ≡ then_on (go_on_from o z more_of) frames ahead
      at (value v) z = refl
      at (exit e v landing) z = refl
      at (full asked left) z = refl
      at more z = refl

  pub lists : (limit : Limit) (vs : List Value) (z : FlatState) {frames : List ContinuationFrame} (ahead : Value → FlatState → Configuration) {follow : Value → FlatState → FlatEvaluated}
      → ((v : Value) (y : FlatState) → ReachesOutcome (ahead v y) (follow v y) frames)
      → ReachesOutcome (then_on (listed limit vs z) frames ahead) (make_list limit vs z follow) frames
  lists limit [] z ahead c = c nil z
  lists limit (v ∷ vs) z {frames} ahead {follow} c =
      subst (λ m. ReachesOutcome m (make_list limit (v ∷ vs) z follow) frames) (then_after (listed limit vs z) (λ tail after. made limit 2 0 (cons v tail) after) frames ahead)
      (lists limit vs z (λ tail after. then_on (made limit 2 0 (cons v tail) after) frames ahead) (λ tail after. makes limit 2 0 (cons v tail) after ahead c))

  -- the words of a method's record, and of boxes
  pub records : (limit : Limit) (called : Option Called) (keeps : Bool) (z : FlatState) {frames : List ContinuationFrame} (ahead : Value → FlatState → Configuration) {follow : FlatState → FlatEvaluated}
      → ((v : Value) (y : FlatState) → ReachesOutcome (ahead v y) (follow y) frames)
      → ReachesOutcome (then_on (recorded limit called keeps z) frames ahead) (with_record limit called keeps z follow) frames
  records limit None keeps z ahead c = c nil z
  records limit (Some called) false z ahead c = c nil z
  records limit (Some called) true z ahead {follow} c =
      let size : ℕ = 2 + length called.arguments in
      let entered : FlatState = on_state (λ y. with_words size 0 y) z in
      room (has_room limit (z.state.heap + z.state.stack + size + 0)) (gives nil (charged size entered)) (follow (charged size entered)) z
      (size + 0) (room_left limit (z.state.heap + z.state.stack)) ahead (c nil (charged size entered))

  pub boxes : (limit : Limit) (hs : List Home) (z : FlatState) {frames : List ContinuationFrame} (ahead : Value → FlatState → Configuration) {follow : FlatState → FlatEvaluated}
      → ((v : Value) (y : FlatState) → ReachesOutcome (ahead v y) (follow y) frames)
      → ReachesOutcome (then_on (boxes_requested limit hs z) frames ahead) (with_boxes limit hs z follow) frames
  boxes limit [] z ahead c = c nil z
  boxes limit (home.Slot ∷ hs) z ahead c = boxes limit hs z ahead c
  boxes limit (home.Boxed ∷ hs) z {frames} ahead {follow} c =
      let entered : FlatState = charged 1 (on_state (λ y. with_words 1 0 y) z) in
      room (has_room limit (z.state.heap + z.state.stack + 1 + 0)) (boxes_requested limit hs entered) (with_boxes limit hs entered follow) z
      (1 + 0) (room_left limit (z.state.heap + z.state.stack)) ahead (boxes limit hs entered ahead c)

  -- units counted, none and twice
  uncharged : (z : FlatState) → charged 0 z ≡ z
  uncharged z = let e : z.state.units + 0 ≡ z.state.units = omega arith in ap (λ n. on_state (λ y. record y { units = n }) z) e

  charged_both : (a b : ℕ) (z : FlatState) → charged b (charged a z) ≡ charged (a + b) z
  charged_both a b z =
      let e : z.state.units + a + b ≡ z.state.units + (a + b) = omega arith in ap (λ n. on_state (λ y. record y { units = n }) z) e

  -- a search
  pub searching : {X : Type 0} (p : X → Bool) (found : X → Transition) (otherwise : Transition) {found' : X → FlatState → FlatEvaluated} {otherwise' : FlatState → FlatEvaluated}
      {frames : List ContinuationFrame} → ((x : X) (z : FlatState) → ReachesOutcome (found x frames z) (found' x z) frames) → ((z : FlatState) → ReachesOutcome (otherwise frames z) (otherwise' z) frames)
      → (xs : List X) (z : FlatState) → ReachesOutcome (searched p found otherwise xs frames z) (flat_signals.search p found' otherwise' xs z) frames
  searching p found otherwise {found'} {otherwise'} {frames} f o [] z =
      let e : charged 0 z ≡ z = uncharged z in
      subst (λ y. ReachesOutcome (otherwise frames (charged 0 z)) (otherwise' y) frames) e (o (charged 0 z))
  searching p found otherwise {found'} {otherwise'} {frames} f o (x ∷ xs) z =
      at (p x) (searching p found otherwise f o xs (charged 1 z))
    where
      at : (b : Bool) → ReachesOutcome (searched p found otherwise xs frames (charged 1 z)) (flat_signals.search p found' otherwise' xs (charged 1 z)) frames
          → ReachesOutcome (some_or (if b then Some x else first_that p xs) otherwise found frames (charged (if b then 1 else 1 + passed p xs) z))
          (if b then found' x (charged 1 z) else flat_signals.search p found' otherwise' xs (charged 1 z)) frames
      at true rest = f x (charged 1 z)
      at false rest =
          subst (λ y. ReachesOutcome (some_or (first_that p xs) otherwise found frames y) (flat_signals.search p found' otherwise' xs (charged 1 z)) frames)
          (charged_both 1 (passed p xs) z) rest

  -- what stands there, if something does
  pub some : {X : Type 0} (o : Option X) (otherwise : Transition) (ahead : X → Transition) {around : DynamicContext} (otherwise' : FlatAct) (follow : X → FlatAct) {frames : List ContinuationFrame} {z : FlatState}
      → ReachesOutcome (otherwise frames z) (otherwise' around z) frames → ((x : X) → ReachesOutcome (ahead x frames z) (follow x around z) frames)
      → ReachesOutcome (some_or o otherwise ahead frames z) (flat_signals.with_some o otherwise' follow around z) frames
  some None otherwise ahead otherwise' follow x c = x
  some (Some a) otherwise ahead otherwise' follow x c = c a
