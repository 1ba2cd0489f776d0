-- **A form that asks for no site means the same at all sites.**
use Rattle.std.proofs.Common.{◌≡◌, ℕ, zero, suc, Bool, true, false, List, [], ◌∷◌, ◌++◌, length, refl, ap, ◌∙◌}
use Rattle.std.specs.Prelude.{◌+◌, ◌||◌, ◌==◌, if◌then◌else◌}
use Rattle.base.specs.declared.place.Place.{Place}
use Rattle.lang_meaning.specs.Values.{Value, nil}
use Rattle.lang_meaning.specs.Meaning.{segment_of, with_turns}
use Rattle.lang_meaning.specs.State.{DynamicContext, Landing, Limit, has_room, room_left, with_words, Outcome, value, exit, full, more, exits_from, block_exit, catch_exit}
use Rattle.flat_language.specs.declared.place.Home.{Home}
use Rattle.flat_language.specs.declared.place.Home.TheVariants as home
use Rattle.flat_language.specs.declared.program.FlatProgram.{FlatProgram}
use Rattle.flat_language.specs.FlatForm.{FlatForm, literal, local, set_local, global, set_global, def_global, clauses, sequence, let_form, make_function, call, call_value, apply, prim, while_form, block, return_from, tagbody, go, catch_form, throw, unwind, dynamic_let, dynamic, set_dynamic, def_dynamic, with_handler, signal_form, continue_form, next_method, has_next, sited}
use Rattle.flat_language.specs.FlatForm.{FlatForms, no_form, form_and, FlatClauses, no_clause, clause_and, FlatBody, no_body, with_body}
use Rattle.flat_language.specs.FlatForm.{FlatBindings, no_binding, binding_and, FlatDynamics, no_dynamic, dynamic_and}
use Rattle.flat_language.specs.FlatMeaning.{mean, mean_sequence, mean_clauses, mean_body, mean_bindings, mean_dynamics, mean_task, turned, unless_nil, from_segment, charged_for, with_exit, binding_homes, none_below, context_of, flat_meaning_at}
use Rattle.flat_language.specs.FlatSignals.{FlatContext, FlatTask, nothing, form, turn, methods, FlatEvaluation, inside, with_boxes}
use Rattle.flat_language.specs.FlatState.{FlatEnvironment, FlatState, FlatEvaluated, FlatAct, go_on, go_on_from, gives, leaves, landed, landed_from, caught, cleaned, cleaned_from, charged, exit_made, with_values, request, on_state, with_slots, without_slots_from}
use Rattle.back_lowering.specs.Sites.{asks_site, forms_ask, clauses_ask, body_asks, bindings_ask, dynamics_ask}
use Rattle.back_relation.specs.Setting.{Setting}
use Rattle.back_relation.specs.Forms.{below_at, context_at}

either : (a b : Bool) → (a || b) ≡ false → (a ≡ false) × (b ≡ false)
either true b h = absurd (cc h)
either false b h = (refl, h)

-- ---- the combinators, of what is the same

go_cong : {r r' : FlatEvaluated} {f g : Value → FlatState → FlatEvaluated} → r ≡ r' → ((v : Value) (z : FlatState) → f v z ≡ g v z) → go_on r f ≡ go_on r' g
go_cong {r} {r'} {f} {g} e h = ap (λ s. go_on s f) e ∙ by r'.outcome r'.state
  where
    by : (o : Outcome) (z : FlatState) → go_on_from o z f ≡ go_on_from o z g
    by (value v) z = h v z
    by (exit x v landing) z = refl
    by (full asked left) z = refl
    by more z = refl

landed_cong :
    {r r' : FlatEvaluated} {f g : Value → Landing → FlatState → FlatEvaluated} (e : ℕ) → r ≡ r' → ((v : Value) (l : Landing) (z : FlatState) → f v l z ≡ g v l z) → landed e f r ≡ landed e g r'
landed_cong {r} {r'} {f} {g} e same h = ap (λ s. landed e f s) same ∙ by r'.outcome r'.state
  where
    by : (o : Outcome) (z : FlatState) → landed_from e f o z ≡ landed_from e g o z
    by (value v) z = refl
    by (exit x v landing) z = ap (λ u. if x == e then u else record { outcome = exit x v landing; state = z }) (h v landing z)
    by (full asked left) z = refl
    by more z = refl

boxes_cong : (limit : Limit) (hs : List Home) (z : FlatState) {f g : FlatState → FlatEvaluated} → ((x : FlatState) → f x ≡ g x) → with_boxes limit hs z f ≡ with_boxes limit hs z g
boxes_cong limit [] z h = h z
boxes_cong limit (home.Slot ∷ hs) z h = boxes_cong limit hs z h
boxes_cong limit (home.Boxed ∷ hs) z {f} {g} h = request_cong (λ entered. boxes_cong limit hs (charged 1 entered) h)
  where
    request_cong : {a b : FlatState → FlatEvaluated} → ((x : FlatState) → a x ≡ b x) → request limit 1 0 z a ≡ request limit 1 0 z b
    request_cong {a} {b} k =
        ap
        (λ u.
        if has_room limit (z.state.heap + z.state.stack + 1 + 0) then u
        else record { outcome = full (1 + 0) (room_left limit (z.state.heap + z.state.stack)); state = z })
        (k (on_state (λ y. with_words 1 0 y) z))

-- a task that asks for no site
abbrev asks_task : FlatTask → Bool
asks_task nothing = false
asks_task (form f) = asks_site f
asks_task (turn e rest all) = forms_ask rest || forms_ask all
asks_task (methods c vs) = true

segments_ask : (i : ℕ) (fs : FlatForms) → forms_ask fs ≡ false → forms_ask (from_segment i fs) ≡ false
segments_ask zero fs h = h
segments_ask (suc i) no_form h = refl
segments_ask (suc i) (form_and f fs) h = segments_ask i fs (either (asks_site f) (forms_ask fs) h).1

module _ (p : Place) where
  -- at another site
  abbrev at : DynamicContext → DynamicContext
  at around = record around { site = p }

  cleaned_cong : {r r' : FlatEvaluated} {f : FlatAct} (around : DynamicContext) → r ≡ r' → ((a : DynamicContext) (z : FlatState) → f a z ≡ f (at a) z)
      → cleaned f around r ≡ cleaned f (at around) r'
  cleaned_cong {r} {r'} {f} around e h = ap (λ s. cleaned f around s) e ∙ by r'.outcome r'.state
    where
      by : (o : Outcome) (z : FlatState) → cleaned_from f around o z ≡ cleaned_from f (at around) o z
      by (value v) z = ap (λ s. go_on s (λ w after. gives v after)) (h around z)
      by (exit e v landing) z = ap (λ s. go_on s (λ w after. leaves e v landing after)) (h (record around { exits = exits_from e around.exits }) z)
      by (full asked left) z = refl
      by more z = refl

  abbrev SameBelow : (FlatTask → FlatEvaluation) → Type 0
  SameBelow below = (task : FlatTask) → asks_task task ≡ false → (env : FlatEnvironment) (around : DynamicContext) (z : FlatState) → below task env around z ≡ below task env (at around) z

  module _ (c : FlatContext) (same : SameBelow c.below) where
    turned_same :
        (e : ℕ) (all : FlatForms) (env : FlatEnvironment) (around : DynamicContext) {r r' : FlatEvaluated} → forms_ask all ≡ false → r ≡ r' → turned c e all env around r ≡ turned c e all env (at around) r'
    turned_same e all env around h k =
        landed_cong e (ap (λ s. go_on s (λ v after. gives nil after)) k)
        (λ v landing z.
        same (turn e (from_segment (segment_of landing) all) all) (ap (λ b. b || forms_ask all) (segments_ask (segment_of landing) all h) ∙ h) env around z)

    mutual
      unfolding mean

      pub mean_same : (f : FlatForm) → asks_site f ≡ false → (env : FlatEnvironment) (around : DynamicContext) (z : FlatState) → mean c f env around z ≡ mean c f env (at around) z
      mean_same (literal i) h env around z = absurd (cc h)
      mean_same (local x) h env around z = refl
      mean_same (set_local x f) h env around z = go_cong (mean_same f h env around (charged_for (set_local x f) z)) (λ v after. refl)
      mean_same (global n) h env around z = absurd (cc h)
      mean_same (set_global n f) h env around z = absurd (cc h)
      mean_same (def_global n f) h env around z = go_cong (mean_same f h env around (charged_for (def_global n f) z)) (λ v after. refl)
      mean_same (clauses cs) h env around z = clauses_same cs h env around (charged_for (clauses cs) z)
      mean_same (sequence fs) h env around z = sequence_same nil fs h env around (charged_for (sequence fs) z)
      mean_same (let_form bs body) h env around z =
          let parts = either (bindings_ask bs) (asks_site body) h in
          bindings_same bs [] parts.0 env around (charged_for (let_form bs body) z)
          (λ vs after.
          boxes_cong c.limit (binding_homes bs) after
          (λ ready. ap (λ s. without_slots_from (length ready.frame) s) (mean_same body parts.1 env around (with_slots (binding_homes bs) vs ready))))
      mean_same (make_function x parts) h env around z = refl
      mean_same (call n fs) h env around z = absurd (cc h)
      mean_same (call_value fs) h env around z = absurd (cc h)
      mean_same (apply f list) h env around z = absurd (cc h)
      mean_same (prim which fs) h env around z = absurd (cc h)
      mean_same (while_form test body) h env around z =
          let parts = either (asks_site test) (asks_site body) h in
          go_cong (mean_same test parts.0 env around (charged_for (while_form test body) z))
          (λ v after.
          ap (λ s. unless_nil v s (gives nil after))
          (go_cong (mean_same body parts.1 env around after) (λ ignored again. same (form (while_form test body)) h env around again)))
      mean_same (block body) h env around z =
          ap (λ s. caught z.state.exits s) (mean_same body h (with_exit z env) (inside block_exit around z) (exit_made (charged_for (block body) z)))
      mean_same (return_from x f) h env around z = absurd (cc h)
      mean_same (tagbody segments) h env around z =
          turned_same z.state.exits segments (with_exit z env) around h
          (sequence_same nil segments h (with_exit z env) (with_turns z.state.exits around) (exit_made (charged_for (tagbody segments) z)))
      mean_same (go x segment) h env around z = absurd (cc h)
      mean_same (catch_form tag body) h env around z =
          let parts = either (asks_site tag) (asks_site body) h in
          go_cong (mean_same tag parts.0 env around (charged_for (catch_form tag body) z))
          (λ v after. ap (λ s. caught after.state.exits s) (mean_same body parts.1 env (inside (catch_exit v) around after) (exit_made after)))
      mean_same (throw tag f) h env around z = absurd (cc h)
      mean_same (unwind f cleanup) h env around z =
          let parts = either (asks_site f) (asks_site cleanup) h in
          cleaned_cong around (mean_same f parts.0 env around (charged_for (unwind f cleanup) z)) (λ a x. mean_same cleanup parts.1 env a x)
      mean_same (dynamic_let bs body) h env around z =
          let parts = either (dynamics_ask bs) (asks_site body) h in
          dynamics_same bs [] parts.0 env around (charged_for (dynamic_let bs body) z) (λ vs after. mean_same body parts.1 env _ (with_values vs after))
      mean_same (dynamic n) h env around z = absurd (cc h)
      mean_same (set_dynamic n f) h env around z = absurd (cc h)
      mean_same (def_dynamic n f) h env around z = go_cong (mean_same f h env around (charged_for (def_dynamic n f) z)) (λ v after. refl)
      mean_same (with_handler handler body) h env around z = absurd (cc h)
      mean_same (signal_form condition mark) h env around z = absurd (cc h)
      mean_same (continue_form condition f) h env around z = absurd (cc h)
      mean_same (next_method m) h env around z = absurd (cc h)
      mean_same (has_next m) h env around z = refl
      mean_same (sited site f) h env around z = refl

      sequence_same :
          (last : Value) (fs : FlatForms) → forms_ask fs ≡ false → (env : FlatEnvironment) (around : DynamicContext) (z : FlatState)
          → mean_sequence c last fs env around z ≡ mean_sequence c last fs env (at around) z
      sequence_same last no_form h env around z = refl
      sequence_same last (form_and f fs) h env around z =
          let parts = either (asks_site f) (forms_ask fs) h in go_cong (mean_same f parts.0 env around z) (λ v after. sequence_same v fs parts.1 env around after)

      clauses_same :
          (cs : FlatClauses) → clauses_ask cs ≡ false → (env : FlatEnvironment) (around : DynamicContext) (z : FlatState) → mean_clauses c cs env around z ≡ mean_clauses c cs env (at around) z
      clauses_same no_clause h env around z = refl
      clauses_same (clause_and test body cs) h env around z =
          let parts = either (asks_site test) (body_asks body || clauses_ask cs) h in
          let more_parts = either (body_asks body) (clauses_ask cs) parts.1 in
          go_cong (mean_same test parts.0 env around z)
          (λ v after.
          ap (λ s. unless_nil v s (mean_clauses c cs env around after)) (body_same v body more_parts.0 env around after)
          ∙ ap (λ s. unless_nil v (mean_body c v body env (at around) after) s) (clauses_same cs more_parts.1 env around after))

      body_same :
          (v : Value) (b : FlatBody) → body_asks b ≡ false → (env : FlatEnvironment) (around : DynamicContext) (z : FlatState) → mean_body c v b env around z ≡ mean_body c v b env (at around) z
      body_same v no_body h env around z = refl
      body_same v (with_body f) h env around z = mean_same f h env around z

      bindings_same :
          (bs : FlatBindings) (vs : List Value) → bindings_ask bs ≡ false → (env : FlatEnvironment) (around : DynamicContext) (z : FlatState) {f g : List Value → FlatState → FlatEvaluated}
          → ((us : List Value) (x : FlatState) → f us x ≡ g us x) → mean_bindings c bs vs env around z f ≡ mean_bindings c bs vs env (at around) z g
      bindings_same no_binding vs h env around z k = k vs z
      bindings_same (binding_and x f bs) vs h env around z k =
          let parts = either (asks_site f) (bindings_ask bs) h in
          go_cong (mean_same f parts.0 env around z) (λ v after. bindings_same bs (vs ++ v ∷ []) parts.1 env around after k)

      dynamics_same :
          (bs : FlatDynamics) (vs : List Value) → dynamics_ask bs ≡ false → (env : FlatEnvironment) (around : DynamicContext) (z : FlatState) {f g : List Value → FlatState → FlatEvaluated}
          → ((us : List Value) (x : FlatState) → f us x ≡ g us x) → mean_dynamics c bs vs env around z f ≡ mean_dynamics c bs vs env (at around) z g
      dynamics_same no_dynamic vs h env around z k = k vs z
      dynamics_same (dynamic_and n f bs) vs h env around z k =
          let parts = either (asks_site f) (dynamics_ask bs) h in
          go_cong (mean_same f parts.0 env around z) (λ v after. dynamics_same bs (vs ++ v ∷ []) parts.1 env around after k)

    task_same : (task : FlatTask) → asks_task task ≡ false → (env : FlatEnvironment) (around : DynamicContext) (z : FlatState) → mean_task c task env around z ≡ mean_task c task env (at around) z
    task_same nothing h env around z = refl
    task_same (form f) h env around z = mean_same f h env around z
    task_same (turn e rest all) h env around z =
        let parts = either (forms_ask rest) (forms_ask all) h in
        turned_same e all env around parts.1 (sequence_same nil rest parts.0 env (with_turns e around) z)
    task_same (methods chain vs) h env around z = absurd (cc h)

  -- at every level
  levels_same : (names : List (List ℕ)) (program : FlatProgram) (limit : Limit) (k : ℕ) → SameBelow (flat_meaning_at names program limit k)
  unfolding flat_meaning_at
  levels_same names program limit zero task h env around z = task_same (context_of names program limit none_below) (λ t a e d x. refl) task h env around z
  levels_same names program limit (suc k) task h env around z =
      task_same (context_of names program limit (flat_meaning_at names program limit k)) (levels_same names program limit k) task h env around z

  below_same : (setting : Setting) (k : ℕ) → SameBelow (below_at setting k)
  below_same setting zero task h env around z = refl
  below_same setting (suc k) task h env around z = levels_same setting.names setting.program setting.limit k task h env around z

-- **at all sites**
pub means_at_all_sites :
    (setting : Setting) (k : ℕ) (f : FlatForm) (p : Place) → asks_site f ≡ false → (env : FlatEnvironment) (around : DynamicContext) (z : FlatState)
    → mean (context_at setting k) f env around z ≡ mean (context_at setting k) f env (record around { site = p }) z
means_at_all_sites setting k f p h env around z = mean_same p (context_at setting k) (below_same p setting k) f h env around z
