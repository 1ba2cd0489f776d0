-- A form that begins is charged first; and exits of blocks, tagbodies and catches.
use Rattle.std.proofs.Common.{◌≡◌, ℕ, ◌+◌, ◌-◌, List, [], length, Option, Some, None, Result, OnOk, refl, sym, ap, ◌∙◌, ◌∷◌, map, subst, arith}
use Rattle.std.proofs.lemmas.Result.{on_ok_weaker}
use Rattle.std.specs.Prelude.{slice_get}
use Rattle.flat_language.specs.FlatForm.{FlatForms, FlatBindings, FlatDynamics, FlatForm, local, make_function, sited}
use Rattle.flat_language.specs.declared.place.VariablePlace.TheVariants as place
use Rattle.flat_language.specs.FlatNodes.{own_nodes}
use Rattle.lang_meaning.specs.State.{State}
use Rattle.lang_meaning.specs.State as base
use Rattle.lang_meaning.specs.Lookup.{value_at}
use Rattle.flat_language.specs.FlatState.{FlatEnvironment, FlatState, charged, gives, box_held, box_in, captured_part, make_closure}
use Rattle.flat_language.specs.declared.place.FlatCapture.{FlatCapture}
use Rattle.flat_language.specs.declared.place.FlatCapture.TheVariants as part
use Rattle.eval_machine.specs.Configuration.{Setting, Situation, Operator, ContinuationFrame, ended}
use Rattle.eval_machine.specs.Step.{form_step, arguments_step, bindings_step, dynamics_step}
use Rattle.eval_store.specs.Words.{values_of}
use Rattle.eval_state.specs.declared.machine.Machine.{Machine}
use Rattle.eval_state.specs.declared.situation.Situation.{Situation as Within}
use Rattle.eval_state.specs.View.{StepsTo, at as situation, top, frames, state}
use Rattle.eval_state.proofs.Going.{followed}
use Rattle.eval_control.specs.Begins.{begins}
use Rattle.eval_control.proofs.Leftover.{done}

-- no units
no_units : (z : FlatState) → z ≡ charged 0 z
no_units z = let e : z.state.units ≡ z.state.units + 0 = omega arith in ap (λ u. record z { state = record z.state { units = u } }) e

-- the value in a box does not hang on what was counted
at_box : (o : Option ℕ) (y : State) (n : ℕ) → value_at o (base.charged n y) ≡ value_at o y
at_box None y n = refl
at_box (Some i) y n = refl

-- nor does what is captured
part_same : (env : FlatEnvironment) (z : FlatState) (n : ℕ) (p : FlatCapture) → captured_part env (charged n z) p ≡ captured_part env z p
part_same env z n (part.Variable (place.Slot i)) = refl
part_same env z n w = refl

parts_same : (env : FlatEnvironment) (z : FlatState) (n : ℕ) (ps : List FlatCapture) → map (captured_part env (charged n z)) ps ≡ map (captured_part env z) ps
parts_same env z n [] = refl
parts_same env z n (p ∷ ps) = ap (λ c. c ∷ map (captured_part env (charged n z)) ps) (part_same env z n p) ∙ ap (λ cs. captured_part env z p ∷ cs) (parts_same env z n ps)

pub form_begins : (s : Setting) (f : FlatForm) (at : Situation) (ws : List ContinuationFrame) (z : FlatState) → begins s f at ws (charged (own_nodes f) z) ≡ form_step s f at ws z
form_begins s (local (place.SlotBox n)) at ws z = ap (λ v. ended (gives v (charged 1 z)) ws) (at_box (box_held (slice_get z.frame n)) z.state 1)
form_begins s (local (place.CapturedBox n)) at ws z = ap (λ v. ended (gives v (charged 1 z)) ws) (at_box (box_in (slice_get at.environment.captured n)) z.state 1)
form_begins s (make_function p parts) at ws z =
    ap (λ cs. ended (make_closure s.limit p cs (charged (own_nodes (make_function p parts)) z) (λ v after. gives v after)) ws) (parts_same at.environment z (own_nodes (make_function p parts)) parts)
form_begins s (sited site f) at ws z = ap (begins s (sited site f) at ws) (sym (no_units z))
form_begins s w at ws z = refl

-- the same form
pub begun_as : {T E : Type 0} (r : Result T E) (old new : Machine) (at : Within) (f g : FlatForm) → f ≡ g
    → OnOk r (StepsTo old new (λ names s b. begins s g (situation names old at) (frames names old 0) (state names old b)))
    → OnOk r (StepsTo old new (λ names s b. begins s f (situation names old at) (frames names old 0) (state names old b)))
begun_as r old new at f g e x = subst (λ k. OnOk r (StepsTo old new (λ names s b. begins s k (situation names old at) (frames names old 0) (state names old b)))) (sym e) x

-- no operands
none_on_top : (names : List (List ℕ)) (m : Machine) → top names m 0 ≡ []
none_on_top names m = ap (values_of names) (done m.operands.items (length m.operands.items - 0) (omega arith))

pub arguments_begun : {T E : Type 0} (r : Result T E) (old new : Machine) (at : Within) (o : Operator) (fs : FlatForms)
    → OnOk r (StepsTo old new (λ names s b. arguments_step s o fs (top names old 0) (situation names old at) (frames names old 0) (state names old b)))
    → OnOk r (StepsTo old new (λ names s b. arguments_step s o fs [] (situation names old at) (frames names old 0) (state names old b)))
arguments_begun r old new at o fs x =
    on_ok_weaker r (λ y. followed old new _ _ y (λ names s b. ap (λ vs. arguments_step s o fs vs (situation names old at) (frames names old 0) (state names old b)) (none_on_top names old))) x

pub bindings_begun : {T E : Type 0} (r : Result T E) (old new : Machine) (at : Within) (bs : FlatBindings) (body : FlatForm)
    → OnOk r (StepsTo old new (λ names s b. bindings_step s bs (top names old 0) bs body (situation names old at) (frames names old 0) (state names old b)))
    → OnOk r (StepsTo old new (λ names s b. bindings_step s bs [] bs body (situation names old at) (frames names old 0) (state names old b)))
bindings_begun r old new at bs body x =
    on_ok_weaker r (λ y. followed old new _ _ y (λ names s b. ap (λ vs. bindings_step s bs vs bs body (situation names old at) (frames names old 0) (state names old b)) (none_on_top names old))) x

pub dynamics_begun : {T E : Type 0} (r : Result T E) (old new : Machine) (at : Within) (bs : FlatDynamics) (body : FlatForm)
    → OnOk r (StepsTo old new (λ names s b. dynamics_step s bs (top names old 0) bs body (situation names old at) (frames names old 0) (state names old b)))
    → OnOk r (StepsTo old new (λ names s b. dynamics_step s bs [] bs body (situation names old at) (frames names old 0) (state names old b)))
dynamics_begun r old new at bs body x =
    on_ok_weaker r (λ y. followed old new _ _ y (λ names s b. ap (λ vs. dynamics_step s bs vs bs body (situation names old at) (frames names old 0) (state names old b)) (none_on_top names old))) x
