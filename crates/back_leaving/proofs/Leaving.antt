-- Where all stands, functions captured exits that were made, and the exits around were made.
use Rattle.std.proofs.Common.{◌≡◌, ◌≤◌, ℕ, zero, suc, List, [], ◌∷◌, Option, Some, None, length, refl, subst, arith}
use Rattle.std.specs.Prelude.{◌<◌}
use Rattle.std.proofs.lemmas.Option.{slice_get_within}
use Rattle.lang_meaning.specs.declared.scope.ExitForm.{ExitForm}
use Rattle.lang_meaning.specs.Objects.{control_error_class}
use Rattle.lang_meaning.specs.State.{DynamicContext, Exit}
use Rattle.flat_language.specs.FlatSignals.{FlatContext}
use Rattle.flat_language.specs.FlatState.{Captured, of_value, of_box, of_exit, of_method, FlatState}
use Rattle.flat_ends.specs.Leaving.{at_level, CaptureOnly, AreMade, CapturedAreMade, AllMade}
use Rattle.flat_ends.proofs.Leaving.{law_of_sites}
use Rattle.flat_ends.proofs.Final.{law_of_signals_behind}
use Rattle.mid_code.specs.State.{MidState}
use Rattle.back_relation.specs.Setting.{Setting}
use Rattle.back_relation.specs.Worlds.{World, Standing, Links}
use Rattle.back_relation.specs.Things.{AreMadeBy, FunctionStands, MadeFunction, Things}
use Rattle.back_relation.specs.Around.{CallBegins}
use Rattle.back_relation.specs.Forms.{context_at}
use Rattle.back_leaving.specs.Leaving.{LeavesSo, LawOfFunctionsLeave}

-- the exits around were made
links_made : (z : FlatState) (rs : List Standing) (link below : ℕ) (xs : List Exit) (vs : List Standing) → below ≤ z.state.exits → Links rs link below xs vs → AreMade z xs
links_made z rs link below [] vs few h = tt
links_made z rs link below (x ∷ xs) [] few h = absurd h
links_made z rs link below (x ∷ xs) (v ∷ vs) few h =
    let less = h.3 in ((omega (arith, few, less)), links_made z rs v.link x.number xs vs (omega (arith, few, less)) h.4)

-- exits whose form is known were made
parts_made : (w : World) (cs : List Captured) (forms : List (Option ExitForm)) → AreMadeBy w cs forms → CaptureOnly (λ e. e < length w.exit_forms) cs
parts_made w [] forms h n e found = absurd (cc found)
parts_made w (c ∷ cs) [] h n e found = absurd h
parts_made w (of_exit (Some x) ∷ cs) (f ∷ fs) h zero e found =
    subst (λ (i : ℕ). i < length w.exit_forms) (cc found) (slice_get_within w.exit_forms x f h.0)
parts_made w (of_exit None ∷ cs) (f ∷ fs) h zero e found = absurd (cc found)
parts_made w (of_value v ∷ cs) (f ∷ fs) h zero e found = absurd (cc found)
parts_made w (of_box o ∷ cs) (f ∷ fs) h zero e found = absurd (cc found)
parts_made w (of_method o ∷ cs) (f ∷ fs) h zero e found = absurd (cc found)
parts_made w (c ∷ cs) (f ∷ fs) h (suc n) e found = parts_made w cs fs h.1 n e found

captured_made : (setting : Setting) {w : World} {z : FlatState} {y : MidState} → Things setting w z y → CapturedAreMade z
captured_made setting {w} {z} {y} t i cs is n e found =
    let at = t.captured i cs is in
    let made : MadeFunction setting w y.arena at.2 at.0 cs = subst (λ o. FunctionStands setting w y.arena at.2 at.0 o) is (t.functions i at.0 at.2 at.1 at.3) in
    let few = parts_made w cs made.forms made.made_by n e found in
    let count = t.exit_forms in omega (arith, few, count)

all_made : (setting : Setting) {n : ℕ} {rs valid : List Standing} {w : World} {around : DynamicContext} {z : FlatState} {y : MidState} → CallBegins setting rs valid n w around z y
    → AllMade around z
all_made setting {n} {rs} {valid} {w} {around} {z} {y} begins = record {
  some = (let serials = begins.things.serials in let one = serials.2 in omega (arith, one));
  captured = captured_made setting begins.things;
  valid = links_made z rs begins.around_stands.link z.state.exits around.exits valid (omega arith) begins.around_stands.links;
}

-- the same context at every level
same_context : (setting : Setting) (k : ℕ) → at_level setting.names setting.program setting.limit k ≡ context_at setting k
same_context setting zero = refl
same_context setting (suc k) = refl

pub functions_leave_law : LawOfFunctionsLeave
functions_leave_law setting k around n rs valid w z y begins f vs =
    subst (λ (context : FlatContext). LeavesSo context f vs around z) (same_context setting k)
    (record {
      sites = (law_of_sites setting.names setting.program setting.limit k around z).1 f vs;
      never = λ v is. law_of_signals_behind setting.names setting.program setting.limit k around z (all_made setting begins) f vs control_error_class [];
    })
