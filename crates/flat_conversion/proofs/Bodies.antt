-- Bodies in which new variables are bound, and procedures.
use Rattle.std.proofs.Common.{◌≡◌, ◌≤◌, ℕ, suc, ◌+◌, List, [], ◌∷◌, ◌++◌, refl, sym, ap, ◌∙◌, Option, Some, None, length, take, drop, arith, append_assoc, length-append}
use Rattle.std.specs.Prelude.{slice_get, slice_set, option_to_list, option_map, Bool, Result, Ok, Err, IfOk}
use Rattle.std.proofs.Math.ListN.{length-set}
use Rattle.std.proofs.Math.Seq.{set-append_seam, drop-append_seam}
use Rattle.lang_meaning.specs.Form.{Form, parameters}
use Rattle.lang_meaning.specs.Meaning.{bound_variables}
use Rattle.lang_meaning.specs.declared.core_form.Binding.{Binding}
use Rattle.lang_meaning.specs.model.View.{bindings_of}
use Rattle.flat_language.specs.declared.program.FlatProcedure.{FlatProcedure}
use Rattle.flat_language.specs.Scope.{Scope, home_of, homes_of, in_slots, with_bound}
use Rattle.flat_language.specs.Flatten.{home_of_rest}
use Rattle.flat_conversion.specs.declared.places.Places.{Places}
use Rattle.flat_conversion.specs.declared.variables.NewVariable.{NewVariable}
use Rattle.flat_conversion.specs.NewVariables.{new_variable, new_variables, known_in_slot, homes_of_new, slots_of, with_new}
use Rattle.lang_meaning.specs.declared.capture.Capture.{Capture}
use Rattle.lang_meaning.specs.Form.{BindingForms, let_form}
use Rattle.flat_language.specs.declared.place.CapturedKind.{CapturedKind}
use Rattle.flat_language.specs.declared.place.Home.{Home}
use Rattle.flat_language.specs.FlatForm.{FlatForm, FlatBindings}
use Rattle.flat_language.specs.FlatForm as form
use Rattle.flat_language.specs.declared.flat_core.FlatCoreForm.{FlatCoreForm}
use Rattle.flat_language.specs.model.View.{view_form}
use Rattle.base.specs.declared.faults.NoMemory.{NoMemory}
use Rattle.flat_language.specs.Scope.{kinds_of, seen}
use Rattle.flat_language.specs.Flatten.{flat, flat_bindings, flat_procedure, body_scope, functions_of_values, inner_procedures, procedures_of_values}
use Rattle.flat_language.specs.bridge.Counted.{values_counted}
use Rattle.flat_conversion.specs.declared.progress.Progress.{Progress}
use Rattle.flat_conversion.specs.declared.variables.Binder.{Binder}
use Rattle.flat_conversion.specs.Binders.{binder, binders, binders_of_values}
use Rattle.flat_conversion.specs.NewVariables.{home_or_slot}
use Rattle.flat_conversion.specs.Makes.{MakesSo, MakesForm, MakesInside, MakesValues, MakesLet, MakesFunction, MakesProcedure}
use Rattle.flat_conversion.specs.Places.{scope_of, places_with}
use Rattle.flat_conversion.specs.Progress.{ComesNext}
use Rattle.flat_conversion.proofs.Made.{viewed, both_so, passed, formed}
use Rattle.flat_conversion.proofs.Turns.{item}

slots_same : (vs : List ℕ) (body : Form) (n : ℕ) → slots_of (new_variables vs body) n ≡ in_slots vs body n
slots_same [] body n = refl
slots_same (v ∷ vs) body n = ap (λ ys. (v, known_in_slot (new_variable body v) n) ∷ ys) (slots_same vs body (n + 1))

pub as_many : (vs : List ℕ) (body : Form) → length (new_variables vs body) ≡ length vs
as_many [] body = refl
as_many (v ∷ vs) body = ap (λ n. suc n) (as_many vs body)

-- the scope in which they are bound is that of the translation
pub same_scope : (vs : List ℕ) (body : Form) (s : Scope) → with_new (new_variables vs body) s ≡ with_bound vs body s
same_scope vs body s =
    ap (λ ys. record s { variables = ys ++ s.variables; slots = s.slots + length (new_variables vs body) }) (slots_same vs body s.slots)
    ∙ ap (λ n. record s { variables = in_slots vs body s.slots ++ s.variables; slots = s.slots + n }) (as_many vs body)

pub length_slots : (xs : List NewVariable) (n : ℕ) → length (slots_of xs n) ≡ length xs
length_slots [] n = refl
length_slots (x ∷ xs) n = ap (λ k. suc k) (length_slots xs (n + 1))

-- new variables, released
pub released : (xs : List NewVariable) (p : Places) → drop (length xs) (slots_of xs p.slots ++ p.variables) ≡ p.variables
released xs p =
    ap (λ n. drop n (slots_of xs p.slots ++ p.variables)) (sym (length_slots xs p.slots)) ∙ drop-append_seam (slots_of xs p.slots) p.variables

pub enough_bound : (xs : List NewVariable) (p : Places) → length xs ≤ length (slots_of xs p.slots ++ p.variables)
enough_bound xs p = omega (arith, length-append (slots_of xs p.slots) p.variables, length_slots xs p.slots)

-- the homes of a function's variables
pub required_homes : (required more : List ℕ) (body : Form) → take (length required) (homes_of_new (new_variables (required ++ more) body)) ≡ homes_of required body
required_homes [] more body = refl
required_homes (v ∷ vs) more body = ap (λ ys. home_of v body ∷ ys) (required_homes vs more body)

rest_first : (rest : Option ℕ) (body : Form) → slice_get (homes_of_new (new_variables (option_to_list rest) body)) 0 ≡ home_of_rest rest body
rest_first None body = refl
rest_first (Some v) body = refl

pub rest_home : (required : List ℕ) (rest : Option ℕ) (body : Form) → slice_get (homes_of_new (new_variables (parameters required rest) body)) (length required) ≡ home_of_rest rest body
rest_home [] rest body = rest_first rest body
rest_home (v ∷ vs) rest body = rest_home vs rest body

-- a procedure in the place that was reserved for it
pub replaced : (xs : List FlatProcedure) (r p : FlatProcedure) (ys : List FlatProcedure) → slice_set ((xs ++ r ∷ []) ++ ys) (length xs) p ≡ xs ++ p ∷ ys
replaced xs r p ys = ap (λ zs. slice_set zs (length xs) p) (append_assoc xs (r ∷ []) ys) ∙ set-append_seam xs r ys p

pub put_back : (xs : List FlatProcedure) (r p : FlatProcedure) (ys more all now : List FlatProcedure) (number : ℕ)
    → more ≡ xs ++ r ∷ [] → all ≡ more ++ ys → now ≡ slice_set all number p → number ≡ length xs → now ≡ xs ++ p ∷ ys
put_back xs r p ys more all now number e f g h =
    g ∙ ap (λ k. slice_set all k p) h ∙ ap (λ zs. slice_set zs (length xs) p) (f ∙ ap (λ zs. zs ++ ys) e) ∙ replaced xs r p ys

-- where the variable of a binding lives
pub home_found : (xs : List Binding) (body : Form) (news : List NewVariable) → news ≡ new_variables (bound_variables (bindings_of xs)) body
    → (at : ℕ) (b : Binding) → slice_get xs at ≡ Some b → home_or_slot (slice_get (homes_of_new news) at) ≡ home_of b.var body
home_found xs body news e at b h =
    ap (λ ys. home_or_slot (slice_get (homes_of_new ys) at)) e
    ∙ ap home_or_slot
    (item (λ bs. homes_of_new (new_variables (bound_variables (bindings_of bs)) body)) (λ (y : Binding). home_of y.var body) refl (λ y ys. refl) xs at
    ∙ ap (option_map (λ (y : Binding). home_of y.var body)) h)

-- a body in which new variables are bound
pub inside_made : (news : List NewVariable) (body : Form) (table : List Binder) (p q r t : Places) (before after : Progress) (made : FlatForm) (count : ℕ)
    → q ≡ places_with news p → count ≡ length news → t ≡ (let left : Places = record r { variables = drop count r.variables; slots = p.slots } in left)
    → MakesForm body table q r before after made → MakesInside news body table p t before after made
inside_made news body table p q r t before after made count bound counted gone g = record {
  same =
      gone
      ∙ ap (λ (w : Places). let left : Places = record w { variables = drop count w.variables; slots = p.slots } in left) (g.same ∙ bound)
      ∙ ap (λ n. let left : Places = record p { variables = drop n (slots_of news p.slots ++ p.variables) } in left) counted
      ∙ ap (λ vs. let left : Places = record p { variables = vs } in left) (released news p);
  longer = g.longer;
  so = λ rest e.
      viewed (λ y. y) (λ n. flat (scope_of q) n body) (λ n. inner_procedures (scope_of q) n body) (λ n. flat (with_new news (scope_of p)) n body) (λ n. inner_procedures (with_new news (scope_of p)) n body)
      table before after made rest (λ n. ap (λ w. flat (scope_of w) n body) bound) (λ n. ap (λ w. inner_procedures (scope_of w) n body) bound) (g.so rest e);
}

-- a body whose new variables are known
pub known_inside : (vs : List ℕ) (news : List NewVariable) (body : Form) (table : List Binder) (p q r : Places) (before after : Progress) (made : FlatForm)
    → q ≡ p → news ≡ new_variables vs body → MakesInside news body table q r before after made
    → (rest : List Binder) → drop before.binders table ≡ binders body rest
    → MakesSo (λ n. flat (with_bound vs body (scope_of p)) n body) (λ n. inner_procedures (with_bound vs body (scope_of p)) n body) table before after made rest
known_inside vs news body table p q r before after made same are g = λ rest e.
    let t : with_new news (scope_of q) ≡ with_bound vs body (scope_of p) =
    ap (λ w. with_new news (scope_of w)) same ∙ ap (λ ns. with_new ns (scope_of p)) are ∙ same_scope vs body (scope_of p) in
    viewed (λ y. y) (λ n. flat (with_new news (scope_of q)) n body) (λ n. inner_procedures (with_new news (scope_of q)) n body) (λ n. flat (with_bound vs body (scope_of p)) n body) (λ n. inner_procedures (with_bound vs body (scope_of p)) n body)
    table before after made rest (λ n. ap (λ w. flat w n body) t) (λ n. ap (λ w. inner_procedures w n body) t) (g.so rest e)

-- bindings and their body
pub let_made : (bs : BindingForms) (body : Form) (table : List Binder) (p q r : Places) (before next between after : Progress) (own : Binder) (made : FlatBindings) (more : FlatForm)
    → ComesNext table before next own → MakesValues own.variables bs table p q next between made → MakesInside own.variables body table q r between after more
    → MakesLet bs body table p r before after (made, more)
let_made bs body table p q r before next between after own made more comes values inside = record {
  same = inside.same ∙ values.same;
  longer = omega (arith, ap length comes.lambdas, values.longer, inside.longer);
  so = λ rest e.
      let s = scope_of p in
      let vs = bound_variables bs in
      let n = comes.so (binder vs body) (binders_of_values bs (binders body rest)) e in
      let are : own.variables ≡ new_variables vs body = ap (λ (b : Binder). b.variables) n.0 in
      let a = values.so body are (binders body rest) n.1 in
      passed (λ n. (flat_bindings s n body bs, flat (with_bound vs body s) (n + functions_of_values bs) body)) (λ n. procedures_of_values s n bs ++ inner_procedures (with_bound vs body s) (n + functions_of_values bs) body) table before next after (made, more) rest comes.lambdas
      (both_so (λ n. flat_bindings s n body bs) (λ n. procedures_of_values s n bs) (λ n. flat (with_bound vs body s) n body) (λ n. inner_procedures (with_bound vs body s) n body) (functions_of_values bs) table next between after made more (binders body rest) rest
      (λ n. values_counted s n bs) a (known_inside vs own.variables body table p q r between after more values.same are inside rest a.left_so));
}

-- the form of them, where it is made at all
pub let_form_made : (bs : BindingForms) (body : Form) (table : List Binder) (p q : Places) (before after : Progress) (made : FlatBindings) (more : FlatForm) (r : Result FlatCoreForm NoMemory)
    → IfOk r (λ m. view_form m ≡ form.let_form made more) → MakesLet bs body table p q before after (made, more) → IfOk r (λ m. MakesForm (let_form bs body) table p q before after (view_form m))
unfolding flat
let_form_made bs body table p q before after made more (Ok m) e g =
    formed (let_form bs body) (λ (m : FlatBindings × FlatForm). form.let_form m.0 m.1) _ _ _ _ _ _ _ _ _ _ g e (record { same = λ n. refl; alike = λ n. refl; ahead = λ rest. refl })
let_form_made bs body table p q before after made more (Err x) e g = tt

-- a procedure
abbrev a_procedure : List CapturedKind → List Home → Option Home → Bool → FlatForm → FlatProcedure
a_procedure captured required rest keeps body =
    record { captured = captured; required = required; rest = rest; keeps_method = keeps; body = body }

pub procedure_made : (captured : List CapturedKind) (required : List ℕ) (rest : Option ℕ) (body : Form) (table : List Binder) (p q : Places) (before next after : Progress) (own : Binder) (count other : ℕ) (homes : List Home) (home : Option Home) (made : FlatForm)
    → ComesNext table before next own → count ≡ length required → other ≡ length required → homes ≡ take count (homes_of_new own.variables) → home ≡ slice_get (homes_of_new own.variables) other
    → MakesInside own.variables body table p q next after made
    → MakesProcedure captured required rest body table p q before after (a_procedure captured homes home own.keeps_method made)
procedure_made captured required rest body table p q before next after own count other homes home made comes counted again first last inside = record {
  same = inside.same;
  longer = omega (arith, ap length comes.lambdas, inside.longer);
  so = λ behind e.
      let s = scope_of p in
      let vs = parameters required rest in
      let n = comes.so (binder vs body) (binders body behind) e in
      let are : own.variables ≡ new_variables vs body = ap (λ (b : Binder). b.variables) n.0 in
      let i = known_inside vs own.variables body table p p q next after made refl are inside behind n.1 in
      let homes_are : homes ≡ homes_of required body =
      first ∙ ap (λ k. take k (homes_of_new own.variables)) counted ∙ ap (λ ns. take (length required) (homes_of_new ns)) are ∙ required_homes required (option_to_list rest) body in
      let home_is : home ≡ home_of_rest rest body =
      last ∙ ap (λ k. slice_get (homes_of_new own.variables) k) again ∙ ap (λ ns. slice_get (homes_of_new ns) (length required)) are ∙ rest_home required rest body in
      let keeps : own.keeps_method ≡ (binder vs body).keeps_method = ap (λ (b : Binder). b.keeps_method) n.0 in
      passed (λ k. flat_procedure s k captured required rest body) (λ k. inner_procedures (body_scope required rest body s) k body) table before next after (a_procedure captured homes home own.keeps_method made) behind comes.lambdas
      (record {
        made_so =
            ap (λ hs. a_procedure captured hs home own.keeps_method made) homes_are
            ∙ ap (λ h. a_procedure captured (homes_of required body) h own.keeps_method made) home_is
            ∙ ap (λ k. a_procedure captured (homes_of required body) (home_of_rest rest body) k made) keeps
            ∙ ap (λ f. a_procedure captured (homes_of required body) (home_of_rest rest body) (binder vs body).keeps_method f) i.made_so;
        inside_so = i.inside_so;
        left_so = i.left_so;
      });
}

-- a function, whose procedure is put in the place that was reserved for it
pub function_made : (kinds : List CapturedKind) (required : List ℕ) (rest : Option ℕ) (body : Form) (parts : List Capture) (table : List Binder) (p q r : Places) (before between after : Progress) (reserved made : FlatProcedure) (pushed all : List FlatProcedure) (number : ℕ)
    → number ≡ length before.lambdas → pushed ≡ before.lambdas ++ reserved ∷ [] → kinds ≡ kinds_of (scope_of p) parts → scope_of q ≡ seen (scope_of p) parts
    → between ≡ (let b : Progress = record before { lambdas = pushed } in b)
    → MakesProcedure kinds required rest body table q r between after made → all ≡ slice_set after.lambdas number made
    → MakesFunction required rest body parts table p p before (let a : Progress = record after { lambdas = all } in a) number
function_made kinds required rest body parts table p q r before between after reserved made pushed all number numbered put are within starts procedure now = record {
  same = refl;
  longer = omega (arith, ap length now, length-set after.lambdas number made, procedure.longer, ap (λ (b : Progress). length b.lambdas) starts, ap length put, length-append before.lambdas (reserved ∷ []));
  so = λ behind e.
      let s = scope_of p in
      let g = procedure.so behind (ap (λ (b : Progress). drop b.binders table) starts ∙ e) in
      let k : length between.lambdas ≡ length before.lambdas + 1 = ap (λ (b : Progress). length b.lambdas) starts ∙ ap length put ∙ length-append before.lambdas (reserved ∷ []) in
      record {
        made_so = numbered;
        inside_so =
            put_back before.lambdas reserved made (inner_procedures (body_scope required rest body (scope_of q)) (length between.lambdas) body) between.lambdas after.lambdas all number
            (ap (λ (b : Progress). b.lambdas) starts ∙ put) g.inside_so now numbered
            ∙ ap (λ x. before.lambdas ++ x ∷ inner_procedures (body_scope required rest body (scope_of q)) (length between.lambdas) body)
            (g.made_so
            ∙ ap (λ ks. flat_procedure (scope_of q) (length between.lambdas) ks required rest body) are
            ∙ ap (λ t. flat_procedure t (length between.lambdas) (kinds_of s parts) required rest body) within
            ∙ ap (λ n. flat_procedure (seen s parts) n (kinds_of s parts) required rest body) k)
            ∙ ap (λ ys. before.lambdas ++ flat_procedure (seen s parts) (length before.lambdas + 1) (kinds_of s parts) required rest body ∷ ys)
            (ap (λ t. inner_procedures (body_scope required rest body t) (length between.lambdas) body) within
            ∙ ap (λ n. inner_procedures (body_scope required rest body (seen s parts)) n body) k);
        left_so = g.left_so;
      };
}
