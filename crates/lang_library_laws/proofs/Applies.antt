-- Applications of procedures: from a body inside its application to what the application gives, and calls of such functions.
use Rattle.std.proofs.Common.{◌≡◌, ◌<◌, ℕ, zero, suc, ◌+◌, Bool, true, false, List, [], ◌∷◌, ◌++◌, is_some, refl, sym, ap, subst, ◌∙◌, Option, Some, None, length, append_assoc, append-nil, add-zero, take, drop, ◌≤◌, slice_get, if◌then◌else◌, arith}
use Rattle.base.specs.declared.datum.Name.{Name}
use Rattle.lang_meaning.specs.declared.program.ProgramRows.{ProgramRows}
use Rattle.lang_meaning.specs.declared.program.Procedure.{Procedure}
use Rattle.lang_meaning.specs.Form.{Form, Forms, parameters, call, call_value}
use Rattle.lang_meaning.specs.Counts.{nodes, application_words}
use Rattle.lang_meaning.specs.Values.{Value, nil, object}
use Rattle.lang_meaning.specs.Objects.{Object, cons, Environment, no_environment, program_error_class}
use Rattle.lang_meaning.specs.State.{State, DynamicContext, Outcome, value, exit, full, more, Evaluated, gives, Limit, charged, go_on, make, stored, with_words, with_stack, in_frame}
use Rattle.lang_meaning.specs.Lookup.{text, numbered, with_variables, with_values}
use Rattle.lang_meaning.specs.Captured.{has_box}
use Rattle.lang_meaning.specs.Literals.{function_row}
use Rattle.lang_meaning.specs.Signals.{Signals, nothing, form, apply_value, takes, with_some, with_boxes, gathered, make_list, enter, apply_procedure, apply_row, apply_callee, signal}
use Rattle.lang_meaning.specs.Meaning.{charged_for, mean, mean_call_value, meaning_at}
use Rattle.lang_library_laws.specs.Lists.{IsListFrom}
use Rattle.lang_library_laws.specs.Applications.{GivesPrinting, GivesKeeping, IsExtended, KeepsPrinting, EndsAs, IsLimited, at_level, IsNamed}
use Rattle.lang_library_laws.specs.ListBodies.{a_procedure}
use Rattle.lang_library_laws.proofs.Frames.{nothing_added, added_more, put_behind, get_last, one_more, at_frame, at_store, Places, numbered_shifted, Setting, at, InFrame, Stays, kept_as, kept_in_frame, Runs, RunsAs, After, ComesPrinting, Comes, a_form}
use Rattle.lang_library_laws.proofs.Evaluates.{requests, without_boxes, Arguments, below_one}
use Rattle.lang_library_laws.proofs.ListsKept.{list_kept, no_shorter}

-- states that keep what was there
pub keeps_itself : {IsPrinted : List ℕ → Type 0} {kept : List Object} (z : State) → IsExtended Object kept z.store → IsPrinted z.printed
    → KeepsPrinting IsPrinted kept z z
keeps_itself {IsPrinted} {kept} z e p = record {
  objects = e;
  variables = nothing_added z.variables;
  printed = p;
  input = refl;
  globals = refl;
  dynamics = refl;
  symbols = refl;
}

pub keeps_both : {IsPrinted First Second : List ℕ → Type 0} {kept also : List Object} {x y z : State} → IsExtended Object kept also
    → KeepsPrinting First kept x y → KeepsPrinting Second also y z → ((text : List ℕ) → Second text → IsPrinted text) → KeepsPrinting IsPrinted kept x z
keeps_both {IsPrinted} {First} {Second} {kept} {also} {x} {y} {z} e a b p = record {
  objects = added_more e b.objects;
  variables = added_more a.variables b.variables;
  printed = p z.printed b.printed;
  input = b.input ∙ a.input;
  globals = b.globals ∙ a.globals;
  dynamics = b.dynamics ∙ a.dynamics;
  symbols = b.symbols ∙ a.symbols;
}

keeps_under : {IsPrinted : List ℕ → Type 0} {kept : List Object} {z after : State} (stack : ℕ) → KeepsPrinting IsPrinted kept z after
    → KeepsPrinting IsPrinted kept z (record after { stack = stack })
keeps_under {IsPrinted} {kept} {z} {after} stack h = record {
  objects = h.objects;
  variables = h.variables;
  printed = h.printed;
  input = h.input;
  globals = h.globals;
  dynamics = h.dynamics;
  symbols = h.symbols;
}

-- the words of the stack are given back
gives_back : {s : Setting} {said : List ℕ} {Q : Value → List Value → List Object → Type 0} (stack : ℕ) (r : Evaluated)
    → Runs s (After s said Q) r → Runs s (After s said Q) (with_stack stack r)
gives_back {s} {said} {Q} stack r h = record { ends = by r.outcome r.state h.ends }
  where
    by : (o : Outcome) (z : State) → RunsAs s (After s said Q) o z → RunsAs s (After s said Q) o (record z { stack = stack })
    by (value v) z g = record { frame = g.frame; store = g.store; holds = g.holds; is = g.is }
    by (exit e v landing) z g = absurd g
    by (full asked left) z g = (g.0, keeps_under stack g.1)
    by more z g = (g.0, keeps_under stack g.1)

-- there is a level
a_level : (names : List (List ℕ)) (program : ProgramRows) (limit : Limit) (k : ℕ) (env : Environment) (around : DynamicContext) (z : State)
    → meaning_at names program limit k nothing env around z ≡ gives nil z
unfolding meaning_at
a_level names program limit zero env around z = refl
a_level names program limit (suc k) env around z = refl

-- a list is made
makes_list : {s : Setting} {said : List ℕ} {frame : List Value} {store : List Object} {Q : Value → State → Type 0} (vs : List Value) (z : State) (next : Value → State → Evaluated)
    → InFrame s said frame store z
    → ((tail : Value) (now : List Object) (after : State) → InFrame s said frame now after → IsListFrom (length store) now tail vs → IsExtended Object store now → Runs s Q (next tail after))
    → Runs s Q (make_list s.limit vs z next)
makes_list {s} {said} {frame} {store} {Q} [] z next h c = c nil store z h refl (nothing_added store)
makes_list {s} {said} {frame} {store} {Q} (v ∷ vs) z next h c =
    makes_list vs z (λ tail after. make s.limit 2 0 (cons v tail) after next) h (λ tail now after g l e.
    let made : Object = cons v tail in
    let grown : IsExtended Object now (now ++ made ∷ []) = put_behind now (made ∷ []) in
    let size : length after.store ≡ length now = ap length g.objects_are in
    requests 2 0 after (λ entered. next (object (length entered.store)) (stored made (charged 2 entered))) (kept_in_frame g)
    (c (object (length after.store)) (now ++ made ∷ []) (stored made (charged 2 (with_words 2 0 after))) (one_more 2 2 made after g) (
      length after.store,
      tail,
      refl,
      subst (λ n. length store ≤ n) (sym size) (no_shorter e),
      subst (λ n. slice_get (now ++ made ∷ []) n ≡ Some made) (sym size) (get_last now made),
      list_kept grown (length store) tail vs l,
    )
    (added_more e grown)))

-- the arguments as the variables' values: as they are, or those behind the required ones in a list
abbrev pub Gathers : List Object → ℕ → Option ℕ → List Value → (ws : List Value) → (now : List Object) → Type 0
Gathers store required None vs ws now = (ws ≡ vs) × (now ≡ store)
Gathers store required (Some rest) vs ws now =
    (tail : Value) × (ws ≡ take required vs ++ tail ∷ []) × IsListFrom (length store) now tail (drop required vs) × IsExtended Object store now

gathers : {s : Setting} {said : List ℕ} {store : List Object} {Q : Value → State → Type 0} (required : ℕ) (rest : Option ℕ) (vs : List Value) (z : State) (next : List Value → State → Evaluated)
    → InFrame s said [] store z
    → ((ws : List Value) (now : List Object) (after : State) → InFrame s said [] now after → Gathers store required rest vs ws now → Runs s Q (next ws after))
    → Runs s Q (gathered s.limit required rest vs z next)
gathers {s} {said} {store} {Q} required None vs z next h c = c vs store z h (refl, refl)
gathers {s} {said} {store} {Q} required (Some rest) vs z next h c =
    makes_list (drop required vs) z (λ tail after. next (take required vs ++ tail ∷ []) after) h (λ tail now after g l e.
    c (take required vs ++ tail ∷ []) now after g (tail, refl, l, e))

-- the setting of an application from a state with so many levels, of which that many are enough, where that may be printed, or
-- nothing is
abbrev pub setting_printing : (List ℕ → Type 0) → List (List ℕ) → ProgramRows → Limit → State → (kept : List Object) → (levels enough : ℕ) → Setting
setting_printing May names program limit z kept levels enough =
    record { names = names; program = program; limit = limit; base = z; kept = kept; short = levels < enough; may = May }

abbrev pub setting : List (List ℕ) → ProgramRows → Limit → State → (kept : List Object) → (levels enough : ℕ) → Setting
setting names program limit z kept levels enough = setting_printing (λ text. text ≡ z.printed) names program limit z kept levels enough

module _ (s : Setting) (said' : List ℕ) (wrong : Signals) (required : List ℕ) (rest : Option ℕ) (body : Form) (vs : List Value)
    (Q : Value → List Value → List Object → Type 0) (k : ℕ) where
  pub enters : IsExtended Object s.kept s.base.store → s.may s.base.printed
      → ((v : ℕ) → has_box v body ≡ false) → takes (length required) (is_some rest) (length vs) ≡ true
      → ((ws : List Value) (now : List Object) → Gathers s.base.store (length required) rest vs ws now
      → ComesPrinting s s.base.printed said' (numbered (parameters required rest) 0) (a_form k body) ws now Q)
      → (around : DynamicContext)
      → Runs s (After s said' Q) (enter (at s (suc k)) wrong required rest body no_environment None vs around s.base)
  enters kept may none count c around =
      let size : ℕ = application_words (nodes body) + length vs in
      let env : Environment = no_environment in
      let vars : List ℕ = parameters required rest in
      let within : List Value → State → Evaluated = λ ws gone.
      with_boxes s.limit vars body gone (λ ready.
      (at s (suc k)).below (form body) (with_variables vars ready env) around (with_values ws ready)) in
      let inside : (z : State) → Evaluated = λ entered. gathered s.limit (length required) rest vs (charged (length vs) entered) within in
      subst (λ (b : Bool). Runs s (After s said' Q) (if b then in_frame s.limit size inside s.base else wrong program_error_class [] around s.base)) (sym count)
      (requests 0 size s.base (λ entered. with_stack s.base.stack (inside entered)) (keeps_itself s.base kept may)
      (gives_back s.base.stack (inside (with_words 0 size s.base))
      (gathers (length required) rest vs (charged (length vs) (with_words 0 size s.base)) within
      (record {
        objects_are = refl;
        extended = kept;
        variables_are = sym (append-nil s.base.variables);
        printed_are = refl;
        may_be = may;
        input_is = refl;
        globals_are = refl;
        dynamics_are = refl;
        symbols_are = refl;
      })
      (λ ws now ready h g.
      let same : ready.variables ≡ s.base.variables = h.variables_are ∙ append-nil s.base.variables in
      subst (λ r. Runs s (After s said' Q) r) (sym (without_boxes s.limit vars body ready (λ ready.
      (at s (suc k)).below (form body) (with_variables vars ready env) around (with_values ws ready)) none))
      ((below_one (c ws now g)).runs (with_variables vars ready env) around (with_values ws ready)
      (append-nil (numbered vars (length ready.variables)) ∙ ap (λ us. numbered vars (length us)) same
      ∙ ap (numbered vars) (sym (add-zero (length s.base.variables))) ∙ numbered_shifted vars (length s.base.variables) 0)
      (record {
        objects_are = h.objects_are;
        extended = h.extended;
        variables_are = ap (λ us. us ++ ws) same;
        printed_are = h.printed_are;
        may_be = h.may_be;
        input_is = h.input_is;
        globals_are = h.globals_are;
        dynamics_are = h.dynamics_are;
        symbols_are = h.symbols_are;
      }))))))

-- what a value inside is outside
outside : {s : Setting} {said' : List ℕ} {P : Value → List Object → Type 0} (r : Evaluated) → Runs s (After s said' (λ v frame store. P v store)) r
    → EndsAs (λ after. IsLimited s.limit × Stays s after) (λ after. s.short × Stays s after)
    (λ v after. KeepsPrinting (λ text. text ≡ said') s.kept s.base after × P v after.store) r.outcome r.state
outside {s} {said'} {P} r h = by r.outcome r.state h.ends
  where
    by : (o : Outcome) (z : State) → RunsAs s (After s said' (λ v frame store. P v store)) o z
        → EndsAs (λ after. IsLimited s.limit × Stays s after) (λ after. s.short × Stays s after)
        (λ v after. KeepsPrinting (λ text. text ≡ said') s.kept s.base after × P v after.store) o z
    by (value v) z g = (kept_as (λ text. text ≡ said') refl g.holds, subst (λ store. P v store) (sym g.holds.objects_are) g.is)
    by (exit e v landing) z g = g
    by (full asked left) z g = g
    by more z g = g

-- a procedure gives what its body comes to from its arguments, one level below
pub applies_printing : (May : List ℕ → Type 0) (printed : List ℕ) (names : List (List ℕ)) (program : ProgramRows) (limit : Limit) (z : State) (kept : List Object)
    (enough : ℕ) (number : ℕ) (name : Option Name) (required : List ℕ) (rest : Option ℕ) (body : Form) (vs : List Value) (P : Value → List Object → Type 0)
    → IsExtended Object kept z.store → May z.printed
    → slice_get program.procedures number ≡ Some (record { name = name; required = required; rest = rest; body = body })
    → ((v : ℕ) → has_box v body ≡ false) → takes (length required) (is_some rest) (length vs) ≡ true
    → ((levels : ℕ) (ws : List Value) (now : List Object) → Gathers z.store (length required) rest vs ws now
    → ComesPrinting (setting_printing May names program limit z kept (suc levels) (suc enough)) z.printed printed (numbered (parameters required rest) 0)
    (a_form levels body) ws now (λ v frame store. P v store))
    → (k : ℕ) (wrong : Signals) (around : DynamicContext)
    → GivesPrinting May printed kept limit k (suc enough) z P (apply_procedure (at_level names program limit k) wrong number None vs around z)
applies_printing May printed names program limit z kept enough number name required rest body vs P e may there none count c zero wrong around =
    (omega arith, keeps_itself z e may)
applies_printing May printed names program limit z kept enough number name required rest body vs P e may there none count c (suc k) wrong around =
    let s : Setting = setting_printing May names program limit z kept (suc k) (suc enough) in
    let r : Evaluated = enter (at s (suc k)) wrong required rest body no_environment None vs around z in
    let a : Runs s (After s printed (λ v frame store. P v store)) r =
    enters s printed wrong required rest body vs (λ v frame store. P v store) k e may none count (c k) around in
    outside (apply_procedure (at_level names program limit (suc k)) wrong number None vs around z)
    (subst (λ r. Runs s (After s printed (λ v frame store. P v store)) (go_on r (λ v after.
    with_some (slice_get program.procedures number) (λ a y. gives nil y)
    (λ p. enter (at s (suc k)) wrong p.required p.rest p.body (record no_environment { method = None }) None vs) around after)))
    (sym (a_level names program limit k no_environment around z))
    (subst (λ o. Runs s (After s printed (λ v frame store. P v store)) (with_some o (λ a y. gives nil y)
    (λ p. enter (at s (suc k)) wrong p.required p.rest p.body (record no_environment { method = None }) None vs) around z))
    (sym there) a))

-- one that prints nothing
pub applies_to : (names : List (List ℕ)) (program : ProgramRows) (limit : Limit) (z : State) (kept : List Object) (enough : ℕ) (number : ℕ)
    (name : Option Name) (required : List ℕ) (rest : Option ℕ) (body : Form) (vs : List Value) (P : Value → List Object → Type 0)
    → IsExtended Object kept z.store
    → slice_get program.procedures number ≡ Some (record { name = name; required = required; rest = rest; body = body })
    → ((v : ℕ) → has_box v body ≡ false) → takes (length required) (is_some rest) (length vs) ≡ true
    → ((levels : ℕ) (ws : List Value) (now : List Object) → Gathers z.store (length required) rest vs ws now
    → Comes (setting names program limit z kept (suc levels) (suc enough)) (numbered (parameters required rest) 0) (a_form levels body) ws now (λ v frame store. P v store))
    → (k : ℕ) (wrong : Signals) (around : DynamicContext)
    → GivesKeeping kept limit k (suc enough) z P (apply_procedure (at_level names program limit k) wrong number None vs around z)
applies_to names program limit z kept enough number name required rest body vs P e there none count c =
    applies_printing (λ text. text ≡ z.printed) z.printed names program limit z kept enough number name required rest body vs P e refl there none count c

-- what holds of more values
pub keeps_more : (kept : List Object) (limit : Limit) (k enough : ℕ) (z : State) (P Q : Value → List Object → Type 0) (r : Evaluated)
    → GivesKeeping kept limit k enough z P r → ((w : Value) (store : List Object) → P w store → Q w store) → GivesKeeping kept limit k enough z Q r
keeps_more kept limit k enough z P Q r g w = by r.outcome r.state g
  where
    by : (o : Outcome) (after : State)
        → EndsAs (λ after. IsLimited limit × KeepsPrinting (λ text. text ≡ z.printed) kept z after)
        (λ after. (k < enough) × KeepsPrinting (λ text. text ≡ z.printed) kept z after)
        (λ v after. KeepsPrinting (λ text. text ≡ z.printed) kept z after × P v after.store) o after
        → EndsAs (λ after. IsLimited limit × KeepsPrinting (λ text. text ≡ z.printed) kept z after)
        (λ after. (k < enough) × KeepsPrinting (λ text. text ≡ z.printed) kept z after)
        (λ v after. KeepsPrinting (λ text. text ≡ z.printed) kept z after × Q v after.store) o after
    by (value v) after g = (g.0, w v after.store g.1)
    by (exit e v landing) after g = g
    by (full asked left) after g = g
    by more after g = g

-- one without a rest variable
pub applies : (names : List (List ℕ)) (program : ProgramRows) (limit : Limit) (z : State) (kept : List Object) (enough : ℕ) (number : ℕ)
    (name : Option Name) (required : List ℕ) (body : Form) (vs : List Value) (P : Value → List Object → Type 0)
    → IsExtended Object kept z.store
    → slice_get program.procedures number ≡ Some (a_procedure name required body)
    → ((v : ℕ) → has_box v body ≡ false) → takes (length required) false (length vs) ≡ true
    → ((levels : ℕ) → Comes (setting names program limit z kept (suc levels) (suc enough)) (numbered (parameters required None) 0) (a_form levels body) vs z.store (λ v frame store. P v store))
    → (k : ℕ) (wrong : Signals) (around : DynamicContext)
    → GivesKeeping kept limit k (suc enough) z P (apply_procedure (at_level names program limit k) wrong number None vs around z)
applies names program limit z kept enough number name required body vs P e there none count c =
    applies_to names program limit z kept enough number name required None body vs P e there none count
    (λ levels ws now g. at_frame g.0 (at_store g.1 (c levels)))

-- what a function gives to whoever calls it, from one printed text to another; what it may print, the caller may
module _ {s : Setting} {said : List ℕ} {k : ℕ} {frame : List Value} {store : List Object} {Q : Value → List Value → List Object → Type 0}
    (May : List ℕ → Type 0) (printed : List ℕ) (fits : (text : List ℕ) → May text → s.may text) (will : s.may printed)
    (P : Value → List Object → Type 0) (enough : ℕ) (short : k < enough → s.short)
    (kept : List Object) (also : IsExtended Object s.kept kept)
    (goes_on : (w : Value) (more : List Value) (now : List Object) → IsExtended Object kept now → P w now → Q w (frame ++ more) now) where
  inside : (z : State) → InFrame s said frame store z → (r : Evaluated) → GivesPrinting May printed kept s.limit k enough z P r → Runs s (After s printed Q) r
  inside z h r g = record { ends = by r.outcome r.state g }
    where
      by : (o : Outcome) (after : State)
          → EndsAs (λ after. IsLimited s.limit × KeepsPrinting May kept z after) (λ after. (k < enough) × KeepsPrinting May kept z after)
          (λ v after. KeepsPrinting (λ text. text ≡ printed) kept z after × P v after.store) o after → RunsAs s (After s printed Q) o after
      by (value v) after g =
          record {
            frame = frame ++ g.0.variables.added;
            store = after.store;
            holds = record {
              objects_are = refl;
              extended = added_more also g.0.objects;
              variables_are = g.0.variables.is ∙ ap (λ vs. vs ++ g.0.variables.added) h.variables_are ∙ append_assoc s.base.variables frame g.0.variables.added;
              printed_are = g.0.printed;
              may_be = will;
              input_is = g.0.input ∙ h.input_is;
              globals_are = g.0.globals ∙ h.globals_are;
              dynamics_are = g.0.dynamics ∙ h.dynamics_are;
              symbols_are = g.0.symbols ∙ h.symbols_are;
            };
            is = goes_on v g.0.variables.added after.store g.0.objects g.1;
          }
      by (exit e v landing) after g = absurd g
      by (full asked left) after g = (g.0, keeps_both also (kept_in_frame h) g.1 fits)
      by more after g = (short g.0, keeps_both also (kept_in_frame h) g.1 fits)

  -- the call of a name, behind its arguments
  pub called_printing : (n : ℕ) (procedure : Procedure) (named : IsNamed s.names s.program n procedure) (vs : List Value)
      → ((z : State) → InFrame s said frame store z → (wrong : Signals) (around : DynamicContext)
      → GivesPrinting May printed kept s.limit k enough z P (apply_procedure (at s k) wrong named.number None vs around z))
      → (around : DynamicContext) (z : State) → InFrame s said frame store z
      → Runs s (After s printed Q) (apply_row (at s k) (signal (at s k)) (text s.names n) (function_row s.names s.program.functions (text s.names n)) vs around z)
  called_printing n procedure named vs g around z h =
      subst (λ o. Runs s (After s printed Q) (apply_row (at s k) (signal (at s k)) (text s.names n) o vs around z)) (sym named.found)
      (subst (λ c. Runs s (After s printed Q) (apply_callee (at s k) (signal (at s k)) c vs around z)) (sym named.callee)
      (inside z h (apply_procedure (at s k) (signal (at s k)) named.number None vs around z) (g z h (signal (at s k)) around)))

  -- the call of a function object, behind its arguments
  pub value_called_printing : (f : Value) (vs : List Value)
      → ((z : State) → InFrame s said frame store z → (around : DynamicContext)
      → GivesPrinting May printed kept s.limit k enough z P (apply_value (at s k) (signal (at s k)) f vs around z))
      → (around : DynamicContext) (z : State) → InFrame s said frame store z → Runs s (After s printed Q) (mean_call_value (at s k) (f ∷ vs) around z)
  value_called_printing f vs g around z h = inside z h (apply_value (at s k) (signal (at s k)) f vs around z) (g z h around)

-- and by one that prints nothing
module _ {s : Setting} {said : List ℕ} {k : ℕ} {frame : List Value} {store : List Object} {Q : Value → List Value → List Object → Type 0}
    (P : Value → List Object → Type 0) (enough : ℕ) (short : k < enough → s.short)
    (kept : List Object) (also : IsExtended Object s.kept kept)
    (goes_on : (w : Value) (more : List Value) (now : List Object) → IsExtended Object kept now → P w now → Q w (frame ++ more) now) where
  pub called : (n : ℕ) (procedure : Procedure) (named : IsNamed s.names s.program n procedure) (vs : List Value)
      → ((z : State) → InFrame s said frame store z → (wrong : Signals) (around : DynamicContext)
      → GivesKeeping kept s.limit k enough z P (apply_procedure (at s k) wrong named.number None vs around z))
      → (around : DynamicContext) (z : State) → InFrame s said frame store z
      → Runs s (After s said Q) (apply_row (at s k) (signal (at s k)) (text s.names n) (function_row s.names s.program.functions (text s.names n)) vs around z)
  called n procedure named vs g around z h =
      called_printing (λ text. text ≡ said) said (λ text e. subst s.may (sym e) h.may_be) h.may_be P enough short kept also goes_on n procedure named vs
      (λ z h wrong around.
      subst (λ said. GivesPrinting (λ text. text ≡ said) said kept s.limit k enough z P (apply_procedure (at s k) wrong named.number None vs around z))
      h.printed_are (g z h wrong around))
      around z h

  pub value_called : (f : Value) (vs : List Value)
      → ((z : State) → InFrame s said frame store z → (around : DynamicContext)
      → GivesKeeping kept s.limit k enough z P (apply_value (at s k) (signal (at s k)) f vs around z))
      → (around : DynamicContext) (z : State) → InFrame s said frame store z → Runs s (After s said Q) (mean_call_value (at s k) (f ∷ vs) around z)
  value_called f vs g around z h =
      value_called_printing (λ text. text ≡ said) said (λ text e. subst s.may (sym e) h.may_be) h.may_be P enough short kept also goes_on f vs
      (λ z h around.
      subst (λ said. GivesPrinting (λ text. text ≡ said) said kept s.limit k enough z P (apply_value (at s k) (signal (at s k)) f vs around z))
      h.printed_are (g z h around))
      around z h

pub comes_call : {s : Setting} {said said' : List ℕ} {places : Places} {k : ℕ} {frame : List Value} {store : List Object} {Q : Value → List Value → List Object → Type 0} {n : ℕ} {fs : Forms}
    → Arguments s said said' places k fs [] frame store (λ around vs after.
    apply_row (at s k) (signal (at s k)) (text s.names n) (function_row s.names s.program.functions (text s.names n)) vs around after) Q
    → ComesPrinting s said said' places (a_form k (call n fs)) frame store Q
unfolding mean
comes_call {s} {said} {said'} {places} {k} {frame} {store} {Q} {n} {fs} c = record { runs = λ env around z e h. c.runs env around (charged_for (call n fs) z) e h }

pub comes_call_value : {s : Setting} {said said' : List ℕ} {places : Places} {k : ℕ} {frame : List Value} {store : List Object} {Q : Value → List Value → List Object → Type 0} {fs : Forms}
    → Arguments s said said' places k fs [] frame store (λ around vs after. mean_call_value (at s k) vs around after) Q
    → ComesPrinting s said said' places (a_form k (call_value fs)) frame store Q
unfolding mean
comes_call_value {s} {said} {said'} {places} {k} {frame} {store} {Q} {fs} c = record { runs = λ env around z e h. c.runs env around (charged_for (call_value fs) z) e h }
