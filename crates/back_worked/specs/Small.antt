-- Programs written out by hand: what they mean, and how the runs of their code end. Their values are integers, so no object has to stand
-- before the first form but the functions that they name.
use Rattle.std.specs.Prelude.{◌≡◌, ℕ, ◌+◌, ◌*◌, ℤ, pos, true, false, nat_le, List, [], ◌∷◌, ◌++◌, Option, Some, None, length, map, replicate}
use Rattle.base.specs.Data as datum
use Rattle.lang_meaning.specs.declared.primitive.Primitive.TheVariants as p
use Rattle.lang_meaning.specs.declared.program.Callee.TheVariants as callee
use Rattle.lang_meaning.specs.declared.program.LiteralRow.{LiteralRow}
use Rattle.lang_meaning.specs.declared.program.LiteralRow.TheVariants as row
use Rattle.lang_meaning.specs.Values.{integer}
use Rattle.lang_meaning.specs.State.{unlimited, no_place}
use Rattle.lang_meaning.specs.Counts.{bound}
use Rattle.lang_meaning.specs.Meaning.{ended_value}
use Rattle.flat_language.specs.declared.place.Home.{Home}
use Rattle.flat_language.specs.declared.place.Home.TheVariants.{Slot, Boxed}
use Rattle.flat_language.specs.declared.place.CapturedKind.TheVariants as kind
use Rattle.flat_language.specs.declared.place.VariablePlace.TheVariants as variable
use Rattle.flat_language.specs.declared.place.ExitPlace.TheVariants as exit_place
use Rattle.flat_language.specs.declared.place.FlatCapture.TheVariants as part
use Rattle.flat_language.specs.declared.program.FlatProcedure.{FlatProcedure}
use Rattle.flat_language.specs.declared.program.FlatProgram.{FlatProgram}
use Rattle.flat_language.specs.FlatForm.{FlatForm, literal, local, set_local, clauses, sequence, let_form, make_function, call, call_value, prim, while_form, block, return_from, tagbody, go, catch_form, throw, unwind, dynamic_let, dynamic, def_dynamic, def_global, global}
use Rattle.flat_language.specs.FlatForm.{FlatForms, no_form, form_and, FlatClauses, no_clause, clause_and, FlatBody, no_body, with_body, FlatBindings, no_binding, binding_and, no_dynamic, dynamic_and}
use Rattle.flat_language.specs.FlatMeaning.{flat_meaning}
use Rattle.mid_code.specs.declared.program.MidProgram.{MidProgram}
use Rattle.mid_code.specs.State.{MidState, halts, MidOutcome}
use Rattle.mid_code.specs.Meaning.{runs}
use Rattle.mid_arena.specs.Tags.{unbound_word}
use Rattle.back_lowering.specs.ControlWords.{control_words}
use Rattle.back_lowering.specs.declared.placement.Placement.{Placement}
use Rattle.back_lowering.specs.Program.{lowered, start_number}

-- ---- what the programs are made of

abbrev pub number : ℕ → LiteralRow
number n = row.Datum (datum.item no_place (datum.integer (pos n)))

abbrev pub forms : List FlatForm → FlatForms
forms [] = no_form
forms (f ∷ fs) = form_and f (forms fs)

abbrev pub body : List FlatForm → FlatForm
body fs = sequence (forms fs)

abbrev pub slot : ℕ → FlatForm
slot n = local (variable.Slot n)

-- one thing where a test is true, else another
abbrev pub if_form : (test first second : FlatForm) → FlatForm
if_form test first second = clauses (clause_and test (with_body first) (clause_and second no_body no_clause))

abbrev pub function_of : List Home → FlatForm → FlatProcedure
function_of required f = record { captured = []; required = required; rest = None; keeps_method = false; body = f }

-- the literals are the numbers from 0 to 9; the function of the name n is the procedure n
abbrev pub program_of : List FlatProcedure → List FlatProcedure → List FlatForm → FlatProgram
program_of procedures lambdas main = record {
  literals = map number (0 ∷ 1 ∷ 2 ∷ 3 ∷ 4 ∷ 5 ∷ 6 ∷ 7 ∷ 8 ∷ 9 ∷ []);
  procedures = procedures;
  lambdas = lambdas;
  classes = [];
  generics = [];
  functions = record { name = record { 0 = 0 }; callee = callee.Procedure 0 } ∷ record { name = record { 0 = 1 }; callee = callee.Procedure 1 } ∷ [];
  main = main;
  sites = [];
}

abbrev pub names : List (List ℕ)
names = (102 ∷ []) ∷ (103 ∷ []) ∷ (100 ∷ []) ∷ []

-- ---- their arena: the fixed words, of which those code asks for say something; control words; a global and a dynamic variable of each
-- name; and the arities of four functions

abbrev pub fixed_contents : List ℕ
fixed_contents = replicate 36 0 ++ (6 ∷ replicate 9 0)

abbrev pub variable_words : List ℕ
variable_words = replicate 6 unbound_word

abbrev pub laid : List ℕ → List ℕ
laid arities = fixed_contents ++ (replicate control_words 0 ++ (variable_words ++ arities))

abbrev pub placement : FlatProgram → Placement
placement program = record {
  literals = map (λ n. 4 * n) (0 ∷ 1 ∷ 2 ∷ 3 ∷ 4 ∷ 5 ∷ 6 ∷ 7 ∷ 8 ∷ 9 ∷ []);
  symbols = 6 ∷ 6 ∷ 6 ∷ [];
  globals = 220 ∷ 224 ∷ 228 ∷ [];
  dynamics = 232 ∷ 236 ∷ 240 ∷ [];
  procedures = length program.procedures;
  lambdas = length program.lambdas;
  arities = 244;
  generics = 0;
}

abbrev pub state_with : List ℕ → MidState
state_with words = record {
  arena = record {
    memory = map (λ w. Some w) words ++ replicate {A = Option ℕ} 400 None;
    laid_from = 0;
    laid_to = 4 * length words;
    heap_from = 4 * length words;
    heap_to = 4 * length words;
    blocks = [];
  };
  printed = [];
  input = [];
  cost = 0;
}

abbrev pub run_of : FlatProgram → (arities : List ℕ) → (k : ℕ) → MidOutcome
run_of program arities k =
    runs (record { procedures = lowered names (placement program) program; laid = [] }) k 60
    (start_number names (placement program) program) [] (state_with (laid arities))

-- the program's value is a number, its code halts with the word of that number at as many levels, and its cost is within the bound
pub record Halts (program : FlatProgram) (arities : List ℕ) (k n : ℕ) : Type 0 where
  pub meant : (flat_meaning names program [] k unlimited).end ≡ ended_value (integer (pos n))
  pub ends : (run_of program arities k).end ≡ halts (4 * n)
  pub cost : nat_le (run_of program arities k).state.cost (bound (flat_meaning names program [] k unlimited).units) ≡ true

abbrev pub one_form : FlatForm → FlatProgram
one_form f = program_of [] [] (f ∷ [])

-- ---- programs

-- (block b (unwind-protect (return-from b 1) 2))
abbrev pub leaving : FlatProgram
leaving = one_form (block (body (unwind (body (return_from (exit_place.Own 0) (literal 1) ∷ [])) (body (literal 2 ∷ [])) ∷ [])))

-- (let ((n 0)) (while (< n 5) (setq n (+ n 2))) n)
abbrev pub looping : FlatProgram
looping = one_form (let_form (binding_and Slot (literal 0) no_binding) (body (
    while_form (prim p.NumberLess (forms (slot 0 ∷ literal 5 ∷ []))) (body (set_local (variable.Slot 0) (prim p.Add (forms (slot 0 ∷ literal 2 ∷ []))) ∷ []))
    ∷ slot 0 ∷ [])))

-- (defun f (n) (if (< n 2) n (+ (f (- n 1)) (f (- n 2))))) (f 6)
abbrev pub fib_of : FlatForm → FlatForm
fib_of f = call 0 (forms (f ∷ []))

abbrev pub fib : FlatProgram
fib = program_of
    (function_of (Slot ∷ []) (body (if_form (prim p.NumberLess (forms (slot 0 ∷ literal 2 ∷ []))) (slot 0)
    (prim p.Add (forms (fib_of (prim p.Subtract (forms (slot 0 ∷ literal 1 ∷ []))) ∷ fib_of (prim p.Subtract (forms (slot 0 ∷ literal 2 ∷ []))) ∷ []))) ∷ [])) ∷ [])
    [] (fib_of (literal 6) ∷ [])

-- (catch 1 (catch 2 (throw 1 3)) 4)
abbrev pub throwing : FlatProgram
throwing = one_form (catch_form (literal 1) (body (catch_form (literal 2) (body (throw (literal 1) (literal 3) ∷ [])) ∷ literal 4 ∷ [])))

-- (let ((n 0)) (tagbody a (setq n (+ n 1)) (if (< n 4) (go a) n)) n)
abbrev pub going : FlatProgram
going = one_form (let_form (binding_and Slot (literal 0) no_binding) (body (
    tagbody (forms (body [] ∷ body (
    set_local (variable.Slot 0) (prim p.Add (forms (slot 0 ∷ literal 1 ∷ [])))
    ∷ if_form (prim p.NumberLess (forms (slot 0 ∷ literal 4 ∷ []))) (go (exit_place.Own 0) 1) (slot 0) ∷ []) ∷ []))
    ∷ slot 0 ∷ [])))

-- (let ((n 0)) (let ((f (lambda () (setq n (+ n 2))))) (while (< n 5) (funcall f)) n))
abbrev pub counting : FlatProgram
counting = program_of []
    (record {
      captured = kind.Boxed ∷ [];
      required = [];
      rest = None;
      keeps_method = false;
      body = body (set_local (variable.CapturedBox 0) (prim p.Add (forms (local (variable.CapturedBox 0) ∷ literal 2 ∷ []))) ∷ []);
    } ∷ [])
    (let_form (binding_and Boxed (literal 0) no_binding) (body (
    let_form (binding_and Slot (make_function 0 (part.Variable (variable.SlotBox 0) ∷ [])) no_binding) (body (
    while_form (prim p.NumberLess (forms (local (variable.SlotBox 0) ∷ literal 5 ∷ []))) (body (call_value (forms (slot 1 ∷ [])) ∷ []))
    ∷ local (variable.SlotBox 0) ∷ [])) ∷ [])) ∷ [])

-- (defdynamic d 1) (defun f () (dynamic d)) (+ (dynamic-let ((d 2)) (f)) (f))
abbrev pub binding : FlatProgram
binding = program_of (function_of [] (body (dynamic 2 ∷ [])) ∷ []) []
    (def_dynamic 2 (literal 1)
    ∷ prim p.Add (forms (dynamic_let (dynamic_and 2 (literal 2) no_dynamic) (body (call 0 no_form ∷ [])) ∷ call 0 no_form ∷ [])) ∷ [])

-- (defun f (a . r) (+ a (car (cdr r)))) (f 1 2 3)
abbrev pub resting : FlatProgram
resting = program_of
    (record {
      captured = [];
      required = Slot ∷ [];
      rest = Some Slot;
      keeps_method = false;
      body = body (prim p.Add (forms (slot 0 ∷ prim p.Car (forms (prim p.Cdr (forms (slot 1 ∷ [])) ∷ [])) ∷ [])) ∷ []);
    } ∷ [])
    [] (call 0 (forms (literal 1 ∷ literal 2 ∷ literal 3 ∷ [])) ∷ [])
