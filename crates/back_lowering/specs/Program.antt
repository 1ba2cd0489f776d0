-- **The lowered program**: the entries and the bodies of all functions, the procedures of primitives, the routines, the main forms, and the
-- start, which calls them one after another.
use Rattle.std.specs.Prelude.{ℕ, zero, suc, ◌+◌, ◌*◌, ◌||◌, max, min, Bool, true, false, List, [], ◌∷◌, ◌++◌, Option, Some, None, length, map, is_some, if◌then◌else◌}
use Rattle.lang_meaning.specs.model.ShapeCode.{primitive_at}
use Rattle.flat_language.specs.declared.program.FlatProcedure.{FlatProcedure}
use Rattle.flat_language.specs.declared.program.FlatProgram.{FlatProgram}
use Rattle.flat_language.specs.FlatForm.{FlatForm}
use Rattle.flat_language.specs.FlatNodes.{homes}
use Rattle.mid_code.specs.declared.operation.Arithmetic.TheVariants as which
use Rattle.mid_code.specs.declared.operation.Counted.{Counted}
use Rattle.mid_code.specs.declared.operation.Counted.TheVariants.{Level, Turn}
use Rattle.mid_code.specs.declared.program.MidProcedure.{MidProcedure}
use Rattle.mid_code.specs.MidCode.{MidStep, with_block, return_word, halt_with, end_unhandled, code_of}
use Rattle.mid_arena.specs.Tags.{nil_word}
use Rattle.mid_arena.specs.Codes.{procedure_of}
use Rattle.back_lowering.specs.ControlWords.{link_address, landing_address, site_address, end_address, record_serial, record_link, record_words, end_kind}
use Rattle.back_lowering.specs.Scope.{registers_from}
use Rattle.back_lowering.specs.declared.scope.SitePlace.TheVariants.{Known, Held}
use Rattle.back_lowering.specs.declared.scope.Scope.{Scope}
use Rattle.back_lowering.specs.Placement.{functions, primitive_count, routines_from}
use Rattle.back_lowering.specs.declared.placement.Placement.{Placement}
use Rattle.back_lowering.specs.Routines.{level_routine, list_routine, method_routine, routine_count}
use Rattle.back_lowering.specs.Mentions.{mentions}
use Rattle.back_lowering.specs.Sites.{asks_site}
use Rattle.back_lowering.specs.Steps.{Steps, move, constant, compute, load, store, call, if_equal, load_from, words_loaded}
use Rattle.back_lowering.specs.Leaves.{boxes_made}
use Rattle.back_lowering.specs.Records.{record_laid, record_landed}
use Rattle.back_lowering.specs.Calls.{is_method, method_parameters, variable_count}
use Rattle.back_lowering.specs.Codes.{lower}
use Rattle.back_lowering.specs.Registers.{of_code, enough_for, frame_for}
use Rattle.back_lowering.specs.RoutineCodes.{transfer_code, leave_code, throw_code, continue_code, raise_code, signal_code, pending_code, failing_code, failing_with_code, domain_code, function_code, apply_code, generic_code, chain_code, next_code, level_code, list_code, method_code, binding_code, is_function_code, class_code}

-- a procedure with so many parameters
abbrev pub procedure_with : Counted → (parameters : ℕ) → Steps → MidProcedure
procedure_with counted parameters body = record {
  counted = counted;
  parameters = parameters;
  registers = max parameters (enough_for (of_code (code_of body)));
  frame = frame_for (of_code (code_of body));
  body = body;
}

-- the same with the words of the stack that the allocation of its registers needs
abbrev pub framed : (words : ℕ) → MidProcedure → MidProcedure
framed words p = record p { frame = words }

-- A routine that hands on what another one returns keeps nothing but where it returns to. One that applies a handler keeps the record and the
-- site; one that finds a chain keeps the arguments and where the search is; one that runs a chain keeps the arguments, the site and where
-- the methods are.
abbrev pub passing_frame : ℕ
passing_frame = 2

abbrev pub raise_frame : ℕ
raise_frame = 7

abbrev pub generic_frame : ℕ
generic_frame = 9

abbrev pub chain_frame : ℕ
chain_frame = 7

-- what the body of a function takes behind its variables
pub data Extra : Type 0 where
  nothing : Extra
  its_method : Extra
  itself : Extra

abbrev pub extra_count : Extra → ℕ
extra_count nothing = 0
extra_count its_method = method_parameters
extra_count itself = 1

-- an entry takes the function itself, the chain of the method, or 0, how many arguments there are, and where they are
abbrev pub entry_parameters : ℕ
entry_parameters = 4

-- The words of the required parameters may be alive across the call of the body, so an entry has a word of the stack for each. But an entry is entered
-- before it is known whether there is a level for the body, so it has no more of them than what calls it has in reserve; and no more than the body
-- names variables, since the words that are charged for an application, in which its arguments may have been lent too, pay no others.
abbrev pub most_parameter_words : ℕ
most_parameter_words = 52

abbrev pub parameter_words : FlatProcedure → ℕ
parameter_words q = min most_parameter_words (min (length q.required) (mentions q.body))

-- how many words of the stack an entry has
abbrev pub entry_frame : FlatProcedure → ℕ
entry_frame q = 6 + parameter_words q

module _ (names : List (List ℕ)) (at : Placement) (program : FlatProgram) where
  -- ---- entries

  -- where it makes a list or keeps a call, it asks for words only where there is a level for the body
  abbrev pub level_judged : FlatProcedure → Steps
  level_judged q = if is_some q.rest || q.keeps_method then call 4 (level_routine at) [] ∷ [] else []

  -- the arguments behind the required ones are a list, in register 4
  abbrev pub rest_made : FlatProcedure → Steps
  rest_made q =
      if is_some q.rest then
      constant 5 (4 * length q.required) ∷ compute 5 which.Add 3 5 ∷ constant 6 (length q.required) ∷ compute 6 which.Subtract 2 6
      ∷ call 4 (list_routine at) (5 ∷ 6 ∷ []) ∷ []
      else []

  -- the chain and the arguments of a method are kept in the heap, where a function in it captures them
  abbrev pub method_kept : FlatProcedure → Steps
  method_kept q =
      if q.keeps_method then constant 5 0 ∷ if_equal 1 5 [] (call 3 (method_routine at) (1 ∷ 2 ∷ 3 ∷ []) ∷ []) ∷ [] else []

  abbrev pub entry_extras : Extra → List ℕ
  entry_extras nothing = []
  entry_extras its_method = 1 ∷ 2 ∷ 3 ∷ []
  entry_extras itself = 0 ∷ []

  abbrev pub rest_register : FlatProcedure → List ℕ
  rest_register q = if is_some q.rest then 4 ∷ [] else []

  abbrev pub entry : (body : ℕ) → Extra → FlatProcedure → MidProcedure
  entry body extra q = record {
    counted = Turn;
    parameters = entry_parameters;
    registers = 7 + length q.required;
    frame = entry_frame q;
    body =
        level_judged q
        ++ (rest_made q
        ++ (method_kept q
        ++ (words_loaded (length q.required) 7 3 0
        ++ (call 4 body (registers_from 7 (length q.required) ++ (rest_register q ++ entry_extras extra)) ∷ return_word 4 ∷ []))));
  }

  -- ---- bodies

  abbrev pub method_at : Extra → ℕ → Option ℕ
  method_at nothing r = None
  method_at its_method r = Some r
  method_at itself r = None

  -- the site's register is behind the parameters
  abbrev pub site_register : Extra → FlatProcedure → ℕ
  site_register extra q = variable_count q + extra_count extra

  abbrev pub scope_of : Extra → FlatProcedure → Scope
  scope_of extra q = record {
    slots = registers_from 0 (variable_count q);
    exits = [];
    function = variable_count q;
    method = method_at extra (variable_count q);
    site = if asks_site q.body then Held (site_register extra q) else Known 0;
  }

  abbrev pub site_taken : Extra → FlatProcedure → Steps
  site_taken extra q = if asks_site q.body then load_from (site_register extra q) (site_register extra q) site_address else []

  abbrev pub body_of : Extra → FlatProcedure → MidProcedure
  body_of extra q =
      procedure_with Level (variable_count q + extra_count extra)
      (site_taken extra q
      ++ (boxes_made (homes q) 0 (site_register extra q + 1)
      ++ ((lower names at program (scope_of extra q) (site_register extra q + 1) q.body).value
      ++ (return_word (site_register extra q + 1) ∷ []))))

  -- ---- all functions

  abbrev pub extra_of : ℕ → Extra
  extra_of p = if is_method program p then its_method else nothing

  abbrev pub entries_from : ℕ → List FlatProcedure → List MidProcedure
  entries_from p [] = []
  entries_from p (q ∷ qs) = entry (functions at + p) (extra_of p) q ∷ entries_from (p + 1) qs

  abbrev pub lambda_entries_from : ℕ → List FlatProcedure → List MidProcedure
  lambda_entries_from p [] = []
  lambda_entries_from p (q ∷ qs) = entry (functions at + p) itself q ∷ lambda_entries_from (p + 1) qs

  abbrev pub bodies_from : ℕ → List FlatProcedure → List MidProcedure
  bodies_from p [] = []
  bodies_from p (q ∷ qs) = body_of (extra_of p) q ∷ bodies_from (p + 1) qs

  abbrev pub lambda_bodies : List FlatProcedure → List MidProcedure
  lambda_bodies qs = map (body_of itself) qs

  -- ---- main forms

  abbrev pub main_scope : Scope
  main_scope = record { slots = []; exits = []; function = 0; method = None; site = Known 0 }

  -- The record of the end stands around a main form. A transfer to it says which condition is not handled: of which class, at which site.
  abbrev pub main_form : FlatForm → MidProcedure
  main_form f =
      procedure_with Turn 0
      (with_block 0 record_words 5
      (code_of (record_laid 0 6 end_kind
      ++ (constant 7 0 ∷ store 7 0 record_serial ∷ store 2 0 record_link ∷ store 0 6 link_address ∷ store 0 6 end_address
      ∷ ((lower names at program main_scope 8 f).value ++ (return_word 8 ∷ [])))))
      (code_of (load 6 5 2 ∷ load 6 6 2 ∷ constant 7 2 ∷ compute 6 which.ShiftRight 6 7
      ∷ constant 7 0 ∷ load 7 7 landing_address ∷ end_unhandled 6 7 5 ∷ []))
      ∷ [])

  abbrev pub mains_called : ℕ → List FlatForm → Steps
  mains_called n [] = []
  mains_called n (f ∷ fs) = call 0 n [] ∷ mains_called (n + 1) fs

  -- ---- the program

  abbrev pub routines : List MidProcedure
  routines =
      procedure_with Turn 2 (transfer_code at)
      ∷ framed passing_frame (procedure_with Turn 3 (leave_code at))
      ∷ framed passing_frame (procedure_with Turn 2 (throw_code at))
      ∷ framed passing_frame (procedure_with Turn 2 (continue_code at))
      ∷ framed raise_frame (procedure_with Turn 2 (raise_code at))
      ∷ framed passing_frame (procedure_with Turn 2 (signal_code at))
      ∷ framed passing_frame (procedure_with Turn 0 (pending_code at))
      ∷ framed passing_frame (procedure_with Turn 1 (failing_code at))
      ∷ framed passing_frame (procedure_with Turn 2 (failing_with_code at))
      ∷ framed passing_frame (procedure_with Turn 2 (domain_code at))
      ∷ framed passing_frame (procedure_with Turn 3 (function_code at))
      ∷ procedure_with Turn 2 (apply_code at)
      ∷ framed generic_frame (procedure_with Turn 3 (generic_code at))
      ∷ framed chain_frame (procedure_with Level 3 (chain_code at))
      ∷ framed chain_frame (procedure_with Turn 3 (next_code at))
      ∷ procedure_with Level 0 (level_code at)
      ∷ procedure_with Turn 2 (list_code at)
      ∷ procedure_with Turn 3 (method_code at)
      ∷ procedure_with Turn 1 (binding_code at)
      ∷ procedure_with Turn 1 (is_function_code at)
      ∷ procedure_with Turn 1 (class_code at)
      ∷ []

  abbrev pub mains_from : ℕ
  mains_from = routines_from at + routine_count

  abbrev pub start : MidProcedure
  start = procedure_with Turn 0 (constant 0 nil_word ∷ (mains_called mains_from program.main ++ (halt_with 0 ∷ [])))

  abbrev pub numbers_below : ℕ → List ℕ
  numbers_below zero = []
  numbers_below (suc n) = numbers_below n ++ n ∷ []

  abbrev pub primitives : List MidProcedure
  primitives = map (λ n. procedure_of (primitive_at n)) (numbers_below primitive_count)

  unfoldable pub lowered : List MidProcedure
  lowered =
      entries_from 0 program.procedures
      ++ (lambda_entries_from (length program.procedures) program.lambdas
      ++ (bodies_from 0 program.procedures
      ++ (lambda_bodies program.lambdas
      ++ (primitives ++ (routines ++ (map main_form program.main ++ (start ∷ [])))))))

  -- where a run begins
  abbrev pub start_number : ℕ
  start_number = mains_from + length program.main
