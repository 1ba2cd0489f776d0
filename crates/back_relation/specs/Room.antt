-- How many words of the stack the code of a form lays at a time, beside the frames of the bodies that it enters, which are charged.
use Rattle.std.specs.Prelude.{ℕ, ◌+◌, ◌*◌, max, List, Option, Some, None, slice_get, is_some, if◌then◌else◌}
use Rattle.lang_meaning.specs.declared.program.Callee.{Callee}
use Rattle.lang_meaning.specs.declared.program.Callee.TheVariants.{Procedure, Generic}
use Rattle.lang_meaning.specs.declared.program.FunctionRow.{FunctionRow}
use Rattle.lang_meaning.specs.declared.program.LiteralRow.{LiteralRow}
use Rattle.lang_meaning.specs.declared.program.LiteralRow.TheVariants as row
use Rattle.lang_meaning.specs.Literals.{function_row}
use Rattle.lang_meaning.specs.Lookup.{text}
use Rattle.flat_language.specs.declared.program.FlatProgram.{FlatProgram}
use Rattle.mid_code.specs.Arena.{header_words}
use Rattle.flat_language.specs.FlatForm.{FlatForm, literal, local, set_local, global, set_global, def_global, clauses, sequence, let_form, make_function, call, call_value, apply, prim, while_form, block, return_from, tagbody, go, catch_form, throw, unwind, dynamic_let, dynamic, set_dynamic, def_dynamic, with_handler, signal_form, continue_form, next_method, has_next, sited}
use Rattle.flat_language.specs.FlatForm.{FlatForms, no_form, form_and, FlatClauses, no_clause, clause_and, FlatBody, no_body, with_body}
use Rattle.flat_language.specs.FlatForm.{FlatBindings, no_binding, binding_and, FlatDynamics, no_dynamic, dynamic_and}
use Rattle.flat_language.specs.FlatNodes.{count_forms, count_dynamics}
use Rattle.back_lowering.specs.ControlWords.{record_words, handler_words, binding_words}

-- Routines and primitives that call one another lay no more than that, as long as no handler is applied. A primitive's frame and the signal of
-- its condition are within it too. It is a reserve: whoever enters the body of a function hands as many words on to it, beside those that are
-- charged for its application, and has them again when it is left.
abbrev pub routine_words : ℕ
routine_words = 52

-- a main form, whose frame has the words of its record too, has some more
abbrev pub main_reserve : ℕ
main_reserve = routine_words + 3

-- what a new condition, and one that is there, lay of it when they are signalled
abbrev pub failing_words : ℕ
failing_words = 50

abbrev pub raise_words : ℕ
raise_words = 48

-- What a handler puts aside for the signal that applies it: with the words of the signal they are enough for its frame and its record, the
-- block of the argument, the frames of the application, and the reserve.
abbrev pub words_for_handler : ℕ
words_for_handler = 39

-- an entry takes that much beside the reserve; a generic function with its chain, and the application of a value that may be one; the chain of
-- a next method; and the application of a value to a list
abbrev pub entry_words : ℕ
entry_words = routine_words + 6

abbrev pub generic_words : ℕ
generic_words = routine_words + 15

abbrev pub applying_words : ℕ
applying_words = routine_words + 17

abbrev pub next_words : ℕ
next_words = routine_words + 13

abbrev pub apply_words : ℕ
apply_words = routine_words + 19

-- a level is judged with so many
abbrev pub level_words : ℕ
level_words = 2

-- routines that only look lay that much
abbrev pub looking_words : ℕ
looking_words = 8

-- a block that lends so many words, with its header
abbrev pub lent_words : ℕ → ℕ
lent_words words = header_words + words

module _ (names : List (List ℕ)) (program : FlatProgram) where
  abbrev pub row_of : ℕ → Option FunctionRow
  row_of name = function_row names program.functions (text names name)

  -- a literal that is there needs none
  abbrev pub words_for_literal : Option LiteralRow → ℕ
  words_for_literal (Some (row.Function name)) = if is_some (row_of name.0) then 0 else routine_words
  words_for_literal other = 0

  abbrev pub words_for_callee : Callee → (count : ℕ) → ℕ
  words_for_callee (Procedure p) count = routine_words
  words_for_callee (Generic g) count = lent_words count + generic_words

  abbrev pub words_for_call : Option FunctionRow → (count : ℕ) → ℕ
  words_for_call None count = routine_words
  words_for_call (Some f) count = words_for_callee f.callee count

  abbrev mutual
    pub words_for : FlatForm → ℕ
    words_for (literal i) = words_for_literal (slice_get program.literals i)
    words_for (local p) = 0
    words_for (set_local p f) = words_for f
    words_for (global n) = routine_words
    words_for (set_global n f) = max routine_words (words_for f)
    words_for (def_global n f) = words_for f
    words_for (clauses cs) = words_for_clauses cs
    words_for (sequence fs) = words_for_forms fs
    words_for (let_form bs body) = max (words_for_values bs) (words_for body)
    words_for (make_function p parts) = 0
    words_for (call n fs) = max (words_for_call (row_of n) (count_forms fs)) (words_for_forms fs)
    words_for (call_value fs) = max (lent_words (count_forms fs) + applying_words) (words_for_forms fs)
    words_for (apply f list) = max apply_words (max (words_for f) (words_for list))
    words_for (prim which fs) = max routine_words (words_for_forms fs)
    words_for (while_form test body) = max (words_for test) (words_for body)
    words_for (block body) = lent_words record_words + words_for body
    words_for (return_from x f) = max routine_words (words_for f)
    words_for (tagbody segments) = lent_words record_words + words_for_forms segments
    words_for (go x segment) = routine_words
    words_for (catch_form tag body) = max (words_for tag) (lent_words record_words + words_for body)
    words_for (throw tag f) = max routine_words (max (words_for tag) (words_for f))
    words_for (unwind f cleanup) = max (lent_words record_words + words_for f) (max routine_words (words_for cleanup))
    words_for (dynamic_let ds body) = max (words_for_dynamics ds) (lent_words (binding_words * count_dynamics ds) + words_for body)
    words_for (dynamic n) = routine_words
    words_for (set_dynamic n f) = max routine_words (words_for f)
    words_for (def_dynamic n f) = words_for f
    words_for (with_handler handler body) =
        max routine_words (max (words_for handler) (lent_words handler_words + words_for_handler + words_for body))
    words_for (signal_form condition mark) = max routine_words (max (words_for condition) (words_for mark))
    words_for (continue_form condition f) = max routine_words (max (words_for condition) (words_for f))
    words_for (next_method m) = next_words
    words_for (has_next m) = 0
    words_for (sited site f) = words_for f

    pub words_for_forms : FlatForms → ℕ
    words_for_forms no_form = 0
    words_for_forms (form_and f fs) = max (words_for f) (words_for_forms fs)

    pub words_for_clauses : FlatClauses → ℕ
    words_for_clauses no_clause = 0
    words_for_clauses (clause_and test body cs) = max (words_for test) (max (words_for_body body) (words_for_clauses cs))

    pub words_for_body : FlatBody → ℕ
    words_for_body no_body = 0
    words_for_body (with_body f) = words_for f

    pub words_for_values : FlatBindings → ℕ
    words_for_values no_binding = 0
    words_for_values (binding_and h f bs) = max (words_for f) (words_for_values bs)

    pub words_for_dynamics : FlatDynamics → ℕ
    words_for_dynamics no_dynamic = 0
    words_for_dynamics (dynamic_and n f ds) = max (words_for f) (words_for_dynamics ds)
