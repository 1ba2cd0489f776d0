-- **How many words code costs at most, with one more for each argument that it passes**: for each form besides its parts, and for functions, main forms and what does not depend on the program. This is
-- the one place where these numbers stand.
use Rattle.std.specs.Prelude.{ℕ, ◌+◌, ◌*◌, List, ◌++◌, length, sum_by}
use Rattle.flat_language.specs.declared.program.FlatProcedure.{FlatProcedure}
use Rattle.flat_language.specs.declared.program.FlatProgram.{FlatProgram}
use Rattle.flat_language.specs.FlatForm.{FlatForm, literal, local, set_local, global, set_global, def_global, clauses, sequence, let_form, make_function, call, call_value, apply, prim, while_form, block, return_from, tagbody, go, catch_form, throw, unwind, dynamic_let, dynamic, set_dynamic, def_dynamic, with_handler, signal_form, continue_form, next_method, has_next, sited}
use Rattle.flat_language.specs.FlatNodes.{homes, count_forms, count_clauses, count_bindings, count_dynamics}
use Rattle.flat_boxes.specs.Totals.{total}

-- the code of a form besides that of the forms in it
abbrev pub own_words : FlatForm → ℕ
own_words (literal i) = 86
own_words (local p) = 32
own_words (set_local p f) = 32
own_words (global n) = 122
own_words (set_global n f) = 136
own_words (def_global n f) = 20
own_words (clauses cs) = 6 + 22 * count_clauses cs
own_words (sequence fs) = 6
own_words (let_form bs body) = 6 + 40 * count_bindings bs
own_words (make_function p parts) = 70 + 62 * length parts
own_words (call n fs) = 159 + 58 * count_forms fs
own_words (call_value fs) = 145 + 24 * count_forms fs
own_words (apply f list) = 74
own_words (prim which fs) = 122 + 128 * count_forms fs
own_words (while_form test body) = 26
own_words (block body) = 242
own_words (return_from x f) = 111
own_words (tagbody segments) = 330 + 3 * count_forms segments
own_words (go x segment) = 117
own_words (catch_form tag body) = 250
own_words (throw tag f) = 74
own_words (unwind f cleanup) = 306
own_words (dynamic_let ds body) = 106 + 94 * count_dynamics ds
own_words (dynamic n) = 169
own_words (set_dynamic n f) = 177
own_words (def_dynamic n f) = 20
own_words (with_handler handler body) = 271
own_words (signal_form condition mark) = 74
own_words (continue_form condition f) = 74
own_words (next_method m) = 165
own_words (has_next m) = 162
own_words (sited site f) = 0

-- that of a form with all forms in it
abbrev pub form_words : FlatForm → ℕ
form_words f = total own_words f

-- A form pays so many words of code for each of its nodes. All forms but three kinds cost at most 160 for each of theirs. A tagbody of one segment
-- has two nodes, and its record, its loop and its switch cost 333; `call-next-method` and `next-method-p` have one node, and cost 165 and 162 where their
-- method's call was captured and stands more than 2,047 bytes behind the function.
abbrev pub words_of_node : ℕ
words_of_node = 167

-- the entry of a function and what is around the form in its body; and for each parameter: it is loaded, handed on, taken and boxed
abbrev pub words_of_function : ℕ
words_of_function = 408

abbrev pub words_of_parameter : ℕ
words_of_parameter = 78

-- a main form: the record of the end of the program is laid around it, and the start calls it
abbrev pub words_of_main : ℕ
words_of_main = 298

-- the primitives, the routines and the start, whatever the program
abbrev pub words_of_routines : ℕ
words_of_routines = 37013

-- all functions of a program: its procedures and those of its forms
abbrev pub functions_of : FlatProgram → List FlatProcedure
functions_of program = program.procedures ++ program.lambdas

abbrev pub function_words : FlatProcedure → ℕ
function_words q = words_of_function + words_of_parameter * length (homes q) + form_words q.body

abbrev pub main_words : FlatForm → ℕ
main_words f = words_of_main + form_words f

-- the code of a whole program
abbrev pub program_words : FlatProgram → ℕ
program_words program = sum_by function_words (functions_of program) + sum_by main_words program.main + words_of_routines
