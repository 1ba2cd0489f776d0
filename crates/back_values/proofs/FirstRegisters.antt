-- The code of a form names the register in which its value comes.
use Rattle.std.proofs.Common.{◌≡◌, ℕ, ◌+◌, ◌<◌, ◌≤◌, Bool, true, false, List, [], ◌∷◌, ◌++◌, length, Option, Some, None, refl, sym, subst, arith}
use Rattle.std.specs.Prelude.{nat_le, ◌-◌, slice_get, is_some, if◌then◌else◌}
use Rattle.lang_meaning.specs.declared.primitive.Primitive.{Primitive}
use Rattle.lang_meaning.specs.declared.primitive.Primitive.TheVariants as primitive
use Rattle.lang_meaning.specs.declared.program.Callee.{Callee}
use Rattle.lang_meaning.specs.declared.program.Callee.TheVariants as callee
use Rattle.lang_meaning.specs.declared.program.FunctionRow.{FunctionRow}
use Rattle.lang_meaning.specs.declared.program.GenericRow.{GenericRow}
use Rattle.lang_meaning.specs.declared.program.LiteralRow.{LiteralRow}
use Rattle.lang_meaning.specs.declared.program.LiteralRow.TheVariants as row
use Rattle.lang_meaning.specs.Literals.{function_row}
use Rattle.lang_meaning.specs.Lookup.{text}
use Rattle.lang_meaning.specs.Objects.{program_error_class}
use Rattle.lang_meaning.specs.Signals.{takes}
use Rattle.flat_language.specs.declared.place.VariablePlace.{VariablePlace}
use Rattle.flat_language.specs.declared.place.VariablePlace.TheVariants.{Slot, SlotBox, CapturedValue, CapturedBox}
use Rattle.flat_language.specs.declared.program.FlatProcedure.{FlatProcedure}
use Rattle.flat_language.specs.FlatForm.{FlatForm, literal, local, set_local, global, set_global, def_global, clauses, sequence, let_form, make_function, call, call_value, apply, prim, while_form, block, return_from, tagbody, go, catch_form, throw, unwind, dynamic_let, dynamic, set_dynamic, def_dynamic, with_handler, signal_form, continue_form, next_method, has_next, sited}
use Rattle.flat_language.specs.FlatForm.{FlatForms, no_form, form_and, FlatClauses, no_clause, clause_and, no_body, with_body}
use Rattle.flat_language.specs.FlatMeaning.{binding_homes}
use Rattle.flat_language.specs.FlatNodes.{count_forms}
use Rattle.mid_code.specs.declared.operation.Test.{Test}
use Rattle.mid_code.specs.MidCode.{MidStep, MidCode, choose, with_block, code_of}
use Rattle.back_lowering.specs.declared.scope.Scope.{Scope}
use Rattle.back_lowering.specs.declared.scope.SitePlace.{SitePlace}
use Rattle.back_lowering.specs.Calls.{call_name, call_callee, call_procedure, call_generic, call_with_rest, enter_body, wrong_number, site_for, list_of}
use Rattle.back_lowering.specs.Codes.{Lowered, lower, lower_sequence, lower_arguments, lower_clauses, lower_clause, lower_bindings, literal_code, known_truth}
use Rattle.back_lowering.specs.Leaves.{site_stored, failing, slot_into, variable_into, boxes_made}
use Rattle.back_lowering.specs.Primitives.{apply_primitive}
use Rattle.back_lowering.specs.Registers.{of_step, of_code, enough_for}
use Rattle.back_lowering.specs.Routines.{level_routine}
use Rattle.back_lowering.specs.Scope.{with_slots, at_site, registers_from}
use Rattle.back_lowering.specs.Steps as steps
use Rattle.back_lowering.specs.Steps.{Steps, move, constant, load, load_from, load_far}
use Rattle.back_relation.specs.Setting.{Setting}
use Rattle.back_relation.proofs.Fitting.{of_parts, enough_front, enough_behind, registers_front, registers_behind}

-- a register is named
pub record Names (d : ℕ) (ss : Steps) : Type 0 where
  pub named : d < enough_for (of_code (code_of ss))

now : (d : ℕ) (s : MidStep) (ss : Steps) → d < enough_for (of_step s) → Names d (s ∷ ss)
now d s ss h = let l = enough_front (of_step s) (of_code (code_of ss)) in record { named = omega (arith, h, l) }

later : (d : ℕ) (s : MidStep) (ss : Steps) → Names d ss → Names d (s ∷ ss)
later d s ss h = let l = enough_behind (of_step s) (of_code (code_of ss)) in record { named = omega (arith, h.named, l) }

front : (d : ℕ) (ss ts : Steps) → Names d ss → Names d (ss ++ ts)
front d ss ts h =
    let l = enough_front (of_code (code_of ss)) (of_code (code_of ts)) in
    record { named = subst (λ rs. d < enough_for rs) (sym (of_parts ss ts)) (omega (arith, h.named, l)) }

behind : (d : ℕ) (ss ts : Steps) → Names d ts → Names d (ss ++ ts)
behind d ss ts h =
    let l = enough_behind (of_code (code_of ss)) (of_code (code_of ts)) in
    record { named = subst (λ rs. d < enough_for rs) (sym (of_parts ss ts)) (omega (arith, h.named, l)) }

either : (d : ℕ) (b : Bool) (ss ts : Steps) → Names d ss → Names d ts → Names d (if b then ss else ts)
either d true ss ts g h = g
either d false ss ts g h = h

choose_names : (d : ℕ) (t : Test) (first : Steps) (second : MidCode) → Names d first → Names d (choose t (code_of first) second ∷ [])
choose_names d t first second h = let l = enough_front (of_code (code_of first)) (of_code second) in now d _ _ (omega (arith, h.named, l))

call_first : (d n : ℕ) (rs : List ℕ) (ss : Steps) → Names d (steps.call d n rs ∷ ss)
call_first d n rs ss = now d (steps.call d n rs) ss (omega arith)

last_of_four : (d r : ℕ) (first second third : Steps) → Names d (first ++ (second ++ (third ++ (move d r ∷ []))))
last_of_four d r first second third =
    behind d first (second ++ (third ++ (move d r ∷ []))) (behind d second (third ++ (move d r ∷ [])) (behind d third (move d r ∷ []) (now d (move d r) [] (omega arith))))

block_names : (d b words : ℕ) (inside landing : MidCode) (ss : Steps) → Names d (with_block b words d inside landing ∷ ss)
block_names d b words inside landing ss = now d (with_block b words d inside landing) ss (omega arith)

load_far_names : (d base offset : ℕ) → Names d (load_far d base d offset)
load_far_names d base offset = either d (nat_le offset 2047) _ _ (now d _ _ (omega arith)) (now d _ _ (omega arith))

load_from_names : (d address : ℕ) → Names d (load_from d d address)
load_from_names d address = either d (nat_le address 2047) _ _ (now d _ _ (omega arith)) (now d _ _ (omega arith))

slot_names : (d : ℕ) (o : Option ℕ) → Names d (slot_into d o)
slot_names d (Some r) = now d _ _ (omega arith)
slot_names d None = now d _ _ (omega arith)

variable_names : (s : Scope) (d : ℕ) (p : VariablePlace) → Names d (variable_into s d p)
variable_names s d (Slot n) = slot_names d (slice_get s.slots n)
variable_names s d (SlotBox n) = behind d (slot_into d (slice_get s.slots n)) (load d d 0 ∷ []) (now d _ _ (omega arith))
variable_names s d (CapturedValue n) = load_far_names d s.function _
variable_names s d (CapturedBox n) = behind d (load_far d s.function d _) (load d d 0 ∷ []) (now d _ _ (omega arith))

module _ (setting : Setting) where
  literal_names : (site : SitePlace) (d i : ℕ) (o : Option LiteralRow) → Names d (literal_code setting.names setting.at setting.program site d i o)
  literal_names site d i None = now d _ _ (omega arith)
  literal_names site d i (Some (row.Datum e)) = now d _ _ (omega arith)
  literal_names site d i (Some (row.Class c)) = now d _ _ (omega arith)
  literal_names site d i (Some (row.Function name)) = by (function_row setting.names setting.program.functions (text setting.names name.0)) refl
    where
      by :
          (o : Option FunctionRow) → function_row setting.names setting.program.functions (text setting.names name.0) ≡ o
          → Names d (literal_code setting.names setting.at setting.program site d i (Some (row.Function name)))
      by None e = rw e (behind d (site_stored site d (d + 1)) _ (now d _ _ (omega arith)))
      by (Some f) e = rw e (now d _ _ (omega arith))

  -- primitives and calls without arguments

  primitive_names : (which : Primitive) (d : ℕ) (site : SitePlace) → Names d (apply_primitive setting.at setting.program.literals which no_form 0 d site)
  primitive_names primitive.Add d site = now d _ _ (omega arith)
  primitive_names primitive.Subtract d site = now d _ _ (omega arith)
  primitive_names primitive.NumberEqual d site = now d _ _ (omega arith)
  primitive_names primitive.NumberNotEqual d site = now d _ _ (omega arith)
  primitive_names primitive.NumberLess d site = now d _ _ (omega arith)
  primitive_names primitive.NumberAtMost d site = now d _ _ (omega arith)
  primitive_names primitive.NumberGreater d site = now d _ _ (omega arith)
  primitive_names primitive.NumberAtLeast d site = now d _ _ (omega arith)
  primitive_names primitive.Same d site = now d _ _ (omega arith)
  primitive_names primitive.IsNull d site = later d _ _ (now d _ _ (omega arith))
  primitive_names primitive.IsCons d site = later d _ _ (now d _ _ (omega arith))
  primitive_names primitive.IsInteger d site = later d _ _ (now d _ _ (omega arith))
  primitive_names primitive.Cons d site = later d _ _ (later d _ _ (now d _ _ (omega arith)))
  primitive_names primitive.Car d site = later d _ _ (now d _ _ (omega arith))
  primitive_names primitive.Cdr d site = later d _ _ (now d _ _ (omega arith))
  primitive_names primitive.VectorRef d site = later d _ _ (later d _ _ (now d _ _ (omega arith)))
  primitive_names other d site = now d _ _ (omega arith)

  body_names :
      (p : ℕ) (q : FlatProcedure) (variables : List ℕ) (d t : ℕ) (site : SitePlace) → Names d (enter_body setting.at setting.program p q variables d t site)
  body_names p q variables d t site = behind d (site_for _ site t (t + 1)) _ (later d _ _ (now d _ _ (omega arith)))

  procedure_names :
      (p : ℕ) (o : Option FlatProcedure) (count d : ℕ) (site : SitePlace) → Names d (call_procedure setting.at setting.program p o count d site)
  procedure_names p None count d site = now d _ _ (omega arith)
  procedure_names p (Some q) count d site =
      let n : ℕ = length q.required in
      let rest : Steps = call_with_rest setting.at setting.program p q count d site in
      let plain : Steps = enter_body setting.at setting.program p q (registers_from d count) d (d + count) site in
      either d (takes n (is_some q.rest) count) (if is_some q.rest then rest else plain) (wrong_number setting.at setting.program d site)
      (either d (is_some q.rest) rest plain
      (later d (steps.call (d + count) (level_routine setting.at) []) _
      (behind d (list_of (count - n) (d + n) (d + count)) (enter_body setting.at setting.program p q (registers_from d n ++ (d + count) ∷ []) d (d + count + 1) site)
      (body_names p q (registers_from d n ++ (d + count) ∷ []) d (d + count + 1) site)))
      (body_names p q (registers_from d count) d (d + count) site))
      (call_first d (level_routine setting.at) [] (failing setting.at site d program_error_class))

  generic_names :
      (g : ℕ) (o : Option GenericRow) (count d : ℕ) (site : SitePlace) → Names d (call_generic setting.at setting.program g o count d site)
  generic_names g None count d site = now d _ _ (omega arith)
  generic_names g (Some row) count d site =
      either d (takes row.required row.rest count) _ _ (now d _ _ (omega arith))
      (behind d (site_stored site d (d + 1)) _ (now d _ _ (omega arith)))

  callee_names : (c : Callee) (count d : ℕ) (site : SitePlace) → Names d (call_callee setting.at setting.program c count d site)
  callee_names (callee.Procedure p) count d site = procedure_names p (slice_get setting.program.procedures p) count d site
  callee_names (callee.Generic g) count d site = generic_names g (slice_get setting.program.generics g) count d site

  call_names : (name : ℕ) (o : Option FunctionRow) (count d : ℕ) (site : SitePlace) → Names d (call_name setting.at setting.program name o count d site)
  call_names name None count d site = behind d (site_stored site d (d + 1)) _ (now d _ _ (omega arith))
  call_names name (Some f) count d site = callee_names f.callee count d site

  -- forms

  abbrev value : Scope → ℕ → FlatForm → Steps
  value s d f = (lower setting.names setting.at setting.program s d f).value

  -- a clause in front of others, without a body and with one
  alone_clause_names :
      (s : Scope) (d : ℕ) (known : Option Bool) (test : Lowered) (others : Steps) → Names d test.value → Names d others
      → Names d (lower_clause setting.names setting.at setting.program s d known test no_body others)
  unfolding lower
  alone_clause_names s d (Some true) test others one more = one
  alone_clause_names s d (Some false) test others one more = more
  alone_clause_names s d None test others one more = front d _ _ (front d _ _ one)

  body_clause_names :
      (s : Scope) (d : ℕ) (known : Option Bool) (test : Lowered) (f : FlatForm) (others : Steps) → Names d (value s d f) → Names d others
      → Names d (lower_clause setting.names setting.at setting.program s d known test (with_body f) others)
  unfolding lower
  body_clause_names s d (Some true) test f others one more = one
  body_clause_names s d (Some false) test f others one more = more
  body_clause_names s d None test f others one more = behind d _ _ (choose_names d _ (value s d f) _ one)

  mutual
    unfolding lower

    pub form_names : (s : Scope) (d : ℕ) (f : FlatForm) → Names d (value s d f)
    form_names s d (literal i) = literal_names s.site d i (slice_get setting.program.literals i)
    form_names s d (local p) = variable_names s d p
    form_names s d (set_local p f) = front d _ _ (form_names s d f)
    form_names s d (global n) = front d _ _ (load_from_names d _)
    form_names s d (set_global n f) = front d _ _ (form_names s d f)
    form_names s d (def_global n f) = front d _ _ (form_names s d f)
    form_names s d (clauses cs) = clauses_name s d cs
    form_names s d (sequence fs) = sequence_names s d fs
    form_names s d (let_form bs body) =
        let n : ℕ = length (binding_homes bs) in
        last_of_four d (d + n) (lower_bindings setting.names setting.at setting.program s d bs) (boxes_made (binding_homes bs) d (d + n))
        (value (with_slots (registers_from d n) s) (d + n) body)
    form_names s d (make_function p parts) = now d _ _ (omega arith)
    form_names s d (call n no_form) = call_names n (function_row setting.names setting.program.functions (text setting.names n)) 0 d s.site
    form_names s d (call n (form_and f fs)) = front d _ _ (front d _ _ (form_names s d f))
    form_names s d (call_value no_form) = now d _ _ (omega arith)
    form_names s d (call_value (form_and f fs)) = front d _ _ (form_names s d f)
    form_names s d (apply f list) = front d _ _ (form_names s d f)
    form_names s d (prim which no_form) = primitive_names which d s.site
    form_names s d (prim which (form_and f fs)) = front d _ _ (front d _ _ (form_names s d f))
    form_names s d (while_form test body) = later d _ _ (now d _ _ (omega arith))
    form_names s d (block body) = block_names d _ _ _ _ _
    form_names s d (return_from x f) = front d _ _ (form_names s d f)
    form_names s d (tagbody segments) = later d _ _ (later d _ _ (now d _ _ (omega arith)))
    form_names s d (go x segment) = now d _ _ (omega arith)
    form_names s d (catch_form tag body) = front d _ _ (form_names s d tag)
    form_names s d (throw tag f) = front d _ _ (form_names s d tag)
    form_names s d (unwind f cleanup) = block_names d _ _ _ _ _
    form_names s d (dynamic_let ds body) = behind d _ _ (block_names d _ _ _ _ _)
    form_names s d (dynamic n) = now d _ _ (omega arith)
    form_names s d (set_dynamic n f) = front d _ _ (form_names s d f)
    form_names s d (def_dynamic n f) = front d _ _ (form_names s d f)
    form_names s d (with_handler handler body) = front d _ _ (form_names s d handler)
    form_names s d (signal_form condition mark) = front d _ _ (form_names s d condition)
    form_names s d (continue_form condition f) = front d _ _ (form_names s d condition)
    form_names s d (next_method m) = behind d _ _ (behind d _ _ (now d _ _ (omega arith)))
    form_names s d (has_next m) = behind d _ _ (later d _ _ (now d _ _ (omega arith)))
    form_names s d (sited site f) = form_names (at_site site s) d f

    sequence_names : (s : Scope) (d : ℕ) (fs : FlatForms) → Names d (lower_sequence setting.names setting.at setting.program s d fs)
    sequence_names s d no_form = now d _ _ (omega arith)
    sequence_names s d (form_and f fs) = front d _ _ (form_names s d f)

    clauses_name : (s : Scope) (d : ℕ) (cs : FlatClauses) → Names d (lower_clauses setting.names setting.at setting.program s d cs)
    clauses_name s d no_clause = now d _ _ (omega arith)
    clauses_name s d (clause_and test no_body cs) =
        alone_clause_names s d (known_truth setting.at setting.program.literals test) (lower setting.names setting.at setting.program s d test)
        (lower_clauses setting.names setting.at setting.program s d cs) (form_names s d test) (clauses_name s d cs)
    clauses_name s d (clause_and test (with_body f) cs) =
        body_clause_names s d (known_truth setting.at setting.program.literals test) (lower setting.names setting.at setting.program s d test) f
        (lower_clauses setting.names setting.at setting.program s d cs) (form_names s d f) (clauses_name s d cs)

-- so there are registers for the values of forms in a list
pub list_fits :
    (setting : Setting) (s : Scope) (d size : ℕ) (fs : FlatForms) → d ≤ size
    → enough_for (of_code (code_of (lower_arguments setting.names setting.at setting.program s d fs))) ≤ size → d + count_forms fs ≤ size
unfolding lower
list_fits setting s d size no_form l h = omega (arith, l)
list_fits setting s d size (form_and f fs) l h =
    let one : Steps = (lower setting.names setting.at setting.program s d f).value in
    let others : Steps = lower_arguments setting.names setting.at setting.program s (d + 1) fs in
    let first = (form_names setting s d f).named in
    let fits = registers_front one others size h in
    let more = list_fits setting s (d + 1) size fs (omega (arith, first, fits)) (registers_behind one others size h) in
    omega (arith, more)
