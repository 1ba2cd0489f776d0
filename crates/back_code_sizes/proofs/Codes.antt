-- What the code of forms costs besides what is inside: variables, functions, methods, exits, bindings, handlers.
use Rattle.std.proofs.Common.{◌≡◌, ℕ, ◌+◌, ◌*◌, ◌≤◌, List, [], ◌∷◌, ◌++◌, Option, Some, None, length, slice_get, refl, arith}
use Rattle.base.specs.declared.datum.Name.{Name}
use Rattle.lang_meaning.specs.declared.program.LiteralRow.{LiteralRow}
use Rattle.lang_meaning.specs.declared.program.LiteralRow.TheVariants as row
use Rattle.lang_meaning.specs.declared.program.FunctionRow.{FunctionRow}
use Rattle.lang_meaning.specs.Objects.{function_class, undefined_function_class, unbound_variable_class}
use Rattle.lang_meaning.specs.Lookup.{text}
use Rattle.lang_meaning.specs.Literals.{function_row}
use Rattle.flat_language.specs.declared.place.ExitPlace.{ExitPlace}
use Rattle.flat_language.specs.declared.place.ExitPlace.TheVariants as exit_place
use Rattle.flat_language.specs.declared.place.MethodPlace.{MethodPlace}
use Rattle.flat_language.specs.declared.place.MethodPlace.TheVariants as method_place
use Rattle.flat_language.specs.declared.place.FlatCapture.{FlatCapture}
use Rattle.flat_language.specs.declared.place.FlatCapture.TheVariants as part
use Rattle.flat_language.specs.declared.program.FlatProgram.{FlatProgram}
use Rattle.flat_language.specs.FlatForm.{FlatDynamics, no_dynamic, dynamic_and}
use Rattle.flat_language.specs.FlatNodes.{count_dynamics}
use Rattle.mid_code.specs.declared.operation.Arithmetic.TheVariants as which
use Rattle.mid_arena.specs.Tags.{nil_word, unbound_word, object_tag}
use Rattle.mid_arena.specs.FixedWords.{true_address}
use Rattle.back_lowering.specs.ControlWords.{handlers_address, bindings_address, binding_variable, binding_value, binding_outer, binding_words, chain_end}
use Rattle.back_lowering.specs.declared.scope.SitePlace.{SitePlace}
use Rattle.back_lowering.specs.declared.scope.OwnExit.{OwnExit}
use Rattle.back_lowering.specs.declared.scope.Scope.{Scope}
use Rattle.back_lowering.specs.Placement.{symbol_word, global_address, dynamic_address}
use Rattle.back_lowering.specs.declared.placement.Placement.{Placement}
use Rattle.back_lowering.specs.Routines.{next_routine}
use Rattle.back_lowering.specs.Steps.{Steps, move, constant, compute, load, store, request, if_equal, load_from, store_to, store_far}
use Rattle.back_lowering.specs.Steps as steps
use Rattle.back_lowering.specs.Leaves.{site_stored, failing_with, domain_error, captured_into}
use Rattle.back_lowering.specs.Codes.{literal_code, if_bound, global_code, set_global_code, def_global_code, dynamic_code, set_dynamic_code, def_dynamic_code, part_into, parts_stored, function_code, method_into, next_code, has_next_code, exit_code, innermost, bindings_laid, dynamic_let_code, with_handler_code, with_two}
use Rattle.back_code_sizes.proofs.Costs.{cost, append_cost, load_from_cost, store_to_cost, store_far_cost}
use Rattle.back_code_sizes.proofs.Leaves.{site_cost, failing_with_cost, domain_cost, captured_cost, captured_variable_cost, exit_into_cost}
use Rattle.back_code_sizes.proofs.Records.{by_serial_cost, to_own_cost}

module _ (names : List (List ℕ)) (at : Placement) (program : FlatProgram) where
  named_cost :
      (site : SitePlace) (d i : ℕ) (name : Name) (f : Option FunctionRow) → function_row names program.functions (text names name.0) ≡ f
      → cost (literal_code names at program site d i (Some (row.Function name))) ≤ 86
  named_cost site d i name (Some f) e = rw e (omega arith)
  named_cost site d i name None e = rw e (failing_with_cost at site d undefined_function_class (symbol_word at name.0))

  pub literal_cost : (site : SitePlace) (d i : ℕ) (l : Option LiteralRow) → cost (literal_code names at program site d i l) ≤ 86
  literal_cost site d i (Some (row.Function name)) = named_cost site d i name (function_row names program.functions (text names name.0)) refl
  literal_cost site d i (Some (row.Datum x)) = omega arith
  literal_cost site d i (Some (row.Class c)) = omega arith
  literal_cost site d i None = omega arith

  bound_cost : (site : SitePlace) (d name : ℕ) → cost (if_bound names at program site d name) ≤ 108
  bound_cost site d name = omega (arith, failing_with_cost at site d unbound_variable_class (symbol_word at name))

  pub global_cost : (site : SitePlace) (d name : ℕ) → cost (global_code names at program site d name) ≤ 122
  global_cost site d name =
      omega (
        arith,
        append_cost (load_from d d (global_address at name)) (if_bound names at program site d name),
        load_from_cost d d (global_address at name),
        bound_cost site d name,
      )

  pub set_global_cost : (site : SitePlace) (d name : ℕ) → cost (set_global_code names at program site d name) ≤ 136
  set_global_cost site d name =
      let unbound = failing_with at site d unbound_variable_class (symbol_word at name) in
      let set = store_to d (d + 1) (global_address at name) in
      omega (
        arith,
        append_cost (load_from (d + 1) (d + 1) (global_address at name)) (constant (d + 2) unbound_word ∷ if_equal (d + 1) (d + 2) unbound set ∷ []),
        load_from_cost (d + 1) (d + 1) (global_address at name),
        failing_with_cost at site d unbound_variable_class (symbol_word at name),
        store_to_cost d (d + 1) (global_address at name),
      )

  pub def_global_cost : (d name : ℕ) → cost (def_global_code names at program d name) ≤ 20
  def_global_cost d name =
      omega (
        arith,
        append_cost (store_to d (d + 1) (global_address at name)) (constant d (symbol_word at name) ∷ []),
        store_to_cost d (d + 1) (global_address at name),
      )

  pub dynamic_cost : (site : SitePlace) (d name : ℕ) → cost (dynamic_code names at program site d name) ≤ 169
  dynamic_cost site d name = omega (arith, bound_cost site d name)

  pub set_dynamic_cost : (site : SitePlace) (d name : ℕ) → cost (set_dynamic_code names at program site d name) ≤ 177
  set_dynamic_cost site d name = omega (arith, failing_with_cost at site d unbound_variable_class (symbol_word at name))

  pub def_dynamic_cost : (d name : ℕ) → cost (def_dynamic_code names at program d name) ≤ 20
  def_dynamic_cost d name =
      omega (
        arith,
        append_cost (store_to d (d + 1) (dynamic_address at name)) (constant d (symbol_word at name) ∷ []),
        store_to_cost d (d + 1) (dynamic_address at name),
      )

  -- functions and methods

  part_cost : (s : Scope) (t : ℕ) (p : FlatCapture) → cost (part_into names at program s t p) ≤ 38
  part_cost s t (part.Variable p) = omega (arith, captured_variable_cost s t p)
  part_cost s t (part.Exit p) = omega (arith, exit_into_cost s t p)
  part_cost s t (part.Method method_place.Own) = by s.method
    where
      by : (m : Option ℕ) → cost (part_into names at program (record s { method = m }) t (part.Method method_place.Own)) ≤ 38
      by None = omega arith
      by (Some m) = omega arith
  part_cost s t (part.Method (method_place.Captured n)) = omega (arith, captured_cost s t n)

  parts_cost : (s : Scope) (d t offset : ℕ) (ps : List FlatCapture) → cost (parts_stored names at program s d t offset ps) ≤ 62 * length ps
  parts_cost s d t offset [] = omega arith
  parts_cost s d t offset (p ∷ ps) =
      let rest = parts_stored names at program s d t (offset + 4) ps in
      omega (
        arith,
        append_cost (part_into names at program s t p) (store_far t d (t + 1) offset ++ rest),
        append_cost (store_far t d (t + 1) offset) rest,
        part_cost s t p,
        store_far_cost t d (t + 1) offset,
        parts_cost s d t (offset + 4) ps,
      )

  pub function_cost : (s : Scope) (d p : ℕ) (parts : List FlatCapture) → cost (function_code names at program s d p parts) ≤ 70 + 62 * length parts
  function_cost s d p parts =
      omega (
        arith,
        append_cost (parts_stored names at program s d (d + 1) 8 parts) (constant (d + 1) object_tag ∷ compute d which.Add d (d + 1) ∷ []),
        parts_cost s d (d + 1) 8 parts,
      )

  method_cost : (s : Scope) (t : ℕ) (m : MethodPlace) → cost (method_into names at program s t m) ≤ 84
  method_cost s t method_place.Own = by s.method
    where
      by : (m : Option ℕ) → cost (method_into names at program (record s { method = m }) t method_place.Own) ≤ 84
      by None = omega arith
      by (Some m) = omega arith
  method_cost s t (method_place.Captured n) =
      omega (
        arith,
        append_cost (captured_into s (t + 2) n)
            (constant t 0
            ∷ if_equal (t + 2) t (constant (t + 1) 0 ∷ [])
            (load t (t + 2) 0 ∷ load (t + 1) (t + 2) 4 ∷ constant (t + 3) 8 ∷ compute (t + 2) which.Add (t + 2) (t + 3) ∷ []) ∷ []),
        captured_cost s (t + 2) n,
      )

  pub next_cost : (s : Scope) (d : ℕ) (m : MethodPlace) → cost (next_code names at program s d m) ≤ 165
  next_cost s d m =
      let asked : Steps = steps.call d (next_routine at) (d ∷ (d + 1) ∷ (d + 2) ∷ []) ∷ [] in
      omega (
        arith,
        append_cost (method_into names at program s d m) (site_stored s.site (d + 3) (d + 4) ++ asked),
        append_cost (site_stored s.site (d + 3) (d + 4)) asked,
        method_cost s d m,
        site_cost s.site (d + 3) (d + 4),
      )

  pub has_next_cost : (s : Scope) (d : ℕ) (m : MethodPlace) → cost (has_next_code names at program s d m) ≤ 162
  has_next_cost s d m =
      omega (
        arith,
        append_cost (method_into names at program s d m)
            (constant (d + 1) 0
            ∷ if_equal d (d + 1) (constant d nil_word ∷ [])
            (load d d 0 ∷ constant (d + 1) chain_end
            ∷ if_equal d (d + 1) (constant d nil_word ∷ []) (load_from d d true_address) ∷ []) ∷ []),
        method_cost s d m,
        load_from_cost d d true_address,
      )

  -- exits

  own_exit_cost : (s : Scope) (d landing n : ℕ) (x : Option OwnExit) → slice_get s.exits n ≡ x → cost (exit_code names at program s d landing (exit_place.Own n)) ≤ 111
  own_exit_cost s d landing n None e = rw e (omega (arith, by_serial_cost at s.site (constant (d + 1) 0 ∷ []) d (d + 1) landing))
  own_exit_cost s d landing n (Some x) e = rw e (to_own_cost at s.site x d (d + 1) landing)

  pub exit_cost : (s : Scope) (d landing : ℕ) (x : ExitPlace) → cost (exit_code names at program s d landing x) ≤ 111
  exit_cost s d landing (exit_place.Own n) = own_exit_cost s d landing n (slice_get s.exits n) refl
  exit_cost s d landing (exit_place.Captured n) =
      omega (arith, by_serial_cost at s.site (captured_into s (d + 1) n) d (d + 1) landing, captured_cost s (d + 1) n)

  -- bindings and handlers

  cell_cost :
      (t word : ℕ) (a b outer c rest : Steps) → cost a ≤ 24 → cost b ≤ 24 → cost outer ≤ 16 → cost c ≤ 24
      → cost (constant t word ∷ (a ++ (b ++ (outer ++ (c ++ rest))))) ≤ 94 + cost rest
  cell_cost t word a b outer c rest f g h i =
      omega (
        arith,
        append_cost a (b ++ (outer ++ (c ++ rest))),
        append_cost b (outer ++ (c ++ rest)),
        append_cost outer (c ++ rest),
        append_cost c rest,
      )

  bindings_cost :
      (d b old t offset : ℕ) (ds : FlatDynamics) → cost (bindings_laid names at program d b old t offset ds) ≤ 94 * count_dynamics ds
  bindings_cost d b old t offset no_dynamic = omega arith
  bindings_cost d b old t offset (dynamic_and name f no_dynamic) =
      let all =
      cell_cost t (dynamic_address at name) (store_far t b (t + 1) (offset + binding_variable)) (store_far d b (t + 1) (offset + binding_value))
      (move t old ∷ []) (store_far t b (t + 1) (offset + binding_outer)) []
      (store_far_cost t b (t + 1) (offset + binding_variable)) (store_far_cost d b (t + 1) (offset + binding_value)) (omega arith)
      (store_far_cost t b (t + 1) (offset + binding_outer)) in
      omega (arith, all)
  bindings_cost d b old t offset (dynamic_and name f (dynamic_and m g ds)) =
      let all =
      cell_cost t (dynamic_address at name) (store_far t b (t + 1) (offset + binding_variable)) (store_far d b (t + 1) (offset + binding_value))
      (constant t (offset + 4 * binding_words) ∷ compute t which.Add t b ∷ []) (store_far t b (t + 1) (offset + binding_outer))
      (bindings_laid names at program (d + 1) b old t (offset + 4 * binding_words) (dynamic_and m g ds))
      (store_far_cost t b (t + 1) (offset + binding_variable)) (store_far_cost d b (t + 1) (offset + binding_value)) (omega arith)
      (store_far_cost t b (t + 1) (offset + binding_outer)) in
      omega (arith, all, bindings_cost (d + 1) b old t (offset + 4 * binding_words) (dynamic_and m g ds))

  pub dynamic_let_cost :
      (d count : ℕ) (ds : FlatDynamics) (body : Steps) → cost (dynamic_let_code names at program d count ds body) ≤ 106 + 94 * count_dynamics ds + cost body
  dynamic_let_cost d count ds body =
      let behind : Steps = constant d 0 ∷ store (d + count + 1) d bindings_address ∷ move d (d + count + 2) ∷ [] in
      omega (
        arith,
        append_cost (bindings_laid names at program d (d + count) (d + count + 1) (d + count + 2) 0 ds)
            (constant (d + count + 2) 0 ∷ store (innermost (d + count) (d + count + 1) ds) (d + count + 2) bindings_address ∷ (body ++ behind)),
        append_cost body behind,
        bindings_cost d (d + count) (d + count + 1) (d + count + 2) 0 ds,
      )

  pub handler_cost : (site : SitePlace) (d : ℕ) (body : Steps) → cost (with_handler_code names at program site d body) ≤ 271 + cost body
  handler_cost site d body =
      let behind : Steps = constant d 0 ∷ store (d + 2) d handlers_address ∷ move d (d + 3) ∷ [] in
      omega (
        arith,
        append_cost (domain_error at site (d + 1) d function_class) (move d (d + 1) ∷ []),
        append_cost body behind,
        domain_cost at site (d + 1) d function_class,
      )

  pub two_cost : (site : SitePlace) (d routine : ℕ) → cost (with_two names at program site d routine) ≤ 74
  two_cost site d routine =
      omega (
        arith,
        append_cost (site_stored site (d + 2) (d + 3)) (steps.call d routine (d ∷ (d + 1) ∷ []) ∷ []),
        site_cost site (d + 2) (d + 3),
      )
