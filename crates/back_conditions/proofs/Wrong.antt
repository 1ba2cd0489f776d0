-- What signals what goes wrong in an application: it matters only under what is around.
use Rattle.std.proofs.Common.{◌≡◌, ℕ, Bool, true, false, List, [], ◌∷◌, Option, Some, None, length, map, take, refl}
use Rattle.std.specs.Prelude.{slice_get, is_some, if◌then◌else◌}
use Rattle.lang_meaning.specs.declared.program.GenericRow.{GenericRow}
use Rattle.lang_meaning.specs.Classes.{class_of, fetch, chain}
use Rattle.lang_meaning.specs.InitialHeap.{class_value}
use Rattle.lang_meaning.specs.Lookup.{text}
use Rattle.lang_meaning.specs.Objects.{Chain, Called, Object, cons, string, vector, instance, function, closure, generic_function, class_object, input_stream, output_stream, fresh_symbol, program_error_class, undefined_function_class, domain_error_class, function_class}
use Rattle.lang_meaning.specs.Signals.{takes}
use Rattle.lang_meaning.specs.State.{DynamicContext, Outcome, value, exit, full, more}
use Rattle.lang_meaning.specs.Values.{Value, symbol, named, nil}
use Rattle.flat_language.specs.declared.program.FlatProcedure.{FlatProcedure}
use Rattle.flat_language.specs.FlatNodes.{tables}
use Rattle.flat_language.specs.FlatSignals.{FlatContext, FlatSignals, nothing, with_some, enter, apply_procedure, apply_function, apply_chain, apply_generic_row, apply_object}
use Rattle.flat_language.specs.FlatState.{Captured, no_environment, FlatState, FlatEvaluated, gives, go_on, go_on_from, captured_by}
use Rattle.back_conditions.specs.HandledLaw.{LawOfWrong}

go_on_same : (r : FlatEvaluated) (f g : Value → FlatState → FlatEvaluated) → ((v : Value) (z : FlatState) → f v z ≡ g v z) → go_on r f ≡ go_on r g
go_on_same r f g same = by r.outcome
  where
    by : (o : Outcome) → go_on_from o r.state f ≡ go_on_from o r.state g
    by (value v) = same v r.state
    by (exit e v landing) = refl
    by (full asked left_then) = refl
    by more = refl

module _ (context : FlatContext) (w1 w2 : FlatSignals) (around : DynamicContext)
    (same : (class : ℕ) (slots : List Value) (y : FlatState) → w1 class slots around y ≡ w2 class slots around y) where
  enters : (p : FlatProcedure) (cs : List Captured) (called : Option Called) (vs : List Value) (z : FlatState) → enter context w1 p cs called vs around z ≡ enter context w2 p cs called vs around z
  enters p cs called vs z = by (takes (length p.required) (is_some p.rest) (length vs)) _
    where
      by : (b : Bool) (r : FlatEvaluated) → (if b then r else w1 program_error_class [] around z) ≡ (if b then r else w2 program_error_class [] around z)
      by true r = refl
      by false r = same program_error_class [] z

  procedures : (i : ℕ) (called : Option Called) (vs : List Value) (z : FlatState) → apply_procedure context w1 i called vs around z ≡ apply_procedure context w2 i called vs around z
  procedures i called vs z = go_on_same (context.below nothing no_environment around z) _ _ (λ v y. by (slice_get context.program.procedures i) y)
    where
      by : (o : Option FlatProcedure) (y : FlatState)
          → with_some o (λ a y. gives nil y) (λ p. enter context w1 p [] called vs) around y
          ≡ with_some o (λ a y. gives nil y) (λ p. enter context w2 p [] called vs) around y
      by None y = refl
      by (Some p) y = enters p [] called vs y

  functions : (i : ℕ) (cs : List Captured) (vs : List Value) (z : FlatState) → apply_function context w1 i cs vs around z ≡ apply_function context w2 i cs vs around z
  functions i cs vs z = go_on_same (context.below nothing no_environment around z) _ _ (λ v y. by (slice_get context.program.lambdas i) y)
    where
      by : (o : Option FlatProcedure) (y : FlatState)
          → with_some o (λ a y. gives nil y) (λ p. enter context w1 p cs None vs) around y
          ≡ with_some o (λ a y. gives nil y) (λ p. enter context w2 p cs None vs) around y
      by None y = refl
      by (Some p) y = enters p cs None vs y

  rows : (o : Option GenericRow) (vs : List Value) (z : FlatState) → apply_generic_row context w1 o vs around z ≡ apply_generic_row context w2 o vs around z
  rows None vs z = refl
  rows (Some g) vs z = by (takes g.required g.rest (length vs))
    where
      chained : (o : Option Chain) → apply_chain context w1 g o vs around z ≡ apply_chain context w2 g o vs around z
      chained None = same undefined_function_class (symbol (named (text context.names g.name.0)) ∷ []) z
      chained (Some c) = refl

      by : (b : Bool)
          → (if b then apply_chain context w1 g (chain (tables context.program) g (map (class_of z.state) (take g.required vs))) vs around z else w1 program_error_class [] around z)
          ≡ (if b then apply_chain context w2 g (chain (tables context.program) g (map (class_of z.state) (take g.required vs))) vs around z else w2 program_error_class [] around z)
      by true = chained (chain (tables context.program) g (map (class_of z.state) (take g.required vs)))
      by false = same program_error_class [] z

  objects : (o : Option Object) (cs : Option (List Captured)) (f : Value) (vs : List Value) (z : FlatState) → apply_object context w1 o cs f vs around z ≡ apply_object context w2 o cs f vs around z
  objects (Some (function p)) None f vs z = procedures p None vs z
  objects (Some (function p)) (Some cs) f vs z = functions p cs vs z
  objects (Some (generic_function g)) cs f vs z = rows (slice_get context.program.generics g) vs z
  objects None cs f vs z = same domain_error_class (f ∷ class_value context.names (tables context.program) function_class ∷ []) z
  objects (Some (cons a d)) cs f vs z = same domain_error_class (f ∷ class_value context.names (tables context.program) function_class ∷ []) z
  objects (Some (string bytes)) cs f vs z = same domain_error_class (f ∷ class_value context.names (tables context.program) function_class ∷ []) z
  objects (Some (vector us)) cs f vs z = same domain_error_class (f ∷ class_value context.names (tables context.program) function_class ∷ []) z
  objects (Some (instance class slots mark)) cs f vs z = same domain_error_class (f ∷ class_value context.names (tables context.program) function_class ∷ []) z
  objects (Some (closure a b c d)) cs f vs z = same domain_error_class (f ∷ class_value context.names (tables context.program) function_class ∷ []) z
  objects (Some (class_object c)) cs f vs z = same domain_error_class (f ∷ class_value context.names (tables context.program) function_class ∷ []) z
  objects (Some input_stream) cs f vs z = same domain_error_class (f ∷ class_value context.names (tables context.program) function_class ∷ []) z
  objects (Some output_stream) cs f vs z = same domain_error_class (f ∷ class_value context.names (tables context.program) function_class ∷ []) z
  objects (Some (fresh_symbol s)) cs f vs z = same domain_error_class (f ∷ class_value context.names (tables context.program) function_class ∷ []) z

pub wrong_law : LawOfWrong
wrong_law context w1 w2 f vs around z same = objects context w1 w2 around same (fetch z.state f) (captured_by f z) f vs z
