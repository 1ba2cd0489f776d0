-- **Whole programs that were made flat have the rows that are asked.**
use Rattle.std.proofs.Common.{◌≡◌, ℕ, zero, suc, ◌+◌, ◌<◌, Bool, true, false, List, [], ◌∷◌, length, Option, Some, None, refl, sym, ◌∙◌, ap, subst, arith}
use Rattle.std.specs.Prelude.{◌==◌, ◌&&◌, not, nat_le, nat_lt, slice_get, is_some, if◌then◌else◌}
use Rattle.std.specs.List.{list_all}
use Rattle.std.proofs.lemmas.Bool.Decides.{nat_tests}
use Rattle.std.proofs.lemmas.Option.{slice_get_within}
use Rattle.base.specs.AllOf.{AllOf}
use Rattle.lang_meaning.specs.declared.program.Callee.{Callee}
use Rattle.lang_meaning.specs.declared.program.Callee.TheVariants as callee
use Rattle.lang_meaning.specs.declared.program.ClassRow.{ClassRow}
use Rattle.lang_meaning.specs.declared.program.FunctionRow.{FunctionRow}
use Rattle.lang_meaning.specs.declared.program.GenericRow.{GenericRow}
use Rattle.lang_meaning.specs.declared.program.LiteralRow.{LiteralRow}
use Rattle.lang_meaning.specs.declared.program.LiteralRow.TheVariants as row
use Rattle.lang_meaning.specs.declared.program.MethodRow.{MethodRow}
use Rattle.lang_meaning.specs.declared.program.Procedure.{Procedure}
use Rattle.lang_meaning.specs.declared.program.ProgramRows.{ProgramRows}
use Rattle.lang_meaning.specs.declared.program.SlotRow.{SlotRow}
use Rattle.lang_meaning.specs.BuiltIn.{built_in_precedence, built_in_slots}
use Rattle.lang_meaning.specs.Cells.{program_cells}
use Rattle.lang_meaning.specs.Facts.{literal_fits, initform_fits, class_fits, begins_with_built_in, is_congruent, knows_next, method_fits, same_method, generic_fits, callee_fits, same_name, rows_fit, procedures_stand, bodies_stand, body_fits, is_whole}
use Rattle.lang_meaning.specs.Form.{Form}
use Rattle.lang_meaning.specs.Lookup.{all_differ}
use Rattle.lang_meaning.specs.ProgramCounts.{program_nodes}
use Rattle.lang_meaning.specs.Standing.{stands_alone, is_alone}
use Rattle.flat_language.specs.declared.program.FlatProcedure.{FlatProcedure}
use Rattle.flat_language.specs.Flatten.{functions, flat_procedure, flat_procedures, flat_program, home_of_rest}
use Rattle.flat_language.specs.Scope.{no_scope}
use Rattle.flat_language.proofs.Environments.{length-homes}
use Rattle.flat_language.proofs.Fine.{first_true, second_true}
use Rattle.back_words.specs.Asked.{CalleeFound, MethodCongruent, InitformFound, LiteralFound, RowsAsked}

-- ---- tests

each : {X : Type 0} (P : X → Type 0) (p : X → Bool) → ((x : X) → p x ≡ true → P x) → (xs : List X) → list_all p xs ≡ true → AllOf P xs
each P p f [] h = tt
each P p f (x ∷ xs) h = (f x (first_true (p x) (list_all p xs) h), each P p f xs (second_true (p x) (list_all p xs) h))

-- ---- procedures that were made flat

-- a procedure with the same parameters
pub record SameParameters (p : Procedure) (q : FlatProcedure) : Type 0 where
  pub required : length q.required ≡ length p.required
  pub rest : is_some q.rest ≡ is_some p.rest

rest_same : (rest : Option ℕ) (body : Form) → is_some (home_of_rest rest body) ≡ is_some rest
rest_same None body = refl
rest_same (Some v) body = refl

flat_there : (n : ℕ) (ps : List Procedure) (i : ℕ) (p : Procedure) → slice_get ps i ≡ Some p
    → (q : FlatProcedure) × (slice_get (flat_procedures n ps) i ≡ Some q) × SameParameters p q
flat_there n [] i p e = absurd (cc e)
flat_there n (r ∷ ps) zero p e =
    let same : r ≡ p = cc e in (
      flat_procedure no_scope n [] r.required r.rest r.body,
      refl,
      subst (λ p. SameParameters p (flat_procedure no_scope n [] r.required r.rest r.body)) same
          (record { required = length-homes r.required r.body; rest = rest_same r.rest r.body }),
    )
flat_there n (r ∷ ps) (suc i) p e = flat_there (n + functions r.body) ps i p e

flat_within : (program : ProgramRows) (i : ℕ) (p : Procedure) → slice_get program.procedures i ≡ Some p → i < length (flat_program program).procedures
flat_within program i p e =
    let there = flat_there 0 program.procedures i p e in
    slice_get_within (flat_procedures 0 program.procedures) i there.0 there.1

-- ---- rows

module _ (program : ProgramRows) where
  alone_within : (in_method : Bool) (i : ℕ) (o : Option Procedure) → slice_get program.procedures i ≡ o → is_alone in_method o ≡ true
      → i < length (flat_program program).procedures
  alone_within in_method i None e h = absurd (cc h)
  alone_within in_method i (Some p) e h = flat_within program i p e

  literal_found : (l : LiteralRow) → literal_fits program l ≡ true → LiteralFound (flat_program program) l
  literal_found (row.Datum d) h = tt
  literal_found (row.Class c) h = grind (arith, nat_tests)
  literal_found (row.Function name) h = tt

  initform_found : (o : Option ℕ) → initform_fits program o ≡ true → InitformFound (flat_program program) o
  initform_found None h = tt
  initform_found (Some p) h = alone_within false p (slice_get program.procedures p) refl h

  class_found : (c : ClassRow) → class_fits program c ≡ true → AllOf (λ (s : SlotRow). InitformFound (flat_program program) s.initform) c.slots
  class_found c h =
      each (λ (s : SlotRow). InitformFound (flat_program program) s.initform) (λ s. initform_fits program s.initform)
      (λ s g. initform_found s.initform g) c.slots
      (second_true (list_all (λ d. nat_lt d (length program.classes)) c.precedence) (list_all (λ s. initform_fits program s.initform) c.slots)
      (first_true (list_all (λ d. nat_lt d (length program.classes)) c.precedence && list_all (λ s. initform_fits program s.initform) c.slots) (nat_le (length c.slots) 64) h))

  callee_found : (c : Callee) → callee_fits program c ≡ true → CalleeFound (flat_program program) c
  callee_found (callee.Procedure p) h = alone_within false p (slice_get program.procedures p) refl h
  callee_found (callee.Generic g) h = grind (arith, nat_tests)

  rest_is : (rest : Bool) (o : Option ℕ) → (if rest then is_some o else not (is_some o)) ≡ true → is_some o ≡ rest
  rest_is true o h = h
  rest_is false None h = refl
  rest_is false (Some v) h = absurd (cc h)

  congruent : (g : GenericRow) (m : MethodRow) (o : Option Procedure) → slice_get program.procedures m.procedure ≡ o → is_congruent g o ≡ true
      → MethodCongruent (flat_program program) g m
  congruent g m None e h = absurd (cc h)
  congruent g m (Some p) e h =
      let there = flat_there 0 program.procedures m.procedure p e in
      let count : length p.required ≡ g.required = same_count (length p.required) g.required (first_true (length p.required == g.required) _ h) in
      record {
        procedure = there.0;
        there = there.1;
        required = there.2.required ∙ count;
        rest = there.2.rest ∙ rest_is g.rest p.rest (second_true (length p.required == g.required) (if g.rest then is_some p.rest else not (is_some p.rest)) h);
      }
    where
      same_count : (a b : ℕ) → (a == b) ≡ true → a ≡ b
      same_count a b e = grind (arith, nat_tests)

  method_congruent : (g : GenericRow) (m : MethodRow) → method_fits program g m ≡ true → MethodCongruent (flat_program program) g m
  method_congruent g m h =
      congruent g m (slice_get program.procedures m.procedure) refl
      (second_true (length m.classes == g.required && list_all (λ c. nat_lt c (length program.classes)) m.classes) (is_congruent g (slice_get program.procedures m.procedure))
      (first_true (length m.classes == g.required && list_all (λ c. nat_lt c (length program.classes)) m.classes && is_congruent g (slice_get program.procedures m.procedure))
      (is_alone (knows_next m.qualifier) (slice_get program.procedures m.procedure)) h))

  generic_congruent : (g : GenericRow) → generic_fits program g ≡ true → AllOf (MethodCongruent (flat_program program) g) g.methods
  generic_congruent g h =
      each (MethodCongruent (flat_program program) g) (method_fits program g) (method_congruent g) g.methods
      (first_true (list_all (method_fits program g) g.methods) (all_differ same_method g.methods) h)

  pub rows_asked : is_whole program ≡ true → RowsAsked (flat_program program)
  rows_asked whole =
      let sound : (rows_fit program && bodies_stand program) ≡ true = first_true (rows_fit program && bodies_stand program) (nat_le (program_cells program) 262144) whole in
      let fit : rows_fit program ≡ true = first_true (rows_fit program) (bodies_stand program) sound in
      let stand : bodies_stand program ≡ true = second_true (rows_fit program) (bodies_stand program) sound in
      let built_in : Bool = begins_with_built_in program.classes built_in_precedence built_in_slots in
      let literals : Bool = list_all (literal_fits program) program.literals in
      let procedures : Bool = list_all (λ p. body_fits program p.body) program.procedures in
      let differ : Bool = all_differ same_name program.functions in
      let sites : Bool = nat_le (length program.sites) 100000 in
      let nodes : Bool = nat_le (program_nodes program) 100000 in
      let first_rows : (built_in && literals) ≡ true =
      first_true (built_in && literals) procedures
      (first_true (built_in && literals && procedures) differ
      (first_true (built_in && literals && procedures && differ) sites (first_true (built_in && literals && procedures && differ && sites) nodes fit))) in
      let classes : Bool = list_all (class_fits program) program.classes in
      let generics : Bool = list_all (generic_fits program) program.generics in
      let functions : Bool = list_all (λ f. callee_fits program f.callee) program.functions in
      let mains : Bool = list_all (λ f. body_fits program f && stands_alone false f) program.main in
      let first_functions : (classes && generics && functions) ≡ true =
      first_true (classes && generics && functions) mains
      (first_true (classes && generics && functions && mains) (procedures_stand program 0 program.procedures) stand) in
      let first_generics : (classes && generics) ≡ true = first_true (classes && generics) functions first_functions in
      record {
        built_in = first_true built_in literals first_rows;
        literals = each (LiteralFound (flat_program program)) (literal_fits program) literal_found program.literals (second_true built_in literals first_rows);
        initforms =
            each (λ (c : ClassRow). AllOf (λ (s : SlotRow). InitformFound (flat_program program) s.initform) c.slots) (class_fits program) class_found program.classes
            (first_true classes generics first_generics);
        callees =
            each (λ (f : FunctionRow). CalleeFound (flat_program program) f.callee) (λ f. callee_fits program f.callee) (λ f h. callee_found f.callee h) program.functions
            (second_true (classes && generics) functions first_functions);
        methods =
            each (λ (g : GenericRow). AllOf (MethodCongruent (flat_program program) g) g.methods) (generic_fits program) generic_congruent program.generics
            (second_true classes generics first_generics);
      }
