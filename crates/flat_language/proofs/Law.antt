-- The law of closures.
use Rattle.std.proofs.Common.{◌≡◌, ℕ, zero, suc, ◌+◌, List, [], ◌∷◌, ◌++◌, refl, sym, ap, subst, ◌∙◌, inl, inr, Option, length, arith}
use Rattle.std.specs.Prelude.{⊤, true, false, slice_get}
use Rattle.base.specs.AllOf.{AllOf}
use Rattle.lang_meaning.specs.declared.program.Procedure.{Procedure}
use Rattle.lang_meaning.specs.declared.program.ProgramRows.{ProgramRows}
use Rattle.lang_meaning.specs.BoundNames.{BodyIsBound, IsBoundIn, NamesAreBound, LawOfNames}
use Rattle.lang_meaning.specs.Facts.{is_whole}
use Rattle.lang_meaning.specs.Form.{Form, parameters}
use Rattle.lang_meaning.specs.InitialHeap.{objects_at_start}
use Rattle.lang_meaning.specs.Classes.{class_of_object}
use Rattle.lang_meaning.specs.Meaning.{class_in, meaning, end_of, meant}
use Rattle.lang_meaning.specs.Objects.{Object}
use Rattle.lang_meaning.specs.State.{State, first_state, Evaluated}
use Rattle.lang_meaning.specs.Standing as standing
use Rattle.lang_meaning.specs.Values.{Value, nil, integer, character, symbol, object}
use Rattle.flat_language.specs.FlatMeaning.{flat_meaning}
use Rattle.flat_language.specs.FlatMeaning as flat
use Rattle.flat_language.specs.declared.program.FlatProcedure.{FlatProcedure}
use Rattle.flat_language.specs.FlatState.{Captured, FlatState, FlatEvaluated}
use Rattle.flat_language.specs.Flatten.{functions, functions_of_procedures, flat_procedures, body_scope, inner_procedures, inner_of_procedures, inner_of_mains, flat_mains, flat_program}
use Rattle.flat_language.specs.Law.{SameRun, LawOfClosures, LawOfFlatPrograms}
use Rattle.flat_language.specs.FlatStanding.{FlatScope, with_homes, ProgramStands, ProcedureStands, MainStands, LambdasStand}
use Rattle.flat_language.specs.Scope.{no_scope, homes_of}
use Rattle.flat_language.proofs.Alike.{VariableKind, World, alone, ObjectsAlike, Beside, Sound, Sim}
use Rattle.flat_language.proofs.Applied.{ProceduresMatch}
use Rattle.flat_language.proofs.Combined.{itself}
use Rattle.flat_language.proofs.Exits.{whole_leads}
use Rattle.flat_language.proofs.Fine.{fit_alone, own_fine}
use Rattle.flat_language.proofs.Fitting.{whole_fits}
use Rattle.flat_language.proofs.Levels.{SoundMains, mains_alike}
use Rattle.flat_language.specs.bridge.Counted.{joined, all_counted}
use Rattle.flat_language.proofs.Numbers.{Placed, placed_left, placed_right}
use Rattle.flat_language.proofs.Sounds.{sounds}
use Rattle.flat_language.proofs.Stands.{bound_stands, flat_stands, body_of, both_stand, inner_stand, outermost_stands}
use Rattle.flat_language.proofs.Start.{first_related}

module _ {lambdas : List FlatProcedure} where
  mains_sound : (n : ℕ) (fs : List Form) → AllOf (λ f. IsBoundIn (standing.alone [] false) f) fs → Placed lambdas n (inner_of_mains n fs) → SoundMains lambdas n fs
  mains_sound n [] e p = tt
  mains_sound n (f ∷ fs) e p = (
    sounds (standing.alone [] false) no_scope n f (fit_alone [] false f) (own_fine [] false f e.0.itself no_scope refl)
        (placed_left (inner_procedures no_scope n f) (inner_of_mains (n + functions f) fs) p),
    mains_sound (n + functions f) fs e.1 (placed_right (inner_procedures no_scope n f) (inner_of_mains (n + functions f) fs) (functions f) (all_counted no_scope n f) p),
  )

procedures_counted : (n : ℕ) (qs : List Procedure) → length (inner_of_procedures n qs) ≡ functions_of_procedures qs
procedures_counted n [] = refl
procedures_counted n (q ∷ qs) =
    joined (inner_procedures (body_scope q.required q.rest q.body no_scope) n q.body) _ _ _
    (all_counted (body_scope q.required q.rest q.body no_scope) n q.body) (procedures_counted (n + functions q.body) qs)

-- an object and the one beside it have one class, and so have values
object_class : {lambdas : List FlatProcedure} {ks : List VariableKind} {o o' : Option Object} {t : Option (List Captured)} → ObjectsAlike lambdas ks o o' t → class_of_object o' ≡ class_of_object o
object_class (inl x) = ap class_of_object x.same
object_class (inr x) = ap class_of_object x.other ∙ sym (ap class_of_object x.one)

value_class : {lambdas : List FlatProcedure} {w : World} {z : State} {y : FlatState} → Beside lambdas w z y → (v : Value) → class_in y.state.store v ≡ class_in z.store v
value_class b (object i) = ap (λ (q : FlatState). class_of_object (slice_get q.state.store i)) b.is ∙ object_class (b.related.objects i)
value_class b (integer n) = refl
value_class b (character n) = refl
value_class b (symbol s) = refl
value_class b nil = refl

same_run : {lambdas : List FlatProcedure} {w : World} {r : Evaluated} {q : FlatEvaluated} → Sim lambdas w r q → SameRun (meant r) (flat.meant q)
same_run x = record {
  end = ap end_of x.same;
  printed = ap (λ (y : FlatState). y.state.printed) x.beside.is;
  left = ap (λ (y : FlatState). y.state.input) x.beside.is;
  units = ap (λ (y : FlatState). y.state.units) x.beside.is;
  peak = ap (λ (y : FlatState). y.state.peak) x.beside.is;
  class = value_class x.beside;
}

-- the procedures of a program that can be made flat, one after another
abbrev SoundProcedures : List FlatProcedure → ℕ → List Procedure → Type 0
SoundProcedures lambdas n [] = ⊤
SoundProcedures lambdas n (q ∷ qs) =
    Sound lambdas (body_scope q.required q.rest q.body no_scope) n q.body × SoundProcedures lambdas (n + functions q.body) qs

procedures_sound : (lambdas : List FlatProcedure) (n : ℕ) (qs : List Procedure) → AllOf (λ (p : Procedure). (in_method : _) × BodyIsBound in_method p) qs
    → Placed lambdas n (inner_of_procedures n qs) → SoundProcedures lambdas n qs
procedures_sound lambdas n [] e p = tt
procedures_sound lambdas n (q ∷ qs) e p = (
  sounds (standing.alone (parameters q.required q.rest) e.0.0) (body_scope q.required q.rest q.body no_scope) n q.body
      (fit_alone (parameters q.required q.rest) e.0.0 q.body)
      (own_fine (parameters q.required q.rest) e.0.0 q.body e.0.1.itself no_scope refl)
      (placed_left (inner_procedures (body_scope q.required q.rest q.body no_scope) n q.body) (inner_of_procedures (n + functions q.body) qs) p),
  procedures_sound lambdas (n + functions q.body) qs e.1
      (placed_right (inner_procedures (body_scope q.required q.rest q.body no_scope) n q.body) (inner_of_procedures (n + functions q.body) qs) (functions q.body)
      (all_counted (body_scope q.required q.rest q.body no_scope) n q.body) p),
)

procedures_match : (lambdas : List FlatProcedure) (n : ℕ) (qs : List Procedure) → SoundProcedures lambdas n qs
    → (i : ℕ) → ProceduresMatch lambdas (slice_get qs i) (slice_get (flat_procedures n qs) i)
procedures_match lambdas n [] e i = tt
procedures_match lambdas n (q ∷ qs) e zero = record { first = n; is = refl; sound = e.0 }
procedures_match lambdas n (q ∷ qs) e (suc i) = procedures_match lambdas (n + functions q.body) qs e.1 i

procedures_stand : (lambdas : List FlatProcedure) (n : ℕ) (qs : List Procedure) → SoundProcedures lambdas n qs → AllOf (ProcedureStands lambdas) (flat_procedures n qs)
procedures_stand lambdas n [] e = tt
procedures_stand lambdas n (q ∷ qs) e = (
  body_of lambdas true [] no_scope (outermost_stands lambdas) 0 n (omega arith) q.required q.rest q.body e.0,
  procedures_stand lambdas (n + functions q.body) qs e.1,
)

-- the functions in procedures, and in main forms
outermost : FlatScope
outermost = record { homes = []; captured = []; exits = 0; in_procedure = true }

inner_stands : (lambdas : List FlatProcedure) (n : ℕ) (qs : List Procedure) → SoundProcedures lambdas n qs → LambdasStand lambdas n (inner_of_procedures n qs)
unfolding outermost
inner_stands lambdas n [] e = tt
inner_stands lambdas n (q ∷ qs) e =
    both_stand lambdas n (inner_procedures (body_scope q.required q.rest q.body no_scope) n q.body) _ (functions q.body)
    (all_counted (body_scope q.required q.rest q.body no_scope) n q.body)
    (inner_stand lambdas (with_homes (homes_of (parameters q.required q.rest) q.body) outermost) (body_scope q.required q.rest q.body no_scope)
    (bound_stands outermost no_scope (outermost_stands lambdas) (parameters q.required q.rest) q.body) n q.body e.0)
    (inner_stands lambdas (n + functions q.body) qs e.1)

mains_stand : (lambdas : List FlatProcedure) (n : ℕ) (fs : List Form) → SoundMains lambdas n fs → AllOf (MainStands lambdas) (flat_mains n fs)
mains_stand lambdas n [] e = tt
mains_stand lambdas n (f ∷ fs) e =
    (flat_stands lambdas (record { homes = []; captured = []; exits = 0; in_procedure = true }) no_scope (outermost_stands lambdas) 0 n (omega arith) f e.0, mains_stand lambdas (n + functions f) fs e.1)

inner_of_mains_stand : (lambdas : List FlatProcedure) (n : ℕ) (fs : List Form) → SoundMains lambdas n fs → LambdasStand lambdas n (inner_of_mains n fs)
inner_of_mains_stand lambdas n [] e = tt
inner_of_mains_stand lambdas n (f ∷ fs) e =
    both_stand lambdas n (inner_procedures no_scope n f) _ (functions f) (all_counted no_scope n f)
    (inner_stand lambdas (record { homes = []; captured = []; exits = 0; in_procedure = true }) no_scope (outermost_stands lambdas) n f e.0)
    (inner_of_mains_stand lambdas (n + functions f) fs e.1)

-- a whole program can be made flat
record CanBeMadeFlat (program : ProgramRows) : Type 0 where
  procedures : SoundProcedures (flat_program program).lambdas 0 program.procedures
  main : SoundMains (flat_program program).lambdas (functions_of_procedures program.procedures) program.main

whole_can : LawOfNames → (program : ProgramRows) → is_whole program ≡ true → CanBeMadeFlat program
whole_can law program whole =
    let bound : NamesAreBound program = law program whole in
    let inner : List FlatProcedure = inner_of_procedures 0 program.procedures in
    let in_mains : List FlatProcedure = inner_of_mains (functions_of_procedures program.procedures) program.main in
    let lambdas : List FlatProcedure = inner ++ in_mains in
    let all : Placed lambdas 0 lambdas = record { at = λ j q h. let e : 0 + j ≡ j = omega arith in ap (λ m. slice_get lambdas m) e ∙ h } in
    let placed : Placed lambdas (functions_of_procedures program.procedures) in_mains =
    (let e : 0 + functions_of_procedures program.procedures ≡ functions_of_procedures program.procedures = omega arith in
    subst (λ m. Placed lambdas m in_mains) e
    (placed_right inner in_mains (functions_of_procedures program.procedures) (procedures_counted 0 program.procedures) all)) in
    record {
      procedures = procedures_sound lambdas 0 program.procedures bound.procedures (placed_left inner in_mains all);
      main = mains_sound (functions_of_procedures program.procedures) program.main bound.main placed;
    }

pub law_of_closures : LawOfNames → LawOfClosures
unfolding meaning flat_meaning
law_of_closures law names program whole input k limit =
    let can : CanBeMadeFlat program = whole_can law program whole in
    let lambdas : List FlatProcedure = (flat_program program).lambdas in
    same_run (mains_alike names program (flat_procedures 0 program.procedures) lambdas (flat_mains (functions_of_procedures program.procedures) program.main) limit
    (procedures_match lambdas 0 program.procedures can.procedures)
    k (functions_of_procedures program.procedures) program.main can.main
    nil (alone []) (first_state (objects_at_start names program) input)
    (record { state = first_state (objects_at_start names program) input; frame = []; captured = [] })
    (record {
      world = alone [];
      later = itself (alone []);
      store = objects_at_start names program;
      boxes = [];
      frame = [];
      captured = [];
      related = first_related lambdas names program;
      is = refl;
    }))

whole_stands : LawOfNames → (program : ProgramRows) → is_whole program ≡ true → ProgramStands (flat_program program)
whole_stands law program whole =
    let can : CanBeMadeFlat program = whole_can law program whole in
    let lambdas : List FlatProcedure = (flat_program program).lambdas in
    record {
      procedures = procedures_stand lambdas 0 program.procedures can.procedures;
      lambdas = both_stand lambdas 0 (inner_of_procedures 0 program.procedures) _ (functions_of_procedures program.procedures) (procedures_counted 0 program.procedures)
          (inner_stands lambdas 0 program.procedures can.procedures)
          (subst (λ m. LambdasStand lambdas m (inner_of_mains (functions_of_procedures program.procedures) program.main))
          (let e : functions_of_procedures program.procedures ≡ 0 + functions_of_procedures program.procedures = omega arith in e)
          (inner_of_mains_stand lambdas (functions_of_procedures program.procedures) program.main can.main));
      main = mains_stand lambdas (functions_of_procedures program.procedures) program.main can.main;
    }

pub law_of_flat_programs : LawOfNames → LawOfFlatPrograms
law_of_flat_programs law program whole = (whole_stands law program whole, whole_fits program whole, whole_leads law program whole)
