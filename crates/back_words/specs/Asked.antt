-- What the words ask of a program beside what is known of each flat one: names in the table, rows as whole programs have them, and of forms what
-- `Fits` does not say.
use Rattle.std.specs.Prelude.{◌≡◌, ◌≢◌, ⊤, ℕ, ◌^◌, ◌<◌, Bool, true, List, length, slice_get, Option, Some, None, is_some}
use Rattle.base.specs.AllOf.{AllOf}
use Rattle.lang_meaning.specs.declared.program.Callee.{Callee}
use Rattle.lang_meaning.specs.declared.program.Callee.TheVariants as callee
use Rattle.lang_meaning.specs.declared.program.ClassRow.{ClassRow}
use Rattle.lang_meaning.specs.declared.program.FunctionRow.{FunctionRow}
use Rattle.lang_meaning.specs.declared.program.GenericRow.{GenericRow}
use Rattle.lang_meaning.specs.declared.program.LiteralRow.{LiteralRow}
use Rattle.lang_meaning.specs.declared.program.LiteralRow.TheVariants as row
use Rattle.lang_meaning.specs.declared.program.MethodRow.{MethodRow}
use Rattle.lang_meaning.specs.declared.program.SlotRow.{SlotRow}
use Rattle.lang_meaning.specs.BuiltIn.{built_in_precedence, built_in_slots}
use Rattle.lang_meaning.specs.Facts.{begins_with_built_in}
use Rattle.flat_language.specs.declared.place.FlatCapture.{FlatCapture}
use Rattle.flat_language.specs.declared.place.FlatCapture.TheVariants as part
use Rattle.flat_language.specs.declared.place.MethodPlace.TheVariants as method_place
use Rattle.flat_language.specs.declared.program.FlatProcedure.{FlatProcedure}
use Rattle.flat_language.specs.declared.program.FlatProgram.{FlatProgram}
use Rattle.flat_language.specs.FlatForm.{FlatForm, literal, local, set_local, global, set_global, def_global, clauses, sequence, let_form, make_function, call, call_value, apply, prim, while_form, block, return_from, tagbody, go, catch_form, throw, unwind, dynamic_let, dynamic, set_dynamic, def_dynamic, with_handler, signal_form, continue_form, next_method, has_next, sited}
use Rattle.flat_language.specs.FlatForm.{FlatForms, no_form, form_and, FlatClauses, no_clause, clause_and, FlatBody, no_body, with_body}
use Rattle.flat_language.specs.FlatForm.{FlatBindings, no_binding, binding_and, FlatDynamics, no_dynamic, dynamic_and}
use Rattle.flat_language.specs.FlatNodes.{count_forms}
use Rattle.mid_arena.specs.Tags.{nil_word}
use Rattle.back_words.specs.Uses.{globals_among, dynamics_among, symbols_among, program_uses}
use Rattle.back_words.specs.Words.{symbol_among}

-- ---- rows

-- what a name calls is there
abbrev pub CalleeFound : FlatProgram → Callee → Type 0
CalleeFound program (callee.Procedure p) = p < length program.procedures
CalleeFound program (callee.Generic g) = g < length program.generics

-- the procedure of a method takes as many arguments as the generic function
pub record MethodCongruent (program : FlatProgram) (g : GenericRow) (m : MethodRow) : Type 0 where
  pub procedure : FlatProcedure
  pub there : slice_get program.procedures m.procedure ≡ Some procedure
  pub required : length procedure.required ≡ g.required
  pub rest : is_some procedure.rest ≡ g.rest

-- the function that gives a slot its value is there, and so is a class that is a literal
abbrev pub InitformFound : FlatProgram → Option ℕ → Type 0
InitformFound program None = ⊤
InitformFound program (Some p) = p < length program.procedures

abbrev pub LiteralFound : FlatProgram → LiteralRow → Type 0
LiteralFound program (row.Datum d) = ⊤
LiteralFound program (row.Class c) = c < length program.classes
LiteralFound program (row.Function name) = ⊤

pub record RowsAsked (program : FlatProgram) : Type 0 where
  pub built_in : begins_with_built_in program.classes built_in_precedence built_in_slots ≡ true
  pub literals : AllOf (LiteralFound program) program.literals
  pub initforms : AllOf (λ (c : ClassRow). AllOf (λ (s : SlotRow). InitformFound program s.initform) c.slots) program.classes
  pub callees : AllOf (λ (f : FunctionRow). CalleeFound program f.callee) program.functions
  pub methods : AllOf (λ (g : GenericRow). AllOf (MethodCongruent program g) g.methods) program.generics

-- ---- names

-- the names that forms use are in the table
pub record NamesAsked (names : List (List ℕ)) (program : FlatProgram) : Type 0 where
  pub globals : AllOf (λ n. n < length names) (globals_among (program_uses names program))
  pub dynamics : AllOf (λ n. n < length names) (dynamics_among (program_uses names program))
  pub symbols : AllOf (λ n. n < length names) (symbols_among (program_uses names program))

-- each name that a condition may have has a symbol, whose word is not nil's
abbrev pub SymbolsGiven : List (List ℕ) → FlatProgram → (symbols : List ℕ) → Type 0
SymbolsGiven names program symbols = AllOf (λ n. symbol_among symbols n ≢ nil_word) (symbols_among (program_uses names program))

-- ---- forms

-- where a function captures the call of the method around, that call is kept
abbrev pub PartKept : (keeps_method : Bool) → FlatCapture → Type 0
PartKept keeps (part.Variable p) = ⊤
PartKept keeps (part.Exit p) = ⊤
PartKept keeps (part.Method method_place.Own) = keeps ≡ true
PartKept keeps (part.Method (method_place.Captured n)) = ⊤

-- and a word counts the segments of a tagbody
module _ (keeps_method : Bool) where
  abbrev mutual
    pub Keeps : FlatForm → Type 0
    Keeps (literal i) = ⊤
    Keeps (local p) = ⊤
    Keeps (set_local p f) = Keeps f
    Keeps (global n) = ⊤
    Keeps (set_global n f) = Keeps f
    Keeps (def_global n f) = Keeps f
    Keeps (clauses cs) = KeepClauses cs
    Keeps (sequence fs) = KeepForms fs
    Keeps (let_form bs body) = KeepValues bs × Keeps body
    Keeps (make_function p parts) = AllOf (PartKept keeps_method) parts
    Keeps (call n fs) = KeepForms fs
    Keeps (call_value fs) = KeepForms fs
    Keeps (apply f list) = Keeps f × Keeps list
    Keeps (prim which fs) = KeepForms fs
    Keeps (while_form test body) = Keeps test × Keeps body
    Keeps (block body) = Keeps body
    Keeps (return_from x f) = Keeps f
    Keeps (tagbody segments) = (count_forms segments < 2 ^ 32) × KeepForms segments
    Keeps (go x segment) = ⊤
    Keeps (catch_form tag body) = Keeps tag × Keeps body
    Keeps (throw tag f) = Keeps tag × Keeps f
    Keeps (unwind f cleanup) = Keeps f × Keeps cleanup
    Keeps (dynamic_let ds body) = KeepDynamics ds × Keeps body
    Keeps (dynamic n) = ⊤
    Keeps (set_dynamic n f) = Keeps f
    Keeps (def_dynamic n f) = Keeps f
    Keeps (with_handler handler body) = Keeps handler × Keeps body
    Keeps (signal_form condition mark) = Keeps condition × Keeps mark
    Keeps (continue_form condition f) = Keeps condition × Keeps f
    Keeps (next_method m) = ⊤
    Keeps (has_next m) = ⊤
    Keeps (sited site f) = Keeps f

    pub KeepForms : FlatForms → Type 0
    KeepForms no_form = ⊤
    KeepForms (form_and f fs) = Keeps f × KeepForms fs

    pub KeepClauses : FlatClauses → Type 0
    KeepClauses no_clause = ⊤
    KeepClauses (clause_and test body cs) = Keeps test × KeepBody body × KeepClauses cs

    pub KeepBody : FlatBody → Type 0
    KeepBody no_body = ⊤
    KeepBody (with_body f) = Keeps f

    pub KeepValues : FlatBindings → Type 0
    KeepValues no_binding = ⊤
    KeepValues (binding_and h f bs) = Keeps f × KeepValues bs

    pub KeepDynamics : FlatDynamics → Type 0
    KeepDynamics no_dynamic = ⊤
    KeepDynamics (dynamic_and n f ds) = Keeps f × KeepDynamics ds

pub record FormsAsked (program : FlatProgram) : Type 0 where
  pub procedures : AllOf (λ (q : FlatProcedure). Keeps q.keeps_method q.body) program.procedures
  pub lambdas : AllOf (λ (q : FlatProcedure). Keeps q.keeps_method q.body) program.lambdas
  pub main : AllOf (Keeps true) program.main
