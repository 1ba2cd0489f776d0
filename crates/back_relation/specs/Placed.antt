-- What code rests on where words are laid and numbers given: that constants stand, and that what a form names has its word.
use Rattle.std.specs.Prelude.{◌≡◌, ◌≢◌, ⊤, ℕ, ◌+◌, ◌*◌, ◌^◌, ◌<◌, ◌≤◌, Bool, true, Option, Some, None, length, slice_get, is_some}
use Rattle.base.specs.AllOf.{AllOf}
use Rattle.lang_meaning.specs.declared.program.Callee.{Callee}
use Rattle.lang_meaning.specs.declared.program.Callee.TheVariants as callee
use Rattle.lang_meaning.specs.declared.program.FunctionRow.{FunctionRow}
use Rattle.lang_meaning.specs.declared.program.GenericRow.{GenericRow}
use Rattle.lang_meaning.specs.declared.program.LiteralRow.{LiteralRow}
use Rattle.lang_meaning.specs.declared.program.LiteralRow.TheVariants as row
use Rattle.lang_meaning.specs.Literals.{function_row}
use Rattle.lang_meaning.specs.Lookup.{text}
use Rattle.flat_language.specs.declared.place.FlatCapture.{FlatCapture}
use Rattle.flat_language.specs.declared.place.FlatCapture.TheVariants as part
use Rattle.flat_language.specs.declared.place.MethodPlace.TheVariants as method_place
use Rattle.flat_language.specs.declared.program.FlatProcedure.{FlatProcedure}
use Rattle.flat_language.specs.FlatForm.{FlatForm, literal, local, set_local, global, set_global, def_global, clauses, sequence, let_form, make_function, call, call_value, apply, prim, while_form, block, return_from, tagbody, go, catch_form, throw, unwind, dynamic_let, dynamic, set_dynamic, def_dynamic, with_handler, signal_form, continue_form, next_method, has_next, sited}
use Rattle.flat_language.specs.FlatForm.{FlatForms, no_form, form_and, FlatClauses, no_clause, clause_and, FlatBody, no_body, with_body}
use Rattle.flat_language.specs.FlatForm.{FlatBindings, no_binding, binding_and, FlatDynamics, no_dynamic, dynamic_and}
use Rattle.flat_language.specs.FlatNodes.{count_forms}
use Rattle.mid_arena.specs.Tags.{nil_word}
use Rattle.back_lowering.specs.ControlWords.{control_address, control_words, variables_address}
use Rattle.back_lowering.specs.Placement.{entry_of_lambda, symbol_word, global_address, dynamic_address}
use Rattle.back_relation.specs.Setting.{Setting, ConstantAt}
use Rattle.back_relation.specs.Chains.{arity_word, GenericAt}

module _ (setting : Setting) where
  -- a name has a word of a global or of a dynamic variable, or its symbol has a word
  abbrev pub HasGlobal : ℕ → Type 0
  HasGlobal name = variables_address ≤ global_address setting.at name

  abbrev pub HasDynamic : ℕ → Type 0
  HasDynamic name = variables_address ≤ dynamic_address setting.at name

  abbrev pub HasSymbol : ℕ → Type 0
  HasSymbol name = symbol_word setting.at name ≢ nil_word

  -- an address of a word behind the control words
  pub record IsVariableWord (address : ℕ) : Type 0 where
    pub aligned : (n : ℕ) × (address ≡ 4 * n)
    pub below : address < control_address + 4 * (control_words + setting.variable_words)

  abbrev pub SameText : ℕ → ℕ → Type 0
  SameText m n = text setting.names m ≡ text setting.names n

  -- names that have words have the same one where they have the same text, and else others
  pub record WordsByText (Has : ℕ → Type 0) (word : ℕ → ℕ) : Type 0 where
    pub there : (n : ℕ) → Has n → IsVariableWord (word n)
    pub same : (m n : ℕ) → Has m → Has n → SameText m n → word m ≡ word n
    pub apart : (m n : ℕ) → Has m → Has n → word m ≡ word n → SameText m n

  -- a function says how many arguments it takes
  abbrev pub ArityStands : (entry : ℕ) → FlatProcedure → Type 0
  ArityStands entry q = ConstantAt setting (setting.at.arities + 4 * entry) (arity_word (length q.required) (is_some q.rest))

  -- **where words are laid**
  pub record IsPlaced : Type 0 where
    pub procedures : setting.at.procedures ≡ length setting.program.procedures
    pub lambdas : setting.at.lambdas ≡ length setting.program.lambdas
    pub further_aligned : (n : ℕ) × (setting.further_at ≡ 4 * n)
    pub further_words : (i word : ℕ) → slice_get setting.further i ≡ Some word → word < 2 ^ 32
    pub globals : WordsByText HasGlobal (global_address setting.at)
    pub dynamics : WordsByText HasDynamic (dynamic_address setting.at)
    pub globals_apart : (m n : ℕ) → HasGlobal m → HasDynamic n → global_address setting.at m ≢ dynamic_address setting.at n
    pub procedure_arities : (p : ℕ) (q : FlatProcedure) → slice_get setting.program.procedures p ≡ Some q → ArityStands p q
    pub lambda_arities :
        (p : ℕ) (q : FlatProcedure) → slice_get setting.program.lambdas p ≡ Some q → ArityStands (entry_of_lambda setting.at p) q
    pub generics :
        (g : ℕ) (row : GenericRow) → slice_get setting.program.generics g ≡ Some row
        → (address : ℕ) × ConstantAt setting (setting.at.generics + 4 * g) address × GenericAt setting address row
    pub generic_names : (g : ℕ) (row : GenericRow) → slice_get setting.program.generics g ≡ Some row → HasSymbol row.name.0

  -- **what forms name**: words of variables and symbols; and whether the call of the method around is kept, where a function captures it

  abbrev pub LiteralPlaced : Option LiteralRow → Type 0
  LiteralPlaced None = ⊥
  LiteralPlaced (Some (row.Function name)) = by (function_row setting.names setting.program.functions (text setting.names name.0))
    where
      by : Option FunctionRow → Type 0
      by None = HasSymbol name.0
      by (Some f) = ⊤
  LiteralPlaced (Some other) = ⊤

  -- a function that is called by its name is there, or its name has a symbol
  abbrev pub CalleeThere : Callee → Type 0
  CalleeThere (callee.Procedure p) = p < length setting.program.procedures
  CalleeThere (callee.Generic g) = g < length setting.program.generics

  abbrev pub CallPlaced : ℕ → Option FunctionRow → Type 0
  CallPlaced name None = HasSymbol name
  CallPlaced name (Some f) = CalleeThere f.callee

  abbrev pub PartPlaced : (keeps_method : Bool) → FlatCapture → Type 0
  PartPlaced keeps (part.Variable p) = ⊤
  PartPlaced keeps (part.Exit p) = ⊤
  PartPlaced keeps (part.Method method_place.Own) = keeps ≡ true
  PartPlaced keeps (part.Method (method_place.Captured n)) = ⊤

  module _ (keeps_method : Bool) where
    abbrev mutual
      pub Placed : FlatForm → Type 0
      Placed (literal i) = LiteralPlaced (slice_get setting.program.literals i)
      Placed (local p) = ⊤
      Placed (set_local p f) = Placed f
      Placed (global n) = HasGlobal n × HasSymbol n
      Placed (set_global n f) = HasGlobal n × HasSymbol n × Placed f
      Placed (def_global n f) = HasGlobal n × HasSymbol n × Placed f
      Placed (clauses cs) = PlacedClauses cs
      Placed (sequence fs) = PlacedForms fs
      Placed (let_form bs body) = PlacedValues bs × Placed body
      Placed (make_function p parts) = AllOf (PartPlaced keeps_method) parts
      Placed (call n fs) = CallPlaced n (function_row setting.names setting.program.functions (text setting.names n)) × PlacedForms fs
      Placed (call_value fs) = PlacedForms fs
      Placed (apply f list) = Placed f × Placed list
      Placed (prim which fs) = PlacedForms fs
      Placed (while_form test body) = Placed test × Placed body
      Placed (block body) = Placed body
      Placed (return_from x f) = Placed f
      -- a word counts the segments
      Placed (tagbody segments) = (count_forms segments < 2 ^ 32) × PlacedForms segments
      Placed (go x segment) = ⊤
      Placed (catch_form tag body) = Placed tag × Placed body
      Placed (throw tag f) = Placed tag × Placed f
      Placed (unwind f cleanup) = Placed f × Placed cleanup
      Placed (dynamic_let ds body) = PlacedDynamics ds × Placed body
      Placed (dynamic n) = HasDynamic n × HasSymbol n
      Placed (set_dynamic n f) = HasDynamic n × HasSymbol n × Placed f
      Placed (def_dynamic n f) = HasDynamic n × HasSymbol n × Placed f
      Placed (with_handler handler body) = Placed handler × Placed body
      Placed (signal_form condition mark) = Placed condition × Placed mark
      Placed (continue_form condition f) = Placed condition × Placed f
      Placed (next_method m) = ⊤
      Placed (has_next m) = ⊤
      Placed (sited site f) = Placed f

      pub PlacedForms : FlatForms → Type 0
      PlacedForms no_form = ⊤
      PlacedForms (form_and f fs) = Placed f × PlacedForms fs

      pub PlacedClauses : FlatClauses → Type 0
      PlacedClauses no_clause = ⊤
      PlacedClauses (clause_and test body cs) = Placed test × PlacedBody body × PlacedClauses cs

      pub PlacedBody : FlatBody → Type 0
      PlacedBody no_body = ⊤
      PlacedBody (with_body f) = Placed f

      pub PlacedValues : FlatBindings → Type 0
      PlacedValues no_binding = ⊤
      PlacedValues (binding_and h f bs) = Placed f × PlacedValues bs

      pub PlacedDynamics : FlatDynamics → Type 0
      PlacedDynamics no_dynamic = ⊤
      PlacedDynamics (dynamic_and n f ds) = HasDynamic n × Placed f × PlacedDynamics ds

  -- all bodies of the program
  pub record ProgramPlaced : Type 0 where
    pub placed : IsPlaced
    pub procedures : AllOf (λ (q : FlatProcedure). Placed q.keeps_method q.body) setting.program.procedures
    pub lambdas : AllOf (λ (q : FlatProcedure). Placed q.keeps_method q.body) setting.program.lambdas
    pub main : AllOf (Placed true) setting.program.main
