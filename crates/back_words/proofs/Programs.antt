-- What the forms of a program name has its word.
use Rattle.std.proofs.Common.{◌≡◌, ◌≢◌, ℕ, zero, suc, ◌+◌, ◌*◌, ◌<◌, ◌≤◌, Bool, true, false, List, [], ◌∷◌, ◌++◌, length, map, Option, Some, None, refl, sym, ◌∙◌, ap, subst, arith}
use Rattle.std.specs.Prelude.{⊤, flat_map, slice_get, is_some, if◌then◌else◌}
use Rattle.std.specs.Str.{bytes_eq}
use Rattle.base.specs.AllOf.{AllOf, all_at, all_map}
use Rattle.lang_meaning.specs.declared.program.Callee.{Callee}
use Rattle.lang_meaning.specs.declared.program.Callee.TheVariants as callee
use Rattle.lang_meaning.specs.declared.program.FunctionRow.{FunctionRow}
use Rattle.lang_meaning.specs.declared.program.GenericRow.{GenericRow}
use Rattle.lang_meaning.specs.declared.program.LiteralRow.{LiteralRow}
use Rattle.lang_meaning.specs.declared.program.LiteralRow.TheVariants as row
use Rattle.lang_meaning.specs.Literals.{function_row}
use Rattle.lang_meaning.specs.Lookup.{text}
use Rattle.flat_language.specs.declared.place.FlatCapture.{FlatCapture}
use Rattle.flat_language.specs.declared.place.FlatCapture.TheVariants as part
use Rattle.flat_language.specs.declared.place.MethodPlace.TheVariants as method_place
use Rattle.flat_language.specs.declared.program.FlatProcedure.{FlatProcedure}
use Rattle.flat_language.specs.FlatForm.{FlatForm, literal, local, set_local, global, set_global, def_global, clauses, sequence, let_form, make_function, call, call_value, apply, prim, while_form, block, return_from, tagbody, go, catch_form, throw, unwind, dynamic_let, dynamic, set_dynamic, def_dynamic, with_handler, signal_form, continue_form, next_method, has_next, sited}
use Rattle.flat_language.specs.FlatForm.{FlatForms, no_form, form_and, FlatClauses, no_clause, clause_and, FlatBody, no_body, with_body}
use Rattle.flat_language.specs.FlatForm.{FlatBindings, no_binding, binding_and, FlatDynamics, no_dynamic, dynamic_and}
use Rattle.flat_language.specs.FlatFits.{Fits, FitForms, FitClauses, FitBody, FitValues, FitDynamics, ProgramFits}
use Rattle.mid_arena.specs.Tags.{nil_word}
use Rattle.back_lowering.specs.ControlWords.{variables_address}
use Rattle.back_lowering.specs.Placement.{symbol_word, global_address, dynamic_address}
use Rattle.back_relation.specs.Setting.{Setting}
use Rattle.back_relation.specs.Placed.{HasGlobal, HasDynamic, HasSymbol, LiteralPlaced, CalleeThere, CallPlaced, PartPlaced, Placed, PlacedForms, PlacedClauses, PlacedBody, PlacedValues, PlacedDynamics, ProgramPlaced}
use Rattle.back_words.specs.Uses.{Use, as_global, as_dynamic, as_symbol, globals_among, dynamics_among, symbols_among, of_global, of_dynamic, of_function, of_literal, uses, uses_of_forms, uses_of_clauses, uses_of_body, uses_of_values, uses_of_dynamics, program_uses}
use Rattle.back_words.specs.Variables.{number_among, global_names, dynamic_names, dynamics_from}
use Rattle.back_words.specs.Words.{symbol_among, HasWords}
use Rattle.back_words.specs.Asked.{CalleeFound, RowsAsked, NamesAsked, SymbolsGiven, PartKept, Keeps, KeepForms, KeepClauses, KeepBody, KeepValues, KeepDynamics, FormsAsked}
use Rattle.back_words.specs.Laws.{FurtherStand, LawOfPlacedPrograms}
use Rattle.back_words.proofs.Firsts.{one_found}
use Rattle.back_words.proofs.Variables.{word_given}
use Rattle.back_words.proofs.Uses.{Known, all_known, all_front, all_behind, all_each, all_pairs, all_places}
use Rattle.back_words.proofs.Law.{global_is, dynamic_is, symbol_is, placed_here}

module _ (setting : Setting) (rows : RowsAsked setting.program) where
  abbrev IsKnown : Use → Type 0
  IsKnown = Known (HasGlobal setting) (HasDynamic setting) (HasSymbol setting)

  abbrev AreKnown : List Use → Type 0
  AreKnown us = AllOf IsKnown us

  abbrev uses_in : FlatForm → List Use
  uses_in f = uses setting.names setting.program f

  front : (us vs : List Use) → AreKnown (us ++ vs) → AreKnown us
  front us vs h = all_front IsKnown us vs h

  behind : (us vs : List Use) → AreKnown (us ++ vs) → AreKnown vs
  behind us vs h = all_behind IsKnown us vs h

  -- a function's row that is found is one of the rows
  found_row : (P : FunctionRow → Type 0) (fs : List FunctionRow) (name : List ℕ) (f : FunctionRow) → AllOf P fs
      → function_row setting.names fs name ≡ Some f → P f
  found_row P [] name f h e = absurd (cc e)
  found_row P (r ∷ rs) name f h e = by (bytes_eq name (text setting.names r.name.0)) e (λ later. found_row P rs name f h.1 later)
    where
      by : (b : Bool) → (if b then Some r else function_row setting.names rs name) ≡ Some f → (function_row setting.names rs name ≡ Some f → P f) → P f
      by true e more = let same : r ≡ f = cc e in subst P same h.0
      by false e more = more e

  callee_there : (c : Callee) → CalleeFound setting.program c → CalleeThere setting c
  callee_there (callee.Procedure p) h = h
  callee_there (callee.Generic g) h = h

  abbrev row_of : ℕ → Option FunctionRow
  row_of n = function_row setting.names setting.program.functions (text setting.names n)

  call_placed : (n : ℕ) (o : Option FunctionRow) → row_of n ≡ o → AreKnown (if is_some o then [] else as_symbol n ∷ []) → CallPlaced setting n o
  call_placed n None e h = h.0
  call_placed n (Some f) e h =
      callee_there f.callee
      (found_row (λ (f : FunctionRow). CalleeFound setting.program f.callee) setting.program.functions (text setting.names n) f rows.callees e)

  literal_placed : (o : Option LiteralRow) → (o ≡ None → ⊥) → AreKnown (of_literal setting.names setting.program o) → LiteralPlaced setting o
  literal_placed None some h = absurd (some refl)
  literal_placed (Some (row.Datum d)) some h = tt
  literal_placed (Some (row.Class c)) some h = tt
  literal_placed (Some (row.Function name)) some h = by (row_of name.0) refl
    where
      by : (o : Option FunctionRow) → row_of name.0 ≡ o → LiteralPlaced setting (Some (row.Function name))
      by None e = rw e ((rw e at h).0)
      by (Some f) e = rw e tt

  part_placed : (keeps : Bool) (p : FlatCapture) → PartKept keeps p → PartPlaced setting keeps p
  part_placed keeps (part.Variable p) h = tt
  part_placed keeps (part.Exit p) h = tt
  part_placed keeps (part.Method method_place.Own) h = h
  part_placed keeps (part.Method (method_place.Captured n)) h = tt

  there : (i : ℕ) → i < length setting.program.literals → slice_get setting.program.literals i ≡ None → ⊥
  there i h e = none_there setting.program.literals i h e
    where
      none_there : (xs : List LiteralRow) (i : ℕ) → i < length xs → slice_get xs i ≡ None → ⊥
      none_there [] i h e = absurd (omega arith)
      none_there (x ∷ xs) zero h e = absurd (cc e)
      none_there (x ∷ xs) (suc i) h e = none_there xs i (omega arith) e

  module _ (keeps : Bool) where
    mutual
      placed_form : (f : FlatForm) → Fits setting.program f → Keeps keeps f → AreKnown (uses_in f) → Placed setting keeps f
      placed_form (literal i) fits kept h = literal_placed (slice_get setting.program.literals i) (there i fits) h
      placed_form (local p) fits kept h = tt
      placed_form (set_local p f) fits kept h = placed_form f fits kept h
      placed_form (global n) fits kept h = (h.0, h.1.0)
      placed_form (set_global n f) fits kept h = (h.0, h.1.0, placed_form f fits kept h.1.1)
      placed_form (def_global n f) fits kept h = (h.0, h.1.0, placed_form f fits kept h.1.1)
      placed_form (clauses cs) fits kept h = placed_clauses cs fits kept h
      placed_form (sequence fs) fits kept h = placed_forms fs fits kept h
      placed_form (let_form bs body) fits kept h = (
        placed_values bs fits.0 kept.0 (front (uses_of_values setting.names setting.program bs) (uses_in body) h),
        placed_form body fits.1 kept.1 (behind (uses_of_values setting.names setting.program bs) (uses_in body) h),
      )
      placed_form (make_function p parts) fits kept h = all_map (PartKept keeps) (PartPlaced setting keeps) (part_placed keeps) parts kept
      placed_form (call n fs) fits kept h = (
        call_placed n (row_of n) refl (front (of_function setting.names setting.program n) (uses_of_forms setting.names setting.program fs) h),
        placed_forms fs fits kept (behind (of_function setting.names setting.program n) (uses_of_forms setting.names setting.program fs) h),
      )
      placed_form (call_value fs) fits kept h = placed_forms fs fits.1 kept h
      placed_form (apply f list) fits kept h =
          (placed_form f fits.0 kept.0 (front (uses_in f) (uses_in list) h), placed_form list fits.1 kept.1 (behind (uses_in f) (uses_in list) h))
      placed_form (prim which fs) fits kept h = placed_forms fs fits.1 kept h
      placed_form (while_form test body) fits kept h =
          (placed_form test fits.0 kept.0 (front (uses_in test) (uses_in body) h), placed_form body fits.1 kept.1 (behind (uses_in test) (uses_in body) h))
      placed_form (block body) fits kept h = placed_form body fits kept h
      placed_form (return_from x f) fits kept h = placed_form f fits kept h
      placed_form (tagbody segments) fits kept h = (kept.0, placed_forms segments fits.1 kept.1 h)
      placed_form (go x segment) fits kept h = tt
      placed_form (catch_form tag body) fits kept h =
          (placed_form tag fits.0 kept.0 (front (uses_in tag) (uses_in body) h), placed_form body fits.1 kept.1 (behind (uses_in tag) (uses_in body) h))
      placed_form (throw tag f) fits kept h =
          (placed_form tag fits.0 kept.0 (front (uses_in tag) (uses_in f) h), placed_form f fits.1 kept.1 (behind (uses_in tag) (uses_in f) h))
      placed_form (unwind f cleanup) fits kept h =
          (placed_form f fits.0 kept.0 (front (uses_in f) (uses_in cleanup) h), placed_form cleanup fits.1 kept.1 (behind (uses_in f) (uses_in cleanup) h))
      placed_form (dynamic_let ds body) fits kept h = (
        placed_dynamics ds fits.0 kept.0 (front (uses_of_dynamics setting.names setting.program ds) (uses_in body) h),
        placed_form body fits.1 kept.1 (behind (uses_of_dynamics setting.names setting.program ds) (uses_in body) h),
      )
      placed_form (dynamic n) fits kept h = (h.0, h.1.0)
      placed_form (set_dynamic n f) fits kept h = (h.0, h.1.0, placed_form f fits kept h.1.1)
      placed_form (def_dynamic n f) fits kept h = (h.0, h.1.0, placed_form f fits kept h.1.1)
      placed_form (with_handler handler body) fits kept h =
          (placed_form handler fits.0 kept.0 (front (uses_in handler) (uses_in body) h), placed_form body fits.1 kept.1 (behind (uses_in handler) (uses_in body) h))
      placed_form (signal_form condition mark) fits kept h = (
        placed_form condition fits.0 kept.0 (front (uses_in condition) (uses_in mark) h),
        placed_form mark fits.1 kept.1 (behind (uses_in condition) (uses_in mark) h),
      )
      placed_form (continue_form condition f) fits kept h = (
        placed_form condition fits.0 kept.0 (front (uses_in condition) (uses_in f) h),
        placed_form f fits.1 kept.1 (behind (uses_in condition) (uses_in f) h),
      )
      placed_form (next_method m) fits kept h = tt
      placed_form (has_next m) fits kept h = tt
      placed_form (sited site f) fits kept h = placed_form f fits.2 kept h

      placed_forms : (fs : FlatForms) → FitForms setting.program fs → KeepForms keeps fs → AreKnown (uses_of_forms setting.names setting.program fs)
          → PlacedForms setting keeps fs
      placed_forms no_form fits kept h = tt
      placed_forms (form_and f fs) fits kept h = (
        placed_form f fits.0 kept.0 (front (uses_in f) (uses_of_forms setting.names setting.program fs) h),
        placed_forms fs fits.1 kept.1 (behind (uses_in f) (uses_of_forms setting.names setting.program fs) h),
      )

      placed_clauses : (cs : FlatClauses) → FitClauses setting.program cs → KeepClauses keeps cs → AreKnown (uses_of_clauses setting.names setting.program cs)
          → PlacedClauses setting keeps cs
      placed_clauses no_clause fits kept h = tt
      placed_clauses (clause_and test body cs) fits kept h =
          let others = behind (uses_in test) (uses_of_body setting.names setting.program body ++ uses_of_clauses setting.names setting.program cs) h in (
            placed_form test fits.0 kept.0 (front (uses_in test) (uses_of_body setting.names setting.program body ++ uses_of_clauses setting.names setting.program cs) h),
            placed_body body fits.1 kept.1 (front (uses_of_body setting.names setting.program body) (uses_of_clauses setting.names setting.program cs) others),
            placed_clauses cs fits.2 kept.2 (behind (uses_of_body setting.names setting.program body) (uses_of_clauses setting.names setting.program cs) others),
          )

      placed_body : (b : FlatBody) → FitBody setting.program b → KeepBody keeps b → AreKnown (uses_of_body setting.names setting.program b)
          → PlacedBody setting keeps b
      placed_body no_body fits kept h = tt
      placed_body (with_body f) fits kept h = placed_form f fits kept h

      placed_values : (bs : FlatBindings) → FitValues setting.program bs → KeepValues keeps bs → AreKnown (uses_of_values setting.names setting.program bs)
          → PlacedValues setting keeps bs
      placed_values no_binding fits kept h = tt
      placed_values (binding_and home f bs) fits kept h = (
        placed_form f fits.0 kept.0 (front (uses_in f) (uses_of_values setting.names setting.program bs) h),
        placed_values bs fits.1 kept.1 (behind (uses_in f) (uses_of_values setting.names setting.program bs) h),
      )

      placed_dynamics : (ds : FlatDynamics) → FitDynamics setting.program ds → KeepDynamics keeps ds → AreKnown (uses_of_dynamics setting.names setting.program ds)
          → PlacedDynamics setting keeps ds
      placed_dynamics no_dynamic fits kept h = tt
      placed_dynamics (dynamic_and n f ds) fits kept h = (
        h.0,
        placed_form f fits.0 kept.0 (front (uses_in f) (uses_of_dynamics setting.names setting.program ds) h.1),
        placed_dynamics ds fits.1 kept.1 (behind (uses_in f) (uses_of_dynamics setting.names setting.program ds) h.1),
      )

  -- all bodies
  placed_procedures : (qs : List FlatProcedure) → AllOf (λ (q : FlatProcedure). Fits setting.program q.body) qs
      → AllOf (λ (q : FlatProcedure). Keeps q.keeps_method q.body) qs → AreKnown (flat_map (λ (q : FlatProcedure). uses_in q.body) qs)
      → AllOf (λ (q : FlatProcedure). Placed setting q.keeps_method q.body) qs
  placed_procedures [] fits kept h = tt
  placed_procedures (q ∷ qs) fits kept h = (
    placed_form q.keeps_method q.body fits.0 kept.0 (front (uses_in q.body) (flat_map (λ (q : FlatProcedure). uses_in q.body) qs) h),
    placed_procedures qs fits.1 kept.1 (behind (uses_in q.body) (flat_map (λ (q : FlatProcedure). uses_in q.body) qs) h),
  )

  placed_mains : (fs : List FlatForm) → AllOf (Fits setting.program) fs → AllOf (Keeps true) fs → AreKnown (flat_map uses_in fs)
      → AllOf (Placed setting true) fs
  placed_mains [] fits kept h = tt
  placed_mains (f ∷ fs) fits kept h = (
    placed_form true f fits.0 kept.0 (front (uses_in f) (flat_map uses_in fs) h),
    placed_mains fs fits.1 kept.1 (behind (uses_in f) (flat_map uses_in fs) h),
  )

-- ---- each name that is used has its word

module _ (setting : Setting) (literals symbols : List ℕ) (has : HasWords setting literals symbols) (asked : NamesAsked setting.names setting.program) where
  global_given : (i n : ℕ) → slice_get (globals_among (program_uses setting.names setting.program)) i ≡ Some n → HasGlobal setting n
  global_given i n e =
      let below : n < length setting.names =
      all_at (λ n. n < length setting.names) (globals_among (program_uses setting.names setting.program)) i n asked.globals e in
      let word =
      word_given (text setting.names) variables_address (length setting.names) (global_names setting.names setting.program) n below
      (one_found (text setting.names) (globals_among (program_uses setting.names setting.program)) i n e) in
      omega (arith, word, global_is setting literals symbols has n)

  dynamic_given : (i n : ℕ) → slice_get (dynamics_among (program_uses setting.names setting.program)) i ≡ Some n → HasDynamic setting n
  dynamic_given i n e =
      let below : n < length setting.names =
      all_at (λ n. n < length setting.names) (dynamics_among (program_uses setting.names setting.program)) i n asked.dynamics e in
      let word =
      word_given (text setting.names) (dynamics_from setting.names setting.program) (length setting.names) (dynamic_names setting.names setting.program) n below
      (one_found (text setting.names) (dynamics_among (program_uses setting.names setting.program)) i n e) in
      omega (arith, word, dynamic_is setting literals symbols has n)

  all_uses : SymbolsGiven setting.names setting.program symbols
      → AllOf (Known (HasGlobal setting) (HasDynamic setting) (HasSymbol setting)) (program_uses setting.names setting.program)
  all_uses given =
      all_known (HasGlobal setting) (HasDynamic setting) (HasSymbol setting) (program_uses setting.names setting.program)
      (all_places (HasGlobal setting) (globals_among (program_uses setting.names setting.program)) global_given)
      (all_places (HasDynamic setting) (dynamics_among (program_uses setting.names setting.program)) dynamic_given)
      (all_map (λ n. symbol_among symbols n ≢ nil_word) (HasSymbol setting) (λ n h. subst (λ w. w ≢ nil_word) (symbol_is setting literals symbols has n) h)
      (symbols_among (program_uses setting.names setting.program)) given)

pub placed_programs : LawOfPlacedPrograms
placed_programs setting literals symbols has stand fits rows asked given forms =
    let known = all_uses setting literals symbols has asked given in
    let procedures : List Use = flat_map (λ (q : FlatProcedure). uses setting.names setting.program q.body) setting.program.procedures in
    let lambdas : List Use = flat_map (λ (q : FlatProcedure). uses setting.names setting.program q.body) setting.program.lambdas in
    let main : List Use = flat_map (uses setting.names setting.program) setting.program.main in
    let generics : List Use = map (λ (g : GenericRow). as_symbol g.name.0) setting.program.generics in
    let P : Use → Type 0 = Known (HasGlobal setting) (HasDynamic setting) (HasSymbol setting) in
    let behind_procedures : AllOf P (lambdas ++ (main ++ generics)) = all_behind P procedures (lambdas ++ (main ++ generics)) known in
    let behind_lambdas : AllOf P (main ++ generics) = all_behind P lambdas (main ++ generics) behind_procedures in
    record {
      placed = placed_here setting literals symbols has stand rows given;
      procedures = placed_procedures setting rows setting.program.procedures fits.procedures forms.procedures (all_front P procedures (lambdas ++ (main ++ generics)) known);
      lambdas = placed_procedures setting rows setting.program.lambdas fits.lambdas forms.lambdas (all_front P lambdas (main ++ generics) behind_procedures);
      main = placed_mains setting rows setting.program.main fits.main forms.main (all_front P main generics behind_lambdas);
    }
