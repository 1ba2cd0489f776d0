-- The registers that the code of single forms names, beside the code of the forms in them.
use Rattle.std.proofs.Common.{◌≡◌, ℕ, ◌+◌, ◌*◌, List, [], ◌∷◌, Option, Some, None, refl, arith}
use Rattle.std.specs.Prelude.{slice_get}
use Rattle.base.specs.AllOf.{AllOf}
use Rattle.lang_meaning.specs.declared.program.LiteralRow.{LiteralRow}
use Rattle.lang_meaning.specs.declared.program.LiteralRow.TheVariants as row
use Rattle.lang_meaning.specs.declared.program.FunctionRow.{FunctionRow}
use Rattle.lang_meaning.specs.Objects.{function_class, undefined_function_class, unbound_variable_class}
use Rattle.lang_meaning.specs.Lookup.{text}
use Rattle.lang_meaning.specs.Literals.{function_row}
use Rattle.flat_language.specs.declared.place.ExitPlace.{ExitPlace}
use Rattle.flat_language.specs.declared.place.ExitPlace.TheVariants as exit_place
use Rattle.flat_language.specs.declared.place.MethodPlace.{MethodPlace}
use Rattle.flat_language.specs.declared.place.MethodPlace.TheVariants as method_place
use Rattle.flat_language.specs.declared.place.FlatCapture.{FlatCapture}
use Rattle.flat_language.specs.declared.place.FlatCapture.TheVariants as part
use Rattle.flat_language.specs.declared.program.FlatProgram.{FlatProgram}
use Rattle.flat_language.specs.FlatForm.{FlatDynamics, no_dynamic, dynamic_and}
use Rattle.flat_language.specs.FlatNodes.{count_dynamics}
use Rattle.mid_arena.specs.FixedWords.{true_address}
use Rattle.back_lowering.specs.ControlWords.{binding_variable, binding_value, binding_outer, binding_words}
use Rattle.back_lowering.specs.declared.scope.SitePlace.{SitePlace}
use Rattle.back_lowering.specs.declared.scope.OwnExit.{OwnExit}
use Rattle.back_lowering.specs.declared.scope.Scope.{Scope}
use Rattle.back_lowering.specs.Placement.{symbol_word, global_address, dynamic_address}
use Rattle.back_lowering.specs.declared.placement.Placement.{Placement}
use Rattle.back_lowering.specs.Steps.{Steps}
use Rattle.back_lowering.specs.Codes.{innermost, literal_code, if_bound, global_code, set_global_code, def_global_code, binding_into, dynamic_code, set_dynamic_code, def_dynamic_code, part_into, parts_stored, function_code, method_into, next_code, has_next_code, exit_code, bindings_laid, dynamic_let_code, with_handler_code, with_two}
use Rattle.back_frames.proofs.Naming.{Names, Range, narrowed, none, ◌▸◌, ◌⊹◌, moves, constants, computes, loads, stores, requests, calls, chooses, blocks}
use Rattle.back_frames.proofs.Surroundings.{ExitAllowed, MethodAllowed, SiteAllowed, Around, PlaceAllowed, PartAllowed}
use Rattle.back_frames.proofs.LeafNames.{load_from_names, store_to_names, store_far_names, site_names, failing_with_names, domain_names, captured_names, captured_variable_names, exit_into_names}
use Rattle.back_frames.proofs.RecordNames.{serial_code_names, own_names}

module _ (names : List (List ℕ)) (at : Placement) (program : FlatProgram) where
  pub literal_names : {P : ℕ → Type 0} (site : SitePlace) (d id : ℕ) (o : Option LiteralRow) → SiteAllowed P site → P d → P (d + 1)
      → Names P (literal_code names at program site d id o)
  literal_names {P} site d id (Some (row.Function name)) s a b = by (function_row names program.functions (text names name.0)) refl
    where
      by : (o : Option FunctionRow) → function_row names program.functions (text names name.0) ≡ o → Names P (literal_code names at program site d id (Some (row.Function name)))
      by (Some f) e = rw e (constants a ▸ none)
      by None e = rw e (failing_with_names at site d undefined_function_class (symbol_word at name.0) s a b)
  literal_names site d id (Some (row.Datum x)) s a b = constants a ▸ none
  literal_names site d id (Some (row.Class c)) s a b = constants a ▸ none
  literal_names site d id None s a b = constants a ▸ none

  bound_names : {P : ℕ → Type 0} (site : SitePlace) (d name : ℕ) → SiteAllowed P site → P d → P (d + 1) → Names P (if_bound names at program site d name)
  bound_names site d name s a b =
      constants b ▸ chooses a b (failing_with_names at site d unbound_variable_class (symbol_word at name) s a b) none ▸ none

  pub global_names : {P : ℕ → Type 0} (site : SitePlace) (d name : ℕ) → SiteAllowed P site → P d → P (d + 1) → Names P (global_code names at program site d name)
  global_names site d name s a b = load_from_names d d (global_address at name) a a ⊹ bound_names site d name s a b

  pub set_global_names : {P : ℕ → Type 0} (site : SitePlace) (d name : ℕ) → SiteAllowed P site → P d → P (d + 1) → P (d + 2)
      → Names P (set_global_code names at program site d name)
  set_global_names site d name s a b c =
      load_from_names (d + 1) (d + 1) (global_address at name) b b
      ⊹ constants c
      ▸ chooses b c (failing_with_names at site d unbound_variable_class (symbol_word at name) s a b) (store_to_names d (d + 1) (global_address at name) a b) ▸ none

  pub def_global_names : {P : ℕ → Type 0} (d name : ℕ) → P d → P (d + 1) → Names P (def_global_code names at program d name)
  def_global_names d name a b = store_to_names d (d + 1) (global_address at name) a b ⊹ constants a ▸ none

  binding_names : {P : ℕ → Type 0} (t name : ℕ) → P t → Names P (binding_into names at program t name)
  binding_names t name a = constants a ▸ calls a (a, tt) ▸ none

  pub dynamic_names : {P : ℕ → Type 0} (site : SitePlace) (d name : ℕ) → SiteAllowed P site → P d → P (d + 1) → Names P (dynamic_code names at program site d name)
  dynamic_names site d name s a b = binding_names d name a ⊹ loads a a ▸ bound_names site d name s a b

  pub set_dynamic_names : {P : ℕ → Type 0} (site : SitePlace) (d name : ℕ) → SiteAllowed P site → P d → P (d + 1) → P (d + 2) → P (d + 3)
      → Names P (set_dynamic_code names at program site d name)
  set_dynamic_names site d name s a b c e =
      binding_names (d + 1) name b
      ⊹ loads c b ▸ constants e
      ▸ chooses c e (failing_with_names at site d unbound_variable_class (symbol_word at name) s a b) (stores a b ▸ none) ▸ none

  pub def_dynamic_names : {P : ℕ → Type 0} (d name : ℕ) → P d → P (d + 1) → Names P (def_dynamic_code names at program d name)
  def_dynamic_names d name a b = store_to_names d (d + 1) (dynamic_address at name) a b ⊹ constants a ▸ none

  -- functions

  part_names : {P : ℕ → Type 0} (s : Scope) (t : ℕ) (p : FlatCapture) → Around P s → PartAllowed P s p → P t → Names P (part_into names at program s t p)
  part_names s t (part.Variable p) around h a = captured_variable_names s t p around.function h a
  part_names s t (part.Exit x) around h a = exit_into_names s t x around.function h a
  part_names {P} s t (part.Method (method_place.Captured n)) around h a = captured_names s t n around.function a
  part_names {P} s t (part.Method method_place.Own) around h a = by s.method refl around.method
    where
      by : (o : Option ℕ) → s.method ≡ o → MethodAllowed P o → Names P (part_into names at program s t (part.Method method_place.Own))
      by None e m = rw e (constants a ▸ none)
      by (Some r) e m = rw e (constants a ▸ chooses m.0 a none (constants a ▸ computes a m.2 a ▸ none) ▸ none)

  parts_names : {P : ℕ → Type 0} (s : Scope) (d t offset : ℕ) (ps : List FlatCapture) → Around P s → AllOf (PartAllowed P s) ps → P d → P t → P (t + 1)
      → Names P (parts_stored names at program s d t offset ps)
  parts_names s d t offset [] around h a b c = none
  parts_names s d t offset (p ∷ ps) around h a b c =
      part_names s t p around h.0 b ⊹ store_far_names t d (t + 1) offset b a c ⊹ parts_names s d t (offset + 4) ps around h.1 a b c

  pub function_names : {P : ℕ → Type 0} (s : Scope) (d p : ℕ) (parts : List FlatCapture) → Around P s → AllOf (PartAllowed P s) parts → P d → P (d + 1) → P (d + 1 + 1)
      → Names P (function_code names at program s d p parts)
  function_names s d p parts around h a b c =
      constants a ▸ requests a a ▸ constants b ▸ stores b a ▸ constants b ▸ stores b a
      ▸ parts_names s d (d + 1) 8 parts around h a b c
      ⊹ constants b ▸ computes a a b ▸ none

  -- methods

  method_names : {P : ℕ → Type 0} (s : Scope) (t : ℕ) (m : MethodPlace) → Around P s → P t → P (t + 1) → P (t + 2) → P (t + 3)
      → Names P (method_into names at program s t m)
  method_names {P} s t method_place.Own around a b c e = by s.method refl around.method
    where
      by : (o : Option ℕ) → s.method ≡ o → MethodAllowed P o → Names P (method_into names at program s t method_place.Own)
      by None f m = rw f (constants a ▸ constants b ▸ constants c ▸ none)
      by (Some r) f m = rw f (moves a m.0 ▸ moves b m.1 ▸ moves c m.2 ▸ none)
  method_names s t (method_place.Captured n) around a b c e =
      captured_names s (t + 2) n around.function c
      ⊹ constants a ▸ chooses c a (constants b ▸ none) (loads a c ▸ loads b c ▸ constants e ▸ computes c c e ▸ none) ▸ none

  pub next_names : {P : ℕ → Type 0} (s : Scope) (d : ℕ) (m : MethodPlace) → Around P s → Range P d 5 → Names P (next_code names at program s d m)
  next_names s d m around all =
      let a = all d (omega arith) (omega arith) in
      let b = all (d + 1) (omega arith) (omega arith) in
      let c = all (d + 2) (omega arith) (omega arith) in
      let e = all (d + 3) (omega arith) (omega arith) in
      method_names s d m around a b c e ⊹ site_names s.site (d + 3) (d + 4) around.site e (all (d + 4) (omega arith) (omega arith)) ⊹ calls a (a, (b, (c, tt))) ▸ none

  pub has_next_names : {P : ℕ → Type 0} (s : Scope) (d : ℕ) (m : MethodPlace) → Around P s → Range P d 4 → Names P (has_next_code names at program s d m)
  has_next_names s d m around all =
      let a = all d (omega arith) (omega arith) in
      let b = all (d + 1) (omega arith) (omega arith) in
      method_names s d m around a b (all (d + 2) (omega arith) (omega arith)) (all (d + 3) (omega arith) (omega arith))
      ⊹ constants b
      ▸ chooses a b (constants a ▸ none) (loads a a ▸ constants b ▸ chooses a b (constants a ▸ none) (load_from_names d d true_address a a) ▸ none) ▸ none

  -- exits

  pub exit_code_names : {P : ℕ → Type 0} (s : Scope) (d landing : ℕ) (x : ExitPlace) → Around P s → PlaceAllowed P s x → Range P d 4
      → Names P (exit_code names at program s d landing x)
  exit_code_names s d landing (exit_place.Captured n) around h all =
      let b = all (d + 1) (omega arith) (omega arith) in
      serial_code_names at s.site _ d (d + 1) landing around.site (captured_names s (d + 1) n around.function b) (all d (omega arith) (omega arith)) b
      (all (d + 1 + 1) (omega arith) (omega arith)) (all (d + 1 + 2) (omega arith) (omega arith))
  exit_code_names {P} s d landing (exit_place.Own n) around h all = by (slice_get s.exits n) refl h
    where
      by : (o : Option OwnExit) → slice_get s.exits n ≡ o → ExitAllowed P o → Names P (exit_code names at program s d landing (exit_place.Own n))
      by None e g =
          let a : P d = all d (omega arith) (omega arith) in
          let b : P (d + 1) = all (d + 1) (omega arith) (omega arith) in
          let c : P (d + 1 + 1) = all (d + 1 + 1) (omega arith) (omega arith) in
          let i : P (d + 1 + 2) = all (d + 1 + 2) (omega arith) (omega arith) in
          rw e (serial_code_names at s.site _ d (d + 1) landing around.site (constants b ▸ none) a b c i)
      by (Some x) e g =
          let a : P d = all d (omega arith) (omega arith) in
          let b : P (d + 1) = all (d + 1) (omega arith) (omega arith) in
          let c : P (d + 1 + 1) = all (d + 1 + 1) (omega arith) (omega arith) in
          let i : P (d + 1 + 2) = all (d + 1 + 2) (omega arith) (omega arith) in
          rw e (own_names at s.site x d (d + 1) landing around.site g.0 g.1 a b c i)

  -- dynamic bindings and handlers

  innermost_allowed : (P : ℕ → Type 0) (b old : ℕ) (ds : FlatDynamics) → P b → P old → P (innermost b old ds)
  innermost_allowed P b old no_dynamic x y = y
  innermost_allowed P b old (dynamic_and name f ds) x y = x

  bindings_names : {P : ℕ → Type 0} (d b old t offset : ℕ) (ds : FlatDynamics) → Range P d (count_dynamics ds) → P b → P old → P t → P (t + 1)
      → Names P (bindings_laid names at program d b old t offset ds)
  bindings_names d b old t offset no_dynamic all x y z u = none
  bindings_names {P} d b old t offset (dynamic_and name f no_dynamic) all x y z u =
      let d0 : P d = all d (omega arith) (omega arith) in
      constants z ▸ store_far_names t b (t + 1) (offset + binding_variable) z x u ⊹ store_far_names d b (t + 1) (offset + binding_value) d0 x u
      ⊹ moves z y ▸ store_far_names t b (t + 1) (offset + binding_outer) z x u ⊹ none
  bindings_names {P} d b old t offset (dynamic_and name f (dynamic_and other g ds)) all x y z u =
      let d0 : P d = all d (omega arith) (omega arith) in
      constants z ▸ store_far_names t b (t + 1) (offset + binding_variable) z x u ⊹ store_far_names d b (t + 1) (offset + binding_value) d0 x u
      ⊹ constants z ▸ computes z z x ▸ store_far_names t b (t + 1) (offset + binding_outer) z x u
      ⊹ bindings_names (d + 1) b old t (offset + 4 * binding_words) (dynamic_and other g ds)
      (narrowed d (count_dynamics (dynamic_and other g ds) + 1) (d + 1) (count_dynamics (dynamic_and other g ds)) all (omega arith) (omega arith)) x y z u

  pub dynamic_let_names : {P : ℕ → Type 0} (d : ℕ) (ds : FlatDynamics) (body : Steps) → Range P d (count_dynamics ds + 4) → Names P body
      → Names P (dynamic_let_code names at program d (count_dynamics ds) ds body)
  dynamic_let_names {P} d ds body all inner =
      let d0 = all d (omega arith) (omega arith) in
      let b = all (d + count_dynamics ds) (omega arith) (omega arith) in
      let old = all (d + count_dynamics ds + 1) (omega arith) (omega arith) in
      let t = all (d + count_dynamics ds + 2) (omega arith) (omega arith) in
      blocks b d0
      (constants t ▸ loads old t
      ▸ bindings_names d (d + count_dynamics ds) (d + count_dynamics ds + 1) (d + count_dynamics ds + 2) 0 ds
      (narrowed d (count_dynamics ds + 4) d (count_dynamics ds) all (omega arith) (omega arith)) b old t
      (all (d + count_dynamics ds + 2 + 1) (omega arith) (omega arith))
      ⊹ constants t ▸ stores (innermost_allowed P (d + count_dynamics ds) (d + count_dynamics ds + 1) ds b old) t
      ▸ inner
      ⊹ constants d0 ▸ stores old d0 ▸ moves d0 t ▸ none)
      none
      ▸ none

  pub two_names : {P : ℕ → Type 0} (site : SitePlace) (d routine : ℕ) → SiteAllowed P site → Range P d 4 → Names P (with_two names at program site d routine)
  two_names site d routine s all =
      let a = all d (omega arith) (omega arith) in
      site_names site (d + 2) (d + 3) s (all (d + 2) (omega arith) (omega arith)) (all (d + 3) (omega arith) (omega arith))
      ⊹ calls a (a, (all (d + 1) (omega arith) (omega arith), tt)) ▸ none

  pub handler_names : {P : ℕ → Type 0} (site : SitePlace) (d : ℕ) (body : Steps) → SiteAllowed P site → Range P d 4 → Names P body
      → Names P (with_handler_code names at program site d body)
  handler_names site d body s all inner =
      let a = all d (omega arith) (omega arith) in
      let b = all (d + 1) (omega arith) (omega arith) in
      let c = all (d + 2) (omega arith) (omega arith) in
      let e = all (d + 3) (omega arith) (omega arith) in
      calls b (a, tt) ▸ constants c
      ▸ chooses b c
      (domain_names at site (d + 1) d function_class s b (all (d + 1 + 1) (omega arith) (omega arith)) a ⊹ moves a b ▸ none)
      (blocks b a
      (stores a b ▸ constants a ▸ loads c a ▸ stores c b ▸ stores b a ▸ inner ⊹ constants a ▸ stores c a ▸ moves a e ▸ none)
      none
      ▸ none)
      ▸ none
