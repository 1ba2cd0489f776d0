-- All literals: those that are there, and names that have no function.
use Rattle.std.proofs.Common.{◌≡◌, ℕ, ◌+◌, ◌<◌, ◌≤◌, [], ◌∷◌, length, Option, Some, None, refl, sym, ap, ◌∙◌, subst, arith}
use Rattle.std.specs.Prelude.{slice_get}
use Rattle.lang_meaning.specs.declared.program.FunctionRow.{FunctionRow}
use Rattle.lang_meaning.specs.declared.program.LiteralRow.{LiteralRow}
use Rattle.lang_meaning.specs.declared.program.LiteralRow.TheVariants as row
use Rattle.lang_meaning.specs.Literals.{function_row}
use Rattle.lang_meaning.specs.Lookup.{text}
use Rattle.lang_meaning.specs.Objects.{undefined_function_class}
use Rattle.lang_meaning.specs.Values.{symbol, named}
use Rattle.base.specs.declared.datum.Name.{Name}
use Rattle.lang_meaning.specs.InitialHeap.{function_value}
use Rattle.flat_language.specs.FlatForm.{literal}
use Rattle.flat_language.specs.FlatNodes.{tables}
use Rattle.flat_language.specs.FlatMeaning.{mean, mean_literal}
use Rattle.flat_language.specs.FlatSignals.{signal, undefined_function}
use Rattle.flat_language.specs.FlatSignals.{with_some as flat_with_some}
use Rattle.flat_language.specs.FlatState.{charged, gives}
use Rattle.mid_code.specs.MidCode.{code_of}
use Rattle.back_lowering.specs.Codes.{lower, literal_code}
use Rattle.back_lowering.specs.Leaves.{failing_with, site_stored}
use Rattle.back_lowering.specs.Placement.{symbol_word}
use Rattle.back_lowering.specs.Registers.{of_code, enough_for}
use Rattle.back_lowering.specs.Routines.{failing_with_routine}
use Rattle.back_lowering.specs.Steps as steps
use Rattle.back_lowering.specs.Steps.{Steps, constant}
use Rattle.back_relation.specs.Setting.{Setting}
use Rattle.back_relation.specs.Activation.{FormScope}
use Rattle.back_relation.specs.Forms.{context_at}
use Rattle.back_relation.specs.Placed.{HasSymbol, LiteralPlaced}
use Rattle.back_relation.specs.Room.{words_for_literal, routine_words}
use Rattle.back_relation.specs.Points.{Point, start_at, run, Here}
use Rattle.back_relation.specs.Starts.{Start, EndsAt}
use Rattle.back_relation.proofs.Fitting.{registers_behind}
use Rattle.back_relation.proofs.Leaves.{literals_law}
use Rattle.back_relation.proofs.Starts.{start_charged, ends_sparing}
use Rattle.back_values.specs.Globals.{FailsHere, named_credit}
use Rattle.back_values.proofs.Variables.{there_is}
use Rattle.back_values.specs.Sites.{LawOfWholeLiterals}
use Rattle.back_values.proofs.Wholes.{point, step_fits, rest_fits}
use Rattle.back_values.specs.Wholes.{FailingWithClaims}
use Rattle.back_values.proofs.Failing.{undefined_built_in, fails_here}

module _ (setting : Setting) (s : FormScope) (d m size k turns i : ℕ) where
  -- a name without a function
  undefined_here :
      (name : ℕ) → ((q : Point setting s d m size) → mean_literal (context_at setting k) i (slice_get setting.program.literals i) q.around q.z
      ≡ signal (context_at setting k) undefined_function_class (symbol (named (text setting.names name)) ∷ []) q.around q.z)
      → literal_code setting.names setting.at setting.program s.code.site d i (slice_get setting.program.literals i)
      ≡ failing_with setting.at s.code.site d undefined_function_class (symbol_word setting.at name)
      → FailsHere setting s d m size k turns undefined_function_class name → Here setting s d m size k turns (literal i)
  unfolding mean lower
  undefined_here name means code fails q =
      let a : Start setting = start_charged setting (start_at setting s d m size turns q) 1 in
      let b : Point setting s d m size = record {
        rs = q.rs;
        valid = q.valid;
        w = q.w;
        env = q.env;
        around = q.around;
        z = charged 1 q.z;
        regs = q.regs;
        y = q.y;
        begins = a.begins;
        count = q.count;
      } in
      ends_sparing setting {c1 = named_credit} (start_at setting s d m size turns q) 1 (omega arith) (omega arith)
      (subst (λ r. EndsAt setting named_credit a r (run setting s d m size k turns (literal_code setting.names setting.at setting.program s.code.site d i (slice_get setting.program.literals i)) q.regs q.y))
      (sym (means b))
      (subst (λ ss. EndsAt setting named_credit a (signal (context_at setting k) undefined_function_class (symbol (named (text setting.names name)) ∷ []) q.around (charged 1 q.z)) (run setting s d m size k turns ss q.regs q.y))
      (sym code) (fails b)))

-- a name without a function has a symbol, and its code has the words of routines
placed_symbol :
    (setting : Setting) (name : Name) → function_row setting.names setting.program.functions (text setting.names name.0) ≡ None
    → LiteralPlaced setting (Some (row.Function name)) → HasSymbol setting name.0
placed_symbol setting name e h = rw e at h

undefined_words :
    (setting : Setting) (name : Name) (m : ℕ) → function_row setting.names setting.program.functions (text setting.names name.0) ≡ None
    → words_for_literal setting.names setting.program (Some (row.Function name)) ≤ m → routine_words ≤ m
undefined_words setting name m e h = rw e at h

failing_fits : (setting : Setting) (s : FormScope) (d class word size : ℕ) → enough_for (of_code (code_of (failing_with setting.at s.code.site d class word))) ≤ size → d + 1 < size
failing_fits setting s d class word size h =
    let last : Steps = steps.call d (failing_with_routine setting.at) (d ∷ (d + 1) ∷ []) ∷ [] in
    let behind_site = registers_behind (site_stored s.code.site d (d + 1)) (constant d class ∷ constant (d + 1) word ∷ last) size h in
    let one = step_fits (constant (d + 1) word) last size (rest_fits (constant d class) (constant (d + 1) word ∷ last) size behind_site) in
    omega (arith, one)

module _ (setting : Setting) (k turns : ℕ) (fails : FailingWithClaims setting k turns) (s : FormScope) (d m size i : ℕ) where
  any_here :
      (l : LiteralRow) → slice_get setting.program.literals i ≡ Some l → LiteralPlaced setting (slice_get setting.program.literals i)
      → enough_for (of_code (code_of (literal_code setting.names setting.at setting.program s.code.site d i (slice_get setting.program.literals i)))) ≤ size
      → words_for_literal setting.names setting.program (slice_get setting.program.literals i) ≤ m → Here setting s d m size k turns (literal i)
  any_here (row.Datum e) at placed registers words = literals_law setting s d m size k turns i (row.Datum e) at tt
  any_here (row.Class c) at placed registers words = literals_law setting s d m size k turns i (row.Class c) at tt
  any_here (row.Function name) at placed registers words = by (function_row setting.names setting.program.functions (text setting.names name.0)) refl
    where
      by : (o : Option FunctionRow) → function_row setting.names setting.program.functions (text setting.names name.0) ≡ o → Here setting s d m size k turns (literal i)
      by (Some f) e = literals_law setting s d m size k turns i (row.Function name) at (f, e)
      by None e =
          let code : literal_code setting.names setting.at setting.program s.code.site d i (slice_get setting.program.literals i)
          ≡ failing_with setting.at s.code.site d undefined_function_class (symbol_word setting.at name.0) =
          ap (literal_code setting.names setting.at setting.program s.code.site d i) at ∙ rw e refl in
          let there = failing_fits setting s d undefined_function_class (symbol_word setting.at name.0) size (subst (λ ss. enough_for (of_code (code_of ss)) ≤ size) code registers) in
          undefined_here setting s d m size k turns i name.0
          (λ q.
          ap (λ o. mean_literal (context_at setting k) i o q.around q.z) at
          ∙ ap (λ o. flat_with_some o (undefined_function (signal (context_at setting k)) (text setting.names name.0))
          (λ g a y. gives (function_value setting.names (tables setting.program) (text setting.names name.0)) y) q.around q.z) e)
          code
          (fails_here setting k turns undefined_function_class fails undefined_built_in s d m size name.0 (placed_symbol setting name e (subst (λ o. LiteralPlaced setting o) at placed)) there
          (undefined_words setting name m e (subst (λ o. words_for_literal setting.names setting.program o ≤ m) at words)))

pub whole_literals : (setting : Setting) (k turns : ℕ) → LawOfWholeLiterals setting k turns
unfolding lower
whole_literals setting k turns i fails rs valid s d n first w env around z regs y stands begins registers words =
    let l = there_is setting.program.literals i stands.fits in
    any_here setting k turns fails s d n (length regs) i l.0 l.1 stands.placed registers words (point setting k turns rs valid s d n w env around z regs y begins)
