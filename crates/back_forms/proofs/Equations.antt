-- The code of each shape of forms.
use Rattle.std.proofs.Common.{◌≡◌, ℕ, ◌+◌, List, [], ◌∷◌, ◌++◌, length, add-one, refl, ap, ◌∙◌}
use Rattle.lang_meaning.specs.declared.primitive.Primitive.{Primitive}
use Rattle.lang_meaning.specs.Lookup.{text}
use Rattle.lang_meaning.specs.Literals.{function_row}
use Rattle.flat_language.specs.FlatForm.{FlatForm, FlatForms, FlatClauses, clauses, sequence, make_function, call, call_value, prim, block, catch_form, with_handler, sited}
use Rattle.flat_language.specs.FlatNodes.{count_forms, count_dynamics}
use Rattle.flat_language.specs.declared.flat_core.FlatDynBinding.{FlatDynBinding}
use Rattle.flat_language.specs.declared.place.FlatCapture.{FlatCapture}
use Rattle.flat_language.specs.model.View.{forms, dynamics_of}
use Rattle.back_lowering.specs.declared.scope.Scope.{Scope}
use Rattle.back_lowering.specs.Placement.{routines_from}
use Rattle.back_lowering.specs.Primitives.{apply_primitive, judge_primitive}
use Rattle.back_lowering.specs.Scope.{with_exit, at_site}
use Rattle.back_lowering.specs.Records.{block_code, catch_code}
use Rattle.back_lowering.specs.Calls.{call_name}
use Rattle.back_lowering.specs.Codes.{lower, function_code, with_two, with_handler_code}
use Rattle.back_calls.specs.declared.given.Given.{Given}
use Rattle.back_forms.specs.declared.shapes.Leaf.{Leaf}
use Rattle.back_forms.specs.declared.shapes.Leaf.TheVariants as leaf
use Rattle.back_forms.specs.declared.shapes.OverForm.{OverForm}
use Rattle.back_forms.specs.declared.shapes.OverForm.TheVariants as one
use Rattle.back_forms.specs.declared.shapes.OverTwo.{OverTwo}
use Rattle.back_forms.specs.declared.shapes.OverTwo.TheVariants as two
use Rattle.back_forms.specs.Shapes.{leaf_form, over_form, over_two, leaf_code, behind_form, routine_of}
use Rattle.back_forms.specs.Lowers.{low, low_sequence, low_arguments, low_call_value, low_clauses}

-- how many there are

pub counted : (fs : List FlatForm) → count_forms (forms fs) ≡ length fs
counted [] = refl
counted (f ∷ fs) = ap (λ (n : ℕ). n + 1) (counted fs) ∙ add-one (length fs)

pub counted_dynamics : (ds : List FlatDynBinding) → count_dynamics (dynamics_of ds) ≡ length ds
counted_dynamics [] = refl
counted_dynamics (b ∷ ds) = ap (λ (n : ℕ). n + 1) (counted_dynamics ds) ∙ add-one (length ds)

module _ (g : Given) (s : Scope) (d : ℕ) where
  pub leaf_is : (l : Leaf) → (low g s d (leaf_form l)).value ≡ leaf_code g s d l
  unfolding lower
  leaf_is (leaf.Literal id) = refl
  leaf_is (leaf.Local place) = refl
  leaf_is (leaf.Global name) = refl
  leaf_is (leaf.Go place segment) = refl
  leaf_is (leaf.Dynamic name) = refl
  leaf_is (leaf.NextMethod place) = refl
  leaf_is (leaf.HasNext place) = refl

  pub function_is : (p : ℕ) (parts : List FlatCapture)
      → (low g s d (make_function p parts)).value ≡ function_code g.names.now g.at.now g.program.now s d p parts
  unfolding lower
  function_is p parts = refl

  pub over_is : (k : OverForm) (f : FlatForm) → (low g s d (over_form k f)).value ≡ (low g s d f).value ++ behind_form g s d k
  unfolding lower
  over_is (one.SetLocal place) f = refl
  over_is (one.SetGlobal name) f = refl
  over_is (one.DefGlobal name) f = refl
  over_is (one.Return place) f = refl
  over_is (one.SetDynamic name) f = refl
  over_is (one.DefDynamic name) f = refl

  pub two_is : (k : OverTwo) (f h : FlatForm)
      → (low g s d (over_two k f h)).value
      ≡ (low g s d f).value ++ ((low g s (d + 1) h).value ++ with_two g.names.now g.at.now g.program.now s.site d (routines_from g.at.now + routine_of k))
  unfolding lower
  two_is two.Apply f h = refl
  two_is two.Throw f h = refl
  two_is two.Signal f h = refl
  two_is two.Continue f h = refl

  pub clauses_is : (cs : FlatClauses) → (low g s d (clauses cs)).value ≡ low_clauses g s d cs
  unfolding lower
  clauses_is cs = refl

  pub sequence_is : (fs : FlatForms) → (low g s d (sequence fs)).value ≡ low_sequence g s d fs
  unfolding lower
  sequence_is fs = refl

  pub call_is : (n : ℕ) (fs : List FlatForm)
      → (low g s d (call n (forms fs))).value
      ≡ low_arguments g s d (forms fs)
      ++ call_name g.at.now g.program.now n (function_row g.names.now g.program.now.functions (text g.names.now n)) (length fs) d s.site
  unfolding lower
  call_is n fs =
      ap (λ (k : ℕ). low_arguments g s d (forms fs)
      ++ call_name g.at.now g.program.now n (function_row g.names.now g.program.now.functions (text g.names.now n)) k d s.site)
      (counted fs)

  pub call_value_is : (fs : FlatForms) → (low g s d (call_value fs)).value ≡ low_call_value g s d fs
  unfolding lower
  call_value_is fs = refl

  pub prim_is : (p : Primitive) (fs : List FlatForm)
      → (low g s d (prim p (forms fs))).value
      ≡ low_arguments g s d (forms fs) ++ apply_primitive g.at.now g.program.now.literals p (forms fs) (length fs) d s.site
  unfolding lower
  prim_is p fs =
      ap (λ (k : ℕ). low_arguments g s d (forms fs) ++ apply_primitive g.at.now g.program.now.literals p (forms fs) k d s.site) (counted fs)

  pub prim_ready : (p : Primitive) (fs : List FlatForm)
      → (low g s d (prim p (forms fs))).judged.ready
      ≡ low_arguments g s d (forms fs) ++ (judge_primitive g.at.now g.program.now.literals p (forms fs) (length fs) d s.site).ready
  unfolding lower
  prim_ready p fs =
      ap (λ (k : ℕ). low_arguments g s d (forms fs) ++ (judge_primitive g.at.now g.program.now.literals p (forms fs) k d s.site).ready) (counted fs)

  pub prim_test : (p : Primitive) (fs : List FlatForm)
      → (low g s d (prim p (forms fs))).judged.test ≡ (judge_primitive g.at.now g.program.now.literals p (forms fs) (length fs) d s.site).test
  unfolding lower
  prim_test p fs =
      ap (λ (k : ℕ). (judge_primitive g.at.now g.program.now.literals p (forms fs) k d s.site).test) (counted fs)

  pub block_is : (body : FlatForm) → (low g s d (block body)).value ≡ block_code d (low g (with_exit d (d + 1) s) (d + 6) body).value
  unfolding lower
  block_is body = refl

  pub catch_is : (tag body : FlatForm)
      → (low g s d (catch_form tag body)).value ≡ (low g s d tag).value ++ catch_code d (low g s (d + 6) body).value
  unfolding lower
  catch_is tag body = refl

  pub handler_is : (handler body : FlatForm)
      → (low g s d (with_handler handler body)).value
      ≡ (low g s d handler).value ++ with_handler_code g.names.now g.at.now g.program.now s.site d (low g s (d + 3) body).value
  unfolding lower
  handler_is handler body = refl

  pub sited_is : (site : ℕ) (f : FlatForm) → low g s d (sited site f) ≡ low g (at_site site s) d f
  unfolding lower
  sited_is site f = refl
