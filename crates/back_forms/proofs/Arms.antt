-- The code of each shape of forms, from the code of its parts.
use Rattle.std.proofs.Common.{◌≡◌, ℕ, suc, map, ◌+◌, ◌-◌, ◌<◌, ◌≤◌, Bool, true, false, List, [], ◌∷◌, ◌++◌, Option, Some, None, length, drop, slice_get, add-one, refl, ap, sym, ◌∙◌, append_assoc, arith}
use Rattle.lang_meaning.specs.declared.primitive.Primitive.{Primitive}
use Rattle.lang_meaning.specs.Lookup.{text}
use Rattle.lang_meaning.specs.Literals.{function_row}
use Rattle.flat_language.specs.FlatForm.{FlatForm, FlatBody, no_body, with_body, no_form, FlatBindings, let_form, call, prim, while_form, block, tagbody, catch_form, unwind, dynamic_let, with_handler, sited}
use Rattle.flat_language.specs.model.View.{forms, clauses_of, maybe_form, bindings_of, dynamics_of}
use Rattle.flat_language.specs.declared.flat_core.FlatClause.{FlatClause}
use Rattle.flat_language.specs.declared.flat_core.FlatBinding.{FlatBinding}
use Rattle.mid_code.specs.declared.operation.Test.{Test}
use Rattle.mid_code.specs.declared.operation.Counted.TheVariants.{Level}
use Rattle.mid_code.specs.MidCode.{MidCodes, code_and, code_of, no_step, choose, repeat}
use Rattle.mid_code.specs.declared.code.SwitchCase.{SwitchCase}
use Rattle.mid_code.specs.model.View.{codes_of}
use Rattle.mid_arena.specs.Tags.{nil_word}
use Rattle.flat_language.specs.FlatMeaning.{binding_homes}
use Rattle.flat_language.specs.FlatNodes.{count_forms}
use Rattle.flat_language.specs.declared.flat_core.FlatDynBinding.{FlatDynBinding}
use Rattle.back_lowering.specs.declared.scope.Scope.{Scope}
use Rattle.back_lowering.specs.declared.scope.OwnExit.{OwnExit}
use Rattle.back_lowering.specs.Placement.{routines_from}
use Rattle.back_lowering.specs.Steps.{Steps, move, constant}
use Rattle.back_lowering.specs.Leaves.{boxes_made}
use Rattle.back_lowering.specs.Primitives.{apply_primitive, judge_primitive, value_judged}
use Rattle.back_lowering.specs.Scope.{inside_cleanup, with_exit, with_slots, at_site, registers_from}
use Rattle.back_lowering.specs.Records.{block_code, catch_code, tagbody_code, unwind_code}
use Rattle.back_lowering.specs.Calls.{call_name, call_value_code}
use Rattle.back_lowering.specs.Codes.{lower, with_two, with_handler_code, dynamic_let_code}
use Rattle.back_calls.specs.declared.given.Given.{Given}
use Rattle.back_forms.specs.declared.shapes.OverForm.{OverForm}
use Rattle.back_forms.specs.declared.shapes.OverTwo.{OverTwo}
use Rattle.back_forms.specs.Shapes.{over_form, over_two, behind_form, routine_of}
use Rattle.back_forms.specs.Inside.{behind, searched}
use Rattle.back_forms.specs.Lowers.{low, low_sequence, low_behind, low_arguments, low_call_value, low_segments, low_clauses, low_clause, low_bindings, low_dynamics, truth_of}
use Rattle.back_lowering.proofs.Rests.{there, past}
use Rattle.back_forms.proofs.Cases.{codes_behind, behind_none, behind_more}
use Rattle.back_forms.proofs.Equations.{over_is, two_is, call_is, prim_is, block_is, catch_is, handler_is, sited_is, counted, counted_dynamics, prim_ready, prim_test}
use Rattle.back_forms.proofs.Joining.{joined, joined_three}

module _ (g : Given) (s : Scope) (d : ℕ) (f : FlatForm) (old new : Steps) where
  -- another form that is the same
  pub same_form : (h : FlatForm) → f ≡ h → new ≡ old ++ (low g s d h).value → new ≡ old ++ (low g s d f).value
  same_form h e is = is ∙ sym (ap (λ (x : FlatForm). old ++ (low g s d x).value) e)

  pub one_arm : (k : OverForm) (i : FlatForm) (mid : Steps) (s' : Scope)
      → f ≡ over_form k i → mid ≡ old ++ (low g s d i).value → s' ≡ s → new ≡ mid ++ behind_form g s' d k
      → new ≡ old ++ (low g s d f).value
  one_arm k i mid s' e first same second =
      same_form (over_form k i) e
      (joined old mid new (low g s d i).value (behind_form g s d k) (low g s d (over_form k i)).value first
      (second ∙ ap (λ (x : Scope). mid ++ behind_form g x d k) same) (over_is g s d k i))

  pub two_arm : (k : OverTwo) (i h : FlatForm) (mid late : Steps) (s' s'' : Scope) (r : ℕ)
      → f ≡ over_two k i h → mid ≡ old ++ (low g s d i).value → s' ≡ s
      → late ≡ mid ++ (low g s' (d + 1) h).value → s'' ≡ s'
      → r ≡ routine_of k
      → new ≡ late ++ with_two g.names.now g.at.now g.program.now s''.site d (routines_from g.at.now + r)
      → new ≡ old ++ (low g s d f).value
  two_arm k i h mid late s' s'' r e first same second again number third =
      same_form (over_two k i h) e
      (joined_three old mid late new (low g s d i).value (low g s (d + 1) h).value
      (with_two g.names.now g.at.now g.program.now s.site d (routines_from g.at.now + routine_of k)) (low g s d (over_two k i h)).value first
      (second ∙ ap (λ (x : Scope). mid ++ (low g x (d + 1) h).value) same)
      (third
      ∙ ap (λ (x : Scope). late ++ with_two g.names.now g.at.now g.program.now x.site d (routines_from g.at.now + r)) (again ∙ same)
      ∙ ap (λ (n : ℕ). late ++ with_two g.names.now g.at.now g.program.now s.site d (routines_from g.at.now + n)) number)
      (two_is g s d k i h))

  pub call_arm : (n : ℕ) (fs : List FlatForm) (mid : Steps) (s' : Scope)
      → f ≡ call n (forms fs) → mid ≡ old ++ low_arguments g s d (forms fs) → s' ≡ s
      → new ≡ mid ++ call_name g.at.now g.program.now n (function_row g.names.now g.program.now.functions (text g.names.now n)) (length fs) d s'.site
      → new ≡ old ++ (low g s d f).value
  call_arm n fs mid s' e first same second =
      same_form (call n (forms fs)) e
      (joined old mid new (low_arguments g s d (forms fs))
      (call_name g.at.now g.program.now n (function_row g.names.now g.program.now.functions (text g.names.now n)) (length fs) d s.site)
      (low g s d (call n (forms fs))).value first
      (second ∙ ap (λ (x : Scope). mid ++ call_name g.at.now g.program.now n (function_row g.names.now g.program.now.functions (text g.names.now n)) (length fs) d x.site) same)
      (call_is g s d n fs))

  pub prim_arm : (p : Primitive) (fs : List FlatForm) (mid : Steps) (s' : Scope)
      → f ≡ prim p (forms fs) → mid ≡ old ++ low_arguments g s d (forms fs) → s' ≡ s
      → new ≡ mid ++ apply_primitive g.at.now g.program.now.literals p (forms fs) (length fs) d s'.site
      → new ≡ old ++ (low g s d f).value
  prim_arm p fs mid s' e first same second =
      same_form (prim p (forms fs)) e
      (joined old mid new (low_arguments g s d (forms fs)) (apply_primitive g.at.now g.program.now.literals p (forms fs) (length fs) d s.site)
      (low g s d (prim p (forms fs))).value first
      (second ∙ ap (λ (x : Scope). mid ++ apply_primitive g.at.now g.program.now.literals p (forms fs) (length fs) d x.site) same)
      (prim_is g s d p fs))

  pub block_arm : (b : FlatForm) (s' : Scope) (body : Steps)
      → f ≡ block b → s' ≡ with_exit d (d + 1) s → body ≡ (low g s' (d + 6) b).value → new ≡ old ++ block_code d body
      → new ≡ old ++ (low g s d f).value
  block_arm b s' body e entered inner is =
      same_form (block b) e
      (is
      ∙ ap (λ (x : Steps). old ++ block_code d x) (inner ∙ ap (λ (x : Scope). (low g x (d + 6) b).value) entered)
      ∙ sym (ap (λ (c : Steps). old ++ c) (block_is g s d b)))

  pub catch_arm : (tag b : FlatForm) (mid : Steps) (s' : Scope) (body : Steps)
      → f ≡ catch_form tag b → mid ≡ old ++ (low g s d tag).value → s' ≡ s → body ≡ (low g s' (d + 6) b).value → new ≡ mid ++ catch_code d body
      → new ≡ old ++ (low g s d f).value
  catch_arm tag b mid s' body e first same inner second =
      same_form (catch_form tag b) e
      (joined old mid new (low g s d tag).value (catch_code d (low g s (d + 6) b).value) (low g s d (catch_form tag b)).value first
      (second ∙ ap (λ (x : Steps). mid ++ catch_code d x) (inner ∙ ap (λ (x : Scope). (low g x (d + 6) b).value) same))
      (catch_is g s d tag b))

  pub handler_arm : (h b : FlatForm) (mid : Steps) (s' s'' : Scope) (body : Steps)
      → f ≡ with_handler h b → mid ≡ old ++ (low g s d h).value → s' ≡ s → body ≡ (low g s' (d + 3) b).value → s'' ≡ s'
      → new ≡ mid ++ with_handler_code g.names.now g.at.now g.program.now s''.site d body
      → new ≡ old ++ (low g s d f).value
  handler_arm h b mid s' s'' body e first same inner again second =
      same_form (with_handler h b) e
      (joined old mid new (low g s d h).value (with_handler_code g.names.now g.at.now g.program.now s.site d (low g s (d + 3) b).value)
      (low g s d (with_handler h b)).value first
      (second
      ∙ ap (λ (x : Scope). mid ++ with_handler_code g.names.now g.at.now g.program.now x.site d body) (again ∙ same)
      ∙ ap (λ (x : Steps). mid ++ with_handler_code g.names.now g.at.now g.program.now s.site d x) (inner ∙ ap (λ (x : Scope). (low g x (d + 3) b).value) same))
      (handler_is g s d h b))

  pub sited_arm : (site : ℕ) (i : FlatForm) (s' : Scope)
      → f ≡ sited site i → s' ≡ at_site site s → new ≡ old ++ (low g s' d i).value
      → new ≡ old ++ (low g s d f).value
  sited_arm site i s' e placed is =
      same_form (sited site i) e
      (is ∙ ap (λ (x : Scope). old ++ (low g x d i).value) placed ∙ sym (ap (λ x. old ++ x.value) (sited_is g s d site i)))

  pub call_value_arm : (fs : List FlatForm) (mid : Steps) (s' : Scope)
      → 0 < length fs → mid ≡ old ++ low_arguments g s d (forms fs) → s' ≡ s
      → new ≡ mid ++ call_value_code g.at.now g.program.now (length fs - 1) d s'.site
      → new ≡ old ++ low_call_value g s d (forms fs)
  unfolding lower
  call_value_arm [] mid s' h first same second = absurd (omega arith)
  call_value_arm (i ∷ is) mid s' h first same second =
      let n : length (i ∷ is) - 1 ≡ length is = omega arith in
      joined old mid new (low_arguments g s d (forms (i ∷ is))) (call_value_code g.at.now g.program.now (length is) d s.site) (low_call_value g s d (forms (i ∷ is))) first
      (second
      ∙ ap (λ (x : Scope). mid ++ call_value_code g.at.now g.program.now (length (i ∷ is) - 1) d x.site) same
      ∙ ap (λ (k : ℕ). mid ++ call_value_code g.at.now g.program.now k d s.site) n)
      (ap (λ (k : ℕ). (low g s d i).value ++ (low_arguments g s (d + 1) (forms is) ++ call_value_code g.at.now g.program.now k d s.site)) (counted is)
      ∙ sym (append_assoc (low g s d i).value (low_arguments g s (d + 1) (forms is)) (call_value_code g.at.now g.program.now (length is) d s.site)))

-- what a primitive says is judged

module _ (g : Given) (s : Scope) (d : ℕ) (f : FlatForm) where
  pub judged_prim_arm : (old new : Steps) (p : Primitive) (fs : List FlatForm) (mid : Steps) (s' : Scope)
      → f ≡ prim p (forms fs) → mid ≡ old ++ low_arguments g s d (forms fs) → s' ≡ s
      → new ≡ mid ++ (judge_primitive g.at.now g.program.now.literals p (forms fs) (length fs) d s'.site).ready
      → new ≡ old ++ (low g s d f).judged.ready
  judged_prim_arm old new p fs mid s' e first same second =
      joined old mid new (low_arguments g s d (forms fs)) (judge_primitive g.at.now g.program.now.literals p (forms fs) (length fs) d s.site).ready
      (low g s d (prim p (forms fs))).judged.ready first
      (second ∙ ap (λ (x : Scope). mid ++ (judge_primitive g.at.now g.program.now.literals p (forms fs) (length fs) d x.site).ready) same)
      (prim_ready g s d p fs)
      ∙ sym (ap (λ (x : FlatForm). old ++ (low g s d x).judged.ready) e)

  pub judged_prim_test : (t : Test) (p : Primitive) (fs : List FlatForm) (s' : Scope)
      → f ≡ prim p (forms fs) → s' ≡ s
      → t ≡ (judge_primitive g.at.now g.program.now.literals p (forms fs) (length fs) d s'.site).test
      → t ≡ (low g s d f).judged.test
  judged_prim_test t p fs s' e same is =
      is
      ∙ ap (λ (x : Scope). (judge_primitive g.at.now g.program.now.literals p (forms fs) (length fs) d x.site).test) same
      ∙ sym (prim_test g s d p fs)
      ∙ sym (ap (λ (x : FlatForm). (low g s d x).judged.test) e)

  pub judged_sited : (old new : Steps) (site w : ℕ) (i : FlatForm)
      → f ≡ sited site i → w ≡ site → new ≡ old ++ (low g (at_site w s) d i).judged.ready
      → new ≡ old ++ (low g s d f).judged.ready
  judged_sited old new site w i e same is =
      is
      ∙ ap (λ (n : ℕ). old ++ (low g (at_site n s) d i).judged.ready) same
      ∙ sym (ap (λ x. old ++ x.judged.ready) (sited_is g s d site i))
      ∙ sym (ap (λ (x : FlatForm). old ++ (low g s d x).judged.ready) e)

  pub judged_sited_test : (t : Test) (site w : ℕ) (i : FlatForm)
      → f ≡ sited site i → w ≡ site → t ≡ (low g (at_site w s) d i).judged.test
      → t ≡ (low g s d f).judged.test
  judged_sited_test t site w i e same is =
      is
      ∙ ap (λ (n : ℕ). (low g (at_site n s) d i).judged.test) same
      ∙ sym (ap (λ x. x.judged.test) (sited_is g s d site i))
      ∙ sym (ap (λ (x : FlatForm). (low g s d x).judged.test) e)

-- lists, item by item

module _ (g : Given) (s : Scope) where
  pub argument_next : (d : ℕ) (x : FlatForm) (xs : List FlatForm)
      → low_arguments g s d (forms (x ∷ xs)) ≡ (low g s d x).value ++ low_arguments g s (d + 1) (forms xs)
  unfolding lower
  argument_next d x xs = refl

  pub behind_next : (k d : ℕ) (x : FlatForm) (xs : List FlatForm)
      → low_behind g s d (forms (x ∷ xs)) ≡ (low g s d x).value ++ low_behind g s d (forms xs)
  unfolding lower
  behind_next k d x xs = refl

  pub value_next : (d : ℕ) (x : FlatBinding) (xs : List FlatBinding)
      → low_bindings g s d (bindings_of (x ∷ xs)) ≡ (low g s d x.value).value ++ low_bindings g s (d + 1) (bindings_of xs)
  unfolding lower
  value_next d x xs = refl

  pub dynamic_next : (d : ℕ) (x : FlatDynBinding) (xs : List FlatDynBinding)
      → low_dynamics g s d (dynamics_of (x ∷ xs)) ≡ (low g s d x.value).value ++ low_dynamics g s (d + 1) (dynamics_of xs)
  unfolding lower
  dynamic_next d x xs = refl

  pub no_argument : (d : ℕ) → low_arguments g s d no_form ≡ []
  unfolding lower
  no_argument d = refl

  pub none_behind : (d : ℕ) → low_behind g s d no_form ≡ []
  unfolding lower
  none_behind d = refl

  pub no_value : (d : ℕ) → low_bindings g s d (bindings_of []) ≡ []
  unfolding lower
  no_value d = refl

  pub no_dynamic_value : (d : ℕ) → low_dynamics g s d (dynamics_of []) ≡ []
  unfolding lower
  no_dynamic_value d = refl

  pub sequence_behind : (d : ℕ) (xs : List FlatForm) → 0 < length xs → low_behind g s d (forms xs) ≡ low_sequence g s d (forms xs)
  unfolding lower
  sequence_behind d [] h = absurd (omega arith)
  sequence_behind d (x ∷ xs) h = refl

  pub no_sequence : (d : ℕ) (xs : List FlatForm) → length xs ≡ 0 → low_sequence g s d (forms xs) ≡ constant d nil_word ∷ []
  unfolding lower
  no_sequence d [] h = refl
  no_sequence d (x ∷ xs) h = absurd (omega arith)

  pub no_call_value : (d : ℕ) (xs : List FlatForm) → length xs ≡ 0 → low_call_value g s d (forms xs) ≡ constant d nil_word ∷ []
  unfolding lower
  no_call_value d [] h = refl
  no_call_value d (x ∷ xs) h = absurd (omega arith)

  -- the last clauses are behind the one in front of them
  pub clause_next : (d : ℕ) (x : FlatClause) (xs : List FlatClause)
      → low_clauses g s d (clauses_of (x ∷ xs)) ≡ low_clause g s d (truth_of g x.test) (low g s d x.test) (maybe_form x.body) (low_clauses g s d (clauses_of xs))
  unfolding lower
  clause_next d x xs = refl

  pub no_clauses : (d : ℕ) (xs : List FlatClause) (i : ℕ) → length xs ≤ i
      → low_clauses g s d (clauses_of (drop i xs)) ≡ constant d nil_word ∷ []
  unfolding lower
  no_clauses d xs i h = ap (λ (ys : List FlatClause). low_clauses g s d (clauses_of ys)) (past xs i h)

  pub clause_step : (d : ℕ) (xs : List FlatClause) (n i : ℕ) (x : FlatClause) (otherwise new : Steps)
      → n ≡ length xs
      → i < n
      → slice_get xs (n - 1 - i) ≡ Some x
      → otherwise ≡ low_clauses g s d (clauses_of (drop (n - i) xs))
      → new ≡ low_clause g s d (truth_of g x.test) (low g s d x.test) (maybe_form x.body) otherwise
      → new ≡ low_clauses g s d (clauses_of (drop (n - (i + 1)) xs))
  clause_step d xs n i x otherwise new all below here so is =
      let p : n - 1 - i ≡ n - (i + 1) = omega arith in
      let q : suc (n - 1 - i) ≡ n - i = omega arith in
      let e : drop (n - (i + 1)) xs ≡ x ∷ drop (n - i) xs =
      sym (ap (λ (k : ℕ). drop k xs) p) ∙ there xs (n - 1 - i) x here ∙ ap (λ (k : ℕ). x ∷ drop k xs) q in
      is
      ∙ ap (λ (o : Steps). low_clause g s d (truth_of g x.test) (low g s d x.test) (maybe_form x.body) o) so
      ∙ sym (clause_next d x (drop (n - i) xs))
      ∙ sym (ap (λ (ys : List FlatClause). low_clauses g s d (clauses_of ys)) e)

  pub segment_next : (d : ℕ) (x : FlatForm) (xs : List FlatForm)
      → low_segments g s d (forms (x ∷ xs)) ≡ code_and (code_of (low g s d x).value) (low_segments g s d (forms xs))
  unfolding lower
  segment_next d x xs = refl

  pub segment_step : (d : ℕ) (xs : List FlatForm) (i : ℕ) (x : FlatForm) (cases new : List SwitchCase) (c : SwitchCase) (total : MidCodes)
      → slice_get xs i ≡ Some x
      → codes_behind cases (low_segments g s d (forms (drop i xs))) ≡ total
      → c.code ≡ (low g s d x).value
      → new ≡ cases ++ c ∷ []
      → codes_behind new (low_segments g s d (forms (drop (i + 1) xs))) ≡ total
  segment_step d xs i x cases new c total here so made is =
      let n : drop i xs ≡ x ∷ drop (i + 1) xs = there xs i x here ∙ sym (ap (λ (k : ℕ). x ∷ drop k xs) (add-one i)) in
      ap (λ (cs : List SwitchCase). codes_behind cs (low_segments g s d (forms (drop (i + 1) xs)))) is
      ∙ behind_more cases c (low_segments g s d (forms (drop (i + 1) xs)))
      ∙ ap (λ (w : Steps). codes_behind cases (code_and (code_of w) (low_segments g s d (forms (drop (i + 1) xs))))) made
      ∙ sym (ap (codes_behind cases) (segment_next d x (drop (i + 1) xs)))
      ∙ sym (ap (λ (ys : List FlatForm). codes_behind cases (low_segments g s d (forms ys))) n)
      ∙ so

  pub segments_done : (d : ℕ) (xs : List FlatForm) (i : ℕ) (cases : List SwitchCase) (total : MidCodes)
      → length xs ≤ i → codes_behind cases (low_segments g s d (forms (drop i xs))) ≡ total → codes_of cases ≡ total
  unfolding lower
  segments_done d xs i cases total h so =
      sym (behind_none cases)
      ∙ sym (ap (λ (ys : List FlatForm). codes_behind cases (low_segments g s d (forms ys))) (past xs i h))
      ∙ so

-- forms with several lists or surroundings

module _ (g : Given) (s : Scope) (d : ℕ) (old new : Steps) where
  pub let_arm : (bs : FlatBindings) (b : FlatForm) (m1 m2 m3 : Steps) (s1 s2 : Scope) (n : ℕ)
      → n ≡ length (binding_homes bs)
      → m1 ≡ old ++ low_bindings g s d bs → s1 ≡ s
      → m2 ≡ m1 ++ boxes_made (binding_homes bs) d (d + n)
      → s2 ≡ with_slots (registers_from d n) s1
      → m3 ≡ m2 ++ (low g s2 (d + n) b).value
      → new ≡ m3 ++ move d (d + n) ∷ []
      → new ≡ old ++ (low g s d (let_form bs b)).value
  unfolding lower
  let_arm bs b m1 m2 m3 s1 s2 n size first same second bound third last =
      joined old m1 new (low_bindings g s d bs)
      (boxes_made (binding_homes bs) d (d + n) ++ ((low g (with_slots (registers_from d n) s) (d + n) b).value ++ (move d (d + n) ∷ [])))
      (low g s d (let_form bs b)).value
      first
      (joined_three m1 m2 m3 new (boxes_made (binding_homes bs) d (d + n)) (low g (with_slots (registers_from d n) s) (d + n) b).value (move d (d + n) ∷ [])
      (boxes_made (binding_homes bs) d (d + n) ++ ((low g (with_slots (registers_from d n) s) (d + n) b).value ++ (move d (d + n) ∷ [])))
      second
      (third ∙ ap (λ (x : Scope). m2 ++ (low g x (d + n) b).value) (bound ∙ ap (λ (x : Scope). with_slots (registers_from d n) x) same))
      last refl)
      (sym (ap (λ (k : ℕ). low_bindings g s d bs ++ (boxes_made (binding_homes bs) d (d + k) ++ ((low g (with_slots (registers_from d k) s) (d + k) b).value ++ (move d (d + k) ∷ [])))) size))

  pub dynamic_arm : (ds : List FlatDynBinding) (b : FlatForm) (mid : Steps) (s1 : Scope) (body : Steps)
      → mid ≡ old ++ low_dynamics g s d (dynamics_of ds) → s1 ≡ s
      → body ≡ (low g s1 (d + length ds + 2) b).value
      → new ≡ mid ++ dynamic_let_code g.names.now g.at.now g.program.now d (length ds) (dynamics_of ds) body
      → new ≡ old ++ (low g s d (dynamic_let (dynamics_of ds) b)).value
  unfolding lower
  dynamic_arm ds b mid s1 body first same inner second =
      joined old mid new (low_dynamics g s d (dynamics_of ds))
      (dynamic_let_code g.names.now g.at.now g.program.now d (length ds) (dynamics_of ds) (low g s (d + length ds + 2) b).value)
      (low g s d (dynamic_let (dynamics_of ds) b)).value
      first
      (second ∙ ap (λ (x : Steps). mid ++ dynamic_let_code g.names.now g.at.now g.program.now d (length ds) (dynamics_of ds) x) (inner ∙ ap (λ (x : Scope). (low g x (d + length ds + 2) b).value) same))
      (ap (λ (k : ℕ). low_dynamics g s d (dynamics_of ds) ++ dynamic_let_code g.names.now g.at.now g.program.now d k (dynamics_of ds) (low g s (d + k + 2) b).value) (counted_dynamics ds))

  pub tagbody_arm : (fs : List FlatForm) (s1 : Scope) (count : ℕ) (bodies : MidCodes)
      → count ≡ length fs → s1 ≡ with_exit d (d + 1) s → bodies ≡ low_segments g s1 (d + 7) (forms fs)
      → new ≡ old ++ tagbody_code d count bodies
      → new ≡ old ++ (low g s d (tagbody (forms fs))).value
  unfolding lower
  tagbody_arm fs s1 count bodies size entered inner is =
      is
      ∙ ap (λ (k : ℕ). old ++ tagbody_code d k bodies) (size ∙ sym (counted fs))
      ∙ ap (λ (x : MidCodes). old ++ tagbody_code d (count_forms (forms fs)) x)
      (inner ∙ ap (λ (x : Scope). low_segments g x (d + 7) (forms fs)) entered)

  pub unwind_arm : (f cleanup : FlatForm) (s1 s2 s3 : Scope) (xs ys : List OwnExit) (first second : Steps)
      → xs ≡ map behind s.exits → s1 ≡ record s { exits = xs } → first ≡ (low g s1 (d + 6) f).value → s2 ≡ s1
      → ys ≡ map searched s.exits → s3 ≡ record s2 { exits = ys } → second ≡ (low g s3 (d + 3) cleanup).value
      → new ≡ old ++ unwind_code g.at.now d first second
      → new ≡ old ++ (low g s d (unwind f cleanup)).value
  unfolding lower
  unwind_arm f cleanup s1 s2 s3 xs ys first second behind_are put one same searched_are put_again two is =
      is
      ∙ ap (λ (x : Steps). old ++ unwind_code g.at.now d x second)
      (one ∙ ap (λ (x : Scope). (low g x (d + 6) f).value) (put ∙ ap (λ (zs : List OwnExit). record s { exits = zs }) behind_are))
      ∙ ap (λ (x : Steps). old ++ unwind_code g.at.now d (low g (inside_cleanup s) (d + 6) f).value x)
      (two
      ∙ ap (λ (x : Scope). (low g x (d + 3) cleanup).value)
      (put_again
      ∙ ap (λ (x : Scope). record x { exits = ys }) (same ∙ put)
      ∙ ap (λ (zs : List OwnExit). record s { exits = zs }) searched_are))

  pub while_arm : (t b : FlatForm) (begun head body mid : Steps) (test : Test) (s1 : Scope)
      → begun ≡ [] → head ≡ begun ++ (low g s d t).judged.ready → test ≡ (low g s d t).judged.test → s1 ≡ s → body ≡ (low g s1 d b).value
      → mid ≡ old ++ repeat Level (code_of head) test (code_of body) ∷ []
      → new ≡ mid ++ constant d nil_word ∷ []
      → new ≡ old ++ (low g s d (while_form t b)).value
  unfolding lower
  while_arm t b begun head body mid test s1 none ready judged same inner first second =
      joined old mid new (repeat Level (code_of (low g s d t).judged.ready) (low g s d t).judged.test (code_of (low g s d b).value) ∷ []) (constant d nil_word ∷ [])
      (low g s d (while_form t b)).value
      (first
      ∙ ap (λ (x : Steps). old ++ repeat Level (code_of x) test (code_of body) ∷ []) (ready ∙ ap (λ (x : Steps). x ++ (low g s d t).judged.ready) none)
      ∙ ap (λ (x : Test). old ++ repeat Level (code_of (low g s d t).judged.ready) x (code_of body) ∷ []) judged
      ∙ ap (λ (x : Steps). old ++ repeat Level (code_of (low g s d t).judged.ready) (low g s d t).judged.test (code_of x) ∷ [])
      (inner ∙ ap (λ (x : Scope). (low g x d b).value) same))
      second refl

-- clauses

-- a clause whose test is known

module _ (g : Given) (s : Scope) (d : ℕ) (x : FlatForm) (o : Option Bool) (others new : Steps) where
  pub taken_alone : (b : FlatBody) → o ≡ Some true → b ≡ no_body → new ≡ (low g s d x).value → new ≡ low_clause g s d o (low g s d x) b others
  unfolding lower
  taken_alone b known none is =
      is ∙ sym (ap (λ y. low_clause g s d (Some true) (low g s d x) y others) none) ∙ sym (ap (λ y. low_clause g s d y (low g s d x) b others) known)

  pub taken_body : (b : FlatBody) (f : FlatForm) → o ≡ Some true → b ≡ with_body f → new ≡ (low g s d f).value → new ≡ low_clause g s d o (low g s d x) b others
  unfolding lower
  taken_body b f known some is =
      is ∙ sym (ap (λ y. low_clause g s d (Some true) (low g s d x) y others) some) ∙ sym (ap (λ y. low_clause g s d y (low g s d x) b others) known)

  pub left_out : (b : FlatBody) → o ≡ Some false → new ≡ others → new ≡ low_clause g s d o (low g s d x) b others
  unfolding lower
  left_out b known is = is ∙ sym (ap (λ y. low_clause g s d y (low g s d x) b others) known)

-- a clause whose test is asked

module _ (g : Given) (s : Scope) (d : ℕ) (x : FlatForm) (b : FlatBody) (begun new otherwise : Steps) where
  pub alone_arm : (ready judged first : Steps) (t : Test)
      → b ≡ no_body → begun ≡ [] → ready ≡ begun ++ (low g s d x).value → judged ≡ ready ++ (value_judged d).ready → t ≡ (value_judged d).test
      → first ≡ [] → new ≡ judged ++ choose t (code_of first) (code_of otherwise) ∷ []
      → new ≡ low_clause g s d None (low g s d x) b otherwise
  unfolding lower
  alone_arm ready judged first t none empty one two test nothing last =
      joined_three begun ready judged new (low g s d x).value (value_judged d).ready (choose (value_judged d).test no_step (code_of otherwise) ∷ [])
      (low_clause g s d None (low g s d x) no_body otherwise)
      one two
      (last
      ∙ ap (λ (y : Test). judged ++ choose y (code_of first) (code_of otherwise) ∷ []) test
      ∙ ap (λ (y : Steps). judged ++ choose (value_judged d).test (code_of y) (code_of otherwise) ∷ []) nothing)
      (append_assoc (low g s d x).value (value_judged d).ready (choose (value_judged d).test no_step (code_of otherwise) ∷ []))
      ∙ ap (λ (y : Steps). y ++ low_clause g s d None (low g s d x) no_body otherwise) empty
      ∙ sym (ap (λ (y : FlatBody). low_clause g s d None (low g s d x) y otherwise) none)

  pub body_arm : (y : FlatForm) (ready first : Steps) (t : Test) (s1 : Scope)
      → b ≡ with_body y → begun ≡ [] → ready ≡ begun ++ (low g s d x).judged.ready → t ≡ (low g s d x).judged.test
      → s1 ≡ s → first ≡ (low g s1 d y).value → new ≡ ready ++ choose t (code_of first) (code_of otherwise) ∷ []
      → new ≡ low_clause g s d None (low g s d x) b otherwise
  unfolding lower
  body_arm y ready first t s1 some empty one test same inner last =
      joined begun ready new (low g s d x).judged.ready (choose (low g s d x).judged.test (code_of (low g s d y).value) (code_of otherwise) ∷ [])
      (low_clause g s d None (low g s d x) (with_body y) otherwise)
      one
      (last
      ∙ ap (λ (z : Test). ready ++ choose z (code_of first) (code_of otherwise) ∷ []) test
      ∙ ap (λ (z : Steps). ready ++ choose (low g s d x).judged.test (code_of z) (code_of otherwise) ∷ [])
      (inner ∙ ap (λ (z : Scope). (low g z d y).value) same))
      refl
      ∙ ap (λ (z : Steps). z ++ low_clause g s d None (low g s d x) (with_body y) otherwise) empty
      ∙ sym (ap (λ (z : FlatBody). low_clause g s d None (low g s d x) z otherwise) some)
