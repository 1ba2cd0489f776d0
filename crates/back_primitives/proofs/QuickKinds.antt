-- Quick ways of one word: whether two values are the same, of which kind one is, and the parts of a cons.
use Rattle.std.proofs.Common.{◌≡◌, ℕ, ◌+◌, ◌<◌, ◌≤◌, Bool, true, false, [], ◌∷◌, ◌++◌, length, Option, Some, refl, sym, ap, ◌∙◌, subst, arith}
use Rattle.std.specs.Prelude.{slice_set, ◌==◌, ◌%◌, is_some, if◌then◌else◌}
use Rattle.std.proofs.Math.ListN.{length-set}
use Rattle.lang_meaning.specs.Arity.{arity}
use Rattle.lang_meaning.specs.Classes.{fetch}
use Rattle.lang_meaning.specs.declared.primitive.Primitive.{Primitive}
use Rattle.lang_meaning.specs.declared.primitive.Primitive.TheVariants.{Same, IsNull, IsCons, IsInteger, Car, Cdr}
use Rattle.lang_meaning.specs.Objects.{cons, cons_class}
use Rattle.lang_meaning.specs.Primitives.{result, domain_error, needs, as_cons, as_integer, primitive}
use Rattle.lang_meaning.specs.Values.{Value, nil, truth, same}
use Rattle.flat_language.specs.FlatNodes.{tables}
use Rattle.flat_language.specs.FlatSignals.{answered}
use Rattle.flat_language.specs.FlatState.{FlatEvaluated, gives}
use Rattle.mid_code.specs.declared.operation.Comparison.TheVariants.{Equal}
use Rattle.mid_code.specs.Meaning.{Context, exec}
use Rattle.mid_code.specs.MidCode.{code_of}
use Rattle.mid_code.specs.State.{Registers, register, falls, ends}
use Rattle.mid_code.specs.State.{charged as mid_charged}
use Rattle.mid_arena.specs.FixedWords.{true_address}
use Rattle.mid_arena.specs.Represents.{Represents}
use Rattle.mid_arena.specs.Tags.{nil_word, cons_tag}
use Rattle.mid_arena.proofs.Arguments.{ObjectFound, object_found}
use Rattle.mid_arena.proofs.Memory.{spot_low}
use Rattle.mid_arena.proofs.Registers.{register_here, register_beside}
use Rattle.mid_arena.proofs.Running.{RunsTo, and_then, none_left, costing, parts_then, constant_falls, load_falls, address_above, address_below}
use Rattle.mid_arena.proofs.Sameness.{same_value_same_word}
use Rattle.mid_arena.proofs.Telling.{IntegerTold, integer_found, no_integer, integer_told, ConsTold, cons_found, no_cons, cons_told, nil_told}
use Rattle.back_lowering.specs.Primitives.{truth_where, where_tag, where_likely_tag, car_into, cdr_into}
use Rattle.back_lowering.specs.Registers.{of_code, enough_for}
use Rattle.back_lowering.specs.Steps.{Steps, constant, load_from}
use Rattle.back_relation.specs.Setting.{Setting}
use Rattle.back_relation.specs.Forms.{context_at, code_at}
use Rattle.back_relation.specs.Starts.{Start, EndsAt}
use Rattle.back_relation.proofs.Starts.{behind}
use Rattle.back_primitives.specs.Applying.{Applies, primitive_credit}
use Rattle.back_primitives.proofs.Answered.{SignalPaid}
use Rattle.back_primitives.proofs.Choosing.{Beside, beside_none, beside_set, beside_less, register_kept, reached_beside, start_beside, quick_ends, Chosen, chosen_ends, tag_chosen, likely_tag_chosen}
use Rattle.back_primitives.proofs.EachCost.{is_quick, quick_paid}
use Rattle.back_primitives.proofs.Quick.{named, branches_named, answer_up, meant, slow, slow_ends, truth_ends}

-- steps that only set registers, and what comes behind them
pub behind_steps :
    (setting : Setting) {c1 credit : ℕ} (a : Start setting) (c : Context) (front rest : Steps) (regs : Registers) (cost : ℕ) (r : FlatEvaluated)
    → RunsTo c (code_of front) a.regs a.y (ends falls regs (mid_charged cost a.y)) → (b : Beside a.d a.regs regs) → cost + c1 ≤ credit
    → EndsAt setting c1 (start_beside setting a regs cost b) r (exec c (code_of rest) regs (mid_charged cost a.y))
    → EndsAt setting credit a r (exec c (code_of (front ++ rest)) a.regs a.y)
behind_steps setting {c1} {credit} a c front rest regs cost r run b enough e =
    subst (λ o. EndsAt setting credit a r o) (sym (parts_then front rest run (record { same = refl })).same)
    (behind setting {c1 = cost} {c2 = c1} a a.d (omega arith) (reached_beside setting {credit = cost} a regs cost b (omega arith)) enough (omega arith) e)

-- t or nil, as it was chosen
pub truth_branch :
    (setting : Setting) {credit : ℕ} (a : Start setting) (c : Context) (b : Bool) → 14 ≤ credit
    → EndsAt setting credit a (gives (truth b) a.z) (exec c (code_of (if b then load_from a.d a.d true_address else constant a.d nil_word ∷ [])) a.regs a.y)
truth_branch setting a c true enough =
    let t = a.begins.call.things.represents.fixed.true_value in
    let once : Registers = slice_set a.regs a.d (Some 0) in
    quick_ends setting a c (code_of (load_from a.d a.d true_address)) (slice_set once a.d (Some t.word)) 14 t.word (truth true)
    (costing {n = a.y.cost + 14}
    (and_then constant_falls
    (and_then (load_falls (register_here a.regs a.d 0 a.begins.first) (address_above 0 true_address true_address refl (omega arith)) t.stands) none_left))
    (omega arith))
    (beside_set a.d t.word (omega arith) (beside_set a.d 0 (omega arith) (beside_none a.d a.regs)))
    (register_here once a.d t.word (omega (arith, a.begins.first, length-set a.regs a.d (Some 0)))) t.of_value enough
truth_branch setting a c false enough =
    quick_ends setting a c (code_of (constant a.d nil_word ∷ [])) (slice_set a.regs a.d (Some nil_word)) 6 nil_word (truth false)
    (costing {n = a.y.cost + 6} (and_then constant_falls none_left) (omega arith)) (beside_set a.d nil_word (omega arith) (beside_none a.d a.regs))
    (register_here a.regs a.d nil_word a.begins.first) refl (omega (arith, enough))

-- ---- two values

pub same_ends :
    (setting : Setting) (k : ℕ) {credit : ℕ} (a : Start setting) (v1 v2 : Value) (w1 w2 : ℕ) (g : Applies setting k a Same (v1 ∷ v2 ∷ []) (w1 ∷ w2 ∷ [])) → 28 ≤ credit
    → EndsAt setting credit a (meant setting k a Same (v1 ∷ v2 ∷ []) (w1 ∷ w2 ∷ []) g)
    (exec (code_at setting k a.turns) (code_of (truth_where Equal a.d a.d (a.d + 1))) a.regs a.y)
same_ends setting k a v1 v2 w1 w2 g enough =
    truth_ends setting a (code_at setting k a.turns) Equal a.d (a.d + 1) w1 w2 (same v1 v2) g.in_registers.0 g.in_registers.1.0
    (same_value_same_word setting.names (tables setting.program) a.w.places a.z.state a.y a.begins.call.things.represents v1 v2 w1 w2 g.of_values.0 g.of_values.1.0) enough

-- ---- one value

module _ (setting : Setting) (k : ℕ) (a : Start setting) (v : Value) (w : ℕ) where
  abbrev c : Context
  c = code_at setting k a.turns

  abbrev t : ℕ
  t = a.d + 1

  represented : Represents setting.names (tables setting.program) a.w.places a.z.state a.y
  represented = a.begins.call.things.represents

  pub null_ends :
      {credit : ℕ} (g : Applies setting k a IsNull (v ∷ []) (w ∷ [])) → t < length a.regs → 34 ≤ credit
      → EndsAt setting credit a (meant setting k a IsNull (v ∷ []) (w ∷ []) g) (exec c (code_of (constant t nil_word ∷ truth_where Equal a.d a.d t)) a.regs a.y)
  null_ends {credit} g there enough =
      let regs : Registers = slice_set a.regs t (Some nil_word) in
      let beside : Beside a.d a.regs regs = beside_set t nil_word (omega arith) (beside_none a.d a.regs) in
      behind_steps setting {c1 = 28} a c (constant t nil_word ∷ []) (truth_where Equal a.d a.d t) regs 6 (meant setting k a IsNull (v ∷ []) (w ∷ []) g)
      (costing {n = a.y.cost + 6} (and_then constant_falls none_left) (omega arith)) beside (omega (arith, enough))
      (truth_ends setting (start_beside setting a regs 6 beside) c Equal a.d t w nil_word (same v nil)
      (register_beside a.regs t a.d (Some nil_word) (λ e. omega (arith, e)) ∙ g.in_registers.0) (register_here a.regs t nil_word there)
      (nil_told setting.names (tables setting.program) a.w.places a.z.state a.y represented v w g.of_values.0) (omega arith))

  -- t or nil by the tag
  by_tag :
      {credit : ℕ} (tag : ℕ) (b : Bool) → register a.d a.regs ≡ Some w → (w % 4 == tag) ≡ b → t + 1 < length a.regs → 50 ≤ credit
      → EndsAt setting credit a (gives (truth b) a.z) (exec c (code_of (where_tag a.d t tag (load_from a.d a.d true_address) (constant a.d nil_word ∷ []))) a.regs a.y)
  by_tag {credit} tag b held so there enough =
      let chosen : Chosen setting c a.regs a.y t 36 (where_tag a.d t tag (load_from a.d a.d true_address) (constant a.d nil_word ∷ [])) (load_from a.d a.d true_address) (constant a.d nil_word ∷ []) b =
      tag_chosen setting c a.regs a.y t there a.d w tag (load_from a.d a.d true_address) (constant a.d nil_word ∷ []) b held (omega arith) so in
      chosen_ends setting {c1 = 14} a c chosen (omega arith) (gives (truth b) a.z) (omega arith) (omega (arith, enough))
      (truth_branch setting (start_beside setting a chosen.regs' chosen.cost (beside_less (omega arith) chosen.beside)) c b (omega arith))

  pub is_cons_ends :
      {credit : ℕ} (g : Applies setting k a IsCons (v ∷ []) (w ∷ [])) → t + 1 < length a.regs → 50 ≤ credit
      → EndsAt setting credit a (meant setting k a IsCons (v ∷ []) (w ∷ []) g)
      (exec c (code_of (where_tag a.d t cons_tag (load_from a.d a.d true_address) (constant a.d nil_word ∷ []))) a.regs a.y)
  is_cons_ends g there enough =
      by_tag cons_tag (is_some (as_cons (fetch a.z.state v))) g.in_registers.0 (told (cons_told setting.names (tables setting.program) a.w.places a.z.state a.y represented v w g.of_values.0))
      there enough
    where
      told : ConsTold (fetch a.z.state v) w → (w % 4 == cons_tag) ≡ is_some (as_cons (fetch a.z.state v))
      told (cons_found car cdr e f so) = so ∙ ap (λ o. is_some o) (sym f)
      told (no_cons f so) = so ∙ ap (λ o. is_some o) (sym f)

  pub is_integer_ends :
      {credit : ℕ} (g : Applies setting k a IsInteger (v ∷ []) (w ∷ [])) → t + 1 < length a.regs → 50 ≤ credit
      → EndsAt setting credit a (meant setting k a IsInteger (v ∷ []) (w ∷ []) g)
      (exec c (code_of (where_tag a.d t 0 (load_from a.d a.d true_address) (constant a.d nil_word ∷ []))) a.regs a.y)
  is_integer_ends g there enough =
      by_tag 0 (is_some (as_integer v)) g.in_registers.0 (told (integer_told setting.names (tables setting.program) a.w.places a.z.state a.y represented v w g.of_values.0)) there enough
    where
      told : IntegerTold v w → (w % 4 == 0) ≡ is_some (as_integer v)
      told (integer_found n e f r x so) = so ∙ ap (λ o. is_some o) (sym f)
      told (no_integer f so) = so ∙ ap (λ o. is_some o) (sym f)

  -- ---- the parts of a cons

  -- a part is taken where the value is a cons, and else the slow way
  part_ends :
      (which : Primitive) (g : Applies setting k a which (v ∷ []) (w ∷ [])) (part : Value × Value → Value) (taken : Steps) → is_quick which ≡ true → arity which ≡ 1
      → ((o : Option (Value × Value)) → as_cons (fetch a.z.state v) ≡ o
      → primitive setting.names (tables setting.program) which (v ∷ []) a.z.state ≡ needs o (domain_error v cons_class a.z.state) (λ p. result (part p) a.z.state))
      → ((b : Start setting) (car cdr : Value) → register b.d b.regs ≡ Some w → ObjectFound setting.names (tables setting.program) b.w.places b.z.state b.y b.begins.call.things.represents v w (cons car cdr)
      → b.d ≡ a.d → EndsAt setting 8 b (gives (part (car, cdr)) b.z) (exec c (code_of taken) b.regs b.y))
      → enough_for (of_code (code_of (where_likely_tag a.d t cons_tag taken (slow setting k a which (v ∷ []) (w ∷ []) g)))) ≤ length a.regs
      → EndsAt setting (primitive_credit which) a (meant setting k a which (v ∷ []) (w ∷ []) g)
      (exec c (code_of (where_likely_tag a.d t cons_tag taken (slow setting k a which (v ∷ []) (w ∷ []) g))) a.regs a.y)
  part_ends which g part taken quick one means takes enough =
      by (cons_told setting.names (tables setting.program) a.w.places a.z.state a.y represented v w g.of_values.0)
    where
      slowly : Steps
      slowly = slow setting k a which (v ∷ []) (w ∷ []) g

      there : t + 1 < length a.regs
      there = named (of_code (code_of (where_likely_tag a.d t cons_tag taken slowly))) 4 (t + 1) (length a.regs) refl enough

      up : a.z.state.units ≤ (meant setting k a which (v ∷ []) (w ∷ []) g).state.state.units
      up = answer_up setting k which (v ∷ []) a.around a.z

      paid : SignalPaid which 564
      paid = let cost = quick_paid which quick in (omega arith, omega (arith, cost, one))

      chosen : (b : Bool) → (w % 4 == cons_tag) ≡ b → Chosen setting c a.regs a.y t 36 (where_likely_tag a.d t cons_tag taken slowly) taken slowly b
      chosen b so = likely_tag_chosen setting c a.regs a.y t there a.d w cons_tag taken slowly b g.in_registers.0 (omega arith) so

      by : ConsTold (fetch a.z.state v) w
          → EndsAt setting (primitive_credit which) a (meant setting k a which (v ∷ []) (w ∷ []) g) (exec c (code_of (where_likely_tag a.d t cons_tag taken slowly)) a.regs a.y)
      by (cons_found car cdr e f so) =
          let h = chosen true so in
          let b : Start setting = start_beside setting a h.regs' h.cost (beside_less (omega arith) h.beside) in
          chosen_ends setting {c1 = 8} a c h (omega arith) (meant setting k a which (v ∷ []) (w ∷ []) g) up (omega arith)
          (subst (λ o. EndsAt setting 8 b o (exec c (code_of taken) h.regs' (mid_charged h.cost a.y)))
          (sym (ap (λ x. answered (context_at setting k) x a.around a.z) (means (Some (car, cdr)) f)))
          (takes b car cdr (register_kept a.d (omega arith) h.beside ∙ g.in_registers.0)
          (object_found setting.names (tables setting.program) a.w.places a.z.state b.y b.begins.call.things.represents v w (cons car cdr) g.of_values.0 e) refl))
      by (no_cons f so) =
          let h = chosen false so in
          chosen_ends setting {c1 = 564} a c h (omega arith) (meant setting k a which (v ∷ []) (w ∷ []) g) up (omega arith)
          (slow_ends setting k a which (v ∷ []) (w ∷ []) g h.regs' (mid_charged h.cost a.y)
          (start_beside setting a h.regs' h.cost (beside_less (omega arith) h.beside)).begins h.beside
          (branches_named (t ∷ t ∷ a.d ∷ t ∷ (t + 1) ∷ t ∷ (t + 1) ∷ []) (of_code (code_of slowly)) (of_code (code_of taken)) (length a.regs) enough).0
          (omega (arith, one)) paid)

  pub car_ends :
      (g : Applies setting k a Car (v ∷ []) (w ∷ []))
      → enough_for (of_code (code_of (where_likely_tag a.d t cons_tag (car_into a.d a.d) (slow setting k a Car (v ∷ []) (w ∷ []) g)))) ≤ length a.regs
      → EndsAt setting (primitive_credit Car) a (meant setting k a Car (v ∷ []) (w ∷ []) g)
      (exec c (code_of (where_likely_tag a.d t cons_tag (car_into a.d a.d) (slow setting k a Car (v ∷ []) (w ∷ []) g))) a.regs a.y)
  car_ends g enough =
      part_ends Car g (λ p. p.0) (car_into a.d a.d) refl refl (λ o e. ap (λ x. needs x (domain_error v cons_class a.z.state) (λ p. result p.0 a.z.state)) e) takes enough
    where
      takes : (b : Start setting) (car cdr : Value) → register b.d b.regs ≡ Some w
          → ObjectFound setting.names (tables setting.program) b.w.places b.z.state b.y b.begins.call.things.represents v w (cons car cdr) → b.d ≡ a.d
          → EndsAt setting 8 b (gives car b.z) (exec c (code_of (car_into a.d a.d)) b.regs b.y)
      takes b car cdr held it same_d =
          let high = spot_low b.begins.call.things.represents.arena it.spot_stands in
          let x = it.stands.car in
          subst (λ d. EndsAt setting 8 b (gives car b.z) (exec c (code_of (car_into d d)) b.regs b.y)) same_d
          (quick_ends setting b c (code_of (car_into b.d b.d)) (slice_set b.regs b.d (Some x.word)) 8 x.word car
          (costing {n = b.y.cost + 8}
          (and_then (load_falls held (address_below w 0 it.spot.address (omega (arith, it.word)) (omega (arith, it.word, it.stands.size.words, high))) x.stands) none_left) (omega arith))
          (beside_set b.d x.word (omega arith) (beside_none b.d b.regs)) (register_here b.regs b.d x.word b.begins.first) x.of_value (omega arith))

  pub cdr_ends :
      (g : Applies setting k a Cdr (v ∷ []) (w ∷ []))
      → enough_for (of_code (code_of (where_likely_tag a.d t cons_tag (cdr_into a.d a.d) (slow setting k a Cdr (v ∷ []) (w ∷ []) g)))) ≤ length a.regs
      → EndsAt setting (primitive_credit Cdr) a (meant setting k a Cdr (v ∷ []) (w ∷ []) g)
      (exec c (code_of (where_likely_tag a.d t cons_tag (cdr_into a.d a.d) (slow setting k a Cdr (v ∷ []) (w ∷ []) g))) a.regs a.y)
  cdr_ends g enough =
      part_ends Cdr g (λ p. p.1) (cdr_into a.d a.d) refl refl (λ o e. ap (λ x. needs x (domain_error v cons_class a.z.state) (λ p. result p.1 a.z.state)) e) takes enough
    where
      takes : (b : Start setting) (car cdr : Value) → register b.d b.regs ≡ Some w
          → ObjectFound setting.names (tables setting.program) b.w.places b.z.state b.y b.begins.call.things.represents v w (cons car cdr) → b.d ≡ a.d
          → EndsAt setting 8 b (gives cdr b.z) (exec c (code_of (cdr_into a.d a.d)) b.regs b.y)
      takes b car cdr held it same_d =
          let high = spot_low b.begins.call.things.represents.arena it.spot_stands in
          let x = it.stands.cdr in
          subst (λ d. EndsAt setting 8 b (gives cdr b.z) (exec c (code_of (cdr_into d d)) b.regs b.y)) same_d
          (quick_ends setting b c (code_of (cdr_into b.d b.d)) (slice_set b.regs b.d (Some x.word)) 8 x.word cdr
          (costing {n = b.y.cost + 8}
          (and_then (load_falls held (address_above w 3 (it.spot.address + 4) (omega (arith, it.word)) (omega (arith, it.stands.size.words, high))) x.stands) none_left) (omega arith))
          (beside_set b.d x.word (omega arith) (beside_none b.d b.regs)) (register_here b.regs b.d x.word b.begins.first) x.of_value (omega arith))
