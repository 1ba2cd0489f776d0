-- **A form with a handler**: the handler's value is to be a function; else that is a domain error.
use Rattle.std.proofs.Common.{◌≡◌, ℕ, ◌+◌, ◌<◌, ◌≤◌, Bool, true, false, [], ◌∷◌, ◌++◌, length, Some, refl, sym, ◌∙◌, subst, arith}
use Rattle.std.specs.Prelude.{slice_set, if◌then◌else◌}
use Rattle.std.proofs.Math.ListN.{length-set}
use Rattle.lang_meaning.specs.Classes.{fetch}
use Rattle.lang_meaning.specs.Objects.{function_class}
use Rattle.lang_meaning.specs.Primitives.{is_function}
use Rattle.lang_meaning.specs.State.{DynamicContext}
use Rattle.lang_meaning.specs.Values.{Value}
use Rattle.flat_language.specs.FlatForm.{with_handler}
use Rattle.flat_language.specs.FlatMeaning.{mean, with_handler_value}
use Rattle.flat_language.specs.FlatSignals.{signal, signal_domain_error}
use Rattle.flat_language.specs.FlatState.{FlatState, FlatEvaluated, charged}
use Rattle.mid_code.specs.declared.operation.Comparison.TheVariants.{Equal}
use Rattle.mid_code.specs.Meaning.{Context, exec, exec_step}
use Rattle.mid_code.specs.MidCode.{with_block, code_of}
use Rattle.mid_code.specs.State.{Registers, register, MidState}
use Rattle.mid_code.specs.State.{charged as mid_charged}
use Rattle.mid_arena.specs.Places.{word_of}
use Rattle.mid_arena.proofs.Registers.{register_here, register_beside}
use Rattle.mid_arena.proofs.Running.{in_two_parts, step_falls, constant_falls, and_then, none_left, move_falls}
use Rattle.back_lowering.specs.Codes.{lower, with_handler_code}
use Rattle.back_lowering.specs.ControlWords.{handlers_address, handler_words}
use Rattle.back_lowering.specs.Leaves.{domain_error}
use Rattle.back_lowering.specs.Registers.{of_code, enough_for}
use Rattle.back_lowering.specs.Routines.{is_function_routine}
use Rattle.back_lowering.specs.Steps.{Steps, move, constant, store, call, if_equal, test_of}
use Rattle.back_relation.specs.Setting.{Setting}
use Rattle.back_relation.specs.Placed.{IsPlaced}
use Rattle.back_relation.specs.Room.{words_for, words_for_handler, routine_words}
use Rattle.back_relation.specs.Worlds.{World}
use Rattle.back_relation.specs.Forms.{Begins, FormEnds, context_at, code_at}
use Rattle.back_relation.specs.RoutineClaims.{routine_credit, is_function_cost}
use Rattle.back_relation.specs.Starts.{FlatGrown, Start, EndsAt}
use Rattle.back_relation.proofs.Choices.{after, choice, tested}
use Rattle.back_relation.proofs.Fitting.{enough_front, enough_behind, registers_front, registers_behind}
use Rattle.back_relation.proofs.FormGrowth.{form_grows}
use Rattle.back_relation.proofs.Growth.{grown_later}
use Rattle.back_relation.proofs.Parts.{single_step, step_then}
use Rattle.back_relation.proofs.Starts.{start_after, start_charged, reached_cost, reached_set, behind, two, gives_run, ends_sparing}
use Rattle.back_calling.proofs.Growing.{domain_error_later}
use Rattle.back_calling.proofs.Inner.{form_looking_law}
use Rattle.back_calling.proofs.Sited.{failing_law}
use Rattle.back_calling.specs.Storing.{stored_at, standing_world}
use Rattle.back_lowering.specs.ControlWords.{site_address}
use Rattle.back_conditions.proofs.FunctionTests.{function_tests_law}
use Rattle.back_conditions.specs.Forms.{DomainClaims, LawOfHandlers}
use Rattle.back_conditions.proofs.Within.{tail}
use Rattle.back_conditions.proofs.Lending.{lends}
use Rattle.back_conditions.proofs.Points.{code_grows, form_spared}
use Rattle.back_conditions.proofs.Handlers.{handler_steps, handler_opened}
use Rattle.back_conditions.proofs.DynamicForms.{from_here, names_inside}

-- behind the handler's value, where it was asked whether it is a function
module _ (setting : Setting) (placed : IsPlaced setting) (k : ℕ) (a : Start setting) (h : Value) (word : ℕ) (is : word_of a.w.places h ≡ Some word) (claims : DomainClaims setting k a.turns)
    (body : Steps) (fits : a.d + 3 < length a.regs) (m : ℕ) (room : 4 + words_for_handler + m ≤ a.n) (some_room : routine_words ≤ a.n) where
  abbrev c : Context
  c = code_at setting k a.turns

  abbrev inner_handlers : DynamicContext
  inner_handlers = record a.around { handlers = h ∷ a.around.handlers }

  abbrev error : FlatEvaluated
  error = signal_domain_error (context_at setting k) (signal (context_at setting k)) h function_class a.around a.z

  abbrev wrong : Steps
  wrong = domain_error setting.at a.s.code.site (a.d + 1) a.d function_class ++ (move a.d (a.d + 1) ∷ [])

  abbrev around_body : Steps
  around_body = with_block (a.d + 1) handler_words a.d (code_of (handler_steps a.d ++ (body ++ tail setting placed a handlers_address (a.d + 2) (a.d + 3)))) (code_of []) ∷ []

  -- it is none
  wrong_ends : register a.d a.regs ≡ Some word → EndsAt setting (routine_credit + 84) a error (exec c (code_of wrong) a.regs a.y)
  wrong_ends held =
      subst (λ q. EndsAt setting (routine_credit + 84) a error q) (sym (in_two_parts c (domain_error setting.at a.s.code.site (a.d + 1) a.d function_class) (move a.d (a.d + 1) ∷ []) a.regs a.y))
      (after setting {c1 = routine_credit + 78} {c2 = 6} a (a.d + 1) (λ g v. exec c (code_of (move a.d (a.d + 1) ∷ [])) g v) (omega arith) (omega arith)
      (domain_error_later setting k h function_class a.around a.z).later.units
      ((failing_law setting).domain k routine_credit a (a.d + 1) a.d function_class word h (omega arith) (omega arith) (omega (arith, fits)) (omega (arith, some_room)) held
      (λ number paid. claims a.rs a.valid (standing_world a.w a.y) a.around a.z (stored_at site_address number paid a.y) h function_class word (omega arith) is))
      (λ g v. code_grows setting k a.turns (code_of (move a.d (a.d + 1) ∷ [])) g v)
      (λ x.
      gives_run setting {credit = 6} (start_after setting a (a.d + 1) a.d a.n (omega arith) (omega arith) (omega arith) a.begins.first x.reached) x.result (omega arith) x.of_value
      (and_then (move_falls x.in_register) none_left)))

  module _ (r : FlatEvaluated) (grown : FlatGrown a.z r.state)
      (body_does : (w : World) (regs : Registers) (y : MidState) → Begins setting a.rs a.valid a.s (a.d + 3) m w a.env inner_handlers a.z regs y → length regs ≡ length a.regs
      → FormEnds setting 0 a.turns a.rs a.valid a.s (a.d + 3) w a.env inner_handlers a.z regs y r (exec (code_at setting k a.turns) (code_of body) regs y)) where
    -- it is one
    right_ends : register a.d a.regs ≡ Some word → EndsAt setting (routine_credit + 84) a r (exec c (code_of around_body) a.regs a.y)
    right_ends held =
        subst (λ q. EndsAt setting (routine_credit + 84) a r q)
        (sym
        (single_step c (with_block (a.d + 1) handler_words a.d (code_of (handler_steps a.d ++ (body ++ tail setting placed a handlers_address (a.d + 2) (a.d + 3)))) (code_of [])) a.regs a.y))
        (lends setting placed a k (a.d + 1) handler_words handlers_address (a.d + 2) (a.d + 3) m (routine_credit + 84) (handler_steps a.d) body (omega (arith, room)) (omega arith) grown
        (λ some. handler_opened setting placed a k h word held is body some fits m (routine_credit + 84) room (omega arith) (λ regs y begins many. body_does _ regs y begins many)))

-- one or the other
module _ (setting : Setting) (placed : IsPlaced setting) (k : ℕ) (a : Start setting) (h : Value) (word : ℕ) (held : register a.d a.regs ≡ Some word) (is : word_of a.w.places h ≡ Some word)
    (claims : DomainClaims setting k a.turns) (body : Steps) (fits : a.d + 3 < length a.regs) (m : ℕ) (room : 4 + words_for_handler + m ≤ a.n) (some_room : routine_words ≤ a.n)
    (r : FlatEvaluated) (grown : FlatGrown a.z r.state)
    (body_does : (w : World) (z : FlatState) (regs : Registers) (y : MidState) → z ≡ a.z → Begins setting a.rs a.valid a.s (a.d + 3) m w a.env (record a.around { handlers = h ∷ a.around.handlers }) a.z regs y → length regs ≡ length a.regs
    → FormEnds setting 0 a.turns a.rs a.valid a.s (a.d + 3) w a.env (record a.around { handlers = h ∷ a.around.handlers }) a.z regs y r (exec (code_at setting k a.turns) (code_of body) regs y)) where
  abbrev asked : Steps
  asked = constant (a.d + 2) 0 ∷ if_equal (a.d + 1) (a.d + 2) (wrong setting placed k a h word is claims body fits m room some_room) (around_body setting placed k a h word is claims body fits m room some_room) ∷ []

  abbrev set : Registers
  set = slice_set a.regs (a.d + 2) (Some 0)

  abbrev zeroed : Start setting
  zeroed =
      start_after setting a a.d a.d a.n (omega arith) (omega arith) (omega arith) a.begins.first (reached_set setting {credit = 6} a a.d (a.d + 2) 0 6 (omega arith) (omega arith) (omega arith))

  size : length set ≡ length a.regs
  size = length-set a.regs (a.d + 2) (Some 0)

  judged_ends :
      (q : Bool) → register (a.d + 1) a.regs ≡ Some (if q then 1 else 0)
      → EndsAt setting (routine_credit + 104) a (if q then r else error setting placed k a h word is claims body fits m room some_room) (exec (code_at setting k a.turns) (code_of asked) a.regs a.y)
  judged_ends q told =
      subst (λ o. EndsAt setting (routine_credit + 104) a (if q then r else error setting placed k a h word is claims body fits m room some_room) o)
      (sym
      (step_falls (code_at setting k a.turns) (constant (a.d + 2) 0) (code_of (if_equal (a.d + 1) (a.d + 2) (wrong setting placed k a h word is claims body fits m room some_room) (around_body setting placed k a h word is claims body fits m room some_room) ∷ []))
      a.regs set a.y (mid_charged 6 a.y) (constant_falls).same
      ∙ single_step (code_at setting k a.turns) (if_equal (a.d + 1) (a.d + 2) (wrong setting placed k a h word is claims body fits m room some_room) (around_body setting placed k a h word is claims body fits m room some_room)) set (mid_charged 6 a.y)))
      (behind setting {c1 = 6} {c2 = routine_credit + 98} a a.d (omega arith) (reached_set setting {credit = 6} a a.d (a.d + 2) 0 6 (omega arith) (omega arith) (omega arith)) (omega arith) (omega arith) (by q told))
    where
      here_told : {v : ℕ} → register (a.d + 1) a.regs ≡ Some v → register (a.d + 1) set ≡ Some v
      here_told e = register_beside a.regs (a.d + 2) (a.d + 1) (Some 0) (λ same. omega (arith, same)) ∙ e

      here_zero : register (a.d + 2) set ≡ Some 0
      here_zero = register_here a.regs (a.d + 2) 0 (omega (arith, fits))

      here_word : register a.d set ≡ Some word
      here_word = register_beside a.regs (a.d + 2) a.d (Some 0) (λ same. omega (arith, same)) ∙ held

      abbrev_error : FlatEvaluated
      abbrev_error = error setting placed k a h word is claims body fits m room some_room

      up : a.z.state.units ≤ abbrev_error.state.state.units
      up = (domain_error_later setting k h function_class a.around a.z).later.units

      by :
          (q : Bool) → register (a.d + 1) a.regs ≡ Some (if q then 1 else 0)
          → EndsAt setting (routine_credit + 98) zeroed (if q then r else error setting placed k a h word is claims body fits m room some_room)
          (exec_step (code_at setting k a.turns) (if_equal (a.d + 1) (a.d + 2) (wrong setting placed k a h word is claims body fits m room some_room) (around_body setting placed k a h word is claims body fits m room some_room)) set (mid_charged 6 a.y))
      by true e =
          choice setting {c1 = routine_credit + 84} {credit = routine_credit + 98} (code_at setting k a.turns) zeroed (test_of Equal (a.d + 1) (a.d + 2)) (code_of (wrong setting placed k a h word is claims body fits m room some_room))
          (code_of (around_body setting placed k a h word is claims body fits m room some_room)) 1 0 false abbrev_error r (here_told e) here_zero refl (omega arith) up grown.units (λ f. absurd (cc f))
          (λ f.
          right_ends setting placed k (tested setting zeroed) h word is claims body (omega (arith, fits, size)) m room some_room r grown
          (λ w regs y begins many. body_does w a.z regs y refl begins (many ∙ size)) here_word)
      by false e =
          choice setting {c1 = routine_credit + 84} {credit = routine_credit + 98} (code_at setting k a.turns) zeroed (test_of Equal (a.d + 1) (a.d + 2)) (code_of (wrong setting placed k a h word is claims body fits m room some_room))
          (code_of (around_body setting placed k a h word is claims body fits m room some_room)) 0 0 true abbrev_error r (here_told e) here_zero refl (omega arith) up grown.units
          (λ f. wrong_ends setting placed k (tested setting zeroed) h word is claims body (omega (arith, fits, size)) m room some_room here_word) (λ f. absurd (cc f))

-- ---- the form

-- what it costs to ask whether the handler is a function, and to lay its cell or to signal that it is none
abbrev handled_credit : ℕ
handled_credit = is_function_cost + routine_credit + 150

module _ (setting : Setting) (placed : IsPlaced setting) (k : ℕ) (a : Start setting) (h : Value) (word : ℕ) (held : register a.d a.regs ≡ Some word) (is : word_of a.w.places h ≡ Some word)
    (claims : DomainClaims setting k a.turns) (body : Steps) (fits : a.d + 3 < length a.regs) (m : ℕ) (room : 4 + words_for_handler + m ≤ a.n) (some_room : routine_words ≤ a.n)
    (mean_body : DynamicContext → FlatState → FlatEvaluated) (body_grows : (around : DynamicContext) (z : FlatState) → FlatGrown z (mean_body around z).state)
    (body_does : (w : World) (regs : Registers) (y : MidState) → Begins setting a.rs a.valid a.s (a.d + 3) m w a.env (record a.around { handlers = h ∷ a.around.handlers }) a.z regs y → length regs ≡ length a.regs
    → FormEnds setting 0 a.turns a.rs a.valid a.s (a.d + 3) w a.env (record a.around { handlers = h ∷ a.around.handlers }) a.z regs y (mean_body (record a.around { handlers = h ∷ a.around.handlers }) a.z)
    (exec (code_at setting k a.turns) (code_of body) regs y)) where
  abbrev pub handler_meant : Value → DynamicContext → FlatState → FlatEvaluated
  handler_meant v around z = with_handler_value (context_at setting k) v mean_body around z

  pub handler_grows : (v : Value) (around : DynamicContext) (z : FlatState) → FlatGrown z (handler_meant v around z).state
  handler_grows v around z = by (is_function (fetch z.state v))
    where
      by :
          (b : Bool)
          → FlatGrown z (if b then mean_body (record around { handlers = v ∷ around.handlers }) z else signal_domain_error (context_at setting k) (signal (context_at setting k)) v function_class around z).state
      by true = body_grows (record around { handlers = v ∷ around.handlers }) z
      by false = grown_later (domain_error_later setting k v function_class around z)

  abbrev told : ℕ
  told = if is_function (fetch a.z.state h) then 1 else 0

  paid : Start setting
  paid = start_after setting a a.d a.d a.n (omega arith) (omega arith) (omega arith) a.begins.first (reached_cost setting {credit = 46} a a.d 46 (omega arith))

  -- **a handler around a form, behind the handler's value**
  pub handled :
      EndsAt setting handled_credit a (handler_meant h a.around a.z)
      (exec (code_at setting k a.turns) (code_of (with_handler_code setting.names setting.at setting.program a.s.code.site a.d body)) a.regs a.y)
  unfolding paid
  handled =
      subst (λ q. EndsAt setting handled_credit a (handler_meant h a.around a.z) q) (sym (step_then (code_at setting k a.turns) (call (a.d + 1) (is_function_routine setting.at) (a.d ∷ [])) rest a.regs a.y))
      (form_looking_law setting (code_at setting k a.turns) a k a.d (a.d + 1) (is_function_routine setting.at) is_function_cost told handled_credit (a.d ∷ []) (word ∷ []) (handler_meant h a.around a.z)
      (λ g v. exec (code_at setting k a.turns) (code_of rest) g v) (omega arith) (omega (arith, fits)) (omega arith) (held, tt) (handler_grows h a.around a.z)
      (λ g v. code_grows setting k a.turns (code_of rest) g v)
      (function_tests_law setting k a.turns a.rs a.valid a.w a.around a.z paid.y a.n placed h word is (omega (arith, some_room)) paid.begins.call)
      (λ x.
      behind setting {c1 = is_function_cost + 46} {c2 = routine_credit + 104} a (a.d + 1) (omega arith) x (omega arith) (omega arith)
      (judged_ends setting placed k (start_after setting a (a.d + 1) a.d a.n (omega arith) (omega arith) (omega arith) a.begins.first x) h word
      (register_beside a.regs (a.d + 1) a.d (Some told) (λ same. omega (arith, same)) ∙ held) is claims body (omega (arith, fits, length-set a.regs (a.d + 1) (Some told))) m room some_room
      (mean_body (record a.around { handlers = h ∷ a.around.handlers }) a.z) (body_grows (record a.around { handlers = h ∷ a.around.handlers }) a.z)
      (λ w z regs y e begins many. body_does w regs y begins (many ∙ length-set a.regs (a.d + 1) (Some told))) (is_function (fetch a.z.state h))
      (register_here a.regs (a.d + 1) told (omega (arith, fits))))))
    where
      rest : Steps
      rest =
          constant (a.d + 2) 0
          ∷ if_equal (a.d + 1) (a.d + 2) (wrong setting placed k a h word is claims body fits m room some_room) (around_body setting placed k a h word is claims body fits m room some_room) ∷ []

-- **a handler around a form**
pub handlers_law : LawOfHandlers
unfolding mean lower
handlers_law setting k turns handler body placed claims handler_does body_does rs valid s d n first w env around z regs y stands begins registers words =
    ends_sparing setting {c1 = handled_credit} (from_here setting k turns rs valid s d n env around w z regs y begins) 2 (omega arith) (omega arith)
    (subst (λ q. EndsAt setting handled_credit a (mean (context_at setting k) (with_handler handler body) env around z) q) (sym (in_two_parts (code_at setting k turns) value code regs y))
    (two setting {c1 = 0} {c2 = handled_credit} a d (λ v after. with_handler_value (context_at setting k) v (λ within ready. mean (context_at setting k) body env within ready) around after)
    (λ g v. exec (code_at setting k turns) (code_of code) g v) (omega arith) (omega arith) (form_grows setting k handler env around (charged 2 z)).units
    (form_spared setting turns a.begins
    (handler_does rs valid s d n first w env around (charged 2 z) regs y
    (record { stands = stands.stands.0; fits = stands.fits.0; leads = stands.leads.0; placed = stands.placed.0; forms_known = stands.forms_known }) a.begins (registers_front value code (length regs) registers)
    (omega (arith, words))))
    grows (λ g v. code_grows setting k turns (code_of code) g v)
    (λ x.
    let size = x.reached.kept.registers.count in
    handled setting placed k (start_after setting a d d n (omega arith) (omega arith) (omega arith) begins.first x.reached) x.result x.word x.in_register x.of_value claims body_steps
    (omega (arith, fits, size)) (words_for setting.names setting.program body) (omega (arith, words)) (omega (arith, words))
    (λ within ready. mean (context_at setting k) body env within ready) (λ within ready. form_grows setting k body env within ready)
    (λ w1 regs1 y1 inside many.
    form_spared setting turns inside
    (body_does rs valid s (d + 3) (words_for setting.names setting.program body) first w1 env _ _ regs1 y1
    (record { stands = stands.stands.1; fits = stands.fits.1; leads = stands.leads.1; placed = stands.placed.1; forms_known = stands.forms_known }) inside
    (subst (λ m. enough_for (of_code (code_of body_steps)) ≤ m) (sym (many ∙ size)) names_body) (omega arith))))))
  where
    a : Start setting
    a = start_charged setting (from_here setting k turns rs valid s d n env around w z regs y begins) 2

    value : Steps
    value = (lower setting.names setting.at setting.program s.code d handler).value

    body_steps : Steps
    body_steps = (lower setting.names setting.at setting.program s.code (d + 3) body).value

    code : Steps
    code = with_handler_code setting.names setting.at setting.program s.code.site d body_steps

    last : Steps
    last = constant d 0 ∷ store (d + 2) d handlers_address ∷ move d (d + 3) ∷ []

    block : Steps
    block = with_block (d + 1) handler_words d (code_of (handler_steps d ++ (body_steps ++ last))) (code_of []) ∷ []

    wrong_steps : Steps
    wrong_steps = domain_error setting.at s.code.site (d + 1) d function_class ++ (move d (d + 1) ∷ [])

    names_code : enough_for (of_code (code_of code)) ≤ length regs
    names_code = registers_behind value code (length regs) registers

    names_block : enough_for (of_code (code_of block)) ≤ length regs
    names_block =
        let all = enough_front (of_code (code_of wrong_steps) ++ of_code (code_of block)) [] in
        let back = enough_behind (of_code (code_of wrong_steps)) (of_code (code_of block)) in
        omega (arith, names_code, all, back)

    names_inside_block : enough_for (of_code (code_of (handler_steps d ++ (body_steps ++ last)))) ≤ length regs
    names_inside_block = names_inside (d + 1) handler_words d (length regs) (code_of (handler_steps d ++ (body_steps ++ last))) (code_of []) names_block

    names_behind : enough_for (of_code (code_of (body_steps ++ last))) ≤ length regs
    names_behind = registers_behind (handler_steps d) (body_steps ++ last) (length regs) names_inside_block

    names_body : enough_for (of_code (code_of body_steps)) ≤ length regs
    names_body = registers_front body_steps last (length regs) names_behind

    fits : d + 3 < length regs
    fits = let h = registers_behind body_steps last (length regs) names_behind in omega (arith, h)

    grows : (v : Value) (x : FlatState) → FlatGrown x (with_handler_value (context_at setting k) v (λ within ready. mean (context_at setting k) body env within ready) around x).state
    grows v x = by (is_function (fetch x.state v))
      where
        by :
            (b : Bool)
            → FlatGrown x
            (if b then mean (context_at setting k) body env (record around { handlers = v ∷ around.handlers }) x
            else signal_domain_error (context_at setting k) (signal (context_at setting k)) v function_class around x).state
        by true = form_grows setting k body env (record around { handlers = v ∷ around.handlers }) x
        by false = grown_later (domain_error_later setting k v function_class around x)
