-- The next method: its call comes in three registers, and the routine is called with them.
use Rattle.std.proofs.Common.{◌≡◌, ℕ, ◌+◌, ◌<◌, ◌≤◌, true, false, List, [], ◌∷◌, ◌++◌, length, Option, Some, None, refl, sym, ap, ◌∙◌, subst, arith}
use Rattle.lang_meaning.specs.Objects.{Called}
use Rattle.flat_language.specs.FlatMeaning.{mean, mean_next}
use Rattle.flat_language.specs.FlatState.{method_of, charged}
use Rattle.flat_laws.specs.FlatLater.{FlatLater}
use Rattle.flat_laws.proofs.Forms.{nexts}
use Rattle.flat_laws.proofs.Later.{later_kept}
use Rattle.mid_code.specs.Arena.{word_in}
use Rattle.mid_code.specs.Meaning.{Context}
use Rattle.mid_code.specs.MidCode.{code_of}
use Rattle.mid_code.specs.State.{Registers, register, MidState}
use Rattle.mid_arena.proofs.Running.{none_left, costing, parts_then}
use Rattle.back_lowering.specs.Codes.{lower, method_into}
use Rattle.back_lowering.specs.ControlWords.{site_address}
use Rattle.back_lowering.specs.Leaves.{site_stored}
use Rattle.back_lowering.specs.Registers.{of_code, enough_for}
use Rattle.back_lowering.specs.Routines.{next_routine}
use Rattle.back_lowering.specs.Steps.{Steps}
use Rattle.back_lowering.specs.Steps as steps
use Rattle.back_relation.specs.Setting.{Setting}
use Rattle.back_relation.specs.Room.{next_words}
use Rattle.back_relation.specs.Worlds.{World, Later}
use Rattle.back_relation.specs.Activation.{MethodHeld, MethodThere}
use Rattle.back_relation.specs.Ends.{form_credit}
use Rattle.back_relation.specs.Forms.{context_at, code_at}
use Rattle.back_relation.specs.Procedures.{as_registers}
use Rattle.back_relation.specs.RoutineClaims.{next_credit}
use Rattle.back_relation.specs.Points.{Point, start_at}
use Rattle.back_relation.specs.Starts.{Start, EndsAt}
use Rattle.back_relation.proofs.Activations.{arguments_later}
use Rattle.back_relation.proofs.Fitting.{registers_front, registers_behind}
use Rattle.back_relation.proofs.Points.{charged_point}
use Rattle.back_relation.proofs.Starts.{start_after, ends_sparing, behind}
use Rattle.back_relation.proofs.Then.{method_there_again, same_world}
use Rattle.back_relation.proofs.Worlds.{Same, stack_same}
use Rattle.back_calling.specs.Calling.{WordsIn, Between}
use Rattle.back_calling.specs.Storing.{stored_at, standing_world}
use Rattle.back_calling.proofs.Growing.{tasks_below}
use Rattle.back_calling.proofs.Sited.{sited_calls_law, reached_sited}
use Rattle.back_values.proofs.Globals.{reached_registers}
use Rattle.back_function_entries.proofs.KnownCalls.{site_names}
use Rattle.back_values.specs.Wholes.{PointsKnown}
use Rattle.back_values.proofs.MethodPlaces.{method_places_law}
use Rattle.back_values.proofs.Wholes.{point, points_known}
use Rattle.back_generics.specs.NextForms.{LawOfNextForms}

never_kept : false ≡ true → ⊥
never_kept e = absurd (cc e)

-- the three words of the call of a method
record CallWords (regs : Registers) (d : ℕ) : Type 0 where
  pub chain : ℕ
  pub count : ℕ
  pub address : ℕ
  pub chain_word : register d regs ≡ Some chain
  pub count_word : register (d + 1) regs ≡ Some count
  pub address_word : register (d + 2) regs ≡ Some address

module _ (setting : Setting) (regs : Registers) (d : ℕ) where
  call_words : (w : World) (y : MidState) (called : Option Called) → MethodHeld setting w y.arena false regs (Some d) called → CallWords regs d
  call_words w y None h = record { chain = 0; count = h.0; address = h.1; chain_word = h.2; count_word = h.3; address_word = h.4 }
  call_words w y (Some c) h =
      record { chain = h.chain; count = length c.arguments; address = h.arguments; chain_word = h.chain_word; count_word = h.count_word; address_word = h.arguments_word }

  -- as words that a routine is given, in a later world
  module _ {w w' : World} {y y' : MidState} (l : Later w w') (same : Same w w' y y') where
    words_held :
        (called : Option Called) (h : MethodHeld setting w y.arena false regs (Some d) called)
        → MethodHeld setting w' y'.arena false
        (as_registers ((call_words w y called h).chain ∷ (call_words w y called h).count ∷ (call_words w y called h).address ∷ [])) (Some 0) called
    unfolding call_words
    words_held None h = (h.0, h.1, refl, refl, refl)
    words_held (Some c) h = record {
      chain = h.chain;
      arguments = h.arguments;
      chain_word = refl;
      count_word = refl;
      arguments_word = refl;
      chain_stands = h.chain_stands;
      takes = h.takes;
      held = arguments_later setting l same h.arguments c h.held;
      kept = λ e. absurd (never_kept e);
    }

    words_there :
        (called : Option Called) (x : CallWords regs d) → MethodThere setting w y.arena regs (Some d) called
        → MethodThere setting w' y'.arena (as_registers (x.chain ∷ x.count ∷ x.address ∷ [])) (Some 0) called
    words_there None x t = tt
    words_there (Some c) x t = λ address e.
        method_there_again setting y.arena y'.arena regs regs (Some d) (Some c) l (let from = stack_same same in omega (arith, from)) (λ r f. refl) t address (x.address_word ∙ e)

-- nothing is between the storing of the site and the call
nothing_between : (c : Context) (regs : Registers) (y : MidState) (d : ℕ) (arguments ws : List ℕ) → WordsIn regs arguments ws → Between c [] regs y d 0 arguments ws
nothing_between c regs y d arguments ws there = record {
  regs' = regs;
  runs = (costing none_left (omega arith)).same;
  arguments_there = there;
  below = λ i h. refl;
  count = refl;
}

pub next_forms_law : LawOfNextForms
unfolding mean lower call_words
next_forms_law setting k turns p runs rs valid s d n first w env around z regs y stands begins registers words =
    let known : PointsKnown setting = points_known setting in
    let size : ℕ = length regs in
    let q : Point setting s d n size = point setting k turns rs valid s d n w env around z regs y begins in
    let b : Point setting s d n size = charged_point setting s d n size turns q in
    let loaded : Steps = method_into setting.names setting.at setting.program s.code d p in
    let the_call : Steps = steps.call d (next_routine setting.at) (d ∷ (d + 1) ∷ (d + 2) ∷ []) ∷ [] in
    let tail : Steps = site_stored s.code.site (d + 3) (d + 4) ++ the_call in
    let site_enough : enough_for (of_code (code_of (site_stored s.code.site (d + 3) (d + 4)))) ≤ size =
    registers_front (site_stored s.code.site (d + 3) (d + 4)) the_call size (registers_behind loaded tail size registers) in
    let next_register : d + 3 + 1 ≡ d + 4 = omega arith in
    let there : d + 3 + 1 < size =
    site_names s.code.site (d + 3) size (subst (λ r. enough_for (of_code (code_of (site_stored s.code.site (d + 3) r))) ≤ size) (sym next_register) site_enough) in
    let called : Option Called = method_of p env in
    let l = method_places_law setting s d n size k turns p b stands.stands (known.functions s d n size b) (registers_front loaded tail size registers) in
    let few = l.within in
    let r = reached_registers setting {credit = 100} (start_at setting s d n size turns b) l.after l.cost l.count l.below l.within in
    let e : Start setting = start_after setting (start_at setting s d n size turns b) d d n (omega arith) (omega arith) (omega arith) begins.first r in
    let x : CallWords l.after d = call_words setting l.after d w y called l.held in
    let many = l.count in
    ends_sparing setting {c1 = form_credit} (start_at setting s d n size turns q) 1 (omega arith) (omega arith)
    (subst (λ o. EndsAt setting form_credit (start_at setting s d n size turns b) (mean_next (context_at setting k) called around (charged 1 z)) o)
    (sym (parts_then {c = code_at setting k turns} loaded tail (record { same = l.run }) (record { same = refl })).same)
    (behind setting {c1 = 100} {c2 = 500} {c = form_credit} (start_at setting s d n size turns b) d (omega arith) r (omega arith) (omega arith)
    (sited_calls_law setting k e 500 next_words next_credit 0 d (d + 3) (d + 4) (next_routine setting.at) [] (d ∷ (d + 1) ∷ (d + 2) ∷ [])
    (x.chain ∷ x.count ∷ x.address ∷ []) (mean_next (context_at setting k) called around (charged 1 z)) (omega arith) (omega arith) (omega arith) (omega arith)
    (omega (arith, there, many)) words ((nexts {R = FlatLater} {k = later_kept} (context_at setting k) (tasks_below setting k) called around (charged 1 z)).grows)
    (λ g number cost others.
    nothing_between (code_at setting k turns) g (stored_at site_address number cost e.y) d (d ∷ (d + 1) ∷ (d + 2) ∷ []) (x.chain ∷ x.count ∷ x.address ∷ []) (
      ap word_in (others.same d (λ i. omega (arith, i)) (λ i. omega (arith, i))) ∙ x.chain_word,
      (
        ap word_in (others.same (d + 1) (λ i. omega (arith, i)) (λ i. omega (arith, i))) ∙ x.count_word,
        (ap word_in (others.same (d + 2) (λ i. omega (arith, i)) (λ i. omega (arith, i))) ∙ x.address_word, tt),
      ),
    ))
    (λ number cost.
    let u = reached_sited setting e d number cost cost e.regs (omega arith) (omega arith) (λ i h. refl) refl in
    let same = same_world setting u.kept.world u.back in
    runs rs valid (standing_world e.w e.y) around (charged 1 z) (stored_at site_address number cost e.y) called x.chain x.count x.address
    (words_held setting l.after d u.kept.world.later same called l.held) (words_there setting l.after d u.kept.world.later same called x l.stands)))))
