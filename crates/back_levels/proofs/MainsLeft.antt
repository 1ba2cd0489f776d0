-- Main forms one after another: where one gives a value the next begins, and every other end is that of the run.
use Rattle.std.proofs.Common.{◌≡◌, ℕ, suc, ◌+◌, List, [], ◌∷◌, Some, refl, sym, ap, ◌∙◌, subst, arith}
use Rattle.std.specs.Prelude.{slice_get}
use Rattle.lang_meaning.specs.Prefixes.{IsPrefix}
use Rattle.lang_meaning.specs.State.{Outcome, value, exit, full, more, Limit, words, unlimited}
use Rattle.lang_meaning.specs.Values.{Value, nil}
use Rattle.flat_language.specs.FlatForm.{FlatForm}
use Rattle.flat_language.specs.FlatMeaning.{mean_main, mean_mains}
use Rattle.flat_language.specs.FlatState.{FlatState, FlatEvaluated, charged, gives, go_on_from, go_on}
use Rattle.flat_laws.proofs.Runs.{law_of_flat_runs}
use Rattle.mid_code.specs.Arena.{word_at}
use Rattle.mid_code.specs.Law.{Grown}
use Rattle.mid_code.specs.Meaning.{Context, called_from, exec}
use Rattle.mid_code.specs.Meaning.{called as mid_called}
use Rattle.mid_code.specs.MidCode.{MidCode}
use Rattle.mid_code.specs.State.{Registers, falls, MidState, MidOutcome, ends, no_level}
use Rattle.mid_code.specs.State.{charged as mid_charged}
use Rattle.mid_code.specs.State.{go_on as mid_go_on}
use Rattle.mid_code.proofs.Growth.{go_on_grown, called_grown, same_grown, exec_grown, levels_grow, turns_grow}
use Rattle.mid_arena.specs.Growing.{Grows}
use Rattle.mid_arena.specs.Places.{word_of}
use Rattle.mid_arena.proofs.Growing.{grows_same}
use Rattle.back_lowering.specs.ControlWords.{current_address, link_address, handlers_address, bindings_address, end_address}
use Rattle.back_lowering.specs.Program.{mains_from}
use Rattle.back_relation.specs.Around.{RoomFor}
use Rattle.back_relation.specs.Ends.{Ends, done, left_by, full_there, stopped, few_turns}
use Rattle.back_relation.specs.Forms.{code_at}
use Rattle.back_relation.specs.Procedures.{called}
use Rattle.back_relation.specs.Room.{main_reserve}
use Rattle.back_relation.specs.Setting.{Setting}
use Rattle.back_relation.specs.Worlds.{World}
use Rattle.back_claims.specs.Mains.{MainBegins, MainReturned, Unhandled, main_credit}
use Rattle.back_relation.specs.Starts.{FlatGrown}
use Rattle.back_relation.proofs.Growth.{grown_later, both_prefix, then_value, then_other, then_grown}
use Rattle.back_relation.proofs.Parts.{go_on_falls, go_on_last}
use Rattle.back_relation.proofs.Then.{because_then, stopped_last}
use Rattle.back_calling.proofs.Entered.{things_same_words}
use Rattle.back_calling.proofs.Formed.{called_state, called_returned, called_because, called_costs}
use Rattle.back_levels.specs.MainsLeft.{MainsDo, AreFrom, CameFrom, RunFrom, LawOfMainsLeft}
use Rattle.back_levels.specs.StartSteps.{mains_code, mains_steps}
use Rattle.back_levels.proofs.StartSteps.{start_steps_law}

module _ (setting : Setting) where
  -- where a main form begins, in a state with the same words
  pub begins_again :
      (n m : ℕ) {w : World} {z : FlatState} {y y' : MidState} → MainBegins setting n w z y → ((x : ℕ) → word_at y'.arena x ≡ word_at y.arena x) → Grows y.arena y'.arena
      → y'.printed ≡ y.printed → y'.input ≡ y.input → RoomFor setting.limit m z.state y' → MainBegins setting m w z y'
  begins_again n m b same grows printed input room = record {
    things = things_same_words setting b.things same grows printed input;
    current = (b.current.0, same current_address ∙ b.current.1);
    link = (b.link.0, same link_address ∙ b.link.1);
    end = (b.end.0, same end_address ∙ b.end.1);
    no_handler = same handlers_address ∙ b.no_handler;
    no_binding = same bindings_address ∙ b.no_binding;
    end_form = b.end_form;
    safe = b.safe;
    room = room;
  }

  room_paid : (l : Limit) (n cost : ℕ) (z : FlatState) (y : MidState) → RoomFor l n z.state y → RoomFor l n z.state (mid_charged cost y)
  room_paid unlimited n cost z y h = tt
  room_paid (words m) n cost z y h = h

  -- and where something was paid
  pub begins_paid : (n cost : ℕ) {w : World} {z : FlatState} {y : MidState} → MainBegins setting n w z y → MainBegins setting n w z (mid_charged cost y)
  begins_paid n cost {z = z} {y = y} b =
      begins_again n n b (λ x. refl) (grows_same y.arena b.things.represents.arena) refl refl (room_paid setting.limit n cost z y b.room)

  -- main forms only grow
  pub mains_grown :
      (k : ℕ) (fs : List FlatForm) (last : Value) (z : FlatState) → FlatGrown z (mean_mains setting.names setting.program setting.limit k fs last z).state
  mains_grown k fs last z =
      let g = grown_later (law_of_flat_runs.0 setting.names setting.program setting.limit k fs last z) in
      record { printed = g.printed; units = g.units; exits = g.exits }

  same_state : (r : FlatEvaluated) → (go_on r (λ v after. gives v after)).state ≡ r.state
  same_state r = from r.outcome
    where
      from : (o : Outcome) → (go_on_from o r.state (λ v after. gives v after)).state ≡ r.state
      from (value v) = refl
      from (exit e v landing) = refl
      from (full asked left_then) = refl
      from more = refl

  pub main_grown : (k : ℕ) (f : FlatForm) (z : FlatState) → FlatGrown z (mean_main setting.names setting.program setting.limit k f z).state
  main_grown k f z = subst (λ s. FlatGrown z s) (same_state _) (mains_grown k (f ∷ []) nil z)

-- a main form by the number of its procedure
abbrev Called : (setting : Setting) (k turns number : ℕ) → FlatForm → FlatState → MidState → Type 0
Called setting k turns number f z y =
    Ends setting main_credit
    (MainReturned setting main_reserve main_credit (charged 1 z) y (mean_main setting.names setting.program setting.limit k f z) (called (code_at setting k turns) number [] y))
    (Unhandled setting main_credit (charged 1 z) y (mean_main setting.names setting.program setting.limit k f z) (called (code_at setting k turns) number [] y))
    turns z y (mean_main setting.names setting.program setting.limit k f z) (called (code_at setting k turns) number [] y)

-- ---- one main form, and those behind it

module _ (setting : Setting) (k turns number : ℕ) (f : FlatForm) (fs : List FlatForm) (tail : Registers) (word : ℕ) (z0 z : FlatState) (y0 y : MidState)
    (came : CameFrom setting z0 y0 z y) where
  abbrev c : Context
  c = code_at setting k turns

  abbrev regs : Registers
  regs = Some word ∷ tail

  abbrev behind : MidCode
  behind = mains_code setting (number + 1) fs

  abbrev meant_behind : Value → FlatState → FlatEvaluated
  meant_behind v after = mean_mains setting.names setting.program setting.limit k fs v after

  abbrev r1 : FlatEvaluated
  r1 = mean_main setting.names setting.program setting.limit k f z

  abbrev r : FlatEvaluated
  r = go_on r1 meant_behind

  abbrev paid : MidState
  paid = mid_charged 40 y

  abbrev q1 : MidOutcome
  q1 = called c number [] paid

  abbrev qc : MidOutcome
  qc = mid_called q1 0 regs

  abbrev q : MidOutcome
  q = mid_go_on qc (λ rs x. exec c behind rs x)

  abbrev E : FlatEvaluated → MidOutcome → Type 0
  E meant code = RunFrom setting turns z0 y0 meant code

  behind_grown : FlatGrown r1.state r.state
  behind_grown = then_grown r1 meant_behind (λ v after. mains_grown setting k fs v after)

  code_grown : Grown q1.state q.state
  code_grown =
      go_on_grown qc (λ rs x. exec c behind rs x) q1.state (called_grown q1 0 regs q1.state (same_grown q1.state))
      (λ rs x.
      exec_grown c (levels_grow setting.procedures setting.turns_each k) (turns_grow setting.procedures _ (levels_grow setting.procedures setting.turns_each k) turns) behind rs x)

  -- it gave a value
  came_behind : MainReturned setting main_reserve main_credit (charged 1 z) paid r1 q1 → CameFrom setting z0 y0 r1.state q1.state
  came_behind x = record {
    paid = let before = came.paid in let here = x.paid in omega (arith, before, here);
    units = let before = came.units in let here = (main_grown setting k f z).units in omega (arith, before, here);
    same_size = x.same_size ∙ came.same_size;
  }

  value_ends : (x : MainReturned setting main_reserve main_credit (charged 1 z) paid r1 q1) → E (meant_behind x.result r1.state) (exec c behind (Some x.word ∷ tail) q1.state) → E r q
  value_ends x h =
      let returned : qc ≡ ends falls (Some x.word ∷ tail) q1.state = called_returned q1 0 regs x.end in
      let goes : q ≡ exec c behind (Some x.word ∷ tail) q1.state =
      ap (λ o. mid_go_on o (λ rs s. exec c behind rs s)) returned ∙ go_on_falls (ends falls (Some x.word ∷ tail) q1.state) (λ rs s. exec c behind rs s) refl in
      subst (λ o. E o q) (sym (then_value r1 meant_behind x.result x.outcome)) (subst (λ o. E (meant_behind x.result r1.state) o) (sym goes) h)

  -- a condition was not handled
  unhandled_ends : Unhandled setting main_credit (charged 1 z) paid r1 q1 → E r q
  unfolding mid_called
  unhandled_ends x =
      let passed : qc ≡ ends q1.end regs q1.state = ap (λ l. called_from l 0 regs q1.state) x.end ∙ ap (λ l. ends l regs q1.state) (sym x.end) in
      let goes : q ≡ ends q1.end regs q1.state =
      ap (λ o. mid_go_on o (λ rs s. exec c behind rs s)) passed ∙ go_on_last _ (ends q1.end regs q1.state) (λ rs s. exec c behind rs s) x.end tt in
      subst (λ o. E o q) (sym (then_other r1 meant_behind _ x.outcome tt))
      (subst (λ o. E r1 o) (sym goes)
      (left_by (record {
        condition = x.condition;
        place = x.place;
        outcome = x.outcome;
        site = x.site;
        word = x.word;
        end = x.end;
        site_is = x.site_is;
        w' = x.w';
        of_value = x.of_value;
        things = x.things;
        paid = let before = came.paid in let here = x.paid in omega (arith, before, here);
      })))

  -- **in any case**
  pub main_then :
      Called setting k turns number f z paid
      → ((x : MainReturned setting main_reserve main_credit (charged 1 z) paid r1 q1) → CameFrom setting z0 y0 r1.state q1.state → E (meant_behind x.result r1.state) (exec c behind (Some x.word ∷ tail) q1.state)) → E r q
  main_then (done x) h = value_ends x (h x (came_behind x))
  main_then (left_by x) h = unhandled_ends x
  main_then (full_there x) h =
      subst (λ o. E o q) (sym (then_other r1 meant_behind _ x.outcome tt))
      (full_there (record {
        asked = x.asked;
        left_then = x.left_then;
        outcome = x.outcome;
        printed = both_prefix x.printed (let g = code_grown in record { rest = g.printed.0; is = sym g.printed.1 });
      }))
  main_then (stopped x) h =
      let because = called_because setting r1 q1 0 regs x.because in
      let goes : q ≡ qc = go_on_last qc.end qc (λ rs s. exec c behind rs s) refl (stopped_last setting r1 qc.end because) in
      subst (λ o. E r o) (sym goes)
      (stopped (record {
        because = because_then setting r1 meant_behind qc.end behind_grown because;
        printed = subst (λ (s : MidState). IsPrefix s.printed r.state.state.printed) (sym (called_state q1 0 regs)) (both_prefix x.printed behind_grown.printed);
        paid = λ ended.
            let here = x.paid (λ none. ended (because_then setting r1 meant_behind no_level behind_grown none)) in
            let before = came.paid in
            let up = behind_grown.units in
            omega (arith, here, before, up, called_costs q1 0 regs);
      }))
  main_then (few_turns x) h =
      let before = came.units in
      let same = came.same_size in
      let up = behind_grown.units in
      few_turns (omega (arith, x, before, same, up))

-- ---- all that are left

module _ (setting : Setting) (k turns : ℕ) (does : MainsDo setting k turns) (z0 : FlatState) (y0 : MidState) (tail : Registers) where
  from_on :
      (fs : List FlatForm) (at number : ℕ) (last : Value) (word : ℕ) (w : World) (z : FlatState) (y : MidState) → at ≡ mains_from setting.names setting.at setting.program + number
      → AreFrom setting number fs → CameFrom setting z0 y0 z y → MainBegins setting main_reserve w z y → word_of w.places last ≡ Some word
      → RunFrom setting turns z0 y0 (mean_mains setting.names setting.program setting.limit k fs last z)
      (exec (code_at setting k turns) (mains_code setting at fs) (Some word ∷ tail) y)
  from_on [] at number last word w z y same are came b of_last =
      subst (λ q. RunFrom setting turns z0 y0 (gives last z) q) (sym ((start_steps_law setting).halted (code_at setting k turns) word tail y))
      (done (record {
        result = last;
        outcome = refl;
        word = word;
        end = refl;
        w' = w;
        of_value = of_last;
        things = (begins_paid setting main_reserve 6 b).things;
        paid = let before = came.paid in omega (arith, before);
      }))
  from_on (f ∷ fs) at number last word w z y same are came b of_last =
      subst (λ q. RunFrom setting turns z0 y0 (mean_mains setting.names setting.program setting.limit k (f ∷ fs) last z) q)
      (sym ((start_steps_law setting).calls (code_at setting k turns) (Some word ∷ tail) at (mains_steps setting (at + 1) fs) y))
      (main_then setting k turns at f fs tail word z0 z y0 y came (subst (λ m. Called setting k turns m f z (mid_charged 40 y)) (sym same) (does number f found main_reserve w z (mid_charged 40 y) found (omega arith) (begins_paid setting main_reserve 40 b)))
      (λ x further. from_on fs (at + 1) (number + 1) x.result x.word x.w' _ _ (omega (arith, same)) others further x.begins x.of_value))
    where
      found : slice_get setting.program.main number ≡ Some f
      found = let e : number ≡ number + 0 = omega arith in ap (λ i. slice_get setting.program.main i) e ∙ are 0 f refl

      others : AreFrom setting (number + 1) fs
      others i g e = let more : number + 1 + i ≡ number + suc i = omega arith in ap (λ j. slice_get setting.program.main j) more ∙ are (suc i) g e

-- **from any main form on**
pub mains_left_law : LawOfMainsLeft
mains_left_law setting k turns number fs last word tail w z0 z y0 y does are came b of_last =
    from_on setting k turns does z0 y0 tail fs (mains_from setting.names setting.at setting.program + number) number last word w z y refl are came b of_last
