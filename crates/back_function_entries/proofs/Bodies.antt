-- **The body of a function**: its site is taken, its variables get boxes, its form runs in slots of its own, and the word is returned.
use Rattle.std.proofs.Common.{◌≡◌, inl, ℕ, suc, ◌+◌, ◌*◌, ◌<◌, ◌≤◌, true, List, [], ◌∷◌, ◌++◌, length, Option, Some, refl, sym, ap, ◌∙◌, subst, length-append, arith, Bool, false}
use Rattle.base.specs.declared.place.Place.{Place}
use Rattle.std.specs.Prelude.{◌-◌, max, slice_get, slice_set, if◌then◌else◌}
use Rattle.std.proofs.Math.ListN.{length-set}
use Rattle.lang_meaning.specs.Objects.{Called}
use Rattle.lang_meaning.specs.Values.{Value}
use Rattle.lang_meaning.specs.State.{DynamicContext, no_place}
use Rattle.flat_language.specs.declared.program.FlatProcedure.{FlatProcedure}
use Rattle.flat_language.specs.FlatMeaning.{mean}
use Rattle.flat_language.specs.FlatNodes.{homes}
use Rattle.flat_language.specs.FlatSignals.{form}
use Rattle.flat_language.specs.FlatState.{FrameSlot, Captured, FlatEnvironment, no_environment, FlatState, FlatEvaluated, charged, new_slots, new_boxes, with_values, with_slots, with_frame, in_own_frame, under}
use Rattle.mid_code.specs.declared.program.MidProcedure.{MidProcedure}
use Rattle.mid_code.specs.Arena.{word_in, word_at, stack_from}
use Rattle.mid_code.specs.Costs.{entry_cost, return_cost}
use Rattle.mid_code.specs.Meaning.{Context, exec}
use Rattle.mid_code.specs.MidCode.{return_word, code_of}
use Rattle.mid_code.specs.State.{Registers, register, first_registers, falls, ends, MidState}
use Rattle.mid_code.specs.State.{charged as mid_charged}
use Rattle.mid_arena.specs.Places.{WordsOf}
use Rattle.mid_arena.proofs.Lists.{set_elsewhere}
use Rattle.mid_arena.proofs.Registers.{register_here}
use Rattle.mid_arena.proofs.Running.{RunsTo, and_then, none_left, costing, parts_then, in_two_parts, constant_falls, load_falls, address_above}
use Rattle.back_lowering.specs.declared.scope.SitePlace.TheVariants.{Known, Held}
use Rattle.back_lowering.specs.Calls.{variable_count}
use Rattle.back_lowering.specs.Codes.{lower}
use Rattle.back_lowering.specs.ControlWords.{site_address}
use Rattle.back_lowering.specs.Leaves.{boxes_made}
use Rattle.back_lowering.specs.Placement.{body_of_procedure}
use Rattle.back_lowering.specs.Program.{Extra, nothing, its_method, itself, extra_count, method_at, site_register, scope_of, site_taken, body_of}
use Rattle.back_lowering.specs.Registers.{of_code, enough_for}
use Rattle.back_lowering.specs.Scope.{registers_from}
use Rattle.back_lowering.specs.Sites.{asks_site}
use Rattle.back_lowering.specs.Steps.{Steps, load_from}
use Rattle.back_relation.specs.Setting.{Setting}
use Rattle.back_relation.specs.Room.{words_for, words_for_handler}
use Rattle.back_relation.specs.Worlds.{World, Later, Standing}
use Rattle.back_relation.specs.Around.{CallBegins}
use Rattle.back_relation.specs.Activation.{IsOwn, ScopeStands, SiteHeld}
use Rattle.back_relation.specs.Ends.{WorldKept, Around, full_there, stopped, CallEnds, form_credit}
use Rattle.back_relation.specs.Forms.{Begins, DoesForm, below_at, context_at, code_at}
use Rattle.back_relation.specs.Procedures.{called, mean_inside, body_room, body_credit, IsFunction, CapturedFits, as_registers, BodyBegins}
use Rattle.back_relation.specs.Right.{ProgramIsRight}
use Rattle.back_relation.specs.Starts.{FlatGrown}
use Rattle.back_relation.proofs.Activations.{made_by_later, method_later}
use Rattle.back_relation.proofs.Fitting.{registers_front, registers_behind}
use Rattle.back_relation.proofs.FormGrowth.{below_grows}
use Rattle.back_relation.proofs.Levels.{meaning_below}
use Rattle.back_relation.proofs.Starts.{room_after}
use Rattle.back_relation.proofs.Stops.{stopped_before}
use Rattle.back_relation.proofs.Straight.{world_cost, around_cost}
use Rattle.back_relation.proofs.Then.{same_world, world_then, back_then, call_then, method_there_again}
use Rattle.back_relation.proofs.Worlds.{stack_same}
use Rattle.back_relation.proofs.Cuts.{later_cut}
use Rattle.back_values.specs.Arguments.{WordsIn}
use Rattle.back_values.proofs.WordLists.{words_kept}
use Rattle.back_values.specs.Boxes.{SlotsIn, extended, BoxesMade}
use Rattle.back_values.proofs.BoxesMade.{boxes_grow, steps_grow}
use Rattle.back_values.proofs.Cleaning.{cleaned, is_clean, things_cleaned, stack_cleaned}
use Rattle.back_calling.specs.Entering.{Inside, BodyComes}
use Rattle.back_calling.proofs.Entered.{levels_entered}
use Rattle.back_calling.proofs.Inner.{going_on_law}
use Rattle.back_calling.proofs.Outward.{self_out}
use Rattle.back_calling.proofs.Units.{begins_recounted, world_both, around_both}
use Rattle.back_function_entries.specs.Bodies.{LawOfBodies}
use Rattle.back_function_entries.proofs.Frames.{framed, world_framed, around_framed, form_returned, at_place, call_at_place, ends_at_place}
use Rattle.back_function_entries.proofs.Siteless.{means_at_all_sites}
use Rattle.back_function_entries.proofs.Held.{ExtraHeld, held_by, extra_below, more_count}
use Rattle.back_function_entries.proofs.Others.{BoxesCome, were_made, are_full, are_stopped, boxes_come}
use Rattle.back_function_entries.proofs.Programs.{body_scope, BodyStands, body_stands}
use Rattle.back_function_entries.proofs.Scopes.{registers_count, register_of, new_count, new_homes, slot_in, first_words, more_words, first_count}

-- ---- the scope of a body

module _ (setting : Setting) (extra : Extra) (q : FlatProcedure) where
  abbrev n : ℕ
  n = variable_count q

  abbrev sr : ℕ
  sr = site_register setting.names setting.at setting.program extra q

  abbrev d : ℕ
  d = sr + 1

  no_slot : (r i : ℕ) → n ≤ r → slice_get (registers_from 0 n) i ≡ Some r → ⊥
  no_slot r i low e = let h = register_of 0 n i r e in omega (arith, low, h.0, h.1)

  -- **the registers of a body's scope**
  scope_stands : ScopeStands (scope_of setting.names setting.at setting.program extra q) d
  scope_stands = record {
    slots_below = λ i r e. let h = register_of 0 n i r e in omega (arith, h.0, h.1);
    slots_apart = λ i j r e f. let g = register_of 0 n i r e in let h = register_of 0 n j r f in omega (arith, g.0, h.0);
    exits = λ i x e. absurd (cc e);
    self = (omega arith, λ i e. no_slot n i (omega arith) e);
    method = λ m e. method_own extra m e;
    site = λ r e. site_own (asks_site q.body) r e;
  }
    where
      method_own : (x : Extra) (m : ℕ) → method_at setting.names setting.at setting.program x n ≡ Some m
          → IsOwn (scope_of setting.names setting.at setting.program extra q) (n + extra_count x + 1) m × IsOwn (scope_of setting.names setting.at setting.program extra q) (n + extra_count x + 1) (m + 1)
          × IsOwn (scope_of setting.names setting.at setting.program extra q) (n + extra_count x + 1) (m + 2)
      method_own nothing m e = absurd (cc e)
      method_own itself m e = absurd (cc e)
      method_own its_method m e =
          let same : n ≡ m = cc e in (
            (omega (arith, same), λ i f. no_slot m i (omega (arith, same)) f),
            (omega (arith, same), λ i f. no_slot (m + 1) i (omega (arith, same)) f),
            (omega (arith, same), λ i f. no_slot (m + 2) i (omega (arith, same)) f),
          )

      site_own : (t : Bool) (r : ℕ) → (if t then Held sr else Known 0) ≡ Held r → IsOwn (scope_of setting.names setting.at setting.program extra q) d r
      site_own true r e = let same : sr ≡ r = cc e in (omega (arith, same), λ i f. no_slot r i (omega (arith, same)) f)
      site_own false r e = absurd (cc e)

-- ---- the form of a body

module _ (setting : Setting) (k : ℕ) (extra : Extra) (q : FlatProcedure)
    (does : DoesForm setting setting.turns_each (context_at setting k) (code_at setting k setting.turns_each) q.body) (cs : List Captured) (called_as : Option Called)
    (rs valid : List Standing) (outside : DynamicContext) (place : Place) where
  -- the site is one at which the form means the same
  abbrev around : DynamicContext
  around = at_place place outside

  abbrev c : Context
  c = code_at setting k setting.turns_each

  abbrev env : FlatEnvironment
  env = record no_environment { captured = cs; method = called_as }

  abbrev value : Steps
  value = (lower setting.names setting.at setting.program (scope_of setting.names setting.at setting.program extra q) (d setting extra q) q.body).value

  abbrev inside : ℕ
  inside = words_for setting.names setting.program q.body

  -- **where the form begins**, in slots of its own
  form_begins :
      {entry : ℕ} {w : World} {z : FlatState} {regs : Registers} {y : MidState} (vs : List Value) (count : ℕ) (stands : BodyStands setting entry extra q cs w) → length vs ≡ length (homes q)
      → CallBegins setting rs valid inside w around (framed (new_slots (homes q) vs count) z) y → SlotsIn w 0 (new_slots (homes q) vs count) regs
      → ExtraHeld setting extra q cs called_as w z regs y → SiteHeld setting regs (scope_of setting.names setting.at setting.program extra q).site place → d setting extra q < length regs
      → Begins setting rs valid (body_scope setting extra q stands.kinds stands.forms stands.in_procedure) (d setting extra q) inside w env around (framed (new_slots (homes q) vs count) z) regs y
  form_begins {w = w} {z = z} {regs = regs} {y = y} vs count stands many call slots held site there = record {
    call = call;
    activation = record {
      slot_count = registers_count 0 (n setting extra q) ∙ sym (new_count (homes q) vs count many);
      home_count = sym (new_count (homes q) vs count many);
      homes = λ i x e. new_homes (homes q) vs count i x many e;
      slots = λ i r f e g. let at = register_of 0 (n setting extra q) i r e in slot_in w 0 i r (new_slots (homes q) vs count) f regs slots g at.0;
      exit_count = refl;
      flat_count = refl;
      exits = λ i x e. absurd (cc e);
      exit_forms = λ i x e. absurd (cc e);
      kinds = stands.of_kinds;
      made_by = stands.made_by;
      self = held.self;
      method = held.method;
      site = site;
    };
    scope = scope_stands setting extra q;
    method_there = held.there;
    first = there;
  }

  -- **what it comes to, and its word returned**
  form_ends :
      {entry : ℕ} {w : World} {z : FlatState} {regs : Registers} {y : MidState} (vs : List Value) (count : ℕ) (stands : BodyStands setting entry extra q cs w) → length vs ≡ length (homes q)
      → CallBegins setting rs valid inside w outside (framed (new_slots (homes q) vs count) z) y → SlotsIn w 0 (new_slots (homes q) vs count) regs
      → ExtraHeld setting extra q cs called_as w z regs y → SiteHeld setting regs (scope_of setting.names setting.at setting.program extra q).site place → d setting extra q < length regs
      → enough_for (of_code (code_of value)) ≤ length regs → ((x : FlatState) → mean (context_at setting k) q.body env outside x ≡ mean (context_at setting k) q.body env around x)
      → CallEnds setting (form_credit + return_cost) setting.turns_each rs valid w outside (charged 1 z) y
      (with_frame z.frame (below_at setting (suc k) (form q.body) env outside (framed (new_slots (homes q) vs count) z)))
      (exec c (code_of (value ++ (return_word (d setting extra q) ∷ []))) regs y)
  form_ends {w = w} {z = z} {regs = regs} {y = y} vs count stands many call slots held site there enough same =
      ends_at_place setting place
      (subst
      (λ r. CallEnds setting (form_credit + return_cost) setting.turns_each rs valid w around (charged 1 z) y (with_frame z.frame r) (exec c (code_of (value ++ (return_word (d setting extra q) ∷ []))) regs y))
      (sym (meaning_below setting k q.body env outside (framed (new_slots (homes q) vs count) z) ∙ same (framed (new_slots (homes q) vs count) z)))
      (subst
      (λ p.
      CallEnds setting (form_credit + return_cost) setting.turns_each rs valid w around (charged 1 z) y
      (with_frame z.frame (mean (context_at setting k) q.body env around (framed (new_slots (homes q) vs count) z))) p)
      (sym (in_two_parts c value (return_word (d setting extra q) ∷ []) regs y))
      (form_returned setting {z = charged 1 z} c (new_slots (homes q) vs count) (λ g x. steps_grow setting k setting.turns_each (return_word (d setting extra q) ∷ []) g x)
      (does rs valid (body_scope setting extra q stands.kinds stands.forms stands.in_procedure) (d setting extra q) inside stands.first w env around
      (framed (new_slots (homes q) vs count) z) regs y stands.stands (form_begins vs count stands many (call_at_place setting place call) slots held site there) enough (omega arith)))))

-- ---- the whole body

stands_later : {setting : Setting} {entry : ℕ} {extra : Extra} {q : FlatProcedure} {cs : List Captured} {w w' : World} → Later w w' → BodyStands setting entry extra q cs w
    → BodyStands setting entry extra q cs w'
stands_later {cs = cs} l s = record {
  kinds = s.kinds;
  forms = s.forms;
  in_procedure = s.in_procedure;
  first = s.first;
  stands = s.stands;
  of_kinds = s.of_kinds;
  made_by = made_by_later l cs s.forms s.made_by;
  paid = s.paid;
  there = s.there;
}

module _ (setting : Setting) (right : ProgramIsRight setting) (k entry : ℕ) (extra : Extra) (q : FlatProcedure)
    (does : DoesForm setting setting.turns_each (context_at setting k) (code_at setting k setting.turns_each) q.body) (rs valid : List Standing) (cs : List Captured)
    (called_as : Option Called) (vs : List Value) (ws more : List ℕ) (w : World) (around : DynamicContext) (z : FlatState) (y : MidState)
    (function : IsFunction setting entry extra q) (fits : CapturedFits setting w entry extra q cs)
    (b : BodyBegins setting rs valid extra q cs called_as vs ws more w around z y) where
  abbrev p : MidProcedure
  p = body_of setting.names setting.at setting.program extra q

  abbrev the_value : Steps
  the_value = value setting k extra q does cs called_as rs valid around around.site

  abbrev boxes : Steps
  boxes = boxes_made (homes q) 0 (d setting extra q)

  abbrev last : Steps
  last = the_value ++ (return_word (d setting extra q) ∷ [])

  abbrev next : FlatState → FlatEvaluated
  next ready =
      in_own_frame (λ inner.
      below_at setting (suc k) (form q.body) (record no_environment { captured = cs; method = called_as }) around (with_slots (homes q) vs inner)) ready

  next_grows : (x : FlatState) → FlatGrown x (next x).state
  next_grows x =
      let g = below_grows setting (suc k) (form q.body) (record no_environment { captured = cs; method = called_as }) around (with_slots (homes q) vs (record x { frame = [] })) in
      record { printed = g.printed; units = g.units; exits = g.exits }

  grown : FlatGrown z (mean_inside (context_at setting (suc k)) q cs called_as vs around z).state
  grown = boxes_grow setting.limit (homes q) z next next_grows

  word_count : length ws ≡ variable_count q
  word_count = words_many vs ws b.variables ∙ b.variable_count
    where
      words_many : (us : List Value) (xs : List ℕ) → WordsOf w.places us xs → length xs ≡ length us
      words_many [] [] h = refl
      words_many [] (x ∷ xs) h = absurd h
      words_many (u ∷ us) [] h = absurd h
      words_many (u ∷ us) (x ∷ xs) h = ap suc (words_many us xs h.1)

  extras_count : length more ≡ extra_count extra
  extras_count = more_count setting extra q cs called_as more w z y b.extras

  all_count : length (ws ++ more) ≡ variable_count q + extra_count extra
  all_count = length-append ws more ∙ ap (λ m. m + length more) word_count ∙ ap (λ m. variable_count q + m) extras_count

  -- ---- registers

  abbrev regs0 : Registers
  regs0 = first_registers p.registers (ws ++ more)

  abbrev s : ℕ
  s = sr setting extra q

  size0 : length regs0 ≡ p.registers
  size0 = first_count p.registers (ws ++ more) (omega (arith, all_count))

  abbrev taken : Steps
  taken = site_taken setting.names setting.at setting.program extra q

  enough_all : enough_for (of_code (code_of (taken ++ (boxes ++ last)))) ≤ p.registers
  enough_all = omega arith

  enough_behind : enough_for (of_code (code_of (boxes ++ last))) ≤ p.registers
  enough_behind = registers_behind taken (boxes ++ last) p.registers enough_all

  enough_boxes : enough_for (of_code (code_of boxes)) ≤ p.registers
  enough_boxes = registers_front boxes last p.registers enough_behind

  enough_last : enough_for (of_code (code_of last)) ≤ p.registers
  enough_last = registers_behind boxes last p.registers enough_behind

  enough_value : enough_for (of_code (code_of the_value)) ≤ p.registers
  enough_value = registers_front the_value (return_word (d setting extra q) ∷ []) p.registers enough_last

  enough_return : d setting extra q < p.registers
  enough_return = let h : max (d setting extra q + 1) 0 ≤ p.registers = registers_behind the_value (return_word (d setting extra q) ∷ []) p.registers enough_last in omega (arith, h)

  -- the site was taken, where the body asks for it: at a place at which the form means the same
  record Taken (y' : MidState) : Type 0 where
    place : Place
    same : (x : FlatState)
        → mean (context_at setting k) q.body (record no_environment { captured = cs; method = called_as }) around x
        ≡ mean (context_at setting k) q.body (record no_environment { captured = cs; method = called_as }) (at_place place around) x
    regs : Registers
    paid : ℕ
    runs : RunsTo (code_at setting k setting.turns_each) (code_of taken) regs0 y' (ends falls regs (mid_charged paid y'))
    few : paid ≤ 14
    beside : (r : ℕ) → (r ≡ s → ⊥) → slice_get regs r ≡ slice_get regs0 r
    count : length regs ≡ p.registers
    held : (regs' : Registers) → register s regs' ≡ register s regs → SiteHeld setting regs' (scope_of setting.names setting.at setting.program extra q).site place

  taken_by : (y' : MidState) → ((x : ℕ) → word_at y'.arena x ≡ word_at y.arena x) → (asked : Bool) → asks_site q.body ≡ asked → Taken y'
  taken_by y' words true asks =
      let site = b.site asks in
      let code : taken ≡ load_from s s site_address = ap (λ t. if t then load_from s s site_address else []) asks in
      let first = slice_set regs0 s (Some 0) in
      let size : length first ≡ p.registers = length-set regs0 s (Some 0) ∙ size0 in
      record {
        place = around.site;
        same = λ x. refl;
        regs = slice_set first s (Some site.0);
        paid = 14;
        runs =
            subst (λ ss. RunsTo (code_at setting k setting.turns_each) (code_of ss) regs0 y' (ends falls (slice_set first s (Some site.0)) (mid_charged 14 y'))) (sym code)
            (costing {n = y'.cost + 14}
            (and_then constant_falls
            (and_then
            (load_falls (register_here regs0 s 0 (omega (arith, size0, enough_return))) (address_above 0 site_address site_address (omega arith) (omega arith))
            (words site_address ∙ site.1))
            none_left))
            (omega arith));
        few = omega arith;
        beside = λ r other. set_elsewhere first s r (Some site.0) (λ e. other (sym e)) ∙ set_elsewhere regs0 s r (Some 0) (λ e. other (sym e));
        count = length-set first s (Some site.0) ∙ size;
        held = λ regs' e.
            subst (λ x. SiteHeld setting regs' x around.site) (sym (ap (λ t. if t then Held s else Known 0) asks))
            (site.0, e ∙ register_here first s site.0 (omega (arith, size, enough_return)), site.2);
      }
  taken_by y' words false asks =
      let code : taken ≡ [] = ap (λ t. if t then load_from s s site_address else []) asks in
      record {
        place = no_place;
        same = λ x. means_at_all_sites setting k q.body no_place asks (record no_environment { captured = cs; method = called_as }) around x;
        regs = regs0;
        paid = 0;
        runs =
            subst (λ ss. RunsTo (code_at setting k setting.turns_each) (code_of ss) regs0 y' (ends falls regs0 (mid_charged 0 y'))) (sym code)
            (costing {n = y'.cost + 0} none_left (omega arith));
        few = omega arith;
        beside = λ r other. refl;
        count = size0;
        held = λ regs' e. subst (λ x. SiteHeld setting regs' x no_place) (sym (ap (λ t. if t then Held s else Known 0) asks)) (inl (refl, refl));
      }

  -- what is paid of a body beside its entry
  abbrev body_paid : ℕ
  body_paid = body_credit q - entry_cost p.parameters

  few_extras : extra_count extra ≤ 3
  few_extras = by extra
    where
      by : (x : Extra) → extra_count x ≤ 3
      by nothing = omega arith
      by its_method = omega arith
      by itself = omega arith

  -- ---- where its variables have their boxes

  module _ (y' : MidState) (i : Inside setting rs valid (words_for setting.names setting.program q.body) (entry_cost p.parameters) w around z y y') (site : Taken y') where
    abbrev y1 : MidState
    y1 = mid_charged site.paid y'

    variables_there : WordsIn 0 ws site.regs
    variables_there =
        words_kept 0 ws regs0 site.regs (λ r low high. ap word_in (site.beside r (λ e. omega (arith, e, high, word_count)))) (first_words p.registers ws more)

    paid_world : WorldKept setting w w z z y' y1
    paid_world = world_cost setting site.paid i.call.things

    paid_around : Around setting 14 z z y' y1
    paid_around = around_cost setting z y' site.paid site.few

    abbrev w1 : World
    w1 = cleaned setting paid_world.things

    clean_world : WorldKept setting w w1 z z y' y1
    clean_world =
        world_then setting paid_world paid_around
        (record {
          later = later_cut (stack_from y1.arena) w;
          things = things_cleaned setting paid_world.things;
          stack = stack_cleaned setting paid_world.things;
          end = λ m e. e;
          more_exits = omega arith;
          same_size = refl;
        })

    module _ (w' : World) (z' : FlatState) (regs' : Registers) (y2 : MidState) (m : BoxesMade setting (homes q) vs 0 z.state.variables w1 w' z z' site.regs regs' y1 y2)
        (others : (r : ℕ) → 0 + length (homes q) ≤ r → r < d setting extra q → slice_get regs' r ≡ slice_get site.regs r) where
      abbrev zc : FlatState
      zc = with_values (new_boxes (homes q) vs) z'

      abbrev fs : List FrameSlot
      fs = new_slots (homes q) vs (length z'.state.variables)

      same_variables : m.variables ≡ z'.state.variables ++ new_boxes (homes q) vs
      same_variables = m.are ∙ ap (λ us. us ++ new_boxes (homes q) vs) (sym m.same_variables)

      boxes_world : WorldKept setting w1 w' z zc y1 y2
      boxes_world = subst (λ us. WorldKept setting w1 w' z (extended us z') y1 y2) same_variables m.world

      boxes_around : Around setting 0 z zc y1 y2
      boxes_around = subst (λ us. Around setting 0 z (extended us z') y1 y2) same_variables m.back

      whole_world : WorldKept setting w w' z zc y' y2
      whole_world = world_then setting clean_world paid_around boxes_world

      whole_around : Around setting 14 z zc y' y2
      whole_around = back_then setting clean_world paid_around (omega arith) boxes_around

      call_there : CallBegins setting rs valid (words_for setting.names setting.program q.body) w' around (framed fs zc) y2
      call_there =
          call_then setting (world_framed setting z.frame fs whole_world) (around_framed setting z.frame fs whole_around) (words_for setting.names setting.program q.body) i.call
          (room_after setting.limit _ _ z zc y' y2 (omega arith) whole_around.charged i.call.room)

      slots_there : SlotsIn w' 0 fs regs'
      slots_there = subst (λ c. SlotsIn w' 0 (new_slots (homes q) vs c) regs') (ap length (sym m.same_variables)) m.slots

      extras_there : (j : ℕ) → j < length more → register (variable_count q + j) regs' ≡ register j (as_registers more)
      extras_there j few =
          ap word_in
          (others (variable_count q + j) (omega arith) (omega (arith, few, extras_count)) ∙ site.beside (variable_count q + j) (λ e. omega (arith, e, few, extras_count)))
          ∙ more_words p.registers ws more (variable_count q) j (sym word_count) few

      held_first : ExtraHeld setting extra q cs called_as w z regs' y'
      held_first =
          held_by setting entry extra q cs called_as more w z regs' y' fits extras_there
          (extra_below setting extra q cs called_as more w z y y' i.words i.from b.extras)

      held_there : ExtraHeld setting extra q cs called_as w' zc regs' y2
      held_there = record {
        self =
            self_out z.captured zc.captured (register (variable_count q) regs') whole_world.later (λ i' s' e. ap (λ made. under i' made) m.captured) cs held_first.self;
        method =
            method_later setting whole_world.later (same_world setting whole_world whole_around) q.keeps_method regs' regs'
            (method_at setting.names setting.at setting.program extra (variable_count q)) called_as (λ r e. (refl, refl, refl)) held_first.method;
        there =
            method_there_again setting y'.arena y2.arena regs' regs' (method_at setting.names setting.at setting.program extra (variable_count q)) called_as whole_world.later
            (omega (arith, stack_same (same_world setting whole_world whole_around))) (λ r e. refl) held_first.there;
      }

      size2 : length regs' ≡ p.registers
      size2 = m.count ∙ site.count

      -- **the form, and its word returned**
      made_ends : CallEnds setting body_paid setting.turns_each rs valid w around (charged 1 z) y' (next z') (exec (code_at setting k setting.turns_each) (code_of last) regs' y2)
      made_ends =
          going_on_law setting 14 (form_credit + return_cost) body_paid setting.turns_each setting.turns_each rs valid w w' around (charged 1 z) (charged 1 zc) y' y2 (next z')
          (exec (code_at setting k setting.turns_each) (code_of last) regs' y2) (world_both setting 1 whole_world) (around_both setting 1 whole_around) (omega (arith, few_extras)) (let up = m.up in omega (arith, up)) m.frame
          (form_ends setting k extra q does cs called_as rs valid around site.place vs (length z'.state.variables)
          (stands_later whole_world.later (body_stands setting right entry extra q cs w function fits)) b.variable_count call_there slots_there held_there
          (site.held regs' (ap word_in (others s (omega arith) (omega arith)))) (omega (arith, size2, enough_return)) (omega (arith, size2, enough_value)) site.same)

    -- all that comes behind the site
    behind_ends : CallEnds setting body_paid setting.turns_each rs valid w around (charged 1 z) y' (mean_inside (context_at setting (suc k)) q cs called_as vs around z)
        (exec (code_at setting k setting.turns_each) (code_of (boxes ++ last)) site.regs y1)
    behind_ends =
        by
        (boxes_come setting k setting.turns_each (words_for setting.names setting.program q.body + words_for_handler * length around.handlers) (homes q) vs ws 0 (d setting extra q) w1 z
        site.regs y1 last next right.placed.placed (things_cleaned setting paid_world.things) (is_clean setting paid_world.things)
        (room_after setting.limit _ _ z z y' y1 (omega arith) paid_around.charged i.call.room) b.variable_count b.variables
        variables_there (omega arith) (omega (arith, site.count, enough_boxes)) next_grows)
      where
        by :
            BoxesCome setting (homes q) vs 0 (d setting extra q) w1 z site.regs y1 next (λ g x. exec (code_at setting k setting.turns_each) (code_of last) g x)
            (mean_inside (context_at setting (suc k)) q cs called_as vs around z) (exec (code_at setting k setting.turns_each) (code_of (boxes ++ last)) site.regs y1)
            → CallEnds setting body_paid setting.turns_each rs valid w around (charged 1 z) y' (mean_inside (context_at setting (suc k)) q cs called_as vs around z)
            (exec (code_at setting k setting.turns_each) (code_of (boxes ++ last)) site.regs y1)
        by (were_made w' z' regs' y2 m others e f) =
            subst
            (λ r.
            CallEnds setting body_paid setting.turns_each rs valid w around (charged 1 z) y' r
            (exec (code_at setting k setting.turns_each) (code_of (boxes ++ last)) site.regs y1))
            (sym e)
            (subst (λ o. CallEnds setting body_paid setting.turns_each rs valid w around (charged 1 z) y' (next z') o) (sym f) (made_ends w' z' regs' y2 m others))
        by (are_full x) = full_there x
        by (are_stopped x) = stopped (stopped_before setting (let few = site.few in omega (arith, few, few_extras)) x)

  -- where the body begins, before the unit that its form leaves something of
  before_unit :
      (y' : MidState) → Inside setting rs valid (words_for setting.names setting.program q.body) (entry_cost p.parameters) w around (charged 1 z) y y'
      → Inside setting rs valid (words_for setting.names setting.program q.body) (entry_cost p.parameters) w around z y y'
  before_unit y' i = record { call = begins_recounted setting z.state.units i.call; words = i.words; grows = i.grows; heap = i.heap; from = i.from; cost = i.cost }

  -- **the body**
  body_comes :
      (y' : MidState) → Inside setting rs valid (words_for setting.names setting.program q.body) (entry_cost p.parameters) w around (charged 1 z) y y'
      → CallEnds setting body_paid setting.turns_each rs valid w around (charged 1 z) y' (mean_inside (context_at setting (suc k)) q cs called_as vs around z)
      (exec (code_at setting k setting.turns_each) (code_of p.body) regs0 y')
  body_comes y' i =
      let site = taken_by y' i.words (asks_site q.body) refl in
      let run = parts_then taken (boxes ++ last) site.runs (record { same = refl }) in
      subst
      (λ o. CallEnds setting body_paid setting.turns_each rs valid w around (charged 1 z) y' (mean_inside (context_at setting (suc k)) q cs called_as vs around z) o)
      (sym run.same) (behind_ends y' (before_unit y' i) site)

  -- **the call of a body**
  called_ends :
      (turns : ℕ) → CallEnds setting (body_credit q) setting.turns_each rs valid w around (charged 1 z) y (mean_inside (context_at setting (suc k)) q cs called_as vs around z)
      (called (code_at setting (suc k) turns) (body_of_procedure setting.at entry) (ws ++ more) y)
  called_ends turns =
      let stands = body_stands setting right entry extra q cs w function fits in
      let sum : body_paid + entry_cost p.parameters ≡ body_credit q = omega (arith, few_extras) in
      subst
      (λ m.
      CallEnds setting m setting.turns_each rs valid w around (charged 1 z) y (mean_inside (context_at setting (suc k)) q cs called_as vs around z)
      (called (code_at setting (suc k) turns) (body_of_procedure setting.at entry) (ws ++ more) y))
      sum
      (levels_entered setting (suc k) turns (body_of_procedure setting.at entry) setting.turns_each (body_room q) (words_for setting.names setting.program q.body) body_paid p (ws ++ more) rs
      valid w around (charged 1 z) y (mean_inside (context_at setting (suc k)) q cs called_as vs around z) stands.there refl all_count (let paid = stands.paid in omega (arith, paid)) grown.printed (λ ended. omega (arith, grown.units)) (begins_recounted setting (z.state.units + 1) b.call) (λ e. absurd (cc e))
      (λ j e.
      let same : k ≡ j = omega (arith, e) in
      subst
      (λ l.
      BodyComes setting (code_at setting l setting.turns_each) p body_paid setting.turns_each (words_for setting.names setting.program q.body) (ws ++ more) rs valid w around (charged 1 z) y
      (mean_inside (context_at setting (suc k)) q cs called_as vs around z))
      same body_comes))

pub bodies_law : LawOfBodies
bodies_law setting k entry extra q right does rs valid turns cs called_as vs ws more w around z y function fits b =
    called_ends setting right k entry extra q does rs valid cs called_as vs ws more w around z y function fits b turns
