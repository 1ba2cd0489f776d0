-- The records that an activation has are those of its line: each kind of line keeps that.
use Rattle.std.proofs.Common.{◌≡◌, ℕ, zero, suc, ◌+◌, Bool, true, false, ◌&&◌, ◌==◌, List, [], ◌∷◌, map, Option, Some, None, refl, sym, ap, ◌∙◌, subst, if◌then◌else◌}
use Rattle.std.specs.Prelude.{slice_get}
use Rattle.mid_code.specs.declared.operation.Operation.{Operation}
use Rattle.mid_code.specs.declared.operation.Operation.TheVariants.{Move, Constant, Compute, Load, Store, Request, Draw, Put, Get, Call}
use Rattle.mid_code.specs.State.{Registers, MidState, End, falls, returns, cuts, no_room, no_level, no_turn, halts, unhandled, exhausted, stuck, MidOutcome, Next, ends, with_some, register}
use Rattle.mid_code.specs.Arena.{outside_of}
use Rattle.mid_code.specs.Meaning.{give_back, exec_step}
use Rattle.mid_lines.specs.declared.line.Line.{Line}
use Rattle.mid_lines.specs.declared.line.Line.TheVariants.{Do, Branch, Switch, Jump, Lay, Landed, GiveBack, Lend, GiveBackLent, Return, Cut, Halt, Unhandled}
use Rattle.mid_lines.specs.declared.line.LineProcedure.{LineProcedure}
use Rattle.mid_lines.specs.declared.line.LineProgram.{LineProgram}
use Rattle.mid_lines.specs.Lines.{line_of}
use Rattle.mid_lines.specs.LineMeaning.{Standing, Activation, with_standing, Caller, Stage, running, entering, ended, return_to, standing_from, closed, arrive, arrive_from, land_at, land_in, land, cut_outwards, proceed, proceed_from, enter_at, begin, holds, branch, words_in, callee_in, call, perform_at, target_in, switch_to, lend_at, is_record_of, is_only_lent, give_back_at, do_line, next, after}
use Rattle.mid_lines.specs.StaticRecords.{StaticRecord, of_landing, only_lent, static_in, static_of, RecordsFlow, ActivationHas, CallersHave, StageHas, LawOfStandingRecords}

module _ (program : LineProgram) (at : ℕ → ℕ → List StaticRecord) (flow : RecordsFlow program at) where
  -- at the landing of each of these records, it and those outside it stand
  abbrev pub LandingsHave : (number : ℕ) → List StaticRecord → Type 0
  LandingsHave number [] = Unit {0}
  LandingsHave number (of_landing words landing ∷ records) = (at number landing ≡ of_landing words landing ∷ records) × LandingsHave number records
  LandingsHave number (only_lent ∷ records) = LandingsHave number records

  rest_have : (number : ℕ) (r : StaticRecord) (records : List StaticRecord) → LandingsHave number (r ∷ records) → LandingsHave number records
  rest_have number (of_landing words landing) records h = h.1
  rest_have number only_lent records h = h

  -- an activation at a line
  pub record Known (a : Activation) (line : ℕ) : Type 0 where
    pub same : ActivationHas at a line
    pub landings : LandingsHave a.procedure (map static_of a.standing)

  abbrev pub CallersKnown : List Caller → Type 0
  CallersKnown [] = Unit {0}
  CallersKnown (c ∷ callers) = Known c.activation c.line × CallersKnown callers

  -- what each step keeps: the records are those of the lines, and of the landings too
  abbrev pub StageKnown : Stage → Type 0
  StageKnown (running a line rs callers z) = Known a line × CallersKnown callers
  StageKnown (entering number arguments callers z) = CallersKnown callers
  StageKnown (ended e z) = Unit {0}

  -- at another line with the same records
  moved : (a : Activation) (line to : ℕ) → at a.procedure to ≡ at a.procedure line → Known a line → Known a to
  moved a line to e h = record { same = h.same ∙ sym e; landings = h.landings }

  arrive_known : (a : Activation) (line : ℕ) (callers : List Caller) (r : MidOutcome) → Known a line → CallersKnown callers → StageKnown (arrive a line callers r)
  arrive_known a line callers r h k = from r.end
    where
      from : (e : End) → StageKnown (arrive_from e a line r.registers callers r.state)
      from falls = (h, k)
      from e = tt

  return_known : (callers : List Caller) (word : ℕ) (z : MidState) → CallersKnown callers → StageKnown (return_to callers word z)
  return_known [] word z k = tt
  return_known (c ∷ callers) word z k = k

  -- cuts

  at_landing_known :
      (o : Option Line) (landing word outside : ℕ) (a : Activation) (rs : Registers) (callers : List Caller) (z : MidState) → line_of program a.procedure landing ≡ o
      → Known a landing → CallersKnown callers → StageKnown (land_at o landing word outside a rs callers z)
  at_landing_known None landing word outside a rs callers z e h k = tt
  at_landing_known (Some (Landed r)) landing word outside a rs callers z e h k =
      arrive_known a (landing + 1) callers _ (moved a landing (landing + 1) (flow.lines a.procedure landing (Landed r) e) h) k
  at_landing_known (Some x) landing word outside a rs callers z e h k = tt

  landing_known :
      (o : Option ℕ) (word : ℕ) (s : Standing) (records : List Standing) (a : Activation) (rs : Registers) (callers : List Caller) (z : MidState)
      → s.landing ≡ o → LandingsHave a.procedure (static_in o s.words ∷ map static_of records) → CallersKnown callers
      → StageKnown (land_in program o word s.outside (with_standing (closed s ∷ records) a) rs callers z)
  landing_known None word s records a rs callers z e h k = tt
  landing_known (Some landing) word s records a rs callers z e h k =
      let is_it : static_of s ∷ map static_of records ≡ of_landing s.words landing ∷ map static_of records = ap (λ o. static_in o s.words ∷ map static_of records) e in
      at_landing_known (line_of program a.procedure landing) landing word s.outside (with_standing (closed s ∷ records) a) rs callers z refl
      (record { same = is_it ∙ sym h.0; landings = subst (LandingsHave a.procedure) (sym is_it) h }) k

  land_known :
      (word : ℕ) (records : List Standing) (a : Activation) (rs : Registers) (callers : List Caller) (z : MidState) (otherwise : Stage)
      → LandingsHave a.procedure (map static_of records) → CallersKnown callers → StageKnown otherwise
      → StageKnown (land program word records a rs callers z otherwise)
  land_known word [] a rs callers z otherwise h k l = l
  land_known word (s ∷ records) a rs callers z otherwise h k l = landing_known s.landing word s records a rs callers z refl h k

  from_have : (number n : ℕ) (records : List Standing) → LandingsHave number (map static_of records) → LandingsHave number (map static_of (standing_from n records))
  from_have number n [] h = h
  from_have number n (s ∷ records) h =
      by (s.is_open && (n == s.outside)) (from_have number n records (rest_have number (static_of s) (map static_of records) h))
    where
      by :
          (t : Bool) → LandingsHave number (map static_of (standing_from n records))
          → LandingsHave number (map static_of (if t then s ∷ records else standing_from n records))
      by true i = h
      by false i = i

  outwards_known : (n word : ℕ) (callers : List Caller) (z : MidState) → CallersKnown callers → StageKnown (cut_outwards program n word callers z)
  outwards_known n word [] z k = tt
  outwards_known n word (c ∷ callers) z k =
      land_known word (standing_from n c.activation.standing) c.activation c.registers callers z _
      (from_have c.activation.procedure n c.activation.standing k.0.landings) k.1 (outwards_known n word callers z k.1)

  proceed_known :
      (a : Activation) (line : ℕ) (callers : List Caller) (r : MidOutcome) → Known a line → CallersKnown callers → StageKnown (proceed program a line callers r)
  unfolding proceed
  proceed_known a line callers r h k = from r.end
    where
      from : (e : End) → StageKnown (proceed_from program e a line r.registers callers r.state)
      from falls = (h, k)
      from (returns w) = return_known callers w _ k
      from (cuts n w) =
          land_known w (standing_from n a.standing) a r.registers callers r.state _ (from_have a.procedure n a.standing h.landings) k
          (outwards_known n w callers r.state k)
      from e = tt

  -- what an activation ends with

  abbrev Leaves : End → Type 0
  Leaves falls = ⊥
  Leaves e = Unit {0}

  leaves_known :
      (a : Activation) (line : ℕ) (callers : List Caller) (e : End) (rs : Registers) (z : MidState) → Leaves e
      → LandingsHave a.procedure (map static_of a.standing) → CallersKnown callers → StageKnown (proceed program a line callers (ends e rs z))
  unfolding proceed
  leaves_known a line callers falls rs z l h k = absurd l
  leaves_known a line callers (returns w) rs z l h k = return_known callers w _ k
  leaves_known a line callers (cuts n w) rs z l h k =
      land_known w (standing_from n a.standing) a rs callers z _ (from_have a.procedure n a.standing h) k (outwards_known n w callers z k)
  leaves_known a line callers (no_room asked left) rs z l h k = tt
  leaves_known a line callers no_level rs z l h k = tt
  leaves_known a line callers no_turn rs z l h k = tt
  leaves_known a line callers (halts w) rs z l h k = tt
  leaves_known a line callers (unhandled class site condition) rs z l h k = tt
  leaves_known a line callers exhausted rs z l h k = tt
  leaves_known a line callers stuck rs z l h k = tt

  some_known :
      {X : Type 0} (o : Option X) (f : X → Next) (a : Activation) (line : ℕ) (rs : Registers) (callers : List Caller) (z : MidState)
      → ((x : X) → StageKnown (proceed program a line callers (f x rs z))) → StageKnown (proceed program a line callers (with_some o f rs z))
  unfolding with_some proceed
  some_known None f a line rs callers z h = tt
  some_known (Some x) f a line rs callers z h = h x

  -- lines

  branch_known :
      (o : Option Bool) (a : Activation) (line otherwise : ℕ) (rs : Registers) (callers : List Caller) (z : MidState) → Known a line → Known a otherwise
      → CallersKnown callers → StageKnown (branch o a line otherwise rs callers z)
  branch_known None a line otherwise rs callers z h i k = tt
  branch_known (Some true) a line otherwise rs callers z h i k = (h, k)
  branch_known (Some false) a line otherwise rs callers z h i k = (i, k)

  call_known : (o : Option (List ℕ)) (p : Option ℕ) (callers : List Caller) (z : MidState) → CallersKnown callers → StageKnown (call o p callers z)
  call_known None p callers z k = tt
  call_known (Some words) None callers z k = tt
  call_known (Some words) (Some number) callers z k = k

  goes_to_known :
      (o : Option ℕ) (a : Activation) (rs : Registers) (callers : List Caller) (z : MidState) → ((to : ℕ) → o ≡ Some to → Known a to) → CallersKnown callers
      → StageKnown (switch_to o a rs callers z)
  goes_to_known None a rs callers z h k = tt
  goes_to_known (Some to) a rs callers z h k = (h to refl, k)

  switch_known :
      (targets : List ℕ) (o : Option ℕ) (a : Activation) (rs : Registers) (callers : List Caller) (z : MidState)
      → ((n to : ℕ) → slice_get targets n ≡ Some to → Known a to) → CallersKnown callers → StageKnown (switch_to (target_in targets o) a rs callers z)
  switch_known targets None a rs callers z h k = tt
  switch_known targets (Some n) a rs callers z h k = goes_to_known (slice_get targets n) a rs callers z (h n) k

  lend_known :
      (block : ℕ) (o : Option ℕ) (a : Activation) (line to : ℕ) (rs : Registers) (callers : List Caller) (z : MidState)
      → at a.procedure to ≡ only_lent ∷ at a.procedure line → Known a line → CallersKnown callers → StageKnown (lend_at block o a to rs callers z)
  lend_known block None a line to rs callers z e h k = tt
  lend_known block (Some n) a line to rs callers z e h k =
      arrive_known _ to callers _ (record { same = ap (λ l. only_lent ∷ l) h.same ∙ sym e; landings = h.landings }) k

  give_back_known :
      (is_such : Standing → Bool) (records : List Standing) (a : Activation) (line : ℕ) (rs : Registers) (callers : List Caller) (z : MidState) (r : StaticRecord)
      → map static_of records ≡ r ∷ at a.procedure (line + 1) → LandingsHave a.procedure (map static_of records) → CallersKnown callers
      → StageKnown (give_back_at is_such records a line rs callers z)
  give_back_known is_such [] a line rs callers z r e h k = tt
  give_back_known is_such (s ∷ records) a line rs callers z r e h k = by (is_such s)
    where
      by : (t : Bool) → StageKnown (if t then arrive (with_standing records a) (line + 1) callers (give_back s.outside rs z) else ended stuck z)
      by true =
          arrive_known (with_standing records a) (line + 1) callers (give_back s.outside rs z)
          (record { same = cc e; landings = rest_have a.procedure (static_of s) (map static_of records) h }) k
      by false = tt

  perform_known :
      (o : Operation) (a : Activation) (line : ℕ) (rs : Registers) (callers : List Caller) (z : MidState) → Known a (line + 1) → CallersKnown callers
      → StageKnown (perform_at program o a line rs callers z)
  perform_known (Call to callee arguments) a line rs callers z h k = call_known (words_in arguments rs) (callee_in callee rs) _ _ (h, k)
  perform_known (Move to from) a line rs callers z h k = proceed_known a (line + 1) callers _ h k
  perform_known (Constant to word) a line rs callers z h k = proceed_known a (line + 1) callers _ h k
  perform_known (Compute to which first second) a line rs callers z h k = proceed_known a (line + 1) callers _ h k
  perform_known (Load to base offset) a line rs callers z h k = proceed_known a (line + 1) callers _ h k
  perform_known (Store from base offset) a line rs callers z h k = proceed_known a (line + 1) callers _ h k
  perform_known (Request to words) a line rs callers z h k = proceed_known a (line + 1) callers _ h k
  perform_known (Draw to base offset) a line rs callers z h k = proceed_known a (line + 1) callers _ h k
  perform_known (Put from) a line rs callers z h k = proceed_known a (line + 1) callers _ h k
  perform_known (Get to) a line rs callers z h k = proceed_known a (line + 1) callers _ h k

  line_known :
      (o : Option Line) (a : Activation) (line : ℕ) (rs : Registers) (callers : List Caller) (z : MidState) → line_of program a.procedure line ≡ o
      → Known a line → CallersKnown callers → StageKnown (do_line program o a line rs callers z)
  unfolding exec_step
  line_known None a line rs callers z e h k = tt
  line_known (Some (Do o)) a line rs callers z e h k =
      perform_known o a line rs callers z (moved a line (line + 1) (flow.lines a.procedure line (Do o) e) h) k
  line_known (Some (Branch t otherwise)) a line rs callers z e h k =
      let f = flow.lines a.procedure line (Branch t otherwise) e in
      branch_known (holds t rs) a (line + 1) otherwise rs callers _ (moved a line (line + 1) f.0 h) (moved a line otherwise f.1 h) k
  line_known (Some (Switch r targets)) a line rs callers z e h k =
      switch_known targets (register r rs) a rs callers _ (λ n to i. moved a line to (flow.lines a.procedure line (Switch r targets) e n to i) h) k
  line_known (Some (Jump to)) a line rs callers z e h k = (moved a line to (flow.lines a.procedure line (Jump to) e) h, k)
  line_known (Some (Lay block words landing)) a line rs callers z e h k =
      let f = flow.lines a.procedure line (Lay block words landing) e in
      arrive_known _ (line + 1) callers _
      (record {
        same = ap (λ l. of_landing words landing ∷ l) h.same ∙ sym f.0;
        landings = (f.1 ∙ ap (λ l. of_landing words landing ∷ l) (sym h.same), h.landings);
      }) k
  line_known (Some (Landed r)) a line rs callers z e h k = tt
  line_known (Some (GiveBack words)) a line rs callers z e h k =
      let f = flow.lines a.procedure line (GiveBack words) e in
      give_back_known (is_record_of words) a.standing a line rs callers z (of_landing words f.0) (h.same ∙ f.1) h.landings k
  line_known (Some (Lend block words)) a line rs callers z e h k =
      lend_known block (register words rs) a line (line + 1) rs callers _ (flow.lines a.procedure line (Lend block words) e) h k
  line_known (Some GiveBackLent) a line rs callers z e h k =
      give_back_known is_only_lent a.standing a line rs callers z only_lent (h.same ∙ flow.lines a.procedure line GiveBackLent e) h.landings k
  line_known (Some (Return r)) a line rs callers z e h k =
      some_known _ _ a (line + 1) rs callers _ (λ w. leaves_known a (line + 1) callers (returns w) rs _ tt h.landings k)
  line_known (Some (Cut block word)) a line rs callers z e h k =
      some_known _ _ a (line + 1) rs callers _ (λ b. some_known _ _ a (line + 1) rs callers _ (λ w. some_known _ _ a (line + 1) rs callers _ (λ bs.
      leaves_known a (line + 1) callers (cuts (outside_of bs) w) rs _ tt h.landings k)))
  line_known (Some (Halt r)) a line rs callers z e h k =
      some_known _ _ a (line + 1) rs callers _ (λ w. leaves_known a (line + 1) callers (halts w) rs _ tt h.landings k)
  line_known (Some (Unhandled class site condition)) a line rs callers z e h k =
      some_known _ _ a (line + 1) rs callers _ (λ c. some_known _ _ a (line + 1) rs callers _ (λ s. some_known _ _ a (line + 1) rs callers _ (λ w.
      leaves_known a (line + 1) callers (unhandled c s w) rs _ tt h.landings k)))

  entry_known :
      (o : Option LineProcedure) (number : ℕ) (arguments : List ℕ) (callers : List Caller) (z : MidState) → CallersKnown callers
      → StageKnown (enter_at o number arguments callers z)
  entry_known None number arguments callers z k = tt
  entry_known (Some p) number arguments callers z k =
      arrive_known _ 0 callers _ (record { same = sym (flow.entry number); landings = tt }) k

  pub next_known : (s : Stage) → StageKnown s → StageKnown (next program s)
  next_known (running a line rs callers z) h = line_known (line_of program a.procedure line) a line rs callers z refl h.0 h.1
  next_known (entering number arguments callers z) h = entry_known (slice_get program.procedures number) number arguments callers z h
  next_known (ended e z) h = tt

  pub after_known : (n : ℕ) (s : Stage) → StageKnown s → StageKnown (after program n s)
  unfolding after
  after_known zero s h = h
  after_known (suc n) s h = after_known n (next program s) (next_known s h)

  -- what is known of a stage is what the law says

  callers_have : (callers : List Caller) → CallersKnown callers → CallersHave at callers
  callers_have [] k = tt
  callers_have (c ∷ callers) k = (k.0.same, callers_have callers k.1)

  pub stage_has : (s : Stage) → StageKnown s → StageHas at s
  stage_has (running a line rs callers z) h = (h.0.same, callers_have callers h.1)
  stage_has (entering number arguments callers z) h = callers_have callers h
  stage_has (ended e z) h = tt

pub law_of_standing_records : LawOfStandingRecords
law_of_standing_records program at flow entry arguments z steps =
    stage_has program at flow _ (after_known program at flow steps (begin entry arguments z) tt)
