-- The step of a call: the arguments are passed, and the caller waits.
use Rattle.std.proofs.Common.{inl, inr, ◌≡◌, ◌≢◌, ℕ, suc, ◌+◌, ◌*◌, ◌^◌, ◌<◌, ◌≤◌, Bool, true, false, List, [], ◌∷◌, ◌++◌, length, refl, sym, ap, subst, ◌∙◌, arith, Some, None, length-append}
use Rattle.std.specs.Prelude.{◌⊎◌, Option, slice_index, slice_set, slice_get, nat_lt, if◌then◌else◌}
use Rattle.std.proofs.lemmas.Bool.Decides.{nat_tests}
use Rattle.std.proofs.lemmas.List.{get_or-set_same, get_or-set_other, length-set}
use Rattle.base.specs.Arithmetic.{sum32, shift_left}
use Rattle.rv_encode.specs.declared.instruction.Instr.TheVariants.{Lui, Jal, Jalr, Lw, Add, Slli}
use Rattle.rv_machine.specs.Memory.{bytes_of}
use Rattle.rv_machine.specs.Arithmetic.{sign_extended, even}
use Rattle.rv_machine.specs.Step.{next as goes_to, execute}
use Rattle.rv_machine.specs.Run.{Moment}
use Rattle.mid_code.specs.declared.operation.Callee.{Callee}
use Rattle.mid_code.specs.declared.operation.Callee.TheVariants.{Procedure, Word}
use Rattle.mid_code.specs.declared.operation.Operation.TheVariants.{Call}
use Rattle.mid_code.specs.Arena.{Block, words_of, stack_from}
use Rattle.mid_code.specs.State.{Registers, MidState, charged, register}
use Rattle.mid_lines.specs.declared.line.Line.{Line}
use Rattle.mid_lines.specs.declared.line.Line.TheVariants.{Do}
use Rattle.mid_lines.specs.declared.line.LineProcedure.{LineProcedure}
use Rattle.mid_lines.specs.declared.line.LineProgram.{LineProgram}
use Rattle.mid_lines.specs.Lines.{line_of}
use Rattle.mid_lines.specs.LineMeaning.{Standing, Activation, Caller, running, words_in, words_before}
use Rattle.mid_lines.specs.StackLaw.{frame_of, blocks_of, StandsOn, StageStands}
use Rattle.back_places.specs.declared.place.Place.{Place}
use Rattle.back_places.specs.Places.{Located, way_at, reachable, argument_register}
use Rattle.back_places.specs.Operands.{load_into, high_part, low_part}
use Rattle.back_places.specs.Selection.{jump_offset, far_offset, WithinJump, jump_code}
use Rattle.back_places.specs.Passing.{pass_code}
use Rattle.back_places.specs.LineCode.{sources, table_jump_code, before_call_code, call_code}
use Rattle.back_places.specs.Facts.{ToLandings, Reads}
use Rattle.back_places.specs.Good.{IsGood}
use Rattle.back_places.specs.Relation.{HasCode, base_of, HasProgram, AreThere, LandingHolds, LandingsHold, Runs, CallersWait, Enters, ArePassed, static_of, statics}
use Rattle.back_places.specs.StepLaw.{Comes}
use Rattle.back_emission.specs.Moments.{state_at, Beside, later, moment, beside, AreSmall, Ready}
use Rattle.back_emission.proofs.Coming.{same_moment, sets_none, one_step, step_at, and_on, and_one, has_front, has_back, next_place}
use Rattle.back_emission.proofs.Operands.{set_small, loaded, prepared_one, frame_still}
use Rattle.back_emission.proofs.JumpSteps.{jump_reaches, jumped_to}
use Rattle.back_emission.proofs.Private.{SamePrivate, private_low, lent_where, outer_words, callers_stay, program_kept}
use Rattle.back_emission.proofs.Going.{point_of}
use Rattle.back_emission.proofs.Moving.{place_small, frame_is}
use Rattle.back_emission.proofs.Scratch.{far_jumps, table_prepared}
use Rattle.back_emission.proofs.Passing.{AreAt, Before, passes, is_value_register, at_still_low}
use Rattle.back_emission.proofs.Returns.{outlasting}

module _ (program : LineProgram) (l : Located) (Fact : (number line register : ℕ) → Place → Type 0) (first : List Block)
    (good : IsGood program l Fact) where
  -- the words of registers are where the line reads them
  are_at :
      (a : Activation) (line : ℕ) (rs : Registers) (callers : List Caller) (z : MidState) (m : Moment) → (r : Runs program l Fact first a line rs callers z m)
      → (arguments : List ℕ) (ws : List ℕ) → Reads l Fact a.procedure line arguments → words_in arguments rs ≡ Some ws
      → AreAt m.state.registers r.words (base_of program (length z.arena.memory) a) (reachable (way_at l a.procedure line) (frame_of program a.procedure).words) (sources l a.procedure line arguments) ws
      × (length ws ≡ length arguments) × (length (sources l a.procedure line arguments) ≡ length arguments)
  are_at a line rs callers z m r [] [] reads e = (tt, refl, refl)
  are_at a line rs callers z m r [] (w ∷ ws) reads e = absurd (cc e)
  are_at a line rs callers z m r (v ∷ more) ws reads e = by (λ ys q. are_at a line rs callers z m r more ys reads.1 q) (register v rs) (words_in more rs) refl refl e
    where
      by : ((ys : List ℕ) → words_in more rs ≡ Some ys
          → AreAt m.state.registers r.words (base_of program (length z.arena.memory) a) (reachable (way_at l a.procedure line) (frame_of program a.procedure).words) (sources l a.procedure line more) ys
          × (length ys ≡ length more) × (length (sources l a.procedure line more) ≡ length more))
          → (x : Option ℕ) (ys : Option (List ℕ)) → register v rs ≡ x → words_in more rs ≡ ys → words_before x ys ≡ Some ws
          → AreAt m.state.registers r.words (base_of program (length z.arena.memory) a) (reachable (way_at l a.procedure line) (frame_of program a.procedure).words) (sources l a.procedure line (v ∷ more)) ws
          × (length ws ≡ suc (length more)) × (length (sources l a.procedure line (v ∷ more)) ≡ suc (length more))
      by deeper None ys hx hys h = absurd (cc h)
      by deeper (Some x) None hx hys h = absurd (cc h)
      by deeper (Some x) (Some ys) hx hys h =
          let q : ws ≡ x ∷ ys = cc h in
          let rest = deeper ys hys in
          let is_at = r.there v (l.source a.procedure line v) x reads.0 hx in
          let ok = good.sources a.procedure line v reads.0 in
          subst (λ k. AreAt m.state.registers r.words (base_of program (length z.arena.memory) a) (reachable (way_at l a.procedure line) (frame_of program a.procedure).words) (sources l a.procedure line (v ∷ more)) k × (length k ≡ suc (length more)) × (length (sources l a.procedure line (v ∷ more)) ≡ suc (length more))) (sym q)
          ((ok, is_at, place_small m.state.registers r.words _ _ (l.source a.procedure line v) x r.machine.registers_small r.machine.arena.words_small ok is_at, rest.0), ap suc rest.1, ap suc rest.2)

  -- the facts of the landings of the records that stand are there, whatever the registers
  landings_hold :
      (words registers : List ℕ) (base number line : ℕ) (rs : Registers) (records : List Standing)
      → AreThere program l Fact first registers words base number line rs → ToLandings l Fact number line (statics records)
      → LandingsHold program l Fact first words base number rs records
  landings_hold words registers base number line rs [] there to = tt
  landings_hold words registers base number line rs (s ∷ records) there to = by (λ h. landings_hold words registers base number line rs records there h) s.landing to
    where
      by : (ToLandings l Fact number line (statics records) → LandingsHold program l Fact first words base number rs records)
          → (landing : Option ℕ) → ToLandings l Fact number line (static_of s.words landing ∷ statics records)
          → LandingHolds program l Fact first words base number rs landing × LandingsHold program l Fact first words base number rs records
      by deeper None h = (tt, deeper h)
      by deeper (Some landing) h = (
        (λ v p w f e. let k = h.0.facts v p f in outlasting registers [] words base p w k.1 (there v p w k.0 e)),
        deeper h.1,
      )

  -- the caller waits
  waits :
      (a : Activation) (line to : ℕ) (callee : Callee) (arguments : List ℕ) (rs : Registers) (callers : List Caller) (z : MidState) (m : Moment)
      → line_of program a.procedure line ≡ Some (Do (Call to callee arguments))
      → (r : Runs program l Fact first a line rs callers z m)
      → CallersWait program l Fact first r.words (length z.arena.memory) (record { activation = a; line = line + 1; registers = rs; result = to } ∷ callers) (4 * l.back_at a.procedure line)
  waits a line to callee arguments rs callers z m e r =
      let g = good.lines a.procedure line (Do (Call to callee arguments)) e in (
        record {
          at = line;
          callee = callee;
          arguments = arguments;
          behind = refl;
          is_call = e;
          link_is = refl;
          there = λ v p w f ne h. elim (g.flows v p f) [
            | inl same ↦ absurd (ne same.0)
            | inr other ↦ outlasting m.state.registers [] r.words _ p w other.2 (r.there v p w other.1 h)
          ];
          landings = landings_hold r.words m.state.registers _ a.procedure line rs a.standing r.there (subst (λ x. ToLandings l Fact a.procedure line x) r.records_are g.landings);
          records_are = r.records_are;
          heads = r.heads;
          saves = g.saves;
        },
        subst (λ x. CallersWait program l Fact first r.words (length z.arena.memory) callers x) (sym (r.links.saved g.saves)) r.waiting,
      )

  -- what is known before arguments are passed
  before :
      (a : Activation) (line : ℕ) (x : Line) (rs : Registers) (callers : List Caller) (z : MidState) (m : Moment)
      → line_of program a.procedure line ≡ Some x → StandsOn program a z.arena.blocks → (r : Runs program l Fact first a line rs callers z m)
      → Before l r.words m.state.registers (way_at l a.procedure line) (base_of program (length z.arena.memory) a) (frame_of program a.procedure).words
  before a line x rs callers z m e st r =
      let stands = r.machine.code.lines a.procedure line x e in
      let f = r.machine.form in
      let ap' = r.machine.apart in
      let all = outer_words program a a.standing in
      let same_words : words_of z.arena.blocks ≡ words_of (blocks_of program a a.standing) = ap words_of st.all in
      let end_low : 4 * (l.arguments_at + l.argument_words) ≤ stack_from z.arena =
      omega (arith, stands.from, stands.to, ap'.arguments_below, ap'.heap_above, f.grown, f.below) in
      record {
        small = r.machine.arena.words_small;
        ready = record { long = r.machine.long; zero_is = r.machine.zero_is };
        bounded = r.machine.registers_small;
        frame_is = frame_is program l Fact first good a (l.line_at a.procedure line) (l.records a.procedure line) callers z m st (point_of program l Fact first good a line rs callers z m r);
        stack = omega (arith, end_low, r.machine.stack);
        above = omega (arith, end_low, all, same_words, f.fits);
        inside = omega (arith, end_low, r.machine.arena.long, f.fits);
        apart = ap'.arguments_below;
      }

  -- The machine at the entry, with arguments passed and the link in register 1: what was there before is there still.
  at_entry :
      (a : Activation) (line to number : ℕ) (callee : Callee) (arguments ws : List ℕ) (rs : Registers) (callers : List Caller) (z : MidState) (cost : ℕ) (m m' : Moment) (words' : List ℕ)
      → line_of program a.procedure line ≡ Some (Do (Call to callee arguments))
      → StageStands program first (running a line rs callers z) → (r : Runs program l Fact first a line rs callers z m)
      → Before l r.words m.state.registers (way_at l a.procedure line) (base_of program (length z.arena.memory) a) (frame_of program a.procedure).words
      → m'.state.memory ≡ bytes_of words' → length words' ≡ length r.words → AreSmall words'
      → ((j : ℕ) → (j < l.arguments_at + 0) ⊎ (l.arguments_at + l.argument_words ≤ j) → slice_index words' j ≡ slice_index r.words j)
      → Ready m'.state.registers → AreSmall m'.state.registers
      → slice_index m'.state.registers 2 ≡ slice_index m.state.registers 2 → slice_index m'.state.registers 3 ≡ slice_index m.state.registers 3
      → slice_index m'.state.registers 1 ≡ 4 * l.back_at a.procedure line
      → m'.printed ≡ m.printed → m'.input ≡ m.input → m'.state.pc ≡ 4 * l.entry_at number → ArePassed l m'.state.registers words' 0 ws
      → Enters program l Fact first number ws (record { activation = a; line = line + 1; registers = rs; result = to } ∷ callers) (charged cost z) m'
  at_entry a line to number callee arguments ws rs callers z cost m m' words' e st r b memory long small kept ready bounded stack heap link printed input pc passed =
      let f = r.machine.form in
      let stands = r.machine.code.lines a.procedure line (Do (Call to callee arguments)) e in
      let apart = r.machine.apart in
      let caller : Caller = record { activation = a; line = line + 1; registers = rs; result = to } in
      let private : SamePrivate (length z.arena.memory) z.arena.blocks r.words words' =
      λ i p. let low = private_low (length z.arena.memory) z.arena.blocks i p in kept i (inr (omega (arith, low, b.stack, r.machine.stack))) in
      record {
        words = words';
        machine = record {
          memory = memory;
          arena = record {
            long = long ∙ r.machine.arena.long;
            words_small = small;
            lent = λ i w lent there. kept i (elim (lent_where z.arena i f lent) [
              | inl k ↦ inl (omega (arith, k, apart.laid_below))
              | inr k ↦ inr (omega (arith, k, apart.arguments_below, apart.heap_above, stands.from, stands.to))
            ]) ∙ r.machine.arena.lent i w lent there;
          };
          code = program_kept program l r.words words' long (λ i low high. kept i (inr (omega (arith, low, apart.arguments_below)))) r.machine.code;
          apart = record { laid_below = apart.laid_below; arguments_below = apart.arguments_below; heap_above = apart.heap_above };
          form = record { small = f.small; fits = f.fits; heap = f.heap; grown = f.grown; below = f.below; laid = f.laid };
          long = ready.long;
          zero_is = ready.zero_is;
          registers_small = bounded;
          stack = stack ∙ r.machine.stack;
          heap = heap ∙ r.machine.heap;
          printed = printed ∙ r.machine.printed;
          input = input ∙ r.machine.input;
          input_small = r.machine.input_small;
        };
        pc = pc;
        passed = passed;
        waiting = subst (λ x. CallersWait program l Fact first words' (length z.arena.memory) (caller ∷ callers) x) (sym link)
            (callers_stay program l Fact first (length z.arena.memory) r.words words' good (caller ∷ callers) z.arena.blocks (4 * l.back_at a.procedure line) f.fits st private
            (waits a line to callee arguments rs callers z m e r));
      }

  -- After arguments were passed: the jump to the procedure of a number.
  record Entered (count : ℕ) (m : Moment) (words' registers1 : List ℕ) (number back : ℕ) : Type 0 where
    moment' : Moment
    comes : Comes count m moment'
    memory : moment'.state.memory ≡ bytes_of words'
    pc : moment'.state.pc ≡ 4 * l.entry_at number
    link : slice_index moment'.state.registers 1 ≡ 4 * back
    others : (q : ℕ) → q ≢ 1 → q ≢ 6 → q ≢ 7 → slice_index moment'.state.registers q ≡ slice_index registers1 q
    ready : Ready moment'.state.registers
    bounded : AreSmall moment'.state.registers
    printed : moment'.printed ≡ m.printed
    input : moment'.input ≡ m.input

  -- registers with a link in register 1
  linked_ready : (registers : List ℕ) (w : ℕ) → Ready registers → Ready (slice_set registers 1 w)
  linked_ready registers w r = record {
    long = length-set registers 1 w ∙ r.long;
    zero_is = get_or-set_other registers 1 0 w 0 (λ e. omega (arith, e)) ∙ r.zero_is;
  }

  jumps_to :
      (near : Bool) (at from number back : ℕ) (words' registers1 : List ℕ) (o : Beside) (p : LineProcedure) → slice_get program.procedures number ≡ Some p → HasProgram program l words'
      → AreSmall words' → Ready registers1 → AreSmall registers1 → from ≡ at → (near ≡ true → WithinJump from (l.entry_at number))
      → HasCode words' at (jump_code near 1 from (l.entry_at number)) → at + length (jump_code near 1 from (l.entry_at number)) ≡ back → back ≤ 2 ^ 24
      → Entered (length (jump_code near 1 from (l.entry_at number))) (moment (state_at at registers1 words') o) words' registers1 number back
  jumps_to true at from number back words' registers1 o p there code small ready bounded place within has is_back low =
      let entry = code.entries number p there in
      let to = l.entry_at number in
      let ins = Jal 1 (jump_offset from to) in
      let low_from : from < 2 ^ 24 = omega (arith, place, is_back, low) in
      let reaches : sum32 (4 * at) (sign_extended 21 (jump_offset from to)) ≡ 4 * to =
      ap (λ x. sum32 (4 * x) (sign_extended 21 (jump_offset from to))) (sym place) ∙ jump_reaches from to low_from (omega (arith, entry.to, good.low)) (within refl) in
      let link_is : sum32 (4 * at) 4 ≡ 4 * back = next_place at (omega (arith, is_back, low)) ∙ ap (λ x. 4 * x) is_back in
      let r2 = slice_set registers1 1 (4 * back) in
      let does : execute ins (state_at at registers1 words') ≡ goes_to (state_at to r2 words') =
      ap (λ x. goes_to (record { pc = x; registers = slice_set registers1 1 (sum32 (4 * at) 4); memory = bytes_of words' })) reaches
      ∙ ap (λ x. goes_to (record { pc = 4 * to; registers = slice_set registers1 1 x; memory = bytes_of words' })) link_is in
      record {
        moment' = moment (state_at to r2 words') (later 1 o);
        comes = one_step (state_at at registers1 words') (state_at to r2 words') o (step_at at registers1 words' ins [] has (small at) ∙ does);
        memory = refl;
        pc = refl;
        link = get_or-set_same registers1 1 (4 * back) 0 (omega (arith, ready.long));
        others = λ q n1 n6 n7. get_or-set_other registers1 1 q (4 * back) 0 n1;
        ready = linked_ready registers1 (4 * back) ready;
        bounded = λ i. set_small registers1 1 (4 * back) i bounded (omega (arith, low));
        printed = refl;
        input = refl;
      }
  jumps_to false at from number back words' registers1 o p there code small ready bounded place within has is_back low =
      let entry = code.entries number p there in
      let to = l.entry_at number in
      let zero_is : at ≡ at + 0 = omega arith in
      let m1 = moment (state_at at registers1 words') o in
      let far = far_jumps m1 at words' registers1 [] from to 1 small refl refl (sets_none words' registers1) has (omega (arith, is_back, low)) (omega (arith, entry.to, good.low)) (place ∙ zero_is) ready in
      let v = sum32 (4 * from) (high_part (far_offset from to) * 4096) in
      let set7 = slice_set registers1 7 v in
      let back_is : 4 * (from + 2) ≡ 4 * back = omega (arith, place, is_back) in
      let r2 = slice_set set7 1 (4 * (from + 2)) in
      let ready7 : Ready set7 = record { long = length-set registers1 7 v ∙ ready.long; zero_is = get_or-set_other registers1 7 0 v 0 (λ e. omega (arith, e)) ∙ ready.zero_is } in
      record {
        moment' = moment (state_at to r2 words') (later 1 (later 1 (later 0 o)));
        comes = far;
        memory = refl;
        pc = refl;
        link = get_or-set_same set7 1 (4 * (from + 2)) 0 (omega (arith, ready7.long)) ∙ back_is;
        others = λ q n1 n6 n7. get_or-set_other set7 1 q (4 * (from + 2)) 0 n1 ∙ get_or-set_other registers1 7 q v 0 n7;
        ready = linked_ready set7 (4 * (from + 2)) ready7;
        bounded = λ i. set_small set7 1 (4 * (from + 2)) i (λ j. set_small registers1 7 v j bounded (omega arith)) (omega (arith, back_is, low));
        printed = refl;
        input = refl;
      }

  still_passed :
      (registers registers' words : List ℕ) (i : ℕ) (ws : List ℕ) → ((q : ℕ) → 7 < q → slice_index registers' q ≡ slice_index registers q)
      → ArePassed l registers words i ws → ArePassed l registers' words i ws
  still_passed registers registers' words i [] kept h = tt
  still_passed registers registers' words i (w ∷ ws) kept h = (by (nat_lt i 14) refl h.0, still_passed registers registers' words (i + 1) ws kept h.1)
    where
      by : (t : Bool) → nat_lt i 14 ≡ t → (if t then slice_index registers (argument_register i) else slice_index words (l.arguments_at + i)) ≡ w
          → (if t then slice_index registers' (argument_register i) else slice_index words (l.arguments_at + i)) ≡ w
      by true e k = let is = is_value_register i (grind (arith, nat_tests, e)) in kept (argument_register i) is.0 ∙ k
      by false e k = k

  -- A call by number: the arguments are passed, and the machine jumps.
  pub call_by_number :
      (a : Activation) (line to number : ℕ) (arguments ws : List ℕ) (rs : Registers) (callers : List Caller) (z : MidState) (cost : ℕ) (m : Moment) (p : LineProcedure)
      → line_of program a.procedure line ≡ Some (Do (Call to (Procedure number) arguments)) → slice_get program.procedures number ≡ Some p
      → StageStands program first (running a line rs callers z) → (r : Runs program l Fact first a line rs callers z m) → words_in arguments rs ≡ Some ws
      → (m' : Moment) × Comes (length (call_code l a.procedure line (Procedure number) arguments)) m m'
      × Enters program l Fact first number ws (record { activation = a; line = line + 1; registers = rs; result = to } ∷ callers) (charged cost z) m'
  call_by_number a line to number arguments ws rs callers z cost m p e there st r has =
      let x = Do (Call to (Procedure number) arguments) in
      let g = good.lines a.procedure line x e in
      let way = way_at l a.procedure line in
      let at = l.line_at a.procedure line in
      let places = sources l a.procedure line arguments in
      let C = pass_code l.arguments_at way places in
      let from = at + length C in
      let J = jump_code (l.near a.procedure line) 1 from (l.entry_at number) in
      let b = before a line x rs callers z m e st.0 r in
      let known = are_at a line rs callers z m r arguments ws g.reads has in
      let d = passes l way (base_of program (length z.arena.memory) a) (frame_of program a.procedure).words places ws r.words m.state.registers b known.0 (known.1 ∙ sym known.2) (omega (arith, known.2, g.few)) in
      let stands = r.machine.code.lines a.procedure line x e in
      let laid = good.laid a.procedure line x e in
      let back = r.machine.code.backs a.procedure line x e in
      let long : length (C ++ J) ≡ length C + length J = length-append C J in
      let one = d.0.by at (beside m) (record { from = stands.from; to = omega (arith, stands.to, long); has = has_front r.words at C J stands.has }) (omega (arith, stands.to, long, good.low)) in
      let code' = program_kept program l r.words d.0.words' d.0.long (λ i low high. d.0.kept i (inr (omega (arith, low, b.apart)))) r.machine.code in
      let stands' = code'.lines a.procedure line x e in
      let j = jumps_to (l.near a.procedure line) from from number (l.back_at a.procedure line) d.0.words' d.0.registers' (later (length C) (beside m)) p there code' d.0.small d.0.ready d.0.bounded refl laid.reaches
      (has_back d.0.words' at C J stands'.has) (omega (arith, laid.back, long)) (omega (arith, back.to, good.low)) in
      let sp : slice_index d.0.registers' 2 ≡ slice_index m.state.registers 2 = d.0.others 2 (λ k. omega (arith, k)) (λ k. omega (arith, k)) (λ i low high k. let is = is_value_register i high in omega (arith, is.0, k)) in
      let hp : slice_index d.0.registers' 3 ≡ slice_index m.state.registers 3 = d.0.others 3 (λ k. omega (arith, k)) (λ k. omega (arith, k)) (λ i low high k. let is = is_value_register i high in omega (arith, is.0, k)) in (
        j.moment',
        subst (λ n. Comes n m j.moment') (sym long)
            (subst (λ y. Comes (length C + length J) y j.moment') (sym (same_moment m at r.words r.pc r.machine.memory)) (and_on one j.comes)),
        at_entry a line to number (Procedure number) arguments ws rs callers z cost m j.moment' d.0.words' e st r b j.memory d.0.long d.0.small d.0.kept j.ready j.bounded
            (j.others 2 (λ k. omega (arith, k)) (λ k. omega (arith, k)) (λ k. omega (arith, k)) ∙ sp) (j.others 3 (λ k. omega (arith, k)) (λ k. omega (arith, k)) (λ k. omega (arith, k)) ∙ hp)
            j.link j.printed j.input j.pc
            (still_passed d.0.registers' j.moment'.state.registers d.0.words' 0 ws (λ q high. j.others q (λ k. omega (arith, high, k)) (λ k. omega (arith, high, k)) (λ k. omega (arith, high, k))) d.1),
      )

  -- A call of the procedure whose number is in a register, up to the jump: the number is in register 6.
  record Ready6 (a : Activation) (line n : ℕ) (callee : ℕ) (arguments ws : List ℕ) (z : MidState) (m : Moment) (r_words : List ℕ) : Type 0 where
    registers' : List ℕ
    words' : List ℕ
    comes :
        Comes (length (before_call_code l a.procedure line (Word callee) arguments)) m
        (moment (state_at (l.line_at a.procedure line + length (before_call_code l a.procedure line (Word callee) arguments)) registers' words')
        (later (length (before_call_code l a.procedure line (Word callee) arguments)) (beside m)))
    ready : Ready registers'
    bounded : AreSmall registers'
    small : AreSmall words'
    long : length words' ≡ length r_words
    kept : (j : ℕ) → (j < l.arguments_at + 0) ⊎ (l.arguments_at + l.argument_words ≤ j) → slice_index words' j ≡ slice_index r_words j
    low_kept : (q : ℕ) → q < 5 → slice_index registers' q ≡ slice_index m.state.registers q
    number : slice_index registers' 6 ≡ n
    passed : ArePassed l registers' words' 0 ws

  ready_for_table :
      (a : Activation) (line to n v : ℕ) (arguments ws : List ℕ) (rs : Registers) (callers : List Caller) (z : MidState) (m : Moment)
      → line_of program a.procedure line ≡ Some (Do (Call to (Word v) arguments))
      → StageStands program first (running a line rs callers z) → (r : Runs program l Fact first a line rs callers z m) → words_in arguments rs ≡ Some ws → register v rs ≡ Some n
      → Ready6 a line n v arguments ws z m r.words
  ready_for_table a line to n v arguments ws rs callers z m e st r has hv =
      let x = Do (Call to (Word v) arguments) in
      let g = good.lines a.procedure line x e in
      let way = way_at l a.procedure line in
      let frame = (frame_of program a.procedure).words in
      let base = base_of program (length z.arena.memory) a in
      let at = l.line_at a.procedure line in
      let p = l.source a.procedure line v in
      let places = sources l a.procedure line arguments in
      let L = load_into way 6 p in
      let C = pass_code l.arguments_at way places in
      let T = table_jump_code l.procedures_at in
      let b = before a line x rs callers z m e st.0 r in
      let known = are_at a line rs callers z m r arguments ws g.reads has in
      let fact = g.reads_callee.0 in
      let ok = good.sources a.procedure line v fact in
      let is_at = r.there v p n fact hv in
      let fits = place_small m.state.registers r.words _ _ p n r.machine.registers_small r.machine.arena.words_small ok is_at in
      let one = loaded r.words m.state.registers way base frame 6 p n b.small b.ready fits b.frame_is ok (omega arith) (omega arith) (λ k. omega (arith, k)) is_at in
      let sp : slice_index one.registers' 2 ≡ slice_index m.state.registers 2 = one.others 2 (λ k. omega (arith, k)) (λ k. omega (arith, k)) in
      let b1 : Before l r.words one.registers' way base frame = record {
        small = b.small;
        ready = one.ready;
        bounded = one.bounded b.bounded;
        frame_is = frame_still m.state.registers one.registers' r.words way base frame sp b.frame_is;
        stack = omega (arith, b.stack, sp);
        above = b.above;
        inside = b.inside;
        apart = b.apart;
      } in
      let d = passes l way base frame places ws r.words one.registers' b1
      (at_still_low m.state.registers one.registers' r.words base (reachable way frame) places ws (λ q high. one.others q (λ k. omega (arith, high, k)) (λ k. omega (arith, high, k))) known.0)
      (known.1 ∙ sym known.2) (omega (arith, known.2, g.few)) in
      let stands = r.machine.code.lines a.procedure line x e in
      let long2 : length (L ++ C) ≡ length L + length C = length-append L C in
      let long3 : length ((L ++ C) ++ T) ≡ length (L ++ C) + length T = length-append (L ++ C) T in
      let front = has_front r.words at (L ++ C) T stands.has in
      let first_part = one.sets.by at (beside m) (has_front r.words at L C front) (omega (arith, stands.to, long2, long3, good.low)) in
      let second = d.0.by (at + length L) (later (length L) (beside m))
      (record { from = omega (arith, stands.from); to = omega (arith, stands.to, long2, long3); has = has_back r.words at L C front }) (omega (arith, stands.to, long2, long3, good.low)) in
      let place : at + length L + length C ≡ at + length (L ++ C) = omega (arith, long2) in
      let time : m.executed + length L + length C ≡ m.executed + length (L ++ C) = omega (arith, long2) in
      let both : Comes (length L + length C) m (moment (state_at (at + length L + length C) d.0.registers' d.0.words') (later (length C) (later (length L) (beside m)))) =
      subst (λ y. Comes (length L + length C) y (moment (state_at (at + length L + length C) d.0.registers' d.0.words') (later (length C) (later (length L) (beside m))))) (sym (same_moment m at r.words r.pc r.machine.memory)) (and_on first_part second) in
      let low : (q : ℕ) → q < 5 → slice_index d.0.registers' q ≡ slice_index m.state.registers q =
      λ q h. d.0.others q (λ k. omega (arith, h, k)) (λ k. omega (arith, h, k)) (λ i from high k. let is = is_value_register i high in omega (arith, is.0, h, k))
      ∙ one.others q (λ k. omega (arith, h, k)) (λ k. omega (arith, h, k)) in
      record {
        registers' = d.0.registers';
        words' = d.0.words';
        comes = subst (λ k. Comes k m (moment (state_at (at + length (L ++ C)) d.0.registers' d.0.words') (later (length (L ++ C)) (beside m)))) (sym long2)
            (subst (λ k. Comes (length L + length C) m (moment (state_at k d.0.registers' d.0.words') (later (length (L ++ C)) (beside m)))) place
            (subst (λ k. Comes (length L + length C) m (moment (state_at (at + length L + length C) d.0.registers' d.0.words') (record (beside m) { executed = k }))) time both));
        ready = d.0.ready;
        bounded = d.0.bounded;
        small = d.0.small;
        long = d.0.long;
        kept = d.0.kept;
        low_kept = low;
        number = d.0.others 6 (λ k. omega (arith, k)) (λ k. omega (arith, k)) (λ i from high k. let is = is_value_register i high in omega (arith, is.0, k)) ∙ one.holds;
        passed = d.1;
      }

  -- the jump by the table
  jumps_by_table :
      (a : Activation) (line n v back : ℕ) (arguments ws : List ℕ) (z : MidState) (m : Moment) (words : List ℕ) (p : LineProcedure) → slice_get program.procedures n ≡ Some p
      → (s : Ready6 a line n v arguments ws z m words) → HasProgram program l s.words'
      → HasCode s.words' (l.line_at a.procedure line + length (before_call_code l a.procedure line (Word v) arguments)) (table_jump_code l.procedures_at)
      → l.line_at a.procedure line + length (before_call_code l a.procedure line (Word v) arguments) + 5 ≡ back → back ≤ 2 ^ 24
      → Entered 5
      (moment (state_at (l.line_at a.procedure line + length (before_call_code l a.procedure line (Word v) arguments)) s.registers' s.words')
      (later (length (before_call_code l a.procedure line (Word v) arguments)) (beside m))) s.words' s.registers' n back
  jumps_by_table a line n v back arguments ws z m words p there s code has is_back low =
      let named = code.table n p there in
      let entry = code.entries n p there in
      let at = l.line_at a.procedure line + length (before_call_code l a.procedure line (Word v) arguments) in
      let o = later (length (before_call_code l a.procedure line (Word v) arguments)) (beside m) in
      let table = l.procedures_at in
      let to = l.entry_at n in
      let m1 = moment (state_at at s.registers' s.words') o in
      let t = table_prepared s.words' s.registers' 6 6 table n s.small s.ready (omega arith) (omega arith) s.number (omega (arith, named.to, good.low)) named.within in
      let B = Slli 6 6 2 ∷ Lui 7 (high_part (4 * table)) ∷ Add 6 6 7 ∷ Lw 6 6 (low_part (4 * table)) ∷ [] in
      let r2 = slice_set t.registers' 1 (4 * back) in
      let reaches : even (sum32 (slice_index t.registers' 6) (sign_extended 12 0)) ≡ 4 * to = jumped_to (slice_index t.registers' 6) to (omega (arith, entry.to, good.low)) (t.holds ∙ named.names) in
      let link_is : sum32 (4 * (at + 4)) 4 ≡ 4 * back = omega (arith, is_back, low) in
      let does : execute (Jalr 1 6 0) (state_at (at + 4) t.registers' s.words') ≡ goes_to (state_at to r2 s.words') =
      ap (λ x. goes_to (record { pc = x; registers = slice_set t.registers' 1 (sum32 (4 * (at + 4)) 4); memory = bytes_of s.words' })) reaches
      ∙ ap (λ x. goes_to (record { pc = 4 * to; registers = slice_set t.registers' 1 x; memory = bytes_of s.words' })) link_is in
      let comes = and_one m1 at s.words' t.registers' B [] (Jalr 1 6 0) (state_at to r2 s.words') s.small refl refl t.sets has (omega (arith, is_back, low)) does in
      record {
        moment' = moment (state_at to r2 s.words') (later 1 (later 4 o));
        comes = comes;
        memory = refl;
        pc = refl;
        link = get_or-set_same t.registers' 1 (4 * back) 0 (omega (arith, t.ready.long));
        others = λ q n1 n6 n7. get_or-set_other t.registers' 1 q (4 * back) 0 n1 ∙ t.others q n6 n7;
        ready = linked_ready t.registers' (4 * back) t.ready;
        bounded = λ i. set_small t.registers' 1 (4 * back) i (t.bounded s.bounded) (omega (arith, low));
        printed = refl;
        input = refl;
      }

  -- A call of the procedure whose number is in a register.
  pub call_by_word :
      (a : Activation) (line to n v : ℕ) (arguments ws : List ℕ) (rs : Registers) (callers : List Caller) (z : MidState) (cost : ℕ) (m : Moment) (p : LineProcedure)
      → line_of program a.procedure line ≡ Some (Do (Call to (Word v) arguments)) → slice_get program.procedures n ≡ Some p
      → StageStands program first (running a line rs callers z) → (r : Runs program l Fact first a line rs callers z m) → words_in arguments rs ≡ Some ws → register v rs ≡ Some n
      → (m' : Moment) × Comes (length (before_call_code l a.procedure line (Word v) arguments) + 5) m m'
      × Enters program l Fact first n ws (record { activation = a; line = line + 1; registers = rs; result = to } ∷ callers) (charged cost z) m'
  call_by_word a line to n v arguments ws rs callers z cost m p e there st r has hv =
      let x = Do (Call to (Word v) arguments) in
      let s = ready_for_table a line to n v arguments ws rs callers z m e st r has hv in
      let b = before a line x rs callers z m e st.0 r in
      let code' = program_kept program l r.words s.words' s.long (λ i low high. s.kept i (inr (omega (arith, low, b.apart)))) r.machine.code in
      let C = before_call_code l a.procedure line (Word v) arguments in
      let T = table_jump_code l.procedures_at in
      let stands' = code'.lines a.procedure line x e in
      let laid = good.laid a.procedure line x e in
      let back = r.machine.code.backs a.procedure line x e in
      let long : length (C ++ T) ≡ length C + 5 = length-append C T in
      let j = jumps_by_table a line n v (l.back_at a.procedure line) arguments ws z m r.words p there s code' (has_back s.words' (l.line_at a.procedure line) C T stands'.has) (omega (arith, laid.back, long)) (omega (arith, back.to, good.low)) in (
        j.moment',
        and_on s.comes j.comes,
        at_entry a line to n (Word v) arguments ws rs callers z cost m j.moment' s.words' e st r b j.memory s.long s.small s.kept j.ready j.bounded
            (j.others 2 (λ k. omega (arith, k)) (λ k. omega (arith, k)) (λ k. omega (arith, k)) ∙ s.low_kept 2 (omega arith)) (j.others 3 (λ k. omega (arith, k)) (λ k. omega (arith, k)) (λ k. omega (arith, k)) ∙ s.low_kept 3 (omega arith))
            j.link j.printed j.input j.pc
            (still_passed s.registers' j.moment'.state.registers s.words' 0 ws (λ q high. j.others q (λ k. omega (arith, high, k)) (λ k. omega (arith, high, k)) (λ k. omega (arith, high, k))) s.passed),
      )

  -- where no procedure has that number, one instruction more
  pub call_of_none :
      (a : Activation) (line to n v : ℕ) (arguments ws : List ℕ) (rs : Registers) (callers : List Caller) (z : MidState) (m : Moment)
      → line_of program a.procedure line ≡ Some (Do (Call to (Word v) arguments))
      → StageStands program first (running a line rs callers z) → (r : Runs program l Fact first a line rs callers z m) → words_in arguments rs ≡ Some ws → register v rs ≡ Some n
      → (m' : Moment) × Comes (length (before_call_code l a.procedure line (Word v) arguments) + 1) m m'
  call_of_none a line to n v arguments ws rs callers z m e st r has hv =
      let x = Do (Call to (Word v) arguments) in
      let s = ready_for_table a line to n v arguments ws rs callers z m e st r has hv in
      let b = before a line x rs callers z m e st.0 r in
      let code' = program_kept program l r.words s.words' s.long (λ i low high. s.kept i (inr (omega (arith, low, b.apart)))) r.machine.code in
      let C = before_call_code l a.procedure line (Word v) arguments in
      let T = table_jump_code l.procedures_at in
      let at = l.line_at a.procedure line in
      let stands' = code'.lines a.procedure line x e in
      let long : length (C ++ T) ≡ length C + 5 = length-append C T in
      let one = prepared_one s.words' s.registers' (Slli 6 6 2) 6 (shift_left (slice_index s.registers' 6) 2) s.small s.ready (omega arith) (omega arith) (omega arith) (λ i. refl) in
      let has1 = has_front s.words' (at + length C) (Slli 6 6 2 ∷ []) (Lui 7 (high_part (4 * l.procedures_at)) ∷ Add 6 6 7 ∷ Lw 6 6 (low_part (4 * l.procedures_at)) ∷ Jalr 1 6 0 ∷ []) (has_back s.words' at C T stands'.has) in (
        moment (state_at (at + length C + 1) one.registers' s.words') (later 1 (later (length C) (beside m))),
        and_on s.comes (one.sets.by (at + length C) (later (length C) (beside m)) has1 (omega (arith, stands'.to, long, good.low))),
      )
