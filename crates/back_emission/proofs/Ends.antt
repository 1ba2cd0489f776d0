-- The steps of lines that end the run: at an environment call, with its words in registers.
use Rattle.std.proofs.Common.{inl, inr, ◌≡◌, ◌≢◌, ℕ, zero, suc, ◌+◌, ◌*◌, ◌^◌, ◌<◌, ◌≤◌, Bool, true, false, List, [], ◌∷◌, ◌++◌, length, refl, sym, ap, subst, ◌∙◌, arith, Some, None, length-append, append_assoc}
use Rattle.std.specs.Prelude.{◌⊎◌, Option, slice_index, nat_lt, if◌then◌else◌}
use Rattle.base.specs.Arithmetic.{sum32}
use Rattle.rv_encode.specs.declared.instruction.Instr.{Instr}
use Rattle.rv_encode.specs.declared.instruction.Instr.TheVariants.{Addi, Ecall}
use Rattle.rv_machine.specs.declared.ending.TrapKind.TheVariants.{BadCall}
use Rattle.rv_machine.specs.Memory.{bytes_of}
use Rattle.rv_machine.specs.Arithmetic.{sign_extended}
use Rattle.rv_machine.specs.Step.{gives, call, environment_call, trapped}
use Rattle.rv_machine.specs.Run.{Moment}
use Rattle.mid_code.specs.Arena.{Block}
use Rattle.mid_code.specs.State.{Registers, MidState, charged, register, with_some, with_register, ends, halts, unhandled}
use Rattle.mid_code.specs.Meaning.{exec_step}
use Rattle.mid_lines.specs.declared.line.Line.TheVariants.{Halt, Unhandled}
use Rattle.mid_lines.specs.declared.line.LineProgram.{LineProgram}
use Rattle.mid_lines.specs.Lines.{line_of}
use Rattle.mid_lines.specs.LineMeaning.{Activation, Caller, running, next, proceed, state_of}
use Rattle.mid_lines.specs.StackLaw.{frame_of, StandsOn}
use Rattle.back_places.specs.declared.place.Place.{Place}
use Rattle.back_places.specs.declared.place.Place.TheVariants.{InRegister, InSlot, AsConstant}
use Rattle.back_places.specs.Places.{Located, way_at}
use Rattle.back_places.specs.Operands.{load_into}
use Rattle.back_places.specs.Facts.{IsPlace}
use Rattle.back_places.specs.Good.{IsGood}
use Rattle.back_places.specs.Relation.{Stands, IsAt, base_of, HasArena, Machine, Runs, Calls, Relates}
use Rattle.back_places.specs.StepLaw.{Comes, Follows, weight}
use Rattle.back_emission.specs.Moments.{state_at, later, moment, beside, Sets, Ready, Prepared}
use Rattle.back_emission.proofs.Coming.{has_front, has_back, sets_on, step_at, same_moment}
use Rattle.back_emission.proofs.Operands.{prepared_one, loaded, frame_still}
use Rattle.back_emission.proofs.Lengths.{load_length}
use Rattle.back_emission.proofs.Going.{point_of}
use Rattle.back_emission.proofs.Moving.{place_small, frame_is}
use Rattle.back_emission.proofs.Steps.{nothing, at_line, weighs}

-- the call that register 17 says
pub call_is : (which n : ℕ) (registers words : List ℕ) (i : ℕ) → which < 5 → n ≡ which → call n (state_at i registers words) ≡ environment_call which
call_is which n registers words i few e = by (nat_lt n 5) refl
  where
    by : (t : Bool) → nat_lt n 5 ≡ t → (if t then environment_call n else trapped BadCall (4 * i)) ≡ environment_call which
    by true h = ap environment_call e
    by false h = absurd (grind (arith, few, e, h))

-- what is known at a place that is no register of environment calls, after one of them was set
pub past_call :
    (registers registers' words : List ℕ) (base frame r : ℕ) (p : Place) (w : ℕ) → (r ≡ 10) ⊎ (r ≡ 11)
    → ((q : ℕ) → q ≢ r → q ≢ 7 → slice_index registers' q ≡ slice_index registers q)
    → IsPlace frame p → IsAt registers words base p w → IsAt registers' words base p w
past_call registers registers' words base frame r (InRegister q) w is others ok h =
    others q (λ e. elim is [ inl k ↦ ok.2 (e ∙ k) | inr k ↦ ok.3 (e ∙ k) ]) (λ e. omega (arith, ok.0, e)) ∙ h
past_call registers registers' words base frame r (InSlot k) w is others ok h = h
past_call registers registers' words base frame r (AsConstant c) w is others ok h = h

module _ (program : LineProgram) (l : Located) (Fact : (number line register : ℕ) → Place → Type 0) (first : List Block) where
  -- the memory of the machine has the words of an arena, and what was printed and is left to read is that of a state
  pub record Holds (z : MidState) (words : List ℕ) (m : Moment) : Type 0 where
    pub memory : m.state.memory ≡ bytes_of words
    pub arena : HasArena words z.arena
    pub printed : m.printed ≡ z.printed
    pub input : m.input ≡ z.input

  pub holding : (z : MidState) (words : List ℕ) (m : Moment) → Machine program l Fact first z words m → Holds z words m
  holding z words m r = record { memory = r.memory; arena = r.arena; printed = r.printed; input = r.input }

  -- The machine has come to an environment call, behind code that sets registers.
  pub record Called (which : ℕ) (z : MidState) (m : Moment) (count : ℕ) (registers' : List ℕ) : Type 0 where
    pub moment' : Moment
    pub comes : Comes count m moment'
    pub calls : Calls program l Fact first which z moment'
    pub same : moment'.state.registers ≡ registers'

  pub called :
      (z : MidState) (cost : ℕ) (words : List ℕ) (m : Moment) (at : ℕ) (code more : List Instr) (registers' : List ℕ) (which : ℕ)
      → Holds z words m → m.state.pc ≡ 4 * at → Stands l words at (code ++ Ecall ∷ more)
      → Sets words code m.state.registers registers' → at + length code < 2 ^ 25 → which < 5 → slice_index registers' 17 ≡ which
      → Called which (charged cost z) m (length code) registers'
  called z cost words m at code more registers' which r pc stands sets low few is =
      let o = beside m in
      let there = state_at (at + length code) registers' words in
      let comes = sets.by at o (has_front words at code (Ecall ∷ more) stands.has) low in
      record {
        moment' = moment there (later (length code) o);
        comes = subst (λ y. Comes (length code) y (moment there (later (length code) o))) (sym (same_moment m at words pc r.memory)) comes;
        calls = record {
          words = words;
          memory = refl;
          arena = record { long = r.arena.long; words_small = r.arena.words_small; lent = r.arena.lent };
          is_call = step_at (at + length code) registers' words Ecall more (has_back words at code (Ecall ∷ more) stands.has) (r.arena.words_small (at + length code))
              ∙ call_is which (slice_index registers' 17) registers' words (at + length code) few is;
          printed = r.printed;
          input = r.input;
        };
        same = refl;
      }

  -- the number of the call comes into register 17 before it
  pub called_with :
      (z : MidState) (cost : ℕ) (words : List ℕ) (m : Moment) (at : ℕ) (code more : List Instr) (which : ℕ) (registers1 : List ℕ)
      → Holds z words m → m.state.pc ≡ 4 * at → Stands l words at (code ++ (Addi 17 0 which ∷ Ecall ∷ more))
      → Sets words code m.state.registers registers1 → Ready registers1 → at + length code + 1 < 2 ^ 25 → which < 5
      → (registers2 : List ℕ) × Called which (charged cost z) m (length code + 1) registers2 × ((q : ℕ) → q ≢ 17 → q ≢ 7 → slice_index registers2 q ≡ slice_index registers1 q)
  called_with z cost words m at code more which registers1 r pc stands sets ready low few =
      let small = r.arena.words_small in
      let fits : which < 2048 = omega (arith, few) in
      let v : sum32 (slice_index registers1 0) (sign_extended 12 which) ≡ which = ap (λ k. sum32 k (sign_extended 12 which)) ready.zero_is ∙ short which few in
      let one = prepared_one words registers1 (Addi 17 0 which) 17 which small ready (omega arith) (omega arith) (omega (arith, few)) (λ i. ap (λ k. gives 17 k (state_at i registers1 words)) v) in
      let same : code ++ (Addi 17 0 which ∷ Ecall ∷ more) ≡ (code ++ Addi 17 0 which ∷ []) ++ Ecall ∷ more = sym (append_assoc code (Addi 17 0 which ∷ []) (Ecall ∷ more)) in
      let long : length (code ++ Addi 17 0 which ∷ []) ≡ length code + 1 = length-append code (Addi 17 0 which ∷ []) in (
        one.registers',
        subst (λ n. Called which (charged cost z) m n one.registers') long
            (called z cost words m at (code ++ Addi 17 0 which ∷ []) more one.registers' which r pc (subst (λ c. Stands l words at c) same stands) (sets_on sets one.sets) (omega (arith, low, long)) few one.holds),
        one.others,
      )
    where
      short : (which : ℕ) → which < 5 → sum32 0 (sign_extended 12 which) ≡ which
      short zero h = refl
      short (suc zero) h = refl
      short (suc (suc zero)) h = refl
      short (suc (suc (suc zero))) h = refl
      short (suc (suc (suc (suc zero)))) h = refl
      short (suc (suc (suc (suc (suc n))))) h = absurd (omega (arith, h))

module _ (program : LineProgram) (l : Located) (Fact : (number line register : ℕ) → Place → Type 0) (first : List Block)
    (good : IsGood program l Fact) where
  -- a word of a register comes into a register of an environment call
  pub into :
      (a : Activation) (line v w to : ℕ) (rs : Registers) (callers : List Caller) (z : MidState) (m : Moment)
      → StandsOn program a z.arena.blocks → (r : Runs program l Fact first a line rs callers z m) → Fact a.procedure line v (l.source a.procedure line v) → register v rs ≡ Some w
      → 0 < to → to < 32 → to ≢ 7
      → Prepared r.words m.state.registers (load_into (way_at l a.procedure line) to (l.source a.procedure line v)) to w to
  into a line v w to rs callers z m st r fact has some within seven =
      let ready : Ready m.state.registers = record { long = r.machine.long; zero_is = r.machine.zero_is } in
      let f = frame_is program l Fact first good a (l.line_at a.procedure line) (l.records a.procedure line) callers z m st (point_of program l Fact first good a line rs callers z m r) in
      let ok = good.sources a.procedure line v fact in
      let there = r.there v (l.source a.procedure line v) w fact has in
      let small = place_small m.state.registers r.words _ _ (l.source a.procedure line v) w r.machine.registers_small r.machine.arena.words_small ok there in
      loaded r.words m.state.registers (way_at l a.procedure line) _ _ to (l.source a.procedure line v) w r.machine.arena.words_small ready small f ok some within seven there

  pub halt_follows :
      (a : Activation) (line v : ℕ) (rs : Registers) (callers : List Caller) (z : MidState) (m : Moment)
      → line_of program a.procedure line ≡ Some (Halt v)
      → Relates program l Fact first (running a line rs callers z) m → Follows program l Fact first (running a line rs callers z) m
  unfolding exec_step with_some proceed
  halt_follows a line v rs callers z m e r = by (register v rs) refl
    where
      light : weight program (running a line rs callers z) ≡ 0
      light = weighs program l Fact first good a line rs callers z (Halt v) e

      goes : (x : Option ℕ) → register v rs ≡ x → next program (running a line rs callers z) ≡ proceed program a (line + 1) callers (with_some x (λ w. ends (halts w)) rs (charged 6 z))
      goes x h = at_line program l Fact first good a line rs callers z (Halt v) e ∙ ap (λ u. proceed program a (line + 1) callers (with_some u (λ w. ends (halts w)) rs (charged 6 z))) h

      by : (x : Option ℕ) → register v rs ≡ x → Follows program l Fact first (running a line rs callers z) m
      by None h = nothing program l Fact first good (running a line rs callers z) m (charged 6 z) (goes None h) (omega arith)
      by (Some w) h =
          let g = good.lines a.procedure line (Halt v) e in
          let A = load_into (way_at l a.procedure line) 10 (l.source a.procedure line v) in
          let p = into a line v w 10 rs callers z m r.0.0 r.1 g.0 h (omega arith) (omega arith) (λ k. omega (arith, k)) in
          let stands = r.1.machine.code.lines a.procedure line (Halt v) e in
          let long : length (A ++ (Addi 17 0 0 ∷ Ecall ∷ [])) ≡ length A + 2 = length-append A (Addi 17 0 0 ∷ Ecall ∷ []) in
          let c = called_with program l Fact first z 6 r.1.words m (l.line_at a.procedure line) A [] 0 p.registers' (holding program l Fact first z r.1.words m r.1.machine) r.1.pc stands p.sets p.ready (omega (arith, stands.to, good.low, long)) (omega arith) in
          let ten : slice_index c.1.moment'.state.registers 10 ≡ w =
          ap (λ k. slice_index k 10) c.1.same ∙ c.2 10 (λ k. omega (arith, k)) (λ k. omega (arith, k)) ∙ p.holds in
          record {
            count = length A + 1;
            moment = c.1.moment';
            comes = c.1.comes;
            relates = subst (λ t. Relates program l Fact first t c.1.moment') (sym (goes (Some w) h)) (c.1.calls, ten);
            cheap = subst (λ t. length A + 1 + z.cost ≤ (state_of t).cost) (sym (goes (Some w) h)) (let n = load_length (way_at l a.procedure line) 10 (l.source a.procedure line v) in omega (arith, n));
            heavy = λ u. omega (arith, light);
          }

  -- three words into the registers of an environment call, one after the other
  record Three (a : Activation) (line class site condition c s w : ℕ) (words registers : List ℕ) : Type 0 where
    registers' : List ℕ
    sets : Sets words (load_into (way_at l a.procedure line) 10 (l.source a.procedure line class)
        ++ (load_into (way_at l a.procedure line) 11 (l.source a.procedure line site) ++ load_into (way_at l a.procedure line) 12 (l.source a.procedure line condition))) registers registers'
    ready : Ready registers'
    first_is : slice_index registers' 10 ≡ c
    second_is : slice_index registers' 11 ≡ s
    third_is : slice_index registers' 12 ≡ w

  three :
      (a : Activation) (line class site condition c s w : ℕ) (rs : Registers) (callers : List Caller) (z : MidState) (m : Moment)
      → StandsOn program a z.arena.blocks → (r : Runs program l Fact first a line rs callers z m)
      → Fact a.procedure line class (l.source a.procedure line class) → Fact a.procedure line site (l.source a.procedure line site) → Fact a.procedure line condition (l.source a.procedure line condition)
      → register class rs ≡ Some c → register site rs ≡ Some s → register condition rs ≡ Some w
      → Three a line class site condition c s w r.words m.state.registers
  three a line class site condition c s w rs callers z m st r fc fs fw hc hs hw =
      let words = r.words in
      let small = r.machine.arena.words_small in
      let regs = m.state.registers in
      let way = way_at l a.procedure line in
      let frame = (frame_of program a.procedure).words in
      let base = base_of program (length z.arena.memory) a in
      let ready : Ready regs = record { long = r.machine.long; zero_is = r.machine.zero_is } in
      let f = frame_is program l Fact first good a (l.line_at a.procedure line) (l.records a.procedure line) callers z m st (point_of program l Fact first good a line rs callers z m r) in
      let oks = good.sources a.procedure line site fs in
      let okw = good.sources a.procedure line condition fw in
      let ps = l.source a.procedure line site in
      let pw = l.source a.procedure line condition in
      let ts = r.there site ps s fs hs in
      let tw = r.there condition pw w fw hw in
      let ss = place_small regs words base _ ps s r.machine.registers_small small oks ts in
      let sw = place_small regs words base _ pw w r.machine.registers_small small okw tw in
      let p1 = into a line class c 10 rs callers z m st r fc hc (omega arith) (omega arith) (λ k. omega (arith, k)) in
      let f1 = frame_still regs p1.registers' words way base frame (p1.others 2 (λ k. omega (arith, k)) (λ k. omega (arith, k))) f in
      let ts1 = past_call regs p1.registers' words base _ 10 ps s (inl refl) p1.others oks ts in
      let tw1 = past_call regs p1.registers' words base _ 10 pw w (inl refl) p1.others okw tw in
      let p2 = loaded words p1.registers' way base frame 11 ps s small p1.ready ss f1 oks (omega arith) (omega arith) (λ k. omega (arith, k)) ts1 in
      let f2 = frame_still p1.registers' p2.registers' words way base frame (p2.others 2 (λ k. omega (arith, k)) (λ k. omega (arith, k))) f1 in
      let tw2 = past_call p1.registers' p2.registers' words base _ 11 pw w (inr refl) p2.others okw tw1 in
      let p3 = loaded words p2.registers' way base frame 12 pw w small p2.ready sw f2 okw (omega arith) (omega arith) (λ k. omega (arith, k)) tw2 in
      record {
        registers' = p3.registers';
        sets = sets_on p1.sets (sets_on p2.sets p3.sets);
        ready = p3.ready;
        first_is = p3.others 10 (λ k. omega (arith, k)) (λ k. omega (arith, k)) ∙ p2.others 10 (λ k. omega (arith, k)) (λ k. omega (arith, k)) ∙ p1.holds;
        second_is = p3.others 11 (λ k. omega (arith, k)) (λ k. omega (arith, k)) ∙ p2.holds;
        third_is = p3.holds;
      }

  pub unhandled_follows :
      (a : Activation) (line class site condition : ℕ) (rs : Registers) (callers : List Caller) (z : MidState) (m : Moment)
      → line_of program a.procedure line ≡ Some (Unhandled class site condition)
      → Relates program l Fact first (running a line rs callers z) m → Follows program l Fact first (running a line rs callers z) m
  unfolding exec_step with_some proceed
  unhandled_follows a line class site condition rs callers z m e r = by (register class rs) (register site rs) (register condition rs) refl refl refl
    where
      light : weight program (running a line rs callers z) ≡ 0
      light = weighs program l Fact first good a line rs callers z (Unhandled class site condition) e

      start : (x : Option ℕ) → register class rs ≡ x
          → next program (running a line rs callers z)
          ≡ proceed program a (line + 1) callers (with_some x (λ c. with_register site (λ s. with_register condition (λ w. ends (unhandled c s w)))) rs (charged 14 z))
      start x h =
          at_line program l Fact first good a line rs callers z (Unhandled class site condition) e
          ∙ ap (λ u. proceed program a (line + 1) callers (with_some u (λ c. with_register site (λ s. with_register condition (λ w. ends (unhandled c s w)))) rs (charged 14 z))) h

      second : (c : ℕ) (x : Option ℕ) → register class rs ≡ Some c → register site rs ≡ x
          → next program (running a line rs callers z)
          ≡ proceed program a (line + 1) callers (with_some x (λ s. with_register condition (λ w. ends (unhandled c s w))) rs (charged 14 z))
      second c x hc h =
          start (Some c) hc
          ∙ ap (λ u. proceed program a (line + 1) callers (with_some u (λ s. with_register condition (λ w. ends (unhandled c s w))) rs (charged 14 z))) h

      third : (c s : ℕ) (x : Option ℕ) → register class rs ≡ Some c → register site rs ≡ Some s → register condition rs ≡ x
          → next program (running a line rs callers z) ≡ proceed program a (line + 1) callers (with_some x (λ w. ends (unhandled c s w)) rs (charged 14 z))
      third c s x hc hs h = second c (Some s) hc hs ∙ ap (λ u. proceed program a (line + 1) callers (with_some u (λ w. ends (unhandled c s w)) rs (charged 14 z))) h

      by : (x y u : Option ℕ) → register class rs ≡ x → register site rs ≡ y → register condition rs ≡ u → Follows program l Fact first (running a line rs callers z) m
      by None y u hx hy hu = nothing program l Fact first good (running a line rs callers z) m (charged 14 z) (start None hx) (omega arith)
      by (Some c) None u hx hy hu = nothing program l Fact first good (running a line rs callers z) m (charged 14 z) (second c None hx hy) (omega arith)
      by (Some c) (Some s) None hx hy hu = nothing program l Fact first good (running a line rs callers z) m (charged 14 z) (third c s None hx hy hu) (omega arith)
      by (Some c) (Some s) (Some w) hx hy hu =
          let g = good.lines a.procedure line (Unhandled class site condition) e in
          let way = way_at l a.procedure line in
          let A = load_into way 10 (l.source a.procedure line class) in
          let B = load_into way 11 (l.source a.procedure line site) in
          let C = load_into way 12 (l.source a.procedure line condition) in
          let end = Addi 17 0 3 ∷ Ecall ∷ [] in
          let t = three a line class site condition c s w rs callers z m r.0.0 r.1 g.0 g.1.0 g.1.1.0 hx hy hu in
          let stands = r.1.machine.code.lines a.procedure line (Unhandled class site condition) e in
          let same : A ++ (B ++ (C ++ end)) ≡ (A ++ (B ++ C)) ++ end = ap (λ k. A ++ k) (sym (append_assoc B C end)) ∙ sym (append_assoc A (B ++ C) end) in
          let long : length ((A ++ (B ++ C)) ++ end) ≡ length (A ++ (B ++ C)) + 2 = length-append (A ++ (B ++ C)) end in
          let stands' = subst (λ k. Stands l r.1.words (l.line_at a.procedure line) k) same stands in
          let c3 = called_with program l Fact first z 14 r.1.words m (l.line_at a.procedure line) (A ++ (B ++ C)) [] 3 t.registers' (holding program l Fact first z r.1.words m r.1.machine) r.1.pc stands' t.sets t.ready (omega (arith, stands'.to, good.low, long)) (omega arith) in
          let m' = c3.1.moment' in
          let is10 : slice_index m'.state.registers 10 ≡ c = ap (λ k. slice_index k 10) c3.1.same ∙ c3.2 10 (λ k. omega (arith, k)) (λ k. omega (arith, k)) ∙ t.first_is in
          let is11 : slice_index m'.state.registers 11 ≡ s = ap (λ k. slice_index k 11) c3.1.same ∙ c3.2 11 (λ k. omega (arith, k)) (λ k. omega (arith, k)) ∙ t.second_is in
          let is12 : slice_index m'.state.registers 12 ≡ w = ap (λ k. slice_index k 12) c3.1.same ∙ c3.2 12 (λ k. omega (arith, k)) (λ k. omega (arith, k)) ∙ t.third_is in
          record {
            count = length (A ++ (B ++ C)) + 1;
            moment = m';
            comes = c3.1.comes;
            relates = subst (λ y. Relates program l Fact first y m') (sym (third c s (Some w) hx hy hu)) (c3.1.calls, is10, is11, is12);
            cheap = subst (λ y. length (A ++ (B ++ C)) + 1 + z.cost ≤ (state_of y).cost) (sym (third c s (Some w) hx hy hu))
                (omega (arith, length-append A (B ++ C), length-append B C, load_length way 10 (l.source a.procedure line class), load_length way 11 (l.source a.procedure line site), load_length way 12 (l.source a.procedure line condition)));
            heavy = λ u. omega (arith, light);
          }
