-- The steps of returns, and of records that are given back.
use Rattle.std.proofs.Common.{inl, inr, ◌≡◌, ℕ, ◌+◌, ◌-◌, ◌*◌, ◌^◌, ◌<◌, ◌≤◌, Bool, true, false, List, [], ◌∷◌, ◌++◌, length, refl, sym, ap, subst, ◌∙◌, arith, Some, None, length-append}
use Rattle.std.specs.Prelude.{◌⊎◌, Option, slice_index, slice_set}
use Rattle.base.specs.Arithmetic.{sum32}
use Rattle.rv_encode.specs.declared.instruction.Instr.TheVariants.{Addi, Jalr, Lw}
use Rattle.rv_machine.specs.Memory.{bytes_of}
use Rattle.rv_machine.specs.Arithmetic.{sign_extended, even}
use Rattle.rv_machine.specs.Step.{next as goes_to, gives}
use Rattle.rv_machine.specs.Run.{Moment}
use Rattle.mid_code.specs.declared.operation.Operation.TheVariants.{Call}
use Rattle.mid_code.specs.Arena.{Block, words_of, with_blocks}
use Rattle.mid_code.specs.State.{Registers, MidState, charged, register, with_arena, with_some, ends, returns}
use Rattle.mid_code.specs.Meaning.{exec_step}
use Rattle.mid_lines.specs.declared.line.Line.TheVariants.{Do, Return}
use Rattle.mid_lines.specs.declared.line.LineProgram.{LineProgram}
use Rattle.mid_lines.specs.Lines.{line_of}
use Rattle.mid_lines.specs.LineMeaning.{Standing, Activation, Caller, running, next, proceed, return_to, state_of}
use Rattle.mid_lines.specs.StackLaw.{record_block, frame_of, blocks_of, StandsOn, CallersStandOn}
use Rattle.back_places.specs.declared.place.Place.{Place}
use Rattle.back_places.specs.declared.place.Place.TheVariants.{InRegister, InSlot, AsConstant}
use Rattle.back_places.specs.Places.{Located, Way, from_stack, past_lent, no_way, way_at, depth_in, is_from_stack}
use Rattle.back_places.specs.Operands.{load_into, move_code}
use Rattle.back_places.specs.Blocks.{raise_code}
use Rattle.back_places.specs.LineCode.{link_code, before_return_code}
use Rattle.back_places.specs.Facts.{Outlasts}
use Rattle.back_places.specs.Good.{IsGood}
use Rattle.back_places.specs.Relation.{IsAt, base_of, Machine, Point, Runs, Waits, CallersWait, Relates}
use Rattle.back_places.specs.StepLaw.{Comes, Follows, weight}
use Rattle.back_emission.specs.Moments.{state_at, later, moment, beside, AreSmall, Sets, Ready, Prepared, Frame}
use Rattle.back_emission.specs.Arriving.{Given}
use Rattle.back_emission.proofs.Coming.{sets_on, and_one, and_on}
use Rattle.back_emission.proofs.Operands.{prepared_none, prepared_one, slot_prepared, loaded, frame_still}
use Rattle.back_emission.proofs.JumpSteps.{jumped_to}
use Rattle.back_emission.proofs.Private.{outer_words}
use Rattle.back_emission.proofs.Lengths.{load_length, slot_length, raise_length, move_from_register}
use Rattle.back_emission.proofs.Going.{point_of}
use Rattle.back_emission.proofs.Giving.{register_other, register_same}
use Rattle.back_emission.proofs.Moving.{place_small, holds_somewhere, frame_is, moved}
use Rattle.back_emission.proofs.Ends.{holding, Called, called_with}
use Rattle.back_emission.proofs.Leaving.{raise_prepared, machine_left}
use Rattle.back_emission.proofs.Steps.{nothing, at_line, weighs}

-- the blocks of an activation that stands: some, and those outside its frame
pub outside_blocks : (program : LineProgram) (a : Activation) (records : List Standing) → (before : List Block) × (blocks_of program a records ≡ before ++ a.outer)
outside_blocks program a [] = (frame_of program a.procedure ∷ [], refl)
outside_blocks program a (s ∷ records) = let h = outside_blocks program a records in (record_block s ∷ h.0, ap (λ b. record_block s ∷ b) h.1)

-- what outlasts calls is where it is whatever the registers
pub outlasting : (registers registers' words : List ℕ) (base : ℕ) (p : Place) (w : ℕ) → Outlasts p → IsAt registers words base p w → IsAt registers' words base p w
outlasting registers registers' words base (InRegister r) w o h = absurd o
outlasting registers registers' words base (InSlot k) w o h = h
outlasting registers registers' words base (AsConstant c) w o h = h

module _ (program : LineProgram) (l : Located) (Fact : (number line register : ℕ) → Place → Type 0) (first : List Block)
    (good : IsGood program l Fact) where
  -- what holds of the machine when an activation has ended: its blocks are those of the callers, and the program counter is at the link
  pub record HasLeft (a : Activation) (z : MidState) (w link : ℕ) (words : List ℕ) (m : Moment) : Type 0 where
    pub machine : Machine program l Fact first (with_arena (with_blocks a.outer z.arena) z) words m
    pub pc : m.state.pc ≡ link
    pub word : slice_index m.state.registers 12 ≡ w

  -- the registers before the jump of a return
  record Leaving (a : Activation) (line v w : ℕ) (z : MidState) (words registers : List ℕ) (link : ℕ) : Type 0 where
    registers' : List ℕ
    sets : Sets words (before_return_code l a.procedure (frame_of program a.procedure).words line v) registers registers'
    ready : Ready registers'
    small : AreSmall registers'
    stack : slice_index registers' 2 ≡ 4 * (length z.arena.memory - words_of a.outer)
    heap : slice_index registers' 3 ≡ slice_index registers 3
    link_there : slice_index registers' 1 ≡ link
    word : slice_index registers' 12 ≡ w

  -- the return address comes into register 1
  by_link :
      (a : Activation) (line : ℕ) (rs : Registers) (callers : List Caller) (z : MidState) (m : Moment) (r : Runs program l Fact first a line rs callers z m)
      → ((l.linked a.procedure line ≡ true) ⊎ (l.saves a.procedure ≡ true)) → (way : Way) → is_from_stack way ≡ true
      → (t : Bool) → l.linked a.procedure line ≡ t → (registers : List ℕ) → Ready registers
      → Frame registers r.words way (base_of program (length z.arena.memory) a) (frame_of program a.procedure).words
      → slice_index registers 1 ≡ slice_index m.state.registers 1
      → Prepared r.words registers (link_code way t) 1 r.link 1
  by_link a line rs callers z m r keeps way known true e registers ready f same = prepared_none r.words registers 1 r.link 1 ready (same ∙ r.links.linked e)
  by_link a line rs callers z m r keeps (past_lent depth) known false e registers ready f same = absurd (cc known)
  by_link a line rs callers z m r keeps no_way known false e registers ready f same = absurd (cc known)
  by_link a line rs callers z m r keeps (from_stack depth) known false e registers ready f same = elim keeps [
    | inl t ↦ absurd (cc (t, e))
    | inr t ↦
        let zero_is : base_of program (length z.arena.memory) a + 0 ≡ base_of program (length z.arena.memory) a = omega arith in
        subst (λ x. Prepared r.words registers (link_code (from_stack depth) false) 1 x 1) (ap (λ i. slice_index r.words i) zero_is ∙ r.links.saved t)
        (slot_prepared r.words registers (from_stack depth) _ _ 1 0 r.machine.arena.words_small ready f (good.frames a.procedure t) (omega arith) (omega arith))
  ]

  -- the stack pointer behind the frame
  stack_behind :
      (a : Activation) (way : Way) (registers words : List ℕ) (z : MidState) → is_from_stack way ≡ true → length words ≡ length z.arena.memory
      → Frame registers words way (base_of program (length z.arena.memory) a) (frame_of program a.procedure).words
      → words_of (frame_of program a.procedure ∷ a.outer) ≤ length z.arena.memory
      → slice_index registers 2 + 4 * (depth_in way + (frame_of program a.procedure).words) ≡ 4 * (length z.arena.memory - words_of a.outer)
  stack_behind a (from_stack depth) registers words z known long f fits = let leads = f.leads in omega (arith, leads, fits)
  stack_behind a (past_lent depth) registers words z known long f fits = absurd (cc known)
  stack_behind a no_way registers words z known long f fits = absurd (cc known)

  leaving :
      (a : Activation) (line v w : ℕ) (rs : Registers) (callers : List Caller) (z : MidState) (m : Moment)
      → StandsOn program a z.arena.blocks → (r : Runs program l Fact first a line rs callers z m)
      → Fact a.procedure line v (l.source a.procedure line v) → register v rs ≡ Some w
      → ((l.linked a.procedure line ≡ true) ⊎ (l.saves a.procedure ≡ true)) → is_from_stack (way_at l a.procedure line) ≡ true
      → Leaving a line v w z r.words m.state.registers r.link
  leaving a line v w rs callers z m st r fact has keeps known =
      let way = way_at l a.procedure line in
      let frame = (frame_of program a.procedure).words in
      let size = length z.arena.memory in
      let base = base_of program size a in
      let words = r.words in
      let ready : Ready m.state.registers = record { long = r.machine.long; zero_is = r.machine.zero_is } in
      let ws = r.machine.arena.words_small in
      let f = frame_is program l Fact first good a (l.line_at a.procedure line) (l.records a.procedure line) callers z m st (point_of program l Fact first good a line rs callers z m r) in
      let from = l.source a.procedure line v in
      let okf = good.sources a.procedure line v fact in
      let is_at = r.there v from w fact has in
      let small = place_small m.state.registers words base _ from w r.machine.registers_small ws okf is_at in
      let p1 = loaded words m.state.registers way base frame 12 from w ws ready small f okf (omega arith) (omega arith) (λ e. omega (arith, e)) is_at in
      let sp1 = p1.others 2 (λ e. omega (arith, e)) (λ e. omega (arith, e)) in
      let f1 = frame_still m.state.registers p1.registers' words way base frame sp1 f in
      let p2 = by_link a line rs callers z m r keeps way known (l.linked a.procedure line) refl p1.registers' p1.ready f1 (p1.others 1 (λ e. omega (arith, e)) (λ e. omega (arith, e))) in
      let sp2 = p2.others 2 (λ e. omega (arith, e)) (λ e. omega (arith, e)) in
      let f2 = frame_still p1.registers' p2.registers' words way base frame sp2 f1 in
      let all = outer_words program a a.standing in
      let same_words : words_of z.arena.blocks ≡ words_of (blocks_of program a a.standing) = ap words_of st.all in
      let up = stack_behind a way p2.registers' words z known r.machine.arena.long f2 (omega (arith, all, same_words, r.machine.form.fits)) in
      let p3 = raise_prepared words p2.registers' (depth_in way + frame) (4 * (size - words_of a.outer)) ws p2.ready up (omega (arith, r.machine.form.small)) in
      record {
        registers' = p3.registers';
        sets = sets_on p1.sets (sets_on p2.sets p3.sets);
        ready = p3.ready;
        small = p3.bounded (p2.bounded (p1.bounded r.machine.registers_small));
        stack = p3.holds;
        heap = p3.others 3 (λ e. omega (arith, e)) (λ e. omega (arith, e)) ∙ p2.others 3 (λ e. omega (arith, e)) (λ e. omega (arith, e)) ∙ p1.others 3 (λ e. omega (arith, e)) (λ e. omega (arith, e));
        link_there = p3.others 1 (λ e. omega (arith, e)) (λ e. omega (arith, e)) ∙ p2.holds;
        word = p3.others 12 (λ e. omega (arith, e)) (λ e. omega (arith, e)) ∙ p2.others 12 (λ e. omega (arith, e)) (λ e. omega (arith, e)) ∙ p1.holds;
      }

  -- to the return address
  leaves_to :
      (a : Activation) (line v w k : ℕ) (rs : Registers) (callers : List Caller) (z : MidState) (m : Moment)
      → StandsOn program a z.arena.blocks → (r : Runs program l Fact first a line rs callers z m) → line_of program a.procedure line ≡ Some (Return v)
      → register v rs ≡ Some w → r.link ≡ 4 * k → k < 2 ^ 24
      → (m' : Moment) × Comes (length (before_return_code l a.procedure (frame_of program a.procedure).words line v) + 1) m m' × HasLeft a z w r.link r.words m'
  leaves_to a line v w k rs callers z m st r e has link_is low_link =
      let g = good.lines a.procedure line (Return v) e in
      let code = before_return_code l a.procedure (frame_of program a.procedure).words line v in
      let stands = r.machine.code.lines a.procedure line (Return v) e in
      let words = r.words in
      let s = leaving a line v w rs callers z m st r g.reads.0 has g.link g.way in
      let long : length (code ++ Jalr 0 1 0 ∷ []) ≡ length code + 1 = length-append code (Jalr 0 1 0 ∷ []) in
      let at = l.line_at a.procedure line in
      let there = state_at k s.registers' words in
      let o = later 1 (later (length code) (beside m)) in
      let reaches : even (sum32 (slice_index s.registers' 1) (sign_extended 12 0)) ≡ 4 * k = jumped_to (slice_index s.registers' 1) k (omega (arith, low_link)) (s.link_there ∙ link_is) in
      let comes = and_one m at words s.registers' code [] (Jalr 0 1 0) there r.machine.arena.words_small r.pc r.machine.memory s.sets stands.has (omega (arith, stands.to, good.low, long))
      (ap (λ x. goes_to (record { pc = x; registers = s.registers'; memory = bytes_of words })) reaches) in
      let out = outside_blocks program a a.standing in (
        moment there o,
        comes,
        record {
          machine = machine_left program l Fact first z words m (moment there o) out.0 a.outer (st.all ∙ out.1) r.machine (sym r.machine.memory) s.ready s.small s.stack s.heap refl refl;
          pc = sym link_is;
          word = s.word;
        },
      )

  -- the caller goes on: the word comes to its place, behind the call
  returned :
      (a : Activation) (c : Caller) (callers : List Caller) (z : MidState) (w cost link : ℕ) (words : List ℕ) (m : Moment)
      → CallersStandOn program first (c ∷ callers) a.outer → HasLeft a z w link words m
      → (x : Waits program l Fact first words (length z.arena.memory) c link)
      → CallersWait program l Fact first words (length z.arena.memory) callers (slice_index words (base_of program (length z.arena.memory) c.activation))
      → Given program l Fact first c.activation c.line (slice_set c.registers c.result (Some w)) callers
      (charged cost (with_arena (with_blocks a.outer z.arena) z)) m (length (move_code (way_at l c.activation.procedure x.at) (InRegister 12) (l.target c.activation.procedure x.at)))
  returned a c callers z w cost link words m st left x waiting =
      let number = c.activation.procedure in
      let size = length z.arena.memory in
      let call = Do (Call c.result x.callee x.arguments) in
      let g = good.lines number x.at call x.is_call in
      let target = l.target number x.at in
      let p : Point program l Fact first c.activation (l.back_at number x.at) (l.records number x.at) callers (with_arena (with_blocks a.outer z.arena) z) m = record {
        words = words;
        link = slice_index words (base_of program size c.activation);
        machine = left.machine;
        pc = left.pc ∙ x.link_is;
        saved = λ e. refl;
        records_are = x.records_are;
        heads = x.heads;
        waiting = waiting;
      } in
      moved program l Fact first good c.activation (l.back_at number x.at) (l.records number x.at) c.line w (InRegister 12) target
      (slice_set c.registers c.result (Some w)) callers (with_arena (with_blocks a.outer z.arena) z) cost m st p (good.targets number x.at) (omega arith, omega arith, (λ e. omega (arith, e)), (λ e. omega (arith, e)), (λ e. omega (arith, e)))
      (holds_somewhere target w g.somewhere) left.word
      (left.machine.code.backs number x.at call x.is_call)
      (ap (λ k. l.line_at number k) x.behind ∙ (good.laid number x.at call x.is_call).behind)
      (λ v q y f e. elim (g.flows v q (subst (λ k. Fact number k v q) x.behind f)) [
        | inl same ↦ inl (same.1, register_same c.registers c.result w y (ap (λ u. register u (slice_set c.registers c.result (Some w))) (sym same.0) ∙ e))
        | inr other ↦ inr (outlasting [] m.state.registers words (base_of program size c.activation) q y other.2 (x.there v q y f other.0 (sym (register_other c.registers c.result v w other.0) ∙ e)), other.3)
      ])
      (λ e. absurd (cc (e, ap (λ k. l.linked number k) x.behind, g.unlinked)))
      (ap (λ k. l.records number k) x.behind ∙ g.records)

  -- how long the code of a return is
  link_length : (way : Way) (t : Bool) → length (link_code way t) ≤ 3
  link_length way true = omega arith
  link_length way false = slot_length way 0 (Lw 1)

  return_length : (number frame line v : ℕ) → length (before_return_code l number frame line v) ≤ 9
  return_length number frame line v =
      let way = way_at l number line in
      let A = load_into way 12 (l.source number line v) in
      let B = link_code way (l.linked number line) in
      let C = raise_code (depth_in way + frame) in
      omega (arith, load_length way 12 (l.source number line v), link_length way (l.linked number line), raise_length (depth_in way + frame), length-append A (B ++ C), length-append B C)

  -- behind the first procedure the run ends with its word
  run_over :
      (a : Activation) (z : MidState) (w link : ℕ) (words : List ℕ) (m : Moment) → HasLeft a z w link words m → link ≡ 4 * l.end_at → (cost : ℕ)
      → (registers' : List ℕ) × Called program l Fact first 0 (charged cost (with_arena (with_blocks a.outer z.arena) z)) m 2 registers' × (slice_index registers' 10 ≡ w)
  run_over a z w link words m left at_end cost =
      let end = left.machine.code.end in
      let small = left.machine.arena.words_small in
      let regs = m.state.registers in
      let ready : Ready regs = record { long = left.machine.long; zero_is = left.machine.zero_is } in
      let below : w < 2 ^ 32 = let b = left.machine.registers_small 12 in omega (arith, b, left.word) in
      let v10 : sum32 (slice_index regs 12) (sign_extended 12 0) ≡ w = ap (λ k. sum32 k (sign_extended 12 0)) left.word ∙ omega (arith, below) in
      let one = prepared_one words regs (Addi 10 12 0) 10 w small ready (omega arith) (omega arith) below (λ i. ap (λ k. gives 10 k (state_at i regs words)) v10) in
      let c = called_with program l Fact first (with_arena (with_blocks a.outer z.arena) z) cost words m l.end_at (Addi 10 12 0 ∷ []) [] 0 one.registers' (holding program l Fact first (with_arena (with_blocks a.outer z.arena) z) words m left.machine) (left.pc ∙ at_end) end one.sets one.ready (omega (arith, end.to, good.low)) (omega arith) in
      (c.0, c.1, c.2 10 (λ k. omega (arith, k)) (λ k. omega (arith, k)) ∙ one.holds)

  pub return_follows :
      (a : Activation) (line v : ℕ) (rs : Registers) (callers : List Caller) (z : MidState) (m : Moment)
      → line_of program a.procedure line ≡ Some (Return v)
      → Relates program l Fact first (running a line rs callers z) m → Follows program l Fact first (running a line rs callers z) m
  unfolding exec_step with_some proceed
  return_follows a line v rs callers z m e x = by (register v rs) refl
    where
      light : weight program (running a line rs callers z) ≡ 0
      light = weighs program l Fact first good a line rs callers z (Return v) e

      few : length (before_return_code l a.procedure (frame_of program a.procedure).words line v) ≤ 9
      few = return_length a.procedure (frame_of program a.procedure).words line v

      to_caller :
          (w : ℕ) → register v rs ≡ Some w → (cs : List Caller) → cs ≡ callers → CallersStandOn program first cs a.outer
          → CallersWait program l Fact first x.1.words (length z.arena.memory) cs x.1.link
          → next program (running a line rs callers z) ≡ return_to cs w (with_arena (with_blocks a.outer z.arena) (charged 14 z))
          → Follows program l Fact first (running a line rs callers z) m
      to_caller w h [] same st waiting goes =
          let end = x.1.machine.code.end in
          let there = leaves_to a line v w l.end_at rs callers z m x.0.0 x.1 e h waiting (omega (arith, end.to, good.low)) in
          let over = run_over a z w x.1.link x.1.words there.0 there.2 waiting 14 in
          record {
            count = length (before_return_code l a.procedure (frame_of program a.procedure).words line v) + 1 + 2;
            moment = over.1.moment';
            comes = and_on there.1 over.1.comes;
            relates = subst (λ t. Relates program l Fact first t over.1.moment') (sym goes) (over.1.calls, ap (λ k. slice_index k 10) over.1.same ∙ over.2);
            cheap = subst (λ t. length (before_return_code l a.procedure (frame_of program a.procedure).words line v) + 1 + 2 + z.cost ≤ (state_of t).cost) (sym goes) (omega (arith, few));
            heavy = λ u. omega (arith, light);
          }
      to_caller w h (c ∷ cs) same st waiting goes =
          let wait = waiting.0 in
          let back = x.1.machine.code.backs c.activation.procedure wait.at (Do (Call c.result wait.callee wait.arguments)) wait.is_call in
          let there = leaves_to a line v w (l.back_at c.activation.procedure wait.at) rs callers z m x.0.0 x.1 e h wait.link_is (let to = back.to in omega (arith, to, good.low)) in
          let g = returned a c cs z w 14 x.1.link x.1.words there.0 st there.2 wait waiting.1 in
          let n = move_from_register (way_at l c.activation.procedure wait.at) 12 (l.target c.activation.procedure wait.at) in
          record {
            count = length (before_return_code l a.procedure (frame_of program a.procedure).words line v) + 1
                + length (move_code (way_at l c.activation.procedure wait.at) (InRegister 12) (l.target c.activation.procedure wait.at));
            moment = g.moment';
            comes = and_on there.1 g.comes;
            relates = subst (λ t. Relates program l Fact first t g.moment') (sym goes) (st, g.runs);
            cheap = subst (λ t. length (before_return_code l a.procedure (frame_of program a.procedure).words line v) + 1
                + length (move_code (way_at l c.activation.procedure wait.at) (InRegister 12) (l.target c.activation.procedure wait.at)) + z.cost ≤ (state_of t).cost) (sym goes) (omega (arith, few, n));
            heavy = λ u. omega (arith, light);
          }

      by : (o : Option ℕ) → register v rs ≡ o → Follows program l Fact first (running a line rs callers z) m
      by None h =
          nothing program l Fact first good (running a line rs callers z) m (charged 14 z)
          (at_line program l Fact first good a line rs callers z (Return v) e
          ∙ ap (λ u. proceed program a (line + 1) callers (with_some u (λ w. ends (returns w)) rs (charged 14 z))) h) (omega arith)
      by (Some w) h =
          to_caller w h callers refl x.0.1 x.1.waiting
          (at_line program l Fact first good a line rs callers z (Return v) e
          ∙ ap (λ u. proceed program a (line + 1) callers (with_some u (λ w. ends (returns w)) rs (charged 14 z))) h)
