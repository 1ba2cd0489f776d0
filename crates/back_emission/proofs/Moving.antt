-- A word goes from one place to another, and the machine stands at a line.
use Rattle.std.proofs.Common.{◌≡◌, ◌≢◌, ℕ, zero, suc, ◌+◌, ◌-◌, ◌*◌, ◌^◌, ◌<◌, ◌≤◌, true, List, [], ◌∷◌, length, sym, ap, subst, ◌∙◌, arith, Some, None}
use Rattle.std.specs.Prelude.{Option, slice_index}
use Rattle.rv_encode.specs.declared.instruction.Instr.{Instr}
use Rattle.rv_machine.specs.Run.{Moment}
use Rattle.mid_code.specs.Arena.{Block, words_of}
use Rattle.mid_code.specs.State.{Registers, MidState, charged}
use Rattle.mid_lines.specs.declared.line.LineProgram.{LineProgram}
use Rattle.mid_lines.specs.LineMeaning.{Standing, Activation, Caller}
use Rattle.mid_lines.specs.StackLaw.{frame_of, blocks_of, StandsOn, CallersStandOn}
use Rattle.back_places.specs.declared.place.Place.{Place}
use Rattle.back_places.specs.declared.place.Place.TheVariants.{InRegister, InSlot, AsConstant}
use Rattle.back_places.specs.Places.{StaticRecord, Located, Way, from_stack, past_lent, no_way, past_record, past_block, way_of, reachable}
use Rattle.back_places.specs.Operands.{read_in, read_code, move_code}
use Rattle.back_places.specs.Facts.{IsPlace, IsSomewhere, CanHold}
use Rattle.back_places.specs.Good.{IsGood}
use Rattle.back_places.specs.Relation.{Stands, IsAt, base_of, HeadHolds, HeadsHold, Point, static_of, statics}
use Rattle.back_emission.specs.Arriving.{Given, Arrives}
use Rattle.back_emission.specs.Moments.{AreSmall, Ready, Prepared, LeadsTo, Frame}
use Rattle.back_emission.proofs.Private.{outer_words}
use Rattle.back_emission.proofs.Operands.{read, loaded}
use Rattle.back_emission.proofs.Giving.{SetsOne, given_in_register, given_in_slot, given_nowhere}

-- The way past the records of an activation leads from the begin of its blocks to its frame.
abbrev Spans : Way → (size base at : ℕ) → (words : List ℕ) → Type 0
Spans (from_stack depth) size base at words = at + depth ≡ base
Spans (past_lent depth) size base at words = (at + 1 < size) × (slice_index words (at + 1) + 4 * depth ≡ 4 * base)
Spans no_way size base at words = Unit {0}

module _ (program : LineProgram) (l : Located) (Fact : (number line register : ℕ) → Place → Type 0) (first : List Block) where
  spans_record :
      (w : Way) (words : ℕ) (size base at at' : ℕ) (memory : List ℕ) → Spans w size base at memory → at' + (words + 2) ≡ at → Spans (past_record (words + 2) w) size base at' memory
  spans_record (from_stack depth) words size base at at' memory h e = omega (arith, h, e)
  spans_record (past_lent depth) words size base at at' memory h e = tt
  spans_record no_way words size base at at' memory h e = tt

  spans_block :
      (w : Way) (size base at at' : ℕ) (memory : List ℕ) → Spans w size base at memory → at' + 1 < size → slice_index memory (at' + 1) ≡ 4 * at → Spans (past_block w) size base at' memory
  spans_block (from_stack depth) size base at at' memory h e k = (e, omega (arith, h, k))
  spans_block (past_lent depth) size base at at' memory h e k = tt
  spans_block no_way size base at at' memory h e k = tt

  pub spans :
      (words : List ℕ) (size : ℕ) (a : Activation) (records : List Standing) → words_of (blocks_of program a records) ≤ size
      → HeadsHold program l Fact first words size a records
      → Spans (way_of (statics records)) size (base_of program size a) (size - words_of (blocks_of program a records)) words
  spans words size a [] fits h = omega arith
  spans words size a (s ∷ records) fits h = by s.landing h.0 (spans words size a records (omega (arith, fits)) h.1)
    where
      by : (landing : Option ℕ)
          → HeadHolds program l Fact first words (size - words_of (blocks_of program a (s ∷ records))) (size - words_of (blocks_of program a records)) a.procedure landing
          → Spans (way_of (statics records)) size (base_of program size a) (size - words_of (blocks_of program a records)) words
          → Spans (way_of (static_of s.words landing ∷ statics records)) size (base_of program size a) (size - words_of (blocks_of program a (s ∷ records))) words
      by (Some landing) head deeper =
          spans_record (way_of (statics records)) s.words size (base_of program size a) (size - words_of (blocks_of program a records)) _ words deeper (omega (arith, fits))
      by None head deeper =
          spans_block (way_of (statics records)) size (base_of program size a) (size - words_of (blocks_of program a records)) _ words deeper (omega (arith, fits)) head

  leads_by :
      (w : Way) (size base at : ℕ) (registers words : List ℕ) → size ≡ length words → slice_index registers 2 ≡ 4 * at → Spans w size base at words → LeadsTo registers words w base
  leads_by (from_stack depth) size base at registers words long e h = omega (arith, e, h)
  leads_by (past_lent depth) size base at registers words long e h = (at, e, omega (arith, long, h.0), h.1)
  leads_by no_way size base at registers words long e h = tt

pub place_small :
    (registers words : List ℕ) (base frame : ℕ) (p : Place) (w : ℕ) → AreSmall registers → AreSmall words → IsPlace frame p → IsAt registers words base p w → w < 2 ^ 32
place_small registers words base frame (InRegister r) w rs ws ok h = omega (arith, rs r, h)
place_small registers words base frame (InSlot k) w rs ws ok h = omega (arith, ws (base + k), h)
place_small registers words base frame (AsConstant c) w rs ws ok h = omega (arith, ok, h)

-- where a word can be given, it can be held
pub holds_somewhere : (p : Place) (w : ℕ) → IsSomewhere p → CanHold p w
holds_somewhere (InRegister r) w h = tt
holds_somewhere (InSlot k) w h = tt
holds_somewhere (AsConstant c) w h = absurd h

-- where an operand is read is not register 7
pub read_not_seven : (frame : ℕ) (p : Place) → IsPlace frame p → read_in 5 p ≢ 7
read_not_seven frame (InRegister r) ok e = omega (arith, ok.0, e)
read_not_seven frame (InSlot k) ok e = omega (arith, e)
read_not_seven frame (AsConstant zero) ok e = omega (arith, e)
read_not_seven frame (AsConstant (suc c)) ok e = omega (arith, e)

module _ (program : LineProgram) (l : Located) (Fact : (number line register : ℕ) → Place → Type 0) (first : List Block)
    (good : IsGood program l Fact) where
  -- the frame of an activation, at a point of its code
  pub frame_is :
      (a : Activation) (at : ℕ) (known : List StaticRecord) (callers : List Caller) (z : MidState) (m : Moment)
      → StandsOn program a z.arena.blocks → (r : Point program l Fact first a at known callers z m)
      → Frame m.state.registers r.words (way_of known) (base_of program (length z.arena.memory) a) (frame_of program a.procedure).words
  frame_is a at known callers z m st r =
      let size = length z.arena.memory in
      let same_words : words_of z.arena.blocks ≡ words_of (blocks_of program a a.standing) = ap words_of st.all in
      let outer = outer_words program a a.standing in
      let f = r.machine.form in
      let there = spans program l Fact first r.words size a a.standing (omega (arith, same_words, f.fits)) r.heads in
      let stack : slice_index m.state.registers 2 ≡ 4 * (size - words_of (blocks_of program a a.standing)) = r.machine.stack ∙ ap (λ n. 4 * (size - n)) same_words in
      record {
        leads = subst (λ k. LeadsTo m.state.registers r.words (way_of k) (base_of program size a)) (sym r.records_are)
            (leads_by program l Fact first (way_of (statics a.standing)) size (base_of program size a) (size - words_of (blocks_of program a a.standing)) m.state.registers r.words (sym r.machine.arena.long) stack there);
        inside = omega (arith, r.machine.arena.long, outer, same_words, f.fits);
        memory_small = omega (arith, r.machine.arena.long, f.small);
      }

  -- code that prepares a register that is no scratch register is the target's; a scratch register is nowhere
  pub for_register :
      (a : Activation) (z : MidState) (words registers : List ℕ) (code : List Instr) (rd w : ℕ) → 7 < rd → AreSmall registers
      → Prepared words registers code rd w rd → SetsOne program l Fact first good a z words code registers (InRegister rd)
  for_register a z words registers code rd w past small p = record {
    registers' = p.registers';
    sets = p.sets;
    after_is = record {
      ready = p.ready;
      small = p.bounded small;
      stack = p.others 2 (λ e. omega (arith, past, e)) (λ e. omega (arith, e));
      heap = p.others 3 (λ e. omega (arith, past, e)) (λ e. omega (arith, e));
    };
    link = p.others 1 (λ e. omega (arith, past, e)) (λ e. omega (arith, e));
    others = λ q ok d. p.others q d (λ e. omega (arith, ok.0, e));
  }

  pub for_scratch :
      (a : Activation) (z : MidState) (words registers : List ℕ) (code : List Instr) (to k w : ℕ) → AreSmall registers
      → Prepared words registers code to w 5 → SetsOne program l Fact first good a z words code registers (InSlot k)
  for_scratch a z words registers code to k w small p = record {
    registers' = p.registers';
    sets = p.sets;
    after_is = record {
      ready = p.ready;
      small = p.bounded small;
      stack = p.others 2 (λ e. omega (arith, e)) (λ e. omega (arith, e));
      heap = p.others 3 (λ e. omega (arith, e)) (λ e. omega (arith, e));
    };
    link = p.others 1 (λ e. omega (arith, e)) (λ e. omega (arith, e));
    others = λ q ok d. p.others q (λ e. omega (arith, e, ok.0)) (λ e. omega (arith, e, ok.0));
  }

  -- a word goes from a place to another, and the machine stands at a line
  pub moved :
      (a : Activation) (at : ℕ) (known : List StaticRecord) (line' w : ℕ) (from target : Place) (rs' : Registers) (callers : List Caller) (z : MidState) (cost : ℕ) (m : Moment)
      → (st : StandsOn program a z.arena.blocks × CallersStandOn program first callers a.outer) → (r : Point program l Fact first a at known callers z m)
      → IsPlace (reachable (way_of known) (frame_of program a.procedure).words) target → IsPlace (reachable (way_of known) (frame_of program a.procedure).words) from → CanHold target w
      → IsAt m.state.registers r.words (base_of program (length z.arena.memory) a) from w
      → Stands l r.words at (move_code (way_of known) from target)
      → l.line_at a.procedure line' ≡ at + length (move_code (way_of known) from target)
      → Arrives program l Fact first a z m.state.registers r.words line' rs' target w
      → (l.linked a.procedure line' ≡ true → slice_index m.state.registers 1 ≡ r.link) → l.records a.procedure line' ≡ known
      → Given program l Fact first a line' rs' callers (charged cost z) m (length (move_code (way_of known) from target))
  unfolding for_register for_scratch
  moved a at known line' w from (InRegister rd) rs' callers z cost m st r ok okf made is_at stands behind reach linked records =
      let small = place_small _ _ _ _ from w r.machine.registers_small r.machine.arena.words_small okf is_at in
      let ready : Ready m.state.registers = record { long = r.machine.long; zero_is = r.machine.zero_is } in
      let p = loaded r.words m.state.registers (way_of known) _ _ rd from w r.machine.arena.words_small ready small (frame_is a at known callers z m st.0 r) okf (omega (arith, ok.0)) ok.1 (λ e. omega (arith, ok.0, e)) is_at in
      given_in_register program l Fact first good a at known line' w rd rs' callers z cost m _ st r stands behind reach linked records
      (for_register a z r.words m.state.registers _ rd w ok.0 r.machine.registers_small p) p.holds
  moved a at known line' w from (InSlot k) rs' callers z cost m st r ok okf made is_at stands behind reach linked records =
      let small = place_small _ _ _ _ from w r.machine.registers_small r.machine.arena.words_small okf is_at in
      let ready : Ready m.state.registers = record { long = r.machine.long; zero_is = r.machine.zero_is } in
      let f = frame_is a at known callers z m st.0 r in
      let p = read r.words m.state.registers (way_of known) _ _ 5 from w r.machine.arena.words_small ready f okf (omega arith) (omega arith) is_at in
      given_in_slot program l Fact first good a at known line' w k (read_in 5 from) rs' callers z cost m (read_code (way_of known) 5 from) st r ok.0 ok.1 f stands behind reach linked records
      (for_scratch a z r.words m.state.registers _ (read_in 5 from) k w r.machine.registers_small p) p.holds (read_not_seven _ from okf) small
  moved a at known line' w from (AsConstant c) rs' callers z cost m st r ok okf made is_at stands behind reach linked records =
      let e : at + 0 ≡ at = omega arith in
      given_nowhere program l Fact first good a at known line' w rs' callers z cost m st r (behind ∙ e)
      (subst (λ y. Arrives program l Fact first a z m.state.registers r.words line' rs' (AsConstant y) w) made reach) linked records
