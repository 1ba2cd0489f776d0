-- Code that gives a word to a register, and brings it from there to its place.
use Rattle.std.proofs.Common.{inl, inr, ◌≡◌, ◌≢◌, ℕ, ◌+◌, ◌^◌, ◌<◌, true, List, [], ◌∷◌, ◌++◌, length, sym, ap, subst, ◌∙◌, arith, append-nil}
use Rattle.std.specs.Prelude.{◌⊎◌, slice_index}
use Rattle.rv_encode.specs.declared.instruction.Instr.{Instr}
use Rattle.rv_machine.specs.Step.{execute, gives}
use Rattle.rv_machine.specs.Run.{Moment}
use Rattle.mid_code.specs.Arena.{Block}
use Rattle.mid_code.specs.State.{Registers, MidState, charged}
use Rattle.mid_lines.specs.declared.line.LineProgram.{LineProgram}
use Rattle.mid_lines.specs.LineMeaning.{Activation, Caller}
use Rattle.mid_lines.specs.StackLaw.{frame_of, StandsOn, CallersStandOn}
use Rattle.back_places.specs.declared.place.Place.{Place}
use Rattle.back_places.specs.declared.place.Place.TheVariants.{InRegister, InSlot, AsConstant}
use Rattle.back_places.specs.Places.{StaticRecord, Located, way_of, reachable}
use Rattle.back_places.specs.Operands.{given_in, keep_code}
use Rattle.back_places.specs.Facts.{IsPlace, Apart, IsSomewhere}
use Rattle.back_places.specs.Good.{IsGood}
use Rattle.back_places.specs.Relation.{Stands, Point}
use Rattle.back_emission.specs.Moments.{state_at, AreSmall, Sets, Ready, Prepared}
use Rattle.back_emission.specs.Arriving.{Given, Arrives}
use Rattle.back_emission.proofs.Coming.{sets_on}
use Rattle.back_emission.proofs.Operands.{prepared_one, BothRead, no_scratch}
use Rattle.back_emission.proofs.Giving.{SetsOne, given_in_register, given_in_slot}
use Rattle.back_emission.proofs.Moving.{frame_is}

-- the registers behind code that gives a word to one of them: but for that one and registers 5 to 7, all are as before
pub record Gave (words registers : List ℕ) (code : List Instr) (to w : ℕ) : Type 0 where
  pub registers' : List ℕ
  pub sets : Sets words code registers registers'
  pub holds : slice_index registers' to ≡ w
  pub others : (q : ℕ) → (q < 5) ⊎ (7 < q) → q ≢ to → slice_index registers' q ≡ slice_index registers q
  pub bounded : AreSmall registers → AreSmall registers'
  pub ready : Ready registers'

-- the same behind both operands
pub gave_of_two :
    (words registers : List ℕ) (code : List Instr) (ins : Instr) (to ra rb a b w : ℕ) → AreSmall words → 0 < to → to < 32 → w < 2 ^ 32
    → (p : BothRead words registers code ra rb a b)
    → ((i : ℕ) → execute ins (state_at i p.registers' words) ≡ gives to w (state_at i p.registers' words))
    → Gave words registers (code ++ ins ∷ []) to w
gave_of_two words registers code ins to ra rb a b w small some within fits p does =
    let one = prepared_one words p.registers' ins to w small p.ready some within fits does in
    record {
      registers' = one.registers';
      sets = sets_on p.sets one.sets;
      holds = one.holds;
      others = λ q h nt. one.others q nt (no_scratch q 7 h (omega arith) (omega arith)) ∙ p.others q h;
      bounded = λ h. one.bounded (p.bounded h);
      ready = one.ready;
    }

-- and behind one operand
pub gave_of_one :
    (words registers : List ℕ) (code : List Instr) (ins : Instr) (scratch to ra a w : ℕ) → AreSmall words → 0 < to → to < 32 → w < 2 ^ 32 → 4 < scratch → scratch < 7
    → (p : Prepared words registers code ra a scratch)
    → ((i : ℕ) → execute ins (state_at i p.registers' words) ≡ gives to w (state_at i p.registers' words))
    → Gave words registers (code ++ ins ∷ []) to w
gave_of_one words registers code ins scratch to ra a w small some within fits low high p does =
    let one = prepared_one words p.registers' ins to w small p.ready some within fits does in
    record {
      registers' = one.registers';
      sets = sets_on p.sets one.sets;
      holds = one.holds;
      others = λ q h nt. one.others q nt (no_scratch q 7 h (omega arith) (omega arith))
          ∙ p.others q (no_scratch q scratch h low (omega (arith, high))) (no_scratch q 7 h (omega arith) (omega arith));
      bounded = λ h. one.bounded (p.bounded h);
      ready = one.ready;
    }

-- the register that a word is given to is one of values, or scratch
pub given_is : (frame : ℕ) (p : Place) → IsPlace frame p → IsSomewhere p → (4 < given_in p) × (given_in p < 32)
given_is frame (InRegister r) ok some = (omega (arith, ok.0), ok.1)
given_is frame (InSlot k) ok some = (omega arith, omega arith)
given_is frame (AsConstant c) ok some = absurd some

module _ (program : LineProgram) (l : Located) (Fact : (number line register : ℕ) → Place → Type 0) (first : List Block)
    (good : IsGood program l Fact) where
  sets_target :
      (a : Activation) (z : MidState) (words registers : List ℕ) (code : List Instr) (to w : ℕ) (target : Place) → 4 < to
      → ((q : ℕ) → IsPlace (frame_of program a.procedure).words (InRegister q) → Apart (InRegister q) target → q ≢ to) → AreSmall registers
      → (c : Gave words registers code to w) → (s : SetsOne program l Fact first good a z words code registers target) × (slice_index s.registers' to ≡ w)
  sets_target a z words registers code to w target past apart small c = (
    record {
      registers' = c.registers';
      sets = c.sets;
      after_is = record {
        ready = c.ready;
        small = c.bounded small;
        stack = c.others 2 (inl (omega arith)) (λ e. omega (arith, past, e));
        heap = c.others 3 (inl (omega arith)) (λ e. omega (arith, past, e));
      };
      link = c.others 1 (inl (omega arith)) (λ e. omega (arith, past, e));
      others = λ q ok d. c.others q (inr ok.0) (apart q ok d);
    },
    c.holds,
  )

  -- the word comes to its place, and the machine stands at a line
  pub kept :
      (a : Activation) (at : ℕ) (known : List StaticRecord) (line' w : ℕ) (target : Place) (rs' : Registers) (callers : List Caller) (z : MidState) (cost : ℕ) (m : Moment) (code : List Instr)
      → (st : StandsOn program a z.arena.blocks × CallersStandOn program first callers a.outer) → (r : Point program l Fact first a at known callers z m)
      → IsPlace (reachable (way_of known) (frame_of program a.procedure).words) target → IsSomewhere target → w < 2 ^ 32
      → Gave r.words m.state.registers code (given_in target) w
      → Stands l r.words at (code ++ keep_code (way_of known) target)
      → l.line_at a.procedure line' ≡ at + length (code ++ keep_code (way_of known) target)
      → Arrives program l Fact first a z m.state.registers r.words line' rs' target w
      → (l.linked a.procedure line' ≡ true → slice_index m.state.registers 1 ≡ r.link) → l.records a.procedure line' ≡ known
      → Given program l Fact first a line' rs' callers (charged cost z) m (length (code ++ keep_code (way_of known) target))
  kept a at known line' w (InRegister rd) rs' callers z cost m code st r ok some small c stands behind arrive linked records =
      let s = sets_target a z r.words m.state.registers code rd w (InRegister rd) (omega (arith, ok.0)) (λ q ok' d. d) r.machine.registers_small c in
      let same = append-nil code in
      subst (λ k. Given program l Fact first a line' rs' callers (charged cost z) m (length k)) (sym same)
      (given_in_register program l Fact first good a at known line' w rd rs' callers z cost m code st r
      (subst (λ k. Stands l r.words at k) same stands) (behind ∙ ap (λ k. at + length k) same) arrive linked records s.0 s.1)
  kept a at known line' w (InSlot k) rs' callers z cost m code st r ok some small c stands behind arrive linked records =
      let s = sets_target a z r.words m.state.registers code 5 w (InSlot k) (omega arith) (λ q ok' d e. omega (arith, e, ok'.0)) r.machine.registers_small c in
      given_in_slot program l Fact first good a at known line' w k 5 rs' callers z cost m code st r ok.0 ok.1 (frame_is program l Fact first good a at known callers z m st.0 r)
      stands behind arrive linked records s.0 s.1 (λ e. omega (arith, e)) small
  kept a at known line' w (AsConstant c) rs' callers z cost m code st r ok some small g stands behind arrive linked records = absurd some
