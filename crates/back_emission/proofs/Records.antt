-- The steps of lines that give records and lent blocks back.
use Rattle.std.proofs.Common.{◌≡◌, ◌≢◌, ℕ, ◌+◌, ◌-◌, ◌*◌, ◌<◌, ◌≤◌, Bool, true, false, List, [], ◌∷◌, length, refl, sym, ap, subst, ◌∙◌, arith, Some, None, eqb-true, eq-eqb}
use Rattle.std.specs.Prelude.{Option, not, slice_index, ◌==◌, if◌then◌else◌}
use Rattle.base.specs.Arithmetic.{sum32}
use Rattle.rv_encode.specs.declared.instruction.Instr.{Instr}
use Rattle.rv_encode.specs.declared.instruction.Instr.TheVariants.{Lw}
use Rattle.rv_machine.specs.Memory.{bytes_of, number_at}
use Rattle.rv_machine.specs.Words.{word_read}
use Rattle.rv_machine.specs.Arithmetic.{sign_extended}
use Rattle.rv_machine.specs.Step.{load}
use Rattle.rv_machine.specs.Run.{Moment}
use Rattle.mid_code.specs.Arena.{Block, is_record, words_of, with_blocks, blocks_outside, header_words}
use Rattle.mid_code.specs.State.{Registers, MidState, charged, with_arena, with_some, ends, falls, stuck}
use Rattle.mid_code.specs.Meaning.{give_back}
use Rattle.mid_lines.proofs.Conjunctions.{back_true, both_true}
use Rattle.mid_lines.specs.declared.line.Line.{Line}
use Rattle.mid_lines.specs.declared.line.Line.TheVariants.{GiveBack, GiveBackLent}
use Rattle.mid_lines.specs.declared.line.LineProgram.{LineProgram}
use Rattle.mid_lines.specs.Lines.{line_of}
use Rattle.mid_lines.specs.LineMeaning.{Standing, Activation, Caller, running, ended, with_standing, arrive, give_back_at, is_record_of, is_only_lent, has_landing, next, state_of}
use Rattle.mid_lines.specs.StackLaw.{record_kind, record_block, blocks_of, BlocksAreCounted, StandsOn, StageStands}
use Rattle.back_places.specs.declared.place.Place.{Place}
use Rattle.back_places.specs.declared.place.Place.TheVariants.{InRegister, InSlot, AsConstant}
use Rattle.back_places.specs.Places.{StaticRecord, Located}
use Rattle.back_places.specs.Blocks.{raise_code}
use Rattle.back_places.specs.Facts.{IsPlace, GoodGiveBack}
use Rattle.back_places.specs.Good.{IsGood}
use Rattle.back_places.specs.Relation.{Stands, IsAt, HeadHolds, HeadsHold, Machine, Runs, statics, static_of, Relates}
use Rattle.back_places.specs.StepLaw.{Comes, Follows, weight}
use Rattle.back_emission.specs.Moments.{state_at, later, moment, beside, Ready, Prepared}
use Rattle.back_emission.proofs.Coming.{same_moment}
use Rattle.back_emission.proofs.Parts.{small_extended}
use Rattle.back_emission.proofs.Operands.{prepared_one}
use Rattle.back_emission.proofs.Lengths.{raise_length}
use Rattle.back_emission.proofs.Leaving.{raise_prepared, machine_left}
use Rattle.back_emission.proofs.Steps.{nothing, at_line, weighs, next_line}

-- the blocks of an activation are the same with other records that stand
pub blocks_same : (program : LineProgram) (a : Activation) (all records : List Standing) → blocks_of program (with_standing all a) records ≡ blocks_of program a records
blocks_same program a all [] = refl
blocks_same program a all (s ∷ records) = ap (λ l. record_block s ∷ l) (blocks_same program a all records)

counted_same : (program : LineProgram) (a : Activation) (all records : List Standing) → BlocksAreCounted program a records → BlocksAreCounted program (with_standing all a) records
counted_same program a all [] h = tt
counted_same program a all (s ∷ records) h = (h.0 ∙ sym (ap length (blocks_same program a all records)), counted_same program a all records h.1)

-- the first of two records, and the others
first_of : (x y : StaticRecord) (xs ys : List StaticRecord) → x ∷ xs ≡ y ∷ ys → xs ≡ ys
first_of x y xs ys e = cc e

kind_is_record : (t : Bool) → is_record (record_kind t) ≡ true
kind_is_record true = refl
kind_is_record false = refl

module _ (program : LineProgram) (l : Located) (Fact : (number line register : ℕ) → Place → Type 0) (first : List Block)
    (good : IsGood program l Fact) where
  pub heads_same :
      (words : List ℕ) (size : ℕ) (a : Activation) (all records : List Standing) → HeadsHold program l Fact first words size a records
      → HeadsHold program l Fact first words size (with_standing all a) records
  heads_same words size a all [] h = tt
  heads_same words size a all (s ∷ records) h = (
    subst (λ b. HeadHolds program l Fact first words (size - words_of (record_block s ∷ b)) (size - words_of b) a.procedure s.landing) (sym (blocks_same program a all records)) h.0,
    heads_same words size a all records h.1,
  )

  past_low :
      (registers registers' words : List ℕ) (base frame : ℕ) (p : Place) (w : ℕ) → ((q : ℕ) → q ≢ 2 → q ≢ 7 → slice_index registers' q ≡ slice_index registers q)
      → IsPlace frame p → IsAt registers words base p w → IsAt registers' words base p w
  past_low registers registers' words base frame (InRegister q) w others ok h = others q (λ e. omega (arith, ok.0, e)) (λ e. omega (arith, ok.0, e)) ∙ h
  past_low registers registers' words base frame (InSlot k) w others ok h = h
  past_low registers registers' words base frame (AsConstant c) w others ok h = h

  -- the machine gives the innermost record back: its stack pointer goes to where the blocks outside begin
  given_back :
      (a : Activation) (line : ℕ) (x : Line) (s : Standing) (records : List Standing) (rs : Registers) (callers : List Caller) (z : MidState) (m : Moment) (code : List Instr)
      → a.standing ≡ s ∷ records → StageStands program first (running a line rs callers z) → (r : Runs program l Fact first a line rs callers z m)
      → GoodGiveBack l Fact a.procedure line → Stands l r.words (l.line_at a.procedure line) code
      → l.line_at a.procedure (line + 1) ≡ l.line_at a.procedure line + length code
      → Prepared r.words m.state.registers code 2 (4 * (length z.arena.memory - words_of (blocks_of program a records))) 2
      → (m' : Moment) × Comes (length code) m m'
      × Runs program l Fact first (with_standing records a) (line + 1) rs callers (with_arena (with_blocks (blocks_of program a records) z.arena) (charged 10 z)) m'
  given_back a line x s records rs callers z m code e st r g stands behind p =
      let at = l.line_at a.procedure line in
      let size = length z.arena.memory in
      let o = later (length code) (beside m) in
      let m' = moment (state_at (l.line_at a.procedure (line + 1)) p.registers' r.words) o in
      let comes = p.sets.by at (beside m) stands.has (omega (arith, stands.to, good.low)) in
      let blocks_are : z.arena.blocks ≡ record_block s ∷ blocks_of program a records = st.0.all ∙ ap (λ k. blocks_of program a k) e in
      let heads : HeadsHold program l Fact first r.words size a (s ∷ records) = subst (λ k. HeadsHold program l Fact first r.words size a k) e r.heads in (
        m',
        subst (λ k. Comes (length code) m (moment (state_at k p.registers' r.words) o)) (sym behind)
            (subst (λ y. Comes (length code) y (moment (state_at (at + length code) p.registers' r.words) o)) (sym (same_moment m at r.words r.pc r.machine.memory)) comes),
        record {
          words = r.words;
          link = r.link;
          machine = left m' (machine_left program l Fact first z r.words m m' (record_block s ∷ []) (blocks_of program a records) blocks_are r.machine (sym r.machine.memory) p.ready (p.bounded r.machine.registers_small) p.holds
              (p.others 3 (λ k. omega (arith, k)) (λ k. omega (arith, k))) refl refl);
          pc = refl;
          there = λ v q w f h. past_low m.state.registers p.registers' r.words _ _ q w p.others (good.placed a.procedure line v q (g.facts v q f)) (r.there v q w (g.facts v q f) h);
          links = record { linked = λ h. p.others 1 (λ k. omega (arith, k)) (λ k. omega (arith, k)) ∙ r.links.linked (g.linked h); saved = r.links.saved };
          records_are = first_of g.record_is (static_of s.words s.landing) (l.records a.procedure (line + 1)) (statics records) (sym g.records ∙ r.records_are ∙ ap statics e);
          heads = heads_same r.words size a records records heads.1;
          waiting = r.waiting;
        },
      )
    where
      left : (m' : Moment) → Machine program l Fact first (with_arena (with_blocks (blocks_of program a records) z.arena) z) r.words m'
          → Machine program l Fact first (with_arena (with_blocks (blocks_of program a records) z.arena) (charged 10 z)) r.words m'
      left m' h = record {
        memory = h.memory;
        arena = record { long = h.arena.long; words_small = h.arena.words_small; lent = h.arena.lent };
        code = h.code;
        apart = record { laid_below = h.apart.laid_below; arguments_below = h.apart.arguments_below; heap_above = h.apart.heap_above };
        form = record { small = h.form.small; fits = h.form.fits; heap = h.form.heap; grown = h.form.grown; below = h.form.below; laid = h.form.laid };
        long = h.long;
        zero_is = h.zero_is;
        registers_small = h.registers_small;
        stack = h.stack;
        heap = h.heap;
        printed = h.printed;
        input = h.input;
        input_small = h.input_small;
      }

  -- what the line comes to, where it is not stuck
  gives_back :
      (such : Standing → Bool) (a : Activation) (line : ℕ) (s : Standing) (records : List Standing) (rs : Registers) (callers : List Caller) (z : MidState)
      → a.standing ≡ s ∷ records → StandsOn program a z.arena.blocks → such s ≡ true
      → give_back_at such a.standing a line rs callers z
      ≡ running (with_standing records a) (line + 1) rs callers (with_arena (with_blocks (blocks_of program a records) z.arena) (charged 10 z))
  unfolding with_some
  gives_back such a line s records rs callers z e st ok =
      let bs = blocks_of program a records in
      let counted : BlocksAreCounted program a (s ∷ records) = subst (λ k. BlocksAreCounted program a k) e st.counted in
      let blocks_are : z.arena.blocks ≡ record_block s ∷ bs = st.all ∙ ap (λ k. blocks_of program a k) e in
      let same : (length bs == s.outside) ≡ true = eq-eqb (length bs) s.outside (sym counted.0) in
      let found : blocks_outside s.outside (record_block s ∷ bs) ≡ Some bs =
      ap (λ t. if t then Some bs else None) (both_true (is_record (record_kind s.is_open)) (length bs == s.outside) (kind_is_record s.is_open) same) in
      ap (λ k. give_back_at such k a line rs callers z) e
      ∙ ap (λ t. if t then arrive (with_standing records a) (line + 1) callers (give_back s.outside rs z) else ended stuck z) ok
      ∙ ap (λ o. arrive (with_standing records a) (line + 1) callers (with_some o (λ b rs' y. ends falls rs' (with_arena (with_blocks b y.arena) y)) rs (charged 10 z)))
      (ap (λ k. blocks_outside s.outside k) blocks_are ∙ found)

  -- the words of the blocks of an activation whose innermost record is one
  inner_words :
      (a : Activation) (s : Standing) (records : List Standing) (z : MidState) → a.standing ≡ s ∷ records → StandsOn program a z.arena.blocks
      → words_of z.arena.blocks ≡ s.words + 2 + words_of (blocks_of program a records)
  inner_words a s records z e st = ap words_of (st.all ∙ ap (λ k. blocks_of program a k) e)

  -- the step, once the code gives the stack pointer of before
  steps_back :
      (a : Activation) (line : ℕ) (x : Line) (such : Standing → Bool) (s : Standing) (records : List Standing) (rs : Registers) (callers : List Caller) (z : MidState) (m : Moment) (code : List Instr)
      → line_of program a.procedure line ≡ Some x → a.standing ≡ s ∷ records → such s ≡ true
      → next program (running a line rs callers z) ≡ give_back_at such a.standing a line rs callers z
      → (r : Relates program l Fact first (running a line rs callers z) m) → GoodGiveBack l Fact a.procedure line → Stands l (r.1).words (l.line_at a.procedure line) code
      → l.line_at a.procedure (line + 1) ≡ l.line_at a.procedure line + length code → length code ≤ 10 → weight program (running a line rs callers z) ≡ 0
      → Prepared (r.1).words m.state.registers code 2 (4 * (length z.arena.memory - words_of (blocks_of program a records))) 2
      → Follows program l Fact first (running a line rs callers z) m
  steps_back a line x such s records rs callers z m code e es ok goes r g stands behind few light p =
      let t = given_back a line x s records rs callers z m code es r.0 r.1 g stands behind p in
      let is = goes ∙ gives_back such a line s records rs callers z es r.0.0 ok in
      let counted : BlocksAreCounted program a (s ∷ records) = subst (λ k. BlocksAreCounted program a k) es r.0.0.counted in
      record {
        count = length code;
        moment = t.0;
        comes = t.1;
        relates = subst (λ y. Relates program l Fact first y t.0) (sym is)
            ((record { all = sym (blocks_same program a records records); counted = counted_same program a records records counted.1 }, r.0.1), t.2);
        cheap = subst (λ y. length code + z.cost ≤ (state_of y).cost) (sym is) (omega (arith, few));
        heavy = λ u. omega (arith, light);
      }

  -- where the innermost record is not such a one, lines are stuck
  stuck_back :
      (a : Activation) (line : ℕ) (such : Standing → Bool) (rs : Registers) (callers : List Caller) (z : MidState) (m : Moment) (standing : List Standing) → a.standing ≡ standing
      → next program (running a line rs callers z) ≡ give_back_at such a.standing a line rs callers z
      → give_back_at such standing a line rs callers z ≡ ended stuck z → Follows program l Fact first (running a line rs callers z) m
  stuck_back a line such rs callers z m standing es goes none =
      nothing program l Fact first good (running a line rs callers z) m z (goes ∙ ap (λ k. give_back_at such k a line rs callers z) es ∙ none) (omega arith)

  pub give_back_follows :
      (a : Activation) (line words : ℕ) (rs : Registers) (callers : List Caller) (z : MidState) (m : Moment)
      → line_of program a.procedure line ≡ Some (GiveBack words)
      → Relates program l Fact first (running a line rs callers z) m → Follows program l Fact first (running a line rs callers z) m
  give_back_follows a line words rs callers z m e r = by a.standing refl
    where
      goes : next program (running a line rs callers z) ≡ give_back_at (is_record_of words) a.standing a line rs callers z
      goes = at_line program l Fact first good a line rs callers z (GiveBack words) e

      found : (s : Standing) (records : List Standing) → a.standing ≡ s ∷ records → (t : Bool) → is_record_of words s ≡ t → Follows program l Fact first (running a line rs callers z) m
      found s records es false h =
          stuck_back a line (is_record_of words) rs callers z m (s ∷ records) es goes
          (ap (λ t. if t then arrive (with_standing records a) (line + 1) callers (give_back s.outside rs z) else ended stuck z) h)
      found s records es true h =
          let same : words ≡ s.words = eqb-true words s.words (back_true (has_landing s.landing) (words == s.words) h) in
          let size = length z.arena.memory in
          let all = inner_words a s records z es r.0.0 in
          let f = r.1.machine.form in
          let ready : Ready m.state.registers = record { long = r.1.machine.long; zero_is = r.1.machine.zero_is } in
          let p = raise_prepared r.1.words m.state.registers (words + header_words) (4 * (size - words_of (blocks_of program a records))) r.1.machine.arena.words_small ready
          (omega (arith, r.1.machine.stack, all, same, f.fits)) (omega (arith, f.small)) in
          let n = raise_length (words + header_words) in
          steps_back a line (GiveBack words) (is_record_of words) s records rs callers z m (raise_code (words + header_words)) e es h goes r (good.lines a.procedure line (GiveBack words) e)
          (r.1.machine.code.lines a.procedure line (GiveBack words) e) (next_line program l Fact first good a.procedure line (GiveBack words) e refl) (omega (arith, n))
          (weighs program l Fact first good a line rs callers z (GiveBack words) e) p

      by : (standing : List Standing) → a.standing ≡ standing → Follows program l Fact first (running a line rs callers z) m
      by [] es = stuck_back a line (is_record_of words) rs callers z m [] es goes refl
      by (s ∷ records) es = found s records es (is_record_of words s) refl

  pub give_back_lent_follows :
      (a : Activation) (line : ℕ) (rs : Registers) (callers : List Caller) (z : MidState) (m : Moment)
      → line_of program a.procedure line ≡ Some GiveBackLent
      → Relates program l Fact first (running a line rs callers z) m → Follows program l Fact first (running a line rs callers z) m
  give_back_lent_follows a line rs callers z m e r = by a.standing refl
    where
      goes : next program (running a line rs callers z) ≡ give_back_at is_only_lent a.standing a line rs callers z
      goes = at_line program l Fact first good a line rs callers z GiveBackLent e

      kept_in_header :
          (s : Standing) (records : List Standing) → is_only_lent s ≡ true → (landing : Option ℕ) → s.landing ≡ landing
          → HeadHolds program l Fact first (r.1).words (length z.arena.memory - words_of (blocks_of program a (s ∷ records))) (length z.arena.memory - words_of (blocks_of program a records)) a.procedure landing
          → slice_index (r.1).words (length z.arena.memory - words_of (blocks_of program a (s ∷ records)) + 1) ≡ 4 * (length z.arena.memory - words_of (blocks_of program a records))
      kept_in_header s records h None q head = head
      kept_in_header s records h (Some landing) q head = absurd (cc (sym h ∙ ap (λ o. not (has_landing o)) q))

      found : (s : Standing) (records : List Standing) → a.standing ≡ s ∷ records → (t : Bool) → is_only_lent s ≡ t → Follows program l Fact first (running a line rs callers z) m
      found s records es false h =
          stuck_back a line is_only_lent rs callers z m (s ∷ records) es goes
          (ap (λ t. if t then arrive (with_standing records a) (line + 1) callers (give_back s.outside rs z) else ended stuck z) h)
      found s records es true h =
          let size = length z.arena.memory in
          let all = inner_words a s records z es r.0.0 in
          let f = r.1.machine.form in
          let words = r.1.words in
          let small = r.1.machine.arena.words_small in
          let regs = m.state.registers in
          let at = size - words_of (blocks_of program a (s ∷ records)) in
          let ready : Ready regs = record { long = r.1.machine.long; zero_is = r.1.machine.zero_is } in
          let heads : HeadsHold program l Fact first words size a (s ∷ records) = subst (λ k. HeadsHold program l Fact first words size a k) es r.1.heads in
          let header = kept_in_header s records h s.landing refl heads.0 in
          let inside : at + 1 < length words = omega (arith, r.1.machine.arena.long, all, f.fits) in
          let four : sum32 (slice_index regs 2) (sign_extended 12 4) ≡ 4 * (at + 1) = ap (λ k. sum32 (slice_index regs 2) k) (small_extended 4 (omega arith)) ∙ omega (arith, r.1.machine.stack, all, f.fits, f.small) in
          let p = prepared_one words regs (Lw 2 2 4) 2 (4 * (size - words_of (blocks_of program a records))) small ready (omega arith) (omega arith) (omega (arith, f.small))
          (λ i. ap (λ k. load 2 (number_at 4 k (bytes_of words)) (state_at i regs words)) four
          ∙ ap (λ k. load 2 k (state_at i regs words)) (word_read words (at + 1) inside (small (at + 1)) ∙ ap Some header)) in
          steps_back a line GiveBackLent is_only_lent s records rs callers z m (Lw 2 2 4 ∷ []) e es h goes r (good.lines a.procedure line GiveBackLent e)
          (r.1.machine.code.lines a.procedure line GiveBackLent e) (next_line program l Fact first good a.procedure line GiveBackLent e refl) (omega arith)
          (weighs program l Fact first good a line rs callers z GiveBackLent e) p

      by : (standing : List Standing) → a.standing ≡ standing → Follows program l Fact first (running a line rs callers z) m
      by [] es = stuck_back a line is_only_lent rs callers z m [] es goes refl
      by (s ∷ records) es = found s records es (is_only_lent s) refl
