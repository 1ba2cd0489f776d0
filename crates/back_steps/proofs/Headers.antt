-- A new record or lent block with its header written: the machine stands at a point of the activation with one more that stands.
use Rattle.std.proofs.Common.{inl, inr, ◌≡◌, ◌≢◌, ℕ, ◌+◌, ◌-◌, ◌*◌, ◌/◌, ◌^◌, ◌<◌, ◌≤◌, Bool, true, false, List, [], ◌∷◌, length, refl, sym, ap, subst, ◌∙◌, arith}
use Rattle.std.specs.Prelude.{slice_index, slice_set}
use Rattle.std.proofs.lemmas.List.{get_or-set_other, length-set}
use Rattle.rv_machine.specs.Run.{Moment}
use Rattle.mid_code.specs.Arena.{Arena, Block, words_of, stack_from, begin_of, left, with_new_block, emptied}
use Rattle.mid_code.specs.State.{Registers, MidState, with_arena}
use Rattle.mid_lines.specs.declared.line.LineProgram.{LineProgram}
use Rattle.mid_lines.specs.LineMeaning.{Standing, Activation, Caller, with_standing}
use Rattle.mid_lines.specs.StackLaw.{record_kind, record_block, blocks_of, BlocksAreCounted, StandsOn, CallersStandOn}
use Rattle.back_places.specs.declared.place.Place.{Place}
use Rattle.back_places.specs.declared.place.Place.TheVariants.{InRegister, InSlot, AsConstant}
use Rattle.back_places.specs.Places.{StaticRecord, Located}
use Rattle.back_places.specs.Facts.{IsPlace}
use Rattle.back_places.specs.Good.{IsGood}
use Rattle.back_places.specs.Relation.{IsAt, base_of, own_words, IsPrivate, HeadHolds, HeadsHold, CallersWait, Machine, Point, static_of}
use Rattle.back_emission.specs.Arriving.{Arrives}
use Rattle.back_emission.specs.Moments.{state_at, Beside, moment, AreSmall, Ready}
use Rattle.back_emission.proofs.Operands.{set_small}
use Rattle.back_emission.proofs.Private.{private_low, lent_apart, outer_words, SamePrivate, heads_stay, callers_stay, program_kept}
use Rattle.back_emission.proofs.Going.{all_kept}
use Rattle.back_emission.proofs.Records.{blocks_same, heads_same}
use Rattle.back_emission.proofs.NewBlocks.{length_emptied}

counted_same : (program : LineProgram) (a : Activation) (all records : List Standing) → BlocksAreCounted program a records → BlocksAreCounted program (with_standing all a) records
counted_same program a all [] h = tt
counted_same program a all (s ∷ records) h = (h.0 ∙ sym (ap length (blocks_same program a all records)), counted_same program a all records h.1)

-- the activation stands on the blocks with one more
pub stands_on_more :
    (program : LineProgram) (a : Activation) (s : Standing) (blocks : List Block) → StandsOn program a blocks → s.outside ≡ length blocks
    → StandsOn program (with_standing (s ∷ a.standing) a) (record_block s ∷ blocks)
stands_on_more program a s blocks st outside =
    let same = blocks_same program a (s ∷ a.standing) a.standing in
    record {
      all = ap (λ b. record_block s ∷ b) (st.all ∙ sym same);
      counted = (outside ∙ ap length (st.all ∙ sym same), counted_same program a (s ∷ a.standing) a.standing st.counted);
    }

module _ (program : LineProgram) (l : Located) (Fact : (number line register : ℕ) → Place → Type 0) (first : List Block) where
  -- a word that code has for itself is stored
  pub head_stored :
      (z : MidState) (words : List ℕ) (m : Moment) (w place : ℕ) (o : Beside) (i : ℕ) (registers' : List ℕ) → Machine program l Fact first z words m → stack_from z.arena ≤ 4 * place → place < length words
      → IsPrivate (length z.arena.memory) z.arena.blocks place → w < 2 ^ 32 → Ready registers' → AreSmall registers'
      → slice_index registers' 2 ≡ slice_index m.state.registers 2 → slice_index registers' 3 ≡ slice_index m.state.registers 3 → o.printed ≡ m.printed → o.input ≡ m.input
      → Machine program l Fact first z (slice_set words place w) (moment (state_at i registers' (slice_set words place w)) o)
  head_stored z words m w place o i registers' r at inside own fits ready bounded stack heap printed input = record {
    memory = refl;
    arena = record {
      long = length-set words place w ∙ r.arena.long;
      words_small = λ j. set_small words place w j r.arena.words_small fits;
      lent = λ j x lent e. get_or-set_other words place j w 0 (λ q. lent_apart z.arena j r.form lent (subst (λ k. IsPrivate (length z.arena.memory) z.arena.blocks k) (sym q) own)) ∙ r.arena.lent j x lent e;
    };
    code = program_kept program l words (slice_set words place w) (length-set words place w)
        (λ j low high. get_or-set_other words place j w 0 (λ q. omega (arith, high, q, at, r.apart.heap_above, r.form.grown, r.form.below))) r.code;
    apart = r.apart;
    form = r.form;
    long = ready.long;
    zero_is = ready.zero_is;
    registers_small = bounded;
    stack = stack ∙ r.stack;
    heap = heap ∙ r.heap;
    printed = printed ∙ r.printed;
    input = input ∙ r.input;
    input_small = r.input_small;
  }

-- where a word of the header of a new block is: below all that is private outside it
pub record InHeader (size : ℕ) (s : Standing) (blocks : List Block) (place : ℕ) : Type 0 where
  pub fits : s.words + 2 + words_of blocks ≤ size
  pub low : size - (s.words + 2 + words_of blocks) ≤ place
  pub high : place < size - (s.words + 2 + words_of blocks) + 2

module _ (program : LineProgram) (l : Located) (Fact : (number line register : ℕ) → Place → Type 0) (first : List Block) where
  -- where the header of the record is
  pub in_header :
      (z : MidState) (s : Standing) (words : List ℕ) (m : Moment) → Machine program l Fact first z words m → s.words + 2 ≤ left z.arena
      → InHeader (length z.arena.memory) s z.arena.blocks (length z.arena.memory - (s.words + 2 + words_of z.arena.blocks))
  in_header z s words m h room =
      let below = h.form.below in
      let fits = h.form.fits in
      let inside : s.words + 2 + words_of z.arena.blocks ≤ length z.arena.memory = omega (arith, room, below, fits) in
      record { fits = inside; low = omega arith; high = omega arith }

own_two : (t : Bool) (w : ℕ) → own_words (record { words = w + 2; kind = record_kind t }) (record_kind t) ≡ 2
own_two true w = omega arith
own_two false w = omega arith

-- a word of the header of a new block is private
pub header_private :
    (a : Arena) (s : Standing) (place : ℕ) → InHeader (length a.memory) s a.blocks place
    → IsPrivate (length (with_new_block (record_block s) a).memory) (record_block s ∷ a.blocks) place
header_private a s place h =
    let same = length_emptied (begin_of (length a.memory) (record_block s ∷ a.blocks) / 4) (s.words + 2) a.memory in
    let own = own_two s.is_open s.words in
    inl (omega (arith, same, h.low), omega (arith, same, own, h.high))

module _ (program : LineProgram) (l : Located) (Fact : (number line register : ℕ) → Place → Type 0) (first : List Block)
    (good : IsGood program l Fact) where
  -- what is private outside a new block is as before
  pub outside_same :
      (size : ℕ) (s : Standing) (blocks : List Block) (words words' : List ℕ) (place : ℕ) → InHeader size s blocks place
      → ((j : ℕ) → j ≢ place → slice_index words' j ≡ slice_index words j) → SamePrivate size blocks words words'
  outside_same size s blocks words words' place h same j p =
      let low = private_low size blocks j p in
      same j (λ e. omega (arith, low, e, h.high, h.fits))

  -- the frame is outside the new block
  pub frame_outside :
      (a : Activation) (size : ℕ) (s : Standing) (blocks : List Block) (place k : ℕ) → StandsOn program a blocks → InHeader size s blocks place → base_of program size a + k ≢ place
  frame_outside a size s blocks place k st h e =
      let all = outer_words program a a.standing in
      let same : words_of blocks ≡ words_of (blocks_of program a a.standing) = ap words_of st.all in
      omega (arith, all, same, e, h.high, h.fits)

  -- the point of the activation with one record more
  abbrev pub point_laid :
      (a : Activation) (at at' : ℕ) (known known' : List StaticRecord) (s : Standing) (callers : List Caller) (z : MidState) (m m' : Moment) (words' : List ℕ) (place : ℕ)
      → StandsOn program a z.arena.blocks × CallersStandOn program first callers a.outer
      → (r : Point program l Fact first a at known callers z m) → known' ≡ static_of s.words s.landing ∷ known
      → InHeader (length z.arena.memory) s z.arena.blocks place
      → ((j : ℕ) → j ≢ place → slice_index words' j ≡ slice_index r.words j)
      → HeadHolds program l Fact first words' (length z.arena.memory - words_of (record_block s ∷ z.arena.blocks)) (length z.arena.memory - words_of z.arena.blocks) a.procedure s.landing
      → Machine program l Fact first (with_arena (with_new_block (record_block s) z.arena) z) words' m' → m'.state.pc ≡ 4 * at'
      → Point program l Fact first (with_standing (s ∷ a.standing) a) at' known' callers (with_arena (with_new_block (record_block s) z.arena) z) m'
  point_laid a at at' known known' s callers z m m' words' place st r known_is header same head machine pc =
      let size = length z.arena.memory in
      let private_same = outside_same size s z.arena.blocks r.words words' place header same in
      let kept = all_kept program l Fact first good a z.arena r.words words' st.0 private_same in
      let same_size : length (emptied (begin_of size (record_block s ∷ z.arena.blocks) / 4) (s.words + 2) z.arena.memory) ≡ size = length_emptied (begin_of size (record_block s ∷ z.arena.blocks) / 4) (s.words + 2) z.arena.memory in
      let all = outer_words program a a.standing in
      let same_words : words_of z.arena.blocks ≡ words_of (blocks_of program a a.standing) = ap words_of st.0.all in
      let blocks_are : z.arena.blocks ≡ blocks_of program (with_standing (s ∷ a.standing) a) a.standing = st.0.all ∙ sym (blocks_same program a (s ∷ a.standing) a.standing) in
      record {
        words = words';
        link = r.link;
        machine = machine;
        pc = pc;
        saved = λ e. subst (λ k. slice_index words' (base_of program k a) ≡ r.link) (sym same_size) (kept.link e ∙ r.saved e);
        records_are = known_is ∙ ap (λ k. static_of s.words s.landing ∷ k) r.records_are;
        heads = subst (λ k. HeadsHold program l Fact first words' k (with_standing (s ∷ a.standing) a) (s ∷ a.standing)) (sym same_size) (
          subst (λ b. HeadHolds program l Fact first words' (size - words_of (record_block s ∷ b)) (size - words_of b) a.procedure s.landing) blocks_are head,
          heads_same program l Fact first good words' size a (s ∷ a.standing) a.standing
              (heads_stay program l Fact first size r.words words' good a z.arena.blocks st.0 r.machine.form.fits (λ i p low. kept.heads i p low) r.heads),
        );
        waiting = subst (λ k. CallersWait program l Fact first words' k callers r.link) (sym same_size)
            (callers_stay program l Fact first size r.words words' good callers a.outer r.link (omega (arith, all, same_words, r.machine.form.fits)) st.1 kept.outer r.waiting);
      }

  -- what is at a place of values is there still
  past_laying :
      (registers registers' words words' : List ℕ) (base frame : ℕ) (p : Place) (w : ℕ) → ((q : ℕ) → 7 < q → q ≢ 10 → slice_index registers' q ≡ slice_index registers q)
      → ((k : ℕ) → slice_index words' (base + k) ≡ slice_index words (base + k)) → IsPlace frame p → IsAt registers words base p w → IsAt registers' words' base p w
  past_laying registers registers' words words' base frame (InRegister q) w others kept ok h = others q ok.0 ok.2 ∙ h
  past_laying registers registers' words words' base frame (InSlot k) w others kept ok h = kept k ∙ h
  past_laying registers registers' words words' base frame (AsConstant c) w others kept ok h = h

  -- what arrives in the activation with one record more
  pub arrives_laid :
      (a : Activation) (s : Standing) (z : MidState) (registers registers' words words' : List ℕ) (place line' w : ℕ) (rs' : Registers) (target : Place)
      → StandsOn program a z.arena.blocks → InHeader (length z.arena.memory) s z.arena.blocks place
      → ((q : ℕ) → 7 < q → q ≢ 10 → slice_index registers' q ≡ slice_index registers q) → ((j : ℕ) → j ≢ place → slice_index words' j ≡ slice_index words j)
      → Arrives program l Fact first a z registers words line' rs' target w
      → Arrives program l Fact first (with_standing (s ∷ a.standing) a) (with_arena (with_new_block (record_block s) z.arena) z) registers' words' line' rs' target w
  arrives_laid a s z registers registers' words words' place line' w rs' target st header others same reach v p x f e =
      let size = length z.arena.memory in
      let same_size : length (emptied (begin_of size (record_block s ∷ z.arena.blocks) / 4) (s.words + 2) z.arena.memory) ≡ size = length_emptied (begin_of size (record_block s ∷ z.arena.blocks) / 4) (s.words + 2) z.arena.memory in
      elim (reach v p x f e) [
        | inl given ↦ inl given
        | inr other ↦ inr (
          subst (λ n. IsAt registers' words' (base_of program n a) p x) (sym same_size)
              (past_laying registers registers' words words' (base_of program size a) _ p x others (λ k. same _ (frame_outside a size s z.arena.blocks place k st header)) (good.placed a.procedure line' v p f) other.0),
          other.1,
        )
      ]
