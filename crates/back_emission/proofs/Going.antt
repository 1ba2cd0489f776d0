-- From a line to the next: what has changed in the words, and what that keeps.
use Rattle.std.proofs.Common.{◌≡◌, ℕ, ◌+◌, ◌*◌, ◌^◌, ◌<◌, ◌≤◌, true, List, ◌∷◌, length, refl, sym, ap, subst, ◌∙◌, arith}
use Rattle.std.specs.Prelude.{slice_index, slice_set}
use Rattle.std.proofs.lemmas.List.{get_or-set_other, length-set}
use Rattle.rv_machine.specs.Run.{Moment}
use Rattle.mid_code.specs.Arena.{Arena, Block, words_of, is_lent}
use Rattle.mid_code.specs.State.{Registers, MidState, charged}
use Rattle.mid_lines.specs.declared.line.LineProgram.{LineProgram}
use Rattle.mid_lines.specs.LineMeaning.{Activation, Caller}
use Rattle.mid_lines.specs.StackLaw.{frame_of, blocks_of, StandsOn, CallersStandOn}
use Rattle.back_places.specs.declared.place.Place.{Place}
use Rattle.back_places.specs.Places.{StaticRecord, Located}
use Rattle.back_places.specs.Relation.{base_of, IsPrivate, InForm, IsApart, HasArena, AreThere, HeadsHold, CallersWait, Machine, Point, Runs}
use Rattle.back_places.specs.Good.{IsGood}
use Rattle.back_emission.specs.Moments.{state_at, Beside, moment, AreSmall, Ready}
use Rattle.back_emission.proofs.Operands.{set_small}
use Rattle.back_emission.proofs.Private.{private_low, lent_apart, on_blocks, outer_words, outer_private, SamePrivate, heads_stay, callers_stay, program_kept}

module _ (program : LineProgram) (l : Located) (Fact : (number line register : ℕ) → Place → Type 0) (first : List Block)
    (good : IsGood program l Fact) where
  -- what the code of an activation leaves in the words that are private: those of its callers, the headers of its records, and its link
  pub record OwnKept (a : Activation) (arena : Arena) (words words' : List ℕ) : Type 0 where
    pub outer : SamePrivate (length arena.memory) a.outer words words'
    pub heads : (i : ℕ) → IsPrivate (length arena.memory) arena.blocks i → i < base_of program (length arena.memory) a → slice_index words' i ≡ slice_index words i
    pub link : l.saves a.procedure ≡ true → slice_index words' (base_of program (length arena.memory) a) ≡ slice_index words (base_of program (length arena.memory) a)

  -- and what it may change in all words: slots of its frame
  pub record OwnChange (a : Activation) (arena : Arena) (words words' : List ℕ) : Type 0 where
    pub long : length words' ≡ length words
    pub small : AreSmall words'
    pub lent : (i : ℕ) → is_lent arena (4 * i) ≡ true → slice_index words' i ≡ slice_index words i
    pub code : (i : ℕ) → l.code_from ≤ i → i < l.code_to → slice_index words' i ≡ slice_index words i
    pub kept : OwnKept a arena words words'

  pub no_change : (a : Activation) (arena : Arena) (words : List ℕ) → AreSmall words → OwnChange a arena words words
  no_change a arena words small = record {
    long = refl;
    small = small;
    lent = λ i h. refl;
    code = λ i h k. refl;
    kept = record { outer = λ i h. refl; heads = λ i p h. refl; link = λ h. refl };
  }

  -- where all private words are as before, those of the activation are
  pub all_kept :
      (a : Activation) (arena : Arena) (words words' : List ℕ) → StandsOn program a arena.blocks
      → SamePrivate (length arena.memory) arena.blocks words words' → OwnKept a arena words words'
  all_kept a arena words words' st same = record {
    outer = λ i h. same i (subst (λ b. IsPrivate (length arena.memory) b i) (sym st.all) (outer_private program (length arena.memory) a a.standing i h));
    heads = λ i p h. same i p;
    link = λ saves.
        let zero_is : base_of program (length arena.memory) a + 0 ≡ base_of program (length arena.memory) a = omega arith in
        same (base_of program (length arena.memory) a)
        (subst (λ i. IsPrivate (length arena.memory) arena.blocks i) zero_is (on_blocks program (length arena.memory) a arena.blocks 0 st (good.frames a.procedure saves)));
  }

  pub slot_change :
      (a : Activation) (arena : Arena) (words : List ℕ) (k w : ℕ) → HasArena words arena → InForm arena → IsApart l arena → StandsOn program a arena.blocks
      → 0 < k → k < (frame_of program a.procedure).words → w < 2 ^ 32
      → OwnChange a arena words (slice_set words (base_of program (length arena.memory) a + k) w)
  slot_change a arena words k w has form apart st some within small =
      let size = length arena.memory in
      let base = base_of program size a in
      let all = outer_words program a a.standing in
      let same_words : words_of arena.blocks ≡ words_of (blocks_of program a a.standing) = ap words_of st.all in
      let fits : words_of (frame_of program a.procedure ∷ a.outer) ≤ size = omega (arith, all, same_words, form.fits) in
      record {
        long = length-set words (base + k) w;
        small = λ i. smalls i;
        lent = λ i h. get_or-set_other words (base + k) i w 0 (λ e. lent_apart arena i form h (subst (λ j. IsPrivate size arena.blocks j) (sym e) (on_blocks program size a arena.blocks k st within)));
        code = λ i from to. get_or-set_other words (base + k) i w 0 (λ e. omega (arith, to, e, apart.heap_above, form.grown, form.below, all, same_words, form.fits));
        kept = record {
          outer = λ i h. let low = private_low size a.outer i h in get_or-set_other words (base + k) i w 0 (λ e. omega (arith, low, e, fits, within));
          heads = λ i p h. get_or-set_other words (base + k) i w 0 (λ e. omega (arith, h, e));
          link = λ h. get_or-set_other words (base + k) base w 0 (λ e. omega (arith, some, e));
        };
      }
    where
      smalls : (i : ℕ) → slice_index (slice_set words (base_of program (length arena.memory) a + k) w) i < 2 ^ 32
      smalls i = set_small words (base_of program (length arena.memory) a + k) w i has.words_small small

  -- what is known of the registers behind the code of a line
  pub record After (arena : Arena) (registers registers' : List ℕ) : Type 0 where
    pub ready : Ready registers'
    pub small : (r : ℕ) → slice_index registers' r < 2 ^ 32
    pub stack : slice_index registers' 2 ≡ slice_index registers 2
    pub heap : slice_index registers' 3 ≡ slice_index registers 3

  abbrev pub point_of : (a : Activation) (line : ℕ) (rs : Registers) (callers : List Caller) (z : MidState) (m : Moment) → Runs program l Fact first a line rs callers z m
      → Point program l Fact first a (l.line_at a.procedure line) (l.records a.procedure line) callers z m
  point_of a line rs callers z m r = record {
    words = r.words;
    link = r.link;
    machine = r.machine;
    pc = r.pc;
    saved = r.links.saved;
    records_are = r.records_are;
    heads = r.heads;
    waiting = r.waiting;
  }

  -- The machine stands at a line of the same activation, in an arena with the same blocks: what is left to show is where values are.
  pub stands_at :
      (a : Activation) (at : ℕ) (known : List StaticRecord) (line' : ℕ) (rs' : Registers) (callers : List Caller) (z z' : MidState) (m m' : Moment) (words' : List ℕ)
      → StandsOn program a z.arena.blocks × CallersStandOn program first callers a.outer
      → (r : Point program l Fact first a at known callers z m)
      → OwnKept a z.arena r.words words' → length z'.arena.memory ≡ length z.arena.memory
      → Machine program l Fact first z' words' m' → m'.state.pc ≡ 4 * l.line_at a.procedure line'
      → AreThere program l Fact first m'.state.registers words' (base_of program (length z.arena.memory) a) a.procedure line' rs'
      → (l.linked a.procedure line' ≡ true → slice_index m'.state.registers 1 ≡ r.link)
      → l.records a.procedure line' ≡ known
      → Runs program l Fact first a line' rs' callers z' m'
  stands_at a at known line' rs' callers z z' m m' words' st r c same machine pc there linked records = record {
    words = words';
    link = r.link;
    machine = machine;
    pc = pc;
    there = subst (λ k. AreThere program l Fact first m'.state.registers words' (base_of program k a) a.procedure line' rs') (sym same) there;
    links = record {
      linked = linked;
      saved = λ e. subst (λ k. slice_index words' (base_of program k a) ≡ r.link) (sym same) (c.link e ∙ r.saved e);
    };
    records_are = records ∙ r.records_are;
    heads = subst (λ k. HeadsHold program l Fact first words' k a a.standing) (sym same)
        (heads_stay program l Fact first (length z.arena.memory) r.words words' good a z.arena.blocks st.0 r.machine.form.fits (λ i p low. c.heads i p low) r.heads);
    waiting =
        let all = outer_words program a a.standing in
        let same_words : words_of z.arena.blocks ≡ words_of (blocks_of program a a.standing) = ap words_of st.0.all in
        subst (λ k. CallersWait program l Fact first words' k callers r.link) (sym same)
        (callers_stay program l Fact first (length z.arena.memory) r.words words' good callers a.outer r.link (omega (arith, all, same_words, r.machine.form.fits)) st.1 c.outer r.waiting);
  }

  -- the machine of the same arena, with slots changed
  pub machine_on :
      (a : Activation) (z : MidState) (cost : ℕ) (words words' : List ℕ) (m : Moment) (registers' : List ℕ) (i : ℕ) (o : Beside)
      → Machine program l Fact first z words m → OwnChange a z.arena words words' → After z.arena m.state.registers registers'
      → o.printed ≡ m.printed → o.input ≡ m.input
      → Machine program l Fact first (charged cost z) words' (moment (state_at i registers' words') o)
  machine_on a z cost words words' m registers' i o r c af printed input = record {
    memory = refl;
    arena = record {
      long = c.long ∙ r.arena.long;
      words_small = c.small;
      lent = λ i w h e. c.lent i h ∙ r.arena.lent i w h e;
    };
    code = program_kept program l words words' c.long c.code r.code;
    apart = r.apart;
    form = r.form;
    long = af.ready.long;
    zero_is = af.ready.zero_is;
    registers_small = af.small;
    stack = af.stack ∙ r.stack;
    heap = af.heap ∙ r.heap;
    printed = printed ∙ r.printed;
    input = input ∙ r.input;
    input_small = r.input_small;
  }

  -- the same activation, in the same arena
  pub goes_on :
      (a : Activation) (at : ℕ) (known : List StaticRecord) (line' : ℕ) (rs' : Registers) (callers : List Caller) (z : MidState) (cost : ℕ) (m : Moment)
      (registers' words' : List ℕ) (o : Beside)
      → StandsOn program a z.arena.blocks × CallersStandOn program first callers a.outer
      → (r : Point program l Fact first a at known callers z m)
      → OwnChange a z.arena r.words words' → After z.arena m.state.registers registers'
      → o.printed ≡ m.printed → o.input ≡ m.input
      → AreThere program l Fact first registers' words' (base_of program (length z.arena.memory) a) a.procedure line' rs'
      → (l.linked a.procedure line' ≡ true → slice_index registers' 1 ≡ r.link)
      → l.records a.procedure line' ≡ known
      → Runs program l Fact first a line' rs' callers (charged cost z) (moment (state_at (l.line_at a.procedure line') registers' words') o)
  goes_on a at known line' rs' callers z cost m registers' words' o st r c af printed input there linked records =
      stands_at a at known line' rs' callers z (charged cost z) m (moment (state_at (l.line_at a.procedure line') registers' words') o) words' st r c.kept refl
      (machine_on a z cost r.words words' m registers' (l.line_at a.procedure line') o r.machine c af printed input)
      refl there linked records
