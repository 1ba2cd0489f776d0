-- The step of an entry: the frame is laid, the return address kept, and parameters come to their places.
use Rattle.std.proofs.Common.{inl, inr, ◌≡◌, ℕ, ◌+◌, ◌-◌, ◌*◌, ◌/◌, ◌%◌, ◌^◌, ◌<◌, ◌≤◌, Bool, true, false, List, [], ◌∷◌, ◌++◌, length, refl, sym, ap, subst, ◌∙◌, arith, Some, None, length-append, eqb-true}
use Rattle.std.specs.Prelude.{Option, slice_index, slice_get, ◌==◌, nat_le}
use Rattle.std.proofs.lemmas.Bool.Decides.{nat_tests}
use Rattle.rv_encode.specs.declared.instruction.Instr.{Instr}
use Rattle.rv_machine.specs.Run.{Moment}
use Rattle.mid_code.specs.Arena.{Arena, Block, activation_frame, words_of, stack_from, begin_of, left, with_new_block}
use Rattle.mid_code.specs.Costs.{entry_cost}
use Rattle.mid_code.specs.State.{MidState, first_registers, charged, with_arena, choose_by, ends, falls, stuck, no_room}
use Rattle.mid_lines.specs.declared.line.LineProcedure.{LineProcedure}
use Rattle.mid_lines.specs.declared.line.LineProgram.{LineProgram}
use Rattle.mid_lines.specs.LinesChecked.{is_checked_line_program}
use Rattle.mid_lines.specs.LineMeaning.{Activation, Caller, Stage, entering, arrive, enter_at, next, state_of}
use Rattle.mid_lines.specs.StackLaw.{frame_in, frame_of, CallersStandOn}
use Rattle.back_places.specs.declared.place.Place.{Place}
use Rattle.back_places.specs.Places.{Located, argument_register}
use Rattle.back_places.specs.Passing.{parameters_code}
use Rattle.back_places.specs.Blocks.{room_code}
use Rattle.back_places.specs.LineCode.{save_code}
use Rattle.back_places.specs.Good.{IsGood}
use Rattle.back_places.specs.Relation.{IsAt, base_of, IsPrivate, argument_in, AreThere, CallersWait, Machine, Enters, EntersIn, Relates}
use Rattle.back_places.specs.StepLaw.{Comes, Follows, Known, LawOfEntries}
use Rattle.back_places.proofs.LinesInForm.{frame_is_small, frame_words}
use Rattle.back_emission.specs.Moments.{state_at, Beside, later, moment, beside}
use Rattle.back_emission.specs.Arriving.{Given}
use Rattle.back_emission.proofs.Coming.{stays, and_on, has_back}
use Rattle.back_emission.proofs.Private.{private_low, lent_apart, callers_stay, program_kept}
use Rattle.back_emission.specs.Laying.{Asking, Lowered}
use Rattle.back_emission.proofs.Ends.{holding}
use Rattle.back_emission.proofs.NewBlocks.{length_emptied, block_laid}
use Rattle.back_emission.proofs.Passing.{is_value_register}
use Rattle.back_emission.proofs.Room.{room_there, room_gone}
use Rattle.back_emission.proofs.Steps.{nothing}
use Rattle.back_steps.proofs.FrameStores.{AtFrame}
use Rattle.back_steps.proofs.Parameters.{in_its_register, passed_still, passed_at, ArePut, put_at, FrameFilled, frame_filled, parameters_length, save_length}
use Rattle.back_steps.proofs.Arguments.{is_argument, below_end}

-- the frame that an entry lays, and its activation
abbrev pub new_frame : LineProcedure → Block
new_frame p = record { words = p.frame; kind = activation_frame }

abbrev pub entered : (number : ℕ) → MidState → Activation
entered number z = record { procedure = number; outer = z.arena.blocks; standing = [] }

abbrev pub with_frame : LineProcedure → MidState → MidState
with_frame p z = with_arena (with_new_block (new_frame p) z.arena) z

-- the first word of the frame
abbrev pub frame_at : LineProcedure → MidState → ℕ
frame_at p z = length z.arena.memory - (p.frame + words_of z.arena.blocks)

-- where there is room for a frame, in numbers
record Fits (size outer heap_to frame : ℕ) : Type 0 where
  down : 4 * (size - outer) - 4 * frame ≡ 4 * (size - (frame + outer))
  up : 4 * (size - (frame + outer)) + 4 * frame ≡ 4 * (size - outer)
  inside : frame + outer ≤ size
  above : heap_to ≤ 4 * (size - (frame + outer))
  room : heap_to + 4 * frame ≤ 4 * (size - outer)

fits : (size outer heap_to frame : ℕ) → heap_to % 4 ≡ 0 → heap_to ≤ 4 * (size - outer) → outer ≤ size → frame ≤ (4 * (size - outer) - heap_to) / 4 → Fits size outer heap_to frame
fits size outer heap_to frame aligned below blocks left_is =
    let room : heap_to + 4 * frame ≤ 4 * (size - outer) = omega (arith, aligned, below, left_is) in
    let inside : frame + outer ≤ size = omega (arith, room, blocks) in
    record {
      down = omega (arith, inside);
      up = omega (arith, inside);
      inside = inside;
      above = omega (arith, room, inside);
      room = room;
    }

module _ (program : LineProgram) (l : Located) (Fact : (number line register : ℕ) → Place → Type 0) (first : List Block) where
  room_for :
      (p : LineProcedure) (z : MidState) (words : List ℕ) (m : Moment) → Machine program l Fact first z words m → p.frame ≤ left z.arena
      → Fits (length z.arena.memory) (words_of z.arena.blocks) z.arena.heap_to p.frame
  room_for p z words m r room = fits (length z.arena.memory) (words_of z.arena.blocks) z.arena.heap_to p.frame r.form.heap.1 r.form.below r.form.fits room

  -- what is known where the frame is asked for
  entry_asking :
      (number : ℕ) (arguments : List ℕ) (callers : List Caller) (z : MidState) (m : Moment) (p : LineProcedure) → p.frame < 2 ^ 24
      → (r : Enters program l Fact first number arguments callers z m) → Asking m (l.entry_at number) r.words (stack_from z.arena) z.arena.heap_to p.frame
  entry_asking number arguments callers z m p small r = record {
    pc = r.pc;
    memory = r.machine.memory;
    small = r.machine.arena.words_small;
    ready = record { long = r.machine.long; zero_is = r.machine.zero_is };
    bounded = r.machine.registers_small;
    stack = r.machine.stack;
    heap = r.machine.heap;
    grown = r.machine.form.below;
    low = omega (arith, r.machine.form.small);
    few = omega (arith, small);
  }

  -- the machine behind the room for a frame
  frame_laid :
      (at size : ℕ) (z : MidState) (words : List ℕ) (m : Moment) (p : LineProcedure) → Machine program l Fact first z words m → p.frame ≤ left z.arena
      → (low : Lowered m at words (stack_from z.arena) p.frame size)
      → Machine program l Fact first (with_frame p z) words (moment (state_at (at + size) low.registers' words) (later low.count (beside m)))
  frame_laid at size z words m p r room low =
      let f = room_for p z words m r room in
      let other3 = low.others 3 (λ k. omega (arith, k)) (λ k. omega (arith, k)) in
      let stack1 : slice_index low.registers' 2 + 4 * p.frame ≡ slice_index m.state.registers 2 = omega (arith, low.stack, f.down, f.up, r.stack) in
      block_laid program l Fact first z words (new_frame p) m (moment (state_at (at + size) low.registers' words) (later low.count (beside m))) r room (sym r.memory) low.ready low.bounded stack1 other3 refl refl

  -- the frame is where the stack pointer is
  at_new_frame :
      (at size : ℕ) (z : MidState) (words : List ℕ) (m : Moment) (p : LineProcedure) → Machine program l Fact first z words m → p.frame ≤ left z.arena
      → (low : Lowered m at words (stack_from z.arena) p.frame size) → AtFrame words low.registers' (frame_at p z) p.frame
  at_new_frame at size z words m p r room low =
      let f = room_for p z words m r room in
      let stack2 : slice_index low.registers' 2 ≡ 4 * frame_at p z = low.stack ∙ f.down in
      record {
        small = r.arena.words_small;
        ready = low.ready;
        bounded = low.bounded;
        frame_is = record {
          leads = omega (arith, stack2);
          inside = omega (arith, f.inside, r.arena.long);
          memory_small = omega (arith, r.form.small, r.arena.long);
        };
      }

-- the step from an entry of a procedure that is there, in at least three instructions fewer than it costs
pub record EntersWell (program : LineProgram) (l : Located) (Fact : (number line register : ℕ) → Place → Type 0) (first : List Block) (s : Stage) (m : Moment) : Type 0 where
  pub count : ℕ
  pub moment : Moment
  pub comes : Comes count m moment
  pub relates : Relates program l Fact first (next program s) moment
  pub cheap : count + 3 + (state_of s).cost ≤ (state_of (next program s)).cost

-- a word of a new frame is private
frame_private : (a : Arena) (p : LineProcedure) (i k : ℕ) → k < p.frame → i ≡ length a.memory - (p.frame + words_of a.blocks) + k
    → IsPrivate (length (with_new_block (new_frame p) a).memory) (new_frame p ∷ a.blocks) i
frame_private a p i k h e =
    let same = length_emptied (begin_of (length a.memory) (new_frame p ∷ a.blocks) / 4) p.frame a.memory in
    inl (omega (arith, same, e), omega (arith, same, e, h))

module _ (program : LineProgram) (l : Located) (Fact : (number line register : ℕ) → Place → Type 0) (first : List Block)
    (good : IsGood program l Fact) where
  -- the machine of an arena with a new frame whose words were stored
  frame_stored :
      (z : MidState) (cost : ℕ) (words ws : List ℕ) (m1 : Moment) (p : LineProcedure) (saves : Bool) (ps : List Place) (code : List Instr) (i : ℕ) (o : Beside)
      → (M : Machine program l Fact first (with_frame p z) words m1) → l.code_to ≤ frame_at p z
      → (f : FrameFilled saves (frame_at p z) p.frame ps ws words m1.state.registers code) → o.printed ≡ m1.printed → o.input ≡ m1.input
      → Machine program l Fact first (charged cost (with_frame p z)) f.words' (moment (state_at i f.registers' f.words') o)
  frame_stored z cost words ws m1 p saves ps code i o M below f printed input = record {
    memory = refl;
    arena = record {
      long = f.long ∙ M.arena.long;
      words_small = f.small;
      lent = λ j w lent e. f.outside j (λ k h q. lent_apart (with_frame p z).arena j M.form lent (frame_private z.arena p j k h q)) ∙ M.arena.lent j w lent e;
    };
    code = program_kept program l words f.words' f.long (λ j low high. f.outside j (λ k h q. omega (arith, high, below, q))) M.code;
    apart = M.apart;
    form = M.form;
    long = f.ready.long;
    zero_is = f.ready.zero_is;
    registers_small = f.bounded;
    stack = f.others 2 (λ e. omega (arith, e)) (λ e. omega (arith, e)) ∙ M.stack;
    heap = f.others 3 (λ e. omega (arith, e)) (λ e. omega (arith, e)) ∙ M.heap;
    printed = printed ∙ M.printed;
    input = input ∙ M.input;
    input_small = M.input_small;
  }

  -- what is known at the first line is so
  first_there :
      (number : ℕ) (p : LineProcedure) (arguments registers words : List ℕ) (base : ℕ) → slice_get program.procedures number ≡ Some p → length arguments ≡ p.parameters
      → ((v w : ℕ) → v < 14 → slice_get arguments v ≡ Some w → slice_index registers (argument_register v) ≡ w)
      → ArePut registers words base (l.parameters number) arguments
      → AreThere program l Fact first registers words base number 0 (first_registers p.registers arguments)
  first_there number p arguments registers words base e same passed put v q w fact is =
      let given = is_argument p.registers arguments v w is in
      let below = below_end arguments v w given in
      elim ((good.entries number p e).facts v q fact) [
        | inl past ↦ absurd (omega (arith, past, below, same))
        | inr more ↦ elim more [
          | inl stays ↦ subst (λ y. IsAt registers words base y w) (sym stays.1) (passed v w stays.0 given)
          | inr there ↦ put_at registers words base v w q (l.parameters number) arguments put there.0 given there.1
        ]
      ]

  -- where there is room, from behind its test on
  pub entry_laid :
      (number : ℕ) (arguments : List ℕ) (callers : List Caller) (z : MidState) (cost : ℕ) (m : Moment) (p : LineProcedure) → slice_get program.procedures number ≡ Some p
      → CallersStandOn program first callers z.arena.blocks → (r : Enters program l Fact first number arguments callers z m) → length arguments ≡ p.parameters
      → p.frame ≤ left z.arena
      → Lowered m (l.entry_at number) r.words (stack_from z.arena) p.frame (length (room_code l.full_at (l.entry_at number) p.frame))
      → (count : ℕ) × (count ≤ 5 + 5 * p.parameters)
      × Given program l Fact first (entered number z) 0 (first_registers p.registers arguments) callers (charged cost (with_frame p z)) m count
  entry_laid number arguments callers z cost m p e st r same room low =
      let g = good.entries number p e in
      let a = entered number z in
      let at = l.entry_at number in
      let size = length z.arena.memory in
      let base = frame_at p z in
      let R = room_code l.full_at at p.frame in
      let ps = l.parameters number in
      let C = parameters_code l.arguments_at 0 ps in
      let S = save_code l (l.saves number) ++ C in
      let long : length (R ++ S) ≡ length R + length S = length-append R S in
      let stands = r.machine.code.entries number p e in
      let at1 = at + length R in
      let fit = room_for program l Fact first p z r.words m r.machine room in
      let o1 = later low.count (beside m) in
      let m1 = moment (state_at at1 low.registers' r.words) o1 in
      let M1 = frame_laid program l Fact first at (length R) z r.words m p r.machine room low in
      let frame_same : (frame_of program number).words ≡ p.frame = frame_words program number p e in
      let code_below : l.code_to ≤ base = omega (arith, r.machine.apart.heap_above, r.machine.form.grown, fit.above) in
      let words_below : l.arguments_at + length ps ≤ base = omega (arith, g.few, g.as_many, r.machine.apart.arguments_below, stands.from, stands.to, code_below) in
      let low_kept : (q : ℕ) → 7 < q → slice_index low.registers' q ≡ slice_index m.state.registers q = λ q high. low.others q (λ k. omega (arith, high, k)) (λ k. omega (arith, high, k)) in
      let passed1 = passed_still l base 0 r.words r.words m.state.registers low.registers' arguments low_kept (λ j h. refl) (omega (arith, words_below, same, g.as_many)) r.passed in
      let f = frame_filled l Fact base p.frame (l.saves number) ps arguments r.words low.registers' (at_new_frame program l Fact first at (length R) z r.words m p r.machine room low)
      (λ k. let some = good.frames number k in omega (arith, some, frame_same)) g.places g.in_frame g.apart passed1 (omega (arith, same, g.as_many)) words_below in
      let comes = f.by at1 o1 (has_back r.words at R S stands.has) (omega (arith, stands.to, code_below, long)) in
      let o2 = later (length S) o1 in
      let m2 = moment (state_at (at1 + length S) f.registers' f.words') o2 in
      let link_same : slice_index low.registers' 1 ≡ slice_index m.state.registers 1 = low.others 1 (λ k. omega (arith, k)) (λ k. omega (arith, k)) in
      let same_size : length (with_frame p z).arena.memory ≡ size = length_emptied (begin_of size (new_frame p ∷ z.arena.blocks) / 4) p.frame z.arena.memory in
      let base_is : base_of program (length (with_frame p z).arena.memory) a ≡ base = ap (λ k. base_of program k a) same_size ∙ ap (λ k. size - (k + words_of z.arena.blocks)) frame_same in
      let in_registers : (v w : ℕ) → v < 14 → slice_get arguments v ≡ Some w → slice_index f.registers' (argument_register v) ≡ w =
      λ v w few given.
      let zero_is : v ≡ 0 + v = omega arith in
      let high = is_value_register v few in
      f.others (argument_register v) (λ k. omega (arith, high.0, k)) (λ k. omega (arith, high.0, k)) ∙ low_kept (argument_register v) high.0
      ∙ in_its_register l v w r.words m.state.registers few (ap (λ k. argument_in l m.state.registers r.words k) zero_is ∙ passed_at l 0 v w r.words m.state.registers arguments r.passed given) in
      let n1 = save_length l (l.saves number) in
      let n2 = parameters_length l.arguments_at 0 ps in
      let n3 : length S ≡ length (save_code l (l.saves number)) + length C = length-append (save_code l (l.saves number)) C in
      let cheap = low.cheap in (
        low.count + length S,
        omega (arith, cheap, n1, n2, n3, g.as_many),
        record {
          moment' = m2;
          comes = and_on low.comes comes;
          runs = record {
            words = f.words';
            link = slice_index m.state.registers 1;
            machine = frame_stored z cost r.words arguments m1 p (l.saves number) ps S (at1 + length S) o2 M1 code_below f refl refl;
            pc = let place = good.begins number p e in omega (arith, place, long);
            there = subst (λ k. AreThere program l Fact first f.registers' f.words' k number 0 (first_registers p.registers arguments)) (sym base_is)
                (first_there number p arguments f.registers' f.words' base e same in_registers f.put);
            links = record {
              linked = λ k. f.others 1 (λ q. omega (arith, q)) (λ q. omega (arith, q)) ∙ link_same;
              saved = λ k. ap (λ b. slice_index f.words' b) base_is ∙ f.link k ∙ link_same;
            };
            records_are = g.no_records;
            heads = tt;
            waiting = subst (λ k. CallersWait program l Fact first f.words' k callers (slice_index m.state.registers 1)) (sym same_size)
                (callers_stay program l Fact first size r.words f.words' good callers z.arena.blocks (slice_index m.state.registers 1) r.machine.form.fits st
                (λ j h. let own = private_low size z.arena.blocks j h in f.outside j (λ k few q. omega (arith, own, few, q, fit.inside))) r.waiting);
          };
        },
      )

module _ (program : LineProgram) (l : Located) (Fact : (number line register : ℕ) → Place → Type 0) (first : List Block)
    (checked : is_checked_line_program program ≡ true) (good : IsGood program l Fact) where
  -- what comes next, where the procedure is there
  enters :
      (number : ℕ) (arguments : List ℕ) (callers : List Caller) (z : MidState) (p : LineProcedure) → slice_get program.procedures number ≡ Some p
      → (t u : Bool) → (length arguments == p.parameters) ≡ t → nat_le p.frame (left z.arena) ≡ u
      → next program (entering number arguments callers z)
      ≡ arrive (entered number z) 0 callers
      (choose_by t (λ rs y. choose_by u (λ rs' x. ends falls rs' (with_arena (with_new_block (new_frame p) x.arena) x)) (λ rs' x. ends (no_room p.frame (left x.arena)) rs' x) rs y) (ends stuck)
      (first_registers p.registers arguments) (charged (entry_cost p.parameters) z))
  unfolding choose_by
  enters number arguments callers z p e true u h k =
      ap (λ o. enter_at o number arguments callers z) e
      ∙ ap (λ x. arrive (entered number z) 0 callers
      (choose_by x (λ rs y. choose_by (nat_le p.frame (left y.arena)) (λ rs' x'. ends falls rs' (with_arena (with_new_block (new_frame p) x'.arena) x')) (λ rs' x'. ends (no_room p.frame (left x'.arena)) rs' x') rs y) (ends stuck)
      (first_registers p.registers arguments) (charged (entry_cost p.parameters) z))) h
      ∙ ap (λ x. arrive (entered number z) 0 callers
      (choose_by x (λ rs' x'. ends falls rs' (with_arena (with_new_block (new_frame p) x'.arena) x')) (λ rs' x'. ends (no_room p.frame (left x'.arena)) rs' x')
      (first_registers p.registers arguments) (charged (entry_cost p.parameters) z))) k
  enters number arguments callers z p e false u h k =
      ap (λ o. enter_at o number arguments callers z) e
      ∙ ap (λ x. arrive (entered number z) 0 callers
      (choose_by x (λ rs y. choose_by (nat_le p.frame (left y.arena)) (λ rs' x'. ends falls rs' (with_arena (with_new_block (new_frame p) x'.arena) x')) (λ rs' x'. ends (no_room p.frame (left x'.arena)) rs' x') rs y) (ends stuck)
      (first_registers p.registers arguments) (charged (entry_cost p.parameters) z))) h

  -- a procedure that is there
  pub enters_well :
      (number : ℕ) (arguments : List ℕ) (callers : List Caller) (z : MidState) (m : Moment) (p : LineProcedure) → slice_get program.procedures number ≡ Some p
      → CallersStandOn program first callers z.arena.blocks → Enters program l Fact first number arguments callers z m
      → EntersWell program l Fact first (entering number arguments callers z) m
  unfolding choose_by
  enters_well number arguments callers z m p e st r =
      by (length arguments == p.parameters) (nat_le p.frame (left z.arena)) refl refl
    where
      by : (t u : Bool) → (length arguments == p.parameters) ≡ t → nat_le p.frame (left z.arena) ≡ u → EntersWell program l Fact first (entering number arguments callers z) m
      by false u h k = record {
        count = 0;
        moment = m;
        comes = stays m;
        relates = subst (λ y. Relates program l Fact first y m) (sym (enters number arguments callers z p e false u h k)) tt;
        cheap = subst (λ y. 0 + 3 + z.cost ≤ (state_of y).cost) (sym (enters number arguments callers z p e false u h k)) (omega arith);
      }
      by true true h k =
          let same : length arguments ≡ p.parameters = eqb-true (length arguments) p.parameters h in
          let room : p.frame ≤ left z.arena = grind (arith, nat_tests, k) in
          let stands = r.machine.code.entries number p e in
          let R = room_code l.full_at (l.entry_at number) p.frame in
          let S = save_code l (l.saves number) ++ parameters_code l.arguments_at 0 (l.parameters number) in
          let long : length (R ++ S) ≡ length R + length S = length-append R S in
          let fit = room_for program l Fact first p z r.words m r.machine room in
          let asks = entry_asking program l Fact first number arguments callers z m p (frame_is_small program number p checked e) r in
          let low = room_there m l.full_at (l.entry_at number) r.words (stack_from z.arena) z.arena.heap_to p.frame S asks fit.room stands.has (omega (arith, stands.to, good.low, long)) in
          let t = entry_laid program l Fact first good number arguments callers z (entry_cost p.parameters) m p e st r same room low in
          record {
            count = t.0;
            moment = t.2.moment';
            comes = t.2.comes;
            relates = subst (λ y. Relates program l Fact first y t.2.moment') (sym (enters number arguments callers z p e true true h k))
                ((record { all = ap (λ o. frame_in o ∷ z.arena.blocks) (sym e); counted = tt }, st), t.2.runs);
            cheap = subst (λ y. t.0 + 3 + z.cost ≤ (state_of y).cost) (sym (enters number arguments callers z p e true true h k)) (let n = t.1 in omega (arith, n));
          }
      by true false h k =
          let none : left z.arena < p.frame = grind (arith, nat_tests, k) in
          let stands = r.machine.code.entries number p e in
          let S = save_code l (l.saves number) ++ parameters_code l.arguments_at 0 (l.parameters number) in
          let below = r.machine.form.below in
          let heap = r.machine.form.heap in
          let asks = entry_asking program l Fact first number arguments callers z m p (frame_is_small program number p checked e) r in
          let gone = room_gone program l Fact first z (entry_cost p.parameters) m (l.entry_at number) r.words (stack_from z.arena) z.arena.heap_to p.frame S (holding program l Fact first z r.words m r.machine)
          asks (omega (arith, none, below, heap.1)) stands r.machine.code.full good.low in
          let c = gone.3 in
          record {
            count = gone.0;
            moment = c.moment';
            comes = c.comes;
            relates = subst (λ y. Relates program l Fact first y c.moment') (sym (enters number arguments callers z p e true false h k))
                (c.calls, ap (λ q. slice_index q 10) c.same ∙ gone.4, ap (λ q. slice_index q 11) c.same ∙ gone.5);
            cheap = subst (λ y. gone.0 + 3 + z.cost ≤ (state_of y).cost) (sym (enters number arguments callers z p e true false h k)) (let n = gone.2 in omega (arith, n));
          }

  -- whether there is a procedure or none
  pub entry_follows :
      (number : ℕ) (arguments : List ℕ) (callers : List Caller) (z : MidState) (m : Moment)
      → Relates program l Fact first (entering number arguments callers z) m → Follows program l Fact first (entering number arguments callers z) m
  entry_follows number arguments callers z m r = by (slice_get program.procedures number) refl r.1
    where
      by : (o : Option LineProcedure) → slice_get program.procedures number ≡ o → EntersIn program l Fact first o number arguments callers z m
          → Follows program l Fact first (entering number arguments callers z) m
      by None e h = nothing program l Fact first good (entering number arguments callers z) m z (ap (λ o. enter_at o number arguments callers z) e) (omega arith)
      by (Some p) e h =
          let well = enters_well number arguments callers z m p e r.0 h in
          let cheap = well.cheap in
          record { count = well.count; moment = well.moment; comes = well.comes; relates = well.relates; cheap = omega (arith, cheap); heavy = λ u. omega arith }

pub law_of_entries : LawOfEntries
law_of_entries program l known first checked good number arguments callers z m r = entry_follows program l (Known known) first checked good number arguments callers z m r
