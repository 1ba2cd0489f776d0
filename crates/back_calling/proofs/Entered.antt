-- A procedure that is entered: its frame is laid, its body runs, and where the body returns the frame is given back.
use Rattle.std.proofs.Common.{◌≡◌, ◌⊎◌, inl, inr, ℕ, zero, suc, ◌+◌, ◌*◌, ◌<◌, ◌≤◌, List, [], ◌∷◌, length, Some, refl, sym, ap, ◌∙◌, subst, arith}
use Rattle.std.specs.Prelude.{slice_get}
use Rattle.std.proofs.lemmas.Bool.{cases_lt, eq-eqb, le-leb, lt-leb}
use Rattle.lang_meaning.specs.Prefixes.{IsPrefix}
use Rattle.lang_meaning.specs.State.{DynamicContext, more, Limit, words, unlimited}
use Rattle.flat_language.specs.FlatNodes.{tables}
use Rattle.flat_language.specs.FlatState.{FlatState, FlatEvaluated}
use Rattle.mid_code.specs.declared.operation.Counted.{Counted}
use Rattle.mid_code.specs.declared.operation.Counted.TheVariants.{Level, Turn}
use Rattle.mid_code.specs.declared.program.MidProcedure.{MidProcedure}
use Rattle.mid_code.specs.Arena.{Block, words_of, stack_from, left, word_at, blocks_from, with_blocks}
use Rattle.mid_code.specs.Costs.{entry_cost}
use Rattle.mid_code.specs.Meaning.{Context, enter, count, left_from, leaves, run_procedure, exec, turns, levels}
use Rattle.mid_code.specs.MidCode.{code_of}
use Rattle.mid_code.specs.State.{first_registers, End, falls, returns, cuts, no_room, no_level, no_turn, halts, unhandled, exhausted, stuck, MidState, MidOutcome, ends, with_arena}
use Rattle.mid_code.specs.State.{charged as mid_charged}
use Rattle.mid_code.proofs.Growth.{length-emptied}
use Rattle.mid_arena.specs.Growing.{Grows}
use Rattle.mid_arena.proofs.Leaving.{leaves_returned}
use Rattle.mid_arena.proofs.Memory.{grows_with_new_block, left_with_new_block, grows_given_back}
use Rattle.mid_arena.proofs.Representing.{represents_grown}
use Rattle.mid_arena.proofs.Running.{frame_of, entered, some_found, first_chosen, second_chosen}
use Rattle.back_lowering.specs.ControlWords.{current_address, link_address, handlers_address, bindings_address, end_address, landing_address}
use Rattle.back_lowering.specs.Program.{lowered}
use Rattle.back_relation.specs.Setting.{Setting, FramesWithin}
use Rattle.back_relation.specs.Room.{words_for_handler}
use Rattle.back_relation.specs.Worlds.{World, BoxPlace, on_heap, on_stack, gone, Standing}
use Rattle.back_relation.specs.Things.{Things, WithinLimit}
use Rattle.back_relation.specs.Around.{RoomFor, AroundStands, CallBegins}
use Rattle.back_relation.specs.Ends.{WorldKept, Around, Ends, RoomEnded, Because, done, left_by, full_there, stopped, few_turns, Returned, LeftCall, CallEnds}
use Rattle.back_relation.specs.Forms.{code_at}
use Rattle.back_relation.specs.Procedures.{called}
use Rattle.back_relation.specs.Starts.{FlatGrown}
use Rattle.back_relation.proofs.Worlds.{later_same, Deeper, record_stays, handlers_stay, bindings_stay, chain_lower}
use Rattle.back_relation.proofs.Moving.{BoxWas}
use Rattle.back_calling.specs.Storing.{IsControl}
use Rattle.back_calling.specs.Entering.{Inside, InsideFrame, LawOfPaidTurns, BodyComes, LawOfTurns, LawOfEnteredLevels}
use Rattle.back_calling.proofs.Framing.{frame_word, frame_back}
use Rattle.back_calling.proofs.Moving.{Moves, things_moved}
use Rattle.back_calling.proofs.Storing.{some_words}

-- ---- how a body is left

pub leaves_cut : (bs : List Block) (q : MidOutcome) {n word : ℕ} → q.end ≡ cuts n word → leaves bs q ≡ ends q.end q.registers q.state
unfolding leaves
leaves_cut bs q e = ap (λ l. left_from l bs q) e

pub leaves_printed : (bs : List Block) (q : MidOutcome) → (leaves bs q).state.printed ≡ q.state.printed
unfolding leaves
leaves_printed bs q = from q.end
  where
    from : (e : End) → (left_from e bs q).state.printed ≡ q.state.printed
    from falls = refl
    from e = refl

pub leaves_costs : (bs : List Block) (q : MidOutcome) → (leaves bs q).state.cost ≡ q.state.cost
unfolding leaves
leaves_costs bs q = from q.end
  where
    from : (e : End) → (left_from e bs q).state.cost ≡ q.state.cost
    from falls = refl
    from e = refl

pub leaves_because : (setting : Setting) (r : FlatEvaluated) (bs : List Block) (q : MidOutcome) → Because setting r q.end → Because setting r (leaves bs q).end
unfolding leaves
leaves_because setting r bs q h = from q.end refl h
  where
    from : (e : End) → q.end ≡ e → Because setting r e → Because setting r (left_from e bs q).end
    from (no_room asked left_then) e h = subst (λ l. Because setting r l) (sym e) h
    from no_level e h = subst (λ l. Because setting r l) (sym e) h
    from exhausted e h = subst (λ l. Because setting r l) (sym e) h
    from falls e h = absurd h
    from (returns word) e h = absurd h
    from (cuts n word) e h = absurd h
    from no_turn e h = absurd h
    from (halts word) e h = absurd h
    from (unhandled class site condition) e h = absurd h
    from stuck e h = absurd h

-- ---- the same words in another arena

landing_control : IsControl landing_address
landing_control = record { low = omega arith; high = omega arith; no_serial = λ same. omega (arith, same) }

-- where all words are the same, the same things stand
pub things_same_words :
    (setting : Setting) {w : World} {z : FlatState} {y y' : MidState} → Things setting w z y → ((x : ℕ) → word_at y'.arena x ≡ word_at y.arena x) → Grows y.arena y'.arena
    → y'.printed ≡ y.printed → y'.input ≡ y.input → Things setting w z y'
things_same_words setting {w} {z} {y} {y'} t same grows printed input =
    things_moved setting landing_control t moves
    (represents_grown setting.names (tables setting.program) w.places z.state y t.represents y' grows.heap printed input)
  where
    were : (i : ℕ) (b : BoxPlace) → slice_get w.boxes i ≡ Some b → BoxWas w y.arena y'.arena i b
    were i (on_heap x) e = e
    were i (on_stack x) e = (e, same x)
    were i gone e = tt

    moves : Moves w w.boxes y y' landing_address
    moves = record { same = λ x h. same x; heap = grows.heap.heap_to; count = refl; were = were; kept = λ i a e. e }

-- ---- a frame

module _ (setting : Setting) (p : MidProcedure) {w : World} {z : FlatState} {y : MidState} (t : Things setting w z y) (some : p.frame ≤ left y.arena) where
  abbrev inner : MidState
  inner = entered p y

  size : length inner.arena.memory ≡ length y.arena.memory
  size = length-emptied _ p.frame y.arena.memory

  pub words_inside : (x : ℕ) → word_at inner.arena x ≡ word_at y.arena x
  words_inside x = frame_word y.arena p.frame t.represents.arena some x

  grows_inside : Grows y.arena inner.arena
  grows_inside = grows_with_new_block (frame_of p) t.represents.arena some

  things_inside : Things setting w z inner
  things_inside = things_same_words setting t words_inside grows_inside refl refl

  from_inside : stack_from inner.arena ≤ stack_from y.arena
  from_inside = omega (arith, size)

  left_inside : left inner.arena + p.frame ≡ left y.arena
  left_inside = left_with_new_block (frame_of p) t.represents.arena some

  deeper_inside : Deeper w w y inner
  deeper_inside = record {
    from = from_inside;
    size = size;
    blocks = λ a bs low found. ap (λ n. blocks_from n y.arena.blocks a) size ∙ found;
    stack = record { words = λ x low high plain. words_inside x; bindings = λ i b e low high. e };
  }

  around_inside : {rs valid : List Standing} {around : DynamicContext} → AroundStands setting w rs valid around z y → AroundStands setting w rs valid around z inner
  around_inside {rs} {valid} {around} h = record {
    current = h.current;
    link = h.link;
    handlers_cell = h.handlers_cell;
    bindings_cell = h.bindings_cell;
    current_word = words_inside current_address ∙ h.current_word;
    link_word = words_inside link_address ∙ h.link_word;
    handlers_word = words_inside handlers_address ∙ h.handlers_word;
    bindings_word = words_inside bindings_address ∙ h.bindings_word;
    chain = chain_lower (stack_from y.arena) (stack_from inner.arena) h.current rs from_inside h.chain;
    records = λ r i. record_stays (later_same w) deeper_inside r (h.records r i);
    links = h.links;
    handlers = handlers_stay (later_same w) deeper_inside around.handlers h.handlers_cell h.handlers;
    bindings = bindings_stay (later_same w) deeper_inside setting around.bindings h.bindings_cell h.bindings;
    ends_at_end = h.ends_at_end;
    end_record = h.end_record;
    end_valid = h.end_valid;
    end_word = words_inside end_address ∙ h.end_word;
    end_form = h.end_form;
    tags_land = h.tags_land;
  }

  -- **where the body begins**
  pub inside_begins :
      {rs valid : List Standing} {around : DynamicContext} (room inside : ℕ) → p.frame + inside ≤ room → CallBegins setting rs valid room w around z y
      → Inside setting rs valid inside (entry_cost p.parameters) w around z y inner
  inside_begins {around = around} room inside enough b = record {
    call = record { things = things_inside; around_stands = around_inside b.around_stands; room = room_by setting.limit b.room };
    words = words_inside;
    grows = grows_inside;
    heap = refl;
    from = from_inside;
    cost = refl;
  }
    where
      room_by : (l : Limit) → RoomFor l (room + words_for_handler * length around.handlers) z.state y → RoomFor l (inside + words_for_handler * length around.handlers) z.state inner
      room_by unlimited h = tt
      room_by (words m) h = omega (arith, h, left_inside, enough)

  -- ---- what the body comes to

  abbrev outer : MidOutcome → MidState
  outer q = with_arena (with_blocks y.arena.blocks q.state.arena) q.state

  module _ {credit m : ℕ} {rs valid : List Standing} {around : DynamicContext} {r : FlatEvaluated} {q : MidOutcome} where
    frame_returned : Returned setting credit w z inner r q → CallEnds setting (credit + entry_cost p.parameters) m rs valid w around z y r (leaves y.arena.blocks q)
    frame_returned x =
        let framed : q.state.arena.blocks ≡ frame_of p ∷ y.arena.blocks = x.back.blocks in
        let same = x.world.same_size in
        let sum : words_of q.state.arena.blocks ≡ p.frame + words_of y.arena.blocks = ap words_of framed in
        let stands = x.world.things.represents.arena in
        let back : (a : ℕ) → word_at (outer q).arena a ≡ word_at q.state.arena a = λ a. frame_back q.state.arena p.frame y.arena.blocks a framed in
        subst (λ o. CallEnds setting (credit + entry_cost p.parameters) m rs valid w around z y r o) (sym (leaves_returned y.arena.blocks q x.end))
        (done (record {
          result = x.result;
          outcome = x.outcome;
          word = x.word;
          end = refl;
          w' = x.w';
          world = record {
            later = x.world.later;
            things = things_same_words setting x.world.things back (grows_given_back (frame_of p) y.arena.blocks stands framed) refl refl;
            stack = record {
              words = λ a low high plain.
                  back a ∙ x.world.stack.words a (omega (arith, low, from_inside)) (omega (arith, high, sum)) plain ∙ words_inside a;
              bindings = λ i a e low high. x.world.stack.bindings i a e (omega (arith, low, from_inside)) (omega (arith, high, sum));
            };
            end = λ n e. back end_address ∙ x.world.end n (words_inside end_address ∙ e);
            more_exits = x.world.more_exits;
            same_size = same ∙ size;
          };
          back = record {
            control = record {
              current = λ n e. back current_address ∙ x.back.control.current n (words_inside current_address ∙ e);
              link = λ n e. back link_address ∙ x.back.control.link n (words_inside link_address ∙ e);
              handlers = λ n e. back handlers_address ∙ x.back.control.handlers n (words_inside handlers_address ∙ e);
              bindings = λ n e. back bindings_address ∙ x.back.control.bindings n (words_inside bindings_address ∙ e);
            };
            blocks = refl;
            charged =
                let more : left q.state.arena + p.frame ≤ left (outer q).arena = omega (arith, sum, stands.room, stands.blocks, stands.aligned) in
                omega (arith, x.back.charged, left_inside, more);
            paid = omega (arith, x.back.paid);
          };
          of_value = x.of_value;
          frame = x.frame;
        }))

    frame_left : LeftCall setting credit rs valid w around z inner r q → CallEnds setting (credit + entry_cost p.parameters) m rs valid w around z y r (leaves y.arena.blocks q)
    frame_left x =
        let t1 = x.transfer in
        subst (λ o. CallEnds setting (credit + entry_cost p.parameters) m rs valid w around z y r o) (sym (leaves_cut y.arena.blocks q t1.end))
        (left_by (record {
          transfer = record {
            exit_number = t1.exit_number;
            result = t1.result;
            landing = t1.landing;
            outcome = t1.outcome;
            target = t1.target;
            valid_target = t1.valid_target;
            to = t1.to;
            outer = t1.outer;
            stop = t1.stop;
            word = t1.word;
            end = t1.end;
            blocks = ap (λ n. blocks_from n y.arena.blocks t1.to.address) (sym size) ∙ t1.blocks;
            w' = t1.w';
            of_value = t1.of_value;
            world = record {
              later = t1.world.later;
              things = t1.world.things;
              stack = record {
                words = λ a low high plain. t1.world.stack.words a (omega (arith, low, from_inside)) high plain ∙ words_inside a;
                bindings = λ i a e low high. t1.world.stack.bindings i a e (omega (arith, low, from_inside)) high;
              };
              end = λ n e. t1.world.end n (words_inside end_address ∙ e);
              more_exits = t1.world.more_exits;
              same_size = t1.world.same_size ∙ size;
            };
            charged = let less = left_inside in let same = size in omega (arith, t1.charged, less, same, some);
            paid = omega (arith, t1.paid);
            pending = t1.pending;
            landing_word = t1.landing_word;
            landing_stands = t1.landing_stands;
            landing_is = t1.landing_is;
            lands = t1.lands;
          };
          frame = x.frame;
        }))

    -- **what the body comes to, the procedure comes to**
    pub frame_ends : CallEnds setting credit m rs valid w around z inner r q → CallEnds setting (credit + entry_cost p.parameters) m rs valid w around z y r (leaves y.arena.blocks q)
    frame_ends (done x) = frame_returned x
    frame_ends (left_by x) = frame_left x
    frame_ends (full_there x) =
        full_there (record {
          asked = x.asked;
          left_then = x.left_then;
          outcome = x.outcome;
          printed = subst (λ ps. IsPrefix r.state.state.printed ps) (sym (leaves_printed y.arena.blocks q)) x.printed;
        })
    frame_ends (stopped x) =
        stopped (record {
          because = leaves_because setting r y.arena.blocks q x.because;
          printed = subst (λ ps. IsPrefix ps r.state.state.printed) (sym (leaves_printed y.arena.blocks q)) x.printed;
          paid = λ ended. omega (arith, x.paid ended, leaves_costs y.arena.blocks q);
        })
    frame_ends (few_turns x) = few_turns (omega (arith, x, size))

  -- ---- a body that leaves all words as they were

  -- behind the procedure, whose body cost so much
  abbrev pub given_back : ℕ → MidState
  given_back cost = with_arena (with_blocks y.arena.blocks inner.arena) (mid_charged cost inner)

  pub untouched_words : (cost a : ℕ) → word_at (given_back cost).arena a ≡ word_at y.arena a
  untouched_words cost a = frame_back inner.arena p.frame y.arena.blocks a refl ∙ words_inside a

  pub untouched_world : (cost : ℕ) → WorldKept setting w w z z y (given_back cost)
  untouched_world cost = record {
    later = later_same w;
    things =
        things_same_words setting things_inside (λ a. frame_back inner.arena p.frame y.arena.blocks a refl)
        (grows_given_back (frame_of p) y.arena.blocks things_inside.represents.arena refl) refl refl;
    stack = record { words = λ a low high plain. untouched_words cost a; bindings = λ i a e low high. e };
    end = λ n e. untouched_words cost end_address ∙ e;
    more_exits = omega arith;
    same_size = size;
  }

  pub untouched_around : (cost : ℕ) → Around setting (cost + entry_cost p.parameters) z z y (given_back cost)
  untouched_around cost = record {
    control = record {
      current = λ n e. untouched_words cost current_address ∙ e;
      link = λ n e. untouched_words cost link_address ∙ e;
      handlers = λ n e. untouched_words cost handlers_address ∙ e;
      bindings = λ n e. untouched_words cost bindings_address ∙ e;
    };
    blocks = refl;
    charged =
        let stands = things_inside.represents.arena in
        let more : left inner.arena + p.frame ≤ left (given_back cost).arena = omega (arith, stands.room, stands.blocks, stands.aligned) in
        omega (arith, left_inside, more);
    paid = omega arith;
  }

-- ---- a procedure runs

pub with_room : (c : Context) (p : MidProcedure) (ws : List ℕ) (y : MidState) → length ws ≡ p.parameters → p.frame ≤ left y.arena
    → run_procedure c p ws y ≡ leaves y.arena.blocks (exec c (code_of p.body) (first_registers p.registers ws) (entered p y))
with_room c p ws y e h = first_chosen _ _ _ _ (eq-eqb _ _ e) ∙ first_chosen _ _ _ _ (le-leb _ _ h)

pub without_room : (c : Context) (p : MidProcedure) (ws : List ℕ) (y : MidState) → length ws ≡ p.parameters → left y.arena < p.frame
    → run_procedure c p ws y ≡ ends (no_room p.frame (left y.arena)) (first_registers p.registers ws) (mid_charged (entry_cost p.parameters) y)
without_room c p ws y e h = first_chosen _ _ _ _ (eq-eqb _ _ e) ∙ second_chosen _ _ _ _ (lt-leb _ _ h)

-- a procedure with a frame of its own
abbrev pub framed : MidProcedure → ℕ → MidProcedure
framed p f = record p { frame = f }

module _ (setting : Setting) (room inside credit m : ℕ) (p : MidProcedure) (ws : List ℕ) (rs valid : List Standing) (w : World) (around : DynamicContext) (z : FlatState) (y : MidState)
    (r : FlatEvaluated) (f : ℕ) (within : f ≤ p.frame) (many : length ws ≡ p.parameters) (enough : p.frame + inside ≤ room) (grown : IsPrefix z.state.printed r.state.state.printed)
    (units : (r.outcome ≡ more → ⊥) → z.state.units ≤ r.state.state.units + 1)
    (b : CallBegins setting rs valid room w around z y) where
  -- what was printed is a beginning of what the meaning prints
  printed_before : IsPrefix y.printed r.state.state.printed
  printed_before = subst (λ ps. IsPrefix ps r.state.state.printed) (sym b.things.represents.printed) grown

  procedure_ends : (c : Context) → BodyComes setting c p credit m inside ws rs valid w around z y r
      → CallEnds setting (credit + entry_cost p.parameters) m rs valid w around z y r (run_procedure c (framed p f) ws y)
  procedure_ends c body = by (cases_lt (left y.arena) f)
    where
      room_ended : (l : Limit) → RoomFor l (room + words_for_handler * length around.handlers) z.state y → WithinLimit l z.state → left y.arena < f → RoomEnded setting l r.outcome
      room_ended unlimited h k few = tt
      room_ended (words n) h k few = absurd (omega (arith, h, k, few, within, enough))

      by : (left y.arena < f) ⊎ (f ≤ left y.arena) → CallEnds setting (credit + entry_cost p.parameters) m rs valid w around z y r (run_procedure c (framed p f) ws y)
      by (inl few) =
          subst (λ o. CallEnds setting (credit + entry_cost p.parameters) m rs valid w around z y r o) (sym (without_room c (framed p f) ws y many few))
          (stopped (record {
            because = (room_ended setting.limit b.room b.things.within_limit few, few);
            printed = printed_before;
            paid = λ ended. omega (arith, units ended);
          }))
      by (inr some) =
          subst (λ o. CallEnds setting (credit + entry_cost p.parameters) m rs valid w around z y r o) (sym (with_room c (framed p f) ws y many some))
          (frame_ends setting (framed p f) b.things some
          (body (entered (framed p f) y) (inside_begins setting (framed p f) b.things some room inside (omega arith) b)))

  -- with a turn
  turn_ends :
      (k n : ℕ) → m + 16 * z.state.units ≤ n + 50 + 16 * r.state.state.units → ((j : ℕ) → n ≡ suc j → BodyComes setting (code_at setting k j) p credit m inside ws rs valid w around z y r)
      → CallEnds setting (credit + entry_cost p.parameters) m rs valid w around z y r ((code_at setting k n).further (enter (framed p f) ws) y)
  unfolding turns
  turn_ends k zero few body = few_turns (omega (arith, few, some_words setting b.things))
  turn_ends k (suc j) few body = procedure_ends (code_at setting k j) (body j refl)

  -- with a level
  level_ends :
      (k n : ℕ) → (k ≡ zero → r.outcome ≡ more) → ((j : ℕ) → k ≡ suc j → BodyComes setting (code_at setting j setting.turns_each) p credit m inside ws rs valid w around z y r)
      → CallEnds setting (credit + entry_cost p.parameters) m rs valid w around z y r ((code_at setting k n).below (enter (framed p f) ws) y)
  unfolding levels turns
  level_ends zero n none body = stopped (record { because = none refl; printed = printed_before; paid = λ ended. absurd (ended (none refl)) })
  level_ends (suc j) n none body = procedure_ends (code_at setting j setting.turns_each) (body j refl)

-- ---- where the meaning pays the frame inside

module _ (setting : Setting) (credit m : ℕ) (p : MidProcedure) (ws : List ℕ) (rs valid : List Standing) (w : World) (around : DynamicContext) (z : FlatState) (y : MidState) (r : FlatEvaluated)
    (f : ℕ) (within : f ≤ p.frame) (many : length ws ≡ p.parameters) (grown : FlatGrown z r.state) (things : Things setting w z y) (stands : AroundStands setting w rs valid around z y)
    (wanting : left y.arena < p.frame → RoomEnded setting setting.limit r.outcome) where
  paid_inside : (some : f ≤ left y.arena) → InsideFrame setting rs valid p.frame (entry_cost p.parameters) w around z y (entered (framed p f) y)
  paid_inside some = record {
    things = things_inside setting (framed p f) things some;
    around_stands = around_inside setting (framed p f) things some stands;
    words = words_inside setting (framed p f) things some;
    grows = grows_inside setting (framed p f) things some;
    heap = refl;
    from = from_inside setting (framed p f) things some;
    left_here = let left_there = left_inside setting (framed p f) things some in omega (arith, left_there, within);
    cost = refl;
  }

  paid_ends :
      (k n : ℕ) → m ≤ n + 50
      → ((j : ℕ) → n ≡ suc j → (y' : MidState) → InsideFrame setting rs valid p.frame (entry_cost p.parameters) w around z y y'
      → CallEnds setting credit m rs valid w around z y' r (exec (code_at setting k j) (code_of p.body) (first_registers p.registers ws) y'))
      → CallEnds setting (credit + entry_cost p.parameters) m rs valid w around z y r ((code_at setting k n).further (enter (framed p f) ws) y)
  unfolding turns
  paid_ends k zero few body = few_turns (omega (arith, few, grown.units, some_words setting things))
  paid_ends k (suc j) few body = by (cases_lt (left y.arena) f)
    where
      by : (left y.arena < f) ⊎ (f ≤ left y.arena) → CallEnds setting (credit + entry_cost p.parameters) m rs valid w around z y r (run_procedure (code_at setting k j) (framed p f) ws y)
      by (inl short) =
          subst (λ o. CallEnds setting (credit + entry_cost p.parameters) m rs valid w around z y r o) (sym (without_room (code_at setting k j) (framed p f) ws y many short))
          (stopped (record {
            because = (wanting (omega (arith, short, within)), short);
            printed = subst (λ ps. IsPrefix ps r.state.state.printed) (sym things.represents.printed) grown.printed;
            paid = λ ended. omega (arith, grown.units);
          }))
      by (inr some) =
          subst (λ o. CallEnds setting (credit + entry_cost p.parameters) m rs valid w around z y r o) (sym (with_room (code_at setting k j) (framed p f) ws y many some))
          (frame_ends setting (framed p f) things some (body j refl (entered (framed p f) y) (paid_inside some)))

-- ---- by a number

pub record UsedAt (procedures : List MidProcedure) (number : ℕ) (p : MidProcedure) : Type 0 where
  pub frame : ℕ
  pub within : frame ≤ p.frame
  pub there : slice_get procedures number ≡ Some (framed p frame)

pub used_at : (gs ps : List MidProcedure) (number : ℕ) (p : MidProcedure) → FramesWithin gs ps → slice_get gs number ≡ Some p → UsedAt ps number p
used_at [] ps number p h e = absurd (cc e)
used_at (g ∷ gs) [] number p h e = absurd h
used_at (g ∷ gs) (q ∷ ps) zero p h e =
    let same : g ≡ p = cc e in
    record {
      frame = q.frame;
      within = let within = h.0.frame in let frames : g.frame ≡ p.frame = ap (λ (x : MidProcedure). x.frame) same in omega (arith, within, frames);
      there = ap Some (h.0.same ∙ ap (λ x. framed x q.frame) same);
    }
used_at (g ∷ gs) (q ∷ ps) (suc number) p h e = let u = used_at gs ps number p h.1 e in record { frame = u.frame; within = u.within; there = u.there }

module _ (setting : Setting) where
  pub called_by : (k n number : ℕ) (p : MidProcedure) (ws : List ℕ) (y : MidState) (how : Counted) → p.counted ≡ how → (u : UsedAt setting.procedures number p)
      → called (code_at setting k n) number ws y ≡ count (code_at setting k n) how (enter (framed p u.frame) ws) y
  called_by k n number p ws y how same u =
      some_found (λ (q : MidProcedure) rs x. count (code_at setting k n) q.counted (enter q ws) x) [] y u.there
      ∙ ap (λ h. count (code_at setting k n) h (enter (framed p u.frame) ws) y) same

  -- of the growth of the meaning only what is printed counts, and units as far as they pay for turns
  pub turns_entered :
      (k turns number m room inside credit : ℕ) (p : MidProcedure) (ws : List ℕ) (rs valid : List Standing) (w : World) (around : DynamicContext) (z : FlatState) (y : MidState)
      (r : FlatEvaluated)
      → slice_get (lowered setting.names setting.at setting.program) number ≡ Some p → p.counted ≡ Turn → length ws ≡ p.parameters → p.frame + inside ≤ room
      → m + 16 * z.state.units ≤ turns + 50 + 16 * r.state.state.units → IsPrefix z.state.printed r.state.state.printed
      → ((r.outcome ≡ more → ⊥) → z.state.units ≤ r.state.state.units + 1) → CallBegins setting rs valid room w around z y
      → ((n : ℕ) → turns ≡ suc n → BodyComes setting (code_at setting k n) p credit m inside ws rs valid w around z y r)
      → CallEnds setting (credit + entry_cost p.parameters) m rs valid w around z y r (called (code_at setting k turns) number ws y)
  turns_entered k n number m room inside credit p ws rs valid w around z y r found counted many enough few grown units b body =
      let u = used_at _ setting.procedures number p setting.frames found in
      subst (λ o. CallEnds setting (credit + entry_cost p.parameters) m rs valid w around z y r o) (sym (called_by k n number p ws y Turn counted u))
      (turn_ends setting room inside credit m p ws rs valid w around z y r u.frame u.within many enough grown units b k n few body)

  pub turns_law : LawOfTurns setting
  turns_law k n number m room inside credit p ws rs valid w around z y r found counted many enough few grown b body =
      turns_entered k n number m room inside credit p ws rs valid w around z y r found counted many enough (omega (arith, few, grown.units)) grown.printed (λ ended. omega (arith, grown.units)) b body

  -- of the growth of the meaning only what is printed counts with a level
  pub levels_entered :
      (k turns number m room inside credit : ℕ) (p : MidProcedure) (ws : List ℕ) (rs valid : List Standing) (w : World) (around : DynamicContext) (z : FlatState) (y : MidState)
      (r : FlatEvaluated)
      → slice_get (lowered setting.names setting.at setting.program) number ≡ Some p → p.counted ≡ Level → length ws ≡ p.parameters → p.frame + inside ≤ room
      → IsPrefix z.state.printed r.state.state.printed → ((r.outcome ≡ more → ⊥) → z.state.units ≤ r.state.state.units + 1)
      → CallBegins setting rs valid room w around z y → (k ≡ zero → r.outcome ≡ more)
      → ((j : ℕ) → k ≡ suc j → BodyComes setting (code_at setting j setting.turns_each) p credit m inside ws rs valid w around z y r)
      → CallEnds setting (credit + entry_cost p.parameters) m rs valid w around z y r (called (code_at setting k turns) number ws y)
  levels_entered k n number m room inside credit p ws rs valid w around z y r found counted many enough grown units b none body =
      let u = used_at _ setting.procedures number p setting.frames found in
      subst (λ o. CallEnds setting (credit + entry_cost p.parameters) m rs valid w around z y r o) (sym (called_by k n number p ws y Level counted u))
      (level_ends setting room inside credit m p ws rs valid w around z y r u.frame u.within many enough grown units b k n none body)

  pub entered_levels_law : LawOfEnteredLevels setting
  entered_levels_law k n number m room inside credit p ws rs valid w around z y r found counted many enough grown b none body =
      levels_entered k n number m room inside credit p ws rs valid w around z y r found counted many enough grown.printed (λ ended. omega (arith, grown.units)) b none body

  pub paid_turns_law : LawOfPaidTurns setting
  paid_turns_law k n number m credit p ws rs valid w around z y r found counted many few grown things stands wanting body =
      let u = used_at _ setting.procedures number p setting.frames found in
      subst (λ o. CallEnds setting (credit + entry_cost p.parameters) m rs valid w around z y r o) (sym (called_by k n number p ws y Turn counted u))
      (paid_ends setting credit m p ws rs valid w around z y r u.frame u.within many grown things stands wanting k n few body)

  -- a procedure at a level runs with a frame that is within its own
  pub record RunsAt (j turns number : ℕ) (p : MidProcedure) (ws : List ℕ) (y : MidState) : Type 0 where
    pub frame : ℕ
    pub within : frame ≤ p.frame
    pub runs : called (code_at setting (suc j) turns) number ws y ≡ run_procedure (code_at setting j setting.turns_each) (framed p frame) ws y

  pub level_runs :
      (j turns number : ℕ) (p : MidProcedure) (ws : List ℕ) (y : MidState) → slice_get (lowered setting.names setting.at setting.program) number ≡ Some p → p.counted ≡ Level
      → RunsAt j turns number p ws y
  unfolding levels turns
  level_runs j turns number p ws y found counted =
      let u = used_at _ setting.procedures number p setting.frames found in
      record { frame = u.frame; within = u.within; runs = called_by (suc j) turns number p ws y Level counted u }

  -- where there is no level, nothing is said of the frame, nor of what units were charged
  pub no_level_at :
      {credit : ℕ} {Done Left : Type 0} (turns number m : ℕ) (p : MidProcedure) (ws : List ℕ) (w : World) (z : FlatState) (before y : MidState) (counted_from : FlatState) (r : FlatEvaluated)
      → slice_get (lowered setting.names setting.at setting.program) number ≡ Some p → p.counted ≡ Level → r.outcome ≡ more → FlatGrown z r.state → Things setting w z y
      → Ends setting credit Done Left m counted_from before r (called (code_at setting zero turns) number ws y)
  unfolding levels
  no_level_at {credit} {Done} {Left} turns number m p ws w z before y counted_from r found counted none grown t =
      let u = used_at _ setting.procedures number p setting.frames found in
      subst (λ o. Ends setting credit Done Left m counted_from before r o) (sym (called_by zero turns number p ws y Level counted u))
      (stopped (record {
        because = none;
        printed = subst (λ ps. IsPrefix ps r.state.state.printed) (sym t.represents.printed) grown.printed;
        paid = λ ended. absurd (ended none);
      }))

  pub no_level_ends :
      {credit : ℕ} {Done Left : Type 0} (turns number m : ℕ) (p : MidProcedure) (ws : List ℕ) (w : World) (z : FlatState) (before y : MidState) (r : FlatEvaluated)
      → slice_get (lowered setting.names setting.at setting.program) number ≡ Some p → p.counted ≡ Level → r.outcome ≡ more → FlatGrown z r.state → Things setting w z y
      → Ends setting credit Done Left m z before r (called (code_at setting zero turns) number ws y)
  no_level_ends turns number m p ws w z before y r found counted none grown t = no_level_at turns number m p ws w z before y z r found counted none grown t
