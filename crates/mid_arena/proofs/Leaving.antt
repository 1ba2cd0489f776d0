-- The frame of a procedure is given back: what its code comes to, where the frame was laid, is what the procedure comes to.
use Rattle.std.proofs.Common.{◌≡◌, ℕ, suc, ◌<◌, ◌≤◌, List, Some, refl, ap, ◌∙◌, arith}
use Rattle.lang_meaning.specs.declared.program.ProgramRows.{ProgramRows}
use Rattle.lang_meaning.specs.Values.{Value}
use Rattle.lang_meaning.specs.State as meaning
use Rattle.lang_meaning.specs.Primitives.{Answer, result, makes, makes_symbol, fails, domain_error}
use Rattle.mid_code.specs.Arena.{Block, Arena, words_of, stack_from, left, word_at, with_blocks, with_new_block}
use Rattle.mid_code.specs.State.{Registers, MidState, End, falls, returns, no_room, MidOutcome, ends, charged, with_arena}
use Rattle.mid_code.specs.Meaning.{left_from, leaves}
use Rattle.mid_code.proofs.Growth.{length-emptied}
use Rattle.mid_arena.specs.Places.{Spot, Places, end_of, Owner, of_object, of_other, spot_of}
use Rattle.mid_arena.specs.FixedWords.{pending_address}
use Rattle.mid_arena.specs.Represents.{Represents}
use Rattle.mid_arena.specs.Answers.{Enlarged, KeepsWords, words_asked, Returned, Pending, Done, RoomWanting, Comes, done, no_words}
use Rattle.mid_arena.proofs.Memory.{grows_with_new_block, left_with_new_block, grows_given_back}
use Rattle.mid_arena.specs.Growing.{Grows}
use Rattle.mid_arena.proofs.Growing.{spot_below, grows_same}
use Rattle.mid_arena.proofs.Representing.{fixed_stands, kept_grown, kept_both, represents_grown}

-- how the body of a procedure is left

pub leaves_returned :
    (bs : List Block) (r : MidOutcome) {w : ℕ} → r.end ≡ returns w
    → leaves bs r ≡ ends (returns w) r.registers (with_arena (with_blocks bs r.state.arena) r.state)
unfolding leaves
leaves_returned bs r e = ap (λ l. left_from l bs r) e

pub leaves_no_room : (bs : List Block) (r : MidOutcome) {asked lacking : ℕ} → r.end ≡ no_room asked lacking → leaves bs r ≡ r
unfolding leaves
leaves_no_room bs r e = ap (λ l. left_from l bs r) e

pub leaves_cost : (bs : List Block) (r : MidOutcome) → (leaves bs r).state.cost ≡ r.state.cost
unfolding leaves
leaves_cost bs r = from r.end
  where
    from : (e : End) → (left_from e bs r).state.cost ≡ r.state.cost
    from falls = refl
    from e = refl

-- a state where a frame is laid, and so much was paid
abbrev pub with_frame : Block → ℕ → MidState → MidState
with_frame frame cost y = with_arena (with_new_block frame y.arena) (charged cost y)

-- a represented state with room for the frame
module _
    (names : List (List ℕ)) (program : ProgramRows) (places : Places) (z : meaning.State) (y : MidState) (r : Represents names program places z y)
    (frame : Block) (cost : ℕ) (some : frame.words ≤ left y.arena)
  where
    frame_grows : Grows y.arena (with_frame frame cost y).arena
    frame_grows = grows_with_new_block frame r.arena some

    -- is represented too where the frame is laid
    pub represents_frame : Represents names program places z (with_frame frame cost y)
    represents_frame = represents_grown names program places z y r (with_frame frame cost y) frame_grows.heap refl refl

    kept_frame : (b : Arena) → KeepsWords places z (with_frame frame cost y).arena b → KeepsWords places z y.arena b
    kept_frame b k =
        kept_both places z y.arena (with_frame frame cost y).arena b (kept_grown names program places z y r (with_frame frame cost y).arena frame_grows) k
        (omega (arith, frame_grows.size))

    -- what was there before is kept where a later arena, whose heap does not end before and whose stack begins no higher, goes on
    kept_later :
        (a b : Arena) → KeepsWords places z y.arena a → y.arena.heap_to ≤ a.heap_to → Grows a b → stack_from a ≤ stack_from b → KeepsWords places z y.arena b
    kept_later a b k low g inner = record {
      functions = λ i p s found e x from to. later (of_object i) s e x to ∙ k.functions i p s found e x from to;
      others = λ n s e x from to. later (of_other (suc n)) s e x to ∙ k.others n s e x from to;
      stack = λ x from to. g.stack x (omega (arith, inner, to)) to ∙ k.stack x from (omega (arith, inner, to));
    }
      where
        later : (p : Owner) (s : Spot) → spot_of places p ≡ Some s → (x : ℕ) → x < end_of s → word_at b x ≡ word_at a x
        later p s e x to = let below = spot_below r.arena (r.spots p s e) in g.words x (omega arith)

    -- the same words more, counted from before the frame was laid, where blocks are given back
    enlarged_frame :
        (b : Arena) (bs : List Block) (words : ℕ) → Enlarged (with_frame frame cost y).arena b words → Enlarged y.arena (with_blocks bs b) words
    enlarged_frame b bs words h = record {
      size = h.size ∙ length-emptied _ frame.words y.arena.memory;
      laid_from = h.laid_from;
      laid_to = h.laid_to;
      heap_from = h.heap_from;
      heap_to = h.heap_to;
    }

    -- the code came to an outcome
    module _ (o : MidOutcome) where
      -- the state where the frame is given back
      abbrev given_back : MidState
      given_back = with_arena (with_blocks y.arena.blocks o.state.arena) o.state

      returned :
          (after : Places) (v : Value) (z' : meaning.State) (words : ℕ) → Returned names program places z (with_frame frame cost y) after v z' words o
          → Returned names program places z y after v z' words (leaves y.arena.blocks o)
      returned after v z' words h =
          let g : Grows o.state.arena given_back.arena = grows_given_back frame y.arena.blocks h.represents.arena h.blocks in
          rw (leaves_returned y.arena.blocks o h.end) (record {
            word = h.word;
            end = refl;
            of_value = h.of_value;
            represents = represents_grown names program after z' o.state h.represents given_back g.heap refl refl;
            arena = enlarged_frame o.state.arena y.arena.blocks words h.arena;
            blocks = refl;
            kept = kept_later o.state.arena given_back.arena (kept_frame o.state.arena h.kept) (omega (arith, h.arena.heap_to)) g (omega (arith, ap words_of h.blocks));
          })

      -- where a condition stands to be signalled, it still does
      signalled :
          (after : Places) (class : ℕ) (slots : List Value) (z' : meaning.State) (words : ℕ)
          → Pending names program places z (with_frame frame cost y) after class slots z' words o
          → Pending names program places z y after class slots z' words (leaves y.arena.blocks o)
      signalled after class slots z' words h =
          let g : Grows o.state.arena given_back.arena = grows_given_back frame y.arena.blocks h.represents.arena h.blocks in
          let fixed = spot_below h.represents.arena (fixed_stands names program after _ o.state h.represents) in
          rw (leaves_returned y.arena.blocks o h.end) (record {
            end = refl;
            represents = represents_grown names program after _ o.state h.represents given_back g.heap refl refl;
            pending = record {
              word = h.pending.word;
              of_value = h.pending.of_value;
              stands = g.words pending_address (omega arith) ∙ h.pending.stands;
            };
            arena = enlarged_frame o.state.arena y.arena.blocks words h.arena;
            blocks = refl;
            kept = kept_later o.state.arena given_back.arena (kept_frame o.state.arena h.kept) (omega (arith, h.arena.heap_to)) g (omega (arith, ap words_of h.blocks));
          })

      finished : (answer : Answer) → Done names program places z (with_frame frame cost y) answer o → Done names program places z y answer (leaves y.arena.blocks o)
      finished (result v z') h = returned _ _ _ _ h
      finished (makes size besides made z') h = returned _ _ _ _ h
      finished (makes_symbol z') h = returned _ _ _ _ h
      finished (fails class slots z') h = signalled _ _ _ _ _ h
      finished (domain_error v expected z') h = signalled _ _ _ _ _ h

      -- words were not left: the frame is among those that were asked for
      wanting :
          (asked : ℕ) → RoomWanting names program places z (with_frame frame cost y) 0 asked o
          → RoomWanting names program places z y frame.words asked (leaves y.arena.blocks o)
      wanting asked h =
          rw (leaves_no_room y.arena.blocks o h.end) (record {
            asked_for = h.asked_for;
            left_then = h.left_then;
            end = h.end;
            wanting = h.wanting;
            together = omega (arith, h.together, left_with_new_block frame r.arena some);
            represents = h.represents;
            kept = kept_frame o.state.arena h.kept;
          })

      -- so the procedure comes to the same answer
      pub comes_with_frame :
          (answer : Answer) → Comes names program places z (with_frame frame cost y) 0 answer o
          → Comes names program places z y frame.words answer (leaves y.arena.blocks o)
      comes_with_frame answer (done h) = done (finished answer h)
      comes_with_frame answer (no_words h) = no_words (wanting (words_asked names program answer) h)

-- the frame is not left
pub comes_without_frame :
    (names : List (List ℕ)) (program : ProgramRows) (places : Places) (z : meaning.State) (y : MidState) (cost words : ℕ) (answer : Answer) (rs : Registers)
    → Represents names program places z y → left y.arena < words
    → Comes names program places z y words answer (ends (no_room words (left y.arena)) rs (charged cost y))
comes_without_frame names program places z y cost words answer rs r few =
    no_words (record {
      asked_for = words;
      left_then = left y.arena;
      end = refl;
      wanting = few;
      together = omega arith;
      represents = represents_grown names program places z y r (charged cost y) (grows_same y.arena r.arena).heap refl refl;
      kept = kept_grown names program places z y r y.arena (grows_same y.arena r.arena);
    })
