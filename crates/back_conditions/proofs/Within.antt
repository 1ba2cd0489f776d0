-- **Behind the code inside a block that was lent to it**: the control word that was stored for it says what it said before, the block is given back, and
-- what was around is around again; or a transfer leaves it, and no cut lands at the block.
use Rattle.std.proofs.Common.{◌≡◌, inl, ℕ, ◌+◌, ◌*◌, ◌%◌, ◌<◌, ◌≤◌, Bool, true, false, List, [], ◌∷◌, length, Some, refl, sym, ap, ◌∙◌, subst, arith}
use Rattle.std.specs.Prelude.{◌==◌, ◌&&◌, if◌then◌else◌, slice_get, slice_set}
use Rattle.std.proofs.Math.ListN.{length-set}
use Rattle.std.proofs.lemmas.Bool.{eqb-true, eqb-false, ne_eqb}
use Rattle.lang_meaning.specs.State.{DynamicContext}
use Rattle.lang_meaning.specs.Values.{Value}
use Rattle.flat_language.specs.FlatState.{FlatState, FlatEvaluated}
use Rattle.mid_code.specs.Arena.{Arena, Block, record_of, begin_of, is_open, lent_from, words_of, left, stack_from, is_lent, blocks_from, word_in, word_at, with_word, with_blocks}
use Rattle.mid_code.specs.Law.{Grown}
use Rattle.mid_code.specs.Meaning.{Context, give_back, run_landing, exec}
use Rattle.mid_code.specs.MidCode.{no_step, code_of}
use Rattle.mid_code.specs.State.{Registers, register, End, falls, returns, cuts, no_room, no_level, no_turn, halts, unhandled, exhausted, stuck, MidState, MidOutcome, ends, choose_by, jumped, landed, landed_from}
use Rattle.mid_code.specs.State.{go_on as mid_go_on}
use Rattle.mid_code.proofs.Growth.{go_on_grown, landed_grown, run_landing_grown, after_inside_grown, same_grown}
use Rattle.mid_arena.specs.Growing.{Grows}
use Rattle.mid_arena.specs.Places.{of_other}
use Rattle.mid_arena.specs.Standing.{ArenaStands}
use Rattle.mid_arena.proofs.Growing.{grows_same, spot_below, spot_grown}
use Rattle.mid_arena.proofs.Lists.{set_elsewhere}
use Rattle.mid_arena.proofs.Memory.{grows_with_blocks, room_below, in_spot_lent, in_heap_there, word_here}
use Rattle.mid_arena.proofs.Registers.{register_here, register_beside}
use Rattle.mid_arena.proofs.Running.{RunsTo, and_then, none_left, constant_falls, store_falls, move_falls, jumped_falls, address_above}
use Rattle.back_lowering.specs.ControlWords.{control_address, current_address, link_address, serials_address, handlers_address, bindings_address, end_address}
use Rattle.back_lowering.specs.Steps.{Steps, move, constant, store}
use Rattle.back_relation.specs.Setting.{Setting, control_spot}
use Rattle.back_relation.specs.Placed.{IsPlaced}
use Rattle.back_relation.specs.Worlds.{World, BoxPlace, on_heap, on_stack, IsIn}
use Rattle.back_relation.specs.StackWords.{HasWordAt, RecordAt}
use Rattle.back_relation.specs.Around.{AroundStands}
use Rattle.back_relation.specs.Activation.{ActivationStands, MethodHeld}
use Rattle.back_relation.specs.Ends.{WorldKept, Transfers, Because, done, left_by, full_there, stopped, few_turns, Fell, Left}
use Rattle.back_relation.specs.Forms.{Begins, FormEnds}
use Rattle.back_relation.specs.Cuts.{boxes_cut}
use Rattle.back_relation.specs.Starts.{Start, EndsAt, ReachedFrom}
use Rattle.back_relation.specs.Stores.{stores}
use Rattle.back_relation.proofs.Activations.{activation_later}
use Rattle.back_relation.proofs.Growth.{both_prefix}
use Rattle.back_relation.proofs.Parts.{IsLast, go_on_falls, go_on_last}
use Rattle.back_relation.proofs.Reaches.{first_stop_in}
use Rattle.back_relation.proofs.Stops.{stopped_before}
use Rattle.back_relation.proofs.Windows.{stored_elsewhere}
use Rattle.back_relation.proofs.Worlds.{Same}
use Rattle.back_relation.proofs.Boxes.{stack_above, stack_stays}
use Rattle.back_exits.specs.Going.{world_with}
use Rattle.back_exits.specs.Touching.{IsStored, Touched, touched, ExitsMade}
use Rattle.back_exits.proofs.Inside.{world_both, method_shallower}
use Rattle.back_exits.proofs.Steps.{gives_back}
use Rattle.back_exits.proofs.Touching.{world_touched, stored_from}

-- ---- blocks that are found

pub record IsFound (size address : ℕ) (bs cs : List Block) : Type 0 where
  pub fewer_words : words_of cs ≤ words_of bs
  pub fewer : length cs ≤ length bs
  pub here : lent_from size cs ≡ address

pub found_block : (size address : ℕ) (bs cs : List Block) → blocks_from size bs address ≡ Some cs → IsFound size address bs cs
found_block size address [] cs f = absurd (cc f)
found_block size address (b ∷ bs) cs f = by (is_open b.kind) (lent_from size (b ∷ bs) == address) refl f (λ g. found_block size address bs cs g)
  where
    by :
        (o t : Bool) → (lent_from size (b ∷ bs) == address) ≡ t → (if o && t then Some (b ∷ bs) else blocks_from size bs address) ≡ Some cs
        → (blocks_from size bs address ≡ Some cs → IsFound size address bs cs) → IsFound size address (b ∷ bs) cs
    by true true e g inner =
        let all : b ∷ bs ≡ cs = cc g in
        record {
          fewer_words = omega (arith, ap words_of all);
          fewer = omega (arith, ap length all);
          here = ap (lent_from size) (sym all) ∙ eqb-true (lent_from size (b ∷ bs)) address e;
        }
    by true false e g inner = let h = inner g in record { fewer_words = omega (arith, h.fewer_words); fewer = omega (arith, h.fewer); here = h.here }
    by false t e g inner = let h = inner g in record { fewer_words = omega (arith, h.fewer_words); fewer = omega (arith, h.fewer); here = h.here }

module _ (setting : Setting) (placed : IsPlaced setting) (a : Start setting) where
  abbrev pub outer_around : AroundStands setting a.w a.rs a.valid a.around a.z a.y
  outer_around = a.begins.call.around_stands

  abbrev pub inner_around : List (List ℕ × ℕ) → List Value → DynamicContext
  inner_around bs hs = record a.around { bindings = bs; handlers = hs }

  abbrev pub inner_state : List Value → FlatState
  inner_state vs = record a.z { state = record a.z.state { variables = vs } }

  abbrev pub inner_world : List BoxPlace → World
  inner_world boxes = record a.w { boxes = boxes }

  -- Where the code inside begins: with these bindings and handlers around, these variables of the state and these places of them. The control word at
  -- `slot`, which said `old`, was stored for the code inside, and the register `keeper` has what it said; so much was paid.
  pub record Within (count cost slot old keeper d n : ℕ) (boxes : List BoxPlace) (vs : List Value) (bs : List (List ℕ × ℕ)) (hs : List Value) (regs : Registers) (y : MidState) : Type 0 where
    pub begins : Begins setting a.rs a.valid a.s d n (inner_world boxes) a.env (inner_around bs hs) (inner_state vs) regs y
    pub room : count + 2 ≤ left a.y.arena
    pub blocks : y.arena.blocks ≡ record_of count ∷ a.y.arena.blocks
    pub size : length y.arena.memory ≡ length a.y.arena.memory
    pub heap_to : y.arena.heap_to ≡ a.y.arena.heap_to
    pub outer_words : (x : ℕ) → stack_from a.y.arena ≤ x → word_at y.arena x ≡ word_at a.y.arena x
    pub old_places : (i x : ℕ) → slice_get a.w.boxes i ≡ Some (on_stack x) → stack_from a.y.arena ≤ x → slice_get boxes i ≡ Some (on_stack x)
    pub new_places : (i x : ℕ) → slice_get boxes i ≡ Some (on_stack x) → stack_from a.y.arena ≤ x → slice_get a.w.boxes i ≡ Some (on_stack x)
    pub heap_places : (i x : ℕ) → slice_get a.w.boxes i ≡ Some (on_heap x) → slice_get boxes i ≡ Some (on_heap x)
    pub slot_stored : IsStored slot
    pub slot_aligned : slot % 4 ≡ 0
    pub slot_other : slot ≡ serials_address → ⊥
    pub old_word : HasWordAt a.y slot old
    pub controls : (x n : ℕ) → control_address ≤ x → x ≤ end_address → (slot ≡ x → ⊥) → HasWordAt a.y x n → HasWordAt y x n
    pub paid : y.cost ≡ a.y.cost + cost
    pub register_count : length regs ≡ length a.regs
    pub same : (i : ℕ) → i < a.d → slice_get regs i ≡ slice_get a.regs i
    pub keeper_high : a.d < keeper
    pub keeper_low : keeper < d
    pub kept_old : register keeper regs ≡ Some old

  -- the code behind: what was stored stands again, and the result is where it is to be
  abbrev pub tail : (slot keeper d : ℕ) → Steps
  tail slot keeper d = constant a.d 0 ∷ store keeper a.d slot ∷ move a.d d ∷ []

  -- what the whole comes to, by what the code inside came to
  abbrev pub closed : Context → (slot keeper d word : ℕ) → MidOutcome → MidOutcome
  closed c slot keeper d word q =
      landed (length a.y.arena.blocks) (run_landing (length a.y.arena.blocks) word (λ g v. exec c no_step g v))
      (mid_go_on (mid_go_on q (λ g v. exec c (code_of (tail slot keeper d)) g v)) (λ g v. jumped (give_back (length a.y.arena.blocks) g v)))

  module _ {count cost slot old keeper d n : ℕ} {boxes : List BoxPlace} {vs : List Value} {bs : List (List ℕ × ℕ)} {hs : List Value} {regs : Registers} {y : MidState}
      (h : Within count cost slot old keeper d n boxes vs bs hs regs y) where
    abbrev w1 : World
    w1 = inner_world boxes

    abbrev z1 : FlatState
    z1 = inner_state vs

    abbrev around1 : DynamicContext
    around1 = inner_around bs hs

    outer_stands : ArenaStands a.y.arena
    outer_stands = a.begins.call.things.represents.arena

    stack_inside : stack_from y.arena + 4 * (count + 2) ≡ stack_from a.y.arena
    stack_inside =
        let same : stack_from y.arena ≡ begin_of (length y.arena.memory) (record_of count ∷ a.y.arena.blocks) = ap (begin_of (length y.arena.memory)) h.blocks in
        let below = room_below (count + 2) outer_stands h.room in
        omega (arith, same, h.size, below, outer_stands.blocks)

    -- what is kept from inside is kept from outside, where no binding inside stands any more
    world_outward :
        {w3 : World} {z3 : FlatState} {y3 : MidState} → WorldKept setting w1 w3 z1 z3 y y3
        → ((i x : ℕ) → slice_get w3.boxes i ≡ Some (on_stack x) → stack_from a.y.arena ≤ x) → WorldKept setting a.w w3 a.z z3 a.y y3
    world_outward k high = record {
      later = record {
        spots = λ p s e. k.later.spots p s e;
        boxes = λ i x e. k.later.boxes i x (h.heap_places i x e);
        methods = λ i m e. k.later.methods i m e;
        exit_forms = λ e o f. k.later.exit_forms e o f;
        none_new = λ i x e. h.new_places i x (k.later.none_new i x e) (high i x e);
      };
      things = k.things;
      stack = record {
        words = λ x low above plain.
            k.stack.words x (let inside = stack_inside in omega (arith, low, inside)) above (λ i e. plain i (h.new_places i x e low)) ∙ h.outer_words x low;
        bindings = λ i x e low above. k.stack.bindings i x (h.old_places i x e low) (let inside = stack_inside in omega (arith, low, inside)) above;
      };
      end = λ m e. k.end m (h.controls end_address m (omega arith) (omega arith) (λ same. let stored = h.slot_stored in omega (arith, same, stored)) e);
      more_exits = k.more_exits;
      same_size = k.same_size ∙ h.size;
    }

    -- the activation with what is around outside
    activation_around :
        {w2 : World} {z2 : FlatState} {g : Registers} (v v' : MidState) → ActivationStands setting a.s a.rs a.valid w2 a.env around1 z2 g v
        → MethodHeld setting w2 v'.arena a.s.keeps_method g a.s.code.method a.env.method → ActivationStands setting a.s a.rs a.valid w2 a.env a.around z2 g v'
    activation_around v v' t m = record {
      slot_count = t.slot_count;
      home_count = t.home_count;
      homes = t.homes;
      slots = t.slots;
      exit_count = t.exit_count;
      flat_count = t.flat_count;
      exits = t.exits;
      exit_forms = t.exit_forms;
      kinds = t.kinds;
      made_by = t.made_by;
      self = t.self;
      method = m;
      site = t.site;
    }

    -- ---- the code inside fell out

    module _ {r : FlatEvaluated} {q : MidOutcome} (x : Fell setting 0 a.rs a.valid a.s d w1 a.env around1 z1 regs y r q) where
      inner : WorldKept setting w1 x.w' z1 r.state y q.state
      inner = x.reached.kept.world

      inner_stands : ArenaStands q.state.arena
      inner_stands = inner.things.represents.arena

      blocks_then : q.state.arena.blocks ≡ record_of count ∷ a.y.arena.blocks
      blocks_then = x.reached.back.blocks ∙ h.blocks

      abbrev arena_back : Arena
      arena_back = with_blocks a.y.arena.blocks q.state.arena

      abbrev total : ℕ
      total = q.state.cost + 6 + 8 + 6 + 10 + 2

      abbrev state_back : MidState
      state_back = touched ((slot, old) ∷ []) arena_back total q.state

      abbrev world_back : World
      world_back = world_with (boxes_cut (stack_from arena_back) x.w'.boxes) x.w'.exit_forms x.w'

      abbrev registers_back : Registers
      registers_back = slice_set (slice_set q.registers a.d (Some 0)) a.d (Some x.word)

      grows : Grows q.state.arena arena_back
      grows = grows_with_blocks (record_of count ∷ []) a.y.arena.blocks inner_stands blocks_then

      from_then : stack_from q.state.arena ≡ stack_from y.arena
      from_then = ap (λ m. begin_of m q.state.arena.blocks) inner.same_size ∙ ap (begin_of (length y.arena.memory)) x.reached.back.blocks

      from_back : stack_from arena_back ≡ stack_from a.y.arena
      from_back = ap (λ m. begin_of m a.y.arena.blocks) (inner.same_size ∙ h.size)

      after_store : stack_from state_back.arena ≡ stack_from arena_back
      after_store = stored_from ((slot, old) ∷ []) arena_back

      gives : Touched q.state.arena arena_back ((slot, old) ∷ []) (stack_from arena_back)
      gives = record {
        grows = grows;
        from = q.state.arena.heap_to;
        to = q.state.arena.heap_to;
        touches = (h.slot_aligned, inl h.slot_stored, tt);
        low = omega arith;
        high = inner_stands.room;
        before = let since = from_then in let back = from_back in let inside = stack_inside in omega (arith, since, back, inside);
        after = omega arith;
        least = λ p low high. high;
      }

      -- where the control words stand
      control_below : end_address < q.state.arena.heap_to
      control_below = let low = spot_below inner_stands (inner.things.represents.spots (of_other 1) (control_spot setting) inner.things.control) in omega (arith, low)

      control_stays : (p : ℕ) → p ≤ end_address → (slot ≡ p → ⊥) → word_at state_back.arena p ≡ word_at q.state.arena p
      control_stays p low other =
          stored_elsewhere ((slot, old) ∷ []) arena_back p (h.slot_aligned, tt) (other, tt) ∙ grows.words p (let below = control_below in omega (arith, low, below))

      slot_lent : is_lent q.state.arena slot ≡ true
      slot_lent =
          let stored = h.slot_stored in
          in_spot_lent slot (inner.things.represents.spots (of_other 1) (control_spot setting) inner.things.control) h.slot_aligned (omega (arith, stored)) (omega (arith, stored))

      slot_lent_back : is_lent arena_back slot ≡ true
      slot_lent_back =
          let stored = h.slot_stored in
          in_spot_lent slot (spot_grown grows.heap (inner.things.represents.spots (of_other 1) (control_spot setting) inner.things.control)) h.slot_aligned
          (omega (arith, stored)) (omega (arith, stored))

      slot_says : word_at state_back.arena slot ≡ Some old
      slot_says = word_here arena_back slot old slot_lent_back (in_heap_there slot grows.stands (let below = control_below in let stored = h.slot_stored in omega (arith, below, stored)))

      made : ExitsMade x.w' r.state x.w'.exit_forms r.state.state.exits (stores ((slot, old) ∷ []) arena_back)
      made =
          let s = inner.things.serials in
          record {
            drawn = s.0;
            word = control_stays serials_address (omega arith) h.slot_other ∙ s.1;
            count = s.2;
            low = s.3;
            more = omega arith;
            form_count = inner.things.exit_forms;
            forms_kept = λ e o f. f;
          }

      gave : WorldKept setting x.w' world_back r.state r.state q.state state_back
      gave = world_touched setting total r.state.state.made placed inner.things gives made

      world_behind : WorldKept setting a.w world_back a.z r.state a.y state_back
      world_behind =
          world_outward
          (world_both setting inner gave
          (λ p low high. let since = from_then in omega (arith, low, since)))
          (λ i p e. let high = stack_above (stack_from arena_back) i p x.w'.boxes e in let back = from_back in omega (arith, high, back))

      stays : Same x.w' world_back state_back state_back
      stays = record {
        blocks = refl;
        size = refl;
        stack = record {
          words = λ p low high plain. refl;
          bindings = λ i p e low high. stack_stays (stack_from arena_back) i p x.w'.boxes e (let same = after_store in omega (arith, low, same));
        };
      }

      -- a control word says what it said outside
      says_again : (p m : ℕ) → control_address ≤ p → p ≤ end_address → ((k : ℕ) → HasWordAt y p k → HasWordAt q.state p k) → HasWordAt a.y p m → HasWordAt state_back p m
      says_again p m low high back e = by (slot == p) refl
        where
          by : (b : Bool) → (slot == p) ≡ b → HasWordAt state_back p m
          by true f =
              let same : slot ≡ p = eqb-true slot p f in
              let one : old ≡ m = cc (h.old_word, ap (word_at a.y.arena) same, e) in
              subst (λ k. word_at state_back.arena k ≡ Some m) same (slot_says ∙ ap (λ k. Some k) one)
          by false f = let other = eqb-false slot p f in control_stays p high other ∙ back m (h.controls p m low high other e)

      register_kept : (i : ℕ) → i < a.d → slice_get registers_back i ≡ slice_get q.registers i
      register_kept i low =
          set_elsewhere (slice_set q.registers a.d (Some 0)) a.d i (Some x.word) (λ e. omega (arith, e, low))
          ∙ set_elsewhere q.registers a.d i (Some 0) (λ e. omega (arith, e, low))

      reached_behind : {credit : ℕ} → cost + 32 ≤ credit → ReachedFrom setting credit a a.d world_back r.state registers_back state_back
      reached_behind {credit} enough =
          let kept = x.reached.kept in
          let back = x.reached.back in
          record {
            kept = record {
              world = world_behind;
              activation =
                  activation_later setting {d = a.d} gave.later stays refl (λ m cs e. e)
                  (λ i low. ap word_in (register_kept i low)) a.begins.scope
                  (activation_around q.state state_back kept.activation
                  (method_shallower setting x.w' q.state state_back a.s.keeps_method q.registers a.s.code.method a.env.method
                  (let since = from_then in let from = from_back in let inside = stack_inside in let same = after_store in omega (arith, since, from, inside, same))
                  (λ p low plain. gave.stack.words p (let since = from_then in let from = from_back in let inside = stack_inside in let same = after_store in omega (arith, low, since, from, inside, same)) low plain)
                  kept.activation.method));
              registers = record {
                count =
                    length-set (slice_set q.registers a.d (Some 0)) a.d (Some x.word) ∙ length-set q.registers a.d (Some 0) ∙ kept.registers.count ∙ h.register_count;
                same = λ i low none.
                    register_kept i low ∙ kept.registers.same i (let up = h.keeper_low in let high = h.keeper_high in omega (arith, low, up, high)) none ∙ h.same i low;
              };
            };
            back = record {
              control = record {
                current = λ m e. says_again current_address m (omega arith) (omega arith) back.control.current e;
                link = λ m e. says_again link_address m (omega arith) (omega arith) back.control.link e;
                handlers = λ m e. says_again handlers_address m (omega arith) (omega arith) back.control.handlers e;
                bindings = λ m e. says_again bindings_address m (omega arith) (omega arith) back.control.bindings e;
              };
              blocks = refl;
              charged =
                  let since = from_then in let from = from_back in let inside = stack_inside in let same = after_store in
                  omega (arith, back.charged, since, from, inside, same, inner_stands.room, inner_stands.aligned, h.heap_to, outer_stands.room, outer_stands.aligned);
              paid = omega (arith, back.paid, h.paid, enough);
            };
          }

      -- the code behind it runs
      tail_runs :
          (c : Context) → RunsTo c (code_of (tail slot keeper d)) q.registers q.state
          (ends falls registers_back (record q.state { arena = with_word slot old q.state.arena; cost = q.state.cost + 6 + 8 + 6 }))
      tail_runs c =
          let there : a.d < length q.registers = subst (λ m. a.d < m) (sym (x.reached.kept.registers.count ∙ h.register_count)) a.begins.first in
          let keeper_word : register keeper q.registers ≡ Some old =
          ap word_in (x.reached.kept.registers.same keeper h.keeper_low (λ i e. let low = a.begins.scope.slots_below i keeper e in let high = h.keeper_high in omega (arith, low, high))) ∙ h.kept_old
          in
          and_then constant_falls
          (and_then
          (store_falls (register_beside q.registers a.d keeper (Some 0) (λ e. let high = h.keeper_high in omega (arith, e, high)) ∙ keeper_word) (register_here q.registers a.d 0 there)
          (address_above 0 slot slot (omega arith) (let stored = h.slot_stored in omega (arith, stored))) slot_lent)
          (and_then
          (move_falls
          (register_beside q.registers a.d d (Some 0) (λ e. let high = h.keeper_high in let low = h.keeper_low in omega (arith, e, high, low)) ∙ x.in_register))
          none_left))

      fell_closes : (c : Context) (word : ℕ) → closed c slot keeper d word q ≡ ends falls registers_back state_back
      unfolding mid_go_on landed
      fell_closes c word =
          ap (λ o. landed (length a.y.arena.blocks) (run_landing (length a.y.arena.blocks) word (λ g v. exec c no_step g v)) (mid_go_on o (λ g v. jumped (give_back (length a.y.arena.blocks) g v))))
          (go_on_falls q (λ g v. exec c (code_of (tail slot keeper d)) g v) x.end ∙ (tail_runs c).same)
          ∙ ap (λ o. landed (length a.y.arena.blocks) (run_landing (length a.y.arena.blocks) word (λ g v. exec c no_step g v)) o)
          (jumped_falls
          (gives_back (record_of count) a.y.arena.blocks registers_back (record q.state { arena = with_word slot old q.state.arena; cost = q.state.cost + 6 + 8 + 6 }) blocks_then refl))

    -- ---- a transfer left it

    module _ {r : FlatEvaluated} {q : MidOutcome} (x : Left setting 0 a.rs a.valid a.s d w1 a.env around1 z1 regs y r q) where
      abbrev moved : Transfers setting 0 a.rs a.valid w1 around1 z1 y r q
      moved = x.transfer

      abbrev passed : WorldKept setting w1 moved.w' z1 r.state y q.state
      passed = moved.world

      to_in : IsIn moved.to a.rs
      to_in = first_stop_in moved.target.address a.rs moved.to moved.outer moved.stop

      to_stands : RecordAt a.w a.y moved.to
      to_stands = outer_around.records moved.to to_in

      found_outer : IsFound (length a.y.arena.memory) moved.to.address a.y.arena.blocks to_stands.block.blocks
      found_outer = found_block (length a.y.arena.memory) moved.to.address a.y.arena.blocks to_stands.block.blocks to_stands.block.found

      to_high : stack_from a.y.arena + 8 ≤ moved.to.address
      to_high = omega (arith, found_outer.here, found_outer.fewer_words)

      found_again : blocks_from (length y.arena.memory) y.arena.blocks moved.to.address ≡ blocks_from (length a.y.arena.memory) a.y.arena.blocks moved.to.address
      found_again =
          ap (λ m. blocks_from m y.arena.blocks moved.to.address) h.size ∙ ap (λ l. blocks_from (length a.y.arena.memory) l moved.to.address) h.blocks
          ∙ ap (λ b. if b then Some (record_of count ∷ a.y.arena.blocks) else blocks_from (length a.y.arena.memory) a.y.arena.blocks moved.to.address)
          (ne_eqb _ _ other)
        where
          other : lent_from (length a.y.arena.memory) (record_of count ∷ a.y.arena.blocks) ≡ moved.to.address → ⊥
          other e =
              let below = room_below (count + 2) outer_stands h.room in
              let high = to_high in
              omega (arith, e, high, below, outer_stands.blocks)

      blocks_outer : blocks_from (length a.y.arena.memory) a.y.arena.blocks moved.to.address ≡ Some q.state.arena.blocks
      blocks_outer = sym found_again ∙ moved.blocks

      found_then : IsFound (length a.y.arena.memory) moved.to.address a.y.arena.blocks q.state.arena.blocks
      found_then = found_block (length a.y.arena.memory) moved.to.address a.y.arena.blocks q.state.arena.blocks blocks_outer

      from_cut : stack_from a.y.arena ≤ stack_from q.state.arena
      from_cut = let same = passed.same_size in omega (arith, found_then.fewer_words, same, h.size)

      not_here : (moved.to.outside == length a.y.arena.blocks) ≡ false
      not_here =
          let one : to_stands.block.blocks ≡ q.state.arena.blocks = cc (to_stands.block.found, blocks_outer) in
          ne_eqb _ _ (λ e. omega (arith, e, to_stands.block.count, ap length one, found_then.fewer))

      abbrev world_cut : World
      world_cut = world_with (boxes_cut (stack_from q.state.arena) moved.w'.boxes) moved.w'.exit_forms moved.w'

      cut_stands : ArenaStands q.state.arena
      cut_stands = passed.things.represents.arena

      nothing_stored : Touched q.state.arena q.state.arena [] (stack_from q.state.arena)
      nothing_stored = record {
        grows = grows_same q.state.arena cut_stands;
        from = q.state.arena.heap_to;
        to = q.state.arena.heap_to;
        touches = tt;
        low = omega arith;
        high = cut_stands.room;
        before = omega arith;
        after = omega arith;
        least = λ p low high. high;
      }

      cut_made : ExitsMade moved.w' r.state moved.w'.exit_forms r.state.state.exits q.state.arena
      cut_made =
          let s = passed.things.serials in
          record {
            drawn = s.0;
            word = s.1;
            count = s.2;
            low = s.3;
            more = omega arith;
            form_count = passed.things.exit_forms;
            forms_kept = λ e o f. f;
          }

      gone : WorldKept setting moved.w' world_cut r.state r.state q.state q.state
      gone = world_touched setting q.state.cost r.state.state.made placed passed.things nothing_stored cut_made

      cut_stays : Same moved.w' world_cut q.state q.state
      cut_stays = record {
        blocks = refl;
        size = refl;
        stack = record { words = λ p low high plain. refl; bindings = λ i p e low high. stack_stays (stack_from q.state.arena) i p moved.w'.boxes e low };
      }

      left_behind : {credit : ℕ} → cost ≤ credit → Left setting credit a.rs a.valid a.s a.d a.w a.env a.around a.z a.regs a.y r q
      left_behind enough = record {
        transfer = record {
          exit_number = moved.exit_number;
          result = moved.result;
          landing = moved.landing;
          outcome = moved.outcome;
          target = moved.target;
          valid_target = moved.valid_target;
          to = moved.to;
          outer = moved.outer;
          stop = moved.stop;
          word = moved.word;
          end = moved.end;
          blocks = blocks_outer;
          w' = world_cut;
          of_value = moved.of_value;
          world =
              world_outward (world_both setting passed gone (λ p low high. high))
              (λ i p e. let high = stack_above (stack_from q.state.arena) i p moved.w'.boxes e in let from = from_cut in omega (arith, high, from));
          charged =
              let charged = moved.charged in
              let inside = stack_inside in
              let within = h.begins.call.things.represents.arena in
              omega (arith, charged, inside, h.heap_to, outer_stands.room, outer_stands.aligned, within.room, within.aligned);
          paid = omega (arith, moved.paid, h.paid, enough);
          pending = moved.pending;
          landing_word = moved.landing_word;
          landing_stands = moved.landing_stands;
          landing_is = moved.landing_is;
          lands = moved.lands;
        };
        activation =
            activation_later setting {d = a.d} gone.later cut_stays refl (λ m cs e. e) (λ i low. refl) a.begins.scope
            (activation_around q.state q.state x.activation x.activation.method);
        registers = record {
          count = x.registers.count ∙ h.register_count;
          same = λ i low none. x.registers.same i (let up = h.keeper_low in let high = h.keeper_high in omega (arith, low, up, high)) none ∙ h.same i low;
        };
      }

      left_closes : (c : Context) (word : ℕ) → closed c slot keeper d word q ≡ q
      unfolding mid_go_on landed choose_by
      left_closes c word =
          ap (λ o. landed (length a.y.arena.blocks) (run_landing (length a.y.arena.blocks) word (λ g v. exec c no_step g v)) (mid_go_on o (λ g v. jumped (give_back (length a.y.arena.blocks) g v))))
          (go_on_last (cuts moved.to.outside moved.word) q (λ g v. exec c (code_of (tail slot keeper d)) g v) moved.end tt)
          ∙ ap (λ o. landed (length a.y.arena.blocks) (run_landing (length a.y.arena.blocks) word (λ g v. exec c no_step g v)) o)
          (go_on_last (cuts moved.to.outside moved.word) q (λ g v. jumped (give_back (length a.y.arena.blocks) g v)) moved.end tt)
          ∙ ap (λ e. landed_from e (length a.y.arena.blocks) (run_landing (length a.y.arena.blocks) word (λ g v. exec c no_step g v)) q) moved.end
          ∙ ap (λ b. choose_by b (run_landing (length a.y.arena.blocks) word (λ g v. exec c no_step g v) moved.word) (ends (cuts moved.to.outside moved.word)) q.registers q.state) not_here
          ∙ ap (λ e. ends e q.registers q.state) (sym moved.end)

    -- ---- it stopped

    stopped_closes : (c : Context) (word : ℕ) (r : FlatEvaluated) (q : MidOutcome) (e : End) → q.end ≡ e → Because setting r e → closed c slot keeper d word q ≡ q
    unfolding mid_go_on landed
    stopped_closes c word r q e same because = by e same because
      where
        through : (e : End) → q.end ≡ e → IsLast e → landed_from e (length a.y.arena.blocks) (run_landing (length a.y.arena.blocks) word (λ g v. exec c no_step g v)) q ≡ q → closed c slot keeper d word q ≡ q
        through e same last passes =
            ap (λ o. landed (length a.y.arena.blocks) (run_landing (length a.y.arena.blocks) word (λ g v. exec c no_step g v)) (mid_go_on o (λ g v. jumped (give_back (length a.y.arena.blocks) g v))))
            (go_on_last e q (λ g v. exec c (code_of (tail slot keeper d)) g v) same last)
            ∙ ap (λ o. landed (length a.y.arena.blocks) (run_landing (length a.y.arena.blocks) word (λ g v. exec c no_step g v)) o)
            (go_on_last e q (λ g v. jumped (give_back (length a.y.arena.blocks) g v)) same last)
            ∙ ap (λ x. landed_from x (length a.y.arena.blocks) (run_landing (length a.y.arena.blocks) word (λ g v. exec c no_step g v)) q) same ∙ passes

        by : (e : End) → q.end ≡ e → Because setting r e → closed c slot keeper d word q ≡ q
        by (no_room asked left_then) same k = through (no_room asked left_then) same tt refl
        by no_level same k = through no_level same tt refl
        by exhausted same k = through exhausted same tt refl
        by falls same k = absurd k
        by (returns v) same k = absurd k
        by (cuts m v) same k = absurd k
        by no_turn same k = absurd k
        by (halts v) same k = absurd k
        by (unhandled class site condition) same k = absurd k
        by stuck same k = absurd k

    closed_grown :
        (c : Context) (word : ℕ) (q : MidOutcome) → ((g : Registers) (v : MidState) → Grown v (exec c (code_of (tail slot keeper d)) g v).state)
        → ((g : Registers) (v : MidState) → Grown v (exec c no_step g v).state) → Grown q.state (closed c slot keeper d word q).state
    closed_grown c word q grown none =
        landed_grown (length a.y.arena.blocks) (run_landing (length a.y.arena.blocks) word (λ g v. exec c no_step g v)) _ q.state
        (go_on_grown _ (λ g v. jumped (give_back (length a.y.arena.blocks) g v)) q.state
        (go_on_grown q (λ g v. exec c (code_of (tail slot keeper d)) g v) q.state (same_grown q.state) grown) (λ g v. after_inside_grown (length a.y.arena.blocks) g v))
        (λ w g v. run_landing_grown (length a.y.arena.blocks) word (λ g v. exec c no_step g v) w g v none)

    -- **the whole**, by what the code inside comes to
    pub within_ends :
        (c : Context) (word : ℕ) {credit : ℕ} {r : FlatEvaluated} {q : MidOutcome} → cost + 32 ≤ credit
        → ((g : Registers) (v : MidState) → Grown v (exec c (code_of (tail slot keeper d)) g v).state) → ((g : Registers) (v : MidState) → Grown v (exec c no_step g v).state)
        → FormEnds setting 0 a.turns a.rs a.valid a.s d w1 a.env around1 z1 regs y r q → EndsAt setting credit a r (closed c slot keeper d word q)
    within_ends c word {credit} {r} {q} enough grown none (done x) =
        subst (λ o. EndsAt setting credit a r o) (sym (fell_closes x c word))
        (done (record {
          result = x.result;
          outcome = x.outcome;
          end = refl;
          w' = world_back x;
          reached = reached_behind x enough;
          word = x.word;
          in_register =
              register_here (slice_set q.registers a.d (Some 0)) a.d x.word
              (subst (λ m. a.d < m) (sym (length-set q.registers a.d (Some 0) ∙ x.reached.kept.registers.count ∙ h.register_count)) a.begins.first);
          of_value = x.of_value;
        }))
    within_ends c word {credit} {r} {q} enough grown none (left_by x) =
        subst (λ o. EndsAt setting credit a r o) (sym (left_closes x c word)) (left_by (left_behind x (omega (arith, enough))))
    within_ends c word {credit} {r} {q} enough grown none (full_there f) =
        let more = closed_grown c word q grown none in
        full_there (record {
          asked = f.asked;
          left_then = f.left_then;
          outcome = f.outcome;
          printed = both_prefix f.printed (record { rest = more.printed.0; is = sym more.printed.1 });
        })
    within_ends c word {credit} {r} {q} enough grown none (stopped f) =
        subst (λ o. EndsAt setting credit a r o) (sym (stopped_closes c word r q q.end refl f.because)) (stopped (stopped_before setting (omega (arith, enough)) f))
    within_ends c word {credit} {r} {q} enough grown none (few_turns f) = few_turns (omega (arith, f, h.size))
