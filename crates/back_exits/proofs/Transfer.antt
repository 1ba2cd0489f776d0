-- **The transfer to the record of a valid exit**: its routine walks outwards to the first record where the transfer stops, and cuts to it.
use Rattle.std.proofs.Common.{◌≡◌, inl, inr, ℕ, suc, ◌+◌, ◌*◌, ◌<◌, ◌≤◌, Bool, true, false, List, [], ◌∷◌, ◌++◌, length, Some, None, refl, sym, ap, ◌∙◌, subst, arith}
use Rattle.std.specs.Prelude.{slice_get, ◌==◌, ◌||◌, nat_le, if◌then◌else◌}
use Rattle.std.proofs.lemmas.Bool.{eq-eqb}
use Rattle.std.proofs.lemmas.Bool.Decides.{nat_tests}
use Rattle.std.proofs.Math.ListN.{length-set}
use Rattle.lang_meaning.specs.State.{DynamicContext, Exit, Landing}
use Rattle.lang_meaning.specs.Values.{Value}
use Rattle.flat_language.specs.FlatState.{FlatState}
use Rattle.flat_language.specs.FlatState.{leaves as flat_leaves}
use Rattle.mid_code.specs.Arena.{Arena, Block, activation_frame, begin_of, stack_from, left, word_at, with_word, with_blocks, with_new_block, blocks_from, outside_of}
use Rattle.mid_code.specs.Meaning.{Context, exec, leaves}
use Rattle.mid_code.specs.MidCode.{cut_to, code_of}
use Rattle.mid_code.specs.State.{Registers, register, falls, cuts, ends, with_arena, charged, MidState}
use Rattle.mid_arena.specs.Places.{of_other}
use Rattle.mid_arena.specs.Standing.{ArenaStands, SpotStands}
use Rattle.mid_arena.specs.Growing.{Grows, Changes}
use Rattle.mid_arena.proofs.FixedChanges.{one_word}
use Rattle.mid_arena.proofs.Growing.{changes_of_growing, changes_both, spot_below, spot_grown}
use Rattle.mid_arena.proofs.Memory.{in_spot_lent, in_spot_there, word_here, grows_with_new_block, grows_with_blocks}
use Rattle.mid_arena.proofs.OwnWords.{changes_further}
use Rattle.mid_arena.proofs.Running.{StepsTo, RunsTo, and_then, and_ends, some_found, constant_falls, load_falls, store_falls, address_above}
use Rattle.back_lowering.specs.ControlWords.{record_kind, record_outer, current_address, target_address, landing_address}
use Rattle.back_lowering.specs.RoutineCodes.{transfer_code}
use Rattle.back_lowering.specs.Program.{procedure_with}
use Rattle.back_lowering.specs.Routines.{transfer_routine}
use Rattle.back_relation.specs.Setting.{Setting, control_spot}
use Rattle.back_relation.specs.Placed.{IsPlaced}
use Rattle.back_relation.specs.Worlds.{World, LandsIn, Standing, is_cleanup, IsIn, Chain, Links, record_of_exit, first_stop, record_bytes}
use Rattle.back_relation.specs.StackWords.{HasWordAt, RecordAt}
use Rattle.back_relation.specs.Around.{CallBegins}
use Rattle.back_relation.specs.Ends.{LandingIs, Transfers, CallEnds, AreFew, left_by, few_turns, landing_cost}
use Rattle.back_relation.specs.Forms.{code_at}
use Rattle.back_relation.specs.RoutineClaims.{WordIs}
use Rattle.back_relation.specs.Walks.{walk, Passed, walk_registers, Walked}
use Rattle.back_relation.proofs.Walks.{walks_law}
use Rattle.back_relation.proofs.Growth.{same_flat}
use Rattle.back_relation.proofs.Cuts.{words_fewer, later_cut}
use Rattle.back_relation.proofs.Worlds.{word_later}
use Rattle.back_relation.specs.Cuts.{world_cut}
use Rattle.mid_code.specs.declared.operation.Counted.TheVariants.{Turn}
use Rattle.back_exits.specs.Within.{TransferWithin, transfer_words, transfer_credit, transfer_spare}
use Rattle.back_exits.proofs.Entries.{UsedAt, routine_used, routine_frame, routine_registers, laid_frame, routine_enters}
use Rattle.back_exits.proofs.Frames.{memory_holds, found_outer, one_stands, IsOfTransfer, Touched, world_touched}

-- ---- lists

-- the record of a valid exit stands
pub target_in : (rs : List Standing) (a m e : ℕ) (xs : List Exit) (vs : List Standing) (t : Standing) → Links rs a m xs vs → record_of_exit e xs vs ≡ Some t → IsIn t rs
target_in rs a m e [] vs t l h = absurd (cc h)
target_in rs a m e (x ∷ xs) [] t l h = absurd (cc h)
target_in rs a m e (x ∷ xs) (v ∷ vs) t l h = by (x.number == e) h (λ g. target_in rs v.link x.number e xs vs t l.4 g)
  where
    by : (b : Bool) → (if b then Some v else record_of_exit e xs vs) ≡ Some t → (record_of_exit e xs vs ≡ Some t → IsIn t rs) → IsIn t rs
    by true h inner = let same : v ≡ t = cc h in subst (λ r. IsIn r rs) same l.1
    by false h inner = inner h

-- a transfer to a record that stands stops somewhere
pub record Stops (target : ℕ) (rs : List Standing) : Type 0 where
  pub to : Standing
  pub outer : List Standing
  pub stop : first_stop target rs ≡ to ∷ outer
  pub stands : IsIn to rs

pub stops_somewhere : (t : Standing) (rs : List Standing) → IsIn t rs → Stops t.address rs
stops_somewhere t [] h = absurd h
stops_somewhere t (r ∷ rs) h = by ((r.address == t.address) || is_cleanup r.role) refl h (λ g. stops_somewhere t rs g)
  where
    here : (b : Bool) → (r.address == t.address) ≡ true → ((r.address == t.address) || b) ≡ true
    here b e = ap (λ a. a || b) e

    by : (b : Bool) → ((r.address == t.address) || is_cleanup r.role) ≡ b → IsIn t (r ∷ rs) → (IsIn t rs → Stops t.address rs) → Stops t.address (r ∷ rs)
    by true e h inner = record { to = r; outer = rs; stop = ap (λ b. if b then r ∷ rs else first_stop t.address rs) e; stands = inl refl }
    by false e (inl same) inner = absurd (let one = here (is_cleanup r.role) (eq-eqb r.address t.address (ap (λ (s : Standing). s.address) (sym same))) in cc)
    by false e (inr h) inner =
        let rest = inner h in
        record { to = rest.to; outer = rest.outer; stop = ap (λ b. if b then r ∷ rs else first_stop t.address rs) e ∙ rest.stop; stands = inr rest.stands }

-- records that stand one outside the other have words of their own
pub chain_room : (top above a : ℕ) (rs : List Standing) → Chain above a rs → ((r : Standing) → IsIn r rs → r.address + record_bytes ≤ top) → above ≤ top → above + 24 * length rs ≤ top
chain_room top above a [] c high h = omega arith
chain_room top above a (r ∷ rs) c high h =
    let rest = chain_room top (r.address + record_bytes) r.outer rs c.2 (λ s i. high s (inr i)) (high r (inl refl)) in omega (arith, rest, c.1)

-- ---- the cut

pub cut_ends :
    {c : Context} {block word b w : ℕ} {rs : Registers} {y : MidState} {bs : List Block} → register block rs ≡ Some b → register word rs ≡ Some w
    → blocks_from (length y.arena.memory) y.arena.blocks b ≡ Some bs
    → StepsTo c (cut_to block word) rs y (ends (cuts (outside_of bs) w) rs (with_arena (with_blocks bs y.arena) (charged 16 y)))
unfolding exec
cut_ends {rs = rs} e f found = record { same = some_found _ rs _ e ∙ some_found _ rs _ f ∙ some_found _ rs _ found }

outside_count : (bs : List Block) (n : ℕ) → length bs ≡ n + 1 → outside_of bs ≡ n
outside_count [] n e = absurd (omega (arith, e))
outside_count (b ∷ bs) n e = omega (arith, e)

-- ---- the routine

module _ (setting : Setting) (placed : IsPlaced setting) (k t : ℕ) (rs valid : List Standing) (w : World) (around : DynamicContext) (z : FlatState) (y : MidState)
    (begins : CallBegins setting rs valid transfer_words w around z y)
    (frame : ℕ) (room : frame ≤ left y.arena)
    (target : Standing) (target_there : IsIn target rs) (word : ℕ) where
  open begins use {things, around_stands}

  arena_stands : ArenaStands y.arena
  arena_stands = things.represents.arena

  control_stands : SpotStands y.arena (control_spot setting)
  control_stands = things.represents.spots (of_other 1) (control_spot setting) things.control

  abbrev a0 : Arena
  a0 = with_new_block (record { words = frame; kind = activation_frame }) y.arena

  abbrev a1 : Arena
  a1 = with_word target_address target.address a0

  grown : Grows y.arena a0
  grown = grows_with_new_block (record { words = frame; kind = activation_frame }) arena_stands room

  target_stands : SpotStands y.arena (one_word target_address)
  target_stands = one_stands target_address control_stands refl (omega arith) (omega arith)

  changed : Changes (one_word target_address) y.arena a1
  changed =
      changes_further target_address target.address arena_stands target_stands
      (changes_of_growing y.arena a0 (one_word target_address) grown (omega (arith, spot_below arena_stands target_stands))) refl (omega arith) (omega arith)

  size_same : length a1.memory ≡ length y.arena.memory
  size_same = length-set a0.memory 49 (Some target.address) ∙ grown.size

  below : stack_from a1 ≤ stack_from y.arena
  below = omega (arith, size_same)

  passed : (r : Standing) → IsIn r rs → Passed a1 r
  passed r i =
      let at = around_stands.records r i in
      let lower = below in
      record {
        low = omega (arith, at.high, arena_stands.size);
        kind = changed.stack (r.address + record_kind) (omega (arith, at.low)) (omega (arith, at.low, lower)) ∙ at.kind;
        outer = changed.stack (r.address + record_outer) (omega (arith, at.low)) (omega (arith, at.low, lower)) ∙ at.outer;
      }

  stops : Stops target.address rs
  stops = stops_somewhere target rs target_there

  to_stands : RecordAt w y stops.to
  to_stands = around_stands.records stops.to stops.stands

  abbrev bs : List Block
  bs = to_stands.block.blocks

  abbrev yw : MidState
  yw = record y { arena = a1 }

  abbrev cost_before : ℕ
  cost_before = y.cost + 32 + 6 + 8 + 8 + 6

  module _ (enough : length rs ≤ t) where
    walked : Walked setting.procedures (code_at setting k t).below t target.address word (Some 0) yw around_stands.current None cost_before rs (stops.to ∷ stops.outer) stops.to.address
    walked =
        walks_law setting.procedures (code_at setting k t).below target.address word (Some 0) yw rs t (stack_from y.arena) around_stands.current None cost_before stops.to stops.outer
        around_stands.chain passed stops.stop enough

    abbrev y' : MidState
    y' = record y { arena = with_blocks bs a1; cost = walked.total + 16 }

    abbrev end_registers : Registers
    end_registers = walk_registers target.address word (Some 0) stops.to.address walked.last

    found_again : blocks_from (length a1.memory) a1.blocks stops.to.address ≡ Some bs
    found_again = ap (λ n. blocks_from n y.arena.blocks stops.to.address) size_same ∙ to_stands.block.found

    runs :
        RunsTo (code_at setting k t) (code_of (transfer_code setting.at)) (routine_registers setting 2 (transfer_code setting.at) (target.address ∷ word ∷ []))
        (laid_frame setting frame 2 y) (ends (cuts (outside_of bs) word) end_registers y')
    unfolding transfer_code
    runs =
        and_then constant_falls
        (and_then
        (store_falls refl refl (address_above 0 target_address target_address (omega arith) (omega arith))
        (in_spot_lent target_address (spot_grown grown.heap target_stands) refl (omega arith) (omega arith)))
        (and_then
        (load_falls refl (address_above 0 current_address current_address (omega arith) (omega arith))
        (changed.before current_address (omega arith) ∙ around_stands.current_word))
        (and_then constant_falls
        (and_then walks (and_ends tt (cut_ends refl refl found_again))))))
      where
        walks : StepsTo (code_at setting k t) walk (walk_registers target.address word (Some 0) around_stands.current None) (record y { arena = a1; cost = cost_before })
            (ends falls end_registers (record y { arena = a1; cost = walked.total }))
        walks = record { same = walked.run }

    -- what is below the cut
    abbrev from : ℕ
    from = begin_of (length a1.memory) bs

    parts : (inner : List Block) × (y.arena.blocks ≡ inner ++ bs)
    parts = found_outer (length y.arena.memory) stops.to.address y.arena.blocks bs to_stands.block.found

    cut_grows : Grows a1 (with_blocks bs a1)
    cut_grows =
        grows_with_blocks (record { words = frame; kind = activation_frame } ∷ parts.0) bs changed.stands
        (ap (λ (l : List Block). record { words = frame; kind = activation_frame } ∷ l) parts.1)

    touched : Touched target_address y y'
    touched = record {
      changes =
          let lower = below in
          changes_both y.arena a1 (with_blocks bs a1) (one_word target_address) changed
          (changes_of_growing a1 (with_blocks bs a1) (one_word target_address) cut_grows (omega (arith, spot_below arena_stands target_stands)))
          (λ x low high. omega (arith, low, lower));
      streams = record { printed = refl; input = refl };
      size = size_same;
    }

    of_transfer : IsOfTransfer target_address
    of_transfer = record { aligned = refl; low = omega arith; high = omega arith }

    higher : stack_from y.arena ≤ from
    higher = let fewer = words_fewer (length y.arena.memory) stops.to.address y.arena.blocks bs to_stands.block.found in omega (arith, fewer, size_same)

    -- it cut to the record
    module _ (e : ℕ) (v : Value) (landing : Landing) (landing_word : ℕ) (valid_target : record_of_exit e around.exits valid ≡ Some target) (of_value : WordIs setting w word v)
        (landing_there : HasWordAt y landing_address landing_word) (landing_is : LandingIs setting landing_word landing) (lands : LandsIn (slice_get w.exit_forms e) landing) where
      transfers : Transfers setting (transfer_credit + landing_cost landing) rs valid w around z y (flat_leaves e v landing z) (ends (cuts (outside_of bs) word) end_registers y')
      transfers = record {
        exit_number = e;
        result = v;
        landing = landing;
        outcome = refl;
        target = target;
        valid_target = valid_target;
        to = stops.to;
        outer = stops.outer;
        stop = stops.stop;
        word = word;
        end = ap (λ n. cuts n word) (outside_count bs stops.to.outside to_stands.block.count);
        blocks = to_stands.block.found;
        w' = world_cut from w;
        of_value = word_later (later_cut from w) v word of_value;
        world = world_touched setting placed of_transfer things touched from higher (omega arith) (λ a low high. high);
        charged = let high = arena_stands.room in omega (arith, high);
        paid = omega (arith, walked.within);
        pending = λ h. cut_grows.words target_address (omega (arith, spot_below arena_stands target_stands)) ∙ target_stored;
        landing_word = landing_word;
        landing_stands = touched.changes.after landing_address (omega arith) (omega (arith, spot_below arena_stands control_stands)) ∙ landing_there;
        landing_is = landing_is;
        lands = lands;
      }
        where
          target_stored : word_at a1 target_address ≡ Some target.address
          target_stored =
              word_here a0 target_address target.address (in_spot_lent target_address (spot_grown grown.heap target_stands) refl (omega arith) (omega arith))
              (in_spot_there target_address grown.heap.stands (spot_grown grown.heap target_stands) (omega arith))

      transfer_ends :
          {turns : ℕ} → CallEnds setting (transfer_credit + landing_cost landing) turns rs valid w around z y (flat_leaves e v landing z)
          (leaves y.arena.blocks (exec (code_at setting k t) (code_of (transfer_code setting.at)) (routine_registers setting 2 (transfer_code setting.at) (target.address ∷ word ∷ [])) (laid_frame setting frame 2 y)))
      unfolding leaves
      transfer_ends {turns} =
          subst (λ q. CallEnds setting (transfer_credit + landing_cost landing) turns rs valid w around z y (flat_leaves e v landing z) (leaves y.arena.blocks q)) (sym runs.same) (left_by (record { transfer = transfers; frame = refl }))

  -- where turns are too few for the walk
  few : {turns : ℕ} → turns ≡ suc t → t < length rs → AreFew (turns + transfer_spare) z y z
  few e less =
      let all = chain_room (4 * length y.arena.memory) (stack_from y.arena) around_stands.current rs around_stands.chain (λ r i. (around_stands.records r i).high) (omega arith) in
      let low = spot_below arena_stands control_stands in
      let heap = arena_stands.room in
      omega (arith, all, low, heap, e, less)

-- **the transfer**
pub transfer_does :
    (setting : Setting) → IsPlaced setting → (k turns : ℕ) (rs valid : List Standing) (w : World) (around : DynamicContext) (z : FlatState) (y : MidState)
    → TransferWithin setting k turns rs valid w around z y
unfolding transfer_code
transfer_does setting placed k turns rs valid w around z y e v landing target word landing_word valid_target of_value landing_there landing_is lands begins =
    routine_enters setting k (transfer_routine setting.at) (routine_frame setting (transfer_code setting.at)) 2 (transfer_code setting.at) used (target.address ∷ word ∷ []) refl y turns printed (same_flat z) spare begins.room begins.things.within_limit (omega arith) (omega arith)
    (λ t e room. by t e room (nat_le (length rs) t) refl)
  where
    used : UsedAt setting.procedures (transfer_routine setting.at) (procedure_with Turn 2 (transfer_code setting.at))
    used = subst (λ n. UsedAt setting.procedures n (procedure_with Turn 2 (transfer_code setting.at))) (omega arith) (routine_used setting placed 0 (procedure_with Turn 2 (transfer_code setting.at)) refl)

    printed : y.printed ≡ z.state.printed
    printed = begins.things.represents.printed

    spare : transfer_spare ≤ length y.arena.memory
    spare = let all = memory_holds setting begins.things in omega (arith, all)

    by : (t : ℕ) → turns ≡ suc t → used.frame ≤ left y.arena → (b : Bool) → nat_le (length rs) t ≡ b
        → CallEnds setting (transfer_credit + landing_cost landing) (turns + transfer_spare) rs valid w around z y (flat_leaves e v landing z)
        (leaves y.arena.blocks (exec (code_at setting k t) (code_of (transfer_code setting.at)) (routine_registers setting 2 (transfer_code setting.at) (target.address ∷ word ∷ [])) (laid_frame setting used.frame 2 y)))
    by t same room true h =
        transfer_ends setting placed k t rs valid w around z y begins used.frame room target
        (target_in rs begins.around_stands.link z.state.exits e around.exits valid target begins.around_stands.links valid_target) word (grind (arith, nat_tests)) e v landing landing_word
        valid_target of_value landing_there landing_is lands
    by t same room false h =
        few_turns (few setting placed k t rs valid w around z y begins used.frame room target
        (target_in rs begins.around_stands.link z.state.exits e around.exits valid target begins.around_stands.links valid_target) word same (grind (arith, nat_tests)))
