-- **A form that lends a block to the code inside**: there is room for it, the words of the block are stored, the code inside runs, and the block is given back.
use Rattle.std.proofs.Common.{◌≡◌, ℕ, ◌+◌, ◌*◌, ◌<◌, ◌≤◌, List, [], ◌++◌, length, Some, refl, sym, ap, ◌∙◌, subst, ⊎_elim, arith}
use Rattle.std.specs.Prelude.{slice_set}
use Rattle.std.proofs.lemmas.Bool.{cases_lt}
use Rattle.lang_meaning.specs.State.{Limit, words, unlimited, Outcome}
use Rattle.lang_meaning.specs.Values.{Value}
use Rattle.flat_language.specs.FlatState.{FlatEvaluated}
use Rattle.lang_meaning.specs.Prefixes.{IsPrefix}
use Rattle.mid_code.specs.Arena.{left}
use Rattle.mid_code.specs.Law.{Grown}
use Rattle.mid_code.specs.Meaning.{Context, run_landing, run_inside, give_back, exec, exec_step}
use Rattle.mid_code.specs.MidCode.{MidCode, with_block, no_step, code_of}
use Rattle.mid_code.specs.State.{Registers, falls, ends, MidState, landed, jumped}
use Rattle.mid_code.specs.State.{go_on as mid_go_on}
use Rattle.mid_code.proofs.Growth.{exec_grown, levels_grow, turns_grow}
use Rattle.mid_code.specs.Costs.{record_cost}
use Rattle.mid_arena.proofs.Running.{RunsTo, parts_then, in_two_parts}
use Rattle.back_lowering.specs.Steps.{Steps}
use Rattle.back_relation.specs.Setting.{Setting}
use Rattle.back_relation.specs.Placed.{IsPlaced}
use Rattle.back_relation.specs.Room.{words_for_handler}
use Rattle.back_relation.specs.Worlds.{BoxPlace}
use Rattle.back_relation.specs.Things.{WithinLimit}
use Rattle.back_relation.specs.Around.{RoomFor}
use Rattle.back_relation.specs.Ends.{RoomEnded, stopped}
use Rattle.back_relation.specs.Forms.{FormEnds, code_at}
use Rattle.back_relation.specs.Starts.{FlatGrown, Start, EndsAt}
use Rattle.back_exits.proofs.Steps.{laid_state, record_runs, record_wanting}
use Rattle.back_conditions.proofs.Within.{inner_around, inner_state, inner_world, Within, tail, closed, within_ends}
use Rattle.back_conditions.proofs.Lent.{lent_address}

module _ (setting : Setting) (placed : IsPlaced setting) (a : Start setting) where
  -- the block was laid and its words stored, and the code inside does what it means
  pub record Opened (c : Context) (e count slot keeper d n credit : ℕ) (head body : Steps) (r : FlatEvaluated) : Type 0 where
    pub old : ℕ
    pub cost : ℕ
    pub boxes : List BoxPlace
    pub vs : List Value
    pub bs : List (List ℕ × ℕ)
    pub hs : List Value
    pub regs : Registers
    pub y : MidState
    pub within : Within setting placed a count cost slot old keeper d n boxes vs bs hs regs y
    pub runs : RunsTo c (code_of head) (slice_set a.regs e (Some (lent_address setting placed a count))) (laid_state c e count a.d no_step no_step a.regs a.y) (ends falls regs y)
    pub does :
        FormEnds setting 0 a.turns a.rs a.valid a.s d (inner_world setting placed a boxes) a.env (inner_around setting placed a bs hs) (inner_state setting placed a vs) regs y r
        (exec c (code_of body) regs y)
    pub enough : cost + 32 ≤ credit

  room_ended :
      (l : Limit) (n count : ℕ) (o : Outcome) → setting.limit ≡ l → count + 2 ≤ n → RoomFor l (n + words_for_handler * length a.around.handlers) a.z.state a.y
      → WithinLimit l a.z.state → left a.y.arena < count + 2 → RoomEnded setting l o
  room_ended unlimited n count o same h room within few = tt
  room_ended (words m) n count o same h room within few = absurd (omega (arith, h, room, within, few))

  -- **a block is lent**
  pub lends :
      (k : ℕ) (e count slot keeper d n credit : ℕ) (head body : Steps) {r : FlatEvaluated} → count + 2 ≤ a.n → record_cost ≤ credit → FlatGrown a.z r.state
      → (count + 2 ≤ left a.y.arena → Opened (code_at setting k a.turns) e count slot keeper d n credit head body r)
      → EndsAt setting credit a r
      (exec_step (code_at setting k a.turns) (with_block e count a.d (code_of (head ++ (body ++ tail setting placed a slot keeper d))) (code_of [])) a.regs a.y)
  lends k e count slot keeper d n credit head body {r} room cheap grown opened = ⊎_elim without lent (cases_lt (left a.y.arena) (count + 2))
    where
      c : Context
      c = code_at setting k a.turns

      inside : MidCode
      inside = code_of (head ++ (body ++ tail setting placed a slot keeper d))

      without : left a.y.arena < count + 2 → EndsAt setting credit a r (exec_step c (with_block e count a.d inside (code_of [])) a.regs a.y)
      without few =
          subst (λ q. EndsAt setting credit a r q) (sym (record_wanting c e count a.d inside (code_of []) a.regs a.y few))
          (stopped (record {
            because = (room_ended setting.limit a.n count r.outcome refl room a.begins.call.room a.begins.call.things.within_limit few, few);
            printed = subst (λ ps. IsPrefix ps r.state.state.printed) (sym a.begins.call.things.represents.printed) grown.printed;
            paid = λ ended. omega (arith, cheap, grown.units);
          }))

      grows : (code : MidCode) (g : Registers) (v : MidState) → Grown v (exec c code g v).state
      grows code g v =
          exec_grown c (levels_grow setting.procedures setting.turns_each k) (turns_grow setting.procedures _ (levels_grow setting.procedures setting.turns_each k) a.turns) code g v

      lent : count + 2 ≤ left a.y.arena → EndsAt setting credit a r (exec_step c (with_block e count a.d inside (code_of [])) a.regs a.y)
      lent some =
          let o = opened some in
          subst (λ q. EndsAt setting credit a r q) (sym (record_runs c e count a.d inside (code_of []) a.regs a.y some ∙ whole o))
          (within_ends setting placed a o.within c a.d o.enough (λ g v. grows (code_of (tail setting placed a slot keeper d)) g v) (λ g v. grows no_step g v) o.does)
        where
          whole :
              (o : Opened c e count slot keeper d n credit head body r)
              → landed (length a.y.arena.blocks) (run_landing (length a.y.arena.blocks) a.d (λ g v. exec c no_step g v))
              (run_inside (length a.y.arena.blocks) e (λ g v. exec c inside g v) a.regs (laid_state c e count a.d no_step no_step a.regs a.y))
              ≡ closed setting placed a c slot keeper d a.d (exec c (code_of body) o.regs o.y)
          whole o =
              ap
              (λ q. landed (length a.y.arena.blocks) (run_landing (length a.y.arena.blocks) a.d (λ g v. exec c no_step g v))
              (mid_go_on q (λ g v. jumped (give_back (length a.y.arena.blocks) g v))))
              ((parts_then head (body ++ tail setting placed a slot keeper d) o.runs (record { same = in_two_parts c body (tail setting placed a slot keeper d) o.regs o.y })).same)
