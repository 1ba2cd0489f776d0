-- **What is to be shown of lowered programs**: at every number of levels, with any words and any input, the run of the code does what the
-- program means.
use Rattle.std.specs.Prelude.{◌≡◌, ◌⊎◌, ⊤, ℕ, ◌+◌, ◌*◌, ◌^◌, ◌<◌, ◌≤◌, List, [], Some, length}
use Rattle.lang_meaning.specs.Counts.{bound}
use Rattle.lang_meaning.specs.InitialHeap.{objects_at_start}
use Rattle.lang_meaning.specs.Meaning.{Meant, End, ended_value, ended_unhandled, ended_full, ended_more, class_in}
use Rattle.lang_meaning.specs.Prefixes.{IsPrefix}
use Rattle.lang_meaning.specs.State.{first_state, value, Limit, words, unlimited}
use Rattle.lang_meaning.specs.Values.{Value, nil}
use Rattle.flat_language.specs.FlatMeaning.{mean_mains, flat_meaning}
use Rattle.flat_language.specs.FlatNodes.{tables}
use Rattle.flat_language.specs.FlatState.{FlatState, FlatEvaluated}
use Rattle.mid_code.specs.Meaning.{runs}
use Rattle.mid_code.specs.State as mid
use Rattle.mid_code.specs.State.{MidState, MidOutcome}
use Rattle.mid_arena.specs.Places.{word_of}
use Rattle.back_lowering.specs.Program.{start_number}
use Rattle.back_relation.specs.Setting.{Setting}
use Rattle.back_relation.specs.Room.{main_reserve}
use Rattle.back_relation.specs.Right.{ProgramIsRight}
use Rattle.back_relation.specs.Worlds.{World}
use Rattle.back_relation.specs.Things.{Things, SiteIs}
use Rattle.back_relation.specs.Ends.{PaidFrom, Ends}
use Rattle.back_claims.specs.Mains.{MainBegins, Unhandled}

-- what a run costs beside its units
abbrev pub start_credit : ℕ
start_credit = 2000

-- the frame of the start, and the reserve, which are not charged
abbrev pub start_words : ℕ
start_words = 2 + main_reserve

module _ (setting : Setting) where
  -- the state before the first form, and what the program means from there on
  abbrev pub at_start : List ℕ → FlatState
  at_start input = record { state = first_state (objects_at_start setting.names (tables setting.program)) input; frame = []; captured = [] }

  abbrev pub meant_by : List ℕ → (k : ℕ) → FlatEvaluated
  meant_by input k = mean_mains setting.names setting.program setting.limit k setting.program.main nil (at_start input)

  -- a state of middle code that begins so: nothing was paid, no block stands, and as many words are left as the meaning has
  pub record ProgramBegins (input : List ℕ) (w : World) (y : MidState) : Type 0 where
    pub main : MainBegins setting start_words w (at_start input) y
    pub no_block : y.arena.blocks ≡ []
    pub no_cost : y.cost ≡ 0

  -- the run of the code
  abbrev pub run : (k : ℕ) → MidState → MidOutcome
  run k y =
      runs (record { procedures = setting.procedures; laid = [] }) k setting.turns_each
      (start_number setting.names setting.at setting.program) [] y

  -- it halts with the word of the value of the last form
  pub record Halted (z : FlatState) (y : MidState) (r : FlatEvaluated) (q : MidOutcome) : Type 0 where
    pub result : Value
    pub outcome : r.outcome ≡ value result
    pub word : ℕ
    pub end : q.end ≡ mid.halts word
    pub w' : World
    pub of_value : word_of w'.places result ≡ Some word
    pub things : Things setting w' r.state q.state
    pub paid : PaidFrom start_credit z y r.state q.state

  -- **a program and the run of its code**: it halts as it ends with a value, it ends unhandled as it does, or it stops before
  abbrev pub RunEnds : List ℕ → (k : ℕ) → MidState → Type 0
  RunEnds input k y =
      Ends setting start_credit (Halted (at_start input) y (meant_by input k) (run k y)) (Unhandled setting start_credit (at_start input) y (meant_by input k) (run k y))
      setting.turns_each (at_start input) y (meant_by input k) (run k y)

  -- **what the run does**, in words of the meaning of programs, where there are turns enough
  module _ (input : List ℕ) (k : ℕ) (y : MidState) where
    abbrev pub the_meaning : Meant
    the_meaning = flat_meaning setting.names setting.program input k setting.limit

    abbrev pub code_end : mid.End
    code_end = (run k y).end

    -- the code has not as many words or serial numbers as the meaning, which has no limit of its own
    abbrev pub RunsOutFor : Limit → mid.End → Type 0
    RunsOutFor unlimited (mid.no_room asked left_then) = ⊤
    RunsOutFor limit mid.exhausted = 2 ^ 32 < (meant_by input k).state.state.exits
    RunsOutFor limit end = ⊥

    abbrev pub RunsOut : Type 0
    RunsOut = RunsOutFor setting.limit code_end

    -- an end of code stands for an end of the meaning
    abbrev pub EndsAs : mid.End → End → Type 0
    EndsAs (mid.halts word) (ended_value v) = (w : World) × Things setting w (meant_by input k).state (run k y).state × (word_of w.places v ≡ Some word)
    EndsAs (mid.unhandled class site word) (ended_unhandled c place) =
        (class ≡ class_in the_meaning.store c) × SiteIs setting site place
        × ((w : World) × Things setting w (meant_by input k).state (run k y).state × (word_of w.places c ≡ Some word))
    EndsAs mid.no_level ended_more = ⊤
    EndsAs end (ended_full asked left_then) = ⊤
    EndsAs end other = ⊥

    -- the meaning had no words left
    abbrev pub IsFullEnd : End → Type 0
    IsFullEnd (ended_full asked left_then) = ⊤
    IsFullEnd ended_more = ⊥
    IsFullEnd (ended_value v) = ⊥
    IsFullEnd (ended_unhandled c place) = ⊥

    -- it ended because the program did, with a value or a condition that is not handled
    abbrev pub IsReached : mid.End → Type 0
    IsReached (mid.halts word) = ⊤
    IsReached (mid.unhandled class site word) = ⊤
    IsReached end = ⊥

    pub record RunDoes : Type 0 where
      -- each end of one is the same end of the other
      pub ends : EndsAs code_end the_meaning.end ⊎ RunsOut
      -- what one printed is a prefix of what the other printed: they printed the same where the end was reached, and the code no more than the
      -- program means, unless the meaning had no words left
      pub printed : ((asked left_then : ℕ) → the_meaning.end ≡ ended_full asked left_then → ⊥) → IsPrefix (run k y).state.printed the_meaning.printed
      pub printed_all : IsReached code_end → IsPrefix the_meaning.printed (run k y).state.printed
      -- there is no room only where the words that are charged pass the limit
      pub room : (m asked left_then : ℕ) → setting.limit ≡ words m → code_end ≡ mid.no_room asked left_then → IsFullEnd the_meaning.end
      -- it costs no more than its units pay, where the end was reached, and where the code stopped before an end of the program's own
      pub cost : IsReached code_end → (((asked left_then : ℕ) → the_meaning.end ≡ ended_full asked left_then → ⊥)) → (run k y).state.cost ≤ bound the_meaning.units
      pub paid :
          (the_meaning.end ≡ ended_more → ⊥) → ((asked left_then : ℕ) → the_meaning.end ≡ ended_full asked left_then → ⊥)
          → (run k y).state.cost ≤ bound the_meaning.units
      -- fewer than 2 ^ 32 serial numbers were drawn; exit 0 has none
      pub serials :
          IsReached code_end → ((asked left_then : ℕ) → the_meaning.end ≡ ended_full asked left_then → ⊥)
          → (meant_by input k).state.state.exits ≤ 2 ^ 32
      -- without a limit of the meaning's own nothing is undone: the code never does what it must not do
      pub never_stuck : setting.limit ≡ unlimited → code_end ≡ mid.stuck → ⊥

-- **the claim**: for every setting of a program that is right, at every level, for every input
abbrev pub LoweringIsRight : Type 0
LoweringIsRight =
    (setting : Setting) → ProgramIsRight setting → (input : List ℕ) (k : ℕ) (w : World) (y : MidState) → ProgramBegins setting input w y
    → 16 * (the_meaning setting input k y).units + length y.arena.memory < setting.turns_each → RunDoes setting input k y
