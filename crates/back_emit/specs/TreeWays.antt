-- The ways to the frame at the lines of a tree, as code has them; and whether code finds its frame.
use Rattle.std.specs.Prelude.{◌≡◌, ℕ, ◌+◌, ◌^◌, nat_le, Bool, false, List, [], ◌∷◌, ◌++◌, map}
use Rattle.std.specs.List.{list_any}
use Rattle.mid_code.specs.Arena.{header_words}
use Rattle.mid_code.specs.MidCode.{MidStep, perform, choose, switch, repeat, with_block, lend, return_word, cut_to, halt_with, end_unhandled, MidCode, no_step, step_and, MidCodes, no_code, code_and}
use Rattle.mid_lines.specs.StaticRecords as lines
use Rattle.back_places.specs.Places as places
use Rattle.back_trivial.specs.KnownRecords.{known_records}
use Rattle.back_emit.specs.declared.ways.FrameWay.{FrameWay}
use Rattle.back_emit.specs.declared.ways.FrameWay.TheVariants.{FromStack, PastLent, NoWay}
use Rattle.back_emit.specs.Ways.{way_of}

-- the way past one record more, and past a block that was lent
abbrev pub past_record : (words : ℕ) → FrameWay → FrameWay
past_record words (FromStack depth) = FromStack (words + depth)
past_record words (PastLent depth) = NoWay
past_record words NoWay = NoWay

abbrev pub past_block : FrameWay → FrameWay
past_block (FromStack depth) = PastLent depth
past_block (PastLent depth) = NoWay
past_block NoWay = NoWay

-- a way past records of so many words that it is not made, and whether there is one among ways
abbrev pub is_deep : FrameWay → Bool
is_deep (FromStack depth) = nat_le (2 ^ 29) depth
is_deep (PastLent depth) = false
is_deep NoWay = false

abbrev pub has_deep : List FrameWay → Bool
has_deep ways = list_any is_deep ways

-- the ways at each line of a step, and of code, inside of a way
abbrev mutual
  pub step_ways : FrameWay → MidStep → List FrameWay
  step_ways way (perform o) = way ∷ []
  step_ways way (choose t first second) = way ∷ (code_ways way first ++ (way ∷ (code_ways way second ++ way ∷ [])))
  step_ways way (switch r codes) = way ∷ codes_ways way codes
  step_ways way (repeat counted head t body) = code_ways way head ++ (way ∷ (code_ways way body ++ way ∷ []))
  step_ways way (with_block block words word inside landing) =
      way
      ∷ (code_ways (past_record (words + header_words) way) inside
      ++ (past_record (words + header_words) way ∷ way ∷ past_record (words + header_words) way
      ∷ (code_ways (past_record (words + header_words) way) landing ++ past_record (words + header_words) way ∷ [])))
  step_ways way (lend block words inside) = way ∷ (code_ways (past_block way) inside ++ past_block way ∷ [])
  step_ways way (return_word r) = way ∷ []
  step_ways way (cut_to block word) = way ∷ []
  step_ways way (halt_with r) = way ∷ []
  step_ways way (end_unhandled class site condition) = way ∷ []

  pub code_ways : FrameWay → MidCode → List FrameWay
  code_ways way no_step = []
  code_ways way (step_and s c) = step_ways way s ++ code_ways way c

  pub codes_ways : FrameWay → MidCodes → List FrameWay
  codes_ways way no_code = []
  codes_ways way (code_and c codes) = code_ways way c ++ (way ∷ codes_ways way codes)

-- these are the ways past the records that stand at the lines of a tree
abbrev pub LawOfTreeWays : Type 0
LawOfTreeWays =
    (c : MidCode)
    → map way_of (code_ways (FromStack 0) c) ≡ map (λ records. places.way_of (known_records records)) (lines.code_records 0 c [])
