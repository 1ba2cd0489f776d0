-- The ways of a procedure are those past the records that stand at its lines, and behind the last.
use Rattle.std.proofs.Common.{◌≡◌, ◌≤◌, ℕ, zero, suc, ◌+◌, List, [], ◌∷◌, ◌++◌, length, map, Some, refl, sym, ap, ◌∙◌, arith}
use Rattle.std.specs.Prelude.{slice_get}
use Rattle.std.proofs.lemmas.List.{length-map}
use Rattle.std.proofs.lemmas.Option.{slice_get_within}
use Rattle.mid_code.specs.declared.program.MidProcedure.{MidProcedure}
use Rattle.mid_code.specs.declared.program.MidProgram.{MidProgram}
use Rattle.mid_code.specs.MidCode.{MidCode, code_of}
use Rattle.mid_lines.specs.declared.line.Line.{Line}
use Rattle.mid_lines.specs.StaticRecords.{StaticRecord, code_records, records_in, procedure_records}
use Rattle.mid_lines.specs.Flattened.{code_lines}
use Rattle.mid_lines.proofs.Lying.{code_length}
use Rattle.back_places.specs.Places as places
use Rattle.back_trivial.specs.KnownRecords.{known_records, tree_records}
use Rattle.back_trivial.proofs.Counting.{code_count}
use Rattle.back_emit.specs.declared.ways.FrameWay.{FrameWay}
use Rattle.back_emit.specs.declared.ways.FrameWay.TheVariants.{FromStack}
use Rattle.back_emit.specs.Ways.{way_of}
use Rattle.back_emit.specs.PlacedSizes.{way_in}
use Rattle.back_emit.specs.TreeWays.{code_ways}
use Rattle.back_emit.proofs.WaysOfTrees.{law_of_tree_ways}
use Rattle.back_program_code.specs.Shapes.{body_ways}

-- the way past records
abbrev past : List StaticRecord → places.Way
past records = places.way_of (known_records records)

head_same : (w v : places.Way) (ws vs : List places.Way) → w ∷ ws ≡ v ∷ vs → w ≡ v
head_same w v ws vs e = cc e

tail_same : (w v : places.Way) (ws vs : List places.Way) → w ∷ ws ≡ v ∷ vs → ws ≡ vs
tail_same w v ws vs e = cc e

way_at : (ws : List FrameWay) (rs : List (List StaticRecord)) (i : ℕ) → map way_of ws ≡ map past rs → i ≤ length ws
    → past (records_in (slice_get rs i)) ≡ way_of (way_in (slice_get (ws ++ FromStack 0 ∷ []) i))
way_at [] [] zero e h = refl
way_at [] [] (suc i) e h = absurd (omega (arith, h))
way_at [] (r ∷ rs) i e h = absurd (cc e)
way_at (w ∷ ws) [] i e h = absurd (cc e)
way_at (w ∷ ws) (r ∷ rs) zero e h = sym (head_same (way_of w) (past r) (map way_of ws) (map past rs) e)
way_at (w ∷ ws) (r ∷ rs) (suc i) e h = way_at ws rs i (tail_same (way_of w) (past r) (map way_of ws) (map past rs) e) (omega (arith, h))

ways_long : (c : MidCode) → length (code_ways (FromStack 0) c) ≡ length (code_lines 0 c)
ways_long c =
    sym (length-map (code_ways (FromStack 0) c) way_of) ∙ ap length (law_of_tree_ways c) ∙ length-map (code_records 0 c []) past
    ∙ code_count c 0 [] ∙ sym (code_length c 0)

-- at a line that is there, and at the next one
pub way_same :
    (program : MidProgram) (number line at : ℕ) (p : MidProcedure) (x : Line) → slice_get program.procedures number ≡ Some p
    → slice_get (code_lines 0 (code_of p.body)) line ≡ Some x → at ≤ line + 1
    → places.way_of (tree_records program number at) ≡ way_of (way_in (slice_get (body_ways p) at))
way_same program number line at p x there here near =
    let within = slice_get_within (code_lines 0 (code_of p.body)) line x here in
    let long = ways_long (code_of p.body) in
    ap (λ o. past (records_in (slice_get (procedure_records o) at))) there
    ∙ way_at (code_ways (FromStack 0) (code_of p.body)) (code_records 0 (code_of p.body) []) at (law_of_tree_ways (code_of p.body)) (omega (arith, within, long, near))

-- the way at a line of a procedure
past_there : (ws : List FrameWay) (rs : List (List StaticRecord)) (i : ℕ) (way : FrameWay) → map way_of ws ≡ map past rs → slice_get ws i ≡ Some way
    → past (records_in (slice_get rs i)) ≡ way_of way
past_there [] rs i way e h = absurd (cc h)
past_there (w ∷ ws) [] i way e h = absurd (cc e)
past_there (w ∷ ws) (r ∷ rs) zero way e h =
    let same : w ≡ way = cc h in
    sym (head_same (way_of w) (past r) (map way_of ws) (map past rs) e) ∙ ap way_of same
past_there (w ∷ ws) (r ∷ rs) (suc i) way e h = past_there ws rs i way (tail_same (way_of w) (past r) (map way_of ws) (map past rs) e) h

pub way_past :
    (p : MidProcedure) (i : ℕ) (way : FrameWay) → slice_get (code_ways (FromStack 0) (code_of p.body)) i ≡ Some way
    → places.way_of (known_records (records_in (slice_get (procedure_records (Some p)) i))) ≡ way_of way
way_past p i way h = past_there (code_ways (FromStack 0) (code_of p.body)) (code_records 0 (code_of p.body) []) i way (law_of_tree_ways (code_of p.body)) h
